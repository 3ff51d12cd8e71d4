-- The order in which the iterators walk over the splits of a set.
use Rattle.std.specs.Prelude.{ℕ, zero, suc, List, [], ◌∷◌, ◌++◌, map, ◌==◌, if◌then◌else◌}
use Rattle.std.specs.List.{flat_map}
use Rattle.om_legs.specs.Legs.{least, set_of_one, minus, meeting}

-- the legs of a set but its least
abbrev pub without_least : ℕ → ℕ
without_least set = minus set (set_of_one (least set))

-- the subsets of a set with numbers from m down, but the empty one
unfoldable pub subsets_down : ℕ → ℕ → List ℕ
subsets_down set zero = []
subsets_down set (suc m) = if meeting (suc m) set == suc m then suc m ∷ subsets_down set m else subsets_down set m

-- the splits into two parts that are left where the second part is at most `second`
unfoldable pub pairs_left : (set rest second : ℕ) → List (List ℕ)
pairs_left set rest second = map (λ part. minus set part ∷ part ∷ []) (subsets_down rest second)

-- the splits of a set into two parts
abbrev pub pairs : ℕ → List (List ℕ)
pairs set = pairs_left set (without_least set) (without_least set)

-- a first part, followed by each split of the other legs
abbrev pub refined : (ℕ → List (List ℕ)) → List ℕ → List (List ℕ)
refined splits (first ∷ others ∷ []) = map (λ parts. first ∷ parts) (splits others)
refined splits _ = []

-- the splits that are left of those of one first part, and then those of the firsts to come
abbrev pub refined_left : (ℕ → List (List ℕ)) → ℕ → List (List ℕ) → List (List ℕ) → List (List ℕ)
refined_left splits first others firsts = map (λ parts. first ∷ parts) others ++ flat_map (refined splits) firsts

-- the splits of a set into three parts
unfoldable pub triples : ℕ → List (List ℕ)
triples set = flat_map (refined pairs) (pairs set)

-- the splits of a set into four parts
unfoldable pub quadruples : ℕ → List (List ℕ)
quadruples set = flat_map (refined triples) (pairs set)
