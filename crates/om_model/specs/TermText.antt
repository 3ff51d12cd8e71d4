-- The words of a term: what it makes, its sign, vertex and choice, and the nodes that meet there.
use Rattle.std.specs.Prelude.{ℕ, ◌+◌, Bool, true, false, List, ◌∷◌, map, flat_map, decimal, codes}
use Rattle.om_legs.specs.BranchNodes.{nodes_of}
use Rattle.om_legs.specs.declared.branches.Branches.{Branches}

-- a number that counts from 0 in a graph or a code and from 1 in a text
abbrev pub place_word : ℕ → List ℕ
place_word k = decimal (k + 1)

abbrev pub sign_word : Bool → List ℕ
sign_word true = codes "-"
sign_word false = codes "+"

-- the nodes that meet
abbrev pub branch_words : Branches → List (List ℕ)
branch_words b = map place_word (nodes_of b)

-- the choice counts from 0 in a text too
abbrev pub term_words : ℕ → Bool → ℕ → ℕ → Branches → List (List ℕ)
term_words made minus vertex choice branches =
    place_word made ∷ sign_word minus ∷ place_word vertex ∷ decimal choice ∷ branch_words branches

-- each word behind a space
abbrev pub spaced : List (List ℕ) → List ℕ
spaced words = flat_map (λ w. 32 ∷ w) words
