-- The texts of flows and partial flows.
use Rattle.std.specs.Prelude.{ℕ, ◌+◌, List, [], ◌∷◌, ◌++◌, cond, eqb, flat_map, decimal, codes}
use Rattle.om_colour.specs.declared.TheConstants.{UPWARDS}
use Rattle.om_colour.specs.declared.Flow.{Flow}
use Rattle.om_colour.specs.declared.Partial.{Partial}
use Rattle.om_colour.specs.declared.texts.Extent.{Extent}
use Rattle.om_colour.specs.declared.texts.Extent.TheVariants.{Diagram, Side}

-- what stands for the end of a line: the leg, and nothing where it leaves a side upwards
abbrev pub end_text : Extent → ℕ → List ℕ
end_text Diagram e = decimal e
end_text Side e = cond (eqb e UPWARDS) [] (decimal e)

-- the item `s>t` of a line from leg s
abbrev pub line_item : Extent → ℕ → ℕ → List ℕ
line_item x s e = decimal s ++ codes ">" ++ end_text x e

-- the items of all lines by their starts, where the first leg has number s
abbrev pub line_items : Extent → ℕ → List ℕ → List (List ℕ)
line_items x s [] = []
line_items x s (e ∷ es) = cond (eqb e 0) (line_items x (s + 1) es) (line_item x s e ∷ line_items x (s + 1) es)

-- the item `>t` of a line that enters and ends at leg t
abbrev pub into_items : ℕ → List (List ℕ)
into_items e = cond (eqb e 0) [] ((codes ">" ++ decimal e) ∷ [])

-- with commas between
abbrev pub with_commas : List (List ℕ) → List ℕ
with_commas [] = []
with_commas (x ∷ xs) = x ++ flat_map (λ y. codes "," ++ y) xs

-- with commas between, or `-` where there is none
abbrev pub items_text : List (List ℕ) → List ℕ
items_text [] = codes "-"
items_text (x ∷ xs) = with_commas (x ∷ xs)

-- the text of a flow
abbrev pub flow_bytes : Flow → List ℕ
flow_bytes w = items_text (line_items Diagram 1 w.ends)

-- the text of a partial flow
abbrev pub partial_bytes : Partial → List ℕ
partial_bytes p = items_text (line_items Side 1 p.ends ++ into_items p.into)

-- what one more item adds, where `count` stand before it
abbrev pub one_more : ℕ → List ℕ → List ℕ
one_more count item = cond (eqb count 0) item (codes "," ++ item)
