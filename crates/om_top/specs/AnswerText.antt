-- The text of the answer to an event.
use Rattle.std.specs.Prelude.{ℕ, map, codes, decimal, List, [], ◌∷◌, ◌++◌}
use Rattle.std.specs.List.{flat_map, join_with_byte}
use Rattle.om_colour.specs.Texts.{flow_bytes}
use Rattle.om_model.specs.Answer.{Answer}
use Rattle.om_model.specs.Answer.Answer.{unbalanced, pole, values}
use Rattle.om_model.specs.FieldNames.{field_name}
use Rattle.om_model.specs.Propagator.{EdgeName}
use Rattle.om_model.specs.declared.model.Model.{Model}

-- legs, joined by plus signs
abbrev pub set_text : List ℕ → List ℕ
set_text ks = join_with_byte 43 (map decimal ks)

-- the flow with these ends, and its value, which is written by `show`
abbrev pub value_text : {E : Type 0} → (E → List ℕ) → List ℕ × E → List ℕ
value_text show v = flow_bytes (record { ends = v.0 }) ++ codes " " ++ show v.1

-- an inner edge whose denominator has no inverse
abbrev pub pole_line : Model → EdgeName → List ℕ
pole_line m name = codes "pole " ++ set_text name.legs ++ codes " " ++ field_name m.particles name.field

-- the lines of an answer without the number of the event
abbrev pub outcome_lines : {E : Type 0} → (E → List ℕ) → Model → Answer E → List (List ℕ)
outcome_lines show m unbalanced = codes "unbalanced" ∷ []
outcome_lines show m (pole name) = pole_line m name ∷ []
outcome_lines show m (values vs) = map (value_text show) vs

-- a line of the answer to event number e
abbrev pub answer_line : ℕ → List ℕ → List ℕ
answer_line e text = decimal e ++ codes " " ++ text ++ codes "\n"

-- the line of a flow and its value
abbrev pub pair_line : {E : Type 0} → (E → List ℕ) → ℕ → List ℕ × E → List ℕ
pair_line show e v = answer_line e (value_text show v)

-- the text of the answer to event number e
abbrev pub answer_text : {E : Type 0} → (E → List ℕ) → Model → ℕ → Answer E → List ℕ
answer_text show m e a = flat_map (answer_line e) (outcome_lines show m a)

-- what is written where no diagram exists
abbrev pub no_amplitude : List ℕ
no_amplitude = codes "no amplitude\n"
