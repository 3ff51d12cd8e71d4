-- Products of numerals and parameters.
use Rattle.std.specs.Prelude.{ℕ, ◌==◌, nat_le, List, length, if◌then◌else◌, ok_or, option_map, slice_index, Option, Result}
use Rattle.std.specs.List.{find, slice_split}
use Rattle.std.specs.Str.{bytes_eq}
use Rattle.om_ring.specs.declared.numeral.Numeral.{Numeral}
use Rattle.om_model.specs.Name.{is_letter}
use Rattle.om_model.specs.declared.limits.TheConstants.{MOST_NUMERALS}
use Rattle.om_modelfile.specs.declared.fault.RowFault.{RowFault}
use Rattle.om_modelfile.specs.declared.fault.RowFault.TheVariants.{UnknownName, TooMuch}
use Rattle.om_modelfile.specs.declared.parameter.Parameter.{Parameter}
use Rattle.om_ring.specs.ResultSteps.{◌>>=◌}
use Rattle.om_modelfile.specs.Each.{each_from, unless}
use Rattle.om_modelfile.specs.Texts.{number_in}

-- the numeral of the first parameter with this name
abbrev pub value_in : List Parameter → List ℕ → Option Numeral
value_in parameters name = option_map (λ p. p.value) (find (λ p. bytes_eq p.name name) parameters)

-- a term that begins with a letter is the name of a parameter, any other a numeral
abbrev pub term_of : List Parameter → List ℕ → Result Numeral RowFault
term_of parameters text = if is_letter (slice_index text 0) then ok_or (value_in parameters text) UnknownName else number_in text

-- the pieces between stars
abbrev pub terms_in : List ℕ → List (List ℕ)
terms_in text = slice_split (λ b. b == 42) text

-- a product of at most 8 terms
unfoldable pub product_of : List Parameter → List ℕ → Result (List Numeral) RowFault
product_of parameters text = do
  _ ← unless (nat_le (length (terms_in text)) MOST_NUMERALS) TooMuch
  each_from (λ _ term. term_of parameters term) 0 (terms_in text)
