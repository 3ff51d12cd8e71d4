-- What single texts and numbers say.
use Rattle.std.specs.Prelude.{ℕ, ℤ, List, ok_or, Result, Ok, Err}
use Rattle.om_ring.specs.NumeralOf.{numeral_of}
use Rattle.om_ring.specs.declared.numeral.Numeral.{Numeral}
use Rattle.om_ring.specs.declared.numeral.NumeralFault.{NumeralFault}
use Rattle.om_lorentz.specs.declared.structures.Spin.{Spin}
use Rattle.om_lorentz.specs.declared.structures.Structure.{Structure}
use Rattle.om_colour.specs.declared.Colour.{Colour}
use Rattle.om_model.specs.Name.{is_name}
use Rattle.om_model.specs.Words.{colour_of_number, spin_of_word, structure_of_word}
use Rattle.om_modelfile.specs.declared.fault.RowFault.{RowFault}
use Rattle.om_modelfile.specs.declared.fault.RowFault.TheVariants.{WrongKind, BadNumber, BadName, UnknownName}
use Rattle.om_ring.specs.ResultSteps.{◌>>=◌}
use Rattle.om_modelfile.specs.Each.{unless}

-- a text that has to be a name
abbrev pub name_in : List ℕ → Result (List ℕ) RowFault
name_in text = do
  _ ← unless (is_name text) BadName
  Ok text

abbrev numeral_or_fault : Result Numeral NumeralFault → Result Numeral RowFault
numeral_or_fault (Ok x) = Ok x
numeral_or_fault (Err fault) = Err (BadNumber fault)

-- a text that has to be a numeral
abbrev pub number_in : List ℕ → Result Numeral RowFault
number_in text = numeral_or_fault (numeral_of text)

abbrev pub spin_in : List ℕ → Result Spin RowFault
spin_in word = ok_or (spin_of_word word) UnknownName

abbrev pub structure_in : List ℕ → Result Structure RowFault
structure_in word = ok_or (structure_of_word word) UnknownName

-- a number other than 1, 3, -3 and 8 isn't of the kind of a colour
abbrev pub colour_in : ℤ → Result Colour RowFault
colour_in number = ok_or (colour_of_number number) WrongKind
