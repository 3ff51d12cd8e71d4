-- The keys of a table, and the values that stand at them.
use Rattle.std.specs.Prelude.{ℕ, ℤ, Bool, true, ◌&&◌, is_some, List, [], ◌∷◌, ok_or, Option, Some, None, Result, Ok}
use Rattle.std.specs.List.{list_any}
use Rattle.std.specs.Str.{bytes_eq}
use Rattle.toml.specs.Data.{Data, as_str, as_integer, as_array, Items, no_items, item, Members, no_members, member, get_member}
use Rattle.om_modelfile.specs.declared.fault.RowFault.{RowFault}
use Rattle.om_modelfile.specs.declared.fault.RowFault.TheVariants.{MissingKey, WrongKind}
use Rattle.om_ring.specs.ResultSteps.{◌>>=◌}
use Rattle.om_modelfile.specs.Each.{each_from}

-- each key of the table is one of these
abbrev pub knows_all : List (List ℕ) → Members → Bool
knows_all keys no_members = true
knows_all keys (member key d ms) = list_any (bytes_eq key) keys && knows_all keys ms

-- each of these keys is in the table
abbrev pub has_all : List (List ℕ) → Members → Bool
has_all [] ms = true
has_all (key ∷ keys) ms = is_some (get_member key ms) && has_all keys ms

-- the values of an array, in order
abbrev pub data_in : Items → List Data
data_in no_items = []
data_in (item d ds) = d ∷ data_in ds

-- a value as a text, a whole number or the values of an array
abbrev pub text_of : Data → Result (List ℕ) RowFault
text_of d = ok_or (as_str d) WrongKind

abbrev pub number_of : Data → Result ℤ RowFault
number_of d = ok_or (as_integer d) WrongKind

abbrev pub values_of : Data → Result (List Data) RowFault
values_of d = do
  ds ← ok_or (as_array d) WrongKind
  Ok (data_in ds)

-- an array of texts
abbrev pub texts_of : List Data → Result (List (List ℕ)) RowFault
texts_of ds = each_from (λ _ d. text_of d) 0 ds

-- what a value is read as, or this where the key is absent
abbrev pub or_absent : {A : Type 0} → (Data → Result A RowFault) → A → Option Data → Result A RowFault
or_absent read absent None = Ok absent
or_absent read absent (Some d) = read d

-- the value at a key, which is a text, an array, or an array of texts
abbrev pub value_at : List ℕ → Members → Result Data RowFault
value_at key ms = ok_or (get_member key ms) MissingKey

abbrev pub text_at : List ℕ → Members → Result (List ℕ) RowFault
text_at key ms = value_at key ms >>= text_of

abbrev pub values_at : List ℕ → Members → Result (List Data) RowFault
values_at key ms = value_at key ms >>= values_of

abbrev pub texts_at : List ℕ → Members → Result (List (List ℕ)) RowFault
texts_at key ms = values_at key ms >>= texts_of

-- the same with a value for an absent key
abbrev pub text_or : List ℕ → List ℕ → Members → Result (List ℕ) RowFault
text_or absent key ms = or_absent text_of absent (get_member key ms)

abbrev pub number_or : ℤ → List ℕ → Members → Result ℤ RowFault
number_or absent key ms = or_absent number_of absent (get_member key ms)

abbrev pub values_or : List Data → List ℕ → Members → Result (List Data) RowFault
values_or absent key ms = or_absent values_of absent (get_member key ms)
