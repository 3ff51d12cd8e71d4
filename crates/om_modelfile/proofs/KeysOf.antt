-- The keys and the values of a table and of an array.
use Rattle.std.proofs.Common.{◌≡◌, ℕ, Bool, ◌&&◌, ◌||◌, is_some, List, [], ◌∷◌, map, Bor, string_bytes, refl, ap}
use Rattle.std.specs.List.{list_any, list_all}
use Rattle.std.specs.Map.{keys_of}
use Rattle.std.specs.Str.{bytes_eq}
use Rattle.toml.specs.Data.{Data, Members, get_member}
use Rattle.toml.specs.View.{items_of, members_view}
use Rattle.toml.proofs.Views.{Entry}
use Rattle.om_modelfile.specs.Keys.{data_in, has_all, knows_all}

list_any-now : (p : List ℕ → Bool) (keys : List (Bor (List ℕ))) → list_any p (map (λ k. k.now) keys) ≡ list_any (λ k. p k.now) keys
list_any-now p [] = refl
list_any-now p (k ∷ keys) = ap (λ (b : Bool). p k.now || b) (list_any-now p keys)

-- the keys of the members are those of the map
pub knows_keys : (keys : List (Bor (List ℕ))) (es : List Entry) → knows_all (map (λ k. k.now) keys) (members_view es) ≡ list_all (λ k. list_any (λ known. bytes_eq (string_bytes k) known.now) keys) (keys_of es)
knows_keys keys [] = refl
knows_keys keys (e ∷ es) = rw (list_any-now (bytes_eq (string_bytes e.0)) keys, knows_keys keys es) refl

pub has_keys : (keys : List (Bor (List ℕ))) (ms : Members) → has_all (map (λ k. k.now) keys) ms ≡ list_all (λ k. is_some (get_member k.now ms)) keys
has_keys [] ms = refl
has_keys (k ∷ keys) ms = ap (λ (b : Bool). is_some (get_member k.now ms) && b) (has_keys keys ms)

pub data_in-items_of : (ds : List Data) → data_in (items_of ds) ≡ ds
data_in-items_of [] = refl
data_in-items_of (d ∷ ds) = ap (λ (rest : List Data). d ∷ rest) (data_in-items_of ds)

pub ruleset keys_of_tables = (knows_keys, has_keys, data_in-items_of)
