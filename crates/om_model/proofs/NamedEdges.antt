-- The edges of the first tokens, and of one token more.
use Rattle.std.proofs.Common.{◌≡◌, ℕ, refl, List, [], ◌∷◌, ◌++◌, ◌∙◌, ap, sym, Ok, Err, Some, None}
use Rattle.std.specs.Prelude.{Option, option_map}
use Rattle.om_model.specs.Tokens.{Token}
use Rattle.om_model.specs.LegSetText.{set_numbers, legs_read}
use Rattle.om_model.specs.declared.leg_set_text.LegsRead.{LegsRead}
use Rattle.om_model.specs.ProcessText.{edge_read, edges_from, with_first}
use Rattle.om_model.proofs.FirstFault.{behind, behind-push, behind-all}

pub from-other : (n : ℕ) (t : Token) (us : List Token) → set_numbers t.bytes ≡ None → edges_from n (t ∷ us) ≡ edges_from n us
unfolding edges_from
from-other n t us f = rw (f, edges_from) refl

pub from-refused : (n : ℕ) (t : Token) (us : List Token) (ks : List ℕ) → set_numbers t.bytes ≡ Some ks → edge_read n (legs_read ks) ≡ None → edges_from n (t ∷ us) ≡ Err t.place
unfolding edges_from
from-refused n t us ks f g = rw (f, edges_from) (rw g refl)

pub from-named : (n : ℕ) (t : Token) (us : List Token) (ks : List ℕ) (edge : ℕ) → set_numbers t.bytes ≡ Some ks → edge_read n (legs_read ks) ≡ Some edge → edges_from n (t ∷ us) ≡ with_first edge (edges_from n us)
unfolding edges_from
from-named n t us ks edge f g = rw (f, edges_from) (rw g refl)

numbers_kept : (bytes : List ℕ) (read : LegsRead) → Some read ≡ option_map legs_read (set_numbers bytes) → (ks : List ℕ) × (set_numbers bytes ≡ Some ks) × (legs_read ks ≡ read)
numbers_kept bytes read e = by (set_numbers bytes) refl e
  where
    by : (found : Option (List ℕ)) → set_numbers bytes ≡ found → Some read ≡ option_map legs_read found → (ks : List ℕ) × (set_numbers bytes ≡ Some ks) × (legs_read ks ≡ read)
    by None q h = absurd (let never : ⊥ = cc in never)
    by (Some ks) q h = (ks, q, cc)

none_kept : (bytes : List ℕ) → None ≡ option_map legs_read (set_numbers bytes) → set_numbers bytes ≡ None
none_kept bytes e = by (set_numbers bytes) refl e
  where
    by : (found : Option (List ℕ)) → set_numbers bytes ≡ found → None ≡ option_map legs_read found → set_numbers bytes ≡ None
    by None q h = q
    by (Some ks) q h = absurd (let never : ⊥ = cc in never)

module _ (n : ℕ) (edges : List ℕ) (ts : List Token) (t : Token) (us : List Token) (e : ts ≡ t ∷ us) where
  -- a token that is no set
  pub edges-other : None ≡ option_map legs_read (set_numbers t.bytes) → behind edges (edges_from n ts) ≡ behind edges (edges_from n us)
  edges-other f = ap (λ xs. behind edges (edges_from n xs)) e ∙ ap (behind edges) (from-other n t us (none_kept t.bytes f))

  -- a set that names no edge
  pub edges-refused : (read : LegsRead) → Some read ≡ option_map legs_read (set_numbers t.bytes) → None ≡ edge_read n read → behind edges (edges_from n ts) ≡ Err t.place
  edges-refused read f g =
      let k = numbers_kept t.bytes read f in
      ap (λ xs. behind edges (edges_from n xs)) e ∙ ap (behind edges) (from-refused n t us k.0 k.1 (ap (edge_read n) k.2 ∙ sym g))

  -- a set that names one
  pub edges-named : (read : LegsRead) (edge : ℕ) → Some read ≡ option_map legs_read (set_numbers t.bytes) → Some edge ≡ edge_read n read
      → behind edges (edges_from n ts) ≡ behind (edges ++ edge ∷ []) (edges_from n us)
  edges-named read edge f g =
      let k = numbers_kept t.bytes read f in
      ap (λ xs. behind edges (edges_from n xs)) e
      ∙ ap (behind edges) (from-named n t us k.0 edge k.1 (ap (edge_read n) k.2 ∙ sym g))
      ∙ behind-push edges edge (edges_from n us)

-- no token is left
pub edges-end : (n : ℕ) (edges : List ℕ) (ts : List Token) → ts ≡ [] → behind edges (edges_from n ts) ≡ Ok edges
unfolding edges_from
edges-end n edges ts e = rw e (behind-all edges)
