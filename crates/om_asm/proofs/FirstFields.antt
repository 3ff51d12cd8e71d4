-- A map to which the fields of particles are added, one after the other.
use Rattle.std.proofs.Common.{◌≡◌, ℕ, ◌+◌, ◌*◌, ◌<◌, ◌≤◌, Bool, true, false, cond, List, [], ◌∷◌, length, get_or, drop, Option, Some, None, refl, sym, ap, ap₂, ◌∙◌}
use Rattle.std.proofs.lemmas.List.{drop_more, drop_all}
use Rattle.std.specs.Prelude.{is_some}
use Rattle.std.specs.Str.{bytes_eq}
use Rattle.std.specs.Ordering.{nat_cmp}
use Rattle.std.specs.Cmp.Lexicographic.{slice_cmp}
use Rattle.std.specs.BTreeMap.{BTreeMap, Updates}
use Rattle.std.proofs.lemmas.Map.Text.{btree_map_updates_str}
use denote.Ref.{Bor}
use Rattle.om_model.specs.declared.model.Particle.{Particle}
use Rattle.om_model.specs.FieldNames.{field_from}
use Rattle.om_asm.specs.Fields.{named_in, or_else, where_named}
use Rattle.om_asm.proofs.SpeltLemmas.{same_bytes, bytes_same}

or_nothing : (o : Option ℕ) → o ≡ or_else o None
or_nothing None = refl
or_nothing (Some f) = refl

pub not_there : (o : Option ℕ) (there : Bool) → there ≡ is_some o → there ≡ false → o ≡ None
not_there None there e f = refl
not_there (Some x) there e f = cc

abbrev Names : Type 0
Names = BTreeMap (Bor (List ℕ)) ℕ

apart : (a b : List ℕ) → bytes_eq a b ≡ false → bytes_eq b a ≡ false
apart a b e = by (bytes_eq b a) refl
  where
    by : (t : Bool) → bytes_eq b a ≡ t → t ≡ false
    by true h = absurd (let s = bytes_same a b (sym (same_bytes b a h)) in cc)
    by false h = refl

-- a new name is put in
pub name_put : (m n : Names) (name : Bor (List ℕ)) (q : List ℕ) (field : ℕ) → named_in m name.now ≡ None → Updates (λ x y. slice_cmp nat_cmp x.now y.now) m n name (Some field) → named_in n q ≡ or_else (named_in m q) (where_named q name.now field)
name_put m n name q field none u = btree_map_updates_str name.now m n (Some field) u q ∙ by (bytes_eq name.now q) refl
  where
    by : (b : Bool) → bytes_eq name.now q ≡ b → cond b (Some field) (named_in m q) ≡ or_else (named_in m q) (where_named q name.now field)
    by true e =
        let here : named_in m q ≡ None = ap (named_in m) (sym (same_bytes name.now q e)) ∙ none in
        let same : bytes_eq q name.now ≡ true = bytes_same q name.now (sym (same_bytes name.now q e)) in
        rw (here, same) refl
    by false e = let other = apart name.now q e in rw other (or_nothing (named_in m q))

joined : (m later : Option ℕ) (a b : Bool) (x y : ℕ) → or_else (or_else (or_else m (cond a (Some x) None)) (cond b (Some y) None)) later ≡ or_else m (cond a (Some x) (cond b (Some y) later))
joined (Some f) later a b x y = refl
joined None later true b x y = refl
joined None later false true x y = refl
joined None later false false x y = refl

field_head : (row : ℕ) (p : Particle) (ps : List Particle) (q : List ℕ) → field_from row (p ∷ ps) q ≡ cond (bytes_eq q p.name) (Some (2 * row)) (cond (bytes_eq q p.anti) (Some (2 * row + 1)) (field_from (row + 1) ps q))
unfolding field_from
field_head row p ps q = refl

-- the names of one more particle are in
pub particle_in : (ps : List Particle) (row : ℕ) (d p : Particle) (q : List ℕ) (name anti : List ℕ) (before between after total : Option ℕ) → row < length ps → p ≡ get_or ps row d → name ≡ p.name → anti ≡ p.anti
    → between ≡ or_else before (where_named q name (2 * row)) → after ≡ or_else between (where_named q anti (2 * row + 1))
    → or_else before (field_from row (drop row ps) q) ≡ total → or_else after (field_from (row + 1) (drop (row + 1) ps) q) ≡ total
particle_in ps row d p q name anti before between after total lt at n a e f h =
    let rest = drop (row + 1) ps in
    let split : drop row ps ≡ p ∷ rest = drop_more ps row d lt ∙ ap (λ (x : Particle). x ∷ rest) (sym at) in
    ap (λ o. or_else o (field_from (row + 1) rest q)) (f ∙ ap₂ (λ o (w : List ℕ). or_else o (where_named q w (2 * row + 1))) (e ∙ ap (λ (w : List ℕ). or_else before (where_named q w (2 * row))) n) a)
    ∙ joined before (field_from (row + 1) rest q) (bytes_eq q p.name) (bytes_eq q p.anti) (2 * row) (2 * row + 1)
    ∙ ap (or_else before) (sym (field_head row p rest q))
    ∙ ap (λ (xs : List Particle). or_else before (field_from row xs q)) (sym split) ∙ h

nothing_left : (row : ℕ) (q : List ℕ) → field_from row [] q ≡ None
unfolding field_from
nothing_left row q = refl

-- all particles are in
pub particles_in : (ps : List Particle) (row : ℕ) (q : List ℕ) (o total : Option ℕ) → length ps ≤ row → or_else o (field_from row (drop row ps) q) ≡ total → o ≡ total
particles_in ps row q o total le h = or_nothing o ∙ ap (or_else o) (sym (nothing_left row q)) ∙ ap (λ (xs : List Particle). or_else o (field_from row xs q)) (sym (drop_all row ps le)) ∙ h
