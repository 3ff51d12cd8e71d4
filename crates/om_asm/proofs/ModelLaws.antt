-- The lines of a model and a process: what is read is what stands there.
use Rattle.std.proofs.Common.{◌≡◌, ℕ, Bool, true, false, cond, List, [], ◌∷◌, codes, Option, Some, None, Result, Ok, Err, refl, sym, ap, ap₂, subst, ◌∙◌, inl, inr}
use Rattle.om_ring.specs.declared.numeral.Numeral.{Numeral}
use Rattle.om_lorentz.specs.declared.structures.Spin.{Spin}
use Rattle.om_colour.specs.declared.Colour.{Colour}
use Rattle.om_model.specs.Name.{is_name}
use Rattle.om_model.specs.Words.{spin_of_word}
use Rattle.om_model.specs.FieldNames.{field_named}
use Rattle.om_model.specs.declared.model.Particle.{Particle}
use Rattle.om_code.specs.declared.code.Den.{Den}
use Rattle.om_code.specs.Plain.{IsNamed, IsPlainDen}
use Rattle.om_model.specs.FieldNames.{field_name}
use Rattle.om_asm.specs.declared.fault.AsmKind.{AsmKind}
use Rattle.om_asm.specs.declared.fault.AsmKind.TheVariants.{Grammar}
use Rattle.om_io.specs.Lines.{Words}
use Rattle.om_program_text.specs.ProgramText.{leg_words, den_words, particle_words}
use Rattle.om_program_text.specs.Words.{product_word}
use Rattle.om_model.specs.LegSetText.{leg_set_word, leg_set_of_word}
use Rattle.om_model.specs.Words.{spin_word, colour_word}
use Rattle.om_asm.specs.Lines.{word_by, no_more, next_word}
use Rattle.om_asm.specs.Rows.{formed}
use Rattle.om_ring.specs.ResultSteps.{◌>>=◌}
use Rattle.om_asm.specs.Reading.{name_of, product_of, known, named, leg_row, den_row, particle_row}
use Rattle.om_model.specs.Words.{colour_of_word}
use Rattle.om_asm.specs.VertexSlots.{slot_of}
use Rattle.om_asm.proofs.WordLaws.{bind_some}
use Rattle.om_asm.proofs.RowLaws.{bind_ok, formed_ok}
use Rattle.std.specs.List.{AllByRecursion}
use Rattle.om_legs.specs.Legs.{IsLegSet}
use Rattle.om_ring.specs.Numerals.{NumeralFits}
use Rattle.om_asm.specs.InRange.{ParticleInRange}
use Rattle.om_asm.specs.FirstBad.{IsName, IsReadableProduct}
use Rattle.om_asm.proofs.ModelWords.{Spells, IsReadableSet, pick, spin_spells, colour_spells, name_spells, product_spells, set_spells, field_spells}
use Rattle.om_model.specs.Rules.{HasLengths}

module _ {B : Type 0} where
  pub some_word : (words : Words) (f : List ℕ × Words → Result B AsmKind) (y : B) → (formed (next_word words) >>= f) ≡ Ok y → (w : List ℕ) × (rest : Words) × (words ≡ w ∷ rest) × (f (w, rest) ≡ Ok y)
  some_word [] f y e = absurd cc
  some_word (w ∷ ws) f y e = (w, ws, refl, e)

  pub none_left : (words : Words) (f : Unit {0} → Result B AsmKind) (y : B) → (formed (no_more words) >>= f) ≡ Ok y → (words ≡ []) × (f tt ≡ Ok y)
  none_left [] f y e = (refl, e)
  none_left (w ∷ ws) f y e = absurd cc

pub by_word : {A : Type 0} (read : List ℕ → Option A) (words : Words) (p : A × Words) → word_by read words ≡ Some p → (w : List ℕ) × (words ≡ w ∷ p.1) × (read w ≡ Some p.0)
by_word read [] p e = absurd cc
by_word {A} read (w ∷ ws) p e =
    let d = bind_some (read w) (λ x. let q : A × Words = (x, ws) in Some q) p e in
    let q : A × Words = (d.0, ws) in
    let same : q ≡ p = let s = d.2 in cc in
    (w, ap (λ (r : A × Words). w ∷ r.1) same, d.1 ∙ ap (λ (r : A × Words). Some r.0) same)

module _ {A B : Type 0} (read : List ℕ → Option A) (text : A → List ℕ) (fits : A → Type 0) (law : Spells read text fits) where
  -- the first word was read
  pub said : (words : Words) (f : A × Words → Result B AsmKind) (y : B) → (formed (word_by read words) >>= f) ≡ Ok y → (x : A) × (rest : Words) × (words ≡ text x ∷ rest) × fits x × (f (x, rest) ≡ Ok y)
  said words f y e =
      let b = bind_ok (formed (word_by read words)) f y e in
      let w = by_word read words b.0 (formed_ok (word_by read words) b.0 b.1) in
      let l = law w.0 b.0.0 w.2 in
      (b.0.0, b.0.1, w.1 ∙ ap (λ (v : List ℕ). v ∷ b.0.1) (sym l.0), l.1, b.2)

abbrev fine : {A : Type 0} → A → Result A AsmKind
fine x = Ok x

pub ok_same : {A : Type 0} (x y : A) → fine x ≡ fine y → x ≡ y
ok_same x y e = cc

-- ---- legs and denominators

known_ok : (o : Option ℕ) (f : ℕ) → known o ≡ Ok f → o ≡ Some f
known_ok (Some g) f e = cc
known_ok None f e = absurd cc

named_ok : (b : Bool) (ps : List Particle) (w : List ℕ) (f : ℕ) → cond b (known (field_named ps w)) (Err Grammar) ≡ Ok f → (field_name ps f ≡ w) × IsNamed ps f
named_ok true ps w f e = field_spells ps w f (known_ok (field_named ps w) f e)
named_ok false ps w f e = absurd cc

pub leg_found : (ps : List Particle) (words : Words) (f : ℕ) → leg_row ps words ≡ Ok f → (codes "leg" ∷ words ≡ leg_words ps f) × IsNamed ps f
unfolding leg_row
leg_found ps words f e =
    let a = some_word words (λ name. formed (no_more name.1) >>= λ _. named ps name.0) f e in
    let n = none_left a.1 (λ _. named ps a.0) f a.3 in
    let l = named_ok (is_name a.0) ps a.0 f n.1 in
    (ap (λ (ws : Words). codes "leg" ∷ ws) (a.2 ∙ ap₂ (λ (v : List ℕ) (vs : Words). v ∷ vs) (sym l.0) n.0), l.1)

abbrev pub a_den : ℕ → ℕ → Den
a_den set field = record { legs = set; field = field }

pub den_found : (ps : List Particle) (words : Words) (d : Den) → den_row ps words ≡ Ok d → (codes "den" ∷ words ≡ den_words ps d) × IsPlainDen ps d × IsLegSet d.legs
unfolding den_row
den_found ps words d e =
    let s = said leg_set_of_word leg_set_word IsReadableSet set_spells words (λ set. formed (next_word set.1) >>= λ name. formed (no_more name.1) >>= λ _. named ps name.0 >>= λ field. Ok (a_den set.0 field)) d e in
    let a = some_word s.1 (λ name. formed (no_more name.1) >>= λ _. named ps name.0 >>= λ field. Ok (a_den s.0 field)) d s.4 in
    let n = none_left a.1 (λ _. named ps a.0 >>= λ field. Ok (a_den s.0 field)) d a.3 in
    let b = bind_ok (named ps a.0) (λ field. Ok (a_den s.0 field)) d n.1 in
    let l = named_ok (is_name a.0) ps a.0 b.0 b.1 in
    let same : a_den s.0 b.0 ≡ d = let h = b.2 in cc in
    let whole = ap (λ (ws : Words). codes "den" ∷ ws) (s.2 ∙ ap (λ (ws : Words). leg_set_word s.0 ∷ ws) (a.2 ∙ ap₂ (λ (v : List ℕ) (vs : Words). v ∷ vs) (sym l.0) n.0)) in
    subst (λ (z : Den). (codes "den" ∷ words ≡ den_words ps z) × IsPlainDen ps z × IsLegSet z.legs) same (whole, record { legs = s.3.0; field = l.1 }, s.3.1)

-- ---- particles

abbrev pub a_particle : List ℕ → List ℕ → Spin → List Numeral → List Numeral → List Numeral → Colour → Particle
a_particle name anti spin mass width norm colour = record { name = name; anti = anti; spin = spin; mass = mass; width = width; norm = norm; colour = colour }

-- the last words of a particle line, behind what was read before
abbrev pub from_colour : List ℕ → List ℕ → Spin → List Numeral → List Numeral → List Numeral → Words → Result Particle AsmKind
from_colour n a s m w r words = formed (word_by colour_of_word words) >>= λ c. formed (no_more c.1) >>= λ _. Ok (a_particle n a s m w r c.0)

abbrev pub from_norm : List ℕ → List ℕ → Spin → List Numeral → List Numeral → Words → Result Particle AsmKind
from_norm n a s m w words = formed (word_by product_of words) >>= λ r. from_colour n a s m w r.0 r.1

abbrev pub from_width : List ℕ → List ℕ → Spin → List Numeral → Words → Result Particle AsmKind
from_width n a s m words = formed (word_by product_of words) >>= λ w. from_norm n a s m w.0 w.1

abbrev pub from_mass : List ℕ → List ℕ → Spin → Words → Result Particle AsmKind
from_mass n a s words = formed (word_by product_of words) >>= λ m. from_width n a s m.0 m.1

abbrev pub from_spin : List ℕ → List ℕ → Words → Result Particle AsmKind
from_spin n a words = formed (word_by spin_of_word words) >>= λ s. from_mass n a s.0 s.1

abbrev pub from_anti : List ℕ → Words → Result Particle AsmKind
from_anti n words = formed (word_by name_of words) >>= λ a. from_spin n a.0 a.1

record ColourRead (n a : List ℕ) (s : Spin) (m w r : List Numeral) (words : Words) (p : Particle) : Type 0 where
  particle : p ≡ a_particle n a s m w r p.colour
  texts : words ≡ colour_word p.colour ∷ []

colour_read : (n a : List ℕ) (s : Spin) (m w r : List Numeral) (words : Words) (p : Particle) → from_colour n a s m w r words ≡ Ok p → ColourRead n a s m w r words p
colour_read n a s m w r words p e =
    let c = said colour_of_word colour_word (λ _. Unit {0}) colour_spells words (λ c. formed (no_more c.1) >>= λ _. Ok (a_particle n a s m w r c.0)) p e in
    let z = none_left c.1 (λ _. Ok (a_particle n a s m w r c.0)) p c.4 in
    subst (λ (q : Particle). ColourRead n a s m w r words q) (ok_same (a_particle n a s m w r c.0) p z.1) (record { particle = refl; texts = c.2 ∙ ap (λ (ws : Words). colour_word c.0 ∷ ws) z.0 })

record ProductsRead (n a : List ℕ) (s : Spin) (words : Words) (p : Particle) : Type 0 where
  particle : p ≡ a_particle n a s p.mass p.width p.norm p.colour
  texts : words ≡ product_word p.mass ∷ product_word p.width ∷ product_word p.norm ∷ colour_word p.colour ∷ []
  plain : HasLengths p
  mass : AllByRecursion NumeralFits p.mass
  width : AllByRecursion NumeralFits p.width
  norm : AllByRecursion NumeralFits p.norm

by_products : (n a : List ℕ) (s : Spin) (m w r : List Numeral) (c : Colour) (p : Particle) (words rest0 rest1 rest2 : Words) → p ≡ a_particle n a s m w r c → IsReadableProduct m → IsReadableProduct w → IsReadableProduct r
    → words ≡ product_word m ∷ rest0 → rest0 ≡ product_word w ∷ rest1 → rest1 ≡ product_word r ∷ rest2 → rest2 ≡ colour_word c ∷ [] → ProductsRead n a s words p
by_products n a s m w r c p words rest0 rest1 rest2 same hm hw hr e f g h =
    subst (λ (q : Particle). ProductsRead n a s words q) (sym same)
    (record {
      particle = refl;
      texts = e ∙ ap (λ (ws : Words). product_word m ∷ ws) (f ∙ ap (λ (ws : Words). product_word w ∷ ws) (g ∙ ap (λ (ws : Words). product_word r ∷ ws) h));
      plain = (hm.0, hw.0, hr.0);
      mass = hm.1;
      width = hw.1;
      norm = hr.1;
    })

products_read : (n a : List ℕ) (s : Spin) (words : Words) (p : Particle) → from_mass n a s words ≡ Ok p → ProductsRead n a s words p
products_read n a s words p e =
    let m = said product_of product_word IsReadableProduct product_spells words (λ m. from_width n a s m.0 m.1) p e in
    let w = said product_of product_word IsReadableProduct product_spells m.1 (λ w. from_norm n a s m.0 w.0 w.1) p m.4 in
    let r = said product_of product_word IsReadableProduct product_spells w.1 (λ r. from_colour n a s m.0 w.0 r.0 r.1) p w.4 in
    let c = colour_read n a s m.0 w.0 r.0 r.1 p r.4 in
    by_products n a s m.0 w.0 r.0 p.colour p words m.1 w.1 r.1 c.particle m.3 w.3 r.3 m.2 w.2 r.2 c.texts

by_names : (n a : List ℕ) (s : Spin) (p : Particle) (words rest0 rest1 rest2 : Words) → IsName n → IsName a → words ≡ n ∷ rest0 → rest0 ≡ a ∷ rest1 → rest1 ≡ spin_word s ∷ rest2 → ProductsRead n a s rest2 p → (codes "particle" ∷ words ≡ particle_words p) × HasLengths p × ParticleInRange p
by_names n a s p words rest0 rest1 rest2 hn ha e f g h =
    let line : words ≡ n ∷ a ∷ spin_word s ∷ product_word p.mass ∷ product_word p.width ∷ product_word p.norm ∷ colour_word p.colour ∷ [] =
    e ∙ ap (λ (ws : Words). n ∷ ws) (f ∙ ap (λ (ws : Words). a ∷ ws) (g ∙ ap (λ (ws : Words). spin_word s ∷ ws) h.texts)) in
    let names : particle_words (a_particle n a s p.mass p.width p.norm p.colour) ≡ particle_words p = ap particle_words (sym h.particle) in
    let name : n ≡ p.name = sym (ap (λ (q : Particle). q.name) h.particle) in
    let anti : a ≡ p.anti = sym (ap (λ (q : Particle). q.anti) h.particle) in
    (ap (λ (ws : Words). codes "particle" ∷ ws) line ∙ names, h.plain, record { name = subst IsName name hn; anti = subst IsName anti ha; mass = h.mass; width = h.width; norm = h.norm })

pub particle_found : (words : Words) (p : Particle) → particle_row words ≡ Ok p → (codes "particle" ∷ words ≡ particle_words p) × HasLengths p × ParticleInRange p
unfolding particle_row
particle_found words p e =
    let n = said name_of (λ n. n) IsName name_spells words (λ n. from_anti n.0 n.1) p e in
    let a = said name_of (λ n. n) IsName name_spells n.1 (λ a. from_spin n.0 a.0 a.1) p n.4 in
    let s = said spin_of_word spin_word (λ _. Unit {0}) spin_spells a.1 (λ s. from_mass n.0 a.0 s.0 s.1) p a.4 in
    by_names n.0 a.0 s.0 p words n.1 a.1 s.1 n.3 a.3 n.2 a.2 s.2 (products_read n.0 a.0 s.0 s.1 p s.4)

-- ---- vertices

-- the word of a slot, and the field that it names
pub record SlotWord (ps : List Particle) (w : List ℕ) (slot : Option ℕ) : Type 0 where
  pub means : slot ≡ field_named ps w
  pub named : is_name w ≡ true

pub slot_found : (ps : List Particle) (w : List ℕ) (slot : Option ℕ) → slot_of ps w ≡ Some slot → SlotWord ps w slot
slot_found ps w slot e = elim (pick (is_name w) (field_named ps w) None slot e) [ inl p ↦ record { means = sym p.1; named = p.0 } | inr p ↦ absurd (let n = p.1 in cc) ]

pub some_slot : {B : Type 0} (ps : List Particle) (words : Words) (f : Option ℕ × Words → Result B AsmKind) (y : B) → (formed (word_by (slot_of ps) words) >>= f) ≡ Ok y → (slot : Option ℕ) × (rest : Words) × (w : List ℕ) × (words ≡ w ∷ rest) × SlotWord ps w slot × (f (slot, rest) ≡ Ok y)
some_slot ps words f y e =
    let b = bind_ok (formed (word_by (slot_of ps) words)) f y e in
    let w = by_word (slot_of ps) words b.0 (formed_ok (word_by (slot_of ps) words) b.0 b.1) in
    (b.0.0, b.0.1, w.0, w.1, slot_found ps w.0 b.0.0 w.2, b.2)

-- a known slot spells its field
pub slot_field : (ps : List Particle) (w : List ℕ) (f : ℕ) → SlotWord ps w (Some f) → (field_name ps f ≡ w) × IsNamed ps f
slot_field ps w f s = field_spells ps w f (sym s.means)
