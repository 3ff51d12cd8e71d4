-- The length of the text of the code of a graph.
use Rattle.std.proofs.Common.{◌≡◌, ℕ, zero, suc, ◌+◌, ◌/◌, ◌%◌, ◌<◌, ◌≤◌, ◌^◌, List, [], ◌∷◌, ◌++◌, length, map, take, Bool, true, false, cond, Option, Some, None, refl, subst, arith}
use Rattle.std.specs.Prelude.{decimal, codes, slice_get, ◌==◌}
use Rattle.std.specs.List.{AllByRecursion, filter, range_with_len}
use Rattle.std.proofs.lemmas.Bool.{and_parts, leb-true, ltb-true}
use Rattle.std.proofs.lemmas.Fmt.{length-decimal-le}
use Rattle.std.proofs.lemmas.Option.{none-some, same_Some}
use Rattle.om_ring.specs.declared.numeral.Numeral.{Numeral}
use Rattle.om_ring.specs.Numerals.{NumeralFits}
use Rattle.om_legs.specs.Legs.{every_leg, holds, legs_of}
use Rattle.om_lorentz.specs.declared.structures.Spin.{Spin}
use Rattle.om_lorentz.specs.declared.structures.Spin.TheVariants as spins
use Rattle.om_lorentz.specs.declared.structures.Structure.{Structure}
use Rattle.om_lorentz.specs.declared.structures.Structure.TheVariants as structures
use Rattle.om_colour.specs.declared.Colour.{Colour}
use Rattle.om_colour.specs.declared.Colour.TheVariants as colours
use Rattle.om_colour.specs.declared.Flow.{Flow}
use Rattle.om_colour.specs.Texts.{flow_bytes}
use Rattle.om_model.specs.FieldNames.{field_name, name_in}
use Rattle.om_model.specs.LegSetText.{leg_set_word}
use Rattle.om_model.specs.Model.{particle_of}
use Rattle.om_model.specs.Name.{is_name}
use Rattle.om_model.specs.Rules.{HasLength, HasLengths}
use Rattle.om_model.specs.Words.{colour_word, spin_word, structure_word}
use Rattle.om_model.specs.declared.model.Particle.{Particle}
use Rattle.om_model.specs.declared.model.Vertex.{Vertex}
use Rattle.om_code.specs.declared.code.Code.{Code}
use Rattle.om_code.specs.declared.code.Den.{Den}
use Rattle.om_code.specs.declared.code.Instr.{Instr}
use Rattle.om_code.specs.declared.code.Instr.TheVariants.{Load, Fuse, Prop, Key}
use Rattle.om_code.specs.Contents.{NamesSlots}
use Rattle.om_code.specs.Plain.{IsPlainInstr, IsPlainVertex}
use Rattle.om_code.specs.Rules.{names_all, size_of}
use Rattle.om_legs.specs.BranchNodes.{nodes_of}
use Rattle.om_asm.specs.InRange.{InstrInRange, ParticleInRange, VertexInRange}
use Rattle.om_io.specs.Lines.{line_text}
use Rattle.om_program_text.specs.ProgramText.{den_words, flow_words, leg_words, particle_words, vertex_words}
use Rattle.om_program_text.specs.Words.{product_word}
use Rattle.om_top.proofs.InstrLengths.{HasSmallNumbers}
use Rattle.om_top.proofs.TextLengths.{flow_short, join_short, line_len, product_short, words_append, words_within}

pub name_short : (bs : List ℕ) → is_name bs ≡ true → length bs ≤ 15
name_short bs e = leb-true (length bs) 15 (and_parts _ _ (and_parts _ _ (and_parts _ _ e).0).0).1

spin_short : (s : Spin) → length (spin_word s) ≤ 6
spin_short spins.Scalar = omega arith
spin_short spins.Dirac = omega arith
spin_short spins.Vector = omega arith

colour_short : (c : Colour) → length (colour_word c) ≤ 2
colour_short colours.One = omega arith
colour_short colours.Three = omega arith
colour_short colours.AntiThree = omega arith
colour_short colours.Eight = omega arith

structure_short : (s : Structure) → length (structure_word s) ≤ 6
structure_short structures.Sss = omega arith
structure_short structures.Ssss = omega arith
structure_short structures.Vss = omega arith
structure_short structures.Vvs = omega arith
structure_short structures.Vvss = omega arith
structure_short structures.Ffs = omega arith
structure_short structures.Ffv = omega arith
structure_short structures.Vvv = omega arith
structure_short structures.Vvvv = omega arith
structure_short structures.Gluon4 = omega arith

-- two facts on each member
abbrev pub Both : {A : Type 0} → (A → Type 0) → (A → Type 0) → A → Type 0
Both P Q x = P x × Q x

pub all_both : {A : Type 0} (P Q : A → Type 0) (xs : List A) → AllByRecursion P xs → AllByRecursion Q xs → AllByRecursion (Both P Q) xs
all_both P Q [] h g = tt
all_both P Q (x ∷ xs) h g = ((h.0, g.0), all_both P Q xs h.1 g.1)

pub all_at : {A : Type 0} (P : A → Type 0) (xs : List A) → AllByRecursion P xs → (k : ℕ) (x : A) → slice_get xs k ≡ Some x → P x
all_at P [] h k x e = absurd (none-some x e)
all_at P (y ∷ ys) h zero x e = subst P (same_Some y x e) h.0
all_at P (y ∷ ys) h (suc k) x e = all_at P ys h.1 k x e

all_filter : {A : Type 0} (P : A → Type 0) (p : A → Bool) (xs : List A) → AllByRecursion P xs → AllByRecursion P (filter p xs) × (length (filter p xs) ≤ length xs)
all_filter P p [] h = (tt, omega arith)
all_filter {A} P p (x ∷ xs) h = by (p x) (all_filter P p xs h.1)
  where
    by : (b : Bool) → AllByRecursion P (filter p xs) × (length (filter p xs) ≤ length xs) → AllByRecursion P (cond {A = List A} b (x ∷ filter p xs) (filter p xs)) × (length (cond {A = List A} b (x ∷ filter p xs) (filter p xs)) ≤ suc (length xs))
    by true r = ((h.0, r.0), omega (arith, r.1))
    by false r = (r.0, omega (arith, r.1))

small_range : (a n : ℕ) → a + n ≤ 100 → AllByRecursion (λ k. k < 100) (range_with_len a n)
small_range a zero l = tt
small_range a (suc n) l = (omega (arith, l), small_range (a + 1) n (omega (arith, l)))

-- the lines of the model
abbrev pub IsShortParticle : Particle → Type 0
IsShortParticle = Both HasLengths ParticleInRange

pub particle_line : (p : Particle) → IsShortParticle p → length (line_text (particle_words p)) ≤ 1110
particle_line p h =
    let e = line_len (codes "particle") (p.name ∷ p.anti ∷ spin_word p.spin ∷ product_word p.mass ∷ product_word p.width ∷ product_word p.norm ∷ colour_word p.colour ∷ []) in
    omega (
      arith,
      e,
      name_short p.name h.1.name,
      name_short p.anti h.1.anti,
      spin_short p.spin,
      product_short p.mass h.0.0.1 h.1.mass,
      product_short p.width h.0.1.1 h.1.width,
      product_short p.norm h.0.2.1 h.1.norm,
      colour_short p.colour,
    )

field_short : (particles : List Particle) → AllByRecursion ParticleInRange particles → (f : ℕ) → length (field_name particles f) ≤ 15
field_short particles h f = by (particle_of particles f) (λ p e. all_at ParticleInRange particles h (f / 2) p e) (f % 2 == 0)
  where
    by : (found : Option Particle) → ((p : Particle) → found ≡ Some p → ParticleInRange p) → (b : Bool) → length (name_in found b) ≤ 15
    by None h b = omega arith
    by (Some p) h true = name_short p.name (h p refl).name
    by (Some p) h false = name_short p.anti (h p refl).anti

module _ (particles : List Particle) (named : AllByRecursion ParticleInRange particles) where
  pub any : {A : Type 0} (xs : List A) → AllByRecursion (λ x. Unit {0}) xs
  any [] = tt
  any (x ∷ xs) = (tt, any xs)

  pub vertex_line : (v : Vertex) → Both (IsPlainVertex particles) VertexInRange v → length (line_text (vertex_words particles v)) ≤ 1150
  vertex_line v h =
      let e = line_len (codes "vertex") (structure_word v.structure ∷ decimal v.order ∷ map (field_name particles) v.fields ++ codes ":" ∷ map product_word v.factors) in
      let a = words_append (map (field_name particles) v.fields) (codes ":" ∷ map product_word v.factors) in
      let b = words_within 15 (field_name particles) (λ f. Unit {0}) (λ f t. field_short particles named f) v.fields (any v.fields) in
      let Q : List Numeral → Type 0 = Both HasLength (λ p. AllByRecursion NumeralFits p) in
      let d = words_within 352 product_word Q (λ p q. product_short p q.0.1 q.1) v.factors (all_both HasLength (λ p. AllByRecursion NumeralFits p) v.factors h.0.products h.1.factors) in
      let order = h.1.order in
      let n = length-decimal-le 3 v.order (omega arith) (omega (arith, order)) (omega (arith, order)) in
      omega (arith, e, a, b, d, n, structure_short v.structure, h.0.four, h.0.factors)

  pub leg_line : (f : ℕ) → length (line_text (leg_words particles f)) ≤ 20
  leg_line f = let e = line_len (codes "leg") (field_name particles f ∷ []) in omega (arith, e, field_short particles named f)

  set_short : (set : ℕ) → length (leg_set_word set) ≤ 36
  unfolding legs_of
  set_short set =
      let every : AllByRecursion (λ k. k < 100) every_leg = small_range 1 12 (omega arith) in
      let f = all_filter (λ k. k < 100) (holds set) every_leg every in
      let a = join_short 43 (map decimal (legs_of set)) in
      let b = words_within 2 decimal (λ k. k < 100) (λ k l. length-decimal-le 2 k (omega arith) (omega (arith, l)) (omega (arith, l))) (legs_of set) f.0 in
      let twelve : length every_leg ≡ 12 = refl in
      omega (arith, a, b, f.1, twelve)

  pub den_line : (d : Den) → length (line_text (den_words particles d)) ≤ 57
  den_line d = let e = line_len (codes "den") (leg_set_word d.legs ∷ field_name particles d.field ∷ []) in omega (arith, e, set_short d.legs, field_short particles named d.field)

pub flow_line : (w : Flow) → Both (λ (w : Flow). length w.ends ≡ 12) (λ (w : Flow). AllByRecursion (λ e. e ≤ 12) w.ends) w → length (line_text (flow_words w)) ≤ 70
flow_line w h = let e = line_len (codes "flow") (flow_bytes w ∷ []) in omega (arith, e, flow_short w h.0 h.1)

-- the numbers of an instruction of a code with few slots, flows and denominators
module _ (c : Code) (few_slots : c.slots + 1 < 10 ^ 7) (few_flows : length c.flows + 1 < 10 ^ 7) (few_dens : length c.dens + 1 < 10 ^ 7)
    (few_vertices : length c.model.vertices ≤ 512) (few_legs : size_of c ≤ 12) where
  small_slots : (ks : List ℕ) → AllByRecursion (λ k. k < c.slots) ks → AllByRecursion (λ k. k + 1 < 10 ^ 7) ks
  small_slots [] h = tt
  small_slots (k ∷ ks) h = (let l = h.0 in omega (arith, l, few_slots), small_slots ks h.1)

  few_nodes : (n : ℕ) (ks : List ℕ) → length (take n ks) ≤ n
  few_nodes zero ks = omega arith
  few_nodes (suc n) [] = omega arith
  few_nodes (suc n) (k ∷ ks) = let r = few_nodes n ks in omega (arith, r)

  pub small_numbers : (i : Instr) → names_all c i ≡ true → NamesSlots c.slots i → InstrInRange i → IsPlainInstr 2 i → HasSmallNumbers i
  small_numbers (Load to leg) e h r p =
      let l : leg ≤ size_of c = leb-true leg (size_of c) (and_parts _ _ e).0 in
      (omega (arith, h, few_slots), omega (arith, l, few_legs))
  small_numbers (Fuse to minus vertex choice b) e h r p =
      let v : vertex < length c.model.vertices = ltb-true vertex (length c.model.vertices) (and_parts _ _ (and_parts _ _ (and_parts _ _ e).0).0).0 in
      let t = h.0 in let s = r.0 in let n = few_nodes b.count b.nodes in let k = p.most in
      (omega (arith, t, few_slots), omega (arith, v, few_vertices), omega (arith, s), omega (arith, n, k), small_slots (nodes_of b) h.1)
  small_numbers (Prop of den) e h r p =
      let d : den < length c.dens = ltb-true den (length c.dens) (and_parts _ _ e).1 in
      (omega (arith, h, few_slots), omega (arith, d, few_dens))
  small_numbers (Key flow minus vertex choice b) e h r p =
      let f : flow < length c.flows = ltb-true flow (length c.flows) (and_parts _ _ (and_parts _ _ e).0).0 in
      let v : vertex < length c.model.vertices = ltb-true vertex (length c.model.vertices) (and_parts _ _ (and_parts _ _ (and_parts _ _ e).0).1).0 in
      let s = r.0 in let n = few_nodes b.count b.nodes in let k = b.valid.within in
      (omega (arith, f, few_flows), omega (arith, v, few_vertices), omega (arith, s), omega (arith, n, k), small_slots (nodes_of b) h)
