-- An accepted model is well-formed: what its rows keep is decided, and isn't refuted.
use Rattle.std.proofs.Common.{◌≡◌, ℕ, zero, suc, ◌+◌, ◌%◌, ◌<◌, ◌≤◌, List, [], ◌∷◌, map, take, length, Bool, true, false, ◌&&◌, ◌||◌, eqb, ltb, ◌⊎◌, inl, inr, refl, ap, ap₂, sym, ◌∙◌, arith, true≢false}
use Rattle.std.specs.Prelude.{Option, Some, None, slice_get}
use Rattle.std.specs.Bool.{Decides}
use Rattle.std.specs.Str.{bytes_eq}
use Rattle.std.proofs.lemmas.Bool.Decides.{Decides-and, Decides-eqb, Decides-like, Decides-ltb, Decides-or}
use Rattle.std.proofs.lemmas.Slice.Eq.{bytes_eq-Decides}
use Rattle.om_ring.specs.Ops.{Ops}
use Rattle.om_ring.specs.declared.numeral.Numeral.{Numeral}
use Rattle.om_lorentz.specs.declared.structures.Spin.{Spin}
use Rattle.om_lorentz.specs.declared.structures.Spin.TheVariants.{Scalar, Dirac, Vector}
use Rattle.om_lorentz.specs.declared.structures.Structure.{Structure}
use Rattle.om_lorentz.specs.declared.structures.Structure.TheVariants.{Sss, Ssss, Vss, Vvs, Vvss, Ffs, Ffv, Vvv, Vvvv, Gluon4}
use Rattle.om_lorentz.specs.Structures.{spins, factor_count}
use Rattle.om_colour.specs.Table.{Row, row_number}
use Rattle.om_model.specs.declared.limits.TheConstants.{MOST_PARTICLES, MOST_VERTICES, MOST_NUMERALS, HIGHEST_ORDER}
use Rattle.om_model.specs.declared.model.Particle.{Particle}
use Rattle.om_model.specs.declared.model.Vertex.{Vertex}
use Rattle.om_model.specs.declared.model.Model.{Model}
use Rattle.om_model.specs.declared.rules.Table.TheVariants as table
use Rattle.om_model.specs.declared.rules.ModelRule.{ModelRule}
use Rattle.om_model.specs.declared.rules.ModelRule.TheVariants.{RepeatedName, BadPattern, Limit}
use Rattle.om_model.specs.Model.{spin_of_field, colour_row}
use Rattle.om_model.specs.Rules.{HasColours, HasFermionSlots, HasLength, HasLengths, HasPattern, HasStructure, IsAccepted, IsFormedParticle, IsFormedVertex, IsWithinLimits, ParticleBreaks, VertexBreaks, is_name_of}
use Rattle.om_model.specs.WellFormed.{AcceptedAreWellFormed}
use Rattle.std.specs.List.{AllByRecursion}

-- what can be decided and isn't refuted holds
pub decided : {P : Type 0} (b : Bool) → Decides b P → ((P → ⊥) → ⊥) → P
decided true d h = d.0 refl
decided false d h = absurd (h (λ p. true≢false (sym (d.1 p))))

abbrev Decision : Type 0 → Type 0
Decision P = (b : Bool) × Decides b P

stable : {P : Type 0} → Decision P → ((P → ⊥) → ⊥) → P
stable d h = decided d.0 d.1 h

kept : {P : Type 0} → P → Decision P
kept p = (true, (λ e. p, λ h. refl))

broken : {P : Type 0} → (P → ⊥) → Decision P
broken n = (false, (λ e. absurd (true≢false (sym e)), λ p. absurd (n p)))

all_of : {P Q : Type 0} → Decision P → Decision Q → Decision (P × Q)
all_of d e = (d.0 && e.0, Decides-and d.0 e.0 d.1 e.1)

all_three : {P Q R : Type 0} → Decision P → Decision Q → Decision R → Decision (P × Q × R)
all_three d e f = let g = all_of d (all_of e f) in (g.0, Decides-like g.0 (λ h. (h.0, h.1.0, h.1.1)) (λ h. (h.0, (h.1, h.2))) g.1)

any_of : {P Q : Type 0} → Decision P → Decision Q → Decision (P ⊎ Q)
any_of d e = (d.0 || e.0, Decides-or d.0 e.0 d.1 e.1)

equal : (a b : ℕ) → Decision (a ≡ b)
equal a b = (eqb a b, Decides-eqb a b)

at_most : (a b : ℕ) → Decision (a ≤ b)
at_most a b = (ltb a (b + 1), Decides-like (ltb a (b + 1)) (λ h. omega (arith, h)) (λ h. omega (arith, h)) (Decides-ltb a (b + 1)))

is_true : (b : Bool) → Decision (b ≡ true)
is_true b = (b, (λ e. e, λ e. e))

-- spins are told apart by numbers
spin_number : Spin → ℕ
spin_number Scalar = 0
spin_number Dirac = 1
spin_number Vector = 2

spin_at : ℕ → Spin
spin_at zero = Scalar
spin_at (suc zero) = Dirac
spin_at (suc (suc n)) = Vector

spin_back : (s : Spin) → spin_at (spin_number s) ≡ s
unfolding spin_number spin_at
spin_back Scalar = refl
spin_back Dirac = refl
spin_back Vector = refl

spins_back : (xs : List Spin) → map spin_at (map spin_number xs) ≡ xs
spins_back [] = refl
spins_back (s ∷ xs) = ap₂ ◌∷◌ (spin_back s) (spins_back xs)

same_spins : (xs ys : List Spin) → Decision (xs ≡ ys)
same_spins xs ys = (
  bytes_eq (map spin_number xs) (map spin_number ys),
  Decides-like (bytes_eq (map spin_number xs) (map spin_number ys)) (λ e. sym (spins_back xs) ∙ ap (map spin_at) e ∙ spins_back ys) (λ e. ap (map spin_number) e)
      (bytes_eq-Decides (map spin_number xs) (map spin_number ys)),
)

has_length : (product : List Numeral) → Decision (HasLength product)
has_length product = all_of (at_most 1 (length product)) (at_most (length product) MOST_NUMERALS)

all_have_length : (products : List (List Numeral)) → Decision (AllByRecursion HasLength products)
all_have_length [] = kept tt
all_have_length (product ∷ rest) = all_of (has_length product) (all_have_length rest)

has_lengths : (p : Particle) → Decision (HasLengths p)
has_lengths p = all_three (has_length p.mass) (has_length p.width) (has_length p.norm)

is_within_limits : (v : Vertex) → Decision (IsWithinLimits v)
is_within_limits v = all_of (all_have_length v.factors) (at_most v.order HIGHEST_ORDER)

has_structure : (s : Structure) (r : ℕ) → Decision (HasStructure s r)
has_structure Sss r = any_of (at_most r 4) (equal r 5)
has_structure Vvv r = any_of (at_most r 4) (equal r 5)
has_structure Ssss r = any_of (at_most r 4) (any_of (equal r 6) (equal r 7))
has_structure Gluon4 r = equal r 6
has_structure Vvss r = any_of (at_most r 4) (equal r 7)
has_structure Vss r = at_most r 4
has_structure Vvs r = at_most r 4
has_structure Ffs r = at_most r 4
has_structure Ffv r = at_most r 4
has_structure Vvvv r = at_most r 4

has_colours : (s : Structure) (found : Option Row) → Decision (HasColours s found)
has_colours s None = broken (λ h. h)
has_colours s (Some row) = has_structure s (row_number row)

fermion_slots : (fields : List ℕ) → Decision (HasFermionSlots Ffs fields)
fermion_slots [] = broken (λ h. h)
fermion_slots (a ∷ []) = broken (λ h. h)
fermion_slots (a ∷ b ∷ fields) = all_of (equal (a % 2) 1) (equal (b % 2) 0)

has_fermion_slots : (s : Structure) (fields : List ℕ) → Decision (HasFermionSlots s fields)
has_fermion_slots Ffs fields = fermion_slots fields
has_fermion_slots Ffv fields = fermion_slots fields
has_fermion_slots Sss fields = kept tt
has_fermion_slots Vvv fields = kept tt
has_fermion_slots Ssss fields = kept tt
has_fermion_slots Gluon4 fields = kept tt
has_fermion_slots Vvss fields = kept tt
has_fermion_slots Vss fields = kept tt
has_fermion_slots Vvs fields = kept tt
has_fermion_slots Vvvv fields = kept tt

above : (r k : ℕ) → (r ≤ k → ⊥) → k < r
above r k n = by (split r k)
  where
    split : (r k : ℕ) → (r ≤ k) ⊎ (k < r)
    split r k = grind arith

    by : (r ≤ k) ⊎ (k < r) → k < r
    by (inl l) = absurd (n l)
    by (inr g) = g

module _ {E : Type 0} (o : Ops E) (m : Model) (accepted : IsAccepted o m) where
  particle_holds : (row : ℕ) (p : Particle) → slice_get m.particles row ≡ Some p → (rule : ModelRule) → ParticleBreaks o (take row m.particles) p rule → ⊥
  particle_holds row p here rule broken = accepted (record { rule = rule; table = table.Particle; row = row + 1 }) (row, p, refl, here, broken)

  -- a vertex breaks no rule
  pub vertex_holds : (row : ℕ) (v : Vertex) → slice_get m.vertices row ≡ Some v → (rule : ModelRule) → VertexBreaks o m.particles v rule → ⊥
  vertex_holds row v here rule broken = accepted (record { rule = rule; table = table.Vertex; row = row + 1 }) (row, v, refl, here, broken)

  formed_particle : (row : ℕ) (p : Particle) → slice_get m.particles row ≡ Some p → IsFormedParticle (take row m.particles) p
  formed_particle row p here = record {
    lengths = stable (has_lengths p) (particle_holds row p here Limit);
    name_new = not_true (is_name_of (take row m.particles) p.name) (λ e. particle_holds row p here RepeatedName (inl e));
    anti_new = not_true (is_name_of (take row m.particles) p.anti) (λ e. particle_holds row p here RepeatedName (inr e));
    own_anti = particle_holds row p here BadPattern;
  }
    where
      not_true : (b : Bool) → (b ≡ true → ⊥) → b ≡ false
      not_true true n = absurd (n refl)
      not_true false n = refl

  has_pattern : (row : ℕ) (v : Vertex) → slice_get m.vertices row ≡ Some v → HasPattern m.particles v
  has_pattern row v here =
      let bad = vertex_holds row v here BadPattern in (
        record {
          fields = stable (is_true _) (λ n. bad (λ p. n p.0.fields));
          spins_are = stable (same_spins (map (spin_of_field m.particles) v.fields) (spins v.structure)) (λ n. bad (λ p. n p.0.spins_are));
          factors = stable (equal (length v.factors) (factor_count v.structure)) (λ n. bad (λ p. n p.0.factors));
          fermions = stable (has_fermion_slots v.structure v.fields) (λ n. bad (λ p. n p.0.fermions));
        },
        stable (has_colours v.structure (colour_row m.particles v.fields)) (λ n. bad (λ p. n p.1)),
      )

  formed_vertex : (row : ℕ) (v : Vertex) → slice_get m.vertices row ≡ Some v → IsFormedVertex m.particles v
  formed_vertex row v here = record { limits = stable (is_within_limits v) (vertex_holds row v here Limit); pattern = has_pattern row v here }

pub accepted_are_well_formed : {E : Type 0} (o : Ops E) → AcceptedAreWellFormed o
accepted_are_well_formed o m accepted = record {
  particles = stable (at_most (length m.particles) MOST_PARTICLES) (λ n. accepted (record { rule = Limit; table = table.Top; row = 0 }) (refl, refl, inl (above (length m.particles) MOST_PARTICLES n)));
  vertices = stable (at_most (length m.vertices) MOST_VERTICES) (λ n. accepted (record { rule = Limit; table = table.Top; row = 0 }) (refl, refl, inr (above (length m.vertices) MOST_VERTICES n)));
  formed_particles = formed_particle o m accepted;
  formed_vertices = formed_vertex o m accepted;
}
