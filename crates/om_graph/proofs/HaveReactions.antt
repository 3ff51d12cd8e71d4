-- The reaction of a process over a well-formed model.
use Rattle.std.proofs.Common.{◌≡◌, ℕ, zero, suc, ◌+◌, ◌-◌, ◌%◌, ◌<◌, ◌≤◌, [], ◌∷◌, ◌++◌, length, Bool, true, false, cond, not, leb, ◌&&◌, ◌||◌, slice_get, refl, ap, ap₂, sym, subst, ◌∙◌, arith, append-nil, true≢false}
use Rattle.std.specs.Prelude.{◌==◌}
use Rattle.std.proofs.lemmas.Bool.Decides.{nat_tests}
use Rattle.om_ring.specs.Members.{In}
use Rattle.om_legs.specs.Legs as sets
use Rattle.om_legs.proofs.Bits.{IsLegSet-set_of, holds-set_of}
use Rattle.om_legs.proofs.Operations.{holds-minus}
use Rattle.om_legs.proofs.LegLists.{holds_none}
use Rattle.om_model.specs.Diagram.{upto}
use Rattle.om_model.specs.Parts.{within}
use Rattle.om_model.specs.Event.{members}
use Rattle.om_model.specs.FermionLines.{HasFermionLines, is_fermion}
use Rattle.om_model.specs.declared.model.Model.{Model}
use Rattle.om_model.specs.declared.process.Process.{Process}
use Rattle.om_model.specs.Model.{theory_of, scattering_of, spin_of_field, field_of_leg}
use Rattle.om_model.specs.ModelLines.{is_dirac, kinds_of, colours_of}
use Rattle.om_model.specs.KeystoneForm.{HasFields}
use Rattle.om_model.specs.ColourLines.{HasColourLines}
use Rattle.om_model.proofs.SetNumbers.{members-suc}
use Rattle.om_graph.specs.Reactions.{reaction_of, fermions_of}
use Rattle.om_model.specs.ProcessOf.{IsProcessOf}
use Rattle.om_model.proofs.WellFormedLines.{well_formed_have_lines}
use Rattle.om_graph.specs.TreeKeys.{IsReaction}
use Rattle.om_graph.specs.HaveReactions.{WellFormedHaveReactions}
use Rattle.om_graph.proofs.SetNodes.{number_of}
use Rattle.om_graph.proofs.TreeSplits.{all_holds}

-- with more legs to look at, the same are found
more_legs : (n d : ℕ) (set : ℕ → Bool) → ((k : ℕ) → set k ≡ true → k ≤ n) → members (n + d) set ≡ members n set
more_legs n zero set h = let e : n + 0 ≡ n = omega arith in ap (λ m. members m set) e
more_legs n (suc d) set h =
    let e : n + suc d ≡ suc (n + d) = omega arith in
    ap (λ m. members m set) e
    ∙ members-suc (n + d) set
    ∙ ap₂ (λ ys b. ys ++ cond b (suc (n + d) ∷ []) []) (more_legs n d set h) (past (set (suc (n + d))) refl)
    ∙ append-nil (members n set)
  where
    past : (b : Bool) → set (suc (n + d)) ≡ b → b ≡ false
    past true e = absurd (let l = h (suc (n + d)) e in omega (arith, l))
    past false e = refl

size_is : (n e : ℕ) → n ≤ 12 → ((k : ℕ) → sets.holds e k ≡ true → k ≤ n) → sets.size e ≡ length (members n (sets.holds e))
unfolding sets.size sets.legs_of upto
size_is n e l h = let q : n + (12 - n) ≡ 12 = omega arith in ap length (sym (ap (λ m. members m (sets.holds e)) q) ∙ more_legs n (12 - n) (sets.holds e) h)

within_all : (n e k : ℕ) → n ≤ 12 → sets.IsLegSet e → sets.minus e (sets.all_legs n) ≡ 0 → sets.holds e k ≡ true → within n k ≡ true
within_all n e k l w z h = sym (all_holds n k l) ∙ not_left (sets.holds e k) (sets.holds (sets.all_legs n) k) (sym (holds-minus e (sets.all_legs n) k w) ∙ ap (λ x. sets.holds x k) z ∙ holds_none k) h
  where
    not_left : (a b : Bool) → (a && not b) ≡ false → a ≡ true → b ≡ true
    not_left true true h e = refl
    not_left true false h e = absurd (true≢false h)
    not_left false b h e = absurd (true≢false (sym e))

either_kind : (d e : Bool) → d ≡ ((d && not e) || (d && e))
either_kind true true = refl
either_kind true false = refl
either_kind false e = refl

reaction_is : (m : Model) (p : Process) → HasFields (theory_of m) → HasFermionLines (theory_of m) (kinds_of m.particles) → HasColourLines (theory_of m) (colours_of m) → IsProcessOf m p → IsReaction (reaction_of m p) (kinds_of m.particles)
reaction_is m p fields lines colours is = record {
  fields = fields;
  colours = colours;
  lines = lines;
  least = is.least;
  most = is.most;
  named = refl;
  sets = λ e i. (at_edge e i).0;
  proper = λ e i. (let h = at_edge e i in let q = size_is n e is.most (bounds e i) in (subst (λ x. 2 ≤ x) q h.2, subst (λ x. x + 2 ≤ n) q h.3));
  bounded = λ e k i h. inside e k i h;
  fermion_set = IsLegSet-set_of _;
  fermions = λ k w. holds_fermion k w;
}
  where
    n : ℕ
    n = length p.legs

    at_edge : (e : ℕ) → In e p.edges → sets.IsLegSet e × (sets.minus e (sets.all_legs n) ≡ 0) × (2 ≤ sets.size e) × (sets.size e + 2 ≤ n)
    at_edge e i = let a = number_of e p.edges i in is.edges a.0 e a.1

    inside : (e k : ℕ) → In e p.edges → sets.holds e k ≡ true → within n k ≡ true
    inside e k i h = let a = at_edge e i in within_all n e k is.most a.0 a.1 h

    bounds : (e : ℕ) → In e p.edges → (k : ℕ) → sets.holds e k ≡ true → k ≤ n
    bounds e i k h = let w = inside e k i h in grind (arith, nat_tests)

    holds_fermion : (k : ℕ) → within n k ≡ true → sets.holds (fermions_of m p) k ≡ is_fermion (kinds_of m.particles) ((scattering_of m p).field k)
    holds_fermion k w =
        let f = field_of_leg (slice_get p.legs (k - 1)) in
        let low : 0 < k = grind (arith, nat_tests) in
        let high : k ≤ n = grind (arith, nat_tests) in
        let l = is.most in
        let test : leb k n ≡ true = grind (arith, nat_tests) in
        holds-set_of _ k low (omega (arith, high, l)) ∙ ap (λ b. b && is_dirac (spin_of_field m.particles f)) test ∙ either_kind (is_dirac (spin_of_field m.particles f)) (f % 2 == 0)

pub well_formed_have_reactions : WellFormedHaveReactions
well_formed_have_reactions m p formed is = let have = well_formed_have_lines m formed in reaction_is m p have.0 have.1 have.2 is
