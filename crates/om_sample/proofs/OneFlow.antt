-- Diagrams over the model of a sample have one flow at most, since no line goes through them.
use Rattle.std.proofs.Common.{◌≡◌, ℕ, ◌≤◌, ◌⊎◌, inl, inr, Bool, true, false, cond, List, [], ◌∷◌, length, map, refl, ap, sym, arith, subst}
use Rattle.om_model.specs.Lines.{Lines}
use Rattle.om_model.specs.Order.{insert, numbers_lt, rising_of}
use Rattle.om_model.specs.ScalarRules.{HasColourlessScalars}
use Rattle.om_model.specs.Tree.{Tree}
use Rattle.om_model.specs.declared.model.Particle.{Particle}
use Rattle.om_sample.specs.Laws.{SampleHasOneFlow}
use Rattle.om_sample.specs.Model.{sample_model, sample_particle}
use Rattle.om_sample.specs.NoLines.{no_flow}
use Rattle.om_sample.proofs.Accepted.{one_row}
use Rattle.om_sample.proofs.LinesOfScalars.{lines_are}

scalars : HasColourlessScalars sample_model
scalars row p there = let is = one_row sample_particle p row there in (ap (λ (q : Particle). q.spin) is.1, ap (λ (q : Particle). q.colour) is.1)

not_before_itself : numbers_lt no_flow no_flow ≡ false
unfolding numbers_lt
not_before_itself = refl

stays : {A : Type 0} (b : Bool) (x y z : A) → b ≡ false → cond b x (cond b y z) ≡ z
stays true x y z e = cc
stays false x y z e = refl

insert_again : (lt : List ℕ → List ℕ → Bool) (w : List ℕ) (ws : List (List ℕ)) → lt w w ≡ false → (ws ≡ []) ⊎ (ws ≡ w ∷ []) → insert lt w ws ≡ w ∷ []
unfolding insert
insert_again lt w ws h (inl e) = subst (λ vs. insert lt w vs ≡ w ∷ []) (sym e) refl
insert_again lt w ws h (inr e) = subst (λ vs. insert lt w vs ≡ w ∷ []) (sym e) (stays (lt w w) (w ∷ w ∷ []) (w ∷ insert lt w []) (w ∷ []) h)

one_of : (lt : List ℕ → List ℕ → Bool) (w : List ℕ) (ts : List Tree) → lt w w ≡ false → (rising_of lt (map (λ t. w) ts) ≡ []) ⊎ (rising_of lt (map (λ t. w) ts) ≡ w ∷ [])
unfolding rising_of
one_of lt w [] h = inl refl
one_of lt w (t ∷ ts) h = inr (insert_again lt w (rising_of lt (map (λ t. w) ts)) h (one_of lt w ts h))

few : {A : Type 0} (x : A) (xs : List A) → (xs ≡ []) ⊎ (xs ≡ x ∷ []) → length xs ≤ 1
few x xs (inl e) = let l = ap length e in omega (arith, l)
few x xs (inr e) = let l = ap length e in omega (arith, l)

pub one_flow : SampleHasOneFlow
one_flow p ts =
    subst (λ (w : Lines). length (rising_of numbers_lt (map w.flow ts)) ≤ 1) (sym (lines_are sample_model scalars p))
    (few no_flow (rising_of numbers_lt (map (λ t. no_flow) ts)) (one_of numbers_lt no_flow ts not_before_itself))
