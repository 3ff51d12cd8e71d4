-- Sums over events, one event more.
use Rattle.std.proofs.Common.{◌≡◌, ℕ, ◌+◌, ◌*◌, ◌≤◌, List, [], ◌∷◌, ◌++◌, length, refl, ap, sym, ◌∙◌, arith, subst}
use Rattle.std.specs.Prelude.{Option, Some, None, is_none}
use Rattle.std.specs.List.{filter}
use Rattle.std.proofs.lemmas.List.{append-nil, length-append}
use Rattle.std.proofs.lemmas.List.Elements.{filter-append}
use Rattle.om_ring.specs.Ops.{Ops, Laws}
use Rattle.om_ring.proofs.SumLemmas.{sum_over-push}
use Rattle.om_code.specs.Waves.{Incoming}
use Rattle.om_sample.specs.Sums.{AddUpTo, AreGiven, value_or_none}

-- the calls of an event that gives values, and of one that has a pole
pub with_values_calls : (old n p legs flows cost a b c d e : ℕ) → a ≤ old + n * ((p + 4 * legs + flows + 1) * cost) → b ≤ a + 4 * legs * cost → c ≤ b + p * cost → d ≤ c + flows * cost → e ≤ d + cost
    → e ≤ old + (n + 1) * ((p + 4 * legs + flows + 1) * cost)
with_values_calls old n p legs flows cost a b c d e ha hb hc hd he = omega (arith, ha, hb, hc, hd, he)

pub without_values_calls : (old n p legs flows cost a b c : ℕ) → a ≤ old + n * ((p + 4 * legs + flows + 1) * cost) → b ≤ a + 4 * legs * cost → c ≤ b + p * cost
    → c ≤ old + (n + 1) * ((p + 4 * legs + flows + 1) * cost)
without_values_calls old n p legs flows cost a b c ha hb hc = omega (arith, ha, hb, hc)

module _ {E : Type 0} (o : Ops E) (Gives : Incoming E → Option E → Type 0) (event : ℕ → Incoming E) where
  pub given_more : (k : ℕ) (xs : List (Option E)) (y : Option E) → AreGiven o Gives event k xs → Gives (event (k + length xs)) y → AreGiven o Gives event k (xs ++ y ∷ [])
  unfolding AreGiven
  given_more k [] y a h = (let e : k + 0 ≡ k = omega arith in subst (λ n. Gives (event n) y) e h, tt)
  given_more k (x ∷ xs) y a h = (a.0, given_more (k + 1) xs y a.1 (let e : k + length (x ∷ xs) ≡ k + 1 + length xs = omega arith in subst (λ n. Gives (event n) y) e h))

  pub none_added : AddUpTo o Gives event 0 0 o.zero
  unfolding AreGiven
  none_added = record { given = []; count = refl; are_given = tt; poles_are = refl; total_is = refl }

  pub value_added : Laws o → (n poles : ℕ) (total now x : E) → AddUpTo o Gives event n poles total → Gives (event n) (Some x) → now ≡ o.plus total x → AddUpTo o Gives event (n + 1) poles now
  value_added l n poles total now x a h e = record {
    given = a.given ++ Some x ∷ [];
    count = length-append a.given (Some x ∷ []) ∙ ap (λ k. k + 1) a.count;
    are_given = given_more 0 a.given (Some x) a.are_given (let e : n ≡ 0 + length a.given = omega (arith, a.count) in subst (λ k. Gives (event k) (Some x)) e h);
    poles_are = a.poles_are ∙ ap length (sym (filter-append is_none a.given (Some x ∷ []) ∙ append-nil (filter is_none a.given)));
    total_is = e ∙ ap (λ t. o.plus t x) a.total_is ∙ sym (sum_over-push o l a.given (Some x) (value_or_none o));
  }

  pub pole_added : Laws o → (n poles : ℕ) (total : E) → AddUpTo o Gives event n poles total → Gives (event n) None → AddUpTo o Gives event (n + 1) (poles + 1) total
  pole_added l n poles total a h = record {
    given = a.given ++ None ∷ [];
    count = length-append a.given (None ∷ []) ∙ ap (λ k. k + 1) a.count;
    are_given = given_more 0 a.given None a.are_given (let e : n ≡ 0 + length a.given = omega (arith, a.count) in subst (λ k. Gives (event k) None) e h);
    poles_are = ap (λ k. k + 1) a.poles_are ∙ sym (ap length (filter-append is_none a.given (None ∷ [])) ∙ length-append (filter is_none a.given) (None ∷ []));
    total_is = a.total_is ∙ sym (sum_over-push o l a.given None (value_or_none o) ∙ l.plus_zero _);
  }

module _ {E : Type 0} (o : Ops E) (event : ℕ → Incoming E) (Gives Others : Incoming E → Option E → Type 0) where
  given_to : (k : ℕ) (xs : List (Option E)) → ((n : ℕ) (x : Option E) → Gives (event n) x → Others (event n) x) → AreGiven o Gives event k xs → AreGiven o Others event k xs
  unfolding AreGiven
  given_to k [] h a = tt
  given_to k (x ∷ xs) h a = (h k x a.0, given_to (k + 1) xs h a.1)

  -- what others give, who give at each event what these give
  pub adds_up_to : (n poles : ℕ) (total : E) → ((k : ℕ) (x : Option E) → Gives (event k) x → Others (event k) x) → AddUpTo o Gives event n poles total → AddUpTo o Others event n poles total
  adds_up_to n poles total h a = record { given = a.given; count = a.count; are_given = given_to 0 a.given h a.are_given; poles_are = a.poles_are; total_is = a.total_is }
