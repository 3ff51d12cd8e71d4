-- A choice that passes the tests sends each line on.
use Rattle.std.proofs.Common.{◌≡◌, ◌≢◌, ℕ, ◌<◌, ◌≤◌, Bool, true, false, eqb, leb, not, ◌&&◌, ◌||◌, ◌⊎◌, inl, inr, refl, ap, sym, subst, ◌∙◌, arith, ◌↔◌, lit<, lit≤, List, true≢false}
use Rattle.std.proofs.lemmas.Bool.Decides.{nat_tests}
use Rattle.om_colour.specs.declared.Colour.{Colour}
use Rattle.om_colour.specs.Lines.{IsSlot, starts_line, ends_line}
use Rattle.om_colour.specs.Choices.{goes_to, SendsOn, colour_at}
use Rattle.om_colour.specs.Table.{choice_of}
use Rattle.om_colour.specs.Laws.{ChoicesSendOn}
use Rattle.om_colour.proofs.ChoiceTests.{both, each_slot, some_slot, same_bool, sends_on, sends_slot_on, choice_sends_on}
use Rattle.om_colour.proofs.SlotLines.{one_of}

each_at : (p : ℕ → Bool) → each_slot p ≡ true → (s : ℕ) → IsSlot s → p s ≡ true
each_at p e s i = by (one_of s i)
  where
    e3 : (p 1 && p 2 && p 3 ≡ true) × (p 4 ≡ true)
    e3 = both (p 1 && p 2 && p 3) (p 4) e

    e2 : (p 1 && p 2 ≡ true) × (p 3 ≡ true)
    e2 = both (p 1 && p 2) (p 3) e3.0

    e1 : (p 1 ≡ true) × (p 2 ≡ true)
    e1 = both (p 1) (p 2) e2.0

    at : (t : ℕ) → s ≡ t → p t ≡ true → p s ≡ true
    at t q r = ap p q ∙ r

    by : (s ≡ 1) ⊎ (s ≡ 2) ⊎ (s ≡ 3) ⊎ (s ≡ 4) → p s ≡ true
    by (inl q) = at 1 q e1.0
    by (inr (inl q)) = at 2 q e1.1
    by (inr (inr (inl q))) = at 3 q e2.1
    by (inr (inr (inr q))) = at 4 q e3.1

either_true : (a b : Bool) → a || b ≡ true → (a ≡ true) ⊎ (b ≡ true)
either_true true b e = inl refl
either_true false b e = inr e

true_left : (a b : Bool) → a ≡ true → a || b ≡ true
true_left true b e = refl
true_left false b e = absurd (true≢false (sym e))

true_right : (a b : Bool) → b ≡ true → a || b ≡ true
true_right true b e = refl
true_right false b e = e

some_at : (p : ℕ → Bool) → some_slot p ≡ true → (s : ℕ) × IsSlot s × (p s ≡ true)
some_at p e = by (either_true (p 1 || p 2 || p 3) (p 4) e)
  where
    two : (p 1 ≡ true) ⊎ (p 2 ≡ true) → (s : ℕ) × IsSlot s × (p s ≡ true)
    two (inl q) = (1, (lit< tt, lit≤ tt), q)
    two (inr q) = (2, (lit< tt, lit≤ tt), q)

    three : (p 1 || p 2 ≡ true) ⊎ (p 3 ≡ true) → (s : ℕ) × IsSlot s × (p s ≡ true)
    three (inl q) = two (either_true (p 1) (p 2) q)
    three (inr q) = (3, (lit< tt, lit≤ tt), q)

    by : (p 1 || p 2 || p 3 ≡ true) ⊎ (p 4 ≡ true) → (s : ℕ) × IsSlot s × (p s ≡ true)
    by (inl q) = three (either_true (p 1 || p 2) (p 3) q)
    by (inr q) = (4, (lit< tt, lit≤ tt), q)

at_some : (p : ℕ → Bool) (s : ℕ) → IsSlot s → p s ≡ true → some_slot p ≡ true
at_some p s i q = by (one_of s i)
  where
    at : (t : ℕ) → s ≡ t → p t ≡ true
    at t e = subst (λ u. p u ≡ true) e q

    by : (s ≡ 1) ⊎ (s ≡ 2) ⊎ (s ≡ 3) ⊎ (s ≡ 4) → some_slot p ≡ true
    by (inl e) = true_left (p 1 || p 2 || p 3) (p 4) (true_left (p 1 || p 2) (p 3) (true_left (p 1) (p 2) (at 1 e)))
    by (inr (inl e)) = true_left (p 1 || p 2 || p 3) (p 4) (true_left (p 1 || p 2) (p 3) (true_right (p 1) (p 2) (at 2 e)))
    by (inr (inr (inl e))) = true_left (p 1 || p 2 || p 3) (p 4) (true_right (p 1 || p 2) (p 3) (at 3 e))
    by (inr (inr (inr e))) = true_right (p 1 || p 2 || p 3) (p 4) (at 4 e)

same_is : (a b : Bool) → same_bool a b ≡ true → a ≡ b
same_is true true e = refl
same_is true false e = absurd (true≢false (sym e))
same_is false true e = absurd (true≢false (sym e))
same_is false false e = refl

positive_test : (n : ℕ) (b : Bool) → not (eqb n 0) ≡ b → (0 < n) ↔ (b ≡ true)
positive_test n true e = ((λ l. refl), (λ q. grind (arith, nat_tests)))
positive_test n false e = ((λ l. absurd (grind (arith, nat_tests))), (λ q. absurd (true≢false (sym q))))

eq_of : (m n : ℕ) → eqb m n ≡ true → m ≡ n
eq_of m n e = grind (arith, nat_tests)

test_of : (m n : ℕ) → m ≡ n → eqb m n ≡ true
test_of m n e = grind (arith, nat_tests)

not_eq : (m n : ℕ) → not (eqb m n) ≡ true → m ≢ n
not_eq m n e = grind (arith, nat_tests)

at_most_of : (m n : ℕ) → leb m n ≡ true → m ≤ n
at_most_of m n e = grind (arith, nat_tests)

once_of : (s r a b : ℕ) → eqb s r || eqb a 0 || not (eqb a b) ≡ true → 0 < a → a ≡ b → s ≡ r
once_of s r a b e l p = grind (arith, nat_tests)

module _ (cs : List Colour) (to : ℕ → ℕ) (passes : sends_on cs to ≡ true) where
  record At (s : ℕ) : Type 0 where
    few : to s ≤ 4
    away : to s ≢ s
    out : not (eqb (to s) 0) ≡ starts_line (colour_at cs s)
    into : some_slot (λ r. eqb (to r) s) ≡ ends_line (colour_at cs s)
    once : (r : ℕ) → IsSlot r → eqb s r || eqb (to s) 0 || not (eqb (to s) (to r)) ≡ true

  at : (s : ℕ) → IsSlot s → At s
  at s i =
      let e = each_at (sends_slot_on cs to) passes s i in
      let d = both _ _ e in
      let f = both _ _ d.0 in
      let g = both _ _ f.0 in
      let k = both _ _ g.0 in
      record { few = at_most_of _ _ k.0; away = not_eq _ _ k.1; out = same_is _ _ g.1; into = same_is _ _ f.1; once = each_at (λ r. eqb s r || eqb (to s) 0 || not (eqb (to s) (to r))) d.1 }

  pub sends_of : SendsOn to (colour_at cs)
  sends_of = record {
    choice = record {
      slots = λ s i. (at s i).few;
      away = λ s i. (at s i).away;
      once = λ s r i j l p. once_of s r (to s) (to r) ((at s i).once r j) l p;
    };
    arrives = λ s i. positive_test (to s) (starts_line (colour_at cs s)) (at s i).out;
    leaves = λ s i. ((λ (r, j, p). sym (at s i).into ∙ at_some (λ r. eqb (to r) s) r j (test_of (to r) s p)), (λ e. let w = some_at (λ r. eqb (to r) s) ((at s i).into ∙ e) in (w.0, w.1, eq_of (to w.0) s w.2)));
  }

pub choices_send_on : ChoicesSendOn
choices_send_on cs l r e k m = sends_of cs (λ s. goes_to (choice_of r k) s) (choice_sends_on cs l r e k m)
