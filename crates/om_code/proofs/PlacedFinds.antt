-- With the slots of a plan the instructions find what they found in the registers.
use Rattle.std.proofs.Common.{◌≡◌, ℕ, ◌+◌, ◌<◌, List, [], ◌∷◌, inl, inr, ⊎_elim, length, map, take, drop, get_or, Bool, false, cond, refl, sym, ◌∙◌, ap, ap₂, subst}
use Rattle.std.specs.List.{concat}
use Rattle.std.proofs.lemmas.Bool.{cases_Bool, false≢true}
use Rattle.om_ring.specs.Members.{In}
use Rattle.om_code.specs.SlotPlans.{IsSlotPlan}
use Rattle.om_code.specs.Registers.{loads, Step, load, fuse, prop, key, State, named_by, lines_of, act, run, start, placed, ReadsWritten, look, adds, begins, turns, closes, found, finds, AreApart}
use Rattle.om_code.specs.Laws.{PlansKeepFinds}
use Rattle.om_ring.proofs.Members.{in_mapped}
use Rattle.om_code.proofs.SpanFacts.{Before, After, line_before, line_after, span_from}
use Rattle.om_code.proofs.PlacedRuns.{Agree, StandsAt, Known, run_settles, agree_act, stands_at, known_next, decided_in, all_in, here_after, here_before}

-- no fuse reads its own slot
apart_here : (lines : List (List ℕ)) (plan : ℕ → ℕ) → IsSlotPlan lines plan → (i to : ℕ) (bs : List ℕ) → i < length lines → get_or lines i [] ≡ to ∷ bs → (In to bs → ⊥) → In (plan to) (map plan bs) → ⊥
apart_here lines plan p i to bs l e n h =
    let u = in_mapped plan (plan to) bs h in
    let holds = λ (r : ℕ) (j : In r (to ∷ bs)). let P : List ℕ → Type 0 = λ ys. In r ys in let k : In r (get_or lines i []) = subst P (sym e) j in span_from lines i r (line_before lines i r l (inr k)) (line_after lines i r l (inl k)) in
    let same : to ≡ u.0 = p to u.0 i (holds to (inl refl)) (holds u.0 (inr u.1)) u.2 in
    n (let P : ℕ → Type 0 = λ r. In r bs in subst P (sym same) u.1)

module _ {W S : Type 0} (plus : W → W → W) where
  module _ (lines : List (List ℕ)) (plan : ℕ → ℕ) (p : IsSlotPlan lines plan) (i : ℕ) (l : i < length lines) (a b : State W S) (w : Agree plus lines plan i a b) where
    look_same : (r : ℕ) → In r (get_or lines i []) → Before lines i r → look b (plan r) ≡ look a r
    look_same r h k = ap₂ (λ g v. (g, v)) (w.gathers r k (here_after plus lines plan p i l a b w r h)) (w.values r k (here_after plus lines plan p i l a b w r h))

    looks_same : (rs : List ℕ) → ((r : ℕ) → In r rs → In r (get_or lines i []) × Before lines i r) → map (look b) (map plan rs) ≡ map (look a) rs
    looks_same [] h = refl
    looks_same (r ∷ rs) h = ap₂ (λ x xs. x ∷ xs) (look_same r (h r (inl refl)).0 (h r (inl refl)).1) (looks_same rs (λ q k. h q (inr k)))

    -- a register that is new
    slot_idle : (to : ℕ) → In to (get_or lines i []) → (Before lines i to → ⊥) → b.gathering (plan to) ≡ false
    slot_idle to here n = ⊎_elim
        (λ t. let old = w.held (plan to) t in
        let same : old.0 ≡ to = p old.0 to i (span_from lines i old.0 (line_before lines i old.0 l (inl old.1)) old.2) (span_from lines i to (here_before plus lines plan p i l a b w to here) (here_after plus lines plan p i l a b w to here)) old.3 in
        absurd (n (let P : ℕ → Type 0 = λ u. Before lines i u in subst P same old.1)))
        (λ f. f)
        (cases_Bool (b.gathering (plan to)))

    gathers_same : (to : ℕ) → In to (get_or lines i []) → b.gathering (plan to) ≡ a.gathering to
    gathers_same to here = ⊎_elim
        (λ h. w.gathers to h (here_after plus lines plan p i l a b w to here))
        (λ n. slot_idle to here n ∙ sym (w.idle to n))
        (decided_in (concat (take i lines)) to)

    fuse_same : (to : ℕ) (xs : List (Bool × W)) → In to (get_or lines i []) → cond (b.gathering (plan to)) (adds (b.values (plan to)) xs) (begins xs) ≡ cond (a.gathering to) (adds (a.values to) xs) (begins xs)
    fuse_same to xs here = ⊎_elim
        (λ h. ap₂ (λ g v. cond g (adds v xs) (begins xs)) (w.gathers to h (here_after plus lines plan p i l a b w to here)) (w.values to h (here_after plus lines plan p i l a b w to here)))
        (λ n. ap (λ g. cond g (adds (b.values (plan to)) xs) (begins xs)) (slot_idle to here n) ∙ sym (ap (λ g. cond g (adds (a.values to) xs) (begins xs)) (w.idle to n)))
        (decided_in (concat (take i lines)) to)

  module _ (lines : List (List ℕ)) (plan : ℕ → ℕ) (p : IsSlotPlan lines plan) where
    found_same : (x : Step W S) (xs : List (Step W S)) (seen : List ℕ) (i : ℕ) (a b : State W S) → StandsAt plus lines i x xs → Agree plus lines plan i a b → ReadsWritten seen (x ∷ xs) → ((r : ℕ) → In r seen → Before lines i r) → found (placed plan x) b ≡ found x a
    unfolding found placed named_by
    found_same (load to v) xs seen i a b s w reads known = ap loads (gathers_same lines plan p i s.within a b w to (let P : List ℕ → Type 0 = λ ys. In to ys in subst P (sym s.line) (inl refl)))
    found_same (fuse to bs made) xs seen i a b s w reads known =
        let P : List ℕ → Type 0 = λ ys. In to ys in
        let here : In to (get_or lines i []) = subst P (sym s.line) (inl refl) in
        let e : map (look b) (map plan bs) ≡ map (look a) bs = looks_same lines plan p i s.within a b w bs (λ r k. let Q : List ℕ → Type 0 = λ ys. In r ys in (subst Q (sym s.line) (inr k), known r (all_in seen bs reads.0 r k))) in
        ap (λ xs. cond (b.gathering (plan to)) (adds (b.values (plan to)) xs) (begins xs)) e ∙ fuse_same lines plan p i s.within a b w to (map (look a) bs) here
    found_same (prop of moved) xs seen i a b s w reads known = ap turns (look_same lines plan p i s.within a b w of (let P : List ℕ → Type 0 = λ ys. In of ys in subst P (sym s.line) (inl refl)) (known of reads.0))
    found_same (key bs summed) xs seen i a b s w reads known = ap closes (looks_same lines plan p i s.within a b w bs (λ r k. let Q : List ℕ → Type 0 = λ ys. In r ys in (subst Q (sym s.line) k, known r (all_in seen bs reads.0 r k))))

    settles : (x : Step W S) (xs : List (Step W S)) (i : ℕ) (a : State W S) → StandsAt plus lines i x xs → ((r : ℕ) → (run plus (x ∷ xs) a).gathering r ≡ false) → (r : ℕ) → (After lines (i + 1) r → ⊥) → (act plus x a).gathering r ≡ false
    unfolding run
    settles x xs i a s settled r n = sym (run_settles plus xs (act plus x a) r (λ j. n (let P : List (List ℕ) → Type 0 = λ ys. In r (concat ys) in subst P (sym s.rest) j))) ∙ settled r

    record Same (xs : List (Step W S)) (a b : State W S) : Type 0 where
      finds : finds plus (map (placed plan) xs) b ≡ finds plus xs a
      settled : (k : ℕ) → (run plus (map (placed plan) xs) b).gathering k ≡ false

    same_finds : (xs : List (Step W S)) (i : ℕ) (a b : State W S) → drop i lines ≡ lines_of xs → Agree plus lines plan i a b → Known plus lines i xs → ((r : ℕ) → (run plus xs a).gathering r ≡ false) → Same xs a b
    unfolding run finds
    same_finds [] i a b e w k settled = record {
      finds = refl;
      settled = λ j. ⊎_elim (λ t. let h = w.held j t in absurd (let P : List (List ℕ) → Type 0 = λ ys. In h.0 (concat ys) in subst P e h.2)) (λ f. f) (cases_Bool (b.gathering j));
    }
    same_finds (x ∷ xs) i a b e w k settled =
        let s = stands_at plus lines i x xs e in
        let r = same_finds xs (i + 1) (act plus x a) (act plus (placed plan x) b) s.rest (agree_act plus lines plan p x xs k.seen i a b s w k.reads k.known (settles x xs i a s settled)) (known_next plus lines x xs k.seen i s k.reads k.known) settled in
        record { finds = ap₂ (λ y ys. y ∷ ys) (found_same x xs k.seen i a b s w k.reads k.known) r.finds; settled = r.settled }

    apart_all : (xs : List (Step W S)) (i : ℕ) → drop i lines ≡ lines_of xs → AreApart xs → AreApart (map (placed plan) xs)
    unfolding placed named_by
    apart_all [] i e h = tt
    apart_all (load to v ∷ xs) i e h = apart_all xs (i + 1) (stands_at plus lines i (load to v) xs e).rest h
    apart_all (fuse to bs made ∷ xs) i e h = let s = stands_at plus lines i (fuse to bs made) xs e in (apart_here lines plan p i to bs s.within s.line h.0, apart_all xs (i + 1) s.rest h.1)
    apart_all (prop of moved ∷ xs) i e h = apart_all xs (i + 1) (stands_at plus lines i (prop of moved) xs e).rest h
    apart_all (key bs summed ∷ xs) i e h = apart_all xs (i + 1) (stands_at plus lines i (key bs summed) xs e).rest h

  pub plans_keep_finds : PlansKeepFinds W S plus
  plans_keep_finds blank sums xs plan whole p =
      let r = same_finds (lines_of xs) plan p xs 0 (start blank sums) (start blank sums) refl
      (record { values = λ r h. absurd h; gathers = λ r h. absurd h; idle = λ r n. refl; held = λ k h. absurd (false≢true h); sums = refl })
      (record { seen = []; reads = whole.reads; known = λ r h. absurd h })
      whole.settled in
      record { finds = r.finds; settled = r.settled; apart = apart_all (lines_of xs) plan p xs 0 refl }
