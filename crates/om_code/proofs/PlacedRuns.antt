-- A slot plan keeps the meaning of an instruction list: the slot of each register that is still needed holds its value.
use Rattle.std.proofs.Common.{◌≡◌, ℕ, suc, ◌+◌, ◌<◌, List, [], ◌∷◌, ◌⊎◌, inl, inr, ⊎_elim, length, map, take, drop, get_or, Bool, true, false, cond, eqb, refl, sym, ◌∙◌, ap, ap₂, subst, arith, add-one}
use Rattle.std.specs.List.{concat}
use Rattle.std.specs.Set.{is_member}
use Rattle.std.proofs.lemmas.Bool.{cases_eq, eq-eqb, ne_eqb, cases_Bool, false≢true}
use Rattle.std.proofs.lemmas.List.{length-drop}
use Rattle.std.proofs.Math.Seq.{drop-cons}
use Rattle.om_ring.specs.Members.{In}
use Rattle.om_code.specs.SlotPlans.{IsSlotPlan}
use Rattle.om_code.specs.Registers.{Step, load, fuse, prop, key, put, State, written, named_by, lines_of, joined, act, run, start, placed, AllIn, ReadsWritten}
use Rattle.om_code.specs.Laws.{PlansKeepSums}
use Rattle.om_ring.proofs.Members.{in_from_member, absent_from_member, in_left, in_right}
use Rattle.om_code.proofs.SpanFacts.{Before, After, before_line, line_before, line_after, before_grows, after_shrinks, span_from}

-- what a put leaves
pub put_here : {A : Type 0} (f : ℕ → A) (k : ℕ) (x : A) (j : ℕ) → j ≡ k → put f k x j ≡ x
put_here f k x j e = ap (λ b. cond b x (f j)) (eq-eqb j k e)

pub put_elsewhere : {A : Type 0} (f : ℕ → A) (k : ℕ) (x : A) (j : ℕ) → (j ≡ k → ⊥) → put f k x j ≡ f j
put_elsewhere f k x j n = ap (λ b. cond b x (f j)) (ne_eqb j k n)

-- whether a list has a number
pub decided_in : (xs : List ℕ) (q : ℕ) → In q xs ⊎ (In q xs → ⊥)
decided_in xs q = ⊎_elim (λ t. inl (in_from_member xs q t)) (λ f. inr (absent_from_member xs q f)) (cases_Bool (is_member eqb xs q))

pub all_in : (seen rs : List ℕ) → AllIn seen rs → (r : ℕ) → In r rs → In r seen
all_in seen [] h r i = absurd i
all_in seen (q ∷ rs) h r (inl e) = let P : ℕ → Type 0 = λ u. In u seen in subst P (sym e) h.0
all_in seen (q ∷ rs) h r (inr i) = all_in seen rs h.1 r i

module _ {W S : Type 0} (plus : W → W → W) where
  -- an instruction that doesn't name a register leaves it gathering or not
  act_settles : (x : Step W S) (st : State W S) (r : ℕ) → (In r (named_by x) → ⊥) → (act plus x st).gathering r ≡ st.gathering r
  unfolding act named_by written
  act_settles (load to x) st r n = put_elsewhere st.gathering to false r (λ e. n (inl e))
  act_settles (fuse to bs made) st r n = put_elsewhere st.gathering to true r (λ e. n (inl e))
  act_settles (prop of moved) st r n = put_elsewhere st.gathering of false r (λ e. n (inl e))
  act_settles (key bs summed) st r n = refl

  pub run_settles : (xs : List (Step W S)) (st : State W S) (r : ℕ) → (In r (concat (lines_of xs)) → ⊥) → (run plus xs st).gathering r ≡ st.gathering r
  unfolding run
  run_settles [] st r n = refl
  run_settles (x ∷ xs) st r n = run_settles xs (act plus x st) r (λ i. n (in_right r (named_by x) (concat (lines_of xs)) i)) ∙ act_settles x st r (λ i. n (in_left r (named_by x) (concat (lines_of xs)) i))

  -- the registers that are still needed have their values in their slots, and no other slot gathers
  pub record Agree (lines : List (List ℕ)) (plan : ℕ → ℕ) (i : ℕ) (a b : State W S) : Type 0 where
    pub values : (r : ℕ) → Before lines i r → After lines i r → b.values (plan r) ≡ a.values r
    pub gathers : (r : ℕ) → Before lines i r → After lines i r → b.gathering (plan r) ≡ a.gathering r
    pub idle : (r : ℕ) → (Before lines i r → ⊥) → a.gathering r ≡ false
    pub held : (k : ℕ) → b.gathering k ≡ true → (r : ℕ) × Before lines i r × After lines i r × (plan r ≡ k)
    pub sums : b.sums ≡ a.sums

  -- one instruction, at place i of the list
  module _ (lines : List (List ℕ)) (plan : ℕ → ℕ) (p : IsSlotPlan lines plan) (i : ℕ) (l : i < length lines) (a b : State W S) (w : Agree lines plan i a b) where
    pub here_after : (r : ℕ) → In r (get_or lines i []) → After lines i r
    here_after r h = line_after lines i r l (inl h)

    pub here_before : (r : ℕ) → In r (get_or lines i []) → Before lines (i + 1) r
    here_before r h = line_before lines i r l (inr h)

    later : (r : ℕ) → After lines (i + 1) r → After lines i r
    later r h = after_shrinks lines i (i + 1) r (omega arith) h

    sooner : (r : ℕ) → Before lines i r → Before lines (i + 1) r
    sooner r h = before_grows lines i (i + 1) r (omega arith) h

    -- two registers that are needed here have different slots
    pub apart : (r s : ℕ) → Before lines (i + 1) r → After lines i r → Before lines (i + 1) s → After lines i s → plan r ≡ plan s → r ≡ s
    apart r s br ar bs as' e = p r s i (span_from lines i r br ar) (span_from lines i s bs as') e

    -- what the branches hold
    read_same : (rs : List ℕ) → ((r : ℕ) → In r rs → In r (get_or lines i []) × Before lines i r) → map b.values (map plan rs) ≡ map a.values rs
    read_same [] h = refl
    read_same (r ∷ rs) h = let f = h r (inl refl) in ap₂ (λ x xs. x ∷ xs) (w.values r f.1 (here_after r f.0)) (read_same rs (λ q k. h q (inr k)))

    -- a register is written on both sides
    module _ (to : ℕ) (x : W) (g : Bool) (here : In to (get_or lines i [])) (others : (r : ℕ) → In r (get_or lines i []) → (r ≡ to) ⊎ Before lines i r)
        (settles : (r : ℕ) → (After lines (i + 1) r → ⊥) → (written a to x g).gathering r ≡ false) where
      new_slot : (r : ℕ) → (r ≡ to → ⊥) → Before lines (i + 1) r → After lines i r → plan r ≡ plan to → ⊥
      new_slot r n br ar e = n (apart r to br ar (here_before to here) (here_after to here) e)

      before_new : (r : ℕ) → (r ≡ to → ⊥) → Before lines (i + 1) r → Before lines i r
      before_new r n h = ⊎_elim (λ k. k) (λ k. ⊎_elim (λ e. absurd (n e)) (λ z. z) (others r k)) (before_line lines i r l h)

      agree_written : Agree lines plan (i + 1) (written a to x g) (written b (plan to) x g)
      unfolding written
      agree_written = record {
        values = λ r br ar. ⊎_elim
            (λ e. put_here b.values (plan to) x (plan r) (ap plan e) ∙ sym (put_here a.values to x r e))
            (λ n. put_elsewhere b.values (plan to) x (plan r) (new_slot r n br (later r ar)) ∙ w.values r (before_new r n br) (later r ar) ∙ sym (put_elsewhere a.values to x r n))
            (cases_eq r to);
        gathers = λ r br ar. ⊎_elim
            (λ e. put_here b.gathering (plan to) g (plan r) (ap plan e) ∙ sym (put_here a.gathering to g r e))
            (λ n. put_elsewhere b.gathering (plan to) g (plan r) (new_slot r n br (later r ar)) ∙ w.gathers r (before_new r n br) (later r ar) ∙ sym (put_elsewhere a.gathering to g r n))
            (cases_eq r to);
        idle = λ r n. put_elsewhere a.gathering to g r (λ e. n (let P : ℕ → Type 0 = λ u. Before lines (i + 1) u in subst P (sym e) (here_before to here))) ∙ w.idle r (λ h. n (sooner r h));
        held = λ k h. ⊎_elim
            (λ e. let on : g ≡ true = sym (put_here b.gathering (plan to) g k e) ∙ h in
            ⊎_elim (λ z. (to, here_before to here, z, sym e))
            (λ z. absurd (false≢true (sym (settles to z) ∙ put_here a.gathering to g to refl ∙ on)))
            (decided_in (concat (drop (i + 1) lines)) to))
            (λ n. let old = w.held k (sym (put_elsewhere b.gathering (plan to) g k n) ∙ h) in
            let other : old.0 ≡ to → ⊥ = λ e. n (sym old.3 ∙ ap plan e) in
            ⊎_elim (λ z. (old.0, sooner old.0 old.1, z, old.3))
            (λ z. absurd (false≢true (sym (settles old.0 z) ∙ put_elsewhere a.gathering to g old.0 other ∙ sym (w.gathers old.0 old.1 old.2) ∙ ap b.gathering old.3 ∙ sym (put_elsewhere b.gathering (plan to) g k n) ∙ h)))
            (decided_in (concat (drop (i + 1) lines)) old.0))
            (cases_eq k (plan to));
        sums = w.sums;
      }

    -- the sums gain on both sides
    agree_summed : (f : S → S) → ((r : ℕ) → In r (get_or lines i []) → Before lines i r) → ((r : ℕ) → (After lines (i + 1) r → ⊥) → a.gathering r ≡ false)
        → Agree lines plan (i + 1) (record { values = a.values; gathering = a.gathering; sums = f a.sums }) (record { values = b.values; gathering = b.gathering; sums = f b.sums })
    agree_summed f known settles =
        let back : (r : ℕ) → Before lines (i + 1) r → Before lines i r = λ r h. ⊎_elim (λ k. k) (known r) (before_line lines i r l h) in
        record {
          values = λ r br ar. w.values r (back r br) (later r ar);
          gathers = λ r br ar. w.gathers r (back r br) (later r ar);
          idle = λ r n. w.idle r (λ h. n (sooner r h));
          held = λ k h. let old = w.held k h in
              ⊎_elim (λ z. (old.0, sooner old.0 old.1, z, old.3))
              (λ z. absurd (false≢true (sym (settles old.0 z) ∙ sym (w.gathers old.0 old.1 old.2) ∙ ap b.gathering old.3 ∙ h)))
              (decided_in (concat (drop (i + 1) lines)) old.0);
          sums = ap f w.sums;
        }

    -- what a fuse leaves
    pub same_join : (to : ℕ) (x : W) → In to (get_or lines i []) → joined plus (b.gathering (plan to)) (b.values (plan to)) x ≡ joined plus (a.gathering to) (a.values to) x
    same_join to x here = ⊎_elim
        (λ h. ap₂ (λ g o. joined plus g o x) (w.gathers to h (here_after to here)) (w.values to h (here_after to here)))
        (λ n. ap (λ g. joined plus g (b.values (plan to)) x) (no_gather n) ∙ sym (ap (λ g. joined plus g (a.values to) x) (w.idle to n)))
        (decided_in (concat (take i lines)) to)
      where
        no_gather : (Before lines i to → ⊥) → b.gathering (plan to) ≡ false
        no_gather n = ⊎_elim
            (λ t. let old = w.held (plan to) t in
            let same : old.0 ≡ to = apart old.0 to (sooner old.0 old.1) old.2 (here_before to here) (here_after to here) old.3 in
            absurd (n (let P : ℕ → Type 0 = λ u. Before lines i u in subst P same old.1)))
            (λ f. f)
            (cases_Bool (b.gathering (plan to)))

  -- where an instruction stands in the list
  pub record StandsAt (lines : List (List ℕ)) (i : ℕ) (x : Step W S) (xs : List (Step W S)) : Type 0 where
    pub within : i < length lines
    pub line : get_or lines i [] ≡ named_by x
    pub rest : drop (i + 1) lines ≡ lines_of xs

  pub stands_at : (lines : List (List ℕ)) (i : ℕ) (x : Step W S) (xs : List (Step W S)) → drop i lines ≡ named_by x ∷ lines_of xs → StandsAt lines i x xs
  stands_at lines i x xs e =
      let n : length (drop i lines) ≡ suc (length (lines_of xs)) = ap length e in
      let l : i < length lines = omega (arith, length-drop i lines) in
      let f = drop-cons lines i [] l in
      record { within = l; line = cc (e, f); rest = ap (λ k. drop k lines) (add-one i) ∙ cc (e, f) }

  module _ (lines : List (List ℕ)) (plan : ℕ → ℕ) (p : IsSlotPlan lines plan) where
    pub agree_act : (x : Step W S) (xs : List (Step W S)) (seen : List ℕ) (i : ℕ) (a b : State W S) → StandsAt lines i x xs → Agree lines plan i a b → ReadsWritten seen (x ∷ xs) → ((r : ℕ) → In r seen → Before lines i r)
        → ((r : ℕ) → (After lines (i + 1) r → ⊥) → (act plus x a).gathering r ≡ false) → Agree lines plan (i + 1) (act plus x a) (act plus (placed plan x) b)
    unfolding act placed named_by
    agree_act (load to v) xs seen i a b s w rw' known settles =
        let here : In to (get_or lines i []) = let P : List ℕ → Type 0 = λ ys. In to ys in subst P (sym s.line) (inl refl) in
        agree_written lines plan p i s.within a b w to v false here (λ r k. let P : List ℕ → Type 0 = λ ys. In r ys in ⊎_elim inl (λ z. absurd z) (subst P s.line k)) settles
    agree_act (fuse to bs made) xs seen i a b s w rw' known settles =
        let here : In to (get_or lines i []) = let P : List ℕ → Type 0 = λ ys. In to ys in subst P (sym s.line) (inl refl) in
        let va = joined plus (a.gathering to) (a.values to) (made (map a.values bs)) in
        let reads : map b.values (map plan bs) ≡ map a.values bs =
        read_same lines plan p i s.within a b w bs (λ r k. let P : List ℕ → Type 0 = λ ys. In r ys in (subst P (sym s.line) (inr k), known r (all_in seen bs rw'.0 r k))) in
        let e : joined plus (b.gathering (plan to)) (b.values (plan to)) (made (map b.values (map plan bs))) ≡ va =
        ap (λ ys. joined plus (b.gathering (plan to)) (b.values (plan to)) (made ys)) reads ∙ same_join lines plan p i s.within a b w to (made (map a.values bs)) here in
        let P : W → Type 0 = λ v. Agree lines plan (i + 1) (written a to va true) (written b (plan to) v true) in
        subst P (sym e) (agree_written lines plan p i s.within a b w to va true here
        (λ r k. let Q : List ℕ → Type 0 = λ ys. In r ys in ⊎_elim inl (λ z. inr (known r (all_in seen bs rw'.0 r z))) (subst Q s.line k)) settles)
    agree_act (prop of moved) xs seen i a b s w rw' known settles =
        let here : In of (get_or lines i []) = let P : List ℕ → Type 0 = λ ys. In of ys in subst P (sym s.line) (inl refl) in
        let e : moved (b.values (plan of)) ≡ moved (a.values of) = ap moved (w.values of (known of rw'.0) (here_after lines plan p i s.within a b w of here)) in
        let P : W → Type 0 = λ v. Agree lines plan (i + 1) (written a of (moved (a.values of)) false) (written b (plan of) v false) in
        subst P (sym e) (agree_written lines plan p i s.within a b w of (moved (a.values of)) false here
        (λ r k. let Q : List ℕ → Type 0 = λ ys. In r ys in ⊎_elim inl (λ z. absurd z) (subst Q s.line k)) settles)
    agree_act (key bs summed) xs seen i a b s w rw' known settles =
        let line_known : (r : ℕ) → In r (get_or lines i []) → Before lines i r = λ r k. let Q : List ℕ → Type 0 = λ ys. In r ys in known r (all_in seen bs rw'.0 r (subst Q s.line k)) in
        let reads : map b.values (map plan bs) ≡ map a.values bs =
        read_same lines plan p i s.within a b w bs (λ r k. let Q : List ℕ → Type 0 = λ ys. In r ys in (subst Q (sym s.line) k, known r (all_in seen bs rw'.0 r k))) in
        let P : List W → Type 0 = λ ys. Agree lines plan (i + 1) (record { values = a.values; gathering = a.gathering; sums = summed (map a.values bs) a.sums }) (record { values = b.values; gathering = b.gathering; sums = summed ys b.sums }) in
        subst P (sym reads) (agree_summed lines plan p i s.within a b w (summed (map a.values bs)) line_known settles)

  -- what is written by then
  pub record Known (lines : List (List ℕ)) (i : ℕ) (xs : List (Step W S)) : Type 0 where
    pub seen : List ℕ
    pub reads : ReadsWritten seen xs
    pub known : (r : ℕ) → In r seen → Before lines i r

  pub known_next : (lines : List (List ℕ)) (x : Step W S) (xs : List (Step W S)) (seen : List ℕ) (i : ℕ) → StandsAt lines i x xs → ReadsWritten seen (x ∷ xs) → ((r : ℕ) → In r seen → Before lines i r) → Known lines (i + 1) xs
  unfolding named_by
  known_next lines (load to v) xs seen i s h k = record { seen = to ∷ seen; reads = h; known = λ r m. ⊎_elim (λ e. line_before lines i r s.within (inr (let P : List ℕ → Type 0 = λ ys. In r ys in subst P (sym s.line) (inl e)))) (λ z. line_before lines i r s.within (inl (k r z))) m }
  known_next lines (fuse to bs made) xs seen i s h k = record { seen = to ∷ seen; reads = h.1; known = λ r m. ⊎_elim (λ e. line_before lines i r s.within (inr (let P : List ℕ → Type 0 = λ ys. In r ys in subst P (sym s.line) (inl e)))) (λ z. line_before lines i r s.within (inl (k r z))) m }
  known_next lines (prop of moved) xs seen i s h k = record { seen = seen; reads = h.1; known = λ r m. line_before lines i r s.within (inl (k r m)) }
  known_next lines (key bs summed) xs seen i s h k = record { seen = seen; reads = h.1; known = λ r m. line_before lines i r s.within (inl (k r m)) }

  module _ (lines : List (List ℕ)) (plan : ℕ → ℕ) (p : IsSlotPlan lines plan) where
    same_sums : (xs : List (Step W S)) (i : ℕ) (a b : State W S) → drop i lines ≡ lines_of xs → Agree lines plan i a b → Known lines i xs → ((r : ℕ) → (run plus xs a).gathering r ≡ false) → (run plus (map (placed plan) xs) b).sums ≡ (run plus xs a).sums
    unfolding run
    same_sums [] i a b e w k settled = w.sums
    same_sums (x ∷ xs) i a b e w k settled =
        let s = stands_at lines i x xs e in
        let settles : (r : ℕ) → (After lines (i + 1) r → ⊥) → (act plus x a).gathering r ≡ false = λ r n.
        sym (run_settles xs (act plus x a) r (λ j. n (let P : List (List ℕ) → Type 0 = λ ys. In r (concat ys) in subst P (sym s.rest) j))) ∙ settled r in
        same_sums xs (i + 1) (act plus x a) (act plus (placed plan x) b) s.rest (agree_act lines plan p x xs k.seen i a b s w k.reads k.known settles) (known_next lines x xs k.seen i s k.reads k.known) settled

  pub plans_keep_sums : PlansKeepSums W S plus
  plans_keep_sums blank sums xs plan whole p =
      same_sums (lines_of xs) plan p xs 0 (start blank sums) (start blank sums) refl
      (record { values = λ r h. absurd h; gathers = λ r h. absurd h; idle = λ r n. refl; held = λ k h. absurd (false≢true h); sums = refl })
      (record { seen = []; reads = whole.reads; known = λ r h. absurd h })
      whole.settled
