-- Where the colour lines of the nodes begin and end.
use Rattle.std.proofs.Common.{◌≡◌, ◌≢◌, ℕ, zero, suc, ◌+◌, ◌-◌, ◌<◌, ◌≤◌, List, [], ◌∷◌, length, map, Bool, true, false, cond, eqb, ◌&&◌, inl, inr, ⊎_elim, refl, sym, ◌∙◌, ap, ap₂, subst, arith, true≢false, Option, None, Some, slice_get}
use Rattle.std.proofs.lemmas.Bool.{eqb-true}
use Rattle.std.proofs.lemmas.Bool.Decides.{nat_tests}
use Rattle.std.proofs.lemmas.List.{length-map}
use Rattle.std.proofs.lemmas.Option.{same_Some, none-some, slice_get_within}
use Rattle.om_ring.specs.Members.{In}
use Rattle.om_legs.specs.Legs.{IsLegSet, holds, set_of_one}
use Rattle.om_legs.specs.Splits.{IsSplit}
use Rattle.om_legs.proofs.FirstPart.{leg_part, part_leg}
use Rattle.om_legs.proofs.Operations.{holds-set_of_one}
use Rattle.om_colour.specs.declared.Choice.{Choice}
use Rattle.om_colour.specs.declared.Partial.{Partial}
use Rattle.om_colour.specs.Choices.{goes_to}
use Rattle.om_colour.specs.Lines.{IsSlot, ends_line, starts_line}
use Rattle.om_colour.specs.Partials.{Fits, end_at, into_at, joined, joined_end, leg_partial, part_at}
use Rattle.om_colour.proofs.JoinedLines.{each_leg-at}
use Rattle.om_colour.proofs.JoinedSound.{into_slot}
use Rattle.om_model.specs.Diagram.{times_in}
use Rattle.om_model.specs.FermionLines.{Kinds}
use Rattle.om_model.specs.Parts.{Part}
use Rattle.om_model.specs.Slots.{in_slots}
use Rattle.om_model.specs.Tree.{Tree, Branches}
use Rattle.om_model.specs.Tree.Tree.{leaf, join}
use Rattle.om_model.specs.Tree.Branches.{none, and}
use Rattle.om_model.proofs.Counting.{same_times}
use Rattle.om_model.proofs.Filling.{fields, in_slots_filled}
use Rattle.om_model.proofs.Reordering.{in-reordered, length-reordered, reordered_back}
use Rattle.om_graph.specs.declared.Key.{Key}
use Rattle.om_graph.specs.ColoursFit.{CanJoin}
use Rattle.om_graph.specs.Fusion.{HasKey, HaveKeys}
use Rattle.om_graph.specs.TreeKeys.{IsReaction}
use Rattle.om_graph.specs.Vertices.{Fuses, Reaction, branch, fused_slots, fusion, hole_of, partial_in, sets_of, slot_partials, slots_of, upward}
use Rattle.om_graph.specs.Vertices as vertices
use Rattle.om_graph.proofs.ColoursFit.{nodes_join}
use Rattle.om_ring.proofs.Members.{in_map, in_mapped}
use Rattle.om_graph.proofs.SetNodes.{in_by_number, nodes_of, number_of}
use Rattle.om_emit.proofs.LineEnds.{IsExact, nothing_exact, vertex_exact}

-- the same lines
pub same_exact : (begin end behind : ℕ → Bool) (line more : ℕ → ℕ) (x y : ℕ) → ((k : ℕ) → k < 12 → more k ≡ line k) → y ≡ x → IsExact begin end behind line x → IsExact begin end behind more y
same_exact begin end behind line more x y same at h = record {
  begins = λ k l e b. let s = same k l in let p = h.begins k l e b in omega (arith, s, p);
  begun = λ k l p. h.begun k l (let s = same k l in omega (arith, s, p));
  finish = λ k l e b. ⊎_elim (λ j. inl (j.0, j.1, same j.0 j.1 ∙ j.2)) (λ g. inr (at ∙ g)) (h.finish k l e b);
  finished = λ e s l i. h.finished e s l (⊎_elim (λ j. inl (j.0, j.1, sym (same j.0 j.1) ∙ j.2)) (λ g. inr (sym at ∙ g)) i);
  away = λ k l e. h.away k l (sym (same k l) ∙ e);
}

-- four slots at most
part_is : (slots : List (Option Key)) (n : ℕ) → n < 4 → part_at (slot_partials slots) (n + 1) ≡ partial_in (slice_get slots n)
part_is slots zero l = refl
part_is slots (suc zero) l = refl
part_is slots (suc (suc zero)) l = refl
part_is slots (suc (suc (suc zero))) l = refl
part_is slots (suc (suc (suc (suc n)))) l = absurd (omega arith)

behind_in : Option (Option Key) → ℕ → Bool
behind_in None l = false
behind_in (Some None) l = false
behind_in (Some (Some k)) l = holds k.legs l

module _ (begin end : ℕ → Bool) where
  abbrev pub IsExactKey : Key → Type 0
  IsExactKey k = IsExact begin end (λ l. holds k.legs l) (λ j. end_at (Some k.partial) j) k.partial.into

  -- a vertex, by its slots and the nodes that meet there
  module _ (slots : List (Option Key)) (ks : List Key) (few : length slots ≤ 4) (to_slots : (b : Key) → In b ks → In (Some b) slots) (of_slots : (b : Key) → In (Some b) slots → In b ks)
      (count set : ℕ) (w : IsLegSet set) (split : IsSplit count set (sets_of ks)) (each : (b : Key) → In b ks → IsExactKey b)
      (c : Choice) (h : ℕ) (free : part_at (slot_partials slots) h ≡ None) (fit : Fits (slot_partials slots) c h) where
    behind : ℕ → ℕ → Bool
    behind s l = behind_in (slice_get slots (s - 1)) l

    part_of : (s : ℕ) → IsSlot s → part_at (slot_partials slots) s ≡ partial_in (slice_get slots (s - 1))
    part_of s i = let z : s ≡ (s - 1) + 1 = (let a = i.0 in omega arith) in ap (part_at (slot_partials slots)) z ∙ part_is slots (s - 1) (let b = i.1 in let a = i.0 in omega arith)

    exact_in : (o : Option (Option Key)) (n : ℕ) → slice_get slots n ≡ o → IsExact begin end (behind_in o) (λ k. end_at (partial_in o) k) (into_at (partial_in o))
    unfolding behind_in
    exact_in None n e = nothing_exact begin end
    exact_in (Some None) n e = nothing_exact begin end
    exact_in (Some (Some b)) n e = each b (of_slots b (in_by_number slots n (Some b) e))

    parts : (s : ℕ) → IsSlot s → s ≢ h → IsExact begin end (behind s) (λ k. end_at (part_at (slot_partials slots) s) k) (into_at (part_at (slot_partials slots) s))
    unfolding behind
    parts s i n = subst (λ o. IsExact begin end (behind_in (slice_get slots (s - 1))) (λ k. end_at o k) (into_at o)) (sym (part_of s i)) (exact_in (slice_get slots (s - 1)) (s - 1) refl)

    no_part : (o : Option Partial) (p : Partial) → o ≡ None → o ≡ Some p → ⊥
    no_part o p e f = none-some p (sym e ∙ f)

    cover : (l : ℕ) → holds set l ≡ true → (s : ℕ) × IsSlot s × (s ≢ h) × (behind s l ≡ true)
    unfolding behind behind_in
    cover l e =
        let part = leg_part count set (sets_of ks) split l e in
        let key = in_mapped (λ (k : Key). k.legs) part.0 ks part.1 in
        let n = number_of (Some key.0) slots (to_slots key.0 key.1) in
        let small = slice_get_within slots n.0 (Some key.0) n.1 in
        let at : n.0 + 1 - 1 ≡ n.0 = omega arith in
        let found : slice_get slots (n.0 + 1 - 1) ≡ Some (Some key.0) = ap (slice_get slots) at ∙ n.1 in (
          n.0 + 1,
          (omega arith, omega (arith, small, few)),
          (λ q. no_part (part_at (slot_partials slots) (n.0 + 1)) key.0.partial (ap (part_at (slot_partials slots)) q ∙ free) (part_is slots n.0 (omega (arith, small, few)) ∙ ap partial_in n.1)),
          ap (λ o. behind_in o l) found ∙ ap (λ x. holds x l) (sym key.2) ∙ part.2,
        )

    within : (s l : ℕ) → IsSlot s → s ≢ h → behind s l ≡ true → holds set l ≡ true
    unfolding behind behind_in
    within s l i n e = by (slice_get slots (s - 1)) refl e
      where
        by : (o : Option (Option Key)) → slice_get slots (s - 1) ≡ o → behind_in o l ≡ true → holds set l ≡ true
        by None q g = absurd (true≢false (sym g))
        by (Some None) q g = absurd (true≢false (sym g))
        by (Some (Some b)) q g = part_leg count set (sets_of ks) split b.legs l (in_map (λ (k : Key). k.legs) b ks (of_slots b (in_by_number slots (s - 1) (Some b) q))) g

    pub slots_exact : (x : ℕ) → (IsSlot h → x ≡ into_at (part_at (slot_partials slots) (goes_to c h))) → (0 < x → (t : ℕ) × IsSlot t × (t ≢ h) × (into_at (part_at (slot_partials slots) t) ≡ x))
        → IsExact begin end (λ l. holds set l) (joined_end (slot_partials slots) c h) x
    slots_exact x at_hole from_hole = vertex_exact begin end (slot_partials slots) c h free fit (λ l. holds set l) behind parts cover within x at_hole from_hole

-- the slots of a vertex hold what meets there
pub record AreInSlots (r : Reaction) (v : ℕ) (parts : List (Part × Option Key)) : Type 0 where
  pub long : length (slots_of r v parts) ≡ length parts
  pub into : (q : Part × Option Key) → In q parts → In q.1 (slots_of r v parts)
  pub from : (o : Option Key) → In o (slots_of r v parts) → (q : Part × Option Key) × In q parts × (o ≡ q.1)

pub in_their_slots : (r : Reaction) (v : ℕ) (parts : List (Part × Option Key)) → ((k : ℕ) → times_in k (r.scattering.theory.slots v) ≡ times_in k (fields parts)) → AreInSlots r v parts
unfolding slots_of
in_their_slots r v parts h =
    let m = (in_slots_filled r.scattering v parts h).0 in
    record {
      long = length-map (in_slots r.scattering v parts) (λ (q : Part × Option Key). q.1) ∙ length-reordered m;
      into = λ q i. in_map (λ (q : Part × Option Key). q.1) q (in_slots r.scattering v parts) (in-reordered q (reordered_back m) i);
      from = λ o i. let q = in_mapped (λ (q : Part × Option Key). q.1) o (in_slots r.scattering v parts) i in (q.0, in-reordered q.0 m q.1, q.2);
    }

pub branch_fields : (r : Reaction) (ks : List Key) → fields (map (branch r) ks) ≡ vertices.fields_of ks
branch_fields r [] = refl
branch_fields r (k ∷ ks) = ap (λ fs. k.field ∷ fs) (branch_fields r ks)

pub of_branches : (r : Reaction) (b : Key) (ks : List Key) (q : Part × Option Key) → In q (map (branch r) ks) → Some b ≡ q.1 → In b ks
of_branches r b [] q i e = absurd i
of_branches r b (k ∷ ks) q (inl s) e = inl (same_Some b k (e ∙ ap (λ (x : Part × Option Key). x.1) s))
of_branches r b (k ∷ ks) q (inr i) e = inr (of_branches r b ks q i e)

module _ (r : Reaction) (kinds : Kinds) (is : IsReaction r kinds) where
  -- a line begins or ends at a leg
  abbrev pub begins_at : ℕ → Bool
  begins_at l = starts_line (r.colour (r.scattering.field l))

  abbrev pub ends_at : ℕ → Bool
  ends_at l = ends_line (r.colour (r.scattering.field l))

  -- a leg
  leg_exact : (j : ℕ) → 1 ≤ j → j ≤ r.scattering.size → IsExactKey begins_at ends_at ((fusion r).leg j)
  leg_exact j low high =
      let most = is.most in
      let c = r.colour (r.scattering.field j) in
      let at : (k : ℕ) → k < 12 → end_at (Some (leg_partial j c)) k ≡ cond (starts_line c && eqb (k + 1) j) 13 0 = λ k l. each_leg-at (λ k. cond (starts_line c && eqb (k + 1) j) 13 0) k l in
      let held : (k : ℕ) → holds (set_of_one j) k ≡ eqb k j = λ k. holds-set_of_one j k low (omega (arith, high, most)) in
      record {
        begins = λ k l e b.
            let t : eqb (k + 1) j ≡ true = sym (held (k + 1)) ∙ e in
            let s : starts_line c ≡ true = ap begins_at (sym (eqb-true (k + 1) j t)) ∙ b in
            let v : end_at (Some (leg_partial j c)) k ≡ 13 = at k l ∙ ap₂ (λ x y. cond (x && y) 13 0) s t in
            omega (arith, v);
        begun = λ k l p.
            let two = starts (starts_line c) (eqb (k + 1) j) (subst (λ m. 0 < m) (at k l) p) in
            (held (k + 1) ∙ two.1, ap begins_at (eqb-true (k + 1) j two.1) ∙ two.0);
        finish = λ k l e b.
            let t : eqb (k + 1) j ≡ true = sym (held (k + 1)) ∙ e in
            let same = eqb-true (k + 1) j t in
            inr (ap (λ x. cond x j 0) (ap ends_at (sym same) ∙ b) ∙ sym same);
        finished = λ e s l i. ⊎_elim
            (λ g. absurd (not_there (starts_line c && eqb (g.0 + 1) j) (sym (at g.0 g.1) ∙ g.2) s l))
            (λ g. let u = into_is (ends_line c) e g s in let t : eqb e j ≡ true = let q = u.1 in grind (arith, nat_tests) in (held e ∙ t, ap ends_at u.1 ∙ u.0))
            i;
        away = λ k l e. not_there (starts_line c && eqb (k + 1) j) (sym (at k l) ∙ e) (omega arith) (omega arith);
      }
    where
      starts : (a b : Bool) → 0 < cond (a && b) 13 0 → (a ≡ true) × (b ≡ true)
      starts true true l = (refl, refl)
      starts true false l = absurd (omega arith)
      starts false b l = absurd (omega arith)

      not_there : (a : Bool) {e : ℕ} → cond a 13 0 ≡ e → 0 < e → e ≤ 12 → ⊥
      not_there true q s l = omega arith
      not_there false q s l = omega arith

      into_is : (a : Bool) (e : ℕ) → cond a j 0 ≡ e → 0 < e → (a ≡ true) × (e ≡ j)
      into_is true e q s = (refl, sym q)
      into_is false e q s = absurd (omega arith)

  -- a node that nodes fuse to
  fused_exact : (f v ch : ℕ) (ks : List Key) (k : Key) → Fuses r f v ch ks k → CanJoin (slot_partials (fused_slots r f v k.legs ks)) (r.choice v ch) (hole_of (fused_slots r f v k.legs ks))
      → ((b : Key) → In b ks → IsExactKey begins_at ends_at b) → IsExactKey begins_at ends_at k
  unfolding fused_slots
  fused_exact f v ch ks k fuse can each =
      let parts = upward r f k.legs ∷ map (branch r) ks in
      let slots = fused_slots r f v k.legs ks in
      let c = r.choice v ch in
      let h = hole_of slots in
      let q = slot_partials slots in
      let fit : (x : ℕ) → times_in x (r.scattering.theory.slots v) ≡ times_in x (fields parts) = λ x.
      sym (same_times (r.scattering.theory.anti f ∷ vertices.fields_of ks) (r.scattering.theory.slots v) fuse.slots x) ∙ ap (λ fs. times_in x (r.scattering.theory.anti f ∷ fs)) (sym (branch_fields r ks)) in
      let their = in_their_slots r v parts fit in
      let long = their.long in
      let branches = length-map ks (branch r) in
      let few : length ks ≤ 3 = ⊎_elim (λ (e : length ks ≡ 2). omega arith) (λ (e : length ks ≡ 3). omega arith) fuse.counted in
      let made : IsExact begins_at ends_at (λ l. holds k.legs l) (joined_end q c h) (into_at (part_at q (goes_to c h))) =
      slots_exact begins_at ends_at slots ks (omega (arith, long, branches, few)) (λ b i. their.into (branch r b) (inr (in_map (branch r) b ks i))) (λ b i. of_fused b (their.from (Some b) i))
      (length ks) k.legs fuse.legs fuse.split each c h can.free can.fits (into_at (part_at q (goes_to c h))) (λ _. refl)
      (λ p. (goes_to c h, into_slot q c h can.free can.fits (goes_to c h) (can.fits.choice.slots h can.slot) p, can.fits.choice.away h can.slot, refl)) in
      let ends = joined_end q c h in
      let P : Partial → Type 0 = λ x. IsExact begins_at ends_at (λ l. holds k.legs l) (λ j. end_at (Some x) j) x.into in
      subst P (sym fuse.partial) (same_exact begins_at ends_at (λ l. holds k.legs l) ends (λ j. end_at (Some (joined q c h)) j) (into_at (part_at q (goes_to c h))) (into_at (part_at q (goes_to c h))) (λ j l. each_leg-at ends j l) refl made)
    where
      of_fused : (b : Key) → (q : Part × Option Key) × In q (upward r f k.legs ∷ map (branch r) ks) × (Some b ≡ q.1) → In b ks
      of_fused b (q, inl e, s) = absurd (none-some b (ap (λ (x : Part × Option Key). x.1) (sym e) ∙ sym s))
      of_fused b (q, inr i, s) = of_branches r b ks q i s

  first_or_later : (b k : Key) (ks : List Key) → In b (k ∷ ks) → IsExactKey begins_at ends_at k → (In b ks → IsExactKey begins_at ends_at b) → IsExactKey begins_at ends_at b
  first_or_later b k ks (inl e) h later = subst (IsExactKey begins_at ends_at) (sym e) h
  first_or_later b k ks (inr i) h later = later i

  mutual
    unfolding HasKey

    pub node_exact : (t : Tree) (k : Key) → HasKey (fusion r) t k → IsExactKey begins_at ends_at k
    node_exact (leaf j) k h = subst (IsExactKey begins_at ends_at) (sym h.2) (leg_exact j h.0 h.1)
    node_exact (join f v ch bs) k h =
        let fuse = h.2 in
        fused_exact f v ch h.0 k fuse (nodes_join r kinds is f v ch k.legs h.0 (record {
          nodes = nodes_of (fusion r) bs h.0 h.1;
          field = fuse.field;
          vertex = fuse.vertex;
          choice = fuse.choice;
          counted = fuse.counted;
          split = fuse.split;
          slots = fuse.slots;
        })) (branches_exact bs h.0 h.1)

    pub branches_exact : (bs : Branches) (ks : List Key) → HaveKeys (fusion r) bs ks → (b : Key) → In b ks → IsExactKey begins_at ends_at b
    branches_exact none ks h b i = absurd (subst (In b) h i)
    branches_exact (and t bs) ks h b i = first_or_later b h.0 h.1 (subst (In b) h.4 i) (node_exact t h.0 h.2) (λ j. branches_exact bs h.1 h.3 b j)
