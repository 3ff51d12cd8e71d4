-- Just the keystone forms close, each to its flow.
use Rattle.std.proofs.Common.{◌≡◌, ℕ, ◌≤◌, length, Bool, true, false, cond, not, ◌&&◌, ◌||◌, ◌⊎◌, refl, ap, sym, subst, ◌∙◌, arith, true≢false}
use Rattle.std.proofs.lemmas.Bool.Decides.{nat_tests}
use Rattle.om_ring.specs.Members.{In}
use Rattle.om_legs.specs.Legs as sets
use Rattle.om_legs.specs.Splits.{IsSplit}
use Rattle.om_colour.specs.declared.Flow.{Flow}
use Rattle.om_model.specs.Theory.{Scattering}
use Rattle.om_model.specs.Tree.{Branches, legs, legs_all, count}
use Rattle.om_model.specs.Tree.Branches.{none, and}
use Rattle.om_model.specs.Diagram as diagrams
use Rattle.om_model.specs.Diagram.{times_in, same_numbers, all_in, fits_all}
use Rattle.om_model.specs.Diagrams.{any_in, counts}
use Rattle.om_model.specs.Parts.{within}
use Rattle.om_model.specs.Opened.{Opened}
use Rattle.om_model.specs.Keystone.{is_heavy, all_light}
use Rattle.om_model.specs.Spelled.{is_opened}
use Rattle.om_model.specs.Hung.{hung}
use Rattle.om_model.specs.EdgeLaw.{behind_all, is_uncut, are_uncut_in, IsProper}
use Rattle.om_model.specs.ColourLines.{flow_at}
use Rattle.om_model.specs.FermionLines.{Kinds}
use Rattle.om_model.specs.LegSets.{leg_set}
use Rattle.om_model.proofs.Counting.{both, of_all_in}
use Rattle.om_ring.proofs.Members.{in_map, in_mapped}
use Rattle.om_model.proofs.EdgesUncut.{all_of, both_true}
use Rattle.om_model.proofs.OpenedEdges.{opened_counts}
use Rattle.om_model.proofs.SpelledFacts.{opened_facts}
use Rattle.om_keystone.specs.InDiagrams.{IsOpened}
use Rattle.om_keystone.proofs.Forms.{IsForm}
use Rattle.om_graph.specs.Vertices.{Reaction, Closes, fusion, is_outward, sets_of, keeps_edges, lies_in}
use Rattle.om_graph.specs.TreeKeys.{colours_in, IsReaction, keys_of}
use Rattle.om_graph.proofs.TreeSplits.{AllSubtrees, sets_in, split_of, split_ordered, split_whole, whole_times}
use Rattle.om_graph.proofs.TreeSlots.{flow_is}
use Rattle.om_graph.proofs.TreeEdges.{parts_same}
use Rattle.om_graph.proofs.KeysOfSides.{AreSides, subtrees_of, all_fit, all_uncut, sets_are, fields_are, length_keys, outward_of, first_once, rest_once, sides_of, keys_at, opened_of}

module _ (r : Reaction) (kinds : Kinds) (is : IsReaction r kinds) where
  abbrev s : Scattering
  s = r.scattering

  abbrev n : ℕ
  n = r.scattering.size

  light_parts : (bs : Branches) → AreSides r kinds is bs → all_light n bs ≡ true
  unfolding all_light
  light_parts none y = refl
  light_parts (and t bs) y = both_true (not (is_heavy n (legs t))) (all_light n bs) (ap not y.0.light) (light_parts bs y.1)

  outward_parts : (bs : Branches) → AreSides r kinds is bs → all_in (is_outward n) (sets_in bs) ≡ true
  unfolding all_in
  outward_parts none y = refl
  outward_parts (and t bs) y = both_true (is_outward n (leg_set t)) (all_in (is_outward n) (sets_in bs)) (outward_of r kinds is t y.0.subtree y.0.light) (outward_parts bs y.1)

  edges_same : (e : ℕ) → In e r.edges → (bs : Branches) → AllSubtrees s bs
      → any_in (λ part. lies_in e part || lies_in (sets.complement e n) part) (sets_of (keys_of r bs)) ≡ is_uncut n (sets.holds e) (behind_all bs)
  edges_same e i bs ys =
      ap (any_in (λ part. lies_in e part || lies_in (sets.complement e n) part)) (sets_are r kinds is bs)
      ∙ parts_same n e is.most (is.sets e i) (λ k h. is.bounded e k i h) s refl bs ys

  named_proper : (set : ℕ → Bool) → In set s.edges → IsProper n set
  named_proper set i = let m = in_mapped sets.holds set r.edges (subst (In set) is.named i) in subst (IsProper n) (sym m.2) (is.proper m.0 m.1)

  abbrev IsUncutAt : Branches → (ℕ → Bool) → Bool
  IsUncutAt bs set = is_uncut n set (behind_all bs) && are_uncut_in n set bs

  counted : (a : Opened) → is_opened s a ≡ true → ((e : ℕ) → In e r.edges → IsUncutAt a.parts (sets.holds e) ≡ true) → counts s (hung s a) ≡ true
  counted a o h = opened_counts s is.fields named_proper a o ∙ all_of (IsUncutAt a.parts) s.edges (λ set i.
      let m = in_mapped sets.holds set r.edges (subst (In set) is.named i) in ap (IsUncutAt a.parts) m.2 ∙ h m.0 m.1)

  uncut : (a : Opened) → is_opened s a ≡ true → counts s (hung s a) ≡ true → (e : ℕ) → In e r.edges → IsUncutAt a.parts (sets.holds e) ≡ true
  uncut a o c e i = of_all_in (IsUncutAt a.parts) (sets.holds e) s.edges (sym (opened_counts s is.fields named_proper a o) ∙ c) (subst (In (sets.holds e)) (sym is.named) (in_map sets.holds e r.edges i))

  closing_form : (v c : ℕ) (bs : Branches) (w : Flow) → AreSides r kinds is bs → Closes r v c (keys_of r bs) w
      → let a : Opened = record { vertex = v; choice = c; parts = bs } in IsForm s a × (w ≡ flow_at s (colours_in r) a)
  unfolding keeps_edges
  closing_form v c bs w y close =
      let a : Opened = record { vertex = v; choice = c; parts = bs } in
      let ys = subtrees_of r kinds is bs y in
      let split : IsSplit (length (keys_of r bs)) (sets.all_legs n) (sets_in bs) = subst (IsSplit (length (keys_of r bs)) (sets.all_legs n)) (sets_are r kinds is bs) close.split in
      let opened : is_opened s a ≡ true = opened_of r kinds is v c bs close.vertex close.choice (subst (λ m. (m ≡ 3) ⊎ (m ≡ 4)) (length_keys r kinds is bs) close.counted)
      (split_ordered s is.most (length (keys_of r bs)) (sets.all_legs n) bs ys split)
      (subst (λ fs. same_numbers fs (s.theory.slots v) ≡ true) (fields_are r kinds is bs) close.slots)
      (all_fit r kinds is bs y) (split_whole s is.most (length (keys_of r bs)) bs ys split) in (
        record {
          opened = opened;
          keystone = light_parts bs y;
          counted = counted a opened (λ e i. both_true (is_uncut n (sets.holds e) (behind_all bs)) (are_uncut_in n (sets.holds e) bs)
              (sym (edges_same e i bs ys) ∙ of_all_in (λ e. any_in (λ part. lies_in e part || lies_in (sets.complement e n) part) (sets_of (keys_of r bs))) e r.edges close.edges i)
              (all_uncut r kinds is e i bs y));
        },
        close.flow ∙ sym (flow_is r is.most is.colours a opened ys),
      )

  -- the parts of a keystone form are sides
  part_sides : (bs : Branches) → AllSubtrees s bs → all_light n bs ≡ true → ((e : ℕ) → In e r.edges → are_uncut_in n (sets.holds e) bs ≡ true) → AreSides r kinds is bs
  unfolding all_light are_uncut_in
  part_sides none ys l u = tt
  part_sides (and t bs) ys l u =
      let b = both (not (is_heavy n (legs t))) (all_light n bs) l in (
        record { subtree = ys.0; light = not_true (is_heavy n (legs t)) b.0; uncut = λ e i. (both _ (are_uncut_in n (sets.holds e) bs) (u e i)).0 },
        part_sides bs ys.1 b.1 (λ e i. (both _ (are_uncut_in n (sets.holds e) bs) (u e i)).1),
      )
    where
      not_true : (b : Bool) → not b ≡ true → b ≡ false
      not_true true h = absurd (true≢false (sym h))
      not_true false h = refl

  subtrees_at : (bs : Branches) → fits_all s bs ≡ true → ((k : ℕ) → times_in k (legs_all bs) ≤ cond (within n k) 1 0) → AllSubtrees s bs
  unfolding fits_all
  subtrees_at none f o = tt
  subtrees_at (and t bs) f o = let b = both (diagrams.fits s t) (fits_all s bs) f in (record { joins = b.0; once = first_once r kinds is t bs o }, subtrees_at bs b.1 (rest_once r kinds is t bs o))

  slots_at : (v c : ℕ) (bs : Branches) → is_opened s (record { vertex = v; choice = c; parts = bs }) ≡ true → same_numbers (diagrams.fields_of s bs) (s.theory.slots v) ≡ true
  unfolding is_opened
  slots_at v c bs h = grind (arith, nat_tests)

  pub closes_of : (a : Opened) → IsForm s a → IsOpened (fusion r) a (flow_at s (colours_in r) a)
  unfolding keeps_edges
  closes_of a form =
      let bs = a.parts in
      let y = opened_facts s a.vertex a.choice bs form.opened in
      let ys = subtrees_at bs y.trees (λ k. let e = y.whole.once k in omega (arith, e)) in
      let zs = part_sides bs ys form.keystone (λ e i. (both (is_uncut n (sets.holds e) (behind_all bs)) (are_uncut_in n (sets.holds e) bs) (uncut a form.opened form.counted e i)).1) in
      record {
        keys = keys_of r bs;
        have = keys_at r kinds is bs zs;
        close = record {
          vertex = y.vertex;
          choice = y.choice;
          counted = subst (λ m. (m ≡ 3) ⊎ (m ≡ 4)) (sym (length_keys r kinds is bs)) y.number;
          split = subst (λ m. IsSplit m (sets.all_legs n) (sets_of (keys_of r bs))) (sym (length_keys r kinds is bs))
              (subst (IsSplit (count bs) (sets.all_legs n)) (sym (sets_are r kinds is bs)) (split_of s is.most (sets.all_legs n) bs ys (whole_times s is.most bs y.whole.once) y.ordered));
          outward = subst (λ ss. all_in (is_outward n) ss ≡ true) (sym (sets_are r kinds is bs)) (outward_parts bs zs);
          slots = subst (λ fs. same_numbers fs (s.theory.slots a.vertex) ≡ true) (sym (fields_are r kinds is bs)) (slots_at a.vertex a.choice bs form.opened);
          edges = all_of (λ e. any_in (λ part. lies_in e part || lies_in (sets.complement e n) part) (sets_of (keys_of r bs))) r.edges
              (λ e i. edges_same e i bs ys ∙ (both (is_uncut n (sets.holds e) (behind_all bs)) (are_uncut_in n (sets.holds e) bs) (uncut a form.opened form.counted e i)).0);
          flow = flow_is r is.most is.colours a form.opened ys;
        };
      }

  pub forms_of : (a : Opened) (w : Flow) → IsOpened (fusion r) a w → IsForm s a × (w ≡ flow_at s (colours_in r) a)
  forms_of a w h =
      let y = sides_of r kinds is a.parts h.keys h.have in
      closing_form a.vertex a.choice a.parts w y.0 (subst (λ ks. Closes r a.vertex a.choice ks w) y.1 h.close)
