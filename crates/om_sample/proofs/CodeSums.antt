-- What a code gives for an event: a sum for each flow.
use Rattle.std.proofs.Common.{◌≡◌, ℕ, ◌+◌, ◌<◌, List, [], ◌∷◌, ◌++◌, length, take, get_or, refl, ap, sym, ◌∙◌, subst}
use Rattle.std.specs.Prelude.{Some, slice_get}
use Rattle.std.proofs.lemmas.Option.{get_or_from_slice_get}
use Rattle.std.proofs.lemmas.List.{length-replicate, length-set, take_more}
use Rattle.om_ring.specs.Ops.{Ops, Laws}
use Rattle.om_ring.specs.Sums.{sum_list}
use Rattle.om_ring.proofs.SumLemmas.{sum_over-push}
use Rattle.om_model.specs.FeynmanRules.{Table}
use Rattle.om_code.specs.Meaning.{IsMeaning, MachineAnswer, Values, act, run, sums_of, zeros}
use Rattle.om_code.specs.Slots.{after, at_start}
use Rattle.om_code.specs.Waves.{Incoming}
use Rattle.om_code.specs.declared.code.Code.{Code}
use Rattle.om_code.specs.declared.code.Instr.{Instr}
use Rattle.om_code.specs.declared.code.Instr.TheVariants.{Load, Fuse, Prop, Key}
use Rattle.om_code.specs.declared.slots.Held.{Held}

module _ {E : Type 0} (o : Ops E) where
  module _ (c : Code) (t : Table E) (e : Incoming E) where
    sums_kept : (st : List Held) (v : Values E) (i : Instr) → length (act o c t e st v i).sums ≡ length v.sums
    sums_kept st v (Load to leg) = refl
    sums_kept st v (Fuse to minus vertex choice b) = refl
    sums_kept st v (Prop of den) = refl
    sums_kept st v (Key flow minus vertex choice b) = length-set v.sums flow _

    run_keeps : (st : List Held) (v : Values E) (is : List Instr) → length (run o c t e st v is).sums ≡ length v.sums
    run_keeps st v [] = refl
    run_keeps st v (i ∷ is) = run_keeps (after c st i) (act o c t e st v i) is ∙ sums_kept st v i

    pub sum_for_each_flow : (vs : List E) → vs ≡ sums_of o c t e → length vs ≡ length c.flows
    sum_for_each_flow vs h = ap length h ∙ run_keeps (at_start c) (zeros o c t e) c.instrs ∙ length-replicate (length c.flows) o.zero

  -- the same code, table and event
  pub same_meaning : (c d : Code) (t u : Table E) (e f : Incoming E) (a : MachineAnswer E) → c ≡ d → t ≡ u → e ≡ f → IsMeaning o c t e a → IsMeaning o d u f a
  same_meaning c d t u e f a p q r h = subst (λ x. IsMeaning o d u x a) r (subst (λ x. IsMeaning o d x e a) q (subst (λ x. IsMeaning o x t e a) p h))

  -- one more flow
  pub flow_added : Laws o → (xs : List E) (k : ℕ) (total now x : E) → k < length xs → slice_get xs k ≡ Some x → total ≡ sum_list o (take k xs) → now ≡ o.plus total x → now ≡ sum_list o (take (k + 1) xs)
  flow_added l xs k total now x lt here h e =
      let is : get_or xs k x ≡ x = get_or_from_slice_get xs k x x here in
      e ∙ ap (λ t. o.plus t x) h ∙ sym (sum_over-push o l (take k xs) x (λ y. y)) ∙ ap (λ y. sum_list o (take k xs ++ y ∷ [])) (sym is) ∙ ap (sum_list o) (sym (take_more xs k x lt))
