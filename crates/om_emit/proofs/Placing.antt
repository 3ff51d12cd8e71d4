-- Instructions that are replaced one after the other.
use Rattle.std.proofs.Common.{◌≡◌, ℕ, zero, suc, ◌+◌, ◌<◌, List, [], ◌∷◌, ◌++◌, length, map, take, drop, get_or, slice_get, slice_set, Some, sym, ◌∙◌, ap, ap₂, subst, arith, append_assoc}
use Rattle.std.specs.Prelude.{All}
use Rattle.std.specs.List.{AllByRecursion}
use Rattle.std.proofs.lemmas.List.{map-set, map-append, length-map, take_more}
use Rattle.std.proofs.lemmas.Option.{get_or_from_slice_get}
use Rattle.std.proofs.Math.ListN.{get_or-map}
use Rattle.om_graph.proofs.AddedTerms.{set_next}
use Rattle.om_graph.specs.declared.KeyTerm.{KeyTerm}
use Rattle.om_legs.specs.BranchNodes.{nodes_of}
use Rattle.om_code.specs.declared.code.Instr.{Instr}
use Rattle.om_code.specs.Ops.{Op, op_of}

-- one more operation changed
pub ops_more : (f : Op → Op) (xs now new : List Instr) (k : ℕ) (old put : Instr) → k < length xs → map op_of now ≡ map f (take k (map op_of xs)) ++ drop k (map op_of xs) → slice_get now k ≡ Some old → op_of put ≡ f (op_of old) → new ≡ slice_set now k put
    → map op_of new ≡ map f (take (k + 1) (map op_of xs)) ++ drop (k + 1) (map op_of xs)
ops_more f xs now new k old put l e is same set =
    let many : k < length (map op_of xs) = (let n = length-map xs op_of in omega (arith, n, l)) in
    let there : get_or (map op_of now) k (op_of old) ≡ op_of old = get_or-map op_of now k old ∙ ap op_of (get_or_from_slice_get now k old old is) in
    ap (map op_of) set ∙ map-set op_of now k put ∙ ap (slice_set (map op_of now) k) (same ∙ ap f (sym there)) ∙ set_next f (map op_of xs) (map op_of now) k (op_of old) many e

-- one more member put that is as wanted
holds_at : {A : Type 0} (P : A → Type 0) (xs : List A) (k : ℕ) (x : A) → k < length xs → AllByRecursion P (take k xs) → P x → AllByRecursion P (take (suc k) (slice_set xs k x))
holds_at P [] k x l h p = absurd (omega (arith, l))
holds_at P (y ∷ xs) zero x l h p = (p, tt)
holds_at P (y ∷ xs) (suc k) x l h p = (h.0, holds_at P xs k x (omega (arith, l)) h.1 p)

pub holds_more : {A : Type 0} (P : A → Type 0) (now new : List A) (k : ℕ) (x : A) → k < length now → AllByRecursion P (take k now) → P x → new ≡ slice_set now k x → AllByRecursion P (take (k + 1) new)
holds_more P now new k x l h p set =
    let n : suc k ≡ k + 1 = omega arith in
    subst (λ j. AllByRecursion P (take j new)) n (subst (λ ys. AllByRecursion P (take (suc k) ys)) (sym set) (holds_at P now k x l h p))

-- one more operation behind others
pub pushed_ops : {A : Type 0} (f : A → Op) (keys : List A) (old now new : List Instr) (k : ℕ) (key : A) (put : Instr) → k < length keys → key ≡ get_or keys k key → op_of put ≡ f key → new ≡ now ++ put ∷ [] → map op_of now ≡ map op_of old ++ map f (take k keys)
    → map op_of new ≡ map op_of old ++ map f (take (k + 1) keys)
pushed_ops f keys old now new k key put l at same e h =
    let next : take (k + 1) keys ≡ take k keys ++ key ∷ [] = take_more keys k key l ∙ ap (λ x. take k keys ++ x ∷ []) (sym at) in
    ap (map op_of) e ∙ map-append op_of now (put ∷ []) ∙ ap₂ (λ xs x. xs ++ x ∷ []) h same
    ∙ append_assoc (map op_of old) (map f (take k keys)) (f key ∷ [])
    ∙ ap (λ xs. map op_of old ++ xs) (sym (ap (map f) next ∙ map-append f (take k keys) (key ∷ [])))

holds_behind : {A : Type 0} (P : A → Type 0) (xs : List A) (x : A) → AllByRecursion P xs → P x → AllByRecursion P (xs ++ x ∷ [])
holds_behind P [] x h p = (p, tt)
holds_behind P (y ∷ xs) x h p = (h.0, holds_behind P xs x h.1 p)

pub holds_pushed : {A : Type 0} (P : A → Type 0) (now new : List A) (x : A) → AllByRecursion P now → P x → new ≡ now ++ x ∷ [] → AllByRecursion P new
holds_pushed P now new x h p e = subst (AllByRecursion P) (sym e) (holds_behind P now x h p)

-- what holds of each member holds at each place
all_of_each : {A : Type 0} (P : A → Type 0) (xs : List A) → AllByRecursion P xs → All P xs
all_of_each P [] h k d l = absurd (omega (arith, l))
all_of_each P (x ∷ xs) h zero d l = h.0
all_of_each P (x ∷ xs) h (suc k) d l = all_of_each P xs h.1 k d (omega (arith, l))
