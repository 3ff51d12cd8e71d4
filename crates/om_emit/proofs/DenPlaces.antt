-- The denominators of a canonical graph: their places, and that each is one of an inner edge.
use Rattle.std.proofs.Common.{◌≡◌, ℕ, zero, suc, ◌+◌, ◌-◌, ◌<◌, ◌≤◌, List, [], ◌∷◌, length, Bool, true, false, cond, ◌&&◌, not, leb, inl, inr, refl, sym, ◌∙◌, ap, ap₂, arith, true≢false}
use Rattle.std.specs.Prelude.{Option, Some, slice_get, ◌==◌, if◌then◌else◌}
use Rattle.std.specs.List.Sorted.{IsStrictlySortedBy}
use Rattle.std.specs.Ordering.{is_eq, ordering_reverse}
use Rattle.std.specs.declared.cmp.Ordering.{Ordering}
use Rattle.std.specs.declared.cmp.Ordering.TheVariants.{Less, Equal, Greater}
use Rattle.std.proofs.lemmas.Bool.Decides.{nat_tests}
use Rattle.std.proofs.lemmas.Option.{same_Some, slice_get_within, none-some}
use Rattle.om_ring.specs.Members.{In}
use Rattle.om_legs.specs.Legs.{IsLegSet, all_legs, complement, holds, legs_of, minus, set_of, size}
use Rattle.om_legs.proofs.Bits.{same_sets, leg_range}
use Rattle.om_legs.proofs.Least.{IsSubset_from}
use Rattle.om_legs.proofs.LegLists.{holds_none}
use Rattle.om_legs.proofs.Operations.{IsLegSet-all_legs, holds-all_legs, holds-complement, holds-minus, complement-minus, IsLegSet-complement}
use Rattle.om_legs.proofs.Shares.{AreShares-minus}
use Rattle.om_legs.proofs.ShareSums.{size-shares}
use Rattle.om_code.specs.declared.code.Code.{Code}
use Rattle.om_code.specs.declared.code.Den.{Den}
use Rattle.om_code.specs.DenOrder.{den_order}
use Rattle.om_code.specs.declared.slots.Held.{Held}
use Rattle.om_code.specs.Rules.{IsInner, is_den_of, size_of}
use Rattle.om_model.specs.Model.{anti_field}
use Rattle.om_graph.specs.declared.Key.{Key}
use Rattle.om_emit.specs.GraphCode.{den_of, place_of}
use Rattle.om_emit.proofs.DenEdges.{same_den}
use Rattle.om_emit.proofs.DensInOrder.{dens_total}
use Rattle.om_emit.proofs.HeldFinds.{and_both}

-- how many legs there are
pub all_size : (n : ℕ) → n ≤ 12 → size (all_legs n) ≡ n
unfolding size all_legs holds legs_of set_of
all_size zero l = refl
all_size (suc zero) l = refl
all_size (suc (suc zero)) l = refl
all_size (suc (suc (suc zero))) l = refl
all_size (suc (suc (suc (suc zero)))) l = refl
all_size (suc (suc (suc (suc (suc zero))))) l = refl
all_size (suc (suc (suc (suc (suc (suc zero)))))) l = refl
all_size (suc (suc (suc (suc (suc (suc (suc zero))))))) l = refl
all_size (suc (suc (suc (suc (suc (suc (suc (suc zero)))))))) l = refl
all_size (suc (suc (suc (suc (suc (suc (suc (suc (suc zero))))))))) l = refl
all_size (suc (suc (suc (suc (suc (suc (suc (suc (suc (suc zero)))))))))) l = refl
all_size (suc (suc (suc (suc (suc (suc (suc (suc (suc (suc (suc zero))))))))))) l = refl
all_size (suc (suc (suc (suc (suc (suc (suc (suc (suc (suc (suc (suc zero)))))))))))) l = refl
all_size (suc (suc (suc (suc (suc (suc (suc (suc (suc (suc (suc (suc (suc n))))))))))))) l = absurd (omega arith)

-- sets of the legs 1 to n
abbrev pub IsWithin : ℕ → ℕ → Type 0
IsWithin n set = (leg : ℕ) → holds set leg ≡ true → leg ≤ n

module _ (n : ℕ) (few : n ≤ 12) where
  in_all_legs : (set leg : ℕ) → IsLegSet set → IsWithin n set → holds set leg ≡ true → holds (all_legs n) leg ≡ true
  in_all_legs set leg w h e = let range = leg_range set leg w e in let l = h leg e in holds-all_legs n leg few range.0 ∙ (let t : leb leg n ≡ true = grind (arith, nat_tests) in t)

  minus_all : (set : ℕ) → IsLegSet set → IsWithin n set → minus set (all_legs n) ≡ 0
  minus_all set w h = same_sets (minus set (all_legs n)) 0 (λ leg. holds-minus set (all_legs n) leg w ∙ none (holds set leg) (holds (all_legs n) leg) (in_all_legs set leg w h) ∙ sym (holds_none leg))
    where
      none : (a b : Bool) → (a ≡ true → b ≡ true) → (a && not b) ≡ false
      none true true f = refl
      none true false f = absurd (true≢false (sym (f refl)))
      none false b f = refl

  complement_within : (set : ℕ) → IsWithin n (complement set n)
  complement_within set leg e =
      let range = leg_range (complement set n) leg (IsLegSet-complement set n) e in
      small (leb leg n) (not (holds set leg)) refl (sym (holds-complement set n leg few range.0) ∙ e)
    where
      small : (a b : Bool) → leb leg n ≡ a → (a && b) ≡ true → leg ≤ n
      small true b t f = grind (arith, nat_tests)
      small false b t f = absurd (true≢false (sym f))

  complement_size : (set : ℕ) → IsLegSet set → IsWithin n set → size (complement set n) + size set ≡ n
  complement_size set w h =
      let shares = AreShares-minus (all_legs n) set (IsLegSet-all_legs n) w (IsSubset_from set (all_legs n) w (λ leg e. in_all_legs set leg w h e)) in
      ap (λ s. size s + size set) (sym (complement-minus set n few)) ∙ sym (size-shares (all_legs n) (minus (all_legs n) set) set shares) ∙ all_size n few

  -- the side without leg 1 of an inner edge
  pub side_inner : (set : ℕ) → IsLegSet set → IsWithin n set → 2 ≤ size set → size set + 2 ≤ n → (b : Bool) → holds set 1 ≡ b → IsInner n (cond b (complement set n) set)
  side_inner set w h two most true e =
      let sizes = complement_size set w h in
      record {
        without_first = holds-complement set n 1 few (omega arith) ∙ ap (λ b. leb 1 n && not b) e ∙ and_false (leb 1 n);
        within = minus_all (complement set n) (IsLegSet-complement set n) (complement_within set);
        several = omega (arith, sizes, most);
        most = omega (arith, sizes, two);
      }
    where
      and_false : (a : Bool) → (a && false) ≡ false
      and_false true = refl
      and_false false = refl
  side_inner set w h two most false e = record { without_first = e; within = minus_all set w h; several = two; most = most }

-- denominators that compare alike are one
equal_self : (a : Ordering) (d : Den) → den_order d d ≡ a → is_eq a ≡ true
equal_self Equal d e = refl
equal_self Less d e = absurd (let g : Less ≡ Greater = sym e ∙ dens_total.antisymm d d ∙ ap ordering_reverse e in cc)
equal_self Greater d e = absurd (let g : Greater ≡ Less = sym e ∙ dens_total.antisymm d d ∙ ap ordering_reverse e in cc)

-- the place of a denominator
pub place_there : (dens : List Den) (d : Den) → In d dens → slice_get dens (place_of dens d) ≡ Some d
unfolding place_of
place_there [] d i = absurd i
place_there (x ∷ xs) d i = by (den_order d x) refl (λ j. place_there xs d j) i
  where
    later : slice_get (x ∷ xs) (1 + place_of xs d) ≡ slice_get xs (place_of xs d)
    later = let z : 1 + place_of xs d ≡ suc (place_of xs d) = omega arith in ap (slice_get (x ∷ xs)) z

    by : (a : Ordering) → den_order d x ≡ a → (In d xs → slice_get xs (place_of xs d) ≡ Some d) → In d (x ∷ xs) → slice_get (x ∷ xs) (cond (not (is_eq a)) (1 + place_of xs d) 0) ≡ Some d
    by Equal e ih j = ap (λ y. let some : Option Den = Some y in some) (sym (same_den d x e))
    by Less e ih (inl s) = absurd (true≢false (sym (equal_self (den_order d x) d (ap (den_order d) s)) ∙ ap is_eq e))
    by Less e ih (inr j) = later ∙ ih j
    by Greater e ih (inl s) = absurd (true≢false (sym (equal_self (den_order d x) d (ap (den_order d) s)) ∙ ap is_eq e))
    by Greater e ih (inr j) = later ∙ ih j

pub place_within : (dens : List Den) (d : Den) → In d dens → place_of dens d < length dens
place_within dens d i = slice_get_within dens (place_of dens d) d (place_there dens d i)

same_test : (n : ℕ) → (n == n) ≡ true
same_test n = grind (arith, nat_tests)

-- the denominator of a node is that of what its register gathers
pub den_is : (c : Code) (n : ℕ) (anti : ℕ → ℕ) (node : Key) (h : Held) → size_of c ≡ n → anti_field c.model.particles ≡ anti → h.legs ≡ node.legs → h.field ≡ node.field → is_den_of c h (Some (den_of anti n node)) ≡ true
unfolding den_of
den_is c n anti node h size anti_is legs field =
    ap₂ (λ (m : ℕ) (a : ℕ → ℕ). test m a h.legs h.field) size anti_is ∙ ap₂ (λ l f. test n anti l f) legs field ∙ by (holds node.legs 1)
  where
    test : ℕ → (ℕ → ℕ) → ℕ → ℕ → Bool
    test m a l f =
        let d : Den = if holds node.legs 1 then record { legs = complement node.legs n; field = anti node.field } else record { legs = node.legs; field = node.field } in
        cond (holds l 1) (complement l m == d.legs && a f == d.field) (l == d.legs && f == d.field)

    by : (b : Bool) → (let d : Den = if b then record { legs = complement node.legs n; field = anti node.field } else record { legs = node.legs; field = node.field } in
        cond b (complement node.legs n == d.legs && anti node.field == d.field) (node.legs == d.legs && node.field == d.field)) ≡ true
    by true = and_both (complement node.legs n == complement node.legs n) (anti node.field == anti node.field) (same_test (complement node.legs n)) (same_test (anti node.field))
    by false = and_both (node.legs == node.legs) (node.field == node.field) (same_test node.legs) (same_test node.field)

-- each denominator is behind the one before it
next_behind : (dens : List Den) → IsStrictlySortedBy den_order dens → (k : ℕ) (d earlier : Den) → slice_get dens (suc k) ≡ Some d → slice_get dens k ≡ Some earlier → den_order earlier d ≡ Less
unfolding IsStrictlySortedBy
next_behind [] s k d earlier e f = absurd (none-some d e)
next_behind (x ∷ []) s k d earlier e f = absurd (none-some d e)
next_behind (x ∷ y ∷ xs) s zero d earlier e f = ap₂ den_order (sym (same_Some x earlier f)) (sym (same_Some y d e)) ∙ s.0.0
next_behind (x ∷ y ∷ xs) s (suc k) d earlier e f = next_behind (y ∷ xs) s.1 k d earlier e f

pub behind_earlier : (dens : List Den) → IsStrictlySortedBy den_order dens → (k : ℕ) (d earlier : Den) → slice_get dens k ≡ Some d → 1 ≤ k → slice_get dens (k - 1) ≡ Some earlier → den_order earlier d ≡ Less
behind_earlier dens s k d earlier e l f = let z : k ≡ suc (k - 1) = omega arith in next_behind dens s (k - 1) d earlier (ap (slice_get dens) (sym z) ∙ e) f
