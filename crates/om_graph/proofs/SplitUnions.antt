-- A set is the union of the parts of each of its splits.
use Rattle.std.proofs.Common.{◌≡◌, ℕ, ◌+◌, List, [], ◌∷◌, Bool, true, false, ltb, ◌||◌, inl, inr, refl, ap, sym, ◌∙◌, arith}
use Rattle.std.proofs.lemmas.Bool.Decides.{nat_tests}
use Rattle.om_ring.specs.Members.{In}
use Rattle.om_legs.specs.Legs.{IsLegSet, holds}
use Rattle.om_legs.specs.Splits.{IsSplit, times_held}
use Rattle.om_legs.proofs.Bits.{bit, same_sets}
use Rattle.om_legs.proofs.FirstPart.{times_held-cons, IsLegSet-part}
use Rattle.om_legs.proofs.LegLists.{holds_none}
use Rattle.om_legs.proofs.Operations.{holds-union, IsLegSet-union}
use Rattle.om_graph.specs.Vertices.{union_of}

IsLegSet-union_of : (parts : List ℕ) → IsLegSet (union_of parts)
unfolding union_of
IsLegSet-union_of [] = omega arith
IsLegSet-union_of (s ∷ parts) = IsLegSet-union s (union_of parts)

union_holds : (parts : List ℕ) → ((x : ℕ) → In x parts → IsLegSet x) → (k : ℕ) → holds (union_of parts) k ≡ ltb 0 (times_held k parts)
unfolding union_of times_held
union_holds [] h k = holds_none k
union_holds (s ∷ parts) h k =
    holds-union s (union_of parts) k (h s (inl refl)) (IsLegSet-union_of parts)
    ∙ ap (λ b. holds s k || b) (union_holds parts (λ x i. h x (inr i)) k)
    ∙ either_or (holds s k) (times_held k parts)
    ∙ ap (ltb 0) (sym (times_held-cons k s parts))
  where
    either_or : (b : Bool) (m : ℕ) → (b || ltb 0 m) ≡ ltb 0 (bit b + m)
    either_or true m = grind (arith, nat_tests)
    either_or false m = grind (arith, nat_tests)

pub union_is : (c set : ℕ) (parts : List ℕ) → IsLegSet set → IsSplit c set parts → union_of parts ≡ set
union_is c set parts w h = same_sets (union_of parts) set (λ k. union_holds parts (λ x i. IsLegSet-part c set parts w h x i) k ∙ ap (ltb 0) (h.shared k) ∙ some (holds set k))
  where
    some : (b : Bool) → ltb 0 (bit b) ≡ b
    some true = refl
    some false = refl
