-- The sizes of the parts of a split add up.
use Rattle.std.proofs.Common.{◌≡◌, ℕ, zero, suc, ◌+◌, List, [], ◌∷◌, ap, ◌∙◌, arith}
use Rattle.std.specs.List.{sum_by}
use Rattle.std.proofs.lemmas.List.Sums.{sum_by-cons}
use Rattle.om_legs.specs.Legs.{IsLegSet, minus, size}
use Rattle.om_legs.specs.Splits.{IsSplit}
use Rattle.om_legs.proofs.FirstPart.{split_of_others, IsFirst-of_split, shares}
use Rattle.om_legs.proofs.Exact.{the_one_part}
use Rattle.om_legs.proofs.Operations.{IsLegSet-minus}
use Rattle.om_legs.proofs.ShareSums.{size-shares}

pub sizes_of_parts : (count set : ℕ) (parts : List ℕ) → IsLegSet set → IsSplit (suc count) set parts → sum_by size parts ≡ size set
sizes_of_parts count set [] w h = absurd (let e = h.counted in omega arith)
sizes_of_parts zero set (part ∷ parts) w h = ap (sum_by size) (the_one_part set (part ∷ parts) h) ∙ plain (size set)
  where
    plain : (n : ℕ) → 0 + n ≡ n
    plain n = omega arith
sizes_of_parts (suc count) set (first ∷ parts) w h =
    let rest = sizes_of_parts count (minus set first) parts (IsLegSet-minus set first) (split_of_others count set w first parts h) in
    let both = size-shares set first (minus set first) (shares set w first (minus set first) (IsFirst-of_split count set w first parts h)) in
    let cons = sum_by-cons size first parts in
    omega arith
