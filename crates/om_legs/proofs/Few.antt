-- The walks are short enough to be counted.
use Rattle.std.proofs.Common.{ℕ, zero, suc, ◌*◌, ◌^◌, ◌<◌, ◌≤◌, List, [], ◌∷◌, length, Bool, true, false, cond, eqb, arith}
use Rattle.std.specs.List.{flat_map}
use Rattle.std.proofs.lemmas.List.{length-map}
use Rattle.std.proofs.lemmas.List.Concat.{length-flat_map}
use Rattle.std.proofs.lemmas.List.Sums.{sum_by-le}
use Rattle.std.proofs.lemmas.Nat.{mul-le}
use Rattle.om_legs.specs.Legs.{meeting, minus, least, set_of_one}
use Rattle.om_legs.specs.Walks.{without_least, subsets_down, pairs_left, pairs, refined, triples, quadruples}
use Rattle.om_legs.proofs.Operations.{IsLegSet-minus}

length-subsets_down : (r n : ℕ) → length (subsets_down r n) ≤ n
unfolding subsets_down
length-subsets_down r zero = omega arith
length-subsets_down r (suc n) = by (eqb (meeting (suc n) r) (suc n)) (length-subsets_down r n)
  where
    by : (b : Bool) → length (subsets_down r n) ≤ n → length (cond b (suc n ∷ subsets_down r n) (subsets_down r n)) ≤ suc n
    by true h = omega arith
    by false h = omega arith

pub length-pairs : (set : ℕ) → length (pairs set) < 2 ^ 12
unfolding pairs_left
length-pairs set =
    let rest = without_least set in
    let e = length-map (subsets_down rest rest) (λ part. minus set part ∷ part ∷ []) in
    let l = length-subsets_down rest rest in
    let w = IsLegSet-minus set (set_of_one (least set)) in
    omega arith

-- the others of each pair have at most m splits
length-refined : (splits : ℕ → List (List ℕ)) (m : ℕ) → ((set : ℕ) → length (splits set) ≤ m) → (x : List ℕ) → length (refined splits x) ≤ m
length-refined splits m h [] = omega arith
length-refined splits m h (first ∷ []) = omega arith
length-refined splits m h (first ∷ others ∷ []) = let e = length-map (splits others) (λ parts. first ∷ parts) in let l = h others in omega arith
length-refined splits m h (first ∷ others ∷ x ∷ xs) = omega arith

length-refined_pairs : (splits : ℕ → List (List ℕ)) (m : ℕ) → ((set : ℕ) → length (splits set) ≤ m) → (set : ℕ) → length (flat_map (refined splits) (pairs set)) ≤ 4095 * m
length-refined_pairs splits m h set =
    let xs = pairs set in
    let e = length-flat_map (refined splits) xs in
    let s = sum_by-le (λ x. length (refined splits x)) m xs (λ k d l. length-refined splits m h _) in
    let p = mul-le (length xs) m 4095 m (let l = length-pairs set in omega arith) (omega arith) in
    omega arith

pub length-triples : (set : ℕ) → length (triples set) < 2 ^ 24
unfolding triples
length-triples set = let l = length-refined_pairs pairs 4095 (λ u. (let p = length-pairs u in omega arith)) set in omega arith

pub length-quadruples : (set : ℕ) → length (quadruples set) < 2 ^ 36
unfolding quadruples
length-quadruples set = let l = length-refined_pairs triples 16777215 (λ u. (let p = length-triples u in omega arith)) set in omega arith
