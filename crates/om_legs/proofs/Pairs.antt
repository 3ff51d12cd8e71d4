-- The steps of the walk over the splits into two parts.
use Rattle.std.proofs.Common.{◌≡◌, ℕ, [], ◌∷◌, map, refl, ap, ◌∙◌}
use Rattle.std.specs.List.{flat_map}
use Rattle.om_legs.specs.Legs.{minus}
use Rattle.om_legs.specs.Walks.{without_least, subsets_down, pairs_left, pairs, refined, triples}
use Rattle.om_legs.proofs.Least.{without_least-empty}

pub pairs_left-end : (set rest : ℕ) → pairs_left set rest 0 ≡ []
unfolding pairs_left subsets_down
pairs_left-end set rest = refl

pub pairs_left-step : (set rest second next : ℕ) → subsets_down rest second ≡ second ∷ subsets_down rest next → pairs_left set rest second ≡ (minus set second ∷ second ∷ []) ∷ pairs_left set rest next
unfolding pairs_left
pairs_left-step set rest second next e = ap (map (λ part. minus set part ∷ part ∷ [])) e

pub pairs-empty : pairs 0 ≡ []
pairs-empty = ap (pairs_left 0 (without_least 0)) without_least-empty ∙ pairs_left-end 0 (without_least 0)

pub triples-empty : triples 0 ≡ []
unfolding triples
triples-empty = ap (flat_map (refined pairs)) pairs-empty
