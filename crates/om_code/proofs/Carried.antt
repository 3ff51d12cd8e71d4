-- Slots are filled alike whatever the parts carry.
use Rattle.std.proofs.Common.{◌≡◌, ℕ, List, map, sym, ◌∙◌, ap}
use Rattle.om_model.specs.Parts.{Part, sort}
use Rattle.om_model.specs.Slots.{fill}
use Rattle.om_model.proofs.Filling.{carry, fill-map, sort-map}
use Rattle.om_legs.specs.Legs.{least}
use Rattle.om_code.specs.Vertices.{part_of, sorted_into}
use Rattle.om_ring.proofs.Members.{map-map}

module _ {X Y : Type 0} (g : X → Y) (field_of legs_of : Y → ℕ) where
  -- what is sorted into slots may be changed before or behind, where its field and its legs stay
  pub sorted_into-carry : (fields : List ℕ) (xs : List X) → sorted_into field_of legs_of fields (map g xs) ≡ map g (sorted_into (λ x. field_of (g x)) (λ x. legs_of (g x)) fields xs)
  sorted_into-carry fields xs =
      let key : Part × Y → ℕ = λ q. least (legs_of q.1) in
      let parts = map (λ x. (part_of (field_of (g x)) (legs_of (g x)), x)) xs in
      let with_part : Y → Part × Y = λ y. (part_of (field_of y) (legs_of y), y) in
      let with_part_of : X → Part × X = λ x. (part_of (field_of (g x)) (legs_of (g x)), x) in
      let sorted = fill fields (sort (λ q. least (legs_of (g q.1))) parts) in
      ap (λ qs. map (λ q. q.1) (fill fields (sort key qs))) (map-map with_part g xs ∙ sym (map-map (carry g) with_part_of xs))
      ∙ ap (λ qs. map (λ q. q.1) (fill fields qs)) (sort-map (carry g) key parts)
      ∙ ap (λ qs. map (λ q. q.1) qs) (fill-map g fields (sort (λ q. least (legs_of (g q.1))) parts))
      ∙ map-map (λ q. q.1) (carry g) sorted
      ∙ sym (map-map g (λ q. q.1) sorted)
