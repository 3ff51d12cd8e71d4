-- There is one list of all splits of a set.
use Rattle.std.proofs.Common.{◌≡◌, ℕ, List, [], ◌∷◌, sym, ◌∙◌}
use Rattle.om_legs.specs.Splits.{AreSplits, IsBefore}
use Rattle.om_legs.proofs.Members.{Contains-from_In, In-from_Contains, Rising, Rising-from_AllPairs}
use Rattle.om_model.specs.Order.{Rising as RisingBy, numbers_lt}
use Rattle.om_model.proofs.Rising.{numbers_order, rising_unique}
use Rattle.om_graph.proofs.FoundOrder.{lists_agree}
use Rattle.om_graph.proofs.Lists.{before_all}

rises : (xs : List (List ℕ)) → Rising IsBefore xs → RisingBy numbers_lt xs
rises [] h = tt
rises (x ∷ xs) h = (before_all numbers_lt x xs (λ y i. sym (lists_agree x y) ∙ h.0 y i), rises xs h.1)

pub same_splits : (count set : ℕ) (xs ys : List (List ℕ)) → AreSplits count set xs → AreSplits count set ys → xs ≡ ys
same_splits count set xs ys h g =
    rising_unique numbers_lt numbers_order xs ys (rises xs (Rising-from_AllPairs IsBefore xs h.rising)) (rises ys (Rising-from_AllPairs IsBefore ys g.rising))
    (λ z i. In-from_Contains ys z ((g.members z).1 ((h.members z).0 (Contains-from_In xs z i))))
    (λ z i. In-from_Contains xs z ((h.members z).1 ((g.members z).0 (Contains-from_In ys z i))))
