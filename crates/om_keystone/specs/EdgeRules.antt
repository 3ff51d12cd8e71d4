-- An edge by what a vertex sees of it: its name, and its propagator.
use Rattle.std.specs.Prelude.{ℕ, ◌/◌, List, [], ◌∷◌, cond, unwrap_or}
use Rattle.om_ring.specs.Ops.{Ops}
use Rattle.om_model.specs.Theory.{Scattering}
use Rattle.om_model.specs.Parts.{Part, others}
use Rattle.om_model.specs.Event.{Event, members, momentum_of}
use Rattle.om_model.specs.FeynmanRules.{FeynmanRules}
use Rattle.om_model.specs.Propagator.{EdgeName, denominator}

module _ (s : Scattering) where
  -- an edge, seen from its other end
  abbrev pub opposite : Part → Part
  opposite q = record { field = s.theory.anti q.field; behind = others s.size q.behind }

  -- the name of an edge that is seen so: its side without leg 1, and the field that leaves that side
  unfoldable pub name_of : Part → EdgeName
  name_of q = cond (q.behind 1)
      (record { legs = members s.size (others s.size q.behind); field = s.theory.anti q.field })
      (record { legs = members s.size q.behind; field = q.field })

-- some parts, each with an index
unfoldable pub with_indices : List Part → List ℕ → List (Part × ℕ)
with_indices [] is = []
with_indices (q ∷ qs) [] = []
with_indices (q ∷ qs) (i ∷ is) = (q, i) ∷ with_indices qs is

module _ {E : Type 0} (o : Ops E) (s : Scattering) (r : FeynmanRules E) (e : Event E) where
  -- the propagator of an edge that is seen so from its upper end, by the indices at the upper and the lower end
  unfoldable pub propagator_of : Part → ℕ → ℕ → E
  propagator_of q i j =
      o.times (r.numerator q.field (momentum_of o e (members s.size q.behind)) (momentum_of o e (members s.size (others s.size q.behind))) i j)
      (o.times (r.norm (q.field / 2)) (unwrap_or (o.inverse (denominator o r e (name_of s q))) o.zero))
