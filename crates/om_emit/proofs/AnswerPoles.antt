-- The first denominator of a code of a canonical graph that has no inverse names the least pole.
use Rattle.std.proofs.Common.{◌≡◌, ℕ, List, [], ◌∷◌, Bool, true, false, ◌⊎◌, inl, inr, Option, Some, None, refl, ap, ap₂, sym, subst, ◌∙◌}
use Rattle.std.specs.List.{AllByRecursion}
use Rattle.std.specs.List.Sorted.{IsStrictlySortedBy}
use Rattle.std.specs.Ordering.{ordering_reverse}
use Rattle.std.specs.declared.cmp.Ordering.TheVariants.{Less, Greater}
use Rattle.om_ring.specs.Members.{In}
use Rattle.om_ring.specs.Ops.{Ops, Laws}
use Rattle.om_model.specs.declared.process.Process.{Process}
use Rattle.om_model.specs.Event.{Event}
use Rattle.om_model.specs.FeynmanRules.{FeynmanRules, Table}
use Rattle.om_model.specs.Model.{anti_field}
use Rattle.om_model.specs.Order.{numbers_lt}
use Rattle.om_model.specs.ProcessOf.{IsProcessOf}
use Rattle.om_model.specs.Propagator.{EdgeName, IsPole, name_lt, set_number}
use Rattle.om_model.specs.Theory.{Scattering}
use Rattle.om_model.specs.WellFormed.{IsWellFormed}
use Rattle.om_graph.specs.declared.Graph.{Graph}
use Rattle.om_graph.specs.Reactions.{reaction_of}
use Rattle.om_keystone.specs.CanonicalGraph.{IsCanonicalOf}
use Rattle.om_keystone.specs.EdgeRules.{name_of}
use Rattle.om_keystone.specs.NodeWaves.{HasPoleNode, part_of}
use Rattle.om_keystone.proofs.NodeNames.{nodes_have_names}
use Rattle.om_code.specs.declared.code.Code.{Code}
use Rattle.om_code.specs.declared.code.Den.{Den}
use Rattle.om_code.specs.DenOrder.{den_order}
use Rattle.om_code.specs.Meaning.{HaveInverses, IsFirstPole, denominator_of, edge_of_den, has_inverse}
use Rattle.om_code.specs.Waves.{Incoming}
use Rattle.om_code.proofs.DenOrder.{dens-by-numbers}
use Rattle.om_emit.specs.EdgesAbove.{HasEdgeAbove}
use Rattle.om_emit.specs.GraphCode.{IsCodeOf, den_of}
use Rattle.om_emit.proofs.AnswerNodes.{den-is, name-is}
use Rattle.om_emit.proofs.AnswerTerms.{event as event_in, rules as rules_in, s as scattering_in}
use Rattle.om_emit.proofs.DenEdges.{dens_are_edges_above}
use Rattle.om_emit.proofs.DensInOrder.{dens_total}

-- no denominator is before one that isn't behind it
not-before : (a b : Den) → (b ≡ a) ⊎ (den_order a b ≡ Less) → numbers_lt (b.legs ∷ b.field ∷ []) (a.legs ∷ a.field ∷ []) ≡ false
not-before a b h = by (numbers_lt (b.legs ∷ b.field ∷ []) (a.legs ∷ a.field ∷ [])) refl h
  where
    both_ways : den_order b a ≡ Less → den_order a b ≡ Less → ⊥
    both_ways u v = let w : Less ≡ Greater = sym v ∙ dens_total.antisymm a b ∙ ap ordering_reverse u in cc

    by : (t : Bool) → numbers_lt (b.legs ∷ b.field ∷ []) (a.legs ∷ a.field ∷ []) ≡ t → (b ≡ a) ⊎ (den_order a b ≡ Less) → t ≡ false
    by false q g = refl
    by true q (inl same) = let before = (dens-by-numbers b a).1 q in absurd (both_ways before (ap₂ den_order (sym same) same ∙ before))
    by true q (inr behind) = absurd (both_ways ((dens-by-numbers b a).1 q) behind)

all-at : (P : Den → Type 0) (ds : List Den) (d : Den) → AllByRecursion P ds → In d ds → P d
all-at P [] d h i = absurd i
all-at P (x ∷ ds) d h (inl q) = subst P (sym q) h.0
all-at P (x ∷ ds) d h (inr i) = all-at P ds d h.1 i

module _ {E : Type 0} (o : Ops E) (c : Code) (t : Table E) (e : Incoming E) where
  abbrev IsNone : Den → Type 0
  IsNone d = o.inverse (denominator_of o c t e d) ≡ None

  -- the first without inverse: it is one of them, and each other one is behind it
  record IsFirst (ds : List Den) (d : Den) : Type 0 where
    is_one : In d ds
    is_none : IsNone d
    others : (x : Den) → In x ds → IsNone x → (x ≡ d) ⊎ (den_order d x ≡ Less)

  inverse-none : (d : Den) → has_inverse o c t e d → IsNone d → ⊥
  inverse-none d h n = let never : Some h.0 ≡ None = sym h.1 ∙ n in cc

  first-is : (ds : List Den) (d : Den) → IsStrictlySortedBy den_order ds → IsFirstPole o c t e ds d → IsFirst ds d
  unfolding IsStrictlySortedBy
  first-is [] d s h = absurd h
  first-is (x ∷ ds) d s (inl h) = record { is_one = inl h.1; is_none = subst IsNone (sym h.1) h.0; others = others }
    where
      others : (y : Den) → In y (x ∷ ds) → IsNone y → (y ≡ d) ⊎ (den_order d y ≡ Less)
      others y (inl q) n = inl (q ∙ sym h.1)
      others y (inr i) n = inr (ap (λ z. den_order z y) h.1 ∙ all-at (λ z. den_order x z ≡ Less) ds y s.0 i)
  first-is (x ∷ ds) d s (inr h) = let rest = first-is ds d s.1 h.1 in record { is_one = inr rest.is_one; is_none = rest.is_none; others = others rest }
    where
      others : IsFirst ds d → (y : Den) → In y (x ∷ ds) → IsNone y → (y ≡ d) ⊎ (den_order d y ≡ Less)
      others rest y (inl q) n = absurd (inverse-none x h.0 (subst IsNone q n))
      others rest y (inr i) n = rest.others y i n

  have-none : (ds : List Den) → HaveInverses o c t e ds → (d : Den) → In d ds → IsNone d → ⊥
  have-none [] h d i n = absurd i
  have-none (x ∷ ds) h d (inl q) n = inverse-none x h.0 (subst IsNone q n)
  have-none (x ∷ ds) h d (inr i) n = have-none ds h.1 d i n

  -- all have inverses, or one is the first without
  pub all-or-first : (ds : List Den) → HaveInverses o c t e ds ⊎ ((d : Den) × IsFirstPole o c t e ds d)
  all-or-first [] = inl tt
  all-or-first (x ∷ ds) = by (o.inverse (denominator_of o c t e x)) refl (all-or-first ds)
    where
      by : (r : Option E) → o.inverse (denominator_of o c t e x) ≡ r → HaveInverses o c t e ds ⊎ ((d : Den) × IsFirstPole o c t e ds d)
          → HaveInverses o c t e (x ∷ ds) ⊎ ((d : Den) × IsFirstPole o c t e (x ∷ ds) d)
      by None q rest = inr (x, inl (q, refl))
      by (Some y) q (inl h) = inl ((y, q), h)
      by (Some y) q (inr h) = inr (h.0, inr ((y, q), h.1))

module _ {E : Type 0} (o : Ops E) (l : Laws o) (c : Code) (p : Process) (formed : IsWellFormed c.model) (of : IsProcessOf c.model p) (g : Graph) (canonical : IsCanonicalOf (reaction_of c.model p) g)
    (code : IsCodeOf c.model p g c) (t : Table E) (e : Incoming E) (wave : ℕ → ℕ → E) where
  abbrev scattering : Scattering
  scattering = scattering_in o l c p formed of g canonical code t e wave

  abbrev rules : FeynmanRules E
  rules = rules_in o l c p formed of g canonical code t e wave

  abbrev event : Event E
  event = event_in o l c p formed of g canonical code t e wave

  abbrev HasNode : EdgeName → Type 0
  HasNode name = HasPoleNode o scattering rules event g name

  edges : (d : Den) → In d c.dens → HasEdgeAbove (anti_field c.model.particles) scattering.size g.nodes d
  edges d i = ((dens_are_edges_above (anti_field c.model.particles) scattering.size g.nodes).members d).0 (subst (In d) code.dens i)

  named : (d : Den) (i : In d c.dens) → edge_of_den d ≡ name_of scattering (part_of (edges d i).node)
  named d i = let above = edges d i in ap edge_of_den above.edge ∙ name-is o l c p formed of g canonical code t e wave above.node above.is_node

  -- its set as a number
  numbered : (d : Den) → In d c.dens → set_number (edge_of_den d).legs ≡ d.legs
  numbered d i =
      let above = edges d i in
      let name = nodes_have_names c.model p formed of g canonical above.node above.is_node in
      ap (λ (a : EdgeName). set_number a.legs) (named d i) ∙ name.number
      ∙ ap (λ (x : Den). x.legs) (sym (above.edge ∙ den-is o l c p formed of g canonical code t e wave above.node))

  node_of_den : (d : Den) → In d c.dens → IsNone o c t e d → HasNode (edge_of_den d)
  node_of_den d i none = let above = edges d i in record { node = above.node; is_node = above.is_node; inner = above.inner; is_named = named d i; is_pole = none }

  record HasDen (name : EdgeName) : Type 0 where
    den : Den
    is_den : In den c.dens
    is_named : name ≡ edge_of_den den
    is_none : IsNone o c t e den

  den_of_node : (name : EdgeName) → HasNode name → HasDen name
  den_of_node name h =
      let d = den_of (anti_field c.model.particles) scattering.size h.node in
      let is : name ≡ edge_of_den d = h.is_named ∙ sym (name-is o l c p formed of g canonical code t e wave h.node h.is_node) in
      record {
        den = d;
        is_den = subst (In d) (sym code.dens) (((dens_are_edges_above (anti_field c.model.particles) scattering.size g.nodes).members d).1 (record { node = h.node; is_node = h.is_node; inner = h.inner; edge = refl }));
        is_named = is;
        is_none = subst (IsPole o rules event) is h.is_pole;
      }

  -- the first one is the least pole
  pub first-pole : (d : Den) → IsFirstPole o c t e c.dens d → HasNode (edge_of_den d) × ((other : EdgeName) → HasNode other → name_lt other (edge_of_den d) ≡ false)
  first-pole d h =
      let sorted = subst (IsStrictlySortedBy den_order) (sym code.dens) (dens_are_edges_above (anti_field c.model.particles) scattering.size g.nodes).ordered in
      let first = first-is o c t e c.dens d sorted h in (
        node_of_den d first.is_one first.is_none,
        λ other node.
            let x = den_of_node other node in
            ap (λ a. name_lt a (edge_of_den d)) x.is_named
            ∙ ap₂ (λ m n. numbers_lt (m ∷ x.den.field ∷ []) (n ∷ d.field ∷ [])) (numbered x.den x.is_den) (numbered d first.is_one)
            ∙ not-before d x.den (first.others x.den x.is_den x.is_none),
      )

  pub no-pole : HaveInverses o c t e c.dens → (name : EdgeName) → HasNode name → ⊥
  no-pole h name node = let x = den_of_node name node in have-none o c t e c.dens h x.den x.is_den x.is_none
