-- What enters a vertex of a code, slot by slot, as the parts of a vertex fill its slots.
use Rattle.std.proofs.Common.{◌≡◌, ℕ, List, [], ◌∷◌, map, cond, ltb, refl, ap, ap₂, sym, subst, ◌∙◌}
use Rattle.std.proofs.lemmas.Simd.{map-map}
use Rattle.om_ring.specs.Members.{Different}
use Rattle.om_legs.specs.Legs as sets
use Rattle.om_model.specs.Diagram.{times_in}
use Rattle.om_model.specs.Parts.{Part, least, put, sort}
use Rattle.om_model.specs.Reordered.{Reordered}
use Rattle.om_model.specs.Slots.{fill, in_slots}
use Rattle.om_model.specs.Theory.{Scattering}
use Rattle.om_model.proofs.Filling.{carry, fields, in_slots-map, in_slots_filled, reordered-sort}
use Rattle.om_model.proofs.Reordering.{reordered-map, reordered_back}
use Rattle.om_model.proofs.Sorting.{sort-reordered}
use Rattle.om_code.specs.Contents.{EnteringWave, waves_in_slots}
use Rattle.om_code.specs.Vertices.{part_of}
use Rattle.om_machine.proofs.Each.{Each, each-reordered}

-- keys that are the same sort the same
module _ {A : Type 0} (f g : A → ℕ) where
  put-same : (x : A) (ys : List A) → f x ≡ g x → Each (λ y. f y ≡ g y) ys → put f x ys ≡ put g x ys
  unfolding put
  put-same x [] e h = refl
  put-same x (y ∷ ys) e h = rw (e, h.0) (ap (λ zs. cond (ltb (g x) (g y)) (x ∷ y ∷ ys) (y ∷ zs)) (put-same x ys e h.1))

  sort-same : (xs : List A) → Each (λ x. f x ≡ g x) xs → sort f xs ≡ sort g xs
  unfolding sort
  sort-same [] h = refl
  sort-same (x ∷ xs) h = put-same x (sort f xs) h.0 (each-reordered (λ y. f y ≡ g y) (reordered-sort f xs) h.1) ∙ ap (put g x) (sort-same xs h.1)

module _ {E : Type 0} where
  -- the part that an edge is
  abbrev pub part_in : EnteringWave E → Part
  part_in q = part_of q.field q.legs

  abbrev pub key_in : EnteringWave E → ℕ
  key_in q = sets.least q.legs

  abbrev tagged : List (EnteringWave E) → List (Part × EnteringWave E)
  tagged qs = map (λ q. (part_in q, q)) qs

  abbrev IsTagged : Part × EnteringWave E → Type 0
  IsTagged z = z.0 ≡ part_in z.1

  are-tagged : (qs : List (EnteringWave E)) → Each IsTagged (tagged qs)
  are-tagged [] = tt
  are-tagged (q ∷ qs) = (refl, are-tagged qs)

  untagged : (qs : List (EnteringWave E)) → map (λ z. z.1) (tagged qs) ≡ qs
  untagged [] = refl
  untagged (q ∷ qs) = ap (λ zs. q ∷ zs) (untagged qs)

  tagged-fields : (qs : List (EnteringWave E)) → fields (tagged qs) ≡ map (λ q. q.field) qs
  tagged-fields [] = refl
  tagged-fields (q ∷ qs) = ap (λ zs. q.field ∷ zs) (tagged-fields qs)

  fields-tagged : (zs : List (Part × EnteringWave E)) → Each IsTagged zs → fields zs ≡ map (λ q. q.field) (map (λ z. z.1) zs)
  fields-tagged [] h = refl
  fields-tagged (z ∷ zs) h = ap₂ ◌∷◌ (ap (λ (q : Part). q.field) h.0) (fields-tagged zs h.1)

  carried : (g : EnteringWave E → ℕ) (zs : List (Part × EnteringWave E)) → Each IsTagged zs → map (carry g) zs ≡ map (λ q. (part_in q, g q)) (map (λ z. z.1) zs)
  carried g [] h = refl
  carried g (z ∷ zs) h = ap₂ (λ p rest. (p, g z.1) ∷ rest) h.0 (carried g zs h.1)

  -- the parts of some edges, and their least legs
  pub record AreSlots (s : Scattering) (v : ℕ) (xs ys : List (EnteringWave E)) : Type 0 where
    pub reordered : Reordered ys xs
    pub least_are : Each (λ q. least s.size (part_in q) ≡ key_in q) xs
    pub differ : Different (map key_in xs)
    pub fit : (k : ℕ) → times_in k (s.theory.slots v) ≡ times_in k (map (λ q. q.field) xs)

  module _ (s : Scattering) (v : ℕ) (xs ys : List (EnteringWave E)) (are : AreSlots s v xs ys) where
    abbrev by_set : Part × EnteringWave E → ℕ
    by_set z = key_in z.1

    each-tagged : (qs : List (EnteringWave E)) → Each (λ q. least s.size (part_in q) ≡ key_in q) qs → Each (λ z. least s.size z.0 ≡ by_set z) (tagged qs)
    each-tagged [] h = tt
    each-tagged (q ∷ qs) h = (h.0, each-tagged qs h.1)

    filled : in_slots s v (tagged xs) ≡ fill (s.theory.slots v) (sort by_set (tagged ys))
    unfolding in_slots
    filled =
        ap (fill (s.theory.slots v)) (sort-same (λ z. least s.size z.0) by_set (tagged xs) (each-tagged xs are.least_are)
        ∙ sort-reordered by_set (tagged xs) (tagged ys) (reordered-map (λ q. (part_in q, q)) (reordered_back are.reordered)) (subst Different (sym (map-map by_set (λ q. (part_in q, q)) xs)) are.differ))

    abbrev pub slotted : List (EnteringWave E)
    slotted = waves_in_slots (s.theory.slots v) ys

    slotted-is : map (λ z. z.1) (in_slots s v (tagged xs)) ≡ slotted
    slotted-is = ap (map (λ z. z.1)) filled

    ordered : Reordered (in_slots s v (tagged xs)) (tagged xs) × (fields (in_slots s v (tagged xs)) ≡ s.theory.slots v)
    ordered = in_slots_filled s v (tagged xs) (λ k. are.fit k ∙ ap (times_in k) (sym (tagged-fields xs)))

    tags : Each IsTagged (in_slots s v (tagged xs))
    tags = each-reordered IsTagged ordered.0 (are-tagged xs)

    -- each stands in a slot
    pub slotted-reordered : Reordered slotted xs
    slotted-reordered = subst (λ zs. Reordered zs xs) slotted-is (subst (λ zs. Reordered (map (λ z. z.1) (in_slots s v (tagged xs))) zs) (untagged xs) (reordered-map (λ z. z.1) ordered.0))

    -- in a slot with its field
    pub slotted-fields : map (λ q. q.field) slotted ≡ s.theory.slots v
    slotted-fields = ap (map (λ q. q.field)) (sym slotted-is) ∙ sym (fields-tagged (in_slots s v (tagged xs)) tags) ∙ ordered.1

    -- whatever is known by the least legs
    pub slotted-alike : (h : ℕ → ℕ) → in_slots s v (map (λ q. (part_in q, h (key_in q))) xs) ≡ map (λ q. (part_in q, h (key_in q))) slotted
    slotted-alike h =
        let g : EnteringWave E → ℕ = λ q. h (key_in q) in
        ap (in_slots s v) (sym (map-map (carry g) (λ q. (part_in q, q)) xs))
        ∙ in_slots-map g s v (tagged xs)
        ∙ carried g (in_slots s v (tagged xs)) tags
        ∙ ap (map (λ q. (part_in q, g q))) slotted-is
