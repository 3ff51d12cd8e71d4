-- Products of vectors and spinors by components.
use Rattle.std.specs.Prelude.{Option, Some, None}
use Rattle.om_ring.specs.Ops.{Ops}
use Rattle.om_lorentz.specs.declared.structures.Factors.{Factors}
use Rattle.om_lorentz.specs.declared.vectors.Four.{Four}
use Rattle.om_kernel.specs.declared.gluons.Entering.{Entering}
use Rattle.om_kernel.specs.declared.gluons.Pairs.{Pairs}
use Rattle.om_kernel.specs.declared.spinors.Slash.{Slash}
use Rattle.om_kernel.specs.declared.waves.Wave.{Wave}
use Rattle.om_kernel.specs.declared.waves.Wave.TheVariants.{Scalar, Row, Column, Vector}

module _ {E : Type 0} (o : Ops E) where
  open o use {zero as 𝟘, imag as 𝕚, plus as ◌⊕◌, minus as ⊖◌, times as ◌⊗◌}

  infixl 60 ◌⊕◌
  infix 65 ⊖◌
  infixl 70 ◌⊗◌
  -- the scalar in a slot, 0 where there is none
  abbrev pub scalar_in : Option (Wave E) → E
  scalar_in None = 𝟘
  scalar_in (Some (Scalar x)) = x
  scalar_in (Some (Row p)) = 𝟘
  scalar_in (Some (Column p)) = 𝟘
  scalar_in (Some (Vector p)) = 𝟘

  -- the four components in a slot, 0 where there are none
  abbrev pub four_in : Option (Wave E) → Four E
  four_in None = record { t = 𝟘; x = 𝟘; y = 𝟘; z = 𝟘 }
  four_in (Some (Scalar x)) = record { t = 𝟘; x = 𝟘; y = 𝟘; z = 𝟘 }
  four_in (Some (Row p)) = p
  four_in (Some (Column p)) = p
  four_in (Some (Vector p)) = p

  -- p0 q0 - p1 q1 - p2 q2 - p3 q3
  abbrev pub dot : Four E → Four E → E
  dot p q = p.t ⊗ q.t ⊕ ⊖ (p.x ⊗ q.x ⊕ (p.y ⊗ q.y ⊕ p.z ⊗ q.z))

  -- the sum of the products of the components
  abbrev pub plain_dot : Four E → Four E → E
  plain_dot p q = (p.t ⊗ q.t ⊕ p.x ⊗ q.x) ⊕ (p.y ⊗ q.y ⊕ p.z ⊗ q.z)

  -- p + q
  abbrev pub plus_four : Four E → Four E → Four E
  plus_four p q = record { t = p.t ⊕ q.t; x = p.x ⊕ q.x; y = p.y ⊕ q.y; z = p.z ⊕ q.z }

  -- p - q with its index lowered
  abbrev pub lower_difference : Four E → Four E → Four E
  lower_difference p q = record { t = p.t ⊕ ⊖ q.t; x = q.x ⊕ ⊖ p.x; y = q.y ⊕ ⊖ p.y; z = q.z ⊕ ⊖ p.z }

  -- minus p, its index lowered or raised
  abbrev pub turned_back : Four E → Four E
  turned_back p = record { t = ⊖ p.t; x = p.x; y = p.y; z = p.z }

  -- c p
  abbrev pub scaled : E → Four E → Four E
  scaled c p = record { t = c ⊗ p.t; x = c ⊗ p.x; y = c ⊗ p.y; z = c ⊗ p.z }

  -- c p with its index lowered
  abbrev pub scaled_lower : E → Four E → Four E
  scaled_lower c p = record { t = c ⊗ p.t; x = (⊖ c) ⊗ p.x; y = (⊖ c) ⊗ p.y; z = (⊖ c) ⊗ p.z }

  -- c q + p
  abbrev pub along : E → Four E → Four E → Four E
  along c p q = record { t = c ⊗ q.t ⊕ p.t; x = c ⊗ q.x ⊕ p.x; y = c ⊗ q.y ⊕ p.y; z = c ⊗ q.z ⊕ p.z }

  -- c (a + b gamma5) times a column, or a row times it
  abbrev pub chiral : E → Factors E → Four E → Four E
  chiral c f d =
      let left = c ⊗ (f.a ⊕ ⊖ f.b) in
      let right = c ⊗ (f.a ⊕ f.b) in
      record { t = left ⊗ d.t; x = left ⊗ d.x; y = right ⊗ d.y; z = right ⊗ d.z }

  -- the row times a + b gamma5 times the column
  abbrev pub chiral_dot : Factors E → Four E → Four E → E
  chiral_dot f r d = (f.a ⊕ ⊖ f.b) ⊗ (r.t ⊗ d.t ⊕ r.x ⊗ d.x) ⊕ (f.a ⊕ f.b) ⊗ (r.y ⊗ d.y ⊕ r.z ⊗ d.z)

  -- the row times gamma_mu times the column
  abbrev pub current : Four E → Four E → Four E
  current r d =
      let outer = r.t ⊗ d.y ⊕ r.z ⊗ d.x in
      let inner = r.x ⊗ d.z ⊕ r.y ⊗ d.t in
      let upper = r.t ⊗ d.z ⊕ r.x ⊗ d.y in
      let lower = r.y ⊗ d.x ⊕ r.z ⊗ d.t in
      let ends = r.t ⊗ d.z ⊕ r.z ⊗ d.t in
      let middle = r.x ⊗ d.y ⊕ r.y ⊗ d.x in
      record { t = outer ⊕ inner; x = lower ⊕ ⊖ upper; y = 𝕚 ⊗ (ends ⊕ ⊖ middle); z = inner ⊕ ⊖ outer }

  -- the entries of v^mu gamma_mu, up to their signs
  abbrev pub slash_entries : Four E → Slash E
  slash_entries v = record {
    high = v.t ⊕ v.z;
    low = v.t ⊕ ⊖ v.z;
    up = v.x ⊕ 𝕚 ⊗ v.y;
    down = v.x ⊕ ⊖ (𝕚 ⊗ v.y);
  }

  -- v^mu gamma_mu times the column
  abbrev pub slash_column : Four E → Four E → Four E
  slash_column v d =
      let m = slash_entries v in
      record {
        t = m.low ⊗ d.y ⊕ ⊖ (m.down ⊗ d.z);
        x = m.high ⊗ d.z ⊕ ⊖ (m.up ⊗ d.y);
        y = m.high ⊗ d.t ⊕ m.down ⊗ d.x;
        z = m.up ⊗ d.t ⊕ m.low ⊗ d.x;
      }

  -- the row times v^mu gamma_mu
  abbrev pub slash_row : Four E → Four E → Four E
  slash_row v r =
      let m = slash_entries v in
      record {
        t = m.high ⊗ r.y ⊕ m.up ⊗ r.z;
        x = m.down ⊗ r.y ⊕ m.low ⊗ r.z;
        y = m.low ⊗ r.t ⊕ ⊖ (m.up ⊗ r.x);
        z = m.high ⊗ r.x ⊕ ⊖ (m.down ⊗ r.t);
      }

  -- what pairs of metrics give at slot 4, with the vectors p, q, r in the slots 1, 2, 3
  abbrev pub join_pairs : Pairs E → Four E → Four E → Four E → Four E
  join_pairs f p q r =
      let p_back = turned_back p in
      let q_back = turned_back q in
      let of_r = f.next ⊗ plain_dot p_back q in
      let of_q = f.crossed ⊗ plain_dot p_back r in
      let of_p = f.last ⊗ plain_dot q_back r in
      along of_p (along of_q (scaled of_r (turned_back r)) q_back) p_back

  -- what three vectors in cyclic order give at the last slot, where h is the momentum
  abbrev pub three_gluons : E → Entering E → Entering E → Four E → Four E
  three_gluons c p q h =
      let first = lower_difference p.momentum q.momentum in
      let second = lower_difference q.momentum h in
      let p_back = turned_back p.wave in
      let of_first = (⊖ c) ⊗ plain_dot p_back q.wave in
      let of_q = (⊖ c) ⊗ plain_dot second p.wave in
      let of_p = c ⊗ plain_dot (plus_four first second) q.wave in
      along of_p (along of_q (scaled of_first first) (turned_back q.wave)) p_back
