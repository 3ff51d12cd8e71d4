-- The following of lines, computed.
use Rattle.std.specs.Prelude.{ℕ, ◌+◌, cond, eqb, ◌&&◌}
use Rattle.om_colour.specs.declared.Partial.{Partial}
use Rattle.om_colour.specs.declared.Flow.{Flow}
use Rattle.om_colour.specs.Lines.{Side, with_slot, starts_line, ends_line, outside}
use Rattle.om_colour.specs.Lines.Side.{leg, vertex}
use Rattle.om_colour.specs.Partials.{first_at_slots, each_leg}

-- the leg at which the line that goes into a side ends, or 0
abbrev pub end_of : Side → ℕ
end_of (leg k c) = cond (ends_line c) k 0
end_of (vertex to h beyond) = cond (eqb (to h) 0) 0 (end_of (beyond (to h)))

-- the leg at which the line that starts at leg k of the side t ends, or 0
abbrev pub follow : ℕ → Side → Side → ℕ
follow k (leg j c) u = cond (eqb k j && starts_line c) (end_of u) 0
follow k (vertex to h beyond) u = first_at_slots (λ s. cond (eqb s h) 0 (follow k (beyond s) (vertex to s (with_slot beyond h u))))

-- the partial flow of a side
abbrev pub partial_of : Side → Partial
partial_of t = record { ends = each_leg (λ k. follow (k + 1) t outside); into = end_of t }

-- the flow of a diagram that is opened at a vertex, with these sides beyond its slots
abbrev pub flow_of : (ℕ → ℕ) → (ℕ → Side) → Flow
flow_of to beyond = record { ends = each_leg (λ k. first_at_slots (λ s. follow (k + 1) (beyond s) (vertex to s beyond))) }
