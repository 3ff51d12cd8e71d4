-- The events of a sample.
use Rattle.std.specs.Prelude.{◌≡◌, ℕ, ◌+◌, ◌-◌, ◌*◌, ◌≤◌, List, [], ◌∷◌, ◌++◌, length, map, replicate}
use Rattle.om_ring.specs.Ops.{Ops, number_of}
use Rattle.om_ring.specs.Sums.{sum_over}
use Rattle.om_lorentz.specs.declared.vectors.Four.{Four}
use Rattle.om_lorentz.specs.Matrices.{upper}
use Rattle.om_kernel.specs.declared.waves.Wave.{Wave}
use Rattle.om_kernel.specs.declared.waves.Wave.TheVariants.{Scalar}
use Rattle.om_kernel.specs.Waves.{a_scalar, kind_of}
use Rattle.om_model.specs.Diagram.{upto}
use Rattle.om_model.specs.Entries.{four_of}
use Rattle.om_model.specs.Event.{Balances}
use Rattle.om_code.specs.Waves.{Incoming, event_of, minus_four}
use Rattle.om_code.specs.declared.code.Code.{Code}
use Rattle.om_machine.specs.Events.{kind_of_field}
use Rattle.om_sample.specs.Generator.{draw, state_after}

-- five draws for each leg below the last, and one for that
abbrev pub draws_of_event : ℕ → ℕ
draws_of_event legs = 5 * (legs - 1) + 1

module _ {E : Type 0} (o : Ops E) where
  -- the sum of some momenta, component by component
  abbrev pub sum_of_momenta : List (Four E) → Four E
  sum_of_momenta ps = four_of (λ mu. sum_over o ps (λ p. upper p mu))

  module _ (x : ℕ) where
    -- draw number n from state x on, as an element
    abbrev pub drawn : ℕ → E
    drawn n = number_of o (draw x n)

    -- leg k, below the last, draws its momentum components 0 to 3 and then its wave function
    abbrev pub drawn_momentum : ℕ → Four E
    drawn_momentum k = four_of (λ mu. drawn (5 * (k - 1) + mu))

    abbrev pub drawn_wave : ℕ → Wave E
    drawn_wave k = Scalar (drawn (5 * (k - 1) + 4))

    -- the legs 1 to n, which are below the last
    abbrev pub drawn_momenta : ℕ → List (Four E)
    drawn_momenta n = map drawn_momentum (upto n)

    abbrev pub drawn_waves : ℕ → List (Wave E)
    drawn_waves n = map drawn_wave (upto n)

    -- the event that is drawn from state x on: the last leg has minus the sum of the other momenta, and draws its wave function alone
    abbrev pub drawn_event : ℕ → Incoming E
    drawn_event legs =
        let others = drawn_momenta (legs - 1) in
        record {
          momenta = others ++ minus_four o (sum_of_momenta others) ∷ [];
          waves = drawn_waves (legs - 1) ++ Scalar (drawn (5 * (legs - 1))) ∷ [];
        }

  -- event number e of the sample of a seed, counted from 0
  abbrev pub sample_event : ℕ → ℕ → ℕ → Incoming E
  sample_event seed legs e = drawn_event (state_after seed (e * draws_of_event legs)) legs

-- the momenta of each event of a sample add up to zero
abbrev pub SamplesBalance : {E : Type 0} → Ops E → Type 0
SamplesBalance o = (seed legs e : ℕ) → 1 ≤ legs → Balances o (event_of o (sample_event o seed legs e)) legs

-- an event with so many legs, which are all those of scalars
pub record IsOfScalars {E : Type 0} (legs : ℕ) (e : Incoming E) : Type 0 where
  pub momenta : length e.momenta ≡ legs
  pub waves : map kind_of e.waves ≡ replicate legs a_scalar

-- the legs of a code are all those of scalars
abbrev pub HasScalarLegs : Code → Type 0
HasScalarLegs c = map (kind_of_field c.model.particles) c.legs ≡ replicate (length c.legs) a_scalar
