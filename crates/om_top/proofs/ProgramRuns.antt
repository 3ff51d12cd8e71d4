-- A run by a program that was loaded.
use Rattle.std.proofs.Common.{◌≡◌, ℕ, ◌+◌, ◌*◌, ◌≤◌, List, [], ◌∷◌, ap, ◌∙◌, arith, inr}
use Rattle.om_ring.specs.Ops.{Ops}
use Rattle.om_code.specs.declared.code.Code.{Code}
use Rattle.om_top.specs.Cost.{EventsMayCall, RunMayCall, rows_calls}
use Rattle.om_top.specs.Loads.{HoldsProgram}
use Rattle.om_top.specs.Outside.{Side}
use Rattle.om_top.specs.RunRan.{OwesMeaning, RunRan, RunsCode, RunsOrNot}
use Rattle.om_top.specs.Streamed.{HasNoAmplitude, Streamed, UnlessNone, kinds_of}
use Rattle.om_top.specs.declared.ending.Ending.{Ending}
use Rattle.om_top.specs.declared.ending.Ending.TheVariants.{ProgramTooLong, ProgramFault, FileFault, NoMemory}
use Rattle.om_top.proofs.CallBounds.{loaded_code}

-- what neither a stream of events nor the line without amplitude ends with
pub never : {A : Type 0} (xs : List A) (input out : Side) (streamed : Ending → Type 0) (ending : Ending) → (HasNoAmplitude input out ending → ⊥) → (streamed ending → ⊥)
    → UnlessNone xs input out streamed ending → ⊥
never [] input out streamed ending no_line no_stream h = no_line h
never (x ∷ xs) input out streamed ending no_line no_stream h = no_stream h

module _ {E : Type 0} (o : Ops E) (show : E → List ℕ) (file input out : Side) (c : Code) (holds : HoldsProgram o file c) where
  never_runs : (ending : Ending) → (HasNoAmplitude input out ending → ⊥) → (Streamed (OwesMeaning o show c) o (kinds_of c.model.particles c.legs) input out ending → ⊥)
      → RunsCode o show c input out ending → ⊥
  never_runs ending no_line no_stream h = never c.flows input out (λ e. Streamed (OwesMeaning o show c) o (kinds_of c.model.particles c.legs) input out e) ending no_line no_stream h

  pub ran : (ending : Ending) → RunsOrNot o show c input out ending → RunRan o show file input out ending
  ran NoMemory h = h
  ran ProgramTooLong h = absurd (never_runs ProgramTooLong (λ x. x) (λ x. x.2) h)
  ran (ProgramFault fault) h = absurd (never_runs (ProgramFault fault) (λ x. x) (λ x. x.2) h)
  ran FileFault h = absurd (never_runs FileFault (λ x. x) (λ x. x.2) h)
  ran ending h = (c, holds, h)

  -- the calls of the loading and of the events
  pub called : (before loaded now cost : ℕ) → (n : ℕ) × (n ≡ rows_calls c.model) × (loaded ≤ before + n * cost)
      → (n : ℕ) × EventsMayCall o c input n × (now ≤ loaded + n * cost) → (n : ℕ) × RunMayCall o file input n × (now ≤ before + n * cost)
  called before loaded now cost (loading, is_rows, h) (events, may, k) =
      (loading + events, (holds.0, holds.1, events, inr (c, holds.2, may), ap (λ n. n + events) (is_rows ∙ loaded_code o file c holds)), omega (arith, h, k))
