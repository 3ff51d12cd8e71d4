-- What is promised of the process of a sample.
use Rattle.std.specs.Prelude.{ℕ, ◌≤◌, List, length, map}
use Rattle.om_legs.specs.declared.leg_set.TheConstants.{MOST_LEGS}
use Rattle.om_model.specs.ModelLines.{lines_of}
use Rattle.om_model.specs.Order.{numbers_lt, rising_of}
use Rattle.om_model.specs.ProcessOf.{IsProcessOf}
use Rattle.om_model.specs.Tree.{Tree}
use Rattle.om_model.specs.declared.limits.TheConstants.{FEWEST_LEGS}
use Rattle.om_model.specs.declared.process.Process.{Process}
use Rattle.om_sample.specs.Model.{sample_model, sample_process}

-- with 3 to 12 legs it is a process over the model
abbrev pub SampleProcessFits : Type 0
SampleProcessFits = (legs : ℕ) → FEWEST_LEGS ≤ legs → legs ≤ MOST_LEGS → IsProcessOf sample_model (sample_process legs)

-- any diagrams over the model have one flow at most
abbrev pub SampleHasOneFlow : Type 0
SampleHasOneFlow = (p : Process) (ts : List Tree) → length (rising_of numbers_lt (map (lines_of sample_model p).flow ts)) ≤ 1
