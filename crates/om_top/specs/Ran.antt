-- What a run does and leaves, by what its words ask for and how it ends.
use Rattle.std.specs.Prelude.{ℕ, List, Option, Some, None}
use Rattle.om_ring.specs.Ops.{Ops}
use Rattle.om_top.specs.CheckRan.{CheckRan}
use Rattle.om_top.specs.Command.{Command, check, eval, write, run, sample}
use Rattle.om_top.specs.EvalRan.{EvalRan}
use Rattle.om_top.specs.Outside.{Outside, IsQuiet, IsUntouched}
use Rattle.om_top.specs.RunRan.{RunRan}
use Rattle.om_top.specs.SampleRan.{SampleRan}
use Rattle.om_top.specs.WriteRan.{WriteRan}
use Rattle.om_top.specs.declared.ending.Ending.{Ending}
use Rattle.om_top.specs.declared.ending.Ending.TheVariants.{Usage}

module _ {E : Type 0} (o : Ops E) (show : E → List ℕ) where
  -- what a command did or why it was refused
  abbrev pub CommandRan : Command → Outside → Ending → Type 0
  CommandRan (check model) x ending = IsUntouched x.input × CheckRan o (x.file model) x.out ending
  CommandRan (eval model process) x ending = EvalRan o show (x.file model) process x.input x.out ending
  CommandRan (write written model process) x ending = IsUntouched x.input × WriteRan written o (x.file model) process x.out ending
  CommandRan (run program) x ending = RunRan o show (x.file program) x.input x.out ending
  CommandRan (sample seed legs) x ending = IsUntouched x.input × SampleRan o show seed legs x.out ending

  -- what the words ask for was done or refused
  abbrev pub Ran : Option Command → Outside → Ending → Type 0
  Ran None x Usage = IsQuiet x
  Ran None x _ = ⊥
  Ran (Some command) x ending = CommandRan command x ending
