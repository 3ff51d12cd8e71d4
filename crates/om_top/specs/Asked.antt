-- A command of the code as a command of the words.
use Rattle.std.specs.Prelude.{ℕ, ◌≡◌, List, Option, Some, None}
use Rattle.om_top.specs.Command.{command_of, check, eval, write, run, sample, Command as Asked}
use Rattle.om_top.specs.declared.command.Command.{Command}
use Rattle.om_top.specs.declared.command.Command.TheVariants.{Check, Eval, Write, Run, Sample, Unknown}

-- the command as it stands in the words
abbrev pub asked : Command → Option Asked
asked (Check model) = Some (check model.now)
asked (Eval model process) = Some (eval model.now process.now)
asked (Write written model process) = Some (write written model.now process.now)
asked (Run program) = Some (run program.now)
asked (Sample seed legs) = Some (sample seed legs)
asked Unknown = None

-- the words ask for exactly this
abbrev pub Asks : List (List ℕ) → Command → Type 0
Asks words found = command_of words ≡ asked found
