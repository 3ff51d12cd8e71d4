-- What words ask for.
use Rattle.std.specs.Prelude.{ℕ, ◌+◌, ◌^◌, nat_le, codes, if◌then◌else◌, List, [], ◌∷◌, Option, Some, None}
use Rattle.std.specs.Str.{bytes_eq}
use Rattle.om_ring.specs.Spelt.{decimal_below}
use Rattle.om_legs.specs.declared.leg_set.TheConstants.{MOST_LEGS}
use Rattle.om_model.specs.declared.limits.TheConstants.{FEWEST_LEGS}
use Rattle.om_top.specs.declared.command.Written.{Written}
use Rattle.om_top.specs.declared.command.Written.TheVariants.{Program, Listing}

-- a command
pub data Command : Type 0 where
  -- what stands in a model: the name of its file
  check : List ℕ → Command
  -- the answers to events: the name of the model's file and the text of the process
  eval : List ℕ → List ℕ → Command
  -- the program of a process, or the listing of its graph: the name of the model's file and the text of the process
  write : Written → List ℕ → List ℕ → Command
  -- the answers to events by a program: the name of its file
  run : List ℕ → Command
  -- a sample: its seed and its number of legs
  sample : ℕ → ℕ → Command

-- a sample of a seed below 2^64 and 3 to 12 legs
abbrev pub sample_by : Option ℕ → Option ℕ → Option Command
sample_by None legs = None
sample_by (Some seed) None = None
sample_by (Some seed) (Some legs) = if nat_le FEWEST_LEGS legs then Some (sample seed legs) else None

abbrev pub sample_of : List ℕ → List ℕ → Option Command
sample_of seed legs = sample_by (decimal_below (2 ^ 64) seed) (decimal_below (MOST_LEGS + 1) legs)

-- the command of a word and the name of a file
abbrev pub command_of_file : List ℕ → List ℕ → Option Command
command_of_file word file =
    if bytes_eq word (codes "check") then Some (check file)
    else if bytes_eq word (codes "run") then Some (run file)
    else None

-- the command of a word and two more
abbrev pub command_of_two : List ℕ → List ℕ → List ℕ → Option Command
command_of_two word first second =
    if bytes_eq word (codes "eval") then Some (eval first second)
    else if bytes_eq word (codes "compile") then Some (write Program first second)
    else if bytes_eq word (codes "graph") then Some (write Listing first second)
    else if bytes_eq word (codes "sample") then sample_of first second
    else None

-- the command of some words, if they have the form of one
abbrev pub command_of : List (List ℕ) → Option Command
command_of [] = None
command_of (word ∷ []) = None
command_of (word ∷ file ∷ []) = command_of_file word file
command_of (word ∷ first ∷ second ∷ []) = command_of_two word first second
command_of (word ∷ first ∷ second ∷ more ∷ words) = None
