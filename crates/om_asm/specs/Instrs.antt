-- What the words of an instruction line say. The first word, which tells its kind, stands apart.
use Rattle.std.specs.Prelude.{ℕ, ◌-◌, ◌==◌, nat_le, if◌then◌else◌, Bool, true, false, List, [], ◌∷◌, codes, Option, Some, None}
use Rattle.std.specs.Str.{bytes_eq}
use Rattle.om_legs.specs.declared.branches.Branches.{Branches}
use Rattle.om_code.specs.declared.code.Instr.{Instr}
use Rattle.om_code.specs.declared.code.Instr.TheVariants.{Load, Fuse, Prop, Key}
use Rattle.om_asm.specs.declared.instr_line.Joint.{Joint}
use Rattle.om_io.specs.Lines.{Words}
use Rattle.om_asm.specs.Lines.{word_by, no_more}
use Rattle.om_ring.specs.OptionSteps.{◌>>=◌}
use Rattle.om_asm.specs.Spelt.{place_of, leg_of}
use Rattle.om_ring.specs.Spelt.{decimal_below}
use Rattle.om_legs.specs.BranchNodes.{two_nodes, three_nodes, four_nodes}

abbrev pub sign_of : List ℕ → Option Bool
sign_of word = if bytes_eq word (codes "-") then Some true else if bytes_eq word (codes "+") then Some false else None

-- a fourth branch, or none
abbrev pub fourth_of : ℕ → ℕ → ℕ → Words → Option Branches
fourth_of a b c [] = Some (three_nodes a b c)
fourth_of a b c (w ∷ ws) = do
  d ← place_of w
  _ ← no_more ws
  Some (four_nodes a b c d)

-- a third branch and perhaps a fourth, or none
abbrev pub third_of : ℕ → ℕ → Words → Option Branches
third_of a b [] = Some (two_nodes a b)
third_of a b (w ∷ ws) = do
  c ← place_of w
  fourth_of a b c ws

-- two to four branches, which end the line
unfoldable pub branches_of : Words → Option Branches
branches_of words = do
  a ← word_by place_of words
  b ← word_by place_of a.1
  third_of a.0 b.0 b.1

-- where a term goes to, its sign, vertex, choice and branches
unfoldable pub joint_of : Words → Option Joint
joint_of words = do
  target ← word_by place_of words
  sign ← word_by sign_of target.1
  vertex ← word_by place_of sign.1
  choice ← word_by (decimal_below 256) vertex.1
  branches ← branches_of choice.1
  Some (record { to = target.0; minus = sign.0; vertex = vertex.0; choice = choice.0; branches = branches })

-- a fuse has two or three branches
unfoldable pub fuse_of : Words → Option Instr
fuse_of words = do
  j ← joint_of words
  if nat_le j.branches.count 3 then Some (Fuse j.to j.minus j.vertex j.choice j.branches) else None

-- a key has three or four
unfoldable pub key_of : Words → Option Instr
key_of words = do
  j ← joint_of words
  if nat_le 3 j.branches.count then Some (Key j.to j.minus j.vertex j.choice j.branches) else None

unfoldable pub prop_of : Words → Option Instr
prop_of words = do
  slot ← word_by place_of words
  den ← word_by place_of slot.1
  _ ← no_more den.1
  Some (Prop slot.0 den.0)

-- in version 1 a load names its leg alone
unfoldable pub load_of : ℕ → Words → Option Instr
load_of version words = if version == 1 then (do
  leg ← word_by leg_of words
  _ ← no_more leg.1
  Some (Load (leg.0 - 1) leg.0)) else (do
    slot ← word_by place_of words
    leg ← word_by leg_of slot.1
    _ ← no_more leg.1
    Some (Load slot.0 leg.0))
