-- Objects in memory, and what each call on them does.
use Rattle.std.specs.Prelude.{ℕ, ◌≡◌, ◌+◌, ◌-◌, ◌^◌, ◌≤◌, min, max, length, take, drop, List, [], ◌++◌, Bool, true, false, ◌==◌, ◌&&◌, ◌||◌, nat_lt, nat_le, if◌then◌else◌, Option, is_none, unwrap_or, Result, Ok, Err, bytes_eq, MatchBool}
use Rattle.std.specs.List.{list_any}
use Rattle.om_io.specs.declared.Failed.{Failed}

-- one more, as far as a counter goes
abbrev pub next_count : ℕ → ℕ
next_count count = max count (min (count + 1) (2 ^ 64 - 1))

-- the calls on an object: the numbers of those that are to fail, how many were made, how many failed
pub record Calls : Type 0 where
  pub fails : List ℕ
  pub made : ℕ
  pub faults : ℕ

-- no call was made yet
abbrev pub no_calls : List ℕ → Calls
no_calls fails = record { fails = fails; made = 0; faults = 0 }

-- whether the next call, counted from 1, is to fail
abbrev pub next_fails : Calls → Bool
next_fails calls = list_any (λ number. number == next_count calls.made) calls.fails

-- one more call was made
abbrev pub after_call : Calls → Calls
after_call calls = record calls { made = next_count calls.made }

-- one more call was made, and it failed
abbrev pub after_fault : Calls → Calls
after_fault calls = record calls { made = next_count calls.made; faults = next_count calls.faults }

-- a source: the bytes that are left, and how many a read gives at most
pub record SourceState : Type 0 where
  pub left : List ℕ
  pub cut : ℕ
  pub calls : Calls

-- a read that isn't to fail moves as many bytes as are left, the cut allows and the buffer holds
pub record GivesBytes (old new : SourceState) (buffer filled : List ℕ) (n : ℕ) : Type 0 where
  pub passes : next_fails old.calls ≡ false
  pub cut : 1 ≤ old.cut
  pub count : n ≡ min (length buffer) (min old.cut (length old.left))
  pub moved : filled ≡ take n old.left ++ drop n buffer
  pub after : new ≡ record old { left = drop n old.left; calls = after_call old.calls }

-- a read that is to fail leaves all but its counts
pub record FailsToGive (old new : SourceState) (buffer filled : List ℕ) : Type 0 where
  pub fails : next_fails old.calls ≡ true
  pub unmoved : filled ≡ buffer
  pub after : new ≡ record old { calls = after_fault old.calls }

-- what a read of a source does
abbrev pub ReadsSource : SourceState → SourceState → List ℕ → List ℕ → Result ℕ Failed → Type 0
ReadsSource old new buffer filled (Ok n) = GivesBytes old new buffer filled n
ReadsSource old new buffer filled (Err _) = FailsToGive old new buffer filled

-- a folder with one file by name, or without it
pub record FolderState : Type 0 where
  pub name : List ℕ
  pub file : Option (List ℕ)
  pub calls : Calls

-- the bytes of the file, none where it isn't there
abbrev pub own_bytes : FolderState → List ℕ
own_bytes folder = unwrap_or folder.file []

-- the bytes of a name: every name but the folder's own is an empty file
abbrev pub bytes_of : FolderState → List ℕ → List ℕ
bytes_of folder name = if bytes_eq name folder.name then own_bytes folder else []

-- how often reading a name has failed
abbrev pub faults_of : FolderState → List ℕ → ℕ
faults_of folder name = if bytes_eq name folder.name then folder.calls.faults else 0

-- whether the next read of the folder's own name fails: it is to fail, or the file isn't there
abbrev pub read_fails : FolderState → Bool
read_fails folder = next_fails folder.calls || is_none folder.file

-- a read of the folder's own name moves as many bytes as stand from a place on and the buffer holds
pub record CopiesBytes (old new : FolderState) (at : ℕ) (buffer filled : List ℕ) (n : ℕ) : Type 0 where
  pub passes : read_fails old ≡ false
  pub count : n ≡ min (length buffer) (length (own_bytes old) - at)
  pub moved : filled ≡ take n (drop at (own_bytes old)) ++ drop n buffer
  pub after : new ≡ record old { calls = after_call old.calls }

-- a read of the folder's own name that fails leaves all but its counts
pub record FailsToCopy (old new : FolderState) (buffer filled : List ℕ) : Type 0 where
  pub fails : read_fails old ≡ true
  pub unmoved : filled ≡ buffer
  pub after : new ≡ record old { calls = after_fault old.calls }

-- what a read of the folder's own name does
abbrev pub ReadsOwnFile : FolderState → FolderState → ℕ → List ℕ → List ℕ → Result ℕ Failed → Type 0
ReadsOwnFile old new at buffer filled (Ok n) = CopiesBytes old new at buffer filled n
ReadsOwnFile old new at buffer filled (Err _) = FailsToCopy old new buffer filled

-- a read of another name finds no byte, and isn't counted
pub record FindsNothing (old new : FolderState) (buffer filled : List ℕ) (result : Result ℕ Failed) : Type 0 where
  pub none : result ≡ Ok 0
  pub unmoved : filled ≡ buffer
  pub after : new ≡ old

-- what a read of a folder does
abbrev pub ReadsFolder : FolderState → FolderState → List ℕ → ℕ → List ℕ → List ℕ → Result ℕ Failed → Type 0
ReadsFolder old new name at buffer filled result =
    MatchBool (bytes_eq name old.name) (ReadsOwnFile old new at buffer filled result) (FindsNothing old new buffer filled result)

-- a sink: the bytes that were written, and how many it holds at most
pub record SinkState : Type 0 where
  pub written : List ℕ
  pub room : ℕ
  pub calls : Calls

-- whether the next write fails: it is to fail, or the piece isn't empty and no room is left
abbrev pub write_fails : SinkState → List ℕ → Bool
write_fails sink piece = next_fails sink.calls || (nat_lt 0 (length piece) && nat_le sink.room (length sink.written))

-- a write that doesn't fail appends as much of the piece as there is room for
pub record AppendsBytes (old new : SinkState) (piece : List ℕ) (n : ℕ) : Type 0 where
  pub passes : write_fails old piece ≡ false
  pub count : n ≡ min (length piece) (old.room - length old.written)
  pub after : new ≡ record old { written = old.written ++ take n piece; calls = after_call old.calls }

-- a write that fails leaves all but its counts
pub record FailsToAppend (old new : SinkState) (piece : List ℕ) : Type 0 where
  pub fails : write_fails old piece ≡ true
  pub after : new ≡ record old { calls = after_fault old.calls }

-- what a write to a sink does
abbrev pub WritesSink : SinkState → SinkState → List ℕ → Result ℕ Failed → Type 0
WritesSink old new piece (Ok n) = AppendsBytes old new piece n
WritesSink old new piece (Err _) = FailsToAppend old new piece
