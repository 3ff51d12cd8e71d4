-- What a call sees and leaves of the outside.
use Rattle.std.specs.Prelude.{ℕ, ◌≡◌, ◌≤◌, List, [], length, take, Option, IfSome}
use Rattle.om_io.specs.Causes.{Rose}
use Rattle.om_io.specs.Bytes.{after_told, before_told}
use Rattle.om_top.specs.declared.ending.Ending.{Ending}
use Rattle.om_top.specs.declared.ending.Ending.TheVariants.{Done, OutFault}

-- one object: its bytes, which may be told, and its count of faults, before the call and after it
pub record Side : Type 0 where
  pub before : Option (List ℕ)
  pub after : Option (List ℕ)
  pub faults_before : ℕ
  pub faults_after : ℕ

-- what a call does to an object that is seen by its bytes and its count of faults
abbrev pub side : {X : Type 0} → (X → Option (List ℕ)) → (X → ℕ) → X → X → Side
side bytes faults old new = record { before = bytes old; after = bytes new; faults_before = faults old; faults_after = faults new }

-- what it does to the file of a name, where files are seen by name
abbrev pub file_side : {X : Type 0} → (X → List ℕ → Option (List ℕ)) → (X → List ℕ → ℕ) → List ℕ → X → X → Side
file_side bytes faults name old new = side (λ f. bytes f name) (λ f. faults f name) old new

-- files by name, an input and an output
pub record Outside : Type 0 where
  pub file : List ℕ → Side
  pub input : Side
  pub out : Side

-- what a call does to the files, its input and its output
abbrev pub outside : {X : Type 0} → (X → List ℕ → Option (List ℕ)) → (X → List ℕ → ℕ) → X → X → Side → Side → Outside
outside bytes faults old new input out = record { file = λ name. file_side bytes faults name old new; input = input; out = out }

-- the count of faults rose
abbrev pub Failed : Side → Type 0
Failed s = Rose s.faults_before s.faults_after

-- nothing was taken or appended
abbrev pub IsUntouched : Side → Type 0
IsUntouched s = s.after ≡ s.before

-- these are all bytes, where they are told
abbrev pub Holds : Side → List ℕ → Type 0
Holds s bytes = IfSome s.before (λ told. told ≡ bytes)

-- exactly these bytes were appended
abbrev pub Gained : Side → List ℕ → Type 0
Gained s text = s.after ≡ after_told s.before text

-- a prefix of these bytes was appended
abbrev pub GainedPrefix : Side → List ℕ → Type 0
GainedPrefix s text = (n : ℕ) × (n ≤ length text) × Gained s (take n text)

-- exactly these bytes were taken
abbrev pub Gave : Side → List ℕ → Type 0
Gave s bytes = s.before ≡ before_told bytes s.after

-- nothing is left, where it is told
abbrev pub IsDone : Side → Type 0
IsDone s = IfSome s.after (λ rest. rest ≡ [])

-- nothing was read from the input and nothing written
abbrev pub IsQuiet : Outside → Type 0
IsQuiet o = IsUntouched o.input × IsUntouched o.out

-- a text was written, whole or up to a failure
abbrev pub Writes : Side → List ℕ → Ending → Type 0
Writes out text Done = Gained out text
Writes out text OutFault = Failed out × GainedPrefix out text
Writes out text _ = ⊥
