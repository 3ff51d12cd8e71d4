-- A folder in memory: what its exact behaviour gives of the clauses of its trait.
use Rattle.std.proofs.Common.{◌≡◌, ◌≢◌, ℕ, ◌≤◌, Bool, true, false, List, [], length, Some, IfOk, MatchBool, Result, Ok, Err, refl, ap, sym, subst, ◌∙◌, arith}
use Rattle.std.specs.Prelude.{bytes_eq, if◌then◌else◌}
use Rattle.std.proofs.lemmas.Slice.Eq.{bytes_eq-Decides}
use Rattle.std.proofs.lemmas.Bool.{cond-false, false_from_ne_true}
use Rattle.om_io.specs.Bytes.{HoldsPart}
use Rattle.om_io.specs.Causes.{HasCause}
use Rattle.om_io.specs.InMemory.{FolderState, own_bytes, bytes_of, faults_of, ReadsOwnFile, FindsNothing, ReadsFolder}
use Rattle.om_io.specs.declared.Failed.{Failed}
use Rattle.om_io.proofs.Counts.{HasCause-kept, HasCause-raised}

-- a read of the folder's own name, or of another
abbrev Reads : FolderState → FolderState → ℕ → List ℕ → List ℕ → Bool → Result ℕ Failed → Type 0
Reads old new at buffer filled own result =
    MatchBool own (ReadsOwnFile old new at buffer filled result) (FindsNothing old new buffer filled result)

module _ (old new : FolderState) (at : ℕ) (buffer filled : List ℕ) where
  -- no read moves more than the buffer holds
  count : (own : Bool) (result : Result ℕ Failed) → Reads old new at buffer filled own result → IfOk result (λ n. n ≤ length buffer)
  count true (Ok n) h = omega (arith, h.count)
  count true (Err fault) h = tt
  count false (Ok n) h = let none : n ≡ 0 = (let e = h.none in cc) in omega (arith, none)
  count false (Err fault) h = tt

  -- what a read moves is a part of what the name holds
  part : (own : Bool) (result : Result ℕ Failed) → Reads old new at buffer filled own result → IfOk result (λ n. HoldsPart (if own then own_bytes old else []) at n buffer filled)
  part true (Ok n) h =
      record {
        within = omega (arith, h.count);
        bytes = h.moved;
        end = λ room. (λ e. omega (arith, h.count), λ e. omega (arith, h.count));
      }
  part true (Err fault) h = tt
  part false (Ok n) h =
      let none : n ≡ 0 = (let e = h.none in cc) in
      record {
        within = omega (arith, none);
        bytes = rw none h.unmoved;
        end = λ room. (λ e. omega arith, λ e. none);
      }
  part false (Err fault) h = tt

  -- a failed read of the own name raised its count, and no other name fails
  cause : (own : Bool) (result : Result ℕ Failed) → Reads old new at buffer filled own result → HasCause (if own then old.calls.faults else 0) (if own then new.calls.faults else 0) result
  cause true (Ok n) h = HasCause-kept old.calls.faults new.calls.faults n (ap (λ (f : FolderState). f.calls.faults) h.after)
  cause true (Err fault) h = HasCause-raised old.calls.faults new.calls.faults fault (ap (λ (f : FolderState). f.calls.faults) h.after)
  cause false (Ok n) h = HasCause-kept 0 0 n refl
  cause false (Err fault) h = absurd (let e = h.none in cc)

  -- no read changes the name or the file
  same_name : (own : Bool) (result : Result ℕ Failed) → Reads old new at buffer filled own result → new.name ≡ old.name
  same_name true (Ok n) h = ap (λ (f : FolderState). f.name) h.after
  same_name true (Err fault) h = ap (λ (f : FolderState). f.name) h.after
  same_name false result h = ap (λ (f : FolderState). f.name) h.after

  same_bytes : (own : Bool) (result : Result ℕ Failed) → Reads old new at buffer filled own result → (q : List ℕ) → bytes_of new q ≡ bytes_of old q
  same_bytes true (Ok n) h q = ap (λ (f : FolderState). bytes_of f q) h.after
  same_bytes true (Err fault) h q = ap (λ (f : FolderState). bytes_of f q) h.after
  same_bytes false result h q = ap (λ (f : FolderState). bytes_of f q) h.after

  -- no read changes the count of another name
  others : (own : Bool) (result : Result ℕ Failed) → Reads old new at buffer filled own result → (name q : List ℕ) → bytes_eq name old.name ≡ own → q ≢ name → faults_of new q ≡ faults_of old q
  others true result h name q own other =
      let not_own = false_from_ne_true (bytes_eq q old.name) (λ e. other ((bytes_eq-Decides q old.name).0 e ∙ sym ((bytes_eq-Decides name old.name).0 own))) in
      cond-false (bytes_eq q new.name) new.calls.faults 0 (ap (bytes_eq q) (same_name true result h) ∙ not_own)
      ∙ sym (cond-false (bytes_eq q old.name) old.calls.faults 0 not_own)
  others false result h name q own other = ap (λ (f : FolderState). faults_of f q) h.after

module _ (old new : FolderState) (name : List ℕ) (at : ℕ) (buffer filled : List ℕ) (result : Result ℕ Failed) (reads : ReadsFolder old new name at buffer filled result) where
  pub folder_count : IfOk result (λ n. n ≤ length buffer)
  folder_count = count old new at buffer filled (bytes_eq name old.name) result reads

  pub folder_bytes : IfOk result (λ n. HoldsPart (bytes_of old name) at n buffer filled)
  folder_bytes = part old new at buffer filled (bytes_eq name old.name) result reads

  pub folder_files : (q : List ℕ) → Some (bytes_of new q) ≡ Some (bytes_of old q)
  folder_files q = ap Some (same_bytes old new at buffer filled (bytes_eq name old.name) result reads q)

  pub folder_others : (q : List ℕ) → q ≢ name → faults_of new q ≡ faults_of old q
  folder_others q other = others old new at buffer filled (bytes_eq name old.name) result reads name q refl other

  pub folder_cause : HasCause (faults_of old name) (faults_of new name) result
  folder_cause =
      let P : List ℕ → Type 0 = λ m. HasCause (faults_of old name) (if bytes_eq name m then new.calls.faults else 0) result in
      subst P (sym (same_name old new at buffer filled (bytes_eq name old.name) result reads)) (cause old new at buffer filled (bytes_eq name old.name) result reads)
