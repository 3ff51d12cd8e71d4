-- The words of a command are among those of the call.
use Rattle.std.proofs.Common.{◌≡◌, ℕ, ◌+◌, ◌<◌, List, [], ◌∷◌, length, Bool, true, false, Option, Some, None, subst}
use Rattle.std.specs.Prelude.{All, ◌^◌, codes, if◌then◌else◌, nat_le}
use Rattle.std.specs.Str.{bytes_eq}
use Rattle.std.proofs.lemmas.List.Elements.{All-head, All-tail}
use Rattle.om_ring.specs.Spelt.{decimal_below}
use Rattle.om_legs.specs.declared.leg_set.TheConstants.{MOST_LEGS}
use Rattle.om_model.specs.declared.limits.TheConstants.{FEWEST_LEGS}
use Rattle.om_top.specs.Command.{Command, check, eval, write, run, sample, command_of, sample_by, sample_of}
use Rattle.om_top.specs.declared.command.Written.TheVariants.{Program, Listing}

-- the text of a process, where a command has one
abbrev pub text_of : Command → List ℕ
text_of (check model) = []
text_of (eval model process) = process
text_of (write written model process) = process
text_of (run program) = []
text_of (sample seed legs) = []

module _ (n : ℕ) (some : 0 < n) (command : Command) where
  none_asked : None ≡ Some command → length (text_of command) < n
  none_asked e = cc

  asked : (c : Command) → length (text_of c) < n → Some c ≡ Some command → length (text_of command) < n
  asked c h e = let same : c ≡ command = cc in subst (λ (x : Command). length (text_of x) < n) same h

  by_file : (a b : Bool) (file : List ℕ) → (if a then Some (check file) else (if b then Some (run file) else None)) ≡ Some command → length (text_of command) < n
  by_file true b file e = asked (check file) some e
  by_file false true file e = asked (run file) some e
  by_file false false file e = none_asked e

  by_enough : (b : Bool) (seed legs : ℕ) → (if b then Some (sample seed legs) else None) ≡ Some command → length (text_of command) < n
  by_enough true seed legs e = asked (sample seed legs) some e
  by_enough false seed legs e = none_asked e

  by_sample : (seed legs : Option ℕ) → sample_by seed legs ≡ Some command → length (text_of command) < n
  by_sample None legs e = none_asked e
  by_sample (Some seed) None e = none_asked e
  by_sample (Some seed) (Some legs) e = by_enough (nat_le FEWEST_LEGS legs) seed legs e

  by_two : (a b c d : Bool) (first second : List ℕ) (x : Option Command) → length second < n → (x ≡ Some command → length (text_of command) < n)
      → (if a then Some (eval first second) else (if b then Some (write Program first second) else (if c then Some (write Listing first second) else (if d then x else None)))) ≡ Some command → length (text_of command) < n
  by_two true b c d first second x h k e = asked (eval first second) h e
  by_two false true c d first second x h k e = asked (write Program first second) h e
  by_two false false true d first second x h k e = asked (write Listing first second) h e
  by_two false false false true first second x h k e = k e
  by_two false false false false first second x h k e = none_asked e

  -- it is as short as each of the words
  pub short_text : (words : List (List ℕ)) → command_of words ≡ Some command → All (λ w. length w < n) words → length (text_of command) < n
  short_text [] e h = none_asked e
  short_text (word ∷ []) e h = none_asked e
  short_text (word ∷ file ∷ []) e h = by_file (bytes_eq word (codes "check")) (bytes_eq word (codes "run")) file e
  short_text (word ∷ first ∷ second ∷ []) e h =
      let P : List ℕ → Type 0 = λ w. length w < n in
      by_two (bytes_eq word (codes "eval")) (bytes_eq word (codes "compile")) (bytes_eq word (codes "graph")) (bytes_eq word (codes "sample")) first second (sample_of first second)
      (All-head P second [] (All-tail P first (second ∷ []) (All-tail P word (first ∷ second ∷ []) h)))
      (λ x. by_sample (decimal_below (2 ^ 64) first) (decimal_below (MOST_LEGS + 1) second) x) e
  short_text (word ∷ first ∷ second ∷ more ∷ words) e h = none_asked e
