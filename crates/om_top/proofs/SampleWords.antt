-- The words of a sample say 3 to 12 legs.
use Rattle.std.proofs.Common.{◌≡◌, ℕ, ◌+◌, ◌≤◌, Bool, true, false, List, [], ◌∷◌, refl, ap, arith, subst}
use Rattle.std.specs.Prelude.{Option, Some, None, ◌^◌, codes, if◌then◌else◌, nat_le, decimal}
use Rattle.std.proofs.lemmas.Bool.{leb-true}
use Rattle.std.specs.Str.{bytes_eq}
use Rattle.om_ring.specs.Spelt.{decimal_below}
use Rattle.om_ring.proofs.SpeltLemmas.{spelt_found}
use Rattle.om_legs.specs.declared.leg_set.TheConstants.{MOST_LEGS}
use Rattle.om_model.specs.declared.limits.TheConstants.{FEWEST_LEGS}
use Rattle.om_top.specs.Command.{Command, check, eval, write, run, sample, command_of, sample_by}
use Rattle.om_top.specs.declared.command.Written.TheVariants.{Program, Listing}

no_file : (file : List ℕ) (seed legs : ℕ) (a b : Bool) → (if a then Some (check file) else (if b then Some (run file) else None)) ≡ Some (sample seed legs) → ⊥
no_file file seed legs true b e = cc
no_file file seed legs false true e = cc
no_file file seed legs false false e = cc

by_two : (first second : List ℕ) (seed legs : ℕ) (x : Option Command) (a b c d : Bool)
    → (if a then Some (eval first second) else (if b then Some (write Program first second) else (if c then Some (write Listing first second) else (if d then x else None)))) ≡ Some (sample seed legs)
    → x ≡ Some (sample seed legs)
by_two first second seed legs x true b c d e = absurd (cc)
by_two first second seed legs x false true c d e = absurd (cc)
by_two first second seed legs x false false true d e = absurd (cc)
by_two first second seed legs x false false false true e = e
by_two first second seed legs x false false false false e = absurd (cc)

-- the number of legs was read, and isn't below the fewest
by_legs : (s t : Option ℕ) (seed legs : ℕ) → sample_by s t ≡ Some (sample seed legs) → (t ≡ Some legs) × (FEWEST_LEGS ≤ legs)
by_legs None t seed legs e = absurd (cc)
by_legs (Some s) None seed legs e = absurd (cc)
by_legs (Some s) (Some t) seed legs e = by (nat_le FEWEST_LEGS t) refl e
  where
    by : (b : Bool) → nat_le FEWEST_LEGS t ≡ b → (if b then Some (sample s t) else None) ≡ Some (sample seed legs) → (Some t ≡ Some legs) × (FEWEST_LEGS ≤ legs)
    by true h e = (let same : t ≡ legs = cc in (ap Some same, subst (λ n. FEWEST_LEGS ≤ n) same (leb-true FEWEST_LEGS t h)))
    by false h e = absurd (cc)

pub sample_within : (words : List (List ℕ)) (seed legs : ℕ) → command_of words ≡ Some (sample seed legs) → (FEWEST_LEGS ≤ legs) × (legs ≤ MOST_LEGS)
sample_within [] seed legs e = absurd (cc)
sample_within (word ∷ []) seed legs e = absurd (cc)
sample_within (word ∷ file ∷ []) seed legs e = absurd (no_file file seed legs (bytes_eq word (codes "check")) (bytes_eq word (codes "run")) e)
sample_within (word ∷ first ∷ second ∷ []) seed legs e =
    let said = by_two first second seed legs _ (bytes_eq word (codes "eval")) (bytes_eq word (codes "compile")) (bytes_eq word (codes "graph")) (bytes_eq word (codes "sample")) e in
    let read = by_legs (decimal_below (2 ^ 64) first) (decimal_below (MOST_LEGS + 1) second) seed legs said in
    (read.1, (let below = (spelt_found decimal (MOST_LEGS + 1) second legs read.0).0 in omega (arith, below)))
sample_within (word ∷ first ∷ second ∷ more ∷ words) seed legs e = absurd (cc)
