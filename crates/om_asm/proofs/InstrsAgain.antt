-- The instructions of a plain code are read again from their lines.
use Rattle.std.proofs.Common.{◌≡◌, ℕ, ◌+◌, ◌≤◌, false, List, [], ◌∷◌, ◌++◌, length, map, Result, Ok, refl, sym, ap, ap₂, ◌∙◌, arith, append_assoc}
use Rattle.std.specs.List.{AllByRecursion}
use Rattle.std.proofs.lemmas.List.{map-append, length-append}
use Rattle.om_code.specs.declared.code.Instr.{Instr}
use Rattle.om_code.specs.declared.code.Instr.TheVariants.{Load, Fuse, Prop, Key}
use Rattle.om_code.specs.Plain.{IsPlainInstr, InParts, part_of}
use Rattle.om_io.specs.Lines.{Words}
use Rattle.om_program_text.specs.ProgramText.{instr_words}
use Rattle.om_asm.specs.InRange.{InstrInRange}
use Rattle.om_asm.specs.Lines.{At}
use Rattle.om_asm.specs.Rows.{BadLine, place, rows_from, behind, is_load, is_step, is_key, load_row, step_row, key_row, instrs_at}
use Rattle.om_ring.specs.ResultSteps.{◌>>=◌}
use Rattle.om_asm.proofs.RowLaws.{rows_again, Stops}
use Rattle.om_asm.proofs.InstrAgain.{IsReadable, all_loads, all_steps, all_keys}

abbrev AreReadable : ℕ → ℕ → List Instr → Type 0
AreReadable version part is = AllByRecursion (IsReadable version part) is

readable : (version part : ℕ) (i : Instr) → IsPlainInstr version i → InstrInRange i → part_of i ≡ part → IsReadable version part i
readable version part i p r e = record { plain = p; range = r; of_part = e }

keys_only : (version : ℕ) (is : List Instr) → InParts 2 is → AllByRecursion (IsPlainInstr version) is → AllByRecursion InstrInRange is → AreReadable version 2 is
unfolding InParts
keys_only version [] o p r = tt
keys_only version (Load slot leg ∷ is) o p r = absurd (let h = o.0 in omega arith)
keys_only version (Fuse slot minus vertex choice branches ∷ is) o p r = absurd (let h = o.0 in omega arith)
keys_only version (Prop slot den ∷ is) o p r = absurd (let h = o.0 in omega arith)
keys_only version (Key flow minus vertex choice branches ∷ is) o p r = (readable version 2 (Key flow minus vertex choice branches) p.0 r.0 refl, keys_only version is o.1 p.1 r.1)

-- steps, and keys behind them
pub record InTwo (version : ℕ) (is : List Instr) : Type 0 where
  pub steps : List Instr
  pub keys : List Instr
  pub whole : is ≡ steps ++ keys
  pub steps_read : AreReadable version 1 steps
  pub keys_read : AreReadable version 2 keys

one_step : (version : ℕ) (i : Instr) (is : List Instr) → IsReadable version 1 i → InTwo version is → InTwo version (i ∷ is)
one_step version i is r t = record { steps = i ∷ t.steps; keys = t.keys; whole = ap (λ (js : List Instr). i ∷ js) t.whole; steps_read = (r, t.steps_read); keys_read = t.keys_read }

in_two : (version : ℕ) (is : List Instr) → InParts 1 is → AllByRecursion (IsPlainInstr version) is → AllByRecursion InstrInRange is → InTwo version is
unfolding InParts
in_two version [] o p r = record { steps = []; keys = []; whole = refl; steps_read = tt; keys_read = tt }
in_two version (Load slot leg ∷ is) o p r = absurd (let h = o.0 in omega arith)
in_two version (Fuse slot minus vertex choice branches ∷ is) o p r = one_step version (Fuse slot minus vertex choice branches) is (readable version 1 (Fuse slot minus vertex choice branches) p.0 r.0 refl) (in_two version is o.1 p.1 r.1)
in_two version (Prop slot den ∷ is) o p r = one_step version (Prop slot den) is (readable version 1 (Prop slot den) p.0 r.0 refl) (in_two version is o.1 p.1 r.1)
in_two version (Key flow minus vertex choice branches ∷ is) o p r = record {
  steps = [];
  keys = Key flow minus vertex choice branches ∷ is;
  whole = refl;
  steps_read = tt;
  keys_read = (readable version 2 (Key flow minus vertex choice branches) p.0 r.0 refl, keys_only version is o.1 p.1 r.1);
}

-- loads, steps and keys
pub record InThree (version : ℕ) (is : List Instr) : Type 0 where
  pub loads : List Instr
  pub steps : List Instr
  pub keys : List Instr
  pub whole : is ≡ loads ++ (steps ++ keys)
  pub loads_read : AreReadable version 0 loads
  pub steps_read : AreReadable version 1 steps
  pub keys_read : AreReadable version 2 keys

without_loads : (version : ℕ) (is : List Instr) → InTwo version is → InThree version is
without_loads version is t = record { loads = []; steps = t.steps; keys = t.keys; whole = t.whole; loads_read = tt; steps_read = t.steps_read; keys_read = t.keys_read }

one_load : (version : ℕ) (i : Instr) (is : List Instr) → IsReadable version 0 i → InThree version is → InThree version (i ∷ is)
one_load version i is r t = record { loads = i ∷ t.loads; steps = t.steps; keys = t.keys; whole = ap (λ (js : List Instr). i ∷ js) t.whole; loads_read = (r, t.loads_read); steps_read = t.steps_read; keys_read = t.keys_read }

two_again : (i : Instr) (is : List Instr) → 1 ≤ part_of i → InParts (part_of i) is → InParts 1 (i ∷ is)
unfolding InParts
two_again i is h o = (h, o)

in_three : (version : ℕ) (is : List Instr) → InParts 0 is → AllByRecursion (IsPlainInstr version) is → AllByRecursion InstrInRange is → InThree version is
unfolding InParts
in_three version [] o p r = record { loads = []; steps = []; keys = []; whole = refl; loads_read = tt; steps_read = tt; keys_read = tt }
in_three version (Load slot leg ∷ is) o p r = one_load version (Load slot leg) is (readable version 0 (Load slot leg) p.0 r.0 refl) (in_three version is o.1 p.1 r.1)
in_three version (Fuse slot minus vertex choice branches ∷ is) o p r = let i = Fuse slot minus vertex choice branches in without_loads version (i ∷ is) (in_two version (i ∷ is) (two_again i is (omega arith) o.1) p r)
in_three version (Prop slot den ∷ is) o p r = let i = Prop slot den in without_loads version (i ∷ is) (in_two version (i ∷ is) (two_again i is (omega arith) o.1) p r)
in_three version (Key flow minus vertex choice branches ∷ is) o p r = let i = Key flow minus vertex choice branches in without_loads version (i ∷ is) (in_two version (i ∷ is) (two_again i is (omega arith) o.1) p r)

-- the next line is of no instruction
abbrev pub EndsInstrs : List Words → Type 0
EndsInstrs [] = Unit {0}
EndsInstrs ([] ∷ ls) = Unit {0}
EndsInstrs ((w ∷ ws) ∷ ls) = (is_load w ≡ false) × ((is_step w ≡ false) × (is_key w ≡ false))

stop_keys : (rest : List Words) → EndsInstrs rest → Stops (λ _ w. is_key w) rest
stop_keys [] e = tt
stop_keys ([] ∷ ls) e = tt
stop_keys ((w ∷ ws) ∷ ls) e = λ _. e.1.1

stop_steps : (version : ℕ) (keys : List Instr) (rest : List Words) → AreReadable version 2 keys → EndsInstrs rest → Stops (λ _ w. is_step w) (map (instr_words version) keys ++ rest)
stop_steps version [] [] k e = tt
stop_steps version [] ([] ∷ ls) k e = tt
stop_steps version [] ((w ∷ ws) ∷ ls) k e = λ _. e.1.0
stop_steps version (Load slot leg ∷ is) rest k e = absurd (let h = k.0.of_part in omega arith)
stop_steps version (Fuse slot minus vertex choice branches ∷ is) rest k e = absurd (let h = k.0.of_part in omega arith)
stop_steps version (Prop slot den ∷ is) rest k e = absurd (let h = k.0.of_part in omega arith)
stop_steps version (Key flow minus vertex choice branches ∷ is) rest k e = λ _. refl

stop_loads : (version : ℕ) (steps keys : List Instr) (rest : List Words) → AreReadable version 1 steps → AreReadable version 2 keys → EndsInstrs rest → Stops (λ _ w. is_load w) (map (instr_words version) steps ++ (map (instr_words version) keys ++ rest))
stop_loads version [] [] [] s k e = tt
stop_loads version [] [] ([] ∷ ls) s k e = tt
stop_loads version [] [] ((w ∷ ws) ∷ ls) s k e = λ _. e.0
stop_loads version [] (Load slot leg ∷ is) rest s k e = absurd (let h = k.0.of_part in omega arith)
stop_loads version [] (Fuse slot minus vertex choice branches ∷ is) rest s k e = absurd (let h = k.0.of_part in omega arith)
stop_loads version [] (Prop slot den ∷ is) rest s k e = absurd (let h = k.0.of_part in omega arith)
stop_loads version [] (Key flow minus vertex choice branches ∷ is) rest s k e = λ _. refl
stop_loads version (Load slot leg ∷ is) keys rest s k e = absurd (let h = s.0.of_part in omega arith)
stop_loads version (Fuse slot minus vertex choice branches ∷ is) keys rest s k e = λ _. refl
stop_loads version (Prop slot den ∷ is) keys rest s k e = λ _. refl
stop_loads version (Key flow minus vertex choice branches ∷ is) keys rest s k e = absurd (let h = s.0.of_part in omega arith)

abbrev read_to : List Instr → ℕ → List Words → Result (List Instr × At) BadLine
read_to is number lines = Ok (is, place number lines)

by_groups : (version number : ℕ) (loads steps keys : List Instr) (rest : List Words) → AreReadable version 0 loads → AreReadable version 1 steps → AreReadable version 2 keys → EndsInstrs rest
    → instrs_at version (place number (map (instr_words version) loads ++ (map (instr_words version) steps ++ (map (instr_words version) keys ++ rest)))) ≡ read_to ((loads ++ steps) ++ keys) (number + length loads + length steps + length keys) rest
unfolding instrs_at
by_groups version number loads steps keys rest l s k e =
    let words = instr_words version in
    let last = map words keys ++ rest in
    let more = map words steps ++ last in
    let one = rows_again (λ _ w. is_load w) (load_row version) words 0 number loads more (all_loads version 0 loads l) (stop_loads version steps keys rest s k e) in
    let two = rows_again (λ _ w. is_step w) step_row words (length loads) (number + length loads) steps last (all_steps version (length loads) steps s) (stop_steps version keys rest k e) in
    let three = rows_again (λ _ w. is_key w) key_row words (length (loads ++ steps)) (number + length loads + length steps) keys rest (all_keys version (length (loads ++ steps)) keys k) (stop_keys rest e) in
    ap (λ (r : Result (List Instr × At) BadLine). r >>= λ x. behind x.0 (rows_from (λ _ w. is_step w) step_row (length x.0) x.1.number x.1.lines) >>= λ y. behind y.0 (rows_from (λ _ w. is_key w) key_row (length y.0) y.1.number y.1.lines)) one
    ∙ ap (λ (r : Result (List Instr × At) BadLine). behind loads r >>= λ y. behind y.0 (rows_from (λ _ w. is_key w) key_row (length y.0) y.1.number y.1.lines)) two
    ∙ ap (behind (loads ++ steps)) three

pub instrs_again : (version number : ℕ) (is : List Instr) (rest : List Words) → InParts 0 is → AllByRecursion (IsPlainInstr version) is → AllByRecursion InstrInRange is → EndsInstrs rest
    → instrs_at version (place number (map (instr_words version) is ++ rest)) ≡ read_to is (number + length is) rest
instrs_again version number is rest o p r e =
    let t = in_three version is o p r in
    let words = instr_words version in
    let joined : is ≡ (t.loads ++ t.steps) ++ t.keys = t.whole ∙ sym (append_assoc t.loads t.steps t.keys) in
    let lines : map words is ++ rest ≡ map words t.loads ++ (map words t.steps ++ (map words t.keys ++ rest)) =
    ap (λ (js : List Instr). map words js ++ rest) t.whole
    ∙ ap (λ (ls : List Words). ls ++ rest) (map-append words t.loads (t.steps ++ t.keys) ∙ ap (λ (ls : List Words). map words t.loads ++ ls) (map-append words t.steps t.keys))
    ∙ append_assoc (map words t.loads) (map words t.steps ++ map words t.keys) rest
    ∙ ap (λ (ls : List Words). map words t.loads ++ ls) (append_assoc (map words t.steps) (map words t.keys) rest) in
    let count : number + length t.loads + length t.steps + length t.keys ≡ number + length is = omega (arith, ap length joined, length-append (t.loads ++ t.steps) t.keys, length-append t.loads t.steps) in
    ap (λ ls. instrs_at version (place number ls)) lines
    ∙ by_groups version number t.loads t.steps t.keys rest t.loads_read t.steps_read t.keys_read e
    ∙ ap₂ (λ (js : List Instr) k. read_to js k rest) (sym joined) count
