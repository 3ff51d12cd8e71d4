-- The instructions of a program: loads, steps, keys.
use Rattle.std.proofs.Common.{◌≡◌, ℕ, ◌≤◌, Bool, true, false, cond, ◌||◌, List, [], ◌∷◌, ◌++◌, length, map, codes, Option, Some, Result, Ok, Err, refl, sym, ap, ap₂, subst, ◌∙◌, arith, append_assoc, append-nil}
use Rattle.std.specs.List.{AllByRecursion}
use Rattle.std.specs.Str.{bytes_eq}
use Rattle.std.proofs.lemmas.List.{map-append}
use Rattle.om_code.specs.declared.code.Instr.{Instr}
use Rattle.om_code.specs.Plain.{IsPlainInstr, InParts, part_of}
use Rattle.om_io.specs.Lines.{Words}
use Rattle.om_program_text.specs.ProgramText.{instr_words}
use Rattle.om_asm.specs.InRange.{InstrInRange}
use Rattle.om_asm.specs.Lines.{At}
use Rattle.om_asm.specs.Instrs.{load_of, fuse_of, prop_of, key_of}
use Rattle.om_asm.specs.Rows.{BadLine, rows_from, behind, formed, is_load, is_fuse, is_step, is_key, load_row, step_row, key_row, instrs_at}
use Rattle.om_ring.specs.ResultSteps.{◌>>=◌}
use Rattle.om_asm.proofs.SpeltLemmas.{same_bytes}
use Rattle.om_asm.proofs.InstrLaws.{load_found, fuse_found, prop_found, key_found}
use Rattle.om_asm.proofs.RowLaws.{formed_ok, bind_ok, RowsFound, rows_found}
use Rattle.om_asm.proofs.AllLines.{all_append}

-- a plain instruction of a part, within its types
abbrev pub IsOf : ℕ → ℕ → Instr → Type 0
IsOf version part i = IsPlainInstr version i × (part_of i ≡ part) × InstrInRange i

formed_found : {A : Type 0} (o : Option A) (x : A) → formed o ≡ Ok x → o ≡ Some x
formed_found o x e = formed_ok o x e

first_is : (w key : List ℕ) (ws vs : Words) → bytes_eq w key ≡ true → key ∷ ws ≡ vs → w ∷ ws ≡ vs
first_is w key ws vs b e = ap (λ (v : List ℕ). v ∷ ws) (same_bytes w key b) ∙ e

loads_law : (version : ℕ) → RowsFound (λ _ w. is_load w) (load_row version) (instr_words version) (IsOf version 0)
loads_law version count w ws x s e =
    let f = load_found version ws x (formed_found (load_of version ws) x e) in
    (first_is w (codes "load") ws (instr_words version x) s f.0, (f.1, f.2, f.3))

keys_law : (version : ℕ) → RowsFound (λ _ w. is_key w) key_row (instr_words version) (IsOf version 2)
keys_law version count w ws x s e =
    let f = key_found version ws x (formed_found (key_of ws) x e) in
    (first_is w (codes "key") ws (instr_words version x) s f.0, (f.1, f.2, f.3))

step_by : (version : ℕ) (w : List ℕ) (ws : Words) (x : Instr) (a : Bool) → is_fuse w ≡ a → (a || bytes_eq w (codes "prop")) ≡ true → cond a (formed (fuse_of ws)) (formed (prop_of ws)) ≡ Ok x → (w ∷ ws ≡ instr_words version x) × IsOf version 1 x
step_by version w ws x true a s e =
    let f = fuse_found version ws x (formed_found (fuse_of ws) x e) in
    (first_is w (codes "fuse") ws (instr_words version x) a f.0, (f.1, f.2, f.3))
step_by version w ws x false a s e =
    let f = prop_found version ws x (formed_found (prop_of ws) x e) in
    (first_is w (codes "prop") ws (instr_words version x) s f.0, (f.1, f.2, f.3))

steps_law : (version : ℕ) → RowsFound (λ _ w. is_step w) step_row (instr_words version) (IsOf version 1)
steps_law version count w ws x s e = step_by version w ws x (is_fuse w) refl s e

-- ---- all instructions

plain_of : (version part : ℕ) (is : List Instr) → AllByRecursion (IsOf version part) is → AllByRecursion (IsPlainInstr version) is
plain_of version part [] h = tt
plain_of version part (i ∷ is) h = (h.0.0, plain_of version part is h.1)

within_of : (version part : ℕ) (is : List Instr) → AllByRecursion (IsOf version part) is → AllByRecursion InstrInRange is
within_of version part [] h = tt
within_of version part (i ∷ is) h = (h.0.2, within_of version part is h.1)

parts_lower : (low part : ℕ) (is : List Instr) → low ≤ part → InParts part is → InParts low is
unfolding InParts
parts_lower low part [] h p = tt
parts_lower low part (i ∷ is) h p = (omega (arith, p.0), p.1)

parts_append : (version part : ℕ) (is js : List Instr) → AllByRecursion (IsOf version part) is → InParts part js → InParts part (is ++ js)
unfolding InParts
parts_append version part [] js h p = p
parts_append version part (i ∷ is) js h p = (omega (arith, h.0.1), subst (λ k. InParts k (is ++ js)) (sym h.0.1) (parts_append version part is js h.1 p))

parts_none : (part : ℕ) → InParts part []
unfolding InParts
parts_none part = tt

-- these lines are those of instructions, and others behind them
pub record AreInstrs (version : ℕ) (lines : List Words) (is : List Instr) (rest : List Words) : Type 0 where
  pub parts : lines ≡ map (instr_words version) is ++ rest
  pub plain : AllByRecursion (IsPlainInstr version) is
  pub range : AllByRecursion InstrInRange is
  pub order : InParts 0 is

behind_ok : (front : List Instr) (said : Result (List Instr × At) BadLine) (y : List Instr × At) → behind front said ≡ Ok y → (x : List Instr × At) × (said ≡ Ok x) × (y ≡ (front ++ x.0, x.1))
behind_ok front (Ok x) y e = (x, refl, cc)
behind_ok front (Err d) y e = absurd cc

join_lines : (version : ℕ) (is js : List Instr) (lines middle rest : List Words) → lines ≡ map (instr_words version) is ++ middle → middle ≡ map (instr_words version) js ++ rest → lines ≡ map (instr_words version) (is ++ js) ++ rest
join_lines version is js lines middle rest e f =
    e ∙ ap (λ (ls : List Words). map (instr_words version) is ++ ls) f
    ∙ sym (append_assoc (map (instr_words version) is) (map (instr_words version) js) rest)
    ∙ ap (λ (ls : List Words). ls ++ rest) (sym (map-append (instr_words version) is js))

pub instrs_found : (version : ℕ) (a : At) (y : List Instr × At) → instrs_at version a ≡ Ok y → AreInstrs version a.lines y.0 y.1.lines
unfolding instrs_at
instrs_found version a y e =
    let l = bind_ok (rows_from (λ _ w. is_load w) (load_row version) 0 a.number a.lines) (λ loads. behind loads.0 (rows_from (λ _ w. is_step w) step_row (length loads.0) loads.1.number loads.1.lines) >>= λ steps. behind steps.0 (rows_from (λ _ w. is_key w) key_row (length steps.0) steps.1.number steps.1.lines)) y e in
    let s = bind_ok (behind l.0.0 (rows_from (λ _ w. is_step w) step_row (length l.0.0) l.0.1.number l.0.1.lines)) (λ steps. behind steps.0 (rows_from (λ _ w. is_key w) key_row (length steps.0) steps.1.number steps.1.lines)) y l.2 in
    let t = behind_ok l.0.0 (rows_from (λ _ w. is_step w) step_row (length l.0.0) l.0.1.number l.0.1.lines) s.0 s.1 in
    let k = behind_ok s.0.0 (rows_from (λ _ w. is_key w) key_row (length s.0.0) s.0.1.number s.0.1.lines) y s.2 in
    let loads = rows_found (λ _ w. is_load w) (load_row version) (instr_words version) (IsOf version 0) (loads_law version) 0 a.number a.lines l.0.0 l.0.1 l.1 in
    let steps = rows_found (λ _ w. is_step w) step_row (instr_words version) (IsOf version 1) (steps_law version) (length l.0.0) l.0.1.number l.0.1.lines t.0.0 t.0.1 t.1 in
    let keys = rows_found (λ _ w. is_key w) key_row (instr_words version) (IsOf version 2) (keys_law version) (length s.0.0) s.0.1.number s.0.1.lines k.0.0 k.0.1 k.1 in
    let front : s.0.0 ≡ l.0.0 ++ t.0.0 = ap (λ (p : List Instr × At). p.0) t.2 in
    let then : s.0.1.lines ≡ t.0.1.lines = ap (λ (p : List Instr × At). p.1.lines) t.2 in
    let whole : y.0 ≡ l.0.0 ++ (t.0.0 ++ k.0.0) = ap (λ (p : List Instr × At). p.0) k.2 ∙ ap (λ (is : List Instr). is ++ k.0.0) front ∙ append_assoc l.0.0 t.0.0 k.0.0 in
    let rest : y.1.lines ≡ k.0.1.lines = ap (λ (p : List Instr × At). p.1.lines) k.2 in
    let later = join_lines version t.0.0 k.0.0 l.0.1.lines s.0.1.lines k.0.1.lines (steps.parts ∙ ap (λ (ls : List Words). map (instr_words version) t.0.0 ++ ls) (sym then)) keys.parts in
    let all = join_lines version l.0.0 (t.0.0 ++ k.0.0) a.lines l.0.1.lines k.0.1.lines loads.parts later in
    let key_order = parts_append version 2 k.0.0 [] keys.fit (parts_none 2) in
    let none : k.0.0 ++ [] ≡ k.0.0 = append-nil k.0.0 in
    let keys_in : InParts 2 k.0.0 = subst (InParts 2) none key_order in
    let order = parts_append version 0 l.0.0 (t.0.0 ++ k.0.0) loads.fit (parts_lower 0 1 (t.0.0 ++ k.0.0) (omega arith) (parts_append version 1 t.0.0 k.0.0 steps.fit (parts_lower 1 2 k.0.0 (omega arith) keys_in))) in
    let plain = all_append (IsPlainInstr version) l.0.0 (t.0.0 ++ k.0.0) (plain_of version 0 l.0.0 loads.fit) (all_append (IsPlainInstr version) t.0.0 k.0.0 (plain_of version 1 t.0.0 steps.fit) (plain_of version 2 k.0.0 keys.fit)) in
    let range = all_append InstrInRange l.0.0 (t.0.0 ++ k.0.0) (within_of version 0 l.0.0 loads.fit) (all_append InstrInRange t.0.0 k.0.0 (within_of version 1 t.0.0 steps.fit) (within_of version 2 k.0.0 keys.fit)) in
    record {
      parts = all ∙ ap₂ (λ (is : List Instr) (ls : List Words). map (instr_words version) is ++ ls) (sym whole) (sym rest);
      plain = subst (AllByRecursion (IsPlainInstr version)) (sym whole) plain;
      range = subst (AllByRecursion InstrInRange) (sym whole) range;
      order = subst (InParts 0) (sym whole) order;
    }
