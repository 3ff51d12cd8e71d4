-- The greatest register, one instruction after the other.
use Rattle.std.proofs.Common.{◌≡◌, ℕ, ◌+◌, ◌-◌, ◌^◌, ◌<◌, eqb, Bool, true, false, cond, max, List, [], ◌∷◌, ◌++◌, length, get_or, take, refl, sym, ap, ◌∙◌, arith}
use Rattle.std.proofs.lemmas.List.{take_more}
use Rattle.om_code.specs.declared.code.Instr.{Instr}
use Rattle.std.specs.List.{AllByRecursion}
use Rattle.om_code.specs.declared.code.Instr.TheVariants.{Load, Fuse, Prop, Key}
use Rattle.om_code.specs.Plain.{IsPlainInstr, registers_named, slots_for}
use Rattle.om_asm.specs.InRange.{InstrInRange}
use Rattle.om_asm.specs.Program.{FillsFew}

by_version : (b : Bool) (slot leg : ℕ) → leg < 256 → cond b (slot + 1 ≡ leg) (slot < 2 ^ 32 - 1) → slot + 1 < 2 ^ 32
by_version true slot leg h e = omega arith
by_version false slot leg h e = omega arith

fills_few : (version : ℕ) (i : Instr) → IsPlainInstr version i → InstrInRange i → FillsFew i
fills_few version (Load slot leg) p r = by_version (eqb version 1) slot leg r p.1
fills_few version (Fuse slot minus vertex choice branches) p r = omega (arith, p.to_place)
fills_few version (Prop slot den) p r = omega arith
fills_few version (Key flow minus vertex choice branches) p r = omega arith

pub all_fill_few : (version : ℕ) (is : List Instr) → AllByRecursion (IsPlainInstr version) is → AllByRecursion InstrInRange is → AllByRecursion FillsFew is
all_fill_few version [] p r = tt
all_fill_few version (i ∷ is) p r = (fills_few version i p.0 r.0, all_fill_few version is p.1 r.1)

registers_push : (is : List Instr) (i : Instr) → registers_named (is ++ i ∷ []) ≡ max (registers_named is) (slots_for i)
unfolding registers_named
registers_push [] i = omega arith
registers_push (j ∷ js) i = omega (arith, registers_push js i)

pub registers_none : registers_named [] ≡ 0
unfolding registers_named
registers_none = refl

pub registers_more : (is : List Instr) (k : ℕ) (d i : Instr) (most named now : ℕ) → k < length is → i ≡ get_or is k d → most ≡ registers_named (take k is) → named ≡ slots_for i → now ≡ max most named → now ≡ registers_named (take (k + 1) is)
registers_more is k d i most named now lt at m n e =
    e ∙ (let f : max most named ≡ max (registers_named (take k is)) (slots_for i) = omega (arith, m, n) in f)
    ∙ sym (registers_push (take k is) i) ∙ ap (λ j. registers_named (take k is ++ j ∷ [])) at ∙ ap registers_named (sym (take_more is k d lt))
