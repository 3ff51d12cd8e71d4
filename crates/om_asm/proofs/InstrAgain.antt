-- The lines of plain instructions are read again.
use Rattle.std.proofs.Common.{◌≡◌, ℕ, ◌+◌, ◌-◌, ◌<◌, ◌≤◌, eqb, leb, Bool, true, false, cond, List, [], ◌∷◌, length, codes, decimal, Option, Some, None, refl, ap, ◌∙◌, arith}
use Rattle.std.specs.List.{AllByRecursion}
use Rattle.std.proofs.lemmas.Bool.Decides.{nat_tests}
use Rattle.om_legs.specs.declared.branches.Branches.{Branches}
use Rattle.om_code.specs.declared.code.Instr.{Instr}
use Rattle.om_code.specs.declared.code.Instr.TheVariants.{Load, Fuse, Prop, Key}
use Rattle.om_code.specs.Plain.{IsPlace, IsPlainInstr, IsPlainFuse, IsPlainKey, IsLoadSlot, part_of}
use Rattle.om_asm.specs.declared.instr_line.Joint.{Joint}
use Rattle.om_io.specs.Lines.{Words}
use Rattle.om_model.specs.TermText.{term_words}
use Rattle.om_program_text.specs.ProgramText.{instr_words}
use Rattle.om_model.specs.TermText.{place_word}
use Rattle.om_asm.specs.InRange.{InstrInRange}
use Rattle.om_asm.specs.Lines.{word_by, no_more}
use Rattle.om_ring.specs.OptionSteps.{◌>>=◌}
use Rattle.om_asm.specs.Spelt.{place_of, leg_of}
use Rattle.om_asm.specs.Instrs.{load_of, fuse_of, key_of}
use Rattle.om_asm.specs.Rows.{formed, is_load, is_step, is_key, load_row, step_row, key_row}
use Rattle.om_asm.proofs.WordLaws.{put, place_law, leg_law, IsLegNumber}
use Rattle.om_asm.proofs.InstrLaws.{joint_again, prop_again}
use Rattle.om_asm.proofs.RowLaws.{RowAgain, AllAgain}

abbrev a_joint : ℕ → Bool → ℕ → ℕ → Branches → Joint
a_joint target minus vertex choice branches = record { to = target; minus = minus; vertex = vertex; choice = choice; branches = branches }

few_branches : (n : ℕ) → n ≤ 3 → leb n 3 ≡ true
few_branches n h = grind (arith, nat_tests)

many_branches : (n : ℕ) → 3 ≤ n → leb 3 n ≡ true
many_branches n h = grind (arith, nat_tests)

fuse_again : (slot : ℕ) (minus : Bool) (vertex choice : ℕ) (b : Branches) → IsPlainFuse slot vertex b.count b.nodes → choice < 256 → length b.nodes ≡ 4 → fuse_of (term_words slot minus vertex choice b) ≡ Some (Fuse slot minus vertex choice b)
unfolding fuse_of
fuse_again slot minus vertex choice b h c l =
    let j = joint_again (a_joint slot minus vertex choice b) (record { to_place = h.to_place; vertex_place = h.vertex_place; choice = c; nodes = record { length_four = l; places = h.places } }) in
    ap (λ (o : Option Joint). o >>= λ k. cond (leb k.branches.count 3) (Some (Fuse k.to k.minus k.vertex k.choice k.branches)) None) j
    ∙ ap (λ t. cond t (Some (Fuse slot minus vertex choice b)) None) (few_branches b.count h.most)

key_again : (flow : ℕ) (minus : Bool) (vertex choice : ℕ) (b : Branches) → IsPlainKey flow vertex b.count b.nodes → choice < 256 → length b.nodes ≡ 4 → key_of (term_words flow minus vertex choice b) ≡ Some (Key flow minus vertex choice b)
unfolding key_of
key_again flow minus vertex choice b h c l =
    let j = joint_again (a_joint flow minus vertex choice b) (record { to_place = h.flow_place; vertex_place = h.vertex_place; choice = c; nodes = record { length_four = l; places = h.places } }) in
    ap (λ (o : Option Joint). o >>= λ k. cond (leb 3 k.branches.count) (Some (Key k.to k.minus k.vertex k.choice k.branches)) None) j
    ∙ ap (λ t. cond t (Some (Key flow minus vertex choice b)) None) (many_branches b.count h.least)

-- the words of a load behind the first
abbrev load_rest : ℕ → ℕ → ℕ → Words
load_rest version slot leg = cond (eqb version 1) (decimal leg ∷ []) (place_word slot ∷ decimal leg ∷ [])

load_by : (version slot leg : ℕ) (b : Bool) → eqb version 1 ≡ b → IsLegNumber leg → cond b (slot + 1 ≡ leg) (IsPlace slot)
    → cond b (word_by leg_of (cond b (decimal leg ∷ []) (place_word slot ∷ decimal leg ∷ [])) >>= λ l. no_more l.1 >>= λ _. Some (Load (l.0 - 1) l.0)) (word_by place_of (cond b (decimal leg ∷ []) (place_word slot ∷ decimal leg ∷ [])) >>= λ s. word_by leg_of s.1 >>= λ l. no_more l.1 >>= λ _. Some (Load s.0 l.0)) ≡ Some (Load slot leg)
load_by version slot leg true t l s =
    let same : leg - 1 ≡ slot = omega (arith, s) in
    put leg_of decimal IsLegNumber leg_law leg [] (λ l. no_more l.1 >>= λ _. Some (Load (l.0 - 1) l.0)) l ∙ ap (λ k. Some (Load k leg)) same
load_by version slot leg false t l s =
    put place_of place_word IsPlace place_law slot (decimal leg ∷ []) (λ s. word_by leg_of s.1 >>= λ l. no_more l.1 >>= λ _. Some (Load s.0 l.0)) s
    ∙ put leg_of decimal IsLegNumber leg_law leg [] (λ l. no_more l.1 >>= λ _. Some (Load slot l.0)) l

load_again : (version slot leg : ℕ) → IsLegNumber leg → IsLoadSlot version slot leg → load_of version (load_rest version slot leg) ≡ Some (Load slot leg)
unfolding load_of
load_again version slot leg l s = load_by version slot leg (eqb version 1) refl l s

-- a plain instruction of a part, whose numbers lie within their types
pub record IsReadable (version part : ℕ) (i : Instr) : Type 0 where
  pub plain : IsPlainInstr version i
  pub range : InstrInRange i
  pub of_part : part_of i ≡ part

loads_again : (version count : ℕ) (i : Instr) → IsReadable version 0 i → RowAgain (λ _ w. is_load w) (load_row version) (instr_words version) count i
loads_again version count (Load slot leg) h = record { w = codes "load"; ws = load_rest version slot leg; line = refl; start = refl; says = ap formed (load_again version slot leg (h.plain.0, h.range) h.plain.1) }
loads_again version count (Fuse slot minus vertex choice branches) h = absurd (let p = h.of_part in omega arith)
loads_again version count (Prop slot den) h = absurd (let p = h.of_part in omega arith)
loads_again version count (Key flow minus vertex choice branches) h = absurd (let p = h.of_part in omega arith)

steps_again : (version count : ℕ) (i : Instr) → IsReadable version 1 i → RowAgain (λ _ w. is_step w) step_row (instr_words version) count i
steps_again version count (Load slot leg) h = absurd (let p = h.of_part in omega arith)
steps_again version count (Fuse slot minus vertex choice branches) h = record { w = codes "fuse"; ws = term_words slot minus vertex choice branches; line = refl; start = refl; says = ap formed (fuse_again slot minus vertex choice branches h.plain h.range.0 h.range.1) }
steps_again version count (Prop slot den) h = record { w = codes "prop"; ws = place_word slot ∷ place_word den ∷ []; line = refl; start = refl; says = ap formed (prop_again slot den h.plain.0 h.plain.1) }
steps_again version count (Key flow minus vertex choice branches) h = absurd (let p = h.of_part in omega arith)

keys_again : (version count : ℕ) (i : Instr) → IsReadable version 2 i → RowAgain (λ _ w. is_key w) key_row (instr_words version) count i
keys_again version count (Load slot leg) h = absurd (let p = h.of_part in omega arith)
keys_again version count (Fuse slot minus vertex choice branches) h = absurd (let p = h.of_part in omega arith)
keys_again version count (Prop slot den) h = absurd (let p = h.of_part in omega arith)
keys_again version count (Key flow minus vertex choice branches) h = record { w = codes "key"; ws = term_words flow minus vertex choice branches; line = refl; start = refl; says = ap formed (key_again flow minus vertex choice branches h.plain h.range.0 h.range.1) }

pub all_loads : (version count : ℕ) (is : List Instr) → AllByRecursion (IsReadable version 0) is → AllAgain (λ _ w. is_load w) (load_row version) (instr_words version) count is
all_loads version count [] h = tt
all_loads version count (i ∷ is) h = (loads_again version count i h.0, all_loads version (count + 1) is h.1)

pub all_steps : (version count : ℕ) (is : List Instr) → AllByRecursion (IsReadable version 1) is → AllAgain (λ _ w. is_step w) step_row (instr_words version) count is
all_steps version count [] h = tt
all_steps version count (i ∷ is) h = (steps_again version count i h.0, all_steps version (count + 1) is h.1)

pub all_keys : (version count : ℕ) (is : List Instr) → AllByRecursion (IsReadable version 2) is → AllAgain (λ _ w. is_key w) key_row (instr_words version) count is
all_keys version count [] h = tt
all_keys version count (i ∷ is) h = (keys_again version count i h.0, all_keys version (count + 1) is h.1)
