-- The lines of instructions and what they say.
use Rattle.std.proofs.Common.{◌≡◌, ℕ, zero, suc, ◌-◌, ◌<◌, ◌≤◌, eqb, leb, Bool, true, false, cond, List, [], ◌∷◌, length, map, take, decimal, codes, Option, Some, None, refl, sym, ap, ap₂, subst, ◌∙◌, arith}
use Rattle.std.specs.List.{AllByRecursion}
use Rattle.std.proofs.lemmas.Bool.Decides.{nat_tests}
use Rattle.om_legs.specs.declared.branches.Branches.{Branches}
use Rattle.om_legs.specs.Branches.{AreBranches}
use Rattle.om_code.specs.declared.code.Instr.{Instr}
use Rattle.om_code.specs.declared.code.Instr.TheVariants.{Load, Fuse, Prop, Key}
use Rattle.om_code.specs.Plain.{IsPlace, IsPlainInstr, IsLoadSlot, part_of}
use Rattle.om_asm.specs.declared.instr_line.Joint.{Joint}
use Rattle.om_io.specs.Lines.{Words}
use Rattle.om_model.specs.TermText.{branch_words, term_words}
use Rattle.om_program_text.specs.ProgramText.{instr_words, load_words}
use Rattle.om_model.specs.TermText.{place_word, sign_word}
use Rattle.om_asm.specs.InRange.{InstrInRange}
use Rattle.om_asm.specs.Lines.{word_by, no_more}
use Rattle.om_ring.specs.OptionSteps.{◌>>=◌}
use Rattle.om_asm.specs.Spelt.{place_of, leg_of}
use Rattle.om_ring.specs.Spelt.{decimal_below}
use Rattle.om_legs.specs.BranchNodes.{two_nodes, three_nodes, four_nodes}
use Rattle.om_legs.proofs.BranchEquality.{branches_same}
use Rattle.om_asm.specs.Instrs.{sign_of, branches_of, third_of, fourth_of, joint_of, fuse_of, key_of, prop_of, load_of}
use Rattle.om_asm.proofs.WordLaws.{bind_some, took, put, ended, place_law, number_law, leg_law, sign_law, IsLegNumber}

-- ---- props

pub prop_found : (version : ℕ) (words : Words) (i : Instr) → prop_of words ≡ Some i → (codes "prop" ∷ words ≡ instr_words version i) × IsPlainInstr version i × (part_of i ≡ 1) × InstrInRange i
unfolding prop_of
prop_found version words i e =
    let a = took place_of place_word IsPlace place_law words (λ s. word_by place_of s.1 >>= λ d. no_more d.1 >>= λ _. Some (Prop s.0 d.0)) i e in
    let b = took place_of place_word IsPlace place_law a.1 (λ d. no_more d.1 >>= λ _. Some (Prop a.0 d.0)) i a.4 in
    let n = ended b.1 (λ _. Some (Prop a.0 b.0)) i b.4 in
    let same : Prop a.0 b.0 ≡ i = cc in
    let whole : words ≡ place_word a.0 ∷ place_word b.0 ∷ [] = a.2 ∙ ap (λ (ws : Words). place_word a.0 ∷ ws) (b.2 ∙ ap (λ (ws : Words). place_word b.0 ∷ ws) n.0) in
    subst (λ (j : Instr). (codes "prop" ∷ words ≡ instr_words version j) × IsPlainInstr version j × (part_of j ≡ 1) × InstrInRange j) same (ap (λ (ws : Words). codes "prop" ∷ ws) whole, (a.3, b.3), refl, tt)

pub prop_again : (slot den : ℕ) → IsPlace slot → IsPlace den → prop_of (place_word slot ∷ place_word den ∷ []) ≡ Some (Prop slot den)
unfolding prop_of
prop_again slot den h k =
    put place_of place_word IsPlace place_law slot (place_word den ∷ []) (λ s. word_by place_of s.1 >>= λ d. no_more d.1 >>= λ _. Some (Prop s.0 d.0)) h
    ∙ put place_of place_word IsPlace place_law den [] (λ d. no_more d.1 >>= λ _. Some (Prop slot d.0)) k

-- ---- branches

-- branches as they are read: in range, and so many nodes
pub record AreNodes (b : Branches) : Type 0 where
  pub length_four : length b.nodes ≡ 4
  pub places : AllByRecursion IsPlace b.nodes

fourth_found : (a b c : ℕ) (words : Words) (y : Branches) → IsPlace a → IsPlace b → IsPlace c → fourth_of a b c words ≡ Some y → (place_word a ∷ place_word b ∷ place_word c ∷ words ≡ branch_words y) × AreNodes y
fourth_found a b c [] y h i j e =
    let same : three_nodes a b c ≡ y = cc in
    subst (λ (z : Branches). (place_word a ∷ place_word b ∷ place_word c ∷ [] ≡ branch_words z) × AreNodes z) same (refl, record { length_four = refl; places = (h, (i, (j, (omega arith, tt)))) })
fourth_found a b c (w ∷ ws) y h i j e =
    let d = bind_some (place_of w) (λ d. no_more ws >>= λ _. Some (four_nodes a b c d)) y e in
    let n = ended ws (λ _. Some (four_nodes a b c d.0)) y d.2 in
    let p = place_law.found w d.0 d.1 in
    let same : four_nodes a b c d.0 ≡ y = cc in
    let whole = ap₂ (λ (v : List ℕ) (vs : Words). place_word a ∷ place_word b ∷ place_word c ∷ v ∷ vs) (sym p.0) n.0 in
    subst (λ (z : Branches). (place_word a ∷ place_word b ∷ place_word c ∷ w ∷ ws ≡ branch_words z) × AreNodes z) same (whole, record { length_four = refl; places = (h, (i, (j, (p.1, tt)))) })

third_found : (a b : ℕ) (words : Words) (y : Branches) → IsPlace a → IsPlace b → third_of a b words ≡ Some y → (place_word a ∷ place_word b ∷ words ≡ branch_words y) × AreNodes y
third_found a b [] y h i e =
    let same : two_nodes a b ≡ y = cc in
    subst (λ (z : Branches). (place_word a ∷ place_word b ∷ [] ≡ branch_words z) × AreNodes z) same (refl, record { length_four = refl; places = (h, (i, (omega arith, (omega arith, tt)))) })
third_found a b (w ∷ ws) y h i e =
    let c = bind_some (place_of w) (λ c. fourth_of a b c ws) y e in
    let p = place_law.found w c.0 c.1 in
    let f = fourth_found a b c.0 ws y h i p.1 c.2 in
    (ap (λ (v : List ℕ). place_word a ∷ place_word b ∷ v ∷ ws) (sym p.0) ∙ f.0, f.1)

pub branches_found : (words : Words) (y : Branches) → branches_of words ≡ Some y → (words ≡ branch_words y) × AreNodes y
unfolding branches_of
branches_found words y e =
    let a = took place_of place_word IsPlace place_law words (λ a. word_by place_of a.1 >>= λ b. third_of a.0 b.0 b.1) y e in
    let b = took place_of place_word IsPlace place_law a.1 (λ b. third_of a.0 b.0 b.1) y a.4 in
    let t = third_found a.0 b.0 b.1 y a.3 b.3 b.4 in
    (a.2 ∙ ap (λ (ws : Words). place_word a.0 ∷ ws) b.2 ∙ t.0, t.1)

third_again : (a b c : ℕ) (ws : Words) → IsPlace c → third_of a b (place_word c ∷ ws) ≡ fourth_of a b c ws
third_again a b c ws h = ap (λ (o : Option ℕ). o >>= λ c. fourth_of a b c ws) (place_law.again c h)

fourth_again : (a b c d : ℕ) → IsPlace d → fourth_of a b c (place_word d ∷ []) ≡ Some (four_nodes a b c d)
fourth_again a b c d h = ap (λ (o : Option ℕ). o >>= λ d. Some (four_nodes a b c d)) (place_law.again d h)

some_again : (a b : ℕ) (ws : Words) → IsPlace a → IsPlace b → branches_of (place_word a ∷ place_word b ∷ ws) ≡ third_of a b ws
unfolding branches_of
some_again a b ws h i =
    put place_of place_word IsPlace place_law a (place_word b ∷ ws) (λ a. word_by place_of a.1 >>= λ b. third_of a.0 b.0 b.1) h
    ∙ put place_of place_word IsPlace place_law b ws (λ b. third_of a b.0 b.1) i

by_count : (n a b c d : ℕ) (valid : AreBranches n (a ∷ b ∷ c ∷ d ∷ [])) → AllByRecursion IsPlace (a ∷ b ∷ c ∷ d ∷ []) → branches_of (map place_word (take n (a ∷ b ∷ c ∷ d ∷ []))) ≡ Some (record { count = n; nodes = a ∷ b ∷ c ∷ d ∷ []; valid = valid })
by_count zero a b c d valid h = absurd (let s = valid.several in omega arith)
by_count (suc zero) a b c d valid h = absurd (let s = valid.several in omega arith)
by_count (suc (suc zero)) a b c d valid h =
    some_again a b [] h.0 h.1.0
    ∙ ap Some (branches_same (two_nodes a b) _ refl (ap₂ (λ x y. a ∷ b ∷ x ∷ y ∷ []) (sym (valid.zeros 2 (omega arith))) (sym (valid.zeros 3 (omega arith)))))
by_count (suc (suc (suc zero))) a b c d valid h =
    some_again a b (place_word c ∷ []) h.0 h.1.0
    ∙ third_again a b c [] h.1.1.0
    ∙ ap Some (branches_same (three_nodes a b c) _ refl (ap (λ y. a ∷ b ∷ c ∷ y ∷ []) (sym (valid.zeros 3 (omega arith)))))
by_count (suc (suc (suc (suc zero)))) a b c d valid h =
    some_again a b (place_word c ∷ place_word d ∷ []) h.0 h.1.0
    ∙ third_again a b c (place_word d ∷ []) h.1.1.0
    ∙ fourth_again a b c d h.1.1.1.0
    ∙ ap Some (branches_same (four_nodes a b c d) _ refl refl)
by_count (suc (suc (suc (suc (suc n))))) a b c d valid h = absurd (let s = valid.within in omega arith)

by_nodes : (n : ℕ) (nodes : List ℕ) (valid : AreBranches n nodes) → length nodes ≡ 4 → AllByRecursion IsPlace nodes → branches_of (map place_word (take n nodes)) ≡ Some (record { count = n; nodes = nodes; valid = valid })
by_nodes n [] valid l h = absurd (omega arith)
by_nodes n (a ∷ []) valid l h = absurd (omega arith)
by_nodes n (a ∷ b ∷ []) valid l h = absurd (omega arith)
by_nodes n (a ∷ b ∷ c ∷ []) valid l h = absurd (omega arith)
by_nodes n (a ∷ b ∷ c ∷ d ∷ []) valid l h = by_count n a b c d valid h
by_nodes n (a ∷ b ∷ c ∷ d ∷ e ∷ es) valid l h = absurd (omega arith)

pub branches_again : (b : Branches) → AreNodes b → branches_of (branch_words b) ≡ Some b
branches_again b h = by_nodes b.count b.nodes b.valid h.length_four h.places

-- ---- fuses and keys

pub record IsPlainJoint (j : Joint) : Type 0 where
  pub to_place : IsPlace j.to
  pub vertex_place : IsPlace j.vertex
  pub choice : j.choice < 256
  pub nodes : AreNodes j.branches

abbrev words_of_joint : Joint → Words
words_of_joint j = term_words j.to j.minus j.vertex j.choice j.branches

abbrev a_joint : ℕ → Bool → ℕ → ℕ → Branches → Joint
a_joint target minus vertex choice branches = record { to = target; minus = minus; vertex = vertex; choice = choice; branches = branches }

pub joint_found : (words : Words) (j : Joint) → joint_of words ≡ Some j → (words ≡ words_of_joint j) × IsPlainJoint j
unfolding joint_of
joint_found words j e =
    let a = took place_of place_word IsPlace place_law words (λ a. word_by sign_of a.1 >>= λ b. word_by place_of b.1 >>= λ c. word_by (decimal_below 256) c.1 >>= λ d. branches_of d.1 >>= λ y. Some (a_joint a.0 b.0 c.0 d.0 y)) j e in
    let b = took sign_of sign_word (λ _. Unit {0}) sign_law a.1 (λ b. word_by place_of b.1 >>= λ c. word_by (decimal_below 256) c.1 >>= λ d. branches_of d.1 >>= λ y. Some (a_joint a.0 b.0 c.0 d.0 y)) j a.4 in
    let c = took place_of place_word IsPlace place_law b.1 (λ c. word_by (decimal_below 256) c.1 >>= λ d. branches_of d.1 >>= λ y. Some (a_joint a.0 b.0 c.0 d.0 y)) j b.4 in
    let d = took (decimal_below 256) decimal (λ n. n < 256) (number_law 256 (omega arith)) c.1 (λ d. branches_of d.1 >>= λ y. Some (a_joint a.0 b.0 c.0 d.0 y)) j c.4 in
    let y = bind_some (branches_of d.1) (λ y. Some (a_joint a.0 b.0 c.0 d.0 y)) j d.4 in
    let t = branches_found d.1 y.0 y.1 in
    let same : a_joint a.0 b.0 c.0 d.0 y.0 ≡ j = cc in
    let whole = a.2 ∙ ap (λ (ws : Words). place_word a.0 ∷ ws) (b.2 ∙ ap (λ (ws : Words). sign_word b.0 ∷ ws) (c.2 ∙ ap (λ (ws : Words). place_word c.0 ∷ ws) (d.2 ∙ ap (λ (ws : Words). decimal d.0 ∷ ws) t.0))) in
    subst (λ (z : Joint). (words ≡ words_of_joint z) × IsPlainJoint z) same (whole, record { to_place = a.3; vertex_place = c.3; choice = d.3; nodes = t.1 })

pub joint_again : (j : Joint) → IsPlainJoint j → joint_of (words_of_joint j) ≡ Some j
unfolding joint_of
joint_again j h =
    put place_of place_word IsPlace place_law j.to _ (λ a. word_by sign_of a.1 >>= λ b. word_by place_of b.1 >>= λ c. word_by (decimal_below 256) c.1 >>= λ d. branches_of d.1 >>= λ y. Some (a_joint a.0 b.0 c.0 d.0 y)) h.to_place
    ∙ put sign_of sign_word (λ _. Unit {0}) sign_law j.minus _ (λ b. word_by place_of b.1 >>= λ c. word_by (decimal_below 256) c.1 >>= λ d. branches_of d.1 >>= λ y. Some (a_joint j.to b.0 c.0 d.0 y)) tt
    ∙ put place_of place_word IsPlace place_law j.vertex _ (λ c. word_by (decimal_below 256) c.1 >>= λ d. branches_of d.1 >>= λ y. Some (a_joint j.to j.minus c.0 d.0 y)) h.vertex_place
    ∙ put (decimal_below 256) decimal (λ n. n < 256) (number_law 256 (omega arith)) j.choice (branch_words j.branches) (λ d. branches_of d.1 >>= λ y. Some (a_joint j.to j.minus j.vertex d.0 y)) h.choice
    ∙ ap (λ (o : Option Branches). o >>= λ y. Some (a_joint j.to j.minus j.vertex j.choice y)) (branches_again j.branches h.nodes)

-- ---- whole lines

at_most : (n : ℕ) (b : Bool) → leb n 3 ≡ b → b ≡ true → n ≤ 3
at_most n true e f = grind (arith, nat_tests)
at_most n false e f = cc

guarded : {A : Type 0} (b : Bool) (x y : A) → cond b (Some x) None ≡ Some y → (b ≡ true) × (x ≡ y)
guarded true x y e = (refl, cc)
guarded false x y e = absurd cc

pub fuse_found : (version : ℕ) (words : Words) (i : Instr) → fuse_of words ≡ Some i → (codes "fuse" ∷ words ≡ instr_words version i) × IsPlainInstr version i × (part_of i ≡ 1) × InstrInRange i
unfolding fuse_of
fuse_found version words i e =
    let a = bind_some (joint_of words) (λ j. cond (leb j.branches.count 3) (Some (Fuse j.to j.minus j.vertex j.choice j.branches)) None) i e in
    let j = a.0 in
    let g = guarded (leb j.branches.count 3) (Fuse j.to j.minus j.vertex j.choice j.branches) i a.2 in
    let f = joint_found words j a.1 in
    let few = at_most j.branches.count (leb j.branches.count 3) refl g.0 in
    subst (λ (k : Instr). (codes "fuse" ∷ words ≡ instr_words version k) × IsPlainInstr version k × (part_of k ≡ 1) × InstrInRange k) g.1
    (ap (λ (ws : Words). codes "fuse" ∷ ws) f.0, record { to_place = f.1.to_place; vertex_place = f.1.vertex_place; most = few; places = f.1.nodes.places }, refl, (f.1.choice, f.1.nodes.length_four))

at_least : (n : ℕ) (b : Bool) → leb 3 n ≡ b → b ≡ true → 3 ≤ n
at_least n true e f = grind (arith, nat_tests)
at_least n false e f = cc

pub key_found : (version : ℕ) (words : Words) (i : Instr) → key_of words ≡ Some i → (codes "key" ∷ words ≡ instr_words version i) × IsPlainInstr version i × (part_of i ≡ 2) × InstrInRange i
unfolding key_of
key_found version words i e =
    let a = bind_some (joint_of words) (λ j. cond (leb 3 j.branches.count) (Some (Key j.to j.minus j.vertex j.choice j.branches)) None) i e in
    let j = a.0 in
    let g = guarded (leb 3 j.branches.count) (Key j.to j.minus j.vertex j.choice j.branches) i a.2 in
    let f = joint_found words j a.1 in
    let many = at_least j.branches.count (leb 3 j.branches.count) refl g.0 in
    subst (λ (k : Instr). (codes "key" ∷ words ≡ instr_words version k) × IsPlainInstr version k × (part_of k ≡ 2) × InstrInRange k) g.1
    (ap (λ (ws : Words). codes "key" ∷ ws) f.0, record { flow_place = f.1.to_place; vertex_place = f.1.vertex_place; least = many; places = f.1.nodes.places }, refl, (f.1.choice, f.1.nodes.length_four))

load_by : (version : ℕ) (b : Bool) (words : Words) (i : Instr) → eqb version 1 ≡ b
    → cond b (word_by leg_of words >>= λ l. no_more l.1 >>= λ _. Some (Load (l.0 - 1) l.0)) (word_by place_of words >>= λ s. word_by leg_of s.1 >>= λ l. no_more l.1 >>= λ _. Some (Load s.0 l.0)) ≡ Some i
    → (codes "load" ∷ words ≡ instr_words version i) × IsPlainInstr version i × (part_of i ≡ 0) × InstrInRange i
load_by version true words i t e =
    let a = took leg_of decimal IsLegNumber leg_law words (λ l. no_more l.1 >>= λ _. Some (Load (l.0 - 1) l.0)) i e in
    let n = ended a.1 (λ _. Some (Load (a.0 - 1) a.0)) i a.4 in
    let same : Load (a.0 - 1) a.0 ≡ i = cc in
    let line : load_words version (a.0 - 1) a.0 ≡ codes "load" ∷ decimal a.0 ∷ [] = rw t refl in
    let slot : IsLoadSlot version (a.0 - 1) a.0 = rw t (let h = a.3.0 in omega arith) in
    subst (λ (k : Instr). (codes "load" ∷ words ≡ instr_words version k) × IsPlainInstr version k × (part_of k ≡ 0) × InstrInRange k) same
    (ap (λ (ws : Words). codes "load" ∷ ws) (a.2 ∙ ap (λ (ws : Words). decimal a.0 ∷ ws) n.0) ∙ sym line, (a.3.0, slot), refl, a.3.1)
load_by version false words i t e =
    let a = took place_of place_word IsPlace place_law words (λ s. word_by leg_of s.1 >>= λ l. no_more l.1 >>= λ _. Some (Load s.0 l.0)) i e in
    let b = took leg_of decimal IsLegNumber leg_law a.1 (λ l. no_more l.1 >>= λ _. Some (Load a.0 l.0)) i a.4 in
    let n = ended b.1 (λ _. Some (Load a.0 b.0)) i b.4 in
    let same : Load a.0 b.0 ≡ i = cc in
    let line : load_words version a.0 b.0 ≡ codes "load" ∷ place_word a.0 ∷ decimal b.0 ∷ [] = rw t refl in
    let slot : IsLoadSlot version a.0 b.0 = rw t a.3 in
    subst (λ (k : Instr). (codes "load" ∷ words ≡ instr_words version k) × IsPlainInstr version k × (part_of k ≡ 0) × InstrInRange k) same
    (ap (λ (ws : Words). codes "load" ∷ ws) (a.2 ∙ ap (λ (ws : Words). place_word a.0 ∷ ws) (b.2 ∙ ap (λ (ws : Words). decimal b.0 ∷ ws) n.0)) ∙ sym line, (b.3.0, slot), refl, b.3.1)

pub load_found : (version : ℕ) (words : Words) (i : Instr) → load_of version words ≡ Some i → (codes "load" ∷ words ≡ instr_words version i) × IsPlainInstr version i × (part_of i ≡ 0) × InstrInRange i
unfolding load_of
load_found version words i e = load_by version (eqb version 1) words i refl e
