-- The kind of the first bad line of a program.
use Rattle.std.proofs.Common.{◌≡◌, ℕ, suc, ◌+◌, ◌-◌, ◌^◌, ◌≤◌, eqb, ltb, ◌&&◌, ◌||◌, Bool, true, false, cond, List, [], ◌∷◌, ◌++◌, length, codes, Option, Some, None, Result, Ok, Err, refl, sym, ap, subst, ◌∙◌, arith, inl, inr}
use Rattle.std.specs.Prelude.{◌↔◌}
use Rattle.std.specs.Str.{bytes_eq}
use Rattle.om_model.specs.declared.model.Particle.{Particle}
use Rattle.om_code.specs.declared.code.Instr.{Instr}
use Rattle.om_code.specs.declared.code.Code.{Code}
use Rattle.om_asm.specs.declared.fault.AsmKind.{AsmKind}
use Rattle.om_asm.specs.declared.fault.AsmKind.TheVariants.{Grammar, Name}
use Rattle.om_io.specs.Lines.{Words}
use Rattle.om_asm.specs.Lines.{At, first_line}
use Rattle.om_ring.specs.Spelt.{decimal_below}
use Rattle.om_asm.specs.Heads.{version_word, version_of, model_name_of, slots_of, end_of}
use Rattle.om_asm.specs.Reading.{name_of, particle_row, leg_row, den_row}
use Rattle.om_asm.specs.Vertices.{vertex_row}
use Rattle.om_asm.specs.Flows.{flow_line}
use Rattle.om_asm.specs.Instrs.{load_of, fuse_of, prop_of, key_of}
use Rattle.om_asm.specs.Rows.{BadLine, bad, place, rows_from, behind, formed, is_load, is_fuse, is_step, is_key, load_row, step_row, key_row, instrs_at}
use Rattle.om_ring.specs.ResultSteps.{◌>>=◌}
use Rattle.om_asm.specs.Program.{one_line, line_or_bad, rows_at, particles_at, slots_at, process_at, program_at}
use Rattle.om_asm.specs.FirstBad.{line_at, NamesInPlace, group_of, group_of_word}
use Rattle.om_asm.proofs.SpeltLemmas.{same_bytes, bytes_same}
use Rattle.om_asm.proofs.OneLine.{keyed_none, end_none}
use Rattle.om_asm.proofs.HeadLaws.{name_found, slots_line_found, end_found}
use Rattle.om_asm.proofs.ProgramLaws.{a_process, a_code}
use Rattle.om_asm.proofs.NamedKinds.{KindIs, NamesKey, NeverName, formed_never, particle_never, no_form, form_key, leg_kind, den_kind, vertex_kind}
use Rattle.om_asm.proofs.KindInPlace.{Stands, Judged, Judges, IsGroup, then_judges, made_judges, rows_judge, line_judges, end_judges, skipped, form_group}
use Rattle.om_asm.proofs.GroupOutcomes.{from_steps}
use Rattle.om_asm.proofs.ProgramOutcomes.{up_to_end, with_end, from_instrs, from_slots, from_process, from_vertices, from_particles, from_name, from_dens, from_flows, finish, program_is}
use Rattle.om_code.specs.declared.code.TheConstants.{MOST_PARTICLE_LINES}

-- ---- the groups

under_key : (w key : List ℕ) → bytes_eq w key ≡ true → group_of_word w ≡ group_of_word key
under_key w key e = ap group_of_word (same_bytes w key e)

no_key : (group : ℕ) (w : List ℕ) → (group ≡ 2 → ⊥) → (group ≡ 3 → ⊥) → (group ≡ 5 → ⊥) → NamesKey w → group_of_word w ≡ group → ⊥
no_key group w two three five (inl e) g = two (sym g ∙ ap group_of_word e)
no_key group w two three five (inr (inl e)) g = three (sym g ∙ ap group_of_word e)
no_key group w two three five (inr (inr e)) g = five (sym g ∙ ap group_of_word e)

-- a group whose lines name no field
never_group : {A : Type 0} (starts : ℕ → List ℕ → Bool) (row_of : List ℕ → Words → Result A AsmKind) (group : ℕ) → (group ≡ 2 → ⊥) → (group ≡ 3 → ⊥) → (group ≡ 5 → ⊥)
    → ((count : ℕ) (w : List ℕ) → starts count w ≡ true → group_of_word w ≡ group) → ((w : List ℕ) (ws : Words) → NeverName (row_of w ws)) → IsGroup starts row_of group
never_group starts row_of group two three five within never = record {
  starts_in = within;
  stops_at = λ count w ws t f g. no_key group w two three five (form_key (w ∷ ws) f) g;
  kinds = λ count w ws kind t e. no_form kind (w ∷ ws) (never w ws kind e) (λ f. no_key group w two three five (form_key (w ∷ ws) f) (within count w t));
}

same_start : (w key : List ℕ) → bytes_eq w key ≡ false → w ≡ key → ⊥
same_start w key t e = let g : true ≡ false = sym (bytes_same w key e) ∙ t in cc

abbrev by_key : List ℕ → ℕ → List ℕ → Bool
by_key key _ w = bytes_eq w key

-- words that begin lines with names are one where their lines are of one group
one_key : (w key : List ℕ) → NamesKey w → NamesKey key → group_of_word w ≡ group_of_word key → w ≡ key
one_key w key (inl e) (inl f) g = e ∙ sym f
one_key w key (inr (inl e)) (inr (inl f)) g = e ∙ sym f
one_key w key (inr (inr e)) (inr (inr f)) g = e ∙ sym f
one_key w key (inl e) (inr (inl f)) g = let a : group_of_word w ≡ 2 = ap group_of_word e in let b : group_of_word key ≡ 3 = ap group_of_word f in absurd (omega arith)
one_key w key (inl e) (inr (inr f)) g = let a : group_of_word w ≡ 2 = ap group_of_word e in let b : group_of_word key ≡ 5 = ap group_of_word f in absurd (omega arith)
one_key w key (inr (inl e)) (inl f) g = let a : group_of_word w ≡ 3 = ap group_of_word e in let b : group_of_word key ≡ 2 = ap group_of_word f in absurd (omega arith)
one_key w key (inr (inl e)) (inr (inr f)) g = let a : group_of_word w ≡ 3 = ap group_of_word e in let b : group_of_word key ≡ 5 = ap group_of_word f in absurd (omega arith)
one_key w key (inr (inr e)) (inl f) g = let a : group_of_word w ≡ 5 = ap group_of_word e in let b : group_of_word key ≡ 2 = ap group_of_word f in absurd (omega arith)
one_key w key (inr (inr e)) (inr (inl f)) g = let a : group_of_word w ≡ 5 = ap group_of_word e in let b : group_of_word key ≡ 3 = ap group_of_word f in absurd (omega arith)

-- a group whose lines name fields
named_group : {A : Type 0} (key : List ℕ) → NamesKey key → (row_of : Words → Result A AsmKind) → ((ws : Words) (kind : AsmKind) → row_of ws ≡ Err kind → KindIs kind (key ∷ ws))
    → IsGroup (by_key key) (λ _ words. row_of words) (group_of_word key)
named_group key names row_of kind_of = record {
  starts_in = λ count w t. under_key w key t;
  stops_at = λ count w ws t f g. same_start w key t (one_key w key (form_key (w ∷ ws) f) names g);
  kinds = λ count w ws kind t e. subst (λ (v : List ℕ). KindIs kind (v ∷ ws)) (sym (same_bytes w key t)) (kind_of ws kind e);
}

vertices_group : (ps : List Particle) → IsGroup (by_key (codes "vertex")) (λ _ words. vertex_row ps words) 2
vertices_group ps = named_group (codes "vertex") (inl refl) (vertex_row ps) (vertex_kind ps)

legs_group : (ps : List Particle) → IsGroup (by_key (codes "leg")) (λ _ words. leg_row ps words) 3
legs_group ps = named_group (codes "leg") (inr (inl refl)) (leg_row ps) (leg_kind ps)

dens_group : (ps : List Particle) → IsGroup (by_key (codes "den")) (λ _ words. den_row ps words) 5
dens_group ps = named_group (codes "den") (inr (inr refl)) (den_row ps) (den_kind ps)

both_true : (a b : Bool) → (a && b) ≡ true → a ≡ true
both_true true b e = refl
both_true false b e = cc

abbrev few : ℕ → List ℕ → Bool
few count w = bytes_eq w (codes "particle") && ltb count MOST_PARTICLE_LINES

particles_group : IsGroup few (λ _ words. particle_row words) 1
particles_group = never_group few (λ _ words. particle_row words) 1 (λ e. omega arith) (λ e. omega arith) (λ e. omega arith) (λ count w t. under_key w (codes "particle") (both_true (bytes_eq w (codes "particle")) (ltb count MOST_PARTICLE_LINES) t)) (λ w ws. particle_never ws)

flows_group : IsGroup (by_key (codes "flow")) (λ _ words. formed (flow_line words)) 4
flows_group = never_group (by_key (codes "flow")) (λ _ words. formed (flow_line words)) 4 (λ e. omega arith) (λ e. omega arith) (λ e. omega arith) (λ count w t. under_key w (codes "flow") t) (λ w ws. formed_never (flow_line ws))

loads_group : (version : ℕ) → IsGroup (λ _ w. is_load w) (load_row version) 7
loads_group version = never_group (λ _ w. is_load w) (load_row version) 7 (λ e. omega arith) (λ e. omega arith) (λ e. omega arith) (λ count w t. under_key w (codes "load") t) (λ w ws. formed_never (load_of version ws))

step_never : (b : Bool) (ws : Words) → NeverName (cond b (formed (fuse_of ws)) (formed (prop_of ws)))
step_never true ws = formed_never (fuse_of ws)
step_never false ws = formed_never (prop_of ws)

step_group : (w : List ℕ) (a b : Bool) → bytes_eq w (codes "fuse") ≡ a → bytes_eq w (codes "prop") ≡ b → (a || b) ≡ true → group_of_word w ≡ 8
step_group w true b e f t = under_key w (codes "fuse") e
step_group w false true e f t = under_key w (codes "prop") f
step_group w false false e f t = absurd cc

steps_group : IsGroup (λ _ w. is_step w) step_row 8
steps_group = never_group (λ _ w. is_step w) step_row 8 (λ e. omega arith) (λ e. omega arith) (λ e. omega arith) (λ count w t. step_group w (bytes_eq w (codes "fuse")) (bytes_eq w (codes "prop")) refl refl t) (λ w ws. step_never (is_fuse w) ws)

keys_group : IsGroup (λ _ w. is_key w) key_row 9
keys_group = never_group (λ _ w. is_key w) key_row 9 (λ e. omega arith) (λ e. omega arith) (λ e. omega arith) (λ count w t. under_key w (codes "key") t) (λ w ws. formed_never (key_of ws))

-- ---- from the particles to the end

module _ (lines : List Words) where
  slots_judge : (version : ℕ) (a : At) → Stands lines 6 a → Judges lines 7 (slots_at version a)
  slots_judge version a s = by (eqb version 1)
    where
      by : (b : Bool) → Judges lines 7 (cond b (let y : ℕ × At = (0, a) in Ok y) (one_line slots_of a))
      by true = skipped lines 6 a s (omega arith)
      by false = line_judges lines slots_of 6 a (omega arith) (keyed_none (codes "slots") (decimal_below (2 ^ 32))) (λ l x e. ap group_of (slots_line_found l x e).0) s

  instrs_judge : (version : ℕ) (a : At) → Stands lines 7 a → Judges lines 10 (instrs_at version a)
  unfolding instrs_at
  instrs_judge version a s =
      then_judges lines 8 10 (rows_from (λ _ w. is_load w) (load_row version) 0 a.number a.lines) from_steps (rows_judge lines (λ _ w. is_load w) (load_row version) 7 (loads_group version) 0 a.number a.lines s)
      (λ loads b t. then_judges lines 9 10 (behind loads (rows_from (λ _ w. is_step w) step_row (length loads) b.number b.lines)) (λ steps d. behind steps (rows_from (λ _ w. is_key w) key_row (length steps) d.number d.lines))
      (made_judges lines 9 (rows_from (λ _ w. is_step w) step_row (length loads) b.number b.lines) (λ (is : List Instr). loads ++ is) (rows_judge lines (λ _ w. is_step w) step_row 8 steps_group (length loads) b.number b.lines t))
      (λ steps d u. made_judges lines 10 (rows_from (λ _ w. is_key w) key_row (length steps) d.number d.lines) (λ (is : List Instr). steps ++ is) (rows_judge lines (λ _ w. is_key w) key_row 9 keys_group (length steps) d.number d.lines u)))

  process_judge : (ps : List Particle) (a : At) → Stands lines 3 a → Judges lines 6 (process_at ps a)
  unfolding process_at
  process_judge ps a s =
      then_judges lines 4 6 (rows_at (codes "leg") (leg_row ps) a) (from_flows ps) (rows_judge lines (by_key (codes "leg")) (λ _ words. leg_row ps words) 3 (legs_group ps) 0 a.number a.lines s)
      (λ legs b t. then_judges lines 5 6 (rows_at (codes "flow") (λ words. formed (flow_line words)) b) (from_dens ps legs) (rows_judge lines (by_key (codes "flow")) (λ _ words. formed (flow_line words)) 4 flows_group 0 b.number b.lines t)
      (λ flows d u. made_judges lines 6 (rows_at (codes "den") (den_row ps) d) (a_process legs flows) (rows_judge lines (by_key (codes "den")) (λ _ words. den_row ps words) 5 (dens_group ps) 0 d.number d.lines u)))

  end_judge : (c : Code) (a : At) → Stands lines 10 a → Judges lines 11 (with_end c a)
  end_judge c a s = made_judges lines 11 (one_line end_of a) (λ _. c) (line_judges lines end_of 10 a (omega arith) end_none (λ l x e. ap group_of (end_found l x e)) s)

  rest_judge : (version : ℕ) (name : List ℕ) (a : At) → Stands lines 1 a → Judges lines 11 (from_particles version name a)
  rest_judge version name a s =
      then_judges lines 2 11 (particles_at a) (from_vertices version name) (rows_judge lines few (λ _ words. particle_row words) 1 particles_group 0 a.number a.lines s)
      (λ ps b t. then_judges lines 3 11 (rows_at (codes "vertex") (vertex_row ps) b) (from_process version name ps) (rows_judge lines (by_key (codes "vertex")) (λ _ words. vertex_row ps words) 2 (vertices_group ps) 0 b.number b.lines t)
      (λ vs d u. then_judges lines 6 11 (process_at ps d) (from_slots version name ps vs) (process_judge ps d u)
      (λ p f v. then_judges lines 7 11 (slots_at version f) (from_instrs version name ps vs p) (slots_judge version f v)
      (λ slots g w. then_judges lines 10 11 (instrs_at version g) (λ is. with_end (a_code version name ps vs p slots is)) (instrs_judge version g w)
      (λ is h x. end_judge (a_code version name ps vs p slots is) h x)))))

  -- ---- what the kind says, by the numbers of lines

  abbrev Told : BadLine → Type 0
  Told e = (e.kind ≡ Name) ↔ ((3 ≤ e.line) × NamesInPlace (line_at (e.line - 2) lines) (line_at (e.line - 1) lines))

  at_last : (before : List Words) (last : Words) (here : List Words) → line_at (length before) (before ++ last ∷ here) ≡ last
  at_last [] last here = refl
  at_last (l ∷ ls) last here = at_last ls last here

  at_here : (before : List Words) (last : Words) (here : List Words) → line_at (length before + 1) (before ++ last ∷ here) ≡ first_line here
  at_here [] last [] = refl
  at_here [] last (l ∷ ls) = refl
  at_here (b ∷ bs) last here = ap (λ k. line_at k ((b ∷ bs) ++ last ∷ here)) (let e : length (b ∷ bs) + 1 ≡ suc (length bs + 1) = omega arith in e) ∙ at_here bs last here

  told : (e : BadLine) → Judged lines e → Told e
  told e j =
      let last : line_at (e.line - 2) lines ≡ j.last = ap (λ k. line_at k lines) (let n : e.line - 2 ≡ length j.before = omega (arith, j.number) in n) ∙ ap (line_at (length j.before)) j.parts ∙ at_last j.before j.last j.here in
      let here : line_at (e.line - 1) lines ≡ first_line j.here = ap (λ k. line_at k lines) (let n : e.line - 1 ≡ length j.before + 1 = omega (arith, j.number) in n) ∙ ap (line_at (length j.before + 1)) j.parts ∙ at_here j.before j.last j.here in (
        λ n. (omega (arith, j.number, j.some), subst (λ (l : Words). NamesInPlace l (line_at (e.line - 1) lines)) (sym last) (subst (λ (l : Words). NamesInPlace j.last l) (sym here) (j.kind.0 n))),
        λ f. j.kind.1 (subst (λ (l : Words). NamesInPlace j.last l) here (subst (λ (l : Words). NamesInPlace l (line_at (e.line - 1) lines)) last f.1)),
      )

  early : (n : ℕ) → n ≤ 2 → Told (bad n Grammar)
  early n le = (λ e. absurd cc, λ f. absurd (let h = f.0 in omega arith))

  abbrev Final : Result (Code × At) BadLine → Type 0
  Final (Ok y) = Stands lines 11 y.1
  Final (Err e) = Told e

  final : (r : Result (Code × At) BadLine) → Judges lines 11 r → Final r
  final (Ok y) j = j
  final (Err e) j = told e j

  -- behind the first two lines
  start_stands : (v m : Words) (name : List ℕ) (ls : List Words) → lines ≡ v ∷ m ∷ ls → model_name_of m ≡ Some name → Stands lines 1 (place 3 ls)
  start_stands v m name ls e h =
      let none : group_of m ≡ 0 = ap group_of (name_found m name h).0 in
      record {
        before = v ∷ [];
        last = m;
        some = omega arith;
        parts = e;
        number = refl;
        low = omega arith;
        next = λ f le. let g = form_group (first_line ls) f in omega arith;
      }

  by_name : (version : ℕ) (v : Words) (ls : List Words) → lines ≡ v ∷ ls → Final (from_name version (place 2 ls))
  by_name version v [] e = subst (λ (o : Option (List ℕ)). Final (line_or_bad o (place 2 []) >>= λ n. from_particles version n.0 n.1)) (sym (keyed_none (codes "model") name_of)) (early 2 (omega arith))
  by_name version v (m ∷ ls) e = by (model_name_of m) refl
    where
      by : (o : Option (List ℕ)) → model_name_of m ≡ o → Final (line_or_bad o (place 2 (m ∷ ls)) >>= λ n. from_particles version n.0 n.1)
      by None h = early 2 (omega arith)
      by (Some name) h = final (from_particles version name (place 3 ls)) (rest_judge version name (place 3 ls) (start_stands v m name ls e h))

  by_version : (ls : List Words) → lines ≡ ls → Final (up_to_end (place 1 ls))
  by_version [] e = subst (λ (o : Option ℕ). Final (line_or_bad o (place 1 []) >>= λ v. from_name v.0 v.1)) (sym (keyed_none (codes "omega") version_word)) (early 1 (omega arith))
  by_version (v ∷ ls) e = by (version_of v)
    where
      by : (o : Option ℕ) → Final (line_or_bad o (place 1 (v ∷ ls)) >>= λ v. from_name v.0 v.1)
      by None = early 1 (omega arith)
      by (Some version) = by_name version v ls e

  abbrev bad_of : Result Code BadLine → BadLine
  bad_of (Ok c) = bad 0 Grammar
  bad_of (Err e) = e

  finish_told : (r : Result (Code × At) BadLine) (e : BadLine) → Final r → finish r ≡ Err e → Told e
  finish_told (Err d) e f h = subst Told (ap bad_of h) f
  finish_told (Ok y) e f h = by (eqb (length y.1.lines) 0) h
    where
      by : (b : Bool) → cond b (Ok y.0) (Err (bad y.1.number Grammar)) ≡ Err e → Told e
      by true g = absurd cc
      by false g = subst Told (ap bad_of g) (told (bad y.1.number Grammar) (end_judges lines y.0 y.1 f))

  -- the kind of the first bad line
  pub kind_is : (line : ℕ) (kind : AsmKind) → program_at (place 1 lines) ≡ Err (bad line kind) → Told (bad line kind)
  kind_is line kind e = finish_told (up_to_end (place 1 lines)) (bad line kind) (by_version lines refl) (program_is (place 1 lines) ∙ e)
