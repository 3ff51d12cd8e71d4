-- A bad line has the kind Name exactly where it names fields in its place and in the right form.
use Rattle.std.proofs.Common.{◌≡◌, ℕ, ◌+◌, ◌≤◌, Bool, true, false, cond, List, [], ◌∷◌, ◌++◌, length, Option, Some, None, Result, Ok, Err, refl, sym, ap, subst, ◌∙◌, arith, append_assoc, inl, inr}
use Rattle.std.specs.Prelude.{◌↔◌}
use Rattle.std.proofs.lemmas.List.{length-append}
use Rattle.om_asm.specs.declared.fault.AsmKind.{AsmKind}
use Rattle.om_asm.specs.declared.fault.AsmKind.TheVariants.{Grammar, Name}
use Rattle.om_io.specs.Lines.{Words}
use Rattle.om_asm.specs.Lines.{At, first_line}
use Rattle.om_asm.specs.Rows.{BadLine, bad, place, rows_from, at_line}
use Rattle.om_ring.specs.ResultSteps.{◌>>=◌}
use Rattle.om_asm.specs.Program.{one_line, line_or_bad}
use Rattle.om_asm.specs.FirstBad.{NamesFields, NamesInPlace, group_of, group_of_word}
use Rattle.om_asm.proofs.RowLaws.{with_row, no_row}
use Rattle.om_asm.proofs.NamedKinds.{KindIs, NamesKey, form_key, no_words}

-- ---- groups of lines that name fields

key_group : (w : List ℕ) → NamesKey w → (2 ≤ group_of_word w) × (group_of_word w ≤ 5)
key_group w (inl e) = let g : group_of_word w ≡ 2 = ap group_of_word e in (omega arith, omega arith)
key_group w (inr (inl e)) = let g : group_of_word w ≡ 3 = ap group_of_word e in (omega arith, omega arith)
key_group w (inr (inr e)) = let g : group_of_word w ≡ 5 = ap group_of_word e in (omega arith, omega arith)

pub form_group : (words : Words) → NamesFields words → (2 ≤ group_of words) × (group_of words ≤ 5)
form_group [] f = absurd (no_words f)
form_group (w ∷ ws) f = key_group w (form_key (w ∷ ws) f)

-- a kind of lines is a group: its lines are those of the group, as far as lines name fields, and what is bad has its kind
pub record IsGroup {A : Type 0} (starts : ℕ → List ℕ → Bool) (row_of : List ℕ → Words → Result A AsmKind) (group : ℕ) : Type 0 where
  pub starts_in : (count : ℕ) (w : List ℕ) → starts count w ≡ true → group_of_word w ≡ group
  pub stops_at : (count : ℕ) (w : List ℕ) (ws : Words) → starts count w ≡ false → NamesFields (w ∷ ws) → group_of_word w ≡ group → ⊥
  pub kinds : (count : ℕ) (w : List ℕ) (ws : Words) (kind : AsmKind) → starts count w ≡ true → row_of w ws ≡ Err kind → KindIs kind (w ∷ ws)

module _ (lines : List Words) where
  -- a place in the lines behind one line or more, where a group or a later one may stand
  pub record Stands (group : ℕ) (a : At) : Type 0 where
    pub before : List Words
    pub last : Words
    pub some : 1 ≤ length before
    pub parts : lines ≡ before ++ last ∷ a.lines
    pub number : a.number ≡ length before + 2
    pub low : group_of last ≤ group
    -- a line that names fields and may stand here is of this group or a later one
    pub next : NamesFields (first_line a.lines) → group_of last ≤ group_of (first_line a.lines) → group ≤ group_of (first_line a.lines)

  -- a bad line, with the line before it and what its kind says
  pub record Judged (e : BadLine) : Type 0 where
    pub before : List Words
    pub last : Words
    pub some : 1 ≤ length before
    pub here : List Words
    pub parts : lines ≡ before ++ last ∷ here
    pub number : e.line ≡ length before + 2
    pub kind : (e.kind ≡ Name) ↔ NamesInPlace last (first_line here)

  -- what is read ends where a later group may stand, or the bad line is judged
  abbrev pub Judges : {A : Type 0} → ℕ → Result (A × At) BadLine → Type 0
  Judges group (Ok y) = Stands group y.1
  Judges group (Err e) = Judged e

  module _ {A B : Type 0} where
    pub then_judges : (k l : ℕ) (r : Result (A × At) BadLine) (next : A → At → Result (B × At) BadLine) → Judges k r → ((x : A) (a : At) → Stands k a → Judges l (next x a)) → Judges l (r >>= λ y. next y.0 y.1)
    then_judges k l (Ok y) next h f = f y.0 y.1 h
    then_judges k l (Err e) next h f = h

    pub made_judges : (k : ℕ) (r : Result (A × At) BadLine) (f : A → B) → Judges k r → Judges k (r >>= λ y. Ok (f y.0, y.1))
    made_judges k (Ok y) f h = h
    made_judges k (Err e) f h = h

  -- a bad line where no line that names fields may stand
  not_named : (group : ℕ) (a : At) → Stands group a → 6 ≤ group → Judged (bad a.number Grammar)
  not_named group a s high = record {
    before = s.before;
    last = s.last;
    some = s.some;
    here = a.lines;
    parts = s.parts;
    number = s.number;
    kind = (λ e. absurd cc, λ f. absurd (let g = form_group (first_line a.lines) f.form in let n = s.next f.form f.in_place in omega arith));
  }

  -- a line that names fields and may stand here is of this group or a later one
  abbrev MayFollow : ℕ → Words → Words → Type 0
  MayFollow group last line = NamesFields line → group_of last ≤ group_of line → group ≤ group_of line

  -- behind one line more
  behind_line : (from group number : ℕ) (line : Words) (ls : List Words) → Stands from (place number (line ∷ ls)) → group_of line ≤ group → MayFollow group line (first_line ls) → Stands group (place (number + 1) ls)
  behind_line from group number line ls s low next = record {
    before = s.before ++ s.last ∷ [];
    last = line;
    some = omega (arith, length-append s.before (s.last ∷ []));
    parts = s.parts ∙ sym (append_assoc s.before (s.last ∷ []) (line ∷ ls));
    number = let n = s.number in let k = length-append s.before (s.last ∷ []) in omega arith;
    low = low;
    next = next;
  }

  -- no line of the group stands here
  past : (group : ℕ) (a : At) (s : Stands group a) → MayFollow (group + 1) s.last (first_line a.lines) → Stands (group + 1) a
  past group a s next = record {
    before = s.before;
    last = s.last;
    some = s.some;
    parts = s.parts;
    number = s.number;
    low = let l = s.low in omega arith;
    next = next;
  }

  pub skipped : (group : ℕ) (a : At) → Stands group a → 6 ≤ group → Stands (group + 1) a
  skipped group a s high = past group a s (λ f le. absurd (let g = form_group (first_line a.lines) f in let n = s.next f le in omega arith))

  -- ---- rows of one kind

  module _ {A : Type 0} (starts : ℕ → List ℕ → Bool) (row_of : List ℕ → Words → Result A AsmKind) (group : ℕ) where
    kept : (x : A) (k : ℕ) (r : Result (List A × At) BadLine) → Judges k r → Judges k (r >>= with_row x)
    kept x k (Ok y) h = h
    kept x k (Err e) h = h

    none_here : (number : ℕ) (ls : List Words) → first_line ls ≡ [] → Stands group (place number ls) → Stands (group + 1) (place number ls)
    none_here number ls e s = past group (place number ls) s (λ f le. absurd (no_words (subst NamesFields e f)))

    other_here : IsGroup starts row_of group → (count number : ℕ) (w : List ℕ) (ws : Words) (ls : List Words) → starts count w ≡ false → Stands group (place number ((w ∷ ws) ∷ ls)) → Stands (group + 1) (place number ((w ∷ ws) ∷ ls))
    other_here g count number w ws ls t s =
        past group (place number ((w ∷ ws) ∷ ls)) s (λ f le. let n = s.next f le in let d = g.stops_at count w ws t f in omega (arith, n, d))

    row_passed : IsGroup starts row_of group → (count number : ℕ) (w : List ℕ) (ws : Words) (ls : List Words) → starts count w ≡ true → Stands group (place number ((w ∷ ws) ∷ ls)) → Stands group (place (number + 1) ls)
    row_passed g count number w ws ls t s =
        let same = g.starts_in count w t in
        behind_line group group number (w ∷ ws) ls s (omega (arith, same)) (λ f le. omega (arith, same))

    row_bad : IsGroup starts row_of group → (count number : ℕ) (w : List ℕ) (ws : Words) (ls : List Words) (kind : AsmKind) → starts count w ≡ true → row_of w ws ≡ Err kind → Stands group (place number ((w ∷ ws) ∷ ls)) → Judged (bad number kind)
    row_bad g count number w ws ls kind t e s =
        let same = g.starts_in count w t in
        let k = g.kinds count w ws kind t e in
        record {
          before = s.before;
          last = s.last;
          some = s.some;
          here = (w ∷ ws) ∷ ls;
          parts = s.parts;
          number = s.number;
          kind = (λ n. record { form = k.0 n; in_place = let l = s.low in omega (arith, same) }, λ f. k.1 f.form);
        }

    by_row : IsGroup starts row_of group → (count number : ℕ) (w : List ℕ) (ws : Words) (ls : List Words) (more : Result (List A × At) BadLine) (b : Bool) (r : Result A AsmKind) → starts count w ≡ b → row_of w ws ≡ r
        → Stands group (place number ((w ∷ ws) ∷ ls)) → (Stands group (place (number + 1) ls) → Judges (group + 1) more)
        → Judges (group + 1) (cond b (at_line number r >>= λ x. more >>= with_row x) (no_row (place number ((w ∷ ws) ∷ ls))))
    by_row g count number w ws ls more false r t e s h = other_here g count number w ws ls t s
    by_row g count number w ws ls more true (Err k) t e s h = row_bad g count number w ws ls k t e s
    by_row g count number w ws ls more true (Ok x) t e s h = kept x (group + 1) more (h (row_passed g count number w ws ls t s))

    pub rows_judge : IsGroup starts row_of group → (count number : ℕ) (ls : List Words) → Stands group (place number ls) → Judges (group + 1) (rows_from starts row_of count number ls)
    unfolding rows_from
    rows_judge g count number [] s = none_here number [] refl s
    rows_judge g count number ([] ∷ ls) s = none_here number ([] ∷ ls) refl s
    rows_judge g count number ((w ∷ ws) ∷ ls) s =
        by_row g count number w ws ls (rows_from starts row_of (count + 1) (number + 1) ls) (starts count w) (row_of w ws) refl refl s (λ t. rows_judge g (count + 1) (number + 1) ls t)

  -- ---- a line that has to stand at its place

  pub line_judges : {A : Type 0} (read : Words → Option A) (group : ℕ) (a : At) → 6 ≤ group → read [] ≡ None → ((l : Words) (x : A) → read l ≡ Some x → group_of l ≡ group) → Stands group a → Judges (group + 1) (one_line read a)
  line_judges {A} read group a high none of_group s = by_lines a.number a.lines s
    where
      by : (number : ℕ) (l : Words) (ls : List Words) (o : Option A) → read l ≡ o → Stands group (place number (l ∷ ls)) → Judges (group + 1) (line_or_bad o (place number (l ∷ ls)))
      by number l ls None e s = not_named group (place number (l ∷ ls)) s high
      by number l ls (Some x) e s =
          let g = of_group l x e in
          behind_line group (group + 1) number l ls s (omega (arith, g)) (λ f le. absurd (let h = form_group (first_line ls) f in omega (arith, g)))

      by_lines : (number : ℕ) (ls : List Words) → Stands group (place number ls) → Judges (group + 1) (one_line read (place number ls))
      by_lines number [] s = subst (λ (o : Option A). Judges (group + 1) (line_or_bad o (place number []))) (sym none) (not_named group (place number []) s high)
      by_lines number (l ∷ ls) s = by number l ls (read l) refl s

  -- what is left behind the end
  pub end_judges : {A : Type 0} (x : A) (a : At) → Stands 11 a → Judged (bad a.number Grammar)
  end_judges x a s = not_named 11 a s (omega arith)
