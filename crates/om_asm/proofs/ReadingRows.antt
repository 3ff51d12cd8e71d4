-- The lines of one kind, as a loop reads them.
use Rattle.std.proofs.Common.{◌≡◌, ℕ, ◌+◌, Bool, true, false, List, [], ◌∷◌, ◌++◌, length, drop, Result, Ok, Err, refl, sym, ap, ap₂, ◌∙◌, append_assoc, append-nil}
use Rattle.std.proofs.lemmas.List.{length-append}
use Rattle.om_asm.specs.declared.fault.AsmKind.{AsmKind}
use Rattle.om_asm.specs.declared.fault.AsmFault.{AsmFault}
use Rattle.om_asm.specs.declared.fault.AsmFault.TheVariants as faults
use Rattle.om_asm.specs.declared.fault.LineFault.{LineFault}
use Rattle.om_asm.specs.declared.fault.LineFault.TheVariants as line_faults
use Rattle.om_io.specs.Lines.{Words}
use Rattle.om_asm.specs.Lines.{At, first_line, Advances}
use Rattle.om_asm.specs.Rows.{BadLine, bad, place, rows_from, behind, Gives, IsAtLine, GivesMore}
use Rattle.om_ring.specs.ResultSteps.{◌>>=◌}

pub split_lines : (lines : List Words) (w : List ℕ) (ws : Words) → w ∷ ws ≡ first_line lines → lines ≡ (w ∷ ws) ∷ drop 1 lines
split_lines [] w ws e = cc
split_lines (l ∷ ls) w ws e = ap (λ (x : Words). x ∷ ls) (sym e)

module _ {A : Type 0} where
  behind_both : (front : List A) (x : A) (said : Result (List A × At) BadLine) → behind front (said >>= λ xs. Ok (x ∷ xs.0, xs.1)) ≡ behind (front ++ x ∷ []) said
  behind_both front x (Ok xs) = ap (λ (ys : List A). Ok (ys, xs.1)) (sym (append_assoc front (x ∷ []) xs.0))
  behind_both front x (Err e) = refl

  -- what is bad behind a list is bad
  pub behind_bad : (front : List A) (said : Result (List A × At) BadLine) (e : BadLine) → behind front said ≡ Err e → said ≡ Err e
  behind_bad front (Ok xs) e h = cc
  behind_bad front (Err d) e h = cc

  pub behind_nothing : (said : Result (List A × At) BadLine) → behind [] said ≡ said
  behind_nothing (Ok xs) = refl
  behind_nothing (Err e) = refl

module _ {A : Type 0} (starts : ℕ → List ℕ → Bool) (row_of : List ℕ → Words → Result A AsmKind) where
  one_row : (rows : List A) (number count : ℕ) (w : List ℕ) (ws : Words) (ls : List Words) (x : A) → count ≡ length rows → starts count w ≡ true → row_of w ws ≡ Ok x → behind rows (rows_from starts row_of (length rows) number ((w ∷ ws) ∷ ls)) ≡ behind (rows ++ x ∷ []) (rows_from starts row_of (length rows + 1) (number + 1) ls)
  unfolding rows_from
  one_row rows number count w ws ls x n s e =
      let t : starts (length rows) w ≡ true = ap (λ k. starts k w) (sym n) ∙ s in
      rw (t, e) (behind_both rows x (rows_from starts row_of (length rows + 1) (number + 1) ls))

  -- a line of the kind was read
  pub row_step : (rows more : List A) (number count : ℕ) (w : List ℕ) (ws : Words) (lines : List Words) (now : At) (x : A) (total : Result (List A × At) BadLine)
      → w ∷ ws ≡ first_line lines → count ≡ length rows → starts count w ≡ true → row_of w ws ≡ Ok x → more ≡ rows ++ x ∷ [] → Advances (place number lines) now
      → behind rows (rows_from starts row_of (length rows) number lines) ≡ total → behind more (rows_from starts row_of (length more) now.number now.lines) ≡ total
  row_step rows more number count w ws lines now x total e n s r m a h =
      let split = split_lines lines w ws e in
      let at : now ≡ place (number + 1) (drop 1 lines) = a w ws (drop 1 lines) split in
      let longer : length more ≡ length rows + 1 = ap length m ∙ length-append rows (x ∷ []) in
      ap (λ (p : At). behind more (rows_from starts row_of (length more) p.number p.lines)) at
      ∙ ap₂ (λ (ys : List A) k. behind ys (rows_from starts row_of k (number + 1) (drop 1 lines))) m longer
      ∙ sym (one_row rows number count w ws (drop 1 lines) x n s r)
      ∙ ap (λ ls. behind rows (rows_from starts row_of (length rows) number ls)) (sym split)
      ∙ h

  a_fault : (rows : List A) (number count : ℕ) (w : List ℕ) (ws : Words) (ls : List Words) (kind : AsmKind) → count ≡ length rows → starts count w ≡ true → row_of w ws ≡ Err kind → behind rows (rows_from starts row_of (length rows) number ((w ∷ ws) ∷ ls)) ≡ Err (bad number kind)
  unfolding rows_from
  a_fault rows number count w ws ls kind n s e =
      let t : starts (length rows) w ≡ true = ap (λ k. starts k w) (sym n) ∙ s in
      rw (t, e) refl

  -- a line of the kind is bad
  pub row_fails : (old new rows : List A) (number start count : ℕ) (w : List ℕ) (ws : Words) (lines : List Words) (fault : LineFault) (told : AsmFault) (now : At) (said : Result (List A × At) BadLine)
      → w ∷ ws ≡ first_line lines → count ≡ length rows → starts count w ≡ true → Gives (row_of w ws) (Err fault) → number ≡ start → IsAtLine fault start told
      → behind rows (rows_from starts row_of (length rows) number lines) ≡ behind old said → GivesMore said old (Err told) new now
  row_fails old new rows number start count w ws lines fault faults.Memory now said e n s g q t h = tt
  row_fails old new rows number start count w ws lines line_faults.Memory (faults.Bad line kind) now said e n s g q t h = cc
  row_fails old new rows number start count w ws lines (line_faults.Bad k) (faults.Bad line kind) now said e n s g q t h =
      let split = split_lines lines w ws e in
      let same : k ≡ kind = cc in
      let here : line ≡ number = t.1 ∙ sym q in
      behind_bad old said (bad line kind) (sym h ∙ ap (λ ls. behind rows (rows_from starts row_of (length rows) number ls)) split ∙ a_fault rows number count w ws (drop 1 lines) k n s g ∙ ap₂ (λ l (d : AsmKind). Err (bad l d)) (sym here) same)

  end_none : (rows : List A) (number : ℕ) (lines : List Words) → [] ≡ first_line lines → behind rows (rows_from starts row_of (length rows) number lines) ≡ Ok (rows, place number lines)
  unfolding rows_from
  end_none rows number [] e = ap (λ (ys : List A). Ok (ys, place number [])) (append-nil rows)
  end_none rows number ([] ∷ ls) e = ap (λ (ys : List A). Ok (ys, place number ([] ∷ ls))) (append-nil rows)
  end_none rows number ((w ∷ ws) ∷ ls) e = cc

  -- no line is left
  pub rows_end : (old rows : List A) (number : ℕ) (lines : List Words) (said : Result (List A × At) BadLine) → first_line lines ≡ [] → behind rows (rows_from starts row_of (length rows) number lines) ≡ behind old said → behind old said ≡ Ok (rows, place number lines)
  rows_end old rows number lines said e h = sym h ∙ end_none rows number lines (sym e)

  end_other : (rows : List A) (number count : ℕ) (w : List ℕ) (ws : Words) (ls : List Words) → count ≡ length rows → starts count w ≡ false → behind rows (rows_from starts row_of (length rows) number ((w ∷ ws) ∷ ls)) ≡ Ok (rows, place number ((w ∷ ws) ∷ ls))
  unfolding rows_from
  end_other rows number count w ws ls n s =
      let t : starts (length rows) w ≡ false = ap (λ k. starts k w) (sym n) ∙ s in
      rw t (ap (λ (ys : List A). Ok (ys, place number ((w ∷ ws) ∷ ls))) (append-nil rows))

  -- a line of another kind
  pub rows_stop : (old rows : List A) (number count : ℕ) (w : List ℕ) (ws : Words) (lines : List Words) (said : Result (List A × At) BadLine) → w ∷ ws ≡ first_line lines → count ≡ length rows → starts count w ≡ false
      → behind rows (rows_from starts row_of (length rows) number lines) ≡ behind old said → behind old said ≡ Ok (rows, place number lines)
  rows_stop old rows number count w ws lines said e n s h =
      let split = split_lines lines w ws e in
      sym h ∙ ap (λ ls. behind rows (rows_from starts row_of (length rows) number ls)) split ∙ end_other rows number count w ws (drop 1 lines) n s ∙ ap (λ ls. Ok (rows, place number ls)) (sym split)
