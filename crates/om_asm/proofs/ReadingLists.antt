-- Lists of words that a loop reads.
use Rattle.std.proofs.Common.{◌≡◌, ℕ, ◌+◌, ◌<◌, ◌≤◌, ltb, true, false, List, [], ◌∷◌, ◌++◌, length, Option, Some, None, refl, sym, ap, ap₂, ◌∙◌, append_assoc, append-nil}
use Rattle.std.proofs.lemmas.Bool.{lt-ltb, le-ltb}
use Rattle.std.proofs.lemmas.List.{length-append}
use Rattle.om_io.specs.Lines.{Words}
use Rattle.om_ring.specs.OptionSteps.{◌>>=◌}
use Rattle.om_asm.specs.Lists.{list_from}
use Rattle.std.specs.Prelude.{Ok, Err}
use Rattle.om_asm.specs.declared.fault.AsmKind.{AsmKind}
use Rattle.om_asm.specs.declared.fault.AsmKind.TheVariants.{Grammar}
use Rattle.om_asm.specs.declared.fault.LineFault.{LineFault}
use Rattle.om_asm.specs.declared.fault.LineFault.TheVariants as faults
use Rattle.om_asm.specs.Rows.{Gives, formed}

module _ {A : Type 0} where
  abbrev pub listed_behind : List A → Option (List A) → Option (List A)
  listed_behind front None = None
  listed_behind front (Some xs) = Some (front ++ xs)

  behind_both : (front : List A) (x : A) (said : Option (List A)) → listed_behind front (said >>= λ xs. Some (x ∷ xs)) ≡ listed_behind (front ++ x ∷ []) said
  behind_both front x None = refl
  behind_both front x (Some xs) = ap Some (sym (append_assoc front (x ∷ []) xs))

module _ {A : Type 0} (read : List ℕ → Option A) (most : ℕ) where
  one_item : (front : List A) (count : ℕ) (w : List ℕ) (ws : Words) (x : A) → count < most → read w ≡ Some x → listed_behind front (list_from read most count (w ∷ ws)) ≡ listed_behind (front ++ x ∷ []) (list_from read most (count + 1) ws)
  unfolding list_from
  one_item front count w ws x lt e =
      let t : ltb count most ≡ true = lt-ltb count most lt in
      rw (e, t) (behind_both front x (list_from read most (count + 1) ws))

  pub item_more : (front more : List A) (words : Words) (w : List ℕ) (ws : Words) (x : A) (total : Option (List A)) → words ≡ w ∷ ws → length front < most → read w ≡ Some x → more ≡ front ++ x ∷ []
      → listed_behind front (list_from read most (length front) words) ≡ total → listed_behind more (list_from read most (length more) ws) ≡ total
  item_more front more words w ws x total s lt e m h =
      let longer : length more ≡ length front + 1 = ap length m ∙ length-append front (x ∷ []) in
      ap₂ (λ (ys : List A) k. listed_behind ys (list_from read most k ws)) m longer
      ∙ sym (one_item front (length front) w ws x lt e)
      ∙ ap (λ (l : Words). listed_behind front (list_from read most (length front) l)) (sym s) ∙ h

  bad_item : (front : List A) (count : ℕ) (w : List ℕ) (ws : Words) → read w ≡ None → listed_behind front (list_from read most count (w ∷ ws)) ≡ None
  unfolding list_from
  bad_item front count w ws e = rw e refl

  pub item_bad : (front : List A) (words : Words) (w : List ℕ) (ws : Words) (total : Option (List A)) → words ≡ w ∷ ws → read w ≡ None → listed_behind front (list_from read most (length front) words) ≡ total → total ≡ None
  item_bad front words w ws total s e h = sym h ∙ ap (λ (l : Words). listed_behind front (list_from read most (length front) l)) s ∙ bad_item front (length front) w ws e

  full_list : (front : List A) (count : ℕ) (w : List ℕ) (ws : Words) (x : A) → most ≤ count → read w ≡ Some x → listed_behind front (list_from read most count (w ∷ ws)) ≡ None
  unfolding list_from
  full_list front count w ws x le e =
      let t : ltb count most ≡ false = le-ltb count most le in
      rw (e, t) refl

  pub list_full : (front : List A) (words : Words) (w : List ℕ) (ws : Words) (x : A) (total : Option (List A)) → words ≡ w ∷ ws → most ≤ length front → read w ≡ Some x → listed_behind front (list_from read most (length front) words) ≡ total → total ≡ None
  list_full front words w ws x total s le e h = sym h ∙ ap (λ (l : Words). listed_behind front (list_from read most (length front) l)) s ∙ full_list front (length front) w ws x le e

  at_end : (front : List A) (count : ℕ) → listed_behind front (list_from read most count []) ≡ Some front
  unfolding list_from
  at_end front count = ap Some (append-nil front)

  pub list_end : (front : List A) (words : Words) (total : Option (List A)) → words ≡ [] → listed_behind front (list_from read most (length front) words) ≡ total → total ≡ Some front
  list_end front words total s h = sym h ∙ ap (λ (l : Words). listed_behind front (list_from read most (length front) l)) s ∙ at_end front (length front)

pub formed_some : {A : Type 0} (o : Option A) (x : A) → formed o ≡ Ok x → o ≡ Some x
formed_some (Some y) x e = cc
formed_some None x e = cc

formed_none : {A : Type 0} (o : Option A) (k : AsmKind) → formed o ≡ Err k → (o ≡ None) × (k ≡ Grammar)
formed_none (Some y) k e = cc
formed_none None k e = (refl, cc)

-- a fault of a member is one of the list
pub formed_fault : {A B : Type 0} (o : Option A) (total : Option B) (fault : LineFault) → Gives (formed o) (Err fault) → (o ≡ None → total ≡ None) → Gives (formed total) (Err fault)
formed_fault o total faults.Memory g h = tt
formed_fault o total (faults.Bad k) g h =
    let p = formed_none o k g in
    ap formed (h p.0) ∙ ap (λ (d : AsmKind). Err d) (sym p.1)
