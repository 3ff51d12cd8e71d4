-- A file that is read part by part.
use Rattle.std.proofs.Common.{◌≡◌, ℕ, ◌+◌, ◌≤◌, List, ◌++◌, length, take, drop, Option, Some, None, IfSome, ap, sym, ◌∙◌, subst, length-drop}
use Rattle.std.proofs.Math.Seq.{take-add}
use Rattle.om_io.specs.Bytes.{HoldsPart}
use Rattle.om_io.proofs.Moved.{moved_front}

-- the front of a file, and then the part that a read gave
part_read : (file text old new : List ℕ) (at n : ℕ) → text ≡ take at file → HoldsPart file at n old new → text ++ take n new ≡ take (at + n) file
part_read file text old new at n p h =
    let within : n ≤ length (drop at file) = simp length-drop h.within in
    ap (λ (t : List ℕ). t ++ take n new) p
    ∙ ap (λ (t : List ℕ). take at file ++ t) (moved_front (drop at file) old new n within h.bytes)
    ∙ sym (take-add at n file)

-- the same of a file that may be told
pub part_told : (told now : Option (List ℕ)) (text old new : List ℕ) (at n : ℕ) → now ≡ told → IfSome told (λ file. text ≡ take at file) → IfSome now (λ file. HoldsPart file at n old new) → IfSome told (λ file. text ++ take n new ≡ take (at + n) file)
part_told None now text old new at n e p h = tt
part_told (Some file) now text old new at n e p h = part_read file text old new at n p (let P : Option (List ℕ) → Type 0 = λ o. IfSome o (λ file. HoldsPart file at n old new) in subst P e h)

-- the same, where the text has grown by the part
pub grown_told : (told now : Option (List ℕ)) (text more old new : List ℕ) (v at n len : ℕ) → at ≡ v → now ≡ told → IfSome told (λ file. text ≡ take v file) → IfSome now (λ file. HoldsPart file at n old new) → more ≡ text ++ take n new → len ≡ v + n → IfSome told (λ file. more ≡ take len file)
grown_told None now text more old new v at n len a e p h m l = tt
grown_told (Some file) now text more old new v at n len a e p h m l =
    m ∙ part_told (Some file) now text old new at n e (p ∙ ap (λ (k : ℕ). take k file) (sym a)) h ∙ ap (λ (k : ℕ). take k file) (ap (λ (k : ℕ). k + n) a ∙ sym l)
