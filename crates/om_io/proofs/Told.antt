-- Told bytes over several reads and writes.
use Rattle.std.proofs.Common.{◌≡◌, ℕ, ◌+◌, ◌-◌, List, [], ◌++◌, length, take, drop, Option, Some, None, IfSome, refl, ap, sym, ◌∙◌, arith, append_assoc}
use Rattle.std.proofs.Math.Seq.{take-add}
use Rattle.std.proofs.lemmas.Grind.{common_steps}
use Rattle.std.proofs.lemmas.List.{append-nil, drop_at, take_at}
use Rattle.om_io.specs.Bytes.{after_told, before_told, AppendsPrefix}

-- no byte before the told ones
pub before_told-nil : (told : Option (List ℕ)) → before_told [] told ≡ told
before_told-nil None = refl
before_told-nil (Some rest) = refl

-- two pieces, one before the other
pub before_told-append : (a b : List ℕ) (told : Option (List ℕ)) → before_told a (before_told b told) ≡ before_told (a ++ b) told
before_told-append a b None = refl
before_told-append a b (Some rest) = ap Some (sym (append_assoc a b rest))

-- some bytes were given, and then more
pub gave_more : (first second third : Option (List ℕ)) (a b : List ℕ) → first ≡ before_told a second → second ≡ before_told b third → first ≡ before_told (a ++ b) third
gave_more first second third a b p q = p ∙ ap (before_told a) q ∙ before_told-append a b third

-- where nothing is left in the end, all that was left was given
pub gave_all : (before now : Option (List ℕ)) (given : List ℕ) → before ≡ before_told given now → IfSome now (λ rest. rest ≡ []) → IfSome before (λ bytes. bytes ≡ given)
gave_all before None given e h = rw e tt
gave_all before (Some rest) given e h = rw e (ap (λ (t : List ℕ). given ++ t) h ∙ append-nil given)

-- no byte after the told ones
pub after_told-nil : (told : Option (List ℕ)) → after_told told [] ≡ told
after_told-nil None = refl
after_told-nil (Some held) = ap Some (append-nil held)

-- two pieces, one after the other
pub after_told-append : (told : Option (List ℕ)) (a b : List ℕ) → after_told (after_told told a) b ≡ after_told told (a ++ b)
after_told-append None a b = refl
after_told-append (Some held) a b = ap Some (append_assoc held a b)

-- one piece was appended, and then another
pub appended_more : (first second third : Option (List ℕ)) (a b : List ℕ) → second ≡ after_told first a → third ≡ after_told second b → third ≡ after_told first (a ++ b)
appended_more first second third a b p q = q ∙ ap (λ (t : Option (List ℕ)). after_told t b) p ∙ after_told-append first a b

-- a piece was appended, and then a prefix of the next
pub prefix_after : (first second third : Option (List ℕ)) (a b : List ℕ) → second ≡ after_told first a → AppendsPrefix second third b → AppendsPrefix first third (a ++ b)
prefix_after first second third a b p h =
    let whole : take (length a + h.0) (a ++ b) ≡ a ++ take h.0 b =
    take-add (length a) h.0 (a ++ b)
    ∙ ap (λ (t : List ℕ). t ++ take h.0 (drop (length a) (a ++ b))) (take_at a b (length a) refl)
    ∙ ap (λ (t : List ℕ). a ++ take h.0 t) (drop_at a b (length a) refl) in
    (length a + h.0, grind (arith, common_steps, h.1), appended_more first second third a (take h.0 b) p h.2 ∙ ap (after_told first) (sym whole))

-- the rest of a piece, as slicing gives it
rest_of : (piece : List ℕ) (d : ℕ) → take (length piece - d) (drop d piece) ≡ drop d piece
rest_of piece d = grind (arith, common_steps)

-- the front of a piece, and then more of it
pub after_front : (told before now : Option (List ℕ)) (piece : List ℕ) (d n : ℕ) → before ≡ after_told told (take d piece) → now ≡ after_told before (take n (take (length piece - d) (drop d piece))) → now ≡ after_told told (take (d + n) piece)
after_front told before now piece d n p q =
    appended_more told before now (take d piece) (take n (drop d piece)) p (q ∙ ap (λ (t : List ℕ). after_told before (take n t)) (rest_of piece d))
    ∙ ap (after_told told) (sym (take-add d n piece))
