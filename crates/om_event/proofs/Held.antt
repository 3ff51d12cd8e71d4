-- The bytes that a reader holds.
use Rattle.std.proofs.Common.{◌≡◌, ℕ, ◌+◌, ◌-◌, ◌≤◌, List, ◌++◌, [], length, take, drop, length-take, Option, Some, None, refl, ap, sym, ◌∙◌, min, arith, nat_eq, true}
use Rattle.std.proofs.Math.Seq.{take-add}
use Rattle.std.specs.List.{copy_within}
use Rattle.std.proofs.lemmas.Bool.{eq-eqb}
use Rattle.std.proofs.lemmas.List.Edits.{take-paste}
use Rattle.std.proofs.lemmas.List.Folds.{prefix_len-append}
use Rattle.om_event.specs.Fronts.{in_line, line_len}
use Rattle.std.proofs.lemmas.List.{take-take, take-append-drop, drop-append-le, append_assoc, drop_all, drop-take, drop-drop, take_all, length-drop}
use Rattle.om_io.specs.Bytes.{before_told}
use Rattle.std.specs.Io.{StartsWith, appended_bytes}

-- what is held once some of it is let go
pub dropped : (hold : List ℕ) (start end n : ℕ) → n ≤ length (take (end - start) (drop start hold))
    → take (end - (start + n)) (drop (start + n) hold) ≡ drop n (take (end - start) (drop start hold))
dropped hold start end n h =
    let few : n ≤ end - start = (let long : length (take (end - start) (drop start hold)) ≤ end - start = simp length-take (omega arith) in omega arith) in
    let all : n + (end - (start + n)) ≡ end - start = omega arith in
    ap (take (end - (start + n))) (sym (drop-drop n start hold))
    ∙ sym (drop-take n (end - (start + n)) (drop start hold))
    ∙ ap (λ (k : ℕ). drop n (take k (drop start hold))) all

-- what stands behind the first bytes
pub behind : (hold held : List ℕ) (len n : ℕ) → take len hold ≡ held → length held ≡ len → take (len + n) hold ≡ held ++ take n (drop len hold)
behind hold held len n h l = take-add len n hold ∙ ap (λ (t : List ℕ). t ++ take n (drop len hold)) h

-- what came behind the bytes that were held
pub came_behind : (held hold : List ℕ) (len n k : ℕ) (left now : Option (List ℕ)) → length held ≡ len → k ≡ len + n
    → left ≡ before_told (take n (drop len hold)) now → left ≡ before_told (drop (length held) (take k hold)) now
came_behind held hold len n k left now l sum e =
    e ∙ ap (λ (t : List ℕ). before_told t now) (sym (drop-take len n hold) ∙ ap (λ (k : ℕ). drop k (take (len + n) hold)) (sym l)
    ∙ ap (λ (m : ℕ). drop (length held) (take m hold)) (sym sum))

pub before_told-nil : (told : Option (List ℕ)) → before_told [] told ≡ told
before_told-nil None = refl
before_told-nil (Some x) = refl

-- nothing came
pub none_came : (held : List ℕ) (left now : Option (List ℕ)) → now ≡ left → left ≡ before_told (drop (length held) held) now
none_came held left now e = sym e ∙ sym (before_told-nil now)
    ∙ ap (λ (t : List ℕ). before_told t now) (sym (drop_all (length held) held (omega arith)))

pub before_told-append : (a b : List ℕ) (told : Option (List ℕ)) → before_told a (before_told b told) ≡ before_told (a ++ b) told
before_told-append a b None = refl
before_told-append a b (Some x) = ap Some (sym (append_assoc a b x))

-- a front of a front
pub starts_more : (a b c : List ℕ) → StartsWith b a → StartsWith c b → StartsWith c a
starts_more a b c p q =
    let short : length a ≤ length b = (let e : min (length a) (length b) ≡ length a = sym (length-take (length a) b) ∙ ap length p in omega arith) in
    sym (take-take (length a) (length b) c short) ∙ ap (take (length a)) q ∙ p

-- what came behind, and then more
pub came_more : (a b c : List ℕ) (first second third : Option (List ℕ)) → StartsWith b a → StartsWith c b
    → first ≡ before_told (appended_bytes a b) second → second ≡ before_told (appended_bytes b c) third
    → first ≡ before_told (appended_bytes a c) third
came_more a b c first second third p q e f =
    let short : length a ≤ length b = (let l : min (length a) (length b) ≡ length a = sym (length-take (length a) b) ∙ ap length p in omega arith) in
    let whole : b ++ drop (length b) c ≡ c = ap (λ (t : List ℕ). t ++ drop (length b) c) (sym q) ∙ take-append-drop (length b) c in
    e ∙ ap (before_told (appended_bytes a b)) f ∙ before_told-append (appended_bytes a b) (appended_bytes b c) third
    ∙ ap (λ (t : List ℕ). before_told t third) (sym (drop-append-le (length a) b (drop (length b) c) short) ∙ ap (drop (length a)) whole)

-- how far the first line reaches, once some of it was looked at
pub longer_line : (bytes more : List ℕ) (seen : ℕ) → StartsWith more bytes → seen ≡ line_len bytes → seen ≡ length bytes
    → line_len more ≡ seen + line_len (drop seen more)
longer_line bytes more seen p q r =
    let whole : bytes ++ drop (length bytes) more ≡ more = ap (λ (t : List ℕ). t ++ drop (length bytes) more) (sym p)
    ∙ take-append-drop (length bytes) more in
    let all : nat_eq (line_len bytes) (length bytes) ≡ true = eq-eqb _ _ (sym q ∙ r) in
    let sum : line_len (bytes ++ drop (length bytes) more) ≡ length bytes + line_len (drop (length bytes) more) = (let e = prefix_len-append in_line bytes (drop (length bytes) more) in rw all at e) in
    sym (ap line_len whole) ∙ sum ∙ ap (λ (n : ℕ). n + line_len (drop n more)) (sym r)

-- what stands behind the bytes that were looked at
pub tail_of : (seen n : ℕ) (shown bytes : List ℕ) → shown ≡ bytes → n ≡ line_len (take (length shown - seen) (drop seen shown))
    → n ≡ line_len (drop seen bytes)
tail_of seen n shown bytes e h = h
    ∙ ap line_len (take_all (length shown - seen) (drop seen shown) (let l : length (drop seen shown) ≡ length shown - seen = length-drop seen shown in omega (arith, l))) ∙ ap (λ (t : List ℕ). line_len (drop seen t)) e

-- bytes that were copied to the front
pub copied_front : (hold : List ℕ) (start end : ℕ) → start ≤ end → end ≤ length hold
    → take (end - start) (copy_within hold start end 0) ≡ take (end - start) (drop start hold)
copied_front hold start end h g =
    let all : 0 + (end - start) ≡ end - start = omega arith in
    ap (λ (k : ℕ). take k (copy_within hold start end 0)) (sym all)
    ∙ take-paste hold 0 (drop start hold) (end - start) (omega arith) (let l = length-drop start hold in omega (arith, l, h, g))
