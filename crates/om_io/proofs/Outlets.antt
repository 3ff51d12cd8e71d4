-- What is written piece by piece.
use Rattle.std.proofs.Common.{◌≡◌, ℕ, ◌+◌, ◌<◌, ◌≤◌, List, [], ◌∷◌, ◌++◌, length, get_or, take, drop, flat_map, Option, Some, None, Result, Ok, Err, refl, sym, ap, ◌∙◌, arith, append_assoc, append-nil}
use Rattle.std.specs.Prelude.{OnOk, OnErr}
use Rattle.std.proofs.Math.Seq.{take-append-add}
use Rattle.std.proofs.lemmas.List.{take-append-le, take-append-drop, take_more, drop_more, length-append, flat_map_more}
use Rattle.std.proofs.lemmas.List.Concat.{flat_map-cons}
use Rattle.std.proofs.lemmas.Grind.{flat_map-append}
use Rattle.om_io.specs.declared.Failed.{Failed}
use Rattle.om_io.specs.Bytes.{after_told, AppendsPrefix}
use Rattle.om_io.specs.Writing.{Outlet, Takes, Breaks, Writes, outlet, all_of}

after_both : (told : Option (List ℕ)) (x y : List ℕ) → after_told (after_told told x) y ≡ after_told told (x ++ y)
after_both None x y = refl
after_both (Some bytes) x y = ap Some (append_assoc bytes x y)

pub told_nothing : (told : Option (List ℕ)) → told ≡ after_told told []
told_nothing None = refl
told_nothing (Some bytes) = ap Some (sym (append-nil bytes))

-- one text after another
pub takes_both : (a b c : Outlet) (x y : List ℕ) → Takes a b x → Takes b c y → Takes a c (x ++ y)
takes_both a b c x y p q = record {
  later = omega (arith, p.later, q.later);
  sent = p.sent ++ q.sent;
  parts = sym (append_assoc a.held x y) ∙ ap (λ t. t ++ y) p.parts ∙ append_assoc p.sent b.held y ∙ ap (λ t. p.sent ++ t) q.parts ∙ sym (append_assoc p.sent q.sent c.held);
  appended = q.appended ∙ ap (λ t. after_told t q.sent) p.appended ∙ after_both a.written p.sent q.sent;
}

-- a text, and a failure in the next
pub breaks_next : (a b c : Outlet) (x y : List ℕ) → Takes a b x → Breaks b c y → Breaks a c (x ++ y)
breaks_next a b c x y p q =
    let n = q.appended.0 in
    let whole : a.held ++ (x ++ y) ≡ p.sent ++ (b.held ++ y) = sym (append_assoc a.held x y) ∙ ap (λ t. t ++ y) p.parts ∙ append_assoc p.sent b.held y in
    let within : n ≤ length (b.held ++ y) = q.appended.1 in
    let now : c.written ≡ after_told a.written (p.sent ++ take n (b.held ++ y)) = q.appended.2 ∙ ap (λ t. after_told t (take n (b.held ++ y))) p.appended ∙ after_both a.written p.sent (take n (b.held ++ y)) in
    record {
      later = omega (arith, p.later, q.later);
      rose = omega (arith, p.later, q.rose);
      appended = (length p.sent + n, omega (arith, ap length whole, length-append p.sent (b.held ++ y)), now ∙ ap (after_told a.written) (sym (take-append-add p.sent (b.held ++ y) n) ∙ ap (take (length p.sent + n)) (sym whole)));
    }

-- a failure before all of a text went in
pub breaks_more : (a b : Outlet) (x y : List ℕ) → Breaks a b x → Breaks a b (x ++ y)
breaks_more a b x y q =
    let n = q.appended.0 in
    let within : n ≤ length (a.held ++ x) = q.appended.1 in
    record {
      later = q.later;
      rose = q.rose;
      appended = (n, omega (arith, append_assoc a.held x y, length-append (a.held ++ x) y, ap length (append_assoc a.held x y)), q.appended.2 ∙ ap (after_told a.written) (sym (take-append-le n (a.held ++ x) y within) ∙ ap (take n) (append_assoc a.held x y)));
    }

-- one text after another, whatever the second leaves
pub writes_both : (a b c : Outlet) (x y : List ℕ) (r : Result (Unit {0}) Failed) → Takes a b x → Writes b c y r → Writes a c (x ++ y) r
writes_both a b c x y (Ok _) p q = takes_both a b c x y p q
writes_both a b c x y (Err _) p q = breaks_next a b c x y p q

module _ {A : Type 0} (text : A → List ℕ) (rows : List A) where
  pub row_more : (a b c : Outlet) (i : ℕ) (d x : A) → i < length rows → x ≡ get_or rows i d → Takes a b (flat_map text (take i rows)) → Takes b c (text x) → Takes a c (flat_map text (take (i + 1) rows))
  row_more a b c i d x lt at p q =
      let one : flat_map text (take i rows) ++ text x ≡ flat_map text (take (i + 1) rows) = flat_map_more text [] (take i rows) x ∙ ap (λ y. flat_map text (take i rows ++ y ∷ [])) at ∙ ap (flat_map text) (sym (take_more rows i d lt)) in
      rw (← one) (takes_both a b c (flat_map text (take i rows)) (text x) p q)

  pub row_breaks : (a b c : Outlet) (i : ℕ) (d x : A) → i < length rows → x ≡ get_or rows i d → Takes a b (flat_map text (take i rows)) → Breaks b c (text x) → Breaks a c (flat_map text rows)
  row_breaks a b c i d x lt at p q =
      let rest = flat_map text (drop (i + 1) rows) in
      let split : rows ≡ take i rows ++ x ∷ drop (i + 1) rows = sym (take-append-drop i rows) ∙ ap (λ ys. take i rows ++ ys) (drop_more rows i d lt ∙ ap (λ z. z ∷ drop (i + 1) rows) (sym at)) in
      let whole : flat_map text rows ≡ (flat_map text (take i rows) ++ text x) ++ rest =
      ap (flat_map text) split ∙ flat_map-append text (take i rows) (x ∷ drop (i + 1) rows) ∙ ap (λ t. flat_map text (take i rows) ++ t) (flat_map-cons text x (drop (i + 1) rows)) ∙ sym (append_assoc (flat_map text (take i rows)) (text x) rest) in
      rw whole (breaks_more a c (flat_map text (take i rows) ++ text x) rest (breaks_next a b c (flat_map text (take i rows)) (text x) p q))

-- texts that went in, one after the other
pub data Steps : Outlet → List (List ℕ) → Outlet → Type 0 where
  none : {a : Outlet} → Steps a [] a
  more : {a b c : Outlet} {x : List ℕ} {xs : List (List ℕ)} → Takes a b x → Steps b xs c → Steps a (x ∷ xs) c

-- the last of several texts leaves whatever it leaves
pub steps_last : {a b : Outlet} {xs : List (List ℕ)} (c : Outlet) (y : List ℕ) (r : Result (Unit {0}) Failed) → Steps a xs b → Writes b c y r → Writes a c (all_of (xs ++ y ∷ [])) r
steps_last c y r none p = rw (append-nil y) p
steps_last c y r (more {a} {b} {x = x} {xs = xs} t s) p = writes_both a b c x (all_of (xs ++ y ∷ [])) r t (steps_last c y r s p)

-- a failure in one of several texts
pub steps_break : {a b c : Outlet} {xs : List (List ℕ)} {y : List ℕ} (rest : List (List ℕ)) → Steps a xs b → Breaks b c y → Breaks a c (all_of (xs ++ y ∷ rest))
steps_break {b = b} {c = c} {y = y} rest none p = breaks_more b c y (all_of rest) p
steps_break {c = c} {y = y} rest (more {a} {b} {x = x} {xs = xs} t s) p = breaks_next a b c x (all_of (xs ++ y ∷ rest)) t (steps_break rest s p)

-- bytes that were pushed into the buffer alone
pub pushed : (a : Outlet) (written : Option (List ℕ)) (faults : ℕ) (held now x text : List ℕ) → Takes a (outlet written faults held) text → now ≡ held ++ x → Takes a (outlet written faults now) (text ++ x)
pushed a written faults held now x text p e = record {
  later = p.later;
  sent = p.sent;
  parts = sym (append_assoc a.held text x) ∙ ap (λ t. t ++ x) p.parts ∙ append_assoc p.sent held x ∙ ap (λ t. p.sent ++ t) (sym e);
  appended = p.appended;
}

-- the same text under another name
pub writes_same : (a b : Outlet) (x y : List ℕ) (r : Result (Unit {0}) Failed) → x ≡ y → Writes a b x r → Writes a b y r
writes_same a b x y (Ok _) e p = rw (← e) p
writes_same a b x y (Err _) e p = rw (← e) p

-- a buffer that was empty, and is
pub all_written : (a b : Outlet) (x : List ℕ) → a.held ≡ [] → b.held ≡ [] → Takes a b x → b.written ≡ after_told a.written x
all_written a b x e f p =
    let parts : x ≡ p.sent = ap (λ t. t ++ x) (sym e) ∙ p.parts ∙ ap (λ t. p.sent ++ t) f ∙ append-nil p.sent in
    p.appended ∙ ap (after_told a.written) (sym parts)

pub prefix_written : (a b : Outlet) (x : List ℕ) → a.held ≡ [] → Breaks a b x → AppendsPrefix a.written b.written x
prefix_written a b x e p = rw (ap (λ t. t ++ x) e) at p.appended

-- a text through a buffer that was empty and was flushed
pub whole_written : (a b c : Outlet) (x text : List ℕ) (r : Result (Unit {0}) Failed) → x ≡ text → a.held ≡ [] → Takes a b x → Writes b c [] r → OnOk r (c.held ≡ []) → OnOk r (c.written ≡ after_told a.written text)
whole_written a b c x text (Ok _) e held p q f = all_written a c x held f (rw (append-nil x) at (takes_both a b c x [] p q)) ∙ ap (after_told a.written) e
whole_written a b c x text (Err _) e held p q f = tt

pub broken_end : (a b c : Outlet) (x text : List ℕ) (r : Result (Unit {0}) Failed) → x ≡ text → a.held ≡ [] → Takes a b x → Writes b c [] r → OnErr r (AppendsPrefix a.written c.written text)
broken_end a b c x text (Ok _) e held p q = tt
broken_end a b c x text (Err _) e held p q = rw (append-nil x ∙ e) at (prefix_written a c (x ++ []) held (breaks_next a b c x [] p q))

pub broken_before : (a b : Outlet) (x text : List ℕ) → x ≡ text → a.held ≡ [] → Breaks a b x → AppendsPrefix a.written b.written text
broken_before a b x text e held p = rw e at (prefix_written a b x held p)
