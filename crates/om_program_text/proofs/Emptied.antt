-- A buffer that is emptied, so that another goes on.
use Rattle.std.proofs.Common.{◌≡◌, ℕ, List, [], ◌++◌, Option, sym, ap, ◌∙◌, append-nil}
use Rattle.om_io.specs.Writing.{Outlet, Takes, outlet}
use Rattle.om_io.proofs.Outlets.{takes_both}

-- a text went in, the buffer was emptied, and another one is empty
pub emptied : (a b : Outlet) (written : Option (List ℕ)) (faults : ℕ) (held now x : List ℕ) → Takes a b x → Takes b (outlet written faults held) [] → held ≡ [] → now ≡ [] → Takes a (outlet written faults now) x
emptied a b written faults held now x p q e f =
    let both = takes_both a b (outlet written faults held) x [] p q in
    record {
      later = both.later;
      sent = both.sent;
      parts = ap (λ t. a.held ++ t) (sym (append-nil x)) ∙ both.parts ∙ ap (λ t. both.sent ++ t) (e ∙ sym f);
      appended = both.appended;
    }
