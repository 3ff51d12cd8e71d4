-- A word that is read, and the words behind it.
use Rattle.std.proofs.Common.{◌≡◌, ℕ, List, [], ◌∷◌, Option, Some, ap}
use Rattle.om_colour.specs.declared.Flow.{Flow}
use Rattle.om_io.specs.Lines.{Words}
use Rattle.om_asm.specs.Lines.{word_by, no_more}
use Rattle.om_ring.specs.OptionSteps.{◌>>=◌}
use Rattle.om_asm.specs.Flows.{flow_of, flow_line}

abbrev and_rest : {A : Type 0} → Words → A → Option (A × Words)
and_rest rest y = Some (y, rest)

pub word_again : {A : Type 0} (read : List ℕ → Option A) (w : List ℕ) (x : A) (rest : Words) → read w ≡ Some x → word_by read (w ∷ rest) ≡ and_rest rest x
word_again read w x rest e = ap (λ o. o >>= and_rest rest) e

pub flow_line_again : (w : List ℕ) (x : Flow) → flow_of w ≡ Some x → flow_line (w ∷ []) ≡ Some x
unfolding flow_line
flow_line_again w x e = ap (λ o. o >>= λ f. no_more f.1 >>= λ _. Some f.0) (word_again flow_of w x [] e)
