-- The lines of flows: what is read is what stands there.
use Rattle.std.proofs.Common.{◌≡◌, ℕ, List, ◌∷◌, codes, Some, sym, ap, ap₂, subst, ◌∙◌}
use Rattle.om_colour.specs.declared.Flow.{Flow}
use Rattle.om_io.specs.Lines.{Words}
use Rattle.om_program_text.specs.ProgramText.{flow_words}
use Rattle.om_asm.specs.Lines.{word_by, no_more}
use Rattle.om_ring.specs.OptionSteps.{◌>>=◌}
use Rattle.om_asm.specs.Flows.{flow_of, flow_line}
use Rattle.om_asm.proofs.WordLaws.{bind_some, ended}
use Rattle.om_asm.proofs.ModelWords.{IsReadableFlow, flow_spells}
use Rattle.om_asm.proofs.ModelLaws.{by_word}

pub flow_found : (words : Words) (w : Flow) → flow_line words ≡ Some w → (codes "flow" ∷ words ≡ flow_words w) × IsReadableFlow w
unfolding flow_line
flow_found words w e =
    let b = bind_some (word_by flow_of words) (λ f. no_more f.1 >>= λ _. Some f.0) w e in
    let a = by_word flow_of words b.0 b.1 in
    let n = ended b.0.1 (λ _. Some b.0.0) w b.2 in
    let l = flow_spells a.0 b.0.0 a.2 in
    let same : b.0.0 ≡ w = let h = n.1 in cc in
    subst (λ (z : Flow). (codes "flow" ∷ words ≡ flow_words z) × IsReadableFlow z) same
    (ap (λ (ws : Words). codes "flow" ∷ ws) (a.1 ∙ ap₂ (λ (v : List ℕ) (vs : Words). v ∷ vs) (sym l.0) n.0), l.1)
