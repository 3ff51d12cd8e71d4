-- What the code of a graph gives, and how many slots it has.
use Rattle.std.proofs.Common.{◌≡◌, ◌≤◌, length, map, sym, ◌∙◌, ap, subst}
use Rattle.om_code.specs.Spans.{width}
use Rattle.om_code.specs.SlotPlans.{first_fit, slots_used}
use Rattle.om_code.specs.Registers.{run, start}
use Rattle.om_code.specs.Ops.{step_of}
use Rattle.om_emit.specs.GraphCode.{register_lines}
use Rattle.om_emit.specs.Laws.{CodeGivesSums, CodesHaveFewestSlots}
use Rattle.om_code.proofs.SpanFacts.{width_needed}
use Rattle.om_code.proofs.FirstFit.{first_fit-narrow}
use Rattle.om_emit.proofs.GraphCode.{graph_code_gives_sums}

pub code_gives_sums : {W S : Type 0} (plus : W → W → W) → CodeGivesSums W S plus
code_gives_sums plus blank sums m model process graph code wave c built waves =
    let lines = register_lines model (length process.legs) graph in
    ap (λ xs. (run plus (map (step_of m) xs) (start blank sums)).sums) c.instrs
    ∙ graph_code_gives_sums plus blank sums m model (length process.legs) graph wave (first_fit lines) built waves (first_fit-narrow lines).plan

pub codes_have_fewest_slots : CodesHaveFewestSlots
codes_have_fewest_slots model process graph code c =
    let lines = register_lines model (length process.legs) graph in
    let e : code.slots ≡ width lines = c.slots ∙ (first_fit-narrow lines).used in
    record { width = e; fewest = λ plan p. subst (λ n. n ≤ slots_used lines plan) (sym e) (width_needed lines plan p) }
