-- What the lines through diagrams of colourless scalars give.
use Rattle.std.specs.Prelude.{ℕ, List, false}
use Rattle.om_colour.specs.Partials.{each_leg}
use Rattle.om_model.specs.Lines.{Lines}

-- no colour line starts at any leg
abbrev pub no_flow : List ℕ
no_flow = each_leg (λ k. 0)

-- each sign is plus, and no diagram has a colour line
abbrev pub no_lines : Lines
no_lines = record { is_odd = λ t. false; flow = λ t. no_flow }
