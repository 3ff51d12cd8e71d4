use Rattle.std.proofs.Common.{◌≡◌, ◌-◌, ◌≤◌, length}
use Rattle.om_model.specs.Tokens.{rest_tokens, tokens_of}
use Rattle.om_model.specs.ProcessText.{edges_from}
use Rattle.om_model.proofs.FirstFault.{behind}
use Rattle.om_model.proofs.process_text.edges.named_edges.Given as goal

-- the edges so far, and those of the tokens that are left, are all
abbrev pub invariant-loop-token : goal.invariant-loop-token
invariant-loop-token l = record {
  within : l.at ≤ length l.text;
  rest : behind l.edges (edges_from l.legs (rest_tokens l.text l.at)) ≡ edges_from l.legs (tokens_of l.text);
}

abbrev pub decreases-loop-token : goal.decreases-loop-token
decreases-loop-token l = length l.text - l.at
