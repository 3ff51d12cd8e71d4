use Rattle.std.proofs.Common.{◌≡◌, ◌≤◌, length, ap, sym, ◌∙◌, Ok, arith}
use Rattle.om_model.specs.Tokens.{tokens_of}
use Rattle.om_model.specs.ProcessText.{names_of, legs_from, edges_from}
use Rattle.om_model.proofs.LegFields.{legs_are_fields}
use Rattle.om_model.proofs.EdgesNamed.{edges_are_named}
use Rattle.om_model.proofs.process_text.read_process.Goals as goal

pub returns-clause-process : goal.returns-clause-process
returns-clause-process c =
    let legs = c.in_ok-legs.legs in
    let few : length legs ≤ 12 = omega arith in
    let read : legs_from c.args.model.now.particles (names_of c.args.text.now) ≡ Ok legs = ap (λ ps. legs_from ps (names_of c.args.text.now)) (sym c.as_slice.ensures) ∙ c.in_ok-legs.ensures.legs in
    let named : edges_from (length legs) (tokens_of c.args.text.now) ≡ Ok c.in_ok-edges.edges = ap (λ n. edges_from n (tokens_of c.args.text.now)) (sym c.len-2.ensures) ∙ c.in_ok-edges.ensures in
    record {
      least = omega arith;
      most = few;
      fields = legs_are_fields c.args.model.now.particles (names_of c.args.text.now) legs read;
      edges = edges_are_named (length legs) few (tokens_of c.args.text.now) c.in_ok-edges.edges named;
    }
