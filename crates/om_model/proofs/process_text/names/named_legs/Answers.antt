use Rattle.std.proofs.Common.{◌≡◌, ◌++◌, ◌∷◌, [], sym, ◌∙◌, ap, arith, length, length-append, true, false, ◌||◌, slice_range}
use Rattle.om_model.specs.Name.{is_name}
use Rattle.om_model.specs.Tokens.{IsNextToken, rest_tokens}
use Rattle.om_model.specs.ProcessText.{names_from, legs_from}
use Rattle.om_model.proofs.FirstFault.{behind}
use Rattle.om_model.proofs.NamedLegs.{legs-other, legs-unknown, legs-known, legs-end}
use Rattle.om_model.proofs.process_text.names.named_legs.Goals as goal

pub returns-in_default-field_named-clause-legs : goal.returns-in_default-field_named-clause-legs
returns-in_default-field_named-clause-legs c =
    let next : IsNextToken c.args.text.now c.loop-token.at c.in-Some.token.start c.in-Some.token.end = c.in-Some.ensures in
    let named : is_name (slice_range c.args.text.now c.in-Some.token.start c.in-Some.token.end) ≡ true = sym c.if-is_name.ensures in
    sym c.loop-token.invariant.rest ∙ legs-unknown _ _ _ _ _ _ next.tokens named c.in_default-field_named.ensures

pub loop-token-preserved-in-Ok : goal.loop-token-preserved-in-Ok
loop-token-preserved-in-Ok c =
    let next : IsNextToken c.args.text.now c.loop-token.at c.in-Some.token.start c.in-Some.token.end = c.in-Some.ensures in
    let named : is_name (slice_range c.args.text.now c.in-Some.token.start c.in-Some.token.end) ≡ true = sym c.if-is_name.ensures in
    let known = legs-known c.args.particles.now c.loop-token.legs c.loop-token.outgoing _ _ _ next.tokens _ named c.in-Some-field_named.ensures in
    let pushed = c.in-Ok.ensures.ok ∙ ap (λ leg. c.loop-token.legs ++ leg ∷ []) c.leg_of.ensures in
    record {
      within = next.ends;
      few = omega (arith, c.loop-token.invariant.few, next.begins, next.has_bytes, ap length c.in-Ok.ensures.ok, length-append c.loop-token.legs (c.leg_of.result ∷ []));
      rest = ap (λ legs. behind legs (legs_from c.args.particles.now (names_from c.loop-token.outgoing (rest_tokens c.args.text.now c.in-Some.token.end)))) pushed ∙ sym known ∙ c.loop-token.invariant.rest;
    }

pub loop-token-preserved : goal.loop-token-preserved
loop-token-preserved c =
    let next : IsNextToken c.args.text.now c.loop-token.at c.in-Some.token.start c.in-Some.token.end = c.in-Some.ensures in
    let other : is_name (slice_range c.args.text.now c.in-Some.token.start c.in-Some.token.end) ≡ false = sym c.if-is_name.ensures in
    let passed = legs-other c.args.particles.now c.loop-token.legs c.loop-token.outgoing _ _ _ next.tokens other in
    record {
      within = next.ends;
      few = omega (arith, c.loop-token.invariant.few, next.begins, next.has_bytes);
      rest = ap (λ b. behind c.loop-token.legs (legs_from c.args.particles.now (names_from (c.loop-token.outgoing || b) (rest_tokens c.args.text.now c.in-Some.token.end)))) c.eq-outgoing.ensures
          ∙ sym passed ∙ c.loop-token.invariant.rest;
    }

pub returns-clause-legs : goal.returns-clause-legs
returns-clause-legs c = sym c.loop-token.invariant.rest ∙ legs-end _ _ _ _ c.in_default.ensures
