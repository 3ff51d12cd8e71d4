use Rattle.std.proofs.Common.{◌∙◌, arith, length-set}
use Rattle.om_program_text.proofs.SpeltNumbers.{spelt_more, spelt_end}
use Rattle.om_program_text.proofs.spellings.spell.Goals as goal

pub loop-k-preserved : goal.loop-k-preserved
loop-k-preserved c = record {
  same = length-set c.loop-k.numbers c.loop-k.k c.spelling_of.result ∙ c.loop-k.invariant.same;
  spelt = spelt_more c.loop-k.numbers c.loop-k.k c.spelling_of.result (omega (arith, c.loop-k.invariant.same, c.requires.within)) c.loop-k.invariant.spelt (record { text = c.spelling_of.ensures.text; short = c.spelling_of.ensures.short });
}

pub returns-clause-spelt : goal.returns-clause-spelt
returns-clause-spelt c = spelt_end c.args.count c.loop-k.k c.loop-k.numbers (omega arith) c.loop-k.invariant.spelt
