use Rattle.std.proofs.Common.{map, arith}
use Rattle.std.specs.Prelude.{string_bytes}
use Rattle.om_top.specs.Command.{eval, write}
use Rattle.om_top.specs.declared.words.TheConstants.{WORD_LIMIT}
use Rattle.om_top.proofs.AskedWords.{short_text}
use Rattle.om_top.proofs.SampleWords.{sample_within}
use Rattle.om_top.proofs.top.perform.Goals as goal

pub eval-requires : goal.eval-requires
eval-requires g c = short_text WORD_LIMIT (omega arith) (eval c.in-Eval.name.now c.in-Eval.process.now) (map (λ w. string_bytes w) c.args.words.now) c.in-Eval.ensures c.requires.short

pub write_named-requires : goal.write_named-requires
write_named-requires g c = short_text WORD_LIMIT (omega arith) (write c.in-Write.written c.in-Write.name.now c.in-Write.process.now) (map (λ w. string_bytes w) c.args.words.now) c.in-Write.ensures c.requires.short

pub sample-requires-clause-fewest : goal.sample-requires-clause-fewest
sample-requires-clause-fewest g c = (sample_within (map (λ w. string_bytes w) c.args.words.now) c.in-Sample.seed c.in-Sample.legs c.in-Sample.ensures).0

pub sample-requires-clause-most : goal.sample-requires-clause-most
sample-requires-clause-most g c = (sample_within (map (λ w. string_bytes w) c.args.words.now) c.in-Sample.seed c.in-Sample.legs c.in-Sample.ensures).1
