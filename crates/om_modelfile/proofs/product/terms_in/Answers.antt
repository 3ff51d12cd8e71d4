use Rattle.std.proofs.Common.{lit<, sym, ap, Ok}
use Rattle.std.proofs.lemmas.Iterator.Consumers.{map_from_collect}
use Rattle.std.proofs.lemmas.Iterator.Splits.{YieldsList-from_str_split}
use Rattle.om_modelfile.proofs.product.terms_in.Goals as goal

pub returns-in-Ok : goal.returns-in-Ok
returns-in-Ok c =
    let pieces = map_from_collect c.collect.result c.collect.ensures.ran (YieldsList-from_str_split 42 c.args.text.now (lit< tt) c.split.ensures.text c.split.ensures.has_more c.split.ensures.pattern) in
    ap Ok (sym (rw c.in-Ok.is at pieces))
