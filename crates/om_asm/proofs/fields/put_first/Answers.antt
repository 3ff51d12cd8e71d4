use Rattle.om_asm.specs.Fields.{named_in}
use Rattle.om_asm.proofs.FirstFields.{name_put, not_there}
use Rattle.om_asm.proofs.fields.put_first.Goals as goal

pub returns-in-Ok : goal.returns-in-Ok
returns-in-Ok c = λ q. name_put c.args.by_name.now c.insert.new.self c.args.name q c.args.field (not_there (named_in c.args.by_name.now c.args.name.now) c.contains_key.result c.contains_key.ensures c.if-contains_key.false) c.in-Ok.ensures.updates
