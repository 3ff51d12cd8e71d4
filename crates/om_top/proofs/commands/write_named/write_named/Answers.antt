use Rattle.std.proofs.Common.{subst, sym}
use Rattle.om_code.specs.Plain.{IsPlain}
use Rattle.om_code.specs.declared.code.Code.{Code}
use Rattle.om_emit.specs.GraphCode.{IsCodeOf}
use Rattle.om_top.proofs.Files.{formed}
use Rattle.om_top.proofs.commands.write_named.write_named.Goals as goal

pub emit-requires-clause-accepted : goal.emit-requires-clause-accepted
emit-requires-clause-accepted g c = formed (g.R.Ring.ops c.args.ring.now) c.in-Ok.named.model c.in-Ok.ensures.named.model.2.says.1

pub write_code-requires : goal.write_code-requires
write_code-requires g c = subst (λ (x : Code). IsPlain x) (sym c.code-code.ensures.code) c.code-code.ensures.verified.plain

pub returns-in-Ok-write_code-clause-ran : goal.returns-in-Ok-write_code-clause-ran
returns-in-Ok-write_code-clause-ran g c =
    let named = c.in-Ok.ensures.named in
    let x = c.in-Ok.named in
    let is_code = subst (λ (code : Code). IsCodeOf x.model x.process x.graph code) (sym c.code-code.ensures.code) c.in-Ok-emit.ensures.code in
    (x.model, named.model, (x.process, named.process, (x.graph, named.graph, rw c.in-Program.is (named.fits, c.code-code.result.now, is_code, c.read_range.ensures, c.in-Ok-write_code.ensures.ok))))

pub returns-in-Program-clause-ran : goal.returns-in-Program-clause-ran
returns-in-Program-clause-ran g c =
    let named = c.in-Ok.ensures.named in
    let x = c.in-Ok.named in
    let is_code = subst (λ (code : Code). IsCodeOf x.model x.process x.graph code) (sym c.code-code.ensures.code) c.in-Ok-emit.ensures.code in
    let wrote = c.in-Err-write_code.ensures in
    (x.model, named.model, (x.process, named.process, (x.graph, named.graph, rw c.in-Program.is (named.fits, c.code-code.result.now, is_code, c.read_range.ensures, (wrote.cause.failed, wrote.err)))))
