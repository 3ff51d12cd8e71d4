use Rattle.om_modelfile.proofs.OneFault.{one_answer}
use Rattle.om_modelfile.proofs.laws.one_answer.Goals as goal

pub returns : goal.returns
returns g c = λ bytes a b. one_answer (g.R.Ring.ops c.args._ring.now) bytes a b
