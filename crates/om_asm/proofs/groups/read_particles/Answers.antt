use Rattle.std.proofs.Common.{codes}
use Rattle.std.specs.Str.{bytes_eq}
use Rattle.om_asm.specs.Reading.{particle_row}
use Rattle.om_asm.proofs.FewRows.{few_answered}
use Rattle.om_asm.proofs.groups.read_particles.Goals as goal

pub returns-clause-few : goal.returns-clause-few
returns-clause-few c = few_answered (λ w. bytes_eq w (codes "particle")) (λ _ words. particle_row words) c.args.lines.now.number c.args.lines.now.lines c.read_list.result c.read_list.new.lines c.read_list.ensures
