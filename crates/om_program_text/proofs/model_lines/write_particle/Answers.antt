use Rattle.std.proofs.Common.{drop}
use Rattle.std.proofs.lemmas.Result.{err_from_is_err_and}
use Rattle.om_program_text.specs.Parts.{particle_parts}
use Rattle.om_io.proofs.Outlets.{steps_break, steps_last}
use Rattle.om_io.proofs.Outlets.Steps.{none, more}
use Rattle.om_program_text.proofs.model_lines.write_particle.Goals as goal

pub returns-in_err-write_names : goal.returns-in_err-write_names
returns-in_err-write_names g c =
    let p = err_from_is_err_and c.from_residual.result c.from_residual.ensures.1 in
    rw p.1 (steps_break (drop 1 (particle_parts c.args.particle.now)) none c.in_err-write_names.ensures)

pub returns-in_err-write_product : goal.returns-in_err-write_product
returns-in_err-write_product g c =
    let p = err_from_is_err_and c.from_residual-in_err-write_product.result c.from_residual-in_err-write_product.ensures.1 in
    rw p.1 (steps_break (drop 2 (particle_parts c.args.particle.now)) (more c.in_ok-write_names.ensures none) c.in_err-write_product.ensures)

pub returns-in_err-write_product-2 : goal.returns-in_err-write_product-2
returns-in_err-write_product-2 g c =
    let p = err_from_is_err_and c.from_residual-in_err-write_product-2.result c.from_residual-in_err-write_product-2.ensures.1 in
    rw p.1 (steps_break (drop 3 (particle_parts c.args.particle.now)) (more c.in_ok-write_names.ensures (more c.in_ok-write_product.ensures none)) c.in_err-write_product-2.ensures)

pub returns-in_err-write_product-3 : goal.returns-in_err-write_product-3
returns-in_err-write_product-3 g c =
    let p = err_from_is_err_and c.from_residual-in_err-write_product-3.result c.from_residual-in_err-write_product-3.ensures.1 in
    rw p.1 (steps_break (drop 4 (particle_parts c.args.particle.now)) (more c.in_ok-write_names.ensures (more c.in_ok-write_product.ensures (more c.in_ok-write_product-2.ensures none))) c.in_err-write_product-3.ensures)

pub returns : goal.returns
returns g c = steps_last _ _ c.write_colour.result (more c.in_ok-write_names.ensures (more c.in_ok-write_product.ensures (more c.in_ok-write_product-2.ensures (more c.in_ok-write_product-3.ensures none)))) c.write_colour.ensures
