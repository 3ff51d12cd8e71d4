use Rattle.std.proofs.Common.{refl}
use Rattle.om_ring.specs.declared.numeral.Numeral.{Numeral}
use Rattle.om_event.proofs.LeadingNumbers.{numeral_ahead}
use Rattle.om_event.proofs.written.any_before.Goals as goal

pub returns-clause-split : goal.returns-clause-split
returns-clause-split c =
    let mark = c.mark_at_front-imag in
    let x : Numeral = record {
      neg = c.args.neg;
      num = c.in_ok-num.num;
      den = c.in_ok-den.den;
      imag = mark.result.0;
      den_positive = c.in_ok-den.ensures.fits.0;
    } in
    numeral_ahead c.args.neg mark.result.0 c.in_ok-num.num c.in_ok-den.den c.args.stop c.args.unsigned.now c.in_ok-num.behind_num.now c.in_ok-den.behind_den.now mark.result.1.now c.in_ok-rest.rest.now x c.in_ok-num.ensures.split c.in_ok-den.ensures.split mark.ensures c.in_ok-rest.ensures refl refl refl refl
