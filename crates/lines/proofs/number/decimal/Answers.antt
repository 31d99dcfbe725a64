use Rattle.std.proofs.Common.{◌<◌, arith}
use Rattle.lines.proofs.Decimals.{begins, goes_on, ends, fits_less, not_first}
use Rattle.lines.proofs.number.decimal.Goals as goal

pub loop-rest-init : goal.loop-rest-init
loop-rest-init c = record {
  in_range = omega arith;
  fits = omega arith;
  digits = begins c.args.n c.args.text.now (omega arith);
}

pub loop-rest-preserved : goal.loop-rest-preserved
loop-rest-preserved c =
    let some : 0 < c.loop-rest.i = not_first c.loop-rest.i c.loop-rest.rest c.loop-rest-test.true c.loop-rest.invariant.fits in
    record {
      in_range = omega arith;
      fits = fits_less c.loop-rest.i c.loop-rest.rest some c.loop-rest.invariant.fits;
      digits = goes_on c.loop-rest.i c.loop-rest.rest c.loop-rest.text _ some (omega arith) c.loop-rest-test.true c.loop-rest.invariant.digits;
    }

pub returns-clause-digits : goal.returns-clause-digits
returns-clause-digits c = ends c.loop-rest.i c.loop-rest.rest c.loop-rest.text _ (omega arith) c.loop-rest-test.false c.loop-rest.invariant.digits
