use mathlib.Core.Path.{ap}
use native.Mathlib.Omega.{arith}
use lib.ListN.{length}
use Rattle.text.proofs.Puts.{put_both}
use Rattle.text.proofs.Decimals.{decimal-one, decimal-more, decimal-longer}
use Rattle.text.proofs.put.+put_decimal.Goals as goal

pub put_byte-requires : goal.put_byte-requires
put_byte-requires t c = omega (arith, c.requires, ap length (decimal-one c.args.n c.if-n-lt10.true))

pub returns-then-n-lt10 : goal.returns-then-n-lt10
returns-then-n-lt10 t c = rw (decimal-one c.args.n c.if-n-lt10.true) c.put_byte.ensures

pub put_decimal-last-requires : goal.put_decimal-last-requires
put_decimal-last-requires t c = (omega arith, omega (arith, c.requires, decimal-longer c.args.n c.if-n-lt10.false))

pub put_byte-requires-2 : goal.put_byte-requires-2
put_byte-requires-2 t c =
    omega (arith, c.requires, c.put_decimal-last.ensures.place, decimal-longer c.args.n c.if-n-lt10.false, c.put_decimal-last.auto.out)

pub returns : goal.returns
returns t c =
    rw (decimal-more c.args.n c.if-n-lt10.false)
    (put_both (omega (arith, c.requires)) c.put_decimal-last.ensures c.put_byte-2.ensures)
