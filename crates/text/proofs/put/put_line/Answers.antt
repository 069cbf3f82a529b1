use native.Mathlib.Omega.{arith}
use Rattle.text.specs.Lines.{line_of}
use Rattle.text.proofs.Puts.{put_both}
use Rattle.text.proofs.Lines.{line-length}
use Rattle.text.proofs.put.put_line.Goals as goal

pub put_all-first-requires : goal.put_all-first-requires
put_all-first-requires c =
    omega (arith, c.requires, line-length c.args.word.now c.args.numbers.now)

pub put_fields-end-requires : goal.put_fields-end-requires
put_fields-end-requires c =
    omega (arith, c.requires, line-length c.args.word.now c.args.numbers.now, c.put_all-first.ensures.place, c.put_all-first.auto.out)

pub put_byte-requires : goal.put_byte-requires
put_byte-requires c =
    omega (
      arith,
      c.requires,
      line-length c.args.word.now c.args.numbers.now,
      c.put_all-first.ensures.place,
      c.put_all-first.auto.out,
      c.put_fields-end.ensures.place,
      c.put_fields-end.auto.out,
    )

pub returns : goal.returns
unfolding line_of
returns c =
    put_both (omega arith) (put_both (omega arith) c.put_all-first.ensures c.put_fields-end.ensures) c.put_byte.ensures
