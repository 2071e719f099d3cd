use Rattle.std.proofs.Common.{take, arith}
use Rattle.std.proofs.lemmas.List.{length-take}
use Rattle.szg_build.proofs.Readers.HeldLaws.{refill_held}
use Rattle.szg_build.proofs.reading.incoming.Incoming.refill.Goals as goal

pub returns-clause-more : goal.returns-clause-more
returns-clause-more g c = λ some.
    let i = c.args.self.now in
    let got = c.in_ok-got.got in
    let chunk = c.take_once.new.chunk in
    let e = c.in_ok-got.ensures in (
      take got chunk,
      omega (arith, length-take got chunk, e.within),
      omega (arith, e.within, c.min-size.ensures, c.take_once.auto.chunk),
      refill_held i.bytes c.copy_within.new.self chunk i.from i.to got _ c.copy_within.ensures.after (omega (arith, i.ordered, i.within)) e.within,
      record { bytes_gone = e.bytes.0; bytes_moved = e.moved; calls_made = omega (arith, e.calls, length-take got chunk, e.within, some); stays = e.stays },
    )
