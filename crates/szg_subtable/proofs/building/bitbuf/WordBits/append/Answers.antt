use Rattle.szg_subtable.proofs.Builders.WordBits.{waiting_more, appended_short, appended_long, whole_fits}
use Rattle.std.proofs.Common.{List, ◌++◌, ℕ, ap, ◌∙◌, arith}
use Rattle.szg_subtable.proofs.building.bitbuf.WordBits.append.Goals as goal

pub invariant_of-self : goal.invariant_of-self
invariant_of-self c =
    let i = c.self.inside in
    waiting_more i.bytes.items i.count i.waiting c.from-length.result c.from.result c.args.word.length c.args.word.number c.self.invariant c.from-length.ensures c.from.ensures c.requires.short c.requires.spelled c.if-count-lt32.true

pub returns-then-count-lt32 : goal.returns-then-count-lt32
returns-then-count-lt32 c =
    let i = c.self.inside in
    appended_short i.bytes.items i.count i.waiting c.from-length.result c.from.result c.args.word.length c.args.word.number c.args.self.now c.self.view_is c.self.invariant c.from-length.ensures c.from.ensures c.requires.short c.requires.spelled

pub overflow_cast-whole : goal.overflow_cast-whole
overflow_cast-whole c =
    let i = c.self.inside in
    omega (arith, whole_fits i.bytes.items i.count i.waiting c.from-length.result c.from.result c.args.word.length c.args.word.number c.self.invariant c.from-length.ensures c.from.ensures c.requires.short c.requires.spelled c.if-count-lt32.false)

pub returns : goal.returns
returns c =
    let i = c.self.inside in
    appended_long i.bytes.items c.extend_from_slice.new.self.items i.count i.waiting c.from-length.result c.from.result c.args.word.length c.args.word.number c.args.self.now c.self.view_is c.self.invariant c.from-length.ensures c.from.ensures
    c.requires.short c.requires.spelled c.if-count-lt32.false (c.in_ok-extend_from_slice.ensures.items ∙ ap (λ (z : List ℕ). i.bytes.items ++ z) c.to_be_bytes.ensures)
