use Rattle.std.proofs.Common.{ℕ, ap, ◌∙◌, arith}
use Rattle.std.proofs.Math.Nat.{pos_of_ne-zero}
use Rattle.szg_subtable.proofs.Builders.WordBits.{held, held_none, last_fits, moved, moved_few, moved_whole}
use Rattle.szg_subtable.proofs.building.bitbuf.WordBits.move_to.Goals as goal

pub returns-then-self-eq0-clause-few : goal.returns-then-self-eq0-clause-few
returns-then-self-eq0-clause-few c =
    let i = c.self.inside in
    omega (arith, c.len-whole.ensures, moved_whole i.bytes.items i.count i.waiting c.args.self.now c.self.view_is c.self.invariant c.if-self-eq0.true)

pub returns-then-self-eq0-clause-empty : goal.returns-then-self-eq0-clause-empty
returns-then-self-eq0-clause-empty c =
    let i = c.self.inside in
    ap (λ (k : ℕ). held c.clear.new.self.items k i.waiting) c.if-self-eq0.true ∙ held_none c.clear.new.self.items i.waiting c.clear.ensures.items

pub overflow_cast-last : goal.overflow_cast-last
overflow_cast-last c = omega (arith, last_fits c.self.inside.bytes.items c.self.inside.count c.self.inside.waiting c.self.invariant)

pub returns-clause-bytes : goal.returns-clause-bytes
returns-clause-bytes c =
    let i = c.self.inside in
    moved i.bytes.items c.args.packed.now.items c.extend_from_slice.new.self.items c.extend_from_slice-2.new.self.items c.deref.result.now c.to_be_bytes.result i.count i.waiting c.len-whole.result c.args.self.now
    c.self.view_is c.self.invariant (omega (arith, c.len-whole.ensures)) c.deref.ensures.value c.in_ok-extend_from_slice.ensures.items c.to_be_bytes.ensures c.in_ok-extend_from_slice-2.ensures.items

pub returns-clause-few : goal.returns-clause-few
returns-clause-few c =
    let i = c.self.inside in
    omega (arith, c.len-whole.ensures, moved_few i.bytes.items i.count i.waiting c.args.self.now c.self.view_is c.self.invariant (pos_of_ne-zero c.if-self-eq0.false))

pub returns-clause-empty : goal.returns-clause-empty
returns-clause-empty c = held_none c.clear.new.self.items 0 c.clear.ensures.items
