use Rattle.std.proofs.Common.{◌≡◌, ℕ, [], ◌++◌, List, drop, length, refl, sym, ap, ◌∙◌, arith, rules, Vec, Global}
use Rattle.std.specs.Prelude.{IfSome}
use Rattle.szg_code.specs.Acceptance.{IsCode}
use Rattle.std.proofs.lemmas.List.{take-append-drop}
use Rattle.std.proofs.lemmas.Result.{err_from_is_err_and}
use Rattle.szg_block.specs.Block.{start}
use Rattle.szg_file.specs.Format.{means}
use Rattle.szg_block.specs.Subtable.{layout_of}
use Rattle.szg_file.proofs.Readers.BlockReads.{reads_block, reads_block_refused, reads_block_stopped, reads_blocks_more, reads_blocks_stopped, tail_of}
use Rattle.szg_file.proofs.Readers.ReadingLaws.{reads_nothing}
use Rattle.szg_file.proofs.reading.blocks.take_packed.Goals as goal

pub each_block-init : goal.each_block-init
unfolding start
each_block-init g c = record {
  read = rw c.in-Pairs.is (reads_nothing (means []) (λ (packed : Vec ℕ Global). packed.items) c.new-packed.result (ap (λ (l : List ℕ). means l) (sym c.new-packed.ensures.items)));
  before = rw c.in-Pairs.is refl;
  few = omega arith;
  place = omega arith;
  growth = omega arith;
  grown = omega (arith, ap length c.new-packed.ensures.items);
}

pub returns-in_err-take_more-clause-blocks : goal.returns-in_err-take_more-clause-blocks
returns-in_err-take_more-clause-blocks g c =
    let p = err_from_is_err_and c.from_residual.result c.from_residual.ensures.1 in
    let fault = c.in_err-take_more.field-0.0 in
    let read = rw c.in-Pairs.is at c.each_block.invariant.read in
    let block = rw c.in-Pairs.is at (reads_block_stopped (layout_of c.args.sub.now) c.args.size c.each_block.n c.block_bytes.result _ (λ (_ : Unit {0}). []) fault c.block_bytes.ensures.bytes c.in_err-take_more.ensures.field) in
    rw (c.in-Pairs.is, p.1, p.2) (reads_blocks_stopped _ c.args.size c.each_block.n (λ (packed : Vec ℕ Global). packed.items) _ (λ (packed : Vec ℕ Global). packed.items) c.each_block.packed fault c.each_block-test.true read block)

pub returns-in_default-check_block_from-clause-blocks : goal.returns-in_default-check_block_from-clause-blocks
returns-in_default-check_block_from-clause-blocks g c =
    let old = c.each_block.packed.items in
    let new = c.take_more.new.list.items in
    let chunk = tail_of old new c.deref.result.now c.len-at.result (search rules) c.deref.ensures.value in
    let lacks = rw chunk at c.in_default-check_block_from.ensures.fault.1 in
    let read = rw c.in-Pairs.is at c.each_block.invariant.read in
    let block = rw c.in-Pairs.is at (reads_block_refused (layout_of c.args.sub.now) c.args.size c.each_block.n c.block_bytes.result (drop (length old) new) (λ (_ : Unit {0}). []) c.block_bytes.ensures.bytes lacks c.in_ok-take_more.ensures.field) in
    rw c.in-Pairs.is (reads_blocks_stopped _ c.args.size c.each_block.n (λ (packed : Vec ℕ Global). packed.items) _ (λ (packed : Vec ℕ Global). packed.items) c.each_block.packed _ c.each_block-test.true read block)

pub each_block-preserved : goal.each_block-preserved
each_block-preserved g c =
    let old = c.each_block.packed.items in
    let new = c.take_more.new.list.items in
    let code : IfSome (layout_of c.args.sub.now) (λ layout. IsCode layout.code) = rw c.in-Pairs.is c.code_fits.ensures in
    let chunk = tail_of old new c.deref.result.now c.len-at.result (search rules) c.deref.ensures.value in
    let spells = rw chunk at c.in-Ok.ensures.ok in
    let read = rw c.in-Pairs.is at c.each_block.invariant.read in
    let block = rw c.in-Pairs.is at (reads_block (layout_of c.args.sub.now) c.args.size c.each_block.n c.block_bytes.result (drop (length old) new) code c.block_bytes.ensures.bytes spells c.in_ok-take_more.ensures.field) in
    let grown : new ≡ old ++ drop (length old) new = sym (take-append-drop (length old) new) ∙ ap (λ (z : List ℕ). z ++ drop (length old) new) c.in_ok-take_more.ensures.kept in
    let step = rw c.deref-in-each_block.ensures.value at c.values_in-before.ensures.next in
    let before = rw c.in-Pairs.is at c.each_block.invariant.before in
    record {
      read = rw c.in-Pairs.is (reads_blocks_more _ c.args.size c.each_block.n (λ (packed : Vec ℕ Global). packed.items) _ (λ (packed : Vec ℕ Global). packed.items) c.each_block.packed _ c.take_more.new.list grown read block);
      before = rw c.in-Pairs.is (omega (arith, step, before));
      few = omega (arith, c.each_block.invariant.few, c.values_in-before.ensures.few);
      place = omega (arith, c.each_block.invariant.place, c.in_ok-take_more.ensures.place, c.block_bytes.ensures.most);
      growth = omega (arith, c.each_block.invariant.growth, c.in_ok-take_more.ensures.growth, c.in_ok-take_more.ensures.place);
      grown = omega (arith, c.each_block.invariant.grown, c.in_ok-take_more.ensures.grown);
    }
