use Rattle.std.proofs.Common.{ℕ, ◌≡◌, ◌+◌, List, length, take, ap, sym, ◌∙◌, arith, rules, length-take}
use Rattle.szg_code.specs.Bits.{bits}
use Rattle.szg_block.specs.Block.{needed}
use Rattle.szg_block.specs.Spelled.{values_spelled}
use Rattle.szg_block.specs.Subtable.{layout_from}
use Rattle.szg_block.proofs.Parts.{spelled_needed}
use Rattle.szg_block.proofs.Spelling.{block_values-spelled}
use Rattle.szg_block.proofs.Written.{rest_room, rest_written, kept_first}
use Rattle.szg_block.proofs.decode_block.Goals as goal

pub write_values-requires-clause-within : goal.write_values-requires-clause-within
write_values-requires-clause-within c =
    let layout = layout_from c.in-Pairs.block_bits c.in-Pairs.span_bits c.in-Pairs.extra c.in-Pairs.blocks c.in-Pairs.code c.in-Pairs.dict c.in-Pairs.sparse.items c.in-Pairs.lengths.items in
    let needs = rw c.in-Pairs.is at c.needed_in-needed.ensures.needed in
    let spelled = rw c.in-Pairs.is at c.requires.spelled in
    let long : length c.deref_mut.result.now ≡ c.len-first.result + c.needed_in-needed.result = search rules in
    let room = rest_room c.len-first.result c.needed_in-needed.result c.deref_mut.result.now long in
    omega (arith, needs, room, spelled_needed layout c.args.size c.args.n c.args.block.now c.symbols.ensures.accepted spelled)

pub returns : goal.returns
returns c =
    let layout = layout_from c.in-Pairs.block_bits c.in-Pairs.span_bits c.in-Pairs.extra c.in-Pairs.blocks c.in-Pairs.code c.in-Pairs.dict c.in-Pairs.sparse.items c.in-Pairs.lengths.items in
    let needs = rw c.in-Pairs.is at c.needed_in-needed.ensures.needed in
    let spells = rw c.in-Pairs.is at c.requires.spelled in
    let before : List ℕ = c.deref_mut.result.now in
    let new : List ℕ = c.write_values.new.values in
    let old : List ℕ = c.args.values.now.items in
    let first : ℕ = c.len-first.result in
    let count : ℕ = c.needed_in-needed.result in
    let spelled : List ℕ = values_spelled c.in-Pairs.code c.in-Pairs.dict (bits c.args.block.now) in
    let enough = spelled_needed layout c.args.size c.args.n c.args.block.now c.symbols.ensures.accepted spells in
    let long : length before ≡ first + count = search rules in
    let there : length old ≡ first = search rules in
    let whole : c.resize.new.self.len ≡ first + count = search rules in
    let room = rest_room first count before long in
    let kept = kept_first before old first count _ (c.deref_mut.ensures.value ∙ c.in_ok-resize.ensures.items) there in
    let written : new ≡ take count spelled = c.write_values.ensures ∙ ap (λ k. take k spelled) room in
    let sized : length new ≡ count = omega (arith, ap (λ u. length u) written, length-take count spelled, needs, enough) in
    let values = written ∙ ap (λ k. take k spelled) needs ∙ ap (λ u. take (needed c.in-Pairs.lengths.items c.args.size c.args.n) u) (sym (block_values-spelled layout c.args.block.now)) in
    rw c.in-Pairs.is (rest_written before new _ old _ first count c.resize.new.self.len long sized whole kept values)
