use Rattle.std.proofs.Common.{◌<◌, ◌≤◌, inl, inr, length, refl, sym, ◌∙◌, arith}
use Rattle.std.specs.Prelude.{IfSome}
use Rattle.std.proofs.lemmas.Bool.{cases_lt}
use Rattle.szg_code.specs.Bits.{bits}
use Rattle.szg_block.specs.Block.{block_values}
use Rattle.szg_block.specs.Layout.{Layout}
use Rattle.szg_block.specs.Spelled.{values_spelled}
use Rattle.szg_block.specs.Subtable.{layout_from, layout_of}
use Rattle.szg_block.proofs.BlockValueLaws.{spelled_at}
use Rattle.szg_block.proofs.Spelling.{block_values-spelled}
use Rattle.szg_block.proofs.block_value.value_in_block.Goals.{then-passed, else-passed}
use Rattle.szg_block.proofs.block_value.value_in_block.Goals as goal

pub returns-in-Some-clause-value : goal.returns-in-Some-clause-value
returns-in-Some-clause-value c =
    elim c.if-passed.branch [
      | then-passed w ↦ rw c.in-Pairs.is (sym (spelled_at _ _ _ _ c.args.location.item refl (rw w.new.ensures.left at ((rw (sym w.found-is ∙ c.in-Some.is) at w.find-found.ensures.value) refl))))
      | else-passed w ↦ rw c.in-Pairs.is (sym (spelled_at _ _ _ _ c.args.location.item refl (rw (sym w.found-is ∙ c.in-Some.is) at w.find_verified-found.ensures.value)))
    ]

pub returns-in-Some-clause-verified : goal.returns-in-Some-clause-verified
returns-in-Some-clause-verified c =
    let layout : Layout = layout_from c.in-Pairs.block_bits c.in-Pairs.span_bits c.in-Pairs.extra c.in-Pairs.blocks c.in-Pairs.code c.in-Pairs.dict c.in-Pairs.sparse.items c.in-Pairs.lengths.items in
    elim c.if-passed.branch [
      | then-passed w ↦ inl w.if-passed.true
      | else-passed w ↦
          let enough : c.args.needed ≤ length (values_spelled c.in-Pairs.code c.in-Pairs.dict (bits c.args.block.now)) = rw (sym w.found-is ∙ c.in-Some.is) at w.find_verified-found.ensures.enough in
          let kept : IfSome (layout_of c.args.sub.now) (λ layout. c.args.needed ≤ length (block_values layout c.args.block.now)) = rw (c.in-Pairs.is, block_values-spelled layout c.args.block.now) enough in
          inr kept
    ]

pub returns-in-None-clause-few : goal.returns-in-None-clause-few
returns-in-None-clause-few c =
    let layout : Layout = layout_from c.in-Pairs.block_bits c.in-Pairs.span_bits c.in-Pairs.extra c.in-Pairs.blocks c.in-Pairs.code c.in-Pairs.dict c.in-Pairs.sparse.items c.in-Pairs.lengths.items in
    let fewer : length (values_spelled c.in-Pairs.code c.in-Pairs.dict (bits c.args.block.now)) < c.args.needed = elim c.if-passed.branch [
      | then-passed w ↦ omega (arith, rw (w.new.ensures.left, sym w.found-is ∙ c.in-None.is) at w.find-found.ensures.none, c.requires.within)
      | else-passed w ↦ elim (cases_lt (length (values_spelled c.in-Pairs.code c.in-Pairs.dict (bits c.args.block.now))) c.args.needed) [
        | inl less ↦ less
        | inr more ↦ absurd ((rw (sym w.found-is ∙ c.in-None.is) at w.find_verified-found.ensures.few) more)
      ]
    ] in
    rw (c.in-Pairs.is, block_values-spelled layout c.args.block.now) fewer
