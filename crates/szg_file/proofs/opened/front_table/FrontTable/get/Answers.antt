use Rattle.std.proofs.Common.{◌≡◌, ℕ, ◌∙◌, take, drop, ap, arith}
use Rattle.szg_block.specs.BlocksTrait.{bytes_at}
use Rattle.szg_file.specs.Unread.{front_at}
use Rattle.szg_file.specs.Wanted.{wanted_block}
use Rattle.szg_file.specs.declared.opened.fetching.ByteRange.{ByteRange}
use Rattle.szg_file.proofs.Openings.FrontFinds.{given_wanted, none_wanted, ok_both, err_both, some_wanted}
use Rattle.szg_file.proofs.Openings.LocatedLaws.{fault_of, value_of, wanted_of}
use Rattle.szg_file.proofs.opened.front_table.FrontTable.get.Goals as goal

pub returns-in_default-clause-value : goal.returns-in_default-clause-value
returns-in_default-clause-value c = λ h.
    let bytes = c.args.bytes.now in let at = c.locate-located.result in let e = c.locate-located.ensures in let r = c.decode.result in
    let o = front_at c.args.self.now.index.material c.args.self.now.index.kind bytes c.args.part c.args.side in
    let none = none_wanted o (λ found. wanted_block found.1 c.args.i) c.range.result _ _ c.in_default.is (wanted_of at _ e c.range.result c.range.ensures.wanted bytes h) in
    ok_both r _ _ _ c.decode.ensures.value c.decode.ensures.value (λ value decoded again. given_wanted o _ _ none (value_of at _ e _ value decoded bytes h))

pub returns-in_default-clause-fault : goal.returns-in_default-clause-fault
returns-in_default-clause-fault c = λ h.
    let bytes = c.args.bytes.now in let at = c.locate-located.result in let e = c.locate-located.ensures in let r = c.decode.result in
    let o = front_at c.args.self.now.index.material c.args.self.now.index.kind bytes c.args.part c.args.side in
    let none = none_wanted o (λ found. wanted_block found.1 c.args.i) c.range.result _ _ c.in_default.is (wanted_of at _ e c.range.result c.range.ensures.wanted bytes h) in
    err_both r _ _ _ c.decode.ensures.fault c.decode.ensures.fault (λ fault named again. given_wanted o _ _ none (fault_of at _ e _ fault named bytes h))

pub returns-clause-value : goal.returns-clause-value
returns-clause-value c = λ h.
    let bytes = c.args.bytes.now in let at = c.locate-located.result in let e = c.locate-located.ensures in let r = c.decode-2.result in
    let o = front_at c.args.self.now.index.material c.args.self.now.index.kind bytes c.args.part c.args.side in
    let there : c.in-Some-get.block.now ≡ bytes_at bytes c.in-Some.range.offset c.in-Some.range.count =
    c.in-Some-get.ensures.lookup.0.2 ∙ ap (λ (n : ℕ). take n (drop c.in-Some.range.offset bytes)) (omega arith) in
    let some = some_wanted o (λ found. wanted_block found.1 c.args.i) c.range.result c.in-Some.range (λ (w : ByteRange). bytes_at bytes w.offset w.count) c.in-Some-get.block.now c.in-Some.is there
    (wanted_of at _ e c.range.result c.range.ensures.wanted bytes h) in
    ok_both r _ _ _ c.decode-2.ensures.value c.decode-2.ensures.value (λ value decoded again. given_wanted o _ _ some (value_of at _ e _ value decoded bytes h))

pub returns-clause-fault : goal.returns-clause-fault
returns-clause-fault c = λ h.
    let bytes = c.args.bytes.now in let at = c.locate-located.result in let e = c.locate-located.ensures in let r = c.decode-2.result in
    let o = front_at c.args.self.now.index.material c.args.self.now.index.kind bytes c.args.part c.args.side in
    let there : c.in-Some-get.block.now ≡ bytes_at bytes c.in-Some.range.offset c.in-Some.range.count =
    c.in-Some-get.ensures.lookup.0.2 ∙ ap (λ (n : ℕ). take n (drop c.in-Some.range.offset bytes)) (omega arith) in
    let some = some_wanted o (λ found. wanted_block found.1 c.args.i) c.range.result c.in-Some.range (λ (w : ByteRange). bytes_at bytes w.offset w.count) c.in-Some-get.block.now c.in-Some.is there
    (wanted_of at _ e c.range.result c.range.ensures.wanted bytes h) in
    err_both r _ _ _ c.decode-2.ensures.fault c.decode-2.ensures.fault (λ fault named again. given_wanted o _ _ some (fault_of at _ e _ fault named bytes h))
