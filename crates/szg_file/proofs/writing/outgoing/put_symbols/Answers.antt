use Rattle.std.proofs.Common.{ℕ, List, [], ◌∷◌, sym, arith}
use Rattle.std.proofs.lemmas.Result.{err_from_is_err_and}
use Rattle.std.proofs.lemmas.Option.{get_or_from_slice_get}
use Rattle.szg_file.specs.FileOf.{Section, written}
use Rattle.szg_file.proofs.Writers.WritingLaws.{writes_item, writes_item_stopped, writes_all, writes_same, Same-items}
use Rattle.szg_file.proofs.writing.outgoing.put_symbols.Goals as goal

abbrev entry_section : List ℕ → List Section
entry_section entry = written entry ∷ []

pub symbols-preserved : goal.symbols-preserved
symbols-preserved g c =
    writes_item entry_section c.args.dict.now c.symbols.symbol c.entry.result c.in_ok-put.field-0
    (omega (arith, c.symbols-test.true, c.symbols-symbol-end.ensures.number)) (sym (get_or_from_slice_get c.args.dict.now c.symbols.symbol c.entry.result c.entry.result c.entry.ensures)) c.symbols.invariant c.in_ok-put.ensures

pub returns-in_err-put : goal.returns-in_err-put
returns-in_err-put g c =
    let p = err_from_is_err_and c.from_residual.result c.from_residual.ensures.1 in
    rw (p.1, p.2) (writes_same (Same-items (λ (entry : List ℕ). entry) c.args.dict.now)
    (writes_item_stopped entry_section c.args.dict.now c.symbols.symbol c.entry.result c.in_err-put.field-0.0
    (omega (arith, c.symbols-test.true, c.symbols-symbol-end.ensures.number)) (sym (get_or_from_slice_get c.args.dict.now c.symbols.symbol c.entry.result c.entry.result c.entry.ensures)) c.symbols.invariant c.in_err-put.ensures))

pub returns : goal.returns
returns g c =
    writes_same (Same-items (λ (entry : List ℕ). entry) c.args.dict.now)
    (writes_all entry_section c.args.dict.now c.symbols.symbol (omega (arith, c.symbols-test.false, c.symbols-symbol-end.ensures.number)) c.symbols.invariant)
