use Rattle.std.proofs.Common.{◌+◌, ◌-◌, ◌++◌, [], ◌∷◌, ℕ, map, ap, refl, sym, arith}
use Rattle.std.proofs.lemmas.Result.{err_from_is_err_and}
use Rattle.szg_build.specs.Grammar.{value, repeated, number_line}
use Rattle.szg_build.proofs.Readers.GoingLaws.{items_begun, item_more, item_stopped, items_ended, goes_unheld, reads_fault, reads_seen}
use Rattle.szg_build.proofs.Writers.ItemLaws.{one_more}
use Rattle.szg_build.proofs.Readers.LackLaws.{lacks_left}
use Rattle.szg_build.proofs.Readers.LeastLaws.{asks_number, asks_repeated}
use Rattle.szg_build.proofs.Readers.ReadingLaws.{passed_on, reads_as}
use Rattle.szg_build.proofs.Readers.SayingLaws.{item_front}
use Rattle.szg_build.proofs.reading.read_items.Goals as goal

pub items-init : goal.items-init
items-init g c = (
  items_begun (number_line (value ∷ []) g.T.Item.GREATEST) (map g.T.Item.number c.new-list.result.items) c.args.count (c.args.count - 0) (ap (map g.T.Item.number) c.new-list.ensures.items) (omega arith),
  omega (arith, c.requires.held),
)

pub returns-in_err-number-clause-lines : goal.returns-in_err-number-clause-lines
returns-in_err-number-clause-lines g c =
    let p = err_from_is_err_and c.from_residual.result c.from_residual.ensures.1 in
    let line = number_line (value ∷ []) g.T.Item.GREATEST in
    let read = map g.T.Item.number c.items.list.items in
    rw (p.1, p.2) (item_stopped line read (c.args.count - c.items.i) (c.args.count - (c.items.i + 1)) g.T.Item.number (λ list. map g.T.Item.number list.items) c.in_err-number.field-0.0 (omega (arith, c.items-test.true))
    c.items.invariant.0 (reads_fault {n' = c.read_number.new.incoming} c.in_err-number.field-0.0 (reads_as (ap (number_line (value ∷ [])) (sym c.GREATEST.ensures)) (c.in_err-number.ensures.lines (value ∷ []) item_front))))

pub returns-in_err-push-clause-lines : goal.returns-in_err-push-clause-lines
returns-in_err-push-clause-lines g c =
    let p = err_from_is_err_and c.from_residual-in_err-push.result c.from_residual-in_err-push.ensures.1 in
    let line = number_line (value ∷ []) g.T.Item.GREATEST in
    let read = map g.T.Item.number c.items.list.items in
    rw (p.1, p.2) (goes_unheld (λ list. map g.T.Item.number list.items)
    (item_more line read (read ++ g.T.Item.number c.of.result ∷ []) (c.args.count - c.items.i) (c.args.count - (c.items.i + 1)) g.T.Item.number c.of.result (omega (arith, c.items-test.true)) refl
    c.items.invariant.0 (reads_seen (reads_as (ap (number_line (value ∷ [])) (sym c.GREATEST.ensures)) (c.in_ok-number.ensures.lines (value ∷ []) item_front)) (sym c.of.ensures))))

pub items-preserved : goal.items-preserved
items-preserved g c =
    let number = g.T.Item.number in
    let before = c.items.list.items in
    let after = c.push.new.self.items in (
      item_more (number_line (value ∷ []) g.T.Item.GREATEST) (map number before) (map number after) (c.args.count - c.items.i) (c.args.count - (c.items.i + 1)) number c.of.result (omega (arith, c.items-test.true))
          (one_more number before after c.of.result c.in_ok-push.ensures.items)
          c.items.invariant.0 (reads_seen (reads_as (ap (number_line (value ∷ [])) (sym c.GREATEST.ensures)) (c.in_ok-number.ensures.lines (value ∷ []) item_front)) (sym c.of.ensures)),
      omega (arith, c.in_ok-number.ensures.following, c.items-test.true),
    )

pub returns-clause-lines : goal.returns-clause-lines
returns-clause-lines g c =
    items_ended (number_line (value ∷ []) g.T.Item.GREATEST) (map g.T.Item.number c.items.list.items) (c.args.count - c.items.i) (λ list. map g.T.Item.number list.items) c.items.list (omega (arith, c.items-test.false)) refl c.items.invariant.0

pub returns-in_err-number-clause-memory : goal.returns-in_err-number-clause-memory
returns-in_err-number-clause-memory g c = passed_on c.from_residual.ensures.1 c.in_err-number.ensures.memory

pub returns-in_err-push-clause-memory : goal.returns-in_err-push-clause-memory
returns-in_err-push-clause-memory g c =
    let p = err_from_is_err_and c.from_residual-in_err-push.result c.from_residual-in_err-push.ensures.1 in
    let line = number_line (value ∷ []) g.T.Item.GREATEST in
    let read = map g.T.Item.number c.items.list.items in
    let more = read ++ g.T.Item.number c.of.result ∷ [] in
    let less : ℕ = c.args.count - (c.items.i + 1) in
    rw (p.1, p.2) (λ e. lacks_left (λ xs. more ++ xs) (repeated less line) c.args.following less
    (item_more line read more (c.args.count - c.items.i) less g.T.Item.number c.of.result (omega (arith, c.items-test.true)) refl
    c.items.invariant.0 (reads_seen (reads_as (ap (number_line (value ∷ [])) (sym c.GREATEST.ensures)) (c.in_ok-number.ensures.lines (value ∷ []) item_front)) (sym c.of.ensures)))
    (asks_repeated less line (asks_number (value ∷ []) g.T.Item.GREATEST)) (omega (arith, c.in_ok-number.ensures.following, c.items-test.true)))
