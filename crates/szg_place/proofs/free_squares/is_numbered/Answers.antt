use Rattle.std.proofs.Common.{◌≡◌, ℕ, sym, ap, ◌∙◌, Bool, rules, tests}
use Rattle.std.specs.Prelude.{◌==◌, ◌&&◌, not}
use Rattle.std.proofs.lemmas.Iterator.{YieldsList-from_slice}
use Rattle.std.proofs.lemmas.Iterator.Search.{any_from_yields_List}
use Rattle.szg_count.specs.Leads.{contains}
use Rattle.szg_place.specs.Numbers.{free_number}
use Rattle.szg_place.proofs.free_squares.is_numbered.Goals as goal

pub returns-then-not-any : goal.returns-then-not-any
returns-then-not-any c =
    let taken = c.args.taken.now in let square = c.args.square in let number = c.args.number in
    let any : c.any.result ≡ contains taken square = any_from_yields_List (λ other. square == other) _ _ c.any.result c.any.ensures.ran (YieldsList-from_slice taken cc) (λ x b q k. search (rules, tests)) in
    ap (λ (n : ℕ). n == number) c.free_number.ensures
    ∙ sym (ap (λ (b : Bool). not b && free_number c.args.lowest taken square == number) (sym any ∙ c.if-not-any.true))
