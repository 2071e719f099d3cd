use Rattle.std.proofs.Common.{◌≡◌, ℕ, length, sym, ap, ◌∙◌, Bool, rules, tests}
use Rattle.std.specs.Prelude.{◌==◌, ◌&&◌}
use Rattle.std.specs.List.{list_all}
use Rattle.std.proofs.lemmas.Bool.{eq-eqb}
use Rattle.std.proofs.lemmas.Iterator.{YieldsList-from_slice}
use Rattle.std.proofs.lemmas.Iterator.Search.{all_from_yields_List}
use Rattle.szg_values.specs.Material.{count_of}
use Rattle.szg_count.proofs.cut.is_rearrangement.Goals as goal

pub returns-then-used-codes : goal.returns-then-used-codes
returns-then-used-codes c =
    let used = c.args.used.now in let codes = c.args.codes.now in
    let test : ℕ → Bool = λ code. count_of code used == count_of code codes in
    let all : c.all.result ≡ list_all test codes = all_from_yields_List test _ _ c.all.result c.all.ensures.ran (YieldsList-from_slice codes cc) (λ x b q k. search (rules, tests)) in
    all ∙ sym (ap (λ (b : Bool). b && list_all test codes) (eq-eqb (length used) (length codes) c.if-used-codes.true))
