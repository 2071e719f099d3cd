use Rattle.std.proofs.Common.{◌≡◌, ◌+◌, ◌∙◌, arith, subst, sym}
use Rattle.std.proofs.lemmas.List.Elements.{All-set}
use Rattle.szg_values.specs.Placement.{material_of}
use Rattle.szg_tables.specs.Hints.{IsFirst, IsHint}
use Rattle.szg_tables.proofs.FirstTables.{found_is_first}
use Rattle.szg_tables.proofs.hints.find.Goals as goal

pub hinted-requires : goal.hinted-requires
hinted-requires g c = c.requires c.place_of-place.result 0 (omega (arith, c.place_of-place.ensures, c.told-hints))

pub hinted-requires-2 : goal.hinted-requires-2
hinted-requires-2 g c = c.requires _ 0 (omega (arith, c.place_of-place.ensures, c.told-hints))

pub returns-then-n-lt65535-clause-hints : goal.returns-then-n-lt65535-clause-hints
returns-then-n-lt65535-clause-hints g c =
    let tables = c.args.tables.now in let n = c.in_ok-n.n in let place = c.place_of-place.result in
    let P = IsHint g.T.OpenTable.opened tables in
    let found : IsFirst g.T.OpenTable.opened tables n = found_is_first g.T.OpenTable.opened tables c.args.kind (material_of c.args.men.now.placed_men) n (sym c.first_for.ensures ∙ c.in_ok-n.was) in
    let here : P (n + 1) = λ m e. let same : n ≡ m = omega (arith, e) in subst (IsFirst g.T.OpenTable.opened tables) same found in
    let before : P _ = c.requires place 0 (omega (arith, c.place_of-place.ensures, c.told-hints)) in
    All-set P _ place (n + 1) here (All-set P c.args.hints.now _ _ before c.requires)
