use Rattle.std.proofs.Common.{◌≡◌, ◌∙◌, ap, arith, suc, sym, Some}
use Rattle.std.proofs.lemmas.Option.{slice_get-get_or}
use Rattle.szg_values.specs.Placement.{material_of}
use Rattle.szg_tables.specs.Opened.{is_for}
use Rattle.szg_tables.proofs.FirstTables.{hint_finds}
use Rattle.szg_tables.proofs.hints.hinted.Goals as goal

pub offset_bounds-tables-n : goal.offset_bounds-tables-n
offset_bounds-tables-n g c =
    let is : c.args.hint ≡ suc c.from-n.result = omega arith in
    let known = c.requires c.from-n.result is in let below = known.below in omega (arith, below)

pub bounds-tables-n : goal.bounds-tables-n
bounds-tables-n g c =
    let is : c.args.hint ≡ suc c.from-n.result = omega arith in
    let known = c.requires c.from-n.result is in known.below

pub returns-then-is_for : goal.returns-then-is_for
returns-then-is_for g c =
    let n = c.from-n.result in let t = c.index-tables-n.result in let kind = c.args.kind in let sides = material_of c.args.men.now.placed_men in
    let is : c.args.hint ≡ suc n = omega arith in
    let known = c.requires n is in
    let at = slice_get-get_or c.args.tables.now n t known.below ∙ ap Some (sym c.index-tables-n.is) in
    let named = sym (c.is_for.ensures ∙ ap (is_for kind sides) c.index.ensures) ∙ c.if-is_for.true in
    hint_finds g.T.OpenTable.opened c.args.tables.now kind sides n t known at named
