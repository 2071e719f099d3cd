use Rattle.std.proofs.Common.{◌≡◌, length, sym, ap, ◌∙◌, refl, arith, rules, tests}
use Rattle.std.specs.Prelude.{◌==◌}
use Rattle.std.specs.List.{list_all}
use Rattle.std.proofs.Math.Bool.{◌&&◌}
use Rattle.std.proofs.lemmas.Iterator.{YieldsList-from_slice}
use Rattle.std.proofs.lemmas.Iterator.Search.{all_from_yields_List}
use Rattle.szg_count.proofs.Pawns.{peopled, rearranged-length, pawns_first_given}
use Rattle.szg_count.proofs.cut.has_pawns_first.Goals as goal

pub split_at-requires : goal.split_at-requires
split_at-requires c =
    let p = peopled c.args.material.now c.requires.material in
    let few = p.pawns in
    let same = rearranged-length c.args.men.now c.args.codes.now c.requires.pieces in
    let codes = ap length c.requires.codes in omega arith

pub split_at-requires-2 : goal.split_at-requires-2
split_at-requires-2 c =
    let p = peopled c.args.material.now c.requires.material in
    let few = p.pawns in
    let same = rearranged-length c.args.men.now c.args.codes.now c.requires.pieces in
    let codes = ap length c.requires.codes in omega arith

pub returns-then-all : goal.returns-then-all
returns-then-all c =
    let first : c.all.result ≡ list_all (λ man. man == c.pawn_codes-lead.result.0) c.split_at.result.0.now =
    all_from_yields_List (λ man. man == c.pawn_codes-lead.result.0) _ _ c.all.result c.all.ensures.ran (YieldsList-from_slice c.split_at.result.0.now cc) (λ x b q k. search (rules, tests)) in
    let second : c.all-then-all.result ≡ list_all (λ man. man == c.pawn_codes-lead.result.1) c.split_at-2.result.0.now =
    all_from_yields_List (λ man. man == c.pawn_codes-lead.result.1) _ _ c.all-then-all.result c.all-then-all.ensures.ran (YieldsList-from_slice c.split_at-2.result.0.now cc) (λ x b q k. search (rules, tests)) in
    let t = pawns_first_given c.args.material.now c.pawn_codes-lead.result.0 c.pawn_codes-lead.result.1 c.from.result c.from-2.result c.args.men.now
    c.split_at.result.0.now c.split_at.result.1.now c.split_at-2.result.0.now c.all.result c.all-then-all.result
    c.pawn_codes-lead.ensures.lead c.pawn_codes-lead.ensures.other (cc) (cc) c.split_at.ensures.front c.split_at.ensures.back c.split_at-2.ensures.front
    first second in
    ap (λ a. a && c.all-then-all.result) (sym c.if-all.true) ∙ t

pub returns-else-all : goal.returns-else-all
returns-else-all c =
    let first : c.all.result ≡ list_all (λ man. man == c.pawn_codes-lead.result.0) c.split_at.result.0.now =
    all_from_yields_List (λ man. man == c.pawn_codes-lead.result.0) _ _ c.all.result c.all.ensures.ran (YieldsList-from_slice c.split_at.result.0.now cc) (λ x b q k. search (rules, tests)) in
    let next = list_all (λ man. man == c.pawn_codes-lead.result.1) c.split_at-2.result.0.now in
    let t = pawns_first_given c.args.material.now c.pawn_codes-lead.result.0 c.pawn_codes-lead.result.1 c.from.result c.from-2.result c.args.men.now
    c.split_at.result.0.now c.split_at.result.1.now c.split_at-2.result.0.now c.all.result next
    c.pawn_codes-lead.ensures.lead c.pawn_codes-lead.ensures.other (cc) (cc) c.split_at.ensures.front c.split_at.ensures.back c.split_at-2.ensures.front
    first refl in
    c.if-all.false ∙ ap (λ a. a && next) (sym c.if-all.false) ∙ t
