use Rattle.std.proofs.Common.{◌∙◌, ap, sym, List}
use Rattle.std.specs.Prelude.{◌&&◌}
use Rattle.std.specs.List.{find}
use Rattle.szg_values.specs.Men.{is_man, is_color}
use Rattle.szg_values.specs.Placement.{PlacedMan}
use Rattle.szg_values.specs.declared.Man.TheVariants.{King}
use Rattle.szg_values.specs.declared.Color.{Color}
use Rattle.szg_chess.proofs.SafeMove.{is_own_king, king_found, king_not_found}
use Rattle.szg_chess.proofs.Position.king.Goals as goal

pub returns-in-Some-clause-standing : goal.returns-in-Some-clause-standing
returns-in-Some-clause-standing c =
    let p = c.args.self.now in
    let by_mover = ap (λ (color : Color). find (λ (s : PlacedMan). is_man King s.0 && is_color color s.1) c.men.result.now) c.mover.ensures in
    let by_men = ap (λ (men : List PlacedMan). find (is_own_king p) men) c.men.ensures.men in
    (king_found p c.in-Some.king.now (sym (c.in-Some.ensures ∙ by_mover ∙ by_men))).0

pub returns-in-Some-clause-king : goal.returns-in-Some-clause-king
returns-in-Some-clause-king c =
    let p = c.args.self.now in
    let by_mover = ap (λ (color : Color). find (λ (s : PlacedMan). is_man King s.0 && is_color color s.1) c.men.result.now) c.mover.ensures in
    let by_men = ap (λ (men : List PlacedMan). find (is_own_king p) men) c.men.ensures.men in
    (king_found p c.in-Some.king.now (sym (c.in-Some.ensures ∙ by_mover ∙ by_men))).1

pub returns-in-None-clause-standing : goal.returns-in-None-clause-standing
returns-in-None-clause-standing c =
    let p = c.args.self.now in
    let by_mover = ap (λ (color : Color). find (λ (s : PlacedMan). is_man King s.0 && is_color color s.1) c.men.result.now) c.mover.ensures in
    let by_men = ap (λ (men : List PlacedMan). find (is_own_king p) men) c.men.ensures.men in
    absurd (king_not_found p c.men.ensures.position (sym (c.in-None.ensures ∙ by_mover ∙ by_men)))
