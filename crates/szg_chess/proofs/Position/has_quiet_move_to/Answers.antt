use Rattle.std.proofs.Common.{◌≡◌, ◌∙◌, ap, sym, refl, inl, inr, Bool, true, false}
use Rattle.std.specs.Prelude.{Some, None, ◌||◌}
use Rattle.std.specs.List.{list_any}
use Rattle.std.proofs.lemmas.Bool.{cases_Bool}
use Rattle.szg_values.specs.Men.{is_man}
use Rattle.szg_values.specs.declared.Man.{Man}
use Rattle.szg_values.specs.declared.Man.TheVariants.{King, Queen, Rook, Bishop, Knight}
use Rattle.szg_chess.specs.Moves.{promotes, is_legal, moves_if, moves_to}
use Rattle.szg_chess.proofs.SafeMove.{promotion_alike}
use Rattle.szg_chess.proofs.Position.has_quiet_move_to.Goals as goal

one : (b : Bool) → b ≡ (b || false)
one true = refl
one false = refl

four : (b : Bool) → b ≡ (b || (b || (b || (b || false))))
four true = refl
four false = refl

pub returns-then-may_enter : goal.returns-then-may_enter
returns-then-may_enter c =
    let p = c.args.self.now in let s = c.args.man.now in let to = c.args.to in
    let plain = is_legal p (record { from = s.2; to = to; promotion = None }) in
    let alike : (b : Bool) → plain ≡ b → b ≡ list_any (is_legal p) (moves_to s to) = λ b is. elim (cases_Bool (promotes s to)) [
      | inl t ↦
          let to_piece : (piece : Man) → is_man King piece ≡ false → is_legal p (record { from = s.2; to = to; promotion = Some piece }) ≡ b =
          λ piece no_king. promotion_alike p c.men.ensures.position s c.requires.standing c.requires.own to t piece no_king ∙ is in
          rw (t, to_piece Queen refl, to_piece Rook refl, to_piece Bishop refl, to_piece Knight refl) (four b)
      | inr f ↦ rw (f, is) (one b)
    ] in
    c.is_safe.ensures ∙ alike plain refl
    ∙ ap (λ (b : Bool). list_any (is_legal p) (moves_if b s to)) (sym (c.if-may_enter.true) ∙ c.may_enter.ensures)
