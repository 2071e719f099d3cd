use Rattle.std.proofs.Common.{◌≡◌, ◌∙◌, ◌++◌, List, [], ◌∷◌, ap, sym, refl, true, false, inl, inr, append_assoc, Some, None}
use Rattle.std.proofs.lemmas.Bool.{cases_Bool}
use Rattle.std.proofs.lemmas.List.{append-nil}
use Rattle.szg_values.specs.Men.{is_man}
use Rattle.szg_values.specs.declared.Man.{Man}
use Rattle.szg_values.specs.declared.Man.TheVariants.{King, Queen, Rook, Bishop, Knight}
use Rattle.szg_chess.specs.declared.Move.{Move}
use Rattle.szg_chess.specs.Moves.{promotes, is_legal}
use Rattle.szg_chess.proofs.SafeMove.{promotion_alike}
use Rattle.szg_chess.proofs.Position.push_legal.Goals as goal
use Rattle.szg_chess.proofs.Position.push_legal.Goals.{then-is_free-via-then-is_free, then-is_free-via-else-is_free+then-is_safe}

four : (xs : List Move) (q r b n : Move) → (((xs ++ q ∷ []) ++ r ∷ []) ++ b ∷ []) ++ n ∷ [] ≡ xs ++ q ∷ r ∷ b ∷ n ∷ []
four xs q r b n = simp append_assoc refl

pub returns-then-promotes : goal.returns-then-promotes
returns-then-promotes g c =
    let p = c.args.self.now in let s = c.args.man.now in let to = c.args.to in
    let move : Man → Move = λ piece. record { from = s.2; to = to; promotion = Some piece } in
    let yes : promotes s to ≡ true = sym c.promotes.ensures ∙ c.if-promotes.true in
    let safe : is_legal p (record { from = s.2; to = to; promotion = None }) ≡ true = elim c.then-is_free.branch [
      | then-is_free-via-then-is_free w ↦ c.requires.free w.if-is_free.true
      | then-is_free-via-else-is_free+then-is_safe w ↦ sym w.is_safe.ensures ∙ w.if-is_safe.true
    ] in
    let legal : (piece : Man) → is_man King piece ≡ false → is_legal p (move piece) ≡ true =
    λ piece no_king. promotion_alike p c.men.ensures.position s c.requires.standing c.requires.own to yes piece no_king ∙ safe in
    let xs = c.args.moves.now.items in
    let one : c.push.new.self.items ≡ xs ++ move Queen ∷ [] = c.push.ensures.items ∙ ap (λ (m : Move). xs ++ m ∷ []) c.promoted.ensures in
    let two : c.push-then-promotes.new.self.items ≡ (xs ++ move Queen ∷ []) ++ move Rook ∷ [] = c.push-then-promotes.ensures.items ∙ ap (λ (m : Move). c.push.new.self.items ++ m ∷ []) c.promoted-then-promotes.ensures ∙ ap (λ (ms : List Move). ms ++ move Rook ∷ []) one in
    let three : c.push-then-promotes-2.new.self.items ≡ ((xs ++ move Queen ∷ []) ++ move Rook ∷ []) ++ move Bishop ∷ [] = c.push-then-promotes-2.ensures.items ∙ ap (λ (m : Move). c.push-then-promotes.new.self.items ++ m ∷ []) c.promoted-then-promotes-2.ensures ∙ ap (λ (ms : List Move). ms ++ move Bishop ∷ []) two in
    let all = c.push-then-promotes-3.ensures.items ∙ ap (λ (m : Move). c.push-then-promotes-2.new.self.items ++ m ∷ []) c.promoted-then-promotes-3.ensures ∙ ap (λ (ms : List Move). ms ++ move Knight ∷ []) three in
    rw (yes, legal Queen refl, legal Rook refl, legal Bishop refl, legal Knight refl) (all ∙ four xs (move Queen) (move Rook) (move Bishop) (move Knight))

pub returns-else-is_safe : goal.returns-else-is_safe
returns-else-is_safe g c =
    let p = c.args.self.now in let s = c.args.man.now in let to = c.args.to in
    let plain = sym c.is_safe.ensures ∙ c.if-is_safe.false in
    elim (cases_Bool (promotes s to)) [
      | inl t ↦
          let illegal : (piece : Man) → is_man King piece ≡ false → is_legal p (record { from = s.2; to = to; promotion = Some piece }) ≡ false =
          λ piece no_king. promotion_alike p c.men.ensures.position s c.requires.standing c.requires.own to t piece no_king ∙ plain in
          rw (t, illegal Queen refl, illegal Rook refl, illegal Bishop refl, illegal Knight refl) (sym (append-nil c.args.moves.now.items))
      | inr f ↦ rw (f, plain) (sym (append-nil c.args.moves.now.items))
    ]

pub returns-else-promotes : goal.returns-else-promotes
returns-else-promotes g c =
    let p = c.args.self.now in let s = c.args.man.now in let to = c.args.to in
    let safe : is_legal p (record { from = s.2; to = to; promotion = None }) ≡ true = elim c.then-is_free.branch [
      | then-is_free-via-then-is_free w ↦ c.requires.free w.if-is_free.true
      | then-is_free-via-else-is_free+then-is_safe w ↦ sym w.is_safe.ensures ∙ w.if-is_safe.true
    ] in
    let no : promotes s to ≡ false = sym c.promotes.ensures ∙ c.if-promotes.false in
    rw (no, safe) (c.push-else-promotes.ensures.items ∙ ap (λ (m : Move). c.args.moves.now.items ++ m ∷ []) c.plain_move.ensures)
