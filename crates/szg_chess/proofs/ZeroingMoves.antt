-- The legal moves that are zeroing: the captures, and the moves of pawns to empty squares.
use Rattle.std.proofs.Common.{◌≡◌, ◌≤◌, List, [], ◌∷◌, ◌++◌, length, length-append, refl, sym, ap, ◌∙◌, Bool, true, false, arith, inl, inr}
use Rattle.std.specs.Prelude.{filter, flat_map, ◌&&◌, ◌||◌}
use Rattle.std.specs.List.{All, Contains}
use Rattle.std.proofs.lemmas.Bool.{cases_Bool, or_right}
use Rattle.std.proofs.lemmas.List.Elements.{All-head, All-tail, All-weaker, All-filter, All-contains_itself, filter-append}
use Rattle.szg_values.specs.Men.{is_man, is_color}
use Rattle.szg_values.specs.Placement.{PlacedMan}
use Rattle.szg_values.specs.declared.Man.TheVariants.{Pawn}
use Rattle.szg_chess.specs.declared.Move.{Move}
use Rattle.szg_chess.specs.Position.{Position, IsPosition}
use Rattle.szg_chess.specs.Moves.{captures_of, is_capture, is_legal, is_pawn_on, is_zeroing, legal_captures, legal_moves, pawn_moves_of, quiet_moves_by, quiet_moves_of}
use Rattle.szg_chess.proofs.Facts.{IsFaultless, faultless}
use Rattle.szg_chess.proofs.AfterMove.{its_pawn}
use Rattle.szg_chess.proofs.MoveFacts.{Captures, Enters, Made, all_captures, quiet_by}
use Rattle.szg_chess.proofs.Captured.{capture_enters, filter_all, filter_none, made_capture}
use Rattle.szg_chess.proofs.Sets.{same_bool}
use Rattle.szg_chess.proofs.Zeroing.{pawn_on}

-- a man's moves to empty squares are zeroing if it is a pawn
pub zeroing_quiet : (p : Position) → IsFaultless p → (s : PlacedMan) → Contains p.placed_men s → is_color p.mover s.1 ≡ true → All (λ m. is_zeroing p m ≡ is_man Pawn s.0) (quiet_moves_by p.placed_men s)
zeroing_quiet p known s stands own =
    let Its : Move → Type 0 = Made p (λ u to. Enters p u to × (u ≡ s)) in
    All-weaker Its (λ m. is_zeroing p m ≡ is_man Pawn s.0) each (quiet_moves_by p.placed_men s) (quiet_by p s stands own)
  where
    or_false : (b : Bool) → (b || false) ≡ b
    or_false true = refl
    or_false false = refl

    each : (m : Move) → Made p (λ u to. Enters p u to × (u ≡ s)) m → is_zeroing p m ≡ is_man Pawn s.0
    each m made =
        ap (λ (b : Bool). is_pawn_on p m.from || b) (capture_enters p m made.man known made.stands made.from_is made.way.0)
        ∙ or_false (is_pawn_on p m.from)
        ∙ same_bool (is_pawn_on p m.from) (is_man Pawn made.man.0) (its_pawn p made.man m.from known made.stands made.from_is) (pawn_on p m (λ u to. Enters p u to × (u ≡ s)) made)
        ∙ ap (λ (u : PlacedMan). is_man Pawn u.0) made.way.1

-- what passes a test of the pieces of the elements that pass `own`, if the pieces of an element pass exactly if it passes `pawn`
kept : {X A : Type 0} (test legal : A → Bool) (f : X → List A) (own pawn : X → Bool) (xs : List X) → All (λ x. own x ≡ true → All (λ m. test m ≡ pawn x) (f x)) xs →
    filter test (filter legal (flat_map f (filter own xs))) ≡ filter legal (flat_map f (filter (λ x. own x && pawn x) xs))
kept test legal f own pawn [] each = refl
kept {X} {A} test legal f own pawn (x ∷ xs) each =
    let P : X → Type 0 = λ y. own y ≡ true → All (λ m. test m ≡ pawn y) (f y) in
    let here = All-head P x xs each in let rest = kept test legal f own pawn xs (All-tail P x xs each) in
    elim (cases_Bool (own x)) [
      | inl t ↦
          let more = flat_map f (filter own xs) in
          let split : filter test (filter legal (f x ++ more)) ≡ filter test (filter legal (f x)) ++ filter legal (flat_map f (filter (λ y. own y && pawn y) xs)) =
          ap (filter test) (filter-append legal (f x) more) ∙ filter-append test (filter legal (f x)) (filter legal more) ∙ ap (λ (ms : List A). filter test (filter legal (f x)) ++ ms) rest in
          elim (cases_Bool (pawn x)) [
            | inl u ↦
                let all = All-filter legal (λ (m : A). test m ≡ true) (f x) (All-weaker (λ (m : A). test m ≡ pawn x) (λ m. test m ≡ true) (λ m e. e ∙ u) (f x) (here t)) in
                rw (t, u) (split ∙ ap (λ (ms : List A). ms ++ filter legal (flat_map f (filter (λ y. own y && pawn y) xs))) (filter_all test (filter legal (f x)) all) ∙ sym (filter-append legal (f x) (flat_map f (filter (λ y. own y && pawn y) xs))))
            | inr v ↦
                let none = All-filter legal (λ (m : A). test m ≡ false) (f x) (All-weaker (λ (m : A). test m ≡ pawn x) (λ m. test m ≡ false) (λ m e. e ∙ v) (f x) (here t)) in
                rw (t, v) (split ∙ ap (λ (ms : List A). ms ++ filter legal (flat_map f (filter (λ y. own y && pawn y) xs))) (filter_none test (filter legal (f x)) none))
          ]
      | inr e ↦ rw e rest
    ]

pub zeroing_moves_law : (p : Position) → IsPosition p → filter (is_zeroing p) (legal_moves p) ≡ legal_captures p ++ filter (is_legal p) (pawn_moves_of p)
unfolding pawn_moves_of quiet_moves_of
zeroing_moves_law p position =
    let known = faultless p position.no_fault in
    let own : PlacedMan → Bool = λ s. is_color p.mover s.1 in let pawn : PlacedMan → Bool = λ s. is_man Pawn s.0 in
    let yes = All-filter (is_legal p) (λ (m : Move). is_zeroing p m ≡ true) (captures_of p)
    (All-weaker (Made p (Captures p)) (λ m. is_zeroing p m ≡ true) (λ m made. or_right (is_pawn_on p m.from) (is_capture p m) (made_capture p m made)) (captures_of p) (all_captures p)) in
    let each = All-weaker (Contains p.placed_men) (λ (s : PlacedMan). own s ≡ true → All (λ m. is_zeroing p m ≡ pawn s) (quiet_moves_by p.placed_men s)) (λ s stands is. zeroing_quiet p known s stands is) p.placed_men (All-contains_itself p.placed_men) in
    let quiet = filter (is_legal p) (quiet_moves_of p) in
    ap (filter (is_zeroing p)) (filter-append (is_legal p) (captures_of p) (quiet_moves_of p))
    ∙ filter-append (is_zeroing p) (legal_captures p) quiet
    ∙ ap (λ (ys : List Move). ys ++ filter (is_zeroing p) quiet) (filter_all (is_zeroing p) (legal_captures p) yes)
    ∙ ap (λ (ys : List Move). legal_captures p ++ ys) (kept (is_zeroing p) (is_legal p) (quiet_moves_by p.placed_men) own pawn p.placed_men each)

-- ---- their number

fewer_pieces : {X A : Type 0} (f : X → List A) (own pawn : X → Bool) (xs : List X) → length (flat_map f (filter (λ x. own x && pawn x) xs)) ≤ length (flat_map f (filter own xs))
fewer_pieces f own pawn [] = omega arith
fewer_pieces f own pawn (x ∷ xs) =
    let rest = fewer_pieces f own pawn xs in
    let whole = length-append (f x) (flat_map f (filter own xs)) in let part = length-append (f x) (flat_map f (filter (λ y. own y && pawn y) xs)) in
    elim (cases_Bool (own x)) [
      | inl t ↦ elim (cases_Bool (pawn x)) [
        | inl u ↦ rw (t, u) (omega (arith, rest, whole, part))
        | inr v ↦ rw (t, v) (omega (arith, rest, whole))
      ]
      | inr e ↦ rw e rest
    ]

pub few_pawn_moves : (p : Position) → length (pawn_moves_of p) ≤ length (quiet_moves_of p)
unfolding pawn_moves_of quiet_moves_of
few_pawn_moves p = fewer_pieces (quiet_moves_by p.placed_men) (λ (s : PlacedMan). is_color p.mover s.1) (λ (s : PlacedMan). is_man Pawn s.0) p.placed_men
