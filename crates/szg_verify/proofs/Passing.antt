-- Captures en passant beside the other moves.
use Rattle.std.proofs.Common.{◌≡◌, List, map, sym, ap, ◌∙◌, subst, Bool, true, inl, inr, ◌⊎◌, ◌↔◌, Option, None, Contains}
use Rattle.std.specs.Prelude.{filter, unwrap_or, All}
use Rattle.std.proofs.lemmas.Bool.{cases_Bool, or_right, not_from_false}
use Rattle.szg_game.specs.Game.{Move as Step, is_empty}
use Rattle.szg_game.specs.declared.Entry.{Entry}
use Rattle.szg_game.proofs.Lists.{IsIn, contains_in, in_contains, in_map, map_in, none_in}
use Rattle.szg_chess.specs.declared.Move.{Move}
use Rattle.szg_chess.specs.Position.{Position, IsPosition}
use Rattle.szg_chess.specs.Moves.{after, is_en_passant, is_pawn_on, is_zeroing, is_capture, legal_moves, legal_captures}
use Rattle.szg_chess.proofs.Captured.{captures_law, takes_enemy}
use Rattle.szg_probe.specs.Chess.{step_of, chess, without_right}
use Rattle.szg_probe.proofs.Choosing.{filter_true, in_filter, filter_in}
use Rattle.szg_probe.proofs.WithoutRight.{is_plain, plain_step, legal_without, capture_in, in_captures}
use Rattle.szg_probe.proofs.Beside.{all_from_in, map_same, map_map}
use Rattle.szg_verify.specs.Entries.{StoredTables, passing_captures, after_passing, plain_entry, entry_as, entry_of, entry_at, missing}
use Rattle.szg_verify.proofs.Captures.{capture_no_right}

-- ---- entries of positions without an en passant square

pub entry_plain : (tables : StoredTables) (p : Position) → p.en_passant ≡ None → entry_of tables p ≡ plain_entry tables p
unfolding entry_of
entry_plain tables p none = ap (entry_as tables p) none

module _ (p : Position) (position : IsPosition p) where
  pub passing_capture : (m : Move) → IsIn (passing_captures p) m → IsIn (legal_captures p) m × (is_en_passant p m ≡ true)
  unfolding passing_captures
  passing_capture m i = filter_in (is_en_passant p) (legal_captures p) m i

  -- a capture en passant is a legal move, and zeroing
  pub passing_move : (m : Move) → IsIn (passing_captures p) m → IsIn (legal_moves p) m × (is_capture p m ≡ true)
  passing_move m i = capture_in p position m (passing_capture m i).0

  pub passing_zeroing : (m : Move) → IsIn (passing_captures p) m → is_zeroing p m ≡ true
  passing_zeroing m i = or_right (is_pawn_on p m.from) (is_capture p m) (passing_move m i).1

  -- a legal move is a capture en passant, or one without the right
  pub either_move : (m : Move) → IsIn (legal_moves p) m → IsIn (passing_captures p) m ⊎ (IsIn (legal_moves (without_right p)) m × (is_plain p m ≡ true))
  unfolding passing_captures
  either_move m i = elim (cases_Bool (is_en_passant p m)) [
    | inl e ↦ inl (in_filter (is_en_passant p) (legal_captures p) m (in_captures p position m i (or_right (takes_enemy p m) (is_en_passant p m) e)) e)
    | inr e ↦ (
        let plain = not_from_false (is_en_passant p m) e in
        inr (subst (λ (ms : List Move). IsIn ms m) (sym (legal_without p position)) (in_filter (is_plain p) (legal_moves p) m i plain), plain))
  ]

  plain_move : (m : Move) → IsIn (legal_moves (without_right p)) m → IsIn (legal_moves p) m × (is_plain p m ≡ true)
  plain_move m i = filter_in (is_plain p) (legal_moves p) m (subst (λ (ms : List Move). IsIn ms m) (legal_without p position) i)

  pub steps_same : (x : Position × Bool) → Contains (chess.moves p) x ↔ (Contains (map (step_of p) (passing_captures p)) x ⊎ Contains (chess.moves (without_right p)) x)
  steps_same x = (there, back)
    where
      there : Contains (chess.moves p) x → Contains (map (step_of p) (passing_captures p)) x ⊎ Contains (chess.moves (without_right p)) x
      there c =
          let r = map_in (step_of p) (legal_moves p) x (in_contains (chess.moves p) x c) in
          let m = r.0 in
          elim (either_move m r.1) [
            | inl i ↦ inl (contains_in (map (step_of p) (passing_captures p)) x (subst (IsIn (map (step_of p) (passing_captures p))) r.2 (in_map (step_of p) (passing_captures p) m i)))
            | inr i ↦ inr (contains_in (chess.moves (without_right p)) x (subst (IsIn (chess.moves (without_right p))) (sym (plain_step p m i.1) ∙ r.2) (in_map (step_of (without_right p)) (legal_moves (without_right p)) m i.0)))
          ]

      back : Contains (map (step_of p) (passing_captures p)) x ⊎ Contains (chess.moves (without_right p)) x → Contains (chess.moves p) x
      back (inl c) =
          let r = map_in (step_of p) (passing_captures p) x (in_contains (map (step_of p) (passing_captures p)) x c) in
          let m = r.0 in
          contains_in (chess.moves p) x (subst (IsIn (chess.moves p)) r.2 (in_map (step_of p) (legal_moves p) m (passing_move m r.1).0))
      back (inr c) =
          let r = map_in (step_of (without_right p)) (legal_moves (without_right p)) x (in_contains (chess.moves (without_right p)) x c) in
          let m = r.0 in
          let held = plain_move m r.1 in
          contains_in (chess.moves p) x (subst (IsIn (chess.moves p)) (plain_step p m held.1 ∙ r.2) (in_map (step_of p) (legal_moves p) m held.0))

  pub passing_steps_zeroing : All (λ (x : Position × Bool). x.1 ≡ true) (map (step_of p) (passing_captures p))
  passing_steps_zeroing = all_from_in (λ (x : Position × Bool). x.1 ≡ true) (map (step_of p) (passing_captures p)) (λ x i.
      let r = map_in (step_of p) (passing_captures p) x i in
      sym (ap (λ (y : Position × Bool). y.1) r.2) ∙ passing_zeroing r.0 r.1)

  -- the entries after captures en passant are those of the tables
  module _ (tables : StoredTables) where
    abbrev leads : Position × Bool → Step Entry
    leads x = (entry_at tables x.0, x.1)

    pub after_passing_is : map leads (map (step_of p) (passing_captures p)) ≡ after_passing tables p
    unfolding after_passing
    after_passing_is = map_map (step_of p) leads (passing_captures p)
        ∙ map_same (λ (m : Move). leads (step_of p m)) (λ m. (unwrap_or (plain_entry tables (after p m)) missing, true)) (passing_captures p) (λ m i.
        let held = passing_move m i in
        let none = capture_no_right p m position (contains_in (legal_moves p) m held.0) held.1 in
        let e = entry_plain tables (after p m) none in
        let z = passing_zeroing m i in
        ap {B = Step Entry} (λ (o : Option Entry). (unwrap_or o missing, is_zeroing p m)) e ∙ ap {B = Step Entry} (λ (b : Bool). (unwrap_or (plain_entry tables (after p m)) missing, b)) z)

  -- without other moves the captures en passant are all moves
  pub all_passing : is_empty (legal_moves (without_right p)) ≡ true → passing_captures p ≡ legal_moves p
  unfolding passing_captures
  all_passing none =
      let each = λ (m : Move) (i : IsIn (legal_moves p) m). elim (either_move m i) as (λ _. is_en_passant p m ≡ true) [
        | inl j ↦ (passing_capture m j).1
        | inr j ↦ absurd (none_in (legal_moves (without_right p)) m none j.0)
      ] in
      let captures : legal_captures p ≡ legal_moves p = sym (captures_law p position) ∙ filter_true (is_capture p) (legal_moves p) (λ m i. or_right (takes_enemy p m) (is_en_passant p m) (each m i)) in
      ap (filter (is_en_passant p)) captures ∙ filter_true (is_en_passant p) (legal_moves p) each
