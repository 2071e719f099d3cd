-- Probed distances are those of the game, over true tables with exact numbers.
use Rattle.std.proofs.Common.{◌≡◌, ℕ, zero, suc, ◌+◌, ◌<◌, ◌≤◌, List, [], ◌∷◌, map, length, refl, sym, ap, ◌∙◌, subst, Bool, true, false, arith, inl, inr, ◌⊎◌, Option, Some, None}
use Rattle.std.specs.Prelude.{◌==◌, not}
use Rattle.std.specs.List.{list_all}
use Rattle.std.proofs.lemmas.Bool.{cases_Bool, eqb-true, eq-eqb, or_right, and_parts, and_from, not-true, not_from_false, both_ways, false_from_ne_true}
use Rattle.szg_game.specs.Game.{is_empty, mate, IsWon, IsLost}
use Rattle.szg_game.specs.Certified.{is_won, is_lost}
use Rattle.szg_game.specs.Classes.{level, negate}
use Rattle.szg_game.specs.declared.Class.{Class}
use Rattle.szg_game.specs.declared.Class.TheVariants.{Loss, BlessedLoss, Draw, CursedWin, Win}
use Rattle.szg_game.proofs.Graded.{level-injective, one_class}
use Rattle.szg_game.proofs.Lists.{IsIn, contains_in, in_map, map_in, each_in, some_in_map, one_in, none_in, first_in, is_empty-map}
use Rattle.szg_game.proofs.Steps.{mate_has_none, loses_mate}
use Rattle.szg_chess.specs.declared.Move.{Move as ChessMove}
use Rattle.szg_chess.specs.Position.{Position, IsPosition}
use Rattle.szg_chess.specs.Moves.{after, is_capture, is_check, is_en_passant, is_pawn_on, is_zeroing, legal_moves, has_no_move, is_mate}
use Rattle.szg_chess.proofs.AfterMove.{after_is_position}
use Rattle.szg_chess.proofs.Captured.{takes_enemy}
use Rattle.szg_probe.specs.Chess.{chess, ply_limit, step_of, ChessClass, without_right}
use Rattle.szg_probe.specs.Probing.{StoredClasses, AreTrue, has_only_captures, probed}
use Rattle.szg_probe.specs.Distances.{offset_of, is_drawn, is_known_true, keeps_by_zeroing, has_zeroing, is_next}
use Rattle.szg_probe.proofs.Choosing.{in_filter, filter_in}
use Rattle.szg_probe.proofs.WithoutRight.{is_plain, position_without, plain_step, legal_without}
use Rattle.szg_probe.proofs.Probed.{probed_true}
use Rattle.szg_probe_laws.specs.Within.{IsWonWith, WinsWithin, LosesWithin, IsLeast, HasDistance}
use Rattle.szg_probe_laws.proofs.Within as within
use Rattle.szg_probe_laws.proofs.First.{lost_negated}
use Rattle.szg_probe_laws.proofs.Parts.{keeps_parts, keeps_zeroing, any_true, next_parts}

-- ---- what a player forces in chess within n plies

abbrev pub Wins : ℕ → Position → Type 0
Wins n p = WinsWithin chess ply_limit n p

abbrev pub Loses : ℕ → Position → Type 0
Loses n p = LosesWithin chess ply_limit n p

abbrev pub Step : Type 0
Step = Position × Bool

abbrev pub WinsBy : ℕ → Step → Type 0
WinsBy n x = within.WinsBy chess ply_limit n x

abbrev pub LosesBy : ℕ → Step → Type 0
LosesBy n x = within.LosesBy chess ply_limit n x

-- ---- classes

pub drawn_not_won : (k : Class) → is_drawn k ≡ false → is_won k ≡ false → is_lost k ≡ true
drawn_not_won Win d w = cc
drawn_not_won CursedWin d w = cc
drawn_not_won Draw d w = cc
drawn_not_won BlessedLoss d w = refl
drawn_not_won Loss d w = refl

pub won_not_drawn : (k : Class) → is_won k ≡ true → is_drawn k ≡ false
won_not_drawn Win e = refl
won_not_drawn CursedWin e = refl
won_not_drawn Draw e = cc
won_not_drawn BlessedLoss e = cc
won_not_drawn Loss e = cc

pub lost_not_drawn : (k : Class) → is_lost k ≡ true → is_drawn k ≡ false
lost_not_drawn Win e = cc
lost_not_drawn CursedWin e = cc
lost_not_drawn Draw e = cc
lost_not_drawn BlessedLoss e = refl
lost_not_drawn Loss e = refl

pub lost_not_won : (k : Class) → is_lost k ≡ true → is_won k ≡ false
lost_not_won Win e = cc
lost_not_won CursedWin e = cc
lost_not_won Draw e = refl
lost_not_won BlessedLoss e = refl
lost_not_won Loss e = refl

pub distance_won : (k : Class) (p : Position) (d : ℕ) → is_won k ≡ true → IsLeast (λ n. Wins n p) d → HasDistance chess ply_limit p k d
distance_won Win p d e h = h
distance_won CursedWin p d e h = h
distance_won Draw p d e h = cc
distance_won BlessedLoss p d e h = cc
distance_won Loss p d e h = cc

pub won_distance : (k : Class) (p : Position) (d : ℕ) → is_won k ≡ true → HasDistance chess ply_limit p k d → IsLeast (λ n. Wins n p) d
won_distance Win p d e h = h
won_distance CursedWin p d e h = h
won_distance Draw p d e h = absurd (cc)
won_distance BlessedLoss p d e h = absurd (cc)
won_distance Loss p d e h = absurd (cc)

pub distance_lost : (k : Class) (p : Position) (d : ℕ) → is_lost k ≡ true → IsLeast (λ n. Loses n p) d → HasDistance chess ply_limit p k d
distance_lost Win p d e h = absurd (cc)
distance_lost CursedWin p d e h = absurd (cc)
distance_lost Draw p d e h = absurd (cc)
distance_lost BlessedLoss p d e h = h
distance_lost Loss p d e h = h

pub lost_distance : (k : Class) (p : Position) (d : ℕ) → is_lost k ≡ true → HasDistance chess ply_limit p k d → IsLeast (λ n. Loses n p) d
lost_distance Win p d e h = absurd (cc)
lost_distance CursedWin p d e h = absurd (cc)
lost_distance Draw p d e h = absurd (cc)
lost_distance BlessedLoss p d e h = h
lost_distance Loss p d e h = h

pub distance_drawn : (k : Class) (p : Position) → is_drawn k ≡ true → HasDistance chess ply_limit p k 0
distance_drawn Win p e = absurd (cc)
distance_drawn CursedWin p e = absurd (cc)
distance_drawn Draw p e = refl
distance_drawn BlessedLoss p e = absurd (cc)
distance_drawn Loss p e = absurd (cc)

-- a win is forced within 100 plies, a cursed win is not
pub win_full : (p : Position) → ChessClass p Win → Wins 100 p
win_full p w = within.wins_to chess ply_limit w.0 0 100 p refl (omega arith) w.1

pub loss_full : (p : Position) → ChessClass p Loss → Loses 100 p
loss_full p l = within.loses_to chess ply_limit l.0 0 100 p refl (omega arith) l.1

pub win_lower : (k : Class) (p : Position) (n : ℕ) → ChessClass p k → is_won k ≡ true → Wins n p → 1 + offset_of k ≤ n
win_lower Win p n c e w = within.win_positive chess ply_limit n p w
win_lower CursedWin p n c e w = within.is_far_win chess ply_limit n p c.1 w
win_lower Draw p n c e w = cc
win_lower BlessedLoss p n c e w = cc
win_lower Loss p n c e w = cc

pub loss_lower : (k : Class) (p : Position) (n : ℕ) → ChessClass p k → is_lost k ≡ true → Loses n p → 1 + offset_of k ≤ n
loss_lower Win p n c e w = cc
loss_lower CursedWin p n c e w = cc
loss_lower Draw p n c e w = cc
loss_lower BlessedLoss p n c e w = within.is_far_loss chess ply_limit n p c.1 w
loss_lower Loss p n c e w = within.loss_positive chess ply_limit n p w

pub less_not : (Q : ℕ → Type 0) (d : ℕ) → ((n : ℕ) → Q n → d ≤ n) → (n : ℕ) → n < d → ¬ Q n
less_not Q d h n less q = let more = h n q in omega arith

-- a position within 100 plies of a win has it under the rule
pub zeroing_won : (p : Position) (x : Step) → IsIn (chess.moves p) x → x.1 ≡ true → IsLost chess (Some ply_limit) 0 x.0 → ChessClass p Win
zeroing_won p x i z l = within.won_from chess ply_limit 1 0 p (omega arith) (within.win_step chess ply_limit 0 p x i (inr (inl (z, inl l))))

pub mating_won : (p : Position) (x : Step) → IsIn (chess.moves p) x → mate chess x.0 ≡ true → ChessClass p Win
mating_won p x i e = within.won_from chess ply_limit 1 0 p (omega arith) (within.win_step chess ply_limit 0 p x i (inl e))

-- with a zeroing move to a lost position
won_by_zeroing : (k : Class) (p : Position) (x : Step) → ChessClass p k → is_won k ≡ true → IsIn (chess.moves p) x → x.1 ≡ true → (k ≡ Win → IsLost chess (Some ply_limit) 0 x.0) → IsLost chess None 0 x.0 → Wins (1 + offset_of k) p
won_by_zeroing Win p x c e i z under ever = within.win_step chess ply_limit 0 p x i (inr (inl (z, inl (under refl))))
won_by_zeroing CursedWin p x c e i z under ever = within.win_step chess ply_limit 100 p x i (inr (inl (z, inr (omega arith, ever))))
won_by_zeroing Draw p x c e i z under ever = absurd (cc)
won_by_zeroing BlessedLoss p x c e i z under ever = absurd (cc)
won_by_zeroing Loss p x c e i z under ever = absurd (cc)

-- ---- positions

no_moves_empty : {A : Type 0} (xs : List A) → (length xs == 0) ≡ true → is_empty xs ≡ true
no_moves_empty [] e = refl
no_moves_empty (x ∷ xs) e = let none = eqb-true (length (x ∷ xs)) 0 e in absurd (omega arith)

some_moves : {A : Type 0} (xs : List A) → (length xs == 0) ≡ false → is_empty xs ≡ false
some_moves [] e = cc
some_moves (x ∷ xs) e = refl

pub none_step : (p : Position) → has_no_move p ≡ true → is_empty (chess.moves p) ≡ true
none_step p e = is_empty-map (step_of p) (legal_moves p) ∙ no_moves_empty (legal_moves p) e

pub some_step : (p : Position) → has_no_move p ≡ false → is_empty (chess.moves p) ≡ false
some_step p e = is_empty-map (step_of p) (legal_moves p) ∙ some_moves (legal_moves p) e

empty_none : {A : Type 0} (xs : List A) → is_empty xs ≡ true → (length xs == 0) ≡ true
empty_none [] e = refl
empty_none (x ∷ xs) e = cc

pub mate_of : (q : Position) → is_mate q ≡ true → mate chess q ≡ true
mate_of q e = let r = and_parts (is_check q) (has_no_move q) e in and_from (is_empty (chess.moves q)) (is_check q) (none_step q r.1) r.0

pub of_mate : (q : Position) → mate chess q ≡ true → is_mate q ≡ true
of_mate q e =
    let r = and_parts (is_empty (chess.moves q)) (is_check q) e in
    and_from (is_check q) (has_no_move q) r.1 (empty_none (legal_moves q) (sym (is_empty-map (step_of q) (legal_moves q)) ∙ r.0))

pub mate_class : (q : Position) → mate chess q ≡ true → ChessClass q Loss
mate_class q e = (0, loses_mate chess (Some ply_limit) 0 0 q e)

some_not : {A : Type 0} (t : A → Bool) (xs : List A) → list_all t xs ≡ false → (x : A) × IsIn xs x × (t x ≡ false)
some_not t [] e = absurd (cc)
some_not {A} t (x ∷ xs) e = elim (cases_Bool (t x)) [
  | inl h ↦ (let r = some_not t xs (rw h at e) in (r.0, inr r.1, r.2))
  | inr h ↦ (x, inl refl, h)
]

passing_zeroing : (p : Position) (m : ChessMove) → is_en_passant p m ≡ true → is_zeroing p m ≡ true
passing_zeroing p m e = or_right (is_pawn_on p m.from) (is_capture p m) (or_right (takes_enemy p m) (is_en_passant p m) e)

quiet_plain : (p : Position) (m : ChessMove) → is_capture p m ≡ false → is_plain p m ≡ true
quiet_plain p m e = not_from_false (is_en_passant p m) (false_from_ne_true (is_en_passant p m) (λ t. both_ways (is_capture p m) e (or_right (takes_enemy p m) (is_en_passant p m) t)))

module _ (p : Position) (position : IsPosition p) where
  -- a step is one without the right to capture en passant, or zeroing
  pub split : (x : Step) → IsIn (chess.moves p) x → IsIn (chess.moves (without_right p)) x ⊎ (x.1 ≡ true)
  split x i =
      let r = map_in (step_of p) (legal_moves p) x i in
      let m = r.0 in
      elim (cases_Bool (is_en_passant p m)) [
        | inl e ↦ inr (sym (ap (λ (y : Step). y.1) r.2) ∙ passing_zeroing p m e)
        | inr e ↦ inl (plain_in m r.1 x r.2 (not_from_false (is_en_passant p m) e))
      ]
    where
      plain_in : (m : ChessMove) → IsIn (legal_moves p) m → (x : Step) → step_of p m ≡ x → is_plain p m ≡ true → IsIn (chess.moves (without_right p)) x
      plain_in m i x is plain =
          let held = subst (λ (ms : List ChessMove). IsIn ms m) (sym (legal_without p position)) (in_filter (is_plain p) (legal_moves p) m i plain) in
          subst (IsIn (chess.moves (without_right p))) (sym (plain_step p m plain) ∙ is) (in_map (step_of (without_right p)) (legal_moves (without_right p)) m held)

  pub widen_move : (m : ChessMove) → IsIn (legal_moves (without_right p)) m → IsIn (legal_moves p) m × (is_plain p m ≡ true)
  widen_move m i = filter_in (is_plain p) (legal_moves p) m (subst (λ (ms : List ChessMove). IsIn ms m) (legal_without p position) i)

  widen : (x : Step) → IsIn (chess.moves (without_right p)) x → IsIn (chess.moves p) x
  widen x i =
      let r = map_in (step_of (without_right p)) (legal_moves (without_right p)) x i in
      let held = widen_move r.0 r.1 in
      subst (IsIn (chess.moves p)) (plain_step p r.0 held.1 ∙ r.2) (in_map (step_of p) (legal_moves p) r.0 held.0)

  -- a move that captures nothing
  pub quiet_move : has_no_move p ≡ false → has_only_captures p ≡ false → (m : ChessMove) × IsIn (legal_moves (without_right p)) m × (is_capture p m ≡ false)
  quiet_move some others =
      let all = false_from_ne_true (list_all (is_capture p) (legal_moves p)) (λ t. both_ways (has_only_captures p) others (and_from (not (has_no_move p)) (list_all (is_capture p) (legal_moves p)) (not_from_false (has_no_move p) some) t)) in
      let r = some_not (is_capture p) (legal_moves p) all in
      (r.0, subst (λ (ms : List ChessMove). IsIn ms r.0) (sym (legal_without p position)) (in_filter (is_plain p) (legal_moves p) r.0 r.1 (quiet_plain p r.0 r.2)), r.2)

  pub plain_some : has_no_move p ≡ false → has_only_captures p ≡ false → is_empty (chess.moves (without_right p)) ≡ false
  plain_some some others =
      let r = quiet_move some others in
      one_in (chess.moves (without_right p)) (step_of (without_right p) r.0) (in_map (step_of (without_right p)) (legal_moves (without_right p)) r.0 r.1)

  pub wins_widen : (n : ℕ) → Wins n (without_right p) → Wins n p
  wins_widen zero w = absurd (within.win_zero chess ply_limit (without_right p) w)
  wins_widen (suc n) w = let r = within.win_parts chess ply_limit n (without_right p) w in within.win_step chess ply_limit n p r.0 (widen r.0 r.1) r.2

  pub loses_narrow : is_empty (chess.moves (without_right p)) ≡ false → (n : ℕ) → Loses n p → Loses n (without_right p)
  loses_narrow some zero l = absurd (within.loss_zero chess ply_limit p l)
  loses_narrow some (suc n) l = elim (within.loss_parts chess ply_limit n p l) [
    | inl e ↦ (let r = first_in (chess.moves (without_right p)) some in absurd (mate_has_none chess p r.0 e (widen r.0 r.1)))
    | inr r ↦ within.loss_step chess ply_limit n (without_right p) some (λ x i. r.1 x (widen x i))
  ]

-- ---- the next move settles the distance

pub no_equal : (j k : Class) → j ≡ k → (level j == level k) ≡ false → ⊥
no_equal j k e f = both_ways (level j == level k) f (eq-eqb (level j) (level k) (ap level e))

captures_zeroing : (p : Position) → has_only_captures p ≡ true → (x : Step) → IsIn (chess.moves p) x → x.1 ≡ true
captures_zeroing p only x i =
    let all = (and_parts (not (has_no_move p)) (list_all (is_capture p) (legal_moves p)) only).1 in
    let r = map_in (step_of p) (legal_moves p) x i in
    sym (ap (λ (y : Step). y.1) r.2) ∙ or_right (is_pawn_on p r.0.from) (is_capture p r.0) (each_in (is_capture p) (legal_moves p) all r.0 r.1)

pub clash : {b : Bool} → b ≡ true → b ≡ false → ⊥
clash s t = cc

captures_win : (k : Class) (p : Position) → ChessClass p k → is_won k ≡ true → ((x : Step) → IsIn (chess.moves p) x → x.1 ≡ true) → Wins (1 + offset_of k) p
captures_win Win p c e each =
    let r = within.win_parts chess ply_limit 99 p (win_full p c) in
    within.win_step chess ply_limit 0 p r.0 r.1 (elim r.2 [
      | inl m ↦ inl m
      | inr (inl z) ↦ elim z.1 [ inl l ↦ inr (inl (z.0, inl l)) | inr l ↦ (let few = l.0 in absurd (omega arith)) ]
      | inr (inr q) ↦ absurd (clash (each r.0 r.1) q.0)
    ])
captures_win CursedWin p c e each = let s = within.ever_win_parts chess ply_limit p c.0 in within.win_step chess ply_limit 100 p s.0 s.1 (inr (inl (each s.0 s.1, inr (omega arith, s.2))))
captures_win Draw p c e each = absurd (cc)
captures_win BlessedLoss p c e each = absurd (cc)
captures_win Loss p c e each = absurd (cc)

-- a zeroing move of a lost position leads to a won one
pub zeroing_loses : (k : Class) (p : Position) (x : Step) (n : ℕ) → ChessClass p k → is_lost k ≡ true → IsIn (chess.moves p) x → x.1 ≡ true → offset_of k ≤ n → IsWonWith chess ply_limit n x.0
zeroing_loses Win p x n c e i z h = absurd (cc)
zeroing_loses CursedWin p x n c e i z h = absurd (cc)
zeroing_loses Draw p x n c e i z h = absurd (cc)
zeroing_loses BlessedLoss p x n c e i z h = elim (within.ever_loss_parts chess ply_limit p c.0) [
  | inl m ↦ absurd (mate_has_none chess p x m i)
  | inr r ↦ inr (h, r.1 x i)
]
zeroing_loses Loss p x n c e i z h = elim (within.loss_parts chess ply_limit 99 p (loss_full p c)) [
  | inl m ↦ absurd (mate_has_none chess p x m i)
  | inr r ↦ elim (r.1 x i) [
    | inl s ↦ elim s.1 [ inl w ↦ inl w | inr w ↦ (let few = w.0 in absurd (omega arith)) ]
    | inr q ↦ absurd (clash z q.0)
  ]
]

captures_loss : (k : Class) (p : Position) → ChessClass p k → is_lost k ≡ true → is_empty (chess.moves p) ≡ false → ((x : Step) → IsIn (chess.moves p) x → x.1 ≡ true) → Loses (1 + offset_of k) p
captures_loss k p c e some each =
    within.loss_more chess ply_limit (suc (offset_of k)) (1 + offset_of k) p (omega arith)
    (within.loss_step chess ply_limit (offset_of k) p some (λ x i. inl (each x i, zeroing_loses k p x (offset_of k) c e i (each x i) (omega arith))))

no_move_loss : (k : Class) (p : Position) → ChessClass p k → is_lost k ≡ true → has_no_move p ≡ true → Loses (1 + offset_of k) p
no_move_loss k p c e none = elim (within.ever_loss_parts chess ply_limit p (within.lost_of chess ply_limit k p c e)) [
  | inl m ↦ within.loss_more chess ply_limit 1 (1 + offset_of k) p (omega arith) (within.loss_mate chess ply_limit 0 p m)
  | inr r ↦ absurd (clash (none_step p none) r.0)
]

no_move_win : (k : Class) (p : Position) → ChessClass p k → is_won k ≡ true → has_no_move p ≡ true → ⊥
no_move_win k p c e none = let r = within.ever_win_parts chess ply_limit p (within.won_of chess ply_limit k p c e) in none_in (chess.moves p) r.0 (none_step p none) r.1

module _ (p : Position) (position : IsPosition p) (j : Class) (there : ChessClass (without_right p) j) where
  -- another class without the right
  differs_win : (k : Class) → ChessClass p k → is_won k ≡ true → (level j == level k) ≡ false → Wins (1 + offset_of k) p
  differs_win Win c e unlike =
      let r = within.win_parts chess ply_limit 99 p (win_full p c) in
      elim (split p position r.0 r.1) [
        | inl i ↦ (
            let w = within.won_from chess ply_limit 100 0 (without_right p) (omega arith) (within.win_step chess ply_limit 99 (without_right p) r.0 i r.2) in
            absurd (no_equal j Win (one_class chess ply_limit (without_right p) j Win there w) unlike))
        | inr z ↦ within.win_step chess ply_limit 0 p r.0 r.1 (elim r.2 [
          | inl m ↦ inl m
          | inr (inl s) ↦ elim s.1 [ inl l ↦ inr (inl (s.0, inl l)) | inr l ↦ (let few = l.0 in absurd (omega arith)) ]
          | inr (inr q) ↦ absurd (clash z q.0)
        ])
      ]
  differs_win CursedWin c e unlike =
      let r = within.ever_win_parts chess ply_limit p c.0 in
      elim (split p position r.0 r.1) [
        | inl i ↦ absurd (cursed j there (within.of_won chess ply_limit j (without_right p) there (within.ever_wins chess ply_limit (without_right p) r.0 i r.2)) unlike)
        | inr z ↦ within.win_step chess ply_limit 100 p r.0 r.1 (inr (inl (z, inr (omega arith, r.2))))
      ]
    where
      cursed : (i : Class) → ChessClass (without_right p) i → is_won i ≡ true → (level i == level CursedWin) ≡ false → ⊥
      cursed Win t w f = c.1 (within.won_from chess ply_limit 100 0 p (omega arith) (wins_widen p position 100 (win_full (without_right p) t)))
      cursed CursedWin t w f = no_equal CursedWin CursedWin refl f
      cursed Draw t w f = cc
      cursed BlessedLoss t w f = cc
      cursed Loss t w f = cc
  differs_win Draw c e unlike = absurd (cc)
  differs_win BlessedLoss c e unlike = absurd (cc)
  differs_win Loss c e unlike = absurd (cc)

  differs_loss : (k : Class) → ChessClass p k → is_lost k ≡ true → (level j == level k) ≡ false → has_no_move p ≡ false → has_only_captures p ≡ false → Loses (1 + offset_of k) p
  differs_loss Win c e unlike some others = absurd (cc)
  differs_loss CursedWin c e unlike some others = absurd (cc)
  differs_loss Draw c e unlike some others = absurd (cc)
  differs_loss Loss c e unlike some others =
      let l = within.lost_from chess ply_limit 100 0 (without_right p) (omega arith) (loses_narrow p position (plain_some p position some others) 100 (loss_full p c)) in
      absurd (no_equal j Loss (one_class chess ply_limit (without_right p) j Loss there l) unlike)
  differs_loss BlessedLoss c e unlike some others = elim (within.ever_loss_parts chess ply_limit p c.0) [
    | inl m ↦ (let r = first_in (chess.moves p) (some_step p some) in absurd (mate_has_none chess p r.0 m r.1))
    | inr r ↦ blessed j there unlike r.1 (within.of_lost chess ply_limit j (without_right p) there (within.ever_loses chess ply_limit (without_right p) (plain_some p position some others) (λ x i. r.1 x (widen p position x i))))
  ]
    where
      blessed : (i : Class) → ChessClass (without_right p) i → (level i == level BlessedLoss) ≡ false → ((x : Step) → IsIn (chess.moves p) x → IsWon chess None 0 x.0) → is_lost i ≡ true → Loses 101 p
      blessed Win t f each l = absurd (cc)
      blessed CursedWin t f each l = absurd (cc)
      blessed Draw t f each l = absurd (cc)
      blessed BlessedLoss t f each l = absurd (no_equal BlessedLoss BlessedLoss refl f)
      blessed Loss t f each l =
          elim (within.loss_parts chess ply_limit 100 (without_right p) (within.loss_more chess ply_limit 100 101 (without_right p) (omega arith) (loss_full (without_right p) t))) [
            | inl m ↦ (let r = first_in (chess.moves (without_right p)) (plain_some p position some others) in absurd (mate_has_none chess (without_right p) r.0 m r.1))
            | inr r ↦ within.loss_step chess ply_limit 100 p (some_step p some) (λ x i. elim (split p position x i) [
              | inl h ↦ r.1 x h
              | inr z ↦ inl (z, inr (omega arith, each x i))
            ])
          ]

known_true : (o : Option Bool) → is_known_true o ≡ true → o ≡ Some true
known_true None e = cc
known_true (Some true) e = refl
known_true (Some false) e = cc

module _ (classes : StoredClasses) (right : AreTrue classes) where
  pub true_after : (p : Position) → IsPosition p → (m : ChessMove) (j : Class) → IsIn (legal_moves p) m → probed classes (after p m) ≡ Some j → ChessClass (after p m) j
  true_after p position m j i e = probed_true classes (after p m) j right (after_is_position p m position (contains_in (legal_moves p) m i)) e

  module _ (p : Position) (position : IsPosition p) (k : Class) (class : ChessClass p k) where
    zeroing_win : is_won k ≡ true → has_zeroing classes p k ≡ Some true → Wins (1 + offset_of k) p
    zeroing_win e h =
        let t = any_true classes (map (keeps_by_zeroing classes p k) (legal_moves p)) h in
        let r = some_in_map (keeps_by_zeroing classes p k) is_known_true (legal_moves p) t in
        let m = r.0 in
        let keeps = known_true (keeps_by_zeroing classes p k m) r.2 in
        let zeroing = keeps_zeroing classes p k m keeps in
        let s = keeps_parts classes p k m true keeps zeroing in
        let is : s.0 ≡ negate k = level-injective s.0 (negate k) (eqb-true (level s.0) (level (negate k)) s.2) in
        let there = subst (ChessClass (after p m)) is (true_after p position m s.0 r.1 s.1) in
        won_by_zeroing k p (step_of p m) class e (in_map (step_of p) (legal_moves p) m r.1) zeroing
        (λ win. subst (λ (i : Class). ChessClass (after p m) (negate i)) win there)
        (within.lost_of chess ply_limit (negate k) (after p m) there (lost_negated k ∙ e))

    next_win : is_won k ≡ true → is_next classes p k ≡ Some true → Wins (1 + offset_of k) p
    next_win e h = elim (next_parts classes p k true h) [
      | inl r ↦ elim r.1 [
        | inl none ↦ absurd (no_move_win k p class e none)
        | inr only ↦ captures_win k p class e (captures_zeroing p only)
      ]
      | inr b ↦ elim (cases_Bool (level b.class == level k)) [
        | inl same ↦ zeroing_win e (b.zeroing same e)
        | inr differ ↦ differs_win p position b.class (probed_true classes (without_right p) b.class right (position_without p position) b.there) k class e differ
      ]
    ]

    next_loss : is_lost k ≡ true → is_next classes p k ≡ Some true → Loses (1 + offset_of k) p
    next_loss e h = elim (next_parts classes p k true h) [
      | inl r ↦ elim r.1 [
        | inl none ↦ no_move_loss k p class e none
        | inr only ↦ captures_loss k p class e (some_step p (not-true (has_no_move p) (and_parts (not (has_no_move p)) (list_all (is_capture p) (legal_moves p)) only).0)) (captures_zeroing p only)
      ]
      | inr b ↦ elim (cases_Bool (level b.class == level k)) [
        | inl same ↦ (let unlike = b.lost same (lost_not_won k e) in cc)
        | inr differ ↦ differs_loss p position b.class (probed_true classes (without_right p) b.class right (position_without p position) b.there) k class e differ b.some b.others
      ]
    ]

    pub next_exact : is_drawn k ≡ false → is_next classes p k ≡ Some true → HasDistance chess ply_limit p k (1 + offset_of k)
    next_exact drawn h = elim (cases_Bool (is_won k)) [
      | inl w ↦ distance_won k p (1 + offset_of k) w (next_win w h, less_not (λ n. Wins n p) (1 + offset_of k) (λ n. win_lower k p n class w))
      | inr w ↦ (
          let l = drawn_not_won k drawn w in
          distance_lost k p (1 + offset_of k) l (next_loss l h, less_not (λ n. Loses n p) (1 + offset_of k) (λ n. loss_lower k p n class l)))
    ]
