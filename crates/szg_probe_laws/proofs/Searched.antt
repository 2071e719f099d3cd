-- Probed distances by a stored number, and by a search.
use Rattle.std.proofs.Common.{◌≡◌, ℕ, zero, suc, ◌+◌, ◌<◌, ◌≤◌, List, [], ◌∷◌, map, length, refl, sym, ap, ◌∙◌, subst, true, false, arith, inl, inr, ◌⊎◌, Option, Some, None}
use Rattle.std.specs.Prelude.{◌==◌, not}
use Rattle.std.specs.List.{list_any, list_all}
use Rattle.std.proofs.lemmas.Bool.{cases_Bool, eqb-true, eq-eqb, or_from, and_parts, not-true, false_from_ne_true}
use Rattle.szg_game.specs.Game.{IsLost}
use Rattle.szg_game.specs.Certified.{is_won, is_lost}
use Rattle.szg_game.specs.Classes.{level, negate}
use Rattle.szg_game.specs.declared.Class.{Class}
use Rattle.szg_game.specs.declared.Class.TheVariants.{Loss, BlessedLoss, Draw, CursedWin, Win}
use Rattle.szg_game.proofs.Graded.{level-injective, one_class}
use Rattle.szg_game.proofs.Lists.{IsIn, in_map, map_in, each_in, first_in}
use Rattle.szg_game.proofs.Steps.{mate_has_none}
use Rattle.szg_chess.specs.declared.Move.{Move as ChessMove}
use Rattle.szg_chess.specs.Position.{Position, IsPosition}
use Rattle.szg_chess.specs.Moves.{is_capture, is_en_passant, is_zeroing, legal_moves, has_no_move}
use Rattle.szg_probe.specs.Chess.{chess, ply_limit, step_of, ChessClass, without_right}
use Rattle.szg_probe.specs.Probing.{StoredClasses, AreTrue, has_only_captures, probed}
use Rattle.szg_probe.specs.Distances.{StoredNumbers, offset_of, is_drawn, is_known_true, keeps_by_zeroing, has_zeroing, is_next, stored_distance, stays}
use Rattle.szg_probe.proofs.Beside.{none_of, none_in_any}
use Rattle.szg_probe.proofs.Known.{all_known_some}
use Rattle.szg_probe.proofs.WithoutRight.{is_plain, position_without, plain_after}
use Rattle.szg_probe.proofs.Probed.{probed_true}
use Rattle.szg_probe_laws.specs.Within.{HasDistance}
use Rattle.szg_probe_laws.specs.Laws.{AreExact}
use Rattle.szg_probe_laws.proofs.Within as within
use Rattle.szg_probe_laws.proofs.Parts.{some_is, map_parts, known_each, counted, stored_parts, stored_drawn, keeps_parts, any_false, IsBeside, next_parts}
use Rattle.szg_probe_laws.proofs.Exact.{Wins, Loses, Step, WinsBy, drawn_not_won, distance_won, won_distance, distance_lost, lost_distance, distance_drawn, win_full, zeroing_won, some_step, mate_class, split, widen_move, quiet_move, plain_some, wins_widen, loses_narrow, no_equal, clash, zeroing_loses, true_after, next_exact}

pub not_less : (a b : ℕ) → (b < a → ⊥) → a ≤ b
not_less a b h = grind arith

one_length : {A : Type 0} (xs : List A) (x : A) → IsIn xs x → (length xs == 0) ≡ false
one_length [] x i = absurd i
one_length (y ∷ xs) x i = false_from_ne_true (length (y ∷ xs) == 0) (λ e. let none = eqb-true (length (y ∷ xs)) 0 e in omega arith)

-- the position without the right has the same zeroing moves but for those en passant
plain_zeroing : (p : Position) (m : ChessMove) → is_plain p m ≡ true → is_zeroing p m ≡ is_zeroing (without_right p) m
unfolding is_en_passant
plain_zeroing p m plain = cc (not-true (is_en_passant p m) plain)

plain_taking : (p : Position) (m : ChessMove) → is_plain p m ≡ true → is_capture p m ≡ is_capture (without_right p) m
unfolding is_en_passant
plain_taking p m plain = cc (not-true (is_en_passant p m) plain)

plain_keeps : (classes : StoredClasses) (p : Position) (k : Class) (m : ChessMove) → is_plain p m ≡ true → keeps_by_zeroing classes p k m ≡ keeps_by_zeroing classes (without_right p) k m
unfolding keeps_by_zeroing
plain_keeps classes p k m plain = cc (plain_after p m plain, plain_zeroing p m plain)

is_next_of : (classes : StoredClasses) (q : Position) (k : Class) → has_no_move q ≡ false → has_only_captures q ≡ false → probed classes (without_right q) ≡ Some k → (is_won k ≡ true → has_zeroing classes q k ≡ Some false) → is_next classes q k ≡ Some false
is_next_of classes q k some others there zeroing =
    let unlike = or_from (has_no_move q) (has_only_captures q) some others in
    let same = eq-eqb (level k) (level k) refl in
    elim (cases_Bool (is_won k)) [
      | inl w ↦ rw (unlike, there, same, w) (zeroing w)
      | inr w ↦ rw (unlike, there, same, w) refl
    ]

pub stays_won : (k j : Class) → is_won k ≡ true → stays k j ≡ true → is_lost j ≡ true
stays_won k j w s = rw w at s

pub stays_lost : (k j : Class) → is_won k ≡ false → stays k j ≡ true → is_won j ≡ true
stays_lost k j w s = rw w at s

pub won_stays : (k j : Class) → is_won k ≡ true → is_lost j ≡ true → stays k j ≡ true
won_stays k j w l = rw w l

pub lost_stays : (k j : Class) → is_won k ≡ false → is_won j ≡ true → stays k j ≡ true
lost_stays k j w l = rw w l

pub loss_not_won : (j : Class) → Loss ≡ j → is_won j ≡ true → ⊥
loss_not_won j e w = clash w (sym (ap is_won e))

module _ (classes : StoredClasses) (right : AreTrue classes) (p : Position) (position : IsPosition p) (k : Class) (class : ChessClass p k) where
  -- if no zeroing move keeps a win, one can only be to a cursed win beside a win
  pub refused : is_won k ≡ true → has_zeroing classes p k ≡ Some false → (n : ℕ) (x : Step) → IsIn (chess.moves p) x → x.1 ≡ true → WinsBy n x → (k ≡ Win) × (100 ≤ n)
  refused e none n x i z w =
      let r = map_in (step_of p) (legal_moves p) x i in
      let m = r.0 in
      let f = any_false classes (map (keeps_by_zeroing classes p k) (legal_moves p)) none in
      let s = known_each (keeps_by_zeroing classes p k) (legal_moves p) f.1 f.2 m r.1 in
      let zeroing : is_zeroing p m ≡ true = ap (λ (y : Step). y.1) r.2 ∙ z in
      let not_kept = none_in_any is_known_true (map (keeps_by_zeroing classes p k) (legal_moves p)) f.0 (keeps_by_zeroing classes p k m) (in_map (keeps_by_zeroing classes p k) (legal_moves p) m r.1) in
      let t = keeps_parts classes p k m s.0 s.2 zeroing in
      let is_false : s.0 ≡ false = sym (ap is_known_true s.2) ∙ not_kept in
      go k class e t.0 (subst (λ (q : Position). ChessClass q t.0) (ap (λ (y : Step). y.0) r.2) (true_after classes right p position m t.0 r.1 t.1)) (t.2 ∙ is_false)
      (elim w [
        | inl g ↦ inl (mate_class x.0 g)
        | inr (inl y) ↦ elim y.1 [ inl l ↦ inl l | inr l ↦ inr l ]
        | inr (inr q) ↦ absurd (clash z q.0)
      ])
    where
      go : (k : Class) → ChessClass p k → is_won k ≡ true → (j : Class) → ChessClass x.0 j → (level j == level (negate k)) ≡ false → IsLost chess (Some ply_limit) 0 x.0 ⊎ ((100 ≤ n) × IsLost chess None 0 x.0) → (k ≡ Win) × (100 ≤ n)
      go Win c e j there unlike (inl l) = absurd (no_equal j Loss (one_class chess ply_limit x.0 j Loss there l) unlike)
      go Win c e j there unlike (inr l) = (refl, l.0)
      go CursedWin c e j there unlike (inl l) = absurd (c.1 (zeroing_won p x i z l))
      go CursedWin c e j there unlike (inr l) = absurd (cursed j there (within.of_lost chess ply_limit j x.0 there l.1) unlike)
        where
          cursed : (j : Class) → ChessClass x.0 j → is_lost j ≡ true → (level j == level BlessedLoss) ≡ false → ⊥
          cursed Win t l f = cc
          cursed CursedWin t l f = cc
          cursed Draw t l f = cc
          cursed BlessedLoss t l f = no_equal BlessedLoss BlessedLoss refl f
          cursed Loss t l f = c.1 (zeroing_won p x i z t)
      go Draw c e j there unlike h = absurd (cc)
      go BlessedLoss c e j there unlike h = absurd (cc)
      go Loss c e j there unlike h = absurd (cc)

  module _ (numbers : StoredNumbers) (exact : AreExact classes numbers) where
    -- by a stored number: that of the position without the right
    module _ (n : ℕ) (drawn : is_drawn k ≡ false) (beside : IsBeside classes p k false) (stored : numbers p.placed_men p.mover k ≡ Some (Some n)) where
      same_level : (level beside.class == level k) ≡ true
      same_level = elim (cases_Bool (level beside.class == level k)) [ inl t ↦ t | inr f ↦ (let unlike = beside.differs f in cc) ]

      probed_without : probed classes (without_right p) ≡ Some k
      probed_without = beside.there ∙ ap (λ (j : Class). Some j) (level-injective beside.class k (eqb-true (level beside.class) (level k) same_level))

      class_without : ChessClass (without_right p) k
      class_without = probed_true classes (without_right p) k right (position_without p position) probed_without

      none_without : is_won k ≡ true → has_zeroing classes (without_right p) k ≡ Some false
      none_without e =
          let f = any_false classes (map (keeps_by_zeroing classes p k) (legal_moves p)) (beside.zeroing same_level e) in
          let at = λ (m : ChessMove) (i : IsIn (legal_moves (without_right p)) m). plain_keeps classes p k m (widen_move p position m i).1 in
          let all = all_known_some (keeps_by_zeroing classes (without_right p) k) (legal_moves (without_right p)) (λ m i.
          let s = known_each (keeps_by_zeroing classes p k) (legal_moves p) f.1 f.2 m (widen_move p position m i).0 in
          (s.0, sym (at m i) ∙ s.2)) in
          let none : list_any is_known_true (map (keeps_by_zeroing classes (without_right p) k) (legal_moves (without_right p))) ≡ false =
          none_of is_known_true (map (keeps_by_zeroing classes (without_right p) k) (legal_moves (without_right p))) (λ o i.
          let r = map_in (keeps_by_zeroing classes (without_right p) k) (legal_moves (without_right p)) o i in
          let held = widen_move p position r.0 r.1 in
          sym (ap is_known_true (at r.0 r.1 ∙ r.2)) ∙ none_in_any is_known_true (map (keeps_by_zeroing classes p k) (legal_moves p)) f.0 (keeps_by_zeroing classes p k r.0) (in_map (keeps_by_zeroing classes p k) (legal_moves p) r.0 held.0)) in
          rw (none, all.1) refl

      next_without : is_next classes (without_right p) k ≡ Some false
      next_without =
          let r = quiet_move p position beside.some beside.others in
          let plain = (widen_move p position r.0 r.1).1 in
          is_next_of classes (without_right p) k (one_length (legal_moves (without_right p)) r.0 r.1)
          (false_from_ne_true (has_only_captures (without_right p)) (λ only.
          let all = (and_parts (not (has_no_move (without_right p))) (list_all (is_capture (without_right p)) (legal_moves (without_right p))) only).1 in
          clash (each_in (is_capture (without_right p)) (legal_moves (without_right p)) all r.0 r.1) (sym (plain_taking p r.0 plain) ∙ r.2)))
          probed_without none_without

      least_without : HasDistance chess ply_limit (without_right p) k (counted k n)
      least_without = exact (without_right p) k n (position_without p position) refl probed_without drawn next_without stored

      stored_win : is_won k ≡ true → HasDistance chess ply_limit p k (counted k n)
      stored_win e =
          let d = won_distance k (without_right p) (counted k n) e least_without in
          distance_won k p (counted k n) e (wins_widen p position (counted k n) d.0, λ i less w. below d.1 i less w)
        where
          below : ((i : ℕ) → i < counted k n → ¬ Wins i (without_right p)) → (i : ℕ) → i < counted k n → Wins i p → ⊥
          below not zero less w = within.win_zero chess ply_limit p w
          below not (suc i) less w =
              let r = within.win_parts chess ply_limit i p w in
              elim (split p position r.0 r.1) [
                | inl h ↦ not (suc i) less (within.win_step chess ply_limit i (without_right p) r.0 h r.2)
                | inr z ↦ (
                    let f = refused e (beside.zeroing same_level e) i r.0 r.1 z r.2 in
                    let full = win_full (without_right p) (subst (ChessClass (without_right p)) f.0 class_without) in
                    let many = f.1 in
                    not 100 (omega arith) full)
              ]

      stored_loss : is_lost k ≡ true → HasDistance chess ply_limit p k (counted k n)
      stored_loss e =
          let some = plain_some p position beside.some beside.others in
          let d = lost_distance k (without_right p) (counted k n) e least_without in
          let l : Loses (suc (n + offset_of k)) (without_right p) = within.loss_more chess ply_limit (counted k n) (suc (n + offset_of k)) (without_right p) (omega arith) d.0 in
          let whole : Loses (suc (n + offset_of k)) p = elim (within.loss_parts chess ply_limit (n + offset_of k) (without_right p) l) [
            | inl m ↦ (let r = first_in (chess.moves (without_right p)) some in absurd (mate_has_none chess (without_right p) r.0 m r.1))
            | inr r ↦ within.loss_step chess ply_limit (n + offset_of k) p (some_step p beside.some) (λ x i. elim (split p position x i) [
              | inl h ↦ r.1 x h
              | inr z ↦ inl (z, zeroing_loses k p x (n + offset_of k) class e i z (omega arith))
            ])
          ] in
          distance_lost k p (counted k n) e (within.loss_more chess ply_limit (suc (n + offset_of k)) (counted k n) p (omega arith) whole, λ i less w. d.1 i less (loses_narrow p position some i w))

    pub beside_of : is_next classes p k ≡ Some false → IsBeside classes p k false
    beside_of h = elim (next_parts classes p k false h) [ inl r ↦ (let unlike = r.0 in cc) | inr b ↦ b ]

    pub stored_exact : (d : ℕ) → stored_distance classes numbers p k ≡ Some (Some d) → HasDistance chess ply_limit p k d
    stored_exact d h = elim (cases_Bool (is_drawn k)) [
      | inl t ↦ subst (HasDistance chess ply_limit p k) (some_is _ _ (stored_drawn classes numbers p k (Some d) t h)) (distance_drawn k p t)
      | inr f ↦ elim (stored_parts classes numbers p k (Some d) f h) [
        | inl r ↦ subst (HasDistance chess ply_limit p k) (some_is _ _ r.1) (next_exact classes right p position k class f r.0)
        | inr r ↦ (
            let s = map_parts (counted k) r.number d r.is in
            let there = r.stored ∙ ap (λ (o : Option ℕ). Some o) s.1 in
            subst (HasDistance chess ply_limit p k) s.2 (elim (cases_Bool (is_won k)) [
              | inl w ↦ stored_win s.0 f (beside_of r.next) there w
              | inr w ↦ stored_loss s.0 f (beside_of r.next) there (drawn_not_won k f w)
            ]))
      ]
    ]
