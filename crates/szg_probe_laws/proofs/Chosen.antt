-- The distance by a search of the moves, and the law of exact distances.
use Rattle.std.proofs.Common.{◌≡◌, ℕ, zero, suc, ◌+◌, ◌≤◌, List, map, refl, sym, ap, ◌∙◌, subst, true, false, arith, inl, inr, ◌⊎◌, Option, Some, None}
use Rattle.std.specs.Prelude.{◌==◌}
use Rattle.std.proofs.lemmas.Bool.{cases_Bool}
use Rattle.szg_game.specs.Game.{is_empty, mate, IsWon, IsLost}
use Rattle.szg_game.specs.Certified.{is_won, is_lost}
use Rattle.szg_game.specs.Classes.{level}
use Rattle.szg_game.specs.declared.Class.{Class}
use Rattle.szg_game.specs.declared.Class.TheVariants.{Loss, Win}
use Rattle.szg_game.proofs.Graded.{one_class}
use Rattle.szg_game.proofs.Lists.{IsIn, contains_in, in_map, map_in, first_in, one_in}
use Rattle.szg_game.proofs.Steps.{mate_has_none}
use Rattle.szg_chess.specs.declared.Move.{Move as ChessMove}
use Rattle.szg_chess.specs.Position.{Position, IsPosition}
use Rattle.szg_chess.specs.Moves.{after, is_zeroing, legal_moves}
use Rattle.szg_chess.proofs.AfterMove.{after_is_position}
use Rattle.szg_probe.specs.Chess.{chess, ply_limit, step_of, ChessClass}
use Rattle.szg_probe.specs.Probing.{StoredClasses, AreTrue, all_known}
use Rattle.szg_probe.specs.Distances.{StoredNumbers, offset_of, is_drawn, has_zeroing, stored_distance, distance_by, stays, quiet_distance, least, greatest, searched_distance, probed_distance}
use Rattle.szg_probe.proofs.Probed.{probed_true}
use Rattle.szg_probe_laws.specs.Within.{HasDistance, IsDistanceOf}
use Rattle.szg_probe_laws.specs.Laws.{AreExact}
use Rattle.szg_probe_laws.proofs.Within as within
use Rattle.szg_probe_laws.proofs.Parts.{some_is, known_each, known_back, least_in, least_below, greatest_base, greatest_above, greatest_in, probed_parts, stored_parts, stored_drawn, distance_parts, by_parts, quiet_parts, quiet_zeroing, searched_parts, IsBeside}
use Rattle.szg_probe_laws.proofs.Exact.{Wins, Loses, Step, WinsBy, LosesBy, drawn_not_won, lost_not_won, distance_won, won_distance, distance_lost, lost_distance, win_full, loss_lower, less_not, some_step, mate_of, of_mate, mate_class, clash, zeroing_loses, true_after}
use Rattle.szg_probe_laws.proofs.Searched.{not_less, stays_won, stays_lost, won_stays, lost_stays, loss_not_won, refused, beside_of, stored_exact}

module _ (classes : StoredClasses) (right : AreTrue classes) (numbers : StoredNumbers) (exact : AreExact classes numbers) where
  -- ---- the distance by one move

  module _ (q : Position) (position : IsPosition q) (j : Class) (class : ChessClass q j) (e : ℕ) (by : distance_by classes numbers j q ≡ Some e) where
    lost_upper : is_lost j ≡ true → (mate chess q ≡ true) × (1 ≡ e) ⊎ (d : ℕ) × Loses d q × (1 + d ≡ e)
    lost_upper l = elim (by_parts classes numbers j q e by) [
      | inl r ↦ inl (mate_of q r.0, r.1)
      | inr r ↦ inr (r.1, (lost_distance j q r.1 l (stored_exact classes right q position j class numbers exact r.1 r.2)).0, r.3)
    ]

    lost_lower : is_lost j ≡ true → (n : ℕ) → (mate chess q ≡ true) ⊎ Loses n q → e ≤ suc n
    lost_lower l n h = elim (by_parts classes numbers j q e by) [
      | inl r ↦ (let one = r.1 in omega arith)
      | inr r ↦ elim h [
        | inl m ↦ absurd (clash (of_mate q m) r.0)
        | inr w ↦ (
            let least = (lost_distance j q r.1 l (stored_exact classes right q position j class numbers exact r.1 r.2)).1 in
            let few = not_less r.1 n (λ less. least n less w) in
            let is = r.3 in
            omega arith)
      ]
    ]

    won_upper : is_won j ≡ true → (n : ℕ) → e ≤ suc n → Wins n q
    won_upper w n few = elim (by_parts classes numbers j q e by) [
      | inl r ↦ absurd (loss_not_won j (one_class chess ply_limit q Loss j (mate_class q (mate_of q r.0)) class) w)
      | inr r ↦ (
          let is = r.3 in
          within.win_more chess ply_limit r.1 n q (omega arith) (won_distance j q r.1 w (stored_exact classes right q position j class numbers exact r.1 r.2)).0)
    ]

    won_lower : is_won j ≡ true → (n : ℕ) → Wins n q → e ≤ suc n
    won_lower w n h = elim (by_parts classes numbers j q e by) [
      | inl r ↦ absurd (loss_not_won j (one_class chess ply_limit q Loss j (mate_class q (mate_of q r.0)) class) w)
      | inr r ↦ (
          let least = (won_distance j q r.1 w (stored_exact classes right q position j class numbers exact r.1 r.2)).1 in
          let few = not_less r.1 n (λ less. least n less h) in
          let is = r.3 in
          omega arith)
    ]

  -- ---- by the moves

  module _ (p : Position) (position : IsPosition p) (k : Class) (class : ChessClass p k) (ds : List (Option ℕ)) (known : all_known (map (quiet_distance classes numbers p k) (legal_moves p)) ≡ Some ds) where
    next_position : (m : ChessMove) → IsIn (legal_moves p) m → IsPosition (after p m)
    next_position m i = after_is_position p m position (contains_in (legal_moves p) m i)

    -- a number in the list is that of a quiet move
    record IsListed (d : ℕ) : Type 0 where
      m : ChessMove
      held : IsIn (legal_moves p) m
      quiet : is_zeroing p m ≡ false
      j : Class
      there : ChessClass (after p m) j
      stay : stays k j ≡ true
      by : distance_by classes numbers j (after p m) ≡ Some d

    listed : (d : ℕ) → IsIn ds (Some d) → IsListed d
    listed d i =
        let r = known_back (quiet_distance classes numbers p k) (legal_moves p) ds known (Some d) i in
        let quiet = quiet_zeroing classes numbers p k r.0 d r.2 in
        let s = quiet_parts classes numbers p k r.0 (Some d) quiet r.2 in
        let stay : stays k s.class ≡ true = elim (cases_Bool (stays k s.class)) [ inl t ↦ t | inr f ↦ (let no = s.leaving f in cc) ] in
        let t = s.staying stay in
        record { m = r.0; held = r.1; quiet = quiet; j = s.class; there = true_after classes right p position r.0 s.class r.1 s.there; stay = stay; by = t.2 ∙ t.1 }

    -- a quiet move that stays won or lost is in the list
    in_list : (m : ChessMove) → IsIn (legal_moves p) m → is_zeroing p m ≡ false → (((j : Class) → ChessClass (after p m) j → stays k j ≡ true)) →
        (d : ℕ) × IsIn ds (Some d) × (j : Class) × ChessClass (after p m) j × (stays k j ≡ true) × (distance_by classes numbers j (after p m) ≡ Some d)
    in_list m i quiet stay =
        let r = known_each (quiet_distance classes numbers p k) (legal_moves p) ds known m i in
        let s = quiet_parts classes numbers p k m r.0 quiet r.2 in
        let there = true_after classes right p position m s.class i s.there in
        let t = s.staying (stay s.class there) in
        (t.0, subst (λ (o : Option ℕ). IsIn ds o) (sym t.1) r.1, s.class, there, stay s.class there, t.2)

    step_in : (m : ChessMove) → IsIn (legal_moves p) m → IsIn (chess.moves p) (step_of p m)
    step_in m i = in_map (step_of p) (legal_moves p) m i

    -- ---- a win

    win_upper : is_won k ≡ true → (d : ℕ) → least ds ≡ Some d → Wins d p
    win_upper w d e =
        let r = listed d (least_in ds d e) in
        elim (lost_upper (after p r.m) (next_position r.m r.held) r.j r.there d r.by (stays_won k r.j w r.stay)) [
          | inl h ↦ subst (λ (n : ℕ). Wins n p) h.1 (within.win_step chess ply_limit 0 p (step_of p r.m) (step_in r.m r.held) (inl h.0))
          | inr h ↦ (
              let is = h.2 in
              within.win_more chess ply_limit (suc h.0) d p (omega arith) (within.win_step chess ply_limit h.0 p (step_of p r.m) (step_in r.m r.held) (inr (inr (r.quiet, h.1)))))
        ]

    quiet_win : is_won k ≡ true → (d : ℕ) → least ds ≡ Some d → (n : ℕ) (m : ChessMove) → IsIn (legal_moves p) m → is_zeroing p m ≡ false → (mate chess (after p m) ≡ true) ⊎ Loses n (after p m) → d ≤ suc n
    quiet_win w d e n m i quiet h =
        let lost : IsLost chess None 0 (after p m) = elim h [
          | inl t ↦ within.mated_lost chess ply_limit (after p m) t
          | inr l ↦ within.lost_within chess ply_limit n (after p m) l
        ] in
        let r = in_list m i quiet (λ j there. won_stays k j w (within.of_lost chess ply_limit j (after p m) there lost)) in
        let below = least_below ds d r.0 e r.1 in
        let few = lost_lower (after p m) (next_position m i) r.2 r.3 r.0 r.5 (stays_won k r.2 w r.4) n h in
        omega arith

    win_core : is_won k ≡ true → has_zeroing classes p k ≡ Some false → (d : ℕ) → least ds ≡ Some d → (n : ℕ) → Wins (suc n) p → (d ≤ suc n) ⊎ ((k ≡ Win) × (100 ≤ n))
    win_core w none d e n h =
        let r = within.win_parts chess ply_limit n p h in
        let s = map_in (step_of p) (legal_moves p) r.0 r.1 in
        elim (cases_Bool (is_zeroing p s.0)) [
          | inl z ↦ inr (refused classes right p position k class w none n r.0 r.1 (sym (ap (λ (x : Step). x.1) s.2) ∙ z) r.2)
          | inr z ↦ (
              let by = subst (λ (x : Step). WinsBy n x) (sym s.2) r.2 in
              inl (quiet_win w d e n s.0 s.1 z (elim by [
                | inl t ↦ inl t
                | inr (inl y) ↦ absurd (clash y.0 z)
                | inr (inr q) ↦ inr q.1
              ])))
        ]

    win_below : is_won k ≡ true → has_zeroing classes p k ≡ Some false → (d : ℕ) → least ds ≡ Some d → (n : ℕ) → Wins n p → d ≤ n
    win_below w none d e zero h = absurd (within.win_zero chess ply_limit p h)
    win_below w none d e (suc n) h = elim (win_core w none d e n h) [
      | inl few ↦ few
      | inr r ↦ elim (win_core w none d e 99 (win_full p (subst (ChessClass p) r.0 class))) [
        | inl few ↦ (let many = r.1 in omega arith)
        | inr s ↦ (let no = s.1 in absurd (omega arith))
      ]
    ]

    -- ---- a loss

    abbrev Greatest : ℕ → Type 0
    Greatest d = greatest (1 + offset_of k) ds ≡ d

    won_next : is_lost k ≡ true → (m : ChessMove) → IsIn (legal_moves p) m → IsWon chess None 0 (after p m)
    won_next l m i = elim (within.ever_loss_parts chess ply_limit p (within.lost_of chess ply_limit k p class l)) [
      | inl t ↦ absurd (mate_has_none chess p (step_of p m) t (step_in m i))
      | inr r ↦ r.1 (step_of p m) (step_in m i)
    ]

    loss_move : is_lost k ≡ true → (d n : ℕ) → Greatest d → d ≡ suc n → (m : ChessMove) → IsIn (legal_moves p) m → LosesBy n (step_of p m)
    loss_move l d n e size m i = elim (cases_Bool (is_zeroing p m)) [
      | inl z ↦ (
          let base = greatest_base (1 + offset_of k) ds in
          inl (z, zeroing_loses k p (step_of p m) n class l (step_in m i) z (omega arith)))
      | inr z ↦ (
          let r = in_list m i z (λ j there. lost_stays k j (lost_not_won k l) (within.of_won chess ply_limit j (after p m) there (won_next l m i))) in
          let above = greatest_above (1 + offset_of k) ds r.0 r.1 in
          inr (z, won_upper (after p m) (next_position m i) r.2 r.3 r.0 r.5 (stays_lost k r.2 (lost_not_won k l) r.4) n (omega arith)))
    ]

    loss_upper : is_lost k ≡ true → (x : Step) → IsIn (chess.moves p) x → (d n : ℕ) → Greatest d → d ≡ suc n → Loses (suc n) p
    loss_upper l x i d n e size = within.loss_step chess ply_limit n p (some x i) (λ y j.
        let s = map_in (step_of p) (legal_moves p) y j in
        subst (λ (z : Step). LosesBy n z) s.2 (loss_move l d n e size s.0 s.1))
      where
        some : (x : Step) → IsIn (chess.moves p) x → is_empty (chess.moves p) ≡ false
        some x i = one_in (chess.moves p) x i

    loss_below : is_lost k ≡ true → (d : ℕ) → Greatest d → (n : ℕ) → Loses n p → d ≤ n
    loss_below l d e zero h = absurd (within.loss_zero chess ply_limit p h)
    loss_below l d e (suc n) h = elim (greatest_in (1 + offset_of k) ds) [
      | inl base ↦ (let low = loss_lower k p (suc n) class l h in omega arith)
      | inr i ↦ (
          let r = listed (greatest (1 + offset_of k) ds) i in
          let q = after p r.m in
          let won = stays_lost k r.j (lost_not_won k l) r.stay in
          elim (within.loss_parts chess ply_limit n p h) [
            | inl t ↦ absurd (mate_has_none chess p (step_of p r.m) t (step_in r.m r.held))
            | inr s ↦ elim (s.1 (step_of p r.m) (step_in r.m r.held)) [
              | inl y ↦ absurd (clash y.0 r.quiet)
              | inr y ↦ (let few = won_lower q (next_position r.m r.held) r.j r.there (greatest (1 + offset_of k) ds) r.by won n y.1 in omega arith)
            ]
          ])
    ]

  -- ---- the law

  searched_exact : (p : Position) → IsPosition p → (k : Class) → ChessClass p k → (d : ℕ) → stored_distance classes numbers p k ≡ Some None → searched_distance classes numbers p k ≡ Some d → HasDistance chess ply_limit p k d
  searched_exact p position k class d none h =
      let r = searched_parts classes numbers p k d h in
      let drawn : is_drawn k ≡ false = elim (cases_Bool (is_drawn k)) [ inl t ↦ (let no = stored_drawn classes numbers p k None t none in cc) | inr f ↦ f ] in
      let beside : IsBeside classes p k false = elim (stored_parts classes numbers p k None drawn none) [ inl s ↦ (let no = s.1 in cc) | inr s ↦ beside_of classes right p position k class numbers exact s.next ] in
      elim (cases_Bool (is_won k)) [
        | inl w ↦ (
            let zeroing : has_zeroing classes p k ≡ Some false = elim (cases_Bool (level beside.class == level k)) [ inl t ↦ beside.zeroing t w | inr f ↦ (let no = beside.differs f in cc) ] in
            let e = rw w at (r.2) in
            distance_won k p d w (win_upper p position k class r.0 r.1 w d e, less_not (λ n. Wins n p) d (win_below p position k class r.0 r.1 w zeroing d e)))
        | inr w ↦ (
            let l = drawn_not_won k drawn w in
            let e = some_is _ _ (rw w at (r.2)) in
            let x = first_in (chess.moves p) (some_step p beside.some) in
            distance_lost k p d l (by_size p position k class r.0 r.1 l x.0 x.1 d e, less_not (λ n. Loses n p) d (loss_below p position k class r.0 r.1 l d e)))
      ]
    where
      by_size : (p : Position) (position : IsPosition p) (k : Class) (class : ChessClass p k) (ds : List (Option ℕ)) (known : all_known (map (quiet_distance classes numbers p k) (legal_moves p)) ≡ Some ds) → is_lost k ≡ true →
          (x : Step) → IsIn (chess.moves p) x → (d : ℕ) → greatest (1 + offset_of k) ds ≡ d → Loses d p
      by_size p position k class ds known l x i zero e = let base = greatest_base (1 + offset_of k) ds in absurd (omega arith)
      by_size p position k class ds known l x i (suc n) e = loss_upper p position k class ds known l x i (suc n) n e refl

  pub probed_exact : (p : Position) (k : Class) (d : ℕ) → IsPosition p → probed_distance classes numbers p ≡ Some (k, d) → ChessClass p k × HasDistance chess ply_limit p k d × IsDistanceOf ply_limit k d
  probed_exact p k d position h =
      let r = probed_parts classes numbers p k d h in
      let class = probed_true classes p k right position r.0 in
      let distance : HasDistance chess ply_limit p k d = elim (distance_parts classes numbers p k d r.1) [
        | inl s ↦ stored_exact classes right p position k class numbers exact d s
        | inr s ↦ searched_exact p position k class d s.0 s.1
      ] in
      (class, distance, within.class_distance chess ply_limit (omega arith) k p d class distance)
