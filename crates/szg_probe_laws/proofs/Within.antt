-- What a player forces within n plies, and from a counter.
use Rattle.std.proofs.Common.{ℕ, zero, suc, ◌+◌, Bool, true, false, ◌≡◌, ◌<◌, ◌≤◌, ◌⊎◌, inl, inr, refl, arith, Some, None}
use Rattle.szg_game.specs.Game.{Move, Game, is_empty, mate, counter_after, goes_on, wins, loses, IsWon, IsLost, HasClass}
use Rattle.szg_game.specs.Certified.{is_won, is_lost}
use Rattle.szg_game.specs.declared.Class.{Class}
use Rattle.szg_game.specs.declared.Class.TheVariants.{Loss, BlessedLoss, Draw, CursedWin, Win}
use Rattle.szg_game.proofs.Tests.{ltb_true, true_ltb}
use Rattle.szg_game.proofs.Lists.{IsIn, in_contains, contains_in, common}
use Rattle.szg_game.proofs.Refusing.{not_both}
use Rattle.szg_game.proofs.Steps.{Wins, Loses, wins_step, wins_parts, wins_not_zero, loses_mate, loses_step, loses_zero, loses_parts}
use Rattle.szg_game.proofs.Monotone.{roomier_counter, roomier_ever, wins_more, loses_more}
use Rattle.szg_probe_laws.specs.Within.{IsLostWith, IsWonWith, WinsWithin, LosesWithin, HasDistance, IsDistanceOf}

module _ {P : Type 0} (game : Game P) (limit : ℕ) where
  -- a move that wins, with n plies left after it
  abbrev pub WinsBy : ℕ → Move P → Type 0
  WinsBy n m = (mate game m.0 ≡ true) ⊎ (((m.1 ≡ true) × IsLostWith game limit n m.0) ⊎ ((m.1 ≡ false) × LosesWithin game limit n m.0))

  -- a move that loses
  abbrev pub LosesBy : ℕ → Move P → Type 0
  LosesBy n m = ((m.1 ≡ true) × IsWonWith game limit n m.0) ⊎ ((m.1 ≡ false) × WinsWithin game limit n m.0)

  pub win_step : (n : ℕ) (p : P) (m : Move P) → IsIn (game.moves p) m → WinsBy n m → WinsWithin game limit (suc n) p
  unfolding WinsWithin
  win_step n p m i w = (m, contains_in (game.moves p) m i, w)

  pub win_parts : (n : ℕ) (p : P) → WinsWithin game limit (suc n) p → (m : Move P) × IsIn (game.moves p) m × WinsBy n m
  unfolding WinsWithin
  win_parts n p w = (w.0, in_contains (game.moves p) w.0 w.1, w.2)

  pub win_zero : (p : P) → WinsWithin game limit zero p → ⊥
  unfolding WinsWithin
  win_zero p w = w

  pub loss_mate : (n : ℕ) (p : P) → mate game p ≡ true → LosesWithin game limit (suc n) p
  unfolding LosesWithin
  loss_mate n p e = inl e

  pub loss_step : (n : ℕ) (p : P) → is_empty (game.moves p) ≡ false → ((m : Move P) → IsIn (game.moves p) m → LosesBy n m) → LosesWithin game limit (suc n) p
  unfolding LosesWithin
  loss_step n p e each = inr (e, λ m c. each m (in_contains (game.moves p) m c))

  pub loss_parts : (n : ℕ) (p : P) → LosesWithin game limit (suc n) p → (mate game p ≡ true) ⊎ ((is_empty (game.moves p) ≡ false) × ((m : Move P) → IsIn (game.moves p) m → LosesBy n m))
  unfolding LosesWithin
  loss_parts n p (inl e) = inl e
  loss_parts n p (inr h) = inr (h.0, λ m i. h.1 m (contains_in (game.moves p) m i))

  pub loss_zero : (p : P) → LosesWithin game limit zero p → ⊥
  unfolding LosesWithin
  loss_zero p l = l

  pub win_positive : (n : ℕ) (p : P) → WinsWithin game limit n p → 0 < n
  win_positive zero p w = absurd (win_zero p w)
  win_positive (suc n) p w = omega arith

  pub loss_positive : (n : ℕ) (p : P) → LosesWithin game limit n p → 0 < n
  loss_positive zero p l = absurd (loss_zero p l)
  loss_positive (suc n) p l = omega arith

  -- ---- more plies

  mutual
    pub win_more : (n k : ℕ) (p : P) → n ≤ k → WinsWithin game limit n p → WinsWithin game limit k p
    win_more zero k p h w = absurd (win_zero p w)
    win_more (suc n) zero p h w = absurd (omega arith)
    win_more (suc n) (suc k) p h w =
        let r = win_parts n p w in
        win_step k p r.0 r.1 (elim r.2 [
          | inl e ↦ inl e
          | inr (inl z) ↦ inr (inl (z.0, elim z.1 [ inl l ↦ inl l | inr l ↦ (let few = l.0 in inr (omega arith, l.1)) ]))
          | inr (inr q) ↦ inr (inr (q.0, loss_more n k r.0.0 (omega arith) q.1))
        ])

    pub loss_more : (n k : ℕ) (p : P) → n ≤ k → LosesWithin game limit n p → LosesWithin game limit k p
    loss_more zero k p h l = absurd (loss_zero p l)
    loss_more (suc n) zero p h l = absurd (omega arith)
    loss_more (suc n) (suc k) p h l =
        elim (loss_parts n p l) [
          | inl e ↦ loss_mate k p e
          | inr r ↦ loss_step k p r.0 (λ m i. elim (r.1 m i) [
            | inl z ↦ inl (z.0, elim z.1 [ inl w ↦ inl w | inr w ↦ (let few = w.0 in inr (omega arith, w.1)) ])
            | inr q ↦ inr (q.0, win_more n k m.0 (omega arith) q.1)
          ])
        ]

  -- ---- with the limit

  abbrev Goes : ℕ → Type 0
  Goes c = goes_on (Some limit) c ≡ true

  won_after : (c n : ℕ) (q : P) (z : Bool) → c + suc n ≤ limit → z ≡ true → IsLostWith game limit n q → (k : ℕ) × Wins game (Some limit) k c (q, z)
  won_after c n q true room e (inl l) = (l.0, inr (true_ltb _ _ (omega arith), l.1))
  won_after c n q true room e (inr l) = let few = l.0 in absurd (omega arith)
  won_after c n q false room e l = absurd (cc)

  lost_after : (c n : ℕ) (q : P) (z : Bool) → c + suc n ≤ limit → z ≡ true → IsWonWith game limit n q → (k : ℕ) × Loses game (Some limit) k c (q, z)
  lost_after c n q true room e (inl l) = (l.0, (true_ltb _ _ (omega arith), l.1))
  lost_after c n q true room e (inr l) = let few = l.0 in absurd (omega arith)
  lost_after c n q false room e l = absurd (cc)

  won_quiet : (c n : ℕ) (q : P) (z : Bool) → c + suc n ≤ limit → 0 < n → z ≡ false → IsLost game (Some limit) (c + 1) q → (k : ℕ) × Wins game (Some limit) k c (q, z)
  won_quiet c n q true room more e l = absurd (cc)
  won_quiet c n q false room more e l = (l.0, inr (true_ltb _ _ (omega arith), l.1))

  lost_quiet : (c n : ℕ) (q : P) (z : Bool) → c + suc n ≤ limit → 0 < n → z ≡ false → IsWon game (Some limit) (c + 1) q → (k : ℕ) × Loses game (Some limit) k c (q, z)
  lost_quiet c n q true room more e l = absurd (cc)
  lost_quiet c n q false room more e l = (l.0, (true_ltb _ _ (omega arith), l.1))

  more_loses : (c : ℕ) (k n : ℕ) (m : Move P) → k ≤ n → Loses game (Some limit) k c m → Loses game (Some limit) n c m
  more_loses c k n m le h = (h.0, wins_more game (Some limit) (Some limit) k n _ _ m.0 le (roomier_counter (Some limit) _ _ (omega arith)) h.1)

  mutual
    pub won_from : (n c : ℕ) (p : P) → c + n ≤ limit → WinsWithin game limit n p → IsWon game (Some limit) c p
    won_from zero c p room w = absurd (win_zero p w)
    won_from (suc n) c p room w =
        let r = win_parts n p w in
        elim r.2 [
          | inl e ↦ (1, wins_step game (Some limit) 0 c p r.0 r.1 (inl e))
          | inr (inl z) ↦ (let s = won_after c n r.0.0 r.0.1 room z.0 z.1 in (suc s.0, wins_step game (Some limit) s.0 c p r.0 r.1 s.1))
          | inr (inr q) ↦ (
              let l = lost_from n (c + 1) r.0.0 (omega arith) q.1 in
              let s = won_quiet c n r.0.0 r.0.1 room (loss_positive n r.0.0 q.1) q.0 l in
              (suc s.0, wins_step game (Some limit) s.0 c p r.0 r.1 s.1))
        ]

    pub lost_from : (n c : ℕ) (p : P) → c + n ≤ limit → LosesWithin game limit n p → IsLost game (Some limit) c p
    lost_from zero c p room l = absurd (loss_zero p l)
    lost_from (suc n) c p room l =
        elim (loss_parts n p l) [
          | inl e ↦ (0, loses_mate game (Some limit) 0 c p e)
          | inr r ↦ (
              let all = common (λ k m. Loses game (Some limit) k c m) (more_loses c) (game.moves p) (λ m i. elim (r.1 m i) [
                | inl z ↦ lost_after c n m.0 m.1 room z.0 z.1
                | inr q ↦ lost_quiet c n m.0 m.1 room (win_positive n m.0 q.1) q.0 (won_from n (c + 1) m.0 (omega arith) q.1)
              ]) in
              (suc all.0, loses_step game (Some limit) all.0 c p r.0 all.1))
        ]

  win_after : (n c k : ℕ) (q : P) (z : Bool) → goes_on (Some limit) (counter_after z c) ≡ true → loses game (Some limit) n (counter_after z c) q ≡ true →
      (c + 1 < limit → loses game (Some limit) n (c + 1) q ≡ true → LosesWithin game limit k q) → WinsBy k (q, z)
  win_after n c k q true on l quiet = inr (inl (refl, inl (n, l)))
  win_after n c k q false on l quiet = inr (inr (refl, quiet (ltb_true _ _ on) l))

  loss_after : (n c k : ℕ) (q : P) (z : Bool) → goes_on (Some limit) (counter_after z c) ≡ true → wins game (Some limit) n (counter_after z c) q ≡ true →
      (c + 1 < limit → wins game (Some limit) n (c + 1) q ≡ true → WinsWithin game limit k q) → LosesBy k (q, z)
  loss_after n c k q true on w quiet = inl (refl, inl (n, w))
  loss_after n c k q false on w quiet = inr (refl, quiet (ltb_true _ _ on) w)

  mutual
    pub wins_to : (n c k : ℕ) (p : P) → c + k ≡ limit → 0 < k → wins game (Some limit) n c p ≡ true → WinsWithin game limit k p
    wins_to zero c k p room some h = absurd (wins_not_zero game (Some limit) c p h)
    wins_to (suc n) c zero p room some h = absurd (omega arith)
    wins_to (suc n) c (suc k) p room some h =
        let r = wins_parts game (Some limit) n c p h in
        win_step k p r.0 r.1 (elim r.2 [
          | inl e ↦ inl e
          | inr s ↦ win_after n c k r.0.0 r.0.1 s.0 s.1 (λ less l. loses_to n (c + 1) k r.0.0 (omega arith) (omega arith) l)
        ])

    pub loses_to : (n c k : ℕ) (p : P) → c + k ≡ limit → 0 < k → loses game (Some limit) n c p ≡ true → LosesWithin game limit k p
    loses_to zero c zero p room some h = absurd (omega arith)
    loses_to (suc n) c zero p room some h = absurd (omega arith)
    loses_to zero c (suc k) p room some h = loss_mate k p (loses_zero game (Some limit) c p h)
    loses_to (suc n) c (suc k) p room some h =
        elim (loses_parts game (Some limit) n c p h) [
          | inl e ↦ loss_mate k p e
          | inr r ↦ loss_step k p r.0 (λ m i. loss_after n c k m.0 m.1 (r.1 m i).0 (r.1 m i).1 (λ less w. wins_to n (c + 1) k m.0 (omega arith) (omega arith) w))
        ]

  -- ---- without it

  pub lost_ever : (c : ℕ) (q : P) → IsLost game (Some limit) c q → (d : ℕ) → IsLost game None d q
  lost_ever c q l d = (l.0, loses_more game (Some limit) None l.0 l.0 c d q (omega arith) (roomier_ever (Some limit) c d) l.1)

  pub won_ever : (c : ℕ) (q : P) → IsWon game (Some limit) c q → (d : ℕ) → IsWon game None d q
  won_ever c q l d = (l.0, wins_more game (Some limit) None l.0 l.0 c d q (omega arith) (roomier_ever (Some limit) c d) l.1)

  pub lost_at : (c : ℕ) (q : P) → IsLost game None c q → (d : ℕ) → IsLost game None d q
  lost_at c q l d = (l.0, loses_more game None None l.0 l.0 c d q (omega arith) (roomier_ever None c d) l.1)

  pub won_at : (c : ℕ) (q : P) → IsWon game None c q → (d : ℕ) → IsWon game None d q
  won_at c q l d = (l.0, wins_more game None None l.0 l.0 c d q (omega arith) (roomier_ever None c d) l.1)

  pub lost_with : (n : ℕ) (q : P) → IsLostWith game limit n q → (d : ℕ) → IsLost game None d q
  lost_with n q (inl l) d = lost_ever 0 q l d
  lost_with n q (inr l) d = lost_at 0 q l.1 d

  pub won_with : (n : ℕ) (q : P) → IsWonWith game limit n q → (d : ℕ) → IsWon game None d q
  won_with n q (inl l) d = won_ever 0 q l d
  won_with n q (inr l) d = won_at 0 q l.1 d

  -- a move wins, or loses, without the limit
  pub ever_wins : (p : P) (m : Move P) → IsIn (game.moves p) m → IsLost game None 0 m.0 → IsWon game None 0 p
  ever_wins p m i l =
      let d = lost_at 0 m.0 l (counter_after m.1 0) in
      (suc d.0, wins_step game None d.0 0 p m i (inr (refl, d.1)))

  more_loses_ever : (k n : ℕ) (m : Move P) → k ≤ n → Loses game None k 0 m → Loses game None n 0 m
  more_loses_ever k n m le h = (h.0, wins_more game None None k n _ _ m.0 le (roomier_counter None _ _ (omega arith)) h.1)

  pub ever_loses : (p : P) → is_empty (game.moves p) ≡ false → ((m : Move P) → IsIn (game.moves p) m → IsWon game None 0 m.0) → IsLost game None 0 p
  ever_loses p some each =
      let all = common (λ k m. Loses game None k 0 m) more_loses_ever (game.moves p) (λ m i. let d = won_at 0 m.0 (each m i) (counter_after m.1 0) in (d.0, (refl, d.1))) in
      (suc all.0, loses_step game None all.0 0 p some all.1)

  pub mated_lost : (q : P) → mate game q ≡ true → IsLost game None 0 q
  mated_lost q e = (0, loses_mate game None 0 0 q e)

  mutual
    pub won_within : (n : ℕ) (p : P) → WinsWithin game limit n p → IsWon game None 0 p
    won_within zero p w = absurd (win_zero p w)
    won_within (suc n) p w =
        let r = win_parts n p w in
        ever_wins p r.0 r.1 (elim r.2 [
          | inl e ↦ mated_lost r.0.0 e
          | inr (inl z) ↦ lost_with n r.0.0 z.1 0
          | inr (inr q) ↦ lost_within n r.0.0 q.1
        ])

    pub lost_within : (n : ℕ) (p : P) → LosesWithin game limit n p → IsLost game None 0 p
    lost_within zero p l = absurd (loss_zero p l)
    lost_within (suc n) p l =
        elim (loss_parts n p l) [
          | inl e ↦ mated_lost p e
          | inr r ↦ ever_loses p r.0 (λ m i. elim (r.1 m i) [ inl z ↦ won_with n m.0 z.1 0 | inr q ↦ won_within n m.0 q.1 ])
        ]

  -- ---- classes

  pub is_far_win : (n : ℕ) (p : P) → ¬ IsWon game (Some limit) 0 p → WinsWithin game limit n p → limit < n
  is_far_win n p not w = far limit n (λ few. not (won_from n 0 p (omega arith) w))
    where
      far : (a b : ℕ) → (b ≤ a → ⊥) → a < b
      far a b h = grind arith

  pub is_far_loss : (n : ℕ) (p : P) → ¬ IsLost game (Some limit) 0 p → LosesWithin game limit n p → limit < n
  is_far_loss n p not l = far limit n (λ few. not (lost_from n 0 p (omega arith) l))
    where
      far : (a b : ℕ) → (b ≤ a → ⊥) → a < b
      far a b h = grind arith

  not_above : (Q : Type 0) (a b : ℕ) → Q → (a < b → ¬ Q) → b ≤ a
  not_above Q a b q h = grind (arith, h, q)

  pub class_distance : 0 < limit → (k : Class) (p : P) (n : ℕ) → HasClass game limit p k → HasDistance game limit p k n → IsDistanceOf limit k n
  class_distance some Win p n w d = (win_positive n p d.0, not_above (WinsWithin game limit limit p) limit n (wins_to w.0 0 limit p (omega arith) some w.1) (d.1 limit))
  class_distance some CursedWin p n w d = is_far_win n p w.1 d.0
  class_distance some Draw p n w d = d
  class_distance some BlessedLoss p n w d = is_far_loss n p w.1 d.0
  class_distance some Loss p n w d = (loss_positive n p d.0, not_above (LosesWithin game limit limit p) limit n (loses_to w.0 0 limit p (omega arith) some w.1) (d.1 limit))

  -- ---- wins and losses without the limit, and classes

  pub ever_win_parts : (p : P) → IsWon game None 0 p → (m : Move P) × IsIn (game.moves p) m × IsLost game None 0 m.0
  ever_win_parts p (zero, h) = absurd (wins_not_zero game None 0 p h)
  ever_win_parts p (suc n, h) =
      let r = wins_parts game None n 0 p h in
      (r.0, r.1, elim r.2 [ inl e ↦ mated_lost r.0.0 e | inr l ↦ lost_at (counter_after r.0.1 0) r.0.0 (n, l.1) 0 ])

  pub ever_loss_parts : (p : P) → IsLost game None 0 p → (mate game p ≡ true) ⊎ ((is_empty (game.moves p) ≡ false) × ((m : Move P) → IsIn (game.moves p) m → IsWon game None 0 m.0))
  ever_loss_parts p (zero, h) = inl (loses_zero game None 0 p h)
  ever_loss_parts p (suc n, h) = elim (loses_parts game None n 0 p h) [
    | inl e ↦ inl e
    | inr r ↦ inr (r.0, λ m i. won_at (counter_after m.1 0) m.0 (n, (r.1 m i).1) 0)
  ]

  pub won_of : (k : Class) (p : P) → HasClass game limit p k → is_won k ≡ true → IsWon game None 0 p
  won_of Win p c e = won_ever 0 p c 0
  won_of CursedWin p c e = c.0
  won_of Draw p c e = absurd (cc)
  won_of BlessedLoss p c e = absurd (cc)
  won_of Loss p c e = absurd (cc)

  pub lost_of : (k : Class) (p : P) → HasClass game limit p k → is_lost k ≡ true → IsLost game None 0 p
  lost_of Win p c e = absurd (cc)
  lost_of CursedWin p c e = absurd (cc)
  lost_of Draw p c e = absurd (cc)
  lost_of BlessedLoss p c e = c.0
  lost_of Loss p c e = lost_ever 0 p c 0

  pub of_won : (k : Class) (p : P) → HasClass game limit p k → IsWon game None 0 p → is_won k ≡ true
  of_won Win p c w = refl
  of_won CursedWin p c w = refl
  of_won Draw p c w = absurd (c.0 w)
  of_won BlessedLoss p c w = absurd (not_both game None 0 p w c.0)
  of_won Loss p c w = absurd (not_both game None 0 p w (lost_ever 0 p c 0))

  pub of_lost : (k : Class) (p : P) → HasClass game limit p k → IsLost game None 0 p → is_lost k ≡ true
  of_lost Win p c l = absurd (not_both game None 0 p (won_ever 0 p c 0) l)
  of_lost CursedWin p c l = absurd (not_both game None 0 p c.0 l)
  of_lost Draw p c l = absurd (c.1 l)
  of_lost BlessedLoss p c l = refl
  of_lost Loss p c l = refl
