-- The first of the ranked moves keeps the class at the counter.
use Rattle.std.proofs.Common.{◌≡◌, ℕ, zero, suc, ◌+◌, ◌-◌, ◌<◌, ◌≤◌, List, ◌∷◌, refl, sym, subst, Bool, true, false, arith, inl, inr, ◌⊎◌, Option, Some, None}
use Rattle.std.specs.Prelude.{nat_le}
use Rattle.std.proofs.lemmas.Bool.{cases_Bool}
use Rattle.std.proofs.lemmas.Bool.Decides.{nat_tests}
use Rattle.szg_game.specs.Game.{mate, counter_after, IsWon, IsLost}
use Rattle.szg_game.specs.Classes.{negate}
use Rattle.szg_game.specs.declared.Class.{Class}
use Rattle.szg_game.specs.declared.Class.TheVariants.{Loss, BlessedLoss, Draw, CursedWin, Win}
use Rattle.szg_game.proofs.Tests.{ltb_true, true_ltb}
use Rattle.szg_game.proofs.Graded.{one_class}
use Rattle.szg_game.proofs.Lists.{IsIn, contains_in, in_map, map_in, one_in, common}
use Rattle.szg_game.proofs.Monotone.{roomier_counter, wins_more, loses_more}
use Rattle.szg_game.proofs.Refusing.{not_both}
use Rattle.szg_game.proofs.Steps.{Loses, wins_step, wins_parts, wins_not_zero, loses_step, loses_zero, loses_parts, mate_has_none}
use Rattle.szg_chess.specs.declared.Move.{Move as ChessMove}
use Rattle.szg_chess.specs.Position.{Position, IsPosition}
use Rattle.szg_chess.specs.Moves.{after, is_zeroing, legal_moves}
use Rattle.szg_chess.proofs.AfterMove.{after_is_position}
use Rattle.szg_probe.specs.Chess.{chess, ply_limit, step_of, ChessClass}
use Rattle.szg_probe.specs.Probing.{StoredClasses, AreTrue, probed}
use Rattle.szg_probe.specs.Distances.{StoredNumbers, class_at, class_rank, distance_of, move_distance, probed_distance}
use Rattle.szg_probe.specs.declared.assessments.RankedMove.{RankedMove}
use Rattle.szg_probe_laws.specs.Within.{IsLeast, HasDistance}
use Rattle.szg_probe_laws.specs.Laws.{AreExact, AreRanked}
use Rattle.szg_probe_laws.specs.Counter.{HasClassAt, MoveWins, MoveLoses, GivesClass}
use Rattle.szg_probe_laws.proofs.Within as within
use Rattle.szg_probe_laws.proofs.Parts.{move_parts, move_zeroing}
use Rattle.szg_probe_laws.proofs.First.{IsAssessed, true_after, of_ranked, to_ranked, no_better}
use Rattle.szg_probe_laws.proofs.Exact.{Wins, Loses as LosesIn, Step, clash, mate_of, of_mate, mate_class}
use Rattle.szg_probe_laws.proofs.Chosen.{probed_exact}

-- ---- wins and losses at other counters

lower_won : (c : ℕ) (q : Position) → IsWon chess (Some ply_limit) c q → IsWon chess (Some ply_limit) 0 q
lower_won c q w = (w.0, wins_more chess (Some ply_limit) (Some ply_limit) w.0 w.0 c 0 q (omega arith) (roomier_counter (Some ply_limit) c 0 (omega arith)) w.1)

lower_lost : (c : ℕ) (q : Position) → IsLost chess (Some ply_limit) c q → IsLost chess (Some ply_limit) 0 q
lower_lost c q l = (l.0, loses_more chess (Some ply_limit) (Some ply_limit) l.0 l.0 c 0 q (omega arith) (roomier_counter (Some ply_limit) c 0 (omega arith)) l.1)

gives_ever_win : (c : ℕ) (x : Step) → IsLost chess None 0 x.0 → MoveWins chess None c x
gives_ever_win c x l = inr (refl, within.lost_at chess ply_limit 0 x.0 l (counter_after x.1 c))

gives_ever_loss : (c : ℕ) (x : Step) → IsWon chess None 0 x.0 → MoveLoses chess None c x
gives_ever_loss c x w = (refl, within.won_at chess ply_limit 0 x.0 w (counter_after x.1 c))

ever_win_is : (c : ℕ) (x : Step) → MoveWins chess None c x → IsLost chess None 0 x.0
ever_win_is c x (inl m) = within.mated_lost chess ply_limit x.0 m
ever_win_is c x (inr l) = within.lost_at chess ply_limit (counter_after x.1 c) x.0 l.1 0

ever_loss_is : (c : ℕ) (x : Step) → MoveLoses chess None c x → IsWon chess None 0 x.0
ever_loss_is c x l = within.won_at chess ply_limit (counter_after x.1 c) x.0 l.1 0

win_is_ever : (c : ℕ) (x : Step) → MoveWins chess (Some ply_limit) c x → MoveWins chess None c x
win_is_ever c x (inl m) = inl m
win_is_ever c x (inr l) = inr (refl, within.lost_ever chess ply_limit (counter_after x.1 c) x.0 l.1 (counter_after x.1 c))

loss_is_ever : (c : ℕ) (x : Step) → MoveLoses chess (Some ply_limit) c x → MoveLoses chess None c x
loss_is_ever c x l = (refl, within.won_ever chess ply_limit (counter_after x.1 c) x.0 l.1 (counter_after x.1 c))

-- ---- wins and losses by moves

move_win : (limit : Option ℕ) (c : ℕ) (p : Position) (x : Step) → IsIn (chess.moves p) x → MoveWins chess limit c x → IsWon chess limit c p
move_win limit c p x i (inl m) = (1, wins_step chess limit 0 c p x i (inl m))
move_win limit c p x i (inr l) = (suc l.1.0, wins_step chess limit l.1.0 c p x i (inr (l.0, l.1.1)))

won_move : (limit : Option ℕ) (c : ℕ) (p : Position) → IsWon chess limit c p → (x : Step) × IsIn (chess.moves p) x × MoveWins chess limit c x
won_move limit c p (zero, h) = absurd (wins_not_zero chess limit c p h)
won_move limit c p (suc n, h) =
    let r = wins_parts chess limit n c p h in
    (r.0, r.1, elim r.2 [ inl m ↦ inl m | inr l ↦ inr (l.0, (n, l.1)) ])

lost_move : (limit : Option ℕ) (c : ℕ) (p : Position) → IsLost chess limit c p → (x : Step) → IsIn (chess.moves p) x → MoveLoses chess limit c x
lost_move limit c p (zero, h) x i = absurd (mate_has_none chess p x (loses_zero chess limit c p h) i)
lost_move limit c p (suc n, h) x i = elim (loses_parts chess limit n c p h) [
  | inl m ↦ absurd (mate_has_none chess p x m i)
  | inr r ↦ ((r.1 x i).0, (n, (r.1 x i).1))
]

longer : (limit : Option ℕ) (c k n : ℕ) (x : Step) → k ≤ n → Loses chess limit k c x → Loses chess limit n c x
longer limit c k n x le h = (h.0, wins_more chess limit limit k n _ _ x.0 le (roomier_counter limit _ _ (omega arith)) h.1)

all_lose : (limit : Option ℕ) (c : ℕ) (p : Position) (x : Step) → IsIn (chess.moves p) x → ((y : Step) → IsIn (chess.moves p) y → MoveLoses chess limit c y) → IsLost chess limit c p
all_lose limit c p x i each =
    let all = common (λ k y. Loses chess limit k c y) (longer limit c) (chess.moves p) (λ y j. let l = each y j in (l.1.0, (l.0, l.1.1))) in
    (suc all.0, loses_step chess limit all.0 c p (one_in (chess.moves p) x i) all.1)

-- ---- the class that a move gives

not_both_ways : (c : ℕ) (x : Step) → MoveWins chess None c x → MoveLoses chess None c x → ⊥
not_both_ways c x w l = not_both chess None 0 x.0 (ever_loss_is c x l) (ever_win_is c x w)

gives_win : (c : ℕ) (x : Step) (k : Class) → GivesClass chess ply_limit c x k → MoveWins chess (Some ply_limit) c x → class_rank k ≤ 0
gives_win c x Win g w = omega arith
gives_win c x CursedWin g w = absurd (g.1 w)
gives_win c x Draw g w = absurd (g.0 (win_is_ever c x w))
gives_win c x BlessedLoss g w = absurd (not_both_ways c x (win_is_ever c x w) g.0)
gives_win c x Loss g w = absurd (not_both_ways c x (win_is_ever c x w) (loss_is_ever c x g))

gives_won : (c : ℕ) (x : Step) (k : Class) → GivesClass chess ply_limit c x k → MoveWins chess None c x → class_rank k ≤ 1
gives_won c x Win g w = omega arith
gives_won c x CursedWin g w = omega arith
gives_won c x Draw g w = absurd (g.0 w)
gives_won c x BlessedLoss g w = absurd (not_both_ways c x w g.0)
gives_won c x Loss g w = absurd (not_both_ways c x w (loss_is_ever c x g))

gives_lost : (c : ℕ) (x : Step) (k : Class) → GivesClass chess ply_limit c x k → 3 ≤ class_rank k → MoveLoses chess None c x
gives_lost c x Win g h = absurd (omega arith)
gives_lost c x CursedWin g h = absurd (omega arith)
gives_lost c x Draw g h = absurd (omega arith)
gives_lost c x BlessedLoss g h = g.0
gives_lost c x Loss g h = loss_is_ever c x g

gives_loss : (c : ℕ) (x : Step) (k : Class) → GivesClass chess ply_limit c x k → 4 ≤ class_rank k → MoveLoses chess (Some ply_limit) c x
gives_loss c x Win g h = absurd (omega arith)
gives_loss c x CursedWin g h = absurd (omega arith)
gives_loss c x Draw g h = absurd (omega arith)
gives_loss c x BlessedLoss g h = absurd (omega arith)
gives_loss c x Loss g h = g

-- the best of the moves gives the class of the position
best_class : (c : ℕ) (p : Position) (x : Step) → IsIn (chess.moves p) x → (k : Class) → GivesClass chess ply_limit c x k →
    ((y : Step) → IsIn (chess.moves p) y → (j : Class) × GivesClass chess ply_limit c y j × (class_rank k ≤ class_rank j)) → HasClassAt chess ply_limit c p k
best_class c p x i Win g each = move_win (Some ply_limit) c p x i g
best_class c p x i CursedWin g each = (
  move_win None c p x i g.0,
  λ w. let r = won_move (Some ply_limit) c p w in let s = each r.0 r.1 in let few = gives_win c r.0 s.0 s.1 r.2 in let order = s.2 in omega arith,
)
best_class c p x i Draw g each = (
  λ w. let r = won_move None c p w in let s = each r.0 r.1 in let few = gives_won c r.0 s.0 s.1 r.2 in let order = s.2 in omega arith,
  λ l. g.1 (lost_move None c p l x i),
)
best_class c p x i BlessedLoss g each = (
  all_lose None c p x i (λ y j. let s = each y j in gives_lost c y s.0 s.1 s.2),
  λ l. g.1 (lost_move (Some ply_limit) c p l x i),
)
best_class c p x i Loss g each = all_lose (Some ply_limit) c p x i (λ y j. let s = each y j in gives_loss c y s.0 s.1 s.2)

-- ---- what a move gives

within_limit : (a b : ℕ) → nat_le a b ≡ true → a ≤ b
within_limit a b e = grind (arith, nat_tests)

past_limit : (a b : ℕ) → nat_le a b ≡ false → b < a
past_limit a b e = grind (arith, nat_tests)

module _ (c : ℕ) (below : c < 100) (q : Position) (d : ℕ) where
  loses_in : (z : Bool) → ChessClass q Win → (z ≡ false → (n : ℕ) × IsLeast (λ i. Wins i q) n × (1 + n ≡ d)) → d + c ≤ 100 → MoveLoses chess (Some ply_limit) c (q, z)
  loses_in true w quiet room = (true_ltb 0 100 (omega arith), w)
  loses_in false w quiet room =
      let s = quiet refl in
      let is = s.2 in
      let some = within.win_positive chess ply_limit s.0 q s.1.0 in
      (true_ltb (c + 1) 100 (omega arith), within.won_from chess ply_limit s.0 (c + 1) q (omega arith) s.1.0)

  loses_late : (z : Bool) → (z ≡ true → 1 ≡ d) → (z ≡ false → (n : ℕ) × IsLeast (λ i. Wins i q) n × (1 + n ≡ d)) → 100 < d + c → ¬ MoveLoses chess (Some ply_limit) c (q, z)
  loses_late true one quiet far h = let is = one refl in omega arith
  loses_late false one quiet far h =
      let s = quiet refl in
      let is = s.2 in
      let less = ltb_true _ _ h.0 in
      s.1.1 (99 - c) (omega arith) (within.wins_to chess ply_limit h.1.0 (c + 1) (99 - c) q (omega arith) (omega arith) h.1.1)

  wins_in : (z : Bool) → ChessClass q Loss → (z ≡ false → (mate chess q ≡ true) ⊎ ((n : ℕ) × IsLeast (λ i. LosesIn i q) n × (1 + n ≡ d))) → d + c ≤ 100 → MoveWins chess (Some ply_limit) c (q, z)
  wins_in true w quiet room = inr (true_ltb 0 100 (omega arith), w)
  wins_in false w quiet room = elim (quiet refl) [
    | inl m ↦ inl m
    | inr s ↦ (
        let is = s.2 in
        let some = within.loss_positive chess ply_limit s.0 q s.1.0 in
        inr (true_ltb (c + 1) 100 (omega arith), within.lost_from chess ply_limit s.0 (c + 1) q (omega arith) s.1.0))
  ]

  wins_late : (z : Bool) → (z ≡ true → 1 ≡ d) → (z ≡ false → ((mate chess q ≡ true) × (1 ≡ d)) ⊎ ((mate chess q ≡ true → ⊥) × (n : ℕ) × IsLeast (λ i. LosesIn i q) n × (1 + n ≡ d))) → 100 < d + c → ¬ MoveWins chess (Some ply_limit) c (q, z)
  wins_late true one quiet far h = let is = one refl in omega arith
  wins_late false one quiet far h = elim (quiet refl) [
    | inl m ↦ (let is = m.1 in omega arith)
    | inr s ↦ elim h [
      | inl m ↦ s.0 m
      | inr l ↦ (
          let is = s.3 in
          let less = ltb_true _ _ l.0 in
          s.2.1 (99 - c) (omega arith) (within.loses_to chess ply_limit l.1.0 (c + 1) (99 - c) q (omega arith) (omega arith) l.1.1))
    ]
  ]

module _ (classes : StoredClasses) (numbers : StoredNumbers) (c : ℕ) (p : Position) (position : IsPosition p) (right : AreTrue classes) (exact : AreExact classes numbers) (below : c < 100) where
  module _ (m : ChessMove) (i : IsIn (legal_moves p) m) where
    next : IsPosition (after p m)
    next = after_is_position p m position (contains_in (legal_moves p) m i)

    -- the distance after the move
    after_exact : (j : Class) (n : ℕ) → probed classes (after p m) ≡ Some j → distance_of classes numbers (after p m) j ≡ Some n → HasDistance chess ply_limit (after p m) j n
    after_exact j n there e = (probed_exact classes right numbers exact (after p m) j n next (both j n there e)).1
      where
        both : (j : Class) (n : ℕ) → probed classes (after p m) ≡ Some j → distance_of classes numbers (after p m) j ≡ Some n → probed_distance classes numbers (after p m) ≡ Some (j, n)
        both j n there e = rw (there, e) refl

    gives : (j : Class) (d : ℕ) → probed classes (after p m) ≡ Some j → ChessClass (after p m) j → move_distance classes numbers p m j ≡ Some d → GivesClass chess ply_limit c (step_of p m) (class_at c (negate j) d)
    gives Win d there class e =
        let zeroing : is_zeroing p m ≡ true → 1 ≡ d = λ z. move_zeroing classes numbers p m Win d e refl z in
        let quiet : is_zeroing p m ≡ false → (n : ℕ) × IsLeast (λ i. Wins i (after p m)) n × (1 + n ≡ d) = λ z. elim (move_parts classes numbers p m Win d e refl z) [
          | inl r ↦ (let no : Loss ≡ Win = one_class chess ply_limit (after p m) Loss Win (mate_class (after p m) (mate_of (after p m) r.0)) class in absurd (cc))
          | inr r ↦ (r.1, after_exact Win r.1 there r.2, r.3)
        ] in
        elim (cases_Bool (nat_le (d + c) 100)) [
          | inl t ↦ rw t (loses_in c below (after p m) d (is_zeroing p m) class quiet (within_limit (d + c) 100 t))
          | inr f ↦ rw f (gives_ever_loss c (step_of p m) (within.won_ever chess ply_limit 0 (after p m) class 0), loses_late c below (after p m) d (is_zeroing p m) zeroing quiet (past_limit (d + c) 100 f))
        ]
    gives CursedWin d there class e = (gives_ever_loss c (step_of p m) class.0, λ h. class.1 (lower_won (counter_after (is_zeroing p m) c) (after p m) h.1))
    gives Draw d there class e = (λ h. class.1 (ever_win_is c (step_of p m) h), λ h. class.0 (ever_loss_is c (step_of p m) h))
    gives BlessedLoss d there class e = (
      gives_ever_win c (step_of p m) class.0,
      λ h. elim h [
        | inl t ↦ class.1 (mate_class (after p m) t)
        | inr l ↦ class.1 (lower_lost (counter_after (is_zeroing p m) c) (after p m) l.1)
      ],
    )
    gives Loss d there class e =
        let zeroing : is_zeroing p m ≡ true → 1 ≡ d = λ z. move_zeroing classes numbers p m Loss d e refl z in
        let quiet : is_zeroing p m ≡ false → ((mate chess (after p m) ≡ true) × (1 ≡ d)) ⊎ ((mate chess (after p m) ≡ true → ⊥) × (n : ℕ) × IsLeast (λ i. LosesIn i (after p m)) n × (1 + n ≡ d)) =
        λ z. elim (move_parts classes numbers p m Loss d e refl z) [
          | inl r ↦ inl (mate_of (after p m) r.0, r.1)
          | inr r ↦ inr (λ t. clash (of_mate (after p m) t) r.0, r.1, after_exact Loss r.1 there r.2, r.3)
        ] in
        let short : is_zeroing p m ≡ false → (mate chess (after p m) ≡ true) ⊎ ((n : ℕ) × IsLeast (λ i. LosesIn i (after p m)) n × (1 + n ≡ d)) =
        λ z. elim (quiet z) [ inl r ↦ inl r.0 | inr r ↦ inr (r.1, r.2, r.3) ] in
        elim (cases_Bool (nat_le (d + c) 100)) [
          | inl t ↦ rw t (wins_in c below (after p m) d (is_zeroing p m) class short (within_limit (d + c) 100 t))
          | inr f ↦ rw f (gives_ever_win c (step_of p m) (within.lost_ever chess ply_limit 0 (after p m) class 0), wins_late c below (after p m) d (is_zeroing p m) zeroing quiet (past_limit (d + c) 100 f))
        ]

  pub first_class : (first : RankedMove) (rest : List RankedMove) → AreRanked classes numbers c p (first ∷ rest) →
      HasClassAt chess ply_limit c p first.distance.class × GivesClass chess ply_limit c (step_of p first.m) first.distance.class
  first_class first rest are =
      let f = of_ranked classes numbers c p position right first rest are first (contains_in (first ∷ rest) first (inl refl)) in
      let g = given f.0 f.1 first f.2 in
      let best = best_class c p (step_of p f.0) (in_map (step_of p) (legal_moves p) f.0 f.1) first.distance.class g (λ y j.
      let t = map_in (step_of p) (legal_moves p) y j in
      let r = to_ranked classes numbers c p position right first rest are t.0 t.1 in
      (r.0.distance.class, subst (λ (z : Step). GivesClass chess ply_limit c z r.0.distance.class) t.2 (given t.0 t.1 r.0 r.2), no_better classes numbers c p position right first rest are r.0 r.1)) in
      (best, subst (λ (m : ChessMove). GivesClass chess ply_limit c (step_of p m) first.distance.class) (sym f.2.m_is) g)
    where
      given : (m : ChessMove) → IsIn (legal_moves p) m → (r : RankedMove) → IsAssessed classes numbers c p m r → GivesClass chess ply_limit c (step_of p m) r.distance.class
      given m i r a =
          subst (GivesClass chess ply_limit c (step_of p m)) (sym a.class_is)
          (gives m i a.class a.plies a.there (true_after classes numbers c p position right m a.class i a.there) a.distance)
