-- The first of the ranked moves.
use Rattle.std.proofs.Common.{◌≡◌, ℕ, ◌+◌, ◌*◌, ◌-◌, ◌<◌, ◌≤◌, List, ◌∷◌, map, refl, sym, ap, ◌∙◌, subst, Bool, true, false, arith, inl, inr, Some, None, Contains}
use Rattle.std.specs.Prelude.{if◌then◌else◌, nat_le}
use Rattle.std.specs.List.Sorted.{IsNonDecreasingBy}
use Rattle.std.proofs.lemmas.List.Sorted.{Contains-permutation, IsPermutation-sym}
use Rattle.szg_game.specs.Game.{IsWon, IsLost}
use Rattle.szg_game.specs.Certified.{is_won, is_lost}
use Rattle.szg_game.specs.Classes.{negate}
use Rattle.szg_game.specs.declared.Class.{Class}
use Rattle.szg_game.specs.declared.Class.TheVariants.{Loss, BlessedLoss, Draw, CursedWin, Win}
use Rattle.szg_game.proofs.Lists.{IsIn, in_contains, contains_in, in_map, map_in, in_all, one_in}
use Rattle.szg_game.proofs.Steps.{mate_has_none}
use Rattle.szg_chess.specs.declared.Move.{Move}
use Rattle.szg_chess.specs.Position.{Position, IsPosition}
use Rattle.szg_chess.specs.Moves.{after, legal_moves}
use Rattle.szg_chess.proofs.AfterMove.{after_is_position}
use Rattle.szg_probe.specs.Chess.{chess, ply_limit, step_of, ChessClass}
use Rattle.szg_probe.specs.Probing.{StoredClasses, AreTrue, probed}
use Rattle.szg_probe.specs.Distances.{StoredNumbers, class_at, class_rank, move_distance, rank_at, rank_of, ranked}
use Rattle.szg_probe.specs.declared.assessments.RankedMove.{RankedMove}
use Rattle.szg_probe.proofs.Probed.{probed_true}
use Rattle.szg_probe_laws.specs.Laws.{AreRanked}
use Rattle.szg_probe_laws.proofs.Within.{won_of, of_won, lost_of, of_lost, ever_wins, ever_loses, ever_win_parts, ever_loss_parts}
use Rattle.szg_probe_laws.proofs.Parts.{and_then_parts, map_parts, known_each, known_back}

-- ---- classes

either : (b : Bool) (k j : Class) (test : Class → Bool) (c : Bool) → test k ≡ c → test j ≡ c → test (if b then k else j) ≡ c
either true k j test c s t = s
either false k j test c s t = t

pub won_at_counter : (counter : ℕ) (k : Class) (d : ℕ) → is_won (class_at counter k d) ≡ is_won k
won_at_counter counter Win d = either (nat_le (d + counter) 100) Win CursedWin is_won true refl refl
won_at_counter counter CursedWin d = refl
won_at_counter counter Draw d = refl
won_at_counter counter BlessedLoss d = refl
won_at_counter counter Loss d = either (nat_le (d + counter) 100) Loss BlessedLoss is_won false refl refl

pub lost_at_counter : (counter : ℕ) (k : Class) (d : ℕ) → is_lost (class_at counter k d) ≡ is_lost k
lost_at_counter counter Win d = either (nat_le (d + counter) 100) Win CursedWin is_lost false refl refl
lost_at_counter counter CursedWin d = refl
lost_at_counter counter Draw d = refl
lost_at_counter counter BlessedLoss d = refl
lost_at_counter counter Loss d = either (nat_le (d + counter) 100) Loss BlessedLoss is_lost true refl refl

pub won_negated : (k : Class) → is_won (negate k) ≡ is_lost k
won_negated Win = refl
won_negated CursedWin = refl
won_negated Draw = refl
won_negated BlessedLoss = refl
won_negated Loss = refl

pub lost_negated : (k : Class) → is_lost (negate k) ≡ is_won k
lost_negated Win = refl
lost_negated CursedWin = refl
lost_negated Draw = refl
lost_negated BlessedLoss = refl
lost_negated Loss = refl

won_by_rank : (k : Class) → class_rank k ≤ 1 → is_won k ≡ true
won_by_rank Win h = refl
won_by_rank CursedWin h = refl
won_by_rank Draw h = absurd (omega arith)
won_by_rank BlessedLoss h = absurd (omega arith)
won_by_rank Loss h = absurd (omega arith)

rank_won : (k : Class) → is_won k ≡ true → class_rank k ≤ 1
rank_won Win e = omega arith
rank_won CursedWin e = omega arith
rank_won Draw e = cc
rank_won BlessedLoss e = cc
rank_won Loss e = cc

lost_by_rank : (k : Class) → 3 ≤ class_rank k → is_lost k ≡ true
lost_by_rank Win h = absurd (omega arith)
lost_by_rank CursedWin h = absurd (omega arith)
lost_by_rank Draw h = absurd (omega arith)
lost_by_rank BlessedLoss h = refl
lost_by_rank Loss h = refl

rank_lost : (k : Class) → is_lost k ≡ true → 3 ≤ class_rank k
rank_lost Win e = cc
rank_lost CursedWin e = cc
rank_lost Draw e = cc
rank_lost BlessedLoss e = omega arith
rank_lost Loss e = omega arith

-- ---- ranks

within : (b : Bool) (d : ℕ) → d < 4294967296 → (if b then 4294967296 - d else d) ≤ 4294967296
within true d h = omega arith
within false d h = omega arith

far : (a b x y : ℕ) → x ≤ 4294967296 → y ≤ 4294967296 → a * 8589934592 + x ≤ b * 8589934592 + y → a ≤ b
far a b x y s t h = omega arith

pub rank_order : (k j : Class) (d e : ℕ) → d < 4294967296 → e < 4294967296 → rank_at k d ≤ rank_at j e → class_rank k ≤ class_rank j
rank_order k j d e s t h = far (class_rank k) (class_rank j) _ _ (within (is_lost k) d s) (within (is_lost j) e t) h

-- ---- ranked moves

first_least : {X : Type 0} (n : X → ℕ) (x : X) (xs : List X) (y : X) → IsNonDecreasingBy n (x ∷ xs) → Contains (x ∷ xs) y → n x ≤ n y
first_least n x xs y sorted c =
    let at = c.2 in
    let below = sorted 0 c.0 y (omega arith) c.1 in
    subst (λ z. n x ≤ n z) at below

equal_tests : (a b : Bool) → (a ≡ true → b ≡ true) → (b ≡ true → a ≡ true) → a ≡ b
equal_tests true b s t = sym (s refl)
equal_tests false true s t = t refl
equal_tests false false s t = refl

-- what a ranked move says
pub record IsAssessed (classes : StoredClasses) (numbers : StoredNumbers) (counter : ℕ) (p : Position) (m : Move) (r : RankedMove) : Type 0 where
  pub class : Class
  pub plies : ℕ
  pub there : probed classes (after p m) ≡ Some class
  pub distance : move_distance classes numbers p m class ≡ Some plies
  pub m_is : r.m ≡ m
  pub class_is : r.distance.class ≡ class_at counter (negate class) plies
  pub plies_is : r.distance.plies ≡ plies

pub assessed : (classes : StoredClasses) (numbers : StoredNumbers) (counter : ℕ) (p : Position) (m : Move) (r : RankedMove) → ranked classes numbers counter p m ≡ Some r → IsAssessed classes numbers counter p m r
assessed classes numbers counter p m r e =
    let s = and_then_parts _ (probed classes (after p m)) r e in
    let t = map_parts _ (move_distance classes numbers p m s.0) r s.2 in
    record {
      class = s.0;
      plies = t.0;
      there = s.1;
      distance = t.1;
      m_is = sym (ap (λ (x : RankedMove). x.m) t.2);
      class_is = sym (ap (λ (x : RankedMove). x.distance.class) t.2);
      plies_is = sym (ap (λ (x : RankedMove). x.distance.plies) t.2);
    }

module _ (classes : StoredClasses) (numbers : StoredNumbers) (counter : ℕ) (p : Position) (position : IsPosition p) (right : AreTrue classes) where
  pub true_after : (m : Move) (j : Class) → IsIn (legal_moves p) m → probed classes (after p m) ≡ Some j → ChessClass (after p m) j
  true_after m j i e = probed_true classes (after p m) j right (after_is_position p m position (contains_in (legal_moves p) m i)) e

  module _ (first : RankedMove) (rest : List RankedMove) (are : AreRanked classes numbers counter p (first ∷ rest)) where
    -- each ranked move is that of a legal one
    pub of_ranked : (r : RankedMove) → Contains (first ∷ rest) r → (m : Move) × IsIn (legal_moves p) m × IsAssessed classes numbers counter p m r
    of_ranked r c =
        let all = are.1 in
        let there = Contains-permutation (first ∷ rest) all.0 r (IsPermutation-sym all.0 (first ∷ rest) all.2) c in
        let s = known_back (ranked classes numbers counter p) (legal_moves p) all.0 all.1 r (in_contains all.0 r there) in
        (s.0, s.1, assessed classes numbers counter p s.0 r s.2)

    -- each legal move is ranked
    pub to_ranked : (m : Move) → IsIn (legal_moves p) m → (r : RankedMove) × Contains (first ∷ rest) r × IsAssessed classes numbers counter p m r
    to_ranked m i =
        let all = are.1 in
        let s = known_each (ranked classes numbers counter p) (legal_moves p) all.0 all.1 m i in
        (s.0, Contains-permutation all.0 (first ∷ rest) s.0 all.2 (contains_in all.0 s.0 s.1), assessed classes numbers counter p m s.0 s.2)

    pub no_better : (r : RankedMove) → Contains (first ∷ rest) r → class_rank first.distance.class ≤ class_rank r.distance.class
    no_better r c =
        let few = λ (x : RankedMove) (i : Contains (first ∷ rest) x). in_all (λ (y : RankedMove). y.distance.plies < 4294967296) (first ∷ rest) x are.2 (in_contains (first ∷ rest) x i) in
        rank_order first.distance.class r.distance.class first.distance.plies r.distance.plies (few first (contains_in (first ∷ rest) first (inl refl))) (few r c) (first_least rank_of first rest r are.0 c)

    pub first_keeps : (k : Class) → ChessClass p k →
        (j : Class) × ChessClass (after p first.m) j × (is_lost j ≡ is_won k) × (is_won j ≡ is_lost k) × (is_won first.distance.class ≡ is_won k) × (is_lost first.distance.class ≡ is_lost k)
    first_keeps k class =
        let f = of_ranked first (contains_in (first ∷ rest) first (inl refl)) in
        let a = f.2 in
        let j = a.class in
        let here = true_after f.0 j f.1 a.there in
        let reported_won : is_won first.distance.class ≡ is_lost j = ap is_won a.class_is ∙ won_at_counter counter (negate j) a.plies ∙ won_negated j in
        let reported_lost : is_lost first.distance.class ≡ is_won j = ap is_lost a.class_is ∙ lost_at_counter counter (negate j) a.plies ∙ lost_negated j in
        let wins : is_lost j ≡ is_won k = equal_tests (is_lost j) (is_won k)
        (λ l. of_won chess ply_limit k p class (ever_wins chess ply_limit p (step_of p f.0) (in_map (step_of p) (legal_moves p) f.0 f.1) (lost_of chess ply_limit j (after p f.0) here l)))
        (λ w. sym reported_won ∙ best_won (won_of chess ply_limit k p class w)) in
        let loses : is_won j ≡ is_lost k = equal_tests (is_won j) (is_lost k)
        (λ w. of_lost chess ply_limit k p class (ever_loses chess ply_limit p (one_in (map (step_of p) (legal_moves p)) (step_of p f.0) (in_map (step_of p) (legal_moves p) f.0 f.1)) (all_won (reported_lost ∙ w))))
        (λ l. of_won chess ply_limit j (after p f.0) here (each_won (lost_of chess ply_limit k p class l) f.0 f.1)) in
        (j, subst (λ (m : Move). ChessClass (after p m) j) (sym a.m_is) here, wins, loses, reported_won ∙ wins, reported_lost ∙ loses)
      where
        -- some move leads to a loss, and is no better than the first one
        best_won : IsWon chess None 0 p → is_won first.distance.class ≡ true
        best_won w =
            let s = ever_win_parts chess ply_limit p w in
            let t = map_in (step_of p) (legal_moves p) s.0 s.1 in
            let lost = subst (λ (x : Position × Bool). IsLost chess None 0 x.0) (sym t.2) s.2 in
            let r = to_ranked t.0 t.1 in
            let b = r.2 in
            let is = of_lost chess ply_limit b.class (after p t.0) (true_after t.0 b.class t.1 b.there) lost in
            let reported = ap is_won b.class_is ∙ won_at_counter counter (negate b.class) b.plies ∙ won_negated b.class ∙ is in
            let few = rank_won r.0.distance.class reported in
            let order = no_better r.0 r.1 in
            won_by_rank first.distance.class (omega arith)

        -- if the first move loses, so does each
        all_won : is_lost first.distance.class ≡ true → (x : Position × Bool) → IsIn (chess.moves p) x → IsWon chess None 0 x.0
        all_won l x i =
            let t = map_in (step_of p) (legal_moves p) x i in
            let r = to_ranked t.0 t.1 in
            let b = r.2 in
            let many = rank_lost first.distance.class l in
            let order = no_better r.0 r.1 in
            let reported = lost_by_rank r.0.distance.class (omega arith) in
            let is : is_won b.class ≡ true = sym (ap is_lost b.class_is ∙ lost_at_counter counter (negate b.class) b.plies ∙ lost_negated b.class) ∙ reported in
            subst (λ (y : Position × Bool). IsWon chess None 0 y.0) t.2 (won_of chess ply_limit b.class (after p t.0) (true_after t.0 b.class t.1 b.there) is)

        each_won : IsLost chess None 0 p → (m : Move) → IsIn (legal_moves p) m → IsWon chess None 0 (after p m)
        each_won l m i =
            let held = in_map (step_of p) (legal_moves p) m i in
            elim (ever_loss_parts chess ply_limit p l) [
              | inl e ↦ absurd (mate_has_none chess p (step_of p m) e held)
              | inr r ↦ r.1 (step_of p m) held
            ]
