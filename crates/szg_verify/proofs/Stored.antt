-- The stored classes that a probe reads are true; men up to a number are closed.
use Rattle.std.proofs.Common.{◌≡◌, ℕ, List, length, map, refl, sym, ap, ◌∙◌, subst, Bool, true, arith, inl, inr, Option, Some, None}
use Rattle.std.specs.Prelude.{◌&&◌, is_some, nat_lt, nat_le}
use Rattle.std.proofs.lemmas.Bool.{cases_Bool, and_parts, or_cases, both_ways, ltb-true, leb-true, le-leb, ne_eqb}
use Rattle.szg_values.specs.Placement.{PlacedMan}
use Rattle.szg_game.specs.Classes.{better, best_after}
use Rattle.szg_game.specs.Certified.{is_win}
use Rattle.szg_game.specs.declared.Class.{Class}
use Rattle.szg_game.proofs.Graded.{one_class}
use Rattle.szg_game.proofs.Lists.{in_all}
use Rattle.szg_chess.specs.declared.Move.{Move}
use Rattle.szg_chess.specs.Position.{Position, IsPosition}
use Rattle.szg_chess.specs.Moves.{after, is_capture, legal_captures}
use Rattle.szg_chess.proofs.Captured.{captured_law}
use Rattle.szg_probe.specs.Chess.{chess, ply_limit, ChessClass, without_right}
use Rattle.szg_probe.specs.Probing.{AreTrue, IsTrueFor, HaveClasses, stored_class, has_only_en_passant}
use Rattle.szg_probe.proofs.WithoutRight.{position_without}
use Rattle.szg_probe.proofs.Beside.{map_same}
use Rattle.szg_probe.proofs.Search.{only_none}
use Rattle.szg_verify.specs.Entries.{StoredTables, class_at}
use Rattle.szg_verify.specs.Verified.{IsVerified, IsClosed}
use Rattle.szg_verify.specs.Laws.{stored_within}
use Rattle.szg_verify.proofs.Probed.{better_win, win_is, class_parts, after_plain, best, probed_is, verified_known, plain_true}

module _ (tables : StoredTables) (covers : List PlacedMan → Bool) (ok : IsVerified tables covers) where
  module _ (q : Position) (position : IsPosition q) (none : q.en_passant ≡ None) (covered : covers q.placed_men ≡ true) where
    abbrev best_here : Class
    best_here = best tables covers ok.closed (verified_known tables covers ok) q position covered

    true_here : ChessClass q (class_at tables.classes q)
    true_here = plain_true tables covers ok q position none covered

    -- other classes of the captures are the same
    same_best : (class : Position → Class) → HaveClasses class q → best_here ≡ best_after (map (λ m. class (after q m)) (legal_captures q))
    same_best class have = ap best_after (map_same (λ (m : Move). class_at tables.classes (after q m)) (λ m. class (after q m)) (legal_captures q) (λ m i.
        let a = after_plain tables covers ok.closed (verified_known tables covers ok) q position covered m i in
        one_class chess ply_limit (after q m) (class_at tables.classes (after q m)) (class (after q m)) (plain_true tables covers ok (after q m) a.0 a.1 a.2) (in_all (λ (n : Move). ChessClass (after q n) (class (after q n))) (legal_captures q) m have i)))

    better_here : (k : Class) → stored_class tables.classes q ≡ Some k → better k best_here ≡ class_at tables.classes q
    better_here k stored = elim (class_parts (has_only_en_passant q) best_here (stored_class tables.classes q) (class_at tables.classes q)
        (sym (probed_is tables covers ok.closed (verified_known tables covers ok) q position covered) ∙ verified_known tables covers ok q position none covered)) [
          | inl r ↦ elim (or_cases (is_win best_here) (has_only_en_passant q) r.0) [
            | inl w ↦ ap (better k) (win_is best_here w) ∙ (better_win k ∙ (sym (win_is best_here w) ∙ r.1))
            | inr o ↦ absurd (both_ways (has_only_en_passant q) (only_none q (ap is_some none)) o)
          ]
          | inr r ↦ (
              let same : Some r.1 ≡ Some k = sym r.2 ∙ stored in
              let is : r.1 ≡ k = cc in
              subst (λ (j : Class). better j best_here ≡ class_at tables.classes q) is r.3)
        ]

    true_for : (k : Class) → stored_class tables.classes q ≡ Some k → IsTrueFor k q
    true_for k stored class have =
        subst (λ (b : Class). ChessClass q (better k b)) (same_best class have) (subst (ChessClass q) (sym (better_here k stored)) true_here)

  pub stored_true : AreTrue (stored_within tables.classes covers)
  stored_true p k position none is =
      let q = without_right p in
      let test = covers p.placed_men && nat_lt 2 (length p.placed_men) in
      elim (cases_Bool test) [
        | inl t ↦ (
            let b = and_parts (covers p.placed_men) (nat_lt 2 (length p.placed_men)) t in
            let more = ltb-true 2 (length p.placed_men) b.1 in
            let not_two = ne_eqb (length p.placed_men) 2 (λ two. omega (arith, more, two)) in
            let there : tables.classes p.placed_men p.mover ≡ Some k = rw t at is in
            let stored : stored_class tables.classes q ≡ Some k = rw not_two there in
            let same : q ≡ p = sym (ap (λ (o : Option ℕ). record { placed_men = p.placed_men; mover = p.mover; en_passant = o }) none) in
            subst (IsTrueFor k) same (true_for q (position_without p position) refl b.0 k stored))
        | inr f ↦ (let h = rw f at is in cc)
      ]

pub closed_by_count : (most : ℕ) → IsClosed (λ men. nat_le (length men) most)
closed_by_count most p m position few held =
    let less = leb-true (length p.placed_men) most few in
    let size = captured_law p m position held in
    le-leb (length (after p m).placed_men) most (elim (cases_Bool (is_capture p m)) [ inl t ↦ (let e = rw t at size in omega (arith, e, less)) | inr f ↦ (let e = rw f at size in omega (arith, e, less)) ])
