-- What is probed of a position with an en passant square.
use Rattle.std.proofs.Common.{◌≡◌, ℕ, zero, suc, ◌≤◌, List, [], ◌∷◌, length, map, refl, sym, ap, ◌∙◌, subst, Bool, true, false, arith, inl, inr, ◌⊎◌, Option, Some, None}
use Rattle.std.specs.Prelude.{filter, ◌||◌, unwrap_or, option_map}
use Rattle.std.specs.List.{list_any}
use Rattle.std.proofs.lemmas.Bool.{cases_Bool, or_cases, or_parts, both_ways}
use Rattle.szg_values.specs.Placement.{PlacedMan}
use Rattle.szg_game.specs.Classes.{level, negate, better, best_after}
use Rattle.szg_game.specs.Certified.{is_win, is_loss}
use Rattle.szg_game.specs.declared.Class.{Class}
use Rattle.szg_game.specs.declared.Class.TheVariants.{Loss, BlessedLoss, Draw, CursedWin, Win}
use Rattle.szg_game.proofs.Graded.{level-better}
use Rattle.szg_game.proofs.Lists.{IsIn, contains_in}
use Rattle.szg_chess.specs.declared.Move.{Move}
use Rattle.szg_chess.specs.Position.{Position, IsPosition}
use Rattle.szg_chess.specs.Moves.{after, legal_moves, legal_captures}
use Rattle.szg_probe.specs.Chess.{ChessClass, without_right}
use Rattle.szg_probe.specs.Probing.{stored_class, is_known_loss, all_known, best_capture, has_only_en_passant, class_from, probed_at, probed}
use Rattle.szg_probe.proofs.WithoutRight.{is_plain, position_without, plain_after, captures_without, capture_in}
use Rattle.szg_probe.proofs.Beside.{CapturesHave, map_same, only_captures_class, only_en_passant, class_beside}
use Rattle.szg_probe.proofs.Search.{only_none}
use Rattle.szg_probe.proofs.Probed.{capture_fewer, men_two}
use Rattle.szg_probe.proofs.Choosing.{filter_in}
use Rattle.szg_verify.specs.Entries.{StoredTables, class_at, entry_of}
use Rattle.szg_verify.specs.Verified.{IsVerified, IsClosed}
use Rattle.szg_verify.proofs.Captures.{capture_no_right}
use Rattle.szg_verify.proofs.Classes.{plain_class}
use Rattle.szg_verify.proofs.Passing.{entry_plain}
use Rattle.szg_verify.proofs.Certificate.{known, probed_true}

-- ---- the best of captures that are all known

pub better_win : (k : Class) → better k Win ≡ Win
better_win Loss = refl
better_win BlessedLoss = refl
better_win Draw = refl
better_win CursedWin = refl
better_win Win = refl

pub win_better : (k j : Class) → is_loss k ≡ true → better (negate k) j ≡ Win
win_better Loss Loss e = refl
win_better Loss BlessedLoss e = refl
win_better Loss Draw e = refl
win_better Loss CursedWin e = refl
win_better Loss Win e = refl
win_better BlessedLoss j e = cc
win_better Draw j e = cc
win_better CursedWin j e = cc
win_better Win j e = cc

pub loss_better : (k : Class) → better Loss k ≡ k
loss_better Loss = refl
loss_better BlessedLoss = refl
loss_better Draw = refl
loss_better CursedWin = refl
loss_better Win = refl

pub win_is : (k : Class) → is_win k ≡ true → k ≡ Win
win_is Loss e = cc
win_is BlessedLoss e = cc
win_is Draw e = cc
win_is CursedWin e = cc
win_is Win e = refl

pub win_level : (k j : Class) → is_win k ≡ true → level k ≤ level j → is_win j ≡ true
win_level k Loss e h = let four = ap level (win_is k e) in absurd (omega arith)
win_level k BlessedLoss e h = let four = ap level (win_is k e) in absurd (omega arith)
win_level k Draw e h = let four = ap level (win_is k e) in absurd (omega arith)
win_level k CursedWin e h = let four = ap level (win_is k e) in absurd (omega arith)
win_level k Win e h = refl

module _ {A : Type 0} (f : A → Option Class) (class : A → Class) where
  all_known_are : (xs : List A) → ((x : A) → IsIn xs x → f x ≡ Some (class x)) → all_known (map f xs) ≡ Some (map class xs)
  all_known_are [] each = refl
  all_known_are (x ∷ xs) each = rw (each x (inl refl), all_known_are xs (λ y i. each y (inr i))) refl

  any_loss : (xs : List A) → ((x : A) → IsIn xs x → f x ≡ Some (class x)) → list_any is_known_loss (map f xs) ≡ true → best_after (map class xs) ≡ Win
  any_loss [] each e = cc
  any_loss (x ∷ xs) each e = elim (or_cases (is_known_loss (f x)) (list_any is_known_loss (map f xs)) e) [
    | inl h ↦ win_better (class x) (best_after (map class xs)) (sym (ap is_known_loss (each x (inl refl))) ∙ h)
    | inr h ↦ ap (better (negate (class x))) (any_loss xs (λ y i. each y (inr i)) h) ∙ better_win (negate (class x))
  ]

  best_known : (xs : List A) → ((x : A) → IsIn xs x → f x ≡ Some (class x)) → best_capture (map f xs) ≡ Some (best_after (map class xs))
  best_known xs each = elim (cases_Bool (list_any is_known_loss (map f xs))) [
    | inl t ↦ rw t (ap (λ (k : Class). Some k) (sym (any_loss xs each t)))
    | inr e ↦ rw (e, all_known_are xs each) refl
  ]

pub no_length : {A : Type 0} (xs : List A) → length xs ≡ 0 → xs ≡ []
no_length [] e = refl
no_length (x ∷ xs) e = absurd (omega arith)

best_of_fewer : {A : Type 0} (t : A → Bool) (class : A → Class) (xs : List A) → level (best_after (map class (filter t xs))) ≤ level (best_after (map class xs))
best_of_fewer t class [] = omega arith
best_of_fewer t class (x ∷ xs) =
    let rest = best_of_fewer t class xs in
    let all = level-better (negate (class x)) (best_after (map class xs)) in
    let some = level-better (negate (class x)) (best_after (map class (filter t xs))) in
    elim (cases_Bool (t x)) [ inl e ↦ rw e (omega (arith, all, some, rest)) | inr e ↦ rw e (omega (arith, all, rest)) ]

from_stored : (best k : Class) (stored : Option Class) → option_map (λ s. better s best) stored ≡ Some k → (s : Class) × (stored ≡ Some s) × (better s best ≡ k)
from_stored best k None h = cc
from_stored best k (Some s) h = (s, refl, cc)

pub class_parts : (only : Bool) (best : Class) (stored : Option Class) (k : Class) → class_from only (Some best) stored ≡ Some k →
    (((is_win best || only) ≡ true) × (best ≡ k)) ⊎ (((is_win best || only) ≡ false) × (s : Class) × (stored ≡ Some s) × (better s best ≡ k))
class_parts only best stored k e = elim (cases_Bool (is_win best || only)) [
  | inl t ↦ (let h : Some best ≡ Some k = rw t at e in inl (t, cc))
  | inr f ↦ (let r = from_stored best k stored (rw f at e) in inr (f, r.0, r.1, r.2))
]

-- ---- a covered position

-- each covered position without an en passant square is known
abbrev pub ArePlainKnown : StoredTables → (List PlacedMan → Bool) → Type 0
ArePlainKnown tables covers = (q : Position) → IsPosition q → q.en_passant ≡ None → covers q.placed_men ≡ true → probed tables.classes q ≡ Some (class_at tables.classes q)

module _ (tables : StoredTables) (covers : List PlacedMan → Bool) (closed : IsClosed covers) (plain_known : ArePlainKnown tables covers) where
  module _ (p : Position) (position : IsPosition p) (covered : covers p.placed_men ≡ true) where
    pub after_plain : (m : Move) → IsIn (legal_captures p) m → IsPosition (after p m) × ((after p m).en_passant ≡ None) × (covers (after p m).placed_men ≡ true)
    after_plain m i =
        let held = capture_in p position m i in
        let there = contains_in (legal_moves p) m held.0 in
        ((capture_fewer p position m i).0, capture_no_right p m position there held.1, closed p m position covered there)

    abbrev pub best : Class
    best = best_after (map (λ m. class_at tables.classes (after p m)) (legal_captures p))

    probed_sized : (n : ℕ) → length p.placed_men ≡ n → probed_at n tables.classes p ≡ class_from (has_only_en_passant p) (Some best) (stored_class tables.classes p)
    unfolding probed_at
    probed_sized zero size = let two = men_two p position in absurd (omega arith)
    probed_sized (suc n) size =
        ap (λ (o : Option Class). class_from (has_only_en_passant p) o (stored_class tables.classes p))
        (best_known (λ (m : Move). probed_at n tables.classes (after p m)) (λ m. class_at tables.classes (after p m)) (legal_captures p) (λ m i.
        let a = after_plain m i in
        let fewer = (capture_fewer p position m i).1 in
        let same : length (after p m).placed_men ≡ n = omega arith in
        subst (λ (k : ℕ). probed_at k tables.classes (after p m) ≡ Some (class_at tables.classes (after p m))) same (plain_known (after p m) a.0 a.1 a.2)))

    pub probed_is : probed tables.classes p ≡ class_from (has_only_en_passant p) (Some best) (stored_class tables.classes p)
    probed_is = probed_sized (length p.placed_men) refl

  module _ (p : Position) (position : IsPosition p) (covered : covers p.placed_men ≡ true) where
    abbrev bare : Position
    bare = without_right p

    abbrev pub best_here : Class
    best_here = best p position covered

    abbrev pub best_there : Class
    best_there = best bare (position_without p position) covered

    -- the captures without the right lead to the same classes
    pub classes_there : map (λ m. class_at tables.classes (after (without_right p) m)) (legal_captures (without_right p)) ≡ map (λ m. class_at tables.classes (after p m)) (filter (is_plain p) (legal_captures p))
    classes_there =
        let q = without_right p in
        let f = λ (m : Move). class_at tables.classes (after p m) in
        ap (map (λ (m : Move). class_at tables.classes (after q m))) (captures_without p position)
        ∙ map_same (λ (m : Move). class_at tables.classes (after q m)) f (filter (is_plain p) (legal_captures p)) (λ m i. ap (class_at tables.classes) (sym (plain_after p m (filter_in (is_plain p) (legal_captures p) m i).1)))

    pub best_bare : level best_there ≤ level best_here
    best_bare =
        let f = λ (m : Move). class_at tables.classes (after p m) in
        subst (λ (ks : List Class). level (best_after ks) ≤ level (best_after (map f (legal_captures p)))) (sym classes_there) (best_of_fewer (is_plain p) f (legal_captures p))

-- ---- the class of a position of tables that pass

module _ (tables : StoredTables) (covers : List PlacedMan → Bool) (ok : IsVerified tables covers) where
  pub verified_known : ArePlainKnown tables covers
  verified_known q position none covered =
      let there = known (entry_of tables q) (ok.passes q position none covered).there in
      let is = plain_class tables q there.0 (sym (entry_plain tables q none) ∙ there.1) in
      is ∙ ap (λ (o : Option Class). Some (unwrap_or o Draw)) (sym is)

  pub plain_true : (q : Position) → IsPosition q → q.en_passant ≡ None → covers q.placed_men ≡ true → ChessClass q (class_at tables.classes q)
  plain_true q position none covered = probed_true tables covers ok q (class_at tables.classes q) position none covered (verified_known q position none covered)

  module _ (p : Position) (position : IsPosition p) (covered : covers p.placed_men ≡ true) where
    abbrev p_bare : Position
    p_bare = without_right p

    abbrev bare_position : IsPosition p_bare
    bare_position = position_without p position

    have : CapturesHave (class_at tables.classes) p
    have m i = let a = after_plain tables covers ok.closed verified_known p position covered m i in plain_true (after p m) a.0 a.1 a.2

    abbrev here : Class
    here = best tables covers ok.closed verified_known p position covered

    abbrev there : Class
    there = best tables covers ok.closed verified_known p_bare bare_position covered

    from_bare : has_only_en_passant p ≡ false → (s : Class) → ChessClass p_bare (better s there) → ChessClass p (better s here)
    from_bare some s is = class_beside p position (class_at tables.classes) have s is some

    abbrev class_there : Class
    class_there = class_at tables.classes p_bare

    true_there : ChessClass p_bare class_there
    true_there = plain_true p_bare bare_position refl covered

    parts_there : (((is_win there || has_only_en_passant p_bare) ≡ true) × (there ≡ class_there))
        ⊎ (((is_win there || has_only_en_passant p_bare) ≡ false) × (s : Class) × (stored_class tables.classes p ≡ Some s) × (better s there ≡ class_there))
    parts_there = class_parts (has_only_en_passant p_bare) there (stored_class tables.classes p) class_there
        (sym (probed_is tables covers ok.closed verified_known p_bare bare_position covered) ∙ verified_known p_bare bare_position refl covered)

    only_here : has_only_en_passant p ≡ true → ChessClass p here
    only_here only = only_captures_class p position (class_at tables.classes) have (only_en_passant p only)

    win_here : is_win here ≡ true → has_only_en_passant p ≡ false → ChessClass p here
    win_here won some = elim parts_there [
      | inl r ↦ subst (ChessClass p) (loss_better here) (from_bare some Loss (subst (ChessClass p_bare) (sym (loss_better there ∙ r.1)) true_there))
      | inr r ↦ (
          let at = from_bare some r.1 (subst (ChessClass p_bare) (sym r.3) true_there) in
          subst (ChessClass p) (ap (better r.1) (win_is here won) ∙ (better_win r.1 ∙ sym (win_is here won))) at)
    ]

    stored_here : (s : Class) → is_win here ≡ false → has_only_en_passant p ≡ false → stored_class tables.classes p ≡ Some s → ChessClass p (better s here)
    stored_here s lost some is = elim parts_there [
      | inl r ↦ absurd (elim (or_cases (is_win there) (has_only_en_passant p_bare) r.0) [
        | inl t ↦ both_ways (is_win here) lost (win_level there here t (best_bare tables covers ok.closed verified_known p position covered))
        | inr t ↦ both_ways (has_only_en_passant p_bare) (only_none p_bare refl) t
      ])
      | inr r ↦ (
          let same : Some r.1 ≡ Some s = sym r.2 ∙ is in
          let s_is : r.1 ≡ s = cc in
          from_bare some s (subst (λ (j : Class). ChessClass p_bare (better j there)) s_is (subst (ChessClass p_bare) (sym r.3) true_there)))
    ]

    pub probed_class : (k : Class) → probed tables.classes p ≡ Some k → ChessClass p k
    probed_class k is = elim (class_parts (has_only_en_passant p) here (stored_class tables.classes p) k (sym (probed_is tables covers ok.closed verified_known p position covered) ∙ is)) [
      | inl r ↦ elim (cases_Bool (has_only_en_passant p)) [
        | inl t ↦ subst (ChessClass p) r.1 (only_here t)
        | inr f ↦ elim (or_cases (is_win here) (has_only_en_passant p) r.0) [
          | inl w ↦ subst (ChessClass p) r.1 (win_here w f)
          | inr t ↦ subst (ChessClass p) r.1 (only_here t)
        ]
      ]
      | inr r ↦ (
          let tests = or_parts (is_win here) (has_only_en_passant p) r.0 in
          subst (ChessClass p) r.3 (stored_here r.1 tests.0 tests.1 r.2))
    ]
