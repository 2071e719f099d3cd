-- Whether some element passes a test: a search that ends at the first one.
use Rattle.std.proofs.Common.{◌≡◌, ℕ, ◌<◌, List, [], ◌∷◌, length, refl, sym, ap, ◌∙◌, Bool, true, false, arith, inl, inr, suc, zero-add}
use Rattle.std.specs.Prelude.{filter, flat_map, not, ◌&&◌, ◌||◌, ◌==◌}
use Rattle.std.specs.List.{list_any, All, range_with_len}
use Rattle.std.proofs.Math.Bool.{or-true}
use Rattle.std.proofs.lemmas.Bool.{cases_Bool, ne_eqb}
use Rattle.std.proofs.lemmas.List.Elements.{All-head, All-tail, All-weaker, All-filter, filter-append}
use Rattle.std.proofs.lemmas.List.Folds.{list_any-append, list_any_at, list_any_none}
use Rattle.std.proofs.lemmas.List.FromFn.{get_or-range_with_len, length-range_with_len}
use Rattle.szg_chess.specs.declared.Move.{Move}
use Rattle.szg_chess.specs.Position.{Position, IsPosition}
use Rattle.szg_chess.specs.Moves.{all_squares, captures_of, quiet_moves_of, has_quiet_move, is_capture, is_legal, legal_captures}
use Rattle.szg_chess.proofs.Captured.{made_capture, made_quiet}
use Rattle.szg_chess.proofs.Facts.{faultless}
use Rattle.szg_chess.proofs.MoveFacts.{Captures, Enters, Made, all_captures, all_quiet}
use Rattle.szg_chess.proofs.Squares.{all_is}

-- ---- among the pieces of a list

pub any_pieces : {X A : Type 0} (test : A → Bool) (f : X → List A) (xs : List X) → list_any test (flat_map f xs) ≡ list_any (λ x. list_any test (f x)) xs
any_pieces test f [] = refl
any_pieces test f (x ∷ xs) = list_any-append test (f x) (flat_map f xs) ∙ ap (λ (b : Bool). list_any test (f x) || b) (any_pieces test f xs)

pub any_passed : {X A : Type 0} (test : A → Bool) (f : X → List A) (own : X → Bool) (xs : List X) →
    list_any test (flat_map f (filter own xs)) ≡ list_any (λ x. own x && list_any test (f x)) xs
any_passed test f own [] = refl
any_passed test f own (x ∷ xs) = elim (cases_Bool (own x)) [
  | inl t ↦ rw t (list_any-append test (f x) (flat_map f (filter own xs)) ∙ ap (λ (b : Bool). list_any test (f x) || b) (any_passed test f own xs))
  | inr fails ↦ rw fails (any_passed test f own xs)
]

-- ---- among all squares

some_below : (test : ℕ → Bool) (n i : ℕ) → i < n → test i ≡ true → list_any test (range_with_len 0 n) ≡ true
some_below test n i h e =
    let long = length-range_with_len 0 n in
    list_any_at test (range_with_len 0 n) i 0 (omega (arith, long, h)) (ap test (get_or-range_with_len 0 n i 0 h ∙ zero-add i) ∙ e)

none_below : (test : ℕ → Bool) (n : ℕ) → ((i : ℕ) → i < n → test i ≡ false) → list_any test (range_with_len 0 n) ≡ false
none_below test n none =
    let long = length-range_with_len 0 n in
    list_any_none test (range_with_len 0 n) (λ i d h. let below : i < n = omega (arith, long, h) in ap test (get_or-range_with_len 0 n i d below ∙ zero-add i) ∙ none i below)

some_at : (test : ℕ → Bool) (n i : ℕ) → n ≡ 64 → i < 64 → test i ≡ true → list_any test all_squares ≡ true
some_at test n i is h e = ap (list_any test) (all_is n is) ∙ some_below test n i (omega (arith, is, h)) e

none_at : (test : ℕ → Bool) (n : ℕ) → n ≡ 64 → ((i : ℕ) → i < 64 → test i ≡ false) → list_any test all_squares ≡ false
none_at test n is none = ap (list_any test) (all_is n is) ∙ none_below test n (λ i h. none i (omega (arith, is, h)))

pub some_square : {A : Type 0} (test : A → Bool) (f : ℕ → List A) (i : ℕ) → i < 64 → list_any test (f i) ≡ true → list_any test (flat_map f all_squares) ≡ true
some_square test f i h e = any_pieces test f all_squares ∙ some_at (λ (k : ℕ). list_any test (f k)) 64 i refl h e

pub no_square : {A : Type 0} (test : A → Bool) (f : ℕ → List A) → ((i : ℕ) → i < 64 → list_any test (f i) ≡ false) → list_any test (flat_map f all_squares) ≡ false
no_square test f none = any_pieces test f all_squares ∙ none_at (λ (k : ℕ). list_any test (f k)) 64 refl none

-- ---- among the legal moves

-- if all pass a test, some passes that is kept if some is kept
any_kept : {X : Type 0} (test keeps : X → Bool) (xs : List X) → All (λ x. test x ≡ true) xs → list_any test (filter keeps xs) ≡ list_any keeps xs
any_kept test keeps [] all = refl
any_kept {X} test keeps (x ∷ xs) all =
    let P : X → Type 0 = λ y. test y ≡ true in
    elim (cases_Bool (keeps x)) [
      | inl t ↦ rw (t, All-head P x xs all) refl
      | inr f ↦ rw f (any_kept test keeps xs (All-tail P x xs all))
    ]

-- a legal move to an empty square is a legal move that is no capture
pub quiet_law : (p : Position) → IsPosition p → list_any (is_legal p) (quiet_moves_of p) ≡ has_quiet_move p
quiet_law p position =
    let quiet : Move → Bool = λ m. not (is_capture p m) in
    let captures = All-weaker (Made p (Captures p)) (λ m. quiet m ≡ false) (λ m made. ap not (made_capture p m made)) (captures_of p) (all_captures p) in
    let others = All-weaker (Made p (Enters p)) (λ m. quiet m ≡ true) (λ m made. ap not (made_quiet p (faultless p position.no_fault) m made)) (quiet_moves_of p) (all_quiet p) in
    let moves = filter (is_legal p) (quiet_moves_of p) in
    sym (ap (list_any quiet) (filter-append (is_legal p) (captures_of p) (quiet_moves_of p))
    ∙ list_any-append quiet (legal_captures p) moves
    ∙ ap (λ (b : Bool). b || list_any quiet moves) (list_any_none quiet (legal_captures p) (All-filter (is_legal p) (λ (m : Move). quiet m ≡ false) (captures_of p) captures))
    ∙ any_kept quiet (is_legal p) (quiet_moves_of p) others)

-- there is an element if one fails a test, or one passes it
pub some_either : {X : Type 0} (test : X → Bool) (xs : List X) → (list_any (λ x. not (test x)) xs || not (length (filter test xs) == 0)) ≡ not (length xs == 0)
some_either test [] = refl
some_either test (x ∷ xs) = elim (cases_Bool (test x)) [
  | inl t ↦ rw t (ap (λ (b : Bool). list_any (λ y. not (test y)) xs || b) (nonempty (length (filter test xs))) ∙ or-true (list_any (λ y. not (test y)) xs) ∙ sym (nonempty (length xs)))
  | inr f ↦ rw f (sym (nonempty (length xs)))
]
  where
    nonempty : (n : ℕ) → not (suc n == 0) ≡ true
    nonempty n = ap not (ne_eqb (suc n) 0 (λ e. omega (arith, e)))
