-- What tests on a side's letters say about its men.
use Rattle.std.proofs.Common.{◌≡◌, ◌≢◌, ℕ, ◌+◌, ◌<◌, ◌≤◌, inl, inr, List, [], ◌∷◌, length, get_or, drop, take, ◌-◌, refl, sym, ap, ◌∙◌, Bool, true, false, not, ◌&&◌, ◌||◌, arith, add-one, drop-cons}
use Rattle.szg_values.specs.declared.NameFault.TheVariants as fault
use Rattle.std.specs.Prelude.{Ok, Err, map, count_by, ◌==◌, nat_lt, nat_le}
use Rattle.std.specs.List.{list_any, list_all, before_first, after_first, position_or_len}
use Rattle.std.specs.Option.{option_map_or}
use Rattle.std.proofs.lemmas.List.{drop_all, take_all, length-map}
use Rattle.std.proofs.lemmas.Bool.{cases_Bool, eqb-true, eq-eqb, and_parts, leb-true}
use Rattle.std.proofs.lemmas.Bool.Decides.{nat_tests}
use Rattle.std.proofs.Math.Bool.{and-false, or-false}
use Rattle.szg_values.proofs.Names.{count-cons, before-name, after-name, spelled_name, man_of-letter_of}
use Rattle.szg_values.proofs.MaterialOf.{capped_more}
use Rattle.szg_values.specs.Men.{code_of, letter_of, man_of, is_man}
use Rattle.szg_values.specs.Material.{name_of, sides_of, is_v, is_spelled, is_name_letter, parsed, has_king_first, is_in_order, is_not_later, may_be_first, is_count}
use Rattle.szg_values.specs.declared.Man.{Man}
use Rattle.szg_values.specs.declared.Man.TheVariants.{Pawn, Knight, Bishop, Rook, Queen, King}

-- ---- one v

pub no_v : (cs : List ℕ) → position_or_len is_v cs ≡ length cs → count_by is_v cs ≡ 0
no_v [] e = refl
no_v (c ∷ cs) e = elim (cases_Bool (is_v c)) [
  | inl v ↦ absurd (let k = rw v at e in omega arith)
  | inr v ↦ count-cons c cs ∙ rw (v, no_v cs (let k = rw v at e in omega arith)) refl
]

pub not_spelled : (cs : List ℕ) → position_or_len is_v cs ≡ length cs → is_spelled cs ≡ false
not_spelled cs e = rw (no_v cs e) (and-false (list_all is_name_letter cs))

named_sides : (text : List ℕ) → is_spelled text ≡ true → name_of (sides_of text) ≡ text
named_sides text h = spelled_name text (and_parts (list_all is_name_letter text) (count_by is_v text == 1) h).0
    (eqb-true (count_by is_v text) 1 (and_parts (list_all is_name_letter text) (count_by is_v text == 1) h).1)

-- the letters before the v are those of the first side's men, and those after it are those of the second side's
pub letters_before : (text : List ℕ) → is_spelled text ≡ true → before_first is_v text ≡ map letter_of (sides_of text).first
letters_before text h = ap (before_first is_v) (sym (named_sides text h)) ∙ before-name (sides_of text).first (map letter_of (sides_of text).second)

pub letters_after : (text : List ℕ) → is_spelled text ≡ true → after_first is_v text ≡ map letter_of (sides_of text).second
letters_after text h = ap (after_first is_v) (sym (named_sides text h)) ∙ after-name (sides_of text).first (map letter_of (sides_of text).second)

pub count_letters : (xs ys : List ℕ) (a b : List Man) → xs ≡ map letter_of a → ys ≡ map letter_of b → length xs + length ys ≡ length a + length b
count_letters xs ys a b e f = rw (e, f) (simp length-map)

-- ---- kings

king_letters : (men : List Man) → list_any (λ c. c == 75) (map letter_of men) ≡ list_any (is_man King) men
king_letters [] = refl
king_letters (Pawn ∷ men) = king_letters men
king_letters (Knight ∷ men) = king_letters men
king_letters (Bishop ∷ men) = king_letters men
king_letters (Rook ∷ men) = king_letters men
king_letters (Queen ∷ men) = king_letters men
king_letters (King ∷ men) = refl

-- a king's letter comes first, and there is no second one
abbrev pub king_letter_first : List ℕ → Bool
king_letter_first [] = false
king_letter_first (c ∷ cs) = c == 75 && not (list_any (λ d. d == 75) cs)

pub king_first : (men : List Man) → king_letter_first (map letter_of men) ≡ has_king_first men
king_first [] = refl
king_first (Pawn ∷ men) = refl
king_first (Knight ∷ men) = refl
king_first (Bishop ∷ men) = refl
king_first (Rook ∷ men) = refl
king_first (Queen ∷ men) = refl
king_first (King ∷ men) = ap not (king_letters men)

-- the same for letters that begin with the king's, if the others are a part of the text
pub king_letter_at : (cs : List ℕ) (found : Bool) → 1 ≤ length cs → get_or cs 0 0 ≡ 75 → found ≡ list_any (λ d. d == 75) (take (length cs - 1) (drop 1 cs)) → not found ≡ king_letter_first cs
king_letter_at [] found l h e = absurd (omega arith)
king_letter_at (c ∷ cs) found l h e =
    let t : take (length (c ∷ cs) - 1) cs ≡ cs = take_all (length (c ∷ cs) - 1) cs (omega arith) in
    let g : (c == 75) ≡ true = eq-eqb c 75 h in
    rw (e, t, g) refl

-- ---- order

abbrev pub code_at : ℕ → ℕ
code_at c = option_map_or code_of (man_of c) 0

code_at-letter_of : (man : Man) → code_at (letter_of man) ≡ code_of man
code_at-letter_of man = rw (man_of-letter_of man) refl

-- the codes of the letters never increase, and the first is at most this
abbrev pub letters_fall : ℕ → List ℕ → Bool
letters_fall last [] = true
letters_fall last (c ∷ cs) = nat_le (code_at c) last && letters_fall (code_at c) cs

fall_step : (m last : ℕ) (men : List Man) → m ≤ last →
    (list_all (λ b. nat_le (code_of b) m) men && is_in_order men) ≡ (list_all (λ b. nat_le (code_of b) last) men && (list_all (λ b. nat_le (code_of b) m) men && is_in_order men))
fall_step m last men h = elim (cases_Bool (list_all (λ b. nat_le (code_of b) m) men)) [
  | inl e ↦ rw (e, capped_more men m last h e) refl
  | inr e ↦ rw e (sym (and-false (list_all (λ b. nat_le (code_of b) last) men)))
]

pub in_order_from : (last : ℕ) (men : List Man) → letters_fall last (map letter_of men) ≡ (list_all (λ b. nat_le (code_of b) last) men && is_in_order men)
in_order_from last [] = refl
in_order_from last (man ∷ men) = rw (code_at-letter_of man, in_order_from (code_of man) men) (elim (cases_Bool (nat_le (code_of man) last)) [
  | inl e ↦ rw e (fall_step (code_of man) last men (leb-true (code_of man) last e))
  | inr e ↦ rw e refl
])

below_king : (men : List Man) → list_all (λ b. nat_le (code_of b) 6) men ≡ true
below_king [] = refl
below_king (Pawn ∷ men) = below_king men
below_king (Knight ∷ men) = below_king men
below_king (Bishop ∷ men) = below_king men
below_king (Rook ∷ men) = below_king men
below_king (Queen ∷ men) = below_king men
below_king (King ∷ men) = below_king men

pub in_order : (men : List Man) → letters_fall 6 (map letter_of men) ≡ is_in_order men
in_order men = in_order_from 6 men ∙ rw (below_king men) refl

pub letters_fall-drop : (cs : List ℕ) (i last : ℕ) → i < length cs →
    letters_fall last (drop i cs) ≡ (nat_le (code_at (get_or cs i 0)) last && letters_fall (code_at (get_or cs i 0)) (drop (i + 1) cs))
letters_fall-drop cs i last h = rw (add-one, drop-cons cs i 0) refl

pub fall_stops : (cs : List ℕ) (i last : ℕ) → i < length cs → last < code_at (get_or cs i 0) → letters_fall last (drop i cs) ≡ false
fall_stops cs i last h k = let e : nat_le (code_at (get_or cs i 0)) last ≡ false = grind (arith, nat_tests) in
    letters_fall-drop cs i last h ∙ rw e refl

pub fall_ends : (cs : List ℕ) (i last : ℕ) → length cs ≤ i → letters_fall last (drop i cs) ≡ true
fall_ends cs i last h = rw (drop_all i cs h) refl

-- ---- which side is earlier

abbrev pub letters_not_later : List ℕ → List ℕ → Bool
letters_not_later [] _ = true
letters_not_later (a ∷ more) [] = true
letters_not_later (a ∷ more) (b ∷ others) = nat_lt (code_at b) (code_at a) || (code_at a == code_at b && letters_not_later more others)

pub not_later : (a b : List Man) → letters_not_later (map letter_of a) (map letter_of b) ≡ is_not_later a b
not_later [] b = refl
not_later (x ∷ a) [] = refl
not_later (x ∷ a) (y ∷ b) = rw (code_at-letter_of x, code_at-letter_of y, not_later a b) refl

pub letters_not_later-drop : (xs ys : List ℕ) (i : ℕ) → i < length xs → i < length ys →
    letters_not_later (drop i xs) (drop i ys) ≡ (nat_lt (code_at (get_or ys i 0)) (code_at (get_or xs i 0)) || (code_at (get_or xs i 0) == code_at (get_or ys i 0) && letters_not_later (drop (i + 1) xs) (drop (i + 1) ys)))
letters_not_later-drop xs ys i h k = rw (add-one, drop-cons xs i 0, drop-cons ys i 0) refl

pub not_later_here : (xs ys : List ℕ) (i : ℕ) → i < length xs → i < length ys → code_at (get_or xs i 0) ≢ code_at (get_or ys i 0) →
    letters_not_later (drop i xs) (drop i ys) ≡ nat_lt (code_at (get_or ys i 0)) (code_at (get_or xs i 0))
not_later_here xs ys i h k n = let e : (code_at (get_or xs i 0) == code_at (get_or ys i 0)) ≡ false = grind (arith, nat_tests) in
    letters_not_later-drop xs ys i h k ∙ rw e (or-false (nat_lt (code_at (get_or ys i 0)) (code_at (get_or xs i 0))))

pub not_later_next : (xs ys : List ℕ) (i : ℕ) → i < length xs → i < length ys → code_at (get_or xs i 0) ≡ code_at (get_or ys i 0) →
    letters_not_later (drop i xs) (drop i ys) ≡ letters_not_later (drop (i + 1) xs) (drop (i + 1) ys)
not_later_next xs ys i h k n =
    let e : (code_at (get_or xs i 0) == code_at (get_or ys i 0)) ≡ true = grind (arith, nat_tests) in
    let f : nat_lt (code_at (get_or ys i 0)) (code_at (get_or xs i 0)) ≡ false = grind (arith, nat_tests) in
    letters_not_later-drop xs ys i h k ∙ rw (e, f) refl

pub not_later_ends : (xs ys : List ℕ) (i : ℕ) → length xs ≤ i → letters_not_later (drop i xs) ys ≡ true
not_later_ends xs ys i h = rw (drop_all i xs h) refl

-- ---- the faults in their order

pub parsed_letter : (text : List ℕ) → is_spelled text ≡ false → parsed text ≡ Err fault.Letter
unfolding parsed
parsed_letter text a = rw a refl

pub parsed_king : (text : List ℕ) → is_spelled text ≡ true → (has_king_first (sides_of text).first && has_king_first (sides_of text).second) ≡ false → parsed text ≡ Err fault.King
unfolding parsed
parsed_king text a b = rw (a, b) refl

pub parsed_order : (text : List ℕ) → is_spelled text ≡ true → (has_king_first (sides_of text).first && has_king_first (sides_of text).second) ≡ true →
    (is_in_order (sides_of text).first && is_in_order (sides_of text).second) ≡ false → parsed text ≡ Err fault.Order
unfolding parsed
parsed_order text a b d = rw (a, b, d) refl

pub parsed_sides : (text : List ℕ) → is_spelled text ≡ true → (has_king_first (sides_of text).first && has_king_first (sides_of text).second) ≡ true →
    (is_in_order (sides_of text).first && is_in_order (sides_of text).second) ≡ true → may_be_first (sides_of text).first (sides_of text).second ≡ false → parsed text ≡ Err fault.Sides
unfolding parsed
parsed_sides text a b d e = rw (a, b, d, e) refl

pub parsed_men : (text : List ℕ) → is_spelled text ≡ true → (has_king_first (sides_of text).first && has_king_first (sides_of text).second) ≡ true →
    (is_in_order (sides_of text).first && is_in_order (sides_of text).second) ≡ true → may_be_first (sides_of text).first (sides_of text).second ≡ true →
    is_count (length (sides_of text).first + length (sides_of text).second) ≡ false → parsed text ≡ Err fault.Men
unfolding parsed
parsed_men text a b d e f = rw (a, b, d, e, f) refl

pub parsed_ok : (text : List ℕ) → is_spelled text ≡ true → (has_king_first (sides_of text).first && has_king_first (sides_of text).second) ≡ true →
    (is_in_order (sides_of text).first && is_in_order (sides_of text).second) ≡ true → may_be_first (sides_of text).first (sides_of text).second ≡ true →
    is_count (length (sides_of text).first + length (sides_of text).second) ≡ true → parsed text ≡ Ok (sides_of text)
unfolding parsed
parsed_ok text a b d e f = rw (a, b, d, e, f) refl
