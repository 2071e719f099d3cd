-- The number of a side's men of each kind: the number of letters in its part of the name, and the number of its
-- colour's men on the board.
use Rattle.std.proofs.Common.{◌≡◌, ℕ, ◌+◌, ◌*◌, List, [], ◌∷◌, ◌++◌, refl, sym, ap, ◌∙◌, Bool, true, false, cond, arith, inl, inr, ◌⊎◌, replicate}
use Rattle.std.specs.Prelude.{◌==◌, count_by, map}
use Rattle.std.proofs.lemmas.List.Sums.{sum_by-cons, sum_by-append}
use Rattle.std.proofs.lemmas.List.Folds.{sum_by-replicate}
use Rattle.szg_values.specs.Men.{letter_of, is_man}
use Rattle.szg_values.specs.Material.{Sides, may_be_first}
use Rattle.szg_values.specs.Placement.{PlacedMan, number_of, side_of}
use Rattle.szg_values.specs.Laws.{HasMenOf, LawNameLetters, LawMenOfPlacement}
use Rattle.szg_values.specs.declared.Man.{Man}
use Rattle.szg_values.specs.declared.Man.TheVariants.{Pawn, Knight, Bishop, Rook, Queen, King}
use Rattle.szg_values.specs.declared.Color.{Color}
use Rattle.szg_values.specs.declared.Color.TheVariants.{White, Black}
use Rattle.szg_values.proofs.Names.{before-name, after-name}

-- ---- letters

letter_matches : (kind man : Man) → is_man kind man ≡ (letter_of man == letter_of kind)
letter_matches Pawn Pawn = refl
letter_matches Pawn Knight = refl
letter_matches Pawn Bishop = refl
letter_matches Pawn Rook = refl
letter_matches Pawn Queen = refl
letter_matches Pawn King = refl
letter_matches Knight Pawn = refl
letter_matches Knight Knight = refl
letter_matches Knight Bishop = refl
letter_matches Knight Rook = refl
letter_matches Knight Queen = refl
letter_matches Knight King = refl
letter_matches Bishop Pawn = refl
letter_matches Bishop Knight = refl
letter_matches Bishop Bishop = refl
letter_matches Bishop Rook = refl
letter_matches Bishop Queen = refl
letter_matches Bishop King = refl
letter_matches Rook Pawn = refl
letter_matches Rook Knight = refl
letter_matches Rook Bishop = refl
letter_matches Rook Rook = refl
letter_matches Rook Queen = refl
letter_matches Rook King = refl
letter_matches Queen Pawn = refl
letter_matches Queen Knight = refl
letter_matches Queen Bishop = refl
letter_matches Queen Rook = refl
letter_matches Queen Queen = refl
letter_matches Queen King = refl
letter_matches King Pawn = refl
letter_matches King Knight = refl
letter_matches King Bishop = refl
letter_matches King Rook = refl
letter_matches King Queen = refl
letter_matches King King = refl

letters_counted : (kind : Man) (men : List Man) → count_by (is_man kind) men ≡ count_by (λ c. c == letter_of kind) (map letter_of men)
letters_counted sort [] = refl
letters_counted sort (man ∷ men) =
    sum_by-cons (λ x. cond (is_man sort x) 1 0) man men
    ∙ ap (λ b. cond b 1 0 + count_by (is_man sort) men) (letter_matches sort man)
    ∙ ap (λ n. cond (letter_of man == letter_of sort) 1 0 + n) (letters_counted sort men)
    ∙ sym (sum_by-cons (λ c. cond (c == letter_of sort) 1 0) (letter_of man) (map letter_of men))

pub name_letters : LawNameLetters
name_letters sides kind = (
  letters_counted kind sides.first ∙ ap (count_by (λ c. c == letter_of kind)) (sym (before-name sides.first (map letter_of sides.second))),
  letters_counted kind sides.second ∙ ap (count_by (λ c. c == letter_of kind)) (sym (after-name sides.first (map letter_of sides.second))),
)

-- ---- the men on the board

abbrev same : Man → Man → ℕ → ℕ
same kind man n = n * cond (is_man kind man) 1 0

more : (kind man : Man) (n m : ℕ) (men : List Man) → count_by (is_man kind) men ≡ m → count_by (is_man kind) (replicate n man ++ men) ≡ same kind man n + m
more kind man n m men e =
    sum_by-append (λ x. cond (is_man kind x) 1 0) (replicate n man) men
    ∙ ap (λ k. k + count_by (is_man kind) men) (sum_by-replicate (λ x. cond (is_man kind x) 1 0) n man)
    ∙ ap (λ k. same kind man n + k) e

abbrev side_of_counts : ℕ → ℕ → ℕ → ℕ → ℕ → ℕ → List Man
side_of_counts k q r b n p = replicate k King ++ (replicate q Queen ++ (replicate r Rook ++ (replicate b Bishop ++ (replicate n Knight ++ (replicate p Pawn ++ [])))))

army_counted : (kind : Man) (k q r b n p : ℕ) → count_by (is_man kind) (side_of_counts k q r b n p) ≡
    same kind King k + (same kind Queen q + (same kind Rook r + (same kind Bishop b + (same kind Knight n + (same kind Pawn p + 0)))))
army_counted kind k q r b n p =
    more kind King k _ _ (more kind Queen q _ _ (more kind Rook r _ _ (more kind Bishop b _ _ (more kind Knight n _ _ (more kind Pawn p 0 [] refl)))))

of_kind : (kind : Man) (k q r b n p : ℕ) → ℕ
of_kind King k q r b n p = k
of_kind Queen k q r b n p = q
of_kind Rook k q r b n p = r
of_kind Bishop k q r b n p = b
of_kind Knight k q r b n p = n
of_kind Pawn k q r b n p = p

army_of : (kind : Man) (k q r b n p : ℕ) → count_by (is_man kind) (side_of_counts k q r b n p) ≡ of_kind kind k q r b n p
unfolding of_kind
army_of King k q r b n p = army_counted King k q r b n p ∙ omega arith
army_of Queen k q r b n p = army_counted Queen k q r b n p ∙ omega arith
army_of Rook k q r b n p = army_counted Rook k q r b n p ∙ omega arith
army_of Bishop k q r b n p = army_counted Bishop k q r b n p ∙ omega arith
army_of Knight k q r b n p = army_counted Knight k q r b n p ∙ omega arith
army_of Pawn k q r b n p = army_counted Pawn k q r b n p ∙ omega arith

side_counted : (color : Color) (placed_men : List PlacedMan) → HasMenOf color placed_men (side_of color placed_men)
unfolding of_kind
side_counted color placed_men kind =
    army_of kind (number_of King color placed_men) (number_of Queen color placed_men) (number_of Rook color placed_men)
    (number_of Bishop color placed_men) (number_of Knight color placed_men) (number_of Pawn color placed_men) ∙ of_number kind
  where
    of_number : (kind : Man) → of_kind kind (number_of King color placed_men) (number_of Queen color placed_men) (number_of Rook color placed_men)
        (number_of Bishop color placed_men) (number_of Knight color placed_men) (number_of Pawn color placed_men) ≡ number_of kind color placed_men
    of_number King = refl
    of_number Queen = refl
    of_number Rook = refl
    of_number Bishop = refl
    of_number Knight = refl
    of_number Pawn = refl

pub men_of_placement : LawMenOfPlacement
men_of_placement placed_men = either (may_be_first (side_of White placed_men) (side_of Black placed_men)) where
  white : HasMenOf White placed_men (side_of White placed_men)
  white = side_counted White placed_men

  black : HasMenOf Black placed_men (side_of Black placed_men)
  black = side_counted Black placed_men

  either : (b : Bool) →
      let sides : Sides = cond b (record { first = side_of White placed_men; second = side_of Black placed_men }) (record { first = side_of Black placed_men; second = side_of White placed_men }) in
      (HasMenOf White placed_men sides.first × HasMenOf Black placed_men sides.second) ⊎ (HasMenOf Black placed_men sides.first × HasMenOf White placed_men sides.second)
  either true = inl (white, black)
  either false = inr (black, white)
