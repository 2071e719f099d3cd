-- Closed sets of materials are closed under moves.
use Rattle.std.proofs.Common.{◌≡◌, ◌≢◌, ℕ, ◌+◌, ◌≤◌, ◌⊎◌, List, [], ◌∷◌, ◌++◌, length, map, get_or, refl, sym, ap, ◌∙◌, subst, Bool, true, false, arith, inl, inr, Contains, Option}
use Rattle.std.specs.Prelude.{filter, not, ◌&&◌, ◌||◌, ◌==◌, count_by, unwrap_or, if◌then◌else◌}
use Rattle.std.specs.List.{list_any, list_all, All}
use Rattle.std.proofs.lemmas.Bool.{cases_Bool, and_from, and_parts, and_right, or_cases, or_left, or_right, eq-eqb, eqb-true, eqb-false, ne_eqb, not-true, not_from_true, not_from_false}
use Rattle.std.proofs.lemmas.List.Elements.{All-contains, All-head, All-tail, All-filter, All-weaker}
use Rattle.std.proofs.lemmas.List.Folds.{list_any_none}
use Rattle.std.proofs.lemmas.List.Sums.{length-filter}
use Rattle.szg_values.specs.Men.{is_man, is_color, other_color, name_order, rank_of, file_of, square_at}
use Rattle.szg_values.specs.Material.{Sides, is_same_men}
use Rattle.szg_values.specs.Placement.{PlacedMan, number_of, has_distinct_squares}
use Rattle.szg_values.specs.declared.Man.{Man}
use Rattle.szg_values.specs.declared.Man.TheVariants.{Pawn, Knight, Bishop, Rook, Queen, King}
use Rattle.szg_values.specs.declared.Color.{Color}
use Rattle.szg_values.specs.declared.Color.TheVariants.{White, Black}
use Rattle.szg_game.proofs.Lists.{IsIn, some_in, any_in, each_in, in_map}
use Rattle.szg_chess.specs.declared.Move.{Move}
use Rattle.szg_chess.specs.Attacks.{files_apart}
use Rattle.szg_chess.specs.Position.{Position, IsPosition}
use Rattle.szg_chess.specs.Moves.{after, captured_square, man_after, men_after, is_square, is_en_passant, is_pawn_on}
use Rattle.szg_chess.proofs.Facts.{faultless}
use Rattle.szg_chess.proofs.Relation.{contains_filter}
use Rattle.szg_chess.proofs.Members.{none_of, contains_cons, same_man}
use Rattle.szg_chess.proofs.MoveFacts.{IsMove, Promotes, Remains, legal_move}
use Rattle.szg_chess.proofs.AfterMen.{is_off, off_from}
use Rattle.szg_chess.proofs.AfterMove.{safe_move, victim, taking_plain, pass_is}
use Rattle.szg_chess.proofs.Captured.{filter_all, enters_off}
use Rattle.szg_probe.proofs.Choosing.{in_filter}
use Rattle.szg_verify.specs.Materials.{without, has_man, captured_from, promoted_from, changed_from, changes, is_same_material, kings_alone, is_listed, are_closed, has_sides, is_of, covers}
use Rattle.szg_verify.specs.Verified.{IsClosed}

-- ---- kinds

abbrev pub count : Man → List Man → ℕ
count man side = count_by (is_man man) side

-- 1 if the test holds
abbrev pub one_if : Bool → ℕ
one_if b = if b then 1 else 0

pub same_kind : (a b : Man) → is_man a b ≡ true → b ≡ a
same_kind Pawn Pawn e = refl
same_kind Knight Knight e = refl
same_kind Bishop Bishop e = refl
same_kind Rook Rook e = refl
same_kind Queen Queen e = refl
same_kind King King e = refl
same_kind Pawn Knight e = cc
same_kind Pawn Bishop e = cc
same_kind Pawn Rook e = cc
same_kind Pawn Queen e = cc
same_kind Pawn King e = cc
same_kind Knight Pawn e = cc
same_kind Knight Bishop e = cc
same_kind Knight Rook e = cc
same_kind Knight Queen e = cc
same_kind Knight King e = cc
same_kind Bishop Pawn e = cc
same_kind Bishop Knight e = cc
same_kind Bishop Rook e = cc
same_kind Bishop Queen e = cc
same_kind Bishop King e = cc
same_kind Rook Pawn e = cc
same_kind Rook Knight e = cc
same_kind Rook Bishop e = cc
same_kind Rook Queen e = cc
same_kind Rook King e = cc
same_kind Queen Pawn e = cc
same_kind Queen Knight e = cc
same_kind Queen Bishop e = cc
same_kind Queen Rook e = cc
same_kind Queen King e = cc
same_kind King Pawn e = cc
same_kind King Knight e = cc
same_kind King Bishop e = cc
same_kind King Rook e = cc
same_kind King Queen e = cc

pub itself : (man : Man) → is_man man man ≡ true
itself Pawn = refl
itself Knight = refl
itself Bishop = refl
itself Rook = refl
itself Queen = refl
itself King = refl

pub own_color : (color : Color) → is_color color color ≡ true
own_color White = refl
own_color Black = refl

-- what is tested of each kind in a name holds of each kind
pub each_kind : (t : Man → Bool) → list_all t name_order ≡ true → (man : Man) → t man ≡ true
each_kind t e man = each_in t name_order e man (named man)
  where
    named : (man : Man) → IsIn name_order man
    named King = inl refl
    named Queen = inr (inl refl)
    named Rook = inr (inr (inl refl))
    named Bishop = inr (inr (inr (inl refl)))
    named Knight = inr (inr (inr (inr (inl refl))))
    named Pawn = inr (inr (inr (inr (inr (inl refl)))))

all_kinds : (t : Man → Bool) → ((man : Man) → t man ≡ true) → list_all t name_order ≡ true
all_kinds t each = rw (each King, each Queen, each Rook, each Bishop, each Knight, each Pawn) refl

-- ---- counts

-- a list with one element more in front
pub filter_cons : {X : Type 0} (t : X → Bool) (x : X) (xs : List X) → length (filter t (x ∷ xs)) ≡ length (filter t xs) + one_if (t x)
filter_cons t x xs = elim (cases_Bool (t x)) [ inl e ↦ rw e (omega arith) | inr e ↦ rw e (omega arith) ]

pub count_cons : (man other : Man) (side : List Man) → count man (other ∷ side) ≡ count man side + one_if (is_man man other)
count_cons man other side = sym (length-filter (is_man man) (other ∷ side)) ∙ filter_cons (is_man man) other side ∙ ap (λ (n : ℕ). n + one_if (is_man man other)) (length-filter (is_man man) side)

counted_man : (man : Man) (side : List Man) → 1 ≤ count man side → has_man side man ≡ true
counted_man man [] h = absurd (omega (arith, h))
counted_man man (other ∷ side) h = elim (cases_Bool (is_man man other)) [
  | inl t ↦ rw t refl
  | inr e ↦ let cons = count_cons man other side in let zero_here : one_if (is_man man other) ≡ 0 = rw e refl in rw e (counted_man man side (omega (arith, h, cons, zero_here)))
]

-- one man less
count_without : (man : Man) (side : List Man) → has_man side man ≡ true → (other : Man) → count other (without man side) + one_if (is_man other man) ≡ count other side
count_without man [] e other = cc
count_without man (x ∷ side) e other = elim (cases_Bool (is_man man x)) [
  | inl t ↦ let same : one_if (is_man other x) ≡ one_if (is_man other man) = ap (λ (y : Man). one_if (is_man other y)) (same_kind man x t) in let cons = count_cons other x side in rw t (omega (arith, same, cons))
  | inr f ↦ let more = count_without man side (rw f at e) other in let a = count_cons other x (without man side) in let b = count_cons other x side in rw f (omega (arith, more, a, b))
]

-- ---- men

-- a man less: the one on this square
one_off : (t : PlacedMan → Bool) (men : List PlacedMan) → has_distinct_squares men ≡ true → (s : PlacedMan) → Contains men s → length (filter t (filter (is_off s.2) men)) + one_if (t s) ≡ length (filter t men)
one_off t [] apart s held = absurd (omega (arith, held.1))
one_off t (x ∷ xs) apart s held =
    let parts = and_parts (not (list_any (λ u. x.2 == u.2) xs)) (has_distinct_squares xs) apart in
    let none = none_of (λ (u : PlacedMan). x.2 == u.2) xs (not-true (list_any (λ u. x.2 == u.2) xs) parts.0) in
    let cons = filter_cons t x xs in
    elim (contains_cons x xs s held) [
      | inl same ↦
          let here : is_off s.2 x ≡ false = not_from_true (x.2 == s.2) (eq-eqb x.2 s.2 (ap (λ (u : PlacedMan). u.2) same)) in
          let rest : filter (is_off s.2) xs ≡ xs = filter_all (is_off s.2) xs (λ k d h. off_from s.2 (get_or xs k d) (λ e. eqb-false x.2 (get_or xs k d).2 (none k d h) (ap (λ (u : PlacedMan). u.2) same ∙ sym e))) in
          let one : one_if (t x) ≡ one_if (t s) = ap (λ (u : PlacedMan). one_if (t u)) same in
          rw (here, rest) (omega (arith, cons, one))
      | inr more ↦
          let differ : (x.2 == s.2) ≡ false = All-contains (λ (u : PlacedMan). (x.2 == u.2) ≡ false) xs s none more in
          let rest = one_off t xs parts.1 s more in
          let cons_off = filter_cons t x (filter (is_off s.2) xs) in
          rw (not_from_false (x.2 == s.2) differ) (omega (arith, rest, cons, cons_off))
    ]

-- a man goes elsewhere, and may be promoted
nobody_goes : (m : Move) (men : List PlacedMan) → All (λ u. u.2 ≢ m.from) men → map (man_after m) men ≡ men
nobody_goes m [] off = refl
nobody_goes m (x ∷ xs) off =
    let P : PlacedMan → Type 0 = λ u. u.2 ≢ m.from in
    rw (ne_eqb x.2 m.from (All-head P x xs off)) (ap (λ (ys : List PlacedMan). x ∷ ys) (nobody_goes m xs (All-tail P x xs off)))

one_goes : (t : PlacedMan → Bool) (m : Move) (men : List PlacedMan) → has_distinct_squares men ≡ true → (s : PlacedMan) → Contains men s → m.from ≡ s.2 →
    length (filter t (map (man_after m) men)) + one_if (t s) ≡ length (filter t men) + one_if (t (man_after m s))
one_goes t m [] apart s held from = absurd (omega (arith, held.1))
one_goes t m (x ∷ xs) apart s held from =
    let parts = and_parts (not (list_any (λ u. x.2 == u.2) xs)) (has_distinct_squares xs) apart in
    let none = none_of (λ (u : PlacedMan). x.2 == u.2) xs (not-true (list_any (λ u. x.2 == u.2) xs) parts.0) in
    let cons = filter_cons t x xs in
    let cons_after = filter_cons t (man_after m x) (map (man_after m) xs) in
    elim (contains_cons x xs s held) [
      | inl same ↦
          let rest = ap (λ (ys : List PlacedMan). length (filter t ys)) (nobody_goes m xs (λ k d h e. eqb-false x.2 (get_or xs k d).2 (none k d h) (ap (λ (u : PlacedMan). u.2) same ∙ sym from ∙ sym e))) in
          let one : one_if (t x) ≡ one_if (t s) = ap (λ (u : PlacedMan). one_if (t u)) same in
          let after_one : one_if (t (man_after m x)) ≡ one_if (t (man_after m s)) = ap (λ (u : PlacedMan). one_if (t (man_after m u))) same in
          omega (arith, rest, cons, cons_after, one, after_one)
      | inr more ↦
          let differ : (x.2 == s.2) ≡ false = All-contains (λ (u : PlacedMan). (x.2 == u.2) ≡ false) xs s none more in
          let stays : man_after m x ≡ x = rw (ne_eqb x.2 m.from (λ e. eqb-false x.2 s.2 differ (e ∙ from))) refl in
          let rest = one_goes t m xs parts.1 s more from in
          let same_one : one_if (t (man_after m x)) ≡ one_if (t x) = ap (λ (u : PlacedMan). one_if (t u)) stays in
          omega (arith, rest, cons, cons_after, same_one)
    ]

-- ---- numbers of men by kind and color

abbrev pub Numbers : Type 0
Numbers = Man → Color → ℕ

abbrev pub AreCounted : Numbers → List Man → List Man → Type 0
AreCounted n white black = (man : Man) → (n man White ≡ count man white) × (n man Black ≡ count man black)

-- the numbers are those of one of the materials
record IsCovered (materials : List Sides) (n : Numbers) : Type 0 where
  pub sides : Sides
  pub listed : IsIn (kings_alone ∷ materials) sides
  pub counted : AreCounted n sides.first sides.second ⊎ AreCounted n sides.second sides.first

abbrev pub numbers : List PlacedMan → Numbers
numbers men man color = number_of man color men

pub from_sides : (men : List PlacedMan) (white black : List Man) → has_sides men white black ≡ true → AreCounted (numbers men) white black
from_sides men white black e man =
    let both = and_parts (number_of man White men == count man white) (number_of man Black men == count man black)
    (each_kind (λ man. number_of man White men == count_by (is_man man) white && number_of man Black men == count_by (is_man man) black) e man) in
    (eqb-true (number_of man White men) (count man white) both.0, eqb-true (number_of man Black men) (count man black) both.1)

pub to_sides : (men : List PlacedMan) (white black : List Man) → AreCounted (numbers men) white black → has_sides men white black ≡ true
to_sides men white black counted = all_kinds (λ man. number_of man White men == count_by (is_man man) white && number_of man Black men == count_by (is_man man) black) (λ man.
    and_from (number_of man White men == count man white) (number_of man Black men == count man black) (eq-eqb (number_of man White men) (count man white) (counted man).0) (eq-eqb (number_of man Black men) (count man black) (counted man).1))

covered_from : (materials : List Sides) (men : List PlacedMan) → covers materials men ≡ true → IsCovered materials (numbers men)
covered_from materials men e =
    let r = some_in (is_of men) (kings_alone ∷ materials) e in let sides = r.0 in
    record {
      sides = sides;
      listed = r.1;
      counted = elim (or_cases (has_sides men sides.first sides.second) (has_sides men sides.second sides.first) r.2) [
        | inl t ↦ inl (from_sides men sides.first sides.second t)
        | inr t ↦ inr (from_sides men sides.second sides.first t)
      ];
    }

to_covered : (materials : List Sides) (men : List PlacedMan) → IsCovered materials (numbers men) → covers materials men ≡ true
to_covered materials men covered =
    let sides = covered.sides in
    any_in (is_of men) (kings_alone ∷ materials) sides covered.listed (elim covered.counted [
      | inl t ↦ or_left (has_sides men sides.first sides.second) (has_sides men sides.second sides.first) (to_sides men sides.first sides.second t)
      | inr t ↦ or_right (has_sides men sides.first sides.second) (has_sides men sides.second sides.first) (to_sides men sides.second sides.first t)
    ])

-- ---- one change

in_left : {A : Type 0} (xs ys : List A) (x : A) → IsIn xs x → IsIn (xs ++ ys) x
in_left [] ys x i = absurd i
in_left (y ∷ xs) ys x (inl e) = inl e
in_left (y ∷ xs) ys x (inr i) = inr (in_left xs ys x i)

in_right : {A : Type 0} (xs ys : List A) (x : A) → IsIn ys x → IsIn (xs ++ ys) x
in_right [] ys x i = i
in_right (y ∷ xs) ys x i = inr (in_right xs ys x i)

same_counts : (a b : List Man) → is_same_men a b ≡ true → (man : Man) → count man a ≡ count man b
same_counts a b e man = eqb-true (count man a) (count man b) (each_kind (λ (man : Man). count_by (is_man man) a == count_by (is_man man) b) e man)

counted_as : (n : Numbers) (a b c d : List Man) → AreCounted n a b → is_same_men a c ≡ true → is_same_men b d ≡ true → AreCounted n c d
counted_as n a b c d counted first second man = ((counted man).0 ∙ same_counts a c first man, (counted man).1 ∙ same_counts b d second man)

-- a listed material covers
listed_covers : (materials : List Sides) (n : Numbers) (sides : Sides) → is_listed materials sides ≡ true → (AreCounted n sides.first sides.second ⊎ AreCounted n sides.second sides.first) → IsCovered materials n
listed_covers materials n sides e counted =
    let r = some_in (is_same_material sides) (kings_alone ∷ materials) e in let other = r.0 in
    let straight = is_same_men sides.first other.first && is_same_men sides.second other.second in
    let crossed = is_same_men sides.first other.second && is_same_men sides.second other.first in
    record {
      sides = other;
      listed = r.1;
      counted = elim (or_cases straight crossed r.2) [
        | inl t ↦ let both = and_parts (is_same_men sides.first other.first) (is_same_men sides.second other.second) t in elim counted [
          | inl c ↦ inl (counted_as n sides.first sides.second other.first other.second c both.0 both.1)
          | inr c ↦ inr (counted_as n sides.second sides.first other.second other.first c both.1 both.0)
        ]
        | inr t ↦ let both = and_parts (is_same_men sides.first other.second) (is_same_men sides.second other.first) t in elim counted [
          | inl c ↦ inr (counted_as n sides.first sides.second other.second other.first c both.0 both.1)
          | inr c ↦ inl (counted_as n sides.second sides.first other.first other.second c both.1 both.0)
        ]
      ];
    }

module _ (materials : List Sides) (closed : are_closed materials ≡ true) where
  change_listed : (sides changed : Sides) → IsIn (kings_alone ∷ materials) sides → IsIn (changes sides) changed → is_listed materials changed ≡ true
  change_listed sides changed (inl e) i = absurd (subst (λ (s : Sides). IsIn (changes s) changed) (sym e) i)
  change_listed sides changed (inr j) i = each_in (is_listed materials) (changes sides) (each_in (λ (s : Sides). list_all (is_listed materials) (changes s)) materials closed sides j) changed i

  -- how the numbers of one color change
  abbrev ChangesBy : Numbers → Numbers → Color → Type 0
  ChangesBy n next color = (side : List Man) → ((man : Man) → n man color ≡ count man side) → (changed : List Man) × IsIn (changed_from side) changed × ((man : Man) → next man color ≡ count man changed)

  change_first : (n next : Numbers) (sides : Sides) → IsIn (kings_alone ∷ materials) sides → (changed : List Man) → IsIn (changed_from sides.first) changed →
      (let made : Sides = record { first = changed; second = sides.second } in AreCounted next made.first made.second ⊎ AreCounted next made.second made.first) → IsCovered materials next
  change_first n next sides listed changed i counted =
      let made : Sides = record { first = changed; second = sides.second } in
      listed_covers materials next made (change_listed sides made listed (in_left (map (λ (side : List Man). let s : Sides = record { first = side; second = sides.second } in s) (changed_from sides.first)) (map (λ (side : List Man). let s : Sides = record { first = sides.first; second = side } in s) (changed_from sides.second)) made
      (in_map (λ (side : List Man). let s : Sides = record { first = side; second = sides.second } in s) (changed_from sides.first) changed i))) counted

  change_second : (n next : Numbers) (sides : Sides) → IsIn (kings_alone ∷ materials) sides → (changed : List Man) → IsIn (changed_from sides.second) changed →
      (let made : Sides = record { first = sides.first; second = changed } in AreCounted next made.first made.second ⊎ AreCounted next made.second made.first) → IsCovered materials next
  change_second n next sides listed changed i counted =
      let made : Sides = record { first = sides.first; second = changed } in
      listed_covers materials next made (change_listed sides made listed (in_right (map (λ (side : List Man). let s : Sides = record { first = side; second = sides.second } in s) (changed_from sides.first)) (map (λ (side : List Man). let s : Sides = record { first = sides.first; second = side } in s) (changed_from sides.second)) made
      (in_map (λ (side : List Man). let s : Sides = record { first = sides.first; second = side } in s) (changed_from sides.second) changed i))) counted

  one_change : (n next : Numbers) → IsCovered materials n → (color : Color) → ChangesBy n next color → ((man : Man) → next man (other_color color) ≡ n man (other_color color)) → IsCovered materials next
  one_change n next covered White by keeps = let sides = covered.sides in elim covered.counted [
    | inl c ↦ let r = by sides.first (λ man. (c man).0) in change_first n next sides covered.listed r.0 r.1 (inl (λ man. (r.2 man, keeps man ∙ (c man).1)))
    | inr c ↦ let r = by sides.second (λ man. (c man).0) in change_second n next sides covered.listed r.0 r.1 (inr (λ man. (r.2 man, keeps man ∙ (c man).1)))
  ]
  one_change n next covered Black by keeps = let sides = covered.sides in elim covered.counted [
    | inl c ↦ let r = by sides.second (λ man. (c man).1) in change_second n next sides covered.listed r.0 r.1 (inl (λ man. (keeps man ∙ (c man).0, r.2 man)))
    | inr c ↦ let r = by sides.first (λ man. (c man).1) in change_first n next sides covered.listed r.0 r.1 (inr (λ man. (keeps man ∙ (c man).0, r.2 man)))
  ]

  -- ---- a capture and a promotion

  capturable : (man : Man) → is_man King man ≡ false → IsIn (Queen ∷ Rook ∷ Bishop ∷ Knight ∷ Pawn ∷ []) man
  capturable Queen e = inl refl
  capturable Rook e = inr (inl refl)
  capturable Bishop e = inr (inr (inl refl))
  capturable Knight e = inr (inr (inr (inl refl)))
  capturable Pawn e = inr (inr (inr (inr (inl refl))))
  capturable King e = cc

  by_capture : (n next : Numbers) (color : Color) (taken : Man) → is_man King taken ≡ false → ((man : Man) → next man color + one_if (is_man man taken) ≡ n man color) → ChangesBy n next color
  by_capture n next color taken no_king less side counted =
      let some : 1 ≤ count taken side = (let l = less taken in let c = counted taken in let one : one_if (is_man taken taken) ≡ 1 = rw (itself taken) refl in omega (arith, l, c, one)) in
      let has = counted_man taken side some in (
        without taken side,
        in_left (captured_from side) (promoted_from side) (without taken side)
            (in_map (λ (man : Man). without man side) (filter (has_man side) (Queen ∷ Rook ∷ Bishop ∷ Knight ∷ Pawn ∷ [])) taken (in_filter (has_man side) (Queen ∷ Rook ∷ Bishop ∷ Knight ∷ Pawn ∷ []) taken (capturable taken no_king) has)),
        λ man. let l = less man in let c = counted man in let w = count_without taken side has man in omega (arith, l, c, w),
      )

  promotable : (man : Man) → is_man Pawn man ≡ false → is_man King man ≡ false → IsIn (Queen ∷ Rook ∷ Bishop ∷ Knight ∷ []) man
  promotable Queen p k = inl refl
  promotable Rook p k = inr (inl refl)
  promotable Bishop p k = inr (inr (inl refl))
  promotable Knight p k = inr (inr (inr (inl refl)))
  promotable Pawn p k = cc
  promotable King p k = cc

  by_promotion : (n next : Numbers) (color : Color) (piece : Man) → is_man Pawn piece ≡ false → is_man King piece ≡ false →
      ((man : Man) → next man color + one_if (is_man man Pawn) ≡ n man color + one_if (is_man man piece)) → ChangesBy n next color
  by_promotion n next color piece no_pawn no_king changed side counted =
      let here : one_if (is_man Pawn piece) ≡ 0 = rw no_pawn refl in
      let some : 1 ≤ count Pawn side = (let l = changed Pawn in let c = counted Pawn in omega (arith, l, c, here)) in
      let has = counted_man Pawn side some in (
        piece ∷ without Pawn side,
        in_right (captured_from side) (promoted_from side) (piece ∷ without Pawn side)
            (subst (λ (b : Bool). IsIn (if b then map (λ (piece : Man). piece ∷ without Pawn side) (Queen ∷ Rook ∷ Bishop ∷ Knight ∷ []) else []) (piece ∷ without Pawn side)) (sym has)
            (in_map (λ (piece : Man). piece ∷ without Pawn side) (Queen ∷ Rook ∷ Bishop ∷ Knight ∷ []) piece (promotable piece no_pawn no_king))),
        λ man. let l = changed man in let c = counted man in let w = count_without Pawn side has man in let cons = count_cons man piece (without Pawn side) in omega (arith, l, c, w, cons),
      )

  -- ---- a legal move

  apart_off : (square : ℕ) (men : List PlacedMan) → has_distinct_squares men ≡ true → has_distinct_squares (filter (is_off square) men) ≡ true
  apart_off square [] e = refl
  apart_off square (s ∷ men) e =
      let parts = and_parts (not (list_any (λ t. s.2 == t.2) men)) (has_distinct_squares men) e in
      let more = apart_off square men parts.1 in
      let none = none_of (λ (t : PlacedMan). s.2 == t.2) men (not-true (list_any (λ t. s.2 == t.2) men) parts.0) in
      elim (cases_Bool (is_off square s)) [
        | inl t ↦ rw t (and_from (not (list_any (λ t. s.2 == t.2) (filter (is_off square) men))) (has_distinct_squares (filter (is_off square) men))
            (not_from_false (list_any (λ t. s.2 == t.2) (filter (is_off square) men)) (list_any_none (λ (t : PlacedMan). s.2 == t.2) (filter (is_off square) men) (All-filter (is_off square) (λ (t : PlacedMan). (s.2 == t.2) ≡ false) men none))) more)
        | inr f ↦ rw f more
      ]

  abbrev of : Man → Color → PlacedMan → Bool
  of man color s = is_man man s.0 && is_color color s.1

  numbers_are : (men : List PlacedMan) (man : Man) (color : Color) → numbers men man color ≡ length (filter (of man color) men)
  numbers_are men man color = sym (length-filter (of man color) men)

  as_covered : (n next : Numbers) → IsCovered materials n → ((man : Man) (color : Color) → next man color ≡ n man color) → IsCovered materials next
  as_covered n next covered same = record {
    sides = covered.sides;
    listed = covered.listed;
    counted = elim covered.counted [
      | inl c ↦ inl (λ man. (same man White ∙ (c man).0, same man Black ∙ (c man).1))
      | inr c ↦ inr (λ man. (same man White ∙ (c man).0, same man Black ∙ (c man).1))
    ];
  }

  other_not : (color : Color) → is_color (other_color color) color ≡ false
  other_not White = refl
  other_not Black = refl

  -- a man vanishes
  without_one : (men : List PlacedMan) → has_distinct_squares men ≡ true → (t : PlacedMan) → Contains men t → is_man King t.0 ≡ false → IsCovered materials (numbers men) → IsCovered materials (numbers (filter (is_off t.2) men))
  without_one men apart t held no_king covered =
      let rest = filter (is_off t.2) men in
      one_change (numbers men) (numbers rest) covered t.1
      (by_capture (numbers men) (numbers rest) t.1 t.0 no_king (λ man.
      let one = one_off (of man t.1) men apart t held in
      let a = numbers_are men man t.1 in let b = numbers_are rest man t.1 in
      let c : one_if (of man t.1 t) ≡ one_if (is_man man t.0) = rw (own_color t.1) (ap one_if (and_true (is_man man t.0))) in
      omega (arith, one, a, b, c)))
      (λ man.
      let one = one_off (of man (other_color t.1)) men apart t held in
      let a = numbers_are men man (other_color t.1) in let b = numbers_are rest man (other_color t.1) in
      let c : one_if (of man (other_color t.1) t) ≡ 0 = rw (other_not t.1) (ap one_if (and_right (is_man man t.0) false refl)) in
      omega (arith, one, a, b, c))
    where
      and_true : (b : Bool) → (b && true) ≡ b
      and_true true = refl
      and_true false = refl

  -- a man goes elsewhere, and becomes another
  with_one : (m : Move) (men : List PlacedMan) → has_distinct_squares men ≡ true → (s : PlacedMan) → Contains men s → m.from ≡ s.2 → (Promotes s m ⊎ Remains s m) → IsCovered materials (numbers men) → IsCovered materials (numbers (map (man_after m) men))
  with_one m men apart s held from rank covered =
      let next = map (man_after m) men in
      let now : man_after m s ≡ (unwrap_or m.promotion s.0, s.1, m.to) = rw (eq-eqb s.2 m.from (sym from)) refl in
      let moved : (man : Man) (color : Color) → numbers next man color + one_if (of man color s) ≡ numbers men man color + one_if (is_man man (unwrap_or m.promotion s.0) && is_color color s.1) = λ man color.
      (let one = one_goes (of man color) m men apart s held from in
      let a = numbers_are men man color in let b = numbers_are next man color in
      let c : one_if (of man color (man_after m s)) ≡ one_if (is_man man (unwrap_or m.promotion s.0) && is_color color s.1) = ap (λ (u : PlacedMan). one_if (of man color u)) now in
      omega (arith, one, a, b, c)) in
      elim rank [
        | inl promoted ↦
            let pawn : Pawn ≡ s.0 = sym (same_kind Pawn s.0 (and_parts (is_man Pawn s.0) (rank_of m.to == 0 || rank_of m.to == 7) promoted.reaches).0) in
            let piece : unwrap_or m.promotion s.0 ≡ promoted.piece = ap (λ (o : Option Man). unwrap_or o s.0) promoted.is in
            one_change (numbers men) (numbers next) covered s.1
            (by_promotion (numbers men) (numbers next) s.1 promoted.piece promoted.no_pawn promoted.no_king (λ man.
            let h = moved man s.1 in
            let a : one_if (of man s.1 s) ≡ one_if (is_man man Pawn) = ap (λ (b : Bool). one_if (is_man man s.0 && b)) (own_color s.1) ∙ ap one_if (and_true (is_man man s.0)) ∙ ap (λ (k : Man). one_if (is_man man k)) (sym pawn) in
            let b : one_if (is_man man (unwrap_or m.promotion s.0) && is_color s.1 s.1) ≡ one_if (is_man man promoted.piece) =
            ap (λ (b : Bool). one_if (is_man man (unwrap_or m.promotion s.0) && b)) (own_color s.1) ∙ ap one_if (and_true (is_man man (unwrap_or m.promotion s.0))) ∙ ap (λ (k : Man). one_if (is_man man k)) piece in
            omega (arith, h, a, b)))
            (λ man.
            let h = moved man (other_color s.1) in
            let a : one_if (of man (other_color s.1) s) ≡ 0 = ap (λ (b : Bool). one_if (is_man man s.0 && b)) (other_not s.1) ∙ ap one_if (and_right (is_man man s.0) false refl) in
            let b : one_if (is_man man (unwrap_or m.promotion s.0) && is_color (other_color s.1) s.1) ≡ 0 =
            ap (λ (b : Bool). one_if (is_man man (unwrap_or m.promotion s.0) && b)) (other_not s.1) ∙ ap one_if (and_right (is_man man (unwrap_or m.promotion s.0)) false refl) in
            omega (arith, h, a, b))
        | inr remains ↦ as_covered (numbers men) (numbers next) covered (λ man color.
            let h = moved man color in
            let a : one_if (is_man man (unwrap_or m.promotion s.0) && is_color color s.1) ≡ one_if (of man color s) = ap (λ (o : Option Man). one_if (is_man man (unwrap_or o s.0) && is_color color s.1)) remains.is in
            omega (arith, h, a))
      ]
    where
      and_true : (b : Bool) → (b && true) ≡ b
      and_true true = refl
      and_true false = refl

  -- who vanishes, if anybody does: the man who moves does not
  record Vanishes (p : Position) (m : Move) (s : PlacedMan) : Type 0 where
    pub man : PlacedMan
    pub stands : Contains p.placed_men man
    pub there : captured_square p m ≡ man.2
    pub other : s.2 ≢ captured_square p m

  clash_colors : (a b : Color) → is_color a b ≡ true → is_color (other_color a) b ≡ true → ⊥
  clash_colors White White e h = cc
  clash_colors White Black e h = cc
  clash_colors Black White e h = cc
  clash_colors Black Black e h = cc

  vanishing : (p : Position) (m : Move) → IsPosition p → (move : IsMove p m) → Vanishes p m move.man ⊎ (filter (is_off (captured_square p m)) p.placed_men ≡ p.placed_men)
  unfolding is_en_passant
  vanishing p m position move =
      let known = faultless p position.no_fault in let s = move.man in
      elim move.way [
        | inl takes ↦
            let there : captured_square p m ≡ takes.taken.2 = taking_plain p m s known takes ∙ takes.there in
            inl (record {
              man = takes.taken;
              stands = takes.stands;
              there = there;
              other = λ e.
                  let same = same_man p.placed_men known.apart s move.stands takes.taken takes.stands (sym (e ∙ there)) in
                  clash_colors p.mover s.1 move.own (subst (λ (u : PlacedMan). is_color (other_color p.mover) u.1 ≡ true) same takes.enemy);
            })
        | inr way ↦ elim way [
          | inl passes ↦
              let taken = victim p m s known move.stands move.own move.from_is passes in
              let pass = pass_is p m s move.stands move.own move.from_is passes in
              let at : captured_square p m ≡ square_at (file_of m.to) (rank_of m.from) = rw pass refl in
              let apart = eqb-true (files_apart m.from m.to) 1 (and_parts (is_square p.en_passant m.to) (files_apart m.from m.to == 1) (and_parts (is_square p.en_passant m.to && files_apart m.from m.to == 1) (is_pawn_on p m.from) pass).0).1 in
              let from = move.from_is in
              inl (record { man = taken.pawn; stands = taken.stands; there = taken.there; other = λ e. let here : m.from ≡ square_at (file_of m.to) (rank_of m.from) = from ∙ e ∙ at in omega (arith, here, apart) })
          | inr enters ↦ inr (filter_all (is_off (captured_square p m)) p.placed_men (All-weaker (λ (u : PlacedMan). u.2 ≢ captured_square p m) (λ u. is_off (captured_square p m) u ≡ true) (off_from (captured_square p m)) p.placed_men (enters_off p m s known move.stands move.from_is enters)))
        ]
      ]

  pub closed_by_materials : IsClosed (covers materials)
  unfolding after men_after
  closed_by_materials p m position covered held =
      let known = faultless p position.no_fault in
      let men = p.placed_men in let c = captured_square p m in
      let move = (legal_move p m held).0 in let s = move.man in
      let safe = safe_move p m known move in
      let from_men = covered_from materials men covered in
      to_covered materials (map (man_after m) (filter (is_off c) men)) (elim (vanishing p m position move) [
        | inl gone ↦
            let at = ap (λ (x : ℕ). filter (is_off x) men) gone.there in
            let no_king = All-contains (λ (u : PlacedMan). u.2 ≡ c → is_man King u.0 ≡ false) men gone.man safe.spared gone.stands (sym gone.there) in
            let left : IsCovered materials (numbers (filter (is_off c) men)) = subst (λ (rest : List PlacedMan). IsCovered materials (numbers rest)) (sym at) (without_one men known.apart gone.man gone.stands no_king from_men) in
            with_one m (filter (is_off c) men) (apart_off c men known.apart) s (contains_filter (is_off c) men s move.stands (off_from c s gone.other)) move.from_is move.rank left
        | inr nobody ↦ subst (λ (rest : List PlacedMan). IsCovered materials (numbers (map (man_after m) rest))) (sym nobody) (with_one m men known.apart s move.stands move.from_is move.rank from_men)
      ])
