-- In a placement of the table's material each code has the number of men that it has in the groups, after colours are
-- exchanged if needed.
use Rattle.std.proofs.Common.{◌≡◌, ℕ, zero, suc, ◌+◌, ◌<◌, inl, inr, List, [], ◌∷◌, ◌++◌, length, map, refl, sym, ap, ◌∙◌, subst, Bool, true, false, cond, arith, replicate}
use Rattle.std.specs.Prelude.{◌==◌, count_by, Option, Some, None}
use Rattle.std.specs.List.{list_any}
use Rattle.std.proofs.Math.Bool.{not, ◌&&◌, ◌||◌}
use Rattle.std.proofs.lemmas.Bool.{cases_Bool, cases_eq, eq-eqb, ne_eqb, and_parts, false_from_ne_true, or_left, or_right}
use Rattle.szg_values.specs.Men.{code_of, man_at, is_man, is_color, rank_of}
use Rattle.szg_values.specs.Material.{Sides, IsMaterial, has_king_first, is_in_order, may_be_first, is_count, has_pawns, count_of, man_codes, is_symmetric, is_same_men}
use Rattle.szg_values.specs.Placement.{PlacedMan, Board, number_of, placement_fault, has_men, has_distinct_squares, has_pawns_on_inner_ranks, side_of, material_of}
use Rattle.szg_values.specs.declared.Man.{Man}
use Rattle.szg_values.specs.declared.Man.TheVariants.{Pawn, Knight, Bishop, Rook, Queen, King}
use Rattle.szg_values.specs.declared.Color.{Color}
use Rattle.szg_values.specs.declared.Color.TheVariants.{White, Black}
use Rattle.szg_values.proofs.SameMen.{same_men, same_men-refl, same_sides-Decides}
use Rattle.szg_values.proofs.SideOf.{white_first, black_first}
use Rattle.szg_values.proofs.MaterialOf.{material_of_placement}
use Rattle.szg_count.specs.Leads.{contains, pawn_squares}
use Rattle.szg_count.specs.Laws.{IsIn, AllDiffer}
use Rattle.szg_count.specs.Groups.{is_rearrangement}
use Rattle.szg_count.proofs.Free.{contains-IsIn}
use Rattle.szg_count.proofs.Differ.{IsIn-map}
use Rattle.szg_count.proofs.ManCodes.{code_small}
use Rattle.szg_place.specs.Normal.{CodedMan, is_exchanged, exchanged_color, colored_code, pieces_of, moved, flip_rank}
use Rattle.szg_place.specs.Spots.{is_of_material}
use Rattle.szg_place.specs.Laws.{IsOnBoard}
use Rattle.szg_place.proofs.Ranks.Lists.{tested, all-IsIn, not_true}
use Rattle.szg_place.proofs.MenOnSlots.Pieces.{IsStood, IsStood-moved, count-cons, count-same, is_pawn_code}
use Rattle.szg_place.proofs.Symmetries.Flips.{flip_rank-move}
use Rattle.szg_count.proofs.Rearranged.{count_of-cons, rearranged_counts}
use Rattle.szg_place.proofs.MenOnSlots.Codes.{count_of-append}

-- ---- codes

pub man_at-first : (man : Man) → man_at (code_of man) ≡ man
man_at-first Pawn = refl
man_at-first Knight = refl
man_at-first Bishop = refl
man_at-first Rook = refl
man_at-first Queen = refl
man_at-first King = refl

pub man_at-second : (man : Man) → man_at (8 + code_of man) ≡ man
man_at-second Pawn = refl
man_at-second Knight = refl
man_at-second Bishop = refl
man_at-second Rook = refl
man_at-second Queen = refl
man_at-second King = refl

pub same_either : (a b : ℕ) → (a == b) ≡ (b == a)
same_either a b = elim (cases_eq a b) [ inl e ↦ eq-eqb a b e ∙ sym (eq-eqb b a (sym e)) | inr n ↦ ne_eqb a b n ∙ sym (ne_eqb b a (λ e. n (sym e))) ]

and_true : (b : Bool) → b ≡ (b && true)
and_true true = refl
and_true false = refl

and_false : (b : Bool) → false ≡ (b && false)
and_false true = refl
and_false false = refl

pub white_code : (kind man : Man) (color : Color) → (colored_code man color == code_of kind) ≡ (is_man kind man && is_color White color)
white_code kind man White = same_either (code_of man) (code_of kind) ∙ and_true (is_man kind man)
white_code kind man Black = let k = code_small kind in ne_eqb (8 + code_of man) (code_of kind) (λ e. absurd (omega (arith, e, k))) ∙ and_false (is_man kind man)

pub black_code : (kind man : Man) (color : Color) → (colored_code man color == (8 + code_of kind)) ≡ (is_man kind man && is_color Black color)
black_code kind man White = let k = code_small man in ne_eqb (code_of man) (8 + code_of kind) (λ e. absurd (omega (arith, e, k))) ∙ and_false (is_man kind man)
black_code kind man Black = elim (cases_eq (code_of man) (code_of kind)) [
  | inl e ↦ eq-eqb (8 + code_of man) (8 + code_of kind) (omega (arith, e)) ∙ sym (eq-eqb (code_of kind) (code_of man) (sym e)) ∙ and_true (is_man kind man)
  | inr n ↦ ne_eqb (8 + code_of man) (8 + code_of kind) (λ e. n (omega (arith, e))) ∙ sym (ne_eqb (code_of kind) (code_of man) (λ e. n (sym e))) ∙ and_true (is_man kind man)
]

-- a number is a code of the first side, a code of the second side, or no code
data CodeCase (c : ℕ) : Type 0 where
  first : (kind : Man) → code_of kind ≡ c → CodeCase c
  second : (kind : Man) → 8 + code_of kind ≡ c → CodeCase c
  none : ((man : Man) (color : Color) → colored_code man color ≡ c → ⊥) → CodeCase c

code_case : (c : ℕ) → CodeCase c
code_case c = elim (cases_eq (code_of (man_at c)) c) [
  | inl e ↦ first (man_at c) e
  | inr n ↦ elim (cases_eq (8 + code_of (man_at c)) c) [
    | inl e ↦ second (man_at c) e
    | inr m ↦ none (λ man color. out man color n m)
  ]
] where
  out : (man : Man) (color : Color) → (code_of (man_at c) ≡ c → ⊥) → (8 + code_of (man_at c) ≡ c → ⊥) → colored_code man color ≡ c → ⊥
  out man White n m e = n (ap (λ x. code_of (man_at x)) (sym e) ∙ ap code_of (man_at-first man) ∙ e)
  out man Black n m e = m (ap (λ x. 8 + code_of (man_at x)) (sym e) ∙ ap (λ k. 8 + code_of k) (man_at-second man) ∙ e)

-- ---- counts of a name

first_counts : (sort : Man) (men : List Man) → count_of (code_of sort) (map code_of men) ≡ count_by (is_man sort) men
first_counts sort [] = refl
first_counts sort (man ∷ men) = count_of-cons (code_of sort) (code_of man) (map code_of men)
    ∙ ap (λ b. cond b 1 0 + count_of (code_of sort) (map code_of men)) (same_either (code_of man) (code_of sort))
    ∙ ap (λ n. cond (is_man sort man) 1 0 + n) (first_counts sort men) ∙ sym (count-cons (is_man sort) man men)

second_counts : (sort : Man) (men : List Man) → count_of (8 + code_of sort) (map (λ man. 8 + code_of man) men) ≡ count_by (is_man sort) men
second_counts sort [] = refl
second_counts sort (man ∷ men) = count_of-cons (8 + code_of sort) (8 + code_of man) (map (λ man. 8 + code_of man) men)
    ∙ ap (λ b. cond b 1 0 + count_of (8 + code_of sort) (map (λ man. 8 + code_of man) men)) (black_code sort man Black ∙ sym (and_true (is_man sort man)))
    ∙ ap (λ n. cond (is_man sort man) 1 0 + n) (second_counts sort men) ∙ sym (count-cons (is_man sort) man men)

never : {A : Type 0} (test : A → Bool) (xs : List A) → ((x : A) → test x ≡ false) → count_by test xs ≡ 0
never test [] h = refl
never test (x ∷ xs) h = count-cons test x xs ∙ ap (λ b. cond b 1 0 + count_by test xs) (h x) ∙ (let k : 0 + count_by test xs ≡ count_by test xs = omega arith in k) ∙ never test xs h

pub count-map : {A : Type 0} (f : A → ℕ) (c : ℕ) (xs : List A) → count_of c (map f xs) ≡ count_by (λ x. f x == c) xs
count-map f c [] = refl
count-map f c (x ∷ xs) = count_of-cons c (f x) (map f xs) ∙ ap (λ n. cond (f x == c) 1 0 + n) (count-map f c xs) ∙ sym (count-cons (λ y. f y == c) x xs)

pub codes_first : (sides : Sides) (kind : Man) → count_of (code_of kind) (man_codes sides) ≡ count_by (is_man kind) sides.first
codes_first sides kind =
    let a = count_of-append (code_of kind) (map code_of sides.first) (map (λ man. 8 + code_of man) sides.second) in
    let b = first_counts kind sides.first in
    let c = count-map (λ man. 8 + code_of man) (code_of kind) sides.second
    ∙ never (λ man. (8 + code_of man) == code_of kind) sides.second (λ man. white_code kind man Black ∙ sym (and_false (is_man kind man))) in
    omega (arith, a, b, c)

pub codes_second : (sides : Sides) (kind : Man) → count_of (8 + code_of kind) (man_codes sides) ≡ count_by (is_man kind) sides.second
codes_second sides kind =
    let a = count_of-append (8 + code_of kind) (map code_of sides.first) (map (λ man. 8 + code_of man) sides.second) in
    let b = second_counts kind sides.second in
    let c = count-map code_of (8 + code_of kind) sides.first
    ∙ never (λ man. code_of man == (8 + code_of kind)) sides.first (λ man. black_code kind man White ∙ sym (and_false (is_man kind man))) in
    omega (arith, a, b, c)

codes_none : (sides : Sides) (c : ℕ) → ((man : Man) (color : Color) → colored_code man color ≡ c → ⊥) → count_of c (man_codes sides) ≡ 0
codes_none sides c out =
    let a = count_of-append c (map code_of sides.first) (map (λ man. 8 + code_of man) sides.second) in
    let b = count-map code_of c sides.first ∙ never (λ man. code_of man == c) sides.first (λ man. ne_eqb (code_of man) c (out man White)) in
    let d = count-map (λ man. 8 + code_of man) c sides.second ∙ never (λ man. (8 + code_of man) == c) sides.second (λ man. ne_eqb (8 + code_of man) c (out man Black)) in
    omega (arith, a, b, d)

-- ---- a colour's men

count-replicate : (test : Man → Bool) (n : ℕ) (man : Man) (rest : List Man) → count_by test (replicate n man ++ rest) ≡ cond (test man) n 0 + count_by test rest
count-replicate test zero man rest = elim (test man) as (λ b. count_by test rest ≡ cond b 0 0 + count_by test rest) [ true ↦ omega arith | false ↦ omega arith ]
count-replicate test (suc n) man rest =
    let a = count-cons test man (replicate n man ++ rest) in let b = count-replicate test n man rest in
    a ∙ ap (λ k. cond (test man) 1 0 + k) b ∙ joined (test man) n (count_by test rest)
  where
    joined : (b : Bool) (n k : ℕ) → cond b 1 0 + (cond b n 0 + k) ≡ cond b (suc n) 0 + k
    joined true n k = omega arith
    joined false n k = omega arith

pub kind_count : (kind : Man) (color : Color) (placed_men : List PlacedMan) → count_by (is_man kind) (side_of color placed_men) ≡ number_of kind color placed_men
kind_count kind color placed_men =
    let f : Man → ℕ = λ k. number_of k color placed_men in
    let t = is_man kind in
    let p0 = replicate (f Pawn) Pawn ++ [] in let n0 = replicate (f Knight) Knight ++ p0 in let b0 = replicate (f Bishop) Bishop ++ n0 in
    let r0 = replicate (f Rook) Rook ++ b0 in let q0 = replicate (f Queen) Queen ++ r0 in
    count-replicate t (f King) King q0
    ∙ ap (λ n. cond (t King) (f King) 0 + n) (count-replicate t (f Queen) Queen r0
    ∙ ap (λ n. cond (t Queen) (f Queen) 0 + n) (count-replicate t (f Rook) Rook b0
    ∙ ap (λ n. cond (t Rook) (f Rook) 0 + n) (count-replicate t (f Bishop) Bishop n0
    ∙ ap (λ n. cond (t Bishop) (f Bishop) 0 + n) (count-replicate t (f Knight) Knight p0
    ∙ ap (λ n. cond (t Knight) (f Knight) 0 + n) (count-replicate t (f Pawn) Pawn [])))))
    ∙ pick kind (f King) (f Queen) (f Rook) (f Bishop) (f Knight) (f Pawn) ∙ back kind
  where
    stated : Man → ℕ → ℕ → ℕ → ℕ → ℕ → ℕ → ℕ
    stated King k q r b n p = k
    stated Queen k q r b n p = q
    stated Rook k q r b n p = r
    stated Bishop k q r b n p = b
    stated Knight k q r b n p = n
    stated Pawn k q r b n p = p

    pick : (kind : Man) (k q r b n p : ℕ) → cond (is_man kind King) k 0 + (cond (is_man kind Queen) q 0 + (cond (is_man kind Rook) r 0 + (cond (is_man kind Bishop) b 0 + (cond (is_man kind Knight) n 0 + (cond (is_man kind Pawn) p 0 + 0))))) ≡ stated kind k q r b n p
    pick King k q r b n p = omega arith
    pick Queen k q r b n p = omega arith
    pick Rook k q r b n p = omega arith
    pick Bishop k q r b n p = omega arith
    pick Knight k q r b n p = omega arith
    pick Pawn k q r b n p = omega arith

    back : (kind : Man) → stated kind (number_of King color placed_men) (number_of Queen color placed_men) (number_of Rook color placed_men) (number_of Bishop color placed_men) (number_of Knight color placed_men) (number_of Pawn color placed_men) ≡ number_of kind color placed_men
    back King = refl
    back Queen = refl
    back Rook = refl
    back Bishop = refl
    back Knight = refl
    back Pawn = refl

-- ---- which colour is the name's first side

pub record IsSorted (sides : Sides) : Type 0 where
  pub first : is_in_order sides.first ≡ true
  pub second : is_in_order sides.second ≡ true
  pub named : may_be_first sides.first sides.second ≡ true
  pub count : is_count (length sides.first + length sides.second) ≡ true
  pub first_king : has_king_first sides.first ≡ true
  pub second_king : has_king_first sides.second ≡ true

pub sorted : (sides : Sides) → IsMaterial sides → IsSorted sides
sorted sides h =
    let kings = has_king_first sides.first && has_king_first sides.second in
    let order = is_in_order sides.first && is_in_order sides.second in
    let named = may_be_first sides.first sides.second in
    let counted = is_count (length sides.first + length sides.second) in
    let a = and_parts (kings && order && named) counted h in
    let b = and_parts (kings && order) named a.0 in
    let c = and_parts kings order b.0 in
    let d = and_parts (is_in_order sides.first) (is_in_order sides.second) c.1 in
    let k = and_parts (has_king_first sides.first) (has_king_first sides.second) c.0 in
    record { first = d.0; second = d.1; named = b.1; count = a.1; first_king = k.0; second_king = k.1 }

pub record IsNamed (sides : Sides) (ex : Bool) (placed_men : List PlacedMan) : Type 0 where
  pub first : side_of (exchanged_color ex White) placed_men ≡ sides.first
  pub second : side_of (exchanged_color ex Black) placed_men ≡ sides.second

named_either : (sides : Sides) (placed_men : List PlacedMan) (ex : Bool) → side_of White placed_men ≡ sides.first → side_of Black placed_men ≡ sides.second → sides.first ≡ sides.second → IsNamed sides ex placed_men
named_either sides placed_men true a b e = record { first = b ∙ sym e; second = a ∙ e }
named_either sides placed_men false a b e = record { first = a; second = b }

pub exchanged_when : (sides : Sides) (board : Board) → is_symmetric sides ≡ false → is_exchanged sides board ≡ not (is_same_men (side_of White board.placed_men) sides.first)
exchanged_when sides board e = rw e refl

clash : (b : Bool) → b ≡ true → b ≡ false → ⊥
clash true e f = cc
clash false e f = cc

pub named_sides : (sides : Sides) (board : Board) → IsMaterial sides → material_of board.placed_men ≡ sides → IsNamed sides (is_exchanged sides board) board.placed_men
named_sides sides board h m =
    let placed_men = board.placed_men in
    let white = side_of White placed_men in let black = side_of Black placed_men in
    let o = sorted sides h in
    elim (cases_Bool (may_be_first white black)) [
      | inl t ↦
          let w = sym (white_first placed_men t) ∙ m in
          let a : white ≡ sides.first = ap (λ (s : Sides). s.first) w in let b : black ≡ sides.second = ap (λ (s : Sides). s.second) w in
          elim (cases_Bool (is_symmetric sides)) [
            | inl s ↦ named_either sides placed_men (is_exchanged sides board) a b (same_men sides.first sides.second o.first o.second s)
            | inr n ↦
                let same : is_same_men white sides.first ≡ true = subst (λ (l : List Man). is_same_men l sides.first ≡ true) (sym a) (same_men-refl sides.first) in
                let ex : is_exchanged sides board ≡ false = exchanged_when sides board n ∙ ap not same in
                subst (λ (x : Bool). IsNamed sides x placed_men) (sym ex) (record { first = a; second = b })
          ]
      | inr f ↦
          let w = sym (black_first placed_men f) ∙ m in
          let a : black ≡ sides.first = ap (λ (s : Sides). s.first) w in let b : white ≡ sides.second = ap (λ (s : Sides). s.second) w in
          elim (cases_Bool (is_symmetric sides)) [
            | inl s ↦ let e = same_men sides.first sides.second o.first o.second s in named_either sides placed_men (is_exchanged sides board) (b ∙ sym e) (a ∙ e) e
            | inr n ↦
                let other : is_same_men white sides.first ≡ false = false_from_ne_true (is_same_men white sides.first)
                (λ q. let e = same_men sides.second sides.first o.second o.first (subst (λ (l : List Man). is_same_men l sides.first ≡ true) b q) in
                clash (is_symmetric sides) (subst (λ (l : List Man). is_same_men sides.first l ≡ true) (sym e) (same_men-refl sides.first)) n) in
                let ex : is_exchanged sides board ≡ true = exchanged_when sides board n ∙ ap not other in
                subst (λ (x : Bool). IsNamed sides x placed_men) (sym ex) (record { first = a; second = b })
          ]
    ]

-- ---- the men as a file codes them

abbrev pub raw_piece : Bool → PlacedMan → CodedMan
raw_piece ex s = record { code = colored_code s.0 (exchanged_color ex s.1); square = s.2 }

pub white_exchanged : (ex : Bool) (color : Color) → is_color White (exchanged_color ex color) ≡ is_color (exchanged_color ex White) color
white_exchanged true White = refl
white_exchanged true Black = refl
white_exchanged false White = refl
white_exchanged false Black = refl

pub black_exchanged : (ex : Bool) (color : Color) → is_color Black (exchanged_color ex color) ≡ is_color (exchanged_color ex Black) color
black_exchanged true White = refl
black_exchanged true Black = refl
black_exchanged false White = refl
black_exchanged false Black = refl

pub count_raw : (ex : Bool) (c : ℕ) (placed_men : List PlacedMan) → count_by (λ (p : CodedMan). p.code == c) (map (raw_piece ex) placed_men) ≡ count_by (λ (s : PlacedMan). colored_code s.0 (exchanged_color ex s.1) == c) placed_men
count_raw ex c [] = refl
count_raw ex c (s ∷ placed_men) = count-cons (λ (p : CodedMan). p.code == c) (raw_piece ex s) (map (raw_piece ex) placed_men)
    ∙ ap (λ n. cond (colored_code s.0 (exchanged_color ex s.1) == c) 1 0 + n) (count_raw ex c placed_men)
    ∙ sym (count-cons (λ (t : PlacedMan). colored_code t.0 (exchanged_color ex t.1) == c) s placed_men)

pub raw_counts : (sides : Sides) (ex : Bool) (placed_men : List PlacedMan) → IsNamed sides ex placed_men → (c : ℕ) → count_by (λ (p : CodedMan). p.code == c) (map (raw_piece ex) placed_men) ≡ count_of c (man_codes sides)
raw_counts sides ex placed_men named c = count_raw ex c placed_men ∙ by_case (code_case c) where
  by_case : CodeCase c → count_by (λ (s : PlacedMan). colored_code s.0 (exchanged_color ex s.1) == c) placed_men ≡ count_of c (man_codes sides)
  by_case (first kind e) =
      count-same (λ (s : PlacedMan). colored_code s.0 (exchanged_color ex s.1) == c) (λ s. is_man kind s.0 && is_color (exchanged_color ex White) s.1) placed_men
      (λ s i. ap (λ n. colored_code s.0 (exchanged_color ex s.1) == n) (sym e) ∙ white_code kind s.0 (exchanged_color ex s.1) ∙ ap (λ b. is_man kind s.0 && b) (white_exchanged ex s.1))
      ∙ sym (kind_count kind (exchanged_color ex White) placed_men) ∙ ap (count_by (is_man kind)) named.first
      ∙ sym (codes_first sides kind) ∙ ap (λ n. count_of n (man_codes sides)) e
  by_case (second kind e) =
      count-same (λ (s : PlacedMan). colored_code s.0 (exchanged_color ex s.1) == c) (λ s. is_man kind s.0 && is_color (exchanged_color ex Black) s.1) placed_men
      (λ s i. ap (λ n. colored_code s.0 (exchanged_color ex s.1) == n) (sym e) ∙ black_code kind s.0 (exchanged_color ex s.1) ∙ ap (λ b. is_man kind s.0 && b) (black_exchanged ex s.1))
      ∙ sym (kind_count kind (exchanged_color ex Black) placed_men) ∙ ap (count_by (is_man kind)) named.second
      ∙ sym (codes_second sides kind) ∙ ap (λ n. count_of n (man_codes sides)) e
  by_case (none out) = never (λ (s : PlacedMan). colored_code s.0 (exchanged_color ex s.1) == c) placed_men (λ s. ne_eqb (colored_code s.0 (exchanged_color ex s.1)) c (out s.0 (exchanged_color ex s.1)))
      ∙ sym (codes_none sides c out)

pub record IsPlaced (placed_men : List PlacedMan) : Type 0 where
  pub men : has_men placed_men ≡ true
  pub apart : has_distinct_squares placed_men ≡ true
  pub pawns : has_pawns_on_inner_ranks placed_men ≡ true

passed : {A : Type 0} (b : Bool) (f : A) (rest : Option A) → cond (not b) (Some f) rest ≡ None → (b ≡ true) × (rest ≡ None)
passed true f rest e = (refl, e)
passed false f rest e = cc

pub placed : (placed_men : List PlacedMan) → placement_fault placed_men ≡ None → IsPlaced placed_men
unfolding placement_fault
placed placed_men e =
    let a = passed (has_men placed_men) _ _ e in let b = passed (has_distinct_squares placed_men) _ _ a.1 in let c = passed (has_pawns_on_inner_ranks placed_men) _ _ b.1 in
    record { men = a.0; apart = b.0; pawns = c.0 }

pub squares_raw : (ex : Bool) (placed_men : List PlacedMan) → map (λ (p : CodedMan). p.square) (map (raw_piece ex) placed_men) ≡ map (λ (s : PlacedMan). s.2) placed_men
squares_raw ex [] = refl
squares_raw ex (s ∷ placed_men) = ap (λ l. s.2 ∷ l) (squares_raw ex placed_men)

pub apart_differ : (placed_men : List PlacedMan) → has_distinct_squares placed_men ≡ true → AllDiffer (map (λ (s : PlacedMan). s.2) placed_men)
apart_differ [] e = tt
apart_differ (s ∷ placed_men) e =
    let r = and_parts (not (list_any (λ (t : PlacedMan). s.2 == t.2) placed_men)) (has_distinct_squares placed_men) e in
    (λ i. not_true (list_any (λ (t : PlacedMan). s.2 == t.2) placed_men) r.0 (there placed_men i), apart_differ placed_men r.1)
  where
    there : (ts : List PlacedMan) → IsIn s.2 (map (λ (t : PlacedMan). t.2) ts) → list_any (λ (t : PlacedMan). s.2 == t.2) ts ≡ true
    there [] i = absurd i
    there (t ∷ ts) (inl f) = or_left (s.2 == t.2) (list_any (λ (t : PlacedMan). s.2 == t.2) ts) (eq-eqb s.2 t.2 f)
    there (t ∷ ts) (inr i) = or_right (s.2 == t.2) (list_any (λ (t : PlacedMan). s.2 == t.2) ts) (there ts i)

pawn_man : (man : Man) (color : Color) → is_pawn_code (colored_code man color) ≡ true → is_man Pawn man ≡ true
pawn_man Pawn White e = refl
pawn_man Pawn Black e = refl
pawn_man Knight White e = cc
pawn_man Knight Black e = cc
pawn_man Bishop White e = cc
pawn_man Bishop Black e = cc
pawn_man Rook White e = cc
pawn_man Rook Black e = cc
pawn_man Queen White e = cc
pawn_man Queen Black e = cc
pawn_man King White e = cc
pawn_man King Black e = cc

off_edge : (x : ℕ) → x < 64 → (rank_of x == 0 || rank_of x == 7) ≡ false → IsIn x pawn_squares
unfolding pawn_squares
off_edge x h e = contains-IsIn x pawn_squares (or_not (rank_of x == 0 || rank_of x == 7) (contains pawn_squares x)
    (tested (λ y. (rank_of y == 0 || rank_of y == 7) || contains pawn_squares y) 64 x refl h) e)
  where
    or_not : (a b : Bool) → (a || b) ≡ true → a ≡ false → b ≡ true
    or_not true b e f = cc
    or_not false b e f = e

pub raw_stood : (sides : Sides) (men : List ℕ) (ex : Bool) (board : Board) → IsOnBoard board → IsPlaced board.placed_men → IsNamed sides ex board.placed_men →
    is_rearrangement men (man_codes sides) ≡ true → IsStood sides men (map (raw_piece ex) board.placed_men)
raw_stood sides men ex board inside p named r = record {
  differ = subst (λ (l : List ℕ). AllDiffer l) (sym (squares_raw ex board.placed_men)) (apart_differ board.placed_men p.apart);
  inside = λ q i. let s = IsIn-map (raw_piece ex) board.placed_men q i in subst (λ (x : CodedMan). x.square < 64) (sym s.2) (inside s.0 s.1);
  counts = λ c. raw_counts sides ex board.placed_men named c ∙ sym (rearranged_counts men (man_codes sides) r c);
  pawns = λ e q i c. let s = IsIn-map (raw_piece ex) board.placed_men q i in
      let pawn = pawn_man s.0.0 (exchanged_color ex s.0.1) (ap (λ (x : CodedMan). is_pawn_code x.code) (sym s.2) ∙ c) in
      let ok = all-IsIn (λ (t : PlacedMan). not (is_man Pawn t.0 && (rank_of t.2 == 0 || rank_of t.2 == 7))) board.placed_men s.0 p.pawns s.1 in
      subst (λ (x : CodedMan). IsIn x.square pawn_squares) (sym s.2)
      (off_edge s.0.2 (inside s.0 s.1) (kept (is_man Pawn s.0.0) (rank_of s.0.2 == 0 || rank_of s.0.2 == 7) pawn ok));
} where
  kept : (a b : Bool) → a ≡ true → not (a && b) ≡ true → b ≡ false
  kept true true e f = cc
  kept true false e f = refl
  kept false b e f = cc

pieces_raw : (sides : Sides) (board : Board) (ex b : Bool) (placed_men : List PlacedMan) →
    (map (λ (s : PlacedMan). let p : CodedMan = record { code = colored_code s.0 (exchanged_color ex s.1); square = cond b (flip_rank s.2) s.2 } in p) placed_men)
    ≡ cond b (moved flip_rank (map (raw_piece ex) placed_men)) (map (raw_piece ex) placed_men)
pieces_raw sides board ex true [] = refl
pieces_raw sides board ex true (s ∷ placed_men) = ap (λ l. (let p : CodedMan = record { code = colored_code s.0 (exchanged_color ex s.1); square = flip_rank s.2 } in p) ∷ l) (pieces_raw sides board ex true placed_men)
pieces_raw sides board ex false [] = refl
pieces_raw sides board ex false (s ∷ placed_men) = ap (λ l. raw_piece ex s ∷ l) (pieces_raw sides board ex false placed_men)

-- where colours are not exchanged
pub pieces_plain : (sides : Sides) (board : Board) → is_exchanged sides board ≡ false → pieces_of sides board ≡ map (raw_piece false) board.placed_men
unfolding pieces_of
pieces_plain sides board e =
    let ex = is_exchanged sides board in
    pieces_raw sides board ex (ex && has_pawns sides) board.placed_men
    ∙ ap (λ x. cond (x && has_pawns sides) (moved flip_rank (map (raw_piece x) board.placed_men)) (map (raw_piece x) board.placed_men)) e

pub pieces_stood : (sides : Sides) (men : List ℕ) (board : Board) → IsMaterial sides → IsOnBoard board → placement_fault board.placed_men ≡ None → is_of_material sides board ≡ true →
    is_rearrangement men (man_codes sides) ≡ true → IsStood sides men (pieces_of sides board)
unfolding pieces_of
pieces_stood sides men board h inside fine mat r =
    let same : material_of board.placed_men ≡ sides = (same_sides-Decides (material_of board.placed_men) sides (material_of_placement board.placed_men fine) h).0 mat in
    let ex = is_exchanged sides board in
    let stood = raw_stood sides men ex board inside (placed board.placed_men fine) (named_sides sides board h same) r in
    subst (λ (l : List CodedMan). IsStood sides men l) (sym (pieces_raw sides board ex (ex && has_pawns sides) board.placed_men))
    (either (ex && has_pawns sides) stood)
  where
    either : (b : Bool) → IsStood sides men (map (raw_piece (is_exchanged sides board)) board.placed_men) →
        IsStood sides men (cond b (moved flip_rank (map (raw_piece (is_exchanged sides board)) board.placed_men)) (map (raw_piece (is_exchanged sides board)) board.placed_men))
    either true s = IsStood-moved sides men (map (raw_piece (is_exchanged sides board)) board.placed_men) flip_rank (flip_rank-move sides) s
    either false s = s
