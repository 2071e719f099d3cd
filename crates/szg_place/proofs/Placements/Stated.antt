-- The men of an index, on the squares of their groups.
use Rattle.std.proofs.Common.{◌≡◌, ℕ, zero, suc, ◌+◌, ◌*◌, ◌/◌, ◌<◌, ◌⊎◌, inl, inr, List, [], ◌∷◌, ◌++◌, length, map, take, refl, sym, ap, ◌∙◌, subst, Bool, true, false, cond, arith, append_assoc, mod-lt}
use Rattle.std.specs.Prelude.{filter, ◌==◌, nat_lt, flat_map}
use Rattle.std.specs.List.{concat, zip}
use Rattle.std.proofs.Math.Bool.{not, ◌&&◌}
use Rattle.std.proofs.lemmas.Bool.{cases_Bool, eqb-true, ltb-false, lt-ltb, or_cases}
use Rattle.std.proofs.lemmas.List.{append-nil, map-append}
use Rattle.szg_values.specs.Men.{code_of, man_at, color_at}
use Rattle.szg_values.specs.Material.{Sides, IsMaterial, has_pawns, count_of, man_codes, lead_pawn_code, other_pawn_code, other_pawns, first_leads, pawn_count}
use Rattle.szg_values.specs.declared.Man.{Man}
use Rattle.szg_values.specs.declared.Man.TheVariants.{Pawn, Knight, Bishop, Rook, Queen, King}
use Rattle.szg_count.specs.Leads.{contains, without, pawn_squares, squares_down}
use Rattle.szg_count.specs.Groups.{IsPart, product, has_other_pawns, is_rearrangement, has_pawns_first, lead_length}
use Rattle.szg_count.specs.Laws.{IsIn}
use Rattle.szg_count.specs.Radix.{EachBelow, decode_digits}
use Rattle.szg_count.proofs.Differ.{IsIn-append, IsIn-append_left, IsIn-append_right, IsIn-filter, IsIn-sets_of, AllDiffer-filter, contains_it, IsIn-map}
use Rattle.szg_count.proofs.Free.{contains-IsIn}
use Rattle.szg_place.specs.Normal.{CodedMan, colored_code, squares_with}
use Rattle.szg_place.specs.Spots.{men_on_squares, men_by_group, ordered_sets}
use Rattle.szg_place.specs.Ranks.{EachInList}
use Rattle.szg_place.proofs.Ranks.Lists.{filter-same, filter-set, filter-inside, same_tests}
use Rattle.szg_place.proofs.Ranks.Ways.{IsLaid, laid_more, AllDiffer-free, lead_pawns_order, pawn_order-squares}
use Rattle.szg_place.proofs.MenOnSlots.Pieces.{is_valid, is_valid-from, is_valid-true, is_pawn_code}
use Rattle.szg_count.proofs.Rearranged.{rearranged_counts}
use Rattle.szg_place.proofs.MenOnSlots.Codes.{IsOwn, Parted, later_groups, other_first}
use Rattle.szg_place.proofs.MenOnSlots.Standing.{raw_piece, codes_first, codes_second}
use Rattle.szg_place.proofs.Symmetries.Normals.{pawn_part, IsFit, lead_only}

-- ---- digits

product_pos : (w : ℕ) (ws : List ℕ) → 0 < w * product ws → (0 < w) × (0 < product ws)
product_pos zero ws h = absurd (omega (arith, h))
product_pos (suc w) ws h = (omega arith, right (product ws) h) where
  right : (p : ℕ) → 0 < suc w * p → 0 < p
  right zero h = absurd (omega (arith, h))
  right (suc p) h = omega arith

pub digits_below : (factors ws : List ℕ) (i : ℕ) → length ws ≡ length factors → 0 < product ws → EachBelow (decode_digits factors ws i) ws
digits_below [] [] i e h = tt
digits_below [] (w ∷ ws) i e h = absurd (omega arith)
digits_below (f ∷ fs) [] i e h = absurd (omega arith)
digits_below (f ∷ fs) (w ∷ ws) i e h = let p = product_pos w ws h in (mod-lt (i / f) p.0, digits_below fs ws i (omega arith) p.1)

-- ---- men on squares

abbrev pub man_on : ℕ × ℕ → CodedMan
man_on x = record { code = x.0; square = x.1 }

abbrev pub pair : List ℕ → List ℕ → List CodedMan
pair codes squares = map man_on (zip codes squares)

abbrev pub paired : List (List ℕ) → List (List ℕ) → List CodedMan
paired groups sets = flat_map (λ x. pair x.0 x.1) (zip groups sets)

-- each set has one square for each man of its group
abbrev pub Sized : List (List ℕ) → List (List ℕ) → Type 0
Sized [] [] = Unit {0}
Sized [] (set ∷ sets) = ⊥
Sized (group ∷ groups) [] = ⊥
Sized (group ∷ groups) (set ∷ sets) = (length set ≡ length group) × Sized groups sets

pub sized : (sides : Sides) (part : ℕ) (before groups sets : List (List ℕ)) → EachInList sides part before groups sets → Sized groups sets
sized sides part before [] [] h = tt
sized sides part before [] (set ∷ sets) h = absurd h
sized sides part before (group ∷ groups) [] h = absurd h
sized sides part before (group ∷ groups) (set ∷ sets) h = (h.1, sized sides part (before ++ set ∷ []) groups sets h.2)

pub pair-squares : (codes squares : List ℕ) → length squares ≡ length codes → map (λ (p : CodedMan). p.square) (pair codes squares) ≡ squares
pair-squares [] [] e = refl
pair-squares [] (s ∷ ss) e = absurd (omega arith)
pair-squares (c ∷ cs) [] e = absurd (omega arith)
pair-squares (c ∷ cs) (s ∷ ss) e = ap (λ l. s ∷ l) (pair-squares cs ss (omega arith))

pair-codes : (codes squares : List ℕ) → length squares ≡ length codes → map (λ (p : CodedMan). p.code) (pair codes squares) ≡ codes
pair-codes [] [] e = refl
pair-codes [] (s ∷ ss) e = absurd (omega arith)
pair-codes (c ∷ cs) [] e = absurd (omega arith)
pair-codes (c ∷ cs) (s ∷ ss) e = ap (λ l. c ∷ l) (pair-codes cs ss (omega arith))

pub paired-squares : (groups sets : List (List ℕ)) → Sized groups sets → map (λ (p : CodedMan). p.square) (paired groups sets) ≡ concat sets
paired-squares [] [] h = refl
paired-squares [] (set ∷ sets) h = absurd h
paired-squares (group ∷ groups) [] h = absurd h
paired-squares (group ∷ groups) (set ∷ sets) h = map-append (λ (p : CodedMan). p.square) (pair group set) (paired groups sets)
    ∙ ap (λ l. l ++ map (λ (p : CodedMan). p.square) (paired groups sets)) (pair-squares group set h.0) ∙ ap (λ l. set ++ l) (paired-squares groups sets h.1)

pub paired-codes : (groups sets : List (List ℕ)) → Sized groups sets → map (λ (p : CodedMan). p.code) (paired groups sets) ≡ concat groups
paired-codes [] [] h = refl
paired-codes [] (set ∷ sets) h = absurd h
paired-codes (group ∷ groups) [] h = absurd h
paired-codes (group ∷ groups) (set ∷ sets) h = map-append (λ (p : CodedMan). p.code) (pair group set) (paired groups sets)
    ∙ ap (λ l. l ++ map (λ (p : CodedMan). p.code) (paired groups sets)) (pair-codes group set h.0) ∙ ap (λ l. group ++ l) (paired-codes groups sets h.1)

pub pair-in : (codes squares : List ℕ) (p : CodedMan) → IsIn p (pair codes squares) → IsIn p.code codes × IsIn p.square squares
pair-in [] squares p h = absurd h
pair-in (c ∷ cs) [] p h = absurd h
pair-in (c ∷ cs) (s ∷ ss) p (inl e) = (inl (ap (λ (q : CodedMan). q.code) e), inl (ap (λ (q : CodedMan). q.square) e))
pair-in (c ∷ cs) (s ∷ ss) p (inr h) = let r = pair-in cs ss p h in (inr r.0, inr r.1)

pub pair-on : (codes squares : List ℕ) (x : ℕ) → length squares ≡ length codes → IsIn x squares → (p : CodedMan) × IsIn p (pair codes squares) × (p.square ≡ x) × IsIn p.code codes
pair-on codes [] x e h = absurd h
pair-on [] (s ∷ ss) x e h = absurd (omega arith)
pair-on (c ∷ cs) (s ∷ ss) x e (inl f) = (man_on (c, s), inl refl, sym f, inl refl)
pair-on (c ∷ cs) (s ∷ ss) x e (inr h) = let r = pair-on cs ss x (omega arith) h in (r.0, inr r.1, r.2, inr r.3)

-- ---- codes of men

IsCode : ℕ → Type 0
IsCode c = colored_code (man_at c) (color_at c) ≡ c

code_first : (man : Man) → colored_code (man_at (code_of man)) (color_at (code_of man)) ≡ code_of man
code_first Pawn = refl
code_first Knight = refl
code_first Bishop = refl
code_first Rook = refl
code_first Queen = refl
code_first King = refl

code_second : (man : Man) → colored_code (man_at (8 + code_of man)) (color_at (8 + code_of man)) ≡ 8 + code_of man
code_second Pawn = refl
code_second Knight = refl
code_second Bishop = refl
code_second Rook = refl
code_second Queen = refl
code_second King = refl

pub code_valid : (sides : Sides) (c : ℕ) → IsIn c (man_codes sides) → colored_code (man_at c) (color_at c) ≡ c
code_valid sides c h = elim (IsIn-append c (map code_of sides.first) (map (λ man. 8 + code_of man) sides.second) h) [
  | inl l ↦ let r = IsIn-map code_of sides.first c l in subst (λ (n : ℕ). colored_code (man_at n) (color_at n) ≡ n) (sym r.2) (code_first r.0)
  | inr l ↦ let r = IsIn-map (λ (man : Man). 8 + code_of man) sides.second c l in subst (λ (n : ℕ). colored_code (man_at n) (color_at n) ≡ n) (sym r.2) (code_second r.0)
]

raw_pair : (codes squares : List ℕ) → ((c : ℕ) → IsIn c codes → colored_code (man_at c) (color_at c) ≡ c) → map (raw_piece false) (men_on_squares codes squares) ≡ pair codes squares
raw_pair [] squares h = refl
raw_pair (c ∷ cs) [] h = refl
raw_pair (c ∷ cs) (s ∷ ss) h =
    ap (λ n. (let p : CodedMan = record { code = n; square = s } in p) ∷ map (raw_piece false) (men_on_squares cs ss)) (h c (inl refl))
    ∙ ap (λ l. man_on (c, s) ∷ l) (raw_pair cs ss (λ d i. h d (inr i)))

pub raw_paired : (groups sets : List (List ℕ)) → ((c : ℕ) → IsIn c (concat groups) → colored_code (man_at c) (color_at c) ≡ c) → map (raw_piece false) (men_by_group groups sets) ≡ paired groups sets
unfolding men_by_group
raw_paired [] sets h = refl
raw_paired (group ∷ groups) [] h = refl
raw_paired (group ∷ groups) (set ∷ sets) h =
    map-append (raw_piece false) (men_on_squares group set) (men_by_group groups sets)
    ∙ ap (λ l. l ++ map (raw_piece false) (men_by_group groups sets)) (raw_pair group set (λ c i. h c (IsIn-append_left c group (concat groups) i)))
    ∙ ap (λ l. pair group set ++ l) (raw_paired groups sets (λ c i. h c (IsIn-append_right c group (concat groups) i)))

-- ---- different squares

pub laid_all : (sides : Sides) (part : ℕ) (before groups sets : List (List ℕ)) → IsMaterial sides → IsPart sides part → IsLaid sides before → EachInList sides part before groups sets → IsLaid sides (before ++ sets)
laid_all sides part before [] [] m p laid h = subst (λ (l : List (List ℕ)). IsLaid sides l) (sym (append-nil before)) laid
laid_all sides part before [] (set ∷ sets) m p laid h = absurd h
laid_all sides part before (group ∷ groups) [] m p laid h = absurd h
laid_all sides part before (group ∷ groups) (set ∷ sets) m p laid h =
    subst (λ (l : List (List ℕ)). IsLaid sides l) (append_assoc before (set ∷ []) sets)
    (laid_all sides part (before ++ set ∷ []) groups sets m p (laid_more sides part before (length set) set m p laid h.0) h.2)

-- ---- a group's men are on its squares alone

-- no man of a later group has a code of the groups before
pub paired_new : (men before : List ℕ) (groups sets : List (List ℕ)) → Parted men before groups → (p : CodedMan) → IsIn p (paired groups sets) → IsIn p.code before → ⊥
paired_new men before [] sets parts p h i = h
paired_new men before (group ∷ groups) [] parts p h i = h
paired_new men before (group ∷ groups) (set ∷ sets) parts p h i = elim (IsIn-append p (pair group set) (paired groups sets) h) [
  | inl l ↦ let own = parts.0 in own.new (subst (λ (n : ℕ). IsIn n before) (own.only p.code (pair-in group set p l).0) i)
  | inr r ↦ paired_new men (before ++ group) groups sets parts.1 p r (IsIn-append_left p.code before group i)
]

-- the squares with men of a group's codes are the group's
pub valid_there : (men before group set : List ℕ) (groups sets : List (List ℕ)) (front : List CodedMan) → ((p : CodedMan) → IsIn p front → IsIn p.code before) → IsOwn men before group →
    Parted men (before ++ group) groups → length set ≡ length group → (x : ℕ) → is_valid group (front ++ pair group set ++ paired groups sets) x ≡ contains set x
valid_there men before group set groups sets front coded own parts size x =
    let pieces = front ++ pair group set ++ paired groups sets in
    same_tests (is_valid group pieces x) (contains set x)
    (λ e. let s = is_valid-from group pieces x e in
    contains_it x set (elim (IsIn-append s.0 (front ++ pair group set) (paired groups sets) s.1) [
      | inl l ↦ elim (IsIn-append s.0 front (pair group set) l) [
        | inl f ↦ absurd (own.new (subst (λ (n : ℕ). IsIn n before) (own.only s.0.code s.3) (coded s.0 f)))
        | inr q ↦ subst (λ (n : ℕ). IsIn n set) s.2 (pair-in group set s.0 q).1
      ]
      | inr r ↦ absurd (paired_new men (before ++ group) groups sets parts s.0 r (IsIn-append_right s.0.code before group s.3))
    ]))
    (λ e. let o = pair-on group set x size (contains-IsIn x set e) in
    subst (λ (n : ℕ). is_valid group pieces n ≡ true) o.2
    (is_valid-true group pieces o.0 (IsIn-append_left o.0 (front ++ pair group set) (paired groups sets) (IsIn-append_right o.0 front (pair group set) o.1)) o.3))

pawn_part' : (b : Bool) (set : List ℕ) → ((x : ℕ) → IsIn x set → IsIn x (cond b pawn_squares squares_down)) → (p : ℕ → Bool) → ((x : ℕ) → p x ≡ contains set x) → filter p (cond b pawn_squares squares_down) ≡ filter p squares_down
pawn_part' true set h p same = pawn_again (λ x i. h x i) where
  pawn_again : ((x : ℕ) → IsIn x set → IsIn x pawn_squares) → filter p pawn_squares ≡ filter p squares_down
  pawn_again g = ap (filter p) pawn_part ∙ filter-inside p (contains pawn_squares) squares_down (λ x i t. contains_it x pawn_squares (g x (contains-IsIn x set (sym (same x) ∙ t))))
pawn_part' false set h p same = refl

pub later_again : (sides : Sides) (part : ℕ) (men : List ℕ) (lead : List ℕ) (rest : List (List ℕ)) (before : List ℕ) (groups sets : List (List ℕ)) (front : List CodedMan) →
    ((p : CodedMan) → IsIn p front → IsIn p.code before) → Parted men before groups → EachInList sides part (lead ∷ rest) groups sets →
    map (λ group. squares_with group (front ++ paired groups sets) squares_down) groups ≡ sets
unfolding ordered_sets
later_again sides part men lead rest before [] [] front coded parts h = refl
later_again sides part men lead rest before [] (set ∷ sets) front coded parts h = absurd h
later_again sides part men lead rest before (group ∷ groups) [] front coded parts h = absurd h
later_again sides part men lead rest before (group ∷ groups) (set ∷ sets) front coded parts h =
    let pieces = front ++ (pair group set ++ paired groups sets) in
    let again : front ++ pair group set ++ paired groups sets ≡ pieces = append_assoc front (pair group set) (paired groups sets) in
    let b = has_other_pawns sides && length rest == 0 in
    let base = cond b pawn_squares squares_down in
    let taken = concat (lead ∷ rest) in
    let left = without taken base in
    let of_left : (x : ℕ) → IsIn x set → IsIn x left = λ x i. IsIn-sets_of (length set) left set x h.0 i in
    let there : (x : ℕ) → is_valid group pieces x ≡ contains set x = λ x.
    ap (λ (l : List CodedMan). is_valid group l x) (sym again) ∙ valid_there men before group set groups sets front coded parts.0 parts.1 h.1 x in
    let here : squares_with group pieces squares_down ≡ set =
    sym (pawn_part' b set (λ x i. (IsIn-filter (λ y. not (contains taken y)) base x (of_left x i)).0) (is_valid group pieces) there)
    ∙ sym (filter-inside (is_valid group pieces) (λ y. not (contains taken y)) base (λ x i t. (IsIn-filter (λ y. not (contains taken y)) base x (of_left x (contains-IsIn x set (sym (there x) ∙ t)))).1))
    ∙ filter-same (is_valid group pieces) (contains set) left (λ x i. there x)
    ∙ filter-set (length set) left set (AllDiffer-filter (λ y. not (contains taken y)) base (AllDiffer-free b)) h.0 in
    let more = later_again sides part men lead (rest ++ set ∷ []) (before ++ group) groups sets (front ++ pair group set)
    (λ p i. elim (IsIn-append p front (pair group set) i) [
      | inl f ↦ IsIn-append_left p.code before group (coded p f)
      | inr q ↦ IsIn-append_right p.code before group (pair-in group set p q).0
    ]) parts.1 h.2 in
    ap (λ l. l ∷ map (λ g. squares_with g pieces squares_down) groups) here
    ∙ ap (λ l. set ∷ l) (ap (λ (q : List CodedMan). map (λ g. squares_with g q squares_down) groups) (sym again) ∙ more)

-- ---- pawns are on ranks 2 to 7

two_pawns : (sides : Sides) (c : ℕ) → is_pawn_code c ≡ true → (c ≡ lead_pawn_code sides) ⊎ (c ≡ other_pawn_code sides)
two_pawns sides c e = either (first_leads sides) (or_cases (c == 1) (c == 9) e) where
  either : (b : Bool) → ((c == 1) ≡ true) ⊎ ((c == 9) ≡ true) → (c ≡ cond b 1 9) ⊎ (c ≡ cond b 9 1)
  either true (inl t) = inl (eqb-true c 1 t)
  either true (inr t) = inr (eqb-true c 9 t)
  either false (inl t) = inr (eqb-true c 1 t)
  either false (inr t) = inl (eqb-true c 9 t)

other_pawns-count : (sides : Sides) → count_of (other_pawn_code sides) (man_codes sides) ≡ other_pawns sides
other_pawns-count sides = either (first_leads sides) where
  either : (b : Bool) → count_of (cond b 9 1) (man_codes sides) ≡ cond b (pawn_count sides.second) (pawn_count sides.first)
  either true = codes_second sides Pawn
  either false = codes_first sides Pawn

-- if the codes of all pawns are in the earlier groups, no later man is a pawn
no_pawns_later : (men before : List ℕ) (groups sets : List (List ℕ)) → Parted men before groups → ((c : ℕ) → is_pawn_code c ≡ true → 0 < count_of c men → IsIn c before) →
    (p : CodedMan) → IsIn p (paired groups sets) → is_pawn_code p.code ≡ true → 0 < count_of p.code men → ⊥
no_pawns_later men before groups sets parts h p i e c = paired_new men before groups sets parts p i (h p.code e c)

some_pawns : (sides : Sides) (c : ℕ) → is_pawn_code c ≡ true → 0 < count_of c (man_codes sides) → has_pawns sides ≡ true
some_pawns sides c e h = elim (or_cases (c == 1) (c == 9) e) [
  | inl t ↦ let a = codes_first sides Pawn in let k = ap (λ n. count_of n (man_codes sides)) (eqb-true c 1 t) in lt-ltb 0 (pawn_count sides.first + pawn_count sides.second) (omega (arith, h, a, k))
  | inr t ↦ let a = codes_second sides Pawn in let k = ap (λ n. count_of n (man_codes sides)) (eqb-true c 9 t) in lt-ltb 0 (pawn_count sides.first + pawn_count sides.second) (omega (arith, h, a, k))
]

pub pawns_placed : (sides : Sides) (part : ℕ) (men lead set : List ℕ) (groups sets : List (List ℕ)) → IsMaterial sides → IsPart sides part → lead ≡ take (lead_length sides) men → groups ≡ later_groups sides men →
    is_rearrangement men (man_codes sides) ≡ true → has_pawns_first sides men ≡ true → IsFit sides men → EachInList sides part [] (lead ∷ groups) (set ∷ sets) →
    (p : CodedMan) → IsIn p (pair lead set ++ paired groups sets) → is_pawn_code p.code ≡ true → 0 < count_of p.code men → IsIn p.square pawn_squares
unfolding ordered_sets
pawns_placed sides part men lead set groups sets m q is gs r f ok h p i e c =
    let counts = rearranged_counts men (man_codes sides) r in
    let pawns = some_pawns sides p.code e (let k = counts p.code in omega (arith, c, k)) in
    let parts : Parted men lead groups = subst (λ (l : List ℕ). Parted men l groups) (sym is) (subst (λ (l : List (List ℕ)). Parted men (take (lead_length sides) men) l) (sym gs) ok.parts) in
    let has_lead : IsIn (lead_pawn_code sides) lead = subst (λ (l : List ℕ). IsIn (lead_pawn_code sides) l) (sym is) ((lead_only sides men m pawns f ok (lead_pawn_code sides)).1 refl) in
    elim (IsIn-append p (pair lead set) (paired groups sets) i) [
      | inl l ↦ pawn_order-squares p.square (lead_pawns_order sides part set pawns q h.0 p.square (pair-in lead set p l).1)
      | inr l ↦ elim (cases_Bool (has_other_pawns sides)) [
        | inr n ↦ absurd (
            let none : other_pawns sides ≡ 0 = let z : nat_lt 0 (other_pawns sides) ≡ false = and_second (has_pawns sides) (nat_lt 0 (other_pawns sides)) pawns n in let k = ltb-false 0 (other_pawns sides) z in omega (arith, k) in
            no_pawns_later men lead groups sets parts (λ d t k. elim (two_pawns sides d t) [
              | inl a ↦ subst (λ (x : ℕ). IsIn x lead) (sym a) has_lead
              | inr a ↦ absurd (let y = counts d in let z = ap (λ x. count_of x (man_codes sides)) a in let w = other_pawns-count sides in omega (arith, k, y, z, w, none))
            ]) p l e c)
        | inl o ↦ with_other sides part men lead set groups sets parts (λ g gs' s. other_first sides men m r f o g gs' (sym gs ∙ s)) o has_lead h.2 p l e c
      ]
    ]
  where
    and_second : (a b : Bool) → a ≡ true → (a && b) ≡ false → b ≡ false
    and_second true b e f = f
    and_second false b e f = cc

    with_other : (sides : Sides) (part : ℕ) (men lead set : List ℕ) (groups sets : List (List ℕ)) → Parted men lead groups →
        ((g : List ℕ) (gs : List (List ℕ)) → groups ≡ g ∷ gs → (x : ℕ) → IsIn x g → is_pawn_code x ≡ true) → has_other_pawns sides ≡ true → IsIn (lead_pawn_code sides) lead →
        EachInList sides part (set ∷ []) groups sets → (p : CodedMan) → IsIn p (paired groups sets) → is_pawn_code p.code ≡ true → 0 < count_of p.code men → IsIn p.square pawn_squares
    with_other sides part men lead set [] sets parts first o has h p i e c = absurd i
    with_other sides part men lead set (g ∷ gs) [] parts first o has h p i e c = absurd i
    with_other sides part men lead set (g ∷ gs) (s ∷ ss) parts first o has h p i e c =
        let own = parts.0 in
        elim (IsIn-append p (pair g s) (paired gs ss) i) [
          | inl l ↦ let x = IsIn-sets_of (length s) (without (concat (set ∷ [])) (cond (has_other_pawns sides && true) pawn_squares squares_down)) s p.square h.0 (pair-in g s p l).1 in
              let y = (IsIn-filter (λ z. not (contains (concat (set ∷ [])) z)) (cond (has_other_pawns sides && true) pawn_squares squares_down) p.square x).0 in
              subst (λ (b : Bool). IsIn p.square (cond (b && true) pawn_squares squares_down)) o y
          | inr l ↦ absurd (no_pawns_later men (lead ++ g) gs ss parts.1 (λ d t k. elim (two_pawns sides d t) [
            | inl a ↦ IsIn-append_left d lead g (subst (λ (x : ℕ). IsIn x lead) (sym a) has)
            | inr a ↦ IsIn-append_right d lead g (subst (λ (x : ℕ). IsIn x g) (elim (two_pawns sides own.code (first g gs refl own.code own.has)) [
              | inl b ↦ absurd (own.new (subst (λ (x : ℕ). IsIn x lead) (sym b) has))
              | inr b ↦ b ∙ sym a
            ]) own.has)
          ]) p l e c)
        ]
