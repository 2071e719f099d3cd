-- The numbers of men and pawns of a material, and whose pawns lead.
use Rattle.std.proofs.Common.{◌≡◌, ℕ, ◌+◌, ◌<◌, ◌≤◌, List, [], ◌∷◌, length, map, refl, sym, ap, ◌∙◌, Bool, true, false, cond, arith, length-append, take, drop}
use Rattle.std.specs.Prelude.{◌==◌, nat_lt, nat_le}
use Rattle.std.specs.List.{list_all}
use Rattle.std.proofs.Math.Bool.{not, ◌&&◌, ◌||◌, or-true}
use Rattle.std.proofs.lemmas.Bool.{eqb-true, ltb-true, ltb-false, lt-ltb, le-leb, and_parts}
use Rattle.std.proofs.lemmas.List.Sums.{sum_by-cons, sum_by-append}
use Rattle.std.proofs.lemmas.List.{length-map}
use Rattle.szg_values.specs.Men.{is_man, code_of}
use Rattle.szg_values.specs.Material.{Sides, IsMaterial, has_pawns, pawn_count, first_leads, lead_pawns, other_pawns, has_single_lead, man_codes, count_of, lead_pawn_code, other_pawn_code}
use Rattle.szg_values.specs.declared.Man.{Man}
use Rattle.szg_values.specs.declared.Man.TheVariants.{Pawn, Knight, Bishop, Rook, Queen, King}
use Rattle.szg_count.specs.Groups.{lead_length, is_rearrangement, has_pawns_first, has_other_pawns}
use Rattle.szg_count.proofs.Sizes.{made, pawns_beside_king, lead_range}

both_ways : (b : Bool) (p q : ℕ) → cond b p q + cond b q p ≡ p + q
both_ways true p q = refl
both_ways false p q = omega arith

pub pawns_together : (sides : Sides) → lead_pawns sides + other_pawns sides ≡ pawn_count sides.first + pawn_count sides.second
pawns_together sides = both_ways (first_leads sides) (pawn_count sides.first) (pawn_count sides.second)

-- a material's numbers
pub record IsPeopled (sides : Sides) : Type 0 where
  pub pawns : lead_pawns sides + other_pawns sides + 2 ≤ length (man_codes sides)
  pub some : 3 ≤ length (man_codes sides)
  pub few : length (man_codes sides) ≤ 6

pub peopled : (sides : Sides) → IsMaterial sides → IsPeopled sides
peopled sides h =
    let m = made sides h in
    let p = pawns_beside_king sides.first m.first in let q = pawns_beside_king sides.second m.second in
    let a = pawns_together sides in let f = m.few in let s = m.some in
    let codes : length (man_codes sides) ≡ length sides.first + length sides.second = simp (length-append, length-map) refl in
    record {
      pawns = omega (arith, p, q, a, codes);
      some = omega (arith, s, codes);
      few = omega (arith, f, codes);
    }

pub no_pawns : (sides : Sides) → has_pawns sides ≡ false → lead_pawns sides + other_pawns sides ≡ 0
no_pawns sides e = let a = pawns_together sides in let b = ltb-false 0 (pawn_count sides.first + pawn_count sides.second) e in omega (arith, a, b)

pub some_lead : (sides : Sides) → IsMaterial sides → has_pawns sides ≡ true → (0 < lead_pawns sides) × (lead_pawns sides ≤ 4)
some_lead sides h e =
    let m = made sides h in
    let p = pawns_beside_king sides.first m.first in let q = pawns_beside_king sides.second m.second in let f = m.few in
    lead_range (pawn_count sides.first) (pawn_count sides.second) (omega (arith, p, q, f)) (ltb-true 0 (pawn_count sides.first + pawn_count sides.second) e)

-- the lead group and the other pawns fit into the men
lead_fits : (pawns single : Bool) (k m n : ℕ) → (pawns ≡ true → 0 < k) → (pawns ≡ false → k + m ≡ 0) → k + m + 2 ≤ n → 3 ≤ n →
    (0 < cond pawns k (cond single 3 2)) × (cond pawns k (cond single 3 2) + m ≤ n)
lead_fits true single k m n a b c d = (a refl, omega (arith, c))
lead_fits false true k m n a b c d = let e = b refl in (omega arith, omega (arith, e, d))
lead_fits false false k m n a b c d = let e = b refl in (omega arith, omega (arith, e, d))

pub lead_length-fits : (sides : Sides) → IsMaterial sides → (0 < lead_length sides) × (lead_length sides + other_pawns sides ≤ length (man_codes sides))
lead_length-fits sides h = let p = peopled sides h in
    lead_fits (has_pawns sides) (has_single_lead sides) (lead_pawns sides) (other_pawns sides) (length (man_codes sides))
    (λ e. (some_lead sides h e).0) (no_pawns sides) p.pawns p.some

pub rearranged-length : (used codes : List ℕ) → is_rearrangement used codes ≡ true → length used ≡ length codes
rearranged-length used codes e = eqb-true (length used) (length codes) (and_parts (length used == length codes) _ e).0

-- ---- the codes of pawns

first_code : (man : Man) → (code_of man == 1) ≡ is_man Pawn man
first_code Pawn = refl
first_code Knight = refl
first_code Bishop = refl
first_code Rook = refl
first_code Queen = refl
first_code King = refl

second_code : (man : Man) → ((8 + code_of man) == 1) ≡ false
second_code Pawn = refl
second_code Knight = refl
second_code Bishop = refl
second_code Rook = refl
second_code Queen = refl
second_code King = refl

first_count : (men : List Man) → count_of 1 (map code_of men) ≡ pawn_count men
first_count [] = refl
first_count (man ∷ men) = sum_by-cons (λ c. cond (c == 1) 1 0) (code_of man) (map code_of men)
    ∙ ap (λ b. cond b 1 0 + count_of 1 (map code_of men)) (first_code man)
    ∙ ap (λ n. cond (is_man Pawn man) 1 0 + n) (first_count men)
    ∙ sym (sum_by-cons (λ x. cond (is_man Pawn x) 1 0) man men)

second_count : (men : List Man) → count_of 1 (map (λ man. 8 + code_of man) men) ≡ 0
second_count [] = refl
second_count (man ∷ men) = sum_by-cons (λ c. cond (c == 1) 1 0) (8 + code_of man) (map (λ man. 8 + code_of man) men)
    ∙ ap (λ b. cond b 1 0 + count_of 1 (map (λ man. 8 + code_of man) men)) (second_code man)
    ∙ ap (λ n. 0 + n) (second_count men)

pub first_pawns : (sides : Sides) → count_of 1 (man_codes sides) ≡ pawn_count sides.first
first_pawns sides = let a = sum_by-append (λ (c : ℕ). cond (c == 1) 1 0) (map code_of sides.first) (map (λ man. 8 + code_of man) sides.second) in
    let b = first_count sides.first in let d = second_count sides.second in omega (arith, a, b, d)

decided : (b : Bool) (p q : ℕ) → p ≡ cond b p q → (p ≡ q → b ≡ true) → b ≡ true
decided true p q e h = refl
decided false p q e h = h e

leads : (p q : ℕ) → 0 < p + q → p ≡ cond (nat_lt 0 p && ((q == 0) || nat_le p q)) p q → (nat_lt 0 p && ((q == 0) || nat_le p q)) ≡ true
leads p q h e = decided (nat_lt 0 p && ((q == 0) || nat_le p q)) p q e
    (λ f. rw (lt-ltb 0 p (omega arith), le-leb p q (omega arith)) (or-true (q == 0)))

not_leads : (b : Bool) (p q : ℕ) → (p ≡ cond b p q → ⊥) → b ≡ false
not_leads true p q h = absurd (h refl)
not_leads false p q h = refl

pub first_leads-same : (sides : Sides) → has_pawns sides ≡ true → count_of 1 (man_codes sides) ≡ lead_pawns sides → first_leads sides ≡ true
first_leads-same sides e f = leads (pawn_count sides.first) (pawn_count sides.second)
    (ltb-true 0 (pawn_count sides.first + pawn_count sides.second) e) (sym (first_pawns sides) ∙ f)

pub first_leads-other : (sides : Sides) → (count_of 1 (man_codes sides) ≡ lead_pawns sides → ⊥) → first_leads sides ≡ false
first_leads-other sides f = not_leads (first_leads sides) (pawn_count sides.first) (pawn_count sides.second) (λ e. f (first_pawns sides ∙ e))

-- ---- the first slots

same_pawns : (b : Bool) (k m lead other x y : ℕ) (men : List ℕ) → (b ≡ true → lead ≡ x) → (b ≡ true → other ≡ y) → (b ≡ false → k + m ≡ 0) →
    (list_all (λ man. man == lead) (take k men) && list_all (λ man. man == other) (take m (drop k men)))
    ≡ (not b || (list_all (λ man. man == x) (take k men) && list_all (λ man. man == y) (take m (drop k men))))
same_pawns true k m lead other x y men f g h = rw (f refl, g refl) refl
same_pawns false k m lead other x y men f g h = let e = h refl in
    let i : k ≡ 0 = omega (arith, e) in let j : m ≡ 0 = omega (arith, e) in rw (i, j) refl

pub pawns_first_given : (sides : Sides) (lead other k m : ℕ) (men first following next : List ℕ) (a b : Bool) →
    (has_pawns sides ≡ true → lead ≡ lead_pawn_code sides) → (has_pawns sides ≡ true → other ≡ other_pawn_code sides) →
    k ≡ lead_pawns sides → m ≡ other_pawns sides →
    first ≡ take k men → following ≡ drop k men → next ≡ take m following →
    a ≡ list_all (λ man. man == lead) first → b ≡ list_all (λ man. man == other) next →
    (a && b) ≡ has_pawns_first sides men
pawns_first_given sides lead other k m men first following next a b f g kk mm x y z p q =
    let t = same_pawns (has_pawns sides) (lead_pawns sides) (other_pawns sides) lead other (lead_pawn_code sides) (other_pawn_code sides) men f g (no_pawns sides) in
    let p' : a ≡ list_all (λ man. man == lead) (take (lead_pawns sides) men) = p ∙ ap (λ l. list_all (λ man. man == lead) l) (x ∙ ap (λ n. take n men) kk) in
    let q' : b ≡ list_all (λ man. man == other) (take (other_pawns sides) (drop (lead_pawns sides) men)) =
    q ∙ ap (λ l. list_all (λ man. man == other) l) (z ∙ ap (λ n. take n following) mm ∙ ap (λ l. take (other_pawns sides) l) (y ∙ ap (λ n. drop n men) kk)) in
    ap (λ c. c && b) p' ∙ ap (λ c. list_all (λ man. man == lead) (take (lead_pawns sides) men) && c) q' ∙ t

other_same : (b : Bool) (k m : ℕ) → (b ≡ false → k + m ≡ 0) → nat_lt 0 m ≡ (b && nat_lt 0 m)
other_same true k m h = refl
other_same false k m h = let e = h refl in let f : m ≡ 0 = omega (arith, e) in rw f refl

pub has_other_pawns-counted : (sides : Sides) → nat_lt 0 (other_pawns sides) ≡ has_other_pawns sides
has_other_pawns-counted sides = other_same (has_pawns sides) (lead_pawns sides) (other_pawns sides) (no_pawns sides)
