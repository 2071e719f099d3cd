-- Which list a lead group has.
use Rattle.std.proofs.Common.{◌≡◌, ℕ, zero, suc, ◌<◌, ◌≤◌, List, [], ◌∷◌, length, get_or, refl, sym, ap, ◌∙◌, subst, Bool, true, false, cond, arith}
use Rattle.szg_values.specs.Material.{Sides, IsMaterial, has_pawns, lead_pawns, has_single_lead}
use Rattle.std.specs.Prelude.{◌==◌}
use Rattle.std.specs.List.{concat}
use Rattle.std.proofs.Math.Bool.{◌&&◌}
use Rattle.std.proofs.lemmas.Bool.{ne_eqb}
use Rattle.szg_count.specs.Sets.{sets_of}
use Rattle.szg_count.specs.Leads.{triples, king_pairs, lead_pawn_sets, without}
use Rattle.szg_count.specs.Groups.{IsPart, lead_sets, has_other_pawns}
use Rattle.szg_place.specs.Spots.{ordered_sets}
use Rattle.szg_place.proofs.Ranks.FreeSquares.{base_of}
use Rattle.szg_count.specs.Laws.{IsIn}
use Rattle.szg_place.specs.Known.{ComesAfterGroups}
use Rattle.szg_count.proofs.Pawns.{some_lead}
use Rattle.szg_count.proofs.LeadSets.{lead_sets_contain_filtered, triples_set, kings_set}

pub leads_pawns : (sides : Sides) (part : ℕ) → has_pawns sides ≡ true → lead_sets sides part ≡ lead_pawn_sets (lead_pawns sides) part
unfolding lead_sets
leads_pawns sides part e = rw e refl

pub leads_three : (sides : Sides) (part : ℕ) → has_pawns sides ≡ false → has_single_lead sides ≡ true → lead_sets sides part ≡ triples
unfolding lead_sets
leads_three sides part e f = rw (e, f) refl

pub leads_two : (sides : Sides) (part : ℕ) → has_pawns sides ≡ false → has_single_lead sides ≡ false → lead_sets sides part ≡ king_pairs
unfolding lead_sets
leads_two sides part e f = rw (e, f) refl

by_pawns : (b : Bool) (x y : ℕ) → b ≡ true → cond b x y ≡ x
by_pawns true x y e = refl
by_pawns false x y e = cc

pub part_four : (sides : Sides) (part : ℕ) → has_pawns sides ≡ true → IsPart sides part → part < 4
part_four sides part e p = subst (λ (b : Bool). part < cond b 4 1) e p

-- lead pawns: one square for each, one to four of them
pub record IsLead (sides : Sides) (part : ℕ) (set : List ℕ) : Type 0 where
  pub file : part < 4
  pub size : length set ≡ lead_pawns sides
  pub some : 0 < length set
  pub few : length set ≤ 4
  pub listed : IsIn set (lead_pawn_sets (length set) part)

pub lead_stated : (sides : Sides) (part : ℕ) (set : List ℕ) → IsMaterial sides → has_pawns sides ≡ true → IsPart sides part → IsIn set (lead_sets sides part) → IsLead sides part set
lead_stated sides part set m e p h =
    let held = lead_sets_contain_filtered sides part set m p h in
    let size : length set ≡ lead_pawns sides = held.0 ∙ by_pawns (has_pawns sides) (lead_pawns sides) (cond (has_single_lead sides) 3 2) e in
    let s = some_lead sides m e in record {
      file = part_four sides part e p;
      size = size;
      some = let a = s.0 in omega (arith, a, size);
      few = let a = s.1 in omega (arith, a, size);
      listed = subst (λ (k : ℕ). IsIn set (lead_pawn_sets k part)) (sym size) (subst (λ (l : List (List ℕ)). IsIn set l) (leads_pawns sides part e) h);
    }

pub three_items : (xs : List ℕ) → length xs ≡ 3 → xs ≡ get_or xs 0 0 ∷ get_or xs 1 0 ∷ get_or xs 2 0 ∷ []
three_items [] e = absurd (omega (arith, e))
three_items (a ∷ []) e = absurd (omega (arith, e))
three_items (a ∷ b ∷ []) e = absurd (omega (arith, e))
three_items (a ∷ b ∷ c ∷ []) e = refl
three_items (a ∷ b ∷ c ∷ d ∷ xs) e = absurd (omega (arith, e))

pub two_items : (xs : List ℕ) → length xs ≡ 2 → xs ≡ get_or xs 0 0 ∷ get_or xs 1 0 ∷ []
two_items [] e = absurd (omega (arith, e))
two_items (a ∷ []) e = absurd (omega (arith, e))
two_items (a ∷ b ∷ []) e = refl
two_items (a ∷ b ∷ c ∷ xs) e = absurd (omega (arith, e))

pub in_three : (sides : Sides) (part : ℕ) (set : List ℕ) → has_pawns sides ≡ false → has_single_lead sides ≡ true → IsIn set (lead_sets sides part) → (length set ≡ 3) × IsIn set triples
in_three sides part set e f h = let k = subst (λ (l : List (List ℕ)). IsIn set l) (leads_three sides part e f) h in ((triples_set set k).size, k)

pub in_two : (sides : Sides) (part : ℕ) (set : List ℕ) → has_pawns sides ≡ false → has_single_lead sides ≡ false → IsIn set (lead_sets sides part) → (length set ≡ 2) × IsIn set king_pairs
in_two sides part set e f h = let k = subst (λ (l : List (List ℕ)). IsIn set l) (leads_two sides part e f) h in ((kings_set set k).size, k)

pub ordered_lead : (sides : Sides) (part : ℕ) (before : List (List ℕ)) (size : ℕ) → length before ≡ 0 → ordered_sets sides part before size ≡ lead_sets sides part
unfolding ordered_sets
ordered_lead sides part [] size e = refl
ordered_lead sides part (lead ∷ before) size e = absurd (omega (arith, e))

second_is : (a b : ℕ) → a ≡ suc b → (b == 0) ≡ (a == 1)
second_is a zero e = sym (ap (λ n. n == 1) e)
second_is a (suc b) e = ne_eqb (suc b) 0 (λ h. omega arith) ∙ sym (ne_eqb a 1 (λ h. omega (arith, e, h)))

pub ordered_free : (sides : Sides) (part : ℕ) (before : List (List ℕ)) (n size : ℕ) → n ≡ length before → 0 < n →
    ordered_sets sides part before size ≡ sets_of size (without (concat before) (base_of (has_other_pawns sides && n == 1)))
unfolding ordered_sets
ordered_free sides part [] n size e h = absurd (omega (arith, e, h))
ordered_free sides part (lead ∷ before) n size e h =
    ap (λ b. sets_of size (without (concat (lead ∷ before)) (base_of (has_other_pawns sides && b)))) (second_is n (length before) e)

-- the ordered list of a later group, and of the lead group
pub lists_free : {sides : Sides} {part number : ℕ} {taken : List ℕ} {before : List (List ℕ)} {pawns : Bool} (size : ℕ) → ComesAfterGroups sides part number taken before → (number ≡ 0 → ⊥) →
    pawns ≡ (has_other_pawns sides && number == 1) → ordered_sets sides part before size ≡ sets_of size (without taken (base_of pawns))
lists_free {sides} {part} {number} {taken} {before} size h some e =
    ordered_free sides part before number size h.number_is (omega (arith, some))
    ∙ ap (λ (l : List ℕ). sets_of size (without l (base_of (has_other_pawns sides && number == 1)))) (sym h.taken_are)
    ∙ ap (λ b. sets_of size (without taken (base_of b))) (sym e)

pub lists_lead : {sides : Sides} {part number : ℕ} {taken : List ℕ} {before : List (List ℕ)} (size : ℕ) → ComesAfterGroups sides part number taken before → number ≡ 0 → ordered_sets sides part before size ≡ lead_sets sides part
lists_lead {sides} {part} {before = before} size h e = ordered_lead sides part before size (let k = h.number_is in omega (arith, k, e))

-- the taken squares are among the squares on which the group is ranked
pub inside_free : {sides : Sides} {part number : ℕ} {taken : List ℕ} {before : List (List ℕ)} {pawns : Bool} → ComesAfterGroups sides part number taken before → (number ≡ 0 → ⊥) →
    pawns ≡ (has_other_pawns sides && number == 1) → (x : ℕ) → IsIn x taken → IsIn x (base_of pawns)
inside_free h some e x i = subst (λ (b : Bool). IsIn x (base_of b)) (sym e) (h.inside (omega (arith, some)) x i)
