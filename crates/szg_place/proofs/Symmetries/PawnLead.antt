-- The lead pawns of a normal form are one of the sets of their list.
use Rattle.std.proofs.Common.{◌≡◌, ℕ, ◌-◌, ◌<◌, ◌⊎◌, ◌↔◌, inl, inr, List, [], ◌∷◌, length, map, refl, sym, ap, ◌∙◌, subst, Bool, true, false, cond, arith}
use Rattle.std.specs.Prelude.{filter, ◌==◌, nat_lt, min, slice_index, flat_map}
use Rattle.std.specs.List.{range_with_len}
use Rattle.std.proofs.Math.Bool.{not, ◌&&◌}
use Rattle.std.proofs.lemmas.Bool.{cases_Bool, eqb-true, eq-eqb, ltb-true, lt-ltb, le-ltb}
use Rattle.szg_values.specs.Men.{file_of, rank_of, square_at}
use Rattle.szg_values.specs.Material.{Sides, has_pawns, count_of, lead_pawns, lead_pawn_code, first_leads}
use Rattle.szg_count.specs.Sets.{sets_of}
use Rattle.szg_count.specs.Leads.{contains, pawn_order, after, lead_pawn_sets, pawn_squares}
use Rattle.szg_count.specs.Laws.{IsIn}
use Rattle.szg_count.proofs.Differ.{contains_it, sets_contain_filtered, AllDiffer-pawn_order, IsIn-map}
use Rattle.szg_count.proofs.Free.{contains-IsIn}
use Rattle.szg_place.specs.Normal.{CodedMan, flip_file, flip_rank, reflect, squares_with, lead_squares, moved, is_first_above, with_file, with_rank, with_reflection, normal_pieces, part_of}
use Rattle.szg_place.proofs.Ranks.Lists.{tested, all-IsIn, same_tests, filter-same, filter-after, IsIn-lists_by_back, IsIn-map_back}
use Rattle.szg_place.proofs.Ranks.Ways.{pawn_order-squares, pawns_down}
use Rattle.szg_place.proofs.MenOnSlots.Pieces.{IsStood, IsStood-moved, moved_piece, is_valid, is_valid-from, is_valid-true, squares_count, count-same, is_pawn_code}
use Rattle.szg_place.proofs.Symmetries.Flips.{flip_file-move, flip_file-back}

-- the pawn squares of files a to d, in pawn order; there each is followed by its mirror square on files h to e
abbrev lefts : List ℕ
lefts = flat_map (λ file. map (square_at file) (range_with_len 1 6)) (range_with_len 0 4)

abbrev by_pairs : List ℕ → List ℕ
by_pairs = flat_map (λ s. s ∷ flip_file s ∷ [])

pawn_order-pairs : pawn_order ≡ by_pairs lefts
unfolding pawn_order
pawn_order-pairs = refl

flipped_file : (s : ℕ) → s < 64 → file_of (flip_file s) ≡ 7 - file_of s
flipped_file s h = eqb-true (file_of (flip_file s)) (7 - file_of s) (tested (λ x. file_of (flip_file x) == (7 - file_of x)) 64 s refl h)

-- a square on files e to h whose flipped square is the first that passes the flipped test
record IsLeft (f : ℕ → Bool) (order : List ℕ) (q : ℕ) : Type 0 where
  right : 3 < file_of q
  inside : q < 64
  rest : List ℕ
  is : filter (λ s. f (flip_file s)) order ≡ flip_file q ∷ rest

first_pair : (f : ℕ → Bool) (ls : List ℕ) → ((s : ℕ) → IsIn s ls → (file_of s < 4) × (s < 64)) → (q : ℕ) (rest : List ℕ) → filter f (by_pairs ls) ≡ q ∷ rest →
    (file_of q < 4) ⊎ IsLeft f (by_pairs ls) q
first_pair f [] h q rest e = cc
first_pair f (s ∷ ls) h q rest e = elim (cases_Bool (f s)) [
  | inl t ↦ let g : s ∷ filter f (flip_file s ∷ by_pairs ls) ≡ q ∷ rest = rw t at e in let k : q ≡ s = cc in
      inl (subst (λ (n : ℕ). file_of n < 4) (sym k) (h s (inl refl)).0)
  | inr n ↦ let s64 = (h s (inl refl)).1 in let low = (h s (inl refl)).0 in
      let back = flip_file-back s s64 in
      let e2 : filter f (flip_file s ∷ by_pairs ls) ≡ q ∷ rest = rw n at e in
      elim (cases_Bool (f (flip_file s))) [
        | inl t ↦ let g : flip_file s ∷ filter f (by_pairs ls) ≡ q ∷ rest = rw t at e2 in let k : q ≡ flip_file s = cc in
            let t2 = flipped_file s s64 in
            let j : file_of q ≡ 7 - file_of s = ap file_of k ∙ t2 in
            inr (record {
              right = omega (arith, j, low);
              inside = subst (λ (x : ℕ). x < 64) (sym k) (flip_file-move_inside s s64);
              rest = filter (λ x. f (flip_file x)) (flip_file s ∷ by_pairs ls);
              is = rw t (ap (λ x. x ∷ filter (λ x. f (flip_file x)) (flip_file s ∷ by_pairs ls)) (sym back ∙ ap flip_file (sym k)));
            })
        | inr m ↦ let e3 : filter f (by_pairs ls) ≡ q ∷ rest = rw m at e2 in
            let bk : f (flip_file (flip_file s)) ≡ false = ap f back ∙ n in
            elim (first_pair f ls (λ x i. h x (inr i)) q rest e3) [
              | inl a ↦ inl a
              | inr b ↦ inr (record { right = b.right; inside = b.inside; rest = b.rest; is = rw (m, bk) b.is })
            ]
      ]
] where
  flip_file-move_inside : (x : ℕ) → x < 64 → flip_file x < 64
  flip_file-move_inside x h = ltb-true (flip_file x) 64 (tested (λ y. nat_lt (flip_file y) 64) 64 x refl h)

lefts_low : (s : ℕ) → IsIn s lefts → (file_of s < 4) × (s < 64)
lefts_low s h = (ltb-true (file_of s) 4 (all-IsIn (λ x. nat_lt (file_of x) 4) lefts s refl h), ltb-true s 64 (all-IsIn (λ x. nat_lt x 64) lefts s refl h))

first_of_order : (f : ℕ → Bool) (q : ℕ) (rest : List ℕ) → filter f pawn_order ≡ q ∷ rest → (file_of q < 4) ⊎ IsLeft f pawn_order q
first_of_order f q rest e = subst (λ (l : List ℕ). filter f l ≡ q ∷ rest → (file_of q < 4) ⊎ IsLeft f l q) (sym pawn_order-pairs) (first_pair f lefts lefts_low q rest) e

-- a pawn square is one of the six of its file
in_file : (q : ℕ) → IsIn q pawn_order → IsIn q (map (square_at (file_of q)) (range_with_len 1 6))
unfolding pawn_order
in_file q h = contains-IsIn q (map (square_at (file_of q)) (range_with_len 1 6)) (all-IsIn (λ x. contains (map (square_at (file_of x)) (range_with_len 1 6)) x) pawn_order q refl h)

in_pawn_sets : (f : ℕ → Bool) (k part q : ℕ) (rest : List ℕ) → filter f pawn_order ≡ q ∷ rest → file_of q ≡ part → length (q ∷ rest) ≡ k → IsIn (q ∷ rest) (lead_pawn_sets k part)
unfolding lead_pawn_sets
in_pawn_sets f k part q rest e p l =
    let a = filter-after f pawn_order q rest e in
    let held : IsIn rest (sets_of (length rest) (after q pawn_order)) = subst (λ (x : List ℕ). IsIn x (sets_of (length x) (after q pawn_order))) (sym a.0) (sets_contain_filtered f (after q pawn_order)) in
    let n : length rest ≡ k - 1 = omega arith in
    IsIn-lists_by_back (map (square_at part) (range_with_len 1 6)) (λ q. sets_of (k - 1) (after q pawn_order)) q rest
    (subst (λ (x : ℕ). IsIn q (map (square_at x) (range_with_len 1 6))) p (in_file q a.1))
    (subst (λ (x : ℕ). IsIn rest (sets_of x (after q pawn_order))) n held)

-- ---- the normal form

pub lead_pawns_with : (sides : Sides) (lead : List ℕ) (pieces : List CodedMan) → has_pawns sides ≡ true → lead_squares sides lead pieces ≡ squares_with lead pieces pawn_order
unfolding lead_squares
lead_pawns_with sides lead pieces e = rw e refl

rank_kept : (sides : Sides) (lead : List ℕ) (pieces : List CodedMan) → has_pawns sides ≡ true → with_rank sides lead pieces ≡ pieces
unfolding with_rank
rank_kept sides lead pieces e = ap (λ b. cond (not b && nat_lt 3 (rank_of (slice_index (lead_squares sides lead pieces) 0))) (moved flip_rank pieces) pieces) e

reflection_kept : (sides : Sides) (lead : List ℕ) (pieces : List CodedMan) → has_pawns sides ≡ true → with_reflection sides lead pieces ≡ pieces
unfolding with_reflection
reflection_kept sides lead pieces e = ap (λ b. cond (not b && is_first_above (lead_squares sides lead pieces)) (moved reflect pieces) pieces) e

pub normal_pawns : (sides : Sides) (lead : List ℕ) (pieces : List CodedMan) → has_pawns sides ≡ true →
    normal_pieces sides lead pieces ≡ cond (nat_lt 3 (file_of (slice_index (squares_with lead pieces pawn_order) 0))) (moved flip_file pieces) pieces
unfolding normal_pieces with_file
normal_pawns sides lead pieces e =
    reflection_kept sides lead (with_rank sides lead (with_file sides lead pieces)) e
    ∙ rank_kept sides lead (with_file sides lead pieces) e
    ∙ ap (λ (l : List ℕ). cond (nat_lt 3 (file_of (slice_index l 0))) (moved flip_file pieces) pieces) (lead_pawns_with sides lead pieces e)

pub normal_stood : (sides : Sides) (men lead : List ℕ) (pieces : List CodedMan) → has_pawns sides ≡ true → IsStood sides men pieces → IsStood sides men (normal_pieces sides lead pieces)
normal_stood sides men lead pieces e stood = subst (λ (l : List CodedMan). IsStood sides men l) (sym (normal_pawns sides lead pieces e))
    (either (nat_lt 3 (file_of (slice_index (squares_with lead pieces pawn_order) 0))))
  where
    either : (b : Bool) → IsStood sides men (cond b (moved flip_file pieces) pieces)
    either true = IsStood-moved sides men pieces flip_file (flip_file-move sides) stood
    either false = stood

valid_moved : (codes : List ℕ) (pieces : List CodedMan) → ((p : CodedMan) → IsIn p pieces → p.square < 64) → (s : ℕ) → s < 64 → is_valid codes (moved flip_file pieces) s ≡ is_valid codes pieces (flip_file s)
valid_moved codes pieces inside s h = same_tests (is_valid codes (moved flip_file pieces) s) (is_valid codes pieces (flip_file s))
    (λ e. let r = is_valid-from codes (moved flip_file pieces) s e in
    let m = IsIn-map (moved_piece flip_file) pieces r.0 r.1 in
    let at : m.0.square ≡ flip_file s = sym (flip_file-back m.0.square (inside m.0 m.1)) ∙ ap flip_file (ap (λ (p : CodedMan). p.square) (sym m.2) ∙ r.2) in
    subst (λ (n : ℕ). is_valid codes pieces n ≡ true) at (is_valid-true codes pieces m.0 m.1 (subst (λ (p : CodedMan). IsIn p.code codes) m.2 r.3)))
    (λ e. let r = is_valid-from codes pieces (flip_file s) e in
    let at : flip_file r.0.square ≡ s = ap flip_file r.2 ∙ flip_file-back s h in
    subst (λ (n : ℕ). is_valid codes (moved flip_file pieces) n ≡ true) at
    (is_valid-true codes (moved flip_file pieces) (moved_piece flip_file r.0) (IsIn-map_back (moved_piece flip_file) pieces r.0 r.1) r.3))

order_below : (x : ℕ) → IsIn x pawn_order → x < 64
order_below x h = pawns_down x (pawn_order-squares x h)

pub squares_order : (x : ℕ) → IsIn x pawn_squares → IsIn x pawn_order
unfolding pawn_squares pawn_order
squares_order x h = contains-IsIn x pawn_order (all-IsIn (contains pawn_order) pawn_squares x refl h)

pub lead_code-pawn : (sides : Sides) → is_pawn_code (lead_pawn_code sides) ≡ true
lead_code-pawn sides = either (first_leads sides) where
  either : (b : Bool) → is_pawn_code (cond b 1 9) ≡ true
  either true = refl
  either false = refl

-- the number of lead pawns does not depend on their squares
pub lead_count : (sides : Sides) (men lead : List ℕ) (pieces : List CodedMan) → has_pawns sides ≡ true → IsStood sides men pieces →
    ((x : ℕ) → IsIn x lead ↔ (x ≡ lead_pawn_code sides)) → length (squares_with lead pieces pawn_order) ≡ count_of (lead_pawn_code sides) men
lead_count sides men lead pieces e stood only =
    squares_count lead pieces pawn_order AllDiffer-pawn_order stood.differ
    (λ p i c. squares_order p.square (stood.pawns e p i (ap is_pawn_code ((only p.code).0 c) ∙ lead_code-pawn sides)))
    ∙ count-same (λ (p : CodedMan). contains lead p.code) (λ p. p.code == lead_pawn_code sides) pieces
    (λ p i. same_tests (contains lead p.code) (p.code == lead_pawn_code sides)
    (λ c. eq-eqb p.code (lead_pawn_code sides) ((only p.code).0 (contains-IsIn p.code lead c)))
    (λ c. contains_it p.code lead ((only p.code).1 (eqb-true p.code (lead_pawn_code sides) c))))
    ∙ stood.counts (lead_pawn_code sides)

not_empty : (xs : List ℕ) (k : ℕ) → length xs ≡ k → 0 < k → (q : ℕ) × (rest : List ℕ) × (xs ≡ q ∷ rest)
not_empty [] k e h = absurd (omega arith)
not_empty (x ∷ xs) k e h = (x, xs, refl)

pub part_pawns : (sides : Sides) (lead : List ℕ) (pieces : List CodedMan) → has_pawns sides ≡ true → ((x : ℕ) → IsIn x lead ↔ (x ≡ lead_pawn_code sides)) →
    (q : ℕ) (rest : List ℕ) → squares_with lead pieces pawn_order ≡ q ∷ rest → part_of sides pieces ≡ min (file_of q) (7 - file_of q)
part_pawns sides lead pieces e only q rest is =
    let c = lead_pawn_code sides in
    let same : squares_with (c ∷ []) pieces pawn_order ≡ squares_with lead pieces pawn_order =
    filter-same (is_valid (c ∷ []) pieces) (is_valid lead pieces) pawn_order
    (λ s i. same_tests (is_valid (c ∷ []) pieces s) (is_valid lead pieces s)
    (λ h. let r = is_valid-from (c ∷ []) pieces s h in subst (λ (n : ℕ). is_valid lead pieces n ≡ true) r.2
    (is_valid-true lead pieces r.0 r.1 ((only r.0.code).1 (elim r.3 [ inl x ↦ x | inr y ↦ absurd y ]))))
    (λ h. let r = is_valid-from lead pieces s h in subst (λ (n : ℕ). is_valid (c ∷ []) pieces n ≡ true) r.2
    (is_valid-true (c ∷ []) pieces r.0 r.1 (inl ((only r.0.code).0 r.3))))) in
    let first : slice_index (squares_with (c ∷ []) pieces pawn_order) 0 ≡ q = ap (λ l. slice_index l 0) (same ∙ is) in
    ap (λ b. cond b (min (file_of (slice_index (squares_with (c ∷ []) pieces pawn_order) 0)) (7 - file_of (slice_index (squares_with (c ∷ []) pieces pawn_order) 0))) 0) e
    ∙ ap (λ n. min (file_of n) (7 - file_of n)) first

pub pawn_lead : (sides : Sides) (men lead : List ℕ) (pieces : List CodedMan) → has_pawns sides ≡ true → IsStood sides men pieces →
    ((x : ℕ) → IsIn x lead ↔ (x ≡ lead_pawn_code sides)) → count_of (lead_pawn_code sides) men ≡ lead_pawns sides → 0 < lead_pawns sides →
    IsIn (lead_squares sides lead (normal_pieces sides lead pieces)) (lead_pawn_sets (lead_pawns sides) (part_of sides pieces))
pawn_lead sides men lead pieces e stood only count pos =
    let k = lead_pawns sides in
    let found = squares_with lead pieces pawn_order in
    let some = not_empty found k (lead_count sides men lead pieces e stood only ∙ count) pos in
    let q = some.0 in let rest = some.1 in let is = some.2 in
    let part = part_pawns sides lead pieces e only q rest is in
    let first : slice_index found 0 ≡ q = ap (λ l. slice_index l 0) is in
    let normal : normal_pieces sides lead pieces ≡ cond (nat_lt 3 (file_of q)) (moved flip_file pieces) pieces =
    normal_pawns sides lead pieces e ∙ ap (λ n. cond (nat_lt 3 (file_of n)) (moved flip_file pieces) pieces) first in
    elim (first_of_order (is_valid lead pieces) q rest is) [
      | inl low ↦
          let at : normal_pieces sides lead pieces ≡ pieces = normal ∙ ap (λ b. cond b (moved flip_file pieces) pieces) (le-ltb 3 (file_of q) (omega (arith, low))) in
          let whole : lead_squares sides lead (normal_pieces sides lead pieces) ≡ q ∷ rest = ap (lead_squares sides lead) at ∙ lead_pawns_with sides lead pieces e ∙ is in
          let len : length (q ∷ rest) ≡ k = ap length (sym is) ∙ lead_count sides men lead pieces e stood only ∙ count in
          subst (λ (l : List ℕ). IsIn l (lead_pawn_sets k (part_of sides pieces))) (sym whole)
          (in_pawn_sets (is_valid lead pieces) k (part_of sides pieces) q rest is (let m : min (file_of q) (7 - file_of q) ≡ file_of q = omega (arith, low) in sym (part ∙ m)) len)
      | inr r ↦
          let right = r.right in
          let turned = moved flip_file pieces in
          let at : normal_pieces sides lead pieces ≡ turned = normal ∙ ap (λ b. cond b (moved flip_file pieces) pieces) (lt-ltb 3 (file_of q) right) in
          let there : squares_with lead turned pawn_order ≡ flip_file q ∷ r.rest =
          filter-same (is_valid lead turned) (λ s. is_valid lead pieces (flip_file s)) pawn_order (λ s i. valid_moved lead pieces stood.inside s (order_below s i)) ∙ r.is in
          let whole : lead_squares sides lead (normal_pieces sides lead pieces) ≡ flip_file q ∷ r.rest = ap (lead_squares sides lead) at ∙ lead_pawns_with sides lead turned e ∙ there in
          let len : length (flip_file q ∷ r.rest) ≡ k = ap length (sym there) ∙ lead_count sides men lead turned e (IsStood-moved sides men pieces flip_file (flip_file-move sides) stood) only ∙ count in
          let m : min (file_of q) (7 - file_of q) ≡ 7 - file_of q = omega (arith, right) in
          subst (λ (l : List ℕ). IsIn l (lead_pawn_sets k (part_of sides pieces))) (sym whole)
          (in_pawn_sets (is_valid lead turned) k (part_of sides pieces) (flip_file q) r.rest there (flipped_file q r.inside ∙ sym m ∙ sym part) len)
    ]
