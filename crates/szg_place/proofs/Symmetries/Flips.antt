-- Flips of the board, and lead squares after them.
use Rattle.std.proofs.Common.{◌≡◌, ℕ, suc, ◌<◌, ◌≤◌, inl, inr, List, [], ◌∷◌, ◌++◌, length, map, refl, sym, ap, ◌∙◌, subst, Bool, true, false, cond, arith}
use Rattle.std.specs.Prelude.{filter, ◌==◌, nat_lt, slice_index, flat_map}
use Rattle.std.proofs.Math.Bool.{not, ◌&&◌, ◌||◌}
use Rattle.std.proofs.lemmas.Bool.{cases_Bool, cases_eq, eqb-true, eq-eqb, ltb-true, ltb-false, lt-ltb, le-ltb, and_parts, false_from_ne_true}
use Rattle.szg_values.specs.Men.{file_of, rank_of}
use Rattle.szg_values.specs.Material.{Sides, has_pawns, count_of}
use Rattle.szg_count.specs.Leads.{contains, without, squares, squares_down, pawn_squares, is_on_diagonal, is_below_diagonal, diagonal, below_diagonal, triangle_below, triangle_diagonal, lists_by, no_more, triples_from, triples, pairs_from, king_pairs, is_touching, is_mirrored, is_both_on_diagonal}
use Rattle.szg_count.specs.Laws.{IsIn, AllDiffer}
use Rattle.szg_count.proofs.Differ.{IsIn-append_left, IsIn-append_right, IsIn-map}
use Rattle.szg_count.proofs.Free.{contains-IsIn}
use Rattle.szg_place.specs.Normal.{CodedMan, flip_file, flip_rank, reflect, squares_with, lead_squares, moved, is_first_above, with_file, with_rank, with_reflection, normal_pieces}
use Rattle.szg_place.proofs.Ranks.Lists.{tested, all-IsIn, IsIn-map_back, IsIn-filter_back, IsIn-lists_by_back}
use Rattle.szg_place.proofs.MenOnSlots.Pieces.{IsStood, IsMove, IsStood-moved, moved_piece, only_square, some_piece, same_piece}

-- ---- moves

back_apart : (move : ℕ → ℕ) → ((s : ℕ) → s < 64 → move (move s) ≡ s) → (s t : ℕ) → s < 64 → t < 64 → move s ≡ move t → s ≡ t
back_apart move back s t h k e = sym (back s h) ∙ ap move e ∙ back t k

pub flip_file-back : (s : ℕ) → s < 64 → flip_file (flip_file s) ≡ s
flip_file-back s h = eqb-true _ _ (tested (λ x. flip_file (flip_file x) == x) 64 s refl h)

pub flip_rank-back : (s : ℕ) → s < 64 → flip_rank (flip_rank s) ≡ s
flip_rank-back s h = eqb-true _ _ (tested (λ x. flip_rank (flip_rank x) == x) 64 s refl h)

reflect-back : (s : ℕ) → s < 64 → reflect (reflect s) ≡ s
reflect-back s h = eqb-true _ _ (tested (λ x. reflect (reflect x) == x) 64 s refl h)

pub flip_file-move : (sides : Sides) → IsMove sides flip_file
unfolding pawn_squares
flip_file-move sides = record {
  inside = λ s h. ltb-true (flip_file s) 64 (tested (λ x. nat_lt (flip_file x) 64) 64 s refl h);
  apart = back_apart flip_file flip_file-back;
  pawns = λ e s i. contains-IsIn (flip_file s) pawn_squares (all-IsIn (λ x. contains pawn_squares (flip_file x)) pawn_squares s refl i);
}

pub flip_rank-move : (sides : Sides) → IsMove sides flip_rank
unfolding pawn_squares
flip_rank-move sides = record {
  inside = λ s h. ltb-true (flip_rank s) 64 (tested (λ x. nat_lt (flip_rank x) 64) 64 s refl h);
  apart = back_apart flip_rank flip_rank-back;
  pawns = λ e s i. contains-IsIn (flip_rank s) pawn_squares (all-IsIn (λ x. contains pawn_squares (flip_rank x)) pawn_squares s refl i);
}

clash : (b : Bool) → b ≡ true → b ≡ false → ⊥
clash true e f = cc
clash false e f = cc

pub reflect-move : (sides : Sides) → has_pawns sides ≡ false → IsMove sides reflect
reflect-move sides none = record {
  inside = λ s h. ltb-true (reflect s) 64 (tested (λ x. nat_lt (reflect x) 64) 64 s refl h);
  apart = back_apart reflect reflect-back;
  pawns = λ e s i. absurd (clash (has_pawns sides) e none);
}

-- ---- lead men, each the only one of its code

-- the man of each code is on the square listed for it
abbrev pub SlottedMen : List CodedMan → List ℕ → List ℕ → Type 0
SlottedMen pieces [] [] = Unit {0}
SlottedMen pieces [] (s ∷ ss) = ⊥
SlottedMen pieces (c ∷ codes) [] = ⊥
SlottedMen pieces (c ∷ codes) (s ∷ ss) = (let p : CodedMan = record { code = c; square = s } in IsIn p pieces) × SlottedMen pieces codes ss

pub slot_squares : (sides : Sides) (men : List ℕ) (pieces : List CodedMan) (lead : List ℕ) → IsStood sides men pieces → ((c : ℕ) → IsIn c lead → count_of c men ≡ 1) → (ss : List ℕ) × SlottedMen pieces lead ss
slot_squares sides men pieces [] stood one = ([], tt)
slot_squares sides men pieces (c ∷ lead) stood one =
    let r = some_piece sides men pieces c stood (one c (inl refl)) in
    let more = slot_squares sides men pieces lead stood (λ d i. one d (inr i)) in
    let same : ◌≡◌ {A = CodedMan} r.0 (record { code = c; square = r.0.square }) = ap (λ (n : ℕ). let p : CodedMan = record { code = n; square = r.0.square } in p) r.2 in
    (r.0.square ∷ more.0, (subst (λ (p : CodedMan). IsIn p pieces) same r.1, more.1))

pub slotted_slots : (sides : Sides) (men : List ℕ) (pieces : List CodedMan) (lead ss : List ℕ) → IsStood sides men pieces → ((c : ℕ) → IsIn c lead → count_of c men ≡ 1) → SlottedMen pieces lead ss →
    flat_map (λ code. squares_with (code ∷ []) pieces squares_down) lead ≡ ss
slotted_slots sides men pieces [] [] stood one h = refl
slotted_slots sides men pieces [] (s ∷ ss) stood one h = absurd h
slotted_slots sides men pieces (c ∷ lead) [] stood one h = absurd h
slotted_slots sides men pieces (c ∷ lead) (s ∷ ss) stood one h =
    let p : CodedMan = record { code = c; square = s } in
    ap (λ l. l ++ flat_map (λ code. squares_with (code ∷ []) pieces squares_down) lead) (only_square sides men pieces p stood h.0 (one c (inl refl)))
    ∙ ap (λ l. s ∷ l) (slotted_slots sides men pieces lead ss stood (λ d i. one d (inr i)) h.1)

pub slotted_moved : (move : ℕ → ℕ) (pieces : List CodedMan) (lead ss : List ℕ) → SlottedMen pieces lead ss → SlottedMen (moved move pieces) lead (map move ss)
slotted_moved move pieces [] [] h = tt
slotted_moved move pieces [] (s ∷ ss) h = absurd h
slotted_moved move pieces (c ∷ lead) [] h = absurd h
slotted_moved move pieces (c ∷ lead) (s ∷ ss) h = (IsIn-map_back (moved_piece move) pieces (let p : CodedMan = record { code = c; square = s } in p) h.0, slotted_moved move pieces lead ss h.1)

-- a listed square has a man of one of the codes
pub slotted_code : (pieces : List CodedMan) (lead ss : List ℕ) (s : ℕ) → SlottedMen pieces lead ss → IsIn s ss → (c : ℕ) × IsIn c lead × (let p : CodedMan = record { code = c; square = s } in IsIn p pieces)
slotted_code pieces [] [] s h i = absurd i
slotted_code pieces [] (t ∷ ss) s h i = absurd h
slotted_code pieces (c ∷ lead) [] s h i = absurd i
slotted_code pieces (c ∷ lead) (t ∷ ss) s h (inl e) = (c, inl refl, subst (λ (n : ℕ). (let p : CodedMan = record { code = c; square = n } in IsIn p pieces)) (sym e) h.0)
slotted_code pieces (c ∷ lead) (t ∷ ss) s h (inr i) = let r = slotted_code pieces lead ss s h.1 i in (r.0, inr r.1, r.2)

pub slotted_differ : (sides : Sides) (men : List ℕ) (pieces : List CodedMan) (lead ss : List ℕ) → IsStood sides men pieces → AllDiffer lead → SlottedMen pieces lead ss → AllDiffer ss
slotted_differ sides men pieces [] [] stood d h = tt
slotted_differ sides men pieces [] (s ∷ ss) stood d h = absurd h
slotted_differ sides men pieces (c ∷ lead) [] stood d h = absurd h
slotted_differ sides men pieces (c ∷ lead) (s ∷ ss) stood d h = (
  λ i. let r = slotted_code pieces lead ss s h.1 i in
      let p : CodedMan = record { code = c; square = s } in let q : CodedMan = record { code = r.0; square = s } in
      let same = same_piece pieces p q stood.differ h.0 r.2 refl in
      d.0 (subst (λ (n : ℕ). IsIn n lead) (sym (ap (λ (x : CodedMan). x.code) same)) r.1),
  slotted_differ sides men pieces lead ss stood d.1 h.1,
)

pub slotted_inside : (sides : Sides) (men : List ℕ) (pieces : List CodedMan) (lead ss : List ℕ) → IsStood sides men pieces → SlottedMen pieces lead ss → (s : ℕ) → IsIn s ss → s < 64
slotted_inside sides men pieces lead ss stood h s i = let r = slotted_code pieces lead ss s h i in stood.inside (let p : CodedMan = record { code = r.0; square = s } in p) r.2

pub slotted_length : (pieces : List CodedMan) (lead ss : List ℕ) → SlottedMen pieces lead ss → length ss ≡ length lead
slotted_length pieces [] [] h = refl
slotted_length pieces [] (s ∷ ss) h = absurd h
slotted_length pieces (c ∷ lead) [] h = absurd h
slotted_length pieces (c ∷ lead) (s ∷ ss) h = ap suc (slotted_length pieces lead ss h.1)

-- men with their lead squares
pub record IsSet (sides : Sides) (men lead : List ℕ) (pieces : List CodedMan) (ss : List ℕ) : Type 0 where
  pub stood : IsStood sides men pieces
  pub put_on_slots : SlottedMen pieces lead ss

pub turned : (sides : Sides) (men lead : List ℕ) (pieces : List CodedMan) (ss : List ℕ) (b : Bool) (move : ℕ → ℕ) → IsMove sides move → IsSet sides men lead pieces ss →
    IsSet sides men lead (cond b (moved move pieces) pieces) (cond b (map move ss) ss)
turned sides men lead pieces ss true move m h = record { stood = IsStood-moved sides men pieces move m h.stood; put_on_slots = slotted_moved move pieces lead ss h.put_on_slots }
turned sides men lead pieces ss false move m h = h

abbrev pub filed : List ℕ → List ℕ
filed ss = cond (nat_lt 3 (file_of (slice_index ss 0))) (map flip_file ss) ss

abbrev pub ranked : List ℕ → List ℕ
ranked ss = cond (nat_lt 3 (rank_of (slice_index ss 0))) (map flip_rank ss) ss

abbrev pub reflected : List ℕ → List ℕ
reflected ss = cond (is_first_above ss) (map reflect ss) ss

-- without pawns the lead squares are those listed
pub slots_of : (sides : Sides) (men lead : List ℕ) (pieces : List CodedMan) (ss : List ℕ) → has_pawns sides ≡ false → ((c : ℕ) → IsIn c lead → count_of c men ≡ 1) → IsSet sides men lead pieces ss →
    lead_squares sides lead pieces ≡ ss
unfolding lead_squares
slots_of sides men lead pieces ss none one h = rw none (slotted_slots sides men pieces lead ss h.stood one h.put_on_slots)

pub normal_set : (sides : Sides) (men lead : List ℕ) (pieces : List CodedMan) (ss : List ℕ) → has_pawns sides ≡ false → ((c : ℕ) → IsIn c lead → count_of c men ≡ 1) → IsSet sides men lead pieces ss →
    IsSet sides men lead (normal_pieces sides lead pieces) (reflected (ranked (filed ss)))
unfolding with_file with_rank with_reflection normal_pieces
normal_set sides men lead pieces ss none one h =
    let p1 = with_file sides lead pieces in let p2 = with_rank sides lead p1 in
    let h1 : IsSet sides men lead p1 (filed ss) =
    subst (λ (l : List ℕ). IsSet sides men lead p1 (cond (nat_lt 3 (file_of (slice_index l 0))) (map flip_file ss) ss)) (slots_of sides men lead pieces ss none one h)
    (turned sides men lead pieces ss (nat_lt 3 (file_of (slice_index (lead_squares sides lead pieces) 0))) flip_file (flip_file-move sides) h) in
    let h2 : IsSet sides men lead p2 (ranked (filed ss)) =
    subst (λ (b : Bool). IsSet sides men lead p2 (cond b (map flip_rank (filed ss)) (filed ss)))
    (ap (λ b. not b && nat_lt 3 (rank_of (slice_index (lead_squares sides lead p1) 0))) none
    ∙ ap (λ l. nat_lt 3 (rank_of (slice_index l 0))) (slots_of sides men lead p1 (filed ss) none one h1))
    (turned sides men lead p1 (filed ss) (not (has_pawns sides) && nat_lt 3 (rank_of (slice_index (lead_squares sides lead p1) 0))) flip_rank (flip_rank-move sides) h1) in
    subst (λ (b : Bool). IsSet sides men lead (with_reflection sides lead p2) (cond b (map reflect (ranked (filed ss))) (ranked (filed ss))))
    (ap (λ b. not b && is_first_above (lead_squares sides lead p2)) none
    ∙ ap is_first_above (slots_of sides men lead p2 (ranked (filed ss)) none one h2))
    (turned sides men lead p2 (ranked (filed ss)) (not (has_pawns sides) && is_first_above (lead_squares sides lead p2)) reflect (reflect-move sides none) h2)

-- ---- the first lead square after the flips

AreInside : List ℕ → Type 0
AreInside ss = (s : ℕ) → IsIn s ss → s < 64

-- the first square is in the lower left quarter, and the first square off the diagonal is below the diagonal
pub record IsLow (ss : List ℕ) : Type 0 where
  pub file : file_of (slice_index ss 0) < 4
  pub rank : rank_of (slice_index ss 0) < 4
  pub below : is_first_above ss ≡ false

filed_file : (ss : List ℕ) → AreInside ss → file_of (slice_index (filed ss) 0) < 4
unfolding AreInside
filed_file [] h = ltb-true 0 4 refl
filed_file (s ∷ ss) h = elim (cases_Bool (nat_lt 3 (file_of s))) [
  | inl t ↦ rw t (low s (h s (inl refl)) t)
  | inr f ↦ rw f (let k = ltb-false 3 (file_of s) f in omega (arith, k))
] where
  or_not : (a b : Bool) → (not a || b) ≡ true → a ≡ true → b ≡ true
  or_not true b e f = e
  or_not false b e f = cc

  low : (s : ℕ) → s < 64 → nat_lt 3 (file_of s) ≡ true → file_of (flip_file s) < 4
  low s h t = ltb-true (file_of (flip_file s)) 4 (or_not (nat_lt 3 (file_of s)) (nat_lt (file_of (flip_file s)) 4) (tested (λ x. not (nat_lt 3 (file_of x)) || nat_lt (file_of (flip_file x)) 4) 64 s refl h) t)

ranked_low : (ss : List ℕ) → AreInside ss → file_of (slice_index ss 0) < 4 → (file_of (slice_index (ranked ss) 0) < 4) × (rank_of (slice_index (ranked ss) 0) < 4)
unfolding AreInside
ranked_low [] h f = (ltb-true 0 4 refl, ltb-true 0 4 refl)
ranked_low (s ∷ ss) h f = elim (cases_Bool (nat_lt 3 (rank_of s))) [
  | inl t ↦ rw t (kept s (h s (inl refl)) f, low s (h s (inl refl)) t)
  | inr n ↦ rw n (f, (let k = ltb-false 3 (rank_of s) n in omega (arith, k)))
] where
  or_not : (a b : Bool) → (not a || b) ≡ true → a ≡ true → b ≡ true
  or_not true b e f = e
  or_not false b e f = cc

  low : (s : ℕ) → s < 64 → nat_lt 3 (rank_of s) ≡ true → rank_of (flip_rank s) < 4
  low s h t = ltb-true (rank_of (flip_rank s)) 4 (or_not (nat_lt 3 (rank_of s)) (nat_lt (rank_of (flip_rank s)) 4) (tested (λ x. not (nat_lt 3 (rank_of x)) || nat_lt (rank_of (flip_rank x)) 4) 64 s refl h) t)

  kept : (s : ℕ) → s < 64 → file_of s < 4 → file_of (flip_rank s) < 4
  kept s h f = let e = eqb-true (file_of (flip_rank s)) (file_of s) (tested (λ x. file_of (flip_rank x) == file_of x) 64 s refl h) in omega (arith, e, f)

reflect_file : (s : ℕ) → s < 64 → file_of (reflect s) ≡ rank_of s
reflect_file s h = eqb-true (file_of (reflect s)) (rank_of s) (tested (λ x. file_of (reflect x) == rank_of x) 64 s refl h)

reflect_rank : (s : ℕ) → s < 64 → rank_of (reflect s) ≡ file_of s
reflect_rank s h = eqb-true (rank_of (reflect s)) (file_of s) (tested (λ x. rank_of (reflect x) == file_of x) 64 s refl h)

above_flipped : (ss : List ℕ) → AreInside ss → is_first_above ss ≡ true → is_first_above (map reflect ss) ≡ false
unfolding AreInside
above_flipped [] h e = cc
above_flipped (s ∷ ss) h e =
    let f = reflect_file s (h s (inl refl)) in let r = reflect_rank s (h s (inl refl)) in
    elim (cases_Bool (rank_of s == file_of s)) [
      | inl t ↦
          let on : (rank_of (reflect s) == file_of (reflect s)) ≡ true = eq-eqb _ _ (r ∙ sym (eqb-true (rank_of s) (file_of s) t) ∙ sym f) in
          let g : is_first_above ss ≡ true = rw t at e in
          rw on (above_flipped ss (λ x i. h x (inr i)) g)
      | inr n ↦
          let off : (rank_of (reflect s) == file_of (reflect s)) ≡ false = false_from_ne_true _ (λ q. clash (rank_of s == file_of s) (eq-eqb _ _ (sym f ∙ sym (eqb-true (rank_of (reflect s)) (file_of (reflect s)) q) ∙ r)) n) in
          let g : nat_lt (file_of s) (rank_of s) ≡ true = rw n at e in
          let k = ltb-true (file_of s) (rank_of s) g in
          rw off (le-ltb (file_of (reflect s)) (rank_of (reflect s)) (omega (arith, k, f, r)))
    ]

reflected_low : (ss : List ℕ) → AreInside ss → file_of (slice_index ss 0) < 4 → rank_of (slice_index ss 0) < 4 → IsLow (reflected ss)
unfolding AreInside
reflected_low ss h f r = elim (cases_Bool (is_first_above ss)) [
  | inl t ↦ rw t (record { file = (flipped_first ss h f r).0; rank = (flipped_first ss h f r).1; below = above_flipped ss h t })
  | inr n ↦ rw n (record { file = f; rank = r; below = n })
] where
  flipped_first : (ss : List ℕ) → ((s : ℕ) → IsIn s ss → s < 64) → file_of (slice_index ss 0) < 4 → rank_of (slice_index ss 0) < 4 →
      (file_of (slice_index (map reflect ss) 0) < 4) × (rank_of (slice_index (map reflect ss) 0) < 4)
  flipped_first [] h f r = (f, r)
  flipped_first (s ∷ ss) h f r = let a = reflect_file s (h s (inl refl)) in let b = reflect_rank s (h s (inl refl)) in (omega (arith, a, r), omega (arith, b, f))

cond_inside : (b : Bool) (move : ℕ → ℕ) (ss : List ℕ) → ((s : ℕ) → s < 64 → move s < 64) → AreInside ss → AreInside (cond b (map move ss) ss)
unfolding AreInside
cond_inside true move ss m h = λ s i. let r = IsIn-map move ss s i in subst (λ (n : ℕ). n < 64) (sym r.2) (m r.0 (h r.0 r.1))
cond_inside false move ss m h = h

pub flipped_low : (sides : Sides) (ss : List ℕ) → ((s : ℕ) → IsIn s ss → s < 64) → IsLow (reflected (ranked (filed ss)))
unfolding AreInside
flipped_low sides ss h =
    let h1 = cond_inside (nat_lt 3 (file_of (slice_index ss 0))) flip_file ss (flip_file-move sides).inside h in
    let h2 = cond_inside (nat_lt 3 (rank_of (slice_index (filed ss) 0))) flip_rank (filed ss) (flip_rank-move sides).inside h1 in
    let r = ranked_low (filed ss) h1 (filed_file ss h) in
    reflected_low (ranked (filed ss)) h2 r.0 r.1

-- ---- triples and king pairs

quarter_below : (s : ℕ) → s < 64 → file_of s < 4 → rank_of s < 4 → is_on_diagonal s ≡ false → nat_lt (file_of s) (rank_of s) ≡ false → IsIn s triangle_below
quarter_below s h f r n a = contains-IsIn s triangle_below
    (picked (nat_lt (file_of s) 4) (nat_lt (rank_of s) 4) (is_on_diagonal s) (nat_lt (file_of s) (rank_of s)) (contains triangle_below s)
    (tested (λ x. not (nat_lt (file_of x) 4 && nat_lt (rank_of x) 4 && not (is_on_diagonal x) && not (nat_lt (file_of x) (rank_of x))) || contains triangle_below x) 64 s refl h)
    (lt-ltb (file_of s) 4 f) (lt-ltb (rank_of s) 4 r) n a)
  where
    picked : (a b c d e : Bool) → (not (a && b && not c && not d) || e) ≡ true → a ≡ true → b ≡ true → c ≡ false → d ≡ false → e ≡ true
    picked a b c d e h p q r s = let k = rw (p, q, r, s) at h in k

quarter_diagonal : (s : ℕ) → s < 64 → file_of s < 4 → is_on_diagonal s ≡ true → IsIn s triangle_diagonal
quarter_diagonal s h f n = contains-IsIn s triangle_diagonal
    (picked (nat_lt (file_of s) 4) (is_on_diagonal s) (contains triangle_diagonal s)
    (tested (λ x. not (nat_lt (file_of x) 4 && is_on_diagonal x) || contains triangle_diagonal x) 64 s refl h) (lt-ltb (file_of s) 4 f) n)
  where
    picked : (a c e : Bool) → (not (a && c) || e) ≡ true → a ≡ true → c ≡ true → e ≡ true
    picked a c e h p r = let k = rw (p, r) at h in k

on_squares : (s : ℕ) → s < 64 → IsIn s squares
unfolding squares
on_squares s h = contains-IsIn s squares (tested (contains squares) 64 s refl h)

on_diagonal : (s : ℕ) → s < 64 → is_on_diagonal s ≡ true → IsIn s diagonal
unfolding diagonal
on_diagonal s h e = IsIn-filter_back is_on_diagonal squares s (on_squares s h) e

off_diagonal : (s : ℕ) → s < 64 → is_on_diagonal s ≡ false → nat_lt (file_of s) (rank_of s) ≡ false → IsIn s below_diagonal
unfolding below_diagonal
off_diagonal s h n a = IsIn-filter_back is_below_diagonal squares s (on_squares s h)
    (let k = ltb-false (file_of s) (rank_of s) a in lt-ltb (rank_of s) (file_of s) (between (rank_of s) (file_of s) k n))
  where
    between : (a b : ℕ) → a ≤ b → (a == b) ≡ false → a < b
    between a b h e = elim (cases_eq a b) [ inl f ↦ absurd (clash (a == b) (eq-eqb a b f) e) | inr f ↦ omega (arith, f) ]

free_one : (xs some : List ℕ) (x : ℕ) → IsIn x xs → (IsIn x some → ⊥) → IsIn x (without some xs)
free_one xs some x h out = IsIn-filter_back (λ y. not (contains some y)) xs x h (ap not (false_from_ne_true (contains some x) (λ e. out (contains-IsIn x some e))))

triple_back : (first second third : List ℕ) (s t u : ℕ) → IsIn s first → IsIn t second → IsIn u third → AllDiffer (s ∷ t ∷ u ∷ []) → IsIn (s ∷ t ∷ u ∷ []) (triples_from first second third)
unfolding triples_from
triple_back first second third s t u a b c d =
    IsIn-lists_by_back first (λ s. lists_by (without (s ∷ []) second) (λ t. lists_by (without (s ∷ t ∷ []) third) no_more)) s (t ∷ u ∷ []) a
    (IsIn-lists_by_back (without (s ∷ []) second) (λ t. lists_by (without (s ∷ t ∷ []) third) no_more) t (u ∷ [])
    (free_one second (s ∷ []) t b (λ h. elim h [ inl e ↦ d.0 (inl (sym e)) | inr k ↦ absurd k ]))
    (IsIn-lists_by_back (without (s ∷ t ∷ []) third) no_more u []
    (free_one third (s ∷ t ∷ []) u c (λ h. elim h [ inl e ↦ d.0 (inr (inl (sym e))) | inr k ↦ elim k [ inl e ↦ d.1.0 (inl (sym e)) | inr l ↦ absurd l ] ]))
    (inl refl)))

pub in_triples : (ss : List ℕ) → length ss ≡ 3 → AllDiffer ss → ((s : ℕ) → IsIn s ss → s < 64) → IsLow ss → IsIn ss triples
unfolding triples
in_triples [] e d h low = absurd (omega arith)
in_triples (s ∷ []) e d h low = absurd (omega arith)
in_triples (s ∷ t ∷ []) e d h low = absurd (omega arith)
in_triples (s ∷ t ∷ u ∷ v ∷ ss) e d h low = absurd (omega arith)
in_triples (s ∷ t ∷ u ∷ []) e d h low =
    let set = s ∷ t ∷ u ∷ [] in
    let a = triples_from triangle_below squares squares in
    let b = triples_from triangle_diagonal below_diagonal squares in
    let c = triples_from triangle_diagonal diagonal below_diagonal in
    let f = triples_from triangle_diagonal diagonal diagonal in
    let hs = h s (inl refl) in let ht = h t (inr (inl refl)) in let hu = h u (inr (inr (inl refl))) in
    elim (cases_Bool (is_on_diagonal s)) [
      | inr n ↦ let k : nat_lt (file_of s) (rank_of s) ≡ false = let z = low.below in rw n at z in
          IsIn-append_left set (a ++ b ++ c) f (IsIn-append_left set (a ++ b) c (IsIn-append_left set a b
          (triple_back triangle_below squares squares s t u (quarter_below s hs low.file low.rank n k) (on_squares t ht) (on_squares u hu) d)))
      | inl m ↦ let k1 : is_first_above (t ∷ u ∷ []) ≡ false = let z = low.below in rw m at z in
          let first = quarter_diagonal s hs low.file m in
          elim (cases_Bool (is_on_diagonal t)) [
            | inr n ↦ let k : nat_lt (file_of t) (rank_of t) ≡ false = rw n at k1 in
                IsIn-append_left set (a ++ b ++ c) f (IsIn-append_left set (a ++ b) c (IsIn-append_right set a b
                (triple_back triangle_diagonal below_diagonal squares s t u first (off_diagonal t ht n k) (on_squares u hu) d)))
            | inl o ↦ let k2 : is_first_above (u ∷ []) ≡ false = rw o at k1 in
                let second = on_diagonal t ht o in
                elim (cases_Bool (is_on_diagonal u)) [
                  | inr n ↦ let k : nat_lt (file_of u) (rank_of u) ≡ false = rw n at k2 in
                      IsIn-append_left set (a ++ b ++ c) f (IsIn-append_right set (a ++ b) c
                      (triple_back triangle_diagonal diagonal below_diagonal s t u first second (off_diagonal u hu n k) d))
                  | inl p ↦ IsIn-append_right set (a ++ b ++ c) f (triple_back triangle_diagonal diagonal diagonal s t u first second (on_diagonal u hu p) d)
                ]
          ]
    ]

pair_back : (passes : ℕ → ℕ → Bool) (s t : ℕ) → IsIn s (triangle_below ++ triangle_diagonal) → t < 64 → passes s t ≡ true → IsIn (s ∷ t ∷ []) (pairs_from passes)
pair_back passes s t i h e =
    IsIn-lists_by_back (triangle_below ++ triangle_diagonal) (λ a. lists_by (filter (passes a) squares) no_more) s (t ∷ []) i
    (IsIn-lists_by_back (filter (passes s) squares) no_more t [] (IsIn-filter_back (passes s) squares t (on_squares t h) e) (inl refl))

pub in_king_pairs : (ss : List ℕ) → length ss ≡ 2 → ((s : ℕ) → IsIn s ss → s < 64) → IsLow ss → is_touching (slice_index ss 0) (slice_index ss 1) ≡ false → IsIn ss king_pairs
unfolding king_pairs
in_king_pairs [] e h low apart = absurd (omega arith)
in_king_pairs (s ∷ []) e h low apart = absurd (omega arith)
in_king_pairs (s ∷ t ∷ u ∷ ss) e h low apart = absurd (omega arith)
in_king_pairs (s ∷ t ∷ []) e h low apart =
    let set = s ∷ t ∷ [] in
    let hs = h s (inl refl) in let ht = h t (inr (inl refl)) in
    let place : IsIn s (triangle_below ++ triangle_diagonal) = elim (cases_Bool (is_on_diagonal s)) [
      | inr n ↦ IsIn-append_left s triangle_below triangle_diagonal (quarter_below s hs low.file low.rank n (let z = low.below in rw n at z))
      | inl m ↦ IsIn-append_right s triangle_below triangle_diagonal (quarter_diagonal s hs low.file m)
    ] in
    let plain : is_mirrored s t ≡ false = false_from_ne_true (is_mirrored s t) (λ q. let r = and_parts (is_on_diagonal s) (nat_lt (file_of t) (rank_of t)) q in
    let z = low.below in let k : is_first_above (t ∷ []) ≡ false = let m = r.0 in rw m at z in
    let l = ltb-true (file_of t) (rank_of t) r.1 in
    let off : is_on_diagonal t ≡ false = false_from_ne_true (is_on_diagonal t) (λ o. let y = eqb-true (rank_of t) (file_of t) o in absurd (omega (arith, l, y))) in
    let j : nat_lt (file_of t) (rank_of t) ≡ false = rw off at k in clash (nat_lt (file_of t) (rank_of t)) r.1 j) in
    let p = pairs_from (λ a b. not (is_touching a b) && not (is_mirrored a b) && not (is_both_on_diagonal a b)) in
    let q = pairs_from (λ a b. not (is_touching a b) && not (is_mirrored a b) && is_both_on_diagonal a b) in
    elim (cases_Bool (is_both_on_diagonal s t)) [
      | inl o ↦ IsIn-append_right set p q (pair_back (λ a b. not (is_touching a b) && not (is_mirrored a b) && is_both_on_diagonal a b) s t place ht (rw (apart, plain, o) refl))
      | inr o ↦ IsIn-append_left set p q (pair_back (λ a b. not (is_touching a b) && not (is_mirrored a b) && not (is_both_on_diagonal a b)) s t place ht (rw (apart, plain, o) refl))
    ]
