-- What depends on which men there are, and not on their order.
use Rattle.std.proofs.Common.{◌≡◌, ℕ, ◌↔◌, List, [], ◌∷◌, ◌++◌, map, refl, sym, ap, ◌∙◌, subst, Bool, true, false, cond}
use Rattle.std.specs.Prelude.{nat_lt, slice_index, flat_map, min, ◌-◌}
use Rattle.std.proofs.Math.Bool.{not, ◌&&◌}
use Rattle.szg_values.specs.Men.{file_of, rank_of}
use Rattle.szg_values.specs.Material.{Sides, has_pawns, lead_pawn_code}
use Rattle.szg_count.specs.Leads.{squares_down, pawn_order}
use Rattle.szg_count.specs.Laws.{IsIn}
use Rattle.szg_count.proofs.Differ.{IsIn-map}
use Rattle.szg_place.specs.Normal.{CodedMan, flip_file, flip_rank, reflect, squares_with, part_of, lead_squares, moved, is_first_above, with_file, with_rank, with_reflection, normal_pieces, squares_by_group}
use Rattle.szg_place.proofs.Ranks.Lists.{same_tests, filter-same, IsIn-map_back}
use Rattle.szg_place.proofs.MenOnSlots.Pieces.{is_valid, is_valid-from, is_valid-true, moved_piece}

-- the lists have the same men
abbrev pub AreSame : List CodedMan → List CodedMan → Type 0
AreSame ps qs = (p : CodedMan) → IsIn p ps ↔ IsIn p qs

valid_same : (codes : List ℕ) (ps qs : List CodedMan) (s : ℕ) → AreSame ps qs → is_valid codes ps s ≡ is_valid codes qs s
valid_same codes ps qs s h = same_tests (is_valid codes ps s) (is_valid codes qs s)
    (λ e. let r = is_valid-from codes ps s e in subst (λ (n : ℕ). is_valid codes qs n ≡ true) r.2 (is_valid-true codes qs r.0 ((h r.0).0 r.1) r.3))
    (λ e. let r = is_valid-from codes qs s e in subst (λ (n : ℕ). is_valid codes ps n ≡ true) r.2 (is_valid-true codes ps r.0 ((h r.0).1 r.1) r.3))

squares_same : (codes : List ℕ) (ps qs : List CodedMan) (order : List ℕ) → AreSame ps qs → squares_with codes ps order ≡ squares_with codes qs order
squares_same codes ps qs order h = filter-same (is_valid codes ps) (is_valid codes qs) order (λ s i. valid_same codes ps qs s h)

slots_same : (lead : List ℕ) (ps qs : List CodedMan) → AreSame ps qs →
    flat_map (λ code. squares_with (code ∷ []) ps squares_down) lead ≡ flat_map (λ code. squares_with (code ∷ []) qs squares_down) lead
slots_same [] ps qs h = refl
slots_same (c ∷ lead) ps qs h =
    ap (λ l. l ++ flat_map (λ code. squares_with (code ∷ []) ps squares_down) lead) (squares_same (c ∷ []) ps qs squares_down h)
    ∙ ap (λ l. squares_with (c ∷ []) qs squares_down ++ l) (slots_same lead ps qs h)

lead_same : (sides : Sides) (lead : List ℕ) (ps qs : List CodedMan) → AreSame ps qs → lead_squares sides lead ps ≡ lead_squares sides lead qs
unfolding lead_squares
lead_same sides lead ps qs h = either (has_pawns sides) where
  either : (b : Bool) → cond b (squares_with lead ps pawn_order) (flat_map (λ code. squares_with (code ∷ []) ps squares_down) lead)
      ≡ cond b (squares_with lead qs pawn_order) (flat_map (λ code. squares_with (code ∷ []) qs squares_down) lead)
  either true = squares_same lead ps qs pawn_order h
  either false = slots_same lead ps qs h

pub groups_same : (sides : Sides) (groups : List (List ℕ)) (ps qs : List CodedMan) → AreSame ps qs → squares_by_group sides groups ps ≡ squares_by_group sides groups qs
unfolding squares_by_group
groups_same sides [] ps qs h = refl
groups_same sides (lead ∷ groups) ps qs h =
    ap (λ (l : List ℕ). l ∷ map (λ group. squares_with group ps squares_down) groups) (lead_same sides lead ps qs h)
    ∙ ap (λ (l : List (List ℕ)). lead_squares sides lead qs ∷ l) (later groups)
  where
    later : (gs : List (List ℕ)) → map (λ group. squares_with group ps squares_down) gs ≡ map (λ group. squares_with group qs squares_down) gs
    later [] = refl
    later (g ∷ gs) = ap (λ (l : List ℕ). l ∷ map (λ group. squares_with group ps squares_down) gs) (squares_same g ps qs squares_down h)
        ∙ ap (λ (l : List (List ℕ)). squares_with g qs squares_down ∷ l) (later gs)

pub part_same : (sides : Sides) (ps qs : List CodedMan) → AreSame ps qs → part_of sides ps ≡ part_of sides qs
part_same sides ps qs h =
    ap (λ (l : List ℕ). cond (has_pawns sides) (min (file_of (slice_index l 0)) (7 - file_of (slice_index l 0))) 0) (squares_same (lead_pawn_code sides ∷ []) ps qs pawn_order h)

-- ---- flips

moved_members : (move : ℕ → ℕ) (ps qs : List CodedMan) → AreSame ps qs → AreSame (moved move ps) (moved move qs)
moved_members move ps qs h p = (
  λ i. let r = IsIn-map (moved_piece move) ps p i in subst (λ (q : CodedMan). IsIn q (moved move qs)) (sym r.2) (IsIn-map_back (moved_piece move) qs r.0 ((h r.0).0 r.1)),
  λ i. let r = IsIn-map (moved_piece move) qs p i in subst (λ (q : CodedMan). IsIn q (moved move ps)) (sym r.2) (IsIn-map_back (moved_piece move) ps r.0 ((h r.0).1 r.1)),
)

either_members : (b c : Bool) (move : ℕ → ℕ) (ps qs : List CodedMan) → b ≡ c → AreSame ps qs → AreSame (cond b (moved move ps) ps) (cond c (moved move qs) qs)
either_members b c move ps qs e h = subst (λ (x : Bool). AreSame (cond b (moved move ps) ps) (cond x (moved move qs) qs)) e (by_test b) where
  by_test : (x : Bool) → AreSame (cond x (moved move ps) ps) (cond x (moved move qs) qs)
  by_test true = moved_members move ps qs h
  by_test false = h

file_members : (sides : Sides) (lead : List ℕ) (ps qs : List CodedMan) → AreSame ps qs → AreSame (with_file sides lead ps) (with_file sides lead qs)
unfolding with_file
file_members sides lead ps qs h =
    either_members (nat_lt 3 (file_of (slice_index (lead_squares sides lead ps) 0))) (nat_lt 3 (file_of (slice_index (lead_squares sides lead qs) 0))) flip_file ps qs
    (ap (λ (l : List ℕ). nat_lt 3 (file_of (slice_index l 0))) (lead_same sides lead ps qs h)) h

rank_members : (sides : Sides) (lead : List ℕ) (ps qs : List CodedMan) → AreSame ps qs → AreSame (with_rank sides lead ps) (with_rank sides lead qs)
unfolding with_rank
rank_members sides lead ps qs h =
    either_members (not (has_pawns sides) && nat_lt 3 (rank_of (slice_index (lead_squares sides lead ps) 0))) (not (has_pawns sides) && nat_lt 3 (rank_of (slice_index (lead_squares sides lead qs) 0))) flip_rank ps qs
    (ap (λ (l : List ℕ). not (has_pawns sides) && nat_lt 3 (rank_of (slice_index l 0))) (lead_same sides lead ps qs h)) h

reflection_members : (sides : Sides) (lead : List ℕ) (ps qs : List CodedMan) → AreSame ps qs → AreSame (with_reflection sides lead ps) (with_reflection sides lead qs)
unfolding with_reflection
reflection_members sides lead ps qs h =
    either_members (not (has_pawns sides) && is_first_above (lead_squares sides lead ps)) (not (has_pawns sides) && is_first_above (lead_squares sides lead qs)) reflect ps qs
    (ap (λ (l : List ℕ). not (has_pawns sides) && is_first_above l) (lead_same sides lead ps qs h)) h

pub normal_members : (sides : Sides) (lead : List ℕ) (ps qs : List CodedMan) → AreSame ps qs → AreSame (normal_pieces sides lead ps) (normal_pieces sides lead qs)
unfolding normal_pieces
normal_members sides lead ps qs h =
    reflection_members sides lead (with_rank sides lead (with_file sides lead ps)) (with_rank sides lead (with_file sides lead qs))
    (rank_members sides lead (with_file sides lead ps) (with_file sides lead qs) (file_members sides lead ps qs h))
