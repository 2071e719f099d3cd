-- Men whose files or ranks are flipped have the normal form of the men, if there are no pawns. With one lead pawn, so have
-- men whose files are flipped.
use Rattle.std.proofs.Common.{◌≡◌, ℕ, ◌-◌, ◌<◌, ◌↔◌, inl, inr, List, [], ◌∷◌, length, map, refl, sym, ap, ◌∙◌, subst, Bool, true, false, cond, arith}
use Rattle.std.specs.Prelude.{◌==◌, nat_lt, min, slice_index}
use Rattle.std.proofs.Math.Bool.{not, ◌&&◌}
use Rattle.std.proofs.lemmas.Bool.{cases_Bool, eqb-true, ltb-true, ltb-false, lt-ltb, le-ltb}
use Rattle.std.proofs.lemmas.List.{length-map}
use Rattle.szg_values.specs.Men.{file_of, rank_of}
use Rattle.szg_values.specs.Material.{Sides, has_pawns, count_of, lead_pawn_code}
use Rattle.szg_count.specs.Leads.{pawn_order}
use Rattle.szg_count.specs.Laws.{IsIn}
use Rattle.szg_place.specs.Normal.{CodedMan, flip_file, flip_rank, squares_with, part_of, lead_squares, moved, with_file, with_rank, with_reflection, normal_pieces}
use Rattle.szg_place.specs.Slots.{flipped_by}
use Rattle.szg_place.proofs.Ranks.Lists.{tested, IsIn-map_back, IsIn-filter_back}
use Rattle.szg_place.proofs.MenOnSlots.Pieces.{IsMove, IsStood, IsStood-moved, is_valid, is_valid-true, is_pawn_code, moved_piece, one_item, some_piece}
use Rattle.szg_place.proofs.Symmetries.Flips.{IsSet, slots_of, slotted_inside, turned, filed, flip_file-back, flip_rank-back, flip_file-move, flip_rank-move}
use Rattle.szg_place.proofs.Symmetries.PawnLead.{lead_pawns_with, lead_count, squares_order, lead_code-pawn}
use Rattle.szg_place.proofs.Symmetries.Turns.{pieces_either, pieces_flipped}

-- ---- squares

file_other : (s : ℕ) → s < 64 → nat_lt 3 (file_of (flip_file s)) ≡ not (nat_lt 3 (file_of s))
file_other s h =
    let e = eqb-true (file_of (flip_file s)) (7 - file_of s) (tested (λ x. file_of (flip_file x) == (7 - file_of x)) 64 s refl h) in
    elim (cases_Bool (nat_lt 3 (file_of s))) [
      | inl t ↦ let k = ltb-true 3 (file_of s) t in le-ltb 3 (file_of (flip_file s)) (omega (arith, e, k)) ∙ sym (ap not t)
      | inr f ↦ let k = ltb-false 3 (file_of s) f in lt-ltb 3 (file_of (flip_file s)) (omega (arith, e, k)) ∙ sym (ap not f)
    ]

rank_other : (s : ℕ) → s < 64 → nat_lt 3 (rank_of (flip_rank s)) ≡ not (nat_lt 3 (rank_of s))
rank_other s h =
    let e = eqb-true (rank_of (flip_rank s)) (7 - rank_of s) (tested (λ x. rank_of (flip_rank x) == (7 - rank_of x)) 64 s refl h) in
    let few : rank_of s < 8 = ltb-true (rank_of s) 8 (tested (λ x. nat_lt (rank_of x) 8) 64 s refl h) in
    elim (cases_Bool (nat_lt 3 (rank_of s))) [
      | inl t ↦ let k = ltb-true 3 (rank_of s) t in le-ltb 3 (rank_of (flip_rank s)) (omega (arith, e, k, few)) ∙ sym (ap not t)
      | inr f ↦ let k = ltb-false 3 (rank_of s) f in lt-ltb 3 (rank_of (flip_rank s)) (omega (arith, e, k, few)) ∙ sym (ap not f)
    ]

file_kept : (s : ℕ) → s < 64 → file_of (flip_rank s) ≡ file_of s
file_kept s h = eqb-true (file_of (flip_rank s)) (file_of s) (tested (λ x. file_of (flip_rank x) == file_of x) 64 s refl h)

pub flips_commute : (s : ℕ) → s < 64 → flip_file (flip_rank s) ≡ flip_rank (flip_file s)
flips_commute s h = eqb-true (flip_file (flip_rank s)) (flip_rank (flip_file s)) (tested (λ x. flip_file (flip_rank x) == flip_rank (flip_file x)) 64 s refl h)

-- ---- men

AreInside : List CodedMan → Type 0
AreInside ps = (p : CodedMan) → IsIn p ps → p.square < 64

moved_by : (f g : ℕ → ℕ) (ps : List CodedMan) → AreInside ps → ((s : ℕ) → s < 64 → f s ≡ g s) → moved f ps ≡ moved g ps
unfolding AreInside
moved_by f g [] h e = refl
moved_by f g (p ∷ ps) h e =
    ap (λ (n : ℕ). (let q : CodedMan = record { code = p.code; square = n } in q) ∷ moved f ps) (e p.square (h p (inl refl)))
    ∙ ap (λ (l : List CodedMan). (let q : CodedMan = record { code = p.code; square = g p.square } in q) ∷ l) (moved_by f g ps (λ q i. h q (inr i)) e)

moved_twice : (f g : ℕ → ℕ) (ps : List CodedMan) → moved g (moved f ps) ≡ moved (λ s. g (f s)) ps
moved_twice f g [] = refl
moved_twice f g (p ∷ ps) = ap (λ (l : List CodedMan). (let q : CodedMan = record { code = p.code; square = g (f p.square) } in q) ∷ l) (moved_twice f g ps)

pub moved_same : (ps : List CodedMan) → moved (λ s. s) ps ≡ ps
moved_same [] = refl
moved_same (p ∷ ps) = ap (λ (l : List CodedMan). p ∷ l) (moved_same ps)

moved_back : (move : ℕ → ℕ) (ps : List CodedMan) → AreInside ps → ((s : ℕ) → s < 64 → move (move s) ≡ s) → moved move (moved move ps) ≡ ps
moved_back move ps h back = moved_twice move move ps ∙ moved_by (λ s. move (move s)) (λ s. s) ps h back ∙ moved_same ps

-- ---- the files

file_by : (sides : Sides) (lead : List ℕ) (ps : List CodedMan) (s : ℕ) (ss ts : List ℕ) → AreInside ps → s < 64 → lead_squares sides lead ps ≡ s ∷ ss →
    lead_squares sides lead (moved flip_file ps) ≡ flip_file s ∷ ts → with_file sides lead (moved flip_file ps) ≡ with_file sides lead ps
unfolding with_file AreInside
file_by sides lead ps s ss ts inside h here there =
    ap (λ (l : List ℕ). cond (nat_lt 3 (file_of (slice_index l 0))) (moved flip_file (moved flip_file ps)) (moved flip_file ps)) there
    ∙ ap (λ (x : Bool). cond x (moved flip_file (moved flip_file ps)) (moved flip_file ps)) (file_other s h)
    ∙ swapped (nat_lt 3 (file_of s))
    ∙ sym (ap (λ (l : List ℕ). cond (nat_lt 3 (file_of (slice_index l 0))) (moved flip_file ps) ps) here)
  where
    swapped : (x : Bool) → cond (not x) (moved flip_file (moved flip_file ps)) (moved flip_file ps) ≡ cond x (moved flip_file ps) ps
    swapped true = refl
    swapped false = moved_back flip_file ps inside flip_file-back

-- ---- the normal form

-- each lead man is the only one of its code
abbrev pub AreSingle : List ℕ → List ℕ → Type 0
AreSingle men lead = (c : ℕ) → IsIn c lead → count_of c men ≡ 1

module _ (sides : Sides) (none : has_pawns sides ≡ false) (men lead : List ℕ) (one : AreSingle men lead) where
  lead_of : (ps : List CodedMan) (ss : List ℕ) → IsSet sides men lead ps ss → lead_squares sides lead ps ≡ ss
  lead_of ps ss h = slots_of sides men lead ps ss none one h

  moved_set : (ps : List CodedMan) (ss : List ℕ) (move : ℕ → ℕ) → IsMove sides move → IsSet sides men lead ps ss → IsSet sides men lead (moved move ps) (map move ss)
  moved_set ps ss move m h = turned sides men lead ps ss true move m h

  first_inside : (ps : List CodedMan) (s : ℕ) (ss : List ℕ) → IsSet sides men lead ps (s ∷ ss) → s < 64
  first_inside ps s ss h = slotted_inside sides men ps lead (s ∷ ss) h.stood h.put_on_slots s (inl refl)

  file_set : (ps : List CodedMan) (ss : List ℕ) → IsSet sides men lead ps ss → IsSet sides men lead (with_file sides lead ps) (filed ss)
  unfolding with_file
  file_set ps ss h =
      subst (λ (l : List ℕ). IsSet sides men lead (with_file sides lead ps) (cond (nat_lt 3 (file_of (slice_index l 0))) (map flip_file ss) ss)) (lead_of ps ss h)
      (turned sides men lead ps ss (nat_lt 3 (file_of (slice_index (lead_squares sides lead ps) 0))) flip_file (flip_file-move sides) h)

  file_again : (ps : List CodedMan) (ss : List ℕ) → 0 < length ss → IsSet sides men lead ps ss → with_file sides lead (moved flip_file ps) ≡ with_file sides lead ps
  unfolding AreInside
  file_again ps [] some h = absurd (omega arith)
  file_again ps (s ∷ ss) some h = file_by sides lead ps s ss (map flip_file ss) h.stood.inside (first_inside ps s ss h) (lead_of ps (s ∷ ss) h)
      (lead_of (moved flip_file ps) (map flip_file (s ∷ ss)) (moved_set ps (s ∷ ss) flip_file (flip_file-move sides) h))

  rank_again : (ps : List CodedMan) (ss : List ℕ) → 0 < length ss → IsSet sides men lead ps ss → with_rank sides lead (moved flip_rank ps) ≡ with_rank sides lead ps
  unfolding with_rank AreInside
  rank_again ps [] some h = absurd (omega arith)
  rank_again ps (s ∷ ss) some h =
      ap (λ (l : List ℕ). cond (not (has_pawns sides) && nat_lt 3 (rank_of (slice_index l 0))) (moved flip_rank (moved flip_rank ps)) (moved flip_rank ps))
      (lead_of (moved flip_rank ps) (map flip_rank (s ∷ ss)) (moved_set ps (s ∷ ss) flip_rank (flip_rank-move sides) h))
      ∙ ap (λ (x : Bool). cond (not (has_pawns sides) && x) (moved flip_rank (moved flip_rank ps)) (moved flip_rank ps)) (rank_other s (first_inside ps s ss h))
      ∙ ap (λ (x : Bool). cond (not x && not (nat_lt 3 (rank_of s))) (moved flip_rank (moved flip_rank ps)) (moved flip_rank ps)) none
      ∙ swapped (nat_lt 3 (rank_of s))
      ∙ sym (ap (λ (x : Bool). cond (not x && nat_lt 3 (rank_of s)) (moved flip_rank ps) ps) none)
      ∙ sym (ap (λ (l : List ℕ). cond (not (has_pawns sides) && nat_lt 3 (rank_of (slice_index l 0))) (moved flip_rank ps) ps) (lead_of ps (s ∷ ss) h))
    where
      swapped : (x : Bool) → cond (not x) (moved flip_rank (moved flip_rank ps)) (moved flip_rank ps) ≡ cond x (moved flip_rank ps) ps
      swapped true = refl
      swapped false = moved_back flip_rank ps h.stood.inside flip_rank-back

  file_of_ranked : (ps : List CodedMan) (ss : List ℕ) → 0 < length ss → IsSet sides men lead ps ss → with_file sides lead (moved flip_rank ps) ≡ moved flip_rank (with_file sides lead ps)
  unfolding with_file AreInside
  file_of_ranked ps [] some h = absurd (omega arith)
  file_of_ranked ps (s ∷ ss) some h =
      ap (λ (l : List ℕ). cond (nat_lt 3 (file_of (slice_index l 0))) (moved flip_file (moved flip_rank ps)) (moved flip_rank ps))
      (lead_of (moved flip_rank ps) (map flip_rank (s ∷ ss)) (moved_set ps (s ∷ ss) flip_rank (flip_rank-move sides) h))
      ∙ ap (λ (n : ℕ). cond (nat_lt 3 n) (moved flip_file (moved flip_rank ps)) (moved flip_rank ps)) (file_kept s (first_inside ps s ss h))
      ∙ either (nat_lt 3 (file_of s))
      ∙ sym (ap (λ (l : List ℕ). moved flip_rank (cond (nat_lt 3 (file_of (slice_index l 0))) (moved flip_file ps) ps)) (lead_of ps (s ∷ ss) h))
    where
      either : (x : Bool) → cond x (moved flip_file (moved flip_rank ps)) (moved flip_rank ps) ≡ moved flip_rank (cond x (moved flip_file ps) ps)
      either true = moved_twice flip_rank flip_file ps ∙ moved_by (λ s. flip_file (flip_rank s)) (λ s. flip_rank (flip_file s)) ps h.stood.inside flips_commute ∙ sym (moved_twice flip_file flip_rank ps)
      either false = refl

  normal_file : (ps : List CodedMan) (ss : List ℕ) → 0 < length ss → IsSet sides men lead ps ss → normal_pieces sides lead (moved flip_file ps) ≡ normal_pieces sides lead ps
  unfolding normal_pieces
  normal_file ps ss some h = ap (λ (q : List CodedMan). with_reflection sides lead (with_rank sides lead q)) (file_again ps ss some h)

  normal_rank : (ps : List CodedMan) (ss : List ℕ) → 0 < length ss → IsSet sides men lead ps ss → normal_pieces sides lead (moved flip_rank ps) ≡ normal_pieces sides lead ps
  unfolding normal_pieces
  normal_rank ps ss some h =
      ap (λ (q : List CodedMan). with_reflection sides lead (with_rank sides lead q)) (file_of_ranked ps ss some h)
      ∙ ap (with_reflection sides lead) (rank_again (with_file sides lead ps) (filed ss) (filed_some (nat_lt 3 (file_of (slice_index ss 0)))) (file_set ps ss h))
    where
      filed_some : (x : Bool) → 0 < length (cond x (map flip_file ss) ss)
      filed_some true = let k = length-map ss flip_file in omega (arith, k, some)
      filed_some false = some

  pub normal_mirrored : (ps : List CodedMan) (ss : List ℕ) (files ranks : Bool) → 0 < length ss → IsSet sides men lead ps ss →
      normal_pieces sides lead (moved (flipped_by files ranks false) ps) ≡ normal_pieces sides lead ps
  normal_mirrored ps ss files ranks some h =
      ap (normal_pieces sides lead) (pieces_flipped files ranks false ps) ∙ by_flips files ranks
    where
      by_rank : (ranks : Bool) (qs : List CodedMan) (ts : List ℕ) → 0 < length ts → IsSet sides men lead qs ts → normal_pieces sides lead (pieces_either ranks flip_rank qs) ≡ normal_pieces sides lead qs
      by_rank true qs ts more k = normal_rank qs ts more k
      by_rank false qs ts more k = refl

      by_flips : (files ranks : Bool) → normal_pieces sides lead (pieces_either ranks flip_rank (pieces_either files flip_file ps)) ≡ normal_pieces sides lead ps
      by_flips true ranks =
          by_rank ranks (moved flip_file ps) (map flip_file ss) (let k = length-map ss flip_file in omega (arith, k, some)) (moved_set ps ss flip_file (flip_file-move sides) h)
          ∙ normal_file ps ss some h
      by_flips false ranks = by_rank ranks ps ss some h

-- ---- one lead pawn

-- the group has the lead pawns' code alone
abbrev pub HasLeadPawns : Sides → List ℕ → Type 0
HasLeadPawns sides lead = (code : ℕ) → IsIn code lead ↔ (code ≡ lead_pawn_code sides)

module _ (sides : Sides) (pawns : has_pawns sides ≡ true) (men : List ℕ) (one : count_of (lead_pawn_code sides) men ≡ 1) where
  only_pawn : (lead : List ℕ) (ps : List CodedMan) (p : CodedMan) → HasLeadPawns sides lead → IsStood sides men ps → IsIn p ps → p.code ≡ lead_pawn_code sides → squares_with lead ps pawn_order ≡ p.square ∷ []
  only_pawn lead ps p only stood i code =
      one_item (squares_with lead ps pawn_order) p.square (lead_count sides men lead ps pawns stood only ∙ one)
      (IsIn-filter_back (is_valid lead ps) pawn_order p.square (squares_order p.square (stood.pawns pawns p i (ap is_pawn_code code ∙ lead_code-pawn sides)))
      (is_valid-true lead ps p i ((only p.code).1 code)))

  flipped_stood : (ps : List CodedMan) → IsStood sides men ps → IsStood sides men (moved flip_file ps)
  flipped_stood ps stood = IsStood-moved sides men ps flip_file (flip_file-move sides) stood

  -- the lead pawn's square, before the flip and after it
  lone_squares : (lead : List ℕ) (ps : List CodedMan) → HasLeadPawns sides lead → IsStood sides men ps →
      (s : ℕ) × (s < 64) × (squares_with lead ps pawn_order ≡ s ∷ []) × (squares_with lead (moved flip_file ps) pawn_order ≡ flip_file s ∷ [])
  lone_squares lead ps only stood =
      let p = some_piece sides men ps (lead_pawn_code sides) stood one in (
        p.0.square,
        stood.inside p.0 p.1,
        only_pawn lead ps p.0 only stood p.1 p.2,
        only_pawn lead (moved flip_file ps) (moved_piece flip_file p.0) only (flipped_stood ps stood) (IsIn-map_back (moved_piece flip_file) ps p.0 p.1) p.2,
      )

  pub part_lone : (ps : List CodedMan) → IsStood sides men ps → part_of sides (moved flip_file ps) ≡ part_of sides ps
  part_lone ps stood =
      let code = lead_pawn_code sides in
      let r = lone_squares (code ∷ []) ps (λ x. (λ i. elim i [ inl e ↦ e | inr none ↦ absurd none ], λ e. inl e)) stood in
      ap (λ (l : List ℕ). cond (has_pawns sides) (min (file_of (slice_index l 0)) (7 - file_of (slice_index l 0))) 0) r.3
      ∙ ap (λ (n : ℕ). cond (has_pawns sides) n 0) (eqb-true _ _ (tested (λ x. min (file_of (flip_file x)) (7 - file_of (flip_file x)) == min (file_of x) (7 - file_of x)) 64 r.0 refl r.1))
      ∙ sym (ap (λ (l : List ℕ). cond (has_pawns sides) (min (file_of (slice_index l 0)) (7 - file_of (slice_index l 0))) 0) r.2)

  pub normal_lone : (lead : List ℕ) (ps : List CodedMan) → HasLeadPawns sides lead → IsStood sides men ps → normal_pieces sides lead (moved flip_file ps) ≡ normal_pieces sides lead ps
  unfolding normal_pieces AreInside
  normal_lone lead ps only stood =
      let r = lone_squares lead ps only stood in
      ap (λ (q : List CodedMan). with_reflection sides lead (with_rank sides lead q))
      (file_by sides lead ps r.0 [] [] stood.inside r.1 (lead_pawns_with sides lead ps pawns ∙ r.2) (lead_pawns_with sides lead (moved flip_file ps) pawns ∙ r.3))
