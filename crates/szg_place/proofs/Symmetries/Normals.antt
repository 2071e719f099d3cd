-- In a placement that has an index, each group of the normal form has a rank in its list.
use Rattle.std.proofs.Common.{◌≡◌, ℕ, ◌<◌, ◌↔◌, inl, inr, List, [], ◌∷◌, ◌++◌, length, map, take, refl, sym, ap, ◌∙◌, subst, Bool, true, false, cond, arith, length-append, length-take, take-append-drop}
use Rattle.std.specs.Prelude.{filter, ◌==◌, slice_get, slice_index, unwrap_or}
use Rattle.std.specs.List.{concat, list_all}
use Rattle.std.proofs.Math.Bool.{not, ◌&&◌, ◌||◌}
use Rattle.std.proofs.lemmas.Bool.{cases_Bool, eqb-true, eq-eqb, and_parts, false_from_ne_true}
use Rattle.std.proofs.lemmas.List.{append-nil}
use Rattle.szg_values.specs.Material.{Sides, IsMaterial, has_pawns, has_single_lead, count_of, lead_pawns, lead_pawn_code, first_leads, man_codes, pawn_count}
use Rattle.szg_values.specs.declared.Man.TheVariants.{Pawn}
use Rattle.szg_count.specs.Sets.{sets_of}
use Rattle.szg_count.specs.Leads.{contains, without, pawn_squares, squares_down, squares, pawn_order, is_touching, lead_pawn_sets, triples, king_pairs}
use Rattle.szg_count.specs.Groups.{groups_of, lead_sets, lead_length, has_other_pawns, is_rearrangement, has_pawns_first}
use Rattle.szg_count.specs.Laws.{IsIn, AllDiffer}
use Rattle.szg_count.proofs.Differ.{IsIn-append, IsIn-append_left, IsIn-append_right, IsIn-filter, sets_contain_filtered, contains_it}
use Rattle.szg_count.proofs.Free.{contains-IsIn}
use Rattle.szg_count.proofs.Pawns.{lead_length-fits, some_lead}
use Rattle.szg_count.specs.Grouped.{is_regular}
use Rattle.szg_place.specs.Layout.{nibbles_at}
use Rattle.szg_place.specs.Normal.{CodedMan, squares_with, lead_squares, normal_pieces, squares_by_group, normal_of, chosen_groups, pieces_of, part_of, subtable_side}
use Rattle.szg_place.specs.Spots.{ordered_sets, is_kings_touching}
use Rattle.szg_place.specs.Ranks.{EachInList}
use Rattle.szg_place.specs.Laws.{LawBelowSize, LawOneSpot, LawPlacementOfSpot}
use Rattle.szg_place.proofs.Ranks.Ranking.{AllDiffer-squares_down}
use Rattle.szg_place.proofs.Ranks.Lists.{all-IsIn, same_tests, filter-inside}
use Rattle.szg_place.proofs.Ranks.Ways.{IsIn-squares_down, concat-more}
use Rattle.szg_place.proofs.Indexes.Spotted.{InLists, ordered, order_none, allowed, part_below, side_below, below_size_from, one_spot_from, placement_of_spot_from}
use Rattle.szg_place.proofs.MenOnSlots.Pieces.{IsStood, is_valid, is_valid-from, squares_count, count-same, is_pawn_code, same_piece}
use Rattle.szg_place.proofs.Symmetries.Flips.{IsSet, slot_squares, slotted_code, slotted_differ, slotted_inside, slotted_length, normal_set, slots_of, flipped_low, in_triples, in_king_pairs, reflected, ranked, filed}
use Rattle.szg_place.proofs.Symmetries.PawnLead.{pawn_lead, normal_stood, lead_count, lead_pawns_with}
use Rattle.szg_count.proofs.Rearranged.{rearranged_counts}
use Rattle.szg_place.proofs.MenOnSlots.Codes.{Parted, parted, later_groups, later_runs, concat-groups, concat-later, other_first, pawns_lead, lead_length-pawns, single_differ, rearranged_length}
use Rattle.szg_place.proofs.MenOnSlots.Standing.{pieces_stood, codes_first, codes_second}

-- ---- later groups

pub pawn_part : pawn_squares ≡ filter (contains pawn_squares) squares_down
unfolding pawn_squares squares_down squares
pawn_part = refl

-- each square of the groups before has a man of their codes
abbrev pub Taken : List CodedMan → List ℕ → List ℕ → Type 0
Taken pieces codes taken = (x : ℕ) → IsIn x taken → (p : CodedMan) × IsIn p pieces × (p.square ≡ x) × IsIn p.code codes

pub own_set : (b : Bool) (group : List ℕ) (pieces : List CodedMan) → ((x : ℕ) → b ≡ true → is_valid group pieces x ≡ true → IsIn x pawn_squares) →
    filter (is_valid group pieces) (cond b pawn_squares squares_down) ≡ squares_with group pieces squares_down
own_set true group pieces h = ap (filter (is_valid group pieces)) pawn_part
    ∙ filter-inside (is_valid group pieces) (contains pawn_squares) squares_down (λ x i t. contains_it x pawn_squares (h x refl t))
own_set false group pieces h = refl

zero_length : (n : ℕ) → (n == 0) ≡ true → n ≡ 0
zero_length n e = eqb-true n 0 e

pub later_in_lists : (sides : Sides) (part : ℕ) (men : List ℕ) (pieces : List CodedMan) (lead : List ℕ) (rest : List (List ℕ)) (before : List ℕ) (groups : List (List ℕ)) →
    IsStood sides men pieces → Parted men before groups → Taken pieces before (concat (lead ∷ rest)) →
    (has_other_pawns sides ≡ true → length rest ≡ 0 → (g : List ℕ) (gs : List (List ℕ)) → groups ≡ g ∷ gs → (x : ℕ) → IsIn x g → is_pawn_code x ≡ true) →
    EachInList sides part (lead ∷ rest) groups (map (λ group. squares_with group pieces squares_down) groups)
unfolding ordered_sets
later_in_lists sides part men pieces lead rest before [] stood parts taken first = tt
later_in_lists sides part men pieces lead rest before (group ∷ groups) stood parts taken first =
    let own = parts.0 in
    let code = own.code in
    let set = squares_with group pieces squares_down in
    let b = has_other_pawns sides && length rest == 0 in
    let left = without (concat (lead ∷ rest)) (cond b pawn_squares squares_down) in
    let test = is_valid group pieces in
    let base : filter test (cond b pawn_squares squares_down) ≡ set = own_set b group pieces
    (λ x e t. let o = and_parts (has_other_pawns sides) (length rest == 0) e in let s = is_valid-from group pieces x t in
    subst (λ (n : ℕ). IsIn n pawn_squares) s.2
    (stood.pawns (and_parts (has_pawns sides) _ o.0).0 s.0 s.1 (first o.0 (zero_length (length rest) o.1) group groups refl s.0.code s.3))) in
    let free : filter test left ≡ filter test (cond b pawn_squares squares_down) =
    filter-inside test (λ x. not (contains (concat (lead ∷ rest)) x)) (cond b pawn_squares squares_down)
    (λ x i t. ap not (false_from_ne_true (contains (concat (lead ∷ rest)) x) (λ c.
    let s = is_valid-from group pieces x t in let q = taken x (contains-IsIn x (concat (lead ∷ rest)) c) in
    let same = same_piece pieces q.0 s.0 stood.differ q.1 s.1 (q.2 ∙ sym s.2) in
    own.new (subst (λ (n : ℕ). IsIn n before) (ap (λ (p : CodedMan). p.code) same ∙ own.only s.0.code s.3) q.3)))) in
    let there : IsIn set (sets_of (length set) left) = subst (λ (l : List ℕ). IsIn l (sets_of (length l) left)) (free ∙ base) (sets_contain_filtered test left) in
    let size : length set ≡ length group =
    squares_count group pieces squares_down AllDiffer-squares_down stood.differ (λ p i c. IsIn-squares_down p.square (stood.inside p i))
    ∙ count-same (λ (p : CodedMan). contains group p.code) (λ p. p.code == code) pieces
    (λ p i. same_tests (contains group p.code) (p.code == code)
    (λ c. eq-eqb p.code code (own.only p.code (contains-IsIn p.code group c)))
    (λ c. contains_it p.code group (subst (λ (n : ℕ). IsIn n group) (sym (eqb-true p.code code c)) own.has)))
    ∙ stood.counts code ∙ own.count in (
      there,
      size,
      later_in_lists sides part men pieces lead (rest ++ set ∷ []) (before ++ group) groups stood parts.1
          (λ x i. elim (IsIn-append x (concat (lead ∷ rest)) set (subst (λ (l : List ℕ). IsIn x l) (concat-more (lead ∷ rest) set) i)) [
            | inl j ↦ let t = taken x j in (t.0, t.1, t.2, IsIn-append_left t.0.code before group t.3)
            | inr j ↦ let s = is_valid-from group pieces x (IsIn-filter test squares_down x j).1 in (s.0, s.1, s.2, IsIn-append_right s.0.code before group s.3)
          ])
          (λ o n g gs e x i. absurd (let k = length-append rest (set ∷ []) in omega (arith, k, n))),
    )

-- ---- what follows for regular groups

other_half : (a b : Bool) → a ≡ false → (a || b) ≡ true → b ≡ true
other_half true b e f = cc
other_half false b e f = f

pub record IsFit (sides : Sides) (men : List ℕ) : Type 0 where
  pub single : has_pawns sides ≡ false → (c : ℕ) → IsIn c (take (lead_length sides) men) → count_of c men ≡ 1
  pub parts : Parted men (take (lead_length sides) men) (later_groups sides men)
  pub lead_size : length (take (lead_length sides) men) ≡ lead_length sides

pub fit : (sides : Sides) (men : List ℕ) → IsMaterial sides → is_rearrangement men (man_codes sides) ≡ true → has_pawns_first sides men ≡ true → is_regular sides (groups_of sides men) ≡ true → IsFit sides men
unfolding groups_of
fit sides men m r f e =
    let lead = take (lead_length sides) men in
    let later = later_groups sides men in
    let all : concat (lead ∷ later) ≡ men = concat-groups sides men in
    let p = and_parts (has_pawns sides || list_all (λ code. count_of code (concat (lead ∷ later)) == 1) lead)
    (list_all (λ group. list_all (λ code. count_of code (concat (lead ∷ later)) == length group) group) later) e in
    let rest : list_all (λ group. list_all (λ code. count_of code men == length group) group) later ≡ true =
    subst (λ (l : List ℕ). list_all (λ group. list_all (λ code. count_of code l == length group) group) later ≡ true) all p.1 in
    let fits = (lead_length-fits sides m).1 in let len = rearranged_length men (man_codes sides) r in
    record {
      single = λ none c i.
          let a : list_all (λ code. count_of code (concat (lead ∷ later)) == 1) lead ≡ true = other_half (has_pawns sides) (list_all (λ code. count_of code (concat (lead ∷ later)) == 1) lead) none p.0 in
          let b : list_all (λ code. count_of code men == 1) lead ≡ true = subst (λ (l : List ℕ). list_all (λ code. count_of code l == 1) lead ≡ true) all a in
          eqb-true (count_of c men) 1 (all-IsIn (λ code. count_of code men == 1) lead c b i);
      parts = parted men lead later (sym all) (later_runs sides men m r f) rest;
      lead_size = let k = length-take (lead_length sides) men in omega (arith, k, fits, len);
    }

-- ---- the lead group

not_both : (a b : Bool) → a ≡ true → (a && b) ≡ false → b ≡ false
not_both true b e f = f
not_both false b e f = cc

in_leads_none : (single : Bool) (ss : List ℕ) → (single ≡ true → IsIn ss triples) → (single ≡ false → IsIn ss king_pairs) → IsIn ss (cond single triples king_pairs)
in_leads_none true ss a b = a refl
in_leads_none false ss a b = b refl

-- without pawns
pub record IsLed (sides : Sides) (part : ℕ) (men : List ℕ) (pieces : List CodedMan) (lead ss : List ℕ) : Type 0 where
  pub stood : IsStood sides men pieces
  pub held : IsIn ss (lead_sets sides part)
  pub size : length ss ≡ length lead
  pub taken : Taken pieces lead ss

pub led_none : (sides : Sides) (part : ℕ) (men lead : List ℕ) (pieces : List CodedMan) → has_pawns sides ≡ false → lead ≡ take (lead_length sides) men → IsFit sides men → IsStood sides men pieces →
    (lead_length sides ≡ 2 → (let ss = lead_squares sides lead (normal_pieces sides lead pieces) in is_touching (slice_index ss 0) (slice_index ss 1) ≡ false)) →
    IsLed sides part men (normal_pieces sides lead pieces) lead (lead_squares sides lead (normal_pieces sides lead pieces))
unfolding lead_sets
led_none sides part men lead pieces none is ok stood apart =
    let one : (c : ℕ) → IsIn c lead → count_of c men ≡ 1 = λ c i. ok.single none c (subst (λ (l : List ℕ). IsIn c l) is i) in
    let whole : lead ++ concat (later_groups sides men) ≡ men = ap (λ l. l ++ concat (later_groups sides men)) is ∙ joined sides men in
    let differ : AllDiffer lead = single_differ lead (concat (later_groups sides men)) (λ c i. ap (count_of c) whole ∙ one c i) in
    let start = slot_squares sides men pieces lead stood one in
    let ss = reflected (ranked (filed start.0)) in
    let np = normal_pieces sides lead pieces in
    let set : IsSet sides men lead np ss = normal_set sides men lead pieces start.0 none one (record { stood = stood; put_on_slots = start.1 }) in
    let stated : lead_squares sides lead np ≡ ss = slots_of sides men lead np ss none one set in
    let inside = slotted_inside sides men np lead ss set.stood set.put_on_slots in
    let low = flipped_low sides start.0 (slotted_inside sides men pieces lead start.0 stood start.1) in
    let size : length ss ≡ lead_length sides = slotted_length np lead ss set.put_on_slots ∙ ap length is ∙ ok.lead_size in
    let three : has_single_lead sides ≡ true → IsIn ss triples = λ s.
    in_triples ss (size ∙ length_three sides none s) (slotted_differ sides men np lead ss set.stood differ set.put_on_slots) inside low in
    let two : has_single_lead sides ≡ false → IsIn ss king_pairs = λ s.
    in_king_pairs ss (size ∙ length_two sides none s) inside low (subst (λ (l : List ℕ). is_touching (slice_index l 0) (slice_index l 1) ≡ false) stated (apart (length_two sides none s))) in
    subst (λ (l : List ℕ). IsLed sides part men np lead l) (sym stated) (record {
      stood = set.stood;
      held = subst (λ (b : Bool). IsIn ss (cond b (lead_pawn_sets (lead_pawns sides) part) (cond (has_single_lead sides) triples king_pairs))) (sym none)
          (in_leads_none (has_single_lead sides) ss three two);
      size = slotted_length np lead ss set.put_on_slots;
      taken = λ x i. let c = slotted_code np lead ss x set.put_on_slots i in ((let p : CodedMan = record { code = c.0; square = x } in p), c.2, refl, c.1);
    })
  where
    length_three : (sides : Sides) → has_pawns sides ≡ false → has_single_lead sides ≡ true → lead_length sides ≡ 3
    length_three sides a b = rw (a, b) refl

    length_two : (sides : Sides) → has_pawns sides ≡ false → has_single_lead sides ≡ false → lead_length sides ≡ 2
    length_two sides a b = rw (a, b) refl

    joined : (sides : Sides) (men : List ℕ) → take (lead_length sides) men ++ concat (later_groups sides men) ≡ men
    joined sides men = ap (λ l. take (lead_length sides) men ++ l) (concat-later sides men) ∙ take-append-drop (lead_length sides) men

-- with pawns
pub lead_pawns-count : (sides : Sides) → count_of (lead_pawn_code sides) (man_codes sides) ≡ lead_pawns sides
lead_pawns-count sides = either (first_leads sides) where
  either : (b : Bool) → count_of (cond b 1 9) (man_codes sides) ≡ cond b (pawn_count sides.first) (pawn_count sides.second)
  either true = codes_first sides Pawn
  either false = codes_second sides Pawn

some_item : (xs : List ℕ) → 0 < length xs → (x : ℕ) × IsIn x xs
some_item [] h = absurd (omega arith)
some_item (x ∷ xs) h = (x, inl refl)

pub lead_only : (sides : Sides) (men : List ℕ) → IsMaterial sides → has_pawns sides ≡ true → has_pawns_first sides men ≡ true → IsFit sides men →
    (x : ℕ) → IsIn x (take (lead_length sides) men) ↔ (x ≡ lead_pawn_code sides)
lead_only sides men m e f ok x =
    let lead = take (lead_length sides) men in
    let l = (pawns_lead sides men e f).0 in
    let l' : list_all (λ code. code == lead_pawn_code sides) lead ≡ true = subst (λ (n : ℕ). list_all (λ code. code == lead_pawn_code sides) (take n men) ≡ true) (sym (lead_length-pawns sides e)) l in
    let only : (y : ℕ) → IsIn y lead → y ≡ lead_pawn_code sides = λ y i. eqb-true y (lead_pawn_code sides) (all-IsIn (λ code. code == lead_pawn_code sides) lead y l' i) in
    let pos = (lead_length-fits sides m).0 in let size = ok.lead_size in
    let s = some_item lead (omega (arith, pos, size)) in (
      only x,
      λ q. subst (λ (n : ℕ). IsIn n lead) (only s.0 s.1 ∙ sym q) s.1,
    )

pub led_pawns : (sides : Sides) (men lead : List ℕ) (pieces : List CodedMan) → IsMaterial sides → has_pawns sides ≡ true → lead ≡ take (lead_length sides) men →
    is_rearrangement men (man_codes sides) ≡ true → has_pawns_first sides men ≡ true → IsFit sides men → IsStood sides men pieces →
    IsLed sides (part_of sides pieces) men (normal_pieces sides lead pieces) lead (lead_squares sides lead (normal_pieces sides lead pieces))
unfolding lead_sets
led_pawns sides men lead pieces m e is r f ok stood =
    let only : (x : ℕ) → IsIn x lead ↔ (x ≡ lead_pawn_code sides) = λ x. subst (λ (l : List ℕ). IsIn x l ↔ (x ≡ lead_pawn_code sides)) (sym is) (lead_only sides men m e f ok x) in
    let count : count_of (lead_pawn_code sides) men ≡ lead_pawns sides = rearranged_counts men (man_codes sides) r (lead_pawn_code sides) ∙ lead_pawns-count sides in
    let np = normal_pieces sides lead pieces in
    let kept = normal_stood sides men lead pieces e stood in
    let stated : lead_squares sides lead np ≡ squares_with lead np pawn_order = lead_pawns_with sides lead np e in
    record {
      stood = kept;
      held = subst (λ (b : Bool). IsIn (lead_squares sides lead np) (cond b (lead_pawn_sets (lead_pawns sides) (part_of sides pieces)) (cond (has_single_lead sides) triples king_pairs))) (sym e)
          (pawn_lead sides men lead pieces e stood only count (some_lead sides m e).0);
      size = ap length stated ∙ lead_count sides men lead np e kept only ∙ count ∙ sym (lead_length-pawns sides e) ∙ sym (ap length is ∙ ok.lead_size);
      taken = λ x i. is_valid-from lead np x (IsIn-filter (is_valid lead np) pawn_order x (subst (λ (l : List ℕ). IsIn x l) stated i)).1;
    }

-- ---- all groups

pub all_in_lists : (sides : Sides) (part : ℕ) (men lead : List ℕ) (pieces : List CodedMan) → IsMaterial sides → lead ≡ take (lead_length sides) men →
    is_rearrangement men (man_codes sides) ≡ true → has_pawns_first sides men ≡ true → IsFit sides men → IsLed sides part men pieces lead (lead_squares sides lead pieces) →
    EachInList sides part [] (lead ∷ later_groups sides men) (squares_by_group sides (lead ∷ later_groups sides men) pieces)
unfolding squares_by_group ordered_sets
all_in_lists sides part men lead pieces m is r f ok led = (
  led.held,
  led.size,
  later_in_lists sides part men pieces (lead_squares sides lead pieces) [] lead (later_groups sides men) led.stood
      (subst (λ (l : List ℕ). Parted men l (later_groups sides men)) (sym is) ok.parts)
      (λ x i. led.taken x (subst (λ (l : List ℕ). IsIn x l) (append-nil (lead_squares sides lead pieces)) i))
      (λ o n g gs e x i. other_first sides men m r f o g gs e x i),
)

touching_not : (sides : Sides) (ss : List (List ℕ)) → has_pawns sides ≡ false → lead_length sides ≡ 2 → is_kings_touching sides ss ≡ false →
    (let lead = unwrap_or (slice_get ss 0) [] in is_touching (slice_index lead 0) (slice_index lead 1) ≡ false)
touching_not sides ss a b e =
    let t = let lead = unwrap_or (slice_get ss 0) [] in is_touching (slice_index lead 0) (slice_index lead 1) in
    let c : (not (has_pawns sides) && lead_length sides == 2) ≡ true = ap (λ p. not p && lead_length sides == 2) a ∙ eq-eqb (lead_length sides) 2 b in
    not_both (not (has_pawns sides) && lead_length sides == 2) t c e

pub in_lists : InLists
unfolding normal_of chosen_groups squares_by_group groups_of
in_lists l board h a =
    let sides = l.material in
    let m = h.material in
    let pieces = pieces_of sides board in
    let part = part_of sides pieces in
    let side = subtable_side l board in
    let n = nibbles_at l part side in
    let ok = ordered sides n (order_none l part side h (part_below sides pieces) (side_below l board)) in
    let fine = allowed l board a.place in
    let stood = pieces_stood sides n.men board m a.inside a.placement fine.material ok.pieces in
    let lead = take (lead_length sides) n.men in
    let fits = fit sides n.men m ok.pieces ok.pawns fine.regular in
    all_in_lists sides part n.men lead (normal_pieces sides lead pieces) m refl ok.pieces ok.pawns fits
    (elim (cases_Bool (has_pawns sides)) [
      | inl e ↦ led_pawns sides n.men lead pieces m e refl ok.pieces ok.pawns fits stood
      | inr e ↦ led_none sides part n.men lead pieces e refl fits stood (λ two. touching_not sides (normal_of l board).squares e two fine.apart)
    ])

-- ---- three of the laws

pub below_size : LawBelowSize
below_size = below_size_from in_lists

pub one_spot : LawOneSpot
one_spot = one_spot_from in_lists

pub placement_of_spot : LawPlacementOfSpot
placement_of_spot = placement_of_spot_from in_lists
