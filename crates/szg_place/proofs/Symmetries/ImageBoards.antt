-- An image has the fault of the placement, or its spot.
use Rattle.std.proofs.Common.{◌≡◌, ℕ, ◌<◌, inl, inr, List, [], ◌∷◌, length, map, take, refl, sym, ap, ◌∙◌, subst, Bool, true, false, cond, arith}
use Rattle.std.specs.Prelude.{◌==◌, slice_get, unwrap_or, Option, Some, None}
use Rattle.std.proofs.Math.Bool.{not, ◌&&◌, ◌||◌}
use Rattle.std.proofs.lemmas.Bool.{cases_Bool, eqb-true}
use Rattle.std.proofs.lemmas.List.Elements.{All-head, All-tail}
use Rattle.szg_values.specs.Men.{is_color}
use Rattle.szg_values.specs.Material.{Sides, is_same_men, is_symmetric, has_pawns, count_of, man_codes, lead_pawns, lead_pawn_code}
use Rattle.szg_values.specs.Placement.{PlacedMan, Board, AreOnBoard, placement_fault, side_of, material_of}
use Rattle.szg_values.specs.declared.Color.{Color}
use Rattle.szg_values.specs.declared.Color.TheVariants.{White, Black}
use Rattle.szg_values.specs.declared.Man.{Man}
use Rattle.szg_values.proofs.SameMen.{same_men-refl, same_sides-Decides}
use Rattle.szg_values.proofs.MaterialOf.{material_of_placement}
use Rattle.szg_count.specs.Laws.{IsIn}
use Rattle.szg_count.specs.Grouped.{is_regular}
use Rattle.szg_count.specs.Groups.{groups_of, lead_length}
use Rattle.szg_count.proofs.Differ.{IsIn-map}
use Rattle.szg_count.proofs.Pawns.{lead_length-fits}
use Rattle.szg_count.proofs.Rearranged.{rearranged_counts}
use Rattle.szg_place.specs.Layout.{Layout, IsLayout, is_dtz, nibbles_at}
use Rattle.szg_place.specs.Normal.{CodedMan, Normal, flip_file, flip_rank, moved, exchanged_color, colored_code, is_exchanged, moving_side, subtable_side, pieces_of, part_of, chosen_groups, normal_pieces, squares_by_group, normal_of}
use Rattle.szg_place.specs.Slots.{flipped_by, piece_from}
use Rattle.szg_place.specs.Spots.{counted_at, index_from, is_of_material, is_kings_touching, is_wrong_side, place_fault, spot_of}
use Rattle.szg_place.specs.Laws.{IsOnBoard}
use Rattle.szg_place.specs.Images.{man_image, IsBoardImage, keeps_spot, LawImageSpot}
use Rattle.szg_place.specs.declared.Spot.{Spot}
use Rattle.szg_place.specs.declared.PlaceFault.{PlaceFault}
use Rattle.szg_place.specs.declared.PlaceFault.TheVariants as fault
use Rattle.szg_place.proofs.Ranks.Lists.{IsIn-map_back}
use Rattle.szg_place.proofs.MenOnSlots.Pieces.{IsStood, moved_piece}
use Rattle.szg_place.proofs.MenOnSlots.Standing.{IsNamed, named_sides, exchanged_when, pieces_stood}
use Rattle.szg_place.proofs.Indexes.Spotted.{IsOrdered, ordered, order_none, part_below, side_below, none_is}
use Rattle.szg_place.proofs.Symmetries.Flips.{slot_squares, slotted_length, flip_rank-back, flip_file-move}
use Rattle.szg_place.proofs.Symmetries.Normals.{fit, lead_only, lead_pawns-count}
use Rattle.szg_place.proofs.Symmetries.Members.{AreSame, groups_same, part_same, normal_members}
use Rattle.szg_place.proofs.Symmetries.Mirrored.{moved_same, flips_commute, normal_mirrored, part_lone, normal_lone}
use Rattle.szg_place.proofs.Symmetries.ImageCounts.{side_same, material_same}

clash : (b : Bool) → b ≡ true → b ≡ false → ⊥
clash true e f = cc
clash false e f = cc

-- ---- the exchange of colours

-- the colours were exchanged, and are again if `exchanged`
abbrev twice : Bool → Bool → Bool
twice exchanged x = cond exchanged (not x) x

color_twice : (exchanged x : Bool) (color : Color) → exchanged_color (twice exchanged x) (exchanged_color exchanged color) ≡ exchanged_color x color
color_twice true true White = refl
color_twice true true Black = refl
color_twice true false White = refl
color_twice true false Black = refl
color_twice false x color = refl

black_twice : (exchanged : Bool) (color : Color) → is_color Black (exchanged_color exchanged color) ≡ twice exchanged (is_color Black color)
black_twice true White = refl
black_twice true Black = refl
black_twice false color = refl

other_bool : (x y : Bool) → (y ≡ x → ⊥) → y ≡ not x
other_bool true true n = absurd (n refl)
other_bool true false n = refl
other_bool false true n = refl
other_bool false false n = absurd (n refl)

other_side : (y : Bool) → exchanged_color true (exchanged_color y Black) ≡ exchanged_color y White
other_side true = refl
other_side false = refl

no_men : Sides
no_men = record { first = []; second = [] }

-- a square of an image: with pawns an exchange of colours flips the ranks
square_image : (pawns exchanged x files ranks : Bool) (n : ℕ) → n < 64 → (not pawns || cond exchanged ranks (not ranks)) ≡ true →
    cond (twice exchanged x && pawns) (flip_rank (flipped_by files ranks false n)) (flipped_by files ranks false n)
    ≡ cond pawns (flipped_by files false false) (flipped_by files ranks false) (cond (x && pawns) (flip_rank n) n)
square_image false false false files ranks n h k = refl
square_image false false true files ranks n h k = refl
square_image false true false files ranks n h k = refl
square_image false true true files ranks n h k = refl
square_image true true x files false n h k = cc
square_image true false x files true n h k = cc
square_image true false false files false n h k = refl
square_image true false true false false n h k = refl
square_image true false true true false n h k = sym (flips_commute n h)
square_image true true false false true n h k = flip_rank-back n h
square_image true true false true true n h k = flip_rank-back (flip_file n) ((flip_file-move no_men).inside n h)
square_image true true true false true n h k = refl
square_image true true true true true n h k = sym (flips_commute n h)

-- what follows if the image shares a spot
advances : (pawns lone m : Bool) → (not pawns || (lone && m)) ≡ true → (not pawns || m) ≡ true
advances false lone m k = refl
advances true true m k = k
advances true false m k = cc

lone_if : (pawns files lone m : Bool) → pawns ≡ true → files ≡ true → (not pawns || ((not files || lone) && m)) ≡ true → lone ≡ true
lone_if false files lone m a b k = cc
lone_if true false lone m a b k = cc
lone_if true true true m a b k = refl
lone_if true true false m a b k = cc

pub all_in : (xs : List PlacedMan) → AreOnBoard xs → (s : PlacedMan) → IsIn s xs → s.2 < 64
all_in [] h s i = absurd i
all_in (x ∷ xs) h s (inl e) = subst (λ (y : PlacedMan). y.2 < 64) (sym e) (All-head (λ (y : PlacedMan). y.2 < 64) x xs h)
all_in (x ∷ xs) h s (inr i) = all_in xs (All-tail (λ (y : PlacedMan). y.2 < 64) x xs h) s i

-- ---- the lead group

-- the men of a placement of the material, and the codes of its subtable
record HasCodes (l : Layout) (board : Board) (codes : List ℕ) : Type 0 where
  pub stood : IsStood l.material codes (pieces_of l.material board)
  pub ordered : IsOrdered l.material (nibbles_at l (part_of l.material (pieces_of l.material board)) (subtable_side l board))

abbrev codes_at : Layout → Board → List ℕ
codes_at l board = (nibbles_at l (part_of l.material (pieces_of l.material board)) (subtable_side l board)).men

has_codes : (l : Layout) (board : Board) → IsLayout l → IsOnBoard board → placement_fault board.placed_men ≡ None → is_of_material l.material board ≡ true → HasCodes l board (codes_at l board)
has_codes l board h inside fine material =
    let sides = l.material in
    let part = part_of sides (pieces_of sides board) in
    let side = subtable_side l board in
    let ok = ordered sides (nibbles_at l part side) (order_none l part side h (part_below sides (pieces_of sides board)) (side_below l board)) in
    record { stood = pieces_stood sides (codes_at l board) board h.material inside fine material ok.pieces; ordered = ok }

one_lead_pawn : (l : Layout) (board : Board) → HasCodes l board (codes_at l board) → lead_pawns l.material ≡ 1 → count_of (lead_pawn_code l.material) (codes_at l board) ≡ 1
one_lead_pawn l board has one = rearranged_counts (codes_at l board) (man_codes l.material) has.ordered.pieces (lead_pawn_code l.material) ∙ lead_pawns-count l.material ∙ one

-- without pawns
lead_again : (l : Layout) (board : Board) (files ranks : Bool) → IsLayout l → HasCodes l board (codes_at l board) → is_regular l.material (chosen_groups l board) ≡ true → has_pawns l.material ≡ false →
    (let lead = unwrap_or (slice_get (chosen_groups l board) 0) [] in
    normal_pieces l.material lead (moved (flipped_by files ranks false) (pieces_of l.material board)) ≡ normal_pieces l.material lead (pieces_of l.material board))
unfolding chosen_groups groups_of
lead_again l board files ranks h has regular none =
    let sides = l.material in
    let pieces = pieces_of sides board in
    let men = codes_at l board in
    let lead = take (lead_length sides) men in
    let fits = fit sides men h.material has.ordered.pieces has.ordered.pawns regular in
    let one = fits.single none in
    let set = slot_squares sides men pieces lead has.stood one in
    let some : 0 < length set.0 = let size = slotted_length pieces lead set.0 set.1 in let many = fits.lead_size in let more = (lead_length-fits sides h.material).0 in omega (arith, size, many, more) in
    normal_mirrored sides none men lead one pieces set.0 files ranks some (record { stood = has.stood; put_on_slots = set.1 })

-- with one lead pawn
lone_again : (l : Layout) (board : Board) → IsLayout l → HasCodes l board (codes_at l board) → is_regular l.material (chosen_groups l board) ≡ true → has_pawns l.material ≡ true → lead_pawns l.material ≡ 1 →
    (let lead = unwrap_or (slice_get (chosen_groups l board) 0) [] in
    normal_pieces l.material lead (moved flip_file (pieces_of l.material board)) ≡ normal_pieces l.material lead (pieces_of l.material board))
unfolding chosen_groups groups_of
lone_again l board h has regular pawns one =
    let sides = l.material in
    let men = codes_at l board in
    let fits = fit sides men h.material has.ordered.pieces has.ordered.pawns regular in
    normal_lone sides pawns men (one_lead_pawn l board has one) (take (lead_length sides) men) (pieces_of sides board) (lead_only sides men h.material pawns has.ordered.pawns fits) has.stood

-- ---- an image

-- what a refusal depends on
abbrev fault_by : Layout → Bool → Bool → Normal → ℕ → Option PlaceFault
fault_by l material regular normal queried =
    cond (not material) (Some fault.OtherMaterial)
    (cond (not regular) (Some fault.Irregular)
    (cond (is_kings_touching l.material normal.squares) (Some fault.KingsTouch)
    (cond (is_wrong_side l normal.part queried) (Some fault.WrongSide) None)))

fault_is : (l : Layout) (board : Board) → place_fault l board ≡ fault_by l (is_of_material l.material board) (is_regular l.material (chosen_groups l board)) (normal_of l board) (moving_side l.material board)
unfolding place_fault
fault_is l board = refl

abbrev spot_by : Layout → Normal → Spot
spot_by l normal = record { part = normal.part; side = normal.side; index = index_from l.material (counted_at l normal.part normal.side) normal }

spot_is : (l : Layout) (board : Board) → spot_of l board ≡ spot_by l (normal_of l board)
unfolding spot_of
spot_is l board = refl

module _ (l : Layout) (a b : Board) (exchanged files ranks : Bool) (layout : IsLayout l) (inside : IsOnBoard a) (fine : placement_fault a.placed_men ≡ None) (other_fine : placement_fault b.placed_men ≡ None)
    (image : IsBoardImage exchanged files ranks a b) (keeps : keeps_spot l.material exchanged files ranks ≡ true) where
  abbrev sides : Sides
  sides = l.material

  of_material : is_of_material sides b ≡ is_of_material sides a
  of_material = ap (λ (other : Sides). is_same_men other.first sides.first && is_same_men other.second sides.second) (material_same exchanged files ranks a b inside fine other_fine image)

  module _ (material : is_of_material sides a ≡ true) where
    is_material : material_of a.placed_men ≡ sides
    is_material = (same_sides-Decides (material_of a.placed_men) sides (material_of_placement a.placed_men fine) layout.material).0 material

    exchanged_image : is_exchanged sides b ≡ twice exchanged (is_exchanged sides a)
    exchanged_image = elim (cases_Bool (is_symmetric sides)) [
      | inl s ↦
          ap (λ (t : Bool). cond t (is_color Black b.mover) (not (is_same_men (side_of White b.placed_men) sides.first))) s
          ∙ ap (is_color Black) image.mover ∙ black_twice exchanged a.mover
          ∙ ap (twice exchanged) (sym (ap (λ (t : Bool). cond t (is_color Black a.mover) (not (is_same_men (side_of White a.placed_men) sides.first))) s))
      | inr n ↦ by_colors exchanged n (λ c. side_same exchanged files ranks a b inside fine other_fine image c)
    ] where
      first : IsNamed sides (is_exchanged sides a) a.placed_men
      first = named_sides sides a layout.material is_material

      second : IsNamed sides (is_exchanged sides b) b.placed_men
      second = named_sides sides b layout.material (material_same exchanged files ranks a b inside fine other_fine image ∙ is_material)

      by_colors : (e : Bool) → is_symmetric sides ≡ false → ((c : Color) → side_of (exchanged_color e c) b.placed_men ≡ side_of c a.placed_men) → is_exchanged sides b ≡ twice e (is_exchanged sides a)
      by_colors false n same = exchanged_when sides b n ∙ ap (λ (men : List Man). not (is_same_men men sides.first)) (same White) ∙ sym (exchanged_when sides a n)
      by_colors true n same = other_bool (is_exchanged sides a) (is_exchanged sides b) (λ e.
          let alike : sides.first ≡ sides.second =
          sym second.first ∙ ap (λ (c : Color). side_of c b.placed_men) (sym (other_side (is_exchanged sides b))) ∙ same (exchanged_color (is_exchanged sides b) Black)
          ∙ ap (λ (x : Bool). side_of (exchanged_color x Black) a.placed_men) e ∙ first.second in
          clash (is_symmetric sides) (subst (λ (men : List Man). is_same_men sides.first men ≡ true) alike (same_men-refl sides.first)) n)

    moving_image : moving_side sides b ≡ moving_side sides a
    moving_image =
        ap (λ (x : Bool). cond (is_color White (exchanged_color x b.mover)) 0 1) exchanged_image
        ∙ ap (λ (c : Color). cond (is_color White (exchanged_color (twice exchanged (is_exchanged sides a)) c)) 0 1) image.mover
        ∙ ap (λ (c : Color). cond (is_color White c) 0 1) (color_twice exchanged (is_exchanged sides a) a.mover)

    has : HasCodes l a (codes_at l a)
    has = has_codes l a layout inside fine material

    abbrev flip : ℕ → ℕ
    flip = cond (has_pawns sides) (flipped_by files false false) (flipped_by files ranks false)

    -- with pawns, if the files are flipped
    lone : has_pawns sides ≡ true → files ≡ true → lead_pawns sides ≡ 1
    lone e f = eqb-true (lead_pawns sides) 1 (lone_if (has_pawns sides) files (lead_pawns sides == 1) (cond exchanged ranks (not ranks)) e f keeps)

    abbrev coded : Board → PlacedMan → CodedMan
    coded board = piece_from (is_exchanged sides board) (is_exchanged sides board && has_pawns sides)

    coded_image : (s : PlacedMan) → s.2 < 64 → coded b (man_image exchanged files ranks s) ≡ moved_piece flip (coded a s)
    coded_image s h =
        ap (λ (x : Bool). piece_from x (x && has_pawns sides) (man_image exchanged files ranks s)) exchanged_image
        ∙ ap (λ (c : Color). let p : CodedMan = record { code = colored_code s.0 c; square = cond (twice exchanged (is_exchanged sides a) && has_pawns sides) (flip_rank (flipped_by files ranks false s.2)) (flipped_by files ranks false s.2) } in p)
        (color_twice exchanged (is_exchanged sides a) s.1)
        ∙ ap (λ (n : ℕ). let p : CodedMan = record { code = colored_code s.0 (exchanged_color (is_exchanged sides a) s.1); square = n } in p)
        (square_image (has_pawns sides) exchanged (is_exchanged sides a) files ranks s.2 h (advances (has_pawns sides) (not files || lead_pawns sides == 1) (cond exchanged ranks (not ranks)) keeps))

    pieces_image : AreSame (pieces_of sides b) (moved flip (pieces_of sides a))
    unfolding pieces_of
    pieces_image p = (
      λ i.
          let r = IsIn-map (coded b) b.placed_men p i in
          let q = IsIn-map (man_image exchanged files ranks) a.placed_men r.0 ((image.men r.0).0 r.1) in
          let same : p ≡ moved_piece flip (coded a q.0) = r.2 ∙ ap (coded b) q.2 ∙ coded_image q.0 (inside q.0 q.1) in
          subst (λ (x : CodedMan). IsIn x (moved flip (map (coded a) a.placed_men))) (sym same) (IsIn-map_back (moved_piece flip) (map (coded a) a.placed_men) (coded a q.0) (IsIn-map_back (coded a) a.placed_men q.0 q.1)),
      λ i.
          let r = IsIn-map (moved_piece flip) (map (coded a) a.placed_men) p i in
          let q = IsIn-map (coded a) a.placed_men r.0 r.1 in
          let there = (image.men (man_image exchanged files ranks q.0)).1 (IsIn-map_back (man_image exchanged files ranks) a.placed_men q.0 q.1) in
          let same : p ≡ coded b (man_image exchanged files ranks q.0) = r.2 ∙ ap (moved_piece flip) q.2 ∙ sym (coded_image q.0 (inside q.0 q.1)) in
          subst (λ (x : CodedMan). IsIn x (map (coded b) b.placed_men)) (sym same) (IsIn-map_back (coded b) b.placed_men (man_image exchanged files ranks q.0) there),
    )

    part_image : part_of sides (pieces_of sides b) ≡ part_of sides (pieces_of sides a)
    part_image = elim (cases_Bool (has_pawns sides)) [
      | inl t ↦
          part_same sides (pieces_of sides b) (moved flip (pieces_of sides a)) pieces_image
          ∙ ap (λ (x : Bool). part_of sides (moved (cond x (flipped_by files false false) (flipped_by files ranks false)) (pieces_of sides a))) t
          ∙ by_files t files refl
      | inr f ↦ without b f ∙ sym (without a f)
    ] where
      without : (board : Board) → has_pawns sides ≡ false → part_of sides (pieces_of sides board) ≡ 0
      without board f = rw f refl

      by_files : has_pawns sides ≡ true → (x : Bool) → files ≡ x → part_of sides (moved (flipped_by x false false) (pieces_of sides a)) ≡ part_of sides (pieces_of sides a)
      by_files t true e = part_lone sides t (codes_at l a) (one_lead_pawn l a has (lone t e)) (pieces_of sides a) has.stood
      by_files t false e = ap (part_of sides) (moved_same (pieces_of sides a))

    side_image : subtable_side l b ≡ subtable_side l a
    side_image = ap (λ (n : ℕ). cond (is_dtz l.kind) 0 n) moving_image

    groups_image : chosen_groups l b ≡ chosen_groups l a
    unfolding chosen_groups
    groups_image =
        ap (λ (n : ℕ). groups_of sides (nibbles_at l n (subtable_side l b)).men) part_image
        ∙ ap (λ (n : ℕ). groups_of sides (nibbles_at l (part_of sides (pieces_of sides a)) n).men) side_image

    abbrev lead : List ℕ
    lead = unwrap_or (slice_get (chosen_groups l a) 0) []

    normal_flip : is_regular sides (chosen_groups l a) ≡ true → normal_pieces sides lead (moved flip (pieces_of sides a)) ≡ normal_pieces sides lead (pieces_of sides a)
    normal_flip regular = elim (cases_Bool (has_pawns sides)) [
      | inl t ↦ ap by_pawns t ∙ by_files t files refl
      | inr f ↦ ap by_pawns f ∙ lead_again l a files ranks layout has regular f
    ] where
      by_pawns : Bool → List CodedMan
      by_pawns x = normal_pieces sides lead (moved (cond x (flipped_by files false false) (flipped_by files ranks false)) (pieces_of sides a))

      by_files : has_pawns sides ≡ true → (x : Bool) → files ≡ x → normal_pieces sides lead (moved (flipped_by x false false) (pieces_of sides a)) ≡ normal_pieces sides lead (pieces_of sides a)
      by_files t true e = lone_again l a layout has regular t (lone t e)
      by_files t false e = ap (normal_pieces sides lead) (moved_same (pieces_of sides a))

    normal_image : is_regular sides (chosen_groups l a) ≡ true → normal_of l b ≡ normal_of l a
    unfolding normal_of
    normal_image regular =
        let groups = chosen_groups l a in
        let squares : squares_by_group sides (chosen_groups l b) (normal_pieces sides (unwrap_or (slice_get (chosen_groups l b) 0) []) (pieces_of sides b)) ≡ squares_by_group sides groups (normal_pieces sides lead (pieces_of sides a)) =
        ap (λ (g : List (List ℕ)). squares_by_group sides g (normal_pieces sides (unwrap_or (slice_get g 0) []) (pieces_of sides b))) groups_image
        ∙ groups_same sides groups (normal_pieces sides lead (pieces_of sides b)) (normal_pieces sides lead (moved flip (pieces_of sides a))) (normal_members sides lead (pieces_of sides b) (moved flip (pieces_of sides a)) pieces_image)
        ∙ ap (squares_by_group sides groups) (normal_flip regular) in
        ap (λ (n : ℕ). let m : Normal = record { part = n; side = subtable_side l b; squares = (normal_of l b).squares } in m) part_image
        ∙ ap (λ (n : ℕ). let m : Normal = record { part = part_of sides (pieces_of sides a); side = n; squares = (normal_of l b).squares } in m) side_image
        ∙ ap (λ (s : List (List ℕ)). let m : Normal = record { part = part_of sides (pieces_of sides a); side = subtable_side l a; squares = s } in m) squares

    -- the fault or the spot, if the groups are regular or not
    by_groups : (regular : Bool) → is_regular sides (chosen_groups l a) ≡ regular → (place_fault l b ≡ place_fault l a) × (place_fault l a ≡ None → spot_of l b ≡ spot_of l a)
    by_groups true e =
        let same = normal_image e in (
          fault_is l b ∙ ap (λ (m : Bool). fault_by l m (is_regular sides (chosen_groups l b)) (normal_of l b) (moving_side sides b)) of_material
              ∙ ap (λ (g : List (List ℕ)). fault_by l (is_of_material sides a) (is_regular sides g) (normal_of l b) (moving_side sides b)) groups_image
              ∙ ap (λ (n : Normal). fault_by l (is_of_material sides a) (is_regular sides (chosen_groups l a)) n (moving_side sides b)) same
              ∙ ap (fault_by l (is_of_material sides a) (is_regular sides (chosen_groups l a)) (normal_of l a)) moving_image ∙ sym (fault_is l a),
          λ none. spot_is l b ∙ ap (spot_by l) same ∙ sym (spot_is l a),
        )
    by_groups false e =
        let refused : (board : Board) → is_of_material sides board ≡ true → is_regular sides (chosen_groups l board) ≡ false → place_fault l board ≡ Some fault.Irregular = λ board m r.
        fault_is l board ∙ ap (λ (x : Bool). fault_by l x (is_regular sides (chosen_groups l board)) (normal_of l board) (moving_side sides board)) m
        ∙ ap (λ (x : Bool). fault_by l true x (normal_of l board) (moving_side sides board)) r in
        let here = refused a material e in (
          refused b (of_material ∙ material) (ap (is_regular sides) groups_image ∙ e) ∙ sym here,
          λ none. absurd (let k : Some fault.Irregular ≡ None = sym here ∙ none in cc),
        )

  pub image_spot : (place_fault l b ≡ place_fault l a) × (place_fault l a ≡ None → spot_of l b ≡ spot_of l a)
  image_spot = elim (cases_Bool (is_of_material sides a)) [
    | inl t ↦ by_groups t (is_regular sides (chosen_groups l a)) refl
    | inr f ↦
        let refused : (board : Board) → is_of_material sides board ≡ false → place_fault l board ≡ Some fault.OtherMaterial = λ board m.
        fault_is l board ∙ ap (λ (x : Bool). fault_by l x (is_regular sides (chosen_groups l board)) (normal_of l board) (moving_side sides board)) m in
        let here = refused a f in (
          refused b (of_material ∙ f) ∙ sym here,
          λ none. absurd (let k : Some fault.OtherMaterial ≡ None = sym here ∙ none in cc),
        )
  ]

pub law_image_spot : LawImageSpot
law_image_spot l a b exchanged files ranks layout one other image keeps =
    image_spot l a b exchanged files ranks layout (all_in a.placed_men one.on_board) (none_is (placement_fault a.placed_men) one.no_fault) (none_is (placement_fault b.placed_men) other.no_fault) image keeps
