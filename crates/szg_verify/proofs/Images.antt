-- The test of an image is the test of the position.
use Rattle.std.proofs.Common.{◌≡◌, ℕ, ◌≤◌, List, [], ◌∷◌, length, map, suc, refl, sym, ap, ◌∙◌, subst, Bool, true, false, arith, inl, inr, Option, Some, None}
use Rattle.std.specs.Prelude.{filter, not, ◌&&◌, ◌||◌, ◌==◌, option_map, unwrap_or, count_by, if◌then◌else◌}
use Rattle.std.specs.Option.{option_and_then}
use Rattle.std.specs.List.{list_any, list_all}
use Rattle.std.proofs.lemmas.Bool.{cases_Bool, and_from, and_parts, both_ways, or_parts, eq-eqb, not-true}
use Rattle.std.proofs.lemmas.List.Sums.{length-filter}
use Rattle.szg_values.specs.Men.{is_man, is_color, name_order, rank_of}
use Rattle.szg_values.specs.Placement.{PlacedMan, number_of}
use Rattle.szg_values.specs.declared.Man.{Man}
use Rattle.szg_values.specs.declared.Man.TheVariants.{Pawn}
use Rattle.szg_values.specs.declared.Color.{Color}
use Rattle.szg_values.specs.declared.Color.TheVariants.{White, Black}
use Rattle.szg_game.specs.Game.{Move as Step}
use Rattle.szg_game.specs.Certified.{accepts, is_won}
use Rattle.szg_game.specs.declared.Class.{Class}
use Rattle.szg_game.specs.declared.Class.TheVariants.{Draw}
use Rattle.szg_game.specs.declared.Entry.{Entry}
use Rattle.szg_game.proofs.AcceptedMoves.{accepted_in_any_order}
use Rattle.szg_game.proofs.Lists.{IsIn, contains_in}
use Rattle.szg_chess.specs.declared.Move.{Move}
use Rattle.szg_chess.specs.Position.{Position, IsPosition}
use Rattle.szg_chess.specs.Laws.{kinds_of}
use Rattle.szg_chess.specs.Moves.{after, is_pawn_on, is_capture, is_zeroing, is_check, legal_moves}
use Rattle.szg_chess.specs.Images.{Symmetry, color_image, move_image, IsImage}
use Rattle.szg_chess.proofs.Members.{any_of}
use Rattle.szg_chess.proofs.MoveFacts.{legal_move}
use Rattle.szg_chess.proofs.AfterMove.{after_is_position}
use Rattle.szg_chess.proofs.KeptMen.{kinds_law}
use Rattle.szg_chess.proofs.Images.Geometry.{same_test}
use Rattle.szg_chess.proofs.Images.Moves.{same_check}
use Rattle.szg_probe.specs.Chess.{ply_limit}
use Rattle.szg_probe.specs.Probing.{all_known, probed}
use Rattle.szg_probe.specs.Images.{shares_value}
use Rattle.szg_probe.proofs.Images.{AreSame, IsOfElements, shared_after, same_known, same_given, any_moves, all_moves, same_no_move, move_there, probed_image}
use Rattle.szg_probe.proofs.Choosing.{filter_true}
use Rattle.szg_verify.specs.Entries.{StoredTables, class_at, keeps, wins_at_once, is_one_ply, near_as, near_entry, near_after, quiet_moves, steps_to, farthest, greatest, least, entry_before, far_as, near_or_far, plain_entry}
use Rattle.szg_verify.specs.Verified.{class_alone, entry_after, agrees, is_checked, IsClosed, IsChecked, has_equal_sides, keeps_number, AreSymmetric, IsImageBy, HasCheckedImage}

-- ---- what depends on the elements of a list alone

abbrev Steps : Type 0
Steps = List (Step Entry)

not_greater : (bound : Entry → ℕ) (xs ys : Steps) → ((x : Step Entry) → IsIn xs x → IsIn ys x) → greatest bound xs ≤ greatest bound ys
not_greater bound [] ys held = omega arith
not_greater bound (x ∷ xs) ys held =
    let here = bounded ys x (held x (inl refl)) in
    let more = not_greater bound xs ys (λ y i. held y (inr i)) in
    omega (arith, here, more)
  where
    bounded : (ys : Steps) (x : Step Entry) → IsIn ys x → bound x.0 ≤ greatest bound ys
    bounded [] x i = absurd i
    bounded (y ∷ ys) x (inl e) = let same = ap (λ (z : Step Entry). bound z.0) e in omega (arith, same)
    bounded (y ∷ ys) x (inr i) = let more = bounded ys x i in omega (arith, more)

greatest_of : (bound : Entry → ℕ) → IsOfElements (greatest bound)
greatest_of bound xs ys same =
    let up = not_greater bound xs ys (λ x. (same x).0) in let down = not_greater bound ys xs (λ x. (same x).1) in omega (arith, up, down)

least_within : (bound : Entry → ℕ) (k : Class) (ys : Steps) → least bound k ys ≤ farthest
least_within bound k [] = omega arith
least_within bound k (y ∷ ys) = let more = least_within bound k ys in elim (cases_Bool (keeps k y.0.class)) [ inl t ↦ rw t (omega (arith, more)) | inr e ↦ rw e more ]

not_less : (bound : Entry → ℕ) (k : Class) (xs ys : Steps) → ((x : Step Entry) → IsIn xs x → IsIn ys x) → least bound k ys ≤ least bound k xs
not_less bound k [] ys held = least_within bound k ys
not_less bound k (x ∷ xs) ys held =
    let more = not_less bound k xs ys (λ y i. held y (inr i)) in
    elim (cases_Bool (keeps k x.0.class)) [
      | inl t ↦ let here = bounded ys x (held x (inl refl)) t in rw t (omega (arith, here, more))
      | inr e ↦ rw e more
    ]
  where
    bounded : (ys : Steps) (x : Step Entry) → IsIn ys x → keeps k x.0.class ≡ true → least bound k ys ≤ bound x.0
    bounded [] x i t = absurd i
    bounded (y ∷ ys) x (inl e) t = let kept : keeps k y.0.class ≡ true = ap (λ (z : Step Entry). keeps k z.0.class) e ∙ t in let same = ap (λ (z : Step Entry). bound z.0) e in rw kept (omega (arith, same))
    bounded (y ∷ ys) x (inr i) t = let more = bounded ys x i t in elim (cases_Bool (keeps k y.0.class)) [ inl u ↦ rw u (omega (arith, more)) | inr e ↦ rw e more ]

least_of : (bound : Entry → ℕ) (k : Class) → IsOfElements (least bound k)
least_of bound k xs ys same =
    let up = not_less bound k xs ys (λ x. (same x).0) in let down = not_less bound k ys xs (λ x. (same x).1) in omega (arith, up, down)

entry_before_of : (k : Class) → IsOfElements (entry_before k)
unfolding entry_before
entry_before_of k xs ys same = rw (least_of (λ e. e.lower) k xs ys same, least_of (λ e. e.upper) k xs ys same, greatest_of (λ e. e.lower) xs ys same, greatest_of (λ e. e.upper) xs ys same) refl

accepts_of : (limit : ℕ) (e : Entry) (in_check : Bool) → IsOfElements (accepts limit e in_check)
accepts_of limit e in_check xs ys same = same_test (accepts limit e in_check xs) (accepts limit e in_check ys)
    (accepted_in_any_order limit e in_check xs ys same)
    (accepted_in_any_order limit e in_check ys xs (λ x. ((same x).1, (same x).0)))

-- ---- steps as a list of what is known

abbrev step_by : (Move → Option Entry) → Position → Move → Option (Step Entry)
step_by entry p m = option_map (λ e. (e, is_zeroing p m)) (entry m)

steps_known : (entry : Move → Option Entry) (p : Position) (ms : List Move) → steps_to entry p ms ≡ all_known (map (step_by entry p) ms)
unfolding steps_to
steps_known entry p [] = refl
steps_known entry p (m ∷ ms) =
    ap (λ (rest : Option Steps). option_and_then (λ e. option_map (λ next. (e, is_zeroing p m) ∷ next) rest) (entry m)) (steps_known entry p ms)
    ∙ begun (entry m) (is_zeroing p m) (map (step_by entry p) ms)
  where
    begun : (o : Option Entry) (z : Bool) (xs : List (Option (Step Entry))) → option_and_then (λ e. option_map (λ next. (e, z) ∷ next) (all_known xs)) o ≡ all_known (option_map (λ e. (e, z)) o ∷ xs)
    begun None z xs = refl
    begun (Some e) z xs = refl

-- ---- the men of both sides

pub number_by_kinds : (man : Man) (color : Color) (men : List PlacedMan) → number_of man color men ≡ count_by (λ k. is_man man k.0 && is_color color k.1) (kinds_of men)
number_by_kinds man color men =
    let test : PlacedMan → Bool = λ s. is_man man s.0 && is_color color s.1 in
    let of_kind : Man × Color → Bool = λ k. is_man man k.0 && is_color color k.1 in
    sym (length-filter test men) ∙ as_many men ∙ length-filter of_kind (kinds_of men)
  where
    as_many : (men : List PlacedMan) → length (filter (λ (s : PlacedMan). is_man man s.0 && is_color color s.1) men) ≡ length (filter (λ (k : Man × Color). is_man man k.0 && is_color color k.1) (kinds_of men))
    as_many [] = refl
    as_many (s ∷ men) = elim (cases_Bool (is_man man s.0 && is_color color s.1)) [
      | inl t ↦ rw t (ap (λ (n : ℕ). suc n) (as_many men))
      | inr e ↦ rw e (as_many men)
    ]

same_sides : (men others : List PlacedMan) → kinds_of others ≡ kinds_of men → has_equal_sides others ≡ has_equal_sides men
same_sides men others same = each name_order
  where
    number : (man : Man) (color : Color) → number_of man color others ≡ number_of man color men
    number man color = number_by_kinds man color others ∙ ap (count_by (λ (k : Man × Color). is_man man k.0 && is_color color k.1)) same ∙ sym (number_by_kinds man color men)

    each : (names : List Man) → list_all (λ man. number_of man White others == number_of man Black others) names ≡ list_all (λ man. number_of man White men == number_of man Black men) names
    each [] = refl
    each (man ∷ names) = rw (number man White, number man Black, each names) refl

-- a move that is not zeroing keeps the men
quiet_kinds : (p : Position) (m : Move) → IsPosition p → IsIn (legal_moves p) m → is_zeroing p m ≡ false → kinds_of (after p m).placed_men ≡ kinds_of p.placed_men
quiet_kinds p m position i quiet =
    let held = contains_in (legal_moves p) m i in
    let parts = or_parts (is_pawn_on p m.from) (is_capture p m) quiet in
    let move = (legal_move p m held).0 in let s = move.man in
    let none : m.promotion ≡ None = elim move.rank [
      | inl promoted ↦
          let pawn = (and_parts (is_man Pawn s.0) (rank_of m.to == 0 || rank_of m.to == 7) promoted.reaches).0 in
          absurd (both_ways (is_pawn_on p m.from) parts.0 (any_of (λ (u : PlacedMan). is_man Pawn u.0 && is_color p.mover u.1 && u.2 == m.from) p.placed_men s move.stands
          (and_from (is_man Pawn s.0 && is_color p.mover s.1) (s.2 == m.from) (and_from (is_man Pawn s.0) (is_color p.mover s.1) pawn move.own) (eq-eqb s.2 m.from (sym move.from_is)))))
      | inr remains ↦ remains.is
    ] in
    kinds_law p m position held parts.1 none

-- ---- entries

module _ (tables : StoredTables) (symmetric : AreSymmetric tables) where
  -- q is an image of p, and the tables store the same numbers for it
  pub record IsStoredImage (f : Symmetry) (p q : Position) : Type 0 where
    pub position : IsPosition p
    pub is : IsImage f p q
    pub keeps : keeps_number f p.placed_men ≡ true

  probed_same : (f : Symmetry) (p q : Position) → IsPosition p → IsImage f p q → shares_value f p.placed_men ≡ true → probed tables.classes q ≡ probed tables.classes p
  probed_same = probed_image tables.classes symmetric.classes

  module _ (f : Symmetry) (p q : Position) (stored : IsStoredImage f p q) where
    kept : (shares_value f p.placed_men ≡ true) × ((is_color White (color_image f White) || not (has_equal_sides p.placed_men)) ≡ true)
    kept = and_parts (shares_value f p.placed_men) (is_color White (color_image f White) || not (has_equal_sides p.placed_men)) stored.keeps

    shared : (m : Move) → IsIn (legal_moves p) m → shares_value f (after p m).placed_men ≡ true
    shared m i = shared_after f p stored.position kept.0 m i

    probed_image_same : probed tables.classes q ≡ probed tables.classes p
    probed_image_same = probed_same f p q stored.position stored.is kept.0

    after_image : (m : Move) → IsIn (legal_moves p) m → is_zeroing p m ≡ false → IsStoredImage f (after p m) (after q (move_image f m))
    after_image m i quiet = record {
      position = after_is_position p m stored.position (contains_in (legal_moves p) m i);
      is = (move_there f p q stored.position stored.is m i).leads;
      keeps = and_from (shares_value f (after p m).placed_men) (is_color White (color_image f White) || not (has_equal_sides (after p m).placed_men)) (shared m i)
          (ap (λ (b : Bool). is_color White (color_image f White) || not b) (same_sides p.placed_men (after p m).placed_men (quiet_kinds p m stored.position i quiet)) ∙ kept.1);
    }

    same_zeroing : (m : Move) → IsIn (legal_moves p) m → is_zeroing q (move_image f m) ≡ is_zeroing p m
    same_zeroing m i = (move_there f p q stored.position stored.is m i).zeroing

    probed_after : (m : Move) → IsIn (legal_moves p) m → probed tables.classes (after q (move_image f m)) ≡ probed tables.classes (after p m)
    probed_after m i = probed_same f (after p m) (after q (move_image f m)) (after_is_position p m stored.position (contains_in (legal_moves p) m i)) (move_there f p q stored.position stored.is m i).leads (shared m i)

    same_one_ply : (k : Class) → is_one_ply tables.classes k q ≡ is_one_ply tables.classes k p
    same_one_ply k =
        ap (λ (b : Bool). if is_won k then b else list_all (is_zeroing q) (legal_moves q)) (any_moves f p q stored.position stored.is (wins_at_once tables.classes k p) (wins_at_once tables.classes k q) (λ m i.
        ap (λ (b : Bool). b && keeps k (class_at tables.classes (after q (move_image f m)))) (same_zeroing m i)
        ∙ ap (λ (o : Option Class). is_zeroing p m && keeps k (unwrap_or o Draw)) (probed_after m i)))
        ∙ ap (λ (b : Bool). if is_won k then list_any (wins_at_once tables.classes k p) (legal_moves p) else b) (all_moves f p q stored.position stored.is (is_zeroing p) (is_zeroing q) same_zeroing)

    same_near_as : (k : Class) → near_as tables q k ≡ near_as tables p k
    same_near_as k = rw (same_no_move f p q stored.position stored.is, same_one_ply k, symmetric.distances f p q k stored.position stored.is stored.keeps) refl

    same_near : near_entry tables q ≡ near_entry tables p
    unfolding near_entry
    same_near = ap (option_and_then (near_as tables q)) probed_image_same ∙ by_class (probed tables.classes p)
      where
        by_class : (o : Option Class) → option_and_then (near_as tables q) o ≡ option_and_then (near_as tables p) o
        by_class None = refl
        by_class (Some k) = same_near_as k

  module _ (f : Symmetry) (p q : Position) (stored : IsStoredImage f p q) where
    same_far_as : (k : Class) → far_as tables q k ≡ far_as tables p k
    same_far_as k =
        let here = map (step_by (near_after tables p) p) (quiet_moves p) in
        let there = map (step_by (near_after tables q) q) (quiet_moves q) in
        let same = same_given f p q stored.position stored.is (λ m. not (is_zeroing p m)) (λ m. not (is_zeroing q m)) (step_by (near_after tables p) p) (step_by (near_after tables q) q) (λ m i. ap not (same_zeroing f p q stored m i))
        (λ m i quiet. ap (λ (z : Bool). option_map (λ (e : Entry). (e, z)) (near_after tables q (move_image f m))) (same_zeroing f p q stored m i)
        ∙ ap (option_map (λ (e : Entry). (e, is_zeroing p m))) (same_near f (after p m) (after q (move_image f m)) (after_image f p q stored m i (not-true (is_zeroing p m) quiet)))) in
        ap (option_map (entry_before k)) (steps_known (near_after tables q) q (quiet_moves q))
        ∙ same_known (entry_before k) (entry_before_of k) there here same
        ∙ sym (ap (option_map (entry_before k)) (steps_known (near_after tables p) p (quiet_moves p)))

    same_plain : plain_entry tables q ≡ plain_entry tables p
    unfolding plain_entry
    same_plain = ap (near_or_far tables q) (same_near f p q stored) ∙ by_near (near_entry tables p)
      where
        by_class : (o : Option Class) → option_and_then (far_as tables q) o ≡ option_and_then (far_as tables p) o
        by_class None = refl
        by_class (Some k) = same_far_as k

        by_near : (o : Option Entry) → near_or_far tables q o ≡ near_or_far tables p o
        by_near (Some e) = refl
        by_near None = ap (option_and_then (far_as tables q)) (probed_image_same f p q stored) ∙ by_class (probed tables.classes p)

  -- ---- the test

  module _ (f : Symmetry) (p q : Position) (stored : IsStoredImage f p q) where
    same_after : (m : Move) → IsIn (legal_moves p) m → entry_after tables q (move_image f m) ≡ entry_after tables p m
    unfolding entry_after
    same_after m i = rw (same_zeroing f p q stored m i) (elim (cases_Bool (is_zeroing p m)) [
      | inl t ↦ rw t (ap (option_map class_alone) (probed_after f p q stored m i))
      | inr e ↦ rw e (same_plain f (after p m) (after q (move_image f m)) (after_image f p q stored m i e))
    ])

    same_steps : AreSame (map (step_by (entry_after tables q) q) (legal_moves q)) (map (step_by (entry_after tables p) p) (legal_moves p))
    same_steps =
        let every : (r : Position) → filter (λ (m : Move). true) (legal_moves r) ≡ legal_moves r = λ r. filter_true (λ (m : Move). true) (legal_moves r) (λ m i. refl) in
        let step : (r : Position) → Move → Option (Step Entry) = λ r. step_by (entry_after tables r) r in
        let given = same_given f p q stored.position stored.is (λ m. true) (λ m. true) (step p) (step q) (λ m i. refl)
        (λ m i _. ap (λ (z : Bool). option_map (λ (e : Entry). (e, z)) (entry_after tables q (move_image f m))) (same_zeroing f p q stored m i)
        ∙ ap (option_map (λ (e : Entry). (e, is_zeroing p m))) (same_after m i)) in
        subst (λ (ms : List Move). AreSame (map (step q) ms) (map (step p) (legal_moves p))) (every q)
        (subst (λ (ms : List Move). AreSame (map (step q) (filter (λ (m : Move). true) (legal_moves q))) (map (step p) ms)) (every p) given)

    agrees_known : (in_check : Bool) (e : Entry) (o : Option Steps) → agrees in_check (Some e) o ≡ unwrap_or (option_map (accepts ply_limit e in_check) o) false
    agrees_known in_check e None = refl
    agrees_known in_check e (Some next) = refl

    pub same_checked : is_checked tables q ≡ is_checked tables p
    unfolding is_checked
    same_checked = ap (λ (b : Bool). agrees b (plain_entry tables q) (all q)) (same_check f p q stored.position stored.is)
        ∙ ap (λ (o : Option Entry). agrees (is_check p) o (all q)) (same_plain f p q stored)
        ∙ by_entry (plain_entry tables p)
      where
        all : (r : Position) → Option Steps
        all r = steps_to (entry_after tables r) r (legal_moves r)

        by_entry : (o : Option Entry) → agrees (is_check p) o (all q) ≡ agrees (is_check p) o (all p)
        by_entry None = refl
        by_entry (Some e) = agrees_known (is_check p) e (all q)
            ∙ ap (λ (o : Option Bool). unwrap_or o false) (ap (option_map (accepts ply_limit e (is_check p))) (steps_known (entry_after tables q) q (legal_moves q))
            ∙ same_known (accepts ply_limit e (is_check p)) (accepts_of ply_limit e (is_check p)) (map (step_by (entry_after tables q) q) (legal_moves q)) (map (step_by (entry_after tables p) p) (legal_moves p)) same_steps
            ∙ sym (ap (option_map (accepts ply_limit e (is_check p))) (steps_known (entry_after tables p) p (legal_moves p))))
            ∙ sym (agrees_known (is_check p) e (all p))

  checked_along : (fs : List Symmetry) (p q : Position) → IsPosition p → IsImageBy fs p q → is_checked tables q ≡ is_checked tables p
  checked_along [] p q position is = ap (is_checked tables) (sym is)
  checked_along (f ∷ fs) p q position is = checked_along fs is.0 q is.1.position is.3 ∙ same_checked f p is.0 (record { position = position; is = is.1; keeps = is.2 })

pub checked_by_images : (tables : StoredTables) (covers : List PlacedMan → Bool) → IsClosed covers → AreSymmetric tables →
    ((p : Position) → IsPosition p → p.en_passant ≡ None → covers p.placed_men ≡ true → HasCheckedImage tables p) → IsChecked tables covers
checked_by_images tables covers closed symmetric each = record {
  closed = closed;
  checked = λ p position none covered. let has = each p position none covered in sym (checked_along tables symmetric has.symmetries p has.image position has.is) ∙ has.checked;
}
