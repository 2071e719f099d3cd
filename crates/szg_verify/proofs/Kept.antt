-- Entries that were found before: the place and the tag of a cell stand for one position of the men.
use Rattle.std.proofs.Common.{◌≡◌, ◌≢◌, ℕ, suc, ◌+◌, ◌*◌, ◌/◌, ◌%◌, ◌^◌, ◌<◌, ◌≤◌, List, [], ◌∷◌, length, refl, sym, ap, ◌∙◌, subst, Bool, true, false, arith, inl, inr, Option, Some, None, Contains, set, get_or, slice_get, ◌-◌, zero, drop, length-drop, nat_lt, if◌then◌else◌, IsTrue}
use Rattle.std.specs.Prelude.{not, ◌&&◌, ◌||◌, ◌==◌, map, IfSome}
use Rattle.std.specs.List.{All, list_any}
use Rattle.std.proofs.lemmas.Bool.{cases_Bool, and_parts, and_from, or_parts, both_ways, eqb-true, eqb-false, eq-eqb, ltb-true, ltb-false}
use Rattle.std.proofs.lemmas.List.{get_or-set_same, get_or-set_other, length-set}
use Rattle.std.proofs.lemmas.List.Elements.{All-head, All-tail, All-weaker}
use Rattle.std.proofs.lemmas.Option.{slice_get_within, get_or_from_slice_get, slice_get-get_or}
use native.Mathlib.Nat.{pow-suc, pow-le-pow_right, zero-lt-suc}
use Rattle.std.proofs.Math.Nat.{add-mul, mul_assoc}
use Rattle.szg_verify.proofs.Loops.{next_left}
use Rattle.szg_values.specs.Men.{is_man, is_color, other_color, rank_of}
use Rattle.szg_values.specs.Material.{Sides}
use Rattle.szg_values.specs.Placement.{PlacedMan, AreOnBoard}
use Rattle.szg_values.specs.declared.Man.{Man}
use Rattle.szg_values.specs.declared.Man.TheVariants.{Pawn}
use Rattle.szg_values.specs.declared.Color.{Color}
use Rattle.szg_values.specs.declared.Color.TheVariants.{White, Black}
use Rattle.szg_game.specs.declared.Class.{Class}
use Rattle.szg_game.specs.declared.Class.TheVariants.{Loss, BlessedLoss, Draw, CursedWin, Win}
use Rattle.szg_game.specs.declared.Entry.{Entry}
use Rattle.szg_chess.specs.declared.Move.{Move}
use Rattle.szg_chess.specs.Laws.{kinds_of}
use Rattle.szg_chess.specs.Attacks.{ranks_apart}
use Rattle.szg_chess.specs.Moves.{after, captured_square, is_capture, is_pawn_on, is_zeroing, legal_moves, man_after, men_after}
use Rattle.szg_chess.specs.Position.{Position, IsPosition}
use Rattle.szg_chess.proofs.AfterMen.{is_off, off_from}
use Rattle.szg_chess.proofs.AfterMove.{pass_is}
use Rattle.szg_chess.proofs.Captured.{filter_all, capture_takes, capture_passes, enters_off}
use Rattle.szg_chess.proofs.Facts.{faultless}
use Rattle.szg_chess.proofs.KeptMen.{kinds_law}
use Rattle.szg_chess.proofs.Members.{any_of}
use Rattle.szg_chess.proofs.MoveFacts.{legal_move}
use Rattle.szg_probe.specs.Probing.{StoredClasses}
use Rattle.szg_verify.specs.Entries.{StoredDistances, StoredTables, tables_of}
use Rattle.szg_verify.specs.Memory.{digits_of, place_value, unit_on, holds_pawn, packed, start_of, size_of, IsSpotOf, class_code, class_by, code_of, is_wide, is_near, found_by, IsRight, AreRight}
use Rattle.szg_verify.specs.Verified.{is_checked}
use Rattle.szg_verify.specs.Walk.{colored_men, is_king_walked, placed_by, position_by, IsRangeChecked}
use Rattle.szg_verify.specs.declared.memory.Cell.{Cell}
use Rattle.szg_verify.proofs.Near.{plain_near}

-- ---- a spot stands for one position

same_digits : (xs ys : List PlacedMan) → AreOnBoard xs → AreOnBoard ys → kinds_of xs ≡ kinds_of ys → digits_of xs ≡ digits_of ys → xs ≡ ys
same_digits [] [] h i kinds e = refl
same_digits [] (y ∷ ys) h i kinds e = absurd cc
same_digits (x ∷ xs) [] h i kinds e = absurd cc
same_digits ((k, a, x) ∷ xs) ((j, b, y) ∷ ys) h i kinds e =
    let P : PlacedMan → Type 0 = λ u. u.2 < 64 in
    let on_board = All-head P (k, a, x) xs h in
    let other = All-head P (j, b, y) ys i in
    let square : x ≡ y = omega (arith, e, on_board, other) in
    let rest : digits_of xs ≡ digits_of ys = omega (arith, e, on_board, other) in
    let head : (k, a) ≡ (j, b) = cc in
    let later : kinds_of xs ≡ kinds_of ys = cc in
    let more = same_digits xs ys (All-tail P (k, a, x) xs h) (All-tail P (j, b, y) ys i) later rest in
    ap (λ (u : Man × Color). (u.0, u.1, x) ∷ xs) {x = (k, a)} {y = (j, b)} head ∙ ap (λ (n : ℕ). (j, b, n) ∷ xs) square ∙ ap (λ (us : List PlacedMan). (j, b, y) ∷ us) more

pawn_kinds : (men : List PlacedMan) → holds_pawn men ≡ list_any (λ (k : Man × Color). is_man Pawn k.0) (kinds_of men)
pawn_kinds [] = refl
pawn_kinds (s ∷ men) = ap (λ (b : Bool). is_man Pawn s.0 || b) (pawn_kinds men)

packed_low : (n k : ℕ) → packed false n ≡ Some k → (n % 8 < 5) × (n / 8 % 8 < 5)
packed_low n k h = elim (cases_Bool (nat_lt (n % 8) 5 && nat_lt (n / 8 % 8) 5)) [
  | inl t ↦ let parts = and_parts (nat_lt (n % 8) 5) (nat_lt (n / 8 % 8) 5) t in (ltb-true (n % 8) 5 parts.0, ltb-true (n / 8 % 8) 5 parts.1)
  | inr f ↦ let none : packed false n ≡ None = rw f refl in absurd cc
]

packed_is : (n k : ℕ) → packed false n ≡ Some k → k ≡ n % 8 + (5 * (n / 8 % 8) + 25 * (n / 64))
packed_is n k h = elim (cases_Bool (nat_lt (n % 8) 5 && nat_lt (n / 8 % 8) 5)) [
  | inl t ↦ let some : packed false n ≡ Some (n % 8 + (5 * (n / 8 % 8) + 25 * (n / 64))) = rw t refl in cc
  | inr f ↦ let none : packed false n ≡ None = rw f refl in absurd cc
]

same_packed : (pawn : Bool) (m n k : ℕ) → packed pawn m ≡ Some k → packed pawn n ≡ Some k → m ≡ n
same_packed true m n k h i = cc
same_packed false m n k h i =
    let a = packed_low m k h in let b = packed_low n k i in
    let a0 = a.0 in let a1 = a.1 in let b0 = b.0 in let b1 = b.1 in
    let c = packed_is m k h in let d = packed_is n k i in
    omega (arith, a0, a1, b0, b1, c, d)

same_mover : (a b : Color) (len place : ℕ) → start_of a len ≤ place → place < start_of a len + size_of a len → start_of b len ≤ place → place < start_of b len + size_of b len → a ≡ b
same_mover White White len place h i j k = refl
same_mover White Black len place h i j k = absurd (omega (arith, i, j))
same_mover Black White len place h i j k = absurd (omega (arith, h, k))
same_mover Black Black len place h i j k = refl

same_spot : (len tag place : ℕ) (p q : Position) → IsPosition p → IsPosition q → kinds_of p.placed_men ≡ kinds_of q.placed_men → IsSpotOf len p tag place → IsSpotOf len q tag place → p ≡ q
same_spot len tag place p q h i kinds a b =
    let mover = same_mover p.mover q.mover len place a.from a.to b.from b.to in
    let pawn : holds_pawn p.placed_men ≡ holds_pawn q.placed_men = pawn_kinds p.placed_men ∙ ap (list_any (λ (k : Man × Color). is_man Pawn k.0)) kinds ∙ sym (pawn_kinds q.placed_men) in
    let number : ℕ = tag * size_of q.mover len + (place - start_of q.mover len) in
    let first : packed (holds_pawn q.placed_men) (digits_of p.placed_men) ≡ Some number =
    ap (λ (b : Bool). packed b (digits_of p.placed_men)) (sym pawn) ∙ a.number ∙ ap (λ (c : Color). Some (tag * size_of c len + (place - start_of c len))) mover in
    let digits = same_packed (holds_pawn q.placed_men) (digits_of p.placed_men) (digits_of q.placed_men) number first b.number in
    ap (λ (us : List PlacedMan). record { placed_men = us; mover = p.mover; en_passant = p.en_passant }) (same_digits p.placed_men q.placed_men h.squares.men i.squares.men kinds digits)
    ∙ ap (λ (c : Color). record { placed_men = q.placed_men; mover = c; en_passant = p.en_passant }) mover
    ∙ ap (λ (o : Option ℕ). record { placed_men = q.placed_men; mover = q.mover; en_passant = o }) (a.plain ∙ sym b.plain)

-- ---- what a cell has

class_decoded : (k : Class) (wide near : Bool) → class_by (code_of k wide near % 8) ≡ Some k
class_decoded Loss true true = refl
class_decoded Loss true false = refl
class_decoded Loss false true = refl
class_decoded Loss false false = refl
class_decoded BlessedLoss true true = refl
class_decoded BlessedLoss true false = refl
class_decoded BlessedLoss false true = refl
class_decoded BlessedLoss false false = refl
class_decoded Draw true true = refl
class_decoded Draw true false = refl
class_decoded Draw false true = refl
class_decoded Draw false false = refl
class_decoded CursedWin true true = refl
class_decoded CursedWin true false = refl
class_decoded CursedWin false true = refl
class_decoded CursedWin false false = refl
class_decoded Win true true = refl
class_decoded Win true false = refl
class_decoded Win false true = refl
class_decoded Win false false = refl

code_range : (k : Class) → (1 ≤ class_code k) × (class_code k ≤ 5)
code_range Loss = (omega arith, omega arith)
code_range BlessedLoss = (omega arith, omega arith)
code_range Draw = (omega arith, omega arith)
code_range CursedWin = (omega arith, omega arith)
code_range Win = (omega arith, omega arith)

wide_decoded : (k : Class) (wide near : Bool) → is_wide (code_of k wide near) ≡ wide
wide_decoded k true true = let h = (code_range k).1 in let e : (class_code k + 8 + 16) / 8 % 2 ≡ 1 = omega (arith, h) in eq-eqb _ _ e
wide_decoded k true false = let h = (code_range k).1 in let e : (class_code k + 8 + 0) / 8 % 2 ≡ 1 = omega (arith, h) in eq-eqb _ _ e
wide_decoded k false true = let h = (code_range k).1 in let e : (class_code k + 0 + 16) / 8 % 2 ≡ 0 = omega (arith, h) in rw e refl
wide_decoded k false false = let h = (code_range k).1 in let e : (class_code k + 0 + 0) / 8 % 2 ≡ 0 = omega (arith, h) in rw e refl

near_decoded : (k : Class) (wide near : Bool) → is_near (code_of k wide near) ≡ near
near_decoded k true true = let h = (code_range k).1 in let e : (class_code k + 8 + 16) / 16 ≡ 1 = omega (arith, h) in eq-eqb _ _ e
near_decoded k true false = let h = (code_range k).1 in let e : (class_code k + 8 + 0) / 16 ≡ 0 = omega (arith, h) in rw e refl
near_decoded k false true = let h = (code_range k).1 in let e : (class_code k + 0 + 16) / 16 ≡ 1 = omega (arith, h) in eq-eqb _ _ e
near_decoded k false false = let h = (code_range k).1 in let e : (class_code k + 0 + 0) / 16 ≡ 0 = omega (arith, h) in rw e refl

-- the whole entry is there too where the near one is
pub as_needed : (tables : StoredTables) (p : Position) (near needs : Bool) (e : Entry) → found_by near tables p ≡ Some e → (needs && not near) ≡ false → found_by needs tables p ≡ Some e
as_needed tables p true true e found fits = found
as_needed tables p true false e found fits = sym (plain_near tables p e (sym found))
as_needed tables p false true e found fits = absurd cc
as_needed tables p false false e found fits = found

-- ---- cells

-- the cell at a spot has an entry of its position
pub recalled : (tables : StoredTables) (cells : List Cell) (p : Position) (place : ℕ) (cell : Cell) (needs : Bool) (k : Class) → AreRight (kinds_of p.placed_men) tables cells → IsPosition p → slice_get cells place ≡ Some cell →
    IsSpotOf (length cells) p cell.tag place → class_by (cell.code % 8) ≡ Some k → (needs && not (is_near cell.code)) ≡ false →
    found_by needs tables p ≡ Some (record { class = k; lower = cell.lower; upper = cell.lower + (if is_wide cell.code then 1 else 0) })
recalled tables cells p place cell needs k right position there spot class fits =
    as_needed tables p (is_near cell.code) needs _ (right p place cell position refl there spot k class) fits

-- empty cells say nothing
pub empty_is_right : (kinds : List (Man × Color)) (tables : StoredTables) (cells : List Cell) → ((place : ℕ) (cell : Cell) → slice_get cells place ≡ Some cell → cell.code ≡ 0) → AreRight kinds tables cells
empty_is_right kinds tables cells empty p place cell position men there spot k class =
    let none : class_by (cell.code % 8) ≡ None = rw (empty place cell there) refl in
    absurd cc

-- one cell is changed
pub changed_is_right : (kinds : List (Man × Color)) (tables : StoredTables) (cells : List Cell) (place : ℕ) (cell : Cell) → place < length cells → AreRight kinds tables cells →
    ((p : Position) → IsPosition p → kinds_of p.placed_men ≡ kinds → IsSpotOf (length cells) p cell.tag place → IsRight tables p cell) → AreRight kinds tables (set cells place cell)
changed_is_right kinds tables cells place cell inside right new p at other position men there spot =
    let size = length-set cells place cell in
    let here : IsSpotOf (length cells) p other.tag at = subst (λ (len : ℕ). IsSpotOf len p other.tag at) size spot in
    let found : get_or (set cells place cell) at cell ≡ other = get_or_from_slice_get (set cells place cell) at other cell there in
    elim (cases_Bool (at == place)) [
      | inl t ↦
          let same : at ≡ place = eqb-true at place t in
          let is : other ≡ cell = sym found ∙ ap (λ (i : ℕ). get_or (set cells place cell) i cell) same ∙ get_or-set_same cells place cell cell inside in
          subst (IsRight tables p) (sym is) (new p position men (subst (λ (i : ℕ). IsSpotOf (length cells) p cell.tag i) same (subst (λ (c : Cell). IsSpotOf (length cells) p c.tag at) is here)))
      | inr f ↦
          let within : at < length cells = let w = slice_get_within (set cells place cell) at other there in omega (arith, w, size) in
          let old : slice_get cells at ≡ Some other = slice_get-get_or cells at cell within ∙ ap (λ (c : Cell). Some c) (sym (get_or-set_other cells place at cell cell (eqb-false at place f)) ∙ found) in
          right p at other position men old here
    ]

-- the changed cell has the entry of a position that was found
pub kept_is_right : (tables : StoredTables) (cells : List Cell) (p : Position) (place : ℕ) (cell : Cell) (e : Entry) (near : Bool) → IsPosition p → place < length cells → IsSpotOf (length cells) p cell.tag place →
    cell.lower ≡ e.lower → cell.code ≡ code_of e.class (nat_lt e.lower e.upper) near → e.upper ≡ e.lower + (if nat_lt e.lower e.upper then 1 else 0) →
    AreRight (kinds_of p.placed_men) tables cells → found_by near tables p ≡ Some e → AreRight (kinds_of p.placed_men) tables (set cells place cell)
kept_is_right tables cells p place cell e near position inside spot lower code upper right found =
    let wide = nat_lt e.lower e.upper in
    changed_is_right (kinds_of p.placed_men) tables cells place cell inside right (λ q q_position kinds q_spot k class.
    let same : p ≡ q = same_spot (length cells) cell.tag place p q position q_position (sym kinds) spot q_spot in
    let decoded : class_by (cell.code % 8) ≡ Some e.class = ap (λ (n : ℕ). class_by (n % 8)) code ∙ class_decoded e.class wide near in
    let is : e.class ≡ k = cc in
    let bound : e.upper ≡ cell.lower + (if is_wide cell.code then 1 else 0) =
    upper ∙ ap (λ (n : ℕ). n + (if wide then 1 else 0)) (sym lower) ∙ ap (λ (b : Bool). cell.lower + (if b then 1 else 0)) (sym (ap is_wide code ∙ wide_decoded e.class wide near)) in
    ap (λ (b : Bool). found_by b tables q) (ap is_near code ∙ near_decoded e.class wide near) ∙ ap (found_by near tables) (sym same) ∙ found
    ∙ ap (λ (c : Class). Some (record { class = c; lower = e.lower; upper = e.upper })) is
    ∙ ap (λ (n : ℕ). Some (record { class = k; lower = n; upper = e.upper })) (sym lower)
    ∙ ap (λ (n : ℕ). Some (record { class = k; lower = cell.lower; upper = n })) bound)

-- ---- digits

digits_power : (men : List PlacedMan) → AreOnBoard men → digits_of men < 64 ^ length men
digits_power [] h = omega arith
digits_power (s ∷ men) h =
    let here = All-head (λ (u : PlacedMan). u.2 < 64) s men h in
    let rest = digits_power men (All-tail (λ (u : PlacedMan). u.2 < 64) s men h) in
    let power = pow-suc 64 (length men) in
    omega (arith, here, rest, power)

all_dropped : (P : PlacedMan → Type 0) (i : ℕ) (men : List PlacedMan) → All P men → All P (drop i men)
all_dropped P zero men h = h
all_dropped P (suc i) [] h = h
all_dropped P (suc i) (s ∷ men) h = all_dropped P i men (All-tail P s men h)

-- few men have small digits
pub digits_within : (most i : ℕ) (men : List PlacedMan) → AreOnBoard men → length men ≤ most + i → digits_of (drop i men) < 64 ^ most
digits_within most i men h few =
    let size = length-drop i men in
    let much : 64 ^ length (drop i men) ≤ 64 ^ most = pow-le-pow_right (zero-lt-suc 63) (omega (arith, few, size)) in
    let power = digits_power (drop i men) (all_dropped (λ u. u.2 < 64) i men h) in
    omega (arith, much, power)

pub digits_step : (men : List PlacedMan) (step : ℕ) (s : PlacedMan) → step < length men → s ≡ get_or men (length men - 1 - step) s →
    digits_of (drop (length men - (step + 1)) men) ≡ s.2 + 64 * digits_of (drop (length men - step) men)
digits_step men step s less is =
    let place : length men - (step + 1) ≡ length men - 1 - step = omega (arith, less) in
    let next : length men - 1 - step + 1 ≡ length men - step = omega (arith, less) in
    ap (λ (i : ℕ). digits_of (drop i men)) place ∙ ap digits_of (next_left men (length men - 1 - step) s (omega (arith, less)) is)
    ∙ ap (λ (i : ℕ). s.2 + 64 * digits_of (drop i men)) next

-- ---- the men of a walk

-- a move that is not zeroing keeps them
pub quiet_keeps : (p : Position) (m : Move) → IsPosition p → Contains (legal_moves p) m → is_zeroing p m ≡ false → kinds_of (after p m).placed_men ≡ kinds_of p.placed_men
quiet_keeps p m position held quiet =
    let move = (legal_move p m held).0 in let s = move.man in
    let parts = or_parts (is_pawn_on p m.from) (is_capture p m) quiet in
    let on : is_man Pawn s.0 ≡ true → is_pawn_on p m.from ≡ true = λ pawn.
    any_of (λ (u : PlacedMan). is_man Pawn u.0 && is_color p.mover u.1 && u.2 == m.from) p.placed_men s move.stands
    (and_from (is_man Pawn s.0 && is_color p.mover s.1) (s.2 == m.from) (and_from (is_man Pawn s.0) (is_color p.mover s.1) pawn move.own) (eq-eqb s.2 m.from (sym move.from_is))) in
    let none : m.promotion ≡ None = elim move.rank [
      | inl promoted ↦ absurd (both_ways (is_pawn_on p m.from) parts.0 (on (and_parts (is_man Pawn s.0) (rank_of m.to == 0 || rank_of m.to == 7) promoted.reaches).0))
      | inr remains ↦ remains.is
    ] in
    kinds_law p m position held parts.1 none

-- the men after a move that is not zeroing: none is captured
pub quiet_men : (p : Position) (m : Move) → IsPosition p → Contains (legal_moves p) m → is_zeroing p m ≡ false → (after p m).placed_men ≡ map (man_after m) p.placed_men
unfolding after men_after
quiet_men p m position held quiet =
    let known = faultless p position.no_fault in
    let move = (legal_move p m held).0 in let s = move.man in let c = captured_square p m in
    let plain = (or_parts (is_pawn_on p m.from) (is_capture p m) quiet).1 in
    let off : All (λ (u : PlacedMan). u.2 ≢ c) p.placed_men = elim move.way [
      | inl takes ↦ absurd (both_ways (is_capture p m) plain (capture_takes p m s takes))
      | inr other ↦ elim other [
        | inl passes ↦ absurd (both_ways (is_capture p m) plain (capture_passes p m s (pass_is p m s move.stands move.own move.from_is passes)))
        | inr enters ↦ enters_off p m s known move.stands move.from_is enters
      ]
    ] in
    ap (map (man_after m)) (filter_all (is_off c) p.placed_men (All-weaker (λ (u : PlacedMan). u.2 ≢ c) (λ u. is_off c u ≡ true) (off_from c) p.placed_men off))

mover_after : (p : Position) (m : Move) → (after p m).mover ≡ other_color p.mover
unfolding after
mover_after p m = refl

none_passed : (p : Position) (m : Move) → is_pawn_on p m.from ≡ false → (after p m).en_passant ≡ None
unfolding after
none_passed p m none = elim (cases_Bool (ranks_apart m.from m.to == 2)) [
  | inl t ↦ rw (t, none) refl
  | inr f ↦ rw f refl
]

-- the spot of the position after such a move, from the men before it
quiet_spot : (len tag place : ℕ) (p : Position) (m : Move) → IsPosition p → Contains (legal_moves p) m → is_zeroing p m ≡ false →
    start_of (other_color p.mover) len ≤ place → place < start_of (other_color p.mover) len + size_of (other_color p.mover) len →
    packed (holds_pawn p.placed_men) (digits_of (map (man_after m) p.placed_men)) ≡ Some (tag * size_of (other_color p.mover) len + (place - start_of (other_color p.mover) len)) →
    IsSpotOf len (after p m) tag place
quiet_spot len tag place p m position held quiet from to number =
    let mover = sym (mover_after p m) in
    let men = quiet_men p m position held quiet in
    let kinds = quiet_keeps p m position held quiet in
    let pawn : holds_pawn (after p m).placed_men ≡ holds_pawn p.placed_men =
    pawn_kinds (after p m).placed_men ∙ ap (list_any (λ (k : Man × Color). is_man Pawn k.0)) kinds ∙ sym (pawn_kinds p.placed_men) in
    record {
      plain = none_passed p m (or_parts (is_pawn_on p m.from) (is_capture p m) quiet).0;
      from = subst (λ (c : Color). start_of c len ≤ place) mover from;
      to = subst (λ (c : Color). place < start_of c len + size_of c len) mover to;
      number = ap (λ (b : Bool). packed b (digits_of (after p m).placed_men)) pawn ∙ ap (λ (us : List PlacedMan). packed (holds_pawn p.placed_men) (digits_of us)) men
          ∙ number ∙ ap (λ (c : Color). Some (tag * size_of c len + (place - start_of c len))) mover;
    }

-- of a look-up: each spot that it finds
pub quiet_spots : {S : Type 0} (tag place : S → ℕ) (len : ℕ) (p : Position) (m : Move) (mover : Color) (pawn : Bool) (digits : ℕ) → IsPosition p → Contains (legal_moves p) m → is_zeroing p m ≡ false →
    mover ≡ other_color p.mover → pawn ≡ holds_pawn p.placed_men → digits ≡ digits_of (map (man_after m) p.placed_men) → (o : Option S) →
    IfSome o (λ s. start_of mover len ≤ place s) → IfSome o (λ s. place s < start_of mover len + size_of mover len) →
    IfSome o (λ s. packed pawn digits ≡ Some (tag s * size_of mover len + (place s - start_of mover len))) → IfSome o (λ s. IsSpotOf len (after p m) (tag s) (place s))
quiet_spots tag place len p m mover pawn digits position held quiet moves holds are None from to number = tt
quiet_spots tag place len p m mover pawn digits position held quiet moves holds are (Some s) from to number =
    quiet_spot len (tag s) (place s) p m position held quiet (subst (λ (c : Color). start_of c len ≤ place s) moves from) (subst (λ (c : Color). place s < start_of c len + size_of c len) moves to)
    (sym (ap (λ (b : Bool). packed b digits) holds ∙ ap (packed (holds_pawn p.placed_men)) are) ∙ number ∙ ap (λ (c : Color). Some (tag s * size_of c len + (place s - start_of c len))) moves)

-- ---- place values

place_power : (square : ℕ) (men : List PlacedMan) → place_value square men < 64 ^ length men
place_power square [] = omega arith
place_power square (s ∷ men) =
    let here : unit_on square s < 64 = elim (cases_Bool (s.2 == square)) [
      | inl t ↦ rw t (omega arith)
      | inr f ↦ rw f (omega arith)
    ] in
    let rest = place_power square men in
    let power = pow-suc 64 (length men) in
    omega (arith, here, rest, power)

-- few men have small place values
pub place_within : (most i square : ℕ) (men : List PlacedMan) → length men ≤ most + i → place_value square (drop i men) < 64 ^ most
place_within most i square men few =
    let size = length-drop i men in
    let much : 64 ^ length (drop i men) ≤ 64 ^ most = pow-le-pow_right (zero-lt-suc 63) (omega (arith, few, size)) in
    let power = place_power square (drop i men) in
    omega (arith, much, power)

pub place_step : (men : List PlacedMan) (square step : ℕ) (s : PlacedMan) → step < length men → s ≡ get_or men (length men - 1 - step) s →
    place_value square (drop (length men - (step + 1)) men) ≡ unit_on square s + 64 * place_value square (drop (length men - step) men)
place_step men square step s less is =
    let place : length men - (step + 1) ≡ length men - 1 - step = omega (arith, less) in
    let next : length men - 1 - step + 1 ≡ length men - step = omega (arith, less) in
    ap (λ (i : ℕ). place_value square (drop i men)) place ∙ ap (place_value square) (next_left men (length men - 1 - step) s (omega (arith, less)) is)
    ∙ ap (λ (i : ℕ). unit_on square s + 64 * place_value square (drop i men)) next

place_times : (h w n : ℕ) → (h + 64 * w) * n ≡ h * n + 64 * (w * n)
place_times h w n = add-mul h (64 * w) n ∙ ap (λ (k : ℕ). h * n + k) (mul_assoc 64 w n)

-- one man's digit: what he loses and gains is the difference of the squares, if he moves
digit_moved : (m : Move) (s : PlacedMan) → (man_after m s).2 + unit_on m.from s * m.from ≡ s.2 + unit_on m.from s * m.to
digit_moved m s = elim (cases_Bool (s.2 == m.from)) [
  | inl t ↦ let on : s.2 ≡ m.from = eqb-true s.2 m.from t in rw t (omega (arith, on))
  | inr f ↦ rw f (omega arith)
]

-- the number after a move, from the one before it
pub digits_moved : (m : Move) (men : List PlacedMan) → digits_of (map (man_after m) men) + place_value m.from men * m.from ≡ digits_of men + place_value m.from men * m.to
digits_moved m [] = omega arith
digits_moved m (s ∷ men) =
    let here = digit_moved m s in
    let rest = digits_moved m men in
    let from = place_times (unit_on m.from s) (place_value m.from men) m.from in
    let to = place_times (unit_on m.from s) (place_value m.from men) m.to in
    omega (arith, here, rest, from, to)

-- as it is computed: with what the man that moves gains and loses
pub digits_changed : (m : Move) (men : List PlacedMan) (digits square place from to : ℕ) → digits ≡ digits_of men → place ≡ place_value square men → square ≡ m.from → from ≡ m.from → to ≡ m.to →
    digits_of (map (man_after m) men) + place * from ≡ digits + place * to
digits_changed m men digits square place from to before value stands leaves enters =
    let moved = digits_moved m men in
    let is : place ≡ place_value m.from men = value ∙ ap (λ (n : ℕ). place_value n men) stands in
    let lost : place * from ≡ place_value m.from men * m.from = ap (λ (n : ℕ). n * from) is ∙ ap (λ (n : ℕ). place_value m.from men * n) leaves in
    let gained : place * to ≡ place_value m.from men * m.to = ap (λ (n : ℕ). n * to) is ∙ ap (λ (n : ℕ). place_value m.from men * n) enters in
    omega (arith, before, moved, lost, gained)

-- cells that are right before such a move are right after it, and the other way round
pub right_after : (tables : StoredTables) (cells : List Cell) (p q : Position) (m : Move) → IsPosition p → Contains (legal_moves p) m → is_zeroing p m ≡ false → q ≡ after p m →
    AreRight (kinds_of p.placed_men) tables cells → AreRight (kinds_of q.placed_men) tables cells
right_after tables cells p q m position held quiet is right =
    subst (λ (kinds : List (Man × Color)). AreRight kinds tables cells) (sym (ap (λ (r : Position). kinds_of r.placed_men) is ∙ quiet_keeps p m position held quiet)) right

pub right_before : (tables : StoredTables) (cells : List Cell) (p q : Position) (m : Move) → IsPosition p → Contains (legal_moves p) m → is_zeroing p m ≡ false → q ≡ after p m →
    AreRight (kinds_of q.placed_men) tables cells → AreRight (kinds_of p.placed_men) tables cells
right_before tables cells p q m position held quiet is right =
    subst (λ (kinds : List (Man × Color)). AreRight kinds tables cells) (ap (λ (r : Position). kinds_of r.placed_men) is ∙ quiet_keeps p m position held quiet) right

pub placed_kinds : (number : ℕ) (kinds : List (Man × Color)) → kinds_of (placed_by number kinds) ≡ kinds
placed_kinds number [] = refl
placed_kinds number (k ∷ kinds) = ap (λ (ks : List (Man × Color)). k ∷ ks) (placed_kinds (number / 64) kinds)

-- one more number of a range
pub checked_more : (tables : StoredTables) (sides : Sides) (from n : ℕ) → IsRangeChecked tables sides from n →
    ((mover : Color) → IsTrue (is_king_walked (colored_men sides) (n % 64)) → IsPosition (position_by n (colored_men sides) mover) → IsTrue (is_checked tables (position_by n (colored_men sides) mover))) →
    IsRangeChecked tables sides from (n + 1)
checked_more tables sides from n before here number mover low high walked position = elim (cases_Bool (nat_lt number n)) [
  | inl t ↦ before number mover low (ltb-true number n t) walked position
  | inr f ↦
      let least : n ≤ number = ltb-false number n f in
      let same : number ≡ n = omega (arith, least, high) in
      subst (λ (m : ℕ). IsTrue (is_checked tables (position_by m (colored_men sides) mover))) (sym same)
      (here mover (subst (λ (m : ℕ). IsTrue (is_king_walked (colored_men sides) (m % 64))) same walked) (subst (λ (m : ℕ). IsPosition (position_by m (colored_men sides) mover)) same position))
]

-- what holds of tables holds of the same ones
pub carried : (P : StoredTables → Type 0) (a b : StoredClasses) (c d : StoredDistances) → a ≡ b → c ≡ d → P (tables_of a c) → P (tables_of b d)
carried P a b c d classes distances h = subst (λ (x : StoredDistances). P (tables_of b x)) distances (subst (λ (x : StoredClasses). P (tables_of x c)) classes h)
