-- What is stored, by the table that is found.
use Rattle.std.proofs.lemmas.Bool.{le-ltb, ltb-false, or_parts}
use Rattle.std.proofs.Common.{◌≡◌, ◌<◌, ◌≤◌, ℕ, List, length, sym, ap, ◌∙◌, subst, Option, Some, None, Bool, true, false, arith}
use Rattle.szg_verify.specs.declared.Distance.{Distance}
use Rattle.szg_tables.specs.Distances.{distance_in, is_left_out, stored_distances}
use Rattle.std.specs.Prelude.{option_and_then, nat_lt, ◌&&◌, ◌||◌}
use Rattle.szg_values.specs.Men.{is_color}
use Rattle.szg_values.specs.declared.Color.TheVariants.{Black}
use Rattle.szg_verify.specs.Verified.{has_equal_sides}
use Rattle.szg_values.specs.Material.{Sides}
use Rattle.szg_values.specs.Placement.{PlacedMan, Board, material_of}
use Rattle.szg_values.specs.declared.Color.{Color}
use Rattle.szg_values.specs.declared.Kind.{Kind}
use Rattle.szg_values.specs.declared.Kind.TheVariants.{Wdl, Dtz}
use Rattle.szg_file.specs.Held.{Shown}
use Rattle.szg_place.specs.Spots.{place_fault}
use Rattle.szg_place.specs.Tables.{numbering_of}
use Rattle.szg_game.specs.declared.Class.{Class}
use Rattle.szg_probe.specs.Probing.{StoredClasses}
use Rattle.szg_probe.specs.Distances.{StoredNumbers}
use Rattle.szg_tables.specs.Stored.{board_of, table_for, class_in, missing_in, number_in, reason_by, reason_in, stored_classes, stored_numbers, IsMissing, LacksKind}
use Rattle.szg_tables.specs.declared.Missing.{Missing}
use Rattle.szg_tables.specs.declared.MissingReason.{MissingReason}

-- a placement of three men or more
pub placed_is : (men : List PlacedMan) (mover : Color) (o : Option Board) (board : Board) → (3 ≤ length men → o ≡ Some (board_of men mover)) → 2 < length men → o ≡ Some board → board ≡ board_of men mover
placed_is men mover o board placed more is = let there = placed (omega arith) in let same : Some board ≡ Some (board_of men mover) = sym is ∙ there in cc

module _ (tables : List Shown) (men : List PlacedMan) (mover : Color) (board : Board) (is : board ≡ board_of men mover) where
  pub class_by : (t : Shown) (x : Option Class) → table_for Wdl board tables ≡ Some t → class_in board t.contents ≡ x → stored_classes tables men mover ≡ x
  class_by t x found there =
      let f = subst (λ (b : Board). table_for Wdl b tables ≡ Some t) is found in
      ap (λ (o : Option Shown). option_and_then (λ t. class_in (board_of men mover) t.contents) o) f ∙ subst (λ (b : Board). class_in b t.contents ≡ x) is there

  pub number_by_table : (k : Class) (t : Shown) (x : Option (Option ℕ)) → table_for Dtz board tables ≡ Some t → number_in board k t.contents ≡ x → stored_numbers tables men mover k ≡ x
  number_by_table k t x found there =
      let f = subst (λ (b : Board). table_for Dtz b tables ≡ Some t) is found in
      ap (λ (o : Option Shown). option_and_then (λ t. number_in (board_of men mover) k t.contents) o) f ∙ subst (λ (b : Board). number_in b k t.contents ≡ x) is there

  pub no_class : table_for Wdl board tables ≡ None → stored_classes tables men mover ≡ None
  no_class none = ap (λ (o : Option Shown). option_and_then (λ t. class_in (board_of men mover) t.contents) o) (subst (λ (b : Board). table_for Wdl b tables ≡ None) is none)

  pub no_number : (k : Class) → table_for Dtz board tables ≡ None → stored_numbers tables men mover k ≡ None
  no_number k none = ap (λ (o : Option Shown). option_and_then (λ t. number_in (board_of men mover) k t.contents) o) (subst (λ (b : Board). table_for Dtz b tables ≡ None) is none)

-- what is missing for a board
pub is_missing : (kind : Kind) (missing : Missing) (reason : MissingReason) (classes : StoredClasses) (numbers : StoredNumbers) (men : List PlacedMan) (mover : Color) (board : Board) → board ≡ board_of men mover →
    missing ≡ record { material = material_of board.placed_men; kind = kind; reason = reason } → LacksKind kind classes numbers men mover → IsMissing classes numbers missing men mover
is_missing kind missing reason classes numbers men mover board is same h = (
  ap (λ (m : Missing). m.material) same ∙ ap (λ (b : Board). material_of b.placed_men) is,
  subst (λ (k : Kind). LacksKind k classes numbers men mover) (sym (ap (λ (m : Missing). m.kind) same)) h,
)

module _ (kind : Kind) (tables : List Shown) (men : List PlacedMan) (mover : Color) (board : Board) (is : board ≡ board_of men mover) where
  pub missing_at : (missing : Missing) → missing ≡ missing_in kind board tables → missing ≡ missing_in kind (board_of men mover) tables
  missing_at missing same = same ∙ ap (λ (b : Board). missing_in kind b tables) is

  pub missing_by : (t : Shown) (material : Sides) (reason : MissingReason) → material ≡ material_of board.placed_men → table_for kind board tables ≡ Some t →
      reason ≡ reason_by (place_fault (numbering_of t.contents) board) → record { material = material; kind = kind; reason = reason } ≡ missing_in kind (board_of men mover) tables
  missing_by t material reason e found why =
      missing_at (record { material = material; kind = kind; reason = reason }) (ap (λ (m : Sides). let here : Missing = record { material = m; kind = kind; reason = reason } in here) e
      ∙ ap (λ (r : MissingReason). let here : Missing = record { material = material_of board.placed_men; kind = kind; reason = r } in here) (why ∙ sym (ap (reason_in board) found)))

-- ---- numbers with how they count

pub left_out_is : (n : ℕ) (b e r : Bool) → 3 ≤ n → b ≡ true → r ≡ e → r ≡ (nat_lt n 3 || (b && e))
left_out_is n b e r more t same = rw (le-ltb n 3 more) (rw t same)

pub kept_is_many : (men : List PlacedMan) (mover : Color) → is_left_out men mover ≡ false → 2 < length men
kept_is_many men mover kept =
    let more : 3 ≤ length men = ltb-false (length men) 3 ((or_parts (nat_lt (length men) 3) (is_color Black mover && has_equal_sides men) kept).0) in
    omega (arith, more)

pub distance_by_table : (tables : List Shown) (men : List PlacedMan) (mover : Color) (board : Board) → board ≡ board_of men mover → (k : Class) (t : Shown) (d : Option Distance) → is_left_out men mover ≡ false →
    table_for Dtz board tables ≡ Some t → distance_in board k t.contents ≡ d → stored_distances tables men mover k ≡ d
distance_by_table tables men mover board is k t d kept found there =
    let f = subst (λ (b : Board). table_for Dtz b tables ≡ Some t) is found in
    rw kept (ap (λ (o : Option Shown). option_and_then (λ t. distance_in (board_of men mover) k t.contents) o) f ∙ subst (λ (b : Board). distance_in b k t.contents ≡ d) is there)
