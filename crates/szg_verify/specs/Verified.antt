-- When a set of tables passes.
use Rattle.std.specs.Prelude.{◌≡◌, ◌==◌, ◌&&◌, ◌||◌, not, Bool, true, false, List, [], ◌∷◌, IsTrue, IsSome, Option, Some, None, Contains, option_map, if◌then◌else◌}
use Rattle.std.specs.List.{list_all}
use Rattle.szg_values.specs.Men.{is_color, name_order}
use Rattle.szg_values.specs.Placement.{PlacedMan, number_of}
use Rattle.szg_values.specs.declared.Color.TheVariants.{White, Black}
use Rattle.szg_game.specs.Game.{Move as Step}
use Rattle.szg_game.specs.declared.Class.{Class}
use Rattle.szg_game.specs.declared.Entry.{Entry}
use Rattle.szg_game.specs.Certified.{accepts, accepts_at}
use Rattle.szg_chess.specs.declared.Move.{Move}
use Rattle.szg_chess.specs.Position.{Position, IsPosition}
use Rattle.szg_chess.specs.Moves.{after, legal_moves, is_check, is_zeroing}
use Rattle.szg_chess.specs.Images.{Symmetry, color_image, IsImage}
use Rattle.szg_probe.specs.Chess.{chess, ply_limit}
use Rattle.szg_probe.specs.Probing.{probed}
use Rattle.szg_probe.specs.Images.{shares_value, AreSymmetric as HaveSymmetricClasses}
use Rattle.szg_verify.specs.Entries.{StoredTables, steps_to, plain_entry, entry_of, entry_at}

-- The entry after a move, as far as it counts: after a zeroing move the class alone.
abbrev pub class_alone : Class → Entry
class_alone k = record { class = k; lower = 0; upper = 0 }

unfoldable pub entry_after : StoredTables → Position → Move → Option Entry
entry_after tables p m = if is_zeroing p m then option_map class_alone (probed tables.classes (after p m)) else plain_entry tables (after p m)

-- the entry agrees with those after the moves; all are there
abbrev pub agrees : Bool → Option Entry → Option (List (Step Entry)) → Bool
agrees in_check None next = false
agrees in_check (Some e) None = false
agrees in_check (Some e) (Some next) = accepts ply_limit e in_check next

-- the test that a program makes at a position without an en passant square
unfoldable pub is_checked : StoredTables → Position → Bool
is_checked tables p = agrees (is_check p) (plain_entry tables p) (steps_to (entry_after tables p) p (legal_moves p))

-- The entry of a position is there, and agrees with the entries one move on.
pub record Passes (tables : StoredTables) (p : Position) : Type 0 where
  pub there : IsSome (entry_of tables p)
  pub accepted : IsTrue (accepts_at chess ply_limit (entry_at tables) p)

-- Each legal move from a position of covered men leads to covered men.
abbrev pub IsClosed : (List PlacedMan → Bool) → Type 0
IsClosed covers = (p : Position) (m : Move) → IsPosition p → IsTrue (covers p.placed_men) → Contains (legal_moves p) m → IsTrue (covers (after p m).placed_men)

-- each position of covered men without an en passant square passes
pub record IsVerified (tables : StoredTables) (covers : List PlacedMan → Bool) : Type 0 where
  pub closed : IsClosed covers
  pub passes : (p : Position) → IsPosition p → p.en_passant ≡ None → IsTrue (covers p.placed_men) → Passes tables p

-- each position of covered men without an en passant square was checked
pub record IsChecked (tables : StoredTables) (covers : List PlacedMan → Bool) : Type 0 where
  pub closed : IsClosed covers
  pub checked : (p : Position) → IsPosition p → p.en_passant ≡ None → IsTrue (covers p.placed_men) → IsTrue (is_checked tables p)

-- ---- images

-- both sides have the same men
abbrev pub has_equal_sides : List PlacedMan → Bool
has_equal_sides men = list_all (λ man. number_of man White men == number_of man Black men) name_order

-- The tables store one number for the men and the images that share their value. Where both sides have the same men they
-- may store numbers for one color to move alone: then an exchange of the colors is left out.
abbrev pub keeps_number : Symmetry → List PlacedMan → Bool
keeps_number f men = shares_value f men && (is_color White (color_image f White) || not (has_equal_sides men))

-- the tables store the same for a position and for the images that share its value, whatever the order of the men
pub record AreSymmetric (tables : StoredTables) : Type 0 where
  pub classes : HaveSymmetricClasses tables.classes
  pub distances : (f : Symmetry) (p q : Position) (k : Class) → IsPosition p → IsImage f p q → keeps_number f p.placed_men ≡ true →
      tables.distances q.placed_men q.mover k ≡ tables.distances p.placed_men p.mover k

-- q is the image of p under these symmetries in turn
abbrev pub IsImageBy : List Symmetry → Position → Position → Type 0
IsImageBy [] p q = p ≡ q
IsImageBy (f ∷ fs) p q = (r : Position) × IsImage f p r × (keeps_number f p.placed_men ≡ true) × IsImageBy fs r q

-- some image of the position was checked, itself perhaps
pub record HasCheckedImage (tables : StoredTables) (p : Position) : Type 0 where
  pub symmetries : List Symmetry
  pub image : Position
  pub is : IsImageBy symmetries p image
  pub checked : IsTrue (is_checked tables image)
