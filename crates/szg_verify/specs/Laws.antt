-- Laws over the definitions.
use Rattle.std.specs.Prelude.{ℕ, ◌≡◌, Bool, ◌&&◌, nat_lt, nat_le, List, length, IsTrue, Some, None, if◌then◌else◌}
use Rattle.szg_values.specs.Placement.{PlacedMan}
use Rattle.szg_game.specs.declared.Class.{Class}
use Rattle.szg_game.specs.declared.Entry.{Entry}
use Rattle.szg_chess.specs.Position.{Position, IsPosition}
use Rattle.szg_probe.specs.Chess.{ChessClass}
use Rattle.szg_probe.specs.Probing.{StoredClasses, AreTrue, probed}
use Rattle.szg_verify.specs.Entries.{StoredTables, entry_of}
use Rattle.szg_verify.specs.Verified.{IsClosed, IsVerified, IsChecked, AreSymmetric, HasCheckedImage, is_checked}

-- each covered position has the class of its entry
abbrev pub EntriesAreTrue : Type 0
EntriesAreTrue = (tables : StoredTables) (covers : List PlacedMan → Bool) (p : Position) (e : Entry) → IsVerified tables covers → IsPosition p → IsTrue (covers p.placed_men) →
    entry_of tables p ≡ Some e → ChessClass p e.class

-- what is probed of a covered position, with an en passant square or without, is its class
abbrev pub ProbedIsTrue : Type 0
ProbedIsTrue = (tables : StoredTables) (covers : List PlacedMan → Bool) (p : Position) (k : Class) → IsVerified tables covers → IsPosition p → IsTrue (covers p.placed_men) →
    probed tables.classes p ≡ Some k → ChessClass p k

-- The test of each position is enough: it takes the whole entry after a move only if the move is not zeroing.
abbrev pub CheckedIsVerified : Type 0
CheckedIsVerified = (tables : StoredTables) (covers : List PlacedMan → Bool) → IsChecked tables covers → IsVerified tables covers

-- If each covered position was checked, a probe of a covered position, with an en passant square or without, says its
-- class.
abbrev pub CheckedIsTrue : Type 0
CheckedIsTrue = (tables : StoredTables) (covers : List PlacedMan → Bool) (p : Position) → IsChecked tables covers → IsPosition p → IsTrue (covers p.placed_men) →
    (k : Class) × (probed tables.classes p ≡ Some k) × ChessClass p k

-- the stored classes of covered men, but not of two kings
abbrev pub stored_within : StoredClasses → (List PlacedMan → Bool) → StoredClasses
stored_within classes covers men mover =
    if covers men && nat_lt 2 (length men) then classes men mover else None

-- These are true.
abbrev pub StoredAreTrue : Type 0
StoredAreTrue = (tables : StoredTables) (covers : List PlacedMan → Bool) → IsVerified tables covers → AreTrue (stored_within tables.classes covers)

-- Men up to a number are closed under moves.
abbrev pub ClosedByCount : Type 0
ClosedByCount = (most : ℕ) → IsClosed (λ men. nat_le (length men) most)

-- It is enough to check one position of each set of images, if the tables store the same for images.
abbrev pub CheckedByImages : Type 0
CheckedByImages = (tables : StoredTables) (covers : List PlacedMan → Bool) → IsClosed covers → AreSymmetric tables →
    ((p : Position) → IsPosition p → p.en_passant ≡ None → IsTrue (covers p.placed_men) → HasCheckedImage tables p) → IsChecked tables covers

-- Two kings alone pass, whatever the tables store.
abbrev pub KingsAreChecked : Type 0
KingsAreChecked = (tables : StoredTables) (p : Position) → IsPosition p → length p.placed_men ≡ 2 → IsTrue (is_checked tables p)
