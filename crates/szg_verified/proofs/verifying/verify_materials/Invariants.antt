use Rattle.std.proofs.Common.{◌≡◌, ◌⊎◌, true, All, Contains, take}
use Rattle.szg_values.specs.Material.{Sides}
use Rattle.szg_game.specs.Game.{is_empty}
use Rattle.szg_verified.specs.Verified.{IsCaused, IsCheckedIn, IsLoggedIn}
use Rattle.szg_verified.proofs.verifying.verify_materials.Given as goal

abbrev pub invariant-materials : goal.invariant-materials
invariant-materials g l = record {
  checked : is_empty l.unverified.items ≡ true → (sides : Sides) → Contains (take l.material-index l.materials) sides → IsCheckedIn l.tables sides ⊎ Contains l.logged.items sides;
  caused : All (IsCaused l.tables l.materials l.unverified.items) l.unverified.items;
  logged : All (IsLoggedIn l.log l.tables) l.logged.items;
}
