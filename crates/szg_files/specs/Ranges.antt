-- The bytes of a range of a file.
use Rattle.std.specs.Prelude.{◌≡◌, ◌⊎◌, ℕ, List, [], drop, length, take, None, Some, IfSome}
use Rattle.szg_io.specs.Device.{HasFailed}
use Rattle.szg_io.specs.Moved.{Takes}
use Rattle.szg_io.specs.declared.device.Input as input

-- The next `skipped` bytes of a file were skipped, and just these bytes were taken after them.
pub record IsRangeOf {F : Type 0} (device : input.Ghosts F) (file : F) (skipped : ℕ) (bytes : List ℕ) : Type 0 where
  pub known : IfSome (device.coming file) (λ coming. bytes ≡ take (length bytes) (drop skipped coming))
  pub rest : F
  pub unread : device.moved rest ≡ []
  pub coming : IfSome (device.coming file) (λ coming. device.coming rest ≡ Some (drop skipped coming))
  pub ended : F
  pub taken : Takes device rest ended bytes 0

-- The system or the file failed: the bytes that come are not known, or a read failed, from that file on or from a place
-- in it.
abbrev pub HasFailedIn : {F : Type 0} → input.Ghosts F → F → Type 0
HasFailedIn {F = F} device file = (device.coming file ≡ None) ⊎ ((reading : F) × (read : F) × HasFailed (device.failures reading) (device.failures read) (device.interrupted read))
