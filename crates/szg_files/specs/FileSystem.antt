-- The effect of opening a path.
use Rattle.std.specs.Prelude.{◌≡◌, ℕ, List, [], Option, Some, IfSome}
use Rattle.szg_io.specs.declared.device.Input as input

-- A system opens a path: the file is at its first byte, and its remaining bytes are those that the system specifies
-- for the path.
pub record IsOpened {S F : Type 0} (content : S → List ℕ → Option (List ℕ)) (failures : S → ℕ) (device : input.Ghosts F)
    (system system' : S) (path : List ℕ) (file : F) : Type 0 where
  pub unread : device.moved file ≡ []
  pub coming : IfSome (content system path) (λ bytes. device.coming file ≡ Some bytes)
  pub kept : content system' ≡ content system
  pub quiet : failures system' ≡ failures system
