-- A table whose file was read.
use Rattle.std.proofs.Common.{ℕ, List, subst, Ok}
use Rattle.szg_io.specs.Moved.{Takes}
use Rattle.szg_io.specs.declared.device.Input.{Ghosts}
use Rattle.szg_values.specs.Material.{Sides}
use Rattle.szg_values.specs.declared.Kind.{Kind}
use Rattle.szg_file.specs.Held.{Shown, file_bytes}
use Rattle.szg_file.specs.WholeRead.{IsFileRead}

-- just its file was read
pub file_taken : {R : Type 0} (device : Ghosts R) (material : Sides) (kind : Kind) (old new : R) (t : Shown) → IsFileRead device material kind old new (Ok t) → Takes device old new (file_bytes t) 1
file_taken device material kind old new t h = subst (λ (z : List ℕ). Takes device old new z 1) h.took h.taken
