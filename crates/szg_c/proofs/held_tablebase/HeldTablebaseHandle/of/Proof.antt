-- `of` keeps the pointer.
use Rattle.szg_c.specs.contracts.held_tablebase.HeldTablebaseHandle.of.Key.{name as #self}
use Rattle.szg_c.proofs.held_tablebase.HeldTablebaseHandle.of.Statement.{statement}
use Rattle.szg_c.proofs.held_tablebase.HeldTablebaseHandle.of.Code as code
use Rattle.szg_c.proofs.HandleWalks.{of_meets}
use Rattle.szg_c.proofs.TablebaseKind.{kind}

pub of_spec : {M : Type 1} → statement M
of_spec 𝓤 𝓛 𝓜 𝓡 wired = of_meets kind 𝓤 𝓛 𝓜 𝓡 #self (code.unfolded 𝓤 𝓛.H 𝓜 𝓡 wired)
