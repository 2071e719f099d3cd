-- `into_loose` reads the pointer.
use Rattle.szg_c.specs.contracts.held_tablebase.HeldTablebaseHandle.into_loose.Key.{name as #self}
use Rattle.szg_c.proofs.held_tablebase.HeldTablebaseHandle.into_loose.Statement.{statement}
use Rattle.szg_c.proofs.held_tablebase.HeldTablebaseHandle.into_loose.Code as code
use Rattle.szg_c.proofs.HandleWalks.{into_loose_meets}
use Rattle.szg_c.proofs.TablebaseKind.{kind}

pub into_loose_spec : {M : Type 1} → statement M
into_loose_spec 𝓤 𝓛 𝓜 𝓡 wired = into_loose_meets kind 𝓤 𝓛 𝓜 𝓡 #self (code.unfolded 𝓤 𝓛.H 𝓜 𝓡 wired)
