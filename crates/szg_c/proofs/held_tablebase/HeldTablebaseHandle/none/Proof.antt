-- `none` holds nothing.
use Rattle.szg_c.specs.contracts.held_tablebase.HeldTablebaseHandle.none.Key.{name as #self}
use Rattle.szg_c.proofs.held_tablebase.HeldTablebaseHandle.none.Statement.{statement}
use Rattle.szg_c.proofs.held_tablebase.HeldTablebaseHandle.none.Code as code
use Rattle.szg_c.proofs.HandleWalks.{none_meets}
use Rattle.szg_c.proofs.TablebaseKind.{kind}

pub none_spec : {M : Type 1} → statement M
none_spec 𝓤 𝓛 𝓜 𝓡 wired = none_meets kind 𝓤 𝓛 𝓜 𝓡 #self (code.unfolded 𝓤 𝓛.H 𝓜 𝓡 wired)
