-- The plan of a dump, and why it is refused.
use Rattle.std.proofs.Common.{◌≡◌, ◌⊎◌, Option, None, Some, subst, inl, inr}
use Rattle.szg_file.specs.Contents.{Contents}
use Rattle.szg_build.specs.Chosen.{plan_by, IsBuiltAs}
use Rattle.szg_build.specs.Dump.{Dump}
use Rattle.szg_build.specs.Plan.{build_fault}
use Rattle.szg_build.specs.declared.BuildFault.{BuildFault}
use Rattle.szg_build.specs.declared.BuildFault.TheVariants as faults
use Rattle.szg_subtable.specs.declared.building.Choice.{Choice}
use Rattle.szg_answers.specs.Builds.{IsBuiltIn, IsRefusedPlan}
use Rattle.szg_answers.specs.declared.refusal.Refusal.{Refusal}

-- the table of a dump, or the refusal of its plan, by an equal choice
pub built_of : (packing choice : Choice) (dump : Dump) (t : Contents) → choice ≡ packing → build_fault (plan_by choice dump) dump.lists ≡ None → IsBuiltAs choice (plan_by choice dump) dump.lists t →
    IsBuiltIn packing dump t
built_of packing choice dump t e n h = (subst (λ (z : Choice). build_fault (plan_by z dump) dump.lists ≡ None) e n, subst (λ (z : Choice). IsBuiltAs z (plan_by z dump) dump.lists t) e h)

pub refused_of : (packing choice : Choice) (dump : Dump) (refusal : Refusal) → choice ≡ packing → IsRefusedPlan (plan_by choice dump) dump.lists refusal → IsRefusedPlan (plan_by packing dump) dump.lists refusal
refused_of packing choice dump refusal e h = subst (λ (z : Choice). IsRefusedPlan (plan_by z dump) dump.lists refusal) e h

-- a fault that isn't want of memory is the one that is due
pub due_of : (o : Option BuildFault) (f : BuildFault) → (f ≡ faults.Memory → ⊥) → (f ≡ faults.Memory) ⊎ (o ≡ Some f) → o ≡ Some f
due_of o f other (inl e) = absurd (other e)
due_of o f other (inr e) = e
