use Rattle.std.proofs.Common.{◌≡◌, ℕ, List, refl, sym, ap, ◌∙◌, map, arith, subst, take}
use Rattle.std.proofs.lemmas.List.{length-map, take_all}
use Rattle.szg_block.specs.Subtable.{packed_of, IsShaped, IsSoundOver}
use Rattle.szg_block.specs.declared.Sub.{Sub}
use Rattle.szg_file.specs.Accepted.{SideBySide, IsSubtable}
use Rattle.szg_file.specs.Contents.{Slot}
use Rattle.szg_file.specs.Held.{subtable_of}
use Rattle.szg_file.proofs.Tables.TableFinds.{shaped_and_sound, side_lengths}
use Rattle.szg_file.proofs.Tables.AssembledLaws.{fault_excludes, never, sub_standing, side_next, side_here, side_shown_right, side_held_right}
use Rattle.szg_file.proofs.passing.are_subs_valid.Goals as goal

-- a subtable passes the checks of its slot
abbrev Stands : Slot → Sub → Type 0
Stands slot sub = IsSubtable slot (subtable_of sub)

pub returns-then-slots-subs : goal.returns-then-slots-subs
returns-then-slots-subs c =
    (never, λ h. absurd (c.if-slots-subs.true (side_lengths IsSubtable c.args.slots.now (map subtable_of c.args.subs.now) h ∙ length-map c.args.subs.now subtable_of)))

pub returns-then-not-shaped : goal.returns-then-not-shaped
returns-then-not-shaped c =
    let size : c.slot.inside.size ≡ c.index-slots-n.result.size = ap (λ (slot : Slot). slot.size) c.slot.view_is in (
      never,
      λ h. c.if-not-shaped.ensures.1
          (subst (λ (k : ℕ). IsShaped c.index-subs-n.result k) (sym size) (shaped_and_sound c.index-slots-n.result c.index-subs-n.result
          (side_here Stands c.args.slots.now c.args.subs.now c.subs.n c.index-slots-n.result c.index-subs-n.result (omega (arith, c.if-slots-subs.false)) c.subs-test.true
          c.index-slots-n.is c.index-subs-n.is (side_held_right IsSubtable subtable_of c.args.slots.now c.args.subs.now h))).0),
    )

pub returns-in_default : goal.returns-in_default
returns-in_default c =
    let size : c.slot.inside.size ≡ c.index-slots-n.result.size = ap (λ (slot : Slot). slot.size) c.slot.view_is in (
      never,
      λ h. absurd (fault_excludes c.index-subs-n.result c.slot.inside.size _ c.in_default.ensures.fault
          (subst (λ (k : ℕ). IsSoundOver c.index-subs-n.result (packed_of c.index-subs-n.result) k) (sym size) (shaped_and_sound c.index-slots-n.result c.index-subs-n.result
          (side_here Stands c.args.slots.now c.args.subs.now c.subs.n c.index-slots-n.result c.index-subs-n.result (omega (arith, c.if-slots-subs.false)) c.subs-test.true
          c.index-slots-n.is c.index-subs-n.is (side_held_right IsSubtable subtable_of c.args.slots.now c.args.subs.now h))).1)),
    )

pub subs-preserved : goal.subs-preserved
subs-preserved c =
    let size : c.slot.inside.size ≡ c.index-slots-n.result.size = ap (λ (slot : Slot). slot.size) c.slot.view_is in
    side_next Stands c.args.slots.now c.args.subs.now c.subs.n c.index-slots-n.result c.index-subs-n.result (omega (arith, c.if-slots-subs.false)) c.subs-test.true
    c.index-slots-n.is c.index-subs-n.is c.subs.invariant
    (sub_standing c.index-slots-n.result c.index-subs-n.result c.sub_fits.ensures
    (subst (λ (k : ℕ). IsShaped c.index-subs-n.result k) size (c.if-not-shaped.ensures.0 refl))
    (subst (λ (k : ℕ). IsSoundOver c.index-subs-n.result (packed_of c.index-subs-n.result) k) size c.in-Ok.ensures.ok))

pub returns : goal.returns
returns c =
    let n : ℕ = c.subs.n in (
      λ h. side_shown_right IsSubtable subtable_of c.args.slots.now c.args.subs.now
          (subst (λ (z : List Slot). SideBySide Stands z c.args.subs.now) (take_all n c.args.slots.now (omega (arith, c.if-slots-subs.false)))
          (subst (λ (z : List Sub). SideBySide Stands (take n c.args.slots.now) z) (take_all n c.args.subs.now (omega arith)) c.subs.invariant)),
      λ h. refl,
    )
