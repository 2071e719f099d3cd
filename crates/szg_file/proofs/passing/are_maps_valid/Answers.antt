use Rattle.std.proofs.Common.{ℕ, List, refl, sym, ◌∙◌, map, arith, subst, take, Option}
use Rattle.std.specs.Prelude.{option_map}
use Rattle.std.proofs.lemmas.List.{length-map, take_all}
use Rattle.szg_block.specs.declared.Sub.{Sub}
use Rattle.szg_file.specs.declared.table.Map.{Map}
use Rattle.szg_file.specs.Accepted.{SideBySide, IsMapOf}
use Rattle.szg_file.specs.Held.{subtable_of, map_of}
use Rattle.szg_file.proofs.Tables.TableFinds.{side_lengths}
use Rattle.szg_file.proofs.Tables.AssembledLaws.{never, side_next, side_here, side_shown, side_held}
use Rattle.szg_file.proofs.passing.are_maps_valid.Goals as goal

-- a map passes the checks of its part's subtable
abbrev Stands : Sub → Option Map → Type 0
Stands sub item = IsMapOf (subtable_of sub) (option_map map_of item)

pub returns-then-subs-maps : goal.returns-then-subs-maps
returns-then-subs-maps c =
    rw c.in-Dtz.is (never, λ h. absurd (c.if-subs-maps.true (sym (length-map c.args.subs.now subtable_of) ∙ side_lengths IsMapOf (map subtable_of c.args.subs.now) (map (option_map map_of) c.args.maps.now) h ∙ length-map c.args.maps.now (option_map map_of))))

pub returns-then-not-is_map_valid : goal.returns-then-not-is_map_valid
returns-then-not-is_map_valid c = rw c.in-Dtz.is (
  never,
  λ h. c.if-not-is_map_valid.ensures.1
      (side_here Stands c.args.subs.now c.args.maps.now c.maps.n c.index-subs-n.result c.index-maps-n.result (omega (arith, c.if-subs-maps.false)) c.maps-test.true
      c.index-subs-n.is c.index-maps-n.is (side_held IsMapOf subtable_of (option_map map_of) c.args.subs.now c.args.maps.now h)),
)

pub maps-preserved : goal.maps-preserved
maps-preserved c =
    side_next Stands c.args.subs.now c.args.maps.now c.maps.n c.index-subs-n.result c.index-maps-n.result (omega (arith, c.if-subs-maps.false)) c.maps-test.true
    c.index-subs-n.is c.index-maps-n.is c.maps.invariant (c.if-not-is_map_valid.ensures.0 refl)

pub returns-after-maps : goal.returns-after-maps
returns-after-maps c =
    let n : ℕ = c.maps.n in rw c.in-Dtz.is (
      λ h. side_shown IsMapOf subtable_of (option_map map_of) c.args.subs.now c.args.maps.now
          (subst (λ (z : List Sub). SideBySide Stands z c.args.maps.now) (take_all n c.args.subs.now (omega (arith, c.if-subs-maps.false)))
          (subst (λ (z : List (Option Map)). SideBySide Stands (take n c.args.subs.now) z) (take_all n c.args.maps.now (omega arith)) c.maps.invariant)),
      λ h. refl,
    )
