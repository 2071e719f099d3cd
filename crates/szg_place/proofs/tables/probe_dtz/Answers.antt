use Rattle.std.proofs.Common.{◌≡◌, ℕ, refl, subst}
use Rattle.std.proofs.lemmas.Int.{to_z-of_z}
use Rattle.std.specs.Prelude.{IsNone, IsSomeAnd, MatchResult, Result, ℤ, Ok, Err}
use mir.Syntax.{w8}
use Rattle.szg_values.specs.Placement.{Board}
use Rattle.szg_file.specs.Contents.{Contents}
use Rattle.szg_file.specs.Index.{index_of}
use Rattle.szg_file.specs.declared.fault.MapFault.{MapFault}
use Rattle.szg_place.specs.Probes.{as_number}
use Rattle.szg_place.specs.Spots.{place_fault, spot_of}
use Rattle.szg_place.specs.Tables.{mapped_number, numbering_of, value_at}
use Rattle.szg_place.specs.declared.ProbeFault.{ProbeFault}
use Rattle.szg_place.specs.declared.ProbeFault.TheVariants.{Map}
use Rattle.szg_place.proofs.Indexes.Probed.{meant_map, number_told}
use Rattle.szg_place.proofs.tables.probe_dtz.Goals as goal

-- what the table ensures of a result, by the placement
abbrev IsNumbered : Contents → ℤ → Result ℕ ProbeFault → Board → Type 0
IsNumbered t class r board = let spot = spot_of (numbering_of t) board in
    IsNone (place_fault (numbering_of t) board) → IsSomeAnd (value_at t spot) (λ v. MatchResult (mapped_number t spot.part class v) (λ n. r ≡ Ok n) (λ fault. r ≡ Err (Map fault)))

pub returns-in-Ok-clause-number : goal.returns-in-Ok-clause-number
returns-in-Ok-clause-number c = subst (IsNumbered c.args.table.now.contents c.args.class (Ok c.in-Ok.number)) c.of.ensures (λ none.
    let t = c.args.table.now.contents in let spot = spot_of (numbering_of t) c.of.result in let h = c.in-Ok.ensures.number none in
    number_told t c.args.table.now.filled spot.part c.args.class h.0 (value_at t spot) (Ok c.in-Ok.number)
    (λ (m : Result ℕ MapFault). MatchResult m (λ n. ◌≡◌ {A = Result ℕ ProbeFault} (Ok c.in-Ok.number) (Ok n)) (λ fault. ◌≡◌ {A = Result ℕ ProbeFault} (Ok c.in-Ok.number) (Err (Map fault))))
    c.table_fits.ensures h.1 (subst (λ (z : ℤ). as_number (index_of t) spot.part z h.0 ≡ Ok c.in-Ok.number) (to_z-of_z w8 c.args.class c.ranges.class) h.2) refl)

pub returns-in-Err-Map-clause-number : goal.returns-in-Err-Map-clause-number
returns-in-Err-Map-clause-number c = subst (IsNumbered c.args.table.now.contents c.args.class (Err (Map c.in-Err-Map.fault))) c.of.ensures (λ none.
    let t = c.args.table.now.contents in let spot = spot_of (numbering_of t) c.of.result in let h = meant_map _ _ _ c.in-Err-Map.field-0 c.in-Err-Map.fault c.in-Err-Map.field-0-is (c.in-Err-Map.ensures.number none) in
    number_told t c.args.table.now.filled spot.part c.args.class h.0 (value_at t spot) (Err c.in-Err-Map.fault)
    (λ (m : Result ℕ MapFault). MatchResult m (λ n. ◌≡◌ {A = Result ℕ ProbeFault} (Err (Map c.in-Err-Map.fault)) (Ok n)) (λ fault. ◌≡◌ {A = Result ℕ ProbeFault} (Err (Map c.in-Err-Map.fault)) (Err (Map fault))))
    c.table_fits.ensures h.1 (subst (λ (z : ℤ). as_number (index_of t) spot.part z h.0 ≡ Err c.in-Err-Map.fault) (to_z-of_z w8 c.args.class c.ranges.class) h.2) refl)
