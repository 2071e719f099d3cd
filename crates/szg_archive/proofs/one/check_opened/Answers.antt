use Rattle.std.proofs.Common.{◌≡◌, ◌∷◌, [], ℕ, List, Ok, arith, length, rules, subst}
use Rattle.szg_io.specs.Moved.{Takes}
use Rattle.szg_values.specs.Material.{Sides}
use Rattle.szg_file.specs.WholeRead.{IsFileRead}
use Rattle.szg_archive.proofs.one.check_opened.Goals as goal

one_of : (P : List ℕ → Type 0) (l : List ℕ) → length l ≡ 1 → P l → (byte : ℕ) × P (byte ∷ [])
one_of P [] one h = absurd (cc one)
one_of P (byte ∷ []) one h = (byte, h)
one_of P (byte ∷ next ∷ l) one h = absurd (omega (arith, one))

-- bytes follow the table
pub returns-in-Ok-take_whole : goal.returns-in-Ok-take_whole
returns-in-Ok-take_whole g c =
    let scanned = c.in-Ok.ensures.scanned in
    let read = subst (λ (m : Sides). IsFileRead g.F.Input m c.args.kind c.args.file.now c.scan.new.input (Ok scanned.table)) c.copy.ensures scanned.read in
    let chunk : List ℕ = c.take_whole.new.chunk in
    let one : length chunk ≡ 1 = search rules in
    let whole : c.in-Ok-take_whole.field-0 ≡ length chunk = omega (arith, one, c.in-Ok-take_whole.ensures.within, c.in-Ok-take_whole.field-0-test.1) in
    let next = one_of (λ l. Takes g.F.Input c.scan.new.input c.take_whole.new.input l 0) chunk one (c.in-Ok-take_whole.ensures.ok whole) in
    (c.scan.new.input, scanned.table, read, scanned.length_is, next.0, next.1)
