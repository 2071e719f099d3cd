use Rattle.std.proofs.Common.{◌≡◌, ◌∙◌, ◌*◌, ◌<◌, ℕ, zero, suc, Bool, true, false, ap, refl, arith}
use Rattle.std.specs.Prelude.{bit_or, not, if◌then◌else◌}
use Rattle.std.specs.Int.{from_bool}
use Rattle.szg_values.specs.Men.{is_color}
use Rattle.szg_chess.proofs.tables.reach_number_by.Goals as goal

numbered : (own : Bool) (n : ℕ) → n < 7 → bit_or n (7 * from_bool (not own)) ≡ (if own then n else 7)
numbered true zero h = refl
numbered true (suc zero) h = refl
numbered true (suc (suc zero)) h = refl
numbered true (suc (suc (suc zero))) h = refl
numbered true (suc (suc (suc (suc zero)))) h = refl
numbered true (suc (suc (suc (suc (suc zero))))) h = refl
numbered true (suc (suc (suc (suc (suc (suc zero)))))) h = refl
numbered true (suc (suc (suc (suc (suc (suc (suc n))))))) h = absurd (omega (arith, h))
numbered false zero h = refl
numbered false (suc zero) h = refl
numbered false (suc (suc zero)) h = refl
numbered false (suc (suc (suc zero))) h = refl
numbered false (suc (suc (suc (suc zero)))) h = refl
numbered false (suc (suc (suc (suc (suc zero))))) h = refl
numbered false (suc (suc (suc (suc (suc (suc zero)))))) h = refl
numbered false (suc (suc (suc (suc (suc (suc (suc n))))))) h = absurd (omega (arith, h))

small : (own : Bool) (n m : ℕ) → n < 7 → m ≡ (if own then n else 7) → m < 8
small true n m h e = omega (arith, h, e)
small false n m h e = omega (arith, e)

pub returns-clause-number : goal.returns-clause-number
returns-clause-number c =
    let n = c.reach_number.result in let man = c.args.man.now in
    ap (λ (b : ℕ). bit_or n (7 * b)) c.from.ensures ∙ numbered c.is_of.result n c.reach_number.ensures.small
    ∙ ap (λ (b : Bool). if b then n else 7) c.is_of.ensures
    ∙ ap (λ (k : ℕ). if is_color c.args.color man.1 then k else 7) c.reach_number.ensures.number

pub returns-clause-small : goal.returns-clause-small
returns-clause-small c =
    let n = c.reach_number.result in
    small c.is_of.result n _ c.reach_number.ensures.small (ap (λ (b : ℕ). bit_or n (7 * b)) c.from.ensures ∙ numbered c.is_of.result n c.reach_number.ensures.small)
