-- Bytes that were taken after a skip.
use Rattle.std.proofs.Common.{◌≡◌, ℕ, List, length, take, drop, sym, subst, ap, ◌∙◌, Option, Some, None}
use Rattle.std.proofs.Math.Seq.{take-append_seam}
use Rattle.std.specs.Prelude.{IfSome}
use Rattle.std.specs.Io.KnownBytes.{Consumes}

taken_first : (xs bytes : List ℕ) (left : Option (List ℕ)) → Consumes (Some xs) left bytes → bytes ≡ take (length bytes) xs
taken_first xs bytes None h = absurd h
taken_first xs bytes (Some ys) h = sym (ap (λ (z : List ℕ). take (length bytes) z) h ∙ take-append_seam bytes ys)

pub range_known : (coming rest left : Option (List ℕ)) (skipped : ℕ) (bytes : List ℕ) → IfSome coming (λ xs. rest ≡ Some (drop skipped xs)) → Consumes rest left bytes →
    IfSome coming (λ xs. bytes ≡ take (length bytes) (drop skipped xs))
range_known None rest left skipped bytes skips h = tt
range_known (Some xs) rest left skipped bytes skips h = taken_first (drop skipped xs) bytes left (subst (λ (o : Option (List ℕ)). Consumes o left bytes) skips h)
