-- A sparse index that the builder computes: each entry leads to the middle of its span.
use Rattle.std.proofs.Common.{ℕ, zero, suc, ◌≡◌, ◌+◌, ◌-◌, ◌≤◌, List, [], ◌∷◌, ◌++◌, length, refl, ap, Some}
use Rattle.std.specs.List.{slice_get, sum_by}
use Rattle.std.proofs.lemmas.List.{take-append-le}
use Rattle.szg_block.specs.Layout.{SparseEntry}
use Rattle.szg_block.specs.Block.{start}

-- lengths after those of the blocks do not move the blocks
pub start-front : (lengths extra : List ℕ) (j : ℕ) → j ≤ length lengths → start (lengths ++ extra) j ≡ start lengths j
unfolding start
start-front lengths extra j h = ap (sum_by (λ n. n + 1)) (take-append-le j lengths extra h)

found : {P : Type 0} (front : List SparseEntry) (entry : SparseEntry) (j : ℕ) (e : SparseEntry) → slice_get (front ++ entry ∷ []) j ≡ Some e →
    (slice_get front j ≡ Some e → P) → (j ≡ length front → entry ≡ e → P) → P
found [] entry zero e there inside last = last refl cc
found [] entry (suc j) e there inside last = absurd cc
found (x ∷ front) entry zero e there inside last = inside there
found (x ∷ front) entry (suc j) e there inside last = found front entry j e there inside (λ h same. last (ap suc h) same)
