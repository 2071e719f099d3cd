-- Sequences of formats, and the formats of the items of a list: laws for the loops over parts, subtables and
-- blocks.
use Rattle.std.proofs.Common.{◌≡◌, List, [], ◌∷◌, ◌++◌, refl, sym, ap, ◌∙◌}
use Rattle.szg_file.specs.Format.{Format, means, refuses, field, fill, placed, ◌>>=◌}
use Rattle.szg_file.specs.File.{each}

-- associativity: three formats in sequence
pub then-then : {A B C : Type 0} (f : Format A) (g : A → Format B) (h : B → Format C) → (f >>= g) >>= h ≡ f >>= (λ a. g a >>= h)
then-then (means a) g h = refl
then-then (refuses place reason) g h = refl
then-then (field size next) g h = λ i. field size (λ bytes. then-then (next bytes) g h i)
then-then (fill size next) g h = ap (fill size) (then-then next g h)
then-then (placed next) g h = λ i. placed (λ place. then-then (next place) g h i)

-- `means` is the neutral element
pub then-means : {A : Type 0} (f : Format A) → f >>= means ≡ f
then-means (means a) = refl
then-means (refuses place reason) = refl
then-means (field size next) = λ i. field size (λ bytes. then-means (next bytes) i)
then-means (fill size next) = ap (fill size) (then-means next)
then-means (placed next) = λ i. placed (λ place. then-means (next place) i)

-- the items of two lists, one after the other
pub each-append : {A B : Type 0} (f : A → Format B) (xs ys : List A) → each f (xs ++ ys) ≡ each f xs >>= (λ us. each f ys >>= λ bs. means (us ++ bs))
each-append f [] ys = sym (then-means (each f ys))
each-append f (x ∷ xs) ys =
    ap (λ (h : Format (List _)). f x >>= λ b. h >>= λ bs. means (b ∷ bs)) (each-append f xs ys)
    ∙ ap (λ (k : _ → Format (List _)). f x >>= k)
    (λ i b. (then-then (each f xs) (λ us. each f ys >>= λ bs. means (us ++ bs)) (λ cs. means (b ∷ cs))
    ∙ ap (λ (k : List _ → Format (List _)). each f xs >>= k) (λ i us. then-then (each f ys) (λ bs. means (us ++ bs)) (λ cs. means (b ∷ cs)) i)) i)
    ∙ sym (then-then (f x) (λ b. each f xs >>= λ us. means (b ∷ us)) (λ us. each f ys >>= λ bs. means (us ++ bs))
    ∙ ap (λ (k : _ → Format (List _)). f x >>= k) (λ i b. then-then (each f xs) (λ us. means (b ∷ us)) (λ us. each f ys >>= λ bs. means (us ++ bs)) i))

-- one more item, as a loop reads it
pub each-more : {A B : Type 0} (f : A → Format B) (xs : List A) (x : A) → each f (xs ++ x ∷ []) ≡ each f xs >>= (λ us. f x >>= λ b. means (us ++ b ∷ []))
each-more f xs x =
    each-append f xs (x ∷ [])
    ∙ ap (λ (k : List _ → Format (List _)). each f xs >>= k)
    (λ i us. then-then (f x) (λ b. means (b ∷ [])) (λ bs. means (us ++ bs)) i)
