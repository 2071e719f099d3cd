-- A list whose parts are written one after another.
use Rattle.std.proofs.Common.{ℕ, ◌≡◌, ◌+◌, ◌-◌, ◌≤◌, min, List, [], ◌++◌, length, take, drop, replicate, ap, sym, ◌∙◌, arith, append-nil, append_assoc, length-take, length-append}
use Rattle.std.proofs.lemmas.List.{take_at, take_all, drop_all, length-drop}
use Rattle.szg_block.proofs.Joined.{take-append_both}
use borrow.Rule.Slice.PartMut.{put_mid, post_of}

-- k more items after the first `at` ones: those of xs, as far as there is room
pub more_fits : (at k : ℕ) (values ys : List ℕ) → at + k ≤ length values → length ys ≡ k → length (put_mid at (at + k - at) values ys) ≡ length values
more_fits at k values ys within long =
    let rest : List ℕ = post_of at (at + k - at) values in
    omega (arith, long, length-append (take at values) (ys ++ rest), length-append ys rest, length-take at values, length-drop (at + k - at) (drop at values), length-drop at values)

pub front_written : (at k : ℕ) (values ys : List ℕ) → at ≤ length values → length ys ≡ k → take (at + k) (put_mid at (at + k - at) values ys) ≡ take at values ++ ys
front_written at k values ys there long =
    let after : List ℕ = post_of at (at + k - at) values in
    ap (take (at + k)) (sym (append_assoc (take at values) ys after)) ∙ take_at (take at values ++ ys) after (at + k) (omega (arith, long, length-append (take at values) ys, length-take at values))

pub more_written : (at k : ℕ) (values xs ys rest : List ℕ) → at ≤ length values → k ≡ min (length xs) (length values - at) → ys ≡ take k xs
    → take (at + k) (put_mid at (at + k - at) values ys) ++ take (length (put_mid at (at + k - at) values ys) - (at + k)) rest ≡ take at values ++ take (length values - at) (xs ++ rest)
more_written at k values xs ys rest there are first =
    let long : length ys ≡ k = omega (arith, ap (λ u. length u) first, length-take k xs, are) in
    let left : length (put_mid at (at + k - at) values ys) - (at + k) ≡ (length values - at) - k = omega (arith, more_fits at k values ys (omega (arith, are, there)) long) in
    ap (λ u. u ++ take (length (put_mid at (at + k - at) values ys) - (at + k)) rest) (front_written at k values ys there long)
    ∙ ap (λ m. (take at values ++ ys) ++ take m rest) left
    ∙ ap (λ u. (take at values ++ u) ++ take ((length values - at) - k) rest) first
    ∙ take-append_both (take at values) xs rest (length values - at) k are

-- the room for k items
pub room_is : (at k : ℕ) (values : List ℕ) → at + k ≤ length values → length (take (at + k - at) (drop at values)) ≡ k
room_is at k values within = omega (arith, length-take (at + k - at) (drop at values), length-drop at values)

-- ---- the items after the first `at`, up to the end

pub rest_room : (at count : ℕ) (values : List ℕ) → length values ≡ at + count → length (take (length values - at) (drop at values)) ≡ count
rest_room at count values long = omega (arith, length-take (length values - at) (drop at values), length-drop at values)

-- a list that was made longer begins with what it had
pub kept_first : (before old : List ℕ) (at count k : ℕ) → before ≡ take (at + count) old ++ replicate k 0 → length old ≡ at → take at before ≡ old
kept_first before old at count k is long =
    let all : take (at + count) old ≡ old = take_all (at + count) old (omega (arith, long)) in
    ap (λ u. take at u) (is ∙ ap (λ u. u ++ replicate k 0) all) ∙ take_at old (replicate k 0) at long

pub rest_written : (before new more old ys : List ℕ) (at count len : ℕ) → length before ≡ at + count → length new ≡ count → len ≡ at + count → take at before ≡ old → new ≡ ys →
    take len ((take at before ++ (new ++ drop (length before - at) (drop at before))) ++ more) ≡ old ++ ys
rest_written before new more old ys at count len long sized whole kept is =
    let none : drop (length before - at) (drop at before) ≡ [] = drop_all (length before - at) (drop at before) (omega (arith, length-drop at before)) in
    let all : take at before ++ (new ++ drop (length before - at) (drop at before)) ≡ old ++ ys =
    ap (λ u. take at before ++ (new ++ u)) none ∙ ap (λ u. take at before ++ u) (append-nil new) ∙ ap (λ u. u ++ new) kept ∙ ap (λ u. old ++ u) is in
    ap (λ u. take len (u ++ more)) all
    ∙ take_at (old ++ ys) more len (omega (arith, long, sized, whole, length-append old ys, ap (λ u. length u) kept, length-take at before, ap (λ u. length u) is))
