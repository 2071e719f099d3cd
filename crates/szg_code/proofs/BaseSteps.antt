-- Invariants of the computation of bases, from the greatest length down.
use Rattle.std.proofs.Common.{ℕ, suc, ◌≡◌, ◌≢◌, ◌+◌, ◌-◌, ◌*◌, ◌/◌, ◌%◌, ◌^◌, ◌<◌, ◌≤◌, inl, inr, List, length, get_or, set, ap, sym, ◌∙◌, subst, arith}
use Rattle.std.specs.List.{slice_index}
use Rattle.std.proofs.lemmas.Bool.{cases_lt}
use Rattle.std.proofs.lemmas.List.{get_or-set_other, get_or_read}
use Rattle.std.proofs.lemmas.Grind.{get_or-set_at}
use Rattle.std.proofs.lemmas.Nat.{pow-add, shl_whole}
use Rattle.std.proofs.Math.Nat.{mul-le-mul_right, pow-le-pow_right}
use Rattle.std.proofs.Math.Pow.{pow_pos}
use Rattle.szg_code.specs.Canonical.{CanonicalCode, base, lowest_of}
use Rattle.szg_code.specs.Acceptance.{HasLengths, IsOrderedAt, HasRoomAt, IsCode, IsLastOverfull}
use Rattle.szg_code.specs.Least.{shifted_base}
use Rattle.szg_code.proofs.Words.{base-step, base-max, base-spread}

-- the values of a function at the last items of a list, and one item before them
pub values_more : (f : ℕ → ℕ) (xs : List ℕ) (count below v j : ℕ) → count ≤ length xs → j + 1 + below ≡ count →
    ((k : ℕ) → count ≤ k + below → k < count → get_or xs k 0 ≡ f k) → v ≡ f j → (k : ℕ) → count ≤ k + (below + 1) → k < count → get_or (set xs j v) k 0 ≡ f k
values_more f xs count below v j fits count_is old e k from less =
    elim (cases_lt j k) [
      | inl later ↦ let other : k ≢ j = omega arith in get_or-set_other xs j k v 0 other ∙ old k (omega arith) less
      | inr no_later ↦ let here : k ≡ j = omega arith in get_or-set_at xs j k v 0 here (omega arith) ∙ e ∙ ap f (sym here)
    ]

-- a property of the first items of a list, and of one more item that is set
pub items_next : (P : ℕ → ℕ → Type 0) (xs : List ℕ) (j v : ℕ) → j < length xs →
    ((k : ℕ) → k < j → P k (get_or xs k 0)) → P j v → (k : ℕ) → k < j + 1 → P k (get_or (set xs j v) k 0)
items_next P xs j v fits old holds k less =
    elim (cases_lt k j) [
      | inl before ↦ let other : k ≢ j = omega arith in subst (P k) (sym (get_or-set_other xs j k v 0 other)) (old k before)
      | inr at ↦ let here : k ≡ j = omega arith in subst (P k) (sym (get_or-set_at xs j k v 0 here fits)) (subst (λ (n : ℕ). P n v) (sym here) holds)
    ]

-- the same for the items from an index on
pub items_between : (P : ℕ → ℕ → Type 0) (xs : List ℕ) (from j v : ℕ) → j < length xs →
    ((k : ℕ) → from ≤ k → k < j → P k (get_or xs k 0)) → P j v → (k : ℕ) → from ≤ k → k < j + 1 → P k (get_or (set xs j v) k 0)
items_between P xs from j v fits old holds k least less = items_next (λ (n m : ℕ). from ≤ n → P n m) xs j v fits (λ n below some. old n some below) (λ _. holds) k less least

module _ (code : CanonicalCode) (lengths : HasLengths code) where
  -- the base at an item of the list, from the base at the next
  pub base_at : (j : ℕ) → j + 1 < length code.lowest → slice_index code.lowest (j + 1) ≤ slice_index code.lowest j → base code (code.min_length + j) ≡ (base code (code.min_length + (j + 1)) + (slice_index code.lowest j - slice_index code.lowest (j + 1))) / 2
  unfolding lowest_of
  base_at j below falls =
      let each : length code.lowest + code.min_length ≡ code.max_length + 1 = lengths.each in
      let s : base code (code.min_length + j) ≡ (base code (code.min_length + j + 1) + slice_index code.lowest (code.min_length + j - code.min_length) - slice_index code.lowest (code.min_length + j + 1 - code.min_length)) / 2 = base-step code (code.min_length + j) (omega arith) in
      let a : code.min_length + j - code.min_length ≡ j = omega arith in
      let b : code.min_length + j + 1 - code.min_length ≡ j + 1 = omega arith in
      let d : code.min_length + j + 1 ≡ code.min_length + (j + 1) = omega arith in
      let t : base code (code.min_length + j) ≡ (base code (code.min_length + (j + 1)) + slice_index code.lowest j - slice_index code.lowest (j + 1)) / 2 = rw (a, b, d) at s in
      let m : base code (code.min_length + (j + 1)) + slice_index code.lowest j - slice_index code.lowest (j + 1) ≡ base code (code.min_length + (j + 1)) + (slice_index code.lowest j - slice_index code.lowest (j + 1)) = omega arith in
      t ∙ ap (λ (n : ℕ). n / 2) m

  pub base_at_last : (k : ℕ) → k + 1 ≡ length code.lowest → base code (code.min_length + k) ≡ 0
  base_at_last k e =
      let each : length code.lowest + code.min_length ≡ code.max_length + 1 = lengths.each in
      let last : code.min_length + k ≡ code.max_length = omega arith in
      rw last (base-max code)

  abbrev pub RoomsAbove : ℕ → Type 0
  RoomsAbove below = (k : ℕ) → code.max_length < k + below → HasRoomAt code k

  pub rooms_none : RoomsAbove 1
  rooms_none k above from below = absurd (omega arith)

  -- one more length fits
  pub rooms_more : (j below : ℕ) → j + 1 + below ≡ length code.lowest → base code (code.min_length + (j + 1)) ≤ 2 * base code (code.min_length + j) → RoomsAbove below → RoomsAbove (below + 1)
  rooms_more j below count_is fits old k above from less =
      let each : length code.lowest + code.min_length ≡ code.max_length + 1 = lengths.each in
      elim (cases_lt code.max_length (k + below)) [
        | inl later ↦ old k later from less
        | inr no_later ↦
            let here : k ≡ code.min_length + j = omega arith in
            let next' : code.min_length + j + 1 ≡ code.min_length + (j + 1) = omega arith in
            rw (here, next') fits
      ]

  pub rooms_all : (count : ℕ) → count ≡ length code.lowest → RoomsAbove count → (l : ℕ) → HasRoomAt code l
  rooms_all count e rooms l from below =
      let each : length code.lowest + code.min_length ≡ code.max_length + 1 = lengths.each in
      rooms l (omega arith) from below

  -- a length whose base, doubled, is below the next base
  pub overfull_here : (j below : ℕ) → 0 < below → j + 1 + below ≡ length code.lowest → 2 * base code (code.min_length + j) < base code (code.min_length + (j + 1)) → RoomsAbove below → IsLastOverfull code (code.min_length + j)
  overfull_here j below some count_is over rooms =
      let each : length code.lowest + code.min_length ≡ code.max_length + 1 = lengths.each in
      record {
        after = λ k later. rooms k (omega arith);
        here = λ room.
            let next : code.min_length + j + 1 ≡ code.min_length + (j + 1) = omega arith in
            let fits : base code (code.min_length + j + 1) ≤ 2 * base code (code.min_length + j) = room (omega arith) (omega arith) in
            let fits' : base code (code.min_length + (j + 1)) ≤ 2 * base code (code.min_length + j) = rw next at fits in
            absurd (omega arith);
      }

module _ (code : CanonicalCode) (accepted : IsCode code) where
  -- a base has at most the bits of its length
  pub base_below : (d : ℕ) → code.min_length + d ≤ code.max_length → base code (code.min_length + d) < 2 ^ (code.min_length + d)
  base_below d short =
      let spread : base code (code.min_length + d) ≤ base code code.min_length * 2 ^ d = base-spread code accepted code.min_length d (omega arith) short in
      let least : base code code.min_length < 2 ^ code.min_length = accepted.least in
      let room : suc (base code code.min_length) * 2 ^ d ≤ 2 ^ code.min_length * 2 ^ d = mul-le-mul_right (2 ^ d) least in
      let pos : 0 < 2 ^ d = pow_pos d in
      let p : 2 ^ (code.min_length + d) ≡ 2 ^ code.min_length * 2 ^ d = pow-add 2 code.min_length d in
      omega arith

  pub base_fits : (j : ℕ) → j < length code.lowest → base code (code.min_length + j) < 2 ^ 32
  base_fits j below =
      let each : length code.lowest + code.min_length ≡ code.max_length + 1 = accepted.lengths.each in
      let most : code.max_length ≤ 32 = accepted.lengths.at_most in
      let small : base code (code.min_length + j) < 2 ^ (code.min_length + j) = base_below j (omega arith) in
      let p : 2 ^ (code.min_length + j) ≤ 2 ^ 32 = pow-le-pow_right {n = 2} (omega arith) {i = code.min_length + j} {j = 32} (omega arith) in
      omega (arith, small, p)

  -- so shifting it to the top of 64 bits loses no bit
  pub shift_whole : (l b : ℕ) → code.min_length ≤ l → l ≤ code.max_length → b ≡ base code l → (b * 2 ^ (64 - l)) % 18446744073709551616 ≡ shifted_base code 64 l
  unfolding shifted_base
  shift_whole l b long short e =
      let most : code.max_length ≤ 32 = accepted.lengths.at_most in
      let at : code.min_length + (l - code.min_length) ≡ l = omega arith in
      let small : base code l < 2 ^ l = rw at at (base_below (l - code.min_length) (omega arith)) in
      rw e (shl_whole (base code l) l (64 - l) 64 small (omega arith))

module _ (code : CanonicalCode) (lengths : HasLengths code) (ordered : (j : ℕ) → IsOrderedAt code j) where
  -- of two items that were compared, the later is not above the earlier
  pub read_falls : (j a b : ℕ) → j + 1 < length code.lowest → a ≡ get_or code.lowest j a → b ≡ get_or code.lowest (j + 1) b → b ≤ a
  read_falls j a b below at next =
      let falls : slice_index code.lowest (j + 1) ≤ slice_index code.lowest (j + 1 - 1) = ordered (j + 1) (omega arith) below in
      let a_is : a ≡ get_or code.lowest j 0 = get_or_read code.lowest j a (omega arith) at 0 in
      let b_is : b ≡ get_or code.lowest (j + 1) 0 = get_or_read code.lowest (j + 1) b below next 0 in
      let e : j + 1 - 1 ≡ j = omega arith in
      let falls' : slice_index code.lowest (j + 1) ≤ slice_index code.lowest j = rw e at falls in
      omega arith

  -- the base that is computed from the items
  pub base_here : (j a b longer apart : ℕ) → j + 1 < length code.lowest → a ≡ get_or code.lowest j a → b ≡ get_or code.lowest (j + 1) b →
      longer ≡ base code (code.min_length + (j + 1)) → apart ≡ a - b → (longer + apart) / 2 ≡ base code (code.min_length + j)
  base_here j a b longer apart below at next longer_is apart_is =
      let falls : b ≤ a = read_falls j a b below at next in
      let a_is : a ≡ get_or code.lowest j 0 = get_or_read code.lowest j a (omega arith) at 0 in
      let b_is : b ≡ get_or code.lowest (j + 1) 0 = get_or_read code.lowest (j + 1) b below next 0 in
      let falls' : slice_index code.lowest (j + 1) ≤ slice_index code.lowest j = omega arith in
      let e = base_at code lengths j below falls' in
      omega arith
