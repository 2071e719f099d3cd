-- The functions that find the first fault of the lowest symbols, related to the rules of accepted codes.
use Rattle.std.proofs.Common.{ℕ, zero, suc, Bool, true, false, cond, ◌≡◌, ◌+◌, ◌-◌, ◌*◌, ◌/◌, ◌%◌, ◌^◌, ◌<◌, ◌≤◌, ◌⊎◌, inl, inr, Option, Some, None, List, length, refl, ap, sym, ◌∙◌, subst, arith, nat_lt, nat_le, ◌&&◌}
use Rattle.std.specs.List.{find, range_with_len, slice_index}
use Rattle.std.proofs.lemmas.Bool.{ltb-true, ltb-false, lt-ltb, leb-true, le-leb, cases_lt, and_parts}
use Rattle.szg_code.specs.Canonical.{CanonicalCode, base, base_below_max, lowest_of}
use Rattle.szg_code.specs.Acceptance.{HasLengths, IsOrderedAt, HasRoomAt, IsCode, IsFirstRise, IsLastOverfull, IsOverfullAtLeast, IsCodeFault}
use Rattle.szg_code.specs.declared.CodeFault.TheVariants.{LowestOrder, TooFull}
use Rattle.szg_code.specs.Least.{shifted_base, zero_symbol, IsStart, HasShiftedBases, HasStarts, HasZeroSymbols}
use Rattle.szg_code.specs.FirstFault.{rises_at, first_rise, overfills_below_max, overfull_item, first_overfull}
use Rattle.szg_pairs.proofs.FirstFound.{find_none, find_some}

second_false : (a b : Bool) → (a && b) ≡ false → a ≡ true → b ≡ false
second_false a b e h = ap (λ (x : Bool). x && b) (sym h) ∙ e

-- ---- order

ordered_at : (code : CanonicalCode) (j : ℕ) → rises_at code j ≡ false → IsOrderedAt code j
ordered_at code j e some there =
    ltb-false (slice_index code.lowest (j - 1)) (slice_index code.lowest j) (second_false (nat_lt 0 j) (nat_lt (slice_index code.lowest (j - 1)) (slice_index code.lowest j)) e (lt-ltb 0 j some))

pub first_rise-None : (code : CanonicalCode) → first_rise code ≡ None → (j : ℕ) → IsOrderedAt code j
unfolding first_rise
first_rise-None code e j some there = ordered_at code j (find_none (rises_at code) 0 (length code.lowest) e j (omega arith) (omega arith)) some there

pub first_rise-Some : (code : CanonicalCode) (j : ℕ) → first_rise code ≡ Some j → IsFirstRise code j
unfolding first_rise
first_rise-Some code j e =
    let f = find_some (rises_at code) 0 (length code.lowest) j e in
    let below : j < 0 + length code.lowest = f.below in
    let p = and_parts (nat_lt 0 j) (nat_lt (slice_index code.lowest (j - 1)) (slice_index code.lowest j)) f.passes in
    let some : 0 < j = ltb-true 0 j p.0 in
    let above = ltb-true (slice_index code.lowest (j - 1)) (slice_index code.lowest j) p.1 in
    record {
      before = λ k lt. ordered_at code k (f.before k (omega arith) lt);
      here = λ h. let no : slice_index code.lowest j ≤ slice_index code.lowest (j - 1) = h some (omega (arith, below)) in absurd (omega (arith, above, no));
    }

-- ---- room

-- a length between the least and the greatest, by its distance from the greatest
room_at : (code : CanonicalCode) (l : ℕ) → (l < code.max_length → overfills_below_max code (code.max_length - suc l) ≡ false) → HasRoomAt code l
room_at code l e from below =
    let here : code.max_length - suc (code.max_length - suc l) ≡ l = omega (arith, below) in
    let next : code.max_length - (code.max_length - suc l) ≡ l + 1 = omega (arith, below) in
    let r = ltb-false (2 * base code (code.max_length - suc (code.max_length - suc l))) (base code (code.max_length - (code.max_length - suc l))) (e below) in
    let same : base code (code.max_length - suc (code.max_length - suc l)) ≡ base code l = ap (base code) here in
    let same' : base code (code.max_length - (code.max_length - suc l)) ≡ base code (l + 1) = ap (base code) next in
    omega (arith, r, same, same')

no_room : (code : CanonicalCode) (d : ℕ) → d < code.max_length - code.min_length → overfills_below_max code d ≡ true → ¬ HasRoomAt code (code.max_length - suc d)
no_room code d below e h =
    let over = ltb-true (2 * base code (code.max_length - suc d)) (base code (code.max_length - d)) e in
    let next : code.max_length - suc d + 1 ≡ code.max_length - d = omega (arith, below) in
    let same : base code (code.max_length - suc d + 1) ≡ base code (code.max_length - d) = ap (base code) next in
    let fits : base code (code.max_length - suc d + 1) ≤ 2 * base code (code.max_length - suc d) = h (omega (arith, below)) (omega (arith, below)) in
    absurd (omega (arith, over, same, fits))

abbrev lengths_below : CanonicalCode → Option ℕ
lengths_below code = find (overfills_below_max code) (range_with_len 0 (code.max_length - code.min_length))

rooms : (code : CanonicalCode) → lengths_below code ≡ None → (l : ℕ) → HasRoomAt code l
rooms code e l from below =
    room_at code l (λ lt. find_none (overfills_below_max code) 0 (code.max_length - code.min_length) e (code.max_length - suc l) (omega arith) (omega (arith, from, lt))) from below

least_none : (code : CanonicalCode) (b : Bool) → nat_le (2 ^ code.min_length) (base code code.min_length) ≡ b → cond {A = Option ℕ} b (Some 0) None ≡ None → b ≡ false
least_none code true e h = absurd cc
least_none code false e h = refl

not_le : (a b : ℕ) → nat_le a b ≡ false → b < a
not_le a b e =
    elim (cases_lt b a) [
      | inl lt ↦ lt
      | inr le ↦ let no : true ≡ false = sym (le-leb a b le) ∙ e in absurd cc
    ]

none_if : (code : CanonicalCode) (o : Option ℕ) → lengths_below code ≡ o → overfull_item code o ≡ None → ((l : ℕ) → HasRoomAt code l) × (base code code.min_length < 2 ^ code.min_length)
none_if code (Some d) e h = absurd cc
none_if code None e h =
    (rooms code e, not_le (2 ^ code.min_length) (base code code.min_length) (least_none code (nat_le (2 ^ code.min_length) (base code code.min_length)) refl h))

pub first_overfull-None : (code : CanonicalCode) → first_overfull code ≡ None → ((l : ℕ) → HasRoomAt code l) × (base code code.min_length < 2 ^ code.min_length)
unfolding first_overfull
first_overfull-None code e = none_if code (lengths_below code) refl e

least_some : (code : CanonicalCode) (j : ℕ) (b : Bool) → cond {A = Option ℕ} b (Some 0) None ≡ Some j → (b ≡ true) × (j ≡ 0)
least_some code j true h = (refl, cc)
least_some code j false h = absurd cc

some_if : (code : CanonicalCode) (j : ℕ) (o : Option ℕ) → lengths_below code ≡ o → overfull_item code o ≡ Some j →
    IsLastOverfull code (code.min_length + j) ⊎ ((j ≡ 0) × IsOverfullAtLeast code)
some_if code j (Some d) e h =
    let f = find_some (overfills_below_max code) 0 (code.max_length - code.min_length) d e in
    let below : d < 0 + (code.max_length - code.min_length) = f.below in
    let item : code.max_length - suc d - code.min_length ≡ j = cc in
    let here : code.max_length - suc d ≡ code.min_length + j = omega (arith, below, item) in
    inl (subst (λ (l : ℕ). IsLastOverfull code l) here (record {
      after = λ k lt from less. room_at code k (λ lt'. f.before (code.max_length - suc k) (omega arith) (omega (arith, lt, lt', below))) from less;
      here = no_room code d (omega (arith, below)) f.passes;
    }))
some_if code j None e h =
    let l = least_some code j (nat_le (2 ^ code.min_length) (base code code.min_length)) h in
    inr (l.1, record { room = rooms code e; least = leb-true (2 ^ code.min_length) (base code code.min_length) l.0 })

pub first_overfull-Some : (code : CanonicalCode) (j : ℕ) → first_overfull code ≡ Some j → IsLastOverfull code (code.min_length + j) ⊎ ((j ≡ 0) × IsOverfullAtLeast code)
unfolding first_overfull
first_overfull-Some code j e = some_if code j (lengths_below code) refl e

-- ---- verdicts

-- a code whose list has no fault is accepted
pub code_holds : (code : CanonicalCode) → HasLengths code → first_rise code ≡ None → first_overfull code ≡ None → IsCode code
code_holds code lengths rise over =
    let r = first_overfull-None code over in
    record { lengths = lengths; ordered = first_rise-None code rise; room = r.0; least = r.1 }

pub rise_is_fault : (code : CanonicalCode) (j : ℕ) → HasLengths code → first_rise code ≡ Some j → IsCodeFault code (LowestOrder j)
rise_is_fault code j lengths e = (lengths, first_rise-Some code j e)

pub overfull_is_fault : (code : CanonicalCode) (j : ℕ) → HasLengths code → first_rise code ≡ None → first_overfull code ≡ Some j → IsCodeFault code (TooFull j)
overfull_is_fault code j lengths rise e = (lengths, first_rise-None code rise, first_overfull-Some code j e)

-- ---- the number of symbols does not matter

abbrev pub with_symbols : CanonicalCode → ℕ → CanonicalCode
with_symbols code n = record { min_length = code.min_length; max_length = code.max_length; lowest = code.lowest; symbols = n }

base_below-symbols : (code : CanonicalCode) (n d : ℕ) → base_below_max (with_symbols code n) d ≡ base_below_max code d
unfolding base_below_max lowest_of
base_below-symbols code n zero = refl
base_below-symbols code n (suc d) = ap (λ (b : ℕ). (b + slice_index code.lowest (code.max_length - suc d - code.min_length) - slice_index code.lowest (code.max_length - d - code.min_length)) / 2) (base_below-symbols code n d)

base-symbols : (code : CanonicalCode) (n l : ℕ) → base (with_symbols code n) l ≡ base code l
unfolding base
base-symbols code n l = base_below-symbols code n (code.max_length - l)

pub IsCode-symbols : (code : CanonicalCode) (n : ℕ) → IsCode (with_symbols code n) → IsCode code
IsCode-symbols code n h = record {
  lengths = record { some_bits = h.lengths.some_bits; in_order = h.lengths.in_order; at_most = h.lengths.at_most; each = h.lengths.each };
  ordered = λ j some there. h.ordered j some there;
  room = λ l from below. let r = h.room l from below in omega (arith, r, base-symbols code n l, base-symbols code n (l + 1));
  least = let r = h.least in omega (arith, r, base-symbols code n code.min_length);
}

shifted_base-symbols : (code : CanonicalCode) (n l : ℕ) → shifted_base (with_symbols code n) 64 l ≡ shifted_base code 64 l
unfolding shifted_base
shifted_base-symbols code n l = ap (λ (b : ℕ). b * 2 ^ (64 - l)) (base-symbols code n l)

start-symbols : (code : CanonicalCode) (n first l : ℕ) → IsStart code first l → IsStart (with_symbols code n) first l
start-symbols code n first l start = record {
  long_enough = start.long_enough;
  short_enough = start.short_enough;
  before = λ k long earlier. subst (λ (b : ℕ). (first + 1) * 2 ^ 56 ≤ b) (sym (shifted_base-symbols code n k)) (start.before k long earlier);
  reached = subst (λ (b : ℕ). b < (first + 1) * 2 ^ 56) (sym (shifted_base-symbols code n l)) start.reached;
}

zero_symbol-symbols : (code : CanonicalCode) (n l : ℕ) → zero_symbol (with_symbols code n) l ≡ zero_symbol code l
unfolding zero_symbol lowest_of
zero_symbol-symbols code n l = ap (λ (b : ℕ). (slice_index code.lowest (l - code.min_length) + (2 ^ 64 - b)) % 2 ^ 64) (base-symbols code n l)

-- the fields of a code also fit a code with another number of symbols
pub kept-symbols : (code : CanonicalCode) (n : ℕ) (bases starts zeros : List ℕ) → IsCode code × HasShiftedBases code bases × HasStarts code starts × HasZeroSymbols code zeros →
    IsCode (with_symbols code n) × HasShiftedBases (with_symbols code n) bases × HasStarts (with_symbols code n) starts × HasZeroSymbols (with_symbols code n) zeros
unfolding lowest_of
kept-symbols code n bases starts zeros (accepted, has_bases, has_starts, has_zeros) = (
  IsCode-symbols (with_symbols code n) code.symbols accepted,
  (λ l long short. has_bases l long short ∙ sym (shifted_base-symbols code n l)),
  (λ first below. start-symbols code n first (slice_index starts first) (has_starts first below)),
  (λ l long short. ((has_zeros l long short).0, (has_zeros l long short).1 ∙ sym (zero_symbol-symbols code n l))),
)
