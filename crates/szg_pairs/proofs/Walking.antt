-- The steps of the walk that finds the lengths of symbols.
use Rattle.std.proofs.Common.{ℕ, Bool, true, false, not, ◌≡◌, ◌+◌, ◌-◌, ◌<◌, ◌⊎◌, inl, inr, List, [], ◌∷◌, ◌++◌, Some, length, refl, ap, sym, ◌∙◌, subst, arith, length-append, get_or, set, count_by, cond, take, ltb, ◌&&◌}
use Rattle.std.specs.List.{slice_get}
use Rattle.std.proofs.lemmas.Bool.{cases_lt, cases_eq, ltb-true, and_parts}
use Rattle.std.proofs.lemmas.Grind.{common_steps}
use Rattle.std.proofs.lemmas.List.Sums.{sum_by-set}
use Rattle.std.proofs.Math.Seq.{get_or-append_seam}
use Rattle.std.proofs.Math.ListN.{get_or-append}
use Rattle.std.proofs.lemmas.List.{get_or-set_same, get_or-set_other, length-set}
use Rattle.std.proofs.lemmas.Option.{slice_get_within, get_or_from_slice_get, slice_get-get_or}
use Rattle.szg_pairs.specs.Entry.{left_of, right_of, is_leaf, NamesSymbols, names_symbols_below}
use Rattle.szg_pairs.specs.Expansion.{Expands, leaf, pair}
use Rattle.szg_pairs.specs.Walk.{IsLength, AreLengths, HasPart, LengthOfKind, IsMissing, IsSeen, StaysSeen, IsOpen, IsOnPath, IsWalk}

-- ---- the end: an open symbol has no expansion

-- each symbol that waits is waiting for another that waits
abbrev Waits : List (List ℕ) → List ℕ → Type 0
Waits entries lengths = (s : ℕ) → s < length entries → get_or lengths s 0 ≡ 0 → (c : ℕ) × HasPart entries s c × (c < length entries) × (get_or lengths c 0 ≡ 0)

module _ (entries : List (List ℕ)) (lengths : List ℕ) (waits : Waits entries lengths) where
  no_expansion : {s : ℕ} {xs : List ℕ} → Expands entries s xs → get_or lengths s 0 ≡ 0 → ⊥
  no_expansion (leaf {s = s} {entry = e} a p) z =
      let w = waits s (slice_get_within entries s e a) z in
      let pt = w.1.2 in
      let same : Some e ≡ Some w.1.0 = sym a ∙ w.1.1 in
      let no : is_leaf w.1.0 ≡ false = pt.is_pair in
      absurd (cc)
  no_expansion (pair {s = s} {entry = e} {left = x} {right = y} a p l r) z =
      let w = waits s (slice_get_within entries s e a) z in
      let same : Some e ≡ Some w.1.0 = sym a ∙ w.1.1 in
      let unknown : get_or lengths w.0 0 ≡ 0 = w.3 in
      elim w.1.2.one [
        | inl h ↦ let at : left_of e ≡ w.0 = cc in no_expansion l (ap (λ (k : ℕ). get_or lengths k 0) at ∙ unknown)
        | inr h ↦ let at : right_of e ≡ w.0 = cc in no_expansion r (ap (λ (k : ℕ). get_or lengths k 0) at ∙ unknown)
      ]

-- the two symbols of a pair that names symbols below n are below n
pub parts_below : (n : ℕ) (entry : List ℕ) → names_symbols_below n entry ≡ true → is_leaf entry ≡ false → (left_of entry < n) × (right_of entry < n)
unfolding names_symbols_below
parts_below n entry h paired =
    let both : (ltb (left_of entry) n && ltb (right_of entry) n) ≡ true = rw paired at h in
    let each = and_parts (ltb (left_of entry) n) (ltb (right_of entry) n) both in
    (ltb-true (left_of entry) n each.0, ltb-true (right_of entry) n each.1)

-- an existing entry names existing symbols
pub entry_names : (entries : List (List ℕ)) (s : ℕ) (entry : List ℕ) → NamesSymbols entries s → slice_get entries s ≡ Some entry → names_symbols_below (length entries) entry ≡ true
entry_names entries s entry names a = rw a at names

-- a child exists
pub part_there : (entries : List (List ℕ)) (s c : ℕ) → NamesSymbols entries s → HasPart entries s c → c < length entries
part_there entries s c names h =
    let below = parts_below (length entries) h.0 (entry_names entries s h.0 names h.1) h.2.is_pair in
    elim h.2.one [
      | inl e ↦ omega (arith, e, below.0)
      | inr e ↦ omega (arith, e, below.1)
    ]

pub lengths_at_end : (entries : List (List ℕ)) (lengths : List ℕ) (seen : List Bool) → ((s : ℕ) → NamesSymbols entries s) → IsWalk entries lengths seen [] → ((s : ℕ) → s < length entries → IsSeen seen s) → AreLengths entries lengths
lengths_at_end entries lengths seen names walk all =
    let waits : Waits entries lengths = λ s there z.
    elim (walk.others_stuck s (record { seen_once = all s there; unknown = z })) [
      | inl on ↦ absurd (omega (arith, on.1))
      | inr stuck ↦ (stuck.0, stuck.1, part_there entries s stuck.0 (names s) stuck.1, stuck.2.unknown)
    ] in
    record {
      same_length = walk.lengths_count;
      each = λ s there. record {
        known = walk.known s;
        unknown = λ z xs e. no_expansion entries lengths waits e z;
      };
    }

-- ---- one step

-- the path's last symbol and those before it
path_index : (path : List ℕ) (x i : ℕ) → i < length (path ++ x ∷ []) → ((i < length path) × (get_or (path ++ x ∷ []) i 0 ≡ get_or path i 0)) ⊎ ((i ≡ length path) × (get_or (path ++ x ∷ []) i 0 ≡ x))
path_index path x i h =
    elim (cases_lt i (length path)) [
      | inl less ↦ inl (less, get_or-append path (x ∷ []) 0 i less)
      | inr more ↦ let same : i ≡ length path = omega (arith, length-append path (x ∷ [])) in
          inr (same, ap (λ (k : ℕ). get_or (path ++ x ∷ []) k 0) same ∙ get_or-append_seam path x [] 0)
    ]

module _ (entries : List (List ℕ)) (lengths : List ℕ) (seen : List Bool) (path : List ℕ) where
  -- a symbol that was not seen is entered, as a child of the last symbol
  pub walk_enters : (c : ℕ) → IsWalk entries lengths seen path → c < length entries → get_or seen c false ≡ false → ((i : ℕ) → i + 1 ≡ length path → HasPart entries (get_or path i 0) c) →
      IsWalk entries lengths (set seen c true) (path ++ c ∷ [])
  walk_enters c w there unseen waits =
      let size : length seen ≡ length entries = w.seen_count in
      let unknown : get_or lengths c 0 ≡ 0 =
      elim (cases_lt 0 (get_or lengths c 0)) [
        | inl more ↦ let s : get_or seen c false ≡ true = w.known_seen c more in absurd cc
        | inr none ↦ omega (arith, none)
      ] in
      let more : (s : ℕ) → IsSeen seen s → IsSeen (set seen c true) s = λ s h.
      elim (cases_eq s c) [
        | inl e ↦ ap (λ (k : ℕ). get_or (set seen c true) k false) e ∙ get_or-set_same seen c true false (omega (arith, size, there))
        | inr ne ↦ get_or-set_other seen c s true false ne ∙ h
      ] in
      let inside : (i : ℕ) → i < length path → get_or (path ++ c ∷ []) i 0 ≡ get_or path i 0 = λ i h. get_or-append path (c ∷ []) 0 i h in
      let last : get_or (path ++ c ∷ []) (length path) 0 ≡ c = get_or-append_seam path c [] 0 in
      record {
        lengths_count = w.lengths_count;
        seen_count = length-set seen c true ∙ size;
        known = w.known;
        known_seen = λ s h. more s (w.known_seen s h);
        path_there = λ i h. elim (path_index path c i h) [
          | inl p ↦ subst (λ (k : ℕ). k < length entries) (sym p.1) (w.path_there i p.0)
          | inr p ↦ subst (λ (k : ℕ). k < length entries) (sym p.1) there
        ];
        path_open = λ i h. elim (path_index path c i h) [
          | inl p ↦ let o = w.path_open i p.0 in
              subst (λ (k : ℕ). IsOpen lengths (set seen c true) k) (sym p.1) (record { seen_once = more (get_or path i 0) o.seen_once; unknown = o.unknown })
          | inr p ↦ subst (λ (k : ℕ). IsOpen lengths (set seen c true) k) (sym p.1)
              (record { seen_once = get_or-set_same seen c true false (omega (arith, size, there)); unknown = unknown })
        ];
        path_apart = λ i j lt h e. elim (path_index path c j h) [
          | inl p ↦ w.path_apart i j lt p.0 (sym (inside i (omega (arith, lt, p.0))) ∙ e ∙ p.1)
          | inr p ↦
              let il : i < length path = omega (arith, lt, p.0) in
              let o = w.path_open i il in
              let same : get_or path i 0 ≡ c = sym (inside i il) ∙ e ∙ p.1 in
              let yes : get_or seen c false ≡ true = subst (λ (k : ℕ). IsSeen seen k) same o.seen_once in
              absurd cc
        ];
        path_waits = λ i h. elim (path_index path c (i + 1) h) [
          | inl p ↦ rw (p.1, inside i (omega (arith, p.0))) (w.path_waits i p.0)
          | inr p ↦ rw (p.1, inside i (omega (arith, p.0))) (waits i p.0)
        ];
        others_stuck = λ s o. elim (cases_eq s c) [
          | inl e ↦ inl (length path, omega (arith, length-append path (c ∷ [])), last ∙ sym e)
          | inr ne ↦
              let was : IsOpen lengths seen s = record { seen_once = sym (get_or-set_other seen c s true false ne) ∙ o.seen_once; unknown = o.unknown } in
              elim (w.others_stuck s was) [
                | inl on ↦ inl (on.0, omega (arith, on.1, length-append path (c ∷ [])), inside on.0 on.1 ∙ on.2)
                | inr stuck ↦ inr (
                  stuck.0,
                  stuck.1,
                  record { seen_once = more stuck.0 stuck.2.seen_once; unknown = stuck.2.unknown },
                  λ on.
                      elim (path_index path c on.0 on.1) [
                        | inl p ↦ stuck.3 (on.0, p.0, sym p.1 ∙ on.2)
                        | inr p ↦
                            let same : stuck.0 ≡ c = sym on.2 ∙ p.1 in
                            let yes : get_or seen c false ≡ true = subst (λ (k : ℕ). IsSeen seen k) same stuck.2.seen_once in
                            absurd cc
                      ],
                )
              ]
        ];
      }

  -- the last symbol's length is computed, and the symbol leaves the path
  pub walk_leaves : (x n : ℕ) → IsWalk entries lengths seen (path ++ x ∷ []) → IsLength entries x n → 0 < n → IsWalk entries (set lengths x n) seen path
  walk_leaves x n w found some =
      let size : length lengths ≡ length entries = w.lengths_count in
      let inside : (i : ℕ) → i < length path → get_or (path ++ x ∷ []) i 0 ≡ get_or path i 0 = λ i h. get_or-append path (x ∷ []) 0 i h in
      let last : get_or (path ++ x ∷ []) (length path) 0 ≡ x = get_or-append_seam path x [] 0 in
      let longer : length (path ++ x ∷ []) ≡ length path + 1 = length-append path (x ∷ []) in
      let at_end : length path < length (path ++ x ∷ []) = omega (arith, longer) in
      let there : x < length entries = subst (λ (k : ℕ). k < length entries) last (w.path_there (length path) at_end) in
      let x_open : IsOpen lengths seen x = subst (λ (k : ℕ). IsOpen lengths seen k) last (w.path_open (length path) at_end) in
      let same : get_or (set lengths x n) x 0 ≡ n = get_or-set_same lengths x n 0 (omega (arith, size, there)) in
      let other : (s : ℕ) → (s ≡ x → ⊥) → get_or (set lengths x n) s 0 ≡ get_or lengths s 0 = λ s ne. get_or-set_other lengths x s n 0 ne in
      let apart : (i : ℕ) → i < length path → get_or path i 0 ≡ x → ⊥ = λ i h e. w.path_apart i (length path) h at_end (inside i h ∙ e ∙ sym last) in
      record {
        lengths_count = length-set lengths x n ∙ size;
        seen_count = w.seen_count;
        known = λ s h. elim (cases_eq s x) [
          | inl e ↦ rw (e, same) found
          | inr ne ↦ let o = other s ne in rw o (w.known s (subst (λ (k : ℕ). 0 < k) o h))
        ];
        known_seen = λ s h. elim (cases_eq s x) [
          | inl e ↦ rw e x_open.seen_once
          | inr ne ↦ w.known_seen s (subst (λ (k : ℕ). 0 < k) (other s ne) h)
        ];
        path_there = λ i h. subst (λ (k : ℕ). k < length entries) (inside i h) (w.path_there i (omega (arith, h, longer)));
        path_open = λ i h.
            let o : IsOpen lengths seen (get_or path i 0) = subst (λ (k : ℕ). IsOpen lengths seen k) (inside i h) (w.path_open i (omega (arith, h, longer))) in
            record { seen_once = o.seen_once; unknown = other (get_or path i 0) (apart i h) ∙ o.unknown };
        path_apart = λ i j lt h e. w.path_apart i j lt (omega (arith, h, longer)) (inside i (omega (arith, lt, h)) ∙ e ∙ sym (inside j h));
        path_waits = λ i h. rw (inside i (omega (arith, h)), inside (i + 1) h) at (w.path_waits i (omega (arith, h, longer)));
        others_stuck = λ s o. elim (cases_eq s x) [
          | inl e ↦ let zero_now : n ≡ 0 = sym same ∙ ap (λ (k : ℕ). get_or (set lengths x n) k 0) (sym e) ∙ o.unknown in absurd (omega (arith, zero_now, some))
          | inr ne ↦
              let was : IsOpen lengths seen s = record { seen_once = o.seen_once; unknown = sym (other s ne) ∙ o.unknown } in
              elim (w.others_stuck s was) [
                | inl on ↦ elim (path_index path x on.0 on.1) [
                  | inl p ↦ inl (on.0, p.0, sym p.1 ∙ on.2)
                  | inr p ↦ absurd (ne (sym on.2 ∙ p.1))
                ]
                | inr stuck ↦
                    let off : stuck.0 ≡ x → ⊥ = λ e. stuck.3 (length path, at_end, last ∙ sym e) in
                    inr (
                      stuck.0,
                      stuck.1,
                      record { seen_once = stuck.2.seen_once; unknown = other stuck.0 off ∙ stuck.2.unknown },
                      λ on.
                          stuck.3 (on.0, omega (arith, on.1, longer), inside on.0 on.1 ∙ on.2),
                    )
              ]
        ];
      }

  -- the last symbol waits for one that was seen before: so no symbol of the path has an expansion
  pub walk_gives_up : (x c : ℕ) → IsWalk entries lengths seen (path ++ x ∷ []) → HasPart entries x c → IsOpen lengths seen c → IsWalk entries lengths seen []
  walk_gives_up x c w part open_c =
      let longer : length (path ++ x ∷ []) ≡ length path + 1 = length-append path (x ∷ []) in
      let off : (k : ℕ) → IsOnPath [] k → ⊥ = λ k on. absurd (omega (arith, on.1)) in
      record {
        lengths_count = w.lengths_count;
        seen_count = w.seen_count;
        known = w.known;
        known_seen = w.known_seen;
        path_there = λ i h. absurd (omega (arith, h));
        path_open = λ i h. absurd (omega (arith, h));
        path_apart = λ i j lt h. absurd (omega (arith, h));
        path_waits = λ i h. absurd (omega (arith, h));
        others_stuck = λ s o. elim (w.others_stuck s o) [
          | inl on ↦ elim (path_index path x on.0 on.1) [
            | inl p ↦
                let next : on.0 + 1 < length (path ++ x ∷ []) = omega (arith, p.0, longer) in
                inr (get_or (path ++ x ∷ []) (on.0 + 1) 0, subst (λ (k : ℕ). HasPart entries k (get_or (path ++ x ∷ []) (on.0 + 1) 0)) on.2 (w.path_waits on.0 next), w.path_open (on.0 + 1) next, off (get_or (path ++ x ∷ []) (on.0 + 1) 0))
            | inr p ↦ inr (c, subst (λ (k : ℕ). HasPart entries k c) (sym p.1 ∙ on.2) part, open_c, off c)
          ]
          | inr stuck ↦ inr (stuck.0, stuck.1, stuck.2, off stuck.0)
        ];
      }

-- ---- the work that is left

-- each symbol that is entered reduces the number of symbols that were not seen by one
pub unseen-set : (seen : List Bool) (c : ℕ) → c < length seen → get_or seen c false ≡ false → count_by not (set seen c true) + 1 ≡ count_by not seen
unseen-set seen c there unseen =
    let f : Bool → ℕ = λ b. cond (not b) 1 0 in
    let e = sum_by-set f seen c true false there in
    let one : f (get_or seen c false) ≡ 1 = ap f unseen in
    omega (arith, e, one)

-- ---- the length of one symbol

-- a leaf has one value, and a pair the sum of its two symbols' numbers
pub length_of_symbol : (entries : List (List ℕ)) (lengths : List ℕ) (s n : ℕ) (entry : List ℕ) → ((k : ℕ) → 0 < get_or lengths k 0 → IsLength entries k (get_or lengths k 0)) → slice_get entries s ≡ Some entry →
    (b : Bool) → is_leaf entry ≡ b → LengthOfKind b entry lengths n → IsLength entries s n × (0 < n)
length_of_symbol entries lengths s n entry known a true p h = ((left_of entry ∷ [], leaf a p, h), omega (arith, h))
length_of_symbol entries lengths s n entry known a false p h =
    let l = known (left_of entry) h.0 in
    let r = known (right_of entry) h.1 in
    let both = length-append l.0 r.0 in
    ((l.0 ++ r.0, pair a p l.1 r.1, omega (arith, h.2, l.2, r.2, both)), omega (arith, h.0, h.1, h.2))

-- ---- the path's last symbol

pub path_split : (path : List ℕ) (x : ℕ) → slice_get path (length path - 1) ≡ Some x → path ≡ take (length path - 1) path ++ x ∷ []
path_split path x h =
    let lt = slice_get_within path (length path - 1) x h in
    let at : get_or path (length path - 1) 0 ≡ x = get_or_from_slice_get path (length path - 1) x 0 h in
    grind (arith, common_steps, at, lt)

-- ---- the step at the path's last symbol

abbrev EndsWith : List ℕ → ℕ → Type 0
EndsWith path x = slice_get path (length path - 1) ≡ Some x

pub entry_at : (entries : List (List ℕ)) (x : ℕ) → x < length entries → slice_get entries x ≡ Some (get_or entries x [])
entry_at entries x there = slice_get-get_or entries x [] there

module _ (entries : List (List ℕ)) (lengths : List ℕ) (seen : List Bool) (path : List ℕ) (x : ℕ) (walk : IsWalk entries lengths seen path) (at_end : EndsWith path x) where
  last_at : get_or path (length path - 1) 0 ≡ x
  last_at = get_or_from_slice_get path (length path - 1) x 0 at_end

  some_path : length path - 1 < length path
  some_path = slice_get_within path (length path - 1) x at_end

  pub last_there : x < length entries
  last_there = subst (λ (k : ℕ). k < length entries) last_at (walk.path_there (length path - 1) some_path)

  split : IsWalk entries lengths seen (take (length path - 1) path ++ x ∷ [])
  split = subst (λ (p : List ℕ). IsWalk entries lengths seen p) (path_split path x at_end) walk

  pub part_of_last : (c : ℕ) → IsMissing (get_or entries x []) lengths c → HasPart entries x c
  part_of_last c missing = (get_or entries x [], entry_at entries x last_there, missing.part)

  pub step_leaves : (n : ℕ) (front : List ℕ) → LengthOfKind (is_leaf (get_or entries x [])) (get_or entries x []) lengths n → front ≡ take (length path - 1) path → IsWalk entries (set lengths x n) seen front
  step_leaves n front found same =
      let is = length_of_symbol entries lengths x n (get_or entries x []) walk.known (entry_at entries x last_there) (is_leaf (get_or entries x [])) refl found in
      rw same (walk_leaves entries lengths seen (take (length path - 1) path) x n split is.0 is.1)

  pub step_gives_up : (c : ℕ) → IsMissing (get_or entries x []) lengths c → IsSeen seen c → IsWalk entries lengths seen []
  step_gives_up c missing once =
      walk_gives_up entries lengths seen (take (length path - 1) path) x c split (part_of_last c missing) (record { seen_once = once; unknown = missing.unknown })

  pub step_enters : (c : ℕ) → NamesSymbols entries x → IsMissing (get_or entries x []) lengths c → get_or seen c false ≡ false → IsWalk entries lengths (set seen c true) (path ++ c ∷ [])
  step_enters c names missing unseen =
      walk_enters entries lengths seen path c walk (part_there entries x c names (part_of_last c missing)) unseen
      (λ i h. let e : i ≡ length path - 1 = omega (arith, h) in rw (e, last_at) (part_of_last c missing))

-- ---- the beginning of the walk, at a symbol that was not seen

pub stays_seen : (seen : List Bool) (c : ℕ) → c < length seen → StaysSeen seen (set seen c true)
stays_seen seen c there s h =
    elim (cases_eq s c) [
      | inl e ↦ ap (λ (k : ℕ). get_or (set seen c true) k false) e ∙ get_or-set_same seen c true false there
      | inr ne ↦ get_or-set_other seen c s true false ne ∙ h
    ]

pub walk_begins : (entries : List (List ℕ)) (lengths : List ℕ) (seen : List Bool) (c : ℕ) → IsWalk entries lengths seen [] → c < length entries → get_or seen c false ≡ false → IsWalk entries lengths (set seen c true) (c ∷ [])
walk_begins entries lengths seen c walk there unseen = walk_enters entries lengths seen [] c walk there unseen (λ i h. absurd (omega (arith, h)))
