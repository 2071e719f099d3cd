-- Laws of expansions: a symbol has at most one, it is not empty, and the functions return it.
use Rattle.std.proofs.Common.{ℕ, zero, suc, Bool, true, false, ◌≡◌, ◌+◌, ◌<◌, ◌≤◌, List, [], ◌∷◌, ◌++◌, Option, Some, None, length, map, refl, sym, subst, arith, length-append, get_or}
use Rattle.std.specs.List.{slice_get}
use Rattle.std.proofs.lemmas.List.{length-map}
use Rattle.szg_pairs.specs.Entry.{left_of, right_of, is_leaf}
use Rattle.szg_pairs.specs.Expansion.{Expands, leaf, pair, values_within, expansion_of, depths_within, depths_of, values_of_entry, depths_of_entry, values_of_kind, depths_of_kind}

module _ (entries : List (List ℕ)) where
  same_entry : (s : ℕ) {e f : List ℕ} → slice_get entries s ≡ Some e → slice_get entries s ≡ Some f → e ≡ f
  same_entry s a b = cc

  -- at most one list
  pub Expands-unique : {s : ℕ} {xs ys : List ℕ} → Expands entries s xs → Expands entries s ys → xs ≡ ys
  Expands-unique (leaf a p) (leaf b q) = cc
  Expands-unique (leaf {entry = e} a p) (pair {entry = f} b q l r) = let h : e ≡ f = same_entry _ a b in cc
  Expands-unique (pair {entry = e} a p l r) (leaf {entry = f} b q) = let h : e ≡ f = same_entry _ a b in cc
  Expands-unique (pair {entry = e} {left = x} {right = y} a p l r) (pair {entry = f} {left = z} {right = w} b q m t) =
      let h : f ≡ e = same_entry _ b a in
      let i : x ≡ z = Expands-unique l (subst (λ v. Expands entries (left_of v) z) h m) in
      let j : y ≡ w = Expands-unique r (subst (λ v. Expands entries (right_of v) w) h t) in
      cc

  -- no list is empty
  pub Expands-length : {s : ℕ} {xs : List ℕ} → Expands entries s xs → 0 < length xs
  Expands-length (leaf a p) = omega arith
  Expands-length (pair {left = x} {right = y} a p l r) = omega (arith, length-append x y, Expands-length l)

  -- a list of at most `levels` values nests in fewer levels, so the function returns it
  pub values_within-Expands : {s : ℕ} {xs : List ℕ} → Expands entries s xs → (levels : ℕ) → length xs ≤ levels → values_within entries levels s ≡ xs
  unfolding values_within
  values_within-Expands (leaf a p) zero h = absurd (omega arith)
  values_within-Expands (leaf a p) (suc levels) h = rw (a, p)
  values_within-Expands (pair {left = x} {right = y} a p l r) zero h =
      absurd (omega (arith, length-append x y, Expands-length l))
  values_within-Expands (pair {left = x} {right = y} a p l r) (suc levels) h =
      let i : length x ≤ levels = omega (arith, length-append x y, Expands-length r) in
      let j : length y ≤ levels = omega (arith, length-append x y, Expands-length l) in
      rw (a, p, values_within-Expands l levels i, values_within-Expands r levels j)

  -- what acceptance says about a symbol: its expansion is a list of Expands, of 1 to 256 values
  pub record IsShortSymbol (s : ℕ) : Type 0 where
    pub expands : Expands entries s (expansion_of entries s)
    pub some : 0 < length (expansion_of entries s)
    pub few : length (expansion_of entries s) ≤ 256

  pub Expands-expansion_of : (s : ℕ) (xs : List ℕ) → Expands entries s xs → length xs ≤ 256 → expansion_of entries s ≡ xs
  unfolding expansion_of
  Expands-expansion_of s xs e h = values_within-Expands e 256 h

  pub short_symbol : (s : ℕ) (xs : List ℕ) → Expands entries s xs → length xs ≤ 256 → IsShortSymbol s
  short_symbol s xs e h =
      let eq : expansion_of entries s ≡ xs = Expands-expansion_of s xs e h in
      record {
        expands = subst (λ v. Expands entries s v) (sym eq) e;
        some = subst (λ v. 0 < length v) (sym eq) (Expands-length e);
        few = subst (λ v. length v ≤ 256) (sym eq) h;
      }

  -- there is one depth for each value
  length-depths_of_kind : (leaf : Bool) (entry : List ℕ) (f g : ℕ → List ℕ) → ((s : ℕ) → length (f s) ≡ length (g s)) → length (depths_of_kind leaf entry f) ≡ length (values_of_kind leaf entry g)
  length-depths_of_kind true entry f g h = refl
  length-depths_of_kind false entry f g h = simp (length-map, length-append, h)

  length-depths_of_entry : (entry : Option (List ℕ)) (f g : ℕ → List ℕ) → ((s : ℕ) → length (f s) ≡ length (g s)) → length (depths_of_entry entry f) ≡ length (values_of_entry entry g)
  length-depths_of_entry None f g h = refl
  length-depths_of_entry (Some entry) f g h = length-depths_of_kind (is_leaf entry) entry f g h

  pub length-depths_within : (levels s : ℕ) → length (depths_within entries levels s) ≡ length (values_within entries levels s)
  unfolding depths_within values_within
  length-depths_within zero s = refl
  length-depths_within (suc levels) s =
      length-depths_of_entry (slice_get entries s) (depths_within entries levels) (values_within entries levels) (length-depths_within levels)

  pub length-depths_of : (s : ℕ) → length (depths_of entries s) ≡ length (expansion_of entries s)
  unfolding depths_of expansion_of
  length-depths_of s = length-depths_within 256 s

-- each number of a list is below n
pub AllBelow : ℕ → List ℕ → Type 0
AllBelow n [] = Unit {0}
AllBelow n (x ∷ xs) = (x < n) × AllBelow n xs

AllBelow-map_suc : (n m : ℕ) (xs : List ℕ) → suc n ≤ m → AllBelow n xs → AllBelow m (map suc xs)
unfolding AllBelow
AllBelow-map_suc n m [] h a = tt
AllBelow-map_suc n m (x ∷ xs) h a = let b : x < n = a.0 in (omega arith, AllBelow-map_suc n m xs h a.1)

AllBelow-map_suc_append : (n k m : ℕ) (xs ys : List ℕ) → suc n ≤ m → suc k ≤ m → AllBelow n xs → AllBelow k ys → AllBelow m (map suc (xs ++ ys))
unfolding AllBelow
AllBelow-map_suc_append n k m [] ys h g a b = AllBelow-map_suc k m ys g b
AllBelow-map_suc_append n k m (x ∷ xs) ys h g a b = let c : x < n = a.0 in (omega arith, AllBelow-map_suc_append n k m xs ys h g a.1 b)

pub AllBelow-get_or : (n : ℕ) (xs : List ℕ) (k : ℕ) → AllBelow n xs → k < length xs → get_or xs k 0 < n
unfolding AllBelow
AllBelow-get_or n [] k a h = absurd (omega arith)
AllBelow-get_or n (x ∷ xs) zero a h = a.0
AllBelow-get_or n (x ∷ xs) (suc k) a h = AllBelow-get_or n xs k a.1 (omega arith)

pub AllBelow-one : (n x : ℕ) → x < n → AllBelow n (x ∷ [])
unfolding AllBelow
AllBelow-one n x h = (h, tt)

pub AllBelow-push : (n : ℕ) (xs : List ℕ) (x : ℕ) → AllBelow n xs → x < n → AllBelow n (xs ++ x ∷ [])
unfolding AllBelow
AllBelow-push n [] x a h = (h, tt)
AllBelow-push n (y ∷ ys) x a h = (a.0, AllBelow-push n ys x a.1 h)

pub AllBelow-pop : (n : ℕ) (xs : List ℕ) (x : ℕ) → AllBelow n (xs ++ x ∷ []) → AllBelow n xs × (x < n)
unfolding AllBelow
AllBelow-pop n [] x a = (tt, a.0)
AllBelow-pop n (y ∷ ys) x a = let r = AllBelow-pop n ys x a.1 in ((a.0, r.0), r.1)

module _ (entries : List (List ℕ)) where
  -- fewer pairs are above each value than the symbol has values
  pub depths_within-below : {s : ℕ} {xs : List ℕ} → Expands entries s xs → (levels : ℕ) → length xs ≤ levels → AllBelow (length xs) (depths_within entries levels s)
  unfolding depths_within AllBelow
  depths_within-below (leaf a p) zero h = absurd (omega arith)
  depths_within-below (leaf a p) (suc levels) h = rw (a, p) (omega arith, tt)
  depths_within-below (pair {left = x} {right = y} a p l r) zero h =
      absurd (omega (arith, length-append x y, Expands-length entries l))
  depths_within-below (pair {entry = e} {left = x} {right = y} a p l r) (suc levels) h =
      let n : length (x ++ y) ≡ length x + length y = length-append x y in
      let lx : 0 < length x = Expands-length entries l in
      let ly : 0 < length y = Expands-length entries r in
      let i : AllBelow (length x) (depths_within entries levels (left_of e)) = depths_within-below l levels (omega arith) in
      let j : AllBelow (length y) (depths_within entries levels (right_of e)) = depths_within-below r levels (omega arith) in
      rw (a, p) (AllBelow-map_suc_append (length x) (length y) (length (x ++ y)) (depths_within entries levels (left_of e)) (depths_within entries levels (right_of e)) (omega arith) (omega arith) i j)

  -- so at most 255 pairs are above a value of a symbol of at most 256 values
  pub depths_of-below : (s : ℕ) (xs : List ℕ) → Expands entries s xs → length xs ≤ 256 → (i : ℕ) → i < length (depths_of entries s) → get_or (depths_of entries s) i 0 ≤ 255
  unfolding depths_of
  depths_of-below s xs e h i g =
      let b : get_or (depths_within entries 256 s) i 0 < length xs = AllBelow-get_or (length xs) (depths_within entries 256 s) i (depths_within-below e 256 h) g in
      omega arith
