-- Laws of what bits spell: one list of symbols, which the functions return.
use Rattle.std.proofs.Common.{ℕ, zero, suc, Bool, true, false, ◌≡◌, ◌+◌, ◌-◌, ◌*◌, ◌^◌, ◌<◌, ◌≤◌, inl, inr, List, [], ◌∷◌, ◌++◌, Option, Some, None, ◌&&◌, nat_le, nat_lt, length, take, drop, map, refl, ap, sym, ◌∙◌, subst, arith, length-append, get_or}
use Rattle.std.proofs.Math.Seq.{drop-append_seam, take-append_seam}
use Rattle.szg_code.specs.Bits.{number, bits_of_number}
use Rattle.szg_code.specs.Canonical.{CanonicalCode, IsIn, IsWord, is_word, symbol_at, word_lengths, words, words_of_length, base, top}
use Rattle.szg_code.specs.Acceptance.{IsCode}
use Rattle.szg_code.specs.Spelling.{BeginsWithWord, BeginsWithNoWord, Spells, first_word, symbols_after, symbols_within, symbols_spelled}
use Rattle.std.proofs.Math.Nat.{mul-le-mul_right}
use Rattle.std.proofs.lemmas.Nat.{pow-add}
use Rattle.std.proofs.lemmas.Bool.{leb-true, le-leb, cases_order, and_parts}
use Rattle.std.proofs.lemmas.List.{take-append-drop}
use Rattle.std.specs.Cmp.Derive.{both_true}
use Rattle.std.specs.List.{filter, range_with_len}
use Rattle.szg_code.proofs.Membership.{find-Some, find-None, IsIn-map, IsIn-map_source, IsIn-range_with_len, IsIn-range_with_len_bounds, IsIn-flat_map, IsIn-flat_map_source, IsIn-filter, IsIn-filter_source}
use Rattle.szg_code.proofs.Numbers.{bits_of_number-number, number-bits_of_number, length-bits_of_number, mod-small}
use Rattle.szg_code.proofs.Words.{no_word_begins_another, top-least, top-spread}

module _ (code : CanonicalCode) (accepted : IsCode code) where
  -- at most one word begins the bits
  pub BeginsWithWord-unique : (bits : List Bool) (s t : ℕ) (r q : List Bool) → BeginsWithWord code bits s r → BeginsWithWord code bits t q → (s ≡ t) × (r ≡ q)
  BeginsWithWord-unique bits s t r q a b =
      let e : a.word ++ r ≡ b.word ++ q = sym a.joined ∙ b.joined in
      let u : (a.word ≡ b.word) × (s ≡ t) = no_word_begins_another code accepted a.word b.word r q s t a.is_one b.is_one e in
      let f : drop (length a.word) (a.word ++ r) ≡ r = drop-append_seam a.word r in
      let g : drop (length b.word) (b.word ++ q) ≡ q = drop-append_seam b.word q in
      let h : drop (length a.word) (a.word ++ r) ≡ drop (length b.word) (b.word ++ q) = cc in
      (u.1, sym f ∙ h ∙ g)

  -- of two lists of symbols that the bits spell, the shorter is a prefix of the longer
  pub Spells-unique : (bits : List Bool) (xs ys : List ℕ) → Spells code bits xs → Spells code bits ys → length xs ≤ length ys → take (length xs) ys ≡ xs
  Spells-unique bits [] ys a b h = refl
  Spells-unique bits (x ∷ xs) [] a b h = absurd (omega arith)
  Spells-unique bits (x ∷ xs) (y ∷ ys) a b h =
      let u : (x ≡ y) × (a.0 ≡ b.0) = BeginsWithWord-unique bits x y a.0 b.0 a.1 b.1 in
      let i : take (length xs) ys ≡ xs = Spells-unique a.0 xs ys a.2 (subst (λ r. Spells code r ys) (sym u.1) b.2) (omega arith) in
      let s : x ≡ y = u.0 in
      cc

module _ (code : CanonicalCode) where
  pub IsWord-from_is_word : (word : List Bool) → is_word code word ≡ true → IsWord code word (symbol_at code (length word) (number word))
  unfolding is_word
  IsWord-from_is_word word e =
      let a = nat_le code.min_length (length word) in
      let b = nat_le (length word) code.max_length in
      let c = nat_le (base code (length word)) (number word) in
      let d = nat_lt (number word) (top code (length word)) in
      let f = nat_lt (symbol_at code (length word) (number word)) code.symbols in
      let p4 : (a && b && c && d) ≡ true = (and_parts (a && b && c && d) f e).0 in
      let p3 : (a && b && c) ≡ true = (and_parts (a && b && c) d p4).0 in
      let p2 : (a && b) ≡ true = (and_parts (a && b) c p3).0 in
      record {
        long_enough = leb-true code.min_length (length word) (and_parts a b p2).0;
        short_enough = leb-true (length word) code.max_length (and_parts a b p2).1;
        from_base = leb-true (base code (length word)) (number word) (and_parts (a && b) c p3).1;
        below_top = leb-true (suc (number word)) (top code (length word)) (and_parts (a && b && c) d p4).1;
        symbol_is = refl;
        symbol_there = leb-true (suc (symbol_at code (length word) (number word))) code.symbols (and_parts (a && b && c && d) f e).1;
      }

  pub is_word-from_IsWord : (word : List Bool) (s : ℕ) → IsWord code word s → is_word code word ≡ true
  unfolding is_word
  is_word-from_IsWord word s w =
      let there : symbol_at code (length word) (number word) < code.symbols = subst (λ n. n < code.symbols) w.symbol_is w.symbol_there in
      both_true (both_true (both_true (both_true (le-leb code.min_length (length word) w.long_enough) (le-leb (length word) code.max_length w.short_enough))
      (le-leb (base code (length word)) (number word) w.from_base)) (le-leb (suc (number word)) (top code (length word)) w.below_top))
      (le-leb (suc (symbol_at code (length word) (number word))) code.symbols there)

  -- the result of first_word is a word, and the bits begin with it
  pub first_word-Some : (bits word : List Bool) → first_word code bits ≡ Some word → BeginsWithWord code bits (symbol_at code (length word) (number word)) (drop (length word) bits)
  unfolding first_word
  first_word-Some bits word e =
      let f = find-Some (is_word code) (map (λ l. take l bits) (word_lengths code)) word e in
      let m = IsIn-map_source (λ l. take l bits) (word_lengths code) word f.0 in
      let t : take m.0 bits ≡ word = m.2 in
      let j : take m.0 bits ++ drop m.0 bits ≡ bits = take-append-drop m.0 bits in
      let k : word ++ drop m.0 bits ≡ bits = subst (λ u. u ++ drop m.0 bits ≡ bits) t j in
      let d : drop (length word) (word ++ drop m.0 bits) ≡ drop m.0 bits = drop-append_seam word (drop m.0 bits) in
      let d' : drop (length word) bits ≡ drop m.0 bits = subst (λ u. drop (length word) u ≡ drop m.0 bits) k d in
      record {
        word = word;
        is_one = IsWord-from_is_word word f.1;
        joined = sym k ∙ ap (λ u. word ++ u) (sym d');
      }

  -- if first_word returns None, no word begins the bits
  pub first_word-None : (bits : List Bool) → first_word code bits ≡ None → BeginsWithNoWord code bits
  unfolding first_word word_lengths
  first_word-None bits e s rest b =
      let w : List Bool = b.word in
      let i : IsWord code w s = b.is_one in
      let r : IsIn (word_lengths code) (length w) = IsIn-range_with_len code.min_length (suc code.max_length - code.min_length) (length w) i.long_enough
      (let h : length w ≤ code.max_length = i.short_enough in let g : code.min_length ≤ length w = i.long_enough in omega arith) in
      let m : IsIn (map (λ l. take l bits) (word_lengths code)) (take (length w) bits) = IsIn-map (λ l. take l bits) (word_lengths code) (length w) r in
      let t : take (length w) bits ≡ w = ap (λ u. take (length w) u) b.joined ∙ take-append_seam w rest in
      let f : is_word code (take (length w) bits) ≡ false = find-None (is_word code) (map (λ l. take l bits) (word_lengths code)) (take (length w) bits) e m in
      let y : is_word code w ≡ true = is_word-from_IsWord w s i in
      absurd (let f' : is_word code w ≡ false = subst (λ u. is_word code u ≡ false) t f in cc)

  -- the bits spell the symbols that the function returns
  symbols_after-Spells : (bits : List Bool) (found : Option (List Bool)) (f : List Bool → List ℕ) → first_word code bits ≡ found → ((x : List Bool) → Spells code x (f x)) → Spells code bits (symbols_after code bits found f)
  symbols_after-Spells bits None f e h = tt
  symbols_after-Spells bits (Some word) f e h = (drop (length word) bits, first_word-Some bits word e, h (drop (length word) bits))

  pub symbols_within-Spells : (count : ℕ) (bits : List Bool) → Spells code bits (symbols_within code count bits)
  unfolding symbols_within
  symbols_within-Spells zero bits = tt
  symbols_within-Spells (suc count) bits = symbols_after-Spells bits (first_word code bits) (symbols_within code count) refl (symbols_within-Spells count)

  pub Spells-symbols_spelled : (bits : List Bool) → Spells code bits (symbols_spelled code bits)
  unfolding symbols_spelled
  Spells-symbols_spelled bits = symbols_within-Spells (length bits) bits

module _ (code : CanonicalCode) (accepted : IsCode code) where
  symbols_after-prefix : (bits : List Bool) (found : Option (List Bool)) (f : List Bool → List ℕ) (s : ℕ) (xs : List ℕ) (rest : List Bool) → first_word code bits ≡ found → BeginsWithWord code bits s rest → take (length xs) (f rest) ≡ xs → take (length (s ∷ xs)) (symbols_after code bits found f) ≡ s ∷ xs
  symbols_after-prefix bits None f s xs rest e b h = absurd (first_word-None code bits e s rest b)
  symbols_after-prefix bits (Some word) f s xs rest e b h =
      let u = BeginsWithWord-unique code accepted bits s (symbol_at code (length word) (number word)) rest (drop (length word) bits) b (first_word-Some code bits word e) in
      let p : s ≡ symbol_at code (length word) (number word) = u.0 in
      let q : rest ≡ drop (length word) bits = u.1 in
      let i : take (length xs) (f (drop (length word) bits)) ≡ xs = subst (λ r. take (length xs) (f r) ≡ xs) q h in
      cc

  -- any symbols that the bits spell are the first of those that the function returns
  pub symbols_within-prefix : (count : ℕ) (bits : List Bool) (xs : List ℕ) → Spells code bits xs → length xs ≤ count → take (length xs) (symbols_within code count bits) ≡ xs
  unfolding symbols_within
  symbols_within-prefix count bits [] a h = refl
  symbols_within-prefix zero bits (x ∷ xs) a h = absurd (omega arith)
  symbols_within-prefix (suc count) bits (x ∷ xs) a h =
      symbols_after-prefix bits (first_word code bits) (symbols_within code count) x xs a.0 refl a.1 (symbols_within-prefix count a.0 xs a.2 (omega arith))

  -- each word has at least one bit
  pub Spells-length : (bits : List Bool) (xs : List ℕ) → Spells code bits xs → length xs ≤ length bits
  Spells-length bits [] a = omega arith
  Spells-length bits (x ∷ xs) a =
      let i : length xs ≤ length a.0 = Spells-length a.0 xs a.2 in
      let b : BeginsWithWord code bits x a.0 = a.1 in
      let j : length bits ≡ length (b.word ++ a.0) = ap (λ u. length u) b.joined in
      let k : length (b.word ++ a.0) ≡ length b.word + length a.0 = length-append b.word a.0 in
      let l : code.min_length ≤ length b.word = b.is_one.long_enough in
      let m : 1 ≤ code.min_length = accepted.lengths.some_bits in
      omega arith

  pub symbols_spelled-prefix : (bits : List Bool) (xs : List ℕ) → Spells code bits xs → take (length xs) (symbols_spelled code bits) ≡ xs
  unfolding symbols_spelled
  symbols_spelled-prefix bits xs a = symbols_within-prefix (length bits) bits xs a (Spells-length bits xs a)

  -- a number from the base to the end of a length has that many bits
  pub top-fits : (l : ℕ) → code.min_length ≤ l → l ≤ code.max_length → top code l ≤ 2 ^ l
  top-fits l g h =
      elim (cases_order l code.min_length) [
        | inl e ↦ let t : top code l ≡ 2 ^ l = top-least code l e in omega arith
        | inr o ↦ elim o [
          | inl less ↦ absurd (omega arith)
          | inr more ↦ longer (l - code.min_length - 1) (omega arith)
        ]
      ]
    where
      longer : (d : ℕ) → l ≡ code.min_length + suc d → top code l ≤ 2 ^ l
      longer d e =
          let m : ℕ = code.min_length in
          let t : top code (m + suc d) ≤ base code m * 2 ^ suc d = top-spread code accepted m d (omega arith) (omega arith) in
          let b : base code m < 2 ^ m = accepted.least in
          let c : base code m * 2 ^ suc d ≤ 2 ^ m * 2 ^ suc d = mul-le-mul_right (2 ^ suc d) (let b' : base code m ≤ 2 ^ m = omega arith in b') in
          let p : 2 ^ (m + suc d) ≡ 2 ^ m * 2 ^ suc d = pow-add 2 m (suc d) in
          rw e (omega arith)

  -- an item of the list of words is a word
  pub IsWord-from_words : (word : List Bool) (s : ℕ) → IsIn (words code) (word, s) → IsWord code word s
  unfolding words words_of_length word_lengths
  IsWord-from_words word s h =
      let a = IsIn-flat_map_source (words_of_length code) (word_lengths code) (word, s) h in
      let l : ℕ = a.0 in
      let lengths : (code.min_length ≤ l) × (l < code.min_length + (suc code.max_length - code.min_length)) = IsIn-range_with_len_bounds code.min_length (suc code.max_length - code.min_length) l a.1 in
      let order : code.min_length ≤ code.max_length = accepted.lengths.in_order in
      let short : l ≤ code.max_length = omega arith in
      let numbers = filter (λ v. nat_lt (symbol_at code l v) code.symbols) (range_with_len (base code l) (top code l - base code l)) in
      let b = IsIn-map_source (λ v. (bits_of_number l v, symbol_at code l v)) numbers (word, s) a.2 in
      let v : ℕ = b.0 in
      let c = IsIn-filter_source (λ v. nat_lt (symbol_at code l v) code.symbols) (range_with_len (base code l) (top code l - base code l)) v b.1 in
      let range : (base code l ≤ v) × (v < base code l + (top code l - base code l)) = IsIn-range_with_len_bounds (base code l) (top code l - base code l) v c.0 in
      let below : v < top code l = omega arith in
      let fits : top code l ≤ 2 ^ l = top-fits l lengths.0 short in
      let w : bits_of_number l v ≡ word = ap (λ p. p.0) b.2 in
      let t : symbol_at code l v ≡ s = ap (λ p. p.1) b.2 in
      let long : length word ≡ l = ap (λ u. length u) (sym w) ∙ length-bits_of_number l v in
      let value : number word ≡ v = ap (λ u. number u) (sym w) ∙ number-bits_of_number l v ∙ mod-small v (2 ^ l) (omega arith) in
      record {
        long_enough = rw long lengths.0;
        short_enough = rw long short;
        from_base = rw (long, value) range.0;
        below_top = rw (long, value) below;
        symbol_is = rw (long, value) (sym t);
        symbol_there = subst (λ n. n < code.symbols) t (leb-true (suc (symbol_at code l v)) code.symbols c.1);
      }

  -- a word is an item of the list of words
  pub words-IsWord : (word : List Bool) (s : ℕ) → IsWord code word s → IsIn (words code) (word, s)
  unfolding words words_of_length word_lengths
  words-IsWord word s w =
      let l : ℕ = length word in
      let v : ℕ = number word in
      let long : code.min_length ≤ l = w.long_enough in
      let short : l ≤ code.max_length = w.short_enough in
      let from : base code l ≤ v = w.from_base in
      let below : v < top code l = w.below_top in
      let a : IsIn (word_lengths code) l = IsIn-range_with_len code.min_length (suc code.max_length - code.min_length) l long (omega arith) in
      let b : IsIn (range_with_len (base code l) (top code l - base code l)) v = IsIn-range_with_len (base code l) (top code l - base code l) v from (omega arith) in
      let there : symbol_at code l v < code.symbols = subst (λ n. n < code.symbols) w.symbol_is w.symbol_there in
      let c : IsIn (filter (λ v. nat_lt (symbol_at code l v) code.symbols) (range_with_len (base code l) (top code l - base code l))) v =
      IsIn-filter (λ v. nat_lt (symbol_at code l v) code.symbols) (range_with_len (base code l) (top code l - base code l)) v b (le-leb (suc (symbol_at code l v)) code.symbols there) in
      let d : IsIn (words_of_length code l) (bits_of_number l v, symbol_at code l v) = IsIn-map (λ v. (bits_of_number l v, symbol_at code l v)) (filter (λ v. nat_lt (symbol_at code l v) code.symbols) (range_with_len (base code l) (top code l - base code l))) v c in
      let e : bits_of_number l v ≡ word = bits_of_number-number word in
      let f : symbol_at code l v ≡ s = sym w.symbol_is in
      let g : IsIn (words_of_length code l) (word, s) = subst (λ p. IsIn (words_of_length code l) p) (pair_of e f) d in
      IsIn-flat_map (words_of_length code) (word_lengths code) l (word, s) a g
    where
      pair_of : {a b : List Bool} {m n : ℕ} → a ≡ b → m ≡ n → (let p : List Bool × ℕ = (a, m) in p) ≡ (b, n)
      pair_of e f = cc

-- each symbol that bits spell exists
pub Spells-there : (code : CanonicalCode) (bits : List Bool) (xs : List ℕ) → Spells code bits xs → (k : ℕ) → k < length xs → get_or xs k 0 < code.symbols
Spells-there code bits [] a k h = absurd (omega arith)
Spells-there code bits (x ∷ xs) a zero h = let b : BeginsWithWord code bits x a.0 = a.1 in b.is_one.symbol_there
Spells-there code bits (x ∷ xs) a (suc k) h = Spells-there code a.0 xs a.2 k (omega arith)
