-- A key holds the number of kings of each colour.
use Rattle.std.proofs.Common.{◌≡◌, ℕ, ◌+◌, ◌*◌, ◌/◌, ◌%◌, ◌^◌, ◌<◌, ◌≤◌, List, [], ◌∷◌, length, get_or, take, ◌++◌, refl, sym, ap, ◌∙◌, Bool, true, false, cond, arith}
use Rattle.std.specs.Prelude.{◌==◌, ◌&&◌, count_by, slice_index}
use Rattle.std.proofs.lemmas.Bool.{eqb-true, eq-eqb, and_parts, and_from}
use Rattle.std.proofs.lemmas.List.Sums.{sum_by-cons, sum_by-append, count_by-le-length}
use Rattle.std.proofs.lemmas.List.{take_more}
use Rattle.szg_values.specs.Men.{is_man, is_color}
use Rattle.szg_values.specs.Placement.{PlacedMan, number_of, colored_code, men_key}
use Rattle.szg_values.specs.declared.placements.TheConstants.{KEYS}
use Rattle.szg_values.specs.declared.Man.{Man}
use Rattle.szg_values.specs.declared.Man.TheVariants.{Pawn, Knight, Bishop, Rook, Queen, King}
use Rattle.szg_values.specs.declared.Color.{Color}
use Rattle.szg_values.specs.declared.Color.TheVariants.{White, Black}

-- what a man is of a key: the digits below that of White's king, that one, those between, and that of Black's king
record Parts : Type 0 where
  low : ℕ
  white : ℕ
  between : ℕ
  black : ℕ

abbrev parts_of : Man → Color → Parts
parts_of Pawn White = record { low = 8; white = 0; between = 0; black = 0 }
parts_of Knight White = record { low = 64; white = 0; between = 0; black = 0 }
parts_of Bishop White = record { low = 512; white = 0; between = 0; black = 0 }
parts_of Rook White = record { low = 4096; white = 0; between = 0; black = 0 }
parts_of Queen White = record { low = 32768; white = 0; between = 0; black = 0 }
parts_of King White = record { low = 0; white = 1; between = 0; black = 0 }
parts_of Pawn Black = record { low = 0; white = 0; between = 64; black = 0 }
parts_of Knight Black = record { low = 0; white = 0; between = 512; black = 0 }
parts_of Bishop Black = record { low = 0; white = 0; between = 4096; black = 0 }
parts_of Rook Black = record { low = 0; white = 0; between = 32768; black = 0 }
parts_of Queen Black = record { low = 0; white = 0; between = 262144; black = 0 }
parts_of King Black = record { low = 0; white = 0; between = 0; black = 1 }

abbrev bit : Bool → ℕ
bit b = cond b 1 0

bit_small : (b : Bool) → bit b ≤ 1
bit_small true = omega arith
bit_small false = omega arith

record IsMan (man : Man) (color : Color) (p : Parts) : Type 0 where
  key : 8 ^ colored_code man color ≡ p.low + 262144 * p.white + 2097152 * p.between + 4398046511104 * p.black
  low : p.low ≤ 32768
  between : p.between ≤ 262144
  white : p.white ≡ bit (is_man King man && is_color White color)
  black : p.black ≡ bit (is_man King man && is_color Black color)

man_is : (man : Man) (color : Color) → IsMan man color (parts_of man color)
man_is Pawn White = record { key = refl; low = omega arith; between = omega arith; white = refl; black = refl }
man_is Knight White = record { key = refl; low = omega arith; between = omega arith; white = refl; black = refl }
man_is Bishop White = record { key = refl; low = omega arith; between = omega arith; white = refl; black = refl }
man_is Rook White = record { key = refl; low = omega arith; between = omega arith; white = refl; black = refl }
man_is Queen White = record { key = refl; low = omega arith; between = omega arith; white = refl; black = refl }
man_is King White = record { key = refl; low = omega arith; between = omega arith; white = refl; black = refl }
man_is Pawn Black = record { key = refl; low = omega arith; between = omega arith; white = refl; black = refl }
man_is Knight Black = record { key = refl; low = omega arith; between = omega arith; white = refl; black = refl }
man_is Bishop Black = record { key = refl; low = omega arith; between = omega arith; white = refl; black = refl }
man_is Rook Black = record { key = refl; low = omega arith; between = omega arith; white = refl; black = refl }
man_is Queen Black = record { key = refl; low = omega arith; between = omega arith; white = refl; black = refl }
man_is King Black = record { key = refl; low = omega arith; between = omega arith; white = refl; black = refl }

record AreMen (men : List PlacedMan) (p : Parts) : Type 0 where
  key : men_key men ≡ p.low + 262144 * p.white + 2097152 * p.between + 4398046511104 * p.black
  low : p.low ≤ 32768 * length men
  between : p.between ≤ 262144 * length men
  white : p.white ≡ number_of King White men
  black : p.black ≡ number_of King Black men

counted : (test : PlacedMan → Bool) (s : PlacedMan) (men : List PlacedMan) → count_by test (s ∷ men) ≡ bit (test s) + count_by test men
counted test s men = sum_by-cons (λ (x : PlacedMan). bit (test x)) s men

men_are : (men : List PlacedMan) → (p : Parts) × AreMen men p
men_are [] = (record { low = 0; white = 0; between = 0; black = 0 }, record { key = refl; low = omega arith; between = omega arith; white = refl; black = refl })
men_are (s ∷ men) =
    let p = parts_of s.0 s.1 in let h = man_is s.0 s.1 in
    let more = men_are men in let q = more.0 in let r = more.1 in
    let a = h.key in let b = r.key in let k = sum_by-cons (λ (x : PlacedMan). 8 ^ colored_code x.0 x.1) s men in
    let l = h.low in let m = r.low in let n = h.between in let o = r.between in
    let w = h.white in let x = r.white in let y = h.black in let z = r.black in
    let cw = counted (λ t. is_man King t.0 && is_color White t.1) s men in
    let cb = counted (λ t. is_man King t.0 && is_color Black t.1) s men in (
      record { low = p.low + q.low; white = p.white + q.white; between = p.between + q.between; black = p.black + q.black },
      record {
        key = omega (arith, a, b, k);
        low = omega (arith, l, m);
        between = omega (arith, n, o);
        white = omega (arith, w, x, cw);
        black = omega (arith, y, z, cb);
      },
    )

split_key : (key low w b k : ℕ) → key ≡ low + 262144 * w + 2097152 * b + 4398046511104 * k → low ≤ 196608 → b ≤ 1572864 → w ≤ 6 → key / 262144 % 8 ≡ 1 → key / 4398046511104 ≡ 1 → (w ≡ 1) × (k ≡ 1)
split_key key low w b k e l m f g h =
    let q : key / 262144 ≡ w + 8 * b + 16777216 * k = omega arith in
    (omega (arith, q, g, f), omega (arith, e, l, m, f, h))

-- men with a king of each colour
pub kings_told : (men : List PlacedMan) → length men ≤ 6 → (men_key men / 262144 % 8 == 1 && men_key men / 4398046511104 == 1) ≡ true →
    (number_of King White men ≡ 1) × (number_of King Black men ≡ 1)
kings_told men few e =
    let r = men_are men in let p = r.0 in let h = r.1 in
    let t = and_parts (men_key men / 262144 % 8 == 1) (men_key men / 4398046511104 == 1) e in
    let l = h.low in let m = h.between in let w = h.white in
    let c = count_by-le-length (λ (s : PlacedMan). is_man King s.0 && is_color White s.1) men in
    let z = split_key (men_key men) p.low p.white p.between p.black h.key (omega (arith, l, few)) (omega (arith, m, few)) (omega (arith, w, c, few))
    (eqb-true (men_key men / 262144 % 8) 1 t.0) (eqb-true (men_key men / 4398046511104) 1 t.1) in
    (sym h.white ∙ z.0, sym h.black ∙ z.1)

split_back : (key low w b k : ℕ) → key ≡ low + 262144 * w + 2097152 * b + 4398046511104 * k → low ≤ 196608 → b ≤ 1572864 → w ≡ 1 → k ≡ 1 → (key / 262144 % 8 ≡ 1) × (key / 4398046511104 ≡ 1)
split_back key low w b k e l m f g =
    let q : key / 262144 ≡ w + 8 * b + 16777216 * k = omega arith in
    (omega (arith, q, g, f), omega (arith, e, l, m, f, g))

-- the key of men with a king of each colour
pub kings_kept : (men : List PlacedMan) → length men ≤ 6 → number_of King White men ≡ 1 → number_of King Black men ≡ 1 →
    (men_key men / 262144 % 8 == 1 && men_key men / 4398046511104 == 1) ≡ true
kings_kept men few white black =
    let r = men_are men in let p = r.0 in let h = r.1 in
    let l = h.low in let m = h.between in
    let z = split_back (men_key men) p.low p.white p.between p.black h.key (omega (arith, l, few)) (omega (arith, m, few)) (h.white ∙ white) (h.black ∙ black) in
    and_from (men_key men / 262144 % 8 == 1) (men_key men / 4398046511104 == 1) (eq-eqb (men_key men / 262144 % 8) 1 z.0) (eq-eqb (men_key men / 4398046511104) 1 z.1)

-- one man more
pub key_more : (men : List PlacedMan) (i : ℕ) (s : PlacedMan) → i < length men → s ≡ get_or men i s → (key one : ℕ) → key ≡ men_key (take i men) → one ≡ 8 ^ colored_code s.0 s.1 →
    key + one ≡ men_key (take (i + 1) men)
key_more men i s h e key one k o =
    let add : PlacedMan → ℕ = λ t. 8 ^ colored_code t.0 t.1 in
    let more = ap men_key (take_more men i s h ∙ ap (λ (t : PlacedMan). take i men ++ t ∷ []) (sym e)) in
    let joined = sum_by-append add (take i men) (s ∷ []) in
    let last = sum_by-cons add s [] in omega (arith, k, o, more, joined, last)

-- what each man adds
pub key_at : (man : Man) (color : Color) → slice_index KEYS (colored_code man color) ≡ 8 ^ colored_code man color
key_at Pawn White = refl
key_at Knight White = refl
key_at Bishop White = refl
key_at Rook White = refl
key_at Queen White = refl
key_at King White = refl
key_at Pawn Black = refl
key_at Knight Black = refl
key_at Bishop Black = refl
key_at Rook Black = refl
key_at Queen Black = refl
key_at King Black = refl

pub key_small : (man : Man) (color : Color) → 8 ^ colored_code man color < 2 ^ 60
key_small man color = let h = man_is man color in let k = h.key in let l = h.low in let b = h.between in let w = h.white in let x = h.black in
    let y = bit_small (is_man King man && is_color White color) in let z = bit_small (is_man King man && is_color Black color) in omega (arith, k, l, b, w, x, y, z)
