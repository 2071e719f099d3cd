-- What a window that holds a word says of the reader before and after it.
use Rattle.std.proofs.Common.{ℕ, Bool, ◌≡◌, ◌+◌, ◌-◌, ◌*◌, ◌/◌, ◌%◌, ◌^◌, ◌<◌, ◌≤◌, List, length, take, drop, ap, arith}
use Rattle.szg_code.specs.Bits.{bits}
use Rattle.szg_code.specs.Canonical.{CanonicalCode, symbol_at}
use Rattle.szg_code.specs.Acceptance.{IsCode}
use Rattle.szg_code.specs.Cursor.{Cursor, EndlessCursor, TakesWord}
use Rattle.szg_code.specs.Least.{shifted_base}
use Rattle.szg_code.specs.Spelling.{BeginsWithNoWord}
use Rattle.szg_code.specs.Window.{HoldsBits, IsWordReader}
use Rattle.szg_code.proofs.ByteBits.{length-left}
use Rattle.szg_code.proofs.FirstWords.{no_word_past, no_word_without, takes_word}
use Rattle.szg_code.proofs.Windows.{HoldsBits-moved, HoldsBits-fewer}

-- the cursor of a reader at an offset
abbrev pub cursor_at : List ℕ → ℕ → EndlessCursor
cursor_at bytes offset = record { cursor = record { taken = take offset (bits bytes); left = drop offset (bits bytes) }; past = offset - 8 * length bytes }

module _ (code : CanonicalCode) (accepted : IsCode code) (bytes : List ℕ) (offset window held : ℕ) (read : IsWordReader bytes offset window held) (old : EndlessCursor) (is : cursor_at bytes offset ≡ old) (l : ℕ) (enough : l ≤ held) (long : code.min_length ≤ l) (short : l ≤ code.max_length) (reaches : shifted_base code 64 l ≤ window) (before : (k : ℕ) → code.min_length ≤ k → k < l → window < shifted_base code 64 k) where
  left_is : drop offset (bits bytes) ≡ old.cursor.left
  left_is = ap (λ (k : EndlessCursor). k.cursor.left) is

  room : l + read.holds.spare ≤ 64
  room = let r = read.holds.room in omega (arith, r, enough)

  left_length : length (drop offset (bits bytes)) ≡ length old.cursor.left
  left_length = ap (λ (u : List Bool). length u) left_is

  -- the symbol of the first word does not exist
  pub none_without : code.symbols ≤ symbol_at code l (window / 2 ^ (64 - l)) → BeginsWithNoWord code old.cursor.left
  none_without none =
      let h : HoldsBits bytes offset window held = read.holds in
      no_word_without code accepted bytes offset window h.spare h.is_window old.cursor left_is l room long short reaches before none

  -- the first word is taken if the reader is not past the end after it
  pub taken_within : (new : Cursor) (s : ℕ) → (offset + l) - 8 * length bytes ≡ 0 → s ≡ symbol_at code l (window / 2 ^ (64 - l)) → s < code.symbols →
      new.taken ≡ take (offset + l) (bits bytes) → new.left ≡ drop (offset + l) (bits bytes) → (old.past ≡ 0) × TakesWord code old.cursor new s
  taken_within new s inside symbol_is there taken left =
      let h : HoldsBits bytes offset window held = read.holds in
      let past : offset - 8 * length bytes ≡ old.past = ap (λ (k : EndlessCursor). k.past) is in
      let some : 1 ≤ code.min_length = accepted.lengths.some_bits in (
        omega (arith, inside, past),
        takes_word code accepted bytes offset window h.spare h.is_window old.cursor left_is l room long short reaches before new s
            (omega (arith, inside, left_length, some, long, length-left offset bytes)) symbol_is there (ap (λ (k : EndlessCursor). k.cursor.taken) is) taken left,
      )

  -- no word begins the bits left if the reader is past the end after it
  pub none_past : 0 < (offset + l) - 8 * length bytes → BeginsWithNoWord code old.cursor.left
  none_past past =
      let h : HoldsBits bytes offset window held = read.holds in
      no_word_past code accepted bytes offset window h.spare h.is_window old.cursor left_is l room long short reaches before (omega (arith, past, left_length, length-left offset bytes))

-- the reader is valid after the first word of a window that holds `longest` bits more
pub moved : (bytes : List ℕ) (offset window longest held l : ℕ) → l ≤ longest → IsWordReader bytes offset window (longest + held) → IsWordReader bytes (offset + l) (window * 2 ^ l % 2 ^ 64) held
moved bytes offset window longest held l short read =
    let near = read.near in
    let most = HoldsBits-moved bytes offset window (longest + held) l longest read.holds short (omega arith) in
    record {
      fits = read.fits;
      near = omega (arith, near, short);
      holds = HoldsBits-fewer bytes (offset + l) _ _ held most (omega arith);
    }
