-- The converse: the format accepts the text that a value's sections spell, with that value as its meaning.
use Rattle.std.proofs.Common.{◌≡◌, ℕ, zero, suc, ◌+◌, ◌-◌, ◌^◌, ◌/◌, ◌<◌, ◌≤◌, Bool, true, false, List, [], ◌∷◌, ◌++◌, length, take, drop, refl, sym, ap, ◌∙◌, append-nil, arith}
use Rattle.std.specs.Prelude.{IsTrue, replicate}
use Rattle.std.proofs.Math.Seq.{take-length, drop-length}
use Rattle.std.proofs.lemmas.List.{length-append, length-take, take-append-drop}
use Rattle.szg_file.specs.declared.fault.Reason.{Reason}
use Rattle.szg_file.specs.Format.{Format, means, field, fill, good, verdict, after_fill, ◌>>=◌}
use Rattle.szg_file.specs.Contents.{number_of, bytes_of, gap}
use Rattle.szg_file.specs.File.{demand, filled_to, number_field}
use Rattle.szg_file.specs.FileOf.{Section, written, padding, spare, fill_of, bytes_with, queried}
use Rattle.szg_file.specs.Accepted.{AreBytes, SideBySide}
use Rattle.szg_file.proofs.Grammar.FormatLaws.{verdict-then, good-more, continued, field-whole, fill-whole}
use Rattle.szg_file.proofs.Grammar.FileLaws.{Spells, Spells-none, Spells-written, Spells-fill, Any, number_of-bytes_of}

-- additional sections need no fewer padding bytes
pub requested_front : (x : List ℕ) (s t : List Section) → queried x s ≤ queried x (s ++ t)
requested_front x [] t = omega arith
requested_front x (section ∷ s) t =
    let h = requested_front (x ++ bytes_with section (replicate (fill_of section (length x)) 0)) s t in
    omega (arith, h)

-- an accepted text of a value, whose padding bytes are the first of `supply`
pub record Text {A : Type 0} (f : Format A) (s : List Section) (place : ℕ) (a : A) (supply : List ℕ) : Type 0 where
  pub bytes : List ℕ
  pub filled : List ℕ
  pub later : List ℕ
  pub supply_is : supply ≡ filled ++ later
  pub spells : Spells place bytes s filled
  pub is_good : verdict f place bytes ≡ good a filled []

-- Each value that satisfies `P` has an accepted text, spelled by its sections, if there are enough padding bytes.
pub record Complete {A : Type 0} (f : Format A) (s : A → List Section) (P : A → Type 0) : Type 0 where
  pub complete : (place : ℕ) (a : A) (supply text : List ℕ) → P a → length text ≡ place → queried text (s a) ≤ length supply → Text f (s a) place a supply

pub after_good : {A B : Type 0} (f : Format A) (g : A → Format B) (place : ℕ) (x y : List ℕ) (a : A) (b : B) (filled more : List ℕ) →
    verdict f place x ≡ good a filled [] → verdict (g a) (place + length x) y ≡ good b more [] → verdict (f >>= g) place (x ++ y) ≡ good b (filled ++ more) []
after_good f g place x y a b filled more e h =
    let at : (place + length (x ++ y)) - length y ≡ place + length x = omega (arith, length-append x y) in
    verdict-then f g place (x ++ y)
    ∙ ap (continued g (place + length (x ++ y))) (good-more f place x y a filled [] e)
    ∙ ap (λ (n : ℕ). after_fill filled (verdict (g a) n y)) at
    ∙ ap (after_fill filled) h

pub complete_means : {A : Type 0} (a : A) → Complete (means a) (λ _. []) (λ b. b ≡ a)
complete_means a = record {
  complete = λ place b supply text same e enough.
      record { bytes = []; filled = []; later = supply; supply_is = refl; spells = Spells-none place; is_good = ap (λ (v : _). good v [] []) (sym same) };
}

pub complete_demand : (test : Bool) (at : ℕ) (why : Reason) → Complete (demand test at why) (λ _. []) (λ _. IsTrue test)
complete_demand true at why = record {
  complete = λ place b supply text same e enough.
      record { bytes = []; filled = []; later = supply; supply_is = refl; spells = Spells-none place; is_good = refl };
}
complete_demand false at why = record { complete = λ place b supply text same e enough. absurd cc }

pub complete_field : {A : Type 0} (size : ℕ) (next : List ℕ → A) (back : A → List ℕ) (P : A → Type 0) →
    ((a : A) → P a → (length (back a) ≡ size) × (next (back a) ≡ a)) → Complete (field size (λ b. means (next b))) (λ a. written (back a) ∷ []) P
complete_field size next back P agree = record {
  complete = λ place a supply text p e enough.
      let k = agree a p in
      let long : size ≤ length (back a) = omega (arith, k.0) in
      record {
        bytes = back a;
        filled = [];
        later = supply;
        supply_is = refl;
        spells = Spells-written place (back a);
        is_good = field-whole size (λ b. means (next b)) place (back a) long
            ∙ ap (λ (n : ℕ). good (next (take n (back a))) [] (drop n (back a))) (sym k.0)
            ∙ ap (λ (z : List ℕ). good (next z) [] (drop (length (back a)) (back a))) (take-length (back a))
            ∙ ap (λ (z : List ℕ). good (next (back a)) [] z) (drop-length (back a))
            ∙ ap (λ (v : _). good v [] []) k.1;
      };
}

-- the padding of a section, from the first padding bytes of `supply`
filled_text : {A : Type 0} (size place : ℕ) (x : A) (supply : List ℕ) (section : Section) → fill_of section place ≡ size → ((b : List ℕ) → bytes_with section b ≡ b) → size ≤ length supply →
    Text (fill size (means x)) (section ∷ []) place x supply
filled_text size place x supply section asks carried enough =
    let long : length (take size supply) ≡ size = omega (arith, length-take size supply, enough) in
    record {
      bytes = take size supply;
      filled = take size supply;
      later = drop size supply;
      supply_is = sym (take-append-drop size supply);
      spells = Spells-fill place (take size supply) section (asks ∙ sym long) carried;
      is_good = fill-whole size (means x) place (take size supply) (omega (arith, long))
          ∙ ap (λ (n : ℕ). good x (take n (take size supply) ++ []) (drop n (take size supply))) (sym long)
          ∙ ap (λ (z : List ℕ). good x (z ++ []) (drop (length (take size supply)) (take size supply))) (take-length (take size supply))
          ∙ ap (λ (z : List ℕ). good x (take size supply ++ []) z) (drop-length (take size supply))
          ∙ ap (λ (z : List ℕ). good x z []) (append-nil (take size supply));
    }

pub complete_filled_to : (unit : ℕ) → Complete (filled_to unit) (λ _. padding unit ∷ []) Any
complete_filled_to unit = record {
  complete = λ place a supply text p e enough.
      let size : gap unit (length text) ≡ gap unit place = ap (gap unit) e in
      let x = filled_text (gap unit place) place tt supply (padding unit) refl (λ b. refl) (omega (arith, enough, size)) in
      record { bytes = x.bytes; filled = x.filled; later = x.later; supply_is = x.supply_is; spells = x.spells; is_good = x.is_good };
}

pub complete_fill : {A : Type 0} (size : ℕ) (x : A) → Complete (fill size (means x)) (λ _. spare size ∷ []) (λ a. a ≡ x)
complete_fill size x = record {
  complete = λ place a supply text same e enough.
      let t = filled_text size place x supply (spare size) refl (λ b. refl) (omega (arith, enough)) in
      record { bytes = t.bytes; filled = t.filled; later = t.later; supply_is = t.supply_is; spells = t.spells; is_good = t.is_good ∙ ap (λ (v : _). good v t.filled []) (sym same) };
}

pub length-bytes_of : (size n : ℕ) → length (bytes_of size n) ≡ size
length-bytes_of zero n = refl
length-bytes_of (suc size) n = ap suc (length-bytes_of size (n / 256))

pub complete_number : (size : ℕ) → Complete (number_field size) (λ n. written (bytes_of size n) ∷ []) (λ n. n < 256 ^ size)
complete_number size = complete_field size number_of (bytes_of size) (λ n. n < 256 ^ size) (λ n small. (length-bytes_of size n, number_of-bytes_of size n small))

pub complete_bytes : (size : ℕ) → Complete (field size means) (λ bytes. written bytes ∷ []) (AreBytes size)
complete_bytes size = complete_field size (λ bytes. bytes) (λ bytes. bytes) (AreBytes size) (λ bytes p. (p.0, refl))

beside_none : {A B : Type 0} (P : A → B → Type 0) (ys : List B) → SideBySide P [] ys → ys ≡ []
beside_none P [] h = refl
beside_none P (y ∷ ys) h = absurd h
