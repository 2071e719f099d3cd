-- Counts of sections compose.
use Rattle.std.proofs.Common.{◌≡◌, ℕ, ◌+◌, ◌-◌, ◌%◌, ◌^◌, List, [], ◌∷◌, ◌++◌, length, take, sym, ap, subst, ◌∙◌, append-nil, arith, Some}
use Rattle.std.specs.Prelude.{flat_map, slice_get}
use Rattle.std.specs.List.{FoldsTo}
use Rattle.std.proofs.lemmas.List.{length-append}
use Rattle.std.proofs.lemmas.Grind.{flat_map-append}
use Rattle.std.proofs.lemmas.Nat.Gcd.{dvd_of_mod-eq-zero}
use Rattle.std.proofs.Math.Nat.{mod-mod_of_dvd}
use Rattle.szg_file.specs.declared.writing.tally.Tally.{Tally}
use Rattle.szg_file.specs.Contents.{gap}
use Rattle.szg_file.specs.FileOf.{Section, written, padding, spare}
use Rattle.szg_file.specs.Sections.{Took}
use Rattle.szg_file.specs.Tally.{end_of, IsAlike, Counts}
use Rattle.szg_file.proofs.Tables.AssembledLaws.{take_more_get}

counts_none : (a : Tally) → Counts [] a a
counts_none a = record { place = λ p h. h; fill = λ p h. omega arith }

-- one section, and more after it
counts_more : (section : Section) (s : List Section) {a b c : Tally} → Counts (section ∷ []) a b → Counts s b c → Counts (section ∷ s) a c
counts_more section s first second = record {
  place = λ p h. second.place (end_of p (section ∷ [])) (first.place p h);
  fill = λ p h.
      let before = first.fill p h in
      let others = second.fill (end_of p (section ∷ [])) (first.place p h) in
      omega (arith, before, others);
}

counts_steps : {W : Type 0} (s : List Section) (p q : Tally × W) → FoldsTo {P = Tally × W} (λ p section q. Counts (section ∷ []) p.0 q.0) p s q → Counts s p.0 q.0
counts_steps [] p q h = subst (λ (z : Tally × _). Counts [] p.0 z.0) h (counts_none p.0)
counts_steps (section ∷ s) p q h = counts_more section s h.1 (counts_steps s h.0 q h.2)

-- a tally counts the sections that it takes
pub counts_taken : {W : Type 0} (s : List Section) (a b : Tally) (o p : W) → Took (λ old _ section new _. Counts (section ∷ []) old new) s a o b p → Counts s a b
counts_taken s a b o p h = counts_steps s (a, o) (b, p) h.steps

pub counts_field : (bytes : List ℕ) (n : ℕ) {a b : Tally} → length bytes ≡ n → IsAlike b.place (a.place + n) → b.fill ≡ a.fill → Counts (written bytes ∷ []) a b
counts_field bytes n long place fill = record {
  place = λ p h. omega (arith, long, place, h);
  fill = λ p h. omega (arith, fill);
}

pub counts_spare : (count : ℕ) {a b : Tally} → IsAlike b.place (a.place + count) → IsAlike b.fill (a.fill + count) → Counts (spare count ∷ []) a b
counts_spare count place fill = record { place = λ p h. omega (arith, place, h); fill = λ p h. omega (arith, fill) }

gap_alike : (unit place p : ℕ) → 2 ^ 64 % unit ≡ 0 → IsAlike place p → gap unit place ≡ gap unit p
gap_alike unit place p whole h =
    let divides = dvd_of_mod-eq-zero unit {n = 2 ^ 64} whole in
    let rests : place % unit ≡ p % unit = sym (mod-mod_of_dvd unit {b = 2 ^ 64} place divides) ∙ ap (λ (n : ℕ). n % unit) h ∙ mod-mod_of_dvd unit {b = 2 ^ 64} p divides in
    ap (λ (n : ℕ). (unit - n) % unit) rests

pub counts_padding : (unit : ℕ) {a b : Tally} → 2 ^ 64 % unit ≡ 0 → Counts (spare (gap unit a.place) ∷ []) a b → Counts (padding unit ∷ []) a b
counts_padding unit {a = a} {b = b} whole h = record {
  place = λ p e. subst (λ (n : ℕ). IsAlike b.place (p + 0 + n)) (gap_alike unit a.place p whole e) (h.place p e);
  fill = λ p e. subst (λ (n : ℕ). IsAlike b.fill (a.fill + (n + 0))) (gap_alike unit a.place p whole e) (h.fill p e);
}

-- ---- the entries of a dictionary

-- two fields counted as one
counts_longer : (x y : List ℕ) {a b c : Tally} → Counts (written x ∷ []) a b → IsAlike c.place (b.place + length y) → c.fill ≡ b.fill → Counts (written (x ++ y) ∷ []) a c
counts_longer x y {a = a} {b = b} {c = c} first place fill = record {
  place = λ p h. let before = first.place p h in let joint = length-append x y in omega (arith, before, joint, place);
  fill = λ p h. let before = first.fill p h in omega (arith, before, fill);
}

flat_map-one : (xs : List (List ℕ)) (x : List ℕ) → flat_map (λ (entry : List ℕ). entry) (xs ++ x ∷ []) ≡ flat_map (λ (entry : List ℕ). entry) xs ++ x
flat_map-one xs x = flat_map-append (λ (entry : List ℕ). entry) xs (x ∷ []) ∙ ap (λ (z : List ℕ). flat_map (λ (entry : List ℕ). entry) xs ++ z) (append-nil x)

pub counts_entry : (entries : List (List ℕ)) (at : ℕ) (entry : List ℕ) {a b c : Tally} → slice_get entries at ≡ Some entry →
    Counts (written (flat_map (λ entry. entry) (take at entries)) ∷ []) a b → IsAlike c.place (b.place + length entry) → c.fill ≡ b.fill →
    Counts (written (flat_map (λ entry. entry) (take (at + 1) entries)) ∷ []) a c
counts_entry entries at entry {a = a} {c = c} there first place fill =
    subst (λ (z : List (List ℕ)). Counts (written (flat_map (λ entry. entry) z) ∷ []) a c) (sym (take_more_get entries at entry there))
    (subst (λ (z : List ℕ). Counts (written z ∷ []) a c) (sym (flat_map-one (take at entries) entry))
    (counts_longer (flat_map (λ (entry : List ℕ). entry) (take at entries)) entry first place fill))
