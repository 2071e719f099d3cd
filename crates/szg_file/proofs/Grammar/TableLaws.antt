-- Consequences for tables of the law that the format accepts the file of an accepted table.
use Rattle.std.proofs.Common.{◌≡◌, ℕ, ◌==◌, Bool, true, false, List, [], ◌∷◌, ◌++◌, length, take, drop, refl, sym, ap, ◌∙◌, append-nil, arith}
use Rattle.std.proofs.lemmas.List.{append_assoc}
use Rattle.szg_values.specs.declared.Kind.{Kind}
use Rattle.szg_values.specs.declared.Kind.TheVariants.{Wdl, Dtz}
use Rattle.szg_file.specs.Format.{verdict, good, truncated}
use Rattle.szg_values.specs.Material.{Sides}
use Rattle.szg_file.specs.Contents.{Contents}
use Rattle.szg_file.specs.File.{file, magic_of}
use Rattle.szg_file.specs.FileOf.{Section, fill_of, bytes_with, joined, sections, file_of}
use Rattle.szg_file.specs.Accepted.{IsAccepted}
use Rattle.szg_file.specs.Laws.{FileIsGood, OneFileOneTable, NoFileBeginsAnother, CutFileIsTruncated}
use Rattle.szg_file.proofs.Grammar.FormatLaws.{no_prefix, cut_anywhere}

alone : FileIsGood → (t : Contents) (fill : List ℕ) → IsAccepted t fill → verdict (file t.material t.kind) 0 (file_of t fill) ≡ good t fill []
alone law t fill h = ap (λ (z : List ℕ). verdict (file t.material t.kind) 0 z) (sym (append-nil (file_of t fill))) ∙ law t fill [] h

-- the second table's verdict, with the first one's material and kind
other : FileIsGood → (t t' : Contents) (fill' : List ℕ) → IsAccepted t' fill' → t.material ≡ t'.material → t.kind ≡ t'.kind →
    verdict (file t.material t.kind) 0 (file_of t' fill') ≡ good t' fill' []
other law t t' fill' h m k =
    ap (λ (x : Sides). verdict (file x t.kind) 0 (file_of t' fill')) m ∙ ap (λ (x : Kind). verdict (file t'.material x) 0 (file_of t' fill')) k ∙ alone law t' fill' h

-- ---- a file's first byte determines its kind

begins : (text : List ℕ) (rows : List Section) (fill : List ℕ) → (more : List ℕ) × (joined text rows fill ≡ text ++ more)
begins text [] fill = ([], sym (append-nil text))
begins text (section ∷ rows) fill =
    let n : ℕ = fill_of section (length text) in
    let chunk : List ℕ = bytes_with section (take n fill) in
    let rest = begins (text ++ chunk) rows (drop n fill) in
    (chunk ++ rest.0, rest.1 ∙ append_assoc text chunk rest.0)

begins_with_magic : (t : Contents) (fill : List ℕ) → (more : List ℕ) × (file_of t fill ≡ magic_of t.kind ++ more)
unfolding file_of
begins_with_magic t fill = begins (magic_of t.kind) (drop 1 (sections t)) fill

-- whether a list begins with the first byte of a WDL file
abbrev is_wdl : List ℕ → Bool
is_wdl [] = false
is_wdl (byte ∷ bytes) = byte == 0x71

magic_states : (k k' : Kind) (more more' : List ℕ) → magic_of k ++ more ≡ magic_of k' ++ more' → k ≡ k'
magic_states Wdl Wdl more more' e = refl
magic_states Dtz Dtz more more' e = refl
magic_states Wdl Dtz more more' e = let no : true ≡ false = ap is_wdl e in absurd (cc no)
magic_states Dtz Wdl more more' e = let no : false ≡ true = ap is_wdl e in absurd (cc no)

one_kind : (t t' : Contents) (fill fill' : List ℕ) → file_of t fill ≡ file_of t' fill' → t.kind ≡ t'.kind
one_kind t t' fill fill' e =
    let a = begins_with_magic t fill in
    let b = begins_with_magic t' fill' in
    magic_states t.kind t'.kind a.0 b.0 (sym a.1 ∙ e ∙ b.1)

-- ---- the laws

pub one_file_one_table : FileIsGood → OneFileOneTable
one_file_one_table law t t' fill fill' h h' m e =
    let k : t.kind ≡ t'.kind = one_kind t t' fill fill' e in
    let both : good t fill [] ≡ good t' fill' [] = sym (alone law t fill h) ∙ ap (λ (z : List ℕ). verdict (file t.material t.kind) 0 z) e ∙ other law t t' fill' h' m k in
    (cc, cc)

pub no_file_begins_another : FileIsGood → NoFileBeginsAnother
no_file_begins_another law t t' fill fill' more h h' m k e =
    no_prefix (file t.material t.kind) 0 (file_of t fill) more t t' fill fill' (alone law t fill h)
    (ap (λ (z : List ℕ). verdict (file t.material t.kind) 0 z) (sym e) ∙ other law t t' fill' h' m k)

pub cut_file_is_truncated : FileIsGood → CutFileIsTruncated
cut_file_is_truncated law t fill front byte back h e =
    cut_anywhere (file t.material t.kind) 0 front byte back t fill (ap (λ (z : List ℕ). verdict (file t.material t.kind) 0 z) (sym e) ∙ alone law t fill h)
    ∙ ap (λ (n : ℕ). truncated n) (omega arith)
