-- Refusals of bytes with a common prefix; and bytes that are refused or truncated begin with no table's file.
use Rattle.std.proofs.Common.{◌≡◌, ℕ, List, [], ◌++◌, sym, ap, ◌∙◌}
use Rattle.std.proofs.lemmas.List.{append_cancel_right}
use Rattle.szg_values.specs.declared.Kind.{Kind}
use Rattle.szg_values.specs.Material.{Sides}
use Rattle.szg_file.specs.Format.{good, refused, truncated, verdict}
use Rattle.szg_file.specs.Contents.{bytes_of, number_of}
use Rattle.szg_file.specs.File.{file}
use Rattle.szg_file.specs.FileOf.{file_of}
use Rattle.szg_file.specs.Laws.{BeginsWithFile, RefusalIsFinal, RefusedIsNoFile, TruncatedIsNoFile, NumbersReturn}
use Rattle.szg_file.proofs.Grammar.FormatLaws.{refused-more, refused-split}
use Rattle.szg_file.proofs.Grammar.FileLaws.{bytes_of-number_of}
use Rattle.szg_file.proofs.Grammar.GoodWhole.{accepted_file_is_good}

pub refusal_is_final : RefusalIsFinal
refusal_is_final material kind taken rest other place reason e =
    let text = refused-split (file material kind) 0 (taken ++ rest) place reason rest e in
    let same : taken ≡ text.0 = append_cancel_right taken text.0 rest text.1 in
    ap (λ (z : List ℕ). verdict (file material kind) 0 (z ++ other)) same
    ∙ refused-more (file material kind) 0 text.0 other place reason [] text.2

begun_is_good : (material : Sides) (kind : Kind) (bytes : List ℕ) (h : BeginsWithFile material kind bytes) → verdict (file material kind) 0 bytes ≡ good h.table h.fill h.rest
begun_is_good material kind bytes h =
    ap (λ (z : List ℕ). verdict (file material kind) 0 z) h.whole
    ∙ ap (λ (m : Sides). verdict (file m kind) 0 (file_of h.table h.fill ++ h.rest)) (sym h.material_is)
    ∙ ap (λ (k : Kind). verdict (file h.table.material k) 0 (file_of h.table h.fill ++ h.rest)) (sym h.kind_is)
    ∙ accepted_file_is_good h.table h.fill h.rest h.accepted

pub refused_is_no_file : RefusedIsNoFile
refused_is_no_file material kind bytes place reason rest e h =
    let both : good h.table h.fill h.rest ≡ refused place reason rest = sym (begun_is_good material kind bytes h) ∙ e in
    absurd cc

pub truncated_is_no_file : TruncatedIsNoFile
truncated_is_no_file material kind bytes count e h =
    let both : good h.table h.fill h.rest ≡ truncated count = sym (begun_is_good material kind bytes h) ∙ e in
    absurd cc

pub numbers_return : NumbersReturn
numbers_return size bytes h = ap (λ (n : ℕ). bytes_of n (number_of bytes)) (sym h.0) ∙ bytes_of-number_of bytes h.1
