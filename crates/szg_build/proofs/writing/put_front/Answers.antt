use Rattle.std.proofs.lemmas.Result.{err_from_is_err_and}
use Rattle.std.proofs.Common.{◌≡◌, ap, sym, [], ◌∷◌, ◌++◌}
use Rattle.std.specs.Prelude.{codes}
use Rattle.std.specs.Fmt.{decimal}
use Rattle.hex.specs.Hex.{encode_lower}
use Rattle.szg_values.specs.Material.{name_of}
use Rattle.szg_build.specs.Text.{line_text, kind_word, form_number}
use Rattle.szg_build.specs.Shown.{form_of}
use Rattle.szg_build.proofs.Writers.WritingLaws.{writes_then, writes_stopped, writes_as, form_as, front_apart}
use Rattle.szg_build.proofs.writing.put_front.Goals as goal

pub returns-in_err-put_number : goal.returns-in_err-put_number
returns-in_err-put_number g c =
    let p = err_from_is_err_and c.from_residual.result c.from_residual.ensures.1 in
    rw (p.1, p.2) (writes_as (front_apart (form_of c.args.form) c.args.material.now c.args.kind c.args.last.now)
    (writes_stopped (line_text (codes "szg-dump" ∷ decimal (form_number (form_of c.args.form)) ∷ [])) ((line_text (codes "name" ∷ name_of c.args.material.now ∷ [])) ++ ((line_text (codes "kind" ∷ kind_word c.args.kind ∷ [])) ++ ((codes "end ") ++ ((encode_lower c.args.last.now) ++ (codes "\n"))))) c.in_err-put_number.field-0.0 (form_as (sym c.from.ensures) c.requires c.in_err-put_number.ensures)))

pub returns-in_err-put_word : goal.returns-in_err-put_word
returns-in_err-put_word g c =
    let named : name_of c.args.material.now ≡ c.as_bytes.result.now = cc in
    let p = err_from_is_err_and c.from_residual-in_err-put_word.result c.from_residual-in_err-put_word.ensures.1 in
    rw (p.1, p.2) (writes_as (front_apart (form_of c.args.form) c.args.material.now c.args.kind c.args.last.now)
    (writes_then (line_text (codes "szg-dump" ∷ decimal (form_number (form_of c.args.form)) ∷ [])) ((line_text (codes "name" ∷ name_of c.args.material.now ∷ [])) ++ ((line_text (codes "kind" ∷ kind_word c.args.kind ∷ [])) ++ ((codes "end ") ++ ((encode_lower c.args.last.now) ++ (codes "\n"))))) c.in_ok-put_number.field-0 (form_as (sym c.from.ensures) c.requires c.in_ok-put_number.ensures)
    (writes_stopped (line_text (codes "name" ∷ name_of c.args.material.now ∷ [])) ((line_text (codes "kind" ∷ kind_word c.args.kind ∷ [])) ++ ((codes "end ") ++ ((encode_lower c.args.last.now) ++ (codes "\n")))) c.in_err-put_word.field-0.0 (writes_as (ap (λ z. line_text (codes "name" ∷ z ∷ [])) named) c.in_err-put_word.ensures))))

pub returns-in_err-put_word-2 : goal.returns-in_err-put_word-2
returns-in_err-put_word-2 g c =
    let named : name_of c.args.material.now ≡ c.as_bytes.result.now = cc in
    let p = err_from_is_err_and c.from_residual-in_err-put_word-2.result c.from_residual-in_err-put_word-2.ensures.1 in
    rw (p.1, p.2) (writes_as (front_apart (form_of c.args.form) c.args.material.now c.args.kind c.args.last.now)
    (writes_then (line_text (codes "szg-dump" ∷ decimal (form_number (form_of c.args.form)) ∷ [])) ((line_text (codes "name" ∷ name_of c.args.material.now ∷ [])) ++ ((line_text (codes "kind" ∷ kind_word c.args.kind ∷ [])) ++ ((codes "end ") ++ ((encode_lower c.args.last.now) ++ (codes "\n"))))) c.in_ok-put_number.field-0 (form_as (sym c.from.ensures) c.requires c.in_ok-put_number.ensures)
    (writes_then (line_text (codes "name" ∷ name_of c.args.material.now ∷ [])) ((line_text (codes "kind" ∷ kind_word c.args.kind ∷ [])) ++ ((codes "end ") ++ ((encode_lower c.args.last.now) ++ (codes "\n")))) c.in_ok-put_word.field-0 (writes_as (ap (λ z. line_text (codes "name" ∷ z ∷ [])) named) c.in_ok-put_word.ensures)
    (writes_stopped (line_text (codes "kind" ∷ kind_word c.args.kind ∷ [])) ((codes "end ") ++ ((encode_lower c.args.last.now) ++ (codes "\n"))) c.in_err-put_word-2.field-0.0 (writes_as (ap (λ z. line_text (codes "kind" ∷ z ∷ [])) (sym c.kind_bytes.ensures.word)) c.in_err-put_word-2.ensures)))))

pub returns-in_err-put : goal.returns-in_err-put
returns-in_err-put g c =
    let named : name_of c.args.material.now ≡ c.as_bytes.result.now = cc in
    let p = err_from_is_err_and c.from_residual-in_err-put.result c.from_residual-in_err-put.ensures.1 in
    rw (p.1, p.2) (writes_as (front_apart (form_of c.args.form) c.args.material.now c.args.kind c.args.last.now)
    (writes_then (line_text (codes "szg-dump" ∷ decimal (form_number (form_of c.args.form)) ∷ [])) ((line_text (codes "name" ∷ name_of c.args.material.now ∷ [])) ++ ((line_text (codes "kind" ∷ kind_word c.args.kind ∷ [])) ++ ((codes "end ") ++ ((encode_lower c.args.last.now) ++ (codes "\n"))))) c.in_ok-put_number.field-0 (form_as (sym c.from.ensures) c.requires c.in_ok-put_number.ensures)
    (writes_then (line_text (codes "name" ∷ name_of c.args.material.now ∷ [])) ((line_text (codes "kind" ∷ kind_word c.args.kind ∷ [])) ++ ((codes "end ") ++ ((encode_lower c.args.last.now) ++ (codes "\n")))) c.in_ok-put_word.field-0 (writes_as (ap (λ z. line_text (codes "name" ∷ z ∷ [])) named) c.in_ok-put_word.ensures)
    (writes_then (line_text (codes "kind" ∷ kind_word c.args.kind ∷ [])) ((codes "end ") ++ ((encode_lower c.args.last.now) ++ (codes "\n"))) c.in_ok-put_word-2.field-0 (writes_as (ap (λ z. line_text (codes "kind" ∷ z ∷ [])) (sym c.kind_bytes.ensures.word)) c.in_ok-put_word-2.ensures)
    (writes_stopped (codes "end ") ((encode_lower c.args.last.now) ++ (codes "\n")) c.in_err-put.field-0.0 c.in_err-put.ensures)))))

pub returns-in_err-put_hex : goal.returns-in_err-put_hex
returns-in_err-put_hex g c =
    let named : name_of c.args.material.now ≡ c.as_bytes.result.now = cc in
    let p = err_from_is_err_and c.from_residual-in_err-put_hex.result c.from_residual-in_err-put_hex.ensures.1 in
    rw (p.1, p.2) (writes_as (front_apart (form_of c.args.form) c.args.material.now c.args.kind c.args.last.now)
    (writes_then (line_text (codes "szg-dump" ∷ decimal (form_number (form_of c.args.form)) ∷ [])) ((line_text (codes "name" ∷ name_of c.args.material.now ∷ [])) ++ ((line_text (codes "kind" ∷ kind_word c.args.kind ∷ [])) ++ ((codes "end ") ++ ((encode_lower c.args.last.now) ++ (codes "\n"))))) c.in_ok-put_number.field-0 (form_as (sym c.from.ensures) c.requires c.in_ok-put_number.ensures)
    (writes_then (line_text (codes "name" ∷ name_of c.args.material.now ∷ [])) ((line_text (codes "kind" ∷ kind_word c.args.kind ∷ [])) ++ ((codes "end ") ++ ((encode_lower c.args.last.now) ++ (codes "\n")))) c.in_ok-put_word.field-0 (writes_as (ap (λ z. line_text (codes "name" ∷ z ∷ [])) named) c.in_ok-put_word.ensures)
    (writes_then (line_text (codes "kind" ∷ kind_word c.args.kind ∷ [])) ((codes "end ") ++ ((encode_lower c.args.last.now) ++ (codes "\n"))) c.in_ok-put_word-2.field-0 (writes_as (ap (λ z. line_text (codes "kind" ∷ z ∷ [])) (sym c.kind_bytes.ensures.word)) c.in_ok-put_word-2.ensures)
    (writes_then (codes "end ") ((encode_lower c.args.last.now) ++ (codes "\n")) c.in_ok-put.field-0 c.in_ok-put.ensures
    (writes_stopped (encode_lower c.args.last.now) (codes "\n") c.in_err-put_hex.field-0.0 c.in_err-put_hex.ensures))))))

pub returns : goal.returns
returns g c =
    let named : name_of c.args.material.now ≡ c.as_bytes.result.now = cc in
    writes_as (front_apart (form_of c.args.form) c.args.material.now c.args.kind c.args.last.now)
    (writes_then (line_text (codes "szg-dump" ∷ decimal (form_number (form_of c.args.form)) ∷ [])) ((line_text (codes "name" ∷ name_of c.args.material.now ∷ [])) ++ ((line_text (codes "kind" ∷ kind_word c.args.kind ∷ [])) ++ ((codes "end ") ++ ((encode_lower c.args.last.now) ++ (codes "\n"))))) c.in_ok-put_number.field-0 (form_as (sym c.from.ensures) c.requires c.in_ok-put_number.ensures)
    (writes_then (line_text (codes "name" ∷ name_of c.args.material.now ∷ [])) ((line_text (codes "kind" ∷ kind_word c.args.kind ∷ [])) ++ ((codes "end ") ++ ((encode_lower c.args.last.now) ++ (codes "\n")))) c.in_ok-put_word.field-0 (writes_as (ap (λ z. line_text (codes "name" ∷ z ∷ [])) named) c.in_ok-put_word.ensures)
    (writes_then (line_text (codes "kind" ∷ kind_word c.args.kind ∷ [])) ((codes "end ") ++ ((encode_lower c.args.last.now) ++ (codes "\n"))) c.in_ok-put_word-2.field-0 (writes_as (ap (λ z. line_text (codes "kind" ∷ z ∷ [])) (sym c.kind_bytes.ensures.word)) c.in_ok-put_word-2.ensures)
    (writes_then (codes "end ") ((encode_lower c.args.last.now) ++ (codes "\n")) c.in_ok-put.field-0 c.in_ok-put.ensures
    (writes_then (encode_lower c.args.last.now) (codes "\n") c.in_ok-put_hex.field-0 c.in_ok-put_hex.ensures
    c.put-2.ensures)))))
