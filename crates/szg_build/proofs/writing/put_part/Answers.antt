use Rattle.std.proofs.lemmas.Result.{err_from_is_err_and}
use Rattle.std.proofs.Common.{ap, sym, [], ◌∷◌, ◌++◌, ◌+◌, append_assoc, append-nil}
use Rattle.std.specs.Prelude.{codes}
use Rattle.hex.specs.Hex.{encode_lower}
use Rattle.szg_file.specs.Held.{part_of}
use Rattle.szg_build.proofs.Writers.WritingLaws.{writes_then, writes_stopped, writes_as}
use Rattle.szg_build.proofs.writing.put_part.Goals as goal

pub returns-in_err-put : goal.returns-in_err-put
returns-in_err-put g c =
    let p = err_from_is_err_and c.from_residual.result c.from_residual.ensures.1 in
    rw (p.1, p.2) (writes_as (simp (append_assoc, append-nil))
    (writes_stopped (codes "part ") (((97 + c.args.number) ∷ []) ++ ((codes " order ") ++ ((encode_lower (part_of c.args.part.now).order) ++ ((codes " men ") ++ ((encode_lower (part_of c.args.part.now).men) ++ (codes "\n")))))) c.in_err-put.field-0.0 c.in_err-put.ensures))

pub returns-in_err-put-2 : goal.returns-in_err-put-2
returns-in_err-put-2 g c =
    let p = err_from_is_err_and c.from_residual-in_err-put-2.result c.from_residual-in_err-put-2.ensures.1 in
    rw (p.1, p.2) (writes_as (simp (append_assoc, append-nil))
    (writes_then (codes "part ") (((97 + c.args.number) ∷ []) ++ ((codes " order ") ++ ((encode_lower (part_of c.args.part.now).order) ++ ((codes " men ") ++ ((encode_lower (part_of c.args.part.now).men) ++ (codes "\n")))))) c.in_ok-put.field-0 c.in_ok-put.ensures
    (writes_stopped ((97 + c.args.number) ∷ []) ((codes " order ") ++ ((encode_lower (part_of c.args.part.now).order) ++ ((codes " men ") ++ ((encode_lower (part_of c.args.part.now).men) ++ (codes "\n"))))) c.in_err-put-2.field-0.0 c.in_err-put-2.ensures)))

pub returns-in_err-put-3 : goal.returns-in_err-put-3
returns-in_err-put-3 g c =
    let p = err_from_is_err_and c.from_residual-in_err-put-3.result c.from_residual-in_err-put-3.ensures.1 in
    rw (p.1, p.2) (writes_as (simp (append_assoc, append-nil))
    (writes_then (codes "part ") (((97 + c.args.number) ∷ []) ++ ((codes " order ") ++ ((encode_lower (part_of c.args.part.now).order) ++ ((codes " men ") ++ ((encode_lower (part_of c.args.part.now).men) ++ (codes "\n")))))) c.in_ok-put.field-0 c.in_ok-put.ensures
    (writes_then ((97 + c.args.number) ∷ []) ((codes " order ") ++ ((encode_lower (part_of c.args.part.now).order) ++ ((codes " men ") ++ ((encode_lower (part_of c.args.part.now).men) ++ (codes "\n"))))) c.in_ok-put-2.field-0 c.in_ok-put-2.ensures
    (writes_stopped (codes " order ") ((encode_lower (part_of c.args.part.now).order) ++ ((codes " men ") ++ ((encode_lower (part_of c.args.part.now).men) ++ (codes "\n")))) c.in_err-put-3.field-0.0 c.in_err-put-3.ensures))))

pub returns-in_err-put_hex : goal.returns-in_err-put_hex
returns-in_err-put_hex g c =
    let p = err_from_is_err_and c.from_residual-in_err-put_hex.result c.from_residual-in_err-put_hex.ensures.1 in
    rw (p.1, p.2) (writes_as (simp (append_assoc, append-nil))
    (writes_then (codes "part ") (((97 + c.args.number) ∷ []) ++ ((codes " order ") ++ ((encode_lower (part_of c.args.part.now).order) ++ ((codes " men ") ++ ((encode_lower (part_of c.args.part.now).men) ++ (codes "\n")))))) c.in_ok-put.field-0 c.in_ok-put.ensures
    (writes_then ((97 + c.args.number) ∷ []) ((codes " order ") ++ ((encode_lower (part_of c.args.part.now).order) ++ ((codes " men ") ++ ((encode_lower (part_of c.args.part.now).men) ++ (codes "\n"))))) c.in_ok-put-2.field-0 c.in_ok-put-2.ensures
    (writes_then (codes " order ") ((encode_lower (part_of c.args.part.now).order) ++ ((codes " men ") ++ ((encode_lower (part_of c.args.part.now).men) ++ (codes "\n")))) c.in_ok-put-3.field-0 c.in_ok-put-3.ensures
    (writes_stopped (encode_lower (part_of c.args.part.now).order) ((codes " men ") ++ ((encode_lower (part_of c.args.part.now).men) ++ (codes "\n"))) c.in_err-put_hex.field-0.0 (writes_as (ap encode_lower (sym c.deref.ensures.value)) c.in_err-put_hex.ensures))))))

pub returns-in_err-put-4 : goal.returns-in_err-put-4
returns-in_err-put-4 g c =
    let p = err_from_is_err_and c.from_residual-in_err-put-4.result c.from_residual-in_err-put-4.ensures.1 in
    rw (p.1, p.2) (writes_as (simp (append_assoc, append-nil))
    (writes_then (codes "part ") (((97 + c.args.number) ∷ []) ++ ((codes " order ") ++ ((encode_lower (part_of c.args.part.now).order) ++ ((codes " men ") ++ ((encode_lower (part_of c.args.part.now).men) ++ (codes "\n")))))) c.in_ok-put.field-0 c.in_ok-put.ensures
    (writes_then ((97 + c.args.number) ∷ []) ((codes " order ") ++ ((encode_lower (part_of c.args.part.now).order) ++ ((codes " men ") ++ ((encode_lower (part_of c.args.part.now).men) ++ (codes "\n"))))) c.in_ok-put-2.field-0 c.in_ok-put-2.ensures
    (writes_then (codes " order ") ((encode_lower (part_of c.args.part.now).order) ++ ((codes " men ") ++ ((encode_lower (part_of c.args.part.now).men) ++ (codes "\n")))) c.in_ok-put-3.field-0 c.in_ok-put-3.ensures
    (writes_then (encode_lower (part_of c.args.part.now).order) ((codes " men ") ++ ((encode_lower (part_of c.args.part.now).men) ++ (codes "\n"))) c.in_ok-put_hex.field-0 (writes_as (ap encode_lower (sym c.deref.ensures.value)) c.in_ok-put_hex.ensures)
    (writes_stopped (codes " men ") ((encode_lower (part_of c.args.part.now).men) ++ (codes "\n")) c.in_err-put-4.field-0.0 c.in_err-put-4.ensures))))))

pub returns-in_err-put_hex-2 : goal.returns-in_err-put_hex-2
returns-in_err-put_hex-2 g c =
    let p = err_from_is_err_and c.from_residual-in_err-put_hex-2.result c.from_residual-in_err-put_hex-2.ensures.1 in
    rw (p.1, p.2) (writes_as (simp (append_assoc, append-nil))
    (writes_then (codes "part ") (((97 + c.args.number) ∷ []) ++ ((codes " order ") ++ ((encode_lower (part_of c.args.part.now).order) ++ ((codes " men ") ++ ((encode_lower (part_of c.args.part.now).men) ++ (codes "\n")))))) c.in_ok-put.field-0 c.in_ok-put.ensures
    (writes_then ((97 + c.args.number) ∷ []) ((codes " order ") ++ ((encode_lower (part_of c.args.part.now).order) ++ ((codes " men ") ++ ((encode_lower (part_of c.args.part.now).men) ++ (codes "\n"))))) c.in_ok-put-2.field-0 c.in_ok-put-2.ensures
    (writes_then (codes " order ") ((encode_lower (part_of c.args.part.now).order) ++ ((codes " men ") ++ ((encode_lower (part_of c.args.part.now).men) ++ (codes "\n")))) c.in_ok-put-3.field-0 c.in_ok-put-3.ensures
    (writes_then (encode_lower (part_of c.args.part.now).order) ((codes " men ") ++ ((encode_lower (part_of c.args.part.now).men) ++ (codes "\n"))) c.in_ok-put_hex.field-0 (writes_as (ap encode_lower (sym c.deref.ensures.value)) c.in_ok-put_hex.ensures)
    (writes_then (codes " men ") ((encode_lower (part_of c.args.part.now).men) ++ (codes "\n")) c.in_ok-put-4.field-0 c.in_ok-put-4.ensures
    (writes_stopped (encode_lower (part_of c.args.part.now).men) (codes "\n") c.in_err-put_hex-2.field-0.0 (writes_as (ap encode_lower (sym c.deref-2.ensures.value)) c.in_err-put_hex-2.ensures))))))))

pub returns : goal.returns
returns g c =
    writes_as (simp (append_assoc, append-nil))
    (writes_then (codes "part ") (((97 + c.args.number) ∷ []) ++ ((codes " order ") ++ ((encode_lower (part_of c.args.part.now).order) ++ ((codes " men ") ++ ((encode_lower (part_of c.args.part.now).men) ++ (codes "\n")))))) c.in_ok-put.field-0 c.in_ok-put.ensures
    (writes_then ((97 + c.args.number) ∷ []) ((codes " order ") ++ ((encode_lower (part_of c.args.part.now).order) ++ ((codes " men ") ++ ((encode_lower (part_of c.args.part.now).men) ++ (codes "\n"))))) c.in_ok-put-2.field-0 c.in_ok-put-2.ensures
    (writes_then (codes " order ") ((encode_lower (part_of c.args.part.now).order) ++ ((codes " men ") ++ ((encode_lower (part_of c.args.part.now).men) ++ (codes "\n")))) c.in_ok-put-3.field-0 c.in_ok-put-3.ensures
    (writes_then (encode_lower (part_of c.args.part.now).order) ((codes " men ") ++ ((encode_lower (part_of c.args.part.now).men) ++ (codes "\n"))) c.in_ok-put_hex.field-0 (writes_as (ap encode_lower (sym c.deref.ensures.value)) c.in_ok-put_hex.ensures)
    (writes_then (codes " men ") ((encode_lower (part_of c.args.part.now).men) ++ (codes "\n")) c.in_ok-put-4.field-0 c.in_ok-put-4.ensures
    (writes_then (encode_lower (part_of c.args.part.now).men) (codes "\n") c.in_ok-put_hex-2.field-0 (writes_as (ap encode_lower (sym c.deref-2.ensures.value)) c.in_ok-put_hex-2.ensures)
    c.put-5.ensures))))))
