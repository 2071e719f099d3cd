-- What was written to a digest.
use Rattle.std.proofs.Common.{ℕ, ◌≡◌, ◌∙◌, ◌+◌, ◌<◌, List, [], ◌∷◌, ◌++◌, length, get_or, take, sym, ap, inl, inr, arith, Option, Some, None}
use Rattle.std.specs.Prelude.{Ok, Err, OnOk, OnErr, Result, find, flat_map, option_map, unwrap_or}
use Rattle.std.proofs.lemmas.List.{append-nil, take_more}
use Rattle.std.proofs.lemmas.List.Concat.{flat_map-append}
use Rattle.szg_values.specs.Material.{Sides}
use Rattle.szg_values.specs.declared.Kind.{Kind}
use Rattle.szg_io.specs.Device.{HasFailed}
use Rattle.szg_io.specs.Moved.{Gives}
use Rattle.szg_io.specs.declared.device.Output as output
use Rattle.szg_file.specs.Held.{Shown, file_bytes}
use Rattle.szg_tables.specs.Stored.{is_for}
use Rattle.szg_verified.specs.Digests.{file_for}

-- a sink that never fails has taken what was written
pub taken : {T E W : Type 0} (device : output.Ghosts W) (old new : W) (r : Result T E) (bytes : List ℕ) → OnOk r (Gives device old new bytes 0) → OnErr r (HasFailed 0 0 0) → device.moved new ≡ device.moved old ++ bytes
taken device old new (Ok x) bytes ok err = ok.bytes_moved
taken device old new (Err e) bytes ok (inl risen) = absurd (omega (arith, risen))
taken device old new (Err e) bytes ok (inr row) = absurd (omega (arith, row))

pub file_there : (tables : List Shown) (kind : Kind) (material : Sides) (t : Shown) → Some t ≡ find (is_for kind material) tables → file_bytes t ≡ file_for tables kind material
file_there tables kind material t e = ap (λ (o : Option Shown). unwrap_or (option_map file_bytes o) []) e

pub file_absent : (tables : List Shown) (kind : Kind) (material : Sides) (bytes : List ℕ) → None ≡ find (is_for kind material) tables → bytes ≡ bytes ++ file_for tables kind material
file_absent tables kind material bytes e = sym (append-nil bytes) ∙ ap (λ (o : Option Shown). bytes ++ unwrap_or (option_map file_bytes o) []) e

-- the files of one more material
pub one_more_file : (file : Sides → List ℕ) (materials : List Sides) (i : ℕ) (m : Sides) (old new : List ℕ) → i < length materials → m ≡ get_or materials i m → old ≡ flat_map file (take i materials) → new ≡ old ++ file m → new ≡ flat_map file (take (i + 1) materials)
one_more_file file materials i m old new less is before here =
    let more = take_more materials i m less ∙ ap (λ (s : Sides). take i materials ++ s ∷ []) (sym is) in
    here ∙ ap (λ (bytes : List ℕ). bytes ++ file m) before ∙ sym (ap (flat_map file) more ∙ flat_map-append file (take i materials) (m ∷ []) ∙ ap (λ (bytes : List ℕ). flat_map file (take i materials) ++ bytes) (append-nil (file m)))
