use Rattle.std.proofs.Common.{◌≡◌, List, length, map, refl, sym, ap, ◌∙◌, subst, arith}
use Rattle.std.specs.Prelude.{option_map}
use Rattle.std.proofs.lemmas.Bool.{eqb-true, eq-eqb}
use Rattle.szg_file.specs.Accepted.{SideBySide, IsPart, IsSubtable, AreMaps, AreNumbers, AreBytes}
use Rattle.szg_file.specs.Assembled.{fields_shown}
use Rattle.szg_file.specs.Contents.{Contents, Slot, part_numbers, slots}
use Rattle.szg_file.specs.Held.{part_of, subtable_of, map_of}
use Rattle.szg_file.proofs.assembled.Fields.passes.Goals as goal

pub returns : goal.returns
returns c =
    let fields = c.args.self.now in
    let t : Contents = (fields_shown fields).contents in
    let placed : c.as_slice.result.now ≡ slots t.material t.kind t.parts =
    c.as_slice.ensures.value ∙ c.in-Some.ensures.slots ∙ ap (λ z. slots t.material t.kind (map part_of z)) c.deref.ensures.value in
    let parts : SideBySide (λ _. IsPart t.material t.kind) (part_numbers t.material) t.parts =
    subst (λ z. SideBySide (λ _. IsPart t.material t.kind) (part_numbers t.material) (map part_of z)) c.deref.ensures.value c.in-Some.ensures.parts in
    let subtables : SideBySide IsSubtable (slots t.material t.kind t.parts) t.subtables =
    subst (λ (z : List Slot). SideBySide IsSubtable z t.subtables) placed
    (subst (λ z. SideBySide IsSubtable c.as_slice.result.now (map subtable_of z)) c.deref-2.ensures.value (c.if-not-are_subs_valid.ensures.0 refl)) in
    let maps : AreMaps t.kind t.subtables t.maps =
    subst (λ z. AreMaps t.kind (map subtable_of z) t.maps) c.deref-3.ensures.value
    (subst (λ z. AreMaps t.kind (map subtable_of c.deref-3.result.now) (map (option_map map_of) z)) c.deref-4.ensures.value (c.if-not-are_maps_valid.ensures.0 refl)) in
    let last : AreBytes 16 t.last = c.end_bytes.ensures.bytes in
    let fill : AreNumbers 1 fields.fill.items = subst (λ z. AreNumbers 1 z) c.deref-5.ensures.value c.bytes_fit.ensures in
    let held : c.len.result ≡ length fields.fill.items = omega (arith, c.len.ensures, fields.fill.ok.0) in (
      λ h. record {
        byte4 = c.end_bytes.ensures.byte4;
        split = sym c.if-not-splits_as.ensures;
        pawns = sym c.if-not-pawns_as.ensures;
        parts = parts;
        subtables = subtables;
        maps = maps;
        last = last;
        fill_fits = (sym held ∙ eqb-true c.len.result c.fill_asked.result h ∙ c.fill_asked.ensures, fill);
      },
      λ a. eq-eqb c.len.result c.fill_asked.result (held ∙ a.fill_fits.0 ∙ sym c.fill_asked.ensures),
    )
