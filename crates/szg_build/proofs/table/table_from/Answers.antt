use Rattle.std.proofs.Common.{◌≡◌, ℕ, List, map, replicate, sym, ap, subst, ◌∙◌, arith, rules}
use Rattle.std.specs.Prelude.{option_map}
use Rattle.std.specs.List.{AllByRecursion}
use Rattle.szg_file.specs.Accepted.{AreBytes}
use Rattle.szg_file.specs.Held.{part_of, map_of, subtable_of}
use Rattle.szg_build.specs.Shown.{plan_seen}
use Rattle.szg_build.specs.Tabling.{IsBuiltBy, IsOfItems}
use Rattle.szg_build.proofs.Builders.TableLaws.{all_zero, table_is_valid, table_copied, zeros_fit}
use Rattle.szg_build.proofs.table.table_from.Goals as goal

pub assemble-requires : goal.assemble-requires
assemble-requires c =
    let plan = plan_seen c.args.plan.now in
    let subs = map subtable_of c.args.subs.items in
    let fill : List ℕ = c.in_ok-fill.fill.items in
    let zeros : fill ≡ replicate c.fill_asked.result 0 = search rules in
    (table_copied c.requires.0 plan c.requires.1 c.byte4_of-byte4.result subs c.copy.result (map part_of c.in_ok-parts.parts.items) (map (option_map map_of) c.in_ok-maps.maps.items) c.end_bytes-last.result
    c.copy.ensures (c.in_ok-parts.ensures ∙ ap (map part_of) c.deref-2.ensures.value) (c.in_ok-maps.ensures ∙ ap (map (option_map map_of)) c.deref-3.ensures.value) c.end_bytes-last.ensures.last
    (table_is_valid c.requires.0 plan c.byte4_of-byte4.result c.requires.1 subs (omega (arith, c.byte4_of-byte4.type_inv)) c.byte4_of-byte4.ensures.split c.byte4_of-byte4.ensures.pawns c.byte4_of-byte4.ensures.rule c.end_bytes-last.ensures.bytes
    (subst (λ z. AllByRecursion IsOfItems (map (option_map map_of) z)) c.deref.ensures.value c.maps_fit.ensures) c.requires.2.is_valid c.requires.2.built)).accepted
    fill (subst (λ n. AreBytes n fill) c.fill_asked.ensures (zeros_fit c.fill_asked.result fill zeros))

pub returns-clause-built : goal.returns-clause-built
returns-clause-built c = λ choice lists made.
    let plan = plan_seen c.args.plan.now in
    let subs = map subtable_of c.args.subs.items in
    let bare = table_copied choice plan lists c.byte4_of-byte4.result subs c.copy.result (map part_of c.in_ok-parts.parts.items) (map (option_map map_of) c.in_ok-maps.maps.items) c.end_bytes-last.result
    c.copy.ensures (c.in_ok-parts.ensures ∙ ap (map part_of) c.deref-2.ensures.value) (c.in_ok-maps.ensures ∙ ap (map (option_map map_of)) c.deref-3.ensures.value) c.end_bytes-last.ensures.last
    (table_is_valid choice plan c.byte4_of-byte4.result lists subs (omega (arith, c.byte4_of-byte4.type_inv)) c.byte4_of-byte4.ensures.split c.byte4_of-byte4.ensures.pawns c.byte4_of-byte4.ensures.rule c.end_bytes-last.ensures.bytes
    (subst (λ z. AllByRecursion IsOfItems (map (option_map map_of) z)) c.deref.ensures.value c.maps_fit.ensures) made.is_valid made.built) in
    subst (λ z. IsBuiltBy choice plan lists z) (sym (ap (λ z. z.contents) c.assemble.ensures)) bare.built

pub returns-clause-padding : goal.returns-clause-padding
returns-clause-padding c =
    let zeros : c.in_ok-fill.fill.items ≡ replicate c.fill_asked.result 0 = search rules in
    all_zero c.fill_asked.result c.assemble.result.filled (ap (λ z. z.filled) c.assemble.ensures ∙ zeros)
