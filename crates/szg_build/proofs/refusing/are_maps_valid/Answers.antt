use Rattle.std.proofs.Common.{◌≡◌, false, length, sym, ap, ◌∙◌, arith, rules, tests}
use Rattle.std.specs.Prelude.{◌==◌, nat_lt, option_map}
use Rattle.std.specs.List.{list_all, zip}
use Rattle.std.proofs.lemmas.Bool.{eq-eqb, ne_eqb}
use Rattle.std.proofs.lemmas.Iterator.{YieldsList-from_slice, YieldsList-from_zip}
use Rattle.std.proofs.lemmas.Iterator.Search.{all_from_yields_List}
use Rattle.std.proofs.lemmas.List.FromFn.{length-range_with_len}
use Rattle.szg_file.specs.Contents.{part_numbers}
use Rattle.szg_file.specs.Held.{map_of}
use Rattle.szg_build.specs.Plan.{is_map_of}
use Rattle.szg_build.proofs.Builders.RefusalLaws.{four_all, four_first, maps_of_dtz}
use Rattle.szg_build.proofs.refusing.are_maps_valid.Goals as goal

pub returns-then-len-parts : goal.returns-then-len-parts
returns-then-len-parts c =
    let plan = c.args.plan.now in
    let parts : length (part_numbers plan.material) ≡ c.part_count-parts.result = ap length c.part_count-parts.ensures.numbers ∙ length-range_with_len 0 c.part_count-parts.result in
    let many : c.len.result ≡ length plan.flags.items = omega (arith, c.len.ensures, plan.flags.ok.0) in
    maps_of_dtz plan.kind plan.material plan.flags.items (option_map map_of) plan.maps.items false c.in-Dtz.is
    (four_first (length plan.flags.items == length (part_numbers plan.material)) (length plan.maps.items == length (part_numbers plan.material)) (list_all (λ byte. nat_lt byte 32) plan.flags.items)
    (list_all (λ pair. is_map_of (pair.0, option_map map_of pair.1)) (zip plan.flags.items plan.maps.items))
    (ne_eqb (length plan.flags.items) (length (part_numbers plan.material)) (λ e. c.if-len-parts.true (many ∙ e ∙ parts))))

pub returns-else-not-all : goal.returns-else-not-all
returns-else-not-all c =
    let plan = c.args.plan.now in
    let flags = plan.flags.items in
    let parts : length (part_numbers plan.material) ≡ c.part_count-parts.result = ap length c.part_count-parts.ensures.numbers ∙ length-range_with_len 0 c.part_count-parts.result in
    let small : c.all.result ≡ list_all (λ byte. nat_lt byte 32) flags = all_from_yields_List (λ byte. nat_lt byte 32) c.all.new.self _ c.all.result c.all.ensures.ran (YieldsList-from_slice flags cc) (λ x b q k. search (rules, tests)) in
    let each : c.all-in-Dtz.result ≡ list_all (λ pair. is_map_of (pair.0, option_map map_of pair.1)) (zip flags plan.maps.items) =
    all_from_yields_List (λ pair. is_map_of (pair.0, option_map map_of pair.1)) c.all-in-Dtz.new.self _ c.all-in-Dtz.result c.all-in-Dtz.ensures.ran (YieldsList-from_zip (YieldsList-from_slice flags cc) (YieldsList-from_slice plan.maps.items cc)) (λ x b q k. search (rules, tests)) in
    maps_of_dtz plan.kind plan.material flags (option_map map_of) plan.maps.items c.all-in-Dtz.result c.in-Dtz.is
    (four_all (length flags == length (part_numbers plan.material)) (length plan.maps.items == length (part_numbers plan.material)) (list_all (λ byte. nat_lt byte 32) flags)
    (list_all (λ pair. is_map_of (pair.0, option_map map_of pair.1)) (zip flags plan.maps.items)) c.all-in-Dtz.result
    (eq-eqb (length flags) (length (part_numbers plan.material)) (omega (arith, c.len.ensures, plan.flags.ok.0, c.if-len-parts.false, parts)))
    (eq-eqb (length plan.maps.items) (length (part_numbers plan.material)) (omega (arith, c.len-in-Dtz.ensures, plan.maps.ok.0, c.if-len-parts-2.false, parts)))
    (sym small ∙ c.if-not-all.false) each)
