use Rattle.std.proofs.Common.{ℕ, Some, ◌≡◌, ◌^◌, length, map, sym, ap, ◌∙◌, rules, tests}
use Rattle.std.specs.Prelude.{not, nat_lt, option_map}
use Rattle.std.specs.List.{list_all}
use Rattle.std.proofs.lemmas.Iterator.{YieldsList-from_slice}
use Rattle.std.proofs.lemmas.Iterator.Search.{all_from_yields_List}
use Rattle.std.proofs.lemmas.List.Folds.{list_all-map}
use Rattle.szg_file.specs.Contents.{has_bit}
use Rattle.szg_file.specs.Held.{map_of}
use Rattle.szg_file.specs.declared.table.Map.TheVariants.{Bytes, Wide}
use Rattle.szg_build.specs.Plan.{is_map_of}
use Rattle.szg_build.proofs.Builders.RefusalLaws.{three_all}
use Rattle.szg_build.proofs.refusing.is_map_for.Goals as goal

pub returns-else-has_bit : goal.returns-else-has_bit
returns-else-has_bit c =
    let flags : ℕ = c.args.flags in
    let lists = c.in-Bytes.lists in
    let held : c.args.item.now ≡ Some (Bytes lists) = cc in
    let short : c.all.result ≡ list_all (λ list. nat_lt (length list.items) (2 ^ 8)) lists = all_from_yields_List (λ list. nat_lt (length list.items) (2 ^ 8)) c.all.new.self _ c.all.result c.all.ensures.ran (YieldsList-from_slice lists cc) (λ x b q k. search (rules, tests)) in
    three_all (has_bit 1 flags) (not (has_bit 4 flags)) (list_all (λ list. nat_lt (length list) (2 ^ 8)) (map (λ list. list.items) lists)) c.all.result
    (sym c.if-not-has_bit.ensures) (sym (ap not c.if-has_bit.ensures)) (short ∙ sym (list_all-map (λ list. nat_lt (length list) (2 ^ 8)) (λ list. list.items) lists))
    ∙ ap (λ item. is_map_of (flags, option_map map_of item)) (sym held)

pub returns-else-not-has_bit-2 : goal.returns-else-not-has_bit-2
returns-else-not-has_bit-2 c =
    let flags : ℕ = c.args.flags in
    let lists = c.in-Wide.lists in
    let held : c.args.item.now ≡ Some (Wide lists) = cc in
    let short : c.all-in-Wide.result ≡ list_all (λ list. nat_lt (length list.items) (2 ^ 16)) lists = all_from_yields_List (λ list. nat_lt (length list.items) (2 ^ 16)) c.all-in-Wide.new.self _ c.all-in-Wide.result c.all-in-Wide.ensures.ran (YieldsList-from_slice lists cc) (λ x b q k. search (rules, tests)) in
    three_all (has_bit 1 flags) (has_bit 4 flags) (list_all (λ list. nat_lt (length list) (2 ^ 16)) (map (λ list. list.items) lists)) c.all-in-Wide.result
    (sym c.if-not-has_bit.ensures) (sym c.if-not-has_bit-2.ensures) (short ∙ sym (list_all-map (λ list. nat_lt (length list) (2 ^ 16)) (λ list. list.items) lists))
    ∙ ap (λ item. is_map_of (flags, option_map map_of item)) (sym held)
