use Rattle.std.proofs.Common.{◌≡◌, ◌^◌, length, ◌∙◌, ap, refl, sym, subst, arith}
use Rattle.std.specs.Prelude.{◌≢◌, ◌↔◌, ℕ, Result, Ok, Err}
use Rattle.szg_values.specs.declared.Kind.{Kind}
use Rattle.szg_block.specs.Kept.{IsLocatable}
use Rattle.szg_block.specs.Steps.{block_location}
use Rattle.szg_block.specs.Subtable.{layout_of}
use Rattle.szg_file.specs.Contents.{Slot}
use Rattle.szg_file.specs.Fetching.{IsSpot}
use Rattle.szg_file.specs.Located.{Location, IsLocated}
use Rattle.szg_file.specs.Lookup.{byte_of}
use Rattle.szg_file.specs.Values.{constant_value}
use Rattle.szg_file.specs.declared.opened.fetching.FetchFault.{FetchFault}
use Rattle.szg_file.specs.declared.opened.fetching.FetchFault.TheVariants.{Block, Source}
use Rattle.szg_file.proofs.Openings.FrontFinds.{spot_inside, spot_none, spot_some, block_long, constant_decoded, value_decoded, bad_named, wanted_brought, unwanted, wanted_long, constant_spelled, block_spelled, some_and, spot_short, if_some_second}
use Rattle.szg_file.proofs.Openings.KeptFronts.{whole_bad, whole_decoded, whole_spelled, whole_wanted}
use Rattle.szg_file.proofs.opened.fetching.Located.decode.Goals as goal

pub returns-in_default-clause-value : goal.returns-in_default-clause-value
returns-in_default-clause-value c = λ content h.
    let s = c.self.inside in
    let own = subst (λ (l : Location). IsLocated l s.slot s.placed.now s.spot) c.self.view_is c.self.invariant in
    let kind = c.constant_value.ensures ∙ ap (λ (k : Kind). constant_value k (byte_of s.placed.now.sub)) (c.kind.ensures ∙ ap (λ x. x.kind) c.index.ensures ∙ ap (λ (l : Location). l.kept.index.kind) c.self.view_is) in
    let in_file = own.front content h in
    rw in_file.is
    (λ brought. whole_decoded s.slot in_file.whole c.args.self.now.index own.below h.all _ in_file.kept_is c.args.self.now.kept.index.kind _
    (constant_decoded c.args.self.now.kept.index.kind s.slot content s.placed.now.sub s.placed.now.first c.args.self.now.index _ (spot_none s.spot _ _ c.in_default.is own.spot_is) kind))

pub returns-in_default-clause-length : goal.returns-in_default-clause-length
returns-in_default-clause-length c = λ content h.
    let s = c.self.inside in
    let own = subst (λ (l : Location). IsLocated l s.slot s.placed.now s.spot) c.self.view_is c.self.invariant in
    let in_file = own.front content h in
    rw (in_file.is, ← whole_wanted s.slot in_file.whole c.args.self.now.index own.below h.all _ in_file.kept_is) (unwanted content s.placed.now.sub s.placed.now.first c.args.self.now.index _ _ (spot_none s.spot _ _ c.in_default.is own.spot_is) refl)

pub returns-in_default-clause-spelled : goal.returns-in_default-clause-spelled
returns-in_default-clause-spelled c = λ content h.
    let s = c.self.inside in
    let own = subst (λ (l : Location). IsLocated l s.slot s.placed.now s.spot) c.self.view_is c.self.invariant in
    let in_file = own.front content h in
    rw in_file.is
    (whole_spelled s.slot in_file.whole c.args.self.now.index own.below h.all _ in_file.kept_is c.args.block.now _
    (constant_spelled content s.placed.now.sub s.placed.now.first c.args.self.now.index c.args.block.now _ (spot_none s.spot _ _ c.in_default.is own.spot_is)))

pub returns-then-block-spot-clause-fault : goal.returns-then-block-spot-clause-fault
returns-then-block-spot-clause-fault c = λ content h.
    let s = c.self.inside in
    let own = subst (λ (l : Location). IsLocated l s.slot s.placed.now s.spot) c.self.view_is c.self.invariant in
    let at = spot_some s.spot c.in-Some.spot _ _ c.in-Some.is own.spot_is in
    let in_file = own.front content h in
    rw (in_file.is, ← whole_wanted s.slot in_file.whole c.args.self.now.index own.below h.all _ in_file.kept_is)
    (λ brought. c.if-block-spot.true (block_long content c.in-Some.spot.offset c.in-Some.spot.count c.args.block.now (wanted_brought content s.placed.now.sub s.placed.now.first c.args.self.now.index c.in-Some.spot c.args.block.now at brought)
    (spot_inside s.placed.now.sub s.placed.now.first c.args.self.now.index (length content) c.in-Some.spot at (omega (arith, own.inside, h.long)))))

pub returns-then-block-spot-clause-length : goal.returns-then-block-spot-clause-length
returns-then-block-spot-clause-length c = λ content h.
    let s = c.self.inside in
    let own = subst (λ (l : Location). IsLocated l s.slot s.placed.now s.spot) c.self.view_is c.self.invariant in
    let in_file = own.front content h in
    rw (in_file.is, ← whole_wanted s.slot in_file.whole c.args.self.now.index own.below h.all _ in_file.kept_is)
    (wanted_long content s.placed.now.sub s.placed.now.first c.args.self.now.index c.in-Some.spot _ (λ n. (◌≡◌ {A = Result ℕ FetchFault} (Err Source) (Err Source)) ↔ (length c.args.block.now ≢ n)) (spot_some s.spot c.in-Some.spot _ _ c.in-Some.is own.spot_is) (omega (arith, own.inside, h.long))
    (λ e. c.if-block-spot.true, λ other. refl))

pub checked_value-requires : goal.checked_value-requires
checked_value-requires c =
    let s = c.self.inside in
    let own = subst (λ (l : Location). IsLocated l s.slot s.placed.now s.spot) c.self.view_is c.self.invariant in
    let view : s.index ≡ c.args.self.now.index = ap (λ (l : Location). l.index) c.self.view_is in
    let sized : c.slot.inside.size ≡ s.slot.size = ap (λ (slot : Slot). slot.size) c.slot.view_is in
    let there = subst (λ (i : ℕ). IsSpot s.placed.now i c.in-Some.spot) (sym view) (spot_some s.spot c.in-Some.spot _ _ c.in-Some.is own.spot_is) in
    record {
      head = own.head;
      index = subst (λ (n : ℕ). IsLocatable s.placed.now.sub n) (sym sized) own.index;
      below = omega (arith, own.below, sized, view);
      at_block = some_and (layout_of s.placed.now.sub) _ (λ layout. c.in-Some.spot.value.block ≡ (block_location layout s.index).list) (λ layout h. h.block) there;
      at_item = some_and (layout_of s.placed.now.sub) _ (λ layout. c.in-Some.spot.value.item ≡ (block_location layout s.index).item) (λ layout h. h.item) there;
      short = spot_short s.placed.now s.index c.in-Some.spot there;
      whole = some_and (layout_of s.placed.now.sub) _ (λ layout. length c.args.block.now ≡ 2 ^ layout.block_bits) (λ layout h. c.if-block-spot.false ∙ h.count) there;
    }

pub returns-in-Ok-clause-value : goal.returns-in-Ok-clause-value
returns-in-Ok-clause-value c = λ content h.
    let s = c.self.inside in
    let own = subst (λ (l : Location). IsLocated l s.slot s.placed.now s.spot) c.self.view_is c.self.invariant in
    let view : s.index ≡ c.args.self.now.index = ap (λ (l : Location). l.index) c.self.view_is in
    let sized : c.slot.inside.size ≡ s.slot.size = ap (λ (slot : Slot). slot.size) c.slot.view_is in
    let at = spot_some s.spot c.in-Some.spot _ _ c.in-Some.is own.spot_is in
    let in_file = own.front content h in
    rw in_file.is
    (λ brought. whole_decoded s.slot in_file.whole c.args.self.now.index own.below h.all _ in_file.kept_is c.args.self.now.kept.index.kind c.in-Ok.value
    (value_decoded c.args.self.now.kept.index.kind s.slot content s.placed.now.sub s.placed.now.first c.args.self.now.index c.in-Ok.value c.in-Some.spot c.args.block.now
    at (wanted_brought content s.placed.now.sub s.placed.now.first c.args.self.now.index c.in-Some.spot c.args.block.now at (rw (whole_wanted s.slot in_file.whole c.args.self.now.index own.below h.all _ in_file.kept_is) brought))
    (rw (← view, ← sized) c.in-Ok.ensures.verified) (rw (← view) c.in-Ok.ensures.value)))

pub returns-in-Ok-clause-length : goal.returns-in-Ok-clause-length
returns-in-Ok-clause-length c = λ content h.
    let s = c.self.inside in
    let own = subst (λ (l : Location). IsLocated l s.slot s.placed.now s.spot) c.self.view_is c.self.invariant in
    let in_file = own.front content h in
    rw (in_file.is, ← whole_wanted s.slot in_file.whole c.args.self.now.index own.below h.all _ in_file.kept_is)
    (wanted_long content s.placed.now.sub s.placed.now.first c.args.self.now.index c.in-Some.spot _ (λ n. (◌≡◌ {A = Result ℕ FetchFault} (Ok c.in-Ok.value) (Err Source)) ↔ (length c.args.block.now ≢ n)) (spot_some s.spot c.in-Some.spot _ _ c.in-Some.is own.spot_is) (omega (arith, own.inside, h.long))
    (λ e. absurd (cc e), λ other. absurd (other c.if-block-spot.false)))

pub returns-in-Ok-clause-spelled : goal.returns-in-Ok-clause-spelled
returns-in-Ok-clause-spelled c = λ content h.
    let s = c.self.inside in
    let own = subst (λ (l : Location). IsLocated l s.slot s.placed.now s.spot) c.self.view_is c.self.invariant in
    let view : s.index ≡ c.args.self.now.index = ap (λ (l : Location). l.index) c.self.view_is in
    let in_file = own.front content h in
    rw in_file.is
    (whole_spelled s.slot in_file.whole c.args.self.now.index own.below h.all _ in_file.kept_is c.args.block.now _
    (block_spelled content s.placed.now.sub s.placed.now.first c.args.self.now.index c.in-Ok.value c.in-Some.spot c.args.block.now (spot_some s.spot c.in-Some.spot _ _ c.in-Some.is own.spot_is) c.if-block-spot.false (rw (← view) c.in-Ok.ensures.value)))

pub returns-in-Err-clause-fault : goal.returns-in-Err-clause-fault
returns-in-Err-clause-fault c = λ content h.
    let s = c.self.inside in
    let own = subst (λ (l : Location). IsLocated l s.slot s.placed.now s.spot) c.self.view_is c.self.invariant in
    let view : s.index ≡ c.args.self.now.index = ap (λ (l : Location). l.index) c.self.view_is in
    let sized : c.slot.inside.size ≡ s.slot.size = ap (λ (slot : Slot). slot.size) c.slot.view_is in
    let at = spot_some s.spot c.in-Some.spot _ _ c.in-Some.is own.spot_is in
    let in_file = own.front content h in
    let fault : FetchFault = Block c.in-Some.spot.value.block c.in-Some.spot.offset in
    let bad = if_some_second (layout_of s.placed.now.sub) _ _ c.in-Err.ensures.fault in
    rw in_file.is
    (λ brought. whole_bad s.slot in_file.whole c.args.self.now.index own.below h.all _ in_file.kept_is content fault
    (bad_named s.slot content s.placed.now.sub s.placed.now.first c.args.self.now.index c.in-Some.spot c.args.block.now fault
    at (wanted_brought content s.placed.now.sub s.placed.now.first c.args.self.now.index c.in-Some.spot c.args.block.now at (rw (whole_wanted s.slot in_file.whole c.args.self.now.index own.below h.all _ in_file.kept_is) brought)) refl (rw (← view, ← sized) bad)))

pub returns-in-Err-clause-length : goal.returns-in-Err-clause-length
returns-in-Err-clause-length c = λ content h.
    let s = c.self.inside in
    let own = subst (λ (l : Location). IsLocated l s.slot s.placed.now s.spot) c.self.view_is c.self.invariant in
    let in_file = own.front content h in
    let fault : FetchFault = Block c.in-Some.spot.value.block c.in-Some.spot.offset in
    rw (in_file.is, ← whole_wanted s.slot in_file.whole c.args.self.now.index own.below h.all _ in_file.kept_is)
    (wanted_long content s.placed.now.sub s.placed.now.first c.args.self.now.index c.in-Some.spot _ (λ n. (◌≡◌ {A = Result ℕ FetchFault} (Err fault) (Err Source)) ↔ (length c.args.block.now ≢ n)) (spot_some s.spot c.in-Some.spot _ _ c.in-Some.is own.spot_is) (omega (arith, own.inside, h.long))
    (λ e. let same : fault ≡ Source = cc e in absurd (cc same), λ other. absurd (other c.if-block-spot.false)))
