use Rattle.std.proofs.Common.{ℕ, ◌≡◌, ◌+◌, ◌*◌, ◌<◌, ◌≤◌, min, Bool, true, List, [], ◌∷◌, ◌++◌, length, take, get_or, set, refl, sym, ap, ◌∙◌, subst, arith}
use Rattle.std.proofs.lemmas.List.{take_more, take_all}
use Rattle.szg_subtable.specs.Counting.{is_free}
use Rattle.szg_subtable.proofs.Pairs.LastCount.{IsCounted, counted_one, counted_pair, counted_all}
use Rattle.szg_subtable.proofs.pairing.count_pairs.Goals as goal
use Rattle.szg_subtable.proofs.pairing.count_pairs.Goals.{then-paired, else-paired}

-- the counts after one more symbol, by the names that the body has for it
named : (n most i s last : ℕ) (counts symbols : List ℕ) (begun free free' : Bool) → i < length symbols → s ≡ get_or symbols i 0 → free' ≡ is_free begun last free s →
    IsCounted n most counts (take i symbols ++ s ∷ []) true s (is_free begun last free s) → IsCounted n most counts (take (i + 1) symbols) true s free'
named n most i s last counts symbols begun free free' inside read is counted =
    let more : take (i + 1) symbols ≡ take i symbols ++ s ∷ [] = take_more symbols i 0 inside ∙ ap (λ (k : ℕ). take i symbols ++ k ∷ []) (sym read) in
    subst (λ (z : List ℕ). IsCounted n most counts z true s free') (sym more)
    (subst (λ (b : Bool). IsCounted n most counts (take i symbols ++ s ∷ []) true s b) (sym is) counted)

pub symbols-preserved : goal.symbols-preserved
symbols-preserved c =
    let n : ℕ = c.args.n in
    let most : ℕ = 255 in
    let i : ℕ = c.symbols.item-index in
    let s : ℕ = c.from-symbol.result in
    let old = c.symbols.invariant.counted in
    let inside : i < length c.args.symbols.now = omega arith in
    let read : s ≡ get_or c.args.symbols.now i 0 = c.from-symbol.ensures in
    let below : s < n = subst (λ (k : ℕ). k < n) (sym read) (c.requires.below i inside) in
    let long : n * n ≤ length c.symbols.counts = omega (arith, c.requires.room, c.symbols.auto.counts) in
    let free : Bool = is_free c.symbols.begun c.symbols.last c.symbols.free s in
    elim c.if-paired.branch [
      | then-paired w ↦
          let place : ℕ = c.symbols.last * n + s in
          let written : c.if-paired.counts ≡ set c.symbols.counts place (min (get_or c.symbols.counts place 0 + 1) most) =
          w.counts-is ∙ ap (λ (k : ℕ). set c.symbols.counts place k) w.saturating_add-count.ensures in
          let counted = counted_pair n most c.symbols.counts (take i c.args.symbols.now) c.symbols.begun c.symbols.free c.symbols.last s old w.if-paired.true c.symbols.invariant.below below long in
          record {
            counted = subst (λ (z : List ℕ). IsCounted n most z (take (i + 1) c.args.symbols.now) true s free) (sym written)
                (named n most i s c.symbols.last (set c.symbols.counts place (min (get_or c.symbols.counts place 0 + 1) most)) c.args.symbols.now c.symbols.begun c.symbols.free free inside read refl counted);
            below = below;
          }
      | else-paired w ↦
          let counted = counted_one n most c.symbols.counts (take i c.args.symbols.now) c.symbols.begun c.symbols.free c.symbols.last s old w.if-paired.false in
          record {
            counted = subst (λ (z : List ℕ). IsCounted n most z (take (i + 1) c.args.symbols.now) true s free) (sym w.counts-is)
                (named n most i s c.symbols.last c.symbols.counts c.args.symbols.now c.symbols.begun c.symbols.free free inside read refl counted);
            below = below;
          }
    ]

pub returns : goal.returns
returns c =
    let all : take c.symbols.item-index c.args.symbols.now ≡ c.args.symbols.now = take_all c.symbols.item-index c.args.symbols.now (omega arith) in
    let counted = subst (λ (z : List ℕ). IsCounted c.args.n 255 c.symbols.counts z c.symbols.begun c.symbols.last c.symbols.free) all c.symbols.invariant.counted in
    λ l r a b. counted_all c.args.n 255 c.symbols.counts c.args.symbols.now c.symbols.begun c.symbols.free c.symbols.last counted l r a b
