-- What a handle's pointer owns: a box, or nothing if it is null. Assumes `Logic`.
use Rattle.std.proofs.Common.{◌≡◌, ℕ, List, [], ◌∷◌, refl, lit<}
use mathlib.Core.Bool.{true, ◌&&◌}
use lib.Dec.{T}
use Rattle.std_alloc.proofs.ResultValues.{and_tt}
use seplogic.Ra.Ura.{Ura}
use base.Fraction.{full_share}
use base.Fml.{Fml}
use mir.Syntax.{Ty, impl, tnil, dnil}
use mir.Raw.{raw as bare}
use mir.Val.{Val, vnull, has_ty, WT}
use base.Logic.{ent, guard, guard_i, via, snd∗, never_e}
use contract.Monad.{fact_use}
use types.Logic.{Logic, sem}
use types.Kit.{Item, Goal, Seq, ‵, given, learn, use1, by, keep, ◌$◌, drop}
use denote.RattleType.{RattleType}
use denote.Memory.{lone}
use denote.RawPtr.{Ptr, block_ptr, null_ptr, lies_at, Testable}
use denote.Param.{layout}
use Rattle.std.proofs.alloc.Calls.{Al}
use Rattle.std.proofs.cell.Inside.{Good}
use Rattle.std_alloc.specs.Box.Ownership.{box_owns}
use Rattle.std.specs.contracts.alloc.Global as heap
use Rattle.std.proofs.alloc.Global.TheLaws as heap_laws
use Rattle.std.specs.contracts.impls.GlobalAllocator.TheImpl.{ghosts}
use Rattle.std.proofs.GlobalToken.{dealloc_token-Testable}
use Rattle.std.specs.declared.option.Option.{Option}
use Rattle.std.specs.declared.option.Option.TheVariants.{None, Some}
use Rattle.szg_c.specs.Owned.{held}
use Rattle.szg_c.proofs.Values.{both}

abbrev pub Z : RattleType
Z = heap.the_row

abbrev pub al : Al
al = record { row = Z; laws = heap_laws.the_row_laws; g = ghosts; d = impl [] tnil dnil; drops = impl [] tnil dnil }

pub null_good : (h : Val) → Good (layout Z) h → T (has_ty (layout Z) h && true) × WT (both vnull h)
null_good h fits = (and_tt (has_ty (layout Z) h) fits.0, (record { fits = lit< tt }, (fits.1, tt)))

abbrev pub tok : Z.Denot → Ty → Ptr → Fml
tok a = ghosts.dealloc_token a

module _ (R : RattleType) where
  abbrev pub holds : Z.Denot → Ptr → Option R.Denot → Fml
  holds a = held (tok a) R

  tested : {M : Type 1} {𝓤 : Ura M} (𝓛 : Logic 𝓤) (a : Z.Denot) (p : Ptr) (x : R.Denot) → ent 𝓤 (sem 𝓛 (box_owns (tok a) R p x)) (guard 𝓤 (Testable p) (sem 𝓛 (box_owns (tok a) R p x)))
  tested {𝓤 = 𝓤} 𝓛 a p x = let B = sem 𝓛 (box_owns (tok a) R p x) in
      fact_use 𝓤 (Testable p) (via 𝓤 _ (snd∗ 𝓤 (sem 𝓛 (lies_at R full_share p x)) (sem 𝓛 (tok a (bare (lone R.mir)) p))) (dealloc_token-Testable 𝓛 a (bare (lone R.mir)) p)) (guard_i 𝓤 (Testable p) B)

  module _ {M : Type 1} {𝓤 : Ura M} {𝓛 : Logic 𝓤} {K : Type 0} {Γ : List (Item 𝓤)} {G : Goal 𝓤 𝓛.H} where
    pub holds_cases : K → (a : Z.Denot) (p : Ptr) (v : Option R.Denot) → (p ≡ null_ptr → v ≡ None → Seq K 𝓛 Γ G)
        → ((b o : ℕ) (x : R.Denot) → p ≡ block_ptr b o → v ≡ Some x → Testable (block_ptr b o) → Seq K 𝓛 (‵ (box_owns (tok a) R (block_ptr b o) x) ∷ Γ) G) → Seq K 𝓛 (‵ (holds a p v) ∷ Γ) G
    holds_cases t a null_ptr None none one = drop t $ none refl refl
    holds_cases t a null_ptr (Some x) none one = keep t (0 ∷ []) $ by t (never_e 𝓤 _)
    holds_cases t a (block_ptr b o) None none one = keep t (0 ∷ []) $ by t (never_e 𝓤 _)
    holds_cases t a (block_ptr b o) (Some x) none one =
        use1 𝓛 (given (Testable (block_ptr b o)) (‵ (box_owns (tok a) R (block_ptr b o) x))) (tested 𝓛 a (block_ptr b o) x) $ learn t (λ e. one b o x refl refl e)
