-- The machine values of a handle, for any type of value. Assumes `Logic`.
use Rattle.std.proofs.Common.{◌≡◌, ℕ, List, [], ◌∷◌, ◌++◌, refl, sym, subst}
use seplogic.Ra.Ura.{Ura}
use base.Stored.{Coded}
use base.Fml.{Lft, Fml}
use mir.Syntax.{Sym}
use mir.Val.{Val, vptr, vnull, vstruct, of_list}
use types.Logic.{Logic}
use types.Kit.{Item, Goal, Seq, Step, step, ‵, ◌$◌, move, drop, fsplit, fjoin, fpick, fpack, rewrite, feq_i, feq_l}
use denote.Exit.{hidden, under}
use denote.RattleType.{RattleType, Valss}
use denote.Builtin.{RawPtr}
use denote.RawPtr.{Ptr, block_ptr, null_ptr, ptr_val, Testable}
use denote.Steps.{nothing}
use denote.Param.{layout}
use denote.Struct.Field.{RawPtr-field, rows}
use denote.Struct.Struct.{within, exits_of}
use denote.Struct.Values.{intos}
use denote.Struct.Owning.{Owning, row, shape, to}
use Rattle.std.proofs.alloc.Calls.{handle_tells}
use Rattle.std.proofs.cell.Inside.{Good}
use Rattle.std_alloc.specs.Box.Ownership.{box_owns}
use Rattle.std.specs.contracts.alloc.Global.{the_field}
use Rattle.std.specs.declared.option.Option.{Option}
use Rattle.std.specs.declared.option.Option.TheVariants.{None, Some}
use Rattle.szg_c.proofs.Values.{both}
use Rattle.szg_c.proofs.HeldValues.{Z, al, tok, holds, holds_cases}

-- a struct of a pointer, the heap and, without a machine value, what the pointer owns
pub record Kind : Type 2 where
  pub name : Sym
  pub R : RattleType
  pub D : Type 0
  pub at : D → Ptr
  pub alloc : D → Z.Denot
  pub value : D → Option R.Denot
  pub coded : Coded D
  pub shr_at : D → ℕ → ℕ → Lft → Fml
  pub make : Ptr → Z.Denot → Option R.Denot → D
  pub make_at : (p : Ptr) (a : Z.Denot) (v : Option R.Denot) → at (make p a v) ≡ p
  pub make_alloc : (p : Ptr) (a : Z.Denot) (v : Option R.Denot) → alloc (make p a v) ≡ a
  pub make_value : (p : Ptr) (a : Z.Denot) (v : Option R.Denot) → value (make p a v) ≡ v

module _ (N : Kind) where
  abbrev pub type : Owning
  type = record {
    name = N.name;
    args = [];
    types = [];
    parts = RawPtr-field ∷ the_field ∷ [];
    D = N.D;
    as_values = λ d. (N.at d, (N.alloc d, tt));
    coded = N.coded;
    heap = λ d. holds N.R (N.alloc d) (N.at d) (N.value d);
    exit = λ k. hidden (under (λ d. intos (RawPtr-field ∷ the_field ∷ []) (N.at d, (N.alloc d, tt))) (exits_of k (rows (RawPtr-field ∷ the_field ∷ []))));
    shr_at = N.shr_at;
  }

  abbrev pub Handle : RattleType
  Handle = row type

  module _ {M : Type 1} {𝓤 : Ura M} {𝓛 : Logic 𝓤} {K : Type 0} {Γ : List (Item 𝓤)} {G : Goal 𝓤 𝓛.H} where
    pub handle_out : K → (d : N.D) (vs : List Val)
        → ((h : Val) → N.value d ≡ None → vs ≡ both vnull h ∷ [] → Good (layout Z) h → Seq K 𝓛 (‵ (Z.own_val (N.alloc d) (h ∷ [])) ∷ Γ) G)
        → ((b o : ℕ) (x : N.R.Denot) (h : Val) → N.value d ≡ Some x → Testable (block_ptr b o) → vs ≡ both (vptr b o) h ∷ [] → Good (layout Z) h
        → Seq K 𝓛 (‵ (box_owns (tok (N.alloc d)) N.R (block_ptr b o) x) ∷ ‵ (Z.own_val (N.alloc d) (h ∷ [])) ∷ Γ) G)
        → Seq K 𝓛 (‵ (Handle.own_val d vs) ∷ Γ) G
    handle_out t d vs none one =
        fsplit t $ fpick t (λ vss. fsplit t $ feq_l t (λ ev. fsplit t $ feq_l t (λ ep. fsplit t $ handle_tells al t (N.alloc d) vss.1.0 (λ h ea fits. move t (1 ∷ []) $ drop t $ move t (1 ∷ []) $
        let is : (p : Ptr) → N.at d ≡ p → vs ≡ both (ptr_val p) h ∷ [] = λ p e.
        subst (λ (r : Ptr). vs ≡ vstruct (of_list (ptr_val r ∷ h ∷ [])) ∷ []) e
        (subst (λ (ws : List Val). vs ≡ vstruct (of_list (ptr_val (N.at d) ∷ (ws ++ []))) ∷ []) ea (subst (λ (ps : List Val). vs ≡ vstruct (of_list (ps ++ (vss.1.0 ++ []))) ∷ []) ep ev)) in
        holds_cases N.R t (N.alloc d) (N.at d) (N.value d) (λ e f. none h f (is null_ptr e) fits) (λ b o x e f s. one b o x h f s (is (block_ptr b o) e) fits)))))

    as_is : K → (d : N.D) (h : Val)
        → Step K 𝓛 (‵ (Handle.own_val d (both (ptr_val (N.at d)) h ∷ [])) ∷ Γ) G (‵ (holds N.R (N.alloc d) (N.at d) (N.value d)) ∷ ‵ (Z.own_val (N.alloc d) (h ∷ [])) ∷ Γ) G
    as_is t d h = step (λ s. let w : Val = both (ptr_val (N.at d)) h in
        nothing t $ move t (2 ∷ 0 ∷ []) $ fjoin t $ feq_i t (List Val) (ptr_val (N.at d) ∷ []) (ptr_val (N.at d) ∷ []) refl $ fjoin t $ feq_i t (List Val) (w ∷ []) (w ∷ []) refl $ fjoin t $
        fpack t (Valss (RawPtr ∷ Z ∷ [])) (within (shape type) (to type d) (w ∷ [])) (ptr_val (N.at d) ∷ [], (h ∷ [], tt)) $ fjoin t $ s)

    pub handle_in : K → (p : Ptr) (v : Option N.R.Denot) (h : Val) (a : Z.Denot)
        → Step K 𝓛 (‵ (Handle.own_val (N.make p a v) (both (ptr_val p) h ∷ [])) ∷ Γ) G (‵ (holds N.R a p v) ∷ ‵ (Z.own_val a (h ∷ [])) ∷ Γ) G
    handle_in t p v h a = step (λ s. let d : N.D = N.make p a v in
        rewrite t 0 (λ (q : Ptr). ‵ (holds N.R a q v)) (sym (N.make_at p a v)) refl $ rewrite t 0 (λ (b : Z.Denot). ‵ (holds N.R b (N.at d) v)) (sym (N.make_alloc p a v)) refl $
        rewrite t 0 (λ (u : Option N.R.Denot). ‵ (holds N.R (N.alloc d) (N.at d) u)) (sym (N.make_value p a v)) refl $ rewrite t 1 (λ (b : Z.Denot). ‵ (Z.own_val b (h ∷ []))) (sym (N.make_alloc p a v)) refl $
        as_is t d h $ rewrite t 0 (λ (q : Ptr). ‵ (Handle.own_val d (both (ptr_val q) h ∷ []))) (N.make_at p a v) refl $ s)
