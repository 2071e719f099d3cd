-- The walks through the functions of a handle, for any type of value.
use Rattle.std.proofs.Common.{◌≡◌, List, [], ◌∷◌, ◌++◌, refl, sym, subst, lit<}
use mir.Val.{Val, vnull, vptr, vcons, vnil}
use base.Logic.{SProp, ent, emp, id⊢}
use base.Fml.{ftrue}
use prog.Wp.{WpFn, Closed}
use types.Kit.{‵, raw, ◌⊛◌, ◌$◌, ◌∵◌, !, qed, by, move, keep, split, fsplit, fjoin, suffices, use0, at_ret, use1}
use types.Run.{lit, no_more, and_then, returns, enter, stop, fld, of_opd, bin, first, branches, exec}
use types.ByLocal.{alloc_all, pass_all, free_all, look_at, get, sets, get_in, sets_last, env}
use types.Part.{agg, sub, whole}
use contract.Monad.{fact, fact_i}
use contract.Running.{tables, Running}
use denote.Exit.{yes}
use denote.RattleType.{owns, RattleType}
use denote.Signature.{types_at, plain, type_at}
use denote.RawPtr.{null_ptr, block_ptr, tests_null}
use denote.Steps.{nothing}
use denote.Triple.Walked.{Stays, stay_dropped, walk_of, Goes-dropped}
use Rattle.std.proofs.alloc.Calls.{handle_tells}
use Rattle.std.proofs.raw_atomic.Walks.{proved_at, leaves}
use Rattle.std.specs.declared.option.Option.TheVariants.{None, Some}
use Rattle.szg_c.proofs.Values.{both, Loose, loose_good, loose_out, loose_in}
use Rattle.szg_c.proofs.HeldValues.{Z, al, null_good}
use Rattle.szg_c.proofs.HandleValues.{Kind, Handle, handle_in, handle_out}
use Rattle.std.specs.contracts.impls.GlobalAllocator.TheImpl.{ghosts}
use types.Match.{live}
use denote.Param.{layout}
use denote.Builtin.{RawPtr}
use Rattle.std.proofs.cell.Inside.{Good}
use Rattle.std.proofs.option.Made.{Some-of, none_of}
use Rattle.std.proofs.VecSteps.Shapes.{after}
use Rattle.std_alloc.proofs.ResultValues.{and_tt}
use mir.Syntax.{Callee, Fn, Local, Body, local, value_local, assign, seq, cond, return, place, field, rv_opd, op2, ptr_eq, aggregate, copy, int, w8, w64, ty_bool}
use seplogic.Ra.Ura.{Ura}
use types.Logic.{Logic}
use prog.Model.{Model}
use denote.Triple.Clauses.{Ended, Clauses, closing}
use denote.Triple.Spec.{Meets}
use Rattle.std.specs.Option.{MatchOption}
use Rattle.std.proofs.alloc.Global.TheLaws as heap_laws
use Rattle.std.specs.contracts.option.Option.{the_row as Option_row}

module _ (N : Kind) where
  -- a function of one argument, which it consumes
  abbrev one : RattleType → RattleType → Ended
  one X Y = record { signature = record { lifetimes = 0; outlives = []; params = plain (λ _. X) ∷ []; result = plain (λ _. Y) }; kept = (yes, tt) }

  abbrev Lr : RattleType
  Lr = Loose N.R Z heap_laws.the_row_laws ghosts

  -- the code of the three functions
  abbrev code : List Local → Body → Fn
  code locals body = record { lifetimes = 0; outlives = []; ty_params = []; givens = 0; params = 1; locals = locals; body = body }

  abbrev local_of : RattleType → Local
  local_of X = local (layout X) value_local

  abbrev none_code : Fn
  none_code = code (local_of (Handle N) ∷ local_of Z ∷ []) (seq (assign (place 0 []) (aggregate (int w64 0 ∷ copy (place 1 []) ∷ []))) return)

  abbrev of_code : Fn
  of_code = code (local_of (Handle N) ∷ local_of Lr ∷ local_of RawPtr ∷ local_of Z ∷ local_of RawPtr ∷ [])
      (seq (assign (place 2 []) (rv_opd (copy (place 1 (field 0 ∷ []))))) (seq (assign (place 3 []) (rv_opd (copy (place 1 (field 1 ∷ []))))) (seq (assign (place 4 []) (rv_opd (copy (place 2 []))))
      (seq (assign (place 0 []) (aggregate (copy (place 4 []) ∷ copy (place 3 []) ∷ []))) return))))

  abbrev into_loose_code : Fn
  into_loose_code = code (local_of (Option_row Lr) ∷ local_of (Handle N) ∷ local_of RawPtr ∷ local_of Z ∷ local ty_bool value_local ∷ local_of (Option_row Lr) ∷ local_of RawPtr ∷ local_of Lr ∷ [])
      (seq (assign (place 2 []) (rv_opd (copy (place 1 (field 0 ∷ []))))) (seq (assign (place 3 []) (rv_opd (copy (place 1 (field 1 ∷ []))))) (seq (assign (place 4 []) (op2 ptr_eq (copy (place 2 [])) (int w64 0)))
      (seq (cond (copy (place 4 [])) (assign (place 5 []) (aggregate (int w8 0 ∷ [])))
      (seq (assign (place 6 []) (rv_opd (copy (place 2 [])))) (seq (assign (place 7 []) (aggregate (copy (place 6 []) ∷ copy (place 3 []) ∷ []))) (assign (place 5 []) (aggregate (int w8 1 ∷ copy (place 7 []) ∷ []))))))
      (seq (assign (place 0 []) (rv_opd (copy (place 5 [])))) return)))))

  module _ {M : Type 1} (𝓤 : Ura M) (𝓛 : Logic 𝓤) (𝓜 : Model 𝓤 𝓛.H) (𝓡 : Running 𝓤 𝓛.H 𝓜) (k : Callee) where
    abbrev none_clauses : Clauses 𝓤 (one Z (Handle N))
    none_clauses κs args = record { ghost = Unit {0}; requires = λ _. emp 𝓤; ensures = λ _ d _. fact 𝓤 (N.value d ≡ None) }

    pub none_meets : Closed 𝓤 𝓛.H (tables 𝓤 𝓛.H 𝓜 𝓡 𝓡.env).C (tables 𝓤 𝓛.H 𝓜 𝓡 𝓡.env).Λ k none_code
        → Meets 𝓛 (one Z (Handle N)).signature ((tables 𝓤 𝓛.H 𝓜 𝓡 𝓡.env).C k) (closing 𝓛 (one Z (Handle N)) none_clauses)
    none_meets closed =
        let H = 𝓛.H in let 𝓣 = tables 𝓤 H 𝓜 𝓡 𝓡.env in let En : Ended = one Z (Handle N) in let c = none_clauses in let fn = none_code in
        let hs : Stays En.signature.params En.kept = (stay_dropped (plain (λ _. Z)) yes, tt) in
        proved_at 𝓛 En hs c 𝓜 𝓡 (Goes-dropped 𝓛 0 (plain (λ _. Z)) yes (λ κs x f. refl), tt) k fn closed (λ z are.
        let a = z.0.3.0 in let Post : Val → SProp 𝓤 = (walk_of 𝓛 En hs c).post z in let Run : List Val → SProp 𝓤 = λ ws. WpFn 𝓤 H 𝓣.C 𝓣.Λ fn ws Post in
        qed 𝓛 ((‵ ftrue ⊛ ‵ (owns (types_at En.signature.params z.0.0) z.0.3 z.0.4)) ∷ raw ((c z.0.0 z.0.3).requires z.1) ∷ []) ∵ split ! $ move ! (1 ∷ []) $ fsplit ! $ handle_tells al ! a z.0.4.0 (λ h ws fits.
        -- [the heap; nothing; the tokens; the requires]
        let w : Val = both vnull h in let typed = null_good h fits in
        suffices ! (Run (h ∷ [])) (subst (λ (us : List Val). ent 𝓤 (Run (h ∷ [])) (Run us)) (sym (λ i. ws i ++ [])) (id⊢ 𝓤 (Run (h ∷ [])))) $
        enter ! 𝓣.C 𝓣.Λ fn (h ∷ []) Post $ alloc_all ! (λ l. pass_all ! refl (fits, tt) $
        sets ! (agg ! (and_then ! (lit ! tt) (and_then ! (get ! refl) (no_more !)))) refl typed $ nothing ! $ handle_in N ! null_ptr None h a $
        use0 𝓛 (raw (fact 𝓤 (N.value (N.make null_ptr a None) ≡ None))) (fact_i 𝓤 (N.value (N.make null_ptr a None) ≡ None) (emp 𝓤) (N.make_value null_ptr a None)) $ nothing ! $ nothing ! $ fjoin ! $
        returns ! (look_at ! 0 refl) $ free_all ! refl $ keep ! (4 ∷ 0 ∷ 2 ∷ 1 ∷ []) $ by ! (leaves 𝓛 En hs c z w (N.make null_ptr a None) (tt, tt) (tt, tt)))))

    abbrev of_clauses : Clauses 𝓤 (one Lr (Handle N))
    of_clauses κs args = record { ghost = Unit {0}; requires = λ _. emp 𝓤; ensures = λ _ d _. fact 𝓤 (N.value d ≡ Some args.0.value) }

    pub of_meets : Closed 𝓤 𝓛.H (tables 𝓤 𝓛.H 𝓜 𝓡 𝓡.env).C (tables 𝓤 𝓛.H 𝓜 𝓡 𝓡.env).Λ k of_code
        → Meets 𝓛 (one Lr (Handle N)).signature ((tables 𝓤 𝓛.H 𝓜 𝓡 𝓡.env).C k) (closing 𝓛 (one Lr (Handle N)) of_clauses)
    of_meets closed =
        let H = 𝓛.H in let 𝓣 = tables 𝓤 H 𝓜 𝓡 𝓡.env in let LZ = heap_laws.the_row_laws in let En : Ended = one Lr (Handle N) in let c = of_clauses in let fn = of_code in
        let hs : Stays En.signature.params En.kept = (stay_dropped (plain (λ _. Lr)) yes, tt) in
        proved_at 𝓛 En hs c 𝓜 𝓡 (Goes-dropped 𝓛 0 (plain (λ _. Lr)) yes (λ κs x f. refl), tt) k fn closed (λ z are.
        let v = z.0.3.0 in let Post : Val → SProp 𝓤 = (walk_of 𝓛 En hs c).post z in let Run : List Val → SProp 𝓤 = λ ws. WpFn 𝓤 H 𝓣.C 𝓣.Λ fn ws Post in
        qed 𝓛 ((‵ ftrue ⊛ ‵ (owns (types_at En.signature.params z.0.0) z.0.3 z.0.4)) ∷ raw ((c z.0.0 z.0.3).requires z.1) ∷ []) ∵ split ! $ move ! (1 ∷ []) $ fsplit ! $ loose_out N.R Z LZ ghosts ! v z.0.4.0 (λ b o h e ws fits.
        -- [the box; the heap; nothing; the tokens; the requires]
        let w : Val = both (vptr b o) h in let d : N.D = N.make (block_ptr b o) v.alloc (Some v.value) in let typed = loose_good N.R Z LZ ghosts b o h fits in
        suffices ! (Run (w ∷ [])) (subst (λ (us : List Val). ent 𝓤 (Run (w ∷ [])) (Run us)) (sym (λ i. ws i ++ [])) (id⊢ 𝓤 (Run (w ∷ [])))) $
        enter ! 𝓣.C 𝓣.Λ fn (w ∷ []) Post $ alloc_all ! (λ l. pass_all ! refl (typed, tt) $
        sets ! (of_opd ! (get_in ! (fld ! refl (stop !)) (sub ! 0 refl (whole !)))) refl (tt, tt) $ sets ! (of_opd ! (get_in ! (fld ! refl (stop !)) (sub ! 1 refl (whole !)))) refl fits $
        sets ! (of_opd ! (get ! refl)) refl (tt, tt) $ sets ! (agg ! (and_then ! (get ! refl) (and_then ! (get ! refl) (no_more !)))) refl typed $ handle_in N ! (block_ptr b o) (Some v.value) h v.alloc $
        use0 𝓛 (raw (fact 𝓤 (N.value d ≡ Some v.value))) (fact_i 𝓤 (N.value d ≡ Some v.value) (emp 𝓤) (N.make_value (block_ptr b o) v.alloc (Some v.value))) $ nothing ! $ nothing ! $ fjoin ! $
        returns ! (look_at ! 0 refl) $ free_all ! refl $ keep ! (4 ∷ 0 ∷ 2 ∷ 1 ∷ []) $ by ! (leaves 𝓛 En hs c z w d (tt, tt) (tt, tt)))))

    abbrev into_loose_clauses : Clauses 𝓤 (one (Handle N) (Option_row Lr))
    into_loose_clauses κs args = record { ghost = Unit {0}; requires = λ _. emp 𝓤; ensures = λ _ r _. fact 𝓤 (MatchOption r (N.value args.0 ≡ None) (λ (x : Lr.Denot). N.value args.0 ≡ Some x.value)) }

    pub into_loose_meets : Closed 𝓤 𝓛.H (tables 𝓤 𝓛.H 𝓜 𝓡 𝓡.env).C (tables 𝓤 𝓛.H 𝓜 𝓡 𝓡.env).Λ k into_loose_code
        → Meets 𝓛 (one (Handle N) (Option_row Lr)).signature ((tables 𝓤 𝓛.H 𝓜 𝓡 𝓡.env).C k) (closing 𝓛 (one (Handle N) (Option_row Lr)) into_loose_clauses)
    into_loose_meets closed =
        let H = 𝓛.H in let 𝓣 = tables 𝓤 H 𝓜 𝓡 𝓡.env in let LZ = heap_laws.the_row_laws in let En : Ended = one (Handle N) (Option_row Lr) in let c = into_loose_clauses in let fn = into_loose_code in
        let hs : Stays En.signature.params En.kept = (stay_dropped (plain (λ _. Handle N)) yes, tt) in
        proved_at 𝓛 En hs c 𝓜 𝓡 (Goes-dropped 𝓛 0 (plain (λ _. Handle N)) yes (λ κs x f. refl), tt) k fn closed (λ z are.
        let v = z.0.3.0 in let Post : Val → SProp 𝓤 = (walk_of 𝓛 En hs c).post z in let Run : List Val → SProp 𝓤 = λ ws. WpFn 𝓤 H 𝓣.C 𝓣.Λ fn ws Post in let Out : RattleType = type_at En.signature.result z.0.0 in
        qed 𝓛 ((‵ ftrue ⊛ ‵ (owns (types_at En.signature.params z.0.0) z.0.3 z.0.4)) ∷ raw ((c z.0.0 z.0.3).requires z.1) ∷ []) ∵ split ! $ move ! (1 ∷ []) $ fsplit ! $ handle_out N ! v z.0.4.0
        (λ h none ws fits.
        -- [the heap; nothing; the tokens; the requires]
        let w : Val = both vnull h in
        suffices ! (Run (w ∷ [])) (subst (λ (us : List Val). ent 𝓤 (Run (w ∷ [])) (Run us)) (sym (λ i. ws i ++ [])) (id⊢ 𝓤 (Run (w ∷ [])))) $
        enter ! 𝓣.C 𝓣.Λ fn (w ∷ []) Post $ alloc_all ! (λ l. pass_all ! refl (null_good h fits, tt) $ let Ev = env fn.locals l in
        sets ! (of_opd ! (get_in ! (fld ! refl (stop !)) (sub ! 0 refl (whole !)))) refl (tt, record { fits = lit< tt }) $ sets ! (of_opd ! (get_in ! (fld ! refl (stop !)) (sub ! 1 refl (whole !)))) refl fits $
        sets ! (bin ! (get ! refl) (lit ! tt) tt) refl (tt, tt) $ first ! $ branches ! (get ! refl)
        (λ _. sets_last ! (agg ! (and_then ! (lit ! tt) (no_more !))) refl (tt, (record { fits = lit< tt }, tt)) $ exec ! 𝓣.C 𝓣.Λ Ev (after 4 fn.body) (at_ret Ev Post) $ sets ! (of_opd ! (get ! refl)) refl (tt, (record { fits = lit< tt }, tt)) $
        use0 𝓛 (‵ (Out.own_val None (live 0 vnil ∷ []))) (none_of 𝓛 Lr) $ use0 𝓛 (raw (fact 𝓤 (N.value v ≡ None))) (fact_i 𝓤 (N.value v ≡ None) (emp 𝓤) none) $ nothing ! $ nothing ! $ fjoin ! $
        returns ! (look_at ! 0 refl) $ free_all ! refl $ keep ! (5 ∷ 0 ∷ 2 ∷ 1 ∷ []) $ by ! (leaves 𝓛 En hs c z (live 0 vnil) None (tt, tt) (tt, tt)))
        (λ wrong. absurd wrong)))
        (λ b o x h some t ws fits.
        -- [the box; the heap; nothing; the tokens; the requires]
        let w : Val = both (vptr b o) h in let typed = loose_good N.R Z LZ ghosts b o h fits in let v₁ : Val = live 1 (vcons w vnil) in let d : Lr.Denot = record { at = block_ptr b o; alloc = N.alloc v; value = x } in
        let good : Good (layout Out) v₁ = (and_tt _ typed.0, (record { fits = lit< tt }, (typed.1, tt))) in
        suffices ! (Run (w ∷ [])) (subst (λ (us : List Val). ent 𝓤 (Run (w ∷ [])) (Run us)) (sym (λ i. ws i ++ [])) (id⊢ 𝓤 (Run (w ∷ [])))) $
        enter ! 𝓣.C 𝓣.Λ fn (w ∷ []) Post $ alloc_all ! (λ l. pass_all ! refl (typed, tt) $ let Ev = env fn.locals l in
        sets ! (of_opd ! (get_in ! (fld ! refl (stop !)) (sub ! 0 refl (whole !)))) refl (tt, tt) $ sets ! (of_opd ! (get_in ! (fld ! refl (stop !)) (sub ! 1 refl (whole !)))) refl fits $
        sets ! (bin ! (get ! refl) (lit ! tt) (tests_null (block_ptr b o) t)) refl (tt, tt) $ first ! $ branches ! (get ! refl) (λ wrong. absurd wrong) (λ _.
        sets ! (of_opd ! (get ! refl)) refl (tt, tt) $ sets ! (agg ! (and_then ! (get ! refl) (and_then ! (get ! refl) (no_more !)))) refl typed $ sets_last ! (agg ! (and_then ! (lit ! tt) (and_then ! (get ! refl) (no_more !)))) refl good $
        exec ! 𝓣.C 𝓣.Λ Ev (after 4 fn.body) (at_ret Ev Post) $ sets ! (of_opd ! (get ! refl)) refl good $ loose_in N.R Z LZ ghosts ! b o h (N.alloc v) x $
        use1 𝓛 (‵ (Out.own_val (Some d) (v₁ ∷ []))) (Some-of 𝓛 Lr d w) $ use0 𝓛 (raw (fact 𝓤 (N.value v ≡ Some x))) (fact_i 𝓤 (N.value v ≡ Some x) (emp 𝓤) some) $ nothing ! $ nothing ! $ fjoin ! $
        returns ! (look_at ! 0 refl) $ free_all ! refl $ keep ! (4 ∷ 0 ∷ 2 ∷ 1 ∷ []) $ by ! (leaves 𝓛 En hs c z v₁ (Some d) (tt, tt) (tt, tt))))))
