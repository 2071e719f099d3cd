use Rattle.std.proofs.Common.{List, sym, ap, ◌∙◌, subst, arith, inl, inr, All, Contains}
use Rattle.std.proofs.lemmas.List.{take_all}
use Rattle.std.proofs.lemmas.List.Elements.{Contains-append_left, Contains-append_right}
use Rattle.szg_values.specs.Material.{Sides}
use Rattle.szg_game.specs.Game.{is_empty}
use Rattle.szg_verify.specs.Entries.{tables_of}
use Rattle.szg_verify.specs.Materials.{are_closed}
use Rattle.szg_tables.specs.Distances.{stored_distances}
use Rattle.szg_tables.specs.Stored.{stored_classes}
use Rattle.szg_verified.specs.Verified.{IsCheckedIn, IsFinding, IsLoggedIn, is_whole}
use Rattle.szg_verified.specs.declared.verifying.Unverified.{Unverified}
use Rattle.szg_verified.proofs.Materials.{one_more, single}
use Rattle.szg_verified.proofs.Causes.{caused_by, failed_as, logged_as, none_logged, one_more_logged, pushed, not_empty, same_caused, verified_as, whole_parts}
use Rattle.szg_verified.proofs.verifying.verify_materials.Goals as goal
use Rattle.szg_verified.proofs.verifying.verify_materials.Goals.{in-Verified, in-Logged+in_ok-push-in-Logged, in-Failed+in_ok-push-in-Failed}

pub materials-preserved : goal.materials-preserved
materials-preserved g c =
    let tables = c.args.tables.now in
    let materials = c.args.materials.now in
    let before = c.materials.invariant in
    let found = c.in_ok-found.found in
    let item = c.material-item.result in
    let is = subst (λ (us : List Unverified). IsFinding tables us c.args.log item found) c.deref.ensures.value c.in_ok-found.ensures.found in
    elim c.match-found.branch [
      | in-Verified w ↦ (
          let none_more = ap (λ z. z.items) w.unverified-is in
          let none_logged = ap (λ z. z.items) w.logged-is in
          record {
            checked = λ none sides held. elim (one_more materials c.materials.material-index item sides c.materials-test.true c.material-item.is held) [
              | inl here ↦ inl (subst (IsCheckedIn tables) here (verified_as tables _ c.args.log item found _ w.in-Verified.is is))
              | inr earlier ↦ elim (before.checked (sym (ap is_empty none_more) ∙ none) sides earlier) [ inl done ↦ inl done | inr held ↦ inr (subst (λ (xs : List Sides). Contains xs sides) (sym none_logged) held) ]
            ];
            caused = same_caused tables materials _ _ none_more before.caused;
            logged = subst (All (IsLoggedIn c.args.log tables)) (sym none_logged) before.logged;
          })
      | in-Logged+in_ok-push-in-Logged w ↦ (
          let none_more = ap (λ z. z.items) w.unverified-is in
          let more = ap (λ z. z.items) w.logged-is ∙ w.in_ok-push-in-Logged.ensures.items in
          record {
            checked = λ none sides held. elim (one_more materials c.materials.material-index item sides c.materials-test.true c.material-item.is held) [
              | inl here ↦ inr (subst (λ (xs : List Sides). Contains xs sides) (sym more) (Contains-append_right c.materials.logged.items _ sides (single _ sides (w.copy.ensures ∙ here))))
              | inr earlier ↦ elim (before.checked (sym (ap is_empty none_more) ∙ none) sides earlier) [ inl done ↦ inl done | inr held ↦ inr (subst (λ (xs : List Sides). Contains xs sides) (sym more) (Contains-append_left c.materials.logged.items _ sides held)) ]
            ];
            caused = same_caused tables materials _ _ none_more before.caused;
            logged = one_more_logged c.args.log tables c.materials.logged.items _ item _ more w.copy.ensures before.logged (logged_as tables _ c.args.log item found _ w.in-Logged.is is);
          })
      | in-Failed+in_ok-push-in-Failed w ↦ (
          let more = ap (λ z. z.items) w.unverified-is ∙ w.in_ok-push-in-Failed.ensures.items in
          let none_logged = ap (λ z. z.items) w.logged-is in
          record {
            checked = λ none. not_empty c.materials.unverified.items _ _ more none;
            caused = pushed tables materials c.materials.unverified.items _ _ more before.caused
                (caused_by tables materials _ c.materials.material-index item w.copy-in-Failed.result w.in-Failed.cause c.materials-test.true c.material-item.is w.copy-in-Failed.ensures
                (failed_as tables _ c.args.log item found w.in-Failed.cause w.in-Failed.is is));
            logged = subst (All (IsLoggedIn c.args.log tables)) (sym none_logged) before.logged;
          })
    ]

pub returns-clause-true_tables : goal.returns-clause-true_tables
returns-clause-true_tables g c = λ t logged p position covered.
    let whole = whole_parts (is_empty c.args.materials.now) (are_closed c.args.materials.now) (is_empty c.materials.unverified.items) (ap (is_whole c.args.materials.now) (sym c.deref-2.ensures.value) ∙ sym c.is_whole-is_all.ensures ∙ t) in
    c.verified_is_true.ensures (tables_of (stored_classes c.args.tables.now) (stored_distances c.args.tables.now)) c.args.materials.now p
    whole.0 c.stored_at_images.ensures.tables
    (λ sides held. elim (c.materials.invariant.checked whole.1 sides (subst (λ (xs : List Sides). Contains xs sides) (sym (take_all c.materials.material-index c.args.materials.now (omega arith))) held)) [ inl done ↦ done | inr taken ↦ logged sides taken ]) position covered

pub returns-clause-logged : goal.returns-clause-logged
returns-clause-logged g c = none_logged c.args.log c.args.tables.now c.materials.logged.items c.materials.invariant.logged
