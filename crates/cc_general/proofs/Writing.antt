-- What a run over candidates tells of its histories can be written.
use Rattle.std.proofs.Common.{◌≡◌, ℕ, ◌+◌, ◌≤◌, Bool, true, false, if◌then◌else◌, List, [], ◌∷◌, ◌++◌, map, Option, Some, None, refl, sym, subst}
use Rattle.std.specs.Prelude.{Contains, nat_lt}
use Rattle.std.specs.List.{AllByRecursion}
use Rattle.std.specs.Option.{option_or}
use Rattle.std.proofs.lemmas.Bool.{ltb-false}
use Rattle.std.proofs.lemmas.List.{map-append}
use Rattle.std.proofs.lemmas.List.Elements.{Contains-append_right}
use Rattle.cc_defs.specs.ClauseLists.{ClauseList}
use Rattle.cc_defs.specs.declared.refusal.Refusal.{Refusal}
use Rattle.cc_defs.specs.Limits.{most_variables}
use Rattle.cc_defs.specs.LogTexts.{IsFormed}
use Rattle.cc_defs.specs.Resolved.{Query}
use Rattle.cc_defs.specs.Runs.{range_of}
use Rattle.cc_defs.specs.Signatures.{Signature}
use Rattle.cc_form.specs.Forms.{form_refusal}
use Rattle.cc_general.specs.Accepted.{IsWritableGeneral, IsWritableShown}
use Rattle.cc_general.specs.declared.turn.GeneralTurn.{GeneralTurn}
use Rattle.cc_general.specs.declared.turn.GeneralTurn.TheVariants as events
use Rattle.cc_general.specs.GeneralRuns.{GeneralRun, IsFairGeneral, IsShownRightly, Shown, general_horizon, rows_shown}
use Rattle.cc_general.specs.Generals.{GoesOnBy, IsGoodEvent, IsWritable}
use Rattle.cc_lists.specs.Sections.{section_lines}
use Rattle.cc_lists.specs.Subjects.{AreGoodAxioms}
use Rattle.cc_lists.proofs.Members.{all_append, all_behind, in_first}
use Rattle.cc_query.proofs.Shortness.{row_short}
use Rattle.cc_rivals.specs.Wides.{wide_rules_refusal}
use Rattle.cc_wide.specs.WideLaws.{WideDescription}
use Rattle.cc_wide.specs.WideLists.{rival_axioms, rivals_list}
use Rattle.cc_wide.specs.WideRules.{IsGeneral, wide_sizes}

not_passed : (b : Bool) (refusal : Refusal) (rest : Option Refusal) → (if b then Some refusal else rest) ≡ None → b ≡ false
not_passed true refusal rest is = absurd cc
not_passed false refusal rest is = refl

-- a list that passes no limit has few variables
few_variables : (rules : Option Refusal) (list : ClauseList) → option_or rules (form_refusal list) ≡ None → list.variables ≤ most_variables
few_variables (Some refusal) list is = absurd cc
few_variables None list is = ltb-false most_variables list.variables (not_passed (nat_lt most_variables list.variables) _ _ is)

-- its indexes are below the sizes, whose sum is at most the number of variables
shown_written : (w : WideDescription) (q : Query) (budget horizon : ℕ) (one : Shown) → IsGeneral w q horizon one.row → IsShownRightly w budget horizon one →
    AllByRecursion IsFormed (section_lines one.section) → AreGoodAxioms (rival_axioms w horizon one.row) → IsWritableShown w horizon one
shown_written w q budget horizon one is shown formed good =
    let low = few_variables (wide_rules_refusal w horizon) (rivals_list w horizon one.row) shown.0.within in
    (row_short (rivals_list w horizon one.row).variables (wide_sizes w horizon) one.row low good.positions is.model.interprets, formed, good)

module _ (w : WideDescription) (q : Query) (count : Option ℕ) (budget : ℕ) (run : GeneralRun) where
  shows_written : (one : Shown) → IsFairGeneral w q count budget (record run { shown = run.shown ++ one ∷ [] }) → AllByRecursion IsFormed (section_lines one.section) →
      AreGoodAxioms (rival_axioms w (general_horizon q run) one.row) → IsWritableGeneral w q run → IsWritableGeneral w q (record run { shown = run.shown ++ one ∷ [] })
  shows_written one fair formed good before =
      let at = general_horizon q run in
      let there : Contains (map (λ (shown : Shown). shown.row) (run.shown ++ one ∷ [])) one.row =
      subst (λ (rows : List (List ℕ)). Contains rows one.row) (sym (map-append (λ (shown : Shown). shown.row) run.shown (one ∷ [])))
      (Contains-append_right (rows_shown run) (one.row ∷ []) one.row (in_first one.row [])) in
      let right = (all_behind (IsShownRightly w budget at) run.shown (one ∷ []) fair.each).0 in
      all_append (IsWritableShown w at) run.shown (one ∷ []) before (shown_written w q budget at one (fair.first.each one.row there) right formed good, tt)

  -- what is told next can be written, as what was told before
  pub more_written : (signature : Signature) (event : GeneralTurn) (after : GeneralRun) → GoesOnBy q run event after → IsFairGeneral w q count budget after →
      IsWritable signature event → IsGoodEvent w event → IsWritableGeneral w q run → IsWritableGeneral w q after
  more_written signature (events.NoHistory horizon) after (here, bare, is) fair writable good before =
      subst (λ (r : GeneralRun). IsWritableGeneral w q r) (sym is)
      (subst (λ (shown : List Shown). AllByRecursion (IsWritableShown w ((range_of q).0 + (run.empty + 1))) shown) (sym bare) tt)
  more_written signature (events.History horizon number row lines) after (here, numbered, (section, lines_are, is)) fair writable good before =
      subst (λ (r : GeneralRun). IsWritableGeneral w q r) (sym is)
      (shows_written (record { row = row; section = section }) (subst (λ (r : GeneralRun). IsFairGeneral w q count budget r) is fair)
      (subst (AllByRecursion IsFormed) lines_are writable.formed) (subst (λ (h : ℕ). AreGoodAxioms (rival_axioms w h row)) here good) before)
  more_written signature (events.Ended ending) after (how, unspent, ending_is, is) fair writable good before =
      subst (λ (r : GeneralRun). IsWritableGeneral w q r) (sym is) before
  more_written signature (events.Spent horizon listed rivals_of lines) after (how, spent, here, counted, is) fair writable good before =
      subst (λ (r : GeneralRun). IsWritableGeneral w q r) (sym is) before
