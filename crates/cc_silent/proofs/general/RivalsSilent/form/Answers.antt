use Rattle.std.proofs.Common.{◌≡◌, ◌≤◌, IfErr, List, None, OnOk, subst, sym, ℕ}
use Rattle.cc_defs.specs.Refusals.{IsRefusedBy}
use Rattle.cc_silent.specs.RivalParts.{AreRivalsOf, RivalsView}
use Rattle.cc_silent.proofs.GeneralChecking.{first_refused, then_refused, then_within}
use Rattle.cc_silent.proofs.Errors.{errs_with}
use Rattle.cc_silent.proofs.general.RivalsSilent.form.Goals as goal
use Rattle.cc_rivals.specs.Wides.{rivals_refusal}

pub candidates-requires-clause-query : goal.candidates-requires-clause-query
candidates-requires-clause-query c =
    let h = c.args.key.now.horizon in
    c.self.invariant.steps h (subst (λ (s : RivalsView). s.query.lo ≤ h) (sym c.self.view_is) c.requires.can.least) (subst (λ (s : RivalsView). h ≤ s.query.hi) (sym c.self.view_is) c.requires.can.most)

pub returns-in_err-listed-clause-refused : goal.returns-in_err-listed-clause-refused
returns-in_err-listed-clause-refused c = λ of is.
    let at = subst (λ (s : RivalsView). AreRivalsOf s of.0 of.1) (sym c.self.view_is) is in
    errs_with (IsRefusedBy _) c.from_residual.result c.in_err-listed.field-0.0 c.from_residual.ensures.1
    (first_refused of.0 of.1 c.args.key.now c.in_err-listed.field-0.0 (c.in_err-listed.ensures.refused of.0 of.1 at.laws at.query))

pub returns-clause-within : goal.returns-clause-within
returns-clause-within c = λ of is.
    let at = subst (λ (s : RivalsView). AreRivalsOf s of.0 of.1) (sym c.self.view_is) is in
    then_within of.0 of.1 c.args.key.now (c.in_ok-listed.ensures.within of.0 of.1 at.laws at.query) c.rivals.result
    (subst (λ (row : List ℕ). OnOk c.rivals.result (rivals_refusal of.0 c.args.key.now.horizon row ≡ None)) c.items.ensures (c.rivals.ensures.within of.0 at.laws))

pub returns-clause-refused : goal.returns-clause-refused
returns-clause-refused c = λ of is.
    let at = subst (λ (s : RivalsView). AreRivalsOf s of.0 of.1) (sym c.self.view_is) is in
    then_refused of.0 of.1 c.args.key.now (c.in_ok-listed.ensures.within of.0 of.1 at.laws at.query) c.rivals.result
    (subst (λ (row : List ℕ). IfErr c.rivals.result (IsRefusedBy (rivals_refusal of.0 c.args.key.now.horizon row))) c.items.ensures (c.rivals.ensures.refused of.0 at.laws))
