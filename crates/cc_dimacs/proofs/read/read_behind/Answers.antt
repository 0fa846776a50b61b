use Rattle.std.proofs.Common.{◌∙◌, ◌+◌, ap, sym, inl, inr}
use Rattle.cc_dimacs.specs.CnfTexts.{IsCnfRefusal}
use Rattle.cc_dimacs.specs.Reading.{Taken, is_kept, judged, told_from}
use Rattle.cc_dimacs.proofs.Faults.{lacking_refused, many_refused, refused_so, text_is, wrong_refused}
use Rattle.cc_dimacs.proofs.read.read_behind.Goals as goal
use Rattle.cc_dimacs.proofs.read.read_behind.Goals.{then-is_open-via-then-is_open, then-is_open-via-else-is_open+then-done-heading}

pub returns-in_err-last-clause-refused : goal.returns-in_err-last-clause-refused
returns-in_err-last-clause-refused c = λ bytes from.
    let v = c.in-Some.heading.variables in
    let n = c.in-Some.heading.count in
    refused_so c.from_residual.result (IsCnfRefusal bytes) c.in_err-last.field-0.0 c.from_residual.ensures.1
    (wrong_refused bytes _ _ from.0 v n c.in-Some.ensures _ c.in_err-last.field-0.0
    (ap (λ (t : Taken). judged (is_kept v) v n t (told_from (c.args.number + 1) c.args.behind.now)) (sym c.new-progress.ensures)) c.in_err-last.ensures.refused)

pub returns-then-is_open-clause-refused : goal.returns-then-is_open-clause-refused
returns-then-is_open-clause-refused c = λ bytes from.
    let v = c.in-Some.heading.variables in
    let n = c.in-Some.heading.count in
    lacking_refused bytes _ _ from.0 v n c.in-Some.ensures c.take_text.new.progress
    (ap (λ (t : Taken). judged (is_kept v) v n t (told_from (c.args.number + 1) c.args.behind.now)) (sym c.new-progress.ensures) ∙ c.in_ok-last.ensures.taken) c.in_ok-last.last c.wrong-then-is_open.result
    (elim c.then-is_open.branch [
      | then-is_open-via-then-is_open w ↦ inl (sym w.if-is_open.ensures)
      | then-is_open-via-else-is_open+then-done-heading w ↦ inr (λ e. w.if-done-heading.true (w.done.ensures ∙ e))
    ]) (from.1 ∙ sym c.in_ok-last.ensures.last) c.wrong-then-is_open.ensures

pub returns-then-not-is_kept-clause-refused : goal.returns-then-not-is_kept-clause-refused
returns-then-not-is_kept-clause-refused c = λ bytes from.
    let v = c.in-Some.heading.variables in
    let n = c.in-Some.heading.count in
    many_refused bytes _ _ from.0 v n c.in-Some.ensures c.take_text.new.progress
    (ap (λ (t : Taken). judged (is_kept v) v n t (told_from (c.args.number + 1) c.args.behind.now)) (sym c.new-progress.ensures) ∙ c.in_ok-last.ensures.taken)
    (sym c.if-is_open.ensures) (sym c.done.ensures ∙ c.if-done-heading.false) (sym c.is_kept.ensures ∙ c.if-not-is_kept.true) c.past.result c.past.ensures

pub returns-clause-text : goal.returns-clause-text
returns-clause-text c = λ bytes from.
    let v = c.in-Some.heading.variables in
    let n = c.in-Some.heading.count in
    text_is bytes _ _ from.0 v n c.in-Some.ensures c.take_text.new.progress
    (ap (λ (t : Taken). judged (is_kept v) v n t (told_from (c.args.number + 1) c.args.behind.now)) (sym c.new-progress.ensures) ∙ c.in_ok-last.ensures.taken)
    (sym c.if-is_open.ensures) (sym c.done.ensures ∙ c.if-done-heading.false) (sym c.is_kept.ensures ∙ c.if-not-is_kept.false) c.into_clauses.result c.into_clauses.ensures
