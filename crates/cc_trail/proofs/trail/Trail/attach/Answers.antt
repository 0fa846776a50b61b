use Rattle.std.proofs.Common.{◌≡◌, ◌∙◌, ◌+◌, sym, subst, ap, arith}
use Rattle.std.proofs.lemmas.List.Elements.{All-contains}
use Rattle.cc_defs.specs.Clauses.{Literal, IsLiteralOver}
use Rattle.cc_trail.specs.Trails.{TrailView, IsTrail, Fits}
use Rattle.cc_trail.proofs.Attaching.{on_ok, all_over, first_two, only_two, fits_short, fits_pair, fits_long}
use Rattle.cc_trail.proofs.trail.Trail.attach.Goals.{else-clause-eq2-via-then-clause-eq2+else-attach_pair, else-clause-eq2-via-else-clause-eq2}
use Rattle.cc_trail.proofs.trail.Trail.attach.Goals as goal

pub returns-then-clause-lt2-clause-fits : goal.returns-then-clause-lt2-clause-fits
returns-then-clause-lt2-clause-fits c =
    on_ok c.attach_short.result
    (fits_short c.args.self.now c.attach_short.new.self c.args.kernel.now c.requires.fits c.args.id c.requires.next c.requires.there c.clause-clause.result.now
    c.clause-clause.ensures.clause c.if-clause-lt2.true) c.attach_short.ensures.attached

pub returns-then-attach_pair-clause-fits : goal.returns-then-attach_pair-clause-fits
returns-then-attach_pair-clause-fits c =
    let (first_in, second_in, only) = only_two c.clause-clause.result.now c.index-clause-0.result c.index-clause-1.result c.index-clause-0.result c.index-clause-1.result
    c.if-clause-eq2.true c.index-clause-0.is c.index-clause-1.is in
    fits_pair c.args.self.now c.attach_pair.new.self c.args.kernel.now c.requires.fits c.args.id c.requires.next c.requires.there c.clause-clause.result.now
    c.clause-clause.ensures.clause c.index-clause-0.result c.index-clause-1.result
    (λ e. first_two c.clause-clause.result.now c.index-clause-0.result c.index-clause-1.result c.index-clause-0.result c.index-clause-1.result c.clause-clause.ensures.is_clause
    c.if-clause-lt2.false c.index-clause-0.is c.index-clause-1.is (sym e))
    first_in second_in only (c.attach_pair.ensures.attached c.if-attach_pair.true)

pub best_two-pair-requires-clause-over : goal.best_two-pair-requires-clause-over
best_two-pair-requires-clause-over c =
    let same : c.else-clause-eq2.self ≡ c.args.self.now = elim c.else-clause-eq2.branch [
      | else-clause-eq2-via-then-clause-eq2+else-attach_pair w ↦ w.self-is ∙ w.attach_pair.ensures.kept w.if-attach_pair.false
      | else-clause-eq2-via-else-clause-eq2 w ↦ w.self-is
    ] in
    let variables = ap (λ (v : TrailView). v.variables) c.self.view_is ∙ ap (λ (v : TrailView). v.variables) same ∙ c.requires.fits.variables in
    rw variables (all_over c.args.kernel.now.variables c.clause-clause.result.now c.clause-clause.ensures.over)

pub attach_long-requires-clause-first : goal.attach_long-requires-clause-first
attach_long-requires-clause-first c =
    let same : c.else-clause-eq2.self ≡ c.args.self.now = elim c.else-clause-eq2.branch [
      | else-clause-eq2-via-then-clause-eq2+else-attach_pair w ↦ w.self-is ∙ w.attach_pair.ensures.kept w.if-attach_pair.false
      | else-clause-eq2-via-else-clause-eq2 w ↦ w.self-is
    ] in
    rw (ap (λ (v : TrailView). v.variables) same ∙ c.requires.fits.variables) (All-contains (λ (l : Literal). IsLiteralOver c.args.kernel.now.variables l) c.clause-clause.result.now c.best_two-pair.result.first
    (all_over c.args.kernel.now.variables c.clause-clause.result.now c.clause-clause.ensures.over) (c.best_two-pair.ensures.0))

pub attach_long-requires-clause-second : goal.attach_long-requires-clause-second
attach_long-requires-clause-second c =
    let same : c.else-clause-eq2.self ≡ c.args.self.now = elim c.else-clause-eq2.branch [
      | else-clause-eq2-via-then-clause-eq2+else-attach_pair w ↦ w.self-is ∙ w.attach_pair.ensures.kept w.if-attach_pair.false
      | else-clause-eq2-via-else-clause-eq2 w ↦ w.self-is
    ] in
    rw (ap (λ (v : TrailView). v.variables) same ∙ c.requires.fits.variables) (All-contains (λ (l : Literal). IsLiteralOver c.args.kernel.now.variables l) c.clause-clause.result.now c.best_two-pair.result.second
    (all_over c.args.kernel.now.variables c.clause-clause.result.now c.clause-clause.ensures.over) (c.best_two-pair.ensures.1))

pub returns-clause-fits : goal.returns-clause-fits
returns-clause-fits c =
    let same : c.else-clause-eq2.self ≡ c.args.self.now = elim c.else-clause-eq2.branch [
      | else-clause-eq2-via-then-clause-eq2+else-attach_pair w ↦ w.self-is ∙ w.attach_pair.ensures.kept w.if-attach_pair.false
      | else-clause-eq2-via-else-clause-eq2 w ↦ w.self-is
    ] in
    on_ok c.attach_long.result
    (fits_long c.else-clause-eq2.self c.attach_long.new.self c.args.kernel.now (subst (λ (v : TrailView). Fits v c.args.kernel.now) (sym same) c.requires.fits)
    (subst (λ (v : TrailView). IsTrail v) c.self.view_is c.self.invariant.trail_is) c.args.id (c.requires.next ∙ ap (λ (v : TrailView). v.attached + 1) (sym same)) c.requires.there c.clause-clause.result.now
    c.clause-clause.ensures.clause c.best_two-pair.result.first c.best_two-pair.result.second c.best_two-pair.ensures.0 c.best_two-pair.ensures.1
    c.best_two-pair.ensures.2) c.attach_long.ensures.attached

pub attach_pair-requires-clause-first : goal.attach_pair-requires-clause-first
attach_pair-requires-clause-first c = (subst (λ (l : Literal). IsLiteralOver c.args.self.now.variables l) (sym c.index-clause-0.is) (rw c.requires.fits.variables (all_over c.args.kernel.now.variables c.clause-clause.result.now c.clause-clause.ensures.over 0 c.index-clause-0.result (let long = c.if-clause-lt2.false in omega arith))))

pub attach_pair-requires-clause-second : goal.attach_pair-requires-clause-second
attach_pair-requires-clause-second c = (subst (λ (l : Literal). IsLiteralOver c.args.self.now.variables l) (sym c.index-clause-1.is) (rw c.requires.fits.variables (all_over c.args.kernel.now.variables c.clause-clause.result.now c.clause-clause.ensures.over 1 c.index-clause-1.result (let long = c.if-clause-lt2.false in omega arith))))

pub attach_pair-requires-clause-apart : goal.attach_pair-requires-clause-apart
attach_pair-requires-clause-apart c e =
    first_two c.clause-clause.result.now c.index-clause-0.result c.index-clause-1.result c.index-clause-0.result c.index-clause-1.result c.clause-clause.ensures.is_clause
    c.if-clause-lt2.false c.index-clause-0.is c.index-clause-1.is (sym e)

pub attach_long-requires-clause-next : goal.attach_long-requires-clause-next
attach_long-requires-clause-next c =
    let same : c.else-clause-eq2.self ≡ c.args.self.now = elim c.else-clause-eq2.branch [
      | else-clause-eq2-via-then-clause-eq2+else-attach_pair w ↦ w.self-is ∙ w.attach_pair.ensures.kept w.if-attach_pair.false
      | else-clause-eq2-via-else-clause-eq2 w ↦ w.self-is
    ] in
    c.requires.next ∙ ap (λ (v : TrailView). v.attached + 1) (sym same)
