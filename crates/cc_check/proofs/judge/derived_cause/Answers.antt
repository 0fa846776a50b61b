use Rattle.std.proofs.Common.{◌≡◌, ℕ, ◌++◌, refl, subst, sym, ◌∙◌}
use Rattle.std.proofs.lemmas.Bool.{false≢true}
use Rattle.cc_defs.specs.Clauses.{Reaches}
use Rattle.cc_check.specs.Clauses.{IsClauseOver}
use Rattle.cc_check.specs.Readers.{chain_of, literals_of}
use Rattle.cc_check.proofs.Judged.{named_all, wrong_number, wrong_pivot, wrong_clause}
use Rattle.cc_check.proofs.judge.derived_cause.Goals as goal

pub returns-then-not-are_named : goal.returns-then-not-are_named
returns-then-not-are_named c =
    wrong_number c.args.form.now c.args.own.now (literals_of c.args.clause.now) (chain_of c.args.chain.now) (rw c.if-refuted.false at c.requires.empty)
    (subst (λ (v : ℕ). IsClauseOver v (literals_of c.args.clause.now)) c.variables.ensures.value (c.if-not-is_clause_over.ensures.0 refl))
    c.count.result c.count-2.result c.count.ensures.value c.count-2.ensures (λ h. false≢true (c.if-not-are_named.ensures.1 h))

pub reach-requires-clause-named : goal.reach-requires-clause-named
reach-requires-clause-named c =
    named_all c.args.form.now c.args.own.now (literals_of c.args.clause.now) (chain_of c.args.chain.now) (rw c.if-refuted.false at c.requires.empty)
    (subst (λ (v : ℕ). IsClauseOver v (literals_of c.args.clause.now)) c.variables.ensures.value (c.if-not-is_clause_over.ensures.0 refl))
    c.count.result c.count-2.result (chain_of c.args.chain.now) c.count.ensures.value c.count-2.ensures (c.if-not-are_named.ensures.0 refl)

pub returns-then-not-branch : goal.returns-then-not-branch
returns-then-not-branch c =
    wrong_pivot c.args.form.now c.args.own.now (literals_of c.args.clause.now) (chain_of c.args.chain.now) (rw c.if-refuted.false at c.requires.empty)
    (subst (λ (v : ℕ). IsClauseOver v (literals_of c.args.clause.now)) c.variables.ensures.value (c.if-not-is_clause_over.ensures.0 refl))
    (named_all c.args.form.now c.args.own.now (literals_of c.args.clause.now) (chain_of c.args.chain.now) (rw c.if-refuted.false at c.requires.empty)
    (subst (λ (v : ℕ). IsClauseOver v (literals_of c.args.clause.now)) c.variables.ensures.value (c.if-not-is_clause_over.ensures.0 refl))
    c.count.result c.count-2.result (chain_of c.args.chain.now) c.count.ensures.value c.count-2.ensures (c.if-not-are_named.ensures.0 refl))
    (rw c.if-not-branch.true at c.in_ok-reach.ensures)

pub returns-then-not-is_same_clause : goal.returns-then-not-is_same_clause
returns-then-not-is_same_clause c =
    wrong_clause c.args.form.now c.args.own.now (literals_of c.args.clause.now) (chain_of c.args.chain.now) (rw c.if-refuted.false at c.requires.empty)
    (subst (λ (v : ℕ). IsClauseOver v (literals_of c.args.clause.now)) c.variables.ensures.value (c.if-not-is_clause_over.ensures.0 refl))
    (named_all c.args.form.now c.args.own.now (literals_of c.args.clause.now) (chain_of c.args.chain.now) (rw c.if-refuted.false at c.requires.empty)
    (subst (λ (v : ℕ). IsClauseOver v (literals_of c.args.clause.now)) c.variables.ensures.value (c.if-not-is_clause_over.ensures.0 refl))
    c.count.result c.count-2.result (chain_of c.args.chain.now) c.count.ensures.value c.count-2.ensures (c.if-not-are_named.ensures.0 refl))
    c.reach.new.stage.clause.items (rw c.if-not-branch.false at c.in_ok-reach.ensures)
    (λ e. false≢true (c.if-not-is_same_clause.ensures.1 (c.deref.ensures.value ∙ e)))

pub returns : goal.returns
returns c =
    let same : c.reach.new.stage.clause.items ≡ literals_of c.args.clause.now = sym c.deref.ensures.value ∙ c.if-not-is_same_clause.ensures.0 refl in (
      record {
        open_still = rw c.if-refuted.false at c.requires.empty;
        clause_over = subst (λ (v : ℕ). IsClauseOver v (literals_of c.args.clause.now)) c.variables.ensures.value (c.if-not-is_clause_over.ensures.0 refl);
        reached = subst (Reaches (c.args.form.now.clauses ++ c.args.own.now) (chain_of c.args.chain.now)) same (rw c.if-not-branch.false at c.in_ok-reach.ensures);
      },
      same,
    )
