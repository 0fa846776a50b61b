use Rattle.std.proofs.Common.{◌∙◌, ap, sym, subst, List, ℕ, Some}
use Rattle.cc_defs.specs.ClauseForms.{true_variable}
use Rattle.cc_dimacs.specs.Cnfs.{plain_cnf, twos}
use Rattle.cc_dimacs.proofs.Atoms.{IsBegun, few_refusal, many_refusal, told_so, twos_true}
use Rattle.cc_dimacs.proofs.form.cnf_form.Goals as goal

pub returns-then-cnf-gt1999999-clause-refused : goal.returns-then-cnf-gt1999999-clause-refused
returns-then-cnf-gt1999999-clause-refused c = many_refusal (plain_cnf c.args.cnf.now) c.if-cnf-gt1999999.true ∙ ap Some (sym c.past.ensures)

pub write_clauses-requires-clause-last : goal.write_clauses-requires-clause-last
write_clauses-requires-clause-last c = c.in_ok-draft.ensures.draft.ends ∙ ap true_variable c.in_ok-sizes.ensures ∙ twos_true c.args.cnf.now.variables

pub returns-clause-form : goal.returns-clause-form
returns-clause-form c = c.close.ensures.form (twos c.args.cnf.now.variables) _ (c.in_ok-write_clauses.ensures (twos c.args.cnf.now.variables) _ (subst (λ (s : List ℕ). IsBegun s c.in_ok-draft.draft) c.in_ok-sizes.ensures c.in_ok-draft.ensures.draft))

pub returns-clause-tells : goal.returns-clause-tells
returns-clause-tells c = told_so (plain_cnf c.args.cnf.now) c.close.result c.requires (c.close.ensures.form (twos c.args.cnf.now.variables) _ (c.in_ok-write_clauses.ensures (twos c.args.cnf.now.variables) _ (subst (λ (s : List ℕ). IsBegun s c.in_ok-draft.draft) c.in_ok-sizes.ensures c.in_ok-draft.ensures.draft)))

pub returns-clause-within : goal.returns-clause-within
returns-clause-within c = rw (few_refusal (plain_cnf c.args.cnf.now) c.if-cnf-gt1999999.false) (c.close.ensures.within (twos c.args.cnf.now.variables) _ (c.in_ok-write_clauses.ensures (twos c.args.cnf.now.variables) _ (subst (λ (s : List ℕ). IsBegun s c.in_ok-draft.draft) c.in_ok-sizes.ensures c.in_ok-draft.ensures.draft)))

pub returns-clause-refused : goal.returns-clause-refused
returns-clause-refused c = rw (few_refusal (plain_cnf c.args.cnf.now) c.if-cnf-gt1999999.false) (c.close.ensures.refused (twos c.args.cnf.now.variables) _ (c.in_ok-write_clauses.ensures (twos c.args.cnf.now.variables) _ (subst (λ (s : List ℕ). IsBegun s c.in_ok-draft.draft) c.in_ok-sizes.ensures c.in_ok-draft.ensures.draft)))
