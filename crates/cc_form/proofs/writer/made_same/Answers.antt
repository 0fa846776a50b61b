use Rattle.std.proofs.Common.{subst}
use Rattle.cc_defs.specs.ClauseForms.{all_written, same_clauses}
use Rattle.cc_defs.specs.Clauses.{Literal}
use Rattle.cc_form.specs.Store.{Gives}
use Rattle.cc_form.proofs.writer.made_same.Goals as goal

pub returns-clause-clauses : goal.returns-clause-clauses
returns-clause-clauses c = subst (λ (x : Literal). Gives c.args.store.now.kept c.define_same.new.store.kept (all_written (same_clauses x c.args.f c.args.g))) c.in_ok-x.ensures.literal c.in_ok-define_same.ensures
