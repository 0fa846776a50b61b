use Rattle.std.proofs.Common.{ℕ, List, subst, sym, length}
use Rattle.cc_defs.specs.Clauses.{Literal}
use Rattle.cc_defs.specs.Terms.{IsTermOver}
use Rattle.cc_form.specs.Machine.{IsReady, moved_nodes}
use Rattle.cc_form.proofs.Running.{literal_there, term_ready}
use Rattle.cc_form.proofs.writer.Writer.literal.Goals as goal

pub run-requires-clause-ready : goal.run-requires-clause-ready
run-requires-clause-ready c =
    subst (λ (s : List Literal). IsReady (length s) (moved_nodes c.args.offset c.args.term.now)) (sym c.begin.ensures.stack) (term_ready c.args.self.now.places (moved_nodes c.args.offset c.args.term.now) c.requires.term)

pub end-requires : goal.end-requires
end-requires c = literal_there c.begin.new.self.places (moved_nodes c.args.offset c.args.term.now) c.begin.new.self.last c.begin.new.self.stack.items c.run.new.self.stack.items
    (subst (λ (p : List ℕ). IsTermOver p (moved_nodes c.args.offset c.args.term.now)) (sym c.begin.ensures.places) c.requires.term) c.begin.ensures.stack c.in_ok-run.ensures.ran.stack
