use Rattle.cc_form.proofs.Drafting.{first_gives}
use Rattle.cc_form.proofs.draft.write_first.Goals as goal

pub returns-clause-clauses : goal.returns-clause-clauses
returns-clause-clauses c =
    first_gives c.positions.result c.args.writer.now.store.kept c.keep_one.new.self.kept c.positions.new.store.kept c.args.writer.now.places c.sizes.result.now c.truth-truth.result c.truth-truth.ensures c.sizes.ensures
    c.in_ok-keep_one.ensures c.positions.ensures
