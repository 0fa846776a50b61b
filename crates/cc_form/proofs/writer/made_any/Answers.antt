use Rattle.cc_form.proofs.Running.{any_given, any_last, any_short}
use Rattle.cc_form.proofs.writer.made_any.Goals as goal

pub returns-in_ok-define_any-in_default-clause-clauses : goal.returns-in_ok-define_any-in_default-clause-clauses
returns-in_ok-define_any-in_default-clause-clauses c =
    any_given c.args.truth c.in_ok-x-in_default.x c.args.operands.now c.args.last.now c.args.store.now.kept c.define_any.new.store.kept c.in_default.len_at_least c.in_ok-x-in_default.ensures.literal c.in_ok-define_any-in_default.ensures

pub returns-in_ok-define_any-in_default-clause-last : goal.returns-in_ok-define_any-in_default-clause-last
returns-in_ok-define_any-in_default-clause-last c = any_last c.args.truth c.args.operands.now c.args.last.now _ c.in_default.len_at_least c.in_ok-x-in_default.ensures.last

pub returns-in-len1-clause-clauses : goal.returns-in-len1-clause-clauses
returns-in-len1-clause-clauses c = any_short c.args.truth c.args.operands.now c.args.last.now c.args.store.now.kept c.in-len1.len_below
