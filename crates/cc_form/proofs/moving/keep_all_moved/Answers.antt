use Rattle.std.proofs.Common.{◌∙◌, map, sym}
use Rattle.std.proofs.lemmas.Bool.{ltb-true}
use Rattle.cc_form.specs.Moving.{renamed}
use Rattle.cc_form.specs.Steps.{moved_variable}
use Rattle.cc_form.proofs.Copying.{copied_full, copied_more}
use Rattle.cc_form.proofs.moving.keep_all_moved.Goals as goal

pub loop-index-preserved : goal.loop-index-preserved
loop-index-preserved c =
    copied_more c.args.store.now.kept c.loop-index.store.kept c.keep_moved.new.store.kept (map (renamed (moved_variable c.args.by.now))) c.args.clauses.now c.loop-index.index c.clause.result.now c.clause.ensures
    c.loop-index.invariant c.in_ok-keep_moved.ensures

pub returns-then-is_full : goal.returns-then-is_full
returns-then-is_full c =
    copied_full c.args.store.now.kept c.loop-index.store.kept (map (renamed (moved_variable c.args.by.now))) c.args.clauses.now c.loop-index.index (ltb-true 8000000 c.loop-index.store.kept.count (sym c.is_full.ensures ∙ c.if-is_full.true)) c.loop-index.invariant
