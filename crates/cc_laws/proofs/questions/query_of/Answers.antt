use Rattle.std.proofs.Common.{◌∙◌, ap, map}
use Rattle.cc_defs.specs.Resolved.{plain_condition}
use Rattle.cc_defs.specs.Trees.{plain_query_item}
use Rattle.cc_laws.specs.Vocabulary.{vocabulary_of}
use Rattle.cc_laws.proofs.Asking.{put_together}
use Rattle.cc_laws.proofs.questions.query_of.Goals as goal

pub returns : goal.returns
returns c =
    put_together c.args.file c.args.line (vocabulary_of c.args.table.now) (map plain_query_item c.args.items.now) _ _ _ _ c.conditions_of.new.names.next
    c.in_ok-label.ensures c.range_of.ensures (ap (map plain_condition) c.of-conditions.ensures ∙ c.in_ok-conditions_of.ensures.made) c.in_ok-conditions_of.ensures.next c.in_ok-claim.ensures
