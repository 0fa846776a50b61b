use Rattle.std.proofs.Common.{◌∙◌, rules, tests}
use Rattle.std.specs.List.{list_any}
use Rattle.std.proofs.lemmas.Iterator.{YieldsList-from_slice}
use Rattle.std.proofs.lemmas.Iterator.Search.{any_from_yields_List}
use Rattle.cc_defs.specs.Trees.{plain_query_item}
use Rattle.cc_laws.specs.Questions.{labels_in}
use Rattle.cc_describe.specs.FirstRefusal.{is_among}
use Rattle.cc_describe.proofs.ProgressLemmas.{any_in_parts}
use Rattle.cc_describe.proofs.progress.gives_taken_label.Goals as goal

pub returns : goal.returns
returns c =
    any_from_yields_List (λ item. list_any (is_among c.args.labels.now) (labels_in (plain_query_item item))) _ _ c.any.result c.any.ensures.ran (YieldsList-from_slice c.args.items.now cc) (λ x b q k. search (rules, tests))
    ∙ any_in_parts (is_among c.args.labels.now) labels_in plain_query_item c.args.items.now
