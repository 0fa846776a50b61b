use Rattle.std.proofs.Common.{◌∙◌}
use Rattle.cc_laws.specs.Views.{plain_meaning}
use Rattle.cc_laws.specs.Vocabulary.{vocabulary_of}
use Rattle.cc_laws.proofs.Fitted.{misfits_by_parts}
use Rattle.cc_laws.proofs.misfits.term_misfits.Goals as goal

pub returns : goal.returns
returns c =
    c.arguments_misfit.ensures ∙ misfits_by_parts (vocabulary_of c.args.table.now) c.args.term.now (plain_meaning c.meaning_of_term.result) c.deref.result.now c.meaning_of_term.ensures c.deref.ensures.value
