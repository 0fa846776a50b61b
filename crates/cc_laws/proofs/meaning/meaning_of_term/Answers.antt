use Rattle.cc_laws.specs.Views.{plain_meaning}
use Rattle.cc_laws.specs.Vocabulary.{vocabulary_of}
use Rattle.cc_laws.proofs.Fitted.{means_name}
use Rattle.cc_laws.proofs.meaning.meaning_of_term.Goals as goal

pub returns : goal.returns
returns c = means_name (vocabulary_of c.args.table.now) c.args.term.now (plain_meaning c.meaning_of.result) c.meaning_of.ensures
