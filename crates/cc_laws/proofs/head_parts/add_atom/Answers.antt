use Rattle.cc_defs.specs.Trees.{plain_term}
use Rattle.cc_laws.specs.Views.{scope_of}
use Rattle.cc_laws.specs.Vocabulary.{vocabulary_of}
use Rattle.cc_laws.proofs.Atoms.{atom_added}
use Rattle.cc_laws.proofs.head_parts.add_atom.Goals as goal

pub returns-in_ok-push-in-Constant : goal.returns-in_ok-push-in-Constant
returns-in_ok-push-in-Constant c =
    atom_added (vocabulary_of c.args.table.now) (scope_of c.args.names.now) (plain_term c.args.constant.now) c.args.value c.in_ok-symbol.field-0 c.in-Constant.symbol c.in-Constant.args c.of-args.result _ _
    c.in-Constant.is c.in_ok-symbol.ensures c.of-args.ensures c.in_ok-push-in-Constant.ensures.items
