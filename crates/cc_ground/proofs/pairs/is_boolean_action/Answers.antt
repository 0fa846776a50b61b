use Rattle.std.proofs.Common.{◌∙◌, ◌&&◌, ap, sym, slice_get}
use Rattle.cc_defs.specs.declared.signature.Kind.{Kind}
use Rattle.cc_defs.specs.Declarations.{is_action}
use Rattle.cc_defs.specs.Universe.{is_boolean_symbol}
use Rattle.cc_ground.specs.Views.{universe_of}
use Rattle.cc_ground.proofs.pairs.is_boolean_action.Goals as goal

pub returns-in-Action : goal.returns-in-Action
returns-in-Action c = λ signature.
    let boolean = is_boolean_symbol (slice_get (universe_of c.args.table.now signature).symbols c.args.constant.now.symbol) in
    c.is_boolean_symbol.ensures signature ∙ ap (λ (kind : Kind). is_action kind && boolean) (sym c.in-Action.is)
