use Rattle.std.proofs.Common.{List, ℕ, length, subst, sym}
use Rattle.std.specs.Prelude.{slice_index}
use Rattle.cc_defs.specs.Terms.{HasTruth, IsTerm}
use Rattle.cc_rivals.proofs.Placing.{first_within, holds_is, is_term}
use Rattle.cc_rivals.proofs.putting.is_true.Goals as goal

pub behind-requires : goal.behind-requires
behind-requires c = first_within c.requires.0 c.args.term c.requires.2 c.args.row.now c.requires.1

pub value-requires : goal.value-requires
value-requires c = subst (λ (r : List ℕ). IsTerm (length r) c.args.term.nodes.now) (sym c.behind.ensures) (is_term c.requires.0 c.args.term c.requires.2 c.args.row.now c.requires.1)

pub returns : goal.returns
returns c =
    holds_is c.requires.0 c.args.term c.requires.2 c.args.row.now c.requires.1 c.value.result
    (subst (λ (r : List ℕ). HasTruth c.args.term.nodes.now (λ number. slice_index r number) c.value.result) c.behind.ensures c.value.ensures)
