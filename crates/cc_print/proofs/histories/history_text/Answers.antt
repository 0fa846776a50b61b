use Rattle.std.proofs.Common.{◌≡◌, List, ℕ, IfOk, refl, subst}
use Rattle.cc_print.specs.Histories.{described}
use Rattle.cc_print.proofs.Described.{same_text_of}
use Rattle.cc_print.proofs.Named.{are_named}
use Rattle.cc_print.proofs.histories.history_text.Goals as goal

pub named_text-requires-clause-named : goal.named_text-requires-clause-named
named_text-requires-clause-named c = are_named c.args.table.now c.args.sig.now c.requires.signature

pub named_text-requires-clause-row : goal.named_text-requires-clause-row
named_text-requires-clause-row c = c.requires.row (described c.args.table.now c.args.sig.now) (record { fluents = refl; actions = refl; numbers = refl })

pub returns : goal.returns
returns c = λ d left is of has named.
    subst (λ (whole : List ℕ). IfOk c.named_text.result (λ (text : List ℕ). text ≡ whole)) (same_text_of c.args.table.now left c.args.sig.now d is of has named c.args.horizon c.args.row.now) c.named_text.ensures
