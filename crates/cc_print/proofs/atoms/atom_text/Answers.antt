use Rattle.std.proofs.Common.{◌≡◌, List, ℕ, IfOk, subst}
use Rattle.cc_print.proofs.Described.{same_atom_of}
use Rattle.cc_print.proofs.Named.{are_named}
use Rattle.cc_print.proofs.atoms.atom_text.Goals as goal

pub named_text-requires-clause-named : goal.named_text-requires-clause-named
named_text-requires-clause-named c = are_named c.args.table.now c.args.sig.now c.requires.signature

pub returns : goal.returns
returns c = λ d left is of has named.
    subst (λ (whole : List ℕ). IfOk c.named_text.result (λ (text : List ℕ). text ≡ whole)) (same_atom_of c.args.table.now left c.args.sig.now d is of has named c.args.position c.args.value) c.named_text.ensures
