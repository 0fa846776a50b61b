use Rattle.std.proofs.Common.{refl}
use Rattle.cc_rivals.proofs.Turns.{atom_over}
use Rattle.cc_rivals.proofs.walk.put_value.Goals as goal

pub put_rule_of-requires-clause-rule : goal.put_rule_of-requires-clause-rule
put_rule_of-requires-clause-rule c =
    let over = atom_over c.args.draft.now.places c.args.number c.args.value _ refl c.requires.size in
    record { head = over; body = over; after = tt }
