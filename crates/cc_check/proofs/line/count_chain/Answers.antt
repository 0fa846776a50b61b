use Rattle.std.proofs.Common.{refl}
use Rattle.std.proofs.lemmas.Bool.{false≢true}
use Rattle.cc_check.proofs.Counted.{chain_there, no_chain, no_numbers_chain}
use Rattle.cc_check.proofs.line.count_chain.Goals as goal

pub returns-in_default : goal.returns-in_default
returns-in_default c = no_numbers_chain c.args.text.now c.in_default.ensures

pub returns-then-not-is_ended : goal.returns-then-not-is_ended
returns-then-not-is_ended c =
    no_chain c.args.text.now c.in-Some.count c.in-Some.last c.in-Some.ensures (λ h. false≢true (c.if-not-is_ended.ensures.1 h))

pub returns : goal.returns
returns c =
    let (some, even, nil) = c.if-not-is_ended.ensures.0 refl in
    chain_there c.args.text.now c.in-Some.count c.in-Some.last c.in-Some.ensures some even nil
