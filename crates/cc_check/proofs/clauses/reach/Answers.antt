use Rattle.std.proofs.Common.{List, ℕ, ◌∷◌, ◌∙◌, ◌≤◌, ap, length-append, subst}
use Rattle.cc_check.specs.Readers.{chain_of}
use Rattle.cc_defs.specs.Sections.{AreNamed}
use Rattle.cc_check.proofs.Chains.{next_named, pairs_named, reached_begun, reached_by, reached_done, reached_half, reached_not, two_first, two_shorter}
use Rattle.cc_check.proofs.clauses.reach.Goals as goal

pub loop-pivot-init : goal.loop-pivot-init
loop-pivot-init c =
    reached_begun _ _ c.in-Some.first (chain_of c.next.new.self) (chain_of c.args.chain.now) c.begin.new.stage.clause.items c.in-Some.ensures c.requires.named
    c.in_ok-begin.ensures.numbered c.in_ok-begin.ensures.clause

pub loop-pivot-preserved : goal.loop-pivot-preserved
loop-pivot-preserved c =
    reached_by c.resolvents_are_unique.ensures _ _ _ _ (chain_of c.loop-pivot.rest) c.loop-pivot.invariant c.in_ok-step.field-0 c.in-Some-next.pivot
    c.in-Some-next-2.number (chain_of c.next-in-Some-next.new.self) c.step.new.stage.clause.items
    (two_first (chain_of c.loop-pivot.rest) (chain_of c.next-in-loop-pivot.new.self) (chain_of c.next-in-Some-next.new.self) c.in-Some-next.pivot
    c.in-Some-next-2.number c.in-Some-next.ensures c.in-Some-next-2.ensures)
    c.if-not-branch.false c.in_ok-step.ensures

pub step-requires-clause-some : goal.step-requires-clause-some
step-requires-clause-some c =
    (next_named c.resolvents_are_unique.ensures _ _ _ _ (chain_of c.loop-pivot.rest) c.loop-pivot.invariant c.in-Some-next.pivot c.in-Some-next-2.number (chain_of c.next-in-Some-next.new.self)
    (two_first (chain_of c.loop-pivot.rest) (chain_of c.next-in-loop-pivot.new.self) (chain_of c.next-in-Some-next.new.self) c.in-Some-next.pivot c.in-Some-next-2.number c.in-Some-next.ensures c.in-Some-next-2.ensures)).0

pub step-requires-clause-most : goal.step-requires-clause-most
step-requires-clause-most c =
    subst (λ (n : ℕ). c.in-Some-next-2.number ≤ n) (length-append c.args.form.now.clauses c.args.own.now)
    (next_named c.resolvents_are_unique.ensures _ _ _ _ (chain_of c.loop-pivot.rest) c.loop-pivot.invariant c.in-Some-next.pivot c.in-Some-next-2.number (chain_of c.next-in-Some-next.new.self)
    (two_first (chain_of c.loop-pivot.rest) (chain_of c.next-in-loop-pivot.new.self) (chain_of c.next-in-Some-next.new.self) c.in-Some-next.pivot c.in-Some-next-2.number c.in-Some-next.ensures c.in-Some-next-2.ensures)).1

pub returns-then-not-branch : goal.returns-then-not-branch
returns-then-not-branch c =
    reached_not c.resolvents_are_unique.ensures _ _ _ _ (chain_of c.loop-pivot.rest) c.loop-pivot.invariant c.in_ok-step.field-0 c.in-Some-next.pivot c.in-Some-next-2.number (chain_of c.next-in-Some-next.new.self) c.step.new.stage.clause.items
    (two_first (chain_of c.loop-pivot.rest) (chain_of c.next-in-loop-pivot.new.self) (chain_of c.next-in-Some-next.new.self) c.in-Some-next.pivot c.in-Some-next-2.number c.in-Some-next.ensures c.in-Some-next-2.ensures)
    c.if-not-branch.true c.in_ok-step.ensures

pub begin-requires-clause-some : goal.begin-requires-clause-some
begin-requires-clause-some c = (pairs_named _ c.in-Some.first (chain_of c.next.new.self) (subst (AreNamed _) c.in-Some.ensures c.requires.named)).0

pub begin-requires-clause-most : goal.begin-requires-clause-most
begin-requires-clause-most c =
    subst (λ (n : ℕ). c.in-Some.first ≤ n) (length-append c.args.form.now.clauses c.args.own.now)
    (pairs_named _ c.in-Some.first (chain_of c.next.new.self) (subst (AreNamed _) c.in-Some.ensures c.requires.named)).1

pub loop-pivot-smaller : goal.loop-pivot-smaller
loop-pivot-smaller c =
    two_shorter (chain_of c.loop-pivot.rest) (chain_of c.next-in-Some-next.new.self) c.in-Some-next.pivot c.in-Some-next-2.number
    (two_first (chain_of c.loop-pivot.rest) (chain_of c.next-in-loop-pivot.new.self) (chain_of c.next-in-Some-next.new.self) c.in-Some-next.pivot c.in-Some-next-2.number c.in-Some-next.ensures c.in-Some-next-2.ensures)

pub returns : goal.returns
returns c = reached_done c.resolvents_are_unique.ensures _ _ _ _ (chain_of c.loop-pivot.rest) c.loop-pivot.invariant c.in_default-next.ensures

pub returns-in_default-next-2 : goal.returns-in_default-next-2
returns-in_default-next-2 c =
    reached_half c.resolvents_are_unique.ensures _ _ _ _ (chain_of c.loop-pivot.rest) c.loop-pivot.invariant c.in-Some-next.pivot
    (c.in-Some-next.ensures ∙ ap (λ (t : List ℕ). c.in-Some-next.pivot ∷ t) c.in_default-next-2.ensures)
