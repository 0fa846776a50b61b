use Rattle.std.proofs.Common.{ℕ, ◌+◌, ◌∷◌, ◌∙◌, ap, refl, List}
use Rattle.std.proofs.lemmas.Bool.{false≢true}
use Rattle.cc_check.specs.Readers.{chain_of}
use Rattle.cc_check.proofs.Chains.{named_done, named_fails, named_last}
use Rattle.cc_check.proofs.clauses.are_named.Goals as goal

pub returns : goal.returns
returns c = (λ _. named_done (c.args.given + c.args.own) (chain_of c.loop-number.rest) (chain_of c.args.chain.now) c.loop-number.invariant c.in_default.ensures, λ _. refl)

pub returns-in_default-next : goal.returns-in_default-next
returns-in_default-next c = (
  λ _. named_last (c.args.given + c.args.own) (chain_of c.loop-number.rest) (chain_of c.args.chain.now) c.loop-number.invariant c.in-Some.number
      (c.in-Some.ensures ∙ ap (λ (t : List ℕ). c.in-Some.number ∷ t) c.in_default-next.ensures) (c.if-not-is_named.ensures.0 refl),
  λ _. refl,
)

pub returns-then-not-is_named : goal.returns-then-not-is_named
returns-then-not-is_named c = (
  λ never. absurd (false≢true never),
  λ h. absurd (named_fails (c.args.given + c.args.own) (chain_of c.loop-number.rest) (chain_of c.args.chain.now) c.loop-number.invariant c.in-Some.number (chain_of c.next.new.self) c.in-Some.ensures
      (λ within. false≢true (c.if-not-is_named.ensures.1 within)) h),
)
