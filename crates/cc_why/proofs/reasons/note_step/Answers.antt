use Rattle.std.proofs.Common.{ℕ, length}
use Rattle.std.specs.Prelude.{IfSome}
use Rattle.cc_arena.specs.declared.ground_laws.GroundLaw.{GroundLaw}
use Rattle.cc_theory.specs.Making.{rule_of}
use Rattle.cc_why.specs.Meeting.{IsRuleIn}
use Rattle.cc_why.specs.Noting.{head_step}
use Rattle.cc_why.proofs.Lists.{all_behind, first_behind}
use Rattle.cc_why.proofs.Notes.{law_noted, no_law}
use Rattle.cc_why.proofs.reasons.note_step.Goals as goal

pub loop-law-preserved : goal.loop-law-preserved
loop-law-preserved c = (
  all_behind (λ (law : GroundLaw). IfSome (head_step law.kind c.args.horizon c.args.step) (λ (now : ℕ). IsRuleIn (length c.args.row.now) c.args.stride (rule_of c.args.stride law now c.args.step)))
      c.args.laws.now c.loop-law.law-index no_law c.loop-law-test.true c.loop-law.invariant.0,
  c.note_law_at.ensures.long,
  λ meant means.
      law_noted c.args.row.now c.args.stride c.args.horizon c.args.step c.args.laws.now c.loop-law.law-index c.args.causes.now c.loop-law.causes c.note_law_at.new.causes c.loop-law-test.true
      c.note_law_at.ensures.noted meant (c.loop-law.invariant.2 meant means),
)

pub loop-law-init : goal.loop-law-init
loop-law-init c = (c.requires.fit, c.requires.long, λ meant means. (meant, means, λ new are. are))

pub note_law_at-requires-clause-fits : goal.note_law_at-requires-clause-fits
note_law_at-requires-clause-fits c =
    first_behind (λ (law : GroundLaw). IfSome (head_step law.kind c.args.horizon c.args.step) (λ (now : ℕ). IsRuleIn (length c.args.row.now) c.args.stride (rule_of c.args.stride law now c.args.step)))
    c.args.laws.now c.loop-law.law-index no_law c.loop-law-test.true c.loop-law.invariant.0
