use Rattle.std.proofs.Common.{Bor, ◌∙◌, List, Option, ℕ, ap, option_map, sym}
use Rattle.cc_rivals.specs.declared.timed.PlacedRule.{PlacedRule}
use Rattle.cc_rivals.specs.Making.{placed_at, rules_in, timed_of}
use Rattle.cc_rivals.specs.Putting.{put_rule, put_rules}
use Rattle.cc_rivals.proofs.Folding.{puts_alike, puts_nothing}
use Rattle.cc_rivals.proofs.walk.put_law.Goals as goal

pub returns-in-None : goal.returns-in-None
returns-in-None c =
    let row = option_map (λ (r : Bor (List ℕ)). r.now) c.args.row in
    puts_nothing c.args.draft.now (λ sizes made. put_rules row sizes made (rules_in (placed_at c.args.stride c.args.horizon c.args.step c.args.law.now)))
    (λ sizes made. ap (λ (o : Option PlacedRule). put_rules row sizes made (rules_in o)) (sym c.rule_at.ensures ∙ c.in-None.is))

pub returns-in-Some : goal.returns-in-Some
returns-in-Some c =
    let row = option_map (λ (r : Bor (List ℕ)). r.now) c.args.row in
    puts_alike c.args.draft.now c.put_rule_of.new.draft c.put_rule_of.result (λ sizes made. put_rule row sizes made (timed_of c.in-Some.rule))
    (λ sizes made. put_rules row sizes made (rules_in (placed_at c.args.stride c.args.horizon c.args.step c.args.law.now)))
    (λ sizes made. ap (λ (o : Option PlacedRule). put_rules row sizes made (rules_in o)) (sym c.in-Some.is ∙ c.rule_at.ensures)) c.put_rule_of.ensures
