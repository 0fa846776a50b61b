use Rattle.std.proofs.Common.{Bool, Bor, ◌∙◌, List, Option, ℕ, ap, option_map, sym}
use Rattle.std.specs.Prelude.{if◌then◌else◌}
use Rattle.cc_defs.specs.ClauseLists.{Asserted}
use Rattle.cc_rivals.specs.Making.{timed_of}
use Rattle.cc_rivals.specs.Putting.{put_rule, put_term}
use Rattle.cc_rivals.proofs.Folding.{puts_alike, puts_nothing}
use Rattle.cc_rivals.proofs.putting.put_rule_of.Goals as goal

pub returns-then-meets_parts : goal.returns-then-meets_parts
returns-then-meets_parts c =
    let row = option_map (λ (r : Bor (List ℕ)). r.now) c.args.row in
    let rule = timed_of c.args.rule in
    puts_alike c.args.draft.now c.put.new.draft c.put.result (λ sizes made. put_term sizes made rule.head) (λ sizes made. put_rule row sizes made rule)
    (λ sizes made. sym (ap (λ (o : Option (Bor (List ℕ))). put_rule (option_map (λ r. r.now) o) sizes made rule) c.in-Some.is ∙ ap (λ (b : Bool). let a : Asserted = if b then put_term sizes made rule.head else made in a) (sym c.meets_parts.ensures ∙ c.if-meets_parts.true))) c.put.ensures

pub returns-else-meets_parts : goal.returns-else-meets_parts
returns-else-meets_parts c =
    let row = option_map (λ (r : Bor (List ℕ)). r.now) c.args.row in
    let rule = timed_of c.args.rule in
    puts_nothing c.args.draft.now (λ sizes made. put_rule row sizes made rule)
    (λ sizes made. ap (λ (o : Option (Bor (List ℕ))). put_rule (option_map (λ r. r.now) o) sizes made rule) c.in-Some.is ∙ ap (λ (b : Bool). let a : Asserted = if b then put_term sizes made rule.head else made in a) (sym c.meets_parts.ensures ∙ c.if-meets_parts.false))
