use Rattle.std.proofs.Common.{◌∷◌, ◌++◌, ◌∙◌, ap, string_bytes}
use Rattle.cc_defs.specs.Clauses.{Literal}
use Rattle.cc_defs.specs.LogTexts.{literal_text}
use Rattle.cc_log.proofs.Behind.{flat_next}
use Rattle.cc_log.proofs.put.push_literals.Goals as goal

pub loop-literal-preserved : goal.loop-literal-preserved
loop-literal-preserved c =
    flat_next (λ (literal : Literal). 32 ∷ literal_text literal) c.args.literals.now c.loop-literal.literal-index c.literal-item.result (string_bytes c.loop-literal.text)
    (string_bytes c.push_literal.new.text) _ c.loop-literal-test.true
    (c.in_ok-push_literal.ensures ∙ ap (λ (literal : Literal). string_bytes c.loop-literal.text ++ (32 ∷ literal_text literal)) c.literal-item.is) c.loop-literal.invariant
