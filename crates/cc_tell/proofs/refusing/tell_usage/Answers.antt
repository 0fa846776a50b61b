use Rattle.std.proofs.Common.{◌≡◌, ◌∙◌, ℕ, List, [], Result, ap, subst, sym}
use Rattle.std.specs.Prelude.{if◌then◌else◌, ◌==◌}
use Rattle.cc_ports.specs.declared.desk.To.TheVariants as outputs
use Rattle.cc_ports.specs.Moments.{Moment}
use Rattle.cc_tell.specs.declared.status.Stop.{Stop}
use Rattle.cc_tell.specs.ErrLines.{usage_line}
use Rattle.cc_tell.specs.Steps.{Step}
use Rattle.cc_tell.specs.Givens.{given_to}
use Rattle.cc_tell.proofs.refusing.tell_usage.Goals as goal

told : {X : Type 0} (number : ℕ) (bytes : List ℕ) (x y : Moment) (r : Result X Stop) → number ≡ 1 → bytes ≡ usage_line → Step (given_to outputs.Err bytes) x y r →
    Step (given_to outputs.Err (if number == 1 then usage_line else [])) x y r
told number bytes x y r is same step =
    subst (λ (text : List ℕ). Step (given_to outputs.Err text) x y r) (same ∙ sym (ap (λ (n : ℕ). if n == 1 then usage_line else []) is)) step

pub returns : goal.returns
returns g c = told c.args.number c.as_bytes.result.now _ _ c.give.result c.if-number-ne1.false c.as_bytes.ensures.value c.give.ensures
