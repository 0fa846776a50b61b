use Rattle.std.proofs.Common.{◌≡◌, ◌∙◌, Bool, [], ◌∷◌, ◌++◌, arith, sym, ap, subst}
use Rattle.std.specs.Prelude.{if◌then◌else◌}
use Rattle.cc_defs.specs.Universe.{boolean_actions}
use Rattle.cc_ground.specs.Views.{universe_of}
use Rattle.cc_ground.proofs.Actions.{actions_end, actions_step}
use Rattle.cc_ground.proofs.pairs.boolean_actions_of.Goals as goal
use Rattle.cc_ground.proofs.Putting.{err_if}
use Rattle.cc_ground.proofs.pairs.boolean_actions_of.Goals.{then-is_boolean_action+in_ok-push, else-is_boolean_action}

pub loop-number-preserved : goal.loop-number-preserved
loop-number-preserved c =
    let u = universe_of c.args.table.now c.args.sig.now in
    let front = c.loop-number.numbers.items in
    let number = c.loop-number.number in
    let new = c.if-is_boolean_action.numbers.items in
    let is : Bool → Type 0 = λ b. new ≡ (if b then front ++ number ∷ [] else front) in
    let made : is c.is_boolean_action.result = elim c.if-is_boolean_action.branch [
      | then-is_boolean_action+in_ok-push w ↦ subst is (sym w.if-is_boolean_action.true) (ap (λ v. v.items) w.numbers-is ∙ w.in_ok-push.ensures.items)
      | else-is_boolean_action w ↦ subst is (sym w.if-is_boolean_action.false) (ap (λ v. v.items) w.numbers-is)
    ] in
    actions_step u number c.constant.result.now front new (boolean_actions u) c.is_boolean_action.result c.constant.ensures
    (c.is_boolean_action.ensures c.args.sig.now) made c.loop-number.invariant

pub returns-in_err-push : goal.returns-in_err-push
returns-in_err-push c = err_if _ c.from_residual-in_err-push.result c.from_residual-in_err-push.ensures.0

pub returns : goal.returns
returns c = actions_end (universe_of c.args.table.now c.args.sig.now) c.loop-number.numbers.items _ c.loop-number.number (omega (arith, c.in_ok-number-end.ensures, c.loop-number-test.false)) c.loop-number.invariant
