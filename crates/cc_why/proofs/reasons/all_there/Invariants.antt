use Rattle.std.proofs.Common.{◌≡◌, ◌++◌, drop, map, unwrap_or}
use Rattle.cc_why.specs.declared.cause.Cause.TheVariants as kinds
use Rattle.cc_why.proofs.reasons.all_there.Given as goal

abbrev pub invariant-loop-cause : goal.invariant-loop-cause
invariant-loop-cause l =
    l.there.items ++ map (λ cause. unwrap_or cause kinds.OneValue) (drop l.cause-index l.causes) ≡ map (λ cause. unwrap_or cause kinds.OneValue) l.causes
