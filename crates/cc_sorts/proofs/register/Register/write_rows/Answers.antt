use Rattle.std.proofs.Common.{ap, List, ℕ}
use Rattle.cc_defs.specs.declared.signature.Const.{Const}
use Rattle.cc_sorts.specs.Instances.{constant_by}
use Rattle.cc_sorts.specs.Shown.{shown}
use Rattle.cc_sorts.proofs.Walks.{mapped_end}
use Rattle.cc_sorts.proofs.register.Register.write_rows.Goals as goal

pub loop-args-preserved : goal.loop-args-preserved
loop-args-preserved c =
    mapped_end (constant_by (shown c.args.self.now).sorts c.args.number c.args.symbol.now) c.args.written.now.items c.loop-args.written.items c.push.new.self.items c.loop-args.yielded c.in-Some.args _
    c.loop-args.invariant
    (ap (λ (w : List ℕ). (let made : Const = record { symbol = c.args.number; args = c.in-Some.args; kind = c.args.symbol.now.kind; domain = w } in made)) c.in_ok-values.ensures) c.in_ok-push.ensures.items
