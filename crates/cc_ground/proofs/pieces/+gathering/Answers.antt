use Rattle.std.proofs.Common.{◌≡◌, IfOk, OnOk, is_some, subst}
use Rattle.cc_defs.specs.Judged.{all_meant, constants_of, those_meant}
use Rattle.cc_ground.specs.Bindings.{environment_of}
use Rattle.cc_ground.specs.Pieces.{gathered}
use Rattle.cc_ground.specs.Views.{universe_of}
use Rattle.cc_defs.specs.Resolved.{plain_term}
use Rattle.cc_ground.proofs.Gathering.{all_else, all_then, one_by_one}
use Rattle.cc_ground.proofs.Meant.{constant_by_args}
use Rattle.cc_ground.proofs.pieces.+gathering.Goals as goal

pub gather-returns-in-Constant-clause-constants : goal.gather-returns-in-Constant-clause-constants
gather-returns-in-Constant-clause-constants t c =
    subst (λ term. OnOk c.gather_constant.result (c.gather_constant.new.constants.items ≡ gathered c.args.constants.now.items (those_meant (universe_of c.args.table.now c.args.sig.now) (environment_of c.args.env.now) (constants_of term))))
    (constant_by_args c.args.term.now c.in-Constant.symbol c.in-Constant.args c.deref.result.now c.in-Constant.is c.deref.ensures.value)
    c.gather_constant.ensures.constants

pub gather-returns-in-Constant-clause-all : goal.gather-returns-in-Constant-clause-all
gather-returns-in-Constant-clause-all t c =
    subst (λ term. IfOk c.gather_constant.result (λ all. all ≡ is_some (all_meant (universe_of c.args.table.now c.args.sig.now) (environment_of c.args.env.now) (constants_of term))))
    (constant_by_args c.args.term.now c.in-Constant.symbol c.in-Constant.args c.deref.result.now c.in-Constant.is c.deref.ensures.value)
    c.gather_constant.ensures.all

pub gather_both-returns-then-one-clause-constants : goal.gather_both-returns-then-one-clause-constants
gather_both-returns-then-one-clause-constants t c = one_by_one (universe_of c.args.table.now c.args.sig.now) (environment_of c.args.env.now) c.args.constants.now.items _ _ (constants_of (plain_term c.args.left.now)) (constants_of (plain_term c.args.right.now)) c.in_ok-one.ensures.constants c.in_ok-other.ensures.constants

pub gather_both-returns-else-one-clause-constants : goal.gather_both-returns-else-one-clause-constants
gather_both-returns-else-one-clause-constants t c = one_by_one (universe_of c.args.table.now c.args.sig.now) (environment_of c.args.env.now) c.args.constants.now.items _ _ (constants_of (plain_term c.args.left.now)) (constants_of (plain_term c.args.right.now)) c.in_ok-one.ensures.constants c.in_ok-other.ensures.constants

pub gather_both-returns-then-one-clause-all : goal.gather_both-returns-then-one-clause-all
gather_both-returns-then-one-clause-all t c = all_then (universe_of c.args.table.now c.args.sig.now) (environment_of c.args.env.now) (constants_of (plain_term c.args.left.now)) (constants_of (plain_term c.args.right.now)) _ _ c.if-one.true c.in_ok-one.ensures.all c.in_ok-other.ensures.all

pub gather_both-returns-else-one-clause-all : goal.gather_both-returns-else-one-clause-all
gather_both-returns-else-one-clause-all t c = all_else (universe_of c.args.table.now c.args.sig.now) (environment_of c.args.env.now) (constants_of (plain_term c.args.left.now)) (constants_of (plain_term c.args.right.now)) _ c.if-one.false c.in_ok-one.ensures.all
