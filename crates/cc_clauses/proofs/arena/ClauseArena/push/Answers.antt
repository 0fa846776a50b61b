use Rattle.std.proofs.Common.{◌∙◌, ap, ◌+◌, ◌++◌, ◌∷◌, [], List, length}
use Rattle.cc_defs.specs.Clauses.{Literal}
use Rattle.cc_clauses.proofs.Places.{pushed_ends, pushed_clauses}
use Rattle.cc_clauses.proofs.arena.ClauseArena.push.Goals as goal

pub invariant_of-self-2 : goal.invariant_of-self-2
invariant_of-self-2 c =
    pushed_ends c.self.inside.all.items c.args.clause.now c.extend_from_slice.new.self.items c.self.inside.ends.items c.push.new.self.items c.in-Some.end
    c.self.invariant c.in_ok-extend_from_slice.ensures.items (rw c.reserve.ensures.items at c.in_ok-push.ensures.items)
    (c.in-Some.ensures.end ∙ ap (λ n. n + length c.args.clause.now) (c.len.ensures ∙ c.self.inside.all.ok.0))

pub returns-clause-pushed : goal.returns-clause-pushed
returns-clause-pushed c =
    pushed_clauses c.self.inside.all.items c.args.clause.now c.extend_from_slice.new.self.items c.self.inside.ends.items c.push.new.self.items c.in-Some.end
    c.self.invariant c.in_ok-extend_from_slice.ensures.items (rw c.reserve.ensures.items at c.in_ok-push.ensures.items)
    (c.in-Some.ensures.end ∙ ap (λ n. n + length c.args.clause.now) (c.len.ensures ∙ c.self.inside.all.ok.0)) ∙
    ap (λ (clauses : List (List Literal)). clauses ++ c.args.clause.now ∷ []) c.self.view_is
