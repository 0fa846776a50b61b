use Rattle.std.proofs.Common.{◌∙◌, ap, sym, length, get_or, ℕ, Some}
use Rattle.std.specs.Prelude.{slice_range}
use Rattle.cc_clauses.proofs.Places.{place_bounds, clause_between}
use Rattle.cc_clauses.proofs.arena.clause_at.Goals as goal

pub part-requires-clause-ordered : goal.part-requires-clause-ordered
part-requires-clause-ordered c =
    rw c.start_of-start.ensures (place_bounds 0 c.args.ends.now (length c.args.all.now) c.args.index 0 c.requires.ends c.requires.within).0

pub part-requires-clause-within : goal.part-requires-clause-within
part-requires-clause-within c = (place_bounds 0 c.args.ends.now (length c.args.all.now) c.args.index 0 c.requires.ends c.requires.within).1

pub returns : goal.returns
returns c =
    clause_between c.args.all.now 0 c.args.ends.now c.args.index 0 c.requires.within ∙
    ap (λ (start : ℕ). Some (slice_range c.args.all.now start (get_or c.args.ends.now c.args.index 0))) (sym c.start_of-start.ensures) ∙
    ap Some (sym c.part.ensures)
