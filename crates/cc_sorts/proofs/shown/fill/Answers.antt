use Rattle.std.proofs.Common.{◌∙◌, ◌<◌, ℕ, None, length, slice_index_or, arith, ap}
use Rattle.cc_sorts.specs.declared.table.PutAt.{PutAt}
use Rattle.cc_sorts.specs.Shown.{shown_list}
use Rattle.cc_sorts.proofs.Spaces.{filled_more, below_put, length_put, fresh_below}
use Rattle.cc_sorts.proofs.Vectors.{all_at}
use Rattle.cc_sorts.proofs.Walks.{taken_all}
use Rattle.cc_sorts.proofs.shown.fill.Goals as goal

abbrev none : PutAt
none = record { object = 0; sort = 0; number = None }

pub show-requires-clause-fresh : goal.show-requires-clause-fresh
show-requires-clause-fresh c = λ past. fresh_below c.filling.bound _ c.filling.list.items (c.is_past.ensures past) c.filling.invariant.below

pub filling-preserved : goal.filling-preserved
filling-preserved c =
    let object : ℕ = (slice_index_or c.args.puts.now (slice_index_or c.args.numbers.now c.filling.number-index 0) none).object in
    record {
      shown = filled_more c.args.puts.now c.args.numbers.now c.filling.list.items c.show.new.list.items c.filling.number-index none c.filling-test.true
          (all_at (λ number. number < length c.args.puts.now) c.args.numbers.now c.filling.number-index 0 c.requires.within c.filling-test.true) c.filling.invariant.shown c.show.ensures.shown;
      below = below_put c.filling.bound _ object c.filling.list.items c.show.new.list.items (omega (arith, c.max-bound.ensures)) (omega (arith, c.max-bound.ensures)) c.filling.invariant.below c.show.ensures.shown;
      count = omega (arith, length_put object c.filling.list.items c.show.new.list.items c.show.ensures.shown, c.filling.invariant.count);
      room = omega (arith, c.filling.invariant.room, c.show.ensures.kept);
    }

pub returns-clause-filled : goal.returns-clause-filled
returns-clause-filled c =
    c.filling.invariant.shown ∙ ap (shown_list c.args.puts.now) (taken_all c.args.numbers.now c.filling.number-index c.filling-test.false)

pub bounds-puts-number : goal.bounds-puts-number
bounds-puts-number c = all_at (λ number. number < length c.args.puts.now) c.args.numbers.now c.filling.number-index 0 c.requires.within c.filling-test.true
