use Rattle.std.proofs.Common.{◌∙◌, ◌<◌, ℕ, List, length, slice_index_or, arith, ap, sym, refl}
use Rattle.std.proofs.Math.ListN.{length-set}
use Rattle.cc_sorts.specs.Lists.{lists_of, list_at, at_each}
use Rattle.cc_sorts.specs.Numbers.{union}
use Rattle.cc_sorts.proofs.Vectors.{ascends_at, done_here, room_stays, rises, ascend_after, within_still}
use Rattle.std.proofs.lemmas.List.{at_drop_all}
use Rattle.cc_sorts.proofs.lists.unite_each.Goals as goal

pub widening-preserved : goal.widening-preserved
widening-preserved c = record {
  whole = done_here c.args.numbers.now c.widening.number-index (λ (list : List ℕ). union list c.args.others.now) (lists_of c.widening.lists.items)
      (lists_of c.unite_at.new.lists.items) c.widening-test.true c.unite_at.ensures.united ∙ c.widening.invariant.whole;
  count = ap length c.unite_at.ensures.united ∙ length-set _ _ _ ∙ c.widening.invariant.count;
  ascend = ascend_after (lists_of c.widening.lists.items) (lists_of c.unite_at.new.lists.items) (slice_index_or c.args.numbers.now c.widening.number-index 0) c.args.others.now
      c.widening.invariant.ascend c.requires.others c.unite_at.ensures.united;
  kept = omega arith;
  room = λ k low within. room_stays c.widening.lists.items c.unite_at.new.lists.items (slice_index_or c.args.numbers.now c.widening.number-index 0) (slice_index_or c.args.numbers.now k 0)
      (length c.args.others.now) c.widening.moved.cap c.unite_at.new.moved.cap (union (list_at (lists_of c.widening.lists.items) (slice_index_or c.args.numbers.now c.widening.number-index 0)) c.args.others.now)
      (λ same. let less : slice_index_or c.args.numbers.now c.widening.number-index 0 < slice_index_or c.args.numbers.now k 0 = rises c.args.numbers.now c.widening.number-index k 0 c.requires.numbers (omega arith) within in omega arith)
      c.unite_at.ensures.united c.unite_at.ensures.kept c.unite_at.ensures.kept_to_move
      (c.widening.invariant.room k (omega arith) within);
}

pub unite_at-requires-clause-lists : goal.unite_at-requires-clause-lists
unite_at-requires-clause-lists c = ascends_at (lists_of c.widening.lists.items) (slice_index_or c.args.numbers.now c.widening.number-index 0) c.widening.invariant.ascend

pub unite_at-requires-clause-room : goal.unite_at-requires-clause-room
unite_at-requires-clause-room c = c.widening.invariant.room c.widening.number-index (omega arith) c.widening-test.true

pub unite_at-requires-clause-number : goal.unite_at-requires-clause-number
unite_at-requires-clause-number c = within_still c.args.lists.now c.widening.lists c.args.numbers.now c.widening.number-index c.requires.within c.widening.invariant.count c.widening-test.true

pub returns-clause-united : goal.returns-clause-united
returns-clause-united c =
    sym (at_drop_all (λ (rest : List ℕ). at_each rest (λ (list : List ℕ). union list c.args.others.now) (lists_of c.widening.lists.items)) c.args.numbers.now c.widening.number-index c.widening-test.false)
    ∙ c.widening.invariant.whole

pub widening-init : goal.widening-init
widening-init c = record {
  whole = refl;
  count = refl;
  ascend = c.requires.lists;
  kept = omega arith;
  room = λ k low within. c.requires.room k within;
}
