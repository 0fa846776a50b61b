use Rattle.std.proofs.Common.{◌∙◌, ◌<◌, ℕ, length, slice_index_or, ◌≢◌, arith, ap, refl, sym, List}
use Rattle.std.proofs.Math.ListN.{length-set}
use Rattle.cc_sorts.specs.Lists.{lists_of, list_at, at_each}
use Rattle.cc_sorts.specs.Shown.{put_end}
use Rattle.cc_sorts.proofs.Spaces.{space_stays, fresh_at, fresh_stays}
use Rattle.cc_sorts.proofs.Vectors.{done_here, rises, within_still}
use Rattle.std.proofs.lemmas.List.{at_drop_all}
use Rattle.cc_sorts.proofs.shown.show_each.Goals as goal

pub showing-init : goal.showing-init
showing-init c = record {
  whole = refl;
  count = refl;
  room = λ k low within. c.requires.room k within;
  others = λ fresh k low within. fresh_at c.args.object (lists_of c.args.lists.now.items) (slice_index_or c.args.numbers.now k 0) (c.requires.fresh fresh);
}

pub showing-preserved : goal.showing-preserved
showing-preserved c =
    let number = slice_index_or c.args.numbers.now c.showing.number-index 0 in
    let list = put_end c.args.object (list_at (lists_of c.showing.lists.items) number) in
    let apart : (k : ℕ) → c.showing.number-index < k → k < length c.args.numbers.now → slice_index_or c.args.numbers.now k 0 ≢ number =
    λ k low within same. let less : number < slice_index_or c.args.numbers.now k 0 = rises c.args.numbers.now c.showing.number-index k 0 c.requires.numbers low within in omega arith in
    record {
      whole = done_here c.args.numbers.now c.showing.number-index (put_end c.args.object) (lists_of c.showing.lists.items) (lists_of c.show_at.new.lists.items) c.showing-test.true c.show_at.ensures.shown
          ∙ c.showing.invariant.whole;
      count = ap length c.show_at.ensures.shown ∙ length-set _ _ _ ∙ c.showing.invariant.count;
      room = λ k low within. space_stays c.showing.lists.items c.show_at.new.lists.items number (slice_index_or c.args.numbers.now k 0) 1 list (apart k (omega arith) within)
          c.show_at.ensures.shown c.show_at.ensures.kept (c.showing.invariant.room k (omega arith) within);
      others = λ fresh k low within. fresh_stays c.args.object (lists_of c.showing.lists.items) (lists_of c.show_at.new.lists.items) number (slice_index_or c.args.numbers.now k 0) list (apart k (omega arith) within)
          c.show_at.ensures.shown (c.showing.invariant.others fresh k (omega arith) within);
    }

pub show_at-requires-clause-number : goal.show_at-requires-clause-number
show_at-requires-clause-number c = within_still c.args.lists.now c.showing.lists c.args.numbers.now c.showing.number-index c.requires.within c.showing.invariant.count c.showing-test.true

pub returns-clause-shown : goal.returns-clause-shown
returns-clause-shown c =
    sym (at_drop_all (λ (rest : List ℕ). at_each rest (put_end c.args.object) (lists_of c.showing.lists.items)) c.args.numbers.now c.showing.number-index c.showing-test.false)
    ∙ c.showing.invariant.whole
