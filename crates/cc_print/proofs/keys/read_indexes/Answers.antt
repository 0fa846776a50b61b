use Rattle.std.proofs.Common.{◌+◌, ◌==◌, Some, length, drop, sym, ap, ◌∙◌, lit<}
use Rattle.std.proofs.lemmas.Iterator.Consumers.{YieldsList-turn, YieldsList-end}
use Rattle.std.proofs.lemmas.Iterator.Splits.{YieldsList-from_str_split}
use Rattle.std.proofs.lemmas.List.{length_push}
use Rattle.std.specs.List.{slice_split}
use Rattle.cc_print.specs.Keys.{numbers_read}
use Rattle.cc_print.proofs.KeyTexts.{behind, read_more, read_stops, read_ends}
use Rattle.cc_print.proofs.keys.read_indexes.Goals as goal

pub returns-in_default : goal.returns-in_default
returns-in_default c =
    let g = c.into_iter-part-iterator.ensures.into_iter_gives in
    let road = YieldsList-from_str_split {s = c.into_iter-part-iterator.result} 44 c.args.text.now (lit< tt) (cc) (cc) (cc) in
    let turn = YieldsList-turn road c.loop-part.yielded _ c.loop-part.yielded_by _ _ c.in-Some.part c.in-Some.is c.next.ensures.steps in
    sym (c.loop-part.invariant.whole ∙ read_stops (slice_split (λ b. b == 44) c.args.text.now) c.loop-part.row.items (length c.loop-part.yielded) c.in-Some.part.now turn (sym c.read_number.ensures ∙ c.in_default.is))

pub loop-part-preserved : goal.loop-part-preserved
loop-part-preserved c =
    let g = c.into_iter-part-iterator.ensures.into_iter_gives in
    let road = YieldsList-from_str_split {s = c.into_iter-part-iterator.result} 44 c.args.text.now (lit< tt) (cc) (cc) (cc) in
    let turn = YieldsList-turn road c.loop-part.yielded _ c.loop-part.yielded_by _ _ c.in-Some.part c.in-Some.is c.next.ensures.steps in
    record {
      can = tt;
      finite = tt;
      whole =
          c.loop-part.invariant.whole
          ∙ read_more (slice_split (λ b. b == 44) c.args.text.now) c.loop-part.row.items (length c.loop-part.yielded) c.in-Some-read_number.index c.in-Some.part.now turn (sym c.read_number.ensures ∙ c.in-Some-read_number.is)
          ∙ ap (λ row. behind row (numbers_read (drop (length c.loop-part.yielded + 1) (slice_split (λ b. b == 44) c.args.text.now)))) (sym c.in_ok-push.ensures.items)
          ∙ ap (λ n. behind c.push.new.self.items (numbers_read (drop n (slice_split (λ b. b == 44) c.args.text.now)))) (sym (length_push c.loop-part.yielded c.in-Some.part));
    }

pub returns : goal.returns
returns c =
    let g = c.into_iter-part-iterator.ensures.into_iter_gives in
    let road = YieldsList-from_str_split {s = c.into_iter-part-iterator.result} 44 c.args.text.now (lit< tt) (cc) (cc) (cc) in
    let all = YieldsList-end road c.loop-part.yielded _ c.loop-part.yielded_by _ _ c.in-None.is c.next.ensures.steps in
    ap Some c.of.ensures
    ∙ sym (c.loop-part.invariant.whole ∙ read_ends (slice_split (λ b. b == 44) c.args.text.now) c.loop-part.row.items (length c.loop-part.yielded) all.1)
