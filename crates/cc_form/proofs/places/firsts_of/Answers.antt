use Rattle.std.proofs.Common.{◌∙◌, ◌+◌, ◌++◌, ◌∷◌, [], ℕ, List, sym, ap, drop, get_or, append-nil, append_assoc, arith}
use Rattle.std.proofs.lemmas.List.{at_drop_all, at_drop_more}
use Rattle.cc_form.specs.Places.{firsts}
use Rattle.cc_form.proofs.Choices.{sum_front}
use Rattle.cc_form.proofs.places.firsts_of.Goals as goal

pub loop-size-init : goal.loop-size-init
loop-size-init c = record {
  fits = (let few = c.requires in omega arith);
  all = ap (λ (l : List ℕ). l ++ firsts 1 c.args.sizes.now) c.new-firsts.ensures.items;
}

pub overflow_add-first : goal.overflow_add-first
overflow_add-first c = let sum = sum_front c.args.sizes.now c.loop-size.size-index c.loop-size-test.true in let fits = c.loop-size.invariant.fits in omega arith

pub loop-size-preserved : goal.loop-size-preserved
loop-size-preserved c =
    let sum = sum_front c.args.sizes.now c.loop-size.size-index c.loop-size-test.true in
    let fits = c.loop-size.invariant.fits in
    let first = c.loop-size.first in
    let rest = firsts (first + get_or c.args.sizes.now c.loop-size.size-index 0) (drop (c.loop-size.size-index + 1) c.args.sizes.now) in
    record {
      fits = omega arith;
      all = ap (λ (l : List ℕ). l ++ rest) c.in_ok-push.ensures.items ∙ append_assoc c.loop-size.firsts.items (first ∷ []) rest
          ∙ ap (λ (l : List ℕ). c.loop-size.firsts.items ++ l) (sym (at_drop_more (firsts first) c.args.sizes.now c.loop-size.size-index 0 c.loop-size-test.true)) ∙ c.loop-size.invariant.all;
    }

pub returns : goal.returns
returns c =
    sym (append-nil c.loop-size.firsts.items) ∙ ap (λ (l : List ℕ). c.loop-size.firsts.items ++ l) (sym (at_drop_all (firsts c.loop-size.first) c.args.sizes.now c.loop-size.size-index c.loop-size-test.false)) ∙ c.loop-size.invariant.all
