use Rattle.std.proofs.Common.{◌≡◌, ◌+◌, ◌≤◌, ◌<◌, ◌∙◌, ◌++◌, ◌∷◌, [], ℕ, List, ap, sym, subst, length, arith, Vec, Global}
use Rattle.cc_text.specs.Views.{token_views, cut_at, AreEnds}
use Rattle.cc_text.proofs.Ends.{last_of, CutSoFar, ends_push, ends_widen, last_push, token_goes_on, token_ends, last_ends, all_ended}
use Rattle.cc_text.proofs.tokens.ends_of.Goals as goal
use Rattle.cc_text.proofs.tokens.ends_of.Goals.{then-begun-tokens+in_ok-push-2, else-begun-tokens}

abbrev items : Vec ℕ Global → List ℕ
items ends = ends.items

pub loop-i-preserved-then-not-is_dot_token : goal.loop-i-preserved-then-not-is_dot_token
loop-i-preserved-then-not-is_dot_token c =
    let i = c.loop-i.invariant in
    let within = i.within in
    record {
      last = i.last;
      within = omega arith;
      ends_are = ends_widen 0 c.loop-i.ends.items c.loop-i.i (c.loop-i.i + 1) i.ends_are (omega arith);
      so_far = token_goes_on c.args.tokens.now c.loop-i.ends.items c.loop-i.begun c.loop-i.i _ i.within c.loop-i-test.true
          (sym c.is_dot_token.ensures ∙ c.if-not-is_dot_token.true) i.so_far;
    }

pub loop-i-preserved : goal.loop-i-preserved
loop-i-preserved c =
    let i = c.loop-i.invariant in
    let pushed = sym c.in_ok-push.ensures.items in
    let within = i.within in
    let last = i.last in
    record {
      last = sym (ap (last_of 0) (sym pushed) ∙ last_push 0 c.loop-i.ends.items (c.loop-i.i + 1));
      within = omega arith;
      ends_are = subst (λ (l : List ℕ). AreEnds 0 l (c.loop-i.i + 1)) pushed (ends_push 0 c.loop-i.ends.items c.loop-i.i (c.loop-i.i + 1) i.ends_are (omega arith));
      so_far = subst (λ (l : List ℕ). CutSoFar (token_views c.args.tokens.now) l (c.loop-i.i + 1) (c.loop-i.i + 1)) pushed
          (token_ends c.args.tokens.now c.loop-i.ends.items c.loop-i.begun c.loop-i.i _ i.last i.within c.loop-i-test.true
          (sym c.is_dot_token.ensures ∙ c.if-not-is_dot_token.false) i.so_far);
    }

pub returns-clause-cut : goal.returns-clause-cut
returns-clause-cut c =
    let i = c.loop-i.invariant in
    let at_end : c.loop-i.i ≡ length c.args.tokens.now = omega (arith, c.loop-i-test.false, c.loop-i.auto.i-end) in
    elim c.if-begun-tokens.branch [
      | then-begun-tokens+in_ok-push-2 w ↦
          ap (λ (l : List ℕ). cut_at 0 l (token_views c.args.tokens.now)) (ap items w.ends-is ∙ w.in_ok-push-2.ensures.items)
          ∙ last_ends c.args.tokens.now c.loop-i.ends.items c.loop-i.begun c.loop-i.i i.last w.if-begun-tokens.true at_end i.so_far
      | else-begun-tokens w ↦
          ap (λ (l : List ℕ). cut_at 0 l (token_views c.args.tokens.now)) (ap items w.ends-is)
          ∙ all_ended c.args.tokens.now c.loop-i.ends.items c.loop-i.begun c.loop-i.i w.if-begun-tokens.false at_end i.so_far
    ]

pub returns-clause-within : goal.returns-clause-within
returns-clause-within c =
    let i = c.loop-i.invariant in
    let at_end : c.loop-i.i ≡ length c.args.tokens.now = omega (arith, c.loop-i-test.false, c.loop-i.auto.i-end) in
    let last = i.last in
    elim c.if-begun-tokens.branch [
      | then-begun-tokens+in_ok-push-2 w ↦
          let begun = w.if-begun-tokens.true in
          subst (λ (l : List ℕ). AreEnds 0 l (length c.args.tokens.now)) (sym (ap items w.ends-is ∙ w.in_ok-push-2.ensures.items))
          (ends_push 0 c.loop-i.ends.items c.loop-i.i (length c.args.tokens.now) i.ends_are (omega arith))
      | else-begun-tokens w ↦
          subst (λ (l : List ℕ). AreEnds 0 l (length c.args.tokens.now)) (sym (ap items w.ends-is))
          (ends_widen 0 c.loop-i.ends.items c.loop-i.i (length c.args.tokens.now) i.ends_are (omega arith))
    ]
