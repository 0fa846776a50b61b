use Rattle.std.proofs.Common.{◌≡◌, ◌∙◌, ℕ, ◌+◌, ◌-◌, ◌<◌, ◌≤◌, List, length, take, drop, get_or, nat_eq, ap, subst, sym}
use Rattle.std.specs.List.{AllByRecursion}
use Rattle.cc_defs.specs.Declarations.{numbers_where}
use Rattle.cc_theory.specs.Groups.{sizes_of, place_of, place_keys, HasPlace}
use Rattle.cc_theory.specs.Theories.{PlainTheory}
use Rattle.cc_theory.proofs.Reading.{group_long, group_order, group_is}
use Rattle.cc_theory.proofs.theory.Theory.with_head.Goals as goal

pub group-requires-clause-long : goal.group-requires-clause-long
group-requires-clause-long c =
    let has = subst (λ (t : PlainTheory). HasPlace (sizes_of t.signature) t.horizon c.args.head) (sym c.self.view_is) c.requires in
    let i = c.self.inside in
    subst (λ (b : List ℕ). c.place-key.result + 1 < length b) (sym c.deref-2.ensures.value) (group_long i.sig.now i.horizon i.rules.items i.index.firsts.items i.index.begins.items i.index.numbers.items c.self.invariant.0 c.args.head c.place-key.result has c.place-key.ensures)

pub group-requires-clause-order : goal.group-requires-clause-order
group-requires-clause-order c =
    let has = subst (λ (t : PlainTheory). HasPlace (sizes_of t.signature) t.horizon c.args.head) (sym c.self.view_is) c.requires in
    let i = c.self.inside in
    subst (λ (b : List ℕ). get_or b c.place-key.result 0 ≤ get_or b (c.place-key.result + 1) 0) (sym c.deref-2.ensures.value) (group_order i.sig.now i.horizon i.rules.items i.index.firsts.items i.index.begins.items i.index.numbers.items c.self.invariant.0 c.args.head c.place-key.result has c.place-key.ensures)

pub returns-clause-numbers : goal.returns-clause-numbers
returns-clause-numbers c =
    let has = subst (λ (t : PlainTheory). HasPlace (sizes_of t.signature) t.horizon c.args.head) (sym c.self.view_is) c.requires in
    let i = c.self.inside in
    let key = c.place-key.result in
    let read : (List ℕ) → (List ℕ) → List ℕ = λ b n. take (get_or b (key + 1) 0 - get_or b key 0) (drop (get_or b key 0) n) in
    subst (λ (t : PlainTheory). c.group.result.now ≡ numbers_where (nat_eq (place_of (sizes_of t.signature) t.horizon c.args.head)) 0 (place_keys (sizes_of t.signature) t.horizon t.rules)) c.self.view_is
    (c.group.ensures ∙ ap (λ (b : List ℕ). read b c.deref-3.result.now) c.deref-2.ensures.value ∙ ap (read i.index.begins.items) c.deref-3.ensures.value
    ∙ group_is i.sig.now i.horizon i.rules.items i.index.firsts.items i.index.begins.items i.index.numbers.items c.self.invariant.0 c.args.head c.place-key.result has c.place-key.ensures)

pub returns-clause-heads : goal.returns-clause-heads
returns-clause-heads c = subst (λ (t : PlainTheory). AllByRecursion (λ rule. HasPlace (sizes_of t.signature) t.horizon rule.head) t.rules) c.self.view_is c.self.invariant.0.heads_fit
