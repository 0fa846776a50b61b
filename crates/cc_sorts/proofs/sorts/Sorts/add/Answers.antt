use Rattle.std.proofs.Common.{◌∙◌, ◌<◌, length, ap, sym, subst, arith, refl}
use Rattle.std.proofs.lemmas.List.{length-map, map-append}
use Rattle.cc_sorts.specs.Dictionaries.{number_of, names_of}
use Rattle.cc_sorts.specs.Lists.{lists_of}
use Rattle.cc_sorts.specs.SortViews.{SortsView, with_sort}
use Rattle.cc_sorts.proofs.Growing.{kept_added, seen_added, kept_as, seen_as}
use Rattle.cc_sorts.proofs.Walks.{on_err}
use Rattle.cc_sorts.proofs.Past.{taken_back}
use Rattle.cc_sorts.proofs.sorts.Sorts.add.Goals as goal

pub invariant_of-self-in-Ok : goal.invariant_of-self-in-Ok
invariant_of-self-in-Ok c =
    let names = names_of c.self.inside.names in
    kept_added names (names_of c.push.new.self) c.args.name.now c.self.inside.pairs.items c.self.inside.known.keys
    (lists_of c.self.inside.above.items) (lists_of c.put_lists.new.above.items) (lists_of c.self.inside.below.items) (lists_of c.put_lists.new.below.items)
    (lists_of c.self.inside.members.items) (lists_of c.put_lists.new.members.items) c.len-number.result c.self.invariant
    (ap (λ (view : SortsView). number_of view.names c.args.name.now) c.self.view_is ∙ c.requires.new)
    (subst (λ n. n < 4000000000) (sym (ap (λ (view : SortsView). length view.names) c.self.view_is)) c.requires.few)
    (c.len-number.ensures ∙ sym (length-map c.self.inside.names (λ entry. entry.0)))
    (ap names_of c.in_ok-push.ensures.added ∙ map-append (λ entry. entry.0) c.self.inside.names _)
    c.in-Ok.ensures.above c.in-Ok.ensures.below c.in-Ok.ensures.members

pub returns-in-Ok-clause-added : goal.returns-in-Ok-clause-added
returns-in-Ok-clause-added c =
    seen_added (names_of c.self.inside.names) (names_of c.push.new.self) c.args.name.now c.self.inside.pairs.items
    (lists_of c.self.inside.members.items) (lists_of c.put_lists.new.members.items) c.self.invariant.pairs_within
    (ap names_of c.in_ok-push.ensures.added ∙ map-append (λ entry. entry.0) c.self.inside.names _)
    c.in-Ok.ensures.members
    ∙ ap (λ (view : SortsView). with_sort view c.args.name.now) c.self.view_is

pub push-requires : goal.push-requires
push-requires c = ap (λ (view : SortsView). number_of view.names c.args.name.now) c.self.view_is ∙ c.requires.new

pub invariant_of-self : goal.invariant_of-self
invariant_of-self c = rw (c.in_err-push.ensures.unchanged) c.self.invariant

pub returns-in_err-push-clause-unchanged : goal.returns-in_err-push-clause-unchanged
returns-in_err-push-clause-unchanged c = rw (c.in_err-push.ensures.unchanged) (on_err _ _ c.self.view_is)

pub invariant_of-self-in-Err : goal.invariant_of-self-in-Err
invariant_of-self-in-Err c =
    kept_as (names_of c.self.inside.names) (names_of c.pop.new.self) c.self.inside.pairs.items c.self.inside.known.keys (lists_of c.self.inside.above.items) (lists_of c.put_lists.new.above.items)
    (lists_of c.self.inside.below.items) (lists_of c.put_lists.new.below.items) (lists_of c.self.inside.members.items) (lists_of c.put_lists.new.members.items) c.self.invariant
    (ap names_of (taken_back c.self.inside.names c.push.new.self c.pop.new.self (c.args.name.now, tt) c.in_ok-push.ensures.added c.pop.ensures)) c.in-Err.ensures.above c.in-Err.ensures.below c.in-Err.ensures.members

pub returns-in-Err-clause-unchanged : goal.returns-in-Err-clause-unchanged
returns-in-Err-clause-unchanged c =
    seen_as (names_of c.self.inside.names) (names_of c.pop.new.self) c.self.inside.pairs.items c.self.inside.pairs.items (lists_of c.self.inside.members.items) (lists_of c.put_lists.new.members.items)
    c.args.self.now c.self.view_is (ap names_of (taken_back c.self.inside.names c.push.new.self c.pop.new.self (c.args.name.now, tt) c.in_ok-push.ensures.added c.pop.ensures)) refl c.in-Err.ensures.members

pub overflow_cast-number : goal.overflow_cast-number
overflow_cast-number c = omega (arith, c.len-number.ensures, length-map c.self.inside.names (λ entry. entry.0), c.self.invariant.few)
