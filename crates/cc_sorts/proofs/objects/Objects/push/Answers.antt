use Rattle.std.proofs.Common.{arith, ◌∙◌, ap, refl, subst, sym}
use Rattle.cc_sorts.proofs.Walks.{on_err}
use Rattle.cc_sorts.proofs.Placing.{objects_more, seen_more, objects_stay, seen_stays}
use Rattle.cc_sorts.specs.Dictionaries.{names_of, number_of}
use Rattle.cc_sorts.specs.Objects.{AreFound, ObjectsView}
use Rattle.cc_sorts.proofs.objects.Objects.push.Goals as goal

pub invariant_of-self : goal.invariant_of-self
invariant_of-self c = rw (c.reserve.ensures.items) c.self.invariant

pub returns-in_err-reserve-clause-unchanged : goal.returns-in_err-reserve-clause-unchanged
returns-in_err-reserve-clause-unchanged c = rw (c.reserve.ensures.items) (on_err _ _ c.self.view_is)

pub invariant_of-self-2 : goal.invariant_of-self-2
invariant_of-self-2 c =
    objects_more c.self.inside.names c.push.new.self c.self.inside.numbers.items c.reserve.new.self.items c.deref.result.now c.push-2.new.self.items c.note.new.places.entries (c.args.name.now, c.args.sort) c.args.number
    c.self.invariant.as_many c.in_ok-push.ensures.added c.reserve.ensures.items c.deref.ensures.value c.in_ok-push-2.ensures.items c.in_ok-note.ensures.noted

pub returns-clause-added : goal.returns-clause-added
returns-clause-added c =
    seen_more c.self.inside.names c.push.new.self c.self.inside.numbers.items c.reserve.new.self.items c.push-2.new.self.items c.args.self.now c.args.name.now c.args.sort c.args.number c.self.view_is
    c.in_ok-push.ensures.added c.reserve.ensures.items c.in_ok-push-2.ensures.items

pub invariant_of-self-in_err-push-2 : goal.invariant_of-self-in_err-push-2
invariant_of-self-in_err-push-2 c = absurd (let room = c.in_ok-reserve.ensures.ok in let full = c.in_err-push-2.ensures.full in omega arith)

pub returns-in_err-push-2-clause-unchanged : goal.returns-in_err-push-2-clause-unchanged
returns-in_err-push-2-clause-unchanged c = absurd (let room = c.in_ok-reserve.ensures.ok in let full = c.in_err-push-2.ensures.full in omega arith)

pub invariant_of-self-in_err-push : goal.invariant_of-self-in_err-push
invariant_of-self-in_err-push c = objects_stay c.self.inside.names c.push.new.self c.self.inside.numbers.items c.reserve.new.self.items c.deref.result.now c.note.new.places.entries c.self.invariant.as_many c.in_err-push.ensures.unchanged c.reserve.ensures.items c.deref.ensures.value c.note.ensures.kept

pub invariant_of-self-in_err-note : goal.invariant_of-self-in_err-note
invariant_of-self-in_err-note c = objects_stay c.self.inside.names c.self.inside.names c.self.inside.numbers.items c.reserve.new.self.items c.deref.result.now c.note.new.places.entries c.self.invariant.as_many refl c.reserve.ensures.items c.deref.ensures.value c.note.ensures.kept

pub returns-in_err-push-clause-unchanged : goal.returns-in_err-push-clause-unchanged
returns-in_err-push-clause-unchanged c = on_err _ _ (seen_stays c.self.inside.names c.push.new.self c.self.inside.numbers.items c.reserve.new.self.items c.args.self.now c.self.view_is c.in_err-push.ensures.unchanged c.reserve.ensures.items)

pub returns-in_err-note-clause-unchanged : goal.returns-in_err-note-clause-unchanged
returns-in_err-note-clause-unchanged c = on_err _ _ (seen_stays c.self.inside.names c.self.inside.names c.self.inside.numbers.items c.reserve.new.self.items c.args.self.now c.self.view_is refl c.reserve.ensures.items)

pub push-requires : goal.push-requires
push-requires c = ap (λ (w : ObjectsView). number_of (names_of w.named) c.args.name.now) c.self.view_is ∙ c.requires.new

pub note-requires-clause-found : goal.note-requires-clause-found
note-requires-clause-found c = subst (λ w. AreFound w c.self.inside.places.entries) (sym (c.deref.ensures.value ∙ c.reserve.ensures.items)) c.self.invariant.found
