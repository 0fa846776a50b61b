use Rattle.std.proofs.Common.{◌∙◌, ◌++◌, ◌∷◌, [], List, ℕ, length, sym, ap, take, get_or, take_all}
use Rattle.std.specs.Prelude.{slice_index_or}
use Rattle.std.proofs.lemmas.List.{get_or_read}
use Rattle.cc_defs.specs.ClauseForms.{positive}
use Rattle.cc_defs.specs.Clauses.{Literal}
use Rattle.cc_form.specs.Making.{picked}
use Rattle.cc_form.proofs.Parts.{mapped_more}
use Rattle.cc_form.proofs.Picking.{number_at}
use Rattle.cc_form.proofs.groups.pick.Goals as goal

pub loop-number-init : goal.loop-number-init
loop-number-init c = c.clear.ensures.items

pub bounds-bodies-number : goal.bounds-bodies-number
bounds-bodies-number c = number_at c.args.numbers.now (length c.args.bodies.now) c.loop-number.number-index c.requires c.loop-number-test.true

pub loop-number-preserved : goal.loop-number-preserved
loop-number-preserved c =
    let i = c.loop-number.number-index in
    let below = number_at c.args.numbers.now (length c.args.bodies.now) i c.requires c.loop-number-test.true in
    let body = c.index-bodies-number.result in
    c.in_ok-push.ensures.items ∙ ap (λ (l : List Literal). l ++ body ∷ []) c.loop-number.invariant
    ∙ ap (λ (x : Literal). picked c.args.bodies.now (take i c.args.numbers.now) ++ x ∷ []) (get_or_read c.args.bodies.now (get_or c.args.numbers.now i 0) body below c.index-bodies-number.is (positive 0))
    ∙ sym (mapped_more (λ number. slice_index_or c.args.bodies.now number (positive 0)) c.args.numbers.now i 0 c.loop-number-test.true)

pub returns : goal.returns
returns c = c.loop-number.invariant ∙ ap (λ (n : List ℕ). picked c.args.bodies.now n) (take_all c.loop-number.number-index c.args.numbers.now c.loop-number-test.false)
