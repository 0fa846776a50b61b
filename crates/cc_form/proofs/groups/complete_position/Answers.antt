use Rattle.std.proofs.Common.{◌∙◌, ◌<◌, ℕ, List, length, get_or, slice_get, sym, ap, subst, ◌≡◌, ◌≤◌, arith, flat_map}
use Rattle.cc_defs.specs.ClauseForms.{atom_variable, positive, all_written}
use Rattle.cc_defs.specs.ClauseLists.{bodies_of, completion_of}
use Rattle.cc_form.specs.Making.{bodied}
use Rattle.cc_form.proofs.Choices.{size_at, value_more, all_values, one_value}
use Rattle.cc_defs.specs.Rules.{upto}
use Rattle.cc_form.specs.Store.{Gives}
use Rattle.cc_form.proofs.Keeping.{gives_none}
use Rattle.cc_form.proofs.groups.complete_position.Goals as goal

pub complete_atom-requires-clause-within : goal.complete_atom-requires-clause-within
complete_atom-requires-clause-within c = (
  get_or c.sizes.result.now c.args.position 0,
  ap (λ (s : List ℕ). slice_get s c.args.position) (sym c.sizes.ensures) ∙ size_at c.sizes.result.now c.args.position (subst (λ (s : List ℕ). c.args.position < length s) (sym c.sizes.ensures) c.requires.within),
  c.loop-value-test.true,
)

pub loop-value-preserved : goal.loop-value-preserved
loop-value-preserved c =
    value_more c.args.store.now.kept c.loop-value.store.kept c.complete_atom.new.store.kept
    (λ value. completion_of (positive (atom_variable c.args.places.now c.args.position value)) (bodies_of c.args.position value (bodied c.args.theory.now.rules c.args.bodies.now))) c.loop-value.value c.loop-value.invariant c.in_ok-complete_atom.ensures

pub returns-then-size-lt2 : goal.returns-then-size-lt2
returns-then-size-lt2 c =
    one_value c.args.places.now (bodied c.args.theory.now.rules c.args.bodies.now) c.args.position (get_or c.args.places.now c.args.position 0) c.args.store.now.kept
    (subst (λ (s : List ℕ). get_or s c.args.position 0 < 2) c.sizes.ensures c.if-size-lt2.true)

pub loop-value-init : goal.loop-value-init
loop-value-init c = gives_none c.args.store.now.kept

pub returns : goal.returns
returns c =
    let at : c.loop-value.value ≡ get_or c.sizes.result.now c.args.position 0 = (let most = c.loop-value.auto.value-end in let least = c.loop-value-test.false in omega arith) in
    let same = ap (λ (s : List ℕ). get_or s c.args.position 0) c.sizes.ensures in
    let rules = bodied c.args.theory.now.rules c.args.bodies.now in
    all_values c.args.places.now rules c.args.position (get_or c.args.places.now c.args.position 0) c.args.store.now.kept c.loop-value.store.kept (subst (λ (n : ℕ). 2 ≤ n) same c.if-size-lt2.false)
    (subst (λ (n : ℕ). Gives c.args.store.now.kept c.loop-value.store.kept (all_written (flat_map (λ value. completion_of (positive (atom_variable c.args.places.now c.args.position value)) (bodies_of c.args.position value rules)) (upto n)))) (at ∙ same) c.loop-value.invariant)
