use Rattle.std.proofs.Common.{arith, rules, subst, ◌∙◌, sym, ap}
use Rattle.cc_theory.specs.Groups.{sizes_of, HasPlace, place_of}
use Rattle.cc_theory.proofs.HeadPlaces.{constant_within, firsts_long, place_fits, last_read, place_read, some_constants}
use Rattle.cc_theory.proofs.index.place.Goals as goal

pub bounds-firsts-constants : goal.bounds-firsts-constants
bounds-firsts-constants c = let long = firsts_long c.args.sig.now c.args.firsts.now c.requires.firsts in let e = c.stride-constants.ensures.value in omega arith

pub bounds-firsts-constant : goal.bounds-firsts-constant
bounds-firsts-constant c =
    constant_within c.args.sig.now c.args.firsts.now c.stride-constants.result c.args.horizon c.in-Atom.position c.in-Atom.value c.requires.firsts c.stride-constants.ensures.value
    (subst (HasPlace (sizes_of c.args.sig.now) c.args.horizon) c.in-Atom.is c.requires.head)

pub overflow_add-result : goal.overflow_add-result
overflow_add-result c =
    let fits = place_fits c.args.sig.now c.args.firsts.now c.stride-constants.result c.args.horizon c.in-Atom.position c.in-Atom.value c.requires.firsts c.stride-constants.ensures.value c.requires.few
    (subst (HasPlace (sizes_of c.args.sig.now) c.args.horizon) c.in-Atom.is c.requires.head) in
    search (rules)

pub overflow_add-result-in-Atom : goal.overflow_add-result-in-Atom
overflow_add-result-in-Atom c =
    let fits = place_fits c.args.sig.now c.args.firsts.now c.stride-constants.result c.args.horizon c.in-Atom.position c.in-Atom.value c.requires.firsts c.stride-constants.ensures.value c.requires.few
    (subst (HasPlace (sizes_of c.args.sig.now) c.args.horizon) c.in-Atom.is c.requires.head) in
    search (rules)

pub nonzero_div-step : goal.nonzero_div-step
nonzero_div-step c = some_constants c.args.sig.now c.stride-constants.result c.args.horizon c.in-Atom.position c.in-Atom.value c.stride-constants.ensures.value (subst (HasPlace (sizes_of c.args.sig.now) c.args.horizon) c.in-Atom.is c.requires.head)

pub nonzero_rem-constant : goal.nonzero_rem-constant
nonzero_rem-constant c = some_constants c.args.sig.now c.stride-constants.result c.args.horizon c.in-Atom.position c.in-Atom.value c.stride-constants.ensures.value (subst (HasPlace (sizes_of c.args.sig.now) c.args.horizon) c.in-Atom.is c.requires.head)

pub overflow_mul-result : goal.overflow_mul-result
overflow_mul-result c =
    let fits = place_fits c.args.sig.now c.args.firsts.now c.stride-constants.result c.args.horizon c.in-Atom.position c.in-Atom.value c.requires.firsts c.stride-constants.ensures.value c.requires.few
    (subst (HasPlace (sizes_of c.args.sig.now) c.args.horizon) c.in-Atom.is c.requires.head) in
    omega arith

pub overflow_mul-result-in-Falsity : goal.overflow_mul-result-in-Falsity
overflow_mul-result-in-Falsity c = let e = last_read c.args.sig.now c.args.firsts.now c.stride-constants.result c.args.horizon c.requires.firsts c.stride-constants.ensures.value in let few = c.requires.few in omega arith

pub returns-in-Atom : goal.returns-in-Atom
returns-in-Atom c =
    place_read c.args.sig.now c.args.firsts.now c.stride-constants.result c.args.horizon c.in-Atom.position c.in-Atom.value c.requires.firsts c.stride-constants.ensures.value
    ∙ ap (place_of (sizes_of c.args.sig.now) c.args.horizon) (sym c.in-Atom.is)

pub returns-in-Falsity : goal.returns-in-Falsity
returns-in-Falsity c =
    last_read c.args.sig.now c.args.firsts.now c.stride-constants.result c.args.horizon c.requires.firsts c.stride-constants.ensures.value
    ∙ ap (place_of (sizes_of c.args.sig.now) c.args.horizon) (sym c.in-Falsity.is)
