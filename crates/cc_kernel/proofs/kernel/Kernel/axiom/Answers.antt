use Rattle.std.proofs.Common.{length, arith, ap, length-append, ◌∷◌, []}
use Rattle.std.proofs.Common.{refl}
use Rattle.cc_kernel.specs.declared.kernel.Origin.TheVariants as origins
use Rattle.cc_kernel.specs.Parts.{entries_of}
use Rattle.cc_kernel.proofs.Views.{axiom_entries, axioms_still, entries_added, given_sound}
use Rattle.cc_kernel.proofs.kernel.Kernel.axiom.Goals as goal

pub invariant_of-self-2 : goal.invariant_of-self-2
invariant_of-self-2 c = record {
  later_few = omega (arith, ap length c.in_ok-push.ensures.pushed, length-append c.self.inside.clauses (c.args.clause.now ∷ []));
  sound =
      given_sound c.self.inside c.args.self.now c.self.view_is c.self.inside.empty c.empty_with-self-inside.result c.args.clause.now origins.Axiom
      (entries_of c.push.new.self c.self.inside.later.items) c.count-number.result c.self.invariant.sound c.requires.clause c.requires.over c.requires.few refl
      (axiom_entries c.self.inside c.args.self.now c.self.view_is c.push.new.self c.args.clause.now c.self.invariant.later_few c.requires.axioms
      c.in_ok-push.ensures.pushed)
      c.count-number.ensures c.empty_with-self-inside.ensures;
}

pub returns-clause-added : goal.returns-clause-added
returns-clause-added c =
    entries_added c.self.inside c.args.self.now c.self.view_is (entries_of c.push.new.self c.self.inside.later.items) c.args.clause.now origins.Axiom
    (axiom_entries c.self.inside c.args.self.now c.self.view_is c.push.new.self c.args.clause.now c.self.invariant.later_few c.requires.axioms
    c.in_ok-push.ensures.pushed)

pub returns-clause-axioms : goal.returns-clause-axioms
returns-clause-axioms c =
    axioms_still c.self.inside c.args.self.now c.self.view_is c.push.new.self c.args.clause.now c.self.invariant.later_few c.requires.axioms
    c.in_ok-push.ensures.pushed
