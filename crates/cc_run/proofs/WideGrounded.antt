-- What is ground of a description whose heads are of any form is what candidates and rivals ask for.
use Rattle.std.proofs.Common.{◌≡◌, sym, ap, subst, List, map}
use Rattle.cc_list.specs.Descriptions.{wide_description_of}
use Rattle.cc_defs.specs.Declarations.{Declaration}
use Rattle.cc_defs.specs.Signatures.{Signature}
use Rattle.cc_defs.specs.Universe.{universe, HaveOwnValues}
use Rattle.cc_rivals.specs.Wides.{AreWideLawsFor, AreWideLawsOf}
use Rattle.cc_wide.specs.declared.ground.WideGroundLaw.{WideGroundLaw}
use Rattle.cc_wide.specs.WideForms.{AreWideGroundLaws}
use Rattle.cc_wide.specs.WideGrounds.{plain_wide_ground, wide_ground_of}
use Rattle.cc_wide.specs.WideLaws.{WideBase, WideDescription}
use Rattle.cc_wide.specs.WideRules.{wide_instances_from}
use Rattle.cc_sorts.specs.Tables.{IsSignatureOf}

pub wide_laws_fit : (signature : Signature) (declarations : List Declaration) (laws : List WideGroundLaw) → IsSignatureOf declarations signature →
    HaveOwnValues (universe declarations) → AreWideGroundLaws (universe declarations) (map plain_wide_ground laws) → AreWideLawsFor signature laws
wide_laws_fit signature declarations laws of values fit = record {
  u = universe declarations;
  fluents = sym (ap (λ s. s.fluents) of.1);
  actions = sym (ap (λ s. s.actions) of.1);
  numbers = sym (ap (λ s. s.numbers) of.1);
  values = values;
  laws_fit = fit;
}

pub wide_laws_are : (signature : Signature) (declarations : List Declaration) (base : List WideBase) (laws : List WideGroundLaw) (w : WideDescription) →
    w ≡ wide_description_of declarations base → IsSignatureOf declarations signature →
    map plain_wide_ground laws ≡ map (wide_ground_of (universe declarations)) (wide_instances_from (universe declarations) 0 base) → AreWideLawsOf signature laws w
wide_laws_are signature declarations base laws w is of made = subst (λ x. AreWideLawsOf signature laws x) (sym is) (record {
  signature_is = record { fluents = ap (λ s. s.fluents) of.1; actions = ap (λ s. s.actions) of.1; numbers = ap (λ s. s.numbers) of.1 };
  laws_are = made;
})
