-- A description without constants and laws, and a query that asks nothing of it.
use Rattle.std.proofs.Common.{◌≡◌, ℕ, List, [], Option, None, refl, sym, subst, arith}
use Rattle.std.specs.List.{AllByRecursion}
use Rattle.std.specs.Prelude.{IfSome}
use Rattle.cc_arena.specs.declared.ground_laws.GroundLaw.{GroundLaw}
use Rattle.cc_defs.specs.declared.signature.Const.{Const}
use Rattle.cc_defs.specs.GroundLaws.{PlainGroundCondition, PlainGroundQuery}
use Rattle.cc_defs.specs.Signatures.{Signature, IsSignature}
use Rattle.cc_defs.specs.Universe.{HaveOwnValues}
use Rattle.cc_form.specs.Queries.{IsConditionAt, IsQueryAt}
use Rattle.cc_theory.specs.Theories.{AreLawsFor}

abbrev pub empty : Signature
empty = record { fluents = []; actions = []; numbers = [] }

empty_is : IsSignature empty
empty_is = record { few = omega arith; fluents_short = tt; actions_short = tt }

pub no_constants : (fluents actions : List Const) (numbers : List (Option ℕ)) → fluents ≡ [] → actions ≡ [] → numbers ≡ [] →
    IsSignature (record { fluents = fluents; actions = actions; numbers = numbers })
no_constants fluents actions numbers none nothing neither =
    subst (λ (f : List Const). IsSignature (record { fluents = f; actions = actions; numbers = numbers })) (sym none)
    (subst (λ (a : List Const). IsSignature (record { fluents = []; actions = a; numbers = numbers })) (sym nothing)
    (subst (λ (n : List (Option ℕ)). IsSignature (record { fluents = []; actions = []; numbers = n })) (sym neither) empty_is))

own_values : HaveOwnValues (record { sorts = []; numbers = []; symbols = []; fluents = []; actions = [] })
own_values = record { values = tt; numbers = λ object other number one two. absurd cc; few = omega arith }

empty_laws : AreLawsFor empty []
empty_laws = record {
  u = record { sorts = []; numbers = []; symbols = []; fluents = []; actions = [] };
  fluents = refl;
  actions = refl;
  numbers = refl;
  values = own_values;
  laws_fit = tt;
}

pub laws_for : (signature : Signature) (laws : List GroundLaw) → signature ≡ empty → laws ≡ [] → AreLawsFor signature laws
laws_for signature laws is none =
    subst (λ (s : Signature). AreLawsFor s laws) (sym is) (subst (λ (l : List GroundLaw). AreLawsFor empty l) (sym none) empty_laws)

pub query_there : (signature : Signature) (horizon : ℕ) (query : PlainGroundQuery) → query.conditions ≡ [] → query.claim ≡ None → IsQueryAt signature horizon query
query_there signature horizon query none nothing = record {
  conditions = subst (λ (cs : List PlainGroundCondition). AllByRecursion (IsConditionAt signature horizon) cs) (sym none) tt;
  claim = subst (λ (c : Option PlainGroundCondition). IfSome c (IsConditionAt signature horizon)) (sym nothing) tt;
}

pub query_at : (signature : Signature) (query : PlainGroundQuery) → query.conditions ≡ [] → query.claim ≡ None → IsQueryAt signature 0 query
query_at signature query none nothing = query_there signature 0 query none nothing
