-- The forms of laws with heads of any form, by the kinds of the constants that stand in them, and those of their ground laws.
use Rattle.std.specs.Prelude.{◌≡◌, List, Option, Some, IsNone}
use Rattle.std.specs.List.{AllByRecursion}
use Rattle.cc_defs.specs.declared.node.Node.{Node}
use Rattle.cc_defs.specs.declared.signature.LawKind.{LawKind}
use Rattle.cc_defs.specs.declared.signature.LawKind.TheVariants as law_kinds
use Rattle.cc_defs.specs.declared.signature.Symbol.{Symbol}
use Rattle.cc_defs.specs.Conditions.{IsFluentTerm, IsTermOf}
use Rattle.cc_defs.specs.Forms.{IsFluentFormula, IsFormula}
use Rattle.cc_defs.specs.Resolved.{Formula}
use Rattle.cc_defs.specs.Universe.{Universe}
use Rattle.cc_wide.specs.WideGrounds.{PlainWideGround}
use Rattle.cc_wide.specs.WideLaws.{WideBase, One, NoConcurrency, WideLaw}

-- ---- laws: the head and the `if` part of a static law are of fluents; those of an action dynamic law are of any constants; of a
-- fluent dynamic law they are of fluents, and its `after` part is of any constants

pub record HasStaticForm (symbols : List Symbol) (law : WideLaw) : Type 0 where
  pub head : IsFluentFormula symbols law.head
  pub body : IsFluentFormula symbols law.body
  pub after : IsNone law.after

pub record HasActionForm (symbols : List Symbol) (law : WideLaw) : Type 0 where
  pub head : IsFormula symbols law.head
  pub body : IsFormula symbols law.body
  pub after : IsNone law.after

pub record HasFluentForm (symbols : List Symbol) (law : WideLaw) : Type 0 where
  pub head : IsFluentFormula symbols law.head
  pub body : IsFluentFormula symbols law.body
  pub after : Formula
  pub written : law.after ≡ Some after
  pub declared : IsFormula symbols after

abbrev pub HasFormOf : LawKind → List Symbol → WideLaw → Type 0
HasFormOf law_kinds.Static symbols law = HasStaticForm symbols law
HasFormOf law_kinds.ActionDynamic symbols law = HasActionForm symbols law
HasFormOf law_kinds.FluentDynamic symbols law = HasFluentForm symbols law

abbrev pub HasWideForm : List Symbol → WideBase → Type 0
HasWideForm symbols (One law) = HasFormOf law.kind symbols law
HasWideForm symbols (NoConcurrency file line) = Unit {0}

abbrev pub HaveWideForms : List Symbol → List WideBase → Type 0
HaveWideForms symbols laws = AllByRecursion (HasWideForm symbols) laws

-- ---- ground laws, by the same kinds

pub record IsWideStatic (u : Universe) (law : PlainWideGround) : Type 0 where
  pub head : IsFluentTerm u law.head
  pub body : IsFluentTerm u law.body
  pub after : IsNone law.after

pub record IsWideActionDynamic (u : Universe) (law : PlainWideGround) : Type 0 where
  pub head : IsTermOf u law.head
  pub body : IsTermOf u law.body
  pub after : IsNone law.after

pub record IsWideFluentDynamic (u : Universe) (law : PlainWideGround) : Type 0 where
  pub head : IsFluentTerm u law.head
  pub body : IsFluentTerm u law.body
  pub after : List Node
  pub written : law.after ≡ Some after
  pub term : IsTermOf u after

abbrev pub IsWideOfKind : LawKind → Universe → PlainWideGround → Type 0
IsWideOfKind law_kinds.Static u law = IsWideStatic u law
IsWideOfKind law_kinds.ActionDynamic u law = IsWideActionDynamic u law
IsWideOfKind law_kinds.FluentDynamic u law = IsWideFluentDynamic u law

abbrev pub AreWideGroundLaws : Universe → List PlainWideGround → Type 0
AreWideGroundLaws u laws = AllByRecursion (λ law. IsWideOfKind law.kind u law) laws
