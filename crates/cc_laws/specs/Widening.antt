-- The laws that a statement stands for where heads may be formulas of any form.
use Rattle.std.specs.Prelude.{◌≡◌, ℕ, ◌+◌, Bool, false, if◌then◌else◌, List, [], ◌∷◌, map, Option, Some, None}
use Rattle.std.specs.List.{list_any}
use Rattle.std.specs.Option.{option_map}
use Rattle.cc_defs.specs.declared.refusal.Refusal.{Refusal}
use Rattle.cc_defs.specs.declared.signature.LawKind.{LawKind}
use Rattle.cc_defs.specs.declared.signature.LawKind.TheVariants as law_kinds
use Rattle.cc_defs.specs.Declarations.{Declaration}
use Rattle.cc_defs.specs.Refusals.{least, refused_if}
use Rattle.cc_defs.specs.Resolved.{Formula, Head, Law, BaseLaw, terms_of}
use Rattle.cc_defs.specs.Resolved as resolved
use Rattle.cc_defs.specs.Trees.{PlainLaw, PlainPart, PlainStatement, PlainTree}
use Rattle.cc_defs.specs.Trees as trees
use Rattle.cc_laws.specs.Expansion.{Caused, Frame, base_laws, law_frame, part, part_brackets}
use Rattle.cc_laws.specs.FormulaFaults.{has_action}
use Rattle.cc_laws.specs.FreeVariables.{optional}
use Rattle.cc_laws.specs.LawFaults.{has_determined_head, has_indefinite_head, has_unbound, lacks_form, law_has_miscounted, law_has_unknown, law_misfits, law_variables}
use Rattle.cc_laws.specs.Resolving.{resolve}
use Rattle.cc_laws.specs.Shortened.{law_short_for}
use Rattle.cc_laws.specs.Vocabulary.{Vocabulary, vocabulary}
use Rattle.cc_wide.specs.WideLaws.{WideBase, WideLaw}
use Rattle.cc_wide.specs.WideLaws as wide

-- ---- the least number that has a fault: those of any law but that its head is not definite

abbrev pub wide_faults : Vocabulary → PlainLaw → List PlainTree → List (ℕ × Bool)
wide_faults v law tests =
    (5, law_has_unknown v law tests)
    ∷ (6, law_has_miscounted v law tests)
    ∷ (7, law_misfits v law tests)
    ∷ (8, list_any (has_unbound v (law_variables v law)) tests)
    ∷ (9, lacks_form v law)
    ∷ (10, has_determined_head v law) ∷ []

abbrev pub wide_part_fault : Vocabulary → PlainPart → Option ℕ
wide_part_fault v (trees.Law law test) = least (wide_faults v law (optional test))
wide_part_fault v part = None

abbrev pub wide_refusal : ℕ → Vocabulary → PlainStatement → Option Refusal
wide_refusal file v statement = refused_if file statement.line (wide_part_fault v statement.part)

-- ---- a law with a definite head: its head is the equation of its atom, or `false`

abbrev pub head_formula : Head → Formula
head_formula (resolved.Atom symbol args value) = resolved.Equal (resolved.Constant symbol (terms_of args)) value
head_formula resolved.Falsity = resolved.Falsehood

abbrev pub widened_law : Law → WideLaw
widened_law law = record {
  ranges = law.ranges;
  head = head_formula law.head;
  body = law.body;
  after = law.after;
  test = law.test;
  kind = law.kind;
  file = law.file;
  line = law.line;
}

abbrev pub widened : BaseLaw → WideBase
widened (resolved.One law) = wide.One (widened_law law)
widened (resolved.NoConcurrency file line) = wide.NoConcurrency file line

-- ---- a law whose head is not definite: its head is kept whole

-- the class of a law with this head
abbrev pub wide_class : Vocabulary → Option PlainTree → PlainTree → LawKind
wide_class v (Some after) head = law_kinds.FluentDynamic
wide_class v None head = if has_action v head then law_kinds.ActionDynamic else law_kinds.Static

-- the brackets of the head have their numbers behind those of the `after` part
abbrev pub whole_law : Vocabulary → Frame → Caused → PlainTree → WideBase
whole_law v frame law head = wide.One (record {
  ranges = frame.ranges;
  head = resolve v frame.scope (frame.next + part_brackets law.body + part_brackets law.after) head;
  body = part v frame.scope frame.next law.body;
  after = option_map (resolve v frame.scope (frame.next + part_brackets law.body)) law.after;
  test = frame.test;
  kind = wide_class v law.after head;
  file = frame.file;
  line = frame.line;
})

-- of the law that a law is short for
abbrev pub whole_of : Vocabulary → Frame → Caused → Option PlainTree → List WideBase
whole_of v frame law None = []
whole_of v frame law (Some head) = whole_law v frame law head ∷ []

abbrev pub whole_short : Vocabulary → Frame → Option Caused → List WideBase
whole_short v frame None = []
whole_short v frame (Some law) = whole_of v frame law law.head

-- ---- the laws of a statement

-- a law has a head that is not definite
abbrev pub is_whole : Vocabulary → PlainPart → Bool
is_whole v (trees.Law law test) = has_indefinite_head v law
is_whole v part = false

abbrev pub whole_laws : ℕ → Vocabulary → ℕ → PlainPart → List WideBase
whole_laws file v line (trees.Law law test) = whole_short v (law_frame file v line (law_variables v law) test) (law_short_for v law)
whole_laws file v line part = []

abbrev pub wide_laws : ℕ → Vocabulary → ℕ → PlainPart → List WideBase
wide_laws file v line part = if is_whole v part then whole_laws file v line part else map widened (base_laws file v line part)

-- the statement has no fault but perhaps that its head is not definite, and these are its laws
abbrev pub ExpandsWide : ℕ → List Declaration → PlainStatement → List WideBase → Type 0
ExpandsWide file left statement laws =
    (wide_refusal file (vocabulary left) statement ≡ None) × (laws ≡ wide_laws file (vocabulary left) statement.line statement.part)
