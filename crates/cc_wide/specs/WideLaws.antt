-- Descriptions whose laws have heads of any form, in plain form.
use Rattle.std.specs.Prelude.{ℕ, ◌==◌, if◌then◌else◌, List, [], ◌∷◌, length, map, Option}
use Rattle.std.specs.Option.{option_map}
use Rattle.cc_defs.specs.declared.law.Range.{Range}
use Rattle.cc_defs.specs.declared.signature.LawKind.{LawKind}
use Rattle.cc_defs.specs.Description.{Description}
use Rattle.cc_defs.specs.Judged.{constants_of}
use Rattle.cc_defs.specs.Resolved.{BaseLaw, Formula, Head, Law, Term, Terms, plain_formula}
use Rattle.cc_defs.specs.Resolved as resolved
use Rattle.cc_defs.specs.Universe.{Universe}
use Rattle.cc_wide.specs.declared.law.WideBase.{WideBase as WideBaseTree}
use Rattle.cc_wide.specs.declared.law.WideBase.TheVariants as bases
use Rattle.cc_wide.specs.declared.law.WideLaw.{WideLaw as WideLawTree}

pub record WideLaw : Type 0 where
  pub ranges : List Range
  pub head : Formula
  pub body : Formula
  pub after : Option Formula
  pub test : Formula
  pub kind : LawKind
  pub file : ℕ
  pub line : ℕ

pub data WideBase : Type 0 where
  One : WideLaw → WideBase
  NoConcurrency : (file line : ℕ) → WideBase

pub record WideDescription : Type 0 where
  -- the names of the objects by number, `false` first and `true` second
  pub objects : List (List ℕ)
  pub universe : Universe
  pub laws : List WideBase

-- ---- the plain form of each

abbrev pub plain_wide_law : WideLawTree → WideLaw
plain_wide_law law = record {
  ranges = law.ranges;
  head = plain_formula law.head;
  body = plain_formula law.body;
  after = option_map plain_formula law.after;
  test = plain_formula law.test;
  kind = law.kind;
  file = law.file;
  line = law.line;
}

abbrev pub plain_wide_base : WideBaseTree → WideBase
plain_wide_base (bases.One law) = One (plain_wide_law law)
plain_wide_base (bases.NoConcurrency file line) = NoConcurrency file line

-- ---- the frame of a law: the same law with its head where that is one definite atom, and else with falsity

abbrev pub listed : Terms → List Term
listed resolved.NoTerms = []
listed (resolved.MoreTerms first others) = first ∷ listed others

-- a constant has a value in which no constant stands
abbrev pub atom_of_sides : Term → Term → Head
atom_of_sides (resolved.Constant symbol args) value =
    if length (constants_of value) == 0 then resolved.Atom symbol (listed args) value else resolved.Falsity
atom_of_sides side value = resolved.Falsity

abbrev pub atom_head : Formula → Head
atom_head (resolved.Equal s t) = atom_of_sides s t
atom_head formula = resolved.Falsity

abbrev pub frame_law : WideLaw → Law
frame_law law = record {
  ranges = law.ranges;
  head = atom_head law.head;
  body = law.body;
  after = law.after;
  test = law.test;
  kind = law.kind;
  file = law.file;
  line = law.line;
}

abbrev pub frame_base : WideBase → BaseLaw
frame_base (One law) = resolved.One (frame_law law)
frame_base (NoConcurrency file line) = resolved.NoConcurrency file line

-- A description with laws of a definite form, that has the same positions, the same instances of laws and the same texts.
abbrev pub frame : WideDescription → Description
frame w = record { objects = w.objects; universe = w.universe; laws = map frame_base w.laws }
