-- Formulas, laws and queries whose names are resolved, in plain form: without boxes and vectors.
use Rattle.std.specs.Prelude.{ℕ, List, [], ◌∷◌, map, Option}
use Rattle.std.specs.Option.{option_map}
use Rattle.cc_defs.specs.declared.signature.At.{At}
use Rattle.cc_defs.specs.declared.signature.LawKind.{LawKind}
use Rattle.cc_defs.specs.declared.formula.Term as terms
use Rattle.cc_defs.specs.declared.formula.Formula as formulas
use Rattle.cc_defs.specs.declared.law.Range.{Range}
use Rattle.cc_defs.specs.declared.law.Head.{Head as HeadTree}
use Rattle.cc_defs.specs.declared.law.Head.TheVariants as heads
use Rattle.cc_defs.specs.declared.law.Law.{Law as LawTree}
use Rattle.cc_defs.specs.declared.law.BaseLaw.{BaseLaw as BaseLawTree}
use Rattle.cc_defs.specs.declared.law.BaseLaw.TheVariants as base_laws
use Rattle.cc_defs.specs.declared.law.Condition.{Condition as ConditionTree}
use Rattle.cc_defs.specs.declared.law.Query.{Query as QueryTree}

mutual
  -- a constant with its arguments, an object, a variable, `none`, a number, a sum, or a difference
  pub data Term : Type 0 where
    Constant : (symbol : ℕ) → (args : Terms) → Term
    Object : ℕ → Term
    Variable : ℕ → Term
    Nothing : Term
    Number : ℕ → Term
    Plus : Term → Term → Term
    Minus : Term → Term → Term

  pub data Terms : Type 0 where
    NoTerms : Terms
    MoreTerms : (first : Term) → (others : Terms) → Terms

abbrev pub terms_of : List Term → Terms
terms_of [] = NoTerms
terms_of (first ∷ others) = MoreTerms first (terms_of others)

-- a bracket has the number of its variable and its sort
pub data Formula : Type 0 where
  Truth : Formula
  Falsehood : Formula
  Equal : Term → Term → Formula
  Less : Term → Term → Formula
  AtMost : Term → Term → Formula
  Not : Formula → Formula
  Both : Formula → Formula → Formula
  Either : Formula → Formula → Formula
  Implies : Formula → Formula → Formula
  Same : Formula → Formula → Formula
  ForAll : (variable sort : ℕ) → Formula → Formula
  Exists : (variable sort : ℕ) → Formula → Formula

pub data Head : Type 0 where
  Atom : (symbol : ℕ) → (args : List Term) → (value : Term) → Head
  Falsity : Head

pub record Law : Type 0 where
  pub ranges : List Range
  pub head : Head
  pub body : Formula
  pub after : Option Formula
  pub test : Formula
  pub kind : LawKind
  pub file : ℕ
  pub line : ℕ

pub data BaseLaw : Type 0 where
  One : Law → BaseLaw
  NoConcurrency : (file line : ℕ) → BaseLaw

pub record Condition : Type 0 where
  pub at : At
  pub formula : Formula

pub record Query : Type 0 where
  pub label : Option (List ℕ)
  pub range : Option (ℕ × ℕ)
  pub conditions : List Condition
  pub claim : Option Condition
  pub file : ℕ
  pub line : ℕ

-- ---- the plain form of each

abbrev mutual
  pub plain_term : terms.Term → Term
  plain_term (terms.Constant' symbol shape args) = Constant symbol (plain_row args)
  plain_term (terms.Object object) = Object object
  plain_term (terms.Variable variable) = Variable variable
  plain_term terms.Nothing = Nothing
  plain_term (terms.Number number) = Number number
  plain_term (terms.Plus' one s other t) = Plus (plain_term s) (plain_term t)
  plain_term (terms.Minus' one s other t) = Minus (plain_term s) (plain_term t)

  pub plain_row : {m : _} → terms.Row_of-Term m → Terms
  plain_row terms.end_of-Term = NoTerms
  plain_row (terms.more_of-Term term rest) = MoreTerms (plain_term term) (plain_row rest)

abbrev pub plain_formula : formulas.Formula → Formula
plain_formula formulas.True = Truth
plain_formula formulas.False = Falsehood
plain_formula (formulas.Equal s t) = Equal (plain_term s) (plain_term t)
plain_formula (formulas.Less s t) = Less (plain_term s) (plain_term t)
plain_formula (formulas.AtMost s t) = AtMost (plain_term s) (plain_term t)
plain_formula (formulas.Not' box f) = Not (plain_formula f)
plain_formula (formulas.Both' one f other g) = Both (plain_formula f) (plain_formula g)
plain_formula (formulas.Either' one f other g) = Either (plain_formula f) (plain_formula g)
plain_formula (formulas.Implies' one f other g) = Implies (plain_formula f) (plain_formula g)
plain_formula (formulas.Same' one f other g) = Same (plain_formula f) (plain_formula g)
plain_formula (formulas.ForAll' variable sort box f) = ForAll variable sort (plain_formula f)
plain_formula (formulas.Exists' variable sort box f) = Exists variable sort (plain_formula f)

abbrev pub plain_head : HeadTree → Head
plain_head (heads.Atom symbol args value) = Atom symbol (map plain_term args) (plain_term value)
plain_head heads.Falsity = Falsity

abbrev pub plain_law : LawTree → Law
plain_law law = record {
  ranges = law.ranges;
  head = plain_head law.head;
  body = plain_formula law.body;
  after = option_map plain_formula law.after;
  test = plain_formula law.test;
  kind = law.kind;
  file = law.file;
  line = law.line;
}

abbrev pub plain_base_law : BaseLawTree → BaseLaw
plain_base_law (base_laws.One law) = One (plain_law law)
plain_base_law (base_laws.NoConcurrency file line) = NoConcurrency file line

abbrev pub plain_condition : ConditionTree → Condition
plain_condition condition = record { at = condition.at; formula = plain_formula condition.formula }

abbrev pub plain_query : QueryTree → Query
plain_query query = record {
  label = query.label;
  range = query.range;
  conditions = map plain_condition query.conditions;
  claim = option_map plain_condition query.claim;
  file = query.file;
  line = query.line;
}
