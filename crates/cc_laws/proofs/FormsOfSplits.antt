-- The laws of `caused F if G after H` have the forms of their kinds: its base laws, and the one that keeps its head whole.
use Rattle.std.proofs.Common.{◌≡◌, ◌∙◌, ◌⊎◌, inl, inr, ℕ, ◌+◌, Bool, true, false, not, ◌&&◌, ◌||◌, List, [], ◌∷◌, map, slice_get, Option, Some, None, refl, sym, ap}
use Rattle.std.specs.List.{AllByRecursion, list_any, list_all}
use Rattle.std.proofs.lemmas.Bool.{and_parts, not-false, not-true}
use Rattle.std.proofs.lemmas.List.Folds.{list_any-append}
use Rattle.std.proofs.lemmas.Option.{slice_get_within}
use Rattle.cc_defs.specs.declared.signature.Kind.{Kind}
use Rattle.cc_defs.specs.declared.signature.Kind.TheVariants as kinds
use Rattle.cc_defs.specs.declared.signature.Symbol.{Symbol}
use Rattle.cc_defs.specs.Declarations.{is_action}
use Rattle.cc_defs.specs.Forms.{IsDeclared, IsFormula, IsFluentFormula, IsSimpleHead, HasForm, HaveForms, formula_symbols, is_action_at, is_action_symbol, is_simple, is_simple_at, is_simple_symbol}
use Rattle.cc_defs.specs.Resolved.{BaseLaw, Head, Formula}
use Rattle.cc_defs.specs.Resolved as resolved
use Rattle.cc_defs.specs.Trees.{PlainTree}
use Rattle.cc_laws.specs.Expansion.{Frame, Caused, caused, both, part, part_acts, part_brackets, head_parts, law_for, split}
use Rattle.cc_laws.specs.FormulaFaults.{mention_has, leaf_has, has_action, has_fluent, has_determined, is_fluent_formula, is_action_formula}
use Rattle.cc_laws.specs.FreeVariables.{optional}
use Rattle.cc_laws.specs.LawFaults.{has_plain_form, has_fluent_form}
use Rattle.cc_laws.specs.Leaves.{Leaf, Bare, Compared, Bracket, leaves, Mention, mentions, sum_mentions}
use Rattle.cc_laws.specs.Resolving.{Binding, brackets, resolve}
use Rattle.cc_laws.specs.Vocabulary.{Vocabulary, Meaning, is_action_constant, is_fluent_constant, is_determined_constant, is_determined_kind}
use Rattle.cc_laws.specs.Widening.{head_formula, whole_of, widened}
use Rattle.cc_wide.specs.WideForms.{HasWideForm, HaveWideForms}
use Rattle.cc_laws.proofs.EachOf.{each_so, each_twice, each_mapped, none_passes}
use Rattle.cc_laws.proofs.HeadSymbols.{HeadIsSo, symbols_of_heads}
use Rattle.cc_laws.proofs.SymbolsMeant.{named, symbols_of_formula}

-- ---- base laws, whose heads are formulas too where these may be of any form

-- a base law has the form of its kind, with either head
abbrev pub IsFormed : List Symbol → BaseLaw → Type 0
IsFormed symbols law = HasForm symbols law × HasWideForm symbols (widened law)

abbrev pub AreFormed : List Symbol → List BaseLaw → Type 0
AreFormed symbols laws = AllByRecursion (IsFormed symbols) laws

pub base_forms : (symbols : List Symbol) (laws : List BaseLaw) → AreFormed symbols laws → HaveForms symbols laws
base_forms symbols laws formed = each_so (IsFormed symbols) (HasForm symbols) (λ law is. is.0) laws formed

pub wide_forms : (symbols : List Symbol) (laws : List BaseLaw) → AreFormed symbols laws → HaveWideForms symbols (map widened laws)
wide_forms symbols laws formed =
    each_mapped (HasWideForm symbols) widened laws (each_so (IsFormed symbols) (λ law. HasWideForm symbols (widened law)) (λ law is. is.1) laws formed)

-- each symbol has one of its number and its kind among the others
abbrev pub GoesOn : List Symbol → List Symbol → Type 0
GoesOn symbols others =
    (number : ℕ) (symbol : Symbol) → slice_get symbols number ≡ Some symbol → (other : Symbol) × (slice_get others number ≡ Some other) × (other.kind ≡ symbol.kind)

-- ---- what a number that is one of a symbol is

pub simple_kind : (kind : Kind) → is_action kind ≡ false → is_determined_kind kind ≡ false → is_simple kind ≡ true
simple_kind kinds.Simple action determined = refl
simple_kind kinds.Determined action determined = absurd cc
simple_kind kinds.Action action determined = absurd cc

action_is : (symbols : List Symbol) (number : ℕ) (symbol : Symbol) → slice_get symbols number ≡ Some symbol → is_action_symbol symbols number ≡ is_action symbol.kind
action_is symbols number symbol e = ap is_action_at e

simple_is : (symbols : List Symbol) (number : ℕ) (symbol : Symbol) → slice_get symbols number ≡ Some symbol → is_simple_symbol symbols number ≡ is_simple symbol.kind
simple_is symbols number symbol e = ap is_simple_at e

-- a test that nothing passes
abbrev no_meaning : Meaning → Bool
no_meaning means = false

nothing_named : (v : Vocabulary) (xs : List Mention) → list_any (mention_has v (named no_meaning)) xs ≡ false
nothing_named v [] = refl
nothing_named v (x ∷ xs) = nothing_named v xs

nothing_at : (v : Vocabulary) (xs : List Leaf) → list_any (leaf_has v (named no_meaning)) xs ≡ false
nothing_at v [] = refl
nothing_at v (Bare term ∷ xs) = rw (nothing_named v (mentions term)) (nothing_at v xs)
nothing_at v (Compared comparison s t ∷ xs) = rw (nothing_named v (sum_mentions s), nothing_named v (sum_mentions t)) (nothing_at v xs)
nothing_at v (Bracket name ∷ xs) = nothing_at v xs

module _ (v : Vocabulary) (symbols : List Symbol) (goes : GoesOn v.symbols symbols) where
  -- ---- the symbols of formulas

  abbrev pub IsNoAction : ℕ → Type 0
  IsNoAction number = is_action_symbol symbols number ≡ false

  pub declared_at : (number : ℕ) (symbol : Symbol) → slice_get v.symbols number ≡ Some symbol → IsDeclared symbols number
  declared_at number symbol is = let other = goes number symbol is in slice_get_within symbols number other.0 other.1

  pub action_at : (number : ℕ) (symbol : Symbol) → slice_get v.symbols number ≡ Some symbol → is_action_symbol symbols number ≡ is_action symbol.kind
  action_at number symbol is = let other = goes number symbol is in action_is symbols number other.0 other.1 ∙ ap is_action other.2

  pub simple_at : (number : ℕ) (symbol : Symbol) → slice_get v.symbols number ≡ Some symbol → is_simple_symbol symbols number ≡ is_simple symbol.kind
  simple_at number symbol is = let other = goes number symbol is in simple_is symbols number other.0 other.1 ∙ ap is_simple other.2

  pub is_formula : (scope : List Binding) (next : ℕ) (f : PlainTree) → IsFormula symbols (resolve v scope next f)
  is_formula scope next f = symbols_of_formula v no_meaning (IsDeclared symbols) (λ number symbol is e. declared_at number symbol is) scope next f (nothing_at v (leaves f))

  -- what a number of a fluent is
  record IsFluentAt (number : ℕ) : Type 0 where
    declared : IsDeclared symbols number
    later : is_action_symbol symbols number ≡ false
    now : is_action_symbol v.symbols number ≡ false

  fluent_at : (number : ℕ) (symbol : Symbol) → slice_get v.symbols number ≡ Some symbol → is_action symbol.kind ≡ false → IsFluentAt number
  fluent_at number symbol is e =
      record { declared = declared_at number symbol is; later = action_at number symbol is ∙ e; now = action_is v.symbols number symbol is ∙ e }

  fluent_formula : (formula : Formula) → AllByRecursion IsFluentAt (formula_symbols formula) → IsFluentFormula symbols formula
  fluent_formula formula all = (
    each_so IsFluentAt (IsDeclared symbols) (λ number at. at.declared) (formula_symbols formula) all,
    none_passes (is_action_symbol symbols) (formula_symbols formula) (each_so IsFluentAt IsNoAction (λ number at. at.later) (formula_symbols formula) all),
  )

  pub is_fluent : (scope : List Binding) (next : ℕ) (f : PlainTree) → has_action v f ≡ false → IsFluentFormula symbols (resolve v scope next f)
  is_fluent scope next f e = fluent_formula (resolve v scope next f) (symbols_of_formula v is_action_constant IsFluentAt fluent_at scope next f e)

  part_formula : (scope : List Binding) (next : ℕ) (f : Option PlainTree) → IsFormula symbols (part v scope next f)
  part_formula scope next None = tt
  part_formula scope next (Some f) = is_formula scope next f

  part_fluent : (scope : List Binding) (next : ℕ) (f : Option PlainTree) → part_acts v f ≡ false → IsFluentFormula symbols (part v scope next f)
  part_fluent scope next None e = (tt, refl)
  part_fluent scope next (Some f) e = is_fluent scope next f e

  -- ---- the symbols of heads

  record IsActionAt (number : ℕ) : Type 0 where
    declared : IsDeclared symbols number
    later : is_action_symbol symbols number ≡ true
    now : is_action_symbol v.symbols number ≡ true

  record IsSimpleAt (number : ℕ) : Type 0 where
    fluent : IsFluentAt number
    simple : is_simple_symbol symbols number ≡ true

  action_constant_at : (number : ℕ) (symbol : Symbol) → slice_get v.symbols number ≡ Some symbol → not (is_action symbol.kind) ≡ false → IsActionAt number
  action_constant_at number symbol is e =
      let acts = not-false (is_action symbol.kind) e in
      record { declared = declared_at number symbol is; later = action_at number symbol is ∙ acts; now = action_is v.symbols number symbol is ∙ acts }

  fluent_heads : (scope : List Binding) (f : Option PlainTree) → part_acts v f ≡ false → AllByRecursion (HeadIsSo IsFluentAt) (head_parts v scope f)
  fluent_heads scope None e = (tt, tt)
  fluent_heads scope (Some f) e = symbols_of_heads v is_action_constant IsFluentAt fluent_at scope f e

  action_heads : (scope : List Binding) (f : PlainTree) → has_fluent v f ≡ false → AllByRecursion (HeadIsSo IsActionAt) (head_parts v scope (Some f))
  action_heads scope f e = symbols_of_heads v is_fluent_constant IsActionAt action_constant_at scope f e

  -- a fluent that is not determined is simple
  abbrev IsSimpleFluent : ℕ → Type 0
  IsSimpleFluent number = IsFluentAt number → IsSimpleAt number

  simple_fluent : (number : ℕ) (symbol : Symbol) → slice_get v.symbols number ≡ Some symbol → is_determined_kind symbol.kind ≡ false → IsSimpleFluent number
  simple_fluent number symbol is e at =
      record { fluent = at; simple = simple_at number symbol is ∙ simple_kind symbol.kind (sym (action_at number symbol is) ∙ at.later) e }

  both_heads_so : (head : Head) → HeadIsSo IsFluentAt head × HeadIsSo IsSimpleFluent head → HeadIsSo IsSimpleAt head
  both_heads_so head so =
      let numbers = formula_symbols (head_formula head) in
      each_so (λ number. IsFluentAt number × IsSimpleFluent number) IsSimpleAt (λ number both. both.1 both.0) numbers
      (each_twice IsFluentAt IsSimpleFluent numbers so.0 so.1)

  abbrev pub part_is_determined : Option PlainTree → Bool
  part_is_determined None = false
  part_is_determined (Some f) = has_determined v f

  simple_heads : (scope : List Binding) (f : Option PlainTree) → part_acts v f ≡ false → part_is_determined f ≡ false → AllByRecursion (HeadIsSo IsSimpleAt) (head_parts v scope f)
  simple_heads scope None e determined = (tt, tt)
  simple_heads scope (Some f) e determined =
      each_so (λ head. HeadIsSo IsFluentAt head × HeadIsSo IsSimpleFluent head) (HeadIsSo IsSimpleAt) both_heads_so (head_parts v scope (Some f))
      (each_twice (HeadIsSo IsFluentAt) (HeadIsSo IsSimpleFluent) (head_parts v scope (Some f)) (fluent_heads scope (Some f) e)
      (symbols_of_heads v is_determined_constant IsSimpleFluent simple_fluent scope f determined))

  -- ---- the laws of the parts of a head

  simple_head : (head : Head) → HeadIsSo IsSimpleAt head → IsSimpleHead symbols head
  simple_head (resolved.Atom number args value) so = so.0.simple
  simple_head resolved.Falsity so = tt

  fluent_dynamic : (frame : Frame) (f g : Option PlainTree) (h : PlainTree) (head : Head) → part_acts v g ≡ false → HeadIsSo IsSimpleAt head →
      IsFormed symbols (law_for v frame (caused f g (Some h)) head)
  fluent_dynamic frame f g h head e so =
      let body = part_fluent frame.scope frame.next g e in
      let declared = is_formula frame.scope (frame.next + part_brackets g) h in
      let all = each_so IsSimpleAt IsFluentAt (λ number at. at.fluent) (formula_symbols (head_formula head)) so in (
        record { head = simple_head head so; body = body; after = _; written = refl; declared = declared },
        record { head = fluent_formula (head_formula head) all; body = body; after = _; written = refl; declared = declared },
      )

  fluent_dynamic_laws : (frame : Frame) (f g : Option PlainTree) (h : PlainTree) → part_acts v f ≡ false → part_acts v g ≡ false → part_is_determined f ≡ false →
      AreFormed symbols (split v frame (caused f g (Some h)))
  fluent_dynamic_laws frame f g h e other determined =
      each_mapped (IsFormed symbols) (law_for v frame (caused f g (Some h))) (head_parts v frame.scope f)
      (each_so (HeadIsSo IsSimpleAt) (λ head. IsFormed symbols (law_for v frame (caused f g (Some h)) head)) (λ head one. fluent_dynamic frame f g h head other one)
      (head_parts v frame.scope f) (simple_heads frame.scope f e determined))

  static : (frame : Frame) (f g : Option PlainTree) (head : Head) → part_acts v f ≡ false → part_acts v g ≡ false → HeadIsSo IsFluentAt head → IsFormed symbols (law_for v frame (caused f g None) head)
  static frame f g (resolved.Atom number args value) e other so =
      let body = part_fluent frame.scope frame.next g other in
      let whole = fluent_formula (head_formula (resolved.Atom number args value)) so in
      rw (e, so.0.now) (record { head = (so.0.declared, so.0.later); body = body; after = refl }, record { head = whole; body = body; after = refl })
  static frame f g resolved.Falsity e other so =
      let body = part_fluent frame.scope frame.next g other in
      rw e (record { head = tt; body = body; after = refl }, record { head = (tt, refl); body = body; after = refl })

  static_laws : (frame : Frame) (f g : Option PlainTree) → part_acts v f ≡ false → part_acts v g ≡ false → AreFormed symbols (split v frame (caused f g None))
  static_laws frame f g e other =
      each_mapped (IsFormed symbols) (law_for v frame (caused f g None)) (head_parts v frame.scope f)
      (each_so (HeadIsSo IsFluentAt) (λ head. IsFormed symbols (law_for v frame (caused f g None) head)) (λ head one. static frame f g head e other one)
      (head_parts v frame.scope f) (fluent_heads frame.scope f e))

  action_dynamic : (frame : Frame) (f : PlainTree) (g : Option PlainTree) (head : Head) → has_action v f ≡ true → HeadIsSo IsActionAt head →
      IsFormed symbols (law_for v frame (caused (Some f) g None) head)
  action_dynamic frame f g (resolved.Atom number args value) e so =
      let body = part_formula frame.scope frame.next g in
      let whole = each_so IsActionAt (IsDeclared symbols) (λ number at. at.declared) (formula_symbols (head_formula (resolved.Atom number args value))) so in
      rw (e, so.0.now) (record { head = so.0.later; body = body; after = refl }, record { head = whole; body = body; after = refl })
  action_dynamic frame f g resolved.Falsity e so =
      let after = part v frame.scope frame.next g in
      let declared = part_formula frame.scope frame.next g in
      rw e (
        record { head = tt; body = (tt, refl); after = after; written = refl; declared = declared },
        record { head = (tt, refl); body = (tt, refl); after = after; written = refl; declared = declared },
      )

  action_laws : (frame : Frame) (f : PlainTree) (g : Option PlainTree) → has_action v f ≡ true → has_fluent v f ≡ false → AreFormed symbols (split v frame (caused (Some f) g None))
  action_laws frame f g e other =
      each_mapped (IsFormed symbols) (law_for v frame (caused (Some f) g None)) (head_parts v frame.scope (Some f))
      (each_so (HeadIsSo IsActionAt) (λ head. IsFormed symbols (law_for v frame (caused (Some f) g None) head)) (λ head one. action_dynamic frame f g head e one)
      (head_parts v frame.scope (Some f)) (action_heads frame.scope f other))

  -- ---- the laws of a law whose parts are as its form says

  abbrev IsOfActions : Option PlainTree → Type 0
  IsOfActions None = ⊥
  IsOfActions (Some f) = (has_action v f ≡ true) × (has_fluent v f ≡ false)

  abbrev FitsBefore : Option PlainTree → Option PlainTree → Option PlainTree → Type 0
  FitsBefore f g None = ((part_acts v f ≡ false) × (part_acts v g ≡ false)) ⊎ IsOfActions f
  FitsBefore f g (Some h) = (part_acts v f ≡ false) × (part_acts v g ≡ false) × (part_is_determined f ≡ false)

  abbrev pub Fits : Caused → Type 0
  Fits law = FitsBefore law.head law.body law.after

  split_by : (frame : Frame) (f g h : Option PlainTree) → Fits (caused f g h) → AreFormed symbols (split v frame (caused f g h))
  split_by frame f g (Some h) fits = fluent_dynamic_laws frame f g h fits.0 fits.1 fits.2
  split_by frame f g None (inl fits) = static_laws frame f g fits.0 fits.1
  split_by frame (Some f) g None (inr fits) = action_laws frame f g fits.0 fits.1
  split_by frame None g None (inr fits) = absurd fits

  pub split_formed : (frame : Frame) (law : Caused) → Fits law → AreFormed symbols (split v frame law)
  split_formed frame law fits = split_by frame law.head law.body law.after fits

  whole_by : (frame : Frame) (f g h : Option PlainTree) → Fits (caused f g h) → HaveWideForms symbols (whole_of v frame (caused f g h) f)
  whole_by frame None g h fits = tt
  whole_by frame (Some f) g (Some h) fits = (
    record {
      head = is_fluent frame.scope (frame.next + part_brackets g + brackets h) f fits.0;
      body = part_fluent frame.scope frame.next g fits.1;
      after = _;
      written = refl;
      declared = is_formula frame.scope (frame.next + part_brackets g) h;
    },
    tt,
  )
  whole_by frame (Some f) g None (inl fits) = (
    rw (fits.0) (record {
      head = is_fluent frame.scope (frame.next + part_brackets g + 0) f fits.0;
      body = part_fluent frame.scope frame.next g fits.1;
      after = refl;
    }),
    tt,
  )
  whole_by frame (Some f) g None (inr fits) = (
    rw (fits.0) (record {
      head = is_formula frame.scope (frame.next + part_brackets g + 0) f;
      body = part_formula frame.scope frame.next g;
      after = refl;
    }),
    tt,
  )

  pub whole_formed : (frame : Frame) (law : Caused) → Fits law → HaveWideForms symbols (whole_of v frame law law.head)
  whole_formed frame law fits = whole_by frame law.head law.body law.after fits

  -- ---- by the test of the form

  pub acts_not : (f : PlainTree) → is_fluent_formula v f ≡ true → has_action v f ≡ false
  acts_not f e = not-true (has_action v f) e

  pub optional_acts_not : (g : Option PlainTree) → list_all (is_fluent_formula v) (optional g) ≡ true → part_acts v g ≡ false
  optional_acts_not None e = refl
  optional_acts_not (Some g) e = acts_not g (and_parts (is_fluent_formula v g) true e).0

  pub both_act_not : (f : PlainTree) (g : Option PlainTree) → has_action v f ≡ false → part_acts v g ≡ false → part_acts v (Some (both f g)) ≡ false
  both_act_not f None e other = e
  both_act_not f (Some g) e other = list_any-append (leaf_has v (named is_action_constant)) (leaves f) (leaves g) ∙ rw e other

  pub of_actions : (f : PlainTree) (g : Option PlainTree) → is_action_formula v f ≡ true → Fits (caused (Some f) g None)
  of_actions f g e = let parts = and_parts (has_action v f) (not (has_fluent v f)) e in inr (parts.0, not-true (has_fluent v f) parts.1)

  pub plain_fits : (f : PlainTree) (gs : List PlainTree) (g : Option PlainTree) → (list_all (is_fluent_formula v) gs ≡ true → part_acts v g ≡ false) →
      has_plain_form v f gs ≡ true → Fits (caused (Some f) g None)
  plain_fits f gs g rest e = choose (is_fluent_formula v f && list_all (is_fluent_formula v) gs) refl e
    where
      choose : (fluent : Bool) → (is_fluent_formula v f && list_all (is_fluent_formula v) gs) ≡ fluent → (fluent || is_action_formula v f) ≡ true → Fits (caused (Some f) g None)
      choose true is one = let parts = and_parts (is_fluent_formula v f) (list_all (is_fluent_formula v) gs) is in inl (acts_not f parts.0, rest parts.1)
      choose false is one = of_actions f g one

  pub fluent_fits : (f : PlainTree) (gs : List PlainTree) (g : Option PlainTree) (h : PlainTree) → (list_all (is_fluent_formula v) gs ≡ true → part_acts v g ≡ false) →
      has_fluent_form v f gs ≡ true → has_determined v f ≡ false → Fits (caused (Some f) g (Some h))
  fluent_fits f gs g h rest e determined =
      let parts = and_parts (is_fluent_formula v f) (list_all (is_fluent_formula v) gs) e in
      (acts_not f parts.0, rest parts.1, determined)
