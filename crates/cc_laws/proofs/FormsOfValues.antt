-- The base laws about each value of a constant have the forms of their kinds.
use Rattle.std.proofs.Common.{◌≡◌, ◌∙◌, ℕ, Bool, true, false, ◌||◌, List, [], ◌∷◌, ◌++◌, length, slice_get, Some, refl, sym, ap, subst, arith}
use Rattle.std.specs.List.{AllByRecursion, list_any}
use Rattle.std.proofs.lemmas.Bool.{eqb-true, not-false, or_parts}
use Rattle.cc_defs.specs.declared.signature.Kind.{Kind}
use Rattle.cc_defs.specs.declared.signature.Kind.TheVariants as kinds
use Rattle.cc_defs.specs.declared.signature.Symbol.{Symbol}
use Rattle.cc_defs.specs.Declarations.{is_action}
use Rattle.cc_defs.specs.Forms.{IsDeclared, IsFormula, IsFluentFormula, formula_symbols, term_symbols, terms_symbols, is_action_at, is_action_symbol, is_simple}
use Rattle.cc_defs.specs.Resolved.{Terms, Formula}
use Rattle.cc_defs.specs.Resolved as resolved
use Rattle.cc_defs.specs.Trees.{PlainTerm, Applied, PlainSums, NoSums, MoreSums, PlainSum}
use Rattle.cc_laws.specs.Expansion.{Frame, Persistence, Exogenous, Inertial, Rigid, base_law, value_law, with_value, subject_meant, subject_laws}
use Rattle.cc_laws.specs.FormulaFaults.{sum_has, sum_misfits, name_misfits, lone_meaning, argument_misfits, some_argument_misfits, arguments_misfit, is_miscounted, term_has, term_meaning, term_misfits}
use Rattle.cc_laws.specs.Heads.{listed}
use Rattle.cc_laws.specs.Leaves.{sum_count}
use Rattle.cc_laws.specs.Resolving.{Binding, resolve_sum, resolve_sums}
use Rattle.cc_laws.specs.Vocabulary.{Vocabulary, Meaning, Unknown, Nothing, Object, Variable, Constant, meaning, is_constant}
use Rattle.cc_laws.proofs.FormsOfSplits.{AreFormed, GoesOn, IsFormed, action_at, simple_at, declared_at}
use Rattle.cc_laws.proofs.SymbolsMeant.{IsIn, meaning_in, symbols_of_sum}
use Rattle.cc_laws.proofs.TermLists.{terms_listed}

-- ---- arguments that fit have no symbols

-- nothing is so
abbrev Nowhere : ℕ → Type 0
Nowhere number = ⊥

none_there : (symbols : List ℕ) → AllByRecursion Nowhere symbols → symbols ≡ []
none_there [] all = refl
none_there (symbol ∷ symbols) all = absurd all.0

module _ (v : Vocabulary) (scope : List Binding) where
  no_constant : (sum : PlainSum) → sum_has v (λ means count. is_constant means) sum ≡ false → term_symbols (resolve_sum v scope sum) ≡ []
  no_constant sum e = none_there (term_symbols (resolve_sum v scope sum)) (symbols_of_sum v is_constant Nowhere (λ number symbol is no. absurd cc) scope sum e)

  no_symbols_in : (sort : ℕ) (sum : PlainSum) → argument_misfits v sort sum ≡ false → term_symbols (resolve_sum v scope sum) ≡ []
  no_symbols_in sort sum e =
      no_constant sum (or_parts (sum_has v (λ means count. is_constant means) sum) (sum_misfits v sum || name_misfits v sort (lone_meaning v sum)) e).0

  no_symbols : (sorts : List ℕ) (args : PlainSums) → sum_count args ≡ length sorts → some_argument_misfits v sorts args ≡ false → terms_symbols (resolve_sums v scope args) ≡ []
  no_symbols sorts NoSums count e = refl
  no_symbols [] (MoreSums first others) count e = absurd (omega arith)
  no_symbols (sort ∷ sorts) (MoreSums first others) count e =
      let parts = or_parts (argument_misfits v sort first) (some_argument_misfits v sorts others) e in
      ap (λ (w : List ℕ). w ++ terms_symbols (resolve_sums v scope others)) (no_symbols_in sort first parts.0) ∙ no_symbols sorts others (omega arith) parts.1

-- ---- the laws

simple_is_fluent : (kind : Kind) → is_simple kind ≡ true → is_action kind ≡ false
simple_is_fluent kinds.Simple e = refl
simple_is_fluent kinds.Determined e = absurd cc
simple_is_fluent kinds.Action e = absurd cc

-- which kinds a law may be about
abbrev pub MayLast : Persistence → Symbol → Type 0
MayLast Exogenous symbol = Unit {0}
MayLast Inertial symbol = is_simple symbol.kind ≡ true
MayLast Rigid symbol = is_simple symbol.kind ≡ true

module _ (v : Vocabulary) (symbols : List Symbol) (goes : GoesOn v.symbols symbols) where
  module _ (number : ℕ) (symbol : Symbol) (is : slice_get v.symbols number ≡ Some symbol) (args : Terms) (bare : terms_symbols args ≡ []) (value : ℕ) where
    abbrev equal : Formula
    equal = resolved.Equal (resolved.Constant number args) (resolved.Variable value)

    equal_symbols : formula_symbols equal ≡ number ∷ []
    equal_symbols = ap (λ (w : List ℕ). (number ∷ w) ++ []) bare

    equal_formula : IsFormula symbols equal
    equal_formula = subst (λ (w : List ℕ). AllByRecursion (IsDeclared symbols) w) (sym equal_symbols) (declared_at v symbols goes number symbol is, tt)

    equal_fluent : is_action symbol.kind ≡ false → IsFluentFormula symbols equal
    equal_fluent free =
        let P : List ℕ → Type 0 = λ w. list_any (is_action_symbol symbols) w ≡ false in
        let one : P (number ∷ []) = rw (action_at v symbols goes number symbol is ∙ free) refl in
        (equal_formula, subst P (sym equal_symbols) one)

  module _ (number : ℕ) (symbol : Symbol) (is : slice_get v.symbols number ≡ Some symbol) (args : Terms) (bare : terms_symbols args ≡ []) (frame : Frame) where
    now : is_action_symbol v.symbols number ≡ is_action symbol.kind
    now = ap is_action_at is

    abbrev own : Formula
    own = equal number symbol is args bare (length frame.ranges)

    formula : IsFormula symbols own
    formula = equal_formula number symbol is args bare (length frame.ranges)

    fluent : is_action symbol.kind ≡ false → IsFluentFormula symbols own
    fluent = equal_fluent number symbol is args bare (length frame.ranges)

    exogenous : (acts : Bool) → is_action symbol.kind ≡ acts → IsFormed symbols (value_law v frame Exogenous number args)
    exogenous true e =
        rw (now ∙ e, terms_listed args) (
          record { head = action_at v symbols goes number symbol is ∙ e; body = formula; after = refl },
          record { head = formula; body = formula; after = refl },
        )
    exogenous false e =
        rw (now ∙ e, terms_listed args) (
          record { head = (declared_at v symbols goes number symbol is, action_at v symbols goes number symbol is ∙ e); body = fluent e; after = refl },
          record { head = fluent e; body = fluent e; after = refl },
        )

    lasting : (body : Formula) → IsFluentFormula symbols body → is_simple symbol.kind ≡ true →
        IsFormed symbols (base_law v (with_value frame number) (resolved.Atom number (listed args) (resolved.Variable (length frame.ranges))) body (Some own))
    lasting body is_fluent simple =
        let head = simple_at v symbols goes number symbol is ∙ simple in
        let whole = fluent (simple_is_fluent symbol.kind simple) in
        rw (terms_listed args) (
          record { head = head; body = is_fluent; after = own; written = refl; declared = formula },
          record { head = whole; body = is_fluent; after = own; written = refl; declared = formula },
        )

    pub value_form : (persistence : Persistence) → MayLast persistence symbol → IsFormed symbols (value_law v frame persistence number args)
    value_form Exogenous may = exogenous (is_action symbol.kind) refl
    value_form Inertial may = lasting own (fluent (simple_is_fluent symbol.kind may)) may
    value_form Rigid may = lasting resolved.Truth (tt, refl) may

  -- ---- what is exogenous or inertial

  subject_meant_forms : (frame : Frame) (persistence : Persistence) (means : Meaning) (args : PlainSums) → IsIn v means →
      is_miscounted means (sum_count args) ≡ false → arguments_misfit v means args ≡ false →
      ((number : ℕ) (symbol : Symbol) → means ≡ Constant number symbol → MayLast persistence symbol) →
      AreFormed symbols (subject_meant v frame persistence means (resolve_sums v frame.scope args))
  subject_meant_forms frame persistence Unknown args is count fit may = tt
  subject_meant_forms frame persistence Nothing args is count fit may = tt
  subject_meant_forms frame persistence (Object number sort) args is count fit may = tt
  subject_meant_forms frame persistence (Variable number sort) args is count fit may = tt
  subject_meant_forms frame persistence (Constant number symbol) args is count fit may =
      let as_many : sum_count args ≡ length symbol.sorts = eqb-true (sum_count args) (length symbol.sorts) (not-false _ count) in
      let bare = no_symbols v frame.scope symbol.sorts args as_many fit in
      (value_form number symbol is (resolve_sums v frame.scope args) bare frame persistence (may number symbol refl), tt)

  pub subject_forms : (frame : Frame) (persistence : Persistence) (c : PlainTerm) → term_has v is_miscounted c ≡ false → term_misfits v c ≡ false →
      ((number : ℕ) (symbol : Symbol) → term_meaning v c ≡ Constant number symbol → MayLast persistence symbol) →
      AreFormed symbols (subject_laws v frame persistence c)
  subject_forms frame persistence (Applied name args) count fit may =
      subject_meant_forms frame persistence (meaning v name) args (meaning_in v name)
      (or_parts (is_miscounted (meaning v name) (sum_count args)) _ count).0 fit may
