-- How many arguments shapes and constants have.
use Rattle.std.proofs.Common.{◌≡◌, ◌≢◌, ◌⊎◌, inl, inr, eqb, ◌∙◌, ℕ, ◌==◌, ◌&&◌, Bool, true, false, cond, List, [], ◌∷◌, length, Option, Some, None, is_some, refl, sym, ap, subst}
use Rattle.std.specs.Cmp.Lexicographic.{bytes_decides}
use Rattle.std.specs.List.{find}
use Rattle.std.specs.Map.{lookup}
use Rattle.std.specs.Option.{option_map, option_or}
use Rattle.std.proofs.lemmas.List.{length-map}
use Rattle.std.proofs.lemmas.Bool.Decides.{eqb_tells}
use Rattle.cc_defs.specs.declared.signature.Symbol.{Symbol}
use Rattle.cc_defs.specs.DeclarationFaults.{constant_named, sorts_of_constant, declared_sorts}
use Rattle.cc_defs.specs.Declarations.{Declaration, Declared, constants, symbol_of, number_in, sort_names}
use Rattle.cc_defs.specs.Grammar.{same_text}
use Rattle.cc_sorts.specs.Lefts.{Shaped, shaped, arguments_of, plain_constant, left_constant, table_symbol, IsLeft}
use Rattle.cc_sorts.specs.Entered.{IsEntered}
use Rattle.cc_sorts.specs.Tables.{TableView, placed_of}
use Rattle.cc_sorts.specs.declared.left.Constant.{Constant as Constant'}
use Rattle.cc_sorts.specs.declared.left.Left.{Left}
use Rattle.cc_sorts.proofs.Lefts.{or_none}
use Rattle.cc_sorts.proofs.Swaps.{same_swap}

-- ---- the constant of a name

sorts_shaped : (found : Option Declared) → sorts_of_constant found ≡ arguments_of (option_map shaped found)
sorts_shaped None = refl
sorts_shaped (Some constant) = refl

placed_find : (base : List Declaration) (name : List ℕ) (found : List Declared) →
    option_map (λ placed. placed.symbol) (find (λ placed. same_text name placed.symbol.name) (placed_of base found))
    ≡ option_map (symbol_of base) (find (λ constant. same_text name constant.shape.name) found)
placed_find base name [] = refl
placed_find base name (constant ∷ found) = here (same_text name constant.shape.name) (placed_find base name found)
  where
    here : (same : Bool) →
        option_map (λ placed. placed.symbol) (find (λ placed. same_text name placed.symbol.name) (placed_of base found))
        ≡ option_map (symbol_of base) (find (λ other. same_text name other.shape.name) found) →
        option_map (λ placed. placed.symbol) (cond same (Some (record { symbol = symbol_of base constant; file = constant.file; line = constant.line })) (find (λ placed. same_text name placed.symbol.name) (placed_of base found)))
        ≡ option_map (symbol_of base) (cond same (Some constant) (find (λ other. same_text name other.shape.name) found))
    here true more = refl
    here false more = more

pub symbol_known : (table : TableView) (base : List Declaration) (name : List ℕ) → IsEntered table base → table_symbol table name ≡ option_map (symbol_of base) (constant_named base name)
symbol_known table base name is_table =
    ap (λ symbols. option_map (λ placed. placed.symbol) (find (λ placed. same_text name placed.symbol.name) symbols)) is_table.symbols_are
    ∙ placed_find base name (constants base)

-- a constant that the table has
pub record IsOfTable (left : Left) (declarations base : List Declaration) (name : List ℕ) (symbol : Symbol) : Type 0 where
  pub constant : Declared
  pub is_symbol : symbol ≡ symbol_of base constant
  pub named : constant_named base name ≡ Some constant
  pub known : option_map shaped (constant_named declarations name) ≡ Some (shaped constant)

pub of_table : (left : Left) (declarations : List Declaration) (name : List ℕ) (symbol : Symbol) → (is_left : IsLeft left declarations) →
    Some symbol ≡ table_symbol left.table.now name → IsOfTable left declarations is_left.base name symbol
of_table left declarations name symbol is_left e =
    here (constant_named is_left.base name) refl (e ∙ symbol_known left.table.now is_left.base name is_left.is_table) (is_left.constants_are name)
  where
    here : (found : Option Declared) → constant_named is_left.base name ≡ found → Some symbol ≡ option_map (symbol_of is_left.base) found →
        option_map shaped (constant_named declarations name) ≡ option_or (option_map shaped (constant_named is_left.base name)) (left_constant left name) →
        IsOfTable left declarations is_left.base name symbol
    here None is f known = absurd cc
    here (Some constant) is f known = record {
      constant = constant;
      is_symbol = cc;
      named = is;
      known = known ∙ ap (λ (o : Option Declared). option_or (option_map shaped o) (left_constant left name)) is;
    }

pub new_known : (left : Left) (declarations : List Declaration) (name : List ℕ) → (is_left : IsLeft left declarations) →
    None ≡ table_symbol left.table.now name → option_map shaped (constant_named declarations name) ≡ left_constant left name
new_known left declarations name is_left e =
    here (constant_named is_left.base name) (e ∙ symbol_known left.table.now is_left.base name is_left.is_table) (is_left.constants_are name)
  where
    here : (found : Option Declared) → None ≡ option_map (symbol_of is_left.base) found →
        option_map shaped (constant_named declarations name) ≡ option_or (option_map shaped found) (left_constant left name) →
        option_map shaped (constant_named declarations name) ≡ left_constant left name
    here None f known = known
    here (Some constant) f known = absurd cc

pub count_of_symbol : (left : Left) (declarations : List Declaration) (name : List ℕ) (symbol : Symbol) → IsLeft left declarations →
    Some symbol ≡ table_symbol left.table.now name → length symbol.sorts ≡ length (declared_sorts declarations name)
count_of_symbol left declarations name symbol is_left e =
    let known = of_table left declarations name symbol is_left e
    in ap (λ (s : Symbol). length s.sorts) known.is_symbol
    ∙ length-map known.constant.shape.sorts (number_in (sort_names is_left.base))
    ∙ sym (ap length (sorts_shaped (constant_named declarations name) ∙ ap arguments_of known.known))

pub count_of_new : (left : Left) (declarations : List Declaration) (name : List ℕ) → IsLeft left declarations →
    None ≡ table_symbol left.table.now name → arguments_of (left_constant left name) ≡ declared_sorts declarations name
count_of_new left declarations name is_left e =
    sym (sorts_shaped (constant_named declarations name) ∙ ap arguments_of (new_known left declarations name is_left e))

-- ---- a constant is added

kept : (old : Option Shaped) (same : Bool) (constant : Declared) → (same ≡ true → is_some old ≡ true) → old ≡ option_or old (option_map shaped (cond same (Some constant) None))
kept (Some x) same constant there = refl
kept None true constant there = absurd (cc (there refl))
kept None false constant there = refl

some_map : {X Y : Type 0} (f : X → Y) (o : Option X) → is_some (option_map f o) ≡ is_some o
some_map f None = refl
some_map f (Some x) = refl

pub constant_kept : (left : Left) (constant : Declared) (name : List ℕ) →
    is_some (lookup (λ key. same_text constant.shape.name key.now) left.constants.entries) ≡ true →
    left_constant left name ≡ option_or (left_constant left name) (option_map shaped (find (λ other. same_text name other.shape.name) (constant ∷ [])))
constant_kept left constant name there =
    kept (left_constant left name) (same_text name constant.shape.name) constant
    (λ same. subst (λ (n : List ℕ). is_some (left_constant left n) ≡ true) (sym ((bytes_decides name constant.shape.name).0 same))
    (some_map plain_constant (lookup (λ key. same_text constant.shape.name key.now) left.constants.entries) ∙ there))

put : (old new : Option Constant') (value : Constant') (constant : Declared) (same : Bool) → new ≡ cond same (Some value) old → (same ≡ true → is_some old ≡ false) →
    plain_constant value ≡ shaped constant →
    option_map plain_constant new ≡ option_or (option_map plain_constant old) (option_map shaped (cond same (Some constant) None))
put None new value constant true is none e = ap (option_map plain_constant) is ∙ ap Some e
put (Some x) new value constant true is none e = absurd (cc (none refl))
put old new value constant false is none e = ap (option_map plain_constant) is ∙ sym (or_none (option_map plain_constant old))

pub constant_put : (old new : Left) (value : Constant') (constant : Declared) (name : List ℕ) →
    is_some (lookup (λ key. same_text constant.shape.name key.now) old.constants.entries) ≡ false → plain_constant value ≡ shaped constant →
    lookup (λ key. same_text name key.now) new.constants.entries ≡ cond (same_text constant.shape.name name) (Some value) (lookup (λ key. same_text name key.now) old.constants.entries) →
    left_constant new name ≡ option_or (left_constant old name) (option_map shaped (find (λ other. same_text name other.shape.name) (constant ∷ [])))
constant_put old new value constant name none is_value is =
    put _ _ value constant (same_text name constant.shape.name)
    (is ∙ ap (λ same. cond same (Some value) (lookup (λ key. same_text name key.now) old.constants.entries)) (same_swap constant.shape.name name))
    (λ same. subst (λ (n : List ℕ). is_some (lookup (λ key. same_text n key.now) old.constants.entries) ≡ false) (sym ((bytes_decides name constant.shape.name).0 same)) none)
    is_value

pub counts_same : (m n : ℕ) (result rest : Bool) → m ≡ n → result ≡ rest → result ≡ ((m == n) && rest)
counts_same m n result rest e is = is ∙ here (eqb_tells m n)
  where
    here : ((eqb m n ≡ true) × (m ≡ n)) ⊎ ((eqb m n ≡ false) × (m ≢ n)) → rest ≡ (eqb m n && rest)
    here (inl same) = ap (λ b. b && rest) (sym same.0)
    here (inr other) = absurd (other.1 e)
