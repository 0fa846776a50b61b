-- The base laws of declared constants have the forms of their kinds: the name of each means the constant that is declared there.
use Rattle.std.proofs.Common.{◌≡◌, ◌∙◌, ℕ, zero, suc, ◌+◌, ◌<◌, cond, Bool, true, false, List, [], ◌∷◌, ◌++◌, length, map, flat_map, slice_get, Option, Some, None, refl, sym, ap, subst, arith, append_assoc}
use Rattle.std.specs.Prelude.{if◌then◌else◌, ◌&&◌, codes, find, is_none, nat_lt, unwrap_or}
use Rattle.std.specs.Cmp.Lexicographic.{bytes_decides}
use Rattle.std.specs.List.{AllByRecursion, list_any, position_from, position_or_len}
use Rattle.std.proofs.lemmas.Bool.{ltb-true, or_parts}
use Rattle.std.proofs.lemmas.Grind.{flat_map-append}
use Rattle.std.proofs.lemmas.Iterator.Adapters.{position_from-zero}
use Rattle.std.proofs.lemmas.List.{length-map}
use Rattle.std.proofs.lemmas.Option.{slice_get_within}
use Rattle.cc_defs.specs.declared.signature.Symbol.{Symbol}
use Rattle.cc_defs.specs.declared.tree.KindWord.{KindWord}
use Rattle.cc_defs.specs.declared.tree.KindWord.TheVariants as kind_words
use Rattle.cc_defs.specs.DeclarationFaults.{any_has, constant_named, declaration_fault, declaration_refusal, is_twice, refusal_for}
use Rattle.cc_defs.specs.Declarations.{Declaration, Sort, Link, Subsort, Object, Span, Number, Variable, Constant, Kinds, Declared, action_of, constant_declarations, constant_declared, constant_names, constants, kind_of_constant, kind_of_word, number_in, puts, symbol_of, symbols, variables}
use Rattle.cc_defs.specs.Forms.{IsDeclared, is_simple, terms_symbols}
use Rattle.cc_defs.specs.Grammar.{same_text}
use Rattle.cc_defs.specs.Resolved.{Terms}
use Rattle.cc_defs.specs.Trees.{PlainConstItem, PlainKind, PlainShape, PlainStatement}
use Rattle.cc_defs.specs.Trees as trees
use Rattle.cc_laws.specs.Expansion.{Frame, Persistence, Exogenous, Inertial, Rigid, attribute_law, attribute_laws, base_laws, value_law, constant_laws, item_laws, kind_laws, lasting_laws, persistence_for, places, shape_frame}
use Rattle.cc_laws.specs.Laws.{ConstantsHaveForms, WideConstantsHaveForms, with_constants}
use Rattle.cc_laws.specs.Vocabulary.{Vocabulary, vocabulary, Meaning, as_constant, as_object, as_variable, constant_at, meaning}
use Rattle.cc_laws.specs.Vocabulary as words
use Rattle.cc_sorts.specs.Dictionaries.{number_of, names_of}
use Rattle.cc_laws.proofs.EachOf.{each_of_both, slice_mapped}
use Rattle.cc_laws.proofs.FormsOfSplits.{AreFormed, GoesOn, IsFormed, base_forms, declared_at, wide_forms}
use Rattle.cc_laws.proofs.FormsOfValues.{MayLast, value_form}
use Rattle.cc_laws.proofs.MoreSymbols.{goes_on}
use Rattle.cc_laws.proofs.SymbolsMeant.{IsIn, meaning_in}

-- ---- a name that is declared once

abbrev called : List ℕ → Declared → Bool
called name constant = same_text name constant.shape.name

same_as_itself : (name : List ℕ) → same_text name name ≡ true
same_as_itself name = (bytes_decides name name).1 refl

found_behind : (name : List ℕ) (before others : List Declared) (own : Declared) → list_any (same_text name) (map (λ (c : Declared). c.shape.name) before) ≡ false →
    same_text name own.shape.name ≡ true → find (called name) (before ++ own ∷ others) ≡ Some own
found_behind name [] others own none is = rw is refl
found_behind name (first ∷ before) others own none is =
    let parts = or_parts (same_text name first.shape.name) (list_any (same_text name) (map (λ (c : Declared). c.shape.name) before)) none in
    rw (parts.0) (found_behind name before others own parts.1 is)

-- the first constant of its name is it
abbrev IsFirst : List Declaration → Declared → Type 0
IsFirst declarations constant = constant_named declarations constant.shape.name ≡ Some constant

first_itself : (before others : List Declaration) (declaration : Declaration) → is_twice before declaration ≡ false →
    AllByRecursion (IsFirst (before ++ declaration ∷ others)) (constant_declared declaration)
first_itself before others (Constant shape kind file line) new =
    let own : Declared = record { shape = shape; kind = kind; file = file; line = line } in
    let named = or_parts (list_any (λ variable. same_text shape.name variable.0) (variables before)) (list_any (same_text shape.name) (constant_names before))
    (or_parts (list_any (λ put. is_none put.number && same_text shape.name put.name) (puts before)) _ new).1 in
    let whole : constants (before ++ Constant shape kind file line ∷ others) ≡ constants before ++ own ∷ constants others =
    flat_map-append constant_declared before (Constant shape kind file line ∷ others) in (
      ap (find (called shape.name)) whole ∙ found_behind shape.name (constants before) (constants others) own named.1 (same_as_itself shape.name),
      tt,
    )
first_itself before others (Sort name) new = tt
first_itself before others (Link name) new = tt
first_itself before others (Subsort upper lower) new = tt
first_itself before others (Object name sort) new = tt
first_itself before others (Span low high sort) new = tt
first_itself before others (Number value sort) new = tt
first_itself before others (Variable name sort) new = tt
first_itself before others (Kinds shapes kind) new = tt

all_first : (before new : List Declaration) → any_has is_twice before new ≡ false → AllByRecursion (IsFirst (before ++ new)) (constants new)
all_first before [] none = tt
all_first before (declaration ∷ others) none =
    let parts = or_parts (is_twice before declaration) (any_has is_twice (before ++ declaration ∷ []) others) none in
    let P : List Declaration → Type 0 = λ w. AllByRecursion (IsFirst w) (constants others) in
    each_of_both (IsFirst (before ++ declaration ∷ others)) (constant_declared declaration) (constants others) (first_itself before others declaration parts.0)
    (subst P (append_assoc before (declaration ∷ []) others) (all_first (before ++ declaration ∷ []) others parts.1))

-- ---- what its name means

abbrev symbol_names : Vocabulary → List (List ℕ)
symbol_names v = map (λ symbol. symbol.name) v.symbols

-- a constant that a name means is the first of this name
abbrev IsNamed : Vocabulary → List ℕ → Meaning → Type 0
IsNamed v name (words.Constant number symbol) = number_of (symbol_names v) name ≡ Some number
IsNamed v name words.Unknown = Unit {0}
IsNamed v name words.Nothing = Unit {0}
IsNamed v name (words.Object number sort) = Unit {0}
IsNamed v name (words.Variable number sort) = Unit {0}

named_constant : (v : Vocabulary) (name : List ℕ) (number : ℕ) (found : Option Symbol) → number_of (symbol_names v) name ≡ Some number → IsNamed v name (constant_at number found)
named_constant v name number None e = tt
named_constant v name number (Some symbol) e = e

named_as_constant : (v : Vocabulary) (name : List ℕ) (found : Option ℕ) → number_of (symbol_names v) name ≡ found → IsNamed v name (as_constant v found)
named_as_constant v name None e = tt
named_as_constant v name (Some number) e = named_constant v name number (slice_get v.symbols number) e

named_as_variable : (v : Vocabulary) (name : List ℕ) (found : Option ℕ) → IsNamed v name (as_variable v name found)
named_as_variable v name None = named_as_constant v name (number_of (symbol_names v) name) refl
named_as_variable v name (Some number) = tt

named_as_object : (v : Vocabulary) (name : List ℕ) (found : Option ℕ) → IsNamed v name (as_object v name found)
named_as_object v name None = named_as_variable v name (number_of (names_of v.variables) name)
named_as_object v name (Some number) = tt

meaning_named : (v : Vocabulary) (name : List ℕ) → IsNamed v name (meaning v name)
meaning_named v name = choose (same_text name (codes "none"))
  where
    choose : (is : Bool) → IsNamed v name (if is then words.Nothing else as_object v name (number_of (names_of v.objects) name))
    choose true = tt
    choose false = named_as_object v name (number_of (names_of v.objects) name)

module _ (left : List Declaration) (name : List ℕ) where
  -- the place of the first constant of the name
  record StandsAt (n number : ℕ) (all : List Declared) (own : Declared) : Type 0 where
    place : ℕ
    is : number ≡ n + place
    at : slice_get all place ≡ Some own

  first_place : (n number : ℕ) (all : List Declared) (own : Declared) → position_from (same_text name) n (map (λ (s : Symbol). s.name) (map (symbol_of left) all)) ≡ Some number →
      find (called name) all ≡ Some own → StandsAt n number all own
  first_place n number [] own e found = absurd cc
  first_place n number (first ∷ others) own e found =
      step (same_text name first.shape.name) n number first others own e found (first_place (n + 1) number others own)
    where
      step : (here : Bool) (n number : ℕ) (first : Declared) (others : List Declared) (own : Declared) →
          cond here (Some n) (position_from (same_text name) (n + 1) (map (λ (s : Symbol). s.name) (map (symbol_of left) others))) ≡ Some number →
          cond here (Some first) (find (called name) others) ≡ Some own →
          (position_from (same_text name) (n + 1) (map (λ (s : Symbol). s.name) (map (symbol_of left) others)) ≡ Some number → find (called name) others ≡ Some own → StandsAt (n + 1) number others own) →
          StandsAt n number (first ∷ others) own
      step true n number first others own e found rest = let same : n ≡ number = cc in record { place = 0; is = omega arith; at = found }
      step false n number first others own e found rest = let more = rest e found in let is = more.is in record { place = suc more.place; is = omega arith; at = more.at }

  -- the symbol that the name means has the kind of the constant
  kind_is : (number : ℕ) (symbol : Symbol) (own : Declared) → number_of (symbol_names (vocabulary left)) name ≡ Some number → slice_get (symbols left) number ≡ Some symbol →
      constant_named left name ≡ Some own → symbol.kind ≡ kind_of_constant own.kind
  kind_is number symbol own e is found =
      let stands = first_place 0 number (constants left) own (sym (position_from-zero (same_text name) (symbol_names (vocabulary left))) ∙ e) found in
      let place : number ≡ stands.place = let i = stands.is in omega arith in
      let at = slice_mapped (symbol_of left) (constants left) number symbol is in
      let same : Some at.0 ≡ Some own = sym at.1 ∙ ap (slice_get (constants left)) place ∙ stands.at in
      let one : at.0 ≡ own = cc in
      ap (λ (w : Symbol). w.kind) at.2 ∙ ap (λ (w : Declared). kind_of_constant w.kind) one

-- ---- the action of an attribute

number_of_some : (names : List (List ℕ)) (name : List ℕ) → 0 < length names → number_in names name < length names
number_of_some names name some = choose (nat_lt (position_or_len (same_text name) names) (length names)) refl
  where
    choose : (within : Bool) → nat_lt (position_or_len (same_text name) names) (length names) ≡ within →
        unwrap_or (cond within (Some (position_or_len (same_text name) names)) None) 0 < length names
    choose true e = ltb-true (position_or_len (same_text name) names) (length names) e
    choose false e = some

there : {X : Type 0} (xs : List X) (k : ℕ) → k < length xs → (x : X) × (slice_get xs k ≡ Some x)
there [] k within = absurd (omega arith)
there (x ∷ xs) zero within = (x, refl)
there (x ∷ xs) (suc k) within = there xs k (omega arith)

action_within : (left : List Declaration) (kind : PlainKind) (action : ℕ) → 0 < length (symbols left) → action_of left kind ≡ Some action → action < length (symbols left)
action_within left (trees.Plain word sort) action some e = absurd cc
action_within left (trees.Attribute sort shape) action some e =
    let names : length (constant_names left) ≡ length (constants left) = length-map (constants left) (λ (c : Declared). c.shape.name) in
    let count : length (symbols left) ≡ length (constants left) = length-map (constants left) (symbol_of left) in
    let within = number_of_some (constant_names left) shape.name (omega arith) in
    let is : number_in (constant_names left) shape.name ≡ action = cc in
    omega arith

attribute_within : (left : List Declaration) (number : ℕ) (symbol : Symbol) (action : ℕ) → slice_get (symbols left) number ≡ Some symbol → symbol.attribute ≡ Some action → action < length (symbols left)
attribute_within left number symbol action is e =
    let at = slice_mapped (symbol_of left) (constants left) number symbol is in
    let within = slice_get_within (symbols left) number symbol is in
    action_within left at.0.kind action (omega arith) (ap (λ (w : Symbol). w.attribute) (sym at.2) ∙ e)

-- ---- the laws of a constant

no_place_symbols : (place : ℕ) (sorts : List ℕ) → terms_symbols (places place sorts) ≡ []
no_place_symbols place [] = refl
no_place_symbols place (sort ∷ sorts) = no_place_symbols (place + 1) sorts

module _ (left : List Declaration) (others : List Symbol) (goes : GoesOn (symbols left) others) (file line : ℕ) where
  module _ (number : ℕ) (symbol : Symbol) (is : slice_get (symbols left) number ≡ Some symbol) where
    abbrev frame : Frame
    frame = shape_frame file line symbol.sorts

    abbrev args : Terms
    args = places 0 symbol.sorts

    own_form : (persistence : Persistence) → MayLast persistence symbol → IsFormed others (value_law (vocabulary left) frame persistence number args)
    own_form persistence may = value_form (vocabulary left) others goes number symbol is args (no_place_symbols 0 symbol.sorts) frame persistence may

    lasting_forms : (persistence : Option Persistence) → ((p : Persistence) → persistence ≡ Some p → MayLast p symbol) → AreFormed others (lasting_laws (vocabulary left) frame persistence number args)
    lasting_forms None may = tt
    lasting_forms (Some persistence) may = (own_form persistence (may persistence refl), tt)

    attribute_form : (action : ℕ) → symbol.attribute ≡ Some action → IsFormed others (attribute_law (vocabulary left) frame number action args)
    attribute_form action e =
        let within = attribute_within left number symbol action is e in
        let found = there (symbols left) action within in
        let all : AllByRecursion (IsDeclared others) (number ∷ action ∷ []) =
        (declared_at (vocabulary left) others goes number symbol is, (declared_at (vocabulary left) others goes action found.0 found.1, tt)) in
        let bare = no_place_symbols 0 symbol.sorts in (
          record { head = tt; body = (tt, refl); after = _; written = refl; declared = rw bare all },
          record { head = (tt, refl); body = (tt, refl); after = _; written = refl; declared = rw bare all },
        )

    attribute_forms : (action : Option ℕ) → symbol.attribute ≡ action → AreFormed others (attribute_laws (vocabulary left) frame number action args)
    attribute_forms None e = tt
    attribute_forms (Some action) e = (own_form Exogenous tt, (attribute_form action e, tt))

    may_last : (word : KindWord) → symbol.kind ≡ kind_of_word word → (p : Persistence) → persistence_for word ≡ Some p → MayLast p symbol
    may_last kind_words.Simple e p is = absurd cc
    may_last kind_words.Determined e p is = absurd cc
    may_last kind_words.Action e p is = absurd cc
    may_last kind_words.Inertial e Inertial is = ap is_simple e
    may_last kind_words.Inertial e Exogenous is = tt
    may_last kind_words.Inertial e Rigid is = ap is_simple e
    may_last kind_words.Rigid e Inertial is = ap is_simple e
    may_last kind_words.Rigid e Exogenous is = tt
    may_last kind_words.Rigid e Rigid is = ap is_simple e
    may_last kind_words.ExogenousAction e Exogenous is = tt
    may_last kind_words.ExogenousAction e Inertial is = absurd cc
    may_last kind_words.ExogenousAction e Rigid is = absurd cc

    kind_forms : (kind : PlainKind) → symbol.kind ≡ kind_of_constant kind → AreFormed others (kind_laws (vocabulary left) frame kind number symbol args)
    kind_forms (trees.Plain word sort) e = lasting_forms (persistence_for word) (may_last word e)
    kind_forms (trees.Attribute sort action) e = attribute_forms symbol.attribute refl

  constant_forms : (kind : PlainKind) (name : List ℕ) (own : Declared) (means : Meaning) → IsIn (vocabulary left) means → IsNamed (vocabulary left) name means →
      constant_named left name ≡ Some own → own.kind ≡ kind → AreFormed others (constant_laws file (vocabulary left) line kind means)
  constant_forms kind name own (words.Constant number symbol) is named found e =
      kind_forms number symbol is kind (kind_is left name number symbol own named is found ∙ ap kind_of_constant e)
  constant_forms kind name own words.Unknown is named found e = tt
  constant_forms kind name own words.Nothing is named found e = tt
  constant_forms kind name own (words.Object number sort) is named found e = tt
  constant_forms kind name own (words.Variable number sort) is named found e = tt

  -- ---- the laws of a statement of constants

  abbrev declared_as : PlainKind → PlainShape → Declared
  declared_as kind shape = record { shape = shape; kind = kind; file = file; line = line }

  shapes_forms : (kind : PlainKind) (shapes : List PlainShape) (rest : List Declaration) →
      AllByRecursion (IsFirst left) (constants (map (λ shape. Constant shape kind file line) shapes ++ rest)) →
      AreFormed others (flat_map (λ shape. constant_laws file (vocabulary left) line kind (meaning (vocabulary left) shape.name)) shapes) × AllByRecursion (IsFirst left) (constants rest)
  shapes_forms kind [] rest all = (tt, all)
  shapes_forms kind (shape ∷ shapes) rest all =
      let more = shapes_forms kind shapes rest all.1 in
      let name = shape.name in (
        each_of_both (IsFormed others) (constant_laws file (vocabulary left) line kind (meaning (vocabulary left) name))
            (flat_map (λ shape. constant_laws file (vocabulary left) line kind (meaning (vocabulary left) shape.name)) shapes)
            (constant_forms kind name (declared_as kind shape) (meaning (vocabulary left) name) (meaning_in (vocabulary left) name) (meaning_named (vocabulary left) name) all.0 refl) more.0,
        more.1,
      )

  items_forms : (items : List PlainConstItem) → AllByRecursion (IsFirst left) (constants (flat_map (constant_declarations file line) items)) →
      AreFormed others (flat_map (item_laws file (vocabulary left) line) items)
  items_forms [] all = tt
  items_forms (item ∷ items) all =
      let rest = flat_map (constant_declarations file line) items in
      let P : List Declaration → Type 0 = λ w. AllByRecursion (IsFirst left) (constants w) in
      let parts = shapes_forms item.kind item.shapes (Kinds item.shapes item.kind ∷ rest)
      (subst P (append_assoc (map (λ shape. Constant shape item.kind file line) item.shapes) (Kinds item.shapes item.kind ∷ []) rest) all) in
      each_of_both (IsFormed others) (item_laws file (vocabulary left) line item) (flat_map (item_laws file (vocabulary left) line) items) parts.0 (items_forms items parts.1)

-- ---- a statement that is not refused

none_for : (file line : ℕ) (many : Bool) (fault : Option ℕ) → refusal_for file line many fault ≡ None → fault ≡ None
none_for file line many (Some number) e = absurd cc
none_for file line many None e = refl

none_twice : (left new : List Declaration) → declaration_fault left new ≡ None → any_has is_twice left new ≡ false
none_twice left new e = choose (any_has is_twice left new) _ e
  where
    choose : (twice : Bool) (rest : Option ℕ) → (if twice then Some 4 else rest) ≡ None → twice ≡ false
    choose true rest e = absurd cc
    choose false rest e = refl

pub constants_formed : (file line : ℕ) (before more : List Declaration) (items : List PlainConstItem) →
    declaration_refusal file before (record { part = trees.Constants items; line = line }) ≡ None →
    AreFormed (symbols (with_constants file line before items ++ more)) (base_laws file (vocabulary (with_constants file line before items)) line (trees.Constants items))
constants_formed file line before more items none =
    let left = with_constants file line before items in
    let new = flat_map (constant_declarations file line) items in
    let once = none_twice before new (none_for file line _ (declaration_fault before new) none) in
    items_forms left (symbols (left ++ more)) (goes_on left more) file line items (all_first before new once)

pub constants_forms : ConstantsHaveForms
constants_forms file line before more items none =
    base_forms (symbols (with_constants file line before items ++ more)) (base_laws file (vocabulary (with_constants file line before items)) line (trees.Constants items))
    (constants_formed file line before more items none)

pub wide_constants_forms : WideConstantsHaveForms
wide_constants_forms file line before more items none =
    wide_forms (symbols (with_constants file line before items ++ more)) (base_laws file (vocabulary (with_constants file line before items)) line (trees.Constants items))
    (constants_formed file line before more items none)
