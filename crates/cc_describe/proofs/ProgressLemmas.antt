-- What a statement that is taken up adds to what was read.
use Rattle.std.proofs.Common.{◌≡◌, ◌∙◌, ℕ, ◌+◌, Bool, true, false, ◌||◌, cond, List, [], ◌∷◌, ◌++◌, length, map, flat_map, Option, Some, None, IfSome, IsTrue, Result, Ok, Err, IfOk, IfErr, OnOk, inl, inr, refl, sym, ap, subst, append-nil, arith, true≢false}
use Rattle.std.specs.List.{list_any}
use Rattle.std.specs.Result.{IsErrAnd}
use Rattle.std.proofs.lemmas.Bool.{lt-ltb}
use Rattle.std.proofs.lemmas.List.Concat.{flat_map-cons}
use Rattle.std.proofs.lemmas.List.Folds.{list_any-append}
use Rattle.cc_defs.specs.DeclarationFaults.{declaration_refusal}
use Rattle.cc_defs.specs.Declarations.{Declaration, declarations_of, part_declarations}
use Rattle.cc_defs.specs.declared.refusal.Fault.{Fault}
use Rattle.cc_defs.specs.declared.refusal.Fault.TheVariants as faults
use Rattle.cc_defs.specs.Refusals.{IsRefusedBy, least, refused}
use Rattle.cc_defs.specs.Resolved.{Query, plain_base_law, plain_query}
use Rattle.cc_defs.specs.Statements.{IsParsed}
use Rattle.cc_defs.specs.Tokens.{TokenView}
use Rattle.cc_defs.specs.Trees.{PlainPart, PlainQueryItem, PlainLaw, PlainTree, PlainStatement}
use Rattle.cc_defs.specs.Trees as trees
use Rattle.cc_laws.specs.Expansion.{base_laws}
use Rattle.cc_laws.specs.FreeVariables.{optional}
use Rattle.cc_laws.specs.Questions.{labels_in, has_two, first, items_of, query_faults, query_refusal, Asks}
use Rattle.cc_laws.specs.Vocabulary.{Vocabulary, vocabulary}
use Rattle.cc_laws.specs.Widening.{wide_laws}
use Rattle.cc_sorts.specs.Tables.{TableView, IsTable, Declares}
use Rattle.cc_syntax.specs.Parsing.{HasRefused}
use Rattle.cc_wide.specs.WideLaws.{plain_wide_base}
use Rattle.cc_describe.specs.declared.heads.Heads.{Heads}
use Rattle.cc_describe.specs.declared.heads.Heads.TheVariants as heads
use Rattle.cc_describe.specs.declared.progress.Progress.{Progress}
use Rattle.cc_describe.specs.Describing.{asked_in, base_laws_at, laws_at, queries_at, wide_at, wide_laws_at}
use Rattle.cc_describe.specs.FirstRefusal.{declared_at, declared_in, labels_at, labelled_in, bytes_at, is_among, asking_refusal, include_refusal, law_refusal_of, statement_refusal}
use Rattle.cc_describe.specs.Places.{Place, Said, included, opened_at}
use Rattle.cc_describe.specs.ProgressViews.{Adds, IsProgress, IsRefusedStatement, IsTaken, Says, declares}
use Rattle.cc_describe.proofs.NoFault.{none_holds, no_number}
use Rattle.cc_describe.proofs.PlacesAppended.{declared_in_behind, labelled_in_behind, opened_in_behind, bytes_in_behind, gathered_one, gathers_laws, gathers_queries, gathers_wide}

-- ---- tests over lists of lists

pub any_in_parts : {X Y Z : Type 0} (test : Z → Bool) (parts : Y → List Z) (of : X → Y) (xs : List X) →
    list_any (λ x. list_any test (parts (of x))) xs ≡ list_any test (flat_map parts (map of xs))
any_in_parts test parts of [] = refl
any_in_parts test parts of (x ∷ xs) =
    ap (λ found. list_any test (parts (of x)) || found) (any_in_parts test parts of xs)
    ∙ sym (list_any-append test (parts (of x)) (flat_map parts (map of xs)))
    ∙ ap (list_any test) (sym (flat_map-cons parts (of x) (map of xs)))

-- a test that fails on all fails on the first
pub fails_on_first : {X : Type 0} (test : X → Bool) (xs : List X) → list_any test xs ≡ false → IfSome (first xs) (λ x. test x ≡ false)
fails_on_first test [] none = tt
fails_on_first test (x ∷ xs) none = at (test x) refl none
  where
    at : (found : Bool) → test x ≡ found → (found || list_any test xs) ≡ false → test x ≡ false
    at true is none = absurd cc
    at false is none = is

-- ---- a place behind others

-- what is kept is that of the places with one behind them, where it has what that one adds
pub step : {which : Heads} (before : List Place) (place : Place) (old new : Progress) → IsProgress which old before →
    new.heads ≡ old.heads →
    IsTable new.table (declared_in before ++ declared_at place) →
    map plain_base_law new.laws.items ≡ map plain_base_law old.laws.items ++ laws_at which before place →
    map plain_wide_base new.wide.items ≡ map plain_wide_base old.wide.items ++ wide_at which before place →
    map plain_query new.queries.items ≡ map plain_query old.queries.items ++ queries_at before place →
    new.labels ≡ old.labels ++ labels_at place →
    new.names.items ≡ old.names.items ++ opened_at place →
    new.bytes ≡ old.bytes + bytes_at place →
    IsProgress which new (before ++ place ∷ [])
step {which} before place old new is heads table laws wide queries labels names bytes = record {
  heads = heads ∙ is.heads;
  table = subst (IsTable new.table) (sym (declared_in_behind before place)) table;
  laws = laws ∙ ap (λ all. all ++ laws_at which before place) is.laws ∙ sym (gathered_one (gathers_laws which) before place);
  wide = wide ∙ ap (λ all. all ++ wide_at which before place) is.wide ∙ sym (gathered_one (gathers_wide which) before place);
  queries = queries ∙ ap (λ all. all ++ queries_at before place) is.queries ∙ sym (gathered_one gathers_queries before place);
  labels = labels ∙ ap (λ all. all ++ labels_at place) is.labels ∙ sym (labelled_in_behind before place);
  names = names ∙ ap (λ all. all ++ opened_at place) is.names ∙ sym (opened_in_behind before place);
  bytes = bytes ∙ ap (λ all. all + bytes_at place) is.bytes ∙ sym (bytes_in_behind before place);
}

pub nothing_more : {X : Type 0} (old new more : List X) → new ≡ old → more ≡ [] → new ≡ old ++ more
nothing_more old new more same none = same ∙ sym (append-nil old) ∙ ap (λ l. old ++ l) (sym none)

-- ---- laws with the heads that they are to have

-- those of a statement are behind the others
adds_both : (which : Heads) (before : List Place) (file : ℕ) (statement : PlainStatement) (old new : Progress) →
    Adds which file (declared_in before ++ declarations_of file statement) statement old new →
    (map plain_base_law new.laws.items ≡ map plain_base_law old.laws.items ++ base_laws_at which before file statement)
    × (map plain_wide_base new.wide.items ≡ map plain_wide_base old.wide.items ++ wide_laws_at which before file statement)
adds_both heads.Definite before file statement old new (laws, same) = (laws, nothing_more _ _ _ (ap (λ l. map plain_wide_base l.items) same) refl)
adds_both heads.Any before file statement old new (wide, same) = (nothing_more _ _ _ (ap (λ l. map plain_base_law l.items) same) refl, wide)

-- what stands for none, with heads of either form
abbrev HasNoLaws : PlainPart → Type 0
HasNoLaws part = (file : ℕ) (v : Vocabulary) (line : ℕ) → (base_laws file v line part ≡ []) × (wide_laws file v line part ≡ [])

no_laws : (which : Heads) (before : List Place) (file : ℕ) (statement : PlainStatement) → HasNoLaws statement.part →
    (base_laws_at which before file statement ≡ []) × (wide_laws_at which before file statement ≡ [])
no_laws heads.Definite before file statement none = ((none file (vocabulary (declared_in before ++ declarations_of file statement)) statement.line).0, refl)
no_laws heads.Any before file statement none = (refl, (none file (vocabulary (declared_in before ++ declarations_of file statement)) statement.line).1)

-- ---- statements of declarations

module _ (which : Heads) (before : List Place) (file : ℕ) (around : List (List ℕ)) where
  pub judged : (statement : PlainStatement) (part : PlainPart) → IsTrue (declares part) →
      statement_refusal which before file around statement part ≡ declaration_refusal file (declared_in before) statement
  judged statement (trees.Sorts items) declaring = refl
  judged statement (trees.Objects items) declaring = refl
  judged statement (trees.Variables items) declaring = refl
  judged statement (trees.Constants items) declaring = refl
  judged statement (trees.Query items) declaring = absurd cc
  judged statement (trees.Include name) declaring = absurd cc
  judged statement (trees.Law law test) declaring = absurd cc

  asks_nothing : (statement : PlainStatement) (part : PlainPart) → IsTrue (declares part) → asked_in before file statement part ≡ []
  asks_nothing statement (trees.Sorts items) declaring = refl
  asks_nothing statement (trees.Objects items) declaring = refl
  asks_nothing statement (trees.Variables items) declaring = refl
  asks_nothing statement (trees.Constants items) declaring = refl
  asks_nothing statement (trees.Query items) declaring = absurd cc
  asks_nothing statement (trees.Include name) declaring = absurd cc
  asks_nothing statement (trees.Law law test) declaring = absurd cc

  labels_nothing : (part : PlainPart) → IsTrue (declares part) → flat_map labels_in (items_of part) ≡ []
  labels_nothing (trees.Sorts items) declaring = refl
  labels_nothing (trees.Objects items) declaring = refl
  labels_nothing (trees.Variables items) declaring = refl
  labels_nothing (trees.Constants items) declaring = refl
  labels_nothing (trees.Query items) declaring = absurd cc
  labels_nothing (trees.Include name) declaring = absurd cc
  labels_nothing (trees.Law law test) declaring = absurd cc

  -- the declarations are in the table, and the laws behind the others
  pub says_declared : (statement : PlainStatement) (old new : Progress) (table : TableView) → IsTrue (declares statement.part) → IsProgress which old before →
      Declares file (declared_in before) statement table →
      new ≡ record old { table = table; laws = new.laws; wide = new.wide } →
      Adds old.heads file (declared_in before ++ declarations_of file statement) statement (record old { table = table }) new →
      Says which before file around statement new
  says_declared statement old new table declaring is declared rest adds =
      let both = adds_both which before file statement (record old { table = table }) new
      (subst (λ w. Adds w file (declared_in before ++ declarations_of file statement) statement (record old { table = table }) new) is.heads adds) in record {
        unrefused = judged statement statement.part declaring ∙ declared.0;
        taken = step before (Said file around statement) old new is
            (ap (λ progress. progress.heads) rest)
            (subst (λ table. IsTable table (declared_in before ++ declarations_of file statement)) (sym (ap (λ progress. progress.table) rest)) declared.1)
            both.0
            both.1
            (nothing_more _ _ _ (ap (λ progress. map plain_query progress.queries.items) rest) (asks_nothing statement statement.part declaring))
            (nothing_more _ _ _ (ap (λ progress. progress.labels) rest) (labels_nothing statement.part declaring))
            (nothing_more _ _ _ (ap (λ progress. progress.names.items) rest) refl)
            (let one = ap (λ progress. progress.bytes) rest in omega arith);
      }

  -- ---- laws

  -- its laws are behind the others
  pub says_law : (statement : PlainStatement) (law : PlainLaw) (test : Option PlainTree) (old new : Progress) → statement.part ≡ trees.Law law test →
      IsProgress which old before →
      law_refusal_of old.heads file (vocabulary (declared_in before)) statement ≡ None →
      Adds old.heads file (declared_in before) statement old new →
      new ≡ record old { laws = new.laws; wide = new.wide } →
      Says which before file around statement new
  says_law statement law test old new part is unrefused adds rest =
      let nothing : declared_in before ≡ declared_in before ++ declarations_of file statement =
      nothing_more _ _ _ refl (ap (part_declarations file statement.line) part) in
      let both = adds_both which before file statement old new
      (subst (λ left. Adds which file left statement old new) nothing (subst (λ w. Adds w file (declared_in before) statement old new) is.heads adds)) in
      record {
        unrefused = ap (statement_refusal which before file around statement) part ∙ ap (λ w. law_refusal_of w file (vocabulary (declared_in before)) statement) (sym is.heads) ∙ unrefused;
        taken = step before (Said file around statement) old new is
            (ap (λ progress. progress.heads) rest)
            (subst (λ table. IsTable table (declared_in before ++ declarations_of file statement)) (sym (ap (λ progress. progress.table) rest)) (subst (IsTable old.table) nothing is.table))
            both.0
            both.1
            (nothing_more _ _ _ (ap (λ progress. map plain_query progress.queries.items) rest) (ap (asked_in before file statement) part))
            (nothing_more _ _ _ (ap (λ progress. progress.labels) rest) (ap (λ part. flat_map labels_in (items_of part)) part))
            (nothing_more _ _ _ (ap (λ progress. progress.names.items) rest) refl)
            (let one = ap (λ progress. progress.bytes) rest in omega arith);
      }

  -- ---- includes

  -- nothing is kept
  pub says_include : (statement : PlainStatement) (name : List ℕ) (old : Progress) → statement.part ≡ trees.Include name →
      IsProgress which old before →
      include_refusal file around statement.line name ≡ None →
      Says which before file around statement old
  says_include statement name old part is unrefused =
      let none = no_laws which before file statement (subst HasNoLaws (sym part) (λ file v line. (refl, refl))) in record {
        unrefused = ap (statement_refusal which before file around statement) part ∙ unrefused;
        taken = step before (Said file around statement) old old is
            refl
            (subst (IsTable old.table) (nothing_more _ _ _ refl (ap (part_declarations file statement.line) part)) is.table)
            (nothing_more _ _ _ refl none.0)
            (nothing_more _ _ _ refl none.1)
            (nothing_more _ _ _ refl (ap (asked_in before file statement) part))
            (nothing_more _ _ _ refl (ap (λ part. flat_map labels_in (items_of part)) part))
            (nothing_more _ _ _ refl refl)
            (omega arith);
      }

-- ---- queries

one_at_most : {X : Type 0} (xs : List X) → has_two xs ≡ false → xs ≡ optional (first xs)
one_at_most [] few = refl
one_at_most (x ∷ []) few = refl
one_at_most (x ∷ y ∷ xs) few = absurd (true≢false (sym (lt-ltb 1 (length (x ∷ y ∷ xs)) (omega arith)) ∙ few))

first_false : (a b : Bool) → (a || b) ≡ false → a ≡ false
first_false true b none = none
first_false false b none = refl

-- a query with no fault gives at most one label
pub one_label : (file : ℕ) (v : Vocabulary) (statement : PlainStatement) → query_refusal file v statement ≡ None →
    flat_map labels_in (items_of statement.part) ≡ optional (first (flat_map labels_in (items_of statement.part)))
one_label file v statement none =
    one_at_most (flat_map labels_in (items_of statement.part)) (first_false (has_two (flat_map labels_in (items_of statement.part))) _
    (none_holds (query_faults v (items_of statement.part)) (no_number file statement.line (least (query_faults v (items_of statement.part))) none)).0)

-- an earlier query has one of the labels
pub is_taken_label : (before : List Place) (file : ℕ) (statement : PlainStatement) →
    list_any (is_among (labelled_in before)) (flat_map labels_in (items_of statement.part)) ≡ true →
    asking_refusal before file statement ≡ Some (refused 4 file statement.line)
is_taken_label before file statement taken =
    ap (λ found. cond found (Some (refused 4 file statement.line)) (query_refusal file (vocabulary (declared_in before)) statement)) taken

-- none has
pub no_taken_label : (before : List Place) (file : ℕ) (statement : PlainStatement) →
    list_any (is_among (labelled_in before)) (flat_map labels_in (items_of statement.part)) ≡ false →
    asking_refusal before file statement ≡ query_refusal file (vocabulary (declared_in before)) statement
no_taken_label before file statement free =
    ap (λ found. cond found (Some (refused 4 file statement.line)) (query_refusal file (vocabulary (declared_in before)) statement)) free

-- the label of a query that gives none of these is new
pub new_label : (labels : List (List ℕ)) (left : List Declaration) (file : ℕ) (statement : PlainStatement) (items : List PlainQueryItem) (query : Query) →
    statement.part ≡ trees.Query items →
    list_any (is_among labels) (flat_map labels_in items) ≡ false →
    Asks file left statement query →
    IfSome query.label (λ label. is_among labels label ≡ false)
new_label labels left file statement items query part free asks =
    subst (λ label. IfSome label (λ label. is_among labels label ≡ false))
    (sym (ap (λ asked. asked.label) asks.1 ∙ ap (λ part. first (flat_map labels_in (items_of part))) part))
    (fails_on_first (is_among labels) (flat_map labels_in items) free)

-- the query and its label are behind the others
pub says_query : {which : Heads} (before : List Place) (file : ℕ) (around : List (List ℕ)) (statement : PlainStatement) (items : List PlainQueryItem) (old new : Progress) (query : Query) →
    statement.part ≡ trees.Query items → IsProgress which old before →
    list_any (is_among old.labels) (flat_map labels_in items) ≡ false →
    Asks file (declared_in before) statement query →
    map plain_query new.queries.items ≡ map plain_query old.queries.items ++ query ∷ [] →
    new.labels ≡ old.labels ++ optional query.label →
    new ≡ record old { queries = new.queries; labels = new.labels } →
    Says which before file around statement new
says_query {which} before file around statement items old new query part is free asks queries labels rest =
    let these : flat_map labels_in (items_of statement.part) ≡ flat_map labels_in items = ap (λ part. flat_map labels_in (items_of part)) part in
    let none : list_any (is_among (labelled_in before)) (flat_map labels_in (items_of statement.part)) ≡ false =
    ap (λ l. list_any (is_among l) (flat_map labels_in (items_of statement.part))) (sym is.labels) ∙ ap (list_any (is_among old.labels)) these ∙ free in
    let lawless = no_laws which before file statement (subst HasNoLaws (sym part) (λ file v line. (refl, refl))) in
    record {
      unrefused = ap (statement_refusal which before file around statement) part ∙ no_taken_label before file statement none ∙ asks.0;
      taken = step before (Said file around statement) old new is
          (ap (λ progress. progress.heads) rest)
          (subst (λ table. IsTable table (declared_in before ++ declarations_of file statement)) (sym (ap (λ progress. progress.table) rest))
          (subst (IsTable old.table) (nothing_more _ _ _ refl (ap (part_declarations file statement.line) part)) is.table))
          (nothing_more _ _ _ (ap (λ progress. map plain_base_law progress.laws.items) rest) lawless.0)
          (nothing_more _ _ _ (ap (λ progress. map plain_wide_base progress.wide.items) rest) lawless.1)
          (queries ∙ ap (λ asked. map plain_query old.queries.items ++ asked ∷ []) asks.1 ∙ ap (λ more. map plain_query old.queries.items ++ more) (sym (ap (asked_in before file statement) part)))
          (labels ∙ ap (λ asked. old.labels ++ optional asked.label) asks.1 ∙ ap (λ more. old.labels ++ more) (sym (one_label file (vocabulary (declared_in before)) statement asks.0)))
          (nothing_more _ _ _ (ap (λ progress. progress.names.items) rest) refl)
          (let one = ap (λ progress. progress.bytes) rest in omega arith);
    }

-- ---- statements, by their tokens

pub taken_by_tree : (which : Heads) {T E : Type 0} (of : T → Option (List ℕ)) (result : Result T E) (before : List Place) (file : ℕ) (around : List (List ℕ)) (tokens : List TokenView)
    (statement : PlainStatement) (new : Progress) → IsParsed tokens statement →
    OnOk result (Says which before file around statement new) → IfOk result (λ name. of name ≡ included statement.part) →
    IfOk result (λ name. IsTaken which before file around tokens (of name) new)
taken_by_tree which of (Ok name) before file around tokens statement new parsed says is = (statement, parsed, is, says)
taken_by_tree which of (Err fault) before file around tokens statement new parsed says is = tt

pub refused_by_tree : {T : Type 0} (which : Heads) (before : List Place) (file : ℕ) (around : List (List ℕ)) (tokens : List TokenView) (statement : PlainStatement) (result : Result T Fault) → IsParsed tokens statement →
    IfErr result (IsRefusedBy (statement_refusal which before file around statement statement.part)) → IfErr result (IsRefusedStatement which before file around tokens)
refused_by_tree which before file around tokens statement (Ok name) parsed is = tt
refused_by_tree which before file around tokens statement (Err (faults.Refused refusal)) parsed is = inr (statement, parsed, is)
refused_by_tree which before file around tokens statement (Err faults.OutOfMemory) parsed is = tt

-- at the exit of a call that did not succeed
pub errs : {X E : Type 0} (P : E → Type 0) (result : Result X E) (error : E) → IsErrAnd result (λ given. given ≡ error) → P error → IfErr result P
errs P (Ok x) error is so = tt
errs P (Err given) error is so = subst P (sym is) so

pub refused_by_text : (which : Heads) (before : List Place) (file : ℕ) (around : List (List ℕ)) (tokens : List TokenView) (fault : Fault) → HasRefused file tokens fault → IsRefusedStatement which before file around tokens fault
refused_by_text which before file around tokens (faults.Refused refusal) is = inl is
refused_by_text which before file around tokens faults.OutOfMemory is = tt
