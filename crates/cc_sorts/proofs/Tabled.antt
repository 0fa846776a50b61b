-- A register of declarations and what is shown of it.
use Rattle.std.proofs.Common.{◌≡◌, ◌∙◌, ℕ, zero, suc, ◌+◌, Bool, List, [], ◌∷◌, ◌++◌, map, slice_get, slice_index_or, Result, Ok, Err, IfOk, IfErr, OnOk, refl, sym, ap, subst}
use Rattle.std.specs.Prelude.{if◌then◌else◌}
use Rattle.cc_defs.specs.declared.refusal.Fault.{Fault}
use Rattle.cc_defs.specs.declared.refusal.Fault.TheVariants as faults
use Rattle.cc_defs.specs.Declarations.{Declaration, Pair, Put, sort_names, pairs, puts, first_puts, object_of, object_at, placed, members, firsts, numbers_where, number_in, is_below, declarations_of}
use Rattle.cc_defs.specs.Signatures.{Signature}
use Rattle.cc_defs.specs.Trees.{PlainStatement}
use Rattle.cc_sorts.specs.declared.table.PutAt.{PutAt}
use Rattle.cc_sorts.specs.Entered.{IsEntered, IsOfEntered, Enters, HasEntered, IsRefusedFor}
use Rattle.cc_sorts.specs.Shown.{owner, shown_lists, shown}
use Rattle.cc_sorts.specs.Tables.{TableView, IsTable, IsOfDeclarations, Declares, HasFront, HasRefused, IsUnchangedBy, IsSignatureOf, IsSignatureFor, put_at}
use Rattle.cc_sorts.proofs.Grown.{ArePut}
use Rattle.cc_sorts.proofs.Names.{is_there}

-- ---- what is shown

owner_at : (left : List Declaration) (os : List Put) (number : ℕ) → owner (map (put_at left) os) number ≡ object_of (first_puts left) (slice_get os number)
owner_at left [] zero = refl
owner_at left [] (suc number) = refl
owner_at left (o ∷ os) zero = refl
owner_at left (o ∷ os) (suc number) = owner_at left os number

owners_are : (table : List PutAt) (left : List Declaration) (list : List ℕ) → table ≡ map (put_at left) (puts left) → map (owner table) list ≡ map (object_at left) list
owners_are table left [] e = refl
owners_are table left (number ∷ list) e =
    ap (λ (n : ℕ). n ∷ map (owner table) list) (ap (λ (w : List PutAt). owner w number) e ∙ owner_at left (puts left) number)
    ∙ ap (λ (w : List ℕ). object_at left number ∷ w) (owners_are table left list e)

lists_are : (table : List PutAt) (left : List Declaration) (names : List (List ℕ)) → table ≡ map (put_at left) (puts left) → shown_lists table (map (placed left) names) ≡ map (members left) names
lists_are table left [] e = refl
lists_are table left (name ∷ names) e =
    ap (λ (w : List ℕ). firsts w ∷ shown_lists table (map (placed left) names)) (owners_are table left (placed left name) e)
    ∙ ap (λ (w : List (List ℕ)). members left name ∷ w) (lists_are table left names e)

pub shown_is : (table : TableView) (left : List Declaration) → IsEntered table left → IsTable (shown table) left
shown_is table left is = record {
  names = is.names;
  pairs_are = is.pairs_are;
  members_are = ap (shown_lists table.puts) is.members_are ∙ lists_are table.puts left (sort_names left) is.puts_are;
  puts_are = is.puts_are;
  objects_are = is.objects_are;
  numbers_are = is.numbers_are;
  variables_are = is.variables_are;
  symbols_are = is.symbols_are;
  known = is.known;
}

-- ---- the numbers of the puts of a sort, by the table alone

abbrev placed_by : List (List ℕ) → List Pair → List PutAt → List ℕ → List ℕ
placed_by names ps table sort = numbers_where (λ put. is_below ps (slice_index_or names put.sort []) sort) 0 table

abbrev where_if : Bool → ℕ → List ℕ → List ℕ
where_if here n list = if here then n ∷ list else list

placed_from : (left : List Declaration) (ps : List Pair) (sort : List ℕ) (n : ℕ) (os : List Put) → ArePut (sort_names left) os →
    numbers_where (λ (put : PutAt). is_below ps (slice_index_or (sort_names left) put.sort []) sort) n (map (put_at left) os) ≡ numbers_where (λ (put : Put). is_below ps put.sort sort) n os
placed_from left ps sort n [] all = refl
placed_from left ps sort n (o ∷ os) all =
    let there = is_there (sort_names left) o.sort all.0 in
    let same : slice_index_or (sort_names left) (number_in (sort_names left) o.sort) [] ≡ o.sort = ap (λ (k : ℕ). slice_index_or (sort_names left) k []) there.is_number ∙ there.named in
    ap (λ (w : List ℕ). where_if (is_below ps w sort) n (numbers_where (λ (put : PutAt). is_below ps (slice_index_or (sort_names left) put.sort []) sort) (n + 1) (map (put_at left) os))) same
    ∙ ap (λ (w : List ℕ). where_if (is_below ps o.sort sort) n w) (placed_from left ps sort (n + 1) os all.1)

placed_all : (left : List Declaration) (names : List (List ℕ)) → ArePut (sort_names left) (puts left) →
    map (placed_by (sort_names left) (pairs left) (map (put_at left) (puts left))) names ≡ map (placed left) names
placed_all left [] all = refl
placed_all left (name ∷ names) all =
    ap (λ (w : List ℕ). w ∷ map (placed_by (sort_names left) (pairs left) (map (put_at left) (puts left))) names) (placed_from left (pairs left) name 0 (puts left) all)
    ∙ ap (λ (w : List (List ℕ)). placed left name ∷ w) (placed_all left names all)

placed_table : (names : List (List ℕ)) (ps : List Pair) (table : List PutAt) (left : List Declaration) → names ≡ sort_names left → ps ≡ pairs left → table ≡ map (put_at left) (puts left) →
    ArePut (sort_names left) (puts left) → map (placed_by names ps table) names ≡ map (placed left) (sort_names left)
placed_table names ps table left a b c all =
    ap (λ (w : List (List ℕ)). map (placed_by w ps table) w) a
    ∙ ap (λ (w : List Pair). map (placed_by (sort_names left) w table) (sort_names left)) b
    ∙ ap (λ (w : List PutAt). map (placed_by (sort_names left) (pairs left) w) (sort_names left)) c
    ∙ placed_all left (sort_names left) all

pub entered_is : (table : TableView) (some left : List Declaration) → IsEntered table some → IsTable (shown table) left → IsEntered table left
entered_is table some left entered is = record {
  names = is.names;
  pairs_are = is.pairs_are;
  members_are = entered.members_are
      ∙ sym (placed_table table.sorts.names table.sorts.pairs table.puts some entered.names entered.pairs_are entered.puts_are entered.known.of_puts)
      ∙ placed_table table.sorts.names table.sorts.pairs table.puts left is.names is.pairs_are is.puts_are is.known.of_puts;
  puts_are = is.puts_are;
  objects_are = is.objects_are;
  numbers_are = is.numbers_are;
  variables_are = is.variables_are;
  symbols_are = is.symbols_are;
  known = is.known;
}

-- a register whose table is that of declarations is that of them
pub entered_of : (table : TableView) (view : TableView) (left : List Declaration) → shown table ≡ view → IsOfEntered table → IsTable view left → IsEntered table left
entered_of table view left same is of = entered_is table is.0 left is.1 (let P : TableView → Type 0 = λ w. IsTable w left in subst P (sym same) of)

pub some_table : (table : TableView) → IsOfEntered table → IsOfDeclarations (shown table)
some_table table is = (is.0, shown_is table is.0 is.1)

-- ---- answers of a call

pub declared : {A : Type 0} (result : Result A Fault) (file : ℕ) (statement : PlainStatement) (old new : TableView) → IsOfEntered old →
    ((left : List Declaration) → IsEntered old left → OnOk result (Enters file left statement new)) →
    (left : List Declaration) → IsTable (shown old) left → OnOk result (Declares file left statement (shown new))
declared (Ok x) file statement old new is enters left table =
    let after = enters left (entered_is old is.0 left is.1 table) in (after.0, shown_is new (left ++ declarations_of file statement) after.1)
declared (Err e) file statement old new is enters left table = tt

front_shown : (file : ℕ) (left : List Declaration) (statement : PlainStatement) (new : TableView) → HasEntered file left statement new → HasFront file left statement (shown new)
front_shown file left statement new has = (has.0, has.1, has.2, has.3, shown_is new (left ++ has.0) has.4)

refused_shown : (file : ℕ) (left : List Declaration) (statement : PlainStatement) (old new : TableView) (fault : Fault) → IsRefusedFor file left statement old new fault →
    HasRefused file left statement (shown old) (shown new) fault
refused_shown file left statement old new faults.OutOfMemory has = front_shown file left statement new has
refused_shown file left statement old new (faults.Refused refusal) has = (has.0, ap shown has.1)

pub refused : {A : Type 0} (result : Result A Fault) (file : ℕ) (statement : PlainStatement) (old new : TableView) → IsOfEntered old →
    ((left : List Declaration) → IsEntered old left → IfErr result (IsRefusedFor file left statement old new)) →
    (left : List Declaration) → IsTable (shown old) left → IfErr result (HasRefused file left statement (shown old) (shown new))
refused (Ok x) file statement old new is refuses left table = tt
refused (Err fault) file statement old new is refuses left table = refused_shown file left statement old new fault (refuses left (entered_is old is.0 left is.1 table))

unchanged_for : (file : ℕ) (left : List Declaration) (statement : PlainStatement) (old new : TableView) (fault : Fault) → IsRefusedFor file left statement old new fault → IsUnchangedBy (shown old) (shown new) fault
unchanged_for file left statement old new faults.OutOfMemory has = tt
unchanged_for file left statement old new (faults.Refused refusal) has = ap shown has.1

pub unchanged : {A : Type 0} (result : Result A Fault) (file : ℕ) (statement : PlainStatement) (old new : TableView) → IsOfEntered old →
    ((left : List Declaration) → IsEntered old left → IfErr result (IsRefusedFor file left statement old new)) → IfErr result (IsUnchangedBy (shown old) (shown new))
unchanged (Ok x) file statement old new is refuses = tt
unchanged (Err fault) file statement old new is refuses = unchanged_for file is.0 statement old new fault (refuses is.0 is.1)

entered_for : (file : ℕ) (left : List Declaration) (statement : PlainStatement) (old new : TableView) (fault : Fault) → IsEntered old left → IsRefusedFor file left statement old new fault → IsOfEntered new
entered_for file left statement old new faults.OutOfMemory is has = (left ++ has.0, has.4)
entered_for file left statement old new (faults.Refused refusal) is has = (left, (let P : TableView → Type 0 = λ w. IsEntered w left in subst P (sym has.1) is))

pub entered_after : {A : Type 0} (result : Result A Fault) (file : ℕ) (statement : PlainStatement) (old new : TableView) → IsOfEntered old →
    ((left : List Declaration) → IsEntered old left → OnOk result (Enters file left statement new)) →
    ((left : List Declaration) → IsEntered old left → IfErr result (IsRefusedFor file left statement old new)) → IsOfEntered new
entered_after (Ok x) file statement old new is enters refuses = (is.0 ++ declarations_of file statement, (enters is.0 is.1).1)
entered_after (Err fault) file statement old new is enters refuses = entered_for file is.0 statement old new fault is.1 (refuses is.0 is.1)

pub signature_for : {E : Type 0} (result : Result Signature E) (table : TableView) → IsOfEntered table →
    ((left : List Declaration) → IsEntered table left → IfOk result (IsSignatureOf left)) → IfOk result (IsSignatureFor (shown table))
signature_for (Ok signature) table is made = (is.0, shown_is table is.0 is.1, made is.0 is.1)
signature_for (Err e) table is made = tt
