-- What a statement's declarations make of a table.
use Rattle.std.proofs.Common.{◌≡◌, ◌∙◌, ℕ, ◌+◌, ◌-◌, ◌<◌, ◌≤◌, Bool, true, false, nat_lt, min, List, [], ◌++◌, length, flat_map, Option, Some, None, Result, Ok, Err, IfErr, IsErrAnd, inl, inr, refl, sym, ap, subst, arith, length-append}
use Rattle.std.proofs.lemmas.Bool.{lt-ltb, le-ltb}
use Rattle.cc_defs.specs.declared.refusal.Fault.{Fault}
use Rattle.cc_defs.specs.declared.refusal.Fault.TheVariants as faults
use Rattle.std.proofs.lemmas.List.{append-nil, length-map}
use Rattle.std.proofs.lemmas.Grind.{flat_map-append}
use Rattle.cc_defs.specs.declared.refusal.LimitAt.TheVariants as limits
use Rattle.cc_defs.specs.DeclarationFaults.{refusal_for, object_count, declaration_fault}
use Rattle.cc_defs.specs.Declarations.{Declaration, put_declared, puts, declarations_of}
use Rattle.cc_defs.specs.Limits.{limit_number}
use Rattle.cc_defs.specs.Trees.{PlainStatement}
use Rattle.cc_sorts.specs.Steps.{IsFrontOf, behind_all, AllClear, judged_refusal}
use Rattle.cc_sorts.specs.declared.table.PutAt.{PutAt}
use Rattle.cc_sorts.specs.Entered.{IsEntered, Enters, HasEntered}
use Rattle.cc_sorts.specs.Tables.{TableView, put_at}
use Rattle.cc_sorts.proofs.Behind.{behind_all_is, clear_front}
use Rattle.cc_sorts.proofs.Clear.{all_clear}

-- ---- counting

pub count_is : (table : TableView) (left ds : List Declaration) (count : ℕ) → IsEntered table left → count ≡ min (length (flat_map put_declared ds)) 10000 →
    (4096 < length table.puts + count - 2 → 4096 < object_count (left ++ ds)) × (length table.puts + count - 2 ≤ 4096 → object_count (left ++ ds) ≤ 4096)
count_is table left ds count is e =
    let there : length table.puts ≡ length (puts left) = ap (λ (w : List PutAt). length w) is.puts_are ∙ length-map (puts left) (put_at left) in
    let whole : length (flat_map put_declared (left ++ ds)) ≡ length (flat_map put_declared left) + length (flat_map put_declared ds) =
    ap length (flat_map-append put_declared left ds) ∙ length-append (flat_map put_declared left) (flat_map put_declared ds) in
    (λ more. omega (arith, there, whole, e, more), λ few. omega (arith, there, whole, e, few))

-- ---- no refusal

no_refusal : (file line : ℕ) (many : Bool) (fault : Option ℕ) → refusal_for file line many fault ≡ None → fault ≡ None
no_refusal file line true (Some number) e = absurd cc
no_refusal file line false (Some number) e = absurd cc
no_refusal file line true None e = refl
no_refusal file line false None e = refl

pub clear_of : (file line : ℕ) (left : List Declaration) (statement : PlainStatement) (ds : List Declaration) → ds ≡ declarations_of file statement →
    judged_refusal file line left ds ≡ None → AllClear left ds
clear_of file line left statement ds e none =
    let P : List Declaration → Type 0 = λ w. AllClear left w in
    let fault : declaration_fault left ds ≡ None = no_refusal file line (nat_lt (limit_number limits.Objects) (object_count (left ++ ds))) (declaration_fault left ds) none in
    subst P (sym e) (all_clear left file statement (ap (λ (w : List Declaration). declaration_fault left w) (sym e) ∙ fault))

-- ---- the answers

pub front_none : (file : ℕ) (left : List Declaration) (statement : PlainStatement) (table : TableView) → IsEntered table left → HasEntered file left statement table
front_none file left statement table is =
    let P : List Declaration → Type 0 = λ w. IsEntered table w in
    ([], declarations_of file statement, inl refl, refl, subst P (sym (append-nil left)) is)

pub front_of : (file : ℕ) (left : List Declaration) (statement : PlainStatement) (ds : List Declaration) (old new : TableView) → ds ≡ declarations_of file statement →
    judged_refusal file statement.line left ds ≡ None → IsEntered old left → IsFrontOf old ds new → HasEntered file left statement new
front_of file left statement ds old new e none is front =
    let P : List Declaration → Type 0 = λ w. AllClear left w in
    let clear : AllClear left (front.front ++ front.rest) = subst P front.whole (clear_of file statement.line left statement ds e none) in
    let Q : TableView → Type 0 = λ w. IsEntered w (left ++ front.front) in
    (front.front, front.rest, inr (ap (λ (w : List Declaration). judged_refusal file statement.line left w) (sym e) ∙ none), sym e ∙ front.whole, subst Q (sym front.is_behind) (behind_all_is old left front.front (clear_front left front.front front.rest clear) is))

pub declares : (file : ℕ) (left : List Declaration) (statement : PlainStatement) (ds : List Declaration) (old new : TableView) → ds ≡ declarations_of file statement →
    judged_refusal file statement.line left ds ≡ None → IsEntered old left → new ≡ behind_all old ds → Enters file left statement new
declares file left statement ds old new e none is b =
    let Q : TableView → Type 0 = λ w. IsEntered w (left ++ ds) in
    let P : List Declaration → Type 0 = λ w. IsEntered new (left ++ w) in (
      ap (λ (w : List Declaration). judged_refusal file statement.line left w) (sym e) ∙ none,
      subst P e (subst Q (sym b) (behind_all_is old left ds (clear_of file statement.line left statement ds e none) is)),
    )

-- ---- what is judged

refusal_some : (file line number : ℕ) (many : Bool) → Some (record { number = number; file = file; line = line; limit = None }) ≡ refusal_for file line many (Some number)
refusal_some file line number true = refl
refusal_some file line number false = refl

pub judged_some : (file line : ℕ) (left ds : List Declaration) (number : ℕ) → declaration_fault left ds ≡ Some number →
    Some (record { number = number; file = file; line = line; limit = None }) ≡ judged_refusal file line left ds
judged_some file line left ds number e =
    let many = nat_lt (limit_number limits.Objects) (object_count (left ++ ds)) in
    refusal_some file line number many ∙ ap (λ (fault : Option ℕ). refusal_for file line many fault) (sym e)

pub judged_many : (file line : ℕ) (left ds : List Declaration) → declaration_fault left ds ≡ None → 4096 < object_count (left ++ ds) →
    Some (record { number = 14; file = file; line = line; limit = Some limits.Objects }) ≡ judged_refusal file line left ds
judged_many file line left ds e p =
    ap (λ (many : Bool). refusal_for file line many None) (sym (lt-ltb 4096 (object_count (left ++ ds)) p))
    ∙ ap (λ (fault : Option ℕ). refusal_for file line (nat_lt (limit_number limits.Objects) (object_count (left ++ ds))) fault) (sym e)

pub judged_none : (file line : ℕ) (left ds : List Declaration) → declaration_fault left ds ≡ None → object_count (left ++ ds) ≤ 4096 → None ≡ judged_refusal file line left ds
judged_none file line left ds e p =
    ap (λ (many : Bool). refusal_for file line many None) (sym (le-ltb 4096 (object_count (left ++ ds)) p))
    ∙ ap (λ (fault : Option ℕ). refusal_for file line (nat_lt (limit_number limits.Objects) (object_count (left ++ ds))) fault) (sym e)

-- ---- refusals of a call

pub want_of_memory : {A : Type 0} (result : Result A Fault) (Q : Fault → Type 0) → IsErrAnd result (λ fault. fault ≡ faults.OutOfMemory) → Q faults.OutOfMemory → IfErr result Q
want_of_memory (Ok x) Q e q = tt
want_of_memory (Err e) Q is q = subst Q (sym is) q
