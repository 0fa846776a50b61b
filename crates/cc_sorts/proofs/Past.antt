-- The numbers of the puts of each sort stay below a bound, each sort has a list of them, and one of what is shown.
use Rattle.std.proofs.Common.{◌≡◌, ℕ, zero, suc, ◌+◌, ◌<◌, ◌≤◌, Bool, true, false, is_some, Some, map, nat_lt, List, [], ◌∷◌, ◌++◌, length, slice_index_or, take, Option, None, Result, Ok, Err, OnOk, OnErr, ◌∙◌, ◌-◌, refl, sym, ap, subst, length-append, arith}
use Rattle.std.specs.Prelude.{if◌then◌else◌, ◌==◌}
use Rattle.std.proofs.lemmas.Bool.{false≢true}
use Rattle.std.proofs.lemmas.List.{map-append}
use Rattle.std.specs.List.{AllByRecursion}
use Rattle.cc_defs.specs.Declarations.{Pair, is_below}
use Rattle.cc_defs.specs.Trees.{PlainShape, PlainKind}
use Rattle.cc_sorts.specs.Numbers.{put, union}
use Rattle.cc_sorts.specs.Dictionaries.{number_of, names_of, values_of}
use Rattle.cc_sorts.specs.Entered.{Fits}
use Rattle.cc_sorts.specs.Shown.{shown_list, shown_lists}
use Rattle.cc_sorts.specs.Steps.{put_object, found_object, with_sorts, put_sort, new_sort, put_pair, found_pair, new_pair, put_variable, found_variable, new_variable, put_symbol, found_symbol, new_symbol, placed_in, new_put, new_object}
use Rattle.cc_sorts.specs.Tables.{Numbered, TableView, first_table, symbol_names}
use Rattle.cc_sorts.specs.declared.table.PutAt.{PutAt}
use Rattle.cc_sorts.specs.declared.table.Placed.{Placed}
use Rattle.cc_sorts.specs.SortViews.{SortsView, IsPast, changed_above, with_sort, with_pair, with_implied, with_object, members_at, name_at}

abbrev pub Below : ℕ → List ℕ → Type 0
Below bound list = AllByRecursion (λ member. member < bound) list

below_put : (bound x : ℕ) (list : List ℕ) → x < bound → Below bound list → Below bound (put x list)
below_put bound x [] p all = (p, tt)
below_put bound x (y ∷ ys) p all = elim (nat_lt x y) as (λ less. Below bound (if less then x ∷ y ∷ ys else (if x == y then y ∷ ys else y ∷ put x ys))) [
  | true ↦ (p, all)
  | false ↦ elim (x == y) as (λ same. Below bound (if same then y ∷ ys else y ∷ put x ys)) [
    | true ↦ all
    | false ↦ (all.0, below_put bound x ys p all.1)
  ]
]

below_union : (bound : ℕ) (xs ys : List ℕ) → Below bound xs → Below bound ys → Below bound (union xs ys)
below_union bound [] ys p q = q
below_union bound (x ∷ xs) ys p q = below_put bound x (union xs ys) p.0 (below_union bound xs ys p.1 q)

below_more : (bound : ℕ) (list : List ℕ) → Below bound list → Below (bound + 1) list
below_more bound [] p = tt
below_more bound (x ∷ xs) p = let first : x < bound = p.0 in (omega arith, below_more bound xs p.1)

below_last : (bound : ℕ) (list : List ℕ) → Below bound list → Below (bound + 1) (list ++ bound ∷ [])
below_last bound [] p = (omega arith, tt)
below_last bound (x ∷ xs) p = let first : x < bound = p.0 in (omega arith, below_last bound xs p.1)

pub below_at : (bound : ℕ) (lists : List (List ℕ)) (i : ℕ) → AllByRecursion (Below bound) lists → Below bound (slice_index_or lists i [])
below_at bound [] i p = tt
below_at bound (list ∷ lists) zero p = p.0
below_at bound (list ∷ lists) (suc i) p = below_at bound lists i p.1

changed_below : (bound other : ℕ) (pairs : List Pair) (sort : List ℕ) (change : List ℕ → List ℕ) (names lists : List (List ℕ)) →
    ((list : List ℕ) → Below bound list → Below other list) → ((list : List ℕ) → Below bound list → Below other (change list)) →
    AllByRecursion (Below bound) lists → AllByRecursion (Below other) (changed_above pairs sort change names lists)
changed_below bound other pairs sort change [] lists keep step p = tt
changed_below bound other pairs sort change (name ∷ names) [] keep step p = tt
changed_below bound other pairs sort change (name ∷ names) (list ∷ lists) keep step p = (
  elim (is_below pairs sort name) as (λ above. Below other (if above then change list else list)) [ true ↦ step list p.0 | false ↦ keep list p.0 ],
  changed_below bound other pairs sort change names lists keep step p.1,
)

pub past_pair : (bound : ℕ) (sorts : SortsView) (upper lower : ℕ) → IsPast bound sorts → IsPast bound (with_pair sorts upper lower)
past_pair bound sorts upper lower p =
    changed_below bound bound sorts.pairs (name_at sorts upper) (λ list. union list (members_at sorts lower)) sorts.names sorts.members (λ list q. q)
    (λ list q. below_union bound list (members_at sorts lower) q (below_at bound sorts.members lower p)) p

pub past_object : (bound : ℕ) (sorts : SortsView) (sort : ℕ) → IsPast bound sorts → IsPast (bound + 1) (with_object sorts sort bound)
past_object bound sorts sort p =
    changed_below bound (bound + 1) sorts.pairs (name_at sorts sort) (λ list. list ++ bound ∷ []) sorts.names sorts.members (below_more bound) (below_last bound) p

-- ---- what a register holds

as_many_changed : (pairs : List Pair) (sort : List ℕ) (change : List ℕ → List ℕ) (names lists : List (List ℕ)) → length lists ≡ length names →
    length (changed_above pairs sort change names lists) ≡ length names
as_many_changed pairs sort change [] lists e = refl
as_many_changed pairs sort change (name ∷ names) [] e = absurd (omega (arith, e))
as_many_changed pairs sort change (name ∷ names) (list ∷ lists) e = ap (λ (n : ℕ). suc n) (as_many_changed pairs sort change names lists (omega (arith, e)))

abbrev pub viewed : SortsView → List PutAt → List Numbered → List (Option ℕ) → List Numbered → List Placed → TableView
viewed sorts puts objects numbers variables symbols = record { sorts = sorts; puts = puts; objects = objects; numbers = numbers; variables = variables; symbols = symbols }

fits_as : (sorts new : SortsView) (puts other : List PutAt) (lists more : List (List ℕ)) (objects named variables : List Numbered) (symbols : List (List ℕ × Placed)) →
    new ≡ sorts → other ≡ puts → more ≡ lists → named ≡ objects → Fits sorts puts lists objects variables symbols → Fits new other more named variables symbols
fits_as sorts new puts other lists more objects named variables symbols e f g h fits =
    let A : SortsView → Type 0 = λ w. Fits w puts lists objects variables symbols in
    let B : List PutAt → Type 0 = λ w. Fits new w lists objects variables symbols in
    let C : List (List ℕ) → Type 0 = λ w. Fits new other w objects variables symbols in
    let D : List Numbered → Type 0 = λ w. Fits new other more w variables symbols in
    subst D (sym h) (subst C (sym g) (subst B (sym f) (subst A (sym e) fits)))

past_end : (bound : ℕ) (lists : List (List ℕ)) → AllByRecursion (Below bound) lists → AllByRecursion (Below bound) (lists ++ [] ∷ [])
past_end bound [] p = (tt, tt)
past_end bound (list ∷ lists) p = (p.0, past_end bound lists p.1)

pub fits_sort : {A E : Type 0} (result : Result A E) (sorts new : SortsView) (puts : List PutAt) (lists more : List (List ℕ)) (objects variables : List Numbered) (symbols : List (List ℕ × Placed)) (name : List ℕ) →
    Fits sorts puts lists objects variables symbols → length sorts.names + 1 < 4000000000 → OnOk result (new ≡ with_sort sorts name) → OnErr result (new ≡ sorts) →
    OnOk result (more ≡ lists ++ [] ∷ []) → OnErr result (more ≡ lists) → Fits new puts more objects variables symbols
fits_sort (Ok x) sorts new puts lists more objects variables symbols name fits few e _ f _ =
    fits_as (with_sort sorts name) new puts puts (lists ++ [] ∷ []) more objects objects variables symbols e refl f refl (record {
      few_sorts = omega (arith, length-append sorts.names (name ∷ []), few);
      few_puts = fits.few_puts;
      few_objects = fits.few_objects;
      few_variables = fits.few_variables;
      few_symbols = fits.few_symbols;
      named = fits.named;
      past = past_end (length puts) sorts.members fits.past;
      as_many = omega (arith, length-append sorts.members ([] ∷ []), length-append sorts.names (name ∷ []), fits.as_many);
      shown = ap (λ (w : List (List ℕ)). w ++ [] ∷ []) fits.shown ∙ sym (map-append (shown_list puts) sorts.members ([] ∷ []));
      owned = fits.owned;
    })
fits_sort (Err x) sorts new puts lists more objects variables symbols name fits few _ e _ f = fits_as sorts new puts puts lists more objects objects variables symbols e refl f refl fits

pub fits_pair : {A E : Type 0} (result : Result A E) (sorts new : SortsView) (puts : List PutAt) (lists more : List (List ℕ)) (objects variables : List Numbered) (symbols : List (List ℕ × Placed)) (upper lower : ℕ) →
    Fits sorts puts lists objects variables symbols → OnOk result (new ≡ with_pair sorts upper lower) → OnErr result (new ≡ sorts) → more ≡ shown_lists puts new.members → Fits new puts more objects variables symbols
fits_pair (Ok x) sorts new puts lists more objects variables symbols upper lower fits e _ f =
    fits_as (with_pair sorts upper lower) new puts puts (shown_lists puts (with_pair sorts upper lower).members) more objects objects variables symbols e refl
    (f ∙ ap (λ (w : SortsView). shown_lists puts w.members) e) refl (record {
      few_sorts = fits.few_sorts;
      few_puts = fits.few_puts;
      few_objects = fits.few_objects;
      few_variables = fits.few_variables;
      few_symbols = fits.few_symbols;
      named = fits.named;
      past = past_pair (length puts) sorts upper lower fits.past;
      as_many = as_many_changed sorts.pairs (name_at sorts upper) (λ list. union list (members_at sorts lower)) sorts.names sorts.members fits.as_many;
      shown = refl;
      owned = fits.owned;
    })
fits_pair (Err x) sorts new puts lists more objects variables symbols upper lower fits _ e f =
    fits_as sorts new puts puts lists more objects objects variables symbols e refl (f ∙ ap (λ (w : SortsView). shown_lists puts w.members) e ∙ sym fits.shown) refl fits

pub fits_implied : {A E : Type 0} (result : Result A E) (sorts new : SortsView) (puts : List PutAt) (lists : List (List ℕ)) (objects variables : List Numbered) (symbols : List (List ℕ × Placed)) (upper lower : ℕ) →
    Fits sorts puts lists objects variables symbols → OnOk result (new ≡ with_implied sorts upper lower) → OnErr result (new ≡ sorts) → Fits new puts lists objects variables symbols
fits_implied (Ok x) sorts new puts lists objects variables symbols upper lower fits added unchanged =
    fits_as (with_implied sorts upper lower) new puts puts lists lists objects objects variables symbols added refl refl refl (record {
      few_sorts = fits.few_sorts;
      few_puts = fits.few_puts;
      few_objects = fits.few_objects;
      few_variables = fits.few_variables;
      few_symbols = fits.few_symbols;
      named = fits.named;
      past = fits.past;
      as_many = fits.as_many;
      shown = fits.shown;
      owned = fits.owned;
    })
fits_implied (Err e) sorts new puts lists objects variables symbols upper lower fits added unchanged =
    fits_as sorts new puts puts lists lists objects objects variables symbols unchanged refl refl refl fits

all_owned : (bound more : ℕ) (puts : List PutAt) → bound ≤ more → AllByRecursion (λ put. put.object < bound) puts → AllByRecursion (λ put. put.object < more) puts
all_owned bound more [] p all = tt
all_owned bound more (put ∷ puts) p all = let less : put.object < bound = all.0 in (omega (arith, less, p), all_owned bound more puts p all.1)

owned_end : (bound : ℕ) (puts : List PutAt) (put : PutAt) → put.object < bound → AllByRecursion (λ put. put.object < bound) puts → AllByRecursion (λ put. put.object < bound) (puts ++ put ∷ [])
owned_end bound [] put p all = (p, tt)
owned_end bound (first ∷ puts) put p all = (all.0, owned_end bound puts put p all.1)

-- a put of an object that is there, or of the last of these
fits_put : (sorts : SortsView) (puts : List PutAt) (lists : List (List ℕ)) (objects more variables : List Numbered) (symbols : List (List ℕ × Placed)) (put : PutAt) →
    Fits sorts puts lists objects variables symbols → length puts + 1 < 4000000000 → length more < 4000000000 → length objects ≤ length more → put.object < length more →
    Fits (with_object sorts put.sort (length puts)) (puts ++ put ∷ []) (shown_lists (puts ++ put ∷ []) (with_object sorts put.sort (length puts)).members) more variables symbols
fits_put sorts puts lists objects more variables symbols put fits few few_more grows object =
    let count : length (puts ++ put ∷ []) ≡ length puts + 1 = length-append puts (put ∷ []) in
    let Q : ℕ → Type 0 = λ n. IsPast n (with_object sorts put.sort (length puts)) in
    record {
      few_sorts = fits.few_sorts;
      few_puts = omega (arith, count, few);
      few_objects = few_more;
      few_variables = fits.few_variables;
      few_symbols = fits.few_symbols;
      named = fits.named;
      past = subst Q (sym count) (past_object (length puts) sorts put.sort fits.past);
      as_many = as_many_changed sorts.pairs (name_at sorts put.sort) (λ list. list ++ length puts ∷ []) sorts.names sorts.members fits.as_many;
      shown = refl;
      owned = owned_end (length more) puts put object (all_owned (length objects) (length more) puts grows fits.owned);
    }

pub fits_again : {A E : Type 0} (result : Result A E) (sorts new : SortsView) (puts more : List PutAt) (lists listed : List (List ℕ)) (objects variables : List Numbered) (symbols : List (List ℕ × Placed)) (put : PutAt) →
    Fits sorts puts lists objects variables symbols → length puts + 1 < 4000000000 → put.object < length objects →
    OnOk result (new ≡ with_object sorts put.sort (length puts)) → OnErr result (new ≡ sorts) → OnOk result (more ≡ puts ++ put ∷ []) → OnErr result (more ≡ puts) →
    listed ≡ shown_lists more new.members → Fits new more listed objects variables symbols
fits_again (Ok x) sorts new puts more lists listed objects variables symbols put fits few object e _ f _ g =
    fits_as (with_object sorts put.sort (length puts)) new (puts ++ put ∷ []) more (shown_lists (puts ++ put ∷ []) (with_object sorts put.sort (length puts)).members) listed objects objects variables symbols e f
    (g ∙ ap (λ (w : List PutAt). shown_lists w new.members) f ∙ ap (λ (w : SortsView). shown_lists (puts ++ put ∷ []) w.members) e) refl
    (fits_put sorts puts lists objects objects variables symbols put fits few fits.few_objects (omega arith) object)
fits_again (Err x) sorts new puts more lists listed objects variables symbols put fits few object _ e _ f g =
    fits_as sorts new puts more lists listed objects objects variables symbols e f
    (g ∙ ap (λ (w : List PutAt). shown_lists w new.members) f ∙ ap (λ (w : SortsView). shown_lists puts w.members) e ∙ sym fits.shown) refl fits

pub fits_new : (sorts new : SortsView) (puts more : List PutAt) (lists listed : List (List ℕ)) (objects named variables : List Numbered) (symbols : List (List ℕ × Placed)) (put : PutAt) (entry : Numbered) →
    Fits sorts puts lists objects variables symbols → length puts + 1 < 4000000000 → length objects + 1 < 4000000000 → put.object ≡ length objects → named ≡ objects ++ entry ∷ [] →
    new ≡ with_object sorts put.sort (length puts) → more ≡ puts ++ put ∷ [] → listed ≡ shown_lists more new.members → Fits new more listed named variables symbols
fits_new sorts new puts more lists listed objects named variables symbols put entry fits few few_objects is is_named e f g =
    let count : length (objects ++ entry ∷ []) ≡ length objects + 1 = length-append objects (entry ∷ []) in
    fits_as (with_object sorts put.sort (length puts)) new (puts ++ put ∷ []) more (shown_lists (puts ++ put ∷ []) (with_object sorts put.sort (length puts)).members) listed (objects ++ entry ∷ []) named variables symbols e f
    (g ∙ ap (λ (w : List PutAt). shown_lists w new.members) f ∙ ap (λ (w : SortsView). shown_lists (puts ++ put ∷ []) w.members) e) is_named
    (fits_put sorts puts lists objects (objects ++ entry ∷ []) variables symbols put fits few (omega (arith, count, few_objects)) (omega (arith, count)) (omega (arith, count, is)))

pub fits_back : (sorts new : SortsView) (puts more : List PutAt) (lists listed : List (List ℕ)) (objects named variables : List Numbered) (symbols : List (List ℕ × Placed)) →
    Fits sorts puts lists objects variables symbols → named ≡ objects → new ≡ sorts → more ≡ puts → listed ≡ shown_lists more new.members → Fits new more listed named variables symbols
fits_back sorts new puts more lists listed objects named variables symbols fits is_named e f g =
    fits_as sorts new puts more lists listed objects named variables symbols e f
    (g ∙ ap (λ (w : List PutAt). shown_lists w new.members) f ∙ ap (λ (w : SortsView). shown_lists puts w.members) e ∙ sym fits.shown) is_named fits

pub fits_first : (sorts : SortsView) (puts : List PutAt) (lists : List (List ℕ)) (objects variables : List Numbered) (symbols : List (List ℕ × Placed)) →
    sorts ≡ first_table.sorts → puts ≡ first_table.puts → lists ≡ first_table.sorts.members → objects ≡ first_table.objects → variables ≡ [] → symbols ≡ [] → Fits sorts puts lists objects variables symbols
fits_first sorts puts lists objects variables symbols e f g h i j =
    let P : List Numbered → Type 0 = λ w. Fits first_table.sorts first_table.puts first_table.sorts.members first_table.objects w [] in
    let Q : List (List ℕ × Placed) → Type 0 = λ w. Fits first_table.sorts first_table.puts first_table.sorts.members first_table.objects variables w in
    fits_as first_table.sorts sorts first_table.puts puts first_table.sorts.members lists first_table.objects objects variables symbols e f g h (subst Q (sym j) (subst P (sym i) (record {
      few_sorts = omega arith;
      few_puts = omega arith;
      few_objects = omega arith;
      few_variables = omega arith;
      few_symbols = omega arith;
      named = refl;
      past = ((omega arith, (omega arith, tt)), tt);
      as_many = refl;
      shown = refl;
      owned = (omega arith, (omega arith, tt));
    })))

-- what is not there
pub missing : (found other : Option ℕ) (there : Bool) → found ≡ other → there ≡ is_some found → there ≡ false → other ≡ None
missing None other there e f g = sym e
missing (Some x) other there e f g = absurd (false≢true (sym g ∙ f))

pub fits_variable : {A E : Type 0} (result : Result A E) (sorts : SortsView) (puts : List PutAt) (lists : List (List ℕ)) (objects variables new : List Numbered) (symbols : List (List ℕ × Placed)) (entry : Numbered) →
    Fits sorts puts lists objects variables symbols → length variables + 1 < 4000000000 → OnOk result (new ≡ variables ++ entry ∷ []) → OnErr result (new ≡ variables) → Fits sorts puts lists objects new symbols
fits_variable (Ok x) sorts puts lists objects variables new symbols entry fits few e _ =
    let P : List Numbered → Type 0 = λ w. Fits sorts puts lists objects w symbols in
    subst P (sym e) (record {
      few_sorts = fits.few_sorts;
      few_puts = fits.few_puts;
      few_objects = fits.few_objects;
      few_variables = omega (arith, length-append variables (entry ∷ []), few);
      few_symbols = fits.few_symbols;
      named = fits.named;
      past = fits.past;
      as_many = fits.as_many;
      shown = fits.shown;
      owned = fits.owned;
    })
fits_variable (Err x) sorts puts lists objects variables new symbols entry fits few _ e = let P : List Numbered → Type 0 = λ w. Fits sorts puts lists objects w symbols in subst P (sym e) fits

pub fits_symbol : {A E : Type 0} (result : Result A E) (sorts : SortsView) (puts : List PutAt) (lists : List (List ℕ)) (objects variables : List Numbered) (symbols new : List (List ℕ × Placed)) (name : List ℕ) (placed : Placed) →
    Fits sorts puts lists objects variables symbols → length symbols + 1 < 4000000000 → name ≡ placed.symbol.name → OnOk result (new ≡ symbols ++ (name, placed) ∷ []) → OnErr result (new ≡ symbols) →
    Fits sorts puts lists objects variables new
fits_symbol (Ok x) sorts puts lists objects variables symbols new name placed fits few same e _ =
    let P : List (List ℕ × Placed) → Type 0 = λ w. Fits sorts puts lists objects variables w in
    let own : Placed → List ℕ = λ p. p.symbol.name in
    subst P (sym e) (record {
      few_sorts = fits.few_sorts;
      few_puts = fits.few_puts;
      few_objects = fits.few_objects;
      few_variables = fits.few_variables;
      few_symbols = omega (arith, length-append symbols ((name, placed) ∷ []), few);
      named = map-append (λ entry. entry.0) symbols ((name, placed) ∷ []) ∙ ap (λ (w : List (List ℕ)). w ++ name ∷ []) fits.named ∙ ap (λ (n : List ℕ). map own (values_of symbols) ++ n ∷ []) same
          ∙ sym (ap (map own) (map-append (λ entry. entry.1) symbols ((name, placed) ∷ [])) ∙ map-append own (values_of symbols) (placed ∷ []));
      past = fits.past;
      as_many = fits.as_many;
      shown = fits.shown;
      owned = fits.owned;
    })
fits_symbol (Err x) sorts puts lists objects variables symbols new name placed fits few same _ e = let P : List (List ℕ × Placed) → Type 0 = λ w. Fits sorts puts lists objects variables w in subst P (sym e) fits

-- ---- what a register is seen as

pub pair_is : (table : TableView) (upper lower : List ℕ) (i j : ℕ) (below implied : Bool) → number_of table.sorts.names upper ≡ Some i → number_of table.sorts.names lower ≡ Some j →
    is_below table.sorts.pairs (name_at table.sorts i) (name_at table.sorts j) ≡ below → is_below table.sorts.pairs (name_at table.sorts j) (name_at table.sorts i) ≡ implied →
    put_pair table upper lower ≡ new_pair table i j below implied
pair_is table upper lower i j below implied e f g h =
    ap (λ (found : Option ℕ). found_pair table found (number_of table.sorts.names lower)) e ∙ ap (found_pair table (Some i)) f
    ∙ ap (λ (b : Bool). new_pair table i j b (is_below table.sorts.pairs (name_at table.sorts j) (name_at table.sorts i))) g ∙ ap (new_pair table i j below) h

pub variable_is : (table : TableView) (name sort : List ℕ) (number : ℕ) → number_of table.sorts.names sort ≡ Some number → number_of (names_of table.variables) name ≡ None →
    put_variable table name sort ≡ new_variable table name number
variable_is table name sort number e f =
    ap (λ (found : Option ℕ). found_variable table name found (number_of (names_of table.variables) name)) e ∙ ap (found_variable table name (Some number)) f

pub object_is : (table : TableView) (name sort : List ℕ) (number : Option ℕ) (place : ℕ) (other : Option ℕ) → number_of table.sorts.names sort ≡ Some place → number_of (names_of table.objects) name ≡ other →
    put_object table name sort number ≡ found_object table name number (Some place) other
object_is table name sort number place other e f =
    ap (λ (found : Option ℕ). found_object table name number found (number_of (names_of table.objects) name)) e ∙ ap (found_object table name number (Some place)) f

pub symbol_is : (table : TableView) (shape : PlainShape) (kind : PlainKind) (file line : ℕ) → number_of (symbol_names table) shape.name ≡ None →
    put_symbol table shape kind file line ≡ new_symbol table (placed_in table shape kind file line)
symbol_is table shape kind file line e = ap (found_symbol table (placed_in table shape kind file line)) e

pub seen_again : {A E : Type 0} (result : Result A E) (sorts new : SortsView) (puts more : List PutAt) (objects : List Numbered) (numbers : List (Option ℕ)) (variables : List Numbered) (symbols : List Placed)
    (table : TableView) (put : PutAt) → viewed sorts puts objects numbers variables symbols ≡ table →
    OnOk result (new ≡ with_object sorts put.sort (length puts)) → OnErr result (new ≡ sorts) → OnOk result (more ≡ puts ++ put ∷ []) → OnErr result (more ≡ puts) →
    OnOk result (viewed new more objects numbers variables symbols ≡ new_put table put.object put.sort put.number) × OnErr result (viewed new more objects numbers variables symbols ≡ table)
seen_again (Ok x) sorts new puts more objects numbers variables symbols table put is e _ f _ = (
  ap (λ (w : SortsView). viewed w more objects numbers variables symbols) e ∙ ap (λ (w : List PutAt). viewed (with_object sorts put.sort (length puts)) w objects numbers variables symbols) f
      ∙ ap (λ (w : TableView). new_put w put.object put.sort put.number) is,
  tt,
)
seen_again (Err x) sorts new puts more objects numbers variables symbols table put is _ e _ f = (
  tt,
  ap (λ (w : SortsView). viewed w more objects numbers variables symbols) e ∙ ap (λ (w : List PutAt). viewed sorts w objects numbers variables symbols) f ∙ is,
)

pub seen_new : (sorts new : SortsView) (puts more : List PutAt) (objects named : List Numbered) (numbers all : List (Option ℕ)) (variables : List Numbered) (symbols : List Placed)
    (table : TableView) (name : List ℕ) (object sort : ℕ) (number : Option ℕ) → viewed sorts puts objects numbers variables symbols ≡ table → object ≡ length objects →
    named ≡ objects ++ (name, sort) ∷ [] → all ≡ numbers ++ number ∷ [] → new ≡ with_object sorts sort (length puts) → more ≡ puts ++ record { object = object; sort = sort; number = number } ∷ [] →
    viewed new more named all variables symbols ≡ new_object table name sort number
seen_new sorts new puts more objects named numbers all variables symbols table name object sort number is is_object is_named is_all e f =
    ap (λ (w : SortsView). viewed w more named all variables symbols) e
    ∙ ap (λ (w : List PutAt). viewed (with_object sorts sort (length puts)) w named all variables symbols)
    (f ∙ ap (λ (n : ℕ). (let put : PutAt = record { object = n; sort = sort; number = number } in puts ++ put ∷ [])) is_object)
    ∙ ap (λ (w : List Numbered). viewed (with_object sorts sort (length puts)) (new_object (viewed sorts puts objects numbers variables symbols) name sort number).puts w all variables symbols) is_named
    ∙ ap (λ (w : List (Option ℕ)). viewed (with_object sorts sort (length puts)) (new_object (viewed sorts puts objects numbers variables symbols) name sort number).puts (objects ++ (name, sort) ∷ []) w variables symbols) is_all
    ∙ ap (λ (w : TableView). new_object w name sort number) is

pub seen_back : (sorts new : SortsView) (puts more : List PutAt) (objects named : List Numbered) (numbers all : List (Option ℕ)) (variables : List Numbered) (symbols : List Placed)
    (table : TableView) → viewed sorts puts objects numbers variables symbols ≡ table → named ≡ objects → all ≡ numbers → new ≡ sorts → more ≡ puts → viewed new more named all variables symbols ≡ table
seen_back sorts new puts more objects named numbers all variables symbols table is is_named is_all e f =
    ap (λ (w : SortsView). viewed w more named all variables symbols) e
    ∙ ap (λ (w : List PutAt). viewed sorts w named all variables symbols) f
    ∙ ap (λ (w : List Numbered). viewed sorts puts w all variables symbols) is_named
    ∙ ap (λ (w : List (Option ℕ)). viewed sorts puts objects w variables symbols) is_all ∙ is

pub seen_sort : {A E : Type 0} (result : Result A E) (sorts new : SortsView) (puts : List PutAt) (objects : List Numbered) (numbers : List (Option ℕ)) (variables : List Numbered) (symbols : List Placed)
    (table : TableView) (name : List ℕ) → viewed sorts puts objects numbers variables symbols ≡ table → number_of table.sorts.names name ≡ None →
    OnOk result (new ≡ with_sort sorts name) → OnErr result (new ≡ sorts) →
    OnOk result (viewed new puts objects numbers variables symbols ≡ put_sort table name) × OnErr result (viewed new puts objects numbers variables symbols ≡ table)
seen_sort (Ok x) sorts new puts objects numbers variables symbols table name is none e _ = (
  ap (λ (w : SortsView). viewed w puts objects numbers variables symbols) e ∙ ap (λ (w : TableView). with_sorts w (with_sort w.sorts name)) is
      ∙ ap (λ (found : Option ℕ). new_sort table name found) (sym none),
  tt,
)
seen_sort (Err x) sorts new puts objects numbers variables symbols table name is none _ e = (tt, ap (λ (w : SortsView). viewed w puts objects numbers variables symbols) e ∙ is)

-- one of a list taken out again
pub taken_back : {X : Type 0} (list more back : List X) (x : X) → more ≡ list ++ x ∷ [] → back ≡ take (length more - 1) more → back ≡ list
taken_back {X} list more back x e f =
    let count : length (list ++ x ∷ []) - 1 ≡ length list = omega (arith, length-append list (x ∷ [])) in
    f ∙ ap (λ (w : List X). take (length w - 1) w) e ∙ ap (λ (n : ℕ). take n (list ++ x ∷ [])) count ∙ front list x
  where
    front : {X : Type 0} (list : List X) (x : X) → take (length list) (list ++ x ∷ []) ≡ list
    front [] x = refl
    front {X} (y ∷ list) x = ap (λ (w : List X). y ∷ w) (front list x)
