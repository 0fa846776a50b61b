-- The instances of a law, value by value of its first range, and the laws of a list of base laws.
use Rattle.std.proofs.Common.{◌≡◌, ◌∙◌, ℕ, ◌+◌, ◌<◌, ◌≤◌, Bool, true, false, ◌&&◌, cond, List, [], ◌∷◌, ◌++◌, length, drop, map, min, get_or, Option, Some, None, is_some, IfErr, IfOk, Result, Ok, Err, slice_get, filter, refl, sym, ap, subst, append_assoc, append-nil, arith}
use Rattle.std.specs.List.{flat_map}
use Rattle.std.specs.Option.{option_or}
use Rattle.std.specs.Prelude.{if◌then◌else◌}
use Rattle.std.specs.Result.{IsErrAnd, IsOk, OnOk}
use Rattle.std.proofs.lemmas.Bool.{false≢true, le-ltb}
use Rattle.std.proofs.lemmas.List.{at_drop_all, at_drop_more, map-append, map-id}
use Rattle.std.proofs.lemmas.Grind.{flat_map-append}
use Rattle.std.proofs.lemmas.List.Elements.{filter-append}
use Rattle.cc_arena.specs.declared.ground_laws.GroundLaw.{GroundLaw}
use Rattle.cc_arena.specs.declared.ground_laws.Laws.{Laws}
use Rattle.cc_arena.specs.GroundViews.{plain_ground_law, plain_ground_laws}
use Rattle.cc_defs.specs.declared.law.BaseLaw.{BaseLaw as BaseLawTree}
use Rattle.cc_defs.specs.declared.law.BaseLaw.TheVariants as base_laws
use Rattle.cc_defs.specs.declared.law.Law.{Law as LawTree}
use Rattle.cc_defs.specs.declared.law.Range.{Range}
use Rattle.cc_defs.specs.declared.node.GroundHead.{GroundHead}
use Rattle.cc_defs.specs.declared.refusal.LimitAt.TheVariants as limits
use Rattle.cc_defs.specs.Environments.{Under, Together, choices, has_instance, instances_from, instances_of, passes, pairs_of, range_values}
use Rattle.cc_defs.specs.GroundLaws.{PlainGroundLaw, ground_head, ground_laws, law_of_instance, law_with, pair_law}
use Rattle.cc_defs.specs.Judged.{choices_of}
use Rattle.cc_defs.specs.Limits.{limit_number}
use Rattle.cc_defs.specs.Refusals.{IsRefusedBy, past}
use Rattle.cc_defs.specs.Resolved.{BaseLaw, Law, plain_base_law, plain_law}
use Rattle.cc_defs.specs.Satisfaction.{Environment, giving, head_is_there}
use Rattle.cc_defs.specs.Universe.{Universe, boolean_actions}
use Rattle.cc_ground.specs.declared.maker.Halt.{Halt}
use Rattle.cc_ground.specs.declared.maker.Maker.{Maker}
use Rattle.cc_ground.specs.Bindings.{BindingsView, bound_over, environment_of, with_value}
use Rattle.cc_ground.specs.Choices.{choices_under}
use Rattle.cc_ground.specs.Counting.{choice_refusal, choices_of_all, instances_of_all, laws_refusal, node_refusal, nodes_in, part_choices}
use Rattle.cc_ground.specs.Views.{HasMade, IsLike, LacksRoom, fault_by, laws_behind, laws_from, laws_of, laws_under, passes_in, universe_in}
use Rattle.cc_ground.proofs.Actions.{front_behind}
use Rattle.cc_ground.proofs.Counted.{under_some}
use Rattle.cc_ground.proofs.Making.{MadeSoFar, made_end, made_more, made_lacks}
use Rattle.cc_ground.proofs.Putting.{same_universe}
use Rattle.cc_ground.proofs.Querying.{few_nodes, many_nodes}

-- ---- the first range

-- the ground laws for these values
abbrev laws_with : Universe → ℕ → Law → List ℕ → List PlainGroundLaw
laws_with u base law values = law_of_instance u (Under base law values)

under-append : (u : Universe) (base : ℕ) (law : Law) (lists more : List (List ℕ)) → laws_under u base law (lists ++ more) ≡ laws_under u base law lists ++ laws_under u base law more
under-append u base law lists more =
    ap (flat_map (laws_with u base law)) (filter-append (has_instance u law) lists more)
    ∙ flat_map-append (laws_with u base law) (filter (has_instance u law) lists) (filter (has_instance u law) more)

placed_behind : (front : List ℕ) (value : ℕ) (lists : List (List ℕ)) →
    map (λ more. front ++ more) (map (λ more. value ∷ more) lists) ≡ map (λ more. (front ++ value ∷ []) ++ more) lists
placed_behind front value [] = refl
placed_behind front value (more ∷ lists) =
    ap (λ (w : List ℕ). w ∷ map (λ (l : List ℕ). front ++ l) (map (λ (l : List ℕ). value ∷ l) lists)) (sym (append_assoc front (value ∷ []) more))
    ∙ ap (λ (w : List (List ℕ)). ((front ++ value ∷ []) ++ more) ∷ w) (placed_behind front value lists)

-- the laws behind these values and each of the next range's
abbrev pub each_behind : Universe → ℕ → Law → List ℕ → List Range → List ℕ → List PlainGroundLaw
each_behind u base law front others values = flat_map (λ value. laws_behind u base law (front ++ value ∷ []) others) values

values_behind : (u : Universe) (base : ℕ) (law : Law) (front : List ℕ) (others : List Range) (values : List ℕ) →
    laws_under u base law (map (λ more. front ++ more) (flat_map (λ value. map (λ more. value ∷ more) (choices (map (range_values u) others))) values))
    ≡ each_behind u base law front others values
values_behind u base law front others [] = refl
values_behind u base law front others (value ∷ values) =
    let lists = choices (map (range_values u) others) in
    let first = map (λ (more : List ℕ). value ∷ more) lists in
    let rest = flat_map (λ (v : ℕ). map (λ (more : List ℕ). v ∷ more) lists) values in
    let behind : List (List ℕ) → List (List ℕ) = map (λ (more : List ℕ). front ++ more) in
    ap (laws_under u base law) (map-append (λ (more : List ℕ). front ++ more) first rest)
    ∙ under-append u base law (behind first) (behind rest)
    ∙ ap (λ (w : List (List ℕ)). laws_under u base law w ++ laws_under u base law (behind rest)) (placed_behind front value lists)
    ∙ ap (λ (w : List PlainGroundLaw). laws_behind u base law (front ++ value ∷ []) others ++ w) (values_behind u base law front others values)

pub behind_range : (u : Universe) (base : ℕ) (law : Law) (front : List ℕ) (ranges : List Range) (range : Range) (others : List Range) (values : List ℕ) →
    ranges ≡ range ∷ others → values ≡ range_values u range → each_behind u base law front others values ≡ laws_behind u base law front ranges
behind_range u base law front ranges range others values e v =
    ap (each_behind u base law front others) v
    ∙ sym (values_behind u base law front others (range_values u range))
    ∙ sym (ap (laws_behind u base law front) e)

-- where there is no list of values, there is no law
pub no_laws : (u : Universe) (base : ℕ) (law : Law) (ranges : List Range) (count : ℕ) → count ≡ min (length (choices (map (range_values u) ranges))) 1000001 → count ≡ 0 →
    [] ≡ laws_behind u base law [] ranges
no_laws u base law ranges count is none = no_list (choices (map (range_values u) ranges)) (omega arith)
  where
    no_list : (lists : List (List ℕ)) → length lists ≡ 0 → [] ≡ laws_under u base law (map (λ more. [] ++ more) lists)
    no_list [] e = refl
    no_list (list ∷ lists) e = absurd (omega arith)

-- ---- one instance

-- what the variables stand for under no bracket
unbound : (env : BindingsView) → env.bound ≡ [] → environment_of env ≡ giving env.values
unbound env e = ap (λ (pairs : List (ℕ × ℕ)). bound_over pairs (giving env.values)) e

one_under : (u : Universe) (base : ℕ) (law : Law) (values : List ℕ) → laws_under u base law (values ∷ []) ≡ cond (has_instance u law values) (laws_with u base law values) []
one_under u base law values = elim (has_instance u law values) as (λ has. flat_map (laws_with u base law) (cond has (values ∷ []) []) ≡ cond has (laws_with u base law values) []) [
  | true ↦ append-nil (laws_with u base law values)
  | false ↦ refl
]

pub not_under : (u : Universe) (base : ℕ) (law : Law) (env : BindingsView) (passed : Bool) → env.bound ≡ [] → passed ≡ passes_in u law.test (environment_of env) → passed ≡ false →
    [] ≡ laws_under u base law (env.values ∷ [])
not_under u base law env passed none is fails =
    let test : passes u law.test env.values ≡ false = sym (ap (passes_in u law.test) (unbound env none)) ∙ sym is ∙ fails in
    sym (one_under u base law env.values ∙ ap (λ (b : Bool). cond (b && head_is_there u (giving env.values) law.head) (laws_with u base law env.values) []) test)

pub no_instance : (u : Universe) (law : Law) (env : BindingsView) (passed : Bool) → env.bound ≡ [] → passed ≡ passes_in u law.test (environment_of env) → passed ≡ false → has_instance u law env.values ≡ false
no_instance u law env passed none is fails =
    ap (λ (b : Bool). b && head_is_there u (giving env.values) law.head) (sym (ap (passes_in u law.test) (unbound env none)) ∙ sym is ∙ fails)

pub instance_there : (u : Universe) (law : Law) (env now : BindingsView) (passed : Bool) (head : Option GroundHead) → env.bound ≡ [] → passed ≡ passes_in u law.test (environment_of env) →
    passed ≡ true → now ≡ env → head ≡ ground_head u (environment_of now) law.head → head_is_there u (giving env.values) law.head ≡ is_some (ground_head u (giving env.values) law.head) → has_instance u law env.values ≡ is_some head
instance_there u law env now passed head none is holds same found there =
    let given = unbound env none in
    let test : passes u law.test env.values ≡ true = sym (ap (passes_in u law.test) given) ∙ sym is ∙ holds in
    let head_is : head ≡ ground_head u (giving env.values) law.head = found ∙ ap (λ (w : BindingsView). ground_head u (environment_of w) law.head) same ∙ ap (λ (w : Environment). ground_head u w law.head) given in
    ap (λ (b : Bool). b && head_is_there u (giving env.values) law.head) test ∙ there ∙ ap is_some (sym head_is)

pub under_counted : {E : Type 0} (u : Universe) (law : Law) (env mid after : BindingsView) (count now : ℕ) (result : Result ℕ E) → env.bound ≡ [] → has_instance u law env.values ≡ true → mid ≡ env → now ≡ min (count + choices_of u (environment_of mid) law.body) 16000001 →
    after ≡ mid → IfOk result (λ new. new ≡ min (now + part_choices u (environment_of after) law.after) 16000001) → IfOk result (λ new. new ≡ min (count + choices_under u law (env.values ∷ [])) 16000001)
under_counted u law env mid after count now (Err error) none has same first still second = tt
under_counted u law env mid after count now (Ok new) none has same first still second =
    let given = ap (λ (w : BindingsView). environment_of w) same ∙ unbound env none in
    under_some u law env.values count now new has (first ∙ ap (λ (w : Environment). min (count + choices_of u w law.body) 16000001) given)
    (second ∙ ap (λ (w : Environment). min (now + part_choices u w law.after) 16000001) (ap (λ (w : BindingsView). environment_of w) still ∙ given))

-- with the head that there is
pub is_under : (u : Universe) (base : ℕ) (law : Law) (env now : BindingsView) (passed : Bool) (head : Option GroundHead) → env.bound ≡ [] → passed ≡ passes_in u law.test (environment_of env) →
    passed ≡ true → now ≡ env → head ≡ ground_head u (environment_of now) law.head → head_is_there u (giving env.values) law.head ≡ is_some (ground_head u (giving env.values) law.head) →
    law_with u base law (environment_of now) head ≡ laws_under u base law (env.values ∷ [])
is_under u base law env now passed head none is holds same found there =
    let given = unbound env none in
    let test : passes u law.test env.values ≡ true = sym (ap (passes_in u law.test) given) ∙ sym is ∙ holds in
    let head_is : head ≡ ground_head u (giving env.values) law.head = found ∙ ap (λ (w : BindingsView). ground_head u (environment_of w) law.head) same ∙ ap (λ (w : Environment). ground_head u w law.head) given in
    let has : has_instance u law env.values ≡ is_some head =
    ap (λ (b : Bool). b && head_is_there u (giving env.values) law.head) test ∙ there ∙ ap is_some (sym head_is) in
    ap (λ (w : BindingsView). law_with u base law (environment_of w) head) same
    ∙ ap (λ (w : Environment). law_with u base law w head) given
    ∙ only_some head
    ∙ ap (λ (o : Option GroundHead). cond (is_some head) (law_with u base law (giving env.values) o) []) head_is
    ∙ sym (ap (λ (b : Bool). cond b (laws_with u base law env.values) []) has)
    ∙ sym (one_under u base law env.values)
  where
    only_some : (o : Option GroundHead) → law_with u base law (giving env.values) o ≡ cond (is_some o) (law_with u base law (giving env.values) o) []
    only_some None = refl
    only_some (Some found) = refl

-- with bindings that are the same
pub made_none : {whole : List PlainGroundLaw} (was : List GroundLaw) (old : Maker) (env : BindingsView) → [] ≡ whole → env ≡ old.env → HasMade whole was was old (record old { env = env })
made_none {whole} was old env e same =
    let none : HasMade [] was was old (record old { env = env }) = record {
      made = sym (append-nil (map plain_ground_law was));
      room = omega arith;
      like = record { table = refl; sig = refl; env = same };
    } in
    subst (λ (laws : List PlainGroundLaw). HasMade laws was was old (record old { env = env })) e none

pub made_from : {laws whole : List PlainGroundLaw} (was there : List GroundLaw) (old new : Maker) (env : BindingsView) (result : Result (Unit {0}) Halt) → laws ≡ whole → env ≡ old.env →
    OnOk result (HasMade laws was there (record old { env = env }) new) → OnOk result (HasMade whole was there old new)
made_from was there old new env (Err halt) e same one = tt
made_from {laws} {whole} was there old new env (Ok done) e same one =
    subst (λ (w : List PlainGroundLaw). HasMade w was there old new) e (record {
      made = one.made;
      room = one.room;
      like = record { table = one.like.table; sig = one.like.sig; env = one.like.env ∙ same };
    })

-- ---- value by value

-- the laws for the first values of the range are made
abbrev pub ChoicesSoFar : ℕ → Law → List Range → List ℕ → ℕ → List GroundLaw → List GroundLaw → Maker → Maker → Type 0
ChoicesSoFar base law others values i was there old new =
    let u = universe_in old in
    MadeSoFar (each_behind u base law old.env.values others (drop i values)) (each_behind u base law old.env.values others values) was there old new

-- while the value is given
with_given : (base : ℕ) (law : Law) (others : List Range) (old now : Maker) (value : ℕ) (env : BindingsView) → IsLike old now → env ≡ with_value value now.env →
    laws_behind (universe_in now) base law env.values others ≡ laws_behind (universe_in old) base law (old.env.values ++ value ∷ []) others
with_given base law others old now value env like e =
    ap (λ (w : BindingsView). laws_behind (universe_in now) base law w.values others) (e ∙ ap (with_value value) like.env)
    ∙ ap (λ (u : Universe). laws_behind u base law (old.env.values ++ value ∷ []) others) (sym (same_universe old now like.table like.sig))

next_value : (base : ℕ) (law : Law) (others : List Range) (values : List ℕ) (i : ℕ) {value : ℕ} (old now : Maker) (env : BindingsView) → slice_get values i ≡ Some value → IsLike old now →
    env ≡ with_value value now.env →
    each_behind (universe_in old) base law old.env.values others (drop i values)
    ≡ laws_behind (universe_in now) base law env.values others ++ each_behind (universe_in old) base law old.env.values others (drop (i + 1) values)
next_value base law others values i {value} old now env is like e =
    ap (each_behind (universe_in old) base law old.env.values others) (front_behind values i value (sym is))
    ∙ ap (λ (w : List PlainGroundLaw). w ++ each_behind (universe_in old) base law old.env.values others (drop (i + 1) values)) (sym (with_given base law others old now value env like e))

pub still_unbound : (old now : Maker) (value : ℕ) (env : BindingsView) → old.env.bound ≡ [] → IsLike old now → env ≡ with_value value now.env → env.bound ≡ []
still_unbound old now value env none like e = ap (λ (w : BindingsView). w.bound) (e ∙ ap (with_value value) like.env) ∙ none

pub choice_more : (base : ℕ) (law : Law) (others : List Range) (values : List ℕ) (i : ℕ) {value : ℕ} {was there next : List GroundLaw} {old now : Maker} (after : Maker) (env left : BindingsView) →
    ChoicesSoFar base law others values i was there old now → slice_get values i ≡ Some value → env ≡ with_value value now.env →
    HasMade (laws_behind (universe_in now) base law env.values others) there next (record now { env = env }) after →
    (after.env ≡ with_value value now.env → left ≡ now.env) → ChoicesSoFar base law others values (i + 1) was next old (record after { env = left })
choice_more base law others values i {value} {was} {there} {next} {old} {now} after env left so is e one back =
    let here : HasMade (laws_behind (universe_in now) base law env.values others) there next now (record after { env = left }) = record {
      made = one.made;
      room = one.room;
      like = record { table = one.like.table; sig = one.like.sig; env = back (one.like.env ∙ e) };
    } in
    made_more so (next_value base law others values i old now env is so.like e) here

pub choice_lacks : (base : ℕ) (law : Law) (others : List Range) (values : List ℕ) (i : ℕ) {value : ℕ} {was there : List GroundLaw} {old now : Maker} (env : BindingsView) (halt : Halt) →
    ChoicesSoFar base law others values i was there old now → slice_get values i ≡ Some value → env ≡ with_value value now.env →
    LacksRoom (nodes_in (laws_behind (universe_in now) base law env.values others)) now.room halt →
    LacksRoom (nodes_in (each_behind (universe_in old) base law old.env.values others values)) old.room halt
choice_lacks base law others values i {value} {was} {there} {old} {now} env halt so is e lacks =
    made_lacks (laws_behind (universe_in now) base law env.values others) (each_behind (universe_in old) base law old.env.values others (drop (i + 1) values)) halt so (next_value base law others values i old now env is so.like e) lacks

pub choices_end : (base : ℕ) (law : Law) (ranges : List Range) (range : Range) (others : List Range) (values : List ℕ) (i : ℕ) {was there : List GroundLaw} {old new : Maker} →
    ranges ≡ range ∷ others → values ≡ range_values (universe_in old) range → length values ≤ i → ChoicesSoFar base law others values i was there old new →
    HasMade (laws_behind (universe_in old) base law old.env.values ranges) was there old new
choices_end base law ranges range others values i {was} {there} {old} {new} e v past so =
    subst (λ (laws : List PlainGroundLaw). HasMade laws was there old new) (behind_range (universe_in old) base law old.env.values ranges range others values e v)
    (made_end so (at_drop_all (each_behind (universe_in old) base law old.env.values others) values i past))

-- ---- base law by base law

map_under : (u : Universe) (base : ℕ) (law : Law) (lists : List (List ℕ)) → flat_map (law_of_instance u) (map (Under base law) lists) ≡ flat_map (laws_with u base law) lists
map_under u base law [] = refl
map_under u base law (list ∷ lists) = ap (λ (w : List PlainGroundLaw). laws_with u base law list ++ w) (map_under u base law lists)

map_together : (u : Universe) (base : ℕ) (pairs : List (ℕ × ℕ)) → map (pair_law base) pairs ≡ flat_map (law_of_instance u) (map (Together base) pairs)
map_together u base [] = refl
map_together u base (pair ∷ pairs) = ap (λ (w : List PlainGroundLaw). pair_law base pair ∷ w) (map_together u base pairs)

-- the laws of a base law are those behind nothing
pub base_law_is : (u : Universe) (base : ℕ) (tree : BaseLawTree) (law : LawTree) → tree ≡ base_laws.One law → laws_behind u base (plain_law law) [] law.ranges ≡ laws_of u base (plain_base_law tree)
base_law_is u base tree law is =
    ap (laws_under u base (plain_law law)) (map-id (choices (map (range_values u) law.ranges)))
    ∙ sym (map_under u base (plain_law law) (filter (has_instance u (plain_law law)) (choices (map (range_values u) law.ranges))))
    ∙ sym (ap (λ (w : BaseLawTree). laws_of u base (plain_base_law w)) is)

-- or those of the pairs of actions
pub pairs_are : (u : Universe) (base : ℕ) (tree : BaseLawTree) (file line : ℕ) (actions : List ℕ) → tree ≡ base_laws.NoConcurrency file line → actions ≡ boolean_actions u →
    map (pair_law base) (pairs_of actions) ≡ laws_of u base (plain_base_law tree)
pairs_are u base tree file line actions is same =
    ap (λ (w : List ℕ). map (pair_law base) (pairs_of w)) same
    ∙ map_together u base (pairs_of (boolean_actions u))
    ∙ sym (ap (λ (w : BaseLawTree). laws_of u base (plain_base_law w)) is)

-- the laws of the first base laws are made
abbrev pub LawsSoFar : List BaseLawTree → ℕ → List GroundLaw → List GroundLaw → Maker → Maker → Type 0
LawsSoFar laws i was there old new =
    let u = universe_in old in
    MadeSoFar (laws_from u i (map plain_base_law (drop i laws))) (ground_laws u (map plain_base_law laws)) was there old new

next_law : (old now : Maker) (laws : List BaseLawTree) (law : BaseLawTree) (base i : ℕ) → i < length laws → law ≡ get_or laws i law → base ≡ i → IsLike old now →
    laws_from (universe_in old) i (map plain_base_law (drop i laws))
    ≡ laws_of (universe_in now) base (plain_base_law law) ++ laws_from (universe_in old) (i + 1) (map plain_base_law (drop (i + 1) laws))
next_law old now laws law base i within is same like =
    let u = universe_in old in
    let others = map plain_base_law (drop (i + 1) laws) in
    let rest = laws_from u (i + 1) others in
    at_drop_more (λ (l : List BaseLawTree). laws_from u i (map plain_base_law l)) laws i law within
    ∙ flat_map-append (law_of_instance u) (instances_of u i (plain_base_law (get_or laws i law))) (instances_from u (i + 1) others)
    ∙ ap (λ (w : BaseLawTree). laws_of u i (plain_base_law w) ++ rest) (sym is)
    ∙ ap (λ (k : ℕ). laws_of u k (plain_base_law law) ++ rest) (sym same)
    ∙ ap (λ (w : Universe). laws_of w base (plain_base_law law) ++ rest) (same_universe old now like.table like.sig)

pub laws_more : (laws : List BaseLawTree) (law : BaseLawTree) (base i : ℕ) {was there next : List GroundLaw} {old now after : Maker} → LawsSoFar laws i was there old now →
    i < length laws → law ≡ get_or laws i law → base ≡ i → HasMade (laws_of (universe_in now) base (plain_base_law law)) there next now after →
    LawsSoFar laws (i + 1) was next old after
laws_more laws law base i {was} {there} {next} {old} {now} so within is same one = made_more so (next_law old now laws law base i within is same so.like) one

pub laws_lack : (laws : List BaseLawTree) (law : BaseLawTree) (base i : ℕ) {was there : List GroundLaw} {old now : Maker} (halt : Halt) → LawsSoFar laws i was there old now →
    i < length laws → law ≡ get_or laws i law → base ≡ i → LacksRoom (nodes_in (laws_of (universe_in now) base (plain_base_law law))) now.room halt →
    LacksRoom (nodes_in (ground_laws (universe_in old) (map plain_base_law laws))) old.room halt
laws_lack laws law base i {was} {there} {old} {now} halt so within is same lacks =
    made_lacks (laws_of (universe_in now) base (plain_base_law law)) (laws_from (universe_in old) (i + 1) (map plain_base_law (drop (i + 1) laws))) halt so (next_law old now laws law base i within is same so.like) lacks

-- the actions stay those of the makers that are alike
pub same_actions : (old now : Maker) (actions : List ℕ) → actions ≡ boolean_actions (universe_in old) → IsLike old now → actions ≡ boolean_actions (universe_in now)
same_actions old now actions is like = is ∙ ap boolean_actions (same_universe old now like.table like.sig)

-- ---- within the limits

pub few_laws : (u : Universe) (laws : List BaseLaw) (count limit many more : ℕ) → count ≡ min (instances_of_all u laws) 1000001 → limit ≡ 1000000 → count ≤ limit → many ≡ min (choices_of_all u laws) 16000001 → more ≡ 16000000 → many ≤ more →
    laws_refusal u laws ≡ node_refusal (nodes_in (ground_laws u laws))
few_laws u laws count limit many more counted first few walked second rest =
    let nodes = node_refusal (nodes_in (ground_laws u laws)) in
    ap (λ (b : Bool). if b then Some (past limits.LawInstances) else option_or (choice_refusal (choices_of_all u laws)) nodes) (le-ltb 1000000 (instances_of_all u laws) (omega (arith, counted, first, few)))
    ∙ ap (λ (b : Bool). option_or (if b then Some (past limits.Choices) else None) nodes) (le-ltb 16000000 (choices_of_all u laws) (omega (arith, walked, second, rest)))

-- ---- what was made with the room for all nodes, or stopped

module _ (old new : Maker) (all : List PlainGroundLaw) (was made : List GroundLaw) where
  pub made_within : (laws : Laws) → was ≡ [] → HasMade all was made old new → plain_ground_laws laws ≡ map plain_ground_law made → plain_ground_laws laws ≡ all
  made_within laws none put is = is ∙ put.made ∙ ap (λ (l : List GroundLaw). map plain_ground_law l ++ all) none

  pub unrefused_within : old.room ≡ limit_number limits.GroundNodes → HasMade all was made old new → node_refusal (nodes_in all) ≡ None
  unrefused_within limit put = few_nodes (nodes_in all) old.room (omega (arith, put.room)) limit

pub refused_within : (count room : ℕ) (stop : Halt) (result : Result Laws Halt) → room ≡ limit_number limits.GroundNodes → LacksRoom count room stop → IsErrAnd result (λ halt. halt ≡ stop) →
    IfErr result (λ halt. IsRefusedBy (node_refusal count) (fault_by halt))
refused_within count room stop (Ok laws) limit lacks is = tt
refused_within count room stop (Err halt) limit lacks is =
    subst (λ (h : Halt). IsRefusedBy (node_refusal count) (fault_by h)) (sym is) (let ended : Result (Unit {0}) Halt = Err stop in many_nodes count room ended lacks limit)
