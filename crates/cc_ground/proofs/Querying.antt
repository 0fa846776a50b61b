-- The conditions of a query, one behind another.
use Rattle.std.proofs.Common.{◌≡◌, ◌∙◌, ℕ, ◌+◌, ◌<◌, ◌≤◌, List, [], ◌∷◌, ◌++◌, length, drop, map, get_or, min, Option, Some, None, Result, Ok, Err, IfErr, OnOk, unwrap_or, append_assoc, append-nil, refl, sym, ap, subst, arith, rules, tests}
use Rattle.std.proofs.lemmas.List.{at_drop_all, at_drop_more}
use Rattle.cc_arena.specs.declared.ground_laws.GroundCondition.{GroundCondition}
use Rattle.cc_defs.specs.declared.law.Condition.{Condition as ConditionTree}
use Rattle.cc_defs.specs.declared.refusal.Fault.{Fault}
use Rattle.cc_defs.specs.declared.refusal.LimitAt.TheVariants as limits
use Rattle.cc_defs.specs.declared.refusal.Refusal.{Refusal}
use Rattle.std.specs.Option.{option_or}
use Rattle.cc_defs.specs.Declarations.{Declaration}
use Rattle.cc_defs.specs.Limits.{limit_number}
use Rattle.cc_defs.specs.Resolved.{Query, plain_condition}
use Rattle.cc_defs.specs.Signatures.{Signature}
use Rattle.cc_sorts.specs.Tables.{TableView, IsTable, IsSignatureOf}
use Rattle.cc_ground.specs.declared.maker.Halt.{Halt}
use Rattle.cc_ground.specs.declared.maker.Halt.TheVariants as halts
use Rattle.cc_ground.specs.declared.maker.Maker.{Maker}
use Rattle.cc_ground.specs.Counting.{choice_refusal, node_refusal, nodes_of_conditions}
use Rattle.cc_defs.specs.GroundLaws.{PlainGroundCondition, ground_condition, ground_query}
use Rattle.cc_arena.specs.GroundViews.{plain_ground_condition}
use Rattle.cc_defs.specs.Universe.{Universe, universe}
use Rattle.cc_defs.specs.Refusals.{IsRefusedBy, past}
use Rattle.cc_ground.specs.Views.{IsLike, LacksRoom, fault_by, universe_in, universe_of}
use Rattle.cc_ground.proofs.FromDeclarations.{universe_is}
use Rattle.cc_ground.proofs.Putting.{lacks_more, like_both, same_universe}

-- what is made, with these that are left, is the whole
pub record ConditionsSoFar (left whole : List PlainGroundCondition) (there : List GroundCondition) (old new : Maker) : Type 0 where
  pub made : map plain_ground_condition there ++ left ≡ whole
  pub room : new.room + nodes_of_conditions whole ≡ old.room + nodes_of_conditions left
  pub like : IsLike old new

abbrev pub conditions_in : Maker → List ConditionTree → List PlainGroundCondition
conditions_in maker conditions = map (ground_condition (universe_in maker)) (map plain_condition conditions)

-- the first conditions are made
abbrev pub AskedSoFar : List ConditionTree → ℕ → List GroundCondition → Maker → Maker → Type 0
AskedSoFar conditions i there old new = ConditionsSoFar (conditions_in old (drop i conditions)) (conditions_in old conditions) there old new

next_condition : (old now : Maker) (conditions : List ConditionTree) (condition : ConditionTree) (i : ℕ) → i < length conditions → condition ≡ get_or conditions i condition → IsLike old now →
    conditions_in old (drop i conditions) ≡ ground_condition (universe_in now) (plain_condition condition) ∷ conditions_in old (drop (i + 1) conditions)
next_condition old now conditions condition i within is like =
    let rest = conditions_in old (drop (i + 1) conditions) in
    at_drop_more (conditions_in old) conditions i condition within
    ∙ ap (λ (w : ConditionTree). ground_condition (universe_in old) (plain_condition w) ∷ rest) (sym is)
    ∙ ap (λ (u : Universe). ground_condition u (plain_condition condition) ∷ rest) (same_universe old now like.table like.sig)

pub asked_lack : (conditions : List ConditionTree) (condition : ConditionTree) (i : ℕ) {there : List GroundCondition} {old now : Maker} (halt : Halt) →
    AskedSoFar conditions i there old now → i < length conditions → condition ≡ get_or conditions i condition →
    LacksRoom (length (ground_condition (universe_in now) (plain_condition condition)).nodes) now.room halt →
    LacksRoom (nodes_of_conditions (conditions_in old conditions)) old.room halt
asked_lack conditions condition i {there} {old} {now} halt so within is lacks =
    let e = next_condition old now conditions condition i within is so.like in
    lacks_more halt (λ few. omega (arith, so.room, ap nodes_of_conditions e)) lacks

pushed_is : (xs : List GroundCondition) (x : GroundCondition) → map plain_ground_condition (xs ++ x ∷ []) ≡ map plain_ground_condition xs ++ plain_ground_condition x ∷ []
pushed_is [] x = refl
pushed_is (y ∷ ys) x = ap (λ l. plain_ground_condition y ∷ l) (pushed_is ys x)

pub asked_more : (conditions : List ConditionTree) (condition : ConditionTree) (i : ℕ) {there : List GroundCondition} {old now : Maker} (more : List GroundCondition) (next : Maker) (made : GroundCondition) →
    AskedSoFar conditions i there old now → i < length conditions → condition ≡ get_or conditions i condition → more ≡ there ++ made ∷ [] →
    plain_ground_condition made ≡ ground_condition (universe_in now) (plain_condition condition) →
    next.room + length (ground_condition (universe_in now) (plain_condition condition)).nodes ≡ now.room → IsLike now next → AskedSoFar conditions (i + 1) more old next
asked_more conditions condition i {there} {old} {now} more next made so within is pushed same room like =
    let e = next_condition old now conditions condition i within is so.like in
    let rest = conditions_in old (drop (i + 1) conditions) in
    let front = map plain_ground_condition there in
    record {
      made = ap (λ (l : List GroundCondition). map plain_ground_condition l ++ rest) pushed ∙ ap (λ (l : List PlainGroundCondition). l ++ rest) (pushed_is there made) ∙ append_assoc front (plain_ground_condition made ∷ []) rest
          ∙ ap (λ (p : PlainGroundCondition). front ++ (p ∷ rest)) same ∙ ap (λ (l : List PlainGroundCondition). front ++ l) (sym e) ∙ so.made;
      room = omega (arith, so.room, ap nodes_of_conditions e, room);
      like = like_both so.like like;
    }

pub asked_made : (conditions : List ConditionTree) (i : ℕ) {there : List GroundCondition} {old now : Maker} → AskedSoFar conditions i there old now → length conditions ≤ i → map plain_ground_condition there ≡ conditions_in old conditions
asked_made conditions i {there} {old} {now} so past =
    sym (append-nil (map plain_ground_condition there)) ∙ ap (λ (l : List PlainGroundCondition). map plain_ground_condition there ++ l) (sym (at_drop_all (conditions_in old) conditions i past)) ∙ so.made

pub asked_room : (conditions : List ConditionTree) (i : ℕ) {there : List GroundCondition} {old now : Maker} → AskedSoFar conditions i there old now → length conditions ≤ i → now.room + nodes_of_conditions (conditions_in old conditions) ≡ old.room
asked_room conditions i {there} {old} {now} so past = omega (arith, so.room, ap nodes_of_conditions (at_drop_all (conditions_in old) conditions i past))

-- ---- a query

pub asked_is : (table : TableView) (signature : Signature) (declarations : List Declaration) (found : Option (ℕ × ℕ)) (given range : ℕ × ℕ) (query : Query) →
    IsTable table declarations → IsSignatureOf declarations signature → given ≡ unwrap_or found (0, 0) → found ≡ Some range →
    ground_query (universe_of table signature) given query ≡ ground_query (universe declarations) range query
asked_is table signature declarations found given range query is of g f =
    ap (λ (u : Universe). ground_query u given query) (universe_is table declarations signature is of)
    ∙ ap (λ (w : ℕ × ℕ). ground_query (universe declarations) w query) (g ∙ ap (λ (o : Option (ℕ × ℕ)). unwrap_or o (0, 0)) f)

pub few_nodes : (count room : ℕ) → count ≤ room → room ≡ limit_number limits.GroundNodes → node_refusal count ≡ None
few_nodes count room few is = search (rules, tests)

many_of : (count room : ℕ) → room < count → room ≡ limit_number limits.GroundNodes → node_refusal count ≡ Some (past limits.GroundNodes)
many_of count room many is = search (rules, tests)

pub many_nodes : {T : Type 0} (count room : ℕ) (result : Result T Halt) → IfErr result (LacksRoom count room) → room ≡ limit_number limits.GroundNodes → IfErr result (λ halt. IsRefusedBy (node_refusal count) (fault_by halt))
many_nodes count room (Ok made) lacks is = tt
many_nodes count room (Err halts.Full) lacks is = many_of count room lacks is
many_nodes count room (Err halts.OutOfMemory) lacks is = tt

pub on_ok : {T E P Q : Type 0} (result : Result T E) → (P → Q) → OnOk result P → OnOk result Q
on_ok (Ok made) so p = so p
on_ok (Err halt) so p = tt

-- ---- lists of values

pub few_choices : (count counted room : ℕ) → counted ≡ min count 16000001 → counted ≤ room → room ≡ limit_number limits.Choices → choice_refusal count ≡ None
few_choices count counted room e few is = let small : count ≤ 16000000 = omega arith in search (rules, tests)

pub many_choices : (count counted room : ℕ) → counted ≡ min count 16000001 → room < counted → room ≡ limit_number limits.Choices → choice_refusal count ≡ Some (past limits.Choices)
many_choices count counted room e many is = let large : 16000000 < count = omega arith in search (rules, tests)

pub both_unrefused : (choices nodes : ℕ) → choice_refusal choices ≡ None → node_refusal nodes ≡ None → option_or (choice_refusal choices) (node_refusal nodes) ≡ None
both_unrefused choices nodes few e = ap (λ (o : Option Refusal). option_or o (node_refusal nodes)) few ∙ e

pub nodes_refused : (choices nodes : ℕ) (fault : Fault) → choice_refusal choices ≡ None → IsRefusedBy (node_refusal nodes) fault → IsRefusedBy (option_or (choice_refusal choices) (node_refusal nodes)) fault
nodes_refused choices nodes fault few refused = subst (λ (o : Option Refusal). IsRefusedBy (option_or o (node_refusal nodes)) fault) (sym few) refused

pub choices_refused : (choices nodes : ℕ) (refusal : Refusal) → choice_refusal choices ≡ Some (past limits.Choices) → refusal ≡ past limits.Choices →
    option_or (choice_refusal choices) (node_refusal nodes) ≡ Some refusal
choices_refused choices nodes refusal many is = ap (λ (o : Option Refusal). option_or o (node_refusal nodes)) many ∙ ap Some (sym is)
