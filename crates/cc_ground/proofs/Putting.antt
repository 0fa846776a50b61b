-- Nodes that are put behind others, and the room that is left for them.
use Rattle.std.proofs.Common.{◌≡◌, ◌∙◌, ℕ, ◌+◌, ◌<◌, ◌≤◌, List, [], ◌∷◌, ◌++◌, length, drop, map, get_or, position, nat_eq, Bool, true, Option, Some, None, Result, Ok, Err, ◌⊎◌, inl, inr, refl, sym, ap, subst, append_assoc, append-nil, length-append, arith}
use Rattle.std.proofs.lemmas.List.{at_drop_all, at_drop_more}
use Rattle.std.specs.Result.{IfErr, IfOk, OnOk, IsErr, IsErrAnd}
use Rattle.std.specs.Prelude.{if◌then◌else◌}
use Rattle.cc_ground.specs.declared.judged.Equation.{Equation}
use Rattle.cc_ground.specs.declared.pieces.Sign.{Sign}
use Rattle.cc_ground.specs.Outermost.{joining_node, sign_of}
use Rattle.cc_ground.specs.Pieces.{atom_nodes, count_behind, formula_of, holds_at, list_nodes, nodes_behind, nodes_over}
use Rattle.std.specs.Global.{Box}
use Rattle.cc_defs.specs.declared.formula.Formula as kept
use Rattle.cc_defs.specs.declared.node.Node.TheVariants as nodes
use Rattle.cc_defs.specs.Resolved as resolved
use Rattle.cc_defs.specs.Terms.{Ground, Operands, all_of, nothing, and_then, operand_count, operands_behind, postfix, postfixes}
use Rattle.cc_defs.specs.Terms as terms
use Rattle.cc_defs.specs.declared.node.Node.{Node}
use Rattle.cc_defs.specs.Judged.{constants_of, judged}
use Rattle.cc_defs.specs.declared.formula.Term.{Term as TermTree}
use Rattle.cc_defs.specs.Resolved.{Term, Formula, plain_formula, plain_term}
use Rattle.cc_ground.specs.declared.maker.Halt.{Halt}
use Rattle.cc_ground.specs.declared.maker.Halt.TheVariants as halts
use Rattle.cc_ground.specs.declared.maker.Maker.{Maker}
use Rattle.cc_defs.specs.Nodes.{nodes_of}
use Rattle.cc_defs.specs.Nodes.{Side, both_have, common_values, equation, side, term_of}
use Rattle.cc_defs.specs.Universe.{Universe, objects_of}
use Rattle.cc_defs.specs.Satisfaction.{Environment, bind}
use Rattle.cc_ground.specs.Bindings.{BindingsView, environment_of, with_bound}
use Rattle.cc_ground.proofs.Meant.{all_is, some_is}
use Rattle.cc_ground.proofs.Testing.{IsBracket}
use Rattle.cc_ground.specs.Views.{HasPut, IsLike, LacksRoom, universe_in, universe_of}

-- ---- one behind another

pub put_none : (maker : Maker) → HasPut [] maker maker
put_none maker = record {
  put = sym (append-nil maker.nodes.items);
  room = omega arith;
  like = record { table = refl; sig = refl; env = refl };
}

pub like_both : {a b c : Maker} → IsLike a b → IsLike b c → IsLike a c
like_both f g = record { table = g.table ∙ f.table; sig = g.sig ∙ f.sig; env = g.env ∙ f.env }

pub put_both : {xs ys : List Node} {a b c : Maker} → HasPut xs a b → HasPut ys b c → HasPut (xs ++ ys) a c
put_both {xs} {ys} {a} {b} {c} f g = record {
  put = g.put ∙ ap (λ (l : List Node). l ++ ys) f.put ∙ append_assoc a.nodes.items xs ys;
  room = omega (arith, length-append xs ys, f.room, g.room);
  like = like_both f.like g.like;
}

pub put_as : {xs ys : List Node} {a b : Maker} → xs ≡ ys → HasPut xs a b → HasPut ys a b
put_as {xs} {ys} {a} {b} e f = subst (λ (l : List Node). HasPut l a b) e f

-- makers that are alike speak of the same
pub same_universe : (a b : Maker) → b.table.now ≡ a.table.now → b.sig.now ≡ a.sig.now → universe_in a ≡ universe_in b
same_universe a b t s = sym (ap (λ table. universe_of table a.sig.now) t) ∙ sym (ap (universe_of b.table.now) s)

-- ---- the room

pub lacks_more : {few many room there : ℕ} (halt : Halt) → (room < few → there < many) → LacksRoom few room halt → LacksRoom many there halt
lacks_more halts.Full more lacks = more lacks
lacks_more halts.OutOfMemory more lacks = tt

-- there is no room for what was put, with more behind it
pub lacks_behind : {xs : List Node} {a b : Maker} (many count : ℕ) (halt : Halt) → HasPut xs a b → length xs + count ≤ many → LacksRoom count b.room halt → LacksRoom many a.room halt
lacks_behind many count halt put more lacks = lacks_more halt (λ few. omega (arith, put.room)) lacks

-- at the exit of a call that stopped
pub lacks_so : {T : Type 0} (count room : ℕ) (halt : Halt) (result : Result T Halt) → IsErrAnd result (λ d. d ≡ halt) → LacksRoom count room halt → IfErr result (LacksRoom count room)
lacks_so count room halt (Err d) is lacks = subst (LacksRoom count room) (sym is) lacks
lacks_so count room halt (Ok done) is lacks = absurd is

-- ---- two parts, one behind the other

pub then_put : {xs : List Node} {a b : Maker} (ys : List Node) (c : Maker) (result : Result (Unit {0}) Halt) → HasPut xs a b → OnOk result (HasPut ys b c) → OnOk result (HasPut (xs ++ ys) a c)
then_put ys c (Ok done) f g = put_both f g
then_put ys c (Err halt) f g = tt

pub then_lacks : {xs : List Node} {a b : Maker} (ys : List Node) (result : Result (Unit {0}) Halt) → HasPut xs a b → IfErr result (LacksRoom (length ys) b.room) → IfErr result (LacksRoom (length (xs ++ ys)) a.room)
then_lacks {xs} ys (Ok done) f g = tt
then_lacks {xs} ys (Err halt) f g = lacks_behind _ _ halt f (omega (arith, length-append xs ys)) g

pub first_lacks : {T : Type 0} (xs ys : List Node) (room : ℕ) (halt : Halt) (result : Result T Halt) → IsErrAnd result (λ d. d ≡ halt) → LacksRoom (length xs) room halt → IfErr result (LacksRoom (length (xs ++ ys)) room)
first_lacks xs ys room halt result is lacks = lacks_so _ _ halt result is (lacks_more halt (λ few. omega (arith, length-append xs ys)) lacks)

pub second_lacks : (xs ys : List Node) {a b : Maker} (halt : Halt) (result : Result ℕ Halt) → IsErrAnd result (λ d. d ≡ halt) → HasPut xs a b → LacksRoom (length ys) b.room halt → IfErr result (LacksRoom (length (xs ++ ys)) a.room)
second_lacks xs ys halt result is put lacks = lacks_so _ _ halt result is (lacks_behind _ _ halt put (omega (arith, length-append xs ys)) lacks)

-- an error says nothing of what was put
pub err_on : {T E : Type 0} (P : Type 0) (result : Result T E) → IsErr result → OnOk result P
err_on P (Err halt) is = tt
err_on P (Ok done) is = absurd cc

pub err_if : {T E : Type 0} (P : T → Type 0) (result : Result T E) → IsErr result → IfOk result P
err_if P (Err halt) is = tt
err_if P (Ok done) is = absurd cc

-- atoms

pub atoms_first : (constants indexes others more : List ℕ) (constant index : ℕ) → constants ≡ constant ∷ others → indexes ≡ index ∷ more → nodes.Atom constant index ∷ atom_nodes others more ≡ atom_nodes constants indexes
atoms_first constants indexes others more constant index e f = sym (ap (λ (l : List ℕ). atom_nodes l indexes) e ∙ ap (atom_nodes (constant ∷ others)) f)

pub over_some : (equation : Equation) (constants : List ℕ) → 0 < length constants → nodes_behind equation [] constants ++ nodes.Any (count_behind equation [] constants) ∷ [] ≡ nodes_over equation constants
over_some equation [] some = absurd (omega arith)
over_some equation (constant ∷ constants) some = refl

pub atoms_counted : {count more : ℕ} {node : Node} {rest whole : List Node} → more ≡ count + 1 → count ≡ length rest → node ∷ rest ≡ whole → more ≡ length whole
atoms_counted e f g = let long = ap length g in omega arith

pub list_there : (equation : Equation) (indexes : List ℕ) → holds_at equation indexes ≡ true →
    atom_nodes equation.constants.now indexes ++ nodes.All (length (atom_nodes equation.constants.now indexes)) ∷ [] ≡ list_nodes equation indexes
list_there equation indexes e = sym (ap (λ (b : Bool). if b then atom_nodes equation.constants.now indexes ++ nodes.All (length (atom_nodes equation.constants.now indexes)) ∷ [] else []) e)

-- the nodes of a formula for makers that are alike
pub nodes_like : (formula : Formula) {a b : Maker} → IsLike a b → nodes_of (universe_in b) (environment_of b.env) formula ≡ nodes_of (universe_in a) (environment_of a.env) formula
nodes_like formula {a} {b} like =
    ap (λ (w : BindingsView). nodes_of (universe_in b) (environment_of w) formula) like.env ∙ ap (λ (u : Universe). nodes_of u (environment_of a.env) formula) (sym (same_universe a b like.table like.sig))

-- the nodes of a formula whose parts are put one behind the other, the last one with the node of the whole
pub record OfTwo (old : Maker) (front : List Node) (second : Formula) (node : Node) (whole : List Node) : Type 0 where
  pub whole_is : front ++ (nodes_of (universe_in old) (environment_of old.env) second ++ node ∷ []) ≡ whole

pub two_put : {old mid : Maker} (new : Maker) {front whole : List Node} {second : Formula} {node : Node} (result : Result (Unit {0}) Halt) → OfTwo old front second node whole → HasPut front old mid →
    OnOk result (HasPut (nodes_of (universe_in mid) (environment_of mid.env) second ++ node ∷ []) mid new) → OnOk result (HasPut whole old new)
two_put {old} {mid} new {front} {whole} {second} {node} result two first last =
    subst (λ (l : List Node). OnOk result (HasPut l old new)) (ap (λ (l : List Node). front ++ (l ++ node ∷ [])) (nodes_like second first.like) ∙ two.whole_is) (then_put _ new result first last)

pub two_lack : {old mid : Maker} {front whole : List Node} {second : Formula} {node : Node} (result : Result (Unit {0}) Halt) → OfTwo old front second node whole → HasPut front old mid →
    IfErr result (LacksRoom (length (nodes_of (universe_in mid) (environment_of mid.env) second ++ node ∷ [])) mid.room) → IfErr result (LacksRoom (length whole) old.room)
two_lack {old} {mid} {front} {whole} {second} {node} result two first last =
    subst (λ (l : List Node). IfErr result (LacksRoom (length l) old.room)) (ap (λ (l : List Node). front ++ (l ++ node ∷ [])) (nodes_like second first.like) ∙ two.whole_is)
    (then_lacks (nodes_of (universe_in mid) (environment_of mid.env) second ++ node ∷ []) result first last)

pub one_lacks : {old : Maker} {front whole : List Node} {second : Formula} {node : Node} (halt : Halt) (result : Result (Unit {0}) Halt) → OfTwo old front second node whole → IsErrAnd result (λ d. d ≡ halt) →
    LacksRoom (length front) old.room halt → IfErr result (LacksRoom (length whole) old.room)
one_lacks {old} {front} {whole} {second} {node} halt result two is lacks =
    subst (λ (l : List Node). IfErr result (LacksRoom (length l) old.room)) two.whole_is (first_lacks front (nodes_of (universe_in old) (environment_of old.env) second ++ node ∷ []) old.room halt result is lacks)

abbrev pub nodes_in : Maker → Formula → List Node
nodes_in maker formula = nodes_of (universe_in maker) (environment_of maker.env) formula

pub both_nodes : (old : Maker) (whole a b : kept.Formula) (l r : Box kept.Formula) → whole ≡ kept.Both l r → a ≡ l.value → b ≡ r.value → OfTwo old (nodes_in old (plain_formula a)) (plain_formula b) (nodes.All 2) (nodes_in old (plain_formula whole))
both_nodes old whole a b l r is e f = record {
  whole_is = sym (append_assoc (nodes_in old (plain_formula a)) (nodes_in old (plain_formula b)) ((nodes.All 2) ∷ []))
      ∙ sym (ap (nodes_in old) (ap plain_formula is ∙ ap (λ x. resolved.Both (plain_formula x) (plain_formula r.value)) (sym e) ∙ ap (λ x. resolved.Both (plain_formula a) (plain_formula x)) (sym f)));
}

pub either_nodes : (old : Maker) (whole a b : kept.Formula) (l r : Box kept.Formula) → whole ≡ kept.Either l r → a ≡ l.value → b ≡ r.value → OfTwo old (nodes_in old (plain_formula a)) (plain_formula b) (nodes.Any 2) (nodes_in old (plain_formula whole))
either_nodes old whole a b l r is e f = record {
  whole_is = sym (append_assoc (nodes_in old (plain_formula a)) (nodes_in old (plain_formula b)) ((nodes.Any 2) ∷ []))
      ∙ sym (ap (nodes_in old) (ap plain_formula is ∙ ap (λ x. resolved.Either (plain_formula x) (plain_formula r.value)) (sym e) ∙ ap (λ x. resolved.Either (plain_formula a) (plain_formula x)) (sym f)));
}

pub same_nodes : (old : Maker) (whole a b : kept.Formula) (l r : Box kept.Formula) → whole ≡ kept.Same l r → a ≡ l.value → b ≡ r.value → OfTwo old (nodes_in old (plain_formula a)) (plain_formula b) nodes.Same (nodes_in old (plain_formula whole))
same_nodes old whole a b l r is e f = record {
  whole_is = sym (append_assoc (nodes_in old (plain_formula a)) (nodes_in old (plain_formula b)) (nodes.Same ∷ []))
      ∙ sym (ap (nodes_in old) (ap plain_formula is ∙ ap (λ x. resolved.Same (plain_formula x) (plain_formula r.value)) (sym e) ∙ ap (λ x. resolved.Same (plain_formula a) (plain_formula x)) (sym f)));
}

pub implies_nodes : (old : Maker) (whole a b : kept.Formula) (l r : Box kept.Formula) → whole ≡ kept.Implies l r → a ≡ l.value → b ≡ r.value → OfTwo old (nodes_in old (plain_formula a) ++ nodes.Not ∷ []) (plain_formula b) (nodes.Any 2) (nodes_in old (plain_formula whole))
implies_nodes old whole a b l r is e f = record {
  whole_is = sym (append_assoc (nodes_in old (plain_formula a) ++ nodes.Not ∷ []) (nodes_in old (plain_formula b)) ((nodes.Any 2) ∷ []))
      ∙ sym (ap (nodes_in old) (ap plain_formula is ∙ ap (λ x. resolved.Implies (plain_formula x) (plain_formula r.value)) (sym e) ∙ ap (λ x. resolved.Implies (plain_formula a) (plain_formula x)) (sym f)));
}

pub not_nodes : (old : Maker) (whole a : kept.Formula) (l : Box kept.Formula) → whole ≡ kept.Not l → a ≡ l.value → nodes_in old (plain_formula a) ++ nodes.Not ∷ [] ≡ nodes_in old (plain_formula whole)
not_nodes old whole a l is e = sym (ap (nodes_in old) (ap plain_formula is ∙ ap (λ x. resolved.Not (plain_formula x)) (sym e)))

-- however two parts are joined, none of which is denied
abbrev pub IsJoined : kept.Formula → Box kept.Formula → Box kept.Formula → Type 0
IsJoined whole l r = (whole ≡ kept.Both l r) ⊎ ((whole ≡ kept.Either l r) ⊎ (whole ≡ kept.Same l r))

module _ (old : Maker) (whole a b : kept.Formula) (l r : Box kept.Formula) (node : Node) where
  abbrev Parts : Node → Type 0
  Parts joining = OfTwo old (nodes_in old (plain_formula a)) (plain_formula b) joining (nodes_in old (plain_formula whole))

  with_node : (w : kept.Formula) → node ≡ joining_node (plain_formula whole) 2 → whole ≡ w → Parts (joining_node (plain_formula w) 2) → Parts node
  with_node w n is parts = subst Parts (sym (n ∙ ap (λ (f : kept.Formula). joining_node (plain_formula f) 2) is)) parts

  pub joined_nodes : IsJoined whole l r → node ≡ joining_node (plain_formula whole) 2 → a ≡ l.value → b ≡ r.value → Parts node
  joined_nodes (inl is) n e f = with_node (kept.Both l r) n is (both_nodes old whole a b l r is e f)
  joined_nodes (inr (inl is)) n e f = with_node (kept.Either l r) n is (either_nodes old whole a b l r is e f)
  joined_nodes (inr (inr is)) n e f = with_node (kept.Same l r) n is (same_nodes old whole a b l r is e f)

-- ---- comparisons

abbrev pub IsComparison : kept.Formula → TermTree → TermTree → Type 0
IsComparison whole l r = (whole ≡ kept.Less l r) ⊎ (whole ≡ kept.AtMost l r)

module _ (old : Maker) (whole : kept.Formula) (sign : Sign) (l r : TermTree) where
  abbrev judged_nodes : Sign → List Node
  judged_nodes s = postfix (judged (universe_in old) (environment_of old.env) (formula_of s (plain_term l) (plain_term r)) (constants_of (plain_term l) ++ constants_of (plain_term r)))

  pub comparison_nodes : IsComparison whole l r → sign ≡ sign_of (plain_formula whole) → judged_nodes sign ≡ nodes_in old (plain_formula whole)
  comparison_nodes (inl is) same = ap judged_nodes (same ∙ ap (λ (f : kept.Formula). sign_of (plain_formula f)) is) ∙ sym (ap (λ (f : kept.Formula). nodes_in old (plain_formula f)) is)
  comparison_nodes (inr is) same = ap judged_nodes (same ∙ ap (λ (f : kept.Formula). sign_of (plain_formula f)) is) ∙ sym (ap (λ (f : kept.Formula). nodes_in old (plain_formula f)) is)

-- ---- instances

-- those of these objects, behind others
abbrev pub behind : (ℕ → Ground) → Operands → List ℕ → Operands
behind instance made objects = operands_behind made (map instance objects)

-- the instances for the first objects are put
pub record InstancesSoFar (instance : ℕ → Ground) (objects : List ℕ) (i : ℕ) (old new : Maker) : Type 0 where
  pub made : Operands
  pub put : HasPut (postfixes made) old new
  pub rest : behind instance made (drop i objects) ≡ behind instance nothing objects

pub instances_begin : (instance : ℕ → Ground) (objects : List ℕ) (maker : Maker) → InstancesSoFar instance objects 0 maker maker
instances_begin instance objects maker = record { made = nothing; put = put_none maker; rest = refl }

pub instances_more : {instance : ℕ → Ground} {objects : List ℕ} {i : ℕ} {old new next : Maker} → InstancesSoFar instance objects i old new →
    i < length objects → HasPut (postfix (instance (get_or objects i 0))) new next →
    InstancesSoFar instance objects (i + 1) old next
instances_more {instance} {objects} {i} so within put = record {
  made = and_then so.made (instance (get_or objects i 0));
  put = put_both so.put put;
  rest = sym (at_drop_more (behind instance so.made) objects i 0 within) ∙ so.rest;
}

pub instances_done : {instance : ℕ → Ground} {objects : List ℕ} {i : ℕ} {old new : Maker} → InstancesSoFar instance objects i old new → length objects ≤ i → HasPut (postfixes (behind instance nothing objects)) old new
instances_done {instance} {objects} {i} so past = put_as (ap postfixes (sym (at_drop_all (behind instance so.made) objects i past) ∙ so.rest)) so.put

instances_grow : (instance : ℕ → Ground) (made : Operands) (objects : List ℕ) → length (postfixes made) ≤ length (postfixes (behind instance made objects))
instances_grow instance made [] = omega arith
instances_grow instance made (object ∷ objects) =
    omega (arith, length-append (postfixes made) (postfix (instance object)), instances_grow instance (and_then made (instance object)) objects)

pub instances_lack : {instance : ℕ → Ground} {objects : List ℕ} {i : ℕ} {old new : Maker} (halt : Halt) → InstancesSoFar instance objects i old new →
    i < length objects → LacksRoom (length (postfix (instance (get_or objects i 0)))) new.room halt →
    LacksRoom (length (postfixes (behind instance nothing objects))) old.room halt
instances_lack {instance} {objects} {i} halt so within lacks =
    let one = instance (get_or objects i 0) in
    let whole = ap (λ (l : Operands). length (postfixes l)) (sym (at_drop_more (behind instance so.made) objects i 0 within) ∙ so.rest) in
    lacks_behind _ _ halt so.put (omega (arith, whole, length-append (postfixes so.made) (postfix one), instances_grow instance (and_then so.made one) (drop (i + 1) objects))) lacks

pub instances_counted : (instance : ℕ → Ground) (made : Operands) (objects : List ℕ) → operand_count (behind instance made objects) ≡ operand_count made + length objects
instances_counted instance made [] = omega arith
instances_counted instance made (object ∷ objects) = omega (arith, instances_counted instance (and_then made (instance object)) objects)

-- ---- instances of a formula, each with its variable bound to an object

abbrev pub instance_at : Maker → Formula → ℕ → ℕ → Ground
instance_at maker formula variable object = term_of (universe_in maker) (bind variable object (environment_of maker.env)) formula

-- while the variable is bound to it
instance_nodes : (formula : Formula) (old now : Maker) (variable object : ℕ) (env : BindingsView) → IsLike old now → environment_of env ≡ bind variable object (environment_of now.env) →
    nodes_of (universe_in now) (environment_of env) formula ≡ postfix (instance_at old formula variable object)
instance_nodes formula old now variable object env like e =
    ap (λ (w : Environment). nodes_of (universe_in now) w formula) (e ∙ ap (λ (w : BindingsView). bind variable object (environment_of w)) like.env)
    ∙ ap (λ (u : Universe). nodes_of u (bind variable object (environment_of old.env)) formula) (sym (same_universe old now like.table like.sig))

pub instance_lacks : (formula : Formula) (variable : ℕ) {objects : List ℕ} {i : ℕ} {old now : Maker} (env : BindingsView) (halt : Halt) → InstancesSoFar (instance_at old formula variable) objects i old now →
    i < length objects → environment_of env ≡ bind variable (get_or objects i 0) (environment_of now.env) → LacksRoom (length (nodes_of (universe_in now) (environment_of env) formula)) now.room halt →
    LacksRoom (length (postfixes (behind (instance_at old formula variable) nothing objects))) old.room halt
instance_lacks formula variable {objects} {i} {old} {now} env halt so within e lacks =
    instances_lack halt so within (subst (λ (l : List Node). LacksRoom (length l) now.room halt) (instance_nodes formula old now variable (get_or objects i 0) env so.put.like e) lacks)

pub instance_put : (formula : Formula) (variable : ℕ) {objects : List ℕ} {i : ℕ} {old now : Maker} (after : Maker) (env left : BindingsView) → InstancesSoFar (instance_at old formula variable) objects i old now →
    i < length objects → env ≡ with_bound variable (get_or objects i 0) now.env → environment_of env ≡ bind variable (get_or objects i 0) (environment_of now.env) →
    HasPut (nodes_of (universe_in now) (environment_of env) formula) (record now { env = env }) after →
    (after.env ≡ with_bound variable (get_or objects i 0) now.env → left ≡ now.env) →
    InstancesSoFar (instance_at old formula variable) objects (i + 1) old (record after { env = left })
instance_put formula variable {objects} {i} {old} {now} after env left so within bound e put unbound =
    let object = get_or objects i 0 in
    let here : HasPut (nodes_of (universe_in now) (environment_of env) formula) now (record after { env = left }) = record {
      put = put.put;
      room = put.room;
      like = record { table = put.like.table; sig = put.like.sig; env = unbound (put.like.env ∙ bound) };
    } in
    instances_more so within (put_as (instance_nodes formula old now variable object env so.put.like e) here)

abbrev pub instances_in : Maker → Formula → ℕ → ℕ → Operands
instances_in maker formula variable sort = behind (instance_at maker formula variable) nothing (objects_of (universe_in maker) sort)

pub count_is : (maker : Maker) (formula : Formula) (variable sort : ℕ) {count : ℕ} → count ≡ length (objects_of (universe_in maker) sort) → count ≡ operand_count (instances_in maker formula variable sort)
count_is maker formula variable sort e = omega (arith, instances_counted (instance_at maker formula variable) nothing (objects_of (universe_in maker) sort))

-- ---- a bracket

pub bracket_puts : (node : ℕ → Node) (ops : Operands) {whole : List Node} {count : ℕ} {last : Node} {old mid : Maker} (new : Maker) (result : Result (Unit {0}) Halt) →
    whole ≡ postfixes ops ++ node (operand_count ops) ∷ [] → last ≡ node count → count ≡ operand_count ops →
    HasPut (postfixes ops) old mid → OnOk result (HasPut (last ∷ []) mid new) → OnOk result (HasPut whole old new)
bracket_puts node ops new (Ok done) e is n put behind = put_as (ap (λ (k : Node). postfixes ops ++ k ∷ []) (is ∙ ap node n) ∙ sym e) (put_both put behind)
bracket_puts node ops new (Err halt) e is n put behind = tt

pub bracket_nodes : (old : Maker) (whole inner : kept.Formula) (variable sort : ℕ) (box : Box kept.Formula) → IsBracket whole variable sort box → inner ≡ box.value →
    nodes_in old (plain_formula whole) ≡ postfixes (instances_in old (plain_formula inner) variable sort) ++ joining_node (plain_formula whole) (operand_count (instances_in old (plain_formula inner) variable sort)) ∷ []
bracket_nodes old whole inner variable sort box (inl is) same =
    let it = all_is whole inner variable sort box is same in
    let ops = instances_in old (plain_formula inner) variable sort in
    ap (nodes_in old) it ∙ ap (λ (f : Formula). postfixes ops ++ joining_node f (operand_count ops) ∷ []) (sym it)
bracket_nodes old whole inner variable sort box (inr is) same =
    let it = some_is whole inner variable sort box is same in
    let ops = instances_in old (plain_formula inner) variable sort in
    ap (nodes_in old) it ∙ ap (λ (f : Formula). postfixes ops ++ joining_node f (operand_count ops) ∷ []) (sym it)

bracket_length : (ops : Operands) (node : Node) {whole : List Node} → whole ≡ postfixes ops ++ node ∷ [] → length whole ≡ length (postfixes ops) + 1
bracket_length ops node e = ap length e ∙ length-append (postfixes ops) (node ∷ [])

pub bracket_lacks_last : (node : Node) (ops : Operands) {whole : List Node} {old mid : Maker} (result : Result (Unit {0}) Halt) → whole ≡ postfixes ops ++ node ∷ [] →
    HasPut (postfixes ops) old mid → IfErr result (LacksRoom 1 mid.room) → IfErr result (LacksRoom (length whole) old.room)
bracket_lacks_last node ops (Ok done) e put lacks = tt
bracket_lacks_last node ops (Err halt) e put lacks = lacks_behind _ _ halt put (omega (arith, bracket_length ops node e)) lacks

pub bracket_lacks : (node : Node) (ops : Operands) {whole : List Node} (room : ℕ) (halt : Halt) (result : Result (Unit {0}) Halt) → whole ≡ postfixes ops ++ node ∷ [] →
    IsErrAnd result (λ d. d ≡ halt) → LacksRoom (length (postfixes ops)) room halt → IfErr result (LacksRoom (length whole) room)
bracket_lacks node ops room halt result e is lacks = lacks_so _ _ halt result is (lacks_more halt (λ few. omega (arith, bracket_length ops node e)) lacks)

-- ---- common values

-- those from this index on, behind others
abbrev pub commons : Operands → ℕ → ℕ → List ℕ → ℕ → List ℕ → Operands
commons made constant i values other others = operands_behind made (common_values constant i values other others)

abbrev add_common : Operands → ℕ → ℕ → ℕ → Option ℕ → Operands
add_common made constant i other found = operands_behind made (both_have constant i other found)

behind_both : (made : Operands) (xs ys : List Ground) → operands_behind made (xs ++ ys) ≡ operands_behind (operands_behind made xs) ys
behind_both made [] ys = refl
behind_both made (x ∷ xs) ys = behind_both (and_then made x) xs ys

commons_next : (made : Operands) (constant i value : ℕ) (values : List ℕ) (other : ℕ) (others : List ℕ) →
    commons made constant i (value ∷ values) other others ≡ commons (add_common made constant i other (position (nat_eq value) others)) constant (i + 1) values other others
commons_next made constant i value values other others =
    behind_both made (both_have constant i other (position (nat_eq value) others)) (common_values constant (i + 1) values other others)

-- the first values are put, as far as they are common
pub record CommonsSoFar (constant : ℕ) (values : List ℕ) (other : ℕ) (others : List ℕ) (i count : ℕ) (old new : Maker) : Type 0 where
  pub made : Operands
  pub put : HasPut (postfixes made) old new
  pub counted : count ≡ operand_count made
  pub few : count ≤ i
  pub rest : commons made constant i (drop i values) other others ≡ commons nothing constant 0 values other others

pub commons_begin : (constant : ℕ) (values : List ℕ) (other : ℕ) (others : List ℕ) (maker : Maker) → CommonsSoFar constant values other others 0 0 maker maker
commons_begin constant values other others maker = record { made = nothing; put = put_none maker; counted = refl; few = omega arith; rest = refl }

common_rest : {constant : ℕ} {values : List ℕ} {other : ℕ} {others : List ℕ} {i count : ℕ} {old new : Maker} (found : Option ℕ) →
    (so : CommonsSoFar constant values other others i count old new) → i < length values → found ≡ position (nat_eq (get_or values i 0)) others →
    commons (add_common so.made constant i other found) constant (i + 1) (drop (i + 1) values) other others ≡ commons nothing constant 0 values other others
common_rest {constant} {values} {other} {others} {i} found so within at =
    ap (λ (o : Option ℕ). commons (add_common so.made constant i other o) constant (i + 1) (drop (i + 1) values) other others) at
    ∙ sym (commons_next so.made constant i (get_or values i 0) (drop (i + 1) values) other others)
    ∙ sym (at_drop_more (λ (l : List ℕ). commons so.made constant i l other others) values i 0 within) ∙ so.rest

pub commons_more : {constant : ℕ} {values : List ℕ} {other : ℕ} {others : List ℕ} {i count : ℕ} {old new next : Maker} (found : ℕ) →
    CommonsSoFar constant values other others i count old new → i < length values → Some found ≡ position (nat_eq (get_or values i 0)) others →
    HasPut (postfix (all_of (terms.Atom constant i ∷ terms.Atom other found ∷ []))) new next →
    CommonsSoFar constant values other others (i + 1) (count + 1) old next
commons_more {constant} {values} {other} {others} {i} {count} {old} {new} {next} found so within at put = record {
  made = and_then so.made (all_of (terms.Atom constant i ∷ terms.Atom other found ∷ []));
  put = put_both so.put put;
  counted = ap (λ (n : ℕ). n + 1) so.counted;
  few = omega (arith, so.few);
  rest = common_rest (Some found) so within at;
}

pub commons_less : {constant : ℕ} {values : List ℕ} {other : ℕ} {others : List ℕ} {i count : ℕ} {old new : Maker} →
    CommonsSoFar constant values other others i count old new → i < length values → None ≡ position (nat_eq (get_or values i 0)) others →
    CommonsSoFar constant values other others (i + 1) count old new
commons_less {constant} {values} {other} {others} {i} so within at = record {
  made = so.made;
  put = so.put;
  counted = so.counted;
  few = omega (arith, so.few);
  rest = common_rest None so within at;
}

pub commons_done : {constant : ℕ} {values : List ℕ} {other : ℕ} {others : List ℕ} {i count : ℕ} {old new : Maker} → CommonsSoFar constant values other others i count old new → length values ≤ i →
    HasPut (postfixes (commons nothing constant 0 values other others)) old new × (count ≡ operand_count (commons nothing constant 0 values other others))
commons_done {constant} {values} {other} {others} {i} so past =
    let e = sym (at_drop_all (λ (l : List ℕ). commons so.made constant i l other others) values i past) ∙ so.rest in (put_as (ap postfixes e) so.put, so.counted ∙ ap operand_count e)

pub commons_so : {constant : ℕ} {values : List ℕ} {other : ℕ} {others : List ℕ} {i count number : ℕ} {old new there : Maker} → number ≡ count → there ≡ new →
    CommonsSoFar constant values other others i count old new → CommonsSoFar constant values other others i number old there
commons_so {constant} {values} {other} {others} {i} {count} {number} {old} {new} {there} e f so =
    subst (λ (n : ℕ). CommonsSoFar constant values other others i n old there) (sym e) (subst (λ (m : Maker). CommonsSoFar constant values other others i count old m) (sym f) so)

added_grow : (made : Operands) (constant i other : ℕ) (found : Option ℕ) → length (postfixes made) ≤ length (postfixes (add_common made constant i other found))
added_grow made constant i other None = omega arith
added_grow made constant i other (Some place) = omega (arith, length-append (postfixes made) (postfix (all_of (terms.Atom constant i ∷ terms.Atom other place ∷ []))))

commons_grow : (made : Operands) (constant i : ℕ) (values : List ℕ) (other : ℕ) (others : List ℕ) → length (postfixes made) ≤ length (postfixes (commons made constant i values other others))
commons_grow made constant i [] other others = omega arith
commons_grow made constant i (value ∷ values) other others =
    let found = position (nat_eq value) others in
    let next = ap (λ (l : Operands). length (postfixes l)) (commons_next made constant i value values other others) in
    omega (arith, next, added_grow made constant i other found, commons_grow (add_common made constant i other found) constant (i + 1) values other others)

pub commons_lack : {constant : ℕ} {values : List ℕ} {other : ℕ} {others : List ℕ} {i count : ℕ} {old new : Maker} (found : ℕ) (halt : Halt) →
    CommonsSoFar constant values other others i count old new → i < length values → Some found ≡ position (nat_eq (get_or values i 0)) others →
    LacksRoom 3 new.room halt →
    LacksRoom (length (postfixes (commons nothing constant 0 values other others))) old.room halt
commons_lack {constant} {values} {other} {others} {i} found halt so within at lacks =
    let one = all_of (terms.Atom constant i ∷ terms.Atom other found ∷ []) in
    let whole = ap (λ (l : Operands). length (postfixes l)) (common_rest (Some found) so within at) in
    lacks_behind _ _ halt so.put (omega (arith, whole, length-append (postfixes so.made) (postfix one), commons_grow (and_then so.made one) constant (i + 1) (drop (i + 1) values) other others)) lacks

-- ---- two sides

pub sides_as : (u : Universe) (env one other : Environment) (s t : Term) (left right : Side) → one ≡ env → other ≡ env → left ≡ side u one s → right ≡ side u other t →
    equation left right ≡ equation (side u env s) (side u env t)
sides_as u env one other s t left right e f l r =
    ap (λ (w : Side). equation w right) (l ∙ ap (λ (v : Environment). side u v s) e) ∙ ap (equation (side u env s)) (r ∙ ap (λ (v : Environment). side u v t) f)
