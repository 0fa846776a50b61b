-- Terms of two parts, one behind the other.
use Rattle.std.proofs.Common.{Result, Ok, Err, OnOk, IfOk, IfErr, IsErrAnd, ◌≡◌, ◌∙◌, ℕ, zero, suc, ◌+◌, ◌-◌, ◌<◌, ◌≤◌, true, false, List, [], ◌∷◌, ◌++◌, length, map, take, drop, get_or, refl, sym, ap, subst, arith, append-nil, length-append}
use Rattle.std.proofs.lemmas.List.{take_more}
use Rattle.cc_arena.specs.Walks.{arity}
use Rattle.cc_defs.specs.declared.node.Node.{Node}
use Rattle.cc_defs.specs.declared.node.Node.TheVariants as nodes
use Rattle.cc_defs.specs.declared.refusal.Fault.{Fault}
use Rattle.cc_defs.specs.ClauseForms.{Made, made_of}
use Rattle.cc_defs.specs.ClauseLists.{Asserted}
use Rattle.cc_defs.specs.Clauses.{Literal}
use Rattle.cc_defs.specs.Rules.{upto}
use Rattle.cc_defs.specs.Terms.{IsTermOver, postfix}
use Rattle.cc_form.specs.declared.writer.Writer.{Writer}
use Rattle.cc_form.specs.declared.store.Kept.{Kept}
use Rattle.cc_form.specs.declared.store.Store.{Store}
use Rattle.cc_form.specs.Machine.{Adds, IsBuilt, IsPast, IsRan, IsReady, Makes, Ran, RunsTo, behind, first_of, made_node, made_nodes, moved_node, moved_nodes, run, stepped}
use Rattle.cc_form.specs.Making.{is_true_node, is_truth, joined_nodes, nodes_above}
use Rattle.cc_form.specs.Store.{Gives}
use Rattle.cc_form.proofs.Keeping.{gives_more, gives_none}
use Rattle.cc_form.proofs.Running.{behind_twice, past_more, ready, run_rises, runs}

pub makes_of : (old new : Writer) (result : Result Literal Fault) (made : Made) → IfOk result (λ literal. literal ≡ made.literal) → OnOk result (IsBuilt old new made.last made.clauses) →
    IfErr result (IsPast made.last) → Makes old new result made
makes_of old new (Ok literal) made same built past = (same, built)
makes_of old new (Err fault) made same built past = past

pub makes_err : (old new : Writer) (result : Result Literal Fault) (made : Made) (fault : Fault) → IsErrAnd result (λ given. given ≡ fault) → IsPast made.last fault → Makes old new result made
makes_err old new (Ok literal) made fault is past = absurd is
makes_err old new (Err given) made fault is past = subst (IsPast made.last) (sym is) past

module _ (sizes : List ℕ) where
  pub run_behind : (a b : List Node) (stack : List Literal) (last : ℕ) → run sizes (a ++ b) stack last ≡ behind (run sizes a stack last).clauses (run sizes b (run sizes a stack last).stack (run sizes a stack last).last)
  run_behind [] b stack last = refl
  run_behind (node ∷ a) b stack last =
      let s = stepped sizes node stack last in
      let r = run sizes a s.stack s.last in
      ap (behind s.clauses) (run_behind a b s.stack s.last) ∙ behind_twice s.clauses r.clauses (run sizes b r.stack r.last)

  pub front_rises : (a b : List Node) (stack : List Literal) (last : ℕ) → (run sizes a stack last).last ≤ (run sizes (a ++ b) stack last).last
  front_rises a b stack last =
      let r = run sizes a stack last in
      subst (λ (n : ℕ). r.last ≤ n) (ap (λ (x : Ran). x.last) (sym (run_behind a b stack last))) (run_rises sizes b r.stack r.last)

  pub run_long : (term : List Node) (stack : List Literal) (last : ℕ) → IsTermOver sizes term → length (run sizes term stack last).stack ≡ length stack + 1
  run_long term stack last is =
      ap (λ (t : List Node). length (run sizes t stack last).stack) (is.written ∙ sym (append-nil (postfix is.formula)))
      ∙ ap (λ (r : Ran). length r.stack) (runs sizes is.formula [] stack last) ∙ length-append stack ((made_of sizes last is.formula).literal ∷ [])

pub ready_at : (sizes : List ℕ) (term : List Node) (count : ℕ) → IsTermOver sizes term → IsReady count term
ready_at sizes term count is = subst (IsReady count) (append-nil (postfix is.formula) ∙ sym is.written) (ready is.formula [] count tt)

pub ran_more : (sizes : List ℕ) (old between new : Writer) (a b : List Node) (stack : List Literal) (last : ℕ) → old.places ≡ sizes → IsRan old between (run sizes a stack last) →
    IsRan between new (run between.places b between.stack.items between.last) → IsRan old new (run sizes (a ++ b) stack last)
ran_more sizes old between new a b stack last same one other =
    let r = run sizes a stack last in
    let same_run : run between.places b between.stack.items between.last ≡ run sizes b r.stack r.last =
    ap (λ (p : List ℕ). run p b between.stack.items between.last) (one.built.places ∙ same) ∙ ap (λ (s : List Literal). run sizes b s between.last) one.stack ∙ ap (run sizes b r.stack) one.built.ends in
    let next : IsRan between new (run sizes b r.stack r.last) = subst (IsRan between new) same_run other in
    let t = run sizes b r.stack r.last in
    subst (IsRan old new) (sym (run_behind sizes a b stack last)) (record {
      stack = next.stack;
      built = record {
        places = next.built.places ∙ one.built.places;
        ends = next.built.ends;
        within = next.built.within;
        gives = gives_more old.store.kept between.store.kept new.store.kept r.clauses t.clauses one.built.gives next.built.gives;
      };
    })

pub step_is_run : (sizes : List ℕ) (old new : Writer) (node : Node) (stack : List Literal) (last : ℕ) → IsRan old new (stepped sizes node stack last) → IsRan old new (run sizes (node ∷ []) stack last)
step_is_run sizes old new node stack last ran =
    let s = stepped sizes node stack last in
    subst (IsRan old new) (ap (λ (l : List (List Literal)). let r : Ran = record { stack = s.stack; last = s.last; clauses = l } in r) (sym (append-nil s.clauses))) ran

-- ---- the formula `true`

true_moved : (by : ℕ) (node : Node) → is_true_node (moved_node by node) ≡ is_true_node node
true_moved by nodes.True = refl
true_moved by nodes.False = refl
true_moved by (nodes.Atom constant value) = refl
true_moved by nodes.Not = refl
true_moved by (nodes.All count) = refl
true_moved by (nodes.Any count) = refl
true_moved by nodes.Same = refl

pub truth_moved : (by : ℕ) (term : List Node) → is_truth (moved_nodes by term) ≡ is_truth term
truth_moved by [] = refl
truth_moved by (node ∷ []) = true_moved by node
truth_moved by (node ∷ more ∷ term) = refl

pub joined_first : (a b : List Node) → is_truth a ≡ true → joined_nodes a b ≡ b
joined_first a b e = rw e refl

pub joined_second : (a b : List Node) → is_truth a ≡ false → is_truth b ≡ true → joined_nodes a b ≡ a
joined_second a b e f = rw (e, f) refl

pub joined_both : (a b : List Node) → is_truth a ≡ false → is_truth b ≡ false → joined_nodes a b ≡ a ++ b ++ nodes.All 2 ∷ []
joined_both a b e f = rw (e, f) refl

-- ---- both parts, run one after the other

-- a writer that has begun a term
pub begun : (old begin between : Writer) (term : List Node) → begin.places ≡ old.places → begin.last ≡ old.last → begin.store ≡ old.store → begin.stack.items ≡ [] →
    IsRan begin between (run begin.places term begin.stack.items begin.last) → IsRan old between (run old.places term [] old.last)
begun old begin between term places last store none ran =
    let same : run begin.places term begin.stack.items begin.last ≡ run old.places term [] old.last =
    ap (λ (p : List ℕ). run p term begin.stack.items begin.last) places ∙ ap (λ (s : List Literal). run old.places term s begin.last) none ∙ ap (run old.places term []) last in
    let moved : IsRan begin between (run old.places term [] old.last) = subst (IsRan begin between) same ran in
    record {
      stack = moved.stack;
      built = record {
        places = moved.built.places ∙ places;
        ends = moved.built.ends;
        within = moved.built.within;
        gives = subst (λ (k : Kept). Gives k between.store.kept (run old.places term [] old.last).clauses) (ap (λ (s : Store). s.kept) store) moved.built.gives;
      };
    }

pub made_from : (old new : Writer) (literal : Literal) (term : List Node) → literal ≡ first_of new.stack.items → IsRan old new (run old.places term [] old.last) →
    (literal ≡ (made_nodes old.places old.last term).literal) × IsBuilt old new (made_nodes old.places old.last term).last (made_nodes old.places old.last term).clauses
made_from old new literal term is ran = (is ∙ ap first_of ran.stack, ran.built)

pub begun_past : (old begin : Writer) (term : List Node) (fault : Fault) → begin.places ≡ old.places → begin.last ≡ old.last → begin.stack.items ≡ [] →
    IsPast (run begin.places term begin.stack.items begin.last).last fault → IsPast (run old.places term [] old.last).last fault
begun_past old begin term fault places last none past =
    subst (λ (n : ℕ). IsPast (run old.places term [] n).last fault) last
    (subst (λ (s : List Literal). IsPast (run old.places term s begin.last).last fault) none
    (subst (λ (p : List ℕ). IsPast (run p term begin.stack.items begin.last).last fault) places past))

pub next_past : (old between : Writer) (a b : List Node) (fault : Fault) → IsRan old between (run old.places a [] old.last) →
    IsPast (run between.places b between.stack.items between.last).last fault → IsPast (run old.places (a ++ b) [] old.last).last fault
next_past old between a b fault ran past =
    let r = run old.places a [] old.last in
    subst (λ (n : ℕ). IsPast n fault) (ap (λ (x : Ran). x.last) (sym (run_behind old.places a b [] old.last)))
    (subst (λ (n : ℕ). IsPast (run old.places b r.stack n).last fault) ran.built.ends
    (subst (λ (s : List Literal). IsPast (run old.places b s between.last).last fault) ran.stack
    (subst (λ (p : List ℕ). IsPast (run p b between.stack.items between.last).last fault) ran.built.places past)))

pub front_past : (sizes : List ℕ) (a b : List Node) (last : ℕ) (fault : Fault) → IsPast (run sizes a [] last).last fault → IsPast (run sizes (a ++ b) [] last).last fault
front_past sizes a b last fault past = past_more (run sizes a [] last).last (run sizes (a ++ b) [] last).last fault (front_rises sizes a b [] last) past

pub step_past : (sizes : List ℕ) (node : Node) (stack : List Literal) (last : ℕ) (fault : Fault) → IsPast (stepped sizes node stack last).last fault → IsPast (run sizes (node ∷ []) stack last).last fault
step_past sizes node stack last fault past = past

pub runs_err : (old new : Writer) (result : Result (Unit {0}) Fault) (ran : Ran) (fault : Fault) → IsErrAnd result (λ given. given ≡ fault) → IsPast ran.last fault → RunsTo old new result ran
runs_err old new (Ok done) ran fault is past = absurd is
runs_err old new (Err given) ran fault is past = subst (IsPast ran.last) (sym is) past

pub adds_err : (old new : Writer) (result : Result (Unit {0}) Fault) (made : Asserted) (fault : Fault) → IsErrAnd result (λ given. given ≡ fault) → IsPast made.last fault → Adds old new result made
adds_err old new (Ok done) made fault is past = absurd is
adds_err old new (Err given) made fault is past = subst (IsPast made.last) (sym is) past

-- what runs one list and then another runs both
pub next_runs : (sizes : List ℕ) (old between new : Writer) (a b : List Node) (stack : List Literal) (last : ℕ) (result : Result (Unit {0}) Fault) → old.places ≡ sizes → IsRan old between (run sizes a stack last) →
    RunsTo between new result (run between.places b between.stack.items between.last) → RunsTo old new result (run sizes (a ++ b) stack last)
next_runs sizes old between new a b stack last (Ok done) same one other = ran_more sizes old between new a b stack last same one other
next_runs sizes old between new a b stack last (Err fault) same one past =
    let r = run sizes a stack last in
    subst (λ (n : ℕ). IsPast n fault) (ap (λ (x : Ran). x.last) (sym (run_behind sizes a b stack last)))
    (subst (λ (n : ℕ). IsPast (run sizes b r.stack n).last fault) one.built.ends
    (subst (λ (s : List Literal). IsPast (run sizes b s between.last).last fault) one.stack
    (subst (λ (p : List ℕ). IsPast (run p b between.stack.items between.last).last fault) (one.built.places ∙ same) past)))

pub runs_step : (sizes : List ℕ) (old new : Writer) (node : Node) (stack : List Literal) (last : ℕ) (result : Result (Unit {0}) Fault) → OnOk result (IsRan old new (stepped sizes node stack last)) → IfErr result (IsPast (stepped sizes node stack last).last) →
    RunsTo old new result (run sizes (node ∷ []) stack last)
runs_step sizes old new node stack last (Ok done) ran past = step_is_run sizes old new node stack last ran
runs_step sizes old new node stack last (Err fault) ran past = past

-- ---- loops that run one list behind another

pub ran_none : (old : Writer) → old.last ≤ 4000000 → IsRan old old (run old.places [] old.stack.items old.last)
ran_none old within = record { stack = refl; built = record { places = refl; ends = refl; within = within; gives = gives_none old.store.kept } }

-- a step more of a list that goes on with a part
pub ran_part : (old now new : Writer) (front part whole : List Node) → front ++ part ≡ whole → IsRan old now (run old.places front old.stack.items old.last) →
    IsRan now new (run now.places part now.stack.items now.last) → IsRan old new (run old.places whole old.stack.items old.last)
ran_part old now new front part whole e one other =
    subst (λ (t : List Node). IsRan old new (run old.places t old.stack.items old.last)) e (ran_more old.places old now new front part old.stack.items old.last refl one other)

-- and where that step fails
pub part_fails : (old now : Writer) (front part rest whole : List Node) (fault : Fault) → front ++ part ++ rest ≡ whole → IsRan old now (run old.places front old.stack.items old.last) →
    IsPast (run now.places part now.stack.items now.last).last fault → IsPast (run old.places whole old.stack.items old.last).last fault
part_fails old now front part rest whole fault e ran past =
    let r = run old.places front old.stack.items old.last in
    let here : IsPast (run old.places (front ++ part) old.stack.items old.last).last fault =
    subst (λ (n : ℕ). IsPast n fault) (ap (λ (x : Ran). x.last) (sym (run_behind old.places front part old.stack.items old.last)))
    (subst (λ (n : ℕ). IsPast (run old.places part r.stack n).last fault) ran.built.ends
    (subst (λ (s : List Literal). IsPast (run old.places part s now.last).last fault) ran.stack
    (subst (λ (p : List ℕ). IsPast (run p part now.stack.items now.last).last fault) ran.built.places past))) in
    subst (λ (t : List Node). IsPast (run old.places t old.stack.items old.last).last fault) e
    (past_more (run old.places (front ++ part) old.stack.items old.last).last (run old.places (front ++ part ++ rest) old.stack.items old.last).last fault (front_rises old.places (front ++ part) rest old.stack.items old.last) here)

-- ---- how long the stack is

pub step_long : (sizes : List ℕ) (node : Node) (stack : List Literal) (last : ℕ) → arity node ≤ length stack → length (stepped sizes node stack last).stack + arity node ≡ length stack + 1
step_long sizes node stack last within =
    let start = length stack - arity node in
    let long = length-append (take start stack) ((made_node sizes node (drop start stack) last).literal ∷ []) in
    let front = front_long stack start (omega arith) in
    omega arith
  where
    front_long : (xs : List Literal) (n : ℕ) → n ≤ length xs → length (take n xs) ≡ n
    front_long [] zero less = refl
    front_long [] (suc n) less = absurd (omega arith)
    front_long (x ∷ xs) zero less = refl
    front_long (x ∷ xs) (suc n) less = ap suc (front_long xs n (omega arith))

-- ---- the parts of a key

pub mapped_last : {A B : Type 0} (f : A → B) (xs : List A) (x : A) → map f (xs ++ x ∷ []) ≡ map f xs ++ f x ∷ []
mapped_last f [] x = refl
mapped_last f (y ∷ xs) x = ap (λ l. f y ∷ l) (mapped_last f xs x)

pub mapped_more : {A B : Type 0} (f : A → B) (xs : List A) (i : ℕ) (d : A) → i < length xs → map f (take (i + 1) xs) ≡ map f (take i xs) ++ f (get_or xs i d) ∷ []
mapped_more f xs i d less = ap (map f) (take_more xs i d less) ∙ mapped_last f (take i xs) (get_or xs i d)

pub above_more : (position value more : ℕ) → value + 1 ≤ more → nodes_above position value (more - (value + 1)) ++ nodes.Atom position more ∷ [] ≡ nodes_above position value (more + 1 - (value + 1))
above_more position value more least =
    let n = more - (value + 1) in
    ap (λ (k : ℕ). nodes_above position value n ++ nodes.Atom position k ∷ []) (let e : more ≡ value + 1 + n = omega arith in e)
    ∙ sym (mapped_last (λ k. nodes.Atom position (value + 1 + k)) (upto n) n)
    ∙ ap (nodes_above position value) (let e : suc n ≡ more + 1 - (value + 1) = omega arith in e)
