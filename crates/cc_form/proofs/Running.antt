-- The machine over the nodes of a term makes its literal.
use Rattle.std.proofs.Common.{Result, Ok, Err, IfErr, OnOk, IsErrAnd, ◌≡◌, ◌∙◌, ℕ, zero, suc, ◌+◌, ◌-◌, ◌<◌, ◌≤◌, List, [], ◌∷◌, ◌++◌, length, map, take, drop, get_or, refl, sym, ap, subst, arith, append_assoc, append-nil, length-append}
use Rattle.std.specs.List.{AllByRecursion}
use Rattle.std.proofs.lemmas.List.{take_rest}
use Rattle.cc_arena.specs.Walks.{arity}
use Rattle.cc_defs.specs.declared.node.Node.{Node}
use Rattle.cc_defs.specs.declared.node.Node.TheVariants as nodes
use Rattle.cc_defs.specs.declared.refusal.Fault.{Fault}
use Rattle.cc_defs.specs.declared.refusal.Fault.TheVariants as faults
use Rattle.cc_defs.specs.ClauseForms.{Made, MadeAll, all_clauses, all_written, any_clauses, positive, true_variable, made_all, made_any, made_of, made_operands}
use Rattle.cc_defs.specs.ClauseLists.{Asserted}
use Rattle.cc_defs.specs.Clauses.{Literal, opposite}
use Rattle.cc_defs.specs.Terms.{Ground, Operands, Fits, IsTermOver, nothing, and_then, operand_count, postfix, postfixes}
use Rattle.cc_defs.specs.Terms as terms
use Rattle.cc_form.specs.declared.store.Kept.{Kept}
use Rattle.cc_form.specs.declared.writer.Writer.{Writer}
use Rattle.cc_form.specs.Machine.{Adds, Ran, IsBuilt, IsPast, IsRan, IsReady, behind, first_of, made_node, made_nodes, moved_node, run, stepped}
use Rattle.cc_form.specs.Store.{Gives}
use Rattle.cc_form.proofs.Keeping.{gives_more, gives_none}

-- ---- the end of a stack

taken : {X : Type 0} (xs ys : List X) → take (length xs) (xs ++ ys) ≡ xs
taken [] ys = refl
taken (x ∷ xs) ys = ap (λ l. x ∷ l) (taken xs ys)

dropped : {X : Type 0} (xs ys : List X) → drop (length xs) (xs ++ ys) ≡ ys
dropped [] ys = refl
dropped (x ∷ xs) ys = dropped xs ys

start_is : {X : Type 0} (xs ys : List X) (n : ℕ) → length ys ≡ n → length (xs ++ ys) - n ≡ length xs
start_is xs ys n long = let all = length-append xs ys in omega arith

pub behind_twice : (a b : List (List Literal)) (ran : Ran) → behind a (behind b ran) ≡ behind (a ++ b) ran
behind_twice a b ran = ap (λ (l : List (List Literal)). let r : Ran = record { stack = ran.stack; last = ran.last; clauses = l } in r) (sym (append_assoc a b ran.clauses))

module _ (sizes : List ℕ) where
  abbrev after : Made → List Literal → List Node → Ran
  after made stack rest = behind made.clauses (run sizes rest (stack ++ made.literal ∷ []) made.last)

  one_step : (node : Node) (rest : List Node) (stack operands : List Literal) (last : ℕ) → length operands ≡ arity node →
      run sizes (node ∷ rest) (stack ++ operands) last ≡ after (made_node sizes node operands last) stack rest
  one_step node rest stack operands last long =
      let start = start_is stack operands (arity node) long in
      ap (λ (n : ℕ). let made = made_node sizes node (drop n (stack ++ operands)) last in behind made.clauses (run sizes rest (take n (stack ++ operands) ++ made.literal ∷ []) made.last)) start
      ∙ ap (λ (o : List Literal). let made = made_node sizes node o last in behind made.clauses (run sizes rest (take (length stack) (stack ++ operands) ++ made.literal ∷ []) made.last)) (dropped stack operands)
      ∙ ap (λ (s : List Literal). let made = made_node sizes node operands last in behind made.clauses (run sizes rest (s ++ made.literal ∷ []) made.last)) (taken stack operands)

  -- a node with no operands
  leaf : (node : Node) (rest : List Node) (stack : List Literal) (last : ℕ) → 0 ≡ arity node →
      run sizes (node ∷ rest) stack last ≡ after (made_node sizes node [] last) stack rest
  leaf node rest stack last none = ap (λ (s : List Literal). run sizes (node ∷ rest) s last) (sym (append-nil stack)) ∙ one_step node rest stack [] last none

  pub operands_long : (operands : Operands) (last : ℕ) → length (made_operands sizes last operands).literals ≡ operand_count operands
  operands_long nothing last = refl
  operands_long (and_then operands f) last =
      length-append (made_operands sizes last operands).literals ((made_of sizes (made_operands sizes last operands).last f).literal ∷ []) ∙ ap (λ (n : ℕ). n + 1) (operands_long operands last)

  abbrev own : MadeAll → MadeAll
  own made = record { literals = made.literals; last = made.last; clauses = [] }

  abbrev with_clauses : List (List Literal) → Made → Made
  with_clauses clauses made = record { literal = made.literal; last = made.last; clauses = clauses ++ made.clauses }

  abbrev truth : Literal
  truth = positive (true_variable sizes)

  all_own : (made : MadeAll) (literals : List Literal) → made_all truth made literals ≡ with_clauses made.clauses (made_all truth (own made) literals)
  all_own made [] = ap (λ (l : List (List Literal)). let m : Made = record { literal = truth; last = made.last; clauses = l } in m) (sym (append-nil made.clauses))
  all_own made (x ∷ []) = ap (λ (l : List (List Literal)). let m : Made = record { literal = x; last = made.last; clauses = l } in m) (sym (append-nil made.clauses))
  all_own made (x ∷ y ∷ literals) = refl

  any_own : (made : MadeAll) (literals : List Literal) → made_any truth made literals ≡ with_clauses made.clauses (made_any truth (own made) literals)
  any_own made [] = ap (λ (l : List (List Literal)). let m : Made = record { literal = opposite truth; last = made.last; clauses = l } in m) (sym (append-nil made.clauses))
  any_own made (x ∷ []) = ap (λ (l : List (List Literal)). let m : Made = record { literal = x; last = made.last; clauses = l } in m) (sym (append-nil made.clauses))
  any_own made (x ∷ y ∷ literals) = refl

  abbrev mutual
    pub Runs : Ground → Type 0
    Runs f = (rest : List Node) (stack : List Literal) (last : ℕ) → run sizes (postfix f ++ rest) stack last ≡ after (made_of sizes last f) stack rest

  abbrev pub RunsAll : Operands → Type 0
  RunsAll operands = (rest : List Node) (stack : List Literal) (last : ℕ) →
      run sizes (postfixes operands ++ rest) stack last
      ≡ behind (made_operands sizes last operands).clauses (run sizes rest (stack ++ (made_operands sizes last operands).literals) (made_operands sizes last operands).last)

  run_not : (f : Ground) → Runs f → Runs (terms.Not f)
  run_not f runs rest stack last =
      let made = made_of sizes last f in
      ap (λ (t : List Node). run sizes t stack last) (append_assoc (postfix f) (nodes.Not ∷ []) rest)
      ∙ runs (nodes.Not ∷ rest) stack last
      ∙ ap (behind made.clauses) (one_step nodes.Not rest stack (made.literal ∷ []) made.last refl)
      ∙ behind_twice made.clauses [] (run sizes rest (stack ++ opposite made.literal ∷ []) made.last)
      ∙ ap (λ (l : List (List Literal)). behind l (run sizes rest (stack ++ opposite made.literal ∷ []) made.last)) (append-nil made.clauses)

  run_operator : (node : Node) (made_with : MadeAll → List Literal → Made) (operands : Operands) →
      ((made : MadeAll) (literals : List Literal) → made_with made literals ≡ with_clauses made.clauses (made_with (own made) literals)) →
      ((made : MadeAll) → made_node sizes node made.literals made.last ≡ made_with (own made) made.literals) → arity node ≡ operand_count operands → RunsAll operands →
      (rest : List Node) (stack : List Literal) (last : ℕ) →
      run sizes ((postfixes operands ++ node ∷ []) ++ rest) stack last ≡ after (made_with (made_operands sizes last operands) (made_operands sizes last operands).literals) stack rest
  run_operator node made_with operands owns is count runs rest stack last =
      let made = made_operands sizes last operands in
      let inside = made_with (own made) made.literals in
      ap (λ (t : List Node). run sizes t stack last) (append_assoc (postfixes operands) (node ∷ []) rest)
      ∙ runs (node ∷ rest) stack last
      ∙ ap (behind made.clauses) (one_step node rest stack made.literals made.last (operands_long operands last ∙ sym count))
      ∙ ap (λ (m : Made). behind made.clauses (after m stack rest)) (is made)
      ∙ behind_twice made.clauses inside.clauses (run sizes rest (stack ++ inside.literal ∷ []) inside.last)
      ∙ ap (λ (m : Made). after m stack rest) (sym (owns made made.literals))

  run_same : (f g : Ground) → Runs f → Runs g → Runs (terms.Same f g)
  run_same f g runs_f runs_g rest stack last =
      let one = made_of sizes last f in
      let other = made_of sizes one.last g in
      let made = made_node sizes nodes.Same (one.literal ∷ other.literal ∷ []) other.last in
      let tail = run sizes rest (stack ++ made.literal ∷ []) made.last in
      ap (λ (t : List Node). run sizes t stack last) (append_assoc (postfix f ++ postfix g) (nodes.Same ∷ []) rest ∙ append_assoc (postfix f) (postfix g) (nodes.Same ∷ rest))
      ∙ runs_f (postfix g ++ nodes.Same ∷ rest) stack last
      ∙ ap (behind one.clauses) (runs_g (nodes.Same ∷ rest) (stack ++ one.literal ∷ []) one.last)
      ∙ ap (λ (s : List Literal). behind one.clauses (behind other.clauses (run sizes (nodes.Same ∷ rest) s other.last))) (append_assoc stack (one.literal ∷ []) (other.literal ∷ []))
      ∙ ap (λ (r : Ran). behind one.clauses (behind other.clauses r)) (one_step nodes.Same rest stack (one.literal ∷ other.literal ∷ []) other.last refl)
      ∙ ap (behind one.clauses) (behind_twice other.clauses made.clauses tail)
      ∙ behind_twice one.clauses (other.clauses ++ made.clauses) tail
      ∙ ap (λ (l : List (List Literal)). behind l tail) (sym (append_assoc one.clauses other.clauses made.clauses))

  run_more : (operands : Operands) (f : Ground) → RunsAll operands → Runs f → RunsAll (and_then operands f)
  run_more operands f all runs rest stack last =
      let made = made_operands sizes last operands in
      let one = made_of sizes made.last f in
      ap (λ (t : List Node). run sizes t stack last) (append_assoc (postfixes operands) (postfix f) rest)
      ∙ all (postfix f ++ rest) stack last
      ∙ ap (behind made.clauses) (runs rest (stack ++ made.literals) made.last)
      ∙ behind_twice made.clauses one.clauses (run sizes rest (stack ++ made.literals ++ one.literal ∷ []) one.last)
      ∙ ap (λ (s : List Literal). behind (made.clauses ++ one.clauses) (run sizes rest s one.last)) (append_assoc stack made.literals (one.literal ∷ []))

  mutual
    pub runs : (f : Ground) → Runs f
    runs terms.Truth rest stack last = leaf nodes.True rest stack last refl
    runs terms.Falsehood rest stack last = leaf nodes.False rest stack last refl
    runs (terms.Atom position value) rest stack last = leaf (nodes.Atom position value) rest stack last refl
    runs (terms.Not f) rest stack last = run_not f (runs f) rest stack last
    runs (terms.All operands) rest stack last = run_operator (nodes.All (operand_count operands)) (made_all truth) operands all_own (λ made. refl) refl (runs_all operands) rest stack last
    runs (terms.Any operands) rest stack last = run_operator (nodes.Any (operand_count operands)) (made_any truth) operands any_own (λ made. refl) refl (runs_all operands) rest stack last
    runs (terms.Same f g) rest stack last = run_same f g (runs f) (runs g) rest stack last

    pub runs_all : (operands : Operands) → RunsAll operands
    runs_all nothing rest stack last = ap (λ (s : List Literal). run sizes rest s last) (sym (append-nil stack))
    runs_all (and_then operands f) rest stack last = run_more operands f (runs_all operands) (runs f) rest stack last

  -- the whole term
  pub run_is : (f : Ground) (last : ℕ) → run sizes (postfix f) [] last ≡ record { stack = (made_of sizes last f).literal ∷ []; last = (made_of sizes last f).last; clauses = (made_of sizes last f).clauses }
  run_is f last =
      let made = made_of sizes last f in
      ap (λ (t : List Node). run sizes t [] last) (sym (append-nil (postfix f))) ∙ runs f [] [] last
      ∙ ap (λ (l : List (List Literal)). let r : Ran = record { stack = made.literal ∷ []; last = made.last; clauses = l } in r) (append-nil made.clauses)

  pub made_is : (f : Ground) (last : ℕ) → made_nodes sizes last (postfix f) ≡ made_of sizes last f
  made_is f last = ap (λ (r : Ran). let m : Made = record { literal = first_of r.stack; last = r.last; clauses = r.clauses } in m) (run_is f last)

-- ---- each node finds its operands

ready_not : (count : ℕ) (rest : List Node) → IsReady (count + 1) rest → IsReady (count + 1) (nodes.Not ∷ rest)
ready_not count rest ready = (omega arith, subst (λ (n : ℕ). IsReady n rest) (let e : count + 1 ≡ count + 1 - 1 + 1 = omega arith in e) ready)

ready_operator : (node : Node) (count n : ℕ) (rest : List Node) → arity node ≡ n → IsReady (count + 1) rest → IsReady (count + n) (node ∷ rest)
ready_operator node count n rest is ready = (omega arith, subst (λ (k : ℕ). IsReady k rest) (let e : count + 1 ≡ count + n - arity node + 1 = omega arith in e) ready)

mutual
  pub ready : (f : Ground) (rest : List Node) (count : ℕ) → IsReady (count + 1) rest → IsReady count (postfix f ++ rest)
  ready terms.Truth rest count h = (omega arith, subst (λ (k : ℕ). IsReady k rest) (let e : count + 1 ≡ count - 0 + 1 = omega arith in e) h)
  ready terms.Falsehood rest count h = (omega arith, subst (λ (k : ℕ). IsReady k rest) (let e : count + 1 ≡ count - 0 + 1 = omega arith in e) h)
  ready (terms.Atom position value) rest count h = (omega arith, subst (λ (k : ℕ). IsReady k rest) (let e : count + 1 ≡ count - 0 + 1 = omega arith in e) h)
  ready (terms.Not f) rest count h = subst (IsReady count) (sym (append_assoc (postfix f) (nodes.Not ∷ []) rest)) (ready f (nodes.Not ∷ rest) count (ready_not count rest h))
  ready (terms.All operands) rest count h = subst (IsReady count) (sym (append_assoc (postfixes operands) (nodes.All (operand_count operands) ∷ []) rest))
      (ready_all operands (nodes.All (operand_count operands) ∷ rest) count (ready_operator (nodes.All (operand_count operands)) count (operand_count operands) rest refl h))
  ready (terms.Any operands) rest count h = subst (IsReady count) (sym (append_assoc (postfixes operands) (nodes.Any (operand_count operands) ∷ []) rest))
      (ready_all operands (nodes.Any (operand_count operands) ∷ rest) count (ready_operator (nodes.Any (operand_count operands)) count (operand_count operands) rest refl h))
  ready (terms.Same f g) rest count h = subst (IsReady count) (sym (append_assoc (postfix f ++ postfix g) (nodes.Same ∷ []) rest ∙ append_assoc (postfix f) (postfix g) (nodes.Same ∷ rest)))
      (ready f (postfix g ++ nodes.Same ∷ rest) count (ready g (nodes.Same ∷ rest) (count + 1)
      (subst (λ (k : ℕ). IsReady k (nodes.Same ∷ rest)) (let e : count + 2 ≡ count + 1 + 1 = omega arith in e) (ready_operator nodes.Same count 2 rest refl h))))

  pub ready_all : (operands : Operands) (rest : List Node) (count : ℕ) → IsReady (count + operand_count operands) rest → IsReady count (postfixes operands ++ rest)
  ready_all nothing rest count h = subst (λ (k : ℕ). IsReady k rest) (let e : count + 0 ≡ count = omega arith in e) h
  ready_all (and_then operands f) rest count h = subst (IsReady count) (sym (append_assoc (postfixes operands) (postfix f) rest))
      (ready_all operands (postfix f ++ rest) count (ready f rest (count + operand_count operands) (subst (λ (k : ℕ). IsReady k rest) (let e : count + (operand_count operands + 1) ≡ count + operand_count operands + 1 = omega arith in e) h)))

pub term_ready : (sizes : List ℕ) (term : List Node) → IsTermOver sizes term → IsReady 0 term
term_ready sizes term is = subst (IsReady 0) (append-nil (postfix is.formula) ∙ sym is.written) (ready is.formula [] 0 tt)

-- ---- the last variable rises

same_rises : (sizes : List ℕ) (node : Node) (operands : List Literal) (last : ℕ) → last ≤ (made_node sizes node operands last).last
same_rises sizes nodes.True operands last = omega arith
same_rises sizes nodes.False operands last = omega arith
same_rises sizes (nodes.Atom position value) operands last = omega arith
same_rises sizes nodes.Not operands last = omega arith
same_rises sizes (nodes.All count) [] last = omega arith
same_rises sizes (nodes.All count) (x ∷ []) last = omega arith
same_rises sizes (nodes.All count) (x ∷ y ∷ operands) last = omega arith
same_rises sizes (nodes.Any count) [] last = omega arith
same_rises sizes (nodes.Any count) (x ∷ []) last = omega arith
same_rises sizes (nodes.Any count) (x ∷ y ∷ operands) last = omega arith
same_rises sizes nodes.Same operands last = omega arith

pub run_rises : (sizes : List ℕ) (term : List Node) (stack : List Literal) (last : ℕ) → last ≤ (run sizes term stack last).last
run_rises sizes [] stack last = omega arith
run_rises sizes (node ∷ term) stack last =
    let ran = stepped sizes node stack last in
    let here = same_rises sizes node (drop (length stack - arity node) stack) last in
    let more = run_rises sizes term ran.stack ran.last in
    omega arith

pub past_more : (m n : ℕ) (fault : Fault) → m ≤ n → IsPast m fault → IsPast n fault
past_more m n (faults.Refused refusal) less is = (is.0, (let more = is.1 in omega arith))
past_more m n faults.OutOfMemory less is = tt

-- ---- moved nodes

pub arity_moved : (by : ℕ) (node : Node) → arity (moved_node by node) ≡ arity node
arity_moved by nodes.True = refl
arity_moved by nodes.False = refl
arity_moved by (nodes.Atom constant value) = refl
arity_moved by nodes.Not = refl
arity_moved by (nodes.All count) = refl
arity_moved by (nodes.Any count) = refl
arity_moved by nodes.Same = refl

-- ---- a loop over the nodes

pub all_made : (sizes : List ℕ) (offset : ℕ) (operands : List Literal) (last : ℕ) {node : Node} {count : ℕ} {truth : Literal} → node ≡ nodes.All count → truth ≡ positive (true_variable sizes) →
    made_all truth (record { literals = operands; last = last; clauses = [] }) operands ≡ made_node sizes (moved_node offset node) operands last
all_made sizes offset operands last is same =
    ap (λ (t : Literal). made_all t (record { literals = operands; last = last; clauses = [] }) operands) same ∙ sym (ap (λ (n : Node). made_node sizes (moved_node offset n) operands last) is)

pub any_made : (sizes : List ℕ) (offset : ℕ) (operands : List Literal) (last : ℕ) {node : Node} {count : ℕ} {truth : Literal} → node ≡ nodes.Any count → truth ≡ positive (true_variable sizes) →
    made_any truth (record { literals = operands; last = last; clauses = [] }) operands ≡ made_node sizes (moved_node offset node) operands last
any_made sizes offset operands last is same =
    ap (λ (t : Literal). made_any t (record { literals = operands; last = last; clauses = [] }) operands) same ∙ sym (ap (λ (n : Node). made_node sizes (moved_node offset n) operands last) is)

pub record RunsOn (old now : Writer) (whole rest : List Node) : Type 0 where
  pub places : now.places ≡ old.places
  pub within : now.last ≤ 4000000
  pub done : List (List Literal)
  pub gives : Gives old.store.kept now.store.kept done
  pub joined : behind done (run old.places rest now.stack.items now.last) ≡ run old.places whole old.stack.items old.last
  pub fits : AllByRecursion (Fits old.places) rest
  pub ready : IsReady (length now.stack.items) rest

pub run_begins : (old : Writer) (whole : List Node) → old.last ≤ 4000000 → AllByRecursion (Fits old.places) whole → IsReady (length old.stack.items) whole → RunsOn old old whole whole
run_begins old whole within fits ready = record { places = refl; within = within; done = []; gives = gives_none old.store.kept; joined = refl; fits = fits; ready = ready }

pub run_step : (old now new : Writer) (whole rest : List Node) (node : Node) → RunsOn old now whole (node ∷ rest) → IsRan now new (stepped now.places node now.stack.items now.last) → RunsOn old new whole rest
run_step old now new whole rest node so ran' =
    let ran : IsRan now new (stepped old.places node now.stack.items now.last) = subst (λ (p : List ℕ). IsRan now new (stepped p node now.stack.items now.last)) so.places ran' in
    let step = stepped old.places node now.stack.items now.last in
    record {
      places = ran.built.places ∙ so.places;
      within = (let below = ran.built.within in let is = ran.built.ends in omega arith);
      done = so.done ++ step.clauses;
      gives = gives_more old.store.kept now.store.kept new.store.kept so.done step.clauses so.gives ran.built.gives;
      joined = ap (λ (s : List Literal). behind (so.done ++ step.clauses) (run old.places rest s new.last)) ran.stack
          ∙ ap (λ (n : ℕ). behind (so.done ++ step.clauses) (run old.places rest step.stack n)) ran.built.ends
          ∙ sym (behind_twice so.done step.clauses (run old.places rest step.stack step.last)) ∙ so.joined;
      fits = so.fits.1;
      ready = subst (λ (n : ℕ). IsReady n rest)
          (let long = length-append (take (length now.stack.items - arity node) now.stack.items) ((made_node old.places node (drop (length now.stack.items - arity node) now.stack.items) now.last).literal ∷ []) in
          let front = front_long now.stack.items (length now.stack.items - arity node) (omega arith) in
          let all = ap length ran.stack in omega arith)
          so.ready.1;
    }
  where
    front_long : (xs : List Literal) (n : ℕ) → n ≤ length xs → length (take n xs) ≡ n
    front_long [] zero less = refl
    front_long [] (suc n) less = absurd (omega arith)
    front_long (x ∷ xs) zero less = refl
    front_long (x ∷ xs) (suc n) less = ap suc (front_long xs n (omega arith))

pub run_ends : (old now : Writer) (whole : List Node) → RunsOn old now whole [] → IsRan old now (run old.places whole old.stack.items old.last)
run_ends old now whole so = record {
  stack = ap (λ (r : Ran). r.stack) so.joined;
  built = record {
    places = so.places;
    ends = ap (λ (r : Ran). r.last) so.joined;
    within = subst (λ (n : ℕ). n ≤ 4000000) (ap (λ (r : Ran). r.last) so.joined) so.within;
    gives = subst (Gives old.store.kept now.store.kept) (sym (append-nil so.done) ∙ ap (λ (r : Ran). r.clauses) so.joined) so.gives;
  };
}

pub run_fails : (old now : Writer) (whole rest : List Node) (node : Node) (fault : Fault) → RunsOn old now whole (node ∷ rest) →
    IsPast (stepped now.places node now.stack.items now.last).last fault → IsPast (run old.places whole old.stack.items old.last).last fault
run_fails old now whole rest node fault so is =
    let step = stepped old.places node now.stack.items now.last in
    past_more step.last (run old.places whole old.stack.items old.last).last fault
    (subst (λ (n : ℕ). step.last ≤ n) (ap (λ (r : Ran). r.last) so.joined) (run_rises old.places rest step.stack step.last))
    (subst (λ (p : List ℕ). IsPast (stepped p node now.stack.items now.last).last fault) so.places is)

pub literal_there : (sizes : List ℕ) (term : List Node) (last : ℕ) (stack new : List Literal) → IsTermOver sizes term → stack ≡ [] → new ≡ (run sizes term stack last).stack → 0 < length new
literal_there sizes term last stack new is none made =
    let one : length new ≡ 1 =
    ap length (made ∙ ap (λ (s : List Literal). (run sizes term s last).stack) none ∙ ap (λ (t : List Node). (run sizes t [] last).stack) is.written ∙ ap (λ (r : Ran). r.stack) (run_is sizes is.formula last)) in
    omega arith

pub front_mapped : {A B : Type 0} (f : A → B) (xs : List A) (i : ℕ) (d : A) → i < length xs → drop i (map f xs) ≡ f (get_or xs i d) ∷ drop (i + 1) (map f xs)
front_mapped f [] i d less = absurd (omega arith)
front_mapped f (x ∷ xs) zero d less = refl
front_mapped f (x ∷ xs) (suc i) d less = front_mapped f xs i d (omega arith) ∙ ap (λ (n : ℕ). f (get_or xs i d) ∷ drop n (map f (x ∷ xs))) (let e : suc (i + 1) ≡ suc i + 1 = omega arith in e)

pub none_left : {A B : Type 0} (f : A → B) (xs : List A) (i : ℕ) → length xs ≤ i → drop i (map f xs) ≡ []
none_left f [] zero less = refl
none_left f [] (suc i) less = refl
none_left f (x ∷ xs) zero less = absurd (omega arith)
none_left f (x ∷ xs) (suc i) less = none_left f xs i (omega arith)

pub err_past : {T : Type 0} (result : Result T Fault) (last : ℕ) (fault : Fault) → IsErrAnd result (λ given. given ≡ fault) → IsPast last fault → IfErr result (IsPast last)
err_past (Ok x) last fault is past = tt
err_past (Err given) last fault is past = subst (IsPast last) (sym is) past

-- where clauses are added, or not

pub adds_then : {P : Type 0} (old new : Writer) (made : Asserted) (result : Result (Unit {0}) Fault) → Adds old new result made → (IsBuilt old new made.last made.clauses → P) → OnOk result P
adds_then old new made (Ok done) built then = then built
adds_then old new made (Err fault) past then = tt

pub adds_past : (Q : Fault → Type 0) (old new : Writer) (made : Asserted) (result : Result (Unit {0}) Fault) → Adds old new result made → ((fault : Fault) → IsPast made.last fault → Q fault) → IfErr result Q
adds_past Q old new made (Ok done) built then = tt
adds_past Q old new made (Err fault) past then = then fault past

-- a node takes its operands from the stack
pub step_ran : (old new : Writer) (by : ℕ) (node : Node) (start : ℕ) (items : List Literal) (literal : Literal) → start ≡ length old.stack.items - arity (moved_node by node) → items ≡ old.stack.items →
    literal ≡ (made_node old.places (moved_node by node) (take (length items - start) (drop start items)) old.last).literal → new.last ≡ (made_node old.places (moved_node by node) (take (length items - start) (drop start items)) old.last).last →
    new.last ≤ 4000000 → Gives old.store.kept new.store.kept (made_node old.places (moved_node by node) (take (length items - start) (drop start items)) old.last).clauses → new.places ≡ old.places →
    new.stack.items ≡ take start old.stack.items ++ literal ∷ [] → IsRan old new (stepped old.places (moved_node by node) old.stack.items old.last)
step_ran old new by node start items literal begins same is ends few gives still stack =
    let made : List Literal → Made = λ o. made_node old.places (moved_node by node) o old.last in
    let whole = old.stack.items in
    let first = length whole - arity (moved_node by node) in
    let operands : take (length items - start) (drop start items) ≡ drop first whole = take_rest items start ∙ ap (drop start) same ∙ ap (λ (n : ℕ). drop n whole) begins in
    let last = ends ∙ ap (λ (o : List Literal). (made o).last) operands in
    record {
      stack = stack ∙ ap (λ (n : ℕ). take n whole ++ literal ∷ []) begins ∙ ap (λ (l : Literal). take first whole ++ l ∷ []) (is ∙ ap (λ (o : List Literal). (made o).literal) operands);
      built = record {
        places = still;
        ends = last;
        within = subst (λ (n : ℕ). n ≤ 4000000) last few;
        gives = subst (λ (o : List Literal). Gives old.store.kept new.store.kept (made o).clauses) operands gives;
      };
    }

-- ---- a node of two operands or more

pub all_given : (t x : Literal) (operands : List Literal) (last : ℕ) (old new : Kept) → 2 ≤ length operands → x ≡ positive (last + 1) → Gives old new (all_written (all_clauses x operands)) →
    Gives old new (made_all t (record { literals = operands; last = last; clauses = [] }) operands).clauses
all_given t x [] last old new long is gives = absurd (omega arith)
all_given t x (f ∷ []) last old new long is gives = absurd (omega arith)
all_given t x (f ∷ g ∷ operands) last old new long is gives = subst (λ (y : Literal). Gives old new (all_written (all_clauses y (f ∷ g ∷ operands)))) is gives

pub all_last : (t : Literal) (operands : List Literal) (last now : ℕ) → 2 ≤ length operands → now ≡ last + 1 → now ≡ (made_all t (record { literals = operands; last = last; clauses = [] }) operands).last
all_last t [] last now long is = absurd (omega arith)
all_last t (f ∷ []) last now long is = absurd (omega arith)
all_last t (f ∷ g ∷ operands) last now long is = is

pub all_short : (t : Literal) (operands : List Literal) (last : ℕ) (kept : Kept) → length operands < 2 → Gives kept kept (made_all t (record { literals = operands; last = last; clauses = [] }) operands).clauses
all_short t [] last kept short = gives_none kept
all_short t (f ∷ []) last kept short = gives_none kept
all_short t (f ∷ g ∷ operands) last kept short = absurd (omega arith)

pub any_given : (t x : Literal) (operands : List Literal) (last : ℕ) (old new : Kept) → 2 ≤ length operands → x ≡ positive (last + 1) → Gives old new (all_written (any_clauses x operands)) →
    Gives old new (made_any t (record { literals = operands; last = last; clauses = [] }) operands).clauses
any_given t x [] last old new long is gives = absurd (omega arith)
any_given t x (f ∷ []) last old new long is gives = absurd (omega arith)
any_given t x (f ∷ g ∷ operands) last old new long is gives = subst (λ (y : Literal). Gives old new (all_written (any_clauses y (f ∷ g ∷ operands)))) is gives

pub any_last : (t : Literal) (operands : List Literal) (last now : ℕ) → 2 ≤ length operands → now ≡ last + 1 → now ≡ (made_any t (record { literals = operands; last = last; clauses = [] }) operands).last
any_last t [] last now long is = absurd (omega arith)
any_last t (f ∷ []) last now long is = absurd (omega arith)
any_last t (f ∷ g ∷ operands) last now long is = is

pub any_short : (t : Literal) (operands : List Literal) (last : ℕ) (kept : Kept) → length operands < 2 → Gives kept kept (made_any t (record { literals = operands; last = last; clauses = [] }) operands).clauses
any_short t [] last kept short = gives_none kept
any_short t (f ∷ []) last kept short = gives_none kept
any_short t (f ∷ g ∷ operands) last kept short = absurd (omega arith)
