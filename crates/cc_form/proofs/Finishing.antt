-- The section of a theory: what was built is its clause list, and that of its description.
use Rattle.std.proofs.Common.{Bor, Result, Ok, Err, OnOk, IfOk, IfErr, IsErrAnd, ◌≡◌, ◌∙◌, ℕ, suc, ◌*◌, ◌≤◌, Bool, true, false, List, [], ◌∷◌, ◌++◌, length, map, Option, Some, None, refl, sym, ap, subst, arith, append_assoc}
use Rattle.std.specs.Prelude.{IfSome}
use Rattle.std.specs.List.{AllByRecursion, AllZip}
use Rattle.std.specs.Option.{option_map}
use Rattle.std.proofs.lemmas.Bool.{le-ltb, lt-ltb}
use Rattle.cc_arena.specs.declared.ground_laws.GroundCondition.{GroundCondition}
use Rattle.cc_arena.specs.GroundViews.{plain_ground_condition}
use Rattle.cc_defs.specs.declared.lists.Key.{Key}
use Rattle.cc_defs.specs.declared.node.Node.{Node}
use Rattle.cc_defs.specs.declared.refusal.Fault.{Fault}
use Rattle.cc_defs.specs.declared.refusal.Fault.TheVariants as faults
use Rattle.cc_defs.specs.ClauseForms.{all_written, true_variable}
use Rattle.cc_defs.specs.ClauseLists.{Asserted, Bodied, ClauseList, MadeRules, claim_if, clause_list, clauses_over, completion_from, condition_term, denials_of, key_terms}
use Rattle.cc_defs.specs.Clauses.{Literal}
use Rattle.cc_defs.specs.Description.{Description, sizes_at, stride}
use Rattle.cc_defs.specs.GroundLaws.{PlainGroundCondition, PlainGroundQuery, StandsForQuery, ground_condition}
use Rattle.cc_defs.specs.Histories.{step_of}
use Rattle.cc_defs.specs.Nodes.{term_of}
use Rattle.cc_defs.specs.Refusals.{IsRefusedBy}
use Rattle.cc_defs.specs.Resolved.{Condition, Query}
use Rattle.cc_defs.specs.Rows.{IsRow}
use Rattle.cc_defs.specs.Satisfaction.{giving}
use Rattle.cc_defs.specs.Sections.{Axioms}
use Rattle.cc_defs.specs.Signatures.{Signature}
use Rattle.cc_defs.specs.Terms.{Ground, IsTermOver, postfix}
use Rattle.cc_defs.specs.TimedRules.{TimedRule, timed_rules}
use Rattle.cc_theory.specs.declared.rule.TimedRule as code
use Rattle.cc_arena.specs.Laws.{TermsMeanFormulas}
use Rattle.cc_arena.specs.Walks.{OneFormula}
use Rattle.cc_theory.specs.Laws.{ModelsArePaths, ModelsMeetCompletion}
use Rattle.cc_theory.specs.Making.{stride_of}
use Rattle.cc_theory.specs.Theories.{AreRulesAt, IsTheoryOf, PlainTheory, plain_head}
use Rattle.cc_form.specs.declared.writer.Writer.{Writer}
use Rattle.cc_form.specs.declared.store.Kept.{Kept}
use Rattle.cc_form.specs.Building.{IsBuiltForm, IsSection, count_refusal}
use Rattle.cc_form.specs.Forms.{IsAxioms, TellsHistories, asked, form_of, form_refusal}
use Rattle.cc_form.specs.Laws.{AllFit, ClausesTellRows, TermFits}
use Rattle.cc_form.specs.Machine.{Adds, IsBuilt, IsPast}
use Rattle.cc_form.specs.Making.{asserted_nodes, bodied, denied_nodes, list_over, made_bodies, made_rule, nodes_if, query_list, rules_list}
use Rattle.cc_form.specs.Parts.{first_clauses}
use Rattle.cc_form.specs.Places.{position_sizes}
use Rattle.cc_form.specs.Queries.{IsConditionAt, IsKeyAt, IsOverPlaces, IsQueryAt, condition_nodes, section_list}
use Rattle.cc_form.specs.Store.{AreFew, Gives, Holds, literal_count_of}
use Rattle.cc_form.proofs.Asserting.{asserted_rise}
use Rattle.cc_form.proofs.Bodies.{bodies_rise}
use Rattle.cc_form.proofs.GoodLists.{all_clauses_are, all_over_are, choices_in, list_good}
use Rattle.cc_form.proofs.Histories.{sizes_are, stride_is, tells_histories}
use Rattle.cc_form.proofs.Keeping.{gives_more}
use Rattle.cc_form.proofs.Meant.{IsMeantBy, list_is, meant_fit, meant_of, some_meant}
use Rattle.cc_form.proofs.Running.{past_more, run_rises}
use Rattle.cc_form.proofs.Standing.{moved_postfix, rules_stand, term_stands}

-- ---- rules

pub bodied_is : (sizes : List ℕ) (stride last : ℕ) (rules : List code.TimedRule) → bodied rules (map (λ rule. rule.body) (made_bodies sizes stride last rules).rules) ≡ (made_bodies sizes stride last rules).rules
bodied_is sizes stride last [] = refl
bodied_is sizes stride last (rule ∷ rules) =
    let m = made_rule sizes stride last rule in
    ap (λ (l : List Bodied). let b : Bodied = record { head = plain_head rule.head; body = m.literal } in b ∷ l) (bodied_is sizes stride m.last rules)

pub bodies_long : (sizes : List ℕ) (stride last : ℕ) (rules : List code.TimedRule) → length (map (λ rule. rule.body) (made_bodies sizes stride last rules).rules) ≡ length rules
bodies_long sizes stride last [] = refl
bodies_long sizes stride last (rule ∷ rules) = ap suc (bodies_long sizes stride (made_rule sizes stride last rule).last rules)

-- the clauses of rules one group behind another: `between` is the writer before the bodies, `made` the one behind them
pub rules_done : (old between made new : Writer) (stride : ℕ) (rules : List code.TimedRule) (literals : List Literal) (k4 : Kept) →
    old.last ≡ true_variable old.places → Gives old.store.kept between.store.kept (first_clauses old.places) → between.places ≡ old.places → between.last ≡ old.last →
    IsBuilt between made (made_bodies between.places stride between.last rules).last (made_bodies between.places stride between.last rules).clauses →
    literals ≡ map (λ rule. rule.body) (made_bodies between.places stride between.last rules).rules →
    Gives made.store.kept k4 (all_written (completion_from made.places (bodied rules literals) 0 made.places)) → Gives k4 new.store.kept (all_written (denials_of (bodied rules literals))) →
    new.places ≡ made.places → new.last ≡ made.last → IsBuilt old new (rules_list old.places stride rules).last (rules_list old.places stride rules).clauses
rules_done old between made new stride rules literals k4 first one places last built' made_are' gc gd places' last' =
    let P = old.places in
    let T = true_variable P in
    let B = made_bodies P stride T rules in
    let at : made_bodies between.places stride between.last rules ≡ B = ap (λ (p : List ℕ). made_bodies p stride between.last rules) places ∙ ap (λ (n : ℕ). made_bodies P stride n rules) (last ∙ first) in
    let built : IsBuilt between made B.last B.clauses = subst (λ (m : MadeRules). IsBuilt between made m.last m.clauses) at built' in
    let rules_are : bodied rules literals ≡ B.rules =
    ap (bodied rules) (made_are' ∙ ap (λ (m : MadeRules). map (λ rule. rule.body) m.rules) at) ∙ bodied_is P stride T rules in
    let made_places : made.places ≡ P = built.places ∙ places in
    let completion : Gives made.store.kept k4 (all_written (completion_from P B.rules 0 P)) =
    subst (λ (r : List Bodied). Gives made.store.kept k4 (all_written (completion_from P r 0 P))) rules_are (subst (λ (p : List ℕ). Gives made.store.kept k4 (all_written (completion_from p (bodied rules literals) 0 p))) made_places gc) in
    let denials : Gives k4 new.store.kept (all_written (denials_of B.rules)) = subst (λ (r : List Bodied). Gives k4 new.store.kept (all_written (denials_of r))) rules_are gd in
    let two = gives_more old.store.kept between.store.kept made.store.kept (first_clauses P) B.clauses one built.gives in
    let three = gives_more old.store.kept made.store.kept k4 (first_clauses P ++ B.clauses) (all_written (completion_from P B.rules 0 P)) two completion in
    record {
      places = places' ∙ made_places;
      ends = last' ∙ built.ends;
      within = built.within;
      gives = gives_more old.store.kept k4 new.store.kept (first_clauses P ++ B.clauses ++ all_written (completion_from P B.rules 0 P)) (all_written (denials_of B.rules)) three denials;
    }

-- ---- the query

denied_rises : (sizes : List ℕ) (last : ℕ) (claim : Option (List Node)) → last ≤ (denied_nodes sizes last claim).last
denied_rises sizes last None = omega arith
denied_rises sizes last (Some term) = run_rises sizes term [] last

pub query_rises : (sizes : List ℕ) (last : ℕ) (conditions : List (List Node)) (claim : Option (List Node)) (key : List (List Node)) → last ≤ (query_list sizes last conditions claim key).last
query_rises sizes last conditions claim key =
    let q = asserted_nodes sizes last conditions in
    let d = denied_nodes sizes q.last claim in
    let one = asserted_rise sizes last conditions in
    let two = denied_rises sizes q.last claim in
    let three = asserted_rise sizes d.last key in
    omega arith

-- the conditions fail
pub conditions_past : (sizes : List ℕ) (last : ℕ) (conditions : List (List Node)) (claim : Option (List Node)) (key : List (List Node)) (fault : Fault) → IsPast (asserted_nodes sizes last conditions).last fault →
    IsPast (query_list sizes last conditions claim key).last fault
conditions_past sizes last conditions claim key fault past' =
    let q = asserted_nodes sizes last conditions in
    let d = denied_nodes sizes q.last claim in
    past_more q.last (query_list sizes last conditions claim key).last fault (let two = denied_rises sizes q.last claim in let three = asserted_rise sizes d.last key in omega arith) past'

pub claim_past : (old between : Writer) (conditions : List (List Node)) (claim : Option (List Node)) (key : List (List Node)) (fault : Fault) →
    IsBuilt old between (asserted_nodes old.places old.last conditions).last (asserted_nodes old.places old.last conditions).clauses → IsPast (denied_nodes between.places between.last claim).last fault →
    IsPast (query_list old.places old.last conditions claim key).last fault
claim_past old between conditions claim key fault one past' =
    let q = asserted_nodes old.places old.last conditions in
    let d = denied_nodes old.places q.last claim in
    past_more d.last (query_list old.places old.last conditions claim key).last fault (asserted_rise old.places d.last key)
    (subst (λ (n : ℕ). IsPast (denied_nodes old.places n claim).last fault) one.ends (subst (λ (p : List ℕ). IsPast (denied_nodes p between.last claim).last fault) one.places past'))

pub query_done : (old between made new : Writer) (conditions : List (List Node)) (claim : Option (List Node)) (keys : List ℕ → List (List Node)) (result : Result (Unit {0}) Fault) →
    IsBuilt old between (asserted_nodes old.places old.last conditions).last (asserted_nodes old.places old.last conditions).clauses →
    IsBuilt between made (denied_nodes between.places between.last claim).last (denied_nodes between.places between.last claim).clauses →
    Adds made new result (asserted_nodes made.places made.last (keys made.places)) → Adds old new result (query_list old.places old.last conditions claim (keys old.places))
query_done old between made new conditions claim keys result one two' third = last_one result (subst (λ (a : Asserted). Adds made new result a) same third)
  where
    q : Asserted
    q = asserted_nodes old.places old.last conditions

    d : Asserted
    d = denied_nodes old.places (asserted_nodes old.places old.last conditions).last claim

    at : denied_nodes between.places between.last claim ≡ denied_nodes old.places (asserted_nodes old.places old.last conditions).last claim
    at = ap (λ (p : List ℕ). denied_nodes p between.last claim) one.places ∙ ap (λ (n : ℕ). denied_nodes old.places n claim) one.ends

    two : IsBuilt between made (denied_nodes old.places (asserted_nodes old.places old.last conditions).last claim).last (denied_nodes old.places (asserted_nodes old.places old.last conditions).last claim).clauses
    two = subst (λ (a : Asserted). IsBuilt between made a.last a.clauses) at two'

    same : asserted_nodes made.places made.last (keys made.places) ≡ asserted_nodes old.places (denied_nodes old.places (asserted_nodes old.places old.last conditions).last claim).last (keys old.places)
    same = ap (λ (p : List ℕ). asserted_nodes p made.last (keys p)) (two.places ∙ one.places) ∙ ap (λ (n : ℕ). asserted_nodes old.places n (keys old.places)) two.ends

    last_one : (r : Result (Unit {0}) Fault) → Adds made new r (asserted_nodes old.places (denied_nodes old.places (asserted_nodes old.places old.last conditions).last claim).last (keys old.places)) →
        Adds old new r (query_list old.places old.last conditions claim (keys old.places))
    last_one (Err fault) past' = past'
    last_one (Ok done) three =
        let a = asserted_nodes old.places old.last conditions in
        let b = denied_nodes old.places a.last claim in
        let c = asserted_nodes old.places b.last (keys old.places) in
        record {
          places = three.places ∙ two.places ∙ one.places;
          ends = three.ends;
          within = three.within;
          gives = gives_more old.store.kept made.store.kept new.store.kept (a.clauses ++ b.clauses) c.clauses
              (gives_more old.store.kept between.store.kept made.store.kept a.clauses b.clauses one.gives two.gives) three.gives;
        }

-- ---- the whole section, built

pub section_done : (sizes : List ℕ) (stride : ℕ) (rules : List code.TimedRule) (conditions : List (List Node)) (claim : Option (List Node)) (keys : List ℕ → List (List Node)) (begun between new : Writer) →
    begun.places ≡ sizes → Holds begun.store.kept [] → IsBuilt begun between (rules_list begun.places stride rules).last (rules_list begun.places stride rules).clauses →
    IsBuilt between new (query_list between.places between.last conditions claim (keys between.places)).last (query_list between.places between.last conditions claim (keys between.places)).clauses →
    IsSection sizes (list_over sizes stride rules conditions claim (keys sizes)) new
section_done sizes stride rules conditions claim keys begun between new places none one' two' =
    let R = rules_list sizes stride rules in
    let one : IsBuilt begun between R.last R.clauses = subst (λ (p : List ℕ). IsBuilt begun between (rules_list p stride rules).last (rules_list p stride rules).clauses) places one' in
    let at : between.places ≡ sizes = one.places ∙ places in
    let Q = query_list sizes R.last conditions claim (keys sizes) in
    let same : query_list between.places between.last conditions claim (keys between.places) ≡ Q =
    ap (λ (p : List ℕ). query_list p between.last conditions claim (keys p)) at ∙ ap (λ (n : ℕ). query_list sizes n conditions claim (keys sizes)) one.ends in
    let two : IsBuilt between new Q.last Q.clauses = subst (λ (a : Asserted). IsBuilt between new a.last a.clauses) same two' in
    let q = asserted_nodes sizes R.last conditions in
    let d = denied_nodes sizes q.last claim in
    let l = asserted_nodes sizes d.last (keys sizes) in
    record {
      places = two.places ∙ at;
      ends = two.ends;
      within = two.within;
      holds = subst (Holds new.store.kept)
          (sym (append_assoc R.clauses (q.clauses ++ d.clauses) l.clauses) ∙ ap (λ (c : List (List Literal)). c ++ l.clauses) (sym (append_assoc R.clauses q.clauses d.clauses)))
          (two.gives.each R.clauses (one.gives.each [] none));
    }

pub begin_past : (sizes : List ℕ) (stride : ℕ) (rules : List code.TimedRule) (conditions : List (List Node)) (claim : Option (List Node)) (key : List (List Node)) (fault : Fault) → IsPast (true_variable sizes) fault →
    IsPast (list_over sizes stride rules conditions claim key).variables fault
begin_past sizes stride rules conditions claim key fault past' =
    let R = rules_list sizes stride rules in
    past_more (true_variable sizes) (list_over sizes stride rules conditions claim key).variables fault
    (let one = bodies_rise sizes stride (true_variable sizes) rules in let two = query_rises sizes R.last conditions claim key in omega arith) past'

pub rules_past : (sizes : List ℕ) (stride : ℕ) (rules : List code.TimedRule) (conditions : List (List Node)) (claim : Option (List Node)) (key : List (List Node)) (fault : Fault) → IsPast (rules_list sizes stride rules).last fault →
    IsPast (list_over sizes stride rules conditions claim key).variables fault
rules_past sizes stride rules conditions claim key fault past' =
    let R = rules_list sizes stride rules in
    past_more R.last (list_over sizes stride rules conditions claim key).variables fault (query_rises sizes R.last conditions claim key) past'

-- ---- terms of the section

condition_over : (signature : Signature) (h : ℕ) (condition : PlainGroundCondition) → h ≤ 1000 → IsConditionAt signature h condition → IsOverPlaces (position_sizes signature h) (stride_of signature) h condition
condition_over signature h condition most is = ((let within = is.within in omega arith), term_stands signature h (step_of condition.at h) condition.nodes is)

pub conditions_over : (signature : Signature) (h : ℕ) (conditions : List GroundCondition) → h ≤ 1000 → AllByRecursion (IsConditionAt signature h) (map plain_ground_condition conditions) →
    AllByRecursion (λ condition. IsOverPlaces (position_sizes signature h) (stride_of signature) h (plain_ground_condition condition)) conditions
conditions_over signature h [] most are = tt
conditions_over signature h (c ∷ conditions) most are = (condition_over signature h (plain_ground_condition c) most are.0, conditions_over signature h conditions most are.1)

pub claim_over : (signature : Signature) (h : ℕ) (claim : Option GroundCondition) → h ≤ 1000 → IfSome (option_map plain_ground_condition claim) (IsConditionAt signature h) →
    IfSome claim (λ claim. IsOverPlaces (position_sizes signature h) (stride_of signature) h (plain_ground_condition claim))
claim_over signature h None most is = tt
claim_over signature h (Some c) most is = condition_over signature h (plain_ground_condition c) most is

conditions_terms : (signature : Signature) (h : ℕ) (conditions : List PlainGroundCondition) → AllByRecursion (IsConditionAt signature h) conditions →
    AllByRecursion (IsTermOver (position_sizes signature h)) (map (condition_nodes (stride_of signature) h) conditions)
conditions_terms signature h [] are = tt
conditions_terms signature h (c ∷ conditions) are = (term_stands signature h (step_of c.at h) c.nodes are.0, conditions_terms signature h conditions are.1)

claim_term : (signature : Signature) (h : ℕ) (with_claim : Bool) (claim : Option PlainGroundCondition) → IfSome claim (IsConditionAt signature h) →
    IfSome (nodes_if with_claim (option_map (condition_nodes (stride_of signature) h) claim)) (IsTermOver (position_sizes signature h))
claim_term signature h false claim is = tt
claim_term signature h true None is = tt
claim_term signature h true (Some c) is = term_stands signature h (step_of c.at h) c.nodes is

some_terms : (sizes : List ℕ) (terms : List (List Node)) → AllByRecursion (IsTermOver sizes) terms → (formulas : List Ground) × (map postfix formulas ≡ terms)
some_terms sizes [] are = ([], refl)
some_terms sizes (t ∷ terms) are =
    let more = some_terms sizes terms are.1 in
    (are.0.formula ∷ more.0, ap (λ (x : List Node). x ∷ map postfix more.0) (sym are.0.written) ∙ ap (λ (l : List (List Node)). t ∷ l) more.1)

some_claim : (sizes : List ℕ) (claim : Option (List Node)) → IfSome claim (IsTermOver sizes) → (formula : Option Ground) × (option_map postfix formula ≡ claim)
some_claim sizes None is = (None, refl)
some_claim sizes (Some t) is = (Some is.formula, ap Some (sym is.written))

terms_fit : (sizes : List ℕ) (formulas : List Ground) (terms : List (List Node)) → map postfix formulas ≡ terms → AllByRecursion (IsTermOver sizes) terms → AllByRecursion (TermFits sizes) formulas
terms_fit sizes formulas terms e are = own formulas (subst (AllByRecursion (IsTermOver sizes)) (sym e) are)
  where
    own : (fs : List Ground) → AllByRecursion (IsTermOver sizes) (map postfix fs) → AllByRecursion (TermFits sizes) fs
    own [] h = tt
    own (f ∷ fs) h = (h.0.fits, own fs h.1)

claim_fits : (sizes : List ℕ) (formula : Option Ground) (claim : Option (List Node)) → option_map postfix formula ≡ claim → IfSome claim (IsTermOver sizes) → IfSome formula (TermFits sizes)
claim_fits sizes formula claim e is = own formula (subst (λ (o : Option (List Node)). IfSome o (IsTermOver sizes)) (sym e) is)
  where
    own : (f : Option Ground) → IfSome (option_map postfix f) (IsTermOver sizes) → IfSome f (TermFits sizes)
    own None h = tt
    own (Some f) h = h.fits

key_rows : (signature : Signature) (h : ℕ) (key : Option Key) → IfSome key (IsKeyAt signature h) → IfSome key (λ key. IsRow (position_sizes signature h) key.row)
key_rows signature h None is = tt
key_rows signature h (Some key) is = is.row

module _ (theory : PlainTheory) (query : PlainGroundQuery) (with_claim : Bool) (key : Option Key) (most : theory.horizon ≤ 1000) (rules_fit : AreRulesAt theory.signature theory.horizon theory.rules)
    (query_fits : IsQueryAt theory.signature theory.horizon query) (key_is : IfSome key (IsKeyAt theory.signature theory.horizon)) where
  abbrev P : List ℕ
  P = position_sizes theory.signature theory.horizon

  abbrev list : ClauseList
  list = section_list theory query with_claim key

  abbrev condition_terms : List (List Node)
  condition_terms = map (condition_nodes (stride_of theory.signature) theory.horizon) query.conditions

  abbrev claim_terms : Option (List Node)
  claim_terms = nodes_if with_claim (option_map (condition_nodes (stride_of theory.signature) theory.horizon) query.claim)

  -- rules and formulas that are meant by the nodes
  module _ (meant : List TimedRule) (are : AllZip (IsMeantBy (stride_of theory.signature)) theory.rules meant) (formulas : List Ground) (conditions_are : map postfix formulas ≡ condition_terms)
      (claim : Option Ground) (claim_is : option_map postfix claim ≡ claim_terms) where
    pub same_list : list ≡ clauses_over P meant formulas claim key
    same_list =
        ap (λ (c : List (List Node)). list_over P (stride_of theory.signature) theory.rules c claim_terms (map postfix (key_terms P key))) (sym conditions_are)
        ∙ ap (λ (c : Option (List Node)). list_over P (stride_of theory.signature) theory.rules (map postfix formulas) c (map postfix (key_terms P key))) (sym claim_is)
        ∙ list_is P (stride_of theory.signature) theory.rules meant formulas claim key are

    pub all_fit : AllFit P meant formulas claim key
    all_fit = record {
      rules_fit = meant_fit P (stride_of theory.signature) theory.rules meant (rules_stand theory.signature theory.horizon theory.rules most rules_fit) are;
      conditions_fit = terms_fit P formulas condition_terms conditions_are (conditions_terms theory.signature theory.horizon query.conditions query_fits.conditions);
      claim_fits = claim_fits P claim claim_terms claim_is (claim_term theory.signature theory.horizon with_claim query.claim query_fits.claim);
      key_fits = key_rows theory.signature theory.horizon key key_is;
    }

  pub section_axioms : IsAxioms (record { sizes = P; variables = list.variables; clauses = list.clauses })
  section_axioms =
      let rules = some_meant P (stride_of theory.signature) theory.rules (rules_stand theory.signature theory.horizon theory.rules most rules_fit) in
      let conditions = some_terms P condition_terms (conditions_terms theory.signature theory.horizon query.conditions query_fits.conditions) in
      let claim = some_claim P claim_terms (claim_term theory.signature theory.horizon with_claim query.claim query_fits.claim) in
      let same = same_list rules.0 rules.1 conditions.0 conditions.1 claim.0 claim.1 in
      let fit = all_fit rules.0 rules.1 conditions.0 conditions.1 claim.0 claim.1 in
      let over = clauses_over P rules.0 conditions.0 claim.0 key in
      let good = list_good P rules.0 conditions.0 claim.0 key fit in
      subst (λ (l : ClauseList). IsAxioms (record { sizes = P; variables = l.variables; clauses = l.clauses })) (sym same) (record {
        each = all_clauses_are over.variables over.clauses good.1;
        over = all_over_are over.variables over.clauses good.1;
        least = good.0;
        choices = choices_in P rules.0 conditions.0 claim.0 key;
      })

  pub built_form : (writer : Writer) → IsSection P list writer → IsBuiltForm writer
  built_form writer is = record {
    clauses = list.clauses;
    holds = is.holds;
    within = (let e = is.ends in let w = is.within in omega arith);
    axioms = subst (λ (n : ℕ). IsAxioms (record { sizes = writer.places; variables = n; clauses = list.clauses })) (sym is.ends)
        (subst (λ (p : List ℕ). IsAxioms (record { sizes = p; variables = list.variables; clauses = list.clauses })) (sym is.places) section_axioms);
  }

-- ---- the section of a description

module _ (d : Description) (h : ℕ) where
  condition_same : (condition : Condition) → condition_nodes (stride d) h (ground_condition d.universe condition) ≡ postfix (condition_term d h condition)
  condition_same condition = moved_postfix (step_of condition.at h * stride d) (term_of d.universe (giving []) condition.formula)

  conditions_same : (conditions : List Condition) → map postfix (map (condition_term d h) conditions) ≡ map (condition_nodes (stride d) h) (map (ground_condition d.universe) conditions)
  conditions_same [] = refl
  conditions_same (c ∷ conditions) = ap (λ (t : List Node). t ∷ map postfix (map (condition_term d h) conditions)) (sym (condition_same c)) ∙ ap (λ (l : List (List Node)). condition_nodes (stride d) h (ground_condition d.universe c) ∷ l) (conditions_same conditions)

  claim_same : (with_claim : Bool) (claim : Option Condition) → option_map postfix (claim_if with_claim (option_map (condition_term d h) claim)) ≡ nodes_if with_claim (option_map (condition_nodes (stride d) h) (option_map (ground_condition d.universe) claim))
  claim_same false claim = refl
  claim_same true None = refl
  claim_same true (Some c) = ap Some (sym (condition_same c))

module _ (theory : PlainTheory) (query : PlainGroundQuery) (with_claim : Bool) (key : Option Key) (most : theory.horizon ≤ 1000) (rules_fit : AreRulesAt theory.signature theory.horizon theory.rules)
    (query_fits : IsQueryAt theory.signature theory.horizon query) (key_is : IfSome key (IsKeyAt theory.signature theory.horizon)) (d : Description) (q : Query) (of : IsTheoryOf theory d) (stands : StandsForQuery query d q) where
  abbrev h : ℕ
  h = theory.horizon

  stride_same : stride_of theory.signature ≡ stride d
  stride_same = stride_is d theory.signature of.signature

  sizes_same : position_sizes theory.signature h ≡ sizes_at d h
  sizes_same = sizes_are d theory.signature h of.signature

  conditions_are : map postfix (map (condition_term d h) q.conditions) ≡ map (condition_nodes (stride_of theory.signature) h) query.conditions
  conditions_are =
      conditions_same d h q.conditions ∙ ap (λ (g : PlainGroundQuery). map (condition_nodes (stride d) h) g.conditions) (sym stands.2)
      ∙ ap (λ (n : ℕ). map (condition_nodes n h) query.conditions) (sym stride_same)

  claim_is : option_map postfix (claim_if with_claim (option_map (condition_term d h) q.claim)) ≡ nodes_if with_claim (option_map (condition_nodes (stride_of theory.signature) h) query.claim)
  claim_is =
      claim_same d h with_claim q.claim ∙ ap (λ (g : PlainGroundQuery). nodes_if with_claim (option_map (condition_nodes (stride d) h) g.claim)) (sym stands.2)
      ∙ ap (λ (n : ℕ). nodes_if with_claim (option_map (condition_nodes n h) query.claim)) (sym stride_same)

  rules_are : AllZip (IsMeantBy (stride_of theory.signature)) theory.rules (timed_rules d h)
  rules_are = subst (λ (n : ℕ). AllZip (IsMeantBy n) theory.rules (timed_rules d h)) (sym stride_same) (meant_of (stride d) theory.rules (timed_rules d h) of.rules)

  pub list_of_description : section_list theory query with_claim key ≡ clause_list d q h with_claim key
  list_of_description =
      same_list theory query with_claim key most rules_fit query_fits key_is (timed_rules d h) rules_are (map (condition_term d h) q.conditions) conditions_are (claim_if with_claim (option_map (condition_term d h) q.claim)) claim_is
      ∙ ap (λ (p : List ℕ). clauses_over p (timed_rules d h) (map (condition_term d h) q.conditions) (claim_if with_claim (option_map (condition_term d h) q.claim)) key) sizes_same

  pub fit_of_description : AllFit (sizes_at d h) (timed_rules d h) (map (condition_term d h) q.conditions) (claim_if with_claim (option_map (condition_term d h) q.claim)) key
  fit_of_description =
      subst (λ (p : List ℕ). AllFit p (timed_rules d h) (map (condition_term d h) q.conditions) (claim_if with_claim (option_map (condition_term d h) q.claim)) key) sizes_same
      (all_fit theory query with_claim key most rules_fit query_fits key_is (timed_rules d h) rules_are (map (condition_term d h) q.conditions) conditions_are (claim_if with_claim (option_map (condition_term d h) q.claim)) claim_is)

  abbrev section : ClauseList
  section = section_list theory query with_claim key

  pub form_is : {E : Type 0} (result : Result Axioms E) (writer : Writer) → IsSection (position_sizes theory.signature h) section writer →
      IfOk result (λ form. form ≡ record { sizes = writer.places; variables = writer.last; clauses = section.clauses }) → IfOk result (λ form. form ≡ form_of d q h with_claim key)
  form_is (Err e) writer is made = tt
  form_is (Ok form) writer is made =
      made ∙ ap (λ (p : List ℕ). let a : Axioms = record { sizes = p; variables = writer.last; clauses = section.clauses } in a) (is.places ∙ sizes_same)
      ∙ ap (λ (n : ℕ). let a : Axioms = record { sizes = sizes_at d h; variables = n; clauses = section.clauses } in a) is.ends
      ∙ ap (λ (l : ClauseList). let a : Axioms = record { sizes = sizes_at d h; variables = l.variables; clauses = l.clauses } in a) list_of_description

  few_variables : section.variables ≤ 4000000 → form_refusal section ≡ count_refusal section.clauses
  few_variables few = rw (le-ltb 4000000 section.variables few) refl

  pub form_refused : {T : Type 0} (result : Result T Fault) → section.variables ≤ 4000000 → IfErr result (IsRefusedBy (count_refusal section.clauses)) → IfErr result (IsRefusedBy (form_refusal (clause_list d q h with_claim key)))
  form_refused result few refused =
      subst (λ (l : ClauseList). IfErr result (IsRefusedBy (form_refusal l))) list_of_description (subst (λ r. IfErr result (IsRefusedBy r)) (sym (few_variables few)) refused)

  pub form_within : {T E : Type 0} (result : Result T E) → section.variables ≤ 4000000 → OnOk result (AreFew section.clauses) → OnOk result (form_refusal (clause_list d q h with_claim key) ≡ None)
  form_within (Err e) few are = tt
  form_within (Ok x) few are =
      subst (λ (l : ClauseList). form_refusal l ≡ None) list_of_description (few_variables few ∙ rw (le-ltb 8000000 (length section.clauses) are.0, le-ltb 40000000 (literal_count_of section.clauses) are.1) refl)

  pub variables_refused : {T : Type 0} (result : Result T Fault) (fault : Fault) → IsErrAnd result (λ given. given ≡ fault) → IsPast section.variables fault → IfErr result (IsRefusedBy (form_refusal (clause_list d q h with_claim key)))
  variables_refused (Ok x) fault is past' = tt
  variables_refused (Err given) fault is past' =
      subst (IsRefusedBy (form_refusal (clause_list d q h with_claim key))) (sym is) (by_fault fault past')
    where
      by_fault : (f : Fault) → IsPast section.variables f → IsRefusedBy (form_refusal (clause_list d q h with_claim key)) f
      by_fault faults.OutOfMemory p = tt
      by_fault (faults.Refused r) p =
          subst (λ (l : ClauseList). form_refusal l ≡ Some r) list_of_description (rw (lt-ltb 4000000 section.variables p.1) (ap Some (sym p.0)))

  pub tells_is : {E : Type 0} (result : Result Axioms E) (row_of_key : Option (List ℕ)) → (models : ModelsMeetCompletion) → ModelsArePaths → TermsMeanFormulas → OneFormula → ClausesTellRows →
      row_of_key ≡ option_map (λ key. key.row) key → IfOk result (λ form. form ≡ form_of d q h with_claim key) → IfOk result (λ form. TellsHistories d (asked with_claim q) h row_of_key form)
  tells_is (Err e) row_of_key models paths mean one tell same made = tt
  tells_is (Ok form) row_of_key models paths mean one tell same made =
      subst (λ (f : Axioms). TellsHistories d (asked with_claim q) h row_of_key f) (sym made)
      (subst (λ (r : Option (List ℕ)). TellsHistories d (asked with_claim q) h r (form_of d q h with_claim key)) (sym same)
      (tells_histories models paths mean one d of.well q h with_claim key
      (tell (sizes_at d h) (timed_rules d h) (map (condition_term d h) q.conditions) (claim_if with_claim (option_map (condition_term d h) q.claim)) key fit_of_description)))

-- ---- as it is built

module _ (theory : PlainTheory) (query : PlainGroundQuery) (with_claim : Bool) (key : Option Key) (own_stride own_horizon : ℕ) (conditions : List GroundCondition) (claim : Option GroundCondition)
    (stride_own : own_stride ≡ stride_of theory.signature) (horizon_own : own_horizon ≡ theory.horizon) (conditions_own : map plain_ground_condition conditions ≡ query.conditions) (claim_own : option_map plain_ground_condition claim ≡ query.claim) where
  abbrev sizes_own : List ℕ
  sizes_own = position_sizes theory.signature theory.horizon

  abbrev nodes_own : GroundCondition → List Node
  nodes_own condition = condition_nodes own_stride own_horizon (plain_ground_condition condition)

  twice : (xs : List GroundCondition) → map nodes_own xs ≡ map (condition_nodes own_stride own_horizon) (map plain_ground_condition xs)
  twice [] = refl
  twice (x ∷ xs) = ap (λ (l : List (List Node)). nodes_own x ∷ l) (twice xs)

  claim_twice : (o : Option GroundCondition) → option_map nodes_own o ≡ option_map (condition_nodes own_stride own_horizon) (option_map plain_ground_condition o)
  claim_twice None = refl
  claim_twice (Some x) = refl

  conditions_at : map nodes_own conditions ≡ map (condition_nodes (stride_of theory.signature) theory.horizon) query.conditions
  conditions_at =
      twice conditions ∙ ap (map (condition_nodes own_stride own_horizon)) conditions_own ∙ ap (λ (n : ℕ). map (condition_nodes n own_horizon) query.conditions) stride_own
      ∙ ap (λ (n : ℕ). map (condition_nodes (stride_of theory.signature) n) query.conditions) horizon_own

  claim_at : nodes_if with_claim (option_map nodes_own claim) ≡ nodes_if with_claim (option_map (condition_nodes (stride_of theory.signature) theory.horizon) query.claim)
  claim_at =
      ap (nodes_if with_claim) (claim_twice claim ∙ ap (option_map (condition_nodes own_stride own_horizon)) claim_own ∙ ap (λ (n : ℕ). option_map (condition_nodes n own_horizon) query.claim) stride_own
      ∙ ap (λ (n : ℕ). option_map (condition_nodes (stride_of theory.signature) n) query.claim) horizon_own)

  own_list : list_over sizes_own own_stride theory.rules (map nodes_own conditions) (nodes_if with_claim (option_map nodes_own claim)) (map postfix (key_terms sizes_own key)) ≡ section_list theory query with_claim key
  own_list =
      ap (λ (n : ℕ). list_over sizes_own n theory.rules (map nodes_own conditions) (nodes_if with_claim (option_map nodes_own claim)) (map postfix (key_terms sizes_own key))) stride_own
      ∙ ap (λ (l : List (List Node)). list_over sizes_own (stride_of theory.signature) theory.rules l (nodes_if with_claim (option_map nodes_own claim)) (map postfix (key_terms sizes_own key))) conditions_at
      ∙ ap (λ (o : Option (List Node)). list_over sizes_own (stride_of theory.signature) theory.rules (map (condition_nodes (stride_of theory.signature) theory.horizon) query.conditions) o (map postfix (key_terms sizes_own key))) claim_at

  pub section_built : (begun between new : Writer) → begun.places ≡ sizes_own → Holds begun.store.kept [] → IsBuilt begun between (rules_list begun.places own_stride theory.rules).last (rules_list begun.places own_stride theory.rules).clauses →
      IsBuilt between new (query_list between.places between.last (map nodes_own conditions) (nodes_if with_claim (option_map nodes_own claim)) (map postfix (key_terms between.places key))).last
      (query_list between.places between.last (map nodes_own conditions) (nodes_if with_claim (option_map nodes_own claim)) (map postfix (key_terms between.places key))).clauses →
      IsSection sizes_own (section_list theory query with_claim key) new
  section_built begun between new places none one two =
      subst (λ (l : ClauseList). IsSection sizes_own l new) own_list
      (section_done sizes_own own_stride theory.rules (map nodes_own conditions) (nodes_if with_claim (option_map nodes_own claim)) (λ p. map postfix (key_terms p key)) begun between new places none one two)

  pub sizes_past : (sizes : List ℕ) (fault : Fault) → sizes ≡ sizes_own → IsPast (true_variable sizes) fault → IsPast (section_list theory query with_claim key).variables fault
  sizes_past sizes fault same past' =
      subst (λ (l : ClauseList). IsPast l.variables fault) own_list
      (begin_past sizes_own own_stride theory.rules (map nodes_own conditions) (nodes_if with_claim (option_map nodes_own claim)) (map postfix (key_terms sizes_own key)) fault
      (subst (λ (s : List ℕ). IsPast (true_variable s) fault) same past'))

  pub theory_past : (begun : Writer) (fault : Fault) → begun.places ≡ sizes_own → IsPast (rules_list begun.places own_stride theory.rules).last fault → IsPast (section_list theory query with_claim key).variables fault
  theory_past begun fault same past' =
      subst (λ (l : ClauseList). IsPast l.variables fault) own_list
      (rules_past sizes_own own_stride theory.rules (map nodes_own conditions) (nodes_if with_claim (option_map nodes_own claim)) (map postfix (key_terms sizes_own key)) fault
      (subst (λ (s : List ℕ). IsPast (rules_list s own_stride theory.rules).last fault) same past'))

  pub query_past : (begun between : Writer) (fault : Fault) → begun.places ≡ sizes_own → IsBuilt begun between (rules_list begun.places own_stride theory.rules).last (rules_list begun.places own_stride theory.rules).clauses →
      IsPast (query_list between.places between.last (map nodes_own conditions) (nodes_if with_claim (option_map nodes_own claim)) (map postfix (key_terms between.places key))).last fault →
      IsPast (section_list theory query with_claim key).variables fault
  query_past begun between fault same one past' =
      let at : between.places ≡ sizes_own = one.places ∙ same in
      let ends : between.last ≡ (rules_list sizes_own own_stride theory.rules).last = one.ends ∙ ap (λ (s : List ℕ). (rules_list s own_stride theory.rules).last) same in
      subst (λ (l : ClauseList). IsPast l.variables fault) own_list
      (subst (λ (n : ℕ). IsPast (query_list sizes_own n (map nodes_own conditions) (nodes_if with_claim (option_map nodes_own claim)) (map postfix (key_terms sizes_own key))).last fault) ends
      (subst (λ (s : List ℕ). IsPast (query_list s between.last (map nodes_own conditions) (nodes_if with_claim (option_map nodes_own claim)) (map postfix (key_terms s key))).last fault) at past'))

pub key_fits_at : (signature : Signature) (h : ℕ) (key : Option (Bor Key)) → IfSome key (λ key. IsKeyAt signature h key.now) → IfSome (option_map (λ key. key.now) key) (IsKeyAt signature h)
key_fits_at signature h None is = tt
key_fits_at signature h (Some key) is = is

pub key_rows_at : (key : Option (Bor Key)) → option_map (λ key. key.now.row) key ≡ option_map (λ key. key.row) (option_map (λ key. key.now) key)
key_rows_at None = refl
key_rows_at (Some key) = refl
