-- What is noted in one pass is the cause of each position of a path, and each has one.
use Rattle.std.proofs.Common.{◌≡◌, ◌∙◌, ℕ, zero, suc, ◌+◌, ◌<◌, inl, inr, Bool, true, false, ◌&&◌, ◌||◌, List, [], ◌∷◌, ◌++◌, length, map, flat_map, get_or, slice_get, Option, Some, None, is_some, unwrap_or, refl, sym, ap, subst, arith, eqb-true, eq-eqb}
use Rattle.std.specs.Prelude.{◌==◌, slice_index, if◌then◌else◌}
use Rattle.std.specs.List.{list_any}
use Rattle.std.specs.Option.{option_or}
use Rattle.cc_arena.specs.declared.ground_laws.GroundLaw.{GroundLaw}
use Rattle.cc_defs.specs.declared.node.GroundHead.TheVariants as heads
use Rattle.cc_defs.specs.declared.signature.Const.{Const}
use Rattle.cc_defs.specs.declared.signature.Kind.{Kind}
use Rattle.cc_defs.specs.declared.signature.Kind.TheVariants as const_kinds
use Rattle.cc_defs.specs.Conditions.{IsSignatureOfDescription}
use Rattle.cc_defs.specs.Declarations.{upto}
use Rattle.cc_defs.specs.Description.{Description, domain_sizes, sizes_at, stride}
use Rattle.cc_defs.specs.Environments.{instances}
use Rattle.cc_defs.specs.Forms.{is_simple}
use Rattle.cc_defs.specs.Laws.{PositionsHaveSizes}
use Rattle.cc_defs.specs.Paths.{IsPath}
use Rattle.cc_defs.specs.Rows.{IsRow}
use Rattle.cc_defs.specs.Signatures.{Signature}
use Rattle.cc_defs.specs.Terms as terms
use Rattle.cc_defs.specs.TimedRules.{TimedRule, all_initial_timed, initial_timed, timed_of_instance, timed_rules}
use Rattle.cc_theory.specs.Completion.{MeetsCompletion}
use Rattle.cc_theory.specs.Laws.{ModelsArePaths, ModelsMeetCompletion}
use Rattle.cc_theory.specs.Making.{stride_of}
use Rattle.cc_theory.specs.Theories.{AreLawsFor, AreLawsOf}
use Rattle.cc_why.specs.Causes.{Sourced, cause_at, cause_of, causes_at, is_reason, sourced, sourced_at_step, sourced_rules}
use Rattle.cc_why.specs.declared.cause.Cause.{Cause}
use Rattle.cc_why.specs.declared.cause.Cause.TheVariants as kinds
use Rattle.cc_why.specs.Meeting.{is_cause, size_at}
use Rattle.cc_why.specs.Noting.{AreNoted, MeanAt, first_of, found_in, initial_cause}
use Rattle.cc_why.proofs.Lists.{In, both, in_upto}
use Rattle.cc_why.proofs.Meant.{step_meant}
use Rattle.cc_why.proofs.Meets.{cause_passes, size_same}
use Rattle.cc_why.proofs.Notes.{found_append, or_none}
use Rattle.cc_why.proofs.Rows.{row_at, size_there}
use Rattle.cc_why.proofs.Values.{length_values, value_at, values_are}
use Rattle.cc_why.proofs.WellGrounded.{well_grounded}

-- ---- sourced rules are the rules of the theory

map_append : {X Y : Type 0} (f : X → Y) (xs ys : List X) → map f (xs ++ ys) ≡ map f xs ++ map f ys
map_append f [] ys = refl
map_append f (x ∷ xs) ys = ap (λ l. f x ∷ l) (map_append f xs ys)

rules_again : (cause : Cause) (rules : List TimedRule) → map (λ (one : Sourced). one.rule) (map (sourced cause) rules) ≡ rules
rules_again cause [] = refl
rules_again cause (rule ∷ rules) = ap (λ l. rule ∷ l) (rules_again cause rules)

map_flat : {X Y Z : Type 0} (f : Y → Z) (g : X → List Y) (h : X → List Z) → ((x : X) → map f (g x) ≡ h x) → (xs : List X) → map f (flat_map g xs) ≡ flat_map h xs
map_flat f g h same [] = refl
map_flat f g h same (x ∷ xs) = map_append f (g x) (flat_map g xs) ∙ ap (λ l. l ++ map f (flat_map g xs)) (same x) ∙ ap (λ l. h x ++ l) (map_flat f g h same xs)

pub rules_of_sourced : (d : Description) (horizon : ℕ) → map (λ (one : Sourced). one.rule) (sourced_rules d horizon) ≡ timed_rules d horizon
rules_of_sourced d horizon =
    let rule : Sourced → TimedRule = λ one. one.rule in
    let initial = all_initial_timed 0 d.universe.fluents in
    let steps = flat_map (sourced_at_step d horizon) (upto (horizon + 1)) in
    let at : ℕ → List TimedRule = λ step. flat_map (timed_of_instance d horizon step) (instances d.universe d.laws) in
    map_append rule (map (sourced kinds.Initial) initial) steps
    ∙ ap (λ (l : List TimedRule). l ++ map rule steps) (rules_again kinds.Initial initial)
    ∙ ap (λ (l : List TimedRule). initial ++ l) (map_flat rule (sourced_at_step d horizon) at (λ step.
    map_flat rule (λ instance. map (sourced (cause_of instance)) (timed_of_instance d horizon step instance)) (timed_of_instance d horizon step) (λ instance.
    rules_again (cause_of instance) (timed_of_instance d horizon step instance)) (instances d.universe d.laws)) (upto (horizon + 1)))

-- ---- the first cause

module _ (row : List ℕ) (p : ℕ) where
  found_first : (one : Sourced) (others : List Sourced) → is_reason row p one ≡ true → found_in row p (one ∷ others) ≡ Some one.cause
  found_first one others e = rw e refl

  found_later : (one : Sourced) (others : List Sourced) → is_reason row p one ≡ false → found_in row p (one ∷ others) ≡ found_in row p others
  found_later one others e = rw e refl

  -- where one of the rules is a cause, one is found
  pub found_any : (rules : List Sourced) → list_any (is_cause row p) (map (λ (one : Sourced). one.rule) rules) ≡ true → is_some (found_in row p rules) ≡ true
  found_any [] e = absurd cc
  found_any (one ∷ others) e = by (is_reason row p one) refl e (λ later. found_any others later)
    where
      by : (b : Bool) → is_reason row p one ≡ b → (b || list_any (is_cause row p) (map (λ (other : Sourced). other.rule) others)) ≡ true →
          (list_any (is_cause row p) (map (λ (other : Sourced). other.rule) others) ≡ true → is_some (found_in row p others) ≡ true) → is_some (found_in row p (one ∷ others)) ≡ true
      by true is e rest = ap is_some (found_first one others is)
      by false is e rest = ap is_some (found_later one others is) ∙ rest e

  -- ---- initial rules

  abbrev initial : ℕ → ℕ → TimedRule
  initial number value = record { head = heads.Atom number value; body = terms.Atom number value }

  abbrev from_values : ℕ → List ℕ → List Sourced
  from_values number values = map (sourced kinds.Initial) (map (initial number) values)

  not_of : (number value : ℕ) → (number == p) ≡ false → is_reason row p (sourced kinds.Initial (initial number value)) ≡ false
  not_of number value e = rw e refl

  of_value : (value : ℕ) → value ≡ slice_index row p → is_reason row p (sourced kinds.Initial (initial p value)) ≡ true
  of_value value is =
      both ((p == p) && (value == slice_index row p)) (slice_index row p == value)
      (both (p == p) (value == slice_index row p) (eq-eqb p p refl) (eq-eqb value (slice_index row p) is)) (eq-eqb (slice_index row p) value (sym is))

  none_of_values : (number : ℕ) (values : List ℕ) → (number == p) ≡ false → found_in row p (from_values number values) ≡ None
  none_of_values number [] e = refl
  none_of_values number (value ∷ values) e = found_later (sourced kinds.Initial (initial number value)) (from_values number values) (not_of number value e) ∙ none_of_values number values e

  one_of_values : (values : List ℕ) → In values (slice_index row p) → found_in row p (from_values p values) ≡ Some kinds.Initial
  one_of_values [] i = absurd i
  one_of_values (value ∷ values) i = by (is_reason row p (sourced kinds.Initial (initial p value))) refl (λ more. one_of_values values more)
    where
      by : (b : Bool) → is_reason row p (sourced kinds.Initial (initial p value)) ≡ b → (In values (slice_index row p) → found_in row p (from_values p values) ≡ Some kinds.Initial) →
          found_in row p (from_values p (value ∷ values)) ≡ Some kinds.Initial
      by true e rest = found_first (sourced kinds.Initial (initial p value)) (from_values p values) e
      by false e rest = elim i [
        | inl is ↦ let wrong : false ≡ true = sym e ∙ of_value value is in absurd cc
        | inr more ↦ found_later (sourced kinds.Initial (initial p value)) (from_values p values) e ∙ rest more
      ]

  of_kind : (kind : Kind) (size : ℕ) → slice_index row p < size → found_in row p (map (sourced kinds.Initial) (initial_timed kind p size)) ≡ (if is_simple kind then Some kinds.Initial else None)
  of_kind const_kinds.Simple size less = one_of_values (upto size) (in_upto size (slice_index row p) less)
  of_kind const_kinds.Determined size less = refl
  of_kind const_kinds.Action size less = refl

  none_of_kind : (kind : Kind) (number size : ℕ) → (number == p) ≡ false → found_in row p (map (sourced kinds.Initial) (initial_timed kind number size)) ≡ None
  none_of_kind const_kinds.Simple number size e = none_of_values number (upto size) e
  none_of_kind const_kinds.Determined number size e = refl
  none_of_kind const_kinds.Action number size e = refl

  not_same : (number : ℕ) → (number ≡ p → ⊥) → (number == p) ≡ false
  not_same number never = by (number == p) refl
    where
      by : (b : Bool) → (number == p) ≡ b → (number == p) ≡ false
      by true e = absurd (never (eqb-true number p e))
      by false e = e

  abbrev initials : ℕ → List Const → List Sourced
  initials start constants = map (sourced kinds.Initial) (all_initial_timed start constants)

  in_two : (start : ℕ) (c : Const) (cs : List Const) →
      found_in row p (initials start (c ∷ cs)) ≡ option_or (found_in row p (map (sourced kinds.Initial) (initial_timed c.kind start (length c.domain)))) (found_in row p (initials (start + 1) cs))
  in_two start c cs =
      ap (found_in row p) (map_append (sourced kinds.Initial) (initial_timed c.kind start (length c.domain)) (all_initial_timed (start + 1) cs))
      ∙ found_append row p (map (sourced kinds.Initial) (initial_timed c.kind start (length c.domain))) (initials (start + 1) cs)

  -- constants with greater numbers
  none_before : (start : ℕ) (constants : List Const) → p < start → found_in row p (initials start constants) ≡ None
  none_before start [] less = refl
  none_before start (c ∷ cs) less =
      in_two start c cs
      ∙ ap (λ (o : Option Cause). option_or o (found_in row p (initials (start + 1) cs))) (none_of_kind c.kind start (length c.domain) (not_same start (λ e. omega arith)))
      ∙ none_before (start + 1) cs (omega arith)

  pub initial_found : (start : ℕ) (constants : List Const) (k : ℕ) → start + k ≡ p →
      ((c : Const) → slice_get constants k ≡ Some c → slice_index row p < length c.domain) → found_in row p (initials start constants) ≡ initial_cause (slice_get constants k)
  initial_found start [] k at less = refl
  initial_found start (c ∷ cs) zero at less =
      let here : start ≡ p = omega arith in
      in_two start c cs
      ∙ ap (option_or (found_in row p (map (sourced kinds.Initial) (initial_timed c.kind start (length c.domain))))) (none_before (start + 1) cs (omega arith))
      ∙ sym (or_none (found_in row p (map (sourced kinds.Initial) (initial_timed c.kind start (length c.domain)))))
      ∙ ap (λ (n : ℕ). found_in row p (map (sourced kinds.Initial) (initial_timed c.kind n (length c.domain)))) here
      ∙ of_kind c.kind (length c.domain) (less c refl)
  initial_found start (c ∷ cs) (suc k) at less =
      in_two start c cs
      ∙ ap (λ (o : Option Cause). option_or o (found_in row p (initials (start + 1) cs))) (none_of_kind c.kind start (length c.domain) (not_same start (λ e. omega arith)))
      ∙ initial_found (start + 1) cs k (omega arith) less

-- ---- the size of a fluent's position of step 0

got_first : {X : Type 0} (xs ys : List X) (i : ℕ) (x : X) → slice_get xs i ≡ Some x → slice_get (xs ++ ys) i ≡ Some x
got_first [] ys i x e = absurd cc
got_first (y ∷ xs) ys zero x e = e
got_first (y ∷ xs) ys (suc i) x e = got_first xs ys i x e

got_size : (constants : List Const) (i : ℕ) (c : Const) → slice_get constants i ≡ Some c → slice_get (domain_sizes constants) i ≡ Some (length c.domain)
got_size [] i c e = absurd cc
got_size (b ∷ cs) zero c e = let same : b ≡ c = cc in ap (λ (k : Const). Some (length k.domain)) same
got_size (b ∷ cs) (suc i) c e = got_size cs i c e

fluent_size : (d : Description) (horizon i : ℕ) (c : Const) → slice_get d.universe.fluents i ≡ Some c → slice_get (sizes_at d horizon) i ≡ Some (length c.domain)
fluent_size d zero i c e = got_size d.universe.fluents i c e
fluent_size d (suc horizon) i c e =
    got_first (domain_sizes d.universe.fluents ++ domain_sizes d.universe.actions) (sizes_at d horizon) i (length c.domain)
    (got_first (domain_sizes d.universe.fluents) (domain_sizes d.universe.actions) i (length c.domain) (got_size d.universe.fluents i c e))

index_is : (sizes : List ℕ) (p size : ℕ) → slice_get sizes p ≡ Some size → slice_index sizes p ≡ size
index_is [] p size e = absurd cc
index_is (s ∷ sizes) zero size e = cc
index_is (s ∷ sizes) (suc p) size e = index_is sizes p size e

-- ---- each position

module _ (have : PositionsHaveSizes) (d : Description) (signature : Signature) (of : IsSignatureOfDescription d signature) (horizon : ℕ) (row : List ℕ) (is : IsRow (sizes_at d horizon) row) where
  abbrev steps : List Sourced
  steps = flat_map (sourced_at_step d horizon) (upto (horizon + 1))

  abbrev firsts : List Sourced
  firsts = map (sourced kinds.Initial) (all_initial_timed 0 d.universe.fluents)

  initial_is : (p : ℕ) → initial_cause (slice_get signature.fluents p) ≡ found_in row p firsts
  initial_is p =
      ap (λ (fluents : List Const). initial_cause (slice_get fluents p)) of.fluents
      ∙ sym (initial_found row p 0 d.universe.fluents p (omega arith) (λ c e. (row_at (sizes_at d horizon) row p (length c.domain) is (fluent_size d horizon p c e)).1))

  joined : (b : Bool) (p : ℕ) →
      option_or (if b then Some kinds.OneValue else initial_cause (slice_get signature.fluents p)) (found_in row p steps) ≡ (if b then Some kinds.OneValue else found_in row p (sourced_rules d horizon))
  joined true p = refl
  joined false p = ap (λ (o : Option Cause). option_or o (found_in row p steps)) (initial_is p) ∙ sym (found_append row p firsts steps)

  first_then : (p : ℕ) → p < length row → option_or (first_of signature p) (found_in row p steps) ≡ cause_at d horizon row p
  first_then p less =
      let size = size_there (sizes_at d horizon) row p is less in
      let same : size_at signature p ≡ slice_index (sizes_at d horizon) p =
      size_same have d signature of horizon row is [] p size.0 size.1 ∙ sym (index_is (sizes_at d horizon) p size.0 size.1) in
      joined (size_at signature p == 1) p ∙ ap (λ (n : ℕ). if n == 1 then Some kinds.OneValue else found_in row p (sourced_rules d horizon)) same

  pub noted_are : (old new : List (Option Cause)) → old ≡ map (first_of signature) (upto (length row)) → AreNoted row steps old new → new ≡ causes_at d horizon row
  noted_are old new is_first noted =
      let long : length old ≡ length row = ap length is_first ∙ length_values (first_of signature) (length row) in
      values_are (cause_at d horizon row) new (length row) None (noted.long ∙ long) (λ p less.
      noted.each p (subst (λ (n : ℕ). p < n) (sym long) less)
      ∙ ap (λ (l : List (Option Cause)). option_or (get_or l p None) (found_in row p steps)) is_first
      ∙ ap (λ (o : Option Cause). option_or o (found_in row p steps)) (value_at (first_of signature) (length row) p None less)
      ∙ first_then p less)

-- ---- each has a cause

more_than_one : (size v : ℕ) → v < size → (size == 1) ≡ false → 1 < size
more_than_one zero v less e = absurd (omega arith)
more_than_one (suc zero) v less e = absurd cc
more_than_one (suc (suc n)) v less e = omega arith

module _ (d : Description) (horizon : ℕ) (row : List ℕ) (is : IsRow (sizes_at d horizon) row) (meets : MeetsCompletion (sizes_at d horizon) (timed_rules d horizon) row) where
  caused : (p : ℕ) → p < length row → (b : Bool) → (slice_index (sizes_at d horizon) p == 1) ≡ b →
      is_some (if b then Some kinds.OneValue else found_in row p (sourced_rules d horizon)) ≡ true
  caused p less true e = refl
  caused p less false e =
      let size = size_there (sizes_at d horizon) row p is less in
      let many : 1 < size.0 =
      more_than_one size.0 (slice_index row p) (row_at (sizes_at d horizon) row p size.0 is size.1).1 (ap (λ (n : ℕ). n == 1) (sym (index_is (sizes_at d horizon) p size.0 size.1)) ∙ e) in
      found_any row p (sourced_rules d horizon)
      (ap (list_any (is_cause row p)) (rules_of_sourced d horizon) ∙ cause_passes (timed_rules d horizon) row p (meets.caused p size.0 size.1 many))

  pub each_caused : (p : ℕ) → p < length row → is_some (cause_at d horizon row p) ≡ true
  each_caused p less = caused p less (slice_index (sizes_at d horizon) p == 1) refl

there_are : (causes : List (Option Cause)) → ((p : ℕ) → p < length causes → is_some (get_or causes p None) ≡ true) →
    map (λ cause. Some cause) (map (λ cause. unwrap_or cause kinds.OneValue) causes) ≡ causes
there_are [] each = refl
there_are (Some cause ∷ causes) each = ap (λ (l : List (Option Cause)). Some cause ∷ l) (there_are causes (λ p less. each (suc p) (omega arith)))
there_are (None ∷ causes) each = absurd (let e : false ≡ true = each 0 (omega arith) in cc)

-- ---- all of it

sizes_same : (d e : Description) → d.universe.fluents ≡ e.universe.fluents → d.universe.actions ≡ e.universe.actions → (horizon : ℕ) → sizes_at d horizon ≡ sizes_at e horizon
sizes_same d e fluents actions zero = ap domain_sizes fluents
sizes_same d e fluents actions (suc horizon) =
    ap (λ (f : List Const). domain_sizes f ++ domain_sizes d.universe.actions ++ sizes_at d horizon) fluents
    ∙ ap (λ (a : List Const). domain_sizes e.universe.fluents ++ domain_sizes a ++ sizes_at d horizon) actions
    ∙ ap (λ (s : List ℕ). domain_sizes e.universe.fluents ++ domain_sizes e.universe.actions ++ s) (sizes_same d e fluents actions horizon)

abbrev pub HasPath : Signature → List GroundLaw → ℕ → List ℕ → Type 0
HasPath signature laws horizon row = (d : Description) × AreLawsOf signature laws d × IsPath d horizon row

module _ (paths : ModelsArePaths) (signature : Signature) (laws : List GroundLaw) (are : AreLawsFor signature laws) (horizon : ℕ) (row : List ℕ) (path : HasPath signature laws horizon row) where
  pub row_is : (d : Description) → IsSignatureOfDescription d signature → IsRow (sizes_at d horizon) row
  row_is d of =
      let e = path.0 in
      let e_of = path.1.signature_is in
      let model = (paths e (well_grounded signature laws e are path.1) horizon row).1 path.2 in
      subst (λ (sizes : List ℕ). IsRow sizes row) (sizes_same e d (sym e_of.fluents ∙ of.fluents) (sym e_of.actions ∙ of.actions) horizon) model.interprets

  module _ (have : PositionsHaveSizes) (complete : ModelsMeetCompletion) (wide : ℕ) (wide_is : wide ≡ stride_of signature) (all : List GroundLaw) (all_are : all ≡ laws)
      (old new : List (Option Cause)) (is_first : old ≡ map (first_of signature) (upto (length row)))
      (noted : (meant : ℕ → List Sourced) → ((step : ℕ) → MeanAt wide horizon step all (meant step)) → AreNoted row (flat_map meant (upto (horizon + 1))) old new) where
    new_is : (d : Description) → AreLawsOf signature laws d → new ≡ causes_at d horizon row
    new_is d of =
        let apart : stride d ≡ wide =
        sym (wide_is ∙ ap (λ (c : List Const). length c + length signature.actions) of.signature_is.fluents ∙ ap (λ (c : List Const). length d.universe.fluents + length c) of.signature_is.actions) in
        noted_are have d signature of.signature_is horizon row (row_is d of.signature_is) old new is_first
        (noted (sourced_at_step d horizon) (λ step.
        subst (λ (l : List GroundLaw). MeanAt wide horizon step l (sourced_at_step d horizon step)) (sym all_are)
        (subst (λ (n : ℕ). MeanAt n horizon step laws (sourced_at_step d horizon step)) apart (step_meant d laws of.laws_are horizon step))))

    all_some : (p : ℕ) → p < length new → is_some (get_or new p None) ≡ true
    all_some p less =
        let d = path.0 in
        let is = row_is d path.1.signature_is in
        let well = well_grounded signature laws d are path.1 in
        let meets = (complete d well horizon row is).0 ((paths d well horizon row).1 path.2) in
        let new_are = new_is d path.1 in
        let within : p < length row = subst (λ (n : ℕ). p < n) (ap length new_are ∙ length_values (cause_at d horizon row) (length row)) less in
        ap (λ (l : List (Option Cause)). is_some (get_or l p None)) new_are ∙ ap is_some (value_at (cause_at d horizon row) (length row) p None within)
        ∙ each_caused d horizon row is meets p within

    pub told : (found : List Cause) → found ≡ map (λ cause. unwrap_or cause kinds.OneValue) new → (d : Description) → AreLawsOf signature laws d →
        map (λ cause. Some cause) found ≡ causes_at d horizon row
    told found is d of = ap (map (λ cause. Some cause)) is ∙ there_are new all_some ∙ new_is d of
