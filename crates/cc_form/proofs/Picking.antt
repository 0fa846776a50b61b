-- The literals of the bodies of a head's rules, by the numbers of these rules.
use Rattle.std.proofs.Common.{◌≡◌, ◌∙◌, ℕ, zero, suc, ◌+◌, ◌<◌, ◌≤◌, inl, inr, Bool, true, false, ◌&&◌, List, [], ◌∷◌, ◌++◌, length, map, take, get_or, refl, sym, ap, subst, arith, append_assoc, length-append}
use Rattle.std.specs.Prelude.{◌==◌, if◌then◌else◌, cond}
use Rattle.std.specs.List.{filter, AllByRecursion}
use Rattle.std.proofs.lemmas.Bool.{eqb-true, eq-eqb}
use Rattle.cc_defs.specs.declared.node.GroundHead.{GroundHead}
use Rattle.cc_defs.specs.ClauseForms.{all_written, positive, written}
use Rattle.cc_defs.specs.ClauseLists.{Bodied, bodies_of, denials_of, is_falsity, is_of_atom}
use Rattle.cc_defs.specs.Clauses.{Literal, opposite}
use Rattle.cc_defs.specs.Declarations.{numbers_where}
use Rattle.cc_theory.specs.declared.rule.TimedHead.{TimedHead}
use Rattle.cc_theory.specs.declared.rule.TimedHead.TheVariants as timed_heads
use Rattle.cc_theory.specs.declared.rule.TimedRule.{TimedRule}
use Rattle.cc_theory.specs.Theories.{causes_of, has_atom, plain_head}
use Rattle.cc_theory.specs.Theories as theories
use Rattle.cc_form.specs.declared.store.Kept.{Kept}
use Rattle.cc_form.specs.Making.{bodied, picked}
use Rattle.cc_form.specs.Store.{Gives}
use Rattle.cc_form.proofs.Definitions.{mapped_all, mapped_more, written_behind, written_one}
use Rattle.cc_form.proofs.Keeping.{gives_more}
use Rattle.cc_form.proofs.Ordered.{cases_test}
use Rattle.cc_form.proofs.RowValues.{mapped_last}
use Rattle.cc_form.proofs.Written.{equal_tests}

test_same : (position value : ℕ) (head : TimedHead) → has_atom position value head ≡ is_of_atom position value (plain_head head)
test_same position value timed_heads.Falsity = refl
test_same position value (timed_heads.Atom other index) = ap (λ (b : Bool). b && (index == value)) (turned other position) ∙ ap (λ (b : Bool). (position == other) && b) (turned index value)
  where
    turned : (m n : ℕ) → (m == n) ≡ (n == m)
    turned m n = equal_tests (m == n) (n == m) (λ e. eq-eqb n m (sym (eqb-true m n e))) (λ e. eq-eqb m n (sym (eqb-true n m e)))

falsity_same : (head : TimedHead) → theories.is_falsity head ≡ is_falsity (plain_head head)
falsity_same timed_heads.Falsity = refl
falsity_same (timed_heads.Atom other index) = refl

module _ (test : TimedRule → Bool) (plain : GroundHead → Bool) (same : (rule : TimedRule) → test rule ≡ plain (plain_head rule.head)) where
  read_front : (front bodies : List Literal) (body : Literal) → get_or (front ++ body ∷ bodies) (length front) (positive 0) ≡ body
  read_front [] bodies body = refl
  read_front (x ∷ front) bodies body = read_front front bodies body

  chosen : {A : Type 0} (b : Bool) (x : A) (xs : List A) → (if b then x ∷ xs else xs) ≡ cond b (x ∷ xs) xs
  chosen true x xs = refl
  chosen false x xs = refl

  picks : (rules : List TimedRule) (front bodies : List Literal) → length bodies ≡ length rules →
      map (λ number. get_or (front ++ bodies) number (positive 0)) (numbers_where test (length front) rules)
      ≡ map (λ rule. rule.body) (filter (λ rule. plain rule.head) (bodied rules bodies))
  picks [] front bodies long = refl
  picks (rule ∷ rules) front [] long = absurd (omega arith)
  picks (rule ∷ rules) front (body ∷ bodies) long =
      let more : map (λ number. get_or (front ++ body ∷ bodies) number (positive 0)) (numbers_where test (length front + 1) rules) ≡ map (λ rule. rule.body) (filter (λ rule. plain rule.head) (bodied rules bodies)) =
      subst (λ (n : ℕ). map (λ number. get_or (front ++ body ∷ bodies) number (positive 0)) (numbers_where test n rules) ≡ map (λ rule. rule.body) (filter (λ rule. plain rule.head) (bodied rules bodies))) (length-append front (body ∷ []))
      (subst (λ (l : List Literal). map (λ number. get_or l number (positive 0)) (numbers_where test (length (front ++ body ∷ [])) rules) ≡ map (λ rule. rule.body) (filter (λ rule. plain rule.head) (bodied rules bodies))) (append_assoc front (body ∷ []) bodies)
      (picks rules (front ++ body ∷ []) bodies (omega arith))) in
      elim (cases_test (test rule)) [
        | inl e ↦
            ap (λ (b : Bool). map (λ number. get_or (front ++ body ∷ bodies) number (positive 0)) (if b then length front ∷ numbers_where test (length front + 1) rules else numbers_where test (length front + 1) rules)) e
            ∙ ap (λ (l : Literal). l ∷ map (λ number. get_or (front ++ body ∷ bodies) number (positive 0)) (numbers_where test (length front + 1) rules)) (read_front front bodies body)
            ∙ ap (λ (l : List Literal). body ∷ l) more
            ∙ ap (λ (b : Bool). map (λ rule. rule.body) (cond b ((record { head = plain_head rule.head; body = body }) ∷ filter (λ rule. plain rule.head) (bodied rules bodies)) (filter (λ rule. plain rule.head) (bodied rules bodies)))) (sym e ∙ same rule)
        | inr e ↦
            ap (λ (b : Bool). map (λ number. get_or (front ++ body ∷ bodies) number (positive 0)) (if b then length front ∷ numbers_where test (length front + 1) rules else numbers_where test (length front + 1) rules)) e
            ∙ more
            ∙ ap (λ (b : Bool). map (λ rule. rule.body) (cond b ((record { head = plain_head rule.head; body = body }) ∷ filter (λ rule. plain rule.head) (bodied rules bodies)) (filter (λ rule. plain rule.head) (bodied rules bodies)))) (sym e ∙ same rule)
      ]

  pub numbers_below : (rules : List TimedRule) (first bound : ℕ) → first + length rules ≤ bound → AllByRecursion (λ number. number < bound) (numbers_where test first rules)
  numbers_below [] first bound within = tt
  numbers_below (rule ∷ rules) first bound within =
      let more = numbers_below rules (first + 1) bound (omega arith) in
      elim (cases_test (test rule)) [
        | inl e ↦ subst (λ (b : Bool). AllByRecursion (λ number. number < bound) (if b then first ∷ numbers_where test (first + 1) rules else numbers_where test (first + 1) rules)) (sym e) ((omega arith), more)
        | inr e ↦ subst (λ (b : Bool). AllByRecursion (λ number. number < bound) (if b then first ∷ numbers_where test (first + 1) rules else numbers_where test (first + 1) rules)) (sym e) more
      ]

pub picked_is : (rules : List TimedRule) (bodies : List Literal) (position value : ℕ) → length bodies ≡ length rules → picked bodies (causes_of rules position value) ≡ bodies_of position value (bodied rules bodies)
picked_is rules bodies position value long = picks (λ rule. has_atom position value rule.head) (is_of_atom position value) (λ rule. test_same position value rule.head) rules [] bodies long

pub causes_below : (rules : List TimedRule) (position value bound : ℕ) → length rules ≡ bound → AllByRecursion (λ number. number < bound) (causes_of rules position value)
causes_below rules position value bound is = numbers_below (λ rule. has_atom position value rule.head) (is_of_atom position value) (λ rule. test_same position value rule.head) rules 0 bound (omega arith)

pub denials_below : (rules : List TimedRule) (bound : ℕ) → length rules ≡ bound → AllByRecursion (λ number. number < bound) (theories.denials_of rules)
denials_below rules bound is = numbers_below (λ rule. theories.is_falsity rule.head) is_falsity (λ rule. falsity_same rule.head) rules 0 bound (omega arith)

pub denials_are : (rules : List TimedRule) (bodies : List Literal) → length bodies ≡ length rules →
    map (λ body. opposite body ∷ []) (picked bodies (theories.denials_of rules)) ≡ denials_of (bodied rules bodies)
denials_are rules bodies long =
    ap (map (λ body. opposite body ∷ [])) (picks (λ rule. theories.is_falsity rule.head) is_falsity (λ rule. falsity_same rule.head) rules [] bodies long)
    ∙ mapped_twice (filter (λ rule. is_falsity rule.head) (bodied rules bodies))
  where
    mapped_twice : (rs : List Bodied) → map (λ body. opposite body ∷ []) (map (λ rule. rule.body) rs) ≡ map (λ rule. opposite rule.body ∷ []) rs
    mapped_twice [] = refl
    mapped_twice (r ∷ rs) = ap (λ l. (opposite r.body ∷ []) ∷ l) (mapped_twice rs)

pub number_at : (numbers : List ℕ) (bound i : ℕ) → AllByRecursion (λ number. number < bound) numbers → i < length numbers → get_or numbers i 0 < bound
number_at [] bound i all less = absurd (omega arith)
number_at (n ∷ numbers) bound zero all less = all.0
number_at (n ∷ numbers) bound (suc i) all less = number_at numbers bound i all.1 (omega arith)

read_as : {X : Type 0} (xs : List X) (i : ℕ) (d e : X) → i < length xs → get_or xs i d ≡ get_or xs i e
read_as [] i d e less = absurd (omega arith)
read_as (x ∷ xs) zero d e less = refl
read_as (x ∷ xs) (suc i) d e less = read_as xs i d e (omega arith)

abbrev denied : Literal → List Literal
denied body = opposite body ∷ []

pub deny_more : (old now new : Kept) (bodies : List Literal) (numbers : List ℕ) (i : ℕ) (body literal : Literal) → i < length numbers → get_or numbers i 0 < length bodies →
    body ≡ get_or bodies (get_or numbers i 0) body → literal ≡ opposite body → Gives old now (all_written (map denied (picked bodies (take i numbers)))) → Gives now new (written (literal ∷ [])) →
    Gives old new (all_written (map denied (picked bodies (take (i + 1) numbers))))
deny_more old now new bodies numbers i body literal less within is turned one other =
    let x = get_or numbers i 0 in
    let read : body ≡ get_or bodies x (positive 0) = is ∙ read_as bodies x body (positive 0) within in
    let more : picked bodies (take (i + 1) numbers) ≡ picked bodies (take i numbers) ++ get_or bodies x (positive 0) ∷ [] =
    mapped_more (λ number. get_or bodies number (positive 0)) numbers i x less (read_as numbers i 0 x less) in
    let next : Gives now new (written (denied (get_or bodies x (positive 0)))) = subst (λ (l : List Literal). Gives now new (written l)) (ap (λ (l : Literal). l ∷ []) (turned ∙ ap opposite read)) other in
    subst (Gives old new)
    (ap (λ (l : List (List Literal)). all_written (map denied (picked bodies (take i numbers))) ++ l) (written_one (denied (get_or bodies x (positive 0))))
    ∙ sym (written_behind (map denied (picked bodies (take i numbers))) (denied (get_or bodies x (positive 0)) ∷ []))
    ∙ ap all_written (sym (mapped_last denied (picked bodies (take i numbers)) (get_or bodies x (positive 0))) ∙ ap (map denied) (sym more)))
    (gives_more old now new (all_written (map denied (picked bodies (take i numbers)))) (written (denied (get_or bodies x (positive 0)))) one next)

pub denied_all : (old new : Kept) (rules : List TimedRule) (bodies : List Literal) (numbers : List ℕ) (i : ℕ) → length bodies ≡ length rules → numbers ≡ theories.denials_of rules → length numbers ≡ i →
    Gives old new (all_written (map denied (picked bodies (take i numbers)))) → Gives old new (all_written (denials_of (bodied rules bodies)))
denied_all old new rules bodies numbers i long are all given =
    subst (λ (l : List (List Literal)). Gives old new (all_written l)) (ap (map denied) (mapped_all (λ number. get_or bodies number (positive 0)) numbers i all) ∙ ap (λ (n : List ℕ). map denied (picked bodies n)) are ∙ denials_are rules bodies long) given
