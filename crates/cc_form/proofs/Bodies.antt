-- A loop over rules that makes the literals of their bodies.
use Rattle.std.proofs.Common.{◌≡◌, ◌∙◌, ℕ, zero, suc, ◌+◌, ◌<◌, ◌≤◌, Bool, true, false, List, [], ◌∷◌, ◌++◌, length, map, drop, get_or, refl, sym, ap, subst, arith, append_assoc, append-nil}
use Rattle.std.specs.List.{AllByRecursion}
use Rattle.cc_defs.specs.declared.refusal.Fault.{Fault}
use Rattle.std.specs.Prelude.{if◌then◌else◌}
use Rattle.cc_defs.specs.ClauseForms.{positive, true_variable}
use Rattle.cc_defs.specs.ClauseLists.{Bodied, is_certain}
use Rattle.cc_defs.specs.Clauses.{Literal}
use Rattle.cc_theory.specs.declared.rule.TimedRule.{TimedRule}
use Rattle.cc_theory.specs.Theories.{plain_head}
use Rattle.cc_form.specs.declared.writer.Writer.{Writer}
use Rattle.cc_form.specs.Machine.{IsBuilt, IsPast, made_nodes, plain_made}
use Rattle.cc_form.specs.Making.{IsBodyOver, body_nodes, made_bodies, made_rule}
use Rattle.cc_form.specs.Store.{Gives}
use Rattle.cc_form.proofs.Keeping.{gives_more, gives_none}
use Rattle.cc_form.proofs.Running.{past_more, run_rises}

abbrev bodies_in : List Bodied → List Literal
bodies_in rules = map (λ rule. rule.body) rules

pub record BodiesSoFar (old now : Writer) (stride : ℕ) (literals : List Literal) (rest whole : List TimedRule) : Type 0 where
  pub places : now.places ≡ old.places
  pub within : now.last ≤ 4000000
  pub done : List (List Literal)
  pub gives : Gives old.store.kept now.store.kept done
  pub clauses : done ++ (made_bodies old.places stride now.last rest).clauses ≡ (made_bodies old.places stride old.last whole).clauses
  pub ends : (made_bodies old.places stride now.last rest).last ≡ (made_bodies old.places stride old.last whole).last
  pub bodies : literals ++ bodies_in (made_bodies old.places stride now.last rest).rules ≡ bodies_in (made_bodies old.places stride old.last whole).rules
  pub fits : AllByRecursion (IsBodyOver old.places stride) rest

pub bodies_begin : (old : Writer) (stride : ℕ) (whole : List TimedRule) → old.last ≤ 4000000 → AllByRecursion (IsBodyOver old.places stride) whole → BodiesSoFar old old stride [] whole whole
bodies_begin old stride whole within fits = record { places = refl; within = within; done = []; gives = gives_none old.store.kept; clauses = refl; ends = refl; bodies = refl; fits = fits }

pub bodies_step : (old now new : Writer) (stride : ℕ) (literals more : List Literal) (literal : Literal) (rule : TimedRule) (rest whole : List TimedRule) → BodiesSoFar old now stride literals (rule ∷ rest) whole →
    literal ≡ (made_rule now.places stride now.last rule).literal → IsBuilt now new (made_rule now.places stride now.last rule).last (made_rule now.places stride now.last rule).clauses →
    more ≡ literals ++ literal ∷ [] → BodiesSoFar old new stride more rest whole
bodies_step old now new stride literals more literal rule rest whole so is' built' pushed =
    let P = old.places in
    let m = made_rule P stride now.last rule in
    let is : literal ≡ m.literal = is' ∙ ap (λ (p : List ℕ). (made_rule p stride now.last rule).literal) so.places in
    let built : IsBuilt now new m.last m.clauses = subst (λ (p : List ℕ). IsBuilt now new (made_rule p stride now.last rule).last (made_rule p stride now.last rule).clauses) so.places built' in
    record {
      places = built.places ∙ so.places;
      within = (let below = built.within in let e = built.ends in omega arith);
      done = so.done ++ m.clauses;
      gives = gives_more old.store.kept now.store.kept new.store.kept so.done m.clauses so.gives built.gives;
      clauses = ap (λ (n : ℕ). so.done ++ m.clauses ++ (made_bodies P stride n rest).clauses) built.ends ∙ append_assoc so.done m.clauses (made_bodies P stride m.last rest).clauses ∙ so.clauses;
      ends = ap (λ (n : ℕ). (made_bodies P stride n rest).last) built.ends ∙ so.ends;
      bodies = ap (λ (l : List Literal). l ++ bodies_in (made_bodies P stride new.last rest).rules) (pushed ∙ ap (λ (x : Literal). literals ++ x ∷ []) is)
          ∙ ap (λ (n : ℕ). literals ++ m.literal ∷ [] ++ bodies_in (made_bodies P stride n rest).rules) built.ends
          ∙ append_assoc literals (m.literal ∷ []) (bodies_in (made_bodies P stride m.last rest).rules) ∙ so.bodies;
      fits = so.fits.1;
    }

pub bodies_done : (old now : Writer) (stride : ℕ) (literals : List Literal) (rest whole : List TimedRule) → rest ≡ [] → BodiesSoFar old now stride literals rest whole →
    (literals ≡ bodies_in (made_bodies old.places stride old.last whole).rules) × IsBuilt old now (made_bodies old.places stride old.last whole).last (made_bodies old.places stride old.last whole).clauses
bodies_done old now stride literals rest whole none left =
    let so : BodiesSoFar old now stride literals [] whole = subst (λ (r : List TimedRule). BodiesSoFar old now stride literals r whole) none left in (
      sym (append-nil literals) ∙ so.bodies,
      record {
        places = so.places;
        ends = so.ends;
        within = subst (λ (n : ℕ). n ≤ 4000000) so.ends so.within;
        gives = subst (Gives old.store.kept now.store.kept) (sym (append-nil so.done) ∙ so.clauses) so.gives;
      },
    )

pub rule_rises : (sizes : List ℕ) (stride last : ℕ) (rule : TimedRule) → last ≤ (made_rule sizes stride last rule).last
rule_rises sizes stride last rule = chosen (is_certain sizes (plain_head rule.head))
  where
    chosen : (b : Bool) → last ≤ (if b then plain_made (positive (true_variable sizes)) last else made_nodes sizes last (body_nodes stride rule)).last
    chosen true = omega arith
    chosen false = run_rises sizes (body_nodes stride rule) [] last

pub bodies_rise : (sizes : List ℕ) (stride last : ℕ) (rules : List TimedRule) → last ≤ (made_bodies sizes stride last rules).last
bodies_rise sizes stride last [] = omega arith
bodies_rise sizes stride last (rule ∷ rules) =
    let here = rule_rises sizes stride last rule in
    let more = bodies_rise sizes stride (made_rule sizes stride last rule).last rules in
    omega arith

pub bodies_fail : (old now : Writer) (stride : ℕ) (literals : List Literal) (rule : TimedRule) (rest whole : List TimedRule) (fault : Fault) → BodiesSoFar old now stride literals (rule ∷ rest) whole →
    IsPast (made_rule now.places stride now.last rule).last fault → IsPast (made_bodies old.places stride old.last whole).last fault
bodies_fail old now stride literals rule rest whole fault so past =
    let m = made_rule old.places stride now.last rule in
    past_more m.last (made_bodies old.places stride old.last whole).last fault
    (subst (λ (n : ℕ). m.last ≤ n) so.ends (bodies_rise old.places stride m.last rest))
    (subst (λ (p : List ℕ). IsPast (made_rule p stride now.last rule).last fault) so.places past)

pub front_at : {X : Type 0} (xs : List X) (i : ℕ) (d : X) → i < length xs → drop i xs ≡ get_or xs i d ∷ drop (i + 1) xs
front_at [] i d less = absurd (omega arith)
front_at (x ∷ xs) zero d less = refl
front_at (x ∷ xs) (suc i) d less = front_at xs i d (omega arith) ∙ ap (λ (n : ℕ). get_or xs i d ∷ drop n (x ∷ xs)) (let e : suc (i + 1) ≡ suc i + 1 = omega arith in e)
