-- What is told next keeps a run true.
use Rattle.std.proofs.Common.{◌≡◌, ◌∙◌, ℕ, zero, suc, ◌+◌, ◌<◌, ◌≤◌, ◌⊎◌, inl, inr, List, [], ◌∷◌, ◌++◌, length, map, Option, Some, None, refl, sym, subst, ap, arith, length-append}
use Rattle.std.specs.Prelude.{IfSome, IsNone, unwrap_or}
use Rattle.std.specs.List.{AllByRecursion}
use Rattle.std.proofs.lemmas.List.{map-append}
use Rattle.cc_defs.specs.GroundLaws.{PlainGroundQuery, StandsForQuery}
use Rattle.cc_defs.specs.Histories.{AreFirstOf}
use Rattle.cc_defs.specs.Resolved.{Query}
use Rattle.cc_defs.specs.Runs.{Section, range_of}
use Rattle.cc_general.specs.GeneralRuns.{GeneralEnding, Complete, Asked, NoneAtAll, SpentAmong, SpentOver, GeneralRun, HasNoGeneral, IsFairGeneral, IsShownRightly, IsWanting, MayEndGeneral, Shown, WentThrough, WentThroughAll, general_horizon, rows_shown}
use Rattle.cc_general.proofs.Candidates.{gone_none}
use Rattle.cc_general.proofs.Walking.{all_append}
use Rattle.cc_query.proofs.Rows.{first_none}
use Rattle.cc_rivals.specs.Wides.{candidates_refusal}
use Rattle.cc_wide.specs.WideLaws.{WideDescription, frame}
use Rattle.cc_wide.specs.WideRules.{IsGeneral}

pub none_if : {X : Type 0} (P : X → Type 0) (o : Option X) → IsNone o → IfSome o P
none_if P None is = tt
none_if P (Some x) is = absurd cc

-- the range of the query
pub range_is : (w : WideDescription) (q : Query) (query : PlainGroundQuery) → StandsForQuery query (frame w) q → ((range_of q).0 ≡ query.lo) × ((range_of q).1 ≡ query.hi)
range_is w q query (range, there, made) = (
  ap (λ (o : Option (ℕ × ℕ)). (unwrap_or o (1, 0)).0) there ∙ sym (ap (λ (g : PlainGroundQuery). g.lo) made),
  ap (λ (o : Option (ℕ × ℕ)). (unwrap_or o (1, 0)).1) there ∙ sym (ap (λ (g : PlainGroundQuery). g.hi) made),
)

weaker : (o : Option ℕ) (m n : ℕ) → n ≤ m + 1 → IfSome o (λ most. m < most) → IfSome o (λ most. n ≤ most)
weaker None m n less is = tt
weaker (Some most) m n less is = omega arith

last_or_before : (low at horizon : ℕ) → horizon < low + (at + 1) → (horizon < low + at) ⊎ (low + at ≡ horizon)
last_or_before low at horizon less = by (low + at) horizon (omega arith)
  where
    by : (a b : ℕ) → b < a + 1 → (b < a) ⊎ (a ≡ b)
    by zero zero below = inr refl
    by zero (suc b) below = absurd (omega arith)
    by (suc a) zero below = inl (omega arith)
    by (suc a) (suc b) below = elim (by a b (omega arith)) [ inl less ↦ inl (omega arith) | inr same ↦ inr (ap suc same) ]

pub shown_behind : (run : GeneralRun) (row : List ℕ) (section : Section) → map (λ (shown : Shown). shown.row) (run.shown ++ record { row = row; section = section } ∷ []) ≡ rows_shown run ++ row ∷ []
shown_behind run row section = map-append (λ (shown : Shown). shown.row) run.shown (record { row = row; section = section } ∷ [])

module _ (w : WideDescription) (q : Query) (count : Option ℕ) (budget : ℕ) (run : GeneralRun) (fair : IsFairGeneral w q count budget run) where
  abbrev at : ℕ
  at = general_horizon q run

  pub shows_fair : (row : List ℕ) (section : Section) → IsNone run.ending → at ≤ (range_of q).1 → candidates_refusal w q at ≡ None → IsWanting count run →
      AreFirstOf (IsGeneral w q at) (rows_shown run ++ row ∷ []) →
      (rows : List (List ℕ)) × WentThrough w q at rows (map (λ (shown : Shown). shown.row) (run.shown ++ record { row = row; section = section } ∷ [])) → IsShownRightly w budget at (record { row = row; section = section }) →
      IsFairGeneral w q count budget (record run { shown = run.shown ++ record { row = row; section = section } ∷ [] })
  shows_fair row section open_yet low within wanting first gone shown =
      let one : List Shown = record { row = row; section = section } ∷ [] in
      record {
        claim = fair.claim;
        none = fair.none;
        within = fair.within;
        opened = λ some. (low, within);
        first = subst (AreFirstOf (IsGeneral w q at)) (sym (shown_behind run row section)) first;
        gone = gone;
        each = all_append (IsShownRightly w budget at) run.shown one fair.each (shown, tt);
        asked = weaker count (length run.shown) (length (run.shown ++ one)) (let long = length-append run.shown one in omega arith) wanting;
        ending = none_if _ run.ending open_yet;
      }

  pub passes_fair : IsNone run.ending → run.shown ≡ [] → at ≤ (range_of q).1 → HasNoGeneral w q at → candidates_refusal w q at ≡ None → WentThroughAll w q at [] →
      IsFairGeneral w q count budget (record run { empty = run.empty + 1 })
  passes_fair open_yet none low empty within through =
      record {
        claim = fair.claim;
        none = λ horizon least less. elim (last_or_before (range_of q).0 run.empty horizon less) [
          | inl before ↦ fair.none horizon least before
          | inr same ↦ subst (λ (h : ℕ). HasNoGeneral w q h × (candidates_refusal w q h ≡ None) × WentThroughAll w q h []) same (empty, within, through)
        ];
        within = omega arith;
        opened = λ some. absurd (some none);
        first = subst (λ (shown : List Shown). AreFirstOf (IsGeneral w q ((range_of q).0 + (run.empty + 1))) (map (λ (s : Shown). s.row) shown)) (sym none)
            (first_none (IsGeneral w q ((range_of q).0 + (run.empty + 1))));
        gone = (
          [],
          subst (λ (shown : List Shown). WentThrough w q ((range_of q).0 + (run.empty + 1)) [] (map (λ (s : Shown). s.row) shown)) (sym none)
              (gone_none w q ((range_of q).0 + (run.empty + 1))),
        );
        each = subst (AllByRecursion (IsShownRightly w budget ((range_of q).0 + (run.empty + 1)))) (sym none) tt;
        asked = fair.asked;
        ending = none_if _ run.ending open_yet;
      }

  may_end : (how : GeneralEnding) → MayEndGeneral w q count budget run how → MayEndGeneral w q count budget (record run { ending = Some how }) how
  may_end Complete may = may
  may_end Asked may = may
  may_end NoneAtAll may = may
  may_end (SpentAmong section) may = may
  may_end (SpentOver row section) may = may

  pub ends_fair : (how : GeneralEnding) → MayEndGeneral w q count budget run how → IsFairGeneral w q count budget (record run { ending = Some how })
  ends_fair how may = record {
    claim = fair.claim;
    none = fair.none;
    within = fair.within;
    opened = fair.opened;
    first = fair.first;
    gone = fair.gone;
    each = fair.each;
    asked = fair.asked;
    ending = may_end how may;
  }
