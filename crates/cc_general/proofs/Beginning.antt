-- A run that has told nothing.
use Rattle.std.proofs.Common.{◌≡◌, ℕ, ◌+◌, ◌≤◌, [], Option, Some, None, refl, sym, subst, ap, arith}
use Rattle.std.specs.Prelude.{IfSome, IsNone}
use Rattle.std.specs.Option.{option_map}
use Rattle.cc_defs.specs.GroundLaws.{PlainGroundQuery}
use Rattle.cc_defs.specs.Resolved.{Query}
use Rattle.cc_defs.specs.Runs.{range_of}
use Rattle.cc_general.specs.declared.phase.Phase.TheVariants as phases
use Rattle.cc_general.specs.Generals.{Awaits, GeneralView, IsGeneralOf, Stands, nothing_told}
use Rattle.cc_general.proofs.Candidates.{gone_none}
use Rattle.cc_general.proofs.Fairness.{range_is}
use Rattle.cc_query.proofs.Rows.{first_none}
use Rattle.cc_wide.specs.WideLaws.{WideDescription}
use Rattle.cc_wide.specs.WideRules.{IsGeneral}

pub mapped : {X Y : Type 0} (f : X → Y) (o : Option X) → IsNone o → IsNone (option_map f o)
mapped f None is = refl
mapped f (Some x) is = absurd cc

unmapped : {X Y : Type 0} (f : X → Y) (o : Option X) → IsNone (option_map f o) → IsNone o
unmapped f None is = refl
unmapped f (Some x) is = absurd cc

none_asked : (o : Option ℕ) → IfSome o (λ most. 1 ≤ most) → IfSome o (λ most. 0 ≤ most)
none_asked None is = tt
none_asked (Some most) is = omega arith

pub new_stands : (now : GeneralView) → now.horizon ≡ now.query.lo → now.query.lo ≤ now.query.hi → IsNone now.query.claim → IfSome now.count (λ most. 1 ≤ most) → now.listed ≡ 0 →
    now.phase ≡ phases.Opening → (w : WideDescription) (q : Query) → IsGeneralOf now w q → Stands w q now nothing_told
new_stands now horizon ordered claim count listed phase w q of =
    let range = range_is w q now.query of.query in let lo = range.0 in let hi = range.1 in
    record {
      fair = record {
        claim = unmapped _ q.claim (subst IsNone (ap (λ (g : PlainGroundQuery). g.claim) of.query.2) claim);
        none = λ other least less. absurd (omega arith);
        within = omega arith;
        opened = λ some. absurd (some refl);
        first = first_none (IsGeneral w q ((range_of q).0 + 0));
        gone = ([], gone_none w q ((range_of q).0 + 0));
        each = tt;
        asked = none_asked now.count count;
        ending = tt;
      };
      horizon = (let e : now.horizon ≡ (range_of q).0 + 0 = omega arith in e);
      listed = listed;
      awaits = subst (Awaits w q now nothing_told) (sym phase) (refl, refl);
    }
