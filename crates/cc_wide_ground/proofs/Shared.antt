-- The laws by which shares are grounded, as they are made.
use Rattle.std.proofs.Common.{◌≡◌, ◌∙◌, ℕ, List, Option, refl, ap}
use Rattle.std.specs.Option.{option_map}
use Rattle.cc_defs.specs.declared.formula.Formula.{Formula as KeptFormula}
use Rattle.cc_defs.specs.declared.law.Head.{Head as KeptHead}
use Rattle.cc_defs.specs.declared.law.Range.{Range}
use Rattle.cc_defs.specs.Resolved.{Formula, Head, Law, plain_formula, plain_head}
use Rattle.cc_defs.specs.Resolved as resolved
use Rattle.cc_wide.specs.declared.law.WideLaw.{WideLaw as KeptLaw}
use Rattle.cc_wide.specs.WideLaws.{NoConcurrency, One, WideLaw, atom_head, plain_wide_law}
use Rattle.cc_wide_ground.specs.declared.bases.Share.{Share}
use Rattle.cc_wide_ground.specs.declared.bases.Share.TheVariants as shares
use Rattle.cc_wide_ground.specs.Shares.{base_by, law_by}

pub none_by : (share : Share) (file line : ℕ) → resolved.NoConcurrency file line ≡ base_by share (NoConcurrency file line)
none_by shares.Parts file line = refl
none_by shares.Head file line = refl

pub one_by : (share : Share) (law : WideLaw) → resolved.One (law_by share law) ≡ base_by share (One law)
one_by shares.Parts law = refl
one_by shares.Head law = refl

module _ (share : Share) (law : KeptLaw) where
  abbrev made_of : List Range → Head → Formula → Option Formula → Formula → Law
  made_of ranges head body after test = record { ranges = ranges; head = head; body = body; after = after; test = test; kind = law.kind; file = law.file; line = law.line }

  whole : (s : Share) → made_of law.ranges (atom_head (plain_formula law.head)) (law_by s (plain_wide_law law)).body (law_by s (plain_wide_law law)).after (plain_formula law.test) ≡ law_by s (plain_wide_law law)
  whole shares.Parts = refl
  whole shares.Head = refl

  pub law_made : (ranges : List Range) (head : KeptHead) (body : KeptFormula) (after : Option KeptFormula) (test : KeptFormula) → ranges ≡ law.ranges → plain_head head ≡ atom_head (plain_formula law.head) →
      plain_formula body ≡ (law_by share (plain_wide_law law)).body → option_map plain_formula after ≡ (law_by share (plain_wide_law law)).after → plain_formula test ≡ plain_formula law.test →
      made_of ranges (plain_head head) (plain_formula body) (option_map plain_formula after) (plain_formula test) ≡ law_by share (plain_wide_law law)
  law_made ranges head body after test r h b a t =
      let l = law_by share (plain_wide_law law) in
      ap (λ (x : List Range). made_of x (plain_head head) (plain_formula body) (option_map plain_formula after) (plain_formula test)) r
      ∙ ap (λ (x : Head). made_of law.ranges x (plain_formula body) (option_map plain_formula after) (plain_formula test)) h
      ∙ ap (λ (x : Formula). made_of law.ranges (atom_head (plain_formula law.head)) x (option_map plain_formula after) (plain_formula test)) b
      ∙ ap (λ (x : Option Formula). made_of law.ranges (atom_head (plain_formula law.head)) l.body x (plain_formula test)) a
      ∙ ap (made_of law.ranges (atom_head (plain_formula law.head)) l.body l.after) t ∙ whole share
