-- The sections that are ahead: how many they are, and the one at a place.
use Rattle.std.proofs.Common.{◌≡◌, ◌∙◌, ℕ, ◌+◌, ◌<◌, ◌≤◌, List, [], ◌∷◌, ◌++◌, Option, Some, None, IfSome, length, refl, sym, ap, subst, arith, length-append, append-nil}
use Rattle.std.specs.Prelude.{slice_get}
use Rattle.cc_defs.specs.Logs.{SectionText}
use Rattle.cc_check.specs.declared.sections.Section.{Section}
use Rattle.cc_check.specs.SectionTexts.{SectionsAhead, AreAhead, HasAhead, IsAheadAt, IsAheadBehind, length_ahead}

-- So many of the sections that were ahead were read, and the others are ahead.
pub record IsReadTo (begun rest : SectionsAhead) (count : ℕ) : Type 0 where
  pub parted : (all : List SectionText) → AreAhead begun all →
      (front : List SectionText) × (left : List SectionText) × (all ≡ front ++ left) × (length front ≡ count) × AreAhead rest left
  pub few : count + length_ahead rest ≤ length_ahead begun

pub none_read : (begun rest : SectionsAhead) → rest ≡ begun → IsReadTo begun rest 0
none_read begun rest same = record {
  parted = λ all are. ([], all, refl, refl, subst (λ (ahead : SectionsAhead). AreAhead ahead all) (sym same) are);
  few = let e = ap length_ahead same in omega arith;
}

-- what is ahead of one is ahead of the same
pub there : (again begun : SectionsAhead) → again ≡ begun → ((all : List SectionText) × AreAhead again all) → (all : List SectionText) × AreAhead begun all
there again begun same (all, are) = (all, subst (λ (ahead : SectionsAhead). AreAhead ahead all) same are)

regroup : {X : Type 0} (front : List X) (x : X) (others : List X) → front ++ x ∷ others ≡ (front ++ x ∷ []) ++ others
regroup [] x others = refl
regroup (y ∷ front) x others = ap (λ l. y ∷ l) (regroup front x others)

at_place : {X : Type 0} (front : List X) (x : X) (others : List X) → slice_get (front ++ x ∷ others) (length front) ≡ Some x
at_place [] x others = refl
at_place (y ∷ front) x others = at_place front x others

module _ (begun rest : SectionsAhead) (count : ℕ) (read : IsReadTo begun rest count) (new : SectionsAhead) where
  pub one_read : (section : Section) → ((all : List SectionText) → AreAhead rest all → IsAheadBehind all (Some section) new) → length_ahead new < length_ahead rest →
      IsReadTo begun new (count + 1)
  one_read section next_is shorter = record {
    parted = λ all are. (
        let (front, left, parts, long, ahead) = read.parted all are in
        let (text, others, same, is, behind) = next_is left ahead in (
          front ++ text ∷ [],
          others,
          parts ∙ ap (λ (l : List SectionText). front ++ l) same ∙ regroup front text others,
          length-append front (text ∷ []) ∙ ap (λ (n : ℕ). n + 1) long,
          behind,
        ));
    few = let few = read.few in omega arith;
  }

  pub all_read : ((all : List SectionText) → AreAhead rest all → IsAheadBehind all None new) → (all : List SectionText) → AreAhead begun all → count ≡ length all
  all_read next_is all are =
      let (front, left, parts, long, ahead) = read.parted all are in
      sym long ∙ ap length (sym (append-nil front) ∙ ap (λ (l : List SectionText). front ++ l) (sym (next_is left ahead)) ∙ sym parts)

  module _ (place : ℕ) (has : HasAhead begun place) where
    -- where a section at this place is ahead, one comes next up to there
    pub one_comes : ((all : List SectionText) × AreAhead begun all) → ((all : List SectionText) → AreAhead rest all → IsAheadBehind all None new) → count ≤ place → ⊥
    one_comes (all, are) next_is most = let same = all_read next_is all are in let less = has all are in omega arith

    pub read_on : ((all : List SectionText) × AreAhead begun all) → count < place → (next : Option Section) → ((all : List SectionText) → AreAhead rest all → IsAheadBehind all next new) →
        IfSome next (λ section. length_ahead new < length_ahead rest) → IsReadTo begun new (count + 1)
    read_on there less None next_is shorter = absurd (one_comes there next_is (omega arith))
    read_on there less (Some section) next_is shorter = one_read section next_is shorter

  section_at : (section : Section) → ((all : List SectionText) → AreAhead rest all → IsAheadBehind all (Some section) new) → (all : List SectionText) → AreAhead begun all →
      IsAheadAt all count section
  section_at section next_is all are =
      let (front, left, parts, long, ahead) = read.parted all are in
      let (text, others, same, is, behind) = next_is left ahead in
      let whole : all ≡ front ++ text ∷ others = parts ∙ ap (λ (l : List SectionText). front ++ l) same in (
        text,
        subst (λ (n : ℕ). slice_get all n ≡ Some text) long (subst (λ (l : List SectionText). slice_get l (length front) ≡ Some text) (sym whole) (at_place front text others)),
        is,
      )

  pub section_there : (place : ℕ) → count ≡ place → (section : Section) → ((all : List SectionText) → AreAhead rest all → IsAheadBehind all (Some section) new) →
      (all : List SectionText) → AreAhead begun all → IsAheadAt all place section
  section_there place same section next_is all are = subst (λ (n : ℕ). IsAheadAt all n section) same (section_at section next_is all are)
