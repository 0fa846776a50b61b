-- The lines of a section, up to the next heading.
use Rattle.std.proofs.Common.{◌≡◌, ℕ, ◌+◌, ◌-◌, ◌<◌, ◌≤◌, List, [], ◌∷◌, ◌++◌, length, take, Some, None, refl, sym, ap, subst, ◌∙◌, arith, append_assoc, append-nil, length-append, inl, inr, ◌⊎◌}
use Rattle.std.specs.Borrow.{Bor}
use Rattle.std.specs.List.{AllByRecursion}
use Rattle.std.proofs.lemmas.List.{take_at, nil_from_length}
use Rattle.cc_defs.specs.declared.log.LogLine.TheVariants as lines
use Rattle.cc_defs.specs.declared.log.Version.{Version}
use Rattle.cc_defs.specs.LogBytes.{IsSpelled}
use Rattle.cc_defs.specs.Logs.{IsNoHeading}
use Rattle.cc_check.specs.declared.line.Heading.{Heading}
use Rattle.cc_check.specs.Parts.{IsInside}
use Rattle.cc_check.specs.Texts.{AreTexts, EndsTexts, IsFirstText}
use Rattle.cc_check.proofs.FirstTexts.{none_of, one_more}

-- ---- the texts up to a heading

pub record InsideSoFar (version : Version) (No : List ℕ → Type 0) (all rest : List ℕ) (count : ℕ) : Type 0 where
  pub before : List ℕ
  pub texts : List (List ℕ)
  pub parts : all ≡ before ++ rest
  pub whole : ((rest ≡ []) × AreTexts version all texts) ⊎ EndsTexts version before texts
  pub none : AllByRecursion No texts
  pub counted : count ≡ length texts
  pub few : count + length rest ≤ length all

pub inside_begun : (version : Version) (No : List ℕ → Type 0) (all : List ℕ) → InsideSoFar version No all all 0
inside_begun version No all = record {
  before = [];
  texts = [];
  parts = refl;
  whole = inr (λ behind more are. are);
  none = tt;
  counted = refl;
  few = omega arith;
}

ends_both : (version : Version) (a b : List ℕ) (x y : List (List ℕ)) → EndsTexts version a x → EndsTexts version b y → EndsTexts version (a ++ b) (x ++ y)
ends_both version a b x y ends_a ends_b behind more are =
    subst (λ (t : List ℕ). AreTexts version t ((x ++ y) ++ more)) (sym (append_assoc a b behind))
    (subst (λ (ts : List (List ℕ)). AreTexts version (a ++ (b ++ behind)) ts) (sym (append_assoc x y more))
    (ends_a (b ++ behind) (y ++ more) (ends_b behind more are)))

none_push : (No : List ℕ → Type 0) (texts : List (List ℕ)) (text : List ℕ) → AllByRecursion No texts → No text → AllByRecursion No (texts ++ text ∷ [])
none_push No [] text all one = (one, tt)
none_push No (first ∷ texts) text all one = (all.0, none_push No texts text all.1 one)

some_left : (rest : List ℕ) → (rest ≡ []) → 0 < length rest → ⊥
some_left rest is some = let nil : length rest ≡ 0 = ap length is in omega arith

module _ (version : Version) (No : List ℕ → Type 0) (all rest : List ℕ) (count : ℕ) (h : InsideSoFar version No all rest count) where
  pub before_ends : 0 < length rest → EndsTexts version h.before h.texts
  before_ends some = elim h.whole [ inl (nil, are) ↦ absurd (some_left rest nil some) | inr ends ↦ ends ]

  -- what is behind, and what stands in front of it
  pub joined : 0 < length rest → (more : List (List ℕ)) → AreTexts version rest more → AreTexts version all (h.texts ++ more)
  joined some more are = subst (λ (t : List ℕ). AreTexts version t (h.texts ++ more)) (sym h.parts) (before_ends some rest more are)

  ended : EndsTexts version h.before h.texts → AreTexts version h.before h.texts
  ended ends =
      subst (λ (t : List ℕ). AreTexts version t h.texts) (append-nil h.before)
      (subst (λ (ts : List (List ℕ)). AreTexts version (h.before ++ []) ts) (append-nil h.texts) (ends [] [] (none_of version)))

  pub before_are : 0 < length rest → AreTexts version h.before h.texts
  before_are some = ended (before_ends some)

  pub all_are : length rest ≡ 0 → AreTexts version all h.texts
  all_are nil = elim h.whole [
    | inl (none, are) ↦ are
    | inr ends ↦
        subst (λ (t : List ℕ). AreTexts version t h.texts)
        (sym (h.parts ∙ ap (λ (t : List ℕ). h.before ++ t) (nil_from_length rest nil) ∙ append-nil h.before)) (ended ends)
  ]

  pub before_is : (inside : List ℕ) → inside ≡ take (length all - length rest) all → inside ≡ h.before
  before_is inside front =
      let whole = ap length h.parts ∙ length-append h.before rest in
      let n : length h.before ≡ length all - length rest = omega arith in
      front ∙ ap (take (length all - length rest)) h.parts ∙ take_at h.before rest (length all - length rest) n

  module _ (text behind : List ℕ) (some : 0 < length rest) (cut : IsFirstText version rest text behind) where
    pub inside_more : No text → InsideSoFar version No all behind (count + 1)
    inside_more no_heading =
        let e = ap length cut.parts ∙ length-append text behind in
        let f = cut.some in
        let g = h.few in
        let c = h.counted in
        record {
          before = h.before ++ text;
          texts = h.texts ++ text ∷ [];
          parts = h.parts ∙ ap (λ (t : List ℕ). h.before ++ t) cut.parts ∙ sym (append_assoc h.before text behind);
          whole = elim cut.whole [
            | inl (nil, are) ↦ inl (nil, joined some (text ∷ []) are)
            | inr more ↦ inr (ends_both version h.before text h.texts (text ∷ []) (before_ends some) more)
          ];
          none = none_push No h.texts text h.none no_heading;
          counted = let l = length-append h.texts (text ∷ []) in omega arith;
          few = omega arith;
        }

pub cut_some : (version : Version) (rest text behind : List ℕ) → IsFirstText version rest text behind → 0 < length rest
cut_some version rest text behind cut = let e = ap length cut.parts ∙ length-append text behind in let f = cut.some in omega arith

module _ (version : Version) (all rest : List ℕ) (count : ℕ) (h : InsideSoFar version (IsNoHeading version) all rest count) where
  pub inside_at : (text behind inside : List ℕ) (heading : Heading) (next : Bor (List ℕ)) → IsFirstText version rest text behind →
      IsSpelled version text (lines.Section heading.conditions heading.horizon) → inside ≡ take (length all - length rest) all → next.now ≡ behind →
      IsInside version all inside count (Some (heading, next))
  inside_at text behind inside heading next cut is front same =
      let some = cut_some version rest text behind cut in
      let e = ap length cut.parts ∙ length-append text behind in
      let f = cut.some in
      let g = h.few in
      let whole = ap length h.parts ∙ length-append h.before rest in
      subst (λ (i : List ℕ). IsInside version all i count (Some (heading, next))) (sym (before_is version (IsNoHeading version) all rest count h inside front)) (record {
        texts = h.texts;
        are = before_are version (IsNoHeading version) all rest count h some;
        none = h.none;
        counted = h.counted;
        few = omega arith;
        parted = (
          text,
          is,
          λ more are.
              joined version (IsNoHeading version) all rest count h some (text ∷ more)
              (one_more version rest text behind cut more (subst (λ (t : List ℕ). AreTexts version t more) same are)),
        );
        fewer = let s = ap length same in omega arith;
      })

  pub inside_all : length rest ≡ 0 → IsInside version all all count None
  inside_all nil =
      let g = h.few in
      record {
        texts = h.texts;
        are = all_are version (IsNoHeading version) all rest count h nil;
        none = h.none;
        counted = h.counted;
        few = omega arith;
        parted = refl;
        fewer = omega arith;
      }
