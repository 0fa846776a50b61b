-- Lists of items with a mark between them: the steps of a loop that reads them.
use Rattle.std.proofs.Common.{◌≡◌, ℕ, zero, suc, ◌-◌, ◌<◌, List, [], ◌∷◌, ◌++◌, drop, map, Some, None, Result, Err, refl, ap, ◌∙◌, arith}
use Rattle.std.proofs.lemmas.List.{map-append}
use Rattle.std.specs.Result.{IsErrAnd}
use Rattle.cc_defs.specs.declared.token.Mark.{Mark}
use Rattle.cc_defs.specs.declared.token.Token.{Token}
use Rattle.cc_defs.specs.Grammar.{Terminal}
use Rattle.cc_syntax.specs.declared.stop.Stop.{Stop}
use Rattle.cc_syntax.specs.Readers.{Reader, sign_at, listed_from, listed_at}
use Rattle.cc_syntax.specs.Views.{seen, Reads, Passes}
use Rattle.cc_syntax.proofs.Stops.{stopped, no-tree, not-passed}

-- the list behind the place is what was found, and what is left to read of it: so many items at most
pub record IsListedFrom {T X : Type 0} (view : T → X) (item : Reader X) (mark : Mark) (tokens : List Token) (at left : ℕ) (items : List T) (next : ℕ) : Type 0 where
  pub whole : listed_at item mark (drop at (seen tokens)) ≡ listed_from item mark left (map view items) (drop next (seen tokens))

pub listed-none : {X : Type 0} (item : Reader X) (mark : Mark) (n : ℕ) (found : List X) (tokens : List Terminal) →
    item tokens ≡ None → listed_from item mark n found tokens ≡ None
unfolding listed_from
listed-none item mark zero found tokens e = refl
listed-none item mark (suc n) found tokens e = rw e

pub listed-empty : {X : Type 0} (item : Reader X) (mark : Mark) (n : ℕ) (found : List X) (tokens : List Terminal) →
    n ≡ 0 → listed_from item mark n found tokens ≡ None
unfolding listed_from
listed-empty item mark n found tokens e = rw e

pub ruleset listed_steps = (listed-none, listed-empty)

-- where no item is read there is no list
pub listed-stopped : {T X Y : Type 0} {view : T → X} {item : Reader X} {mark : Mark} {tokens : List Token} {at left next : ℕ} {items : List T}
    (read : Y → List X) (result : Result (Y × ℕ) Stop) (stop : Stop) → IsListedFrom view item mark tokens at left items next →
    IsErrAnd result (λ other. other ≡ stop) → Reads view tokens (Err stop) (item (drop next (seen tokens))) →
    Reads read tokens result (listed_at item mark (drop at (seen tokens)))
listed-stopped {T} {X} {Y} {view} {item} {mark} {tokens} {at} {left} {next} {items} read result stop so_far is no_item =
    stopped read tokens result stop _ is (λ e. so_far.whole ∙ listed-none item mark left (map view items) _ (no-tree view tokens stop _ no_item e))

listed-last : {X : Type 0} (item : Reader X) (mark : Mark) (n : ℕ) (found : List X) (tokens rest : List Terminal) (x : X) →
    0 < n → item tokens ≡ Some (x, rest) → sign_at mark rest ≡ None → listed_from item mark n found tokens ≡ Some (found ++ x ∷ [], rest)
unfolding listed_from
listed-last item mark zero found tokens rest x h e f = absurd (omega (arith, h))
listed-last item mark (suc n) found tokens rest x h e f = rw (e, f)

listed-more : {X : Type 0} (item : Reader X) (mark : Mark) (n : ℕ) (found : List X) (tokens rest behind : List Terminal) (x : X) →
    0 < n → item tokens ≡ Some (x, rest) → sign_at mark rest ≡ Some behind →
    listed_from item mark n found tokens ≡ listed_from item mark (n - 1) (found ++ x ∷ []) behind
unfolding listed_from
listed-more item mark zero found tokens rest behind x h e f = absurd (omega (arith, h))
listed-more item mark (suc n) found tokens rest behind x h e f = rw (e, f) (ap (λ m. listed_from item mark m (found ++ x ∷ []) behind) (omega arith))

module _ {T X : Type 0} {view : T → X} {item : Reader X} {mark : Mark} {tokens : List Token} {at left next : ℕ} {items pushed : List T} {x : T} where
  -- an item without the mark behind it ends the list
  pub listed-ended : (after : ℕ) (stop : Stop) →
      IsListedFrom view item mark tokens at left items next → 0 < left → pushed ≡ items ++ x ∷ [] →
      item (drop next (seen tokens)) ≡ Some (view x, drop after (seen tokens)) →
      Passes tokens (Err stop) (sign_at mark (drop after (seen tokens))) →
      listed_at item mark (drop at (seen tokens)) ≡ Some (map view pushed, drop after (seen tokens))
  listed-ended after stop so_far more is_pushed is_item no_mark =
      so_far.whole
      ∙ listed-last item mark left (map view items) (drop next (seen tokens)) (drop after (seen tokens)) (view x) more is_item (not-passed tokens stop _ no_mark)
      ∙ rw (is_pushed, map-append)

  -- an item with the mark behind it goes on with the list
  pub listed-continued : (after behind : ℕ) {fewer : ℕ} →
      IsListedFrom view item mark tokens at left items next → 0 < left → fewer ≡ left - 1 → pushed ≡ items ++ x ∷ [] →
      item (drop next (seen tokens)) ≡ Some (view x, drop after (seen tokens)) →
      sign_at mark (drop after (seen tokens)) ≡ Some (drop behind (seen tokens)) →
      IsListedFrom view item mark tokens at fewer pushed behind
  listed-continued after behind so_far more is_fewer is_pushed is_item is_mark = record {
    whole =
        so_far.whole
        ∙ listed-more item mark left (map view items) (drop next (seen tokens)) (drop after (seen tokens)) (drop behind (seen tokens)) (view x) more is_item is_mark
        ∙ rw (is_pushed, map-append, is_fewer);
  }
