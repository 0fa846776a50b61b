-- The last long clause is covered, and its nodes are taken out: the fit stays.
use Rattle.std.proofs.Common.{◌≡◌, ◌∙◌, ℕ, ◌+◌, ◌-◌, ◌*◌, ◌/◌, ◌<◌, inl, inr, List, [], ◌∷◌, ◌++◌, length, get_or, take, sym, subst, ap, arith}
use Rattle.std.specs.Prelude.{◌⊎◌, Contains}
use Rattle.std.proofs.lemmas.List.{get_or-take, length-take-le, take-take, take_more, take_all}
use Rattle.cc_defs.specs.Clauses.{Literal, opposite, IsNumbered, IsIn}
use Rattle.cc_trail.specs.Links.{no_literal, watched_at}
use Rattle.cc_trail.specs.Watches.{partner}
use Rattle.cc_trail.specs.Trails.{TrailView, FitsClauses, IsCovered, IsLastCovered, number_of, without_last}
use Rattle.cc_trail.proofs.StepLists.{in_push}
use Rattle.cc_trail.proofs.Attaching.{partner_below, half_below}

pub last_covered : (clauses : List (List Literal)) (trail : TrailView) (longs : List ℕ) → longs ≡ trail.longs → (number id : ℕ) →
    (0 < length longs) × ((d : ℕ) → number ≡ get_or longs (length longs - 1) d) → number < id → (clause part : List Literal) →
    IsNumbered clauses number clause → IsNumbered clauses id part → ((literal : Literal) → Contains part literal → Contains clause literal) →
    IsLastCovered clauses trail
last_covered clauses trail longs is number id last later clause part numbered part_numbered within = record {
  some = subst (λ (ns : List ℕ). 0 < length ns) is last.0;
  covered = subst (λ (n : ℕ). IsCovered clauses n) (last.1 0 ∙ ap (λ (ns : List ℕ). get_or ns (length ns - 1) 0) is)
      (id, later, clause, part, numbered, part_numbered, within);
}

-- what is in a list is the last one, or before it
in_front : (xs : List ℕ) (x : ℕ) → 0 < length xs → IsIn xs x → IsIn (take (length xs - 1) xs) x ⊎ (get_or xs (length xs - 1) 0 ≡ x)
in_front xs x some here = in_push (take (length xs - 1) xs) (get_or xs (length xs - 1) 0) x (subst (λ (ys : List ℕ). IsIn ys x) whole here)
  where
    whole : xs ≡ take (length xs - 1) xs ++ get_or xs (length xs - 1) 0 ∷ []
    whole = sym (take_all (length xs - 1 + 1) xs (omega arith)) ∙ take_more xs (length xs - 1) 0 (omega arith)

module _ (trail : TrailView) (clauses : List (List Literal)) (fits : FitsClauses trail clauses) (last : IsLastCovered clauses trail)
    (nodes : length trail.watched ≡ 2 * length trail.longs) where
  low_of : (node : ℕ) → node < length (take (length trail.watched - 2) trail.watched) → (node < 2 * (length trail.longs - 1)) × (node < length trail.watched - 2)
  low_of node within =
      let some = last.some in
      let count : length (take (length trail.watched - 2) trail.watched) ≡ length trail.watched - 2 = length-take-le (length trail.watched - 2) trail.watched (omega arith) in
      ((omega arith), omega arith)

  same_at : (node : ℕ) → node < length trail.watched - 2 → watched_at (take (length trail.watched - 2) trail.watched) node ≡ watched_at trail.watched node
  same_at node low = get_or-take (length trail.watched - 2) trail.watched node no_literal low

  same_partner : (node : ℕ) → node < 2 * (length trail.longs - 1) →
      watched_at (take (length trail.watched - 2) trail.watched) (partner node) ≡ watched_at trail.watched (partner node)
  same_partner node low =
      let below : partner node < 2 * (length trail.longs - 1) = partner_below node (length trail.longs - 1) low in
      same_at (partner node) (omega (arith, below))

  same_number : (node : ℕ) → node < 2 * (length trail.longs - 1) → number_of (take (length trail.longs - 1) trail.longs) node ≡ number_of trail.longs node
  same_number node low = get_or-take (length trail.longs - 1) trail.longs (node / 2) 0 (half_below node (length trail.longs - 1) low)

  pub fits_without : FitsClauses (without_last trail) clauses
  fits_without = record {
    attached = fits.attached;
    reasons = fits.reasons;
    shorts = fits.shorts;
    met_few = fits.met_few;
    met = fits.met;
    longs = λ node within.
        let low = low_of node within in
        let watches = fits.longs node (omega (arith, low.1)) in
        record {
          clause = watches.clause;
          numbered = rw (same_number node (low.0)) watches.numbered;
          here = rw (same_at node (low.1)) watches.here;
          there = rw (same_partner node (low.0)) watches.there;
          apart = rw (same_at node (low.1), same_partner node (low.0)) watches.apart;
        };
    pairs = fits.pairs;
    each = λ number some few. elim (fits.each number some few) [
      | inl short ↦ inl short
      | inr (inl long) ↦ elim (in_front trail.longs number last.some long) [
        | inl before ↦ inr (inl before)
        | inr is ↦ inr (inr (inr (subst (λ (n : ℕ). IsCovered clauses n) is last.covered)))
      ]
      | inr (inr other) ↦ inr (inr other)
    ];
    watches = λ node within step here is.
        let low = low_of node within in
        rw (same_partner node (low.0)) (fits.watches node (omega (arith, low.1)) step here (is ∙ ap opposite (same_at node (low.1))));
    followed = fits.followed;
  }

-- all but the last of all but the last
pub taken_twice : {X : Type 0} (xs : List X) → take (length (take (length xs - 1) xs) - 1) (take (length xs - 1) xs) ≡ take (length xs - 2) xs
taken_twice xs =
    let shorter = length-take-le (length xs - 1) xs (omega arith) in
    let fewer : length (take (length xs - 1) xs) - 1 ≡ length xs - 2 = omega arith in
    ap (λ (n : ℕ). take n (take (length xs - 1) xs)) fewer ∙ take-take (length xs - 2) (length xs - 1) xs (omega arith)
