-- Lists at the front of bytes: items of which each is told by its own bytes, one after another.
use Rattle.std.proofs.Common.{◌≡◌, ℕ, ◌+◌, ◌<◌, List, [], ◌∷◌, ◌++◌, length, flat_map, refl, sym, ap, ◌∙◌, arith, append_assoc, append-nil, length-append}
use Rattle.std.specs.List.{AllByRecursion}
use Rattle.std.proofs.lemmas.List.Concat.{flat_map-append}
use Rattle.cc_log.specs.Entries.{AreIn}

module _ {X : Type 0} (Is : X → Type 0) (written : X → List ℕ)
    (unique : (a b : X) (rest other : List ℕ) → Is a → Is b → written a ++ rest ≡ written b ++ other → (a ≡ b) × (rest ≡ other)) where
  first_apart : (a b : X) (xs ys : List X) (rest other : List ℕ) → Is a → Is b → (written a ++ flat_map written xs) ++ rest ≡ (written b ++ flat_map written ys) ++ other →
      (a ≡ b) × (flat_map written xs ++ rest ≡ flat_map written ys ++ other)
  first_apart a b xs ys rest other x y is =
      unique a b (flat_map written xs ++ rest) (flat_map written ys ++ other) x y
      (sym (append_assoc (written a) (flat_map written xs) rest) ∙ is ∙ append_assoc (written b) (flat_map written ys) other)

  -- lists of one length are told by their bytes
  one_row : (xs ys : List X) (rest other : List ℕ) → length xs ≡ length ys → AllByRecursion Is xs → AllByRecursion Is ys →
      flat_map written xs ++ rest ≡ flat_map written ys ++ other → (xs ≡ ys) × (rest ≡ other)
  one_row [] [] rest other same x y is = (refl, is)
  one_row [] (b ∷ ys) rest other same x y is = absurd (omega arith)
  one_row (a ∷ xs) [] rest other same x y is = absurd (omega arith)
  one_row (a ∷ xs) (b ∷ ys) rest other same x y is =
      let first = first_apart a b xs ys rest other x.0 y.0 is in
      let more = one_row xs ys rest other (omega arith) x.1 y.1 first.1 in
      (ap (λ (z : X). z ∷ xs) first.0 ∙ ap (λ (zs : List X). b ∷ zs) more.0, more.1)

  -- behind the front of a list stands its next item
  next_item : (made items : List X) (rest end : List ℕ) → length made < length items → AllByRecursion Is made → AllByRecursion Is items →
      flat_map written made ++ rest ≡ flat_map written items ++ end → (item : X) × (next : List ℕ) × Is item × (rest ≡ written item ++ next)
  next_item made [] rest end less x y is = absurd (omega arith)
  next_item [] (b ∷ items) rest end less x y is =
      (b, flat_map written items ++ end, y.0, is ∙ append_assoc (written b) (flat_map written items) end)
  next_item (a ∷ made) (b ∷ items) rest end less x y is =
      next_item made items rest end (omega arith) x.1 y.1 (first_apart a b made items rest end x.0 y.0 is).1

  pub one_list_in : (count : ℕ) (bytes : List ℕ) (xs ys : List X) (rest other : List ℕ) → AreIn Is written count bytes xs rest → AreIn Is written count bytes ys other →
      (xs ≡ ys) × (rest ≡ other)
  one_list_in count bytes xs ys rest other x y =
      one_row xs ys rest other (x.counted ∙ sym y.counted) x.formed y.formed (sym x.spelled ∙ y.spelled)

  pub no_more : (index count : ℕ) (bytes : List ℕ) (made : List X) (rest : List ℕ) → AreIn Is written index bytes made rest → index < count →
      ((item : X) (next : List ℕ) → Is item → rest ≡ written item ++ next → ⊥) → (items : List X) (end : List ℕ) → AreIn Is written count bytes items end → ⊥
  no_more index count bytes made rest so_far less none items end there =
      let front_count = so_far.counted in
      let all_count = there.counted in
      let (item, next, one, is) = next_item made items rest end (omega arith) so_far.formed there.formed (sym so_far.spelled ∙ there.spelled) in
      none item next one is

-- ---- one more at the end

module _ {X : Type 0} (Is : X → Type 0) (written : X → List ℕ) where
  all_push : (items : List X) (item : X) → AllByRecursion Is items → Is item → AllByRecursion Is (items ++ item ∷ [])
  all_push [] item all one = (one, tt)
  all_push (x ∷ items) item all one = (all.0, all_push items item all.1 one)

  pub one_more_in : (count : ℕ) (bytes : List ℕ) (made : List X) (item : X) (rest next : List ℕ) → AreIn Is written count bytes made rest → Is item → rest ≡ written item ++ next →
      AreIn Is written (count + 1) bytes (made ++ item ∷ []) next
  one_more_in count bytes made item rest next h one is =
      let counted = h.counted in
      let longer = length-append made (item ∷ []) in
      let last : flat_map written (made ++ item ∷ []) ≡ flat_map written made ++ written item =
      flat_map-append written made (item ∷ []) ∙ ap (λ (t : List ℕ). flat_map written made ++ t) (append-nil (written item)) in
      record {
        counted = omega arith;
        formed = all_push made item h.formed one;
        spelled = h.spelled ∙ ap (λ (t : List ℕ). flat_map written made ++ t) is ∙ sym (append_assoc (flat_map written made) (written item) next)
            ∙ ap (λ (t : List ℕ). t ++ next) (sym last);
      }
