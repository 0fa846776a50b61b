-- Lists of rows in strictly ascending order: what their members decide.
use Rattle.std.proofs.Common.{◌≡◌, ℕ, List, [], ◌∷◌, ◌++◌, ◌⊎◌, ◌↔◌, ◌∙◌, length, zero, suc, refl, sym, subst, ap, arith, length-append, append-nil, inl, inr}
use Rattle.std.specs.List.{Contains}
use Rattle.std.specs.List.Sorted.{IsStrictlySortedBy}
use Rattle.std.specs.declared.cmp.Ordering.{Ordering}
use Rattle.std.specs.declared.cmp.Ordering.TheVariants.{Less, Equal, Greater}
use Rattle.std.proofs.lemmas.Cmp.{nat_list_cmp_total, tied_itself}
use Rattle.std.proofs.lemmas.List.Elements.{All-contains, Contains-get_or, Contains-append_right}
use Rattle.std.proofs.lemmas.Map.Keys.{sorted_tail}
use Rattle.std.proofs.lemmas.Map.Views.{All-after_first}
use Rattle.cc_defs.specs.Rows.{row_cmp, IsBelow}

abbrev pub IsAscending : List (List ℕ) → Type 0
IsAscending rows = IsStrictlySortedBy row_cmp rows

not_below_itself : (row : List ℕ) → IsBelow row row → ⊥
not_below_itself row below = let same = tied_itself nat_list_cmp_total row in cc

below_trans : (a b c : List ℕ) → IsBelow a b → IsBelow b c → IsBelow a c
below_trans a b c ab bc = nat_list_cmp_total.trans a b c ab bc

first_in : (row : List ℕ) (rows : List (List ℕ)) → Contains (row ∷ rows) row
first_in row rows = Contains-get_or (row ∷ rows) 0 row (omega arith)

rest_in : (row : List ℕ) (rows : List (List ℕ)) (x : List ℕ) → Contains rows x → Contains (row ∷ rows) x
rest_in row rows x c = Contains-append_right (row ∷ []) rows x c

none_in_empty : (x : List ℕ) → Contains [] x → ⊥
none_in_empty x (k, below, is) = omega arith

-- a member is the first or one of the rest
in_cases : (row : List ℕ) (rows : List (List ℕ)) (x : List ℕ) → Contains (row ∷ rows) x → (x ≡ row) ⊎ Contains rows x
in_cases row rows x (zero, below, is) = inl (sym is)
in_cases row rows x (suc k, below, is) = inr (k, (omega arith), is)

first_below : (row : List ℕ) (rows : List (List ℕ)) (x : List ℕ) → IsAscending (row ∷ rows) → Contains rows x → IsBelow row x
first_below row rows x ascending c = All-contains (IsBelow row) rows x (All-after_first row_cmp row rows ascending) c

not_in_rest : (row : List ℕ) (rows : List (List ℕ)) (x : List ℕ) → IsAscending (row ∷ rows) → x ≡ row → Contains rows x → ⊥
not_in_rest row rows x ascending same c = not_below_itself row (subst (IsBelow row) same (first_below row rows x ascending c))

-- what is in a list and not its first is in the rest
in_rest : (row : List ℕ) (rows : List (List ℕ)) (x : List ℕ) → (x ≡ row → ⊥) → Contains (row ∷ rows) x → Contains rows x
in_rest row rows x other c = elim (in_cases row rows x c) [ inl same ↦ absurd (other same) | inr rest ↦ rest ]

same_first : (row : List ℕ) (rows : List (List ℕ)) (first : List ℕ) (all : List (List ℕ)) → IsAscending (row ∷ rows) → IsAscending (first ∷ all) →
    ((x : List ℕ) → Contains (row ∷ rows) x → Contains (first ∷ all) x) →
    ((x : List ℕ) → Contains (first ∷ all) x → Contains (row ∷ rows) x ⊎ ((told : List ℕ) → Contains (row ∷ rows) told → IsBelow told x)) →
    row ≡ first
same_first row rows first all rows_ascend all_ascend each others =
    elim (in_cases first all row (each row (first_in row rows))) [
      | inl same ↦ same
      | inr in_all ↦
          let low = first_below first all row all_ascend in_all in
          elim (others first (first_in first all)) [
            | inl told ↦ elim (in_cases row rows first told) [
              | inl same ↦ sym same
              | inr in_rows ↦ absurd (not_below_itself row (below_trans row first row (first_below row rows first rows_ascend in_rows) low))
            ]
            | inr after ↦ absurd (not_below_itself row (below_trans row first row (after row (first_in row rows)) low))
          ]
    ]

later : (row : List ℕ) (rows : List (List ℕ)) (first : List ℕ) (all : List (List ℕ)) → IsAscending (first ∷ all) → row ≡ first → (x : List ℕ) → Contains all x →
    Contains (row ∷ rows) x ⊎ ((told : List ℕ) → Contains (row ∷ rows) told → IsBelow told x) →
    Contains rows x ⊎ ((told : List ℕ) → Contains rows told → IsBelow told x)
later row rows first all all_ascend same x c (inl told) = inl (in_rest row rows x (λ is. not_in_rest first all x all_ascend (is ∙ same) c) told)
later row rows first all all_ascend same x c (inr after) = inr (λ told t. after told (rest_in row rows told t))

-- Ascending rows are a front of an ascending list where each is in the list, and each member of the list is among them or
-- comes after all of them.
pub front : (rows all : List (List ℕ)) → IsAscending rows → IsAscending all →
    ((x : List ℕ) → Contains rows x → Contains all x) →
    ((x : List ℕ) → Contains all x → Contains rows x ⊎ ((told : List ℕ) → Contains rows told → IsBelow told x)) →
    (rest : List (List ℕ)) × (all ≡ rows ++ rest)
front [] all rows_ascend all_ascend each others = (all, refl)
front (row ∷ rows) [] rows_ascend all_ascend each others = absurd (none_in_empty row (each row (first_in row rows)))
front (row ∷ rows) (first ∷ all) rows_ascend all_ascend each others =
    let same = same_first row rows first all rows_ascend all_ascend each others in
    let more = front rows all (sorted_tail row_cmp row rows rows_ascend) (sorted_tail row_cmp first all all_ascend)
    (λ x c. in_rest first all x (λ is. not_in_rest row rows x rows_ascend (is ∙ sym same) c) (each x (rest_in row rows x c)))
    (λ x c. later row rows first all all_ascend same x c (others x (rest_in first all x c))) in
    (more.0, cc (more.1))

no_rest : (one other : List (List ℕ)) → ((rest : List (List ℕ)) × (other ≡ one ++ rest)) → ((rest : List (List ℕ)) × (one ≡ other ++ rest)) → one ≡ other
no_rest one other ([], is) more = sym (is ∙ append-nil one)
no_rest one other (row ∷ rest, is) more =
    absurd (omega (arith, simp length-append at (ap length is), simp length-append at (ap length more.1)))

-- two ascending lists with the same members are one
pub same_members : (one other : List (List ℕ)) → IsAscending one → IsAscending other →
    ((x : List ℕ) → Contains one x ↔ Contains other x) → one ≡ other
same_members one other one_ascends other_ascends same =
    no_rest one other (front one other one_ascends other_ascends (λ x c. (same x).0 c) (λ x c. inl ((same x).1 c)))
    (front other one other_ascends one_ascends (λ x c. (same x).1 c) (λ x c. inl ((same x).0 c)))

is_less : (order : Ordering) → (order ≡ Less) ⊎ (order ≡ Less → ⊥)
is_less Less = inl refl
is_less Equal = inr (λ same. cc)
is_less Greater = inr (λ same. cc)

at_first : (key row : List ℕ) (all above : List (List ℕ)) → IsAscending (row ∷ all) → IsAscending above →
    ((x : List ℕ) → Contains above x ↔ (Contains (row ∷ all) x × IsBelow key x)) →
    ((IsBelow key row → ⊥) → (earlier : List (List ℕ)) × (all ≡ earlier ++ above) × ((x : List ℕ) → Contains earlier x → IsBelow key x → ⊥)) →
    (earlier : List (List ℕ)) × (row ∷ all ≡ earlier ++ above) × ((x : List ℕ) → Contains earlier x → IsBelow key x → ⊥)
at_first key row all above all_ascends above_ascends members rest =
    elim (is_less (row_cmp key row)) [
      | inl below ↦ (
        [],
        same_members (row ∷ all) above all_ascends above_ascends
            (λ x. (
              (λ c. (members x).1 (
                c,
                elim (in_cases row all x c) [
                  | inl is ↦ subst (IsBelow key) (sym is) below
                  | inr in_all ↦ below_trans key row x below (first_below row all x all_ascends in_all)
                ],
              )),
              (λ c. ((members x).0 c).0),
            )),
        λ x c. absurd (none_in_empty x c),
      )
      | inr not_above ↦
          let more = rest not_above in
          (row ∷ more.0, cc (more.1), λ x c. elim (in_cases row more.0 x c) [ inl is ↦ λ below. not_above (subst (IsBelow key) is below) | inr early ↦ more.2 x early ])
    ]

-- An ascending list splits at a key: the members that are not above it, and then the list of those that are.
pub split_at_key : (key : List ℕ) (all above : List (List ℕ)) → IsAscending all → IsAscending above →
    ((x : List ℕ) → Contains above x ↔ (Contains all x × IsBelow key x)) →
    (earlier : List (List ℕ)) × (all ≡ earlier ++ above) × ((x : List ℕ) → Contains earlier x → IsBelow key x → ⊥)
split_at_key key [] [] all_ascends above_ascends members = ([], refl, λ x c. absurd (none_in_empty x c))
split_at_key key [] (row ∷ above) all_ascends above_ascends members = absurd (none_in_empty row ((members row).0 (first_in row above)).0)
split_at_key key (row ∷ all) above all_ascends above_ascends members =
    at_first key row all above all_ascends above_ascends members
    (λ not_above. split_at_key key all above (sorted_tail row_cmp row all all_ascends) above_ascends
    (λ x. (
      (λ c. (in_rest row all x (λ is. not_above (subst (IsBelow key) is ((members x).0 c).1)) ((members x).0 c).0, ((members x).0 c).1)),
      (λ h. (members x).1 (rest_in row all x h.0, h.1)),
    )))
