-- What comes next in the loops over laws, steps, fluents and values.
use Rattle.std.proofs.Common.{Bor, ◌≡◌, ◌∙◌, ℕ, zero, suc, ◌+◌, ◌%◌, ◌<◌, ◌≤◌, inl, inr, ◌⊎◌, List, [], ◌∷◌, ◌++◌, length, length-append, map, flat_map, drop, get_or, slice_get, Some, None, refl, sym, ap, subst, arith, option_map}
use Rattle.std.specs.List.{AllByRecursion}
use Rattle.std.proofs.lemmas.Bool.{cases_lt}
use Rattle.std.proofs.lemmas.List.{drop_all, drop_more}
use Rattle.std.proofs.lemmas.Option.{slice_get-map}
use Rattle.cc_defs.specs.declared.node.Node.{Node}
use Rattle.cc_defs.specs.declared.node.Node.TheVariants as nodes
use Rattle.cc_defs.specs.declared.signature.Const.{Const}
use Rattle.cc_defs.specs.declared.signature.Kind.{Kind}
use Rattle.cc_defs.specs.declared.signature.Kind.TheVariants as kinds
use Rattle.cc_defs.specs.declared.signature.LawKind.TheVariants as law_kinds
use Rattle.cc_defs.specs.Description.{domain_sizes}
use Rattle.cc_defs.specs.Rules.{upto}
use Rattle.cc_defs.specs.Terms.{Fits}
use Rattle.cc_defs.specs.Terms as terms
use Rattle.cc_form.specs.Machine.{moved_nodes}
use Rattle.cc_rivals.specs.Making.{IsPlacedOver, initial_value, placed_at, rules_at_step, rules_in}
use Rattle.cc_rivals.proofs.Counts.{front_behind, length_upto, own_size}
use Rattle.cc_rivals.proofs.Stances.{front}
use Rattle.cc_wide.specs.declared.ground.WideGroundLaw.{WideGroundLaw}
use Rattle.cc_wide.specs.WideLists.{WideTimed, all_initial_wide, initial_wide}

abbrev pub no_nodes : Bor (List Node)
no_nodes = record { ref_ptr = (0, 0); now = [] }

abbrev pub no_law : WideGroundLaw
no_law = record { head = no_nodes; body = no_nodes; after = None; kind = law_kinds.Static; base = 0 }

-- ---- numbers in order

get_front : (xs ys : List ℕ) (i : ℕ) → i < length xs → get_or (xs ++ ys) i 0 ≡ get_or xs i 0
get_front [] ys i less = absurd (omega arith)
get_front (x ∷ xs) ys zero less = refl
get_front (x ∷ xs) ys (suc i) less = get_front xs ys i (omega arith)

get_last : (xs : List ℕ) (x : ℕ) → get_or (xs ++ x ∷ []) (length xs) 0 ≡ x
get_last [] x = refl
get_last (y ∷ xs) x = get_last xs x

get_upto : (n i : ℕ) → i < n → get_or (upto n) i 0 ≡ i
get_upto zero i less = absurd (omega arith)
get_upto (suc n) i less = elim (cases_lt i n) [
  | inl below ↦ get_front (upto n) (n ∷ []) i (let long = length_upto n in omega arith) ∙ get_upto n i below
  | inr above ↦
      let same : i ≡ n = omega arith in
      let last : get_or (upto n ++ n ∷ []) n 0 ≡ n = subst (λ (k : ℕ). get_or (upto n ++ n ∷ []) k 0 ≡ n) (length_upto n) (get_last (upto n) n) in
      ap (λ (k : ℕ). get_or (upto n ++ n ∷ []) k 0) same ∙ last ∙ sym same
]

pub upto_next : (n i : ℕ) → i < n → drop i (upto n) ≡ i ∷ drop (i + 1) (upto n)
upto_next n i less = drop_more (upto n) i 0 (let long = length_upto n in omega arith) ∙ ap (λ (k : ℕ). k ∷ drop (i + 1) (upto n)) (get_upto n i less)

pub upto_done : (n i : ℕ) → n ≤ i → drop i (upto n) ≡ []
upto_done n i most = drop_all i (upto n) (let long = length_upto n in omega arith)

-- ---- turns

pub fluent_within : (fluents actions : List Const) (number count : ℕ) → number < count → count ≡ length fluents → number < length (fluents ++ actions)
fluent_within fluents actions number count less is = let long = length-append fluents actions in omega arith

pub all_split : {X : Type 0} (P : X → Type 0) (xs : List X) (i : ℕ) (d : X) → i < length xs → AllByRecursion P (drop i xs) → P (get_or xs i d) × AllByRecursion P (drop (i + 1) xs)
all_split P xs i d less all = subst (AllByRecursion P) (drop_more xs i d less) all

pub law_turn : (by : ℕ) (laws : List WideGroundLaw) (horizon step i : ℕ) → i < length laws →
    rules_at_step by (drop i laws) horizon step ≡ rules_in (placed_at by horizon step (get_or laws i no_law)) ++ rules_at_step by (drop (i + 1) laws) horizon step
law_turn by laws horizon step i less = ap (λ (l : List WideGroundLaw). rules_at_step by l horizon step) (drop_more laws i no_law less)

pub step_turn : (f : ℕ → List WideTimed) (n i : ℕ) → i < n → flat_map f (drop i (upto n)) ≡ f i ++ flat_map f (drop (i + 1) (upto n))
step_turn f n i less = ap (flat_map f) (upto_next n i less)

pub value_turn : (number size i : ℕ) → i < size → map (initial_value number) (drop i (upto size)) ≡ (initial_value number i ∷ []) ++ map (initial_value number) (drop (i + 1) (upto size))
value_turn number size i less = ap (map (initial_value number)) (upto_next size i less)

module _ (fluents actions : List Const) (number position size : ℕ) (constant : Const) (less : number < length fluents) (at : position ≡ number) (is : Some constant ≡ slice_get (fluents ++ actions) number)
    (sized : option_map (λ (c : Const). length c.domain) (slice_get (fluents ++ actions) (position % length (fluents ++ actions))) ≡ Some size) where
  there : Some constant ≡ slice_get fluents number
  there = is ∙ front fluents actions number less

  size_is : length constant.domain ≡ size
  size_is =
      own_size (fluents ++ actions) number size constant within
      (subst (λ (n : ℕ). option_map (λ (c : Const). length c.domain) (slice_get (fluents ++ actions) (n % length (fluents ++ actions))) ≡ Some size) at sized) is
    where
      longer : (xs ys : List Const) → length xs ≤ length (xs ++ ys)
      longer [] ys = omega arith
      longer (x ∷ xs) ys = let more = longer xs ys in omega arith

      within : number < length (fluents ++ actions)
      within = let more = longer fluents actions in omega arith

  pub fluent_sized : slice_get (domain_sizes fluents) number ≡ Some size
  fluent_sized =
      slice_get-map (λ (c : Const). length c.domain) fluents number ∙ ap (option_map (λ (c : Const). length c.domain)) (sym there) ∙ ap (λ (n : ℕ). Some n) size_is

  pub fluent_turn : all_initial_wide number (drop number fluents) ≡ initial_wide constant.kind number size ++ all_initial_wide (number + 1) (drop (number + 1) fluents)
  fluent_turn =
      ap (all_initial_wide number) (front_behind fluents number constant there)
      ∙ ap (λ (n : ℕ). initial_wide constant.kind number n ++ all_initial_wide (number + 1) (drop (number + 1) fluents)) size_is

pub atom_over : (sizes : List ℕ) (number value : ℕ) (nodes_there : Bor (List Node)) → nodes_there.now ≡ nodes.Atom number value ∷ [] → ((size : ℕ) × (slice_get sizes number ≡ Some size) × (value < size)) →
    IsPlacedOver sizes (record { first = 0; nodes = nodes_there })
atom_over sizes number value nodes_there is size = record {
  formula = terms.Atom number value;
  written = is;
  fits = subst (λ (t : List Node). AllByRecursion (Fits sizes) (moved_nodes 0 t)) (sym is) ((size.0, ap (slice_get sizes) (let e : 0 + number ≡ number = omega arith in e) ∙ size.1, size.2), tt);
  within = omega arith;
  low = omega arith;
}

pub none_initial : (kind : Kind) (number size : ℕ) → ((kind ≡ kinds.Determined) ⊎ (kind ≡ kinds.Action)) → initial_wide kind number size ≡ []
none_initial kinds.Simple number size (inl e) = absurd cc
none_initial kinds.Simple number size (inr e) = absurd cc
none_initial kinds.Determined number size e = refl
none_initial kinds.Action number size e = refl
