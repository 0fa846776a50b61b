-- The formulas of nodes, and terms that stand at their positions.
use Rattle.std.proofs.Common.{◌≡◌, ◌∙◌, ℕ, suc, ◌+◌, ◌≤◌, Bool, not, ◌&&◌, ◌||◌, List, [], ◌∷◌, ◌++◌, length, map, drop, refl, sym, ap, subst, arith, add-one}
use Rattle.std.specs.Prelude.{slice_index}
use Rattle.std.specs.Bool.{beq}
use Rattle.std.specs.List.{AllByRecursion}
use Rattle.std.proofs.lemmas.List.{get_or-drop, length-drop}
use Rattle.std.proofs.lemmas.Option.{slice_get_within}
use Rattle.cc_defs.specs.declared.node.Node.{Node}
use Rattle.cc_defs.specs.declared.node.Node.TheVariants as nodes
use Rattle.cc_defs.specs.ClauseForms.{made_of}
use Rattle.cc_defs.specs.Rows.{IsRow}
use Rattle.cc_defs.specs.Terms.{Ground, Operands, Fits, HasTruth, IsTerm, IsTermOver, NamesBelow, nothing, and_then, operand_count, postfix, postfixes, truth, all_true, any_true}
use Rattle.cc_defs.specs.Terms as terms
use Rattle.cc_defs.specs.TimedRules.{moved, moved_operands}
use Rattle.cc_form.specs.Laws.{TermFits}
use Rattle.cc_form.specs.Machine.{made_nodes, moved_node, moved_nodes}
use Rattle.cc_form.proofs.Saying.{nodes_made}
use Rattle.cc_rivals.specs.declared.timed.Placed.{Placed}
use Rattle.cc_rivals.specs.Making.{IsPlacedBelow, Popped, popped, term_at, term_in, top, with_all_nodes, with_node}
use Rattle.cc_wide.specs.WideLists.{holds_in}

-- ---- the formula of nodes

read_more : (xs ys : List Node) (s : List Ground) → with_all_nodes (xs ++ ys) s ≡ with_all_nodes ys (with_all_nodes xs s)
read_more [] ys s = refl
read_more (x ∷ xs) ys s = read_more xs ys (with_node x s)

abbrev stacked : Operands → List Ground → List Ground
stacked nothing s = s
stacked (and_then operands f) s = f ∷ stacked operands s

popped_is : (operands : Operands) (s : List Ground) → popped (operand_count operands) (stacked operands s) ≡ record { operands = operands; below = s }
popped_is nothing s = refl
popped_is (and_then operands f) s =
    ap (λ (n : ℕ). popped n (f ∷ stacked operands s)) (add-one (operand_count operands))
    ∙ ap (λ (p : Popped). let q : Popped = record { operands = and_then p.operands f; below = p.below } in q) (popped_is operands s)

mutual
  read_is : (f : Ground) (s : List Ground) → with_all_nodes (postfix f) s ≡ f ∷ s
  read_is terms.Truth s = refl
  read_is terms.Falsehood s = refl
  read_is (terms.Atom constant value) s = refl
  read_is (terms.Not f) s = read_more (postfix f) (nodes.Not ∷ []) s ∙ ap (with_all_nodes (nodes.Not ∷ [])) (read_is f s)
  read_is (terms.All operands) s =
      read_more (postfixes operands) (nodes.All (operand_count operands) ∷ []) s ∙ ap (with_all_nodes (nodes.All (operand_count operands) ∷ [])) (reads_are operands s)
      ∙ ap (λ (p : Popped). terms.All p.operands ∷ p.below) (popped_is operands s)
  read_is (terms.Any operands) s =
      read_more (postfixes operands) (nodes.Any (operand_count operands) ∷ []) s ∙ ap (with_all_nodes (nodes.Any (operand_count operands) ∷ [])) (reads_are operands s)
      ∙ ap (λ (p : Popped). terms.Any p.operands ∷ p.below) (popped_is operands s)
  read_is (terms.Same f g) s =
      read_more (postfix f ++ postfix g) (nodes.Same ∷ []) s
      ∙ ap (with_all_nodes (nodes.Same ∷ [])) (read_more (postfix f) (postfix g) s ∙ ap (with_all_nodes (postfix g)) (read_is f s) ∙ read_is g (f ∷ s))

  reads_are : (operands : Operands) (s : List Ground) → with_all_nodes (postfixes operands) s ≡ stacked operands s
  reads_are nothing s = refl
  reads_are (and_then operands f) s = read_more (postfixes operands) (postfix f) s ∙ ap (with_all_nodes (postfix f)) (reads_are operands s) ∙ read_is f (stacked operands s)

pub term_is : (f : Ground) → term_in (postfix f) ≡ f
term_is f = ap top (read_is f [])

-- ---- moved terms

map_behind : {A B : Type 0} (f : A → B) (xs ys : List A) → map f (xs ++ ys) ≡ map f xs ++ map f ys
map_behind f [] ys = refl
map_behind f (x ∷ xs) ys = ap (λ l. f x ∷ l) (map_behind f xs ys)

mutual
  pub moved_postfix : (by : ℕ) (f : Ground) → moved_nodes by (postfix f) ≡ postfix (moved by f)
  moved_postfix by terms.Truth = refl
  moved_postfix by terms.Falsehood = refl
  moved_postfix by (terms.Atom constant value) = refl
  moved_postfix by (terms.Not f) = map_behind (moved_node by) (postfix f) (nodes.Not ∷ []) ∙ ap (λ (l : List Node). l ++ nodes.Not ∷ []) (moved_postfix by f)
  moved_postfix by (terms.All operands) =
      map_behind (moved_node by) (postfixes operands) (nodes.All (operand_count operands) ∷ []) ∙ ap (λ (l : List Node). l ++ nodes.All (operand_count operands) ∷ []) (moved_postfixes by operands)
      ∙ ap (λ (n : ℕ). postfixes (moved_operands by operands) ++ nodes.All n ∷ []) (sym (moved_count by operands))
  moved_postfix by (terms.Any operands) =
      map_behind (moved_node by) (postfixes operands) (nodes.Any (operand_count operands) ∷ []) ∙ ap (λ (l : List Node). l ++ nodes.Any (operand_count operands) ∷ []) (moved_postfixes by operands)
      ∙ ap (λ (n : ℕ). postfixes (moved_operands by operands) ++ nodes.Any n ∷ []) (sym (moved_count by operands))
  moved_postfix by (terms.Same f g) =
      map_behind (moved_node by) (postfix f ++ postfix g) (nodes.Same ∷ []) ∙ ap (λ (l : List Node). l ++ nodes.Same ∷ []) (map_behind (moved_node by) (postfix f) (postfix g))
      ∙ ap (λ (l : List Node). l ++ moved_nodes by (postfix g) ++ nodes.Same ∷ []) (moved_postfix by f) ∙ ap (λ (l : List Node). postfix (moved by f) ++ l ++ nodes.Same ∷ []) (moved_postfix by g)

  moved_postfixes : (by : ℕ) (operands : Operands) → moved_nodes by (postfixes operands) ≡ postfixes (moved_operands by operands)
  moved_postfixes by nothing = refl
  moved_postfixes by (and_then operands f) =
      map_behind (moved_node by) (postfixes operands) (postfix f) ∙ ap (λ (l : List Node). l ++ moved_nodes by (postfix f)) (moved_postfixes by operands)
      ∙ ap (λ (l : List Node). postfixes (moved_operands by operands) ++ l) (moved_postfix by f)

  moved_count : (by : ℕ) (operands : Operands) → operand_count (moved_operands by operands) ≡ operand_count operands
  moved_count by nothing = refl
  moved_count by (and_then operands f) = ap (λ (n : ℕ). n + 1) (moved_count by operands)

mutual
  pub moved_truth : (v : ℕ → ℕ) (by : ℕ) (f : Ground) → truth v (moved by f) ≡ truth (λ n. v (by + n)) f
  moved_truth v by terms.Truth = refl
  moved_truth v by terms.Falsehood = refl
  moved_truth v by (terms.Atom constant value) = refl
  moved_truth v by (terms.Not f) = ap not (moved_truth v by f)
  moved_truth v by (terms.All operands) = moved_all v by operands
  moved_truth v by (terms.Any operands) = moved_any v by operands
  moved_truth v by (terms.Same f g) = ap (λ (b : Bool). beq b (truth v (moved by g))) (moved_truth v by f) ∙ ap (beq (truth (λ n. v (by + n)) f)) (moved_truth v by g)

  moved_all : (v : ℕ → ℕ) (by : ℕ) (operands : Operands) → all_true v (moved_operands by operands) ≡ all_true (λ n. v (by + n)) operands
  moved_all v by nothing = refl
  moved_all v by (and_then operands f) = ap (λ (b : Bool). b && truth v (moved by f)) (moved_all v by operands) ∙ ap (λ (b : Bool). all_true (λ n. v (by + n)) operands && b) (moved_truth v by f)

  moved_any : (v : ℕ → ℕ) (by : ℕ) (operands : Operands) → any_true v (moved_operands by operands) ≡ any_true (λ n. v (by + n)) operands
  moved_any v by nothing = refl
  moved_any v by (and_then operands f) = ap (λ (b : Bool). b || truth v (moved by f)) (moved_any v by operands) ∙ ap (λ (b : Bool). any_true (λ n. v (by + n)) operands || b) (moved_truth v by f)

-- ---- terms at their positions

pub row_long : (sizes row : List ℕ) → IsRow sizes row → length sizes ≡ length row
row_long [] [] h = refl
row_long [] (index ∷ row) h = absurd h
row_long (size ∷ sizes) [] h = absurd h
row_long (size ∷ sizes) (index ∷ row) h = ap suc (row_long sizes row h.1)

module _ {limit : ℕ} (sizes : List ℕ) (term : Placed) (is : IsPlacedBelow limit sizes term) where
  own_written : postfix (term_in term.nodes.now) ≡ term.nodes.now
  own_written = ap postfix (ap term_in is.written ∙ term_is is.formula) ∙ sym is.written

  pub placed_written : postfix (term_at term) ≡ moved_nodes term.first term.nodes.now
  placed_written = sym (moved_postfix term.first (term_in term.nodes.now)) ∙ ap (moved_nodes term.first) own_written

  pub placed_made : (places : List ℕ) (last : ℕ) → made_nodes places last (moved_nodes term.first term.nodes.now) ≡ made_of places last (term_at term)
  placed_made places last = nodes_made places last (term_at term) (moved_nodes term.first term.nodes.now) placed_written

  pub placed_fits : TermFits sizes (term_at term)
  placed_fits = subst (AllByRecursion (Fits sizes)) (sym placed_written) is.fits

  pub placed_over : IsTermOver sizes (moved_nodes term.first term.nodes.now)
  placed_over = record { formula = term_at term; written = sym placed_written; fits = is.fits }

  -- ---- their truth in a row

  module _ (row : List ℕ) (is_row : IsRow sizes row) where
    pub first_within : term.first ≤ length row
    first_within = let long = row_long sizes row is_row in let within = is.within in omega arith

    names_within : (term_nodes : List Node) → AllByRecursion (Fits sizes) (moved_nodes term.first term_nodes) → AllByRecursion (NamesBelow (length (drop term.first row))) term_nodes
    names_within [] fit = tt
    names_within (node ∷ more) fit = (name_within node fit.0, names_within more fit.1)
      where
        name_within : (node : Node) → Fits sizes (moved_node term.first node) → NamesBelow (length (drop term.first row)) node
        name_within nodes.True fits = tt
        name_within nodes.False fits = tt
        name_within (nodes.Atom constant value) fits =
            let there = slice_get_within sizes (term.first + constant) fits.0 fits.1 in
            let long = row_long sizes row is_row in
            let left = length-drop term.first row in
            omega arith
        name_within nodes.Not fits = tt
        name_within (nodes.All count) fits = tt
        name_within (nodes.Any count) fits = tt
        name_within nodes.Same fits = tt

    pub is_term : IsTerm (length (drop term.first row)) term.nodes.now
    is_term = record { formula = is.formula; written = is.written; names = names_within term.nodes.now is.fits }

    pub holds_is : (result : Bool) → HasTruth term.nodes.now (λ number. slice_index (drop term.first row) number) result → result ≡ holds_in row (term_at term)
    holds_is result so =
        so (term_in term.nodes.now) (sym own_written)
        ∙ ap (λ (v : ℕ → ℕ). truth v (term_in term.nodes.now)) (λ i number. get_or-drop term.first row number 0 i)
        ∙ sym (moved_truth (λ position. slice_index row position) term.first (term_in term.nodes.now))
