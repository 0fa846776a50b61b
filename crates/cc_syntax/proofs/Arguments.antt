-- Terms: what the arguments that were read so far and those that follow make of a term.
use Rattle.std.proofs.Common.{◌≡◌, ℕ, suc, ◌-◌, ◌<◌, List, [], ◌∷◌, ◌++◌, Option, Some, None, refl, subst, ◌∙◌, arith}
use Rattle.cc_defs.specs.declared.token.Mark.TheVariants as marks
use Rattle.cc_defs.specs.Trees.{PlainTerm, PlainSum, Applied}
use Rattle.cc_defs.specs.Grammar.{Terminal}
use Rattle.cc_syntax.specs.Readers.{sign_at}
use Rattle.cc_syntax.specs.Terms.{call_at, sum_by, term_from, args_from, sums_of}

-- ---- one step of each definition

module _ (n : ℕ) (tokens : List Terminal) (name : List ℕ) (next : List Terminal) (called : call_at tokens ≡ Some (name, next)) where
  read : (args : List PlainSum) (rest : List Terminal) → args_from n [] next ≡ Some (args, rest)
      → term_from (suc n) tokens ≡ Some (Applied name (sums_of args), rest)
  unfolding term_from
  read args rest e = rw (called, e) refl

  refused : args_from n [] next ≡ None → term_from (suc n) tokens ≡ None
  unfolding term_from
  refused e = rw (called, e) refl

module _ (n : ℕ) (found : List PlainSum) (tokens : List Terminal) where
  none : sum_by (term_from n) tokens ≡ None → args_from (suc n) found tokens ≡ None
  unfolding args_from
  none e = rw e refl

  module _ (arg : PlainSum) (after : List Terminal) (first : sum_by (term_from n) tokens ≡ Some (arg, after)) where
    more : (behind : List Terminal) → sign_at marks.Comma after ≡ Some behind → args_from (suc n) found tokens ≡ args_from n (found ++ arg ∷ []) behind
    unfolding args_from
    more behind e = rw (first, e) refl

    last : (rest : List Terminal) → sign_at marks.Comma after ≡ None → sign_at marks.RightParen after ≡ Some rest
        → args_from (suc n) found tokens ≡ Some (found ++ arg ∷ [], rest)
    unfolding args_from
    last rest e f = rw (first, e, f) refl

    unended : sign_at marks.Comma after ≡ None → sign_at marks.RightParen after ≡ None → args_from (suc n) found tokens ≡ None
    unfolding args_from
    unended e f = rw (first, e, f) refl

-- ---- a term whose arguments are read one after another

one_more : (n : ℕ) → 0 < n → suc (n - 1) ≡ n
one_more n some = omega arith

module _ (left : ℕ) (found : List PlainSum) (here : List Terminal) (some : 0 < left) (arg : PlainSum) (after : List Terminal)
    (first : sum_by (term_from (left - 1)) here ≡ Some (arg, after)) where
  pub arg-more : (behind : List Terminal) → sign_at marks.Comma after ≡ Some behind
      → args_from left found here ≡ args_from (left - 1) (found ++ arg ∷ []) behind
  arg-more behind e =
      subst (λ (m : ℕ). args_from m found here ≡ args_from (left - 1) (found ++ arg ∷ []) behind) (one_more left some)
      (more (left - 1) found here arg after first behind e)

module _ (n : ℕ) (tokens : List Terminal) (name : List ℕ) (next : List Terminal) (any : 0 < n) (called : call_at tokens ≡ Some (name, next))
    (left : ℕ) (found : List PlainSum) (here : List Terminal) (some : 0 < left) (so_far : args_from (n - 1) [] next ≡ args_from left found here) where
  term_is : (result : Option (PlainTerm × List Terminal)) → term_from (suc (n - 1)) tokens ≡ result → term_from n tokens ≡ result
  term_is result e = subst (λ (m : ℕ). term_from m tokens ≡ result) (one_more n any) e

  args_are : (result : Option (List PlainSum × List Terminal)) → args_from (suc (left - 1)) found here ≡ result → args_from (n - 1) [] next ≡ result
  args_are result e = so_far ∙ subst (λ (m : ℕ). args_from m found here ≡ result) (one_more left some) e

  pub arg-refused : sum_by (term_from (left - 1)) here ≡ None → term_from n tokens ≡ None
  arg-refused e = term_is None (refused (n - 1) tokens name next called (args_are None (none (left - 1) found here e)))

  module _ (arg : PlainSum) (after : List Terminal) (first : sum_by (term_from (left - 1)) here ≡ Some (arg, after)) where
    pub args-unended : sign_at marks.Comma after ≡ None → sign_at marks.RightParen after ≡ None → term_from n tokens ≡ None
    args-unended e f = term_is None (refused (n - 1) tokens name next called (args_are None (unended (left - 1) found here arg after first e f)))

    pub args-read : (rest : List Terminal) → sign_at marks.Comma after ≡ None → sign_at marks.RightParen after ≡ Some rest
        → term_from n tokens ≡ Some (Applied name (sums_of (found ++ arg ∷ [])), rest)
    args-read rest e f = term_is _ (read (n - 1) tokens name next called _ rest (args_are _ (last (left - 1) found here arg after first rest e f)))

-- no step is left for another argument
pub args-spent : (n : ℕ) (tokens : List Terminal) (name : List ℕ) (next : List Terminal) → 0 < n → call_at tokens ≡ Some (name, next)
    → (left : ℕ) (found : List PlainSum) (here : List Terminal) → left ≡ 0 → args_from (n - 1) [] next ≡ args_from left found here → term_from n tokens ≡ None
unfolding args_from
args-spent n tokens name next any called left found here spent so_far =
    subst (λ (m : ℕ). term_from m tokens ≡ None) (one_more n any) (refused (n - 1) tokens name next called (so_far ∙ rw spent))
