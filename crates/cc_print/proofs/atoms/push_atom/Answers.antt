use Rattle.std.proofs.Common.{◌≡◌, ◌+◌, ◌<◌, ◌%◌, ◌∙◌, ℕ, length, slice_get, subst, sym, ap, arith, length-append}
use Rattle.std.proofs.lemmas.Option.{same_Some, slice_get_within}
use Rattle.cc_defs.specs.declared.signature.Const.{Const}
use Rattle.cc_defs.specs.Signatures.{ground_constants}
use Rattle.cc_print.proofs.Named.{named_there}
use Rattle.cc_print.proofs.atoms.push_atom.Goals as goal

pub overflow_add-stride : goal.overflow_add-stride
overflow_add-stride c = omega (arith, c.requires.named.few)

some_below : (n m : ℕ) → n < m → 0 < m
some_below n m below = omega arith

pub nonzero_div-position : goal.nonzero_div-position
nonzero_div-position c =
    let width : c.from.result + c.from-2.result ≡ length (ground_constants c.args.sig.now) = omega (arith, length-append c.args.sig.now.fluents c.args.sig.now.actions) in
    subst (λ n. 0 < n) (sym width) (some_below _ _ (slice_get_within _ _ _ c.requires.atom.found))

pub nonzero_rem-position : goal.nonzero_rem-position
nonzero_rem-position c =
    let width : c.from.result + c.from-2.result ≡ length (ground_constants c.args.sig.now) = omega (arith, length-append c.args.sig.now.fluents c.args.sig.now.actions) in
    subst (λ n. 0 < n) (sym width) (some_below _ _ (slice_get_within _ _ _ c.requires.atom.found))

pub constant-requires : goal.constant-requires
constant-requires c =
    let width : c.from.result + c.from-2.result ≡ length (ground_constants c.args.sig.now) = omega (arith, length-append c.args.sig.now.fluents c.args.sig.now.actions) in
    subst (λ n. c.args.position % n < length (ground_constants c.args.sig.now)) (sym width) (slice_get_within _ _ _ c.requires.atom.found)

pub overflow_cast-position : goal.overflow_cast-position
overflow_cast-position c = omega (arith, constant-requires c, c.requires.named.few, length-append c.args.sig.now.fluents c.args.sig.now.actions)

pub push_value-requires-clause-named : goal.push_value-requires-clause-named
push_value-requires-clause-named c = named_there c.args.table.now c.args.sig.now c.requires.named _ c.constant.result.now c.constant.ensures

pub push_value-requires-clause-within : goal.push_value-requires-clause-within
push_value-requires-clause-within c =
    let width : c.from.result + c.from-2.result ≡ length (ground_constants c.args.sig.now) = omega (arith, length-append c.args.sig.now.fluents c.args.sig.now.actions) in
    let same = same_Some _ _ (c.constant.ensures ∙ ap (λ n. slice_get (ground_constants c.args.sig.now) (c.args.position % n)) width ∙ c.requires.atom.found) in
    subst (λ (constant : Const). c.args.value < length constant.domain) (sym same) c.requires.atom.within
