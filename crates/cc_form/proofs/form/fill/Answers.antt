use Rattle.std.proofs.Common.{Bor, ◌≡◌, ◌∙◌, ◌+◌, ℕ, List, Option, length, refl, sym, ap, subst, arith, option_map}
use Rattle.std.specs.List.{AllByRecursion}
use Rattle.std.specs.Prelude.{IfSome}
use Rattle.cc_arena.specs.GroundViews.{plain_ground_condition, plain_ground_query}
use Rattle.cc_defs.specs.declared.lists.Key.{Key}
use Rattle.cc_defs.specs.Signatures.{Signature}
use Rattle.cc_theory.specs.Making.{stride_of}
use Rattle.cc_theory.specs.Theories.{AreRulesAt}
use Rattle.cc_form.specs.Machine.{IsPast}
use Rattle.cc_form.specs.Places.{position_sizes}
use Rattle.cc_form.specs.Queries.{IsOverPlaces, section_list}
use Rattle.cc_form.proofs.Finishing.{built_form, claim_over, conditions_over, key_fits_at, query_past, section_built, theory_past}
use Rattle.cc_form.proofs.Running.{adds_past, adds_then, err_past}
use Rattle.cc_form.proofs.form.fill.Goals as goal

pub add_query-requires-clause-conditions : goal.add_query-requires-clause-conditions
add_query-requires-clause-conditions c =
    let t = c.args.theory.now in
    let q = c.args.query.now in
    let plain = plain_ground_query q in
    let key : Option Key = option_map (λ (k : Bor Key). k.now) c.args.after in
    let S = c.from.result + c.from-2.result in
    let H = c.horizon-horizon.result in
    let stride : S ≡ stride_of t.signature = (let f = c.from.ensures ∙ c.fluents.ensures ∙ ap (λ (s : Signature). length s.fluents) c.sig-sig.ensures in let a = c.from-2.ensures ∙ c.actions.ensures ∙ ap (λ (s : Signature). length s.actions) c.sig-sig.ensures in omega arith) in
    let horizon : H ≡ t.horizon = c.horizon-horizon.ensures.value in
    let begun = c.args.writer.now in
    let places = c.requires.places in
    let over = conditions_over t.signature t.horizon q.conditions (let m = c.horizon-horizon.ensures.most in omega arith) c.requires.query.conditions in
    subst (λ (p : List ℕ). AllByRecursion (λ condition. IsOverPlaces p S H (plain_ground_condition condition)) q.conditions) (sym (c.in_ok-add_rules.ensures.places ∙ places))
    (subst (λ (n : ℕ). AllByRecursion (λ condition. IsOverPlaces (position_sizes t.signature t.horizon) n H (plain_ground_condition condition)) q.conditions) (sym stride)
    (subst (λ (n : ℕ). AllByRecursion (λ condition. IsOverPlaces (position_sizes t.signature t.horizon) (stride_of t.signature) n (plain_ground_condition condition)) q.conditions) (sym horizon) over))

pub add_query-requires-clause-claim : goal.add_query-requires-clause-claim
add_query-requires-clause-claim c =
    let t = c.args.theory.now in
    let q = c.args.query.now in
    let plain = plain_ground_query q in
    let key : Option Key = option_map (λ (k : Bor Key). k.now) c.args.after in
    let S = c.from.result + c.from-2.result in
    let H = c.horizon-horizon.result in
    let stride : S ≡ stride_of t.signature = (let f = c.from.ensures ∙ c.fluents.ensures ∙ ap (λ (s : Signature). length s.fluents) c.sig-sig.ensures in let a = c.from-2.ensures ∙ c.actions.ensures ∙ ap (λ (s : Signature). length s.actions) c.sig-sig.ensures in omega arith) in
    let horizon : H ≡ t.horizon = c.horizon-horizon.ensures.value in
    let begun = c.args.writer.now in
    let places = c.requires.places in
    let over = claim_over t.signature t.horizon q.claim (let m = c.horizon-horizon.ensures.most in omega arith) c.requires.query.claim in
    subst (λ (p : List ℕ). IfSome q.claim (λ claim. IsOverPlaces p S H (plain_ground_condition claim))) (sym (c.in_ok-add_rules.ensures.places ∙ places))
    (subst (λ (n : ℕ). IfSome q.claim (λ claim. IsOverPlaces (position_sizes t.signature t.horizon) n H (plain_ground_condition claim))) (sym stride)
    (subst (λ (n : ℕ). IfSome q.claim (λ claim. IsOverPlaces (position_sizes t.signature t.horizon) (stride_of t.signature) n (plain_ground_condition claim))) (sym horizon) over))

pub returns-in_err-add_rules-clause-refused : goal.returns-in_err-add_rules-clause-refused
returns-in_err-add_rules-clause-refused c =
    let t = c.args.theory.now in
    let q = c.args.query.now in
    let plain = plain_ground_query q in
    let key : Option Key = option_map (λ (k : Bor Key). k.now) c.args.after in
    let S = c.from.result + c.from-2.result in
    let H = c.horizon-horizon.result in
    let stride : S ≡ stride_of t.signature = (let f = c.from.ensures ∙ c.fluents.ensures ∙ ap (λ (s : Signature). length s.fluents) c.sig-sig.ensures in let a = c.from-2.ensures ∙ c.actions.ensures ∙ ap (λ (s : Signature). length s.actions) c.sig-sig.ensures in omega arith) in
    let horizon : H ≡ t.horizon = c.horizon-horizon.ensures.value in
    let begun = c.args.writer.now in
    let places = c.requires.places in
    err_past c.from_residual.result (section_list t plain c.args.with_claim key).variables c.in_err-add_rules.field-0.0 c.from_residual.ensures.1
    (theory_past t plain c.args.with_claim key S H q.conditions q.claim stride horizon refl refl begun c.in_err-add_rules.field-0.0 places c.in_err-add_rules.ensures)

pub returns-clause-refused : goal.returns-clause-refused
returns-clause-refused c =
    let t = c.args.theory.now in
    let q = c.args.query.now in
    let plain = plain_ground_query q in
    let key : Option Key = option_map (λ (k : Bor Key). k.now) c.args.after in
    let S = c.from.result + c.from-2.result in
    let H = c.horizon-horizon.result in
    let stride : S ≡ stride_of t.signature = (let f = c.from.ensures ∙ c.fluents.ensures ∙ ap (λ (s : Signature). length s.fluents) c.sig-sig.ensures in let a = c.from-2.ensures ∙ c.actions.ensures ∙ ap (λ (s : Signature). length s.actions) c.sig-sig.ensures in omega arith) in
    let horizon : H ≡ t.horizon = c.horizon-horizon.ensures.value in
    let begun = c.args.writer.now in
    let places = c.requires.places in
    adds_past (IsPast (section_list t plain c.args.with_claim key).variables) _ _ _ c.add_query.result c.add_query.ensures (λ fault past. query_past t plain c.args.with_claim key S H q.conditions q.claim stride horizon refl refl begun c.add_rules.new.writer fault places c.in_ok-add_rules.ensures past)

pub returns-clause-built : goal.returns-clause-built
returns-clause-built c =
    let t = c.args.theory.now in
    let q = c.args.query.now in
    let plain = plain_ground_query q in
    let key : Option Key = option_map (λ (k : Bor Key). k.now) c.args.after in
    let S = c.from.result + c.from-2.result in
    let H = c.horizon-horizon.result in
    let stride : S ≡ stride_of t.signature = (let f = c.from.ensures ∙ c.fluents.ensures ∙ ap (λ (s : Signature). length s.fluents) c.sig-sig.ensures in let a = c.from-2.ensures ∙ c.actions.ensures ∙ ap (λ (s : Signature). length s.actions) c.sig-sig.ensures in omega arith) in
    let horizon : H ≡ t.horizon = c.horizon-horizon.ensures.value in
    let begun = c.args.writer.now in
    let places = c.requires.places in
    adds_then _ _ _ c.add_query.result c.add_query.ensures (λ built. section_built t plain c.args.with_claim key S H q.conditions q.claim stride horizon refl refl begun c.add_rules.new.writer c.add_query.new.writer places c.requires.none c.in_ok-add_rules.ensures built)

pub returns-clause-ready : goal.returns-clause-ready
returns-clause-ready c =
    let t = c.args.theory.now in
    let q = c.args.query.now in
    let plain = plain_ground_query q in
    let key : Option Key = option_map (λ (k : Bor Key). k.now) c.args.after in
    let S = c.from.result + c.from-2.result in
    let H = c.horizon-horizon.result in
    let stride : S ≡ stride_of t.signature = (let f = c.from.ensures ∙ c.fluents.ensures ∙ ap (λ (s : Signature). length s.fluents) c.sig-sig.ensures in let a = c.from-2.ensures ∙ c.actions.ensures ∙ ap (λ (s : Signature). length s.actions) c.sig-sig.ensures in omega arith) in
    let horizon : H ≡ t.horizon = c.horizon-horizon.ensures.value in
    let begun = c.args.writer.now in
    let places = c.requires.places in
    adds_then _ _ _ c.add_query.result c.add_query.ensures (λ built. built_form t plain c.args.with_claim key (let m = c.horizon-horizon.ensures.most in omega arith) (subst (AreRulesAt t.signature t.horizon) c.rules-rules.ensures.rules c.rules-rules.ensures.fit)
    c.requires.query (key_fits_at t.signature t.horizon c.args.after c.requires.key) c.add_query.new.writer
    (section_built t plain c.args.with_claim key S H q.conditions q.claim stride horizon refl refl begun c.add_rules.new.writer c.add_query.new.writer places c.requires.none c.in_ok-add_rules.ensures built))
