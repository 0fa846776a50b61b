use Rattle.std.proofs.Common.{ap, ◌∙◌, sym, refl, arith, rules, ◌++◌, map}
use Rattle.cc_defs.specs.Declarations.{sort_declarations}
use Rattle.cc_defs.specs.Trees.{Chain}
use Rattle.cc_sorts.specs.Declaring.{plain_declaration, plain_declarations}
use Rattle.cc_sorts.proofs.Adding.{chain-more, chain-all}
use Rattle.cc_sorts.proofs.declaration.add_chain.Goals as goal

pub loop-name-preserved : goal.loop-name-preserved
loop-name-preserved c = record {
  text = search rules;
  whole = λ file line.
      chain-more (plain_declarations file line c.loop-name.found.items) _ _ (λ name. name.now) c.loop-name.upper _ _ c.in-Some.lower.now c.loop-name.name-index
      (omega (arith, c.loop-name-test.true)) (c.in_ok-add_link.ensures file line) refl (c.loop-name.invariant.whole file line);
}

pub returns : goal.returns
returns c = λ file line.
    chain-all c.args.found.now.items c.push.new.self.items c.loop-name.found.items (λ name. name.now) (plain_declaration file line)
    c.in-Some.first.now c.loop-name.upper c.in-Some.lower.now _ c.loop-name.name-index c.loop-name-test.false
    c.in_ok-push.ensures.items refl (c.loop-name.invariant.whole file line)
    ∙ ap (λ names. plain_declarations file line c.args.found.now.items ++ sort_declarations (Chain (map (λ name. name.now) names))) (sym c.in-Some.ensures.cases.0)
