use Rattle.std.proofs.Common.{ap, map, sym, ◌++◌, ◌∷◌, [], ◌∙◌}
use Rattle.std.proofs.lemmas.List.{map-append}
use Rattle.cc_defs.specs.Resolved.{plain_query}
use Rattle.cc_describe.specs.declared.progress.Progress.{Progress}
use Rattle.cc_describe.proofs.progress.Progress.keep.Goals as goal

pub returns-clause-kept : goal.returns-clause-kept
returns-clause-kept c =
    ap (λ l. map plain_query l) c.in_ok-push.ensures.items ∙ map-append plain_query c.label.new.self.queries.items (c.args.query ∷ []) ∙ ap (λ p. map plain_query p.queries.items ++ plain_query c.args.query ∷ []) c.label.ensures.rest

pub returns-clause-labelled : goal.returns-clause-labelled
returns-clause-labelled c fresh = c.in_ok-label.ensures.labelled fresh

pub returns-clause-rest : goal.returns-clause-rest
returns-clause-rest c =
    let put : Progress → Progress = λ p. record p { queries = c.push.new.self } in
    ap put c.label.ensures.rest

pub returns-in_err-push-clause-rest : goal.returns-in_err-push-clause-rest
returns-in_err-push-clause-rest c =
    let put : Progress → Progress = λ p. record p { queries = c.push.new.self } in
    ap put c.label.ensures.rest

pub returns-in_err-label-clause-rest : goal.returns-in_err-label-clause-rest
returns-in_err-label-clause-rest c =
    let put : Progress → Progress = λ p. record c.args.self.now { queries = p.queries; labels = c.label.new.self.labels } in
    c.label.ensures.rest ∙ ap put (sym c.label.ensures.rest)
