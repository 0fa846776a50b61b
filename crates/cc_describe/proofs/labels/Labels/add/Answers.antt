use Rattle.std.proofs.Common.{◌∙◌, ◌++◌, ◌∷◌, [], if◌then◌else◌, ap, map, string_bytes}
use Rattle.cc_describe.specs.FirstRefusal.{is_among}
use Rattle.cc_describe.proofs.LabelLemmas.{texts_with}
use Rattle.cc_describe.proofs.labels.Labels.add.Goals as goal

pub returns-clause-added : goal.returns-clause-added
returns-clause-added c =
    ap (map string_bytes) c.in_ok-insert.ensures.keys
    ∙ texts_with string_bytes c.self.inside.labels.keys c.in_ok-label.label
    ∙ ap (λ view. if is_among view (string_bytes c.in_ok-label.label) then view else view ++ string_bytes c.in_ok-label.label ∷ []) c.self.view_is
    ∙ ap (λ name. if is_among c.args.self.now name then c.args.self.now else c.args.self.now ++ name ∷ []) c.in_ok-label.ensures.ok
