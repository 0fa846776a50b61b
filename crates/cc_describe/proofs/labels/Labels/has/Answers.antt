use Rattle.std.proofs.Common.{◌∙◌, sym, ap, string_bytes}
use Rattle.cc_describe.specs.FirstRefusal.{is_among}
use Rattle.cc_describe.proofs.LabelLemmas.{among_keys}
use Rattle.cc_describe.proofs.labels.Labels.has.Goals as goal

pub returns : goal.returns
returns c =
    c.contains.ensures ∙ sym (among_keys string_bytes c.args.label.now c.self.inside.labels.keys)
    ∙ ap (λ view. is_among view c.args.label.now) c.self.view_is
