use Rattle.std.proofs.Common.{◌∙◌, sym, ap, string_bytes}
use Rattle.cc_sorts.specs.Dictionaries.{number_of, names_of}
use Rattle.cc_sorts.proofs.Entries.{number_of_key}
use Rattle.cc_sorts.proofs.dictionary.Dictionary.find.Goals as goal

pub returns : goal.returns
returns g c =
    c.get_index_of.ensures.index ∙ sym (number_of_key string_bytes c.args.name.now c.self.inside.entries.entries)
    ∙ ap (λ view. number_of (names_of view) c.args.name.now) c.self.view_is
