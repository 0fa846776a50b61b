use Rattle.std.proofs.Common.{◌≡◌, ◌∙◌, ◌++◌, ◌∷◌, [], ap, string_bytes, None}
use Rattle.std.proofs.lemmas.Result.{on_ok_weaker}
use Rattle.cc_sorts.specs.Dictionaries.{number_of, names_of}
use Rattle.cc_sorts.proofs.Entries.{seen, new_goes_last}
use Rattle.cc_sorts.proofs.dictionary.Dictionary.push.Goals as goal

pub returns-clause-added : goal.returns-clause-added
returns-clause-added g c =
    let absent : number_of (names_of (seen string_bytes c.self.inside.entries.entries)) (string_bytes c.in_ok-name.name) ≡ None =
    ap (number_of (names_of (seen string_bytes c.self.inside.entries.entries))) c.in_ok-name.ensures.ok
    ∙ ap (λ view. number_of (names_of view) c.args.name.now) c.self.view_is ∙ c.requires in
    on_ok_weaker c.put_indexed.result (λ entries.
    ap (seen string_bytes) entries
    ∙ new_goes_last string_bytes c.self.inside.entries.entries c.in_ok-name.name c.args.value absent
    ∙ ap (λ view. view ++ (string_bytes c.in_ok-name.name, c.args.value) ∷ []) c.self.view_is
    ∙ ap (λ name. c.args.self.now ++ (name, c.args.value) ∷ []) c.in_ok-name.ensures.ok)
    c.put_indexed.ensures.entries
