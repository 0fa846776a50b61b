use Rattle.std.proofs.Common.{◌≡◌, ◌++◌, ◌∷◌, drop, map, flat_map, string_bytes}
use Rattle.std.specs.List.{AllByRecursion}
use Rattle.cc_defs.specs.Texts.{object_text}
use Rattle.cc_print.specs.Histories.{IsNamedValue, named_by}
use Rattle.cc_print.proofs.histories.push_other_arguments.Given as goal

-- the text so far, with what is left to write, is the whole text
abbrev pub invariant-loop-object : goal.invariant-loop-object
invariant-loop-object l =
    let rest = flat_map (λ name. 44 ∷ name) (map (object_text (named_by l.table)) (drop l.object-index l.args)) in
    record {
      whole : string_bytes l.text ++ rest ≡ string_bytes l.initial.text ++ flat_map (λ name. 44 ∷ name) (map (object_text (named_by l.table)) l.args);
      named : AllByRecursion (IsNamedValue l.table) (drop l.object-index l.args);
    }
