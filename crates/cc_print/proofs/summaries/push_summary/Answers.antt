use Rattle.std.proofs.Common.{◌≡◌, ℕ, ◌++◌, List, None, OnOk, codes, flat_map, length, string_bytes, unwrap_or, ap, ◌∙◌, subst, append_assoc}
use Rattle.std.specs.List.{last_or}
use Rattle.cc_print.specs.Summaries.{empty_horizons, ending_lines, endings_told, number_line}
use Rattle.cc_print.proofs.summaries.push_summary.Goals as goal

regrouped : (old one two three first second : List ℕ) → first ≡ old ++ one → second ≡ first ++ two → second ++ three ≡ old ++ (one ++ two ++ three)
regrouped old one two three first second a b =
    ap (λ front. front ++ three) (b ∙ ap (λ front. front ++ two) a ∙ append_assoc old one two) ∙ append_assoc old (one ++ two) three

pub returns : goal.returns
returns c =
    let told = c.args.told.now in
    subst (λ whole. OnOk c.push_endings.result (string_bytes c.push_endings.new.text ≡ whole))
    (regrouped (string_bytes c.args.text.now) (number_line (codes "locks") c.args.size) (number_line (codes "empty horizons") (length (empty_horizons told)))
    (flat_map (ending_lines (unwrap_or (last_or None (empty_horizons told)) 0)) (endings_told told)) (string_bytes c.push_line.new.text) (string_bytes c.push_line-2.new.text)
    (c.in_ok-push_line.ensures ∙ ap (λ number. string_bytes c.args.text.now ++ number_line (codes "locks") number) c.from.ensures)
    (c.in_ok-push_line-2.ensures ∙ ap (λ number. string_bytes c.push_line.new.text ++ number_line (codes "empty horizons") number) c.empty_count.ensures))
    c.push_endings.ensures
