use Rattle.cc_list.proofs.theorems.log_laws.Goals as goal

pub returns : goal.returns
returns c = record {
  accepted = c.written_logs_are_accepted.ensures;
  entries = c.written_lines_are_entries.ensures;
  sayable = c.accepted_logs_are_sayable.ensures;
  alike = c.other_versions_are_judged_alike.ensures;
}
