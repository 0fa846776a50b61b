-- The text of the log tells its lines, and these and the printed text tell the run.
use Rattle.cc_lists.specs.Subjects.{lines_of}
use Rattle.cc_list.specs.Searching.{told_by}
use Rattle.cc_list.proofs.theorems.texts_tell_one_run.Goals as goal

pub returns : goal.returns
returns c task one other is other_is printed logged =
    c.texts_tell_runs.ensures task.description task.query task.ask one other is.fair other_is.fair
    (c.logs_tell_their_lines.ensures (lines_of (told_by task one)) (lines_of (told_by task other)) is.formed other_is.formed logged) printed
