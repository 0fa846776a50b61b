use Rattle.std.proofs.Common.{ℕ, List, ◌+◌, ◌<◌, ◌≤◌, ◌≡◌, ◌++◌, ◌∷◌, [], Some, None, length, slice_index_or, arith, sym, ap, subst, ◌∙◌, Ok, Err}
use Rattle.std.specs.Option.{option_copied}
use Rattle.cc_ports.specs.Contents.{with_rest, Rose}
use Rattle.cc_text.specs.Views.{token_views, cut_at}
use Rattle.cc_describe.specs.declared.heads.Heads.{Heads}
use Rattle.cc_describe.specs.Places.{AreThere, Opened, Place, content}
use Rattle.cc_describe.specs.ProgressViews.{IsProgress, OpensAsKept, halt_of}
use Rattle.cc_describe.proofs.CallsKept.{keeps_as, keeps_more}
use Rattle.cc_describe.proofs.SomePlaces.{Gone, barred_goes, opened_goes, opening_goes, refused_goes, said_goes, then_goes}
use Rattle.cc_describe.proofs.Walk.{as_told, deeper, errs_on, left_again, less_deep, none_below, same_fault, touched_again, up_through, AreInside, Midway, done_no_fault, later_are_tokens, progress_left, opening_stops, text_stops, told_as, no_fault, finds, finds_as, has_read, taken_as, refused_as, tells_still, midway_begins, midway_goes, midway_ends, midway_stops, statement_refused, statement_alone, statement_reads, statement_ends}
use Rattle.cc_describe.proofs.files.+read_file.Goals.{in-Some+then-deep-gt0+in_ok-read_file-in-Some, in-Some+else-deep-gt0, in-None}
use Rattle.cc_describe.proofs.files.+read_file.Goals as goal

pub loop-i-init : goal.loop-i-init
loop-i-init g t c = record {
  around = c.in_ok-bytes.ensures.around;
  gone = λ contents which before told was.
      let opened = c.in_ok-bytes.ensures.opened contents which before told was in
      midway_begins {around = c.args.progress.now.around.items ++ c.args.name.now ∷ []} {statements = cut_at 0 c.tokens.inside.ends.items (token_views c.tokens.inside.tokens.items)} opened.0 opened.1 opened.2;
  kept = λ which before was. opened_goes before c.args.name.now c.in_ok-bytes.bytes _ (c.in_ok-bytes.ensures.kept which before was);
  there = λ contents told are. c.in_ok-bytes.ensures.there contents told are;
  told = c.open.ensures.after;
  calls = c.open.ensures.calls;
  calm = c.in_ok-bytes.ensures.calm (done_no_fault _);
  begun = c.open.ensures.begun;
  reads_count = c.open.ensures.reads_count;
  writes_count = c.open.ensures.writes_count;
}

pub loop-i-preserved : goal.loop-i-preserved
loop-i-preserved g t c =
    let name = c.args.name.now in
    let around = c.args.progress.now.around.items ++ name ∷ [] in
    let statements = cut_at 0 c.tokens.inside.ends.items (token_views c.tokens.inside.tokens.items) in
    let tokens = slice_index_or statements c.loop-i.i [] in
    let file = c.in_ok-bytes.file in
    let within : c.loop-i.i < length statements = subst (λ n. c.loop-i.i < n) (c.count-i-end.ensures ∙ ap length (sym c.tokens.view_is)) c.loop-i-test.true in
    let tokens_are : token_views c.statement.result.now ≡ tokens = c.statement.ensures.tokens ∙ ap (λ s. slice_index_or s c.loop-i.i []) (sym c.tokens.view_is) in
    let after = c.loop-i.invariant.told in
    let taken_around : c.take_up.new.progress.around.items ≡ around = ap (λ a. a.items) c.in_ok-included.ensures.around ∙ c.loop-i.invariant.around in
    let taken_calls = keeps_as c.loop-i.invariant.calls (ap (λ l. l.items) c.in_ok-included.ensures.names) in
    let went : (which : Heads) (before : List Place) → IsProgress which c.args.progress.now before → Gone which before c.take_up.new.progress =
    λ which before was. then_goes before c.loop-i.progress c.take_up.new.progress (Ok (tt {0})) (c.loop-i.invariant.kept which before was)
    (λ more kept. let taken = c.in_ok-included.ensures.taken which more kept in said_goes more file c.loop-i.progress.around.items taken.0 c.take_up.new.progress taken.3) in
    elim c.match-branch-3.branch [
      | in-Some+then-deep-gt0+in_ok-read_file-in-Some w ↦
          let read = w.in_ok-read_file-in-Some.ensures in
          record {
            around = ap (λ p. p.around.items) w.progress-is ∙ read.around ∙ taken_around;
            gone = λ contents which before told was.
                let m = c.loop-i.invariant.gone contents which before told was in
                let mid = (before ++ Opened name (content contents.files name) ∷ []) ++ m.done in
                subst (Midway which c.args.deep contents.files before name file around statements (c.loop-i.i + 1)) (sym w.progress-is)
                (midway_goes w.read_file.new.progress tt within m
                (statement_reads c.args.deep contents.files around _ file mid tokens w.in-Some.included.now (Ok tt) c.take_up.new.progress w.read_file.new.progress
                w.if-deep-gt0.true taken_around
                (taken_as mid file _ around _ tokens _ (Some w.in-Some.included.now) c.take_up.new.progress c.loop-i.invariant.around
                tokens_are (ap option_copied w.in-Some.is) (c.in_ok-included.ensures.taken which mid m.kept))
                (λ more kept. read.gone (with_rest after.0 contents) which more (tells_still after.0 _ _ contents after.1 told) kept)));
            kept = λ which before was.
                subst (Gone which before) (sym w.progress-is) (then_goes before c.take_up.new.progress w.read_file.new.progress (Ok (tt {0})) (went which before was) (read.kept which));
            there = λ contents told are.
                subst (λ p. AreThere contents.files p.names.items) (sym w.progress-is)
                (read.there (with_rest after.0 contents) (tells_still after.0 _ _ contents after.1 told)
                (subst (λ l. AreThere contents.files l.items) (sym c.in_ok-included.ensures.names) (c.loop-i.invariant.there contents told are)));
            told = touched_again after.0 _ _ _ after.1 read.after.0 (ap (λ desk. (g.D.Desk.seen desk).told) w.desk-is ∙ read.after.1);
            calls = keeps_as (subst (λ desk. OpensAsKept c.args.progress.now.names.items w.read_file.new.progress.names.items (g.D.Desk.seen c.args.desk.now).calls (g.D.Desk.seen desk).calls) (sym w.desk-is) (keeps_more taken_calls read.calls)) (ap (λ p. p.names.items) w.progress-is);
            calm =
                let calm = read.calm (done_no_fault _) in
                (ap (λ desk. (g.D.Desk.seen desk).reads) w.desk-is ∙ calm.0 ∙ c.loop-i.invariant.calm.0, ap (λ desk. (g.D.Desk.seen desk).writes) w.desk-is ∙ calm.1 ∙ c.loop-i.invariant.calm.1);
            begun = ap (λ desk. (g.D.Desk.seen desk).begun) w.desk-is ∙ read.begun ∙ c.loop-i.invariant.begun;
            reads_count = subst (λ desk. (g.D.Desk.seen c.args.desk.now).reads ≤ (g.D.Desk.seen desk).reads) (sym w.desk-is) (up_through c.loop-i.invariant.reads_count read.reads_count);
            writes_count = subst (λ desk. (g.D.Desk.seen c.args.desk.now).writes ≤ (g.D.Desk.seen desk).writes) (sym w.desk-is) (up_through c.loop-i.invariant.writes_count read.writes_count);
          }
      | in-Some+else-deep-gt0 w ↦
          record {
            around = ap (λ p. p.around.items) w.progress-is ∙ taken_around;
            gone = λ contents which before told was.
                let m = c.loop-i.invariant.gone contents which before told was in
                let mid = (before ++ Opened name (content contents.files name) ∷ []) ++ m.done in
                subst (Midway which c.args.deep contents.files before name file around statements (c.loop-i.i + 1)) (sym w.progress-is)
                (midway_goes c.take_up.new.progress tt within m
                (statement_ends c.args.deep contents.files around file mid tokens w.in-Some.included.now tt c.take_up.new.progress (none_below w.if-deep-gt0.false)
                (taken_as mid file _ around _ tokens _ (Some w.in-Some.included.now) c.take_up.new.progress c.loop-i.invariant.around
                tokens_are (ap option_copied w.in-Some.is) (c.in_ok-included.ensures.taken which mid m.kept))));
            kept = λ which before was.
                subst (Gone which before) (sym w.progress-is) (went which before was);
            there = λ contents told are.
                subst (λ p. AreThere contents.files p.names.items) (sym w.progress-is)
                (subst (λ l. AreThere contents.files l.items) (sym c.in_ok-included.ensures.names) (c.loop-i.invariant.there contents told are));
            told = (after.0, ap (λ desk. (g.D.Desk.seen desk).told) w.desk-is ∙ after.1);
            calls = keeps_as (subst (λ desk. OpensAsKept c.args.progress.now.names.items c.take_up.new.progress.names.items (g.D.Desk.seen c.args.desk.now).calls (g.D.Desk.seen desk).calls) (sym w.desk-is) taken_calls) (ap (λ p. p.names.items) w.progress-is);
            calm = (ap (λ desk. (g.D.Desk.seen desk).reads) w.desk-is ∙ c.loop-i.invariant.calm.0, ap (λ desk. (g.D.Desk.seen desk).writes) w.desk-is ∙ c.loop-i.invariant.calm.1);
            begun = ap (λ desk. (g.D.Desk.seen desk).begun) w.desk-is ∙ c.loop-i.invariant.begun;
            reads_count = subst (λ desk. (g.D.Desk.seen c.args.desk.now).reads ≤ (g.D.Desk.seen desk).reads) (sym w.desk-is) c.loop-i.invariant.reads_count;
            writes_count = subst (λ desk. (g.D.Desk.seen c.args.desk.now).writes ≤ (g.D.Desk.seen desk).writes) (sym w.desk-is) c.loop-i.invariant.writes_count;
          }
      | in-None w ↦
          record {
            around = ap (λ p. p.around.items) w.progress-is ∙ taken_around;
            gone = λ contents which before told was.
                let m = c.loop-i.invariant.gone contents which before told was in
                let mid = (before ++ Opened name (content contents.files name) ∷ []) ++ m.done in
                subst (Midway which c.args.deep contents.files before name file around statements (c.loop-i.i + 1)) (sym w.progress-is)
                (midway_goes c.take_up.new.progress tt within m
                (statement_alone (AreInside c.args.deep contents.files around) around file mid tokens tt c.take_up.new.progress
                (taken_as mid file _ around _ tokens _ None c.take_up.new.progress c.loop-i.invariant.around
                tokens_are (ap option_copied w.in-None.is) (c.in_ok-included.ensures.taken which mid m.kept))));
            kept = λ which before was.
                subst (Gone which before) (sym w.progress-is) (went which before was);
            there = λ contents told are.
                subst (λ p. AreThere contents.files p.names.items) (sym w.progress-is)
                (subst (λ l. AreThere contents.files l.items) (sym c.in_ok-included.ensures.names) (c.loop-i.invariant.there contents told are));
            told = (after.0, ap (λ desk. (g.D.Desk.seen desk).told) w.desk-is ∙ after.1);
            calls = keeps_as (subst (λ desk. OpensAsKept c.args.progress.now.names.items c.take_up.new.progress.names.items (g.D.Desk.seen c.args.desk.now).calls (g.D.Desk.seen desk).calls) (sym w.desk-is) taken_calls) (ap (λ p. p.names.items) w.progress-is);
            calm = (ap (λ desk. (g.D.Desk.seen desk).reads) w.desk-is ∙ c.loop-i.invariant.calm.0, ap (λ desk. (g.D.Desk.seen desk).writes) w.desk-is ∙ c.loop-i.invariant.calm.1);
            begun = ap (λ desk. (g.D.Desk.seen desk).begun) w.desk-is ∙ c.loop-i.invariant.begun;
            reads_count = subst (λ desk. (g.D.Desk.seen c.args.desk.now).reads ≤ (g.D.Desk.seen desk).reads) (sym w.desk-is) c.loop-i.invariant.reads_count;
            writes_count = subst (λ desk. (g.D.Desk.seen c.args.desk.now).writes ≤ (g.D.Desk.seen desk).writes) (sym w.desk-is) c.loop-i.invariant.writes_count;
          }
    ]

pub take_up-requires-clause-are : goal.take_up-requires-clause-are
take_up-requires-clause-are g t c = c.statement.ensures.are _ c.in-Ok.ensures.read

pub overflow_sub-deep : goal.overflow_sub-deep
overflow_sub-deep g t c = c.if-deep-gt0.true

pub read_file-requires : goal.read_file-requires
read_file-requires g t c k lives =
    (less_deep c.if-deep-gt0.true c.requires.1.0, (lives, deeper c.args.progress.now.around.items c.args.name.now c.if-deep-gt0.true (ap (λ a. a.items) c.in_ok-included.ensures.around ∙ c.loop-i.invariant.around) c.requires.1.1.1))

pub returns-in_err-bytes : goal.returns-in_err-bytes
returns-in_err-bytes g t c = record {
  gone = λ contents which before told was.
      told_as which _ before c.from_residual.result _ _ c.from_residual.ensures.1
      (opening_stops which c.cut_or_stop.ensures c.statements_are_tokens.ensures c.tree_or_refusal.ensures c.args.deep contents.files before c.args.name.now
      c.args.progress.now.around.items _ _ (c.in_err-bytes.ensures.refused contents which before told was));
  kept = λ which before was.
      let stopped = c.in_err-bytes.ensures.stopped which before was in
      told_as which (λ places. Unit {0}) before c.from_residual.result _ _ c.from_residual.ensures.1 (opening_goes which before c.args.name.now stopped.0 _ c.open.new.progress stopped.1);
  there = λ contents told are. finds_as (List ℕ × ℕ) contents.files c.from_residual.result _ _ c.from_residual.ensures.1 (c.in_err-bytes.ensures.there contents told are);
  around = errs_on _ c.from_residual.result _ c.from_residual.ensures.1;
  failed = λ is. c.in_err-bytes.ensures.failed (as_told c.from_residual.result _ c.from_residual.ensures.1 is);
  after = c.open.ensures.after;
  begun = c.open.ensures.begun;
  calls = c.open.ensures.calls;
  calm = λ other. c.in_err-bytes.ensures.calm (λ fault. other (same_fault c.from_residual.result _ c.from_residual.ensures.1 fault));
  reads_count = c.open.ensures.reads_count;
  writes_count = c.open.ensures.writes_count;
}

pub returns-in-Err : goal.returns-in-Err
returns-in-Err g t c = record {
  gone = λ contents which before told was.
      let opened = c.in_ok-bytes.ensures.opened contents which before told was in
      text_stops c.cut_or_stop.ensures c.statements_are_tokens.ensures c.tree_or_refusal.ensures c.args.deep contents.files before c.args.name.now c.in_ok-bytes.bytes c.items.result.now c.in_ok-bytes.file c.args.progress.now.around.items c.in-Err.fault c.from.result c.open.new.progress
      opened.0 c.items.ensures c.from.ensures opened.1 opened.2 c.in-Err.ensures.refused;
  kept = λ which before was.
      then_goes before c.open.new.progress c.open.new.progress (Err c.from.result) (opened_goes before c.args.name.now c.in_ok-bytes.bytes _ (c.in_ok-bytes.ensures.kept which before was))
      (λ more kept. barred_goes more c.in-Err.fault c.from.result c.open.new.progress c.from.ensures kept);
  there = λ contents told are. finds {T = Unit {0}} contents.files (Err c.from.result) _ (c.in_ok-bytes.ensures.there contents told are);
  around = tt;
  failed = λ is. absurd (no_fault _ c.in-Err.fault c.from.ensures is);
  after = c.open.ensures.after;
  begun = c.open.ensures.begun;
  calls = c.open.ensures.calls;
  calm = λ other. c.in_ok-bytes.ensures.calm (done_no_fault _);
  reads_count = c.open.ensures.reads_count;
  writes_count = c.open.ensures.writes_count;
}

pub returns-in_err-included : goal.returns-in_err-included
returns-in_err-included g t c = record {
  gone = λ contents which before told was.
      let opened = c.in_ok-bytes.ensures.opened contents which before told was in
      let m = c.loop-i.invariant.gone contents which before told was in
      let name = c.args.name.now in
      let around = c.args.progress.now.around.items ++ name ∷ [] in
      let statements = cut_at 0 c.tokens.inside.ends.items (token_views c.tokens.inside.tokens.items) in
      let tokens = slice_index_or statements c.loop-i.i [] in
      let mid = (before ++ Opened name (content contents.files name) ∷ []) ++ m.done in
      let within : c.loop-i.i < length statements = subst (λ n. c.loop-i.i < n) (c.count-i-end.ensures ∙ ap length (sym c.tokens.view_is)) c.loop-i-test.true in
      told_as which _ before c.from_residual-in_err-included.result _ _ c.from_residual-in_err-included.ensures.1
      (midway_stops c.cut_or_stop.ensures c.statements_are_tokens.ensures c.tree_or_refusal.ensures c.args.progress.now.around.items c.take_up.new.progress _ within (has_read _ _ _ _ _ c.items.ensures opened.0 c.tokens.view_is c.in-Ok.ensures.read) m
      (statement_refused c.cut_or_stop.ensures c.statements_are_tokens.ensures c.tree_or_refusal.ensures c.args.deep contents.files around c.in_ok-bytes.file mid tokens _
      c.loop-i.progress c.take_up.new.progress
      (later_are_tokens c.statements_are_tokens.ensures _ statements c.loop-i.i within (has_read _ _ _ _ _ c.items.ensures opened.0 c.tokens.view_is c.in-Ok.ensures.read)).0
      m.kept c.in_err-included.ensures.names
      (refused_as which mid c.in_ok-bytes.file _ around _ tokens _ c.loop-i.invariant.around
      (c.statement.ensures.tokens ∙ ap (λ s. slice_index_or s c.loop-i.i []) (sym c.tokens.view_is)) (c.in_err-included.ensures.refused which mid m.kept))));
  kept = λ which before was.
      told_as which (λ places. Unit {0}) before c.from_residual-in_err-included.result _ _ c.from_residual-in_err-included.ensures.1
      (then_goes before c.loop-i.progress c.take_up.new.progress (Err (halt_of c.in_err-included.field-0.0)) (c.loop-i.invariant.kept which before was)
      (λ more kept. refused_goes more c.in_ok-bytes.file c.loop-i.progress.around.items (token_views c.statement.result.now) c.in_err-included.field-0.0 c.loop-i.progress c.take_up.new.progress kept c.in_err-included.ensures.names (c.in_err-included.ensures.refused which more kept)));
  there = λ contents told are.
      finds contents.files c.from_residual-in_err-included.result _
      (subst (λ l. AreThere contents.files l.items) (sym c.in_err-included.ensures.names) (c.loop-i.invariant.there contents told are));
  around = errs_on _ c.from_residual-in_err-included.result _ c.from_residual-in_err-included.ensures.1;
  failed = λ is. absurd (no_fault c.from_residual-in_err-included.result _ c.from_residual-in_err-included.ensures.1 is);
  after = c.loop-i.invariant.told;
  begun = c.loop-i.invariant.begun;
  calls = keeps_as c.loop-i.invariant.calls (ap (λ l. l.items) c.in_err-included.ensures.names);
  calm = λ other. c.loop-i.invariant.calm;
  reads_count = c.loop-i.invariant.reads_count;
  writes_count = c.loop-i.invariant.writes_count;
}

pub returns-in_err-read_file-in-Some : goal.returns-in_err-read_file-in-Some
returns-in_err-read_file-in-Some g t c = record {
  gone = λ contents which before told was.
      let opened = c.in_ok-bytes.ensures.opened contents which before told was in
      let m = c.loop-i.invariant.gone contents which before told was in
      let name = c.args.name.now in
      let around = c.args.progress.now.around.items ++ name ∷ [] in
      let statements = cut_at 0 c.tokens.inside.ends.items (token_views c.tokens.inside.tokens.items) in
      let tokens = slice_index_or statements c.loop-i.i [] in
      let mid = (before ++ Opened name (content contents.files name) ∷ []) ++ m.done in
      let within : c.loop-i.i < length statements = subst (λ n. c.loop-i.i < n) (c.count-i-end.ensures ∙ ap length (sym c.tokens.view_is)) c.loop-i-test.true in
      let after = c.loop-i.invariant.told in
      told_as which _ before c.from_residual-in_err-read_file-in-Some.result _ _ c.from_residual-in_err-read_file-in-Some.ensures.1
      (midway_stops c.cut_or_stop.ensures c.statements_are_tokens.ensures c.tree_or_refusal.ensures c.args.progress.now.around.items c.read_file.new.progress _ within (has_read _ _ _ _ _ c.items.ensures opened.0 c.tokens.view_is c.in-Ok.ensures.read) m
      (statement_reads c.args.deep contents.files around _ c.in_ok-bytes.file mid tokens c.in-Some.included.now (Err c.in_err-read_file-in-Some.field-0.0) c.take_up.new.progress c.read_file.new.progress
      c.if-deep-gt0.true (ap (λ a. a.items) c.in_ok-included.ensures.around ∙ c.loop-i.invariant.around)
      (taken_as mid c.in_ok-bytes.file _ around _ tokens _ (Some c.in-Some.included.now) c.take_up.new.progress c.loop-i.invariant.around
      (c.statement.ensures.tokens ∙ ap (λ s. slice_index_or s c.loop-i.i []) (sym c.tokens.view_is)) (ap option_copied c.in-Some.is) (c.in_ok-included.ensures.taken which mid m.kept))
      (λ more kept. c.in_err-read_file-in-Some.ensures.gone (with_rest after.0 contents) which more (tells_still after.0 _ _ contents after.1 told) kept)));
  kept = λ which before was.
      let went : Gone which before c.take_up.new.progress = then_goes before c.loop-i.progress c.take_up.new.progress (Ok (tt {0})) (c.loop-i.invariant.kept which before was)
      (λ more kept. let taken = c.in_ok-included.ensures.taken which more kept in said_goes more c.in_ok-bytes.file c.loop-i.progress.around.items taken.0 c.take_up.new.progress taken.3) in
      told_as which (λ places. Unit {0}) before c.from_residual-in_err-read_file-in-Some.result _ _ c.from_residual-in_err-read_file-in-Some.ensures.1
      (then_goes before c.take_up.new.progress c.read_file.new.progress (Err c.in_err-read_file-in-Some.field-0.0) went (c.in_err-read_file-in-Some.ensures.kept which));
  there = λ contents told are.
      let after = c.loop-i.invariant.told in
      finds_as (Unit {0}) contents.files c.from_residual-in_err-read_file-in-Some.result _ _ c.from_residual-in_err-read_file-in-Some.ensures.1
      (c.in_err-read_file-in-Some.ensures.there (with_rest after.0 contents) (tells_still after.0 _ _ contents after.1 told)
      (subst (λ l. AreThere contents.files l.items) (sym c.in_ok-included.ensures.names) (c.loop-i.invariant.there contents told are)));
  around = errs_on _ c.from_residual-in_err-read_file-in-Some.result _ c.from_residual-in_err-read_file-in-Some.ensures.1;
  failed = λ is. subst (λ n. Rose n (g.D.Desk.seen c.read_file.new.desk).reads) c.loop-i.invariant.calm.0 (c.in_err-read_file-in-Some.ensures.failed (as_told c.from_residual-in_err-read_file-in-Some.result _ c.from_residual-in_err-read_file-in-Some.ensures.1 is));
  after = let first = c.loop-i.invariant.told in let second = c.read_file.ensures.after in touched_again first.0 _ _ _ first.1 second.0 second.1;
  begun = c.read_file.ensures.begun ∙ c.loop-i.invariant.begun;
  calls = keeps_more (keeps_as c.loop-i.invariant.calls (ap (λ l. l.items) c.in_ok-included.ensures.names)) c.in_err-read_file-in-Some.ensures.calls;
  calm = λ other.
      let read = c.in_err-read_file-in-Some.ensures.calm (λ fault. other (same_fault c.from_residual-in_err-read_file-in-Some.result _ c.from_residual-in_err-read_file-in-Some.ensures.1 fault)) in
      (read.0 ∙ c.loop-i.invariant.calm.0, read.1 ∙ c.loop-i.invariant.calm.1);
  reads_count = up_through c.loop-i.invariant.reads_count c.read_file.ensures.reads_count;
  writes_count = up_through c.loop-i.invariant.writes_count c.read_file.ensures.writes_count;
}

pub returns : goal.returns
returns g t c = record {
  gone = λ contents which before told was.
      let opened = c.in_ok-bytes.ensures.opened contents which before told was in
      let m = c.loop-i.invariant.gone contents which before told was in
      let statements = cut_at 0 c.tokens.inside.ends.items (token_views c.tokens.inside.tokens.items) in
      let past : length statements ≤ c.loop-i.i = omega (arith, c.count-i-end.ensures, ap length c.tokens.view_is) in
      midway_ends c.args.progress.now.around.items c.leave.new.self tt past
      (has_read _ _ _ _ _ c.items.ensures opened.0 c.tokens.view_is c.in-Ok.ensures.read) m c.leave.ensures.rest;
  kept = λ which before was.
      let went = c.loop-i.invariant.kept which before was in
      (went.0, tt, went.2, progress_left (before ++ went.0) _ c.leave.new.self went.3 c.leave.ensures.rest);
  there = λ contents told are. subst (λ p. AreThere contents.files p.names.items) (sym c.leave.ensures.rest) (c.loop-i.invariant.there contents told are);
  around = left_again c.args.progress.now.around.items c.args.name.now c.loop-i.invariant.around c.leave.ensures.around;
  failed = λ is. absurd (done_no_fault _ is);
  after = c.loop-i.invariant.told;
  begun = c.loop-i.invariant.begun;
  calls = keeps_as c.loop-i.invariant.calls (ap (λ p. p.names.items) c.leave.ensures.rest);
  calm = λ other. c.loop-i.invariant.calm;
  reads_count = c.loop-i.invariant.reads_count;
  writes_count = c.loop-i.invariant.writes_count;
}
