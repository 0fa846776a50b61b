use Rattle.std.proofs.Common.{Err, ap, inl, inr, refl}
use Rattle.cc_list.proofs.Callings.{limit_is_no_fault, ok_no_err}
use Rattle.cc_run.proofs.LogsJudged.{is_long, judges_read, reads_log}
use Rattle.cc_run.proofs.judging.judge_log.Goals as goal

pub returns-in-Ok : goal.returns-in-Ok
returns-in-Ok g c = λ subject about.
    let read = c.read_all.ensures in
    reads_log (g.J.Judge.Is subject) (g.J.Judge.Passes subject) g.J.Judge.line g.J.Judge.ends c.args.log.now _ (g.D.Desk.seen c.args.desk.now) (g.D.Desk.seen c.read_all.new.desk) _ c.tell_judged.result read.after read.begun read.calls read.reads_count read.writes_count
    (judges_read (g.J.Judge.Is subject) (g.J.Judge.Passes subject) g.J.Judge.line g.J.Judge.ends c.args.log.now c.number.result (g.D.Desk.seen c.args.desk.now) (g.D.Desk.seen c.read_all.new.desk) c.items.result.now c.in-Ok.bytes _ c.tell_judged.result c.items.ensures c.number.ensures
    c.in-Ok.ensures.bytes c.in-Ok.ensures.within (c.in-Ok.ensures.calm (ok_no_err _ _)) (c.tell_judged.ensures subject about))

pub returns-in-Err-Limit : goal.returns-in-Err-Limit
returns-in-Err-Limit g c = λ subject about.
    let read = c.read_all.ensures in
    reads_log (g.J.Judge.Is subject) (g.J.Judge.Passes subject) g.J.Judge.line g.J.Judge.ends c.args.log.now _ (g.D.Desk.seen c.args.desk.now) (g.D.Desk.seen c.read_all.new.desk) _ c.refuse.result read.after read.begun read.calls read.reads_count read.writes_count
    (is_long (g.J.Judge.Is subject) (g.J.Judge.Passes subject) g.J.Judge.line g.J.Judge.ends c.args.log.now c.number.result (g.D.Desk.seen c.args.desk.now) (g.D.Desk.seen c.read_all.new.desk) c.past.result _ c.refuse.result c.number.ensures c.past.ensures
    (c.in-Err-Limit.ensures.limit (ap Err c.in-Err-Limit.field-0-is)) (c.in-Err-Limit.ensures.calm (limit_is_no_fault _ c.in-Err-Limit.field-0-is)) c.refuse.ensures.told c.refuse.ensures.status)

pub returns-in-Err-Failed : goal.returns-in-Err-Failed
returns-in-Err-Failed g c = λ subject about.
    let read = c.read_all.ensures in
    reads_log (g.J.Judge.Is subject) (g.J.Judge.Passes subject) g.J.Judge.line g.J.Judge.ends c.args.log.now _ (g.D.Desk.seen c.args.desk.now) (g.D.Desk.seen c.read_all.new.desk) _ _ read.after read.begun read.calls read.reads_count read.writes_count
    (inr (inr (inl (refl, refl, c.in-Err-Failed.ensures.failed (ap Err c.in-Err-Failed.field-0-is)))))

pub returns-in-Err-OutOfMemory : goal.returns-in-Err-OutOfMemory
returns-in-Err-OutOfMemory g c = λ subject about.
    let read = c.read_all.ensures in
    reads_log (g.J.Judge.Is subject) (g.J.Judge.Passes subject) g.J.Judge.line g.J.Judge.ends c.args.log.now _ (g.D.Desk.seen c.args.desk.now) (g.D.Desk.seen c.read_all.new.desk) _ _ read.after read.begun read.calls read.reads_count read.writes_count (inr (inr (inr (refl, refl))))
