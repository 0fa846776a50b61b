use Rattle.std.proofs.Common.{ℕ, ◌≤◌, ◌-◌, refl, ap, length, subst, sym, ◌∙◌}
use Rattle.cc_ports.proofs.Called.{only_opened, read_more, read_longer, readings_of_none, readings_with}
use Rattle.cc_ports.proofs.Told.{at_end, at_most_so, no_stop, none_within, opened, passed_limit, past_limit, still_below, taken_is, turn_more, turn_smaller, turn_within, was_read}
use Rattle.cc_ports.proofs.whole.read_all.Goals as goal

pub loop-bytes-init : goal.loop-bytes-init
loop-bytes-init g c =
    let opens = c.in_ok-open_file.ensures in
    record {
      within = none_within _ _ c.new-bytes.ensures.len;
      piece = refl;
      told = opened c.args.name.now c.new-bytes.result.items _ _ c.new-bytes.ensures.items opens.opened opens.there;
      begun = opens.begun;
      calls = only_opened c.args.name.now _ _ _ opens.calls;
      calm = opens.calm;
      reads_count = opens.reads_count;
      writes_count = opens.writes_count;
    }

pub returns-then-n-most-clause-after : goal.returns-then-n-most-clause-after
returns-then-n-most-clause-after g c =
    let read = was_read c.args.name.now _ _ _ c.in_ok-n.n (g.D.Desk.seen c.args.desk.now).told _ _
    c.loop-bytes.invariant.told c.in_ok-n.ensures.after c.in_ok-n.ensures.bytes refl in
    (read.0, read.1)

pub returns-in_err-extend_from_slice-clause-after : goal.returns-in_err-extend_from_slice-clause-after
returns-in_err-extend_from_slice-clause-after g c =
    let read = was_read c.args.name.now _ _ _ c.in_ok-n.n (g.D.Desk.seen c.args.desk.now).told _ _
    c.loop-bytes.invariant.told c.in_ok-n.ensures.after c.in_ok-n.ensures.bytes refl in
    (read.0, read.1)

pub loop-bytes-preserved : goal.loop-bytes-preserved
loop-bytes-preserved g c =
    let invariant = c.loop-bytes.invariant in
    let read = c.in_ok-n.ensures in
    let few = c.if-n-most.false in
    record {
      within = turn_within c.in_ok-n.n c.args.most _ _ c.loop-bytes.piece c.read.new.buffer read.count c.read.auto.buffer (subst (λ (n : ℕ). c.in_ok-n.n ≤ c.args.most - n) c.len.ensures few) invariant.within c.in_ok-extend_from_slice.ensures.len;
      piece = c.read.auto.buffer ∙ invariant.piece;
      told = was_read c.args.name.now _ _ _ c.in_ok-n.n (g.D.Desk.seen c.args.desk.now).told _ _ invariant.told read.after read.bytes c.in_ok-extend_from_slice.ensures.items;
      begun = read.begun ∙ invariant.begun;
      calls = read_longer c.args.name.now _ _ _ _
          (turn_more c.in_ok-n.n _ _ c.loop-bytes.piece c.read.new.buffer read.count c.read.auto.buffer c.if-n-eq0.false c.in_ok-extend_from_slice.ensures.len)
          (read_more c.args.name.now _ _ _ _ _ (at_most_so _ _ invariant.piece) invariant.calls read.calls);
      calm = (read.calm.0 ∙ invariant.calm.0, read.calm.1 ∙ invariant.calm.1);
      reads_count = still_below _ _ _ invariant.reads_count read.reads_count;
      writes_count = still_below _ _ _ invariant.writes_count read.writes_count;
    }

pub returns-in_err-open_file-clause-calls : goal.returns-in_err-open_file-clause-calls
returns-in_err-open_file-clause-calls g c = readings_of_none c.args.name.now c.args.most _ _ c.in_err-open_file.ensures.calls

pub returns-in_err-n-clause-calls : goal.returns-in_err-n-clause-calls
returns-in_err-n-clause-calls g c =
    readings_with c.args.name.now _ c.args.most _ _ _ _ c.loop-bytes.invariant.within c.loop-bytes.invariant.piece c.loop-bytes.invariant.calls c.in_err-n.ensures.calls

pub returns-then-n-eq0-clause-calls : goal.returns-then-n-eq0-clause-calls
returns-then-n-eq0-clause-calls g c =
    readings_with c.args.name.now _ c.args.most _ _ _ _ c.loop-bytes.invariant.within c.loop-bytes.invariant.piece c.loop-bytes.invariant.calls c.in_ok-n.ensures.calls

pub returns-then-n-most-clause-calls : goal.returns-then-n-most-clause-calls
returns-then-n-most-clause-calls g c =
    readings_with c.args.name.now _ c.args.most _ _ _ _ c.loop-bytes.invariant.within c.loop-bytes.invariant.piece c.loop-bytes.invariant.calls c.in_ok-n.ensures.calls

pub returns-in_err-extend_from_slice-clause-calls : goal.returns-in_err-extend_from_slice-clause-calls
returns-in_err-extend_from_slice-clause-calls g c =
    readings_with c.args.name.now _ c.args.most _ _ _ _ c.loop-bytes.invariant.within c.loop-bytes.invariant.piece c.loop-bytes.invariant.calls c.in_ok-n.ensures.calls

pub loop-bytes-smaller : goal.loop-bytes-smaller
loop-bytes-smaller g c =
    turn_smaller c.in_ok-n.n c.args.most _ _ c.loop-bytes.piece c.read.new.buffer c.in_ok-n.ensures.count c.read.auto.buffer (subst (λ (n : ℕ). c.in_ok-n.n ≤ c.args.most - n) c.len.ensures c.if-n-most.false) c.if-n-eq0.false
    c.in_ok-extend_from_slice.ensures.len

pub returns-then-n-most-clause-limit : goal.returns-then-n-most-clause-limit
returns-then-n-most-clause-limit g c = λ _.
    past_limit c.args.name.now _ c.args.most (g.D.Desk.seen c.args.desk.now).told _
    (was_read c.args.name.now _ _ _ c.in_ok-n.n (g.D.Desk.seen c.args.desk.now).told _ _ c.loop-bytes.invariant.told c.in_ok-n.ensures.after c.in_ok-n.ensures.bytes refl)
    (passed_limit c.in_ok-n.n c.args.most c.len.result c.loop-bytes.bytes.items c.loop-bytes.piece c.read.new.buffer c.in_ok-n.ensures.count c.read.auto.buffer (c.len.ensures ∙ c.loop-bytes.bytes.ok.0) c.if-n-most.true)

pub returns-then-n-eq0-clause-bytes : goal.returns-then-n-eq0-clause-bytes
returns-then-n-eq0-clause-bytes g c =
    at_end c.args.name.now c.loop-bytes.bytes.items c.of.result _ _ (g.D.Desk.seen c.args.desk.now).told _ c.loop-bytes.invariant.told c.in_ok-n.ensures.bytes c.if-n-eq0.true c.of.ensures

pub returns-then-n-eq0-clause-failed : goal.returns-then-n-eq0-clause-failed
returns-then-n-eq0-clause-failed g c = λ wrong. absurd (no_stop _ _ wrong)

pub returns-then-n-eq0-clause-limit : goal.returns-then-n-eq0-clause-limit
returns-then-n-eq0-clause-limit g c = λ wrong. absurd (no_stop _ _ wrong)

pub returns-then-n-eq0-clause-after : goal.returns-then-n-eq0-clause-after
returns-then-n-eq0-clause-after g c =
    let read = was_read c.args.name.now _ _ _ c.in_ok-n.n (g.D.Desk.seen c.args.desk.now).told _ _
    c.loop-bytes.invariant.told c.in_ok-n.ensures.after c.in_ok-n.ensures.bytes refl in
    (read.0, read.1)

pub returns-then-n-eq0-clause-within : goal.returns-then-n-eq0-clause-within
returns-then-n-eq0-clause-within g c = subst (λ (n : ℕ). n ≤ c.args.most) (c.loop-bytes.bytes.ok.0 ∙ ap length (sym c.of.ensures)) c.loop-bytes.invariant.within

pub slice_bounds-extend_from_slice-end : goal.slice_bounds-extend_from_slice-end
slice_bounds-extend_from_slice-end g c = taken_is c.in_ok-n.n c.loop-bytes.piece c.read.new.buffer c.in_ok-n.ensures.count c.read.auto.buffer
