use Rattle.std.proofs.Common.{rules, arith}
use Rattle.cc_defs.specs.declared.log.Version.TheVariants.{First}
use Rattle.cc_check.specs.Silent.{IsUnread}
use Rattle.cc_check.proofs.FirstTexts.{line_text_first, text_shorter}
use Rattle.cc_check.proofs.Parted.{cut_some, inside_begun, inside_more}
use Rattle.cc_check.proofs.SilentLogs.{fewer_behind, read_so, silent_all, silent_at, unread_so}
use Rattle.cc_check.proofs.silent.inside_of.Goals as goal

pub loop-alloc-preserved : goal.loop-alloc-preserved
loop-alloc-preserved g c =
    let first = line_text_first _ _ _ c.first_line.ensures in (
      fewer_behind c.loop-alloc.rest.now c.first_line.result.0.now c.first_line.result.1.now c.loop-alloc.count _ c.first_line.ensures c.loop-alloc.invariant.0,
      (λ of is. inside_more First (IsUnread (g.S.Silent.subject of)) c.args.all.now c.loop-alloc.rest.now c.loop-alloc.count (c.loop-alloc.invariant.1 of is)
          c.first_line.result.0.now c.first_line.result.1.now (cut_some First _ _ _ first) first
          (unread_so (g.S.Silent.subject of) c.first_line.result.0.now c.in_ok-is_read.field-0 c.if-branch.false (c.in_ok-is_read.ensures of is))),
    )

pub returns-then-branch-clause-inside : goal.returns-then-branch-clause-inside
returns-then-branch-clause-inside g c = λ of is.
    silent_at (g.S.Silent.subject of) c.args.all.now c.loop-alloc.rest.now c.loop-alloc.count (c.loop-alloc.invariant.1 of is) c.first_line.result.0.now
    c.first_line.result.1.now c.ahead-bytes.result.now c.first_line.ensures
    (read_so (g.S.Silent.subject of) c.first_line.result.0.now c.in_ok-is_read.field-0 c.if-branch.true (c.in_ok-is_read.ensures of is)) c.ahead-bytes.ensures

pub loop-alloc-init : goal.loop-alloc-init
loop-alloc-init g c = (omega arith, (λ of is. inside_begun First (IsUnread (g.S.Silent.subject of)) c.args.all.now))

pub returns-clause-inside : goal.returns-clause-inside
returns-clause-inside g c = λ of is.
    silent_all (g.S.Silent.subject of) c.args.all.now c.loop-alloc.rest.now c.loop-alloc.count (c.loop-alloc.invariant.1 of is) (search rules)

pub loop-alloc-smaller : goal.loop-alloc-smaller
loop-alloc-smaller g c = text_shorter _ _ _ _ (line_text_first _ _ _ c.first_line.ensures)
