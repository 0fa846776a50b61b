use Rattle.std.proofs.Common.{◌<◌, ◌≤◌, ◌≡◌, ap, arith, get_or, length}
use Rattle.std.proofs.lemmas.Option.{slice_get-get_or}
use Rattle.cc_defs.specs.ClauseForms.{first_variable}
use Rattle.cc_defs.specs.Clauses.{Literal}
use Rattle.cc_defs.specs.Sections.{row_denial}
use Rattle.cc_check.specs.Readers.{numbers_of}
use Rattle.cc_check.proofs.Literals.{denial_begun, denial_more, denial_short, denial_done, denial_clause, row_next, over_push, first_variable_some}
use Rattle.cc_check.proofs.clauses.write_denial.Goals as goal

pub loop-i-init : goal.loop-i-init
loop-i-init c = record {
  denial = rw c.clear.ensures.items (denial_begun c.args.form.now.sizes (numbers_of c.args.row.now));
  row = c.requires;
  over = rw c.clear.ensures.items tt;
}

pub denied-requires : goal.denied-requires
denied-requires c =
    let same = ap length c.sizes-count.ensures.sizes in
    let within : c.loop-i.i < length c.args.form.now.sizes = omega (arith, same, c.loop-i-test.true) in (
      get_or c.args.form.now.sizes c.loop-i.i 0,
      slice_get-get_or c.args.form.now.sizes c.loop-i.i 0 within,
      (row_next c.args.form.now.sizes c.loop-i.i (numbers_of c.loop-i.rest) c.in-Some.index (numbers_of c.next.new.self) within c.in-Some.ensures c.loop-i.invariant.row).0,
    )

pub loop-i-preserved : goal.loop-i-preserved
loop-i-preserved c =
    let same = ap length c.sizes-count.ensures.sizes in
    let within : c.loop-i.i < length c.args.form.now.sizes = omega (arith, same, c.loop-i-test.true) in
    let some = first_variable_some c.args.form.now.sizes c.loop-i.i in
    let variable = ap (λ (l : Literal). l.variable) c.denied.ensures.literal in
    record {
      denial = rw (c.in_ok-push.ensures.items, c.denied.ensures.literal)
          (denial_more c.args.form.now.sizes c.loop-i.i c.loop-i.out.items (numbers_of c.loop-i.rest) c.in-Some.index (numbers_of c.next.new.self)
          (row_denial c.args.form.now.sizes (numbers_of c.args.row.now)) within c.in-Some.ensures c.loop-i.invariant.denial);
      row = (row_next c.args.form.now.sizes c.loop-i.i (numbers_of c.loop-i.rest) c.in-Some.index (numbers_of c.next.new.self) within c.in-Some.ensures
          c.loop-i.invariant.row).1;
      over = rw c.in_ok-push.ensures.items (over_push c.args.form.now.variables c.loop-i.out.items _ c.loop-i.invariant.over (omega arith) c.denied.ensures.over);
    }

pub returns-in_default-clause-denial : goal.returns-in_default-clause-denial
returns-in_default-clause-denial c =
    denial_short _ (numbers_of c.loop-i.rest) (first_variable c.args.form.now.sizes c.loop-i.i) c.loop-i.out.items
    (row_denial c.args.form.now.sizes (numbers_of c.args.row.now)) c.in_default.ensures c.loop-i.invariant.denial

pub returns-in_default-clause-clause : goal.returns-in_default-clause-clause
returns-in_default-clause-clause c =
    let is : c.loop-i.out.items ≡ row_denial c.args.form.now.sizes (numbers_of c.args.row.now) =
    denial_short _ (numbers_of c.loop-i.rest) (first_variable c.args.form.now.sizes c.loop-i.i) c.loop-i.out.items
    (row_denial c.args.form.now.sizes (numbers_of c.args.row.now)) c.in_default.ensures c.loop-i.invariant.denial in
    (rw is (denial_clause c.args.form.now.sizes (numbers_of c.args.row.now) c.requires), c.loop-i.invariant.over)

pub returns-clause-denial : goal.returns-clause-denial
returns-clause-denial c =
    let same = ap length c.sizes-count.ensures.sizes in
    denial_done c.args.form.now.sizes c.loop-i.i (first_variable c.args.form.now.sizes c.loop-i.i) (numbers_of c.loop-i.rest) c.loop-i.out.items
    (row_denial c.args.form.now.sizes (numbers_of c.args.row.now)) (omega (arith, same, c.loop-i-test.false)) c.loop-i.invariant.denial

pub returns-clause-clause : goal.returns-clause-clause
returns-clause-clause c =
    let same = ap length c.sizes-count.ensures.sizes in
    let all : length c.args.form.now.sizes ≤ c.loop-i.i = omega (arith, same, c.loop-i-test.false) in
    let is : c.loop-i.out.items ≡ row_denial c.args.form.now.sizes (numbers_of c.args.row.now) =
    denial_done c.args.form.now.sizes c.loop-i.i (first_variable c.args.form.now.sizes c.loop-i.i) (numbers_of c.loop-i.rest) c.loop-i.out.items
    (row_denial c.args.form.now.sizes (numbers_of c.args.row.now)) all c.loop-i.invariant.denial in
    (rw is (denial_clause c.args.form.now.sizes (numbers_of c.args.row.now) c.requires), c.loop-i.invariant.over)
