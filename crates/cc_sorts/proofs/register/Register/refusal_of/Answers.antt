use Rattle.std.proofs.Common.{◌∙◌, Some, sym, ap, length, arith}
use Rattle.cc_sorts.specs.Declaring.{plain_declarations}
use Rattle.cc_sorts.specs.Tables.{TableView}
use Rattle.cc_sorts.proofs.Declared.{count_is, judged_some, judged_many, judged_none}
use Rattle.cc_sorts.proofs.register.Register.refusal_of.Goals as goal

pub overflow_add-count : goal.overflow_add-count
overflow_add-count c = omega (arith, c.self.invariant.few_puts, c.len.ensures, c.self.inside.puts.ok.0, c.count_puts.ensures 0 0)

pub returns-in-Some : goal.returns-in-Some
returns-in-Some c = λ left is. ap Some c.at.ensures
    ∙ judged_some c.args.file c.args.line left (plain_declarations c.args.file c.args.line c.args.new.now) c.in-Some.number
    (sym (c.in_ok-number.ensures c.args.file c.args.line left is) ∙ c.in-Some.is)

pub returns-then-saturating_sub-number : goal.returns-then-saturating_sub-number
returns-then-saturating_sub-number c = λ left is.
    let ds = plain_declarations c.args.file c.args.line c.args.new.now in
    let count = count_is c.args.self.now left ds c.count_puts.result is (c.count_puts.ensures c.args.file c.args.line) in
    let view = ap (λ (t : TableView). length t.puts) c.self.view_is in
    ap Some c.past_at.ensures
    ∙ judged_many c.args.file c.args.line left ds (sym (c.in_ok-number.ensures c.args.file c.args.line left is) ∙ c.in_default.is)
    (count.0 (omega (arith, view, c.if-saturating_sub-number.true, c.number.ensures, c.saturating_sub.ensures, c.self.inside.puts.ok.0)))

pub returns : goal.returns
returns c = λ left is.
    let ds = plain_declarations c.args.file c.args.line c.args.new.now in
    let count = count_is c.args.self.now left ds c.count_puts.result is (c.count_puts.ensures c.args.file c.args.line) in
    let view = ap (λ (t : TableView). length t.puts) c.self.view_is in
    judged_none c.args.file c.args.line left ds (sym (c.in_ok-number.ensures c.args.file c.args.line left is) ∙ c.in_default.is)
    (count.1 (omega (arith, view, c.if-saturating_sub-number.false, c.number.ensures, c.saturating_sub.ensures, c.self.inside.puts.ok.0)))
