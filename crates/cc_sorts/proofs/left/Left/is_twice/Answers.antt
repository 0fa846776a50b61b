use Rattle.std.proofs.Common.{◌≡◌, subst, sym}
use Rattle.cc_sorts.specs.Lefts.{twice_by}
use Rattle.cc_sorts.proofs.left.Left.is_twice.Goals as goal

pub returns-in-Numbers : goal.returns-in-Numbers
returns-in-Numbers c = subst (λ d. c.has_from.result ≡ twice_by c.args.self.now d) (sym c.in-Numbers.is) c.has_from.ensures

pub returns-in-Variable : goal.returns-in-Variable
returns-in-Variable c = subst (λ d. c.is_taken-in-Variable.result ≡ twice_by c.args.self.now d) (sym c.in-Variable.is) c.is_taken-in-Variable.ensures

pub returns-in-Object : goal.returns-in-Object
returns-in-Object c = subst (λ d. c.is_taken.result ≡ twice_by c.args.self.now d) (sym c.in-Object.is) c.is_taken.ensures

pub returns-in-Constant : goal.returns-in-Constant
returns-in-Constant c = subst (λ d. c.is_taken-in-Constant.result ≡ twice_by c.args.self.now d) (sym c.in-Constant.is) c.is_taken-in-Constant.ensures
