use Rattle.std.proofs.Common.{◌∙◌, [], List, ap, length}
use Rattle.cc_defs.specs.ClauseForms.{all_written}
use Rattle.cc_defs.specs.ClauseLists.{Bodied, denials_of}
use Rattle.cc_defs.specs.Clauses.{Literal}
use Rattle.cc_form.specs.Making.{bodied, made_bodies}
use Rattle.cc_form.proofs.Finishing.{bodied_is, bodies_long}
use Rattle.cc_form.proofs.Leaving.{err_if, err_on}
use Rattle.cc_form.proofs.steps.ruled.Goals as goal

pub denied-requires : goal.denied-requires
denied-requires c = ap length (c.deref-2.ensures.value ∙ c.in_ok-made.ensures.literals) ∙ bodies_long c.args.writer.now.places c.args.stride c.args.writer.now.last c.args.rules.now

pub returns-clause-bodies : goal.returns-clause-bodies
returns-clause-bodies c =
    let made = made_bodies c.args.writer.now.places c.args.stride c.args.writer.now.last c.args.rules.now in
    c.in_ok-bodies.ensures.arena made.clauses (c.in_ok-made.ensures.built.gives.each [] c.requires.none)

pub returns-clause-denials : goal.returns-clause-denials
returns-clause-denials c =
    c.in_ok-denials.ensures.denials [] c.in_ok-bodies.ensures.none
    ∙ ap (λ (l : List Literal). all_written (denials_of (bodied c.args.rules.now l))) (c.deref-2.ensures.value ∙ c.in_ok-made.ensures.literals)
    ∙ ap (λ (r : List Bodied). all_written (denials_of r)) (bodied_is c.args.writer.now.places c.args.stride c.args.writer.now.last c.args.rules.now)

pub returns-in_err-made : goal.returns-in_err-made
returns-in_err-made c = let is = c.from_residual.ensures.0 in record { bodies = err_if _ _ is; denials = err_if _ _ is; literals = err_on _ _ is; last = err_on _ _ is; most = err_on _ _ is; places = err_on _ _ is; empty = err_on _ _ is }

pub returns-in_err-extend_from_slice : goal.returns-in_err-extend_from_slice
returns-in_err-extend_from_slice c = let is = c.from_residual-in_err-extend_from_slice.ensures.0 in record { bodies = err_if _ _ is; denials = err_if _ _ is; literals = err_on _ _ is; last = err_on _ _ is; most = err_on _ _ is; places = err_on _ _ is; empty = err_on _ _ is }

pub returns-in_err-bodies : goal.returns-in_err-bodies
returns-in_err-bodies c = let is = c.from_residual-in_err-bodies.ensures.0 in record { bodies = err_if _ _ is; denials = err_if _ _ is; literals = err_on _ _ is; last = err_on _ _ is; most = err_on _ _ is; places = err_on _ _ is; empty = err_on _ _ is }

pub returns-in_err-denials : goal.returns-in_err-denials
returns-in_err-denials c = let is = c.from_residual-in_err-denials.ensures.0 in record { bodies = err_if _ _ is; denials = err_if _ _ is; literals = err_on _ _ is; last = err_on _ _ is; most = err_on _ _ is; places = err_on _ _ is; empty = err_on _ _ is }
