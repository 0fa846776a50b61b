use Rattle.std.proofs.Common.{List, [], ◌∷◌, ◌++◌, ◌||◌, eqb, length, length-append, ap, ◌∙◌}
use Rattle.cc_defs.specs.Clauses.{Literal}
use Rattle.cc_check.proofs.Judged.{sound_added}
use Rattle.cc_check.proofs.judge.Checker.add.Goals as goal

pub returns-clause-sound : goal.returns-clause-sound
returns-clause-sound c =
    sound_added c.args.form.now c.args.self.now.own c.push.new.self c.args.self.now.stage.clause.items c.args.self.now.refuted c.is_refuted_with-self.result
    c.requires.sound c.requires.clause
    (c.in_ok-push.ensures.pushed ∙ ap (λ (clause : List Literal). c.args.self.now.own ++ clause ∷ []) c.deref.ensures.value)
    (c.is_refuted_with-self.ensures ∙ ap (λ (clause : List Literal). c.args.self.now.refuted || eqb (length clause) 0) c.deref-2.ensures.value)

pub returns-clause-grown : goal.returns-clause-grown
returns-clause-grown c = ap length c.in_ok-push.ensures.pushed ∙ length-append c.args.self.now.own (c.deref.result.now ∷ [])
