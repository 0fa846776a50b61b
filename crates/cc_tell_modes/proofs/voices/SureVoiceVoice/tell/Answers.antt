use Rattle.cc_tell_modes.proofs.Printing.{step_printable}
use Rattle.cc_tell_modes.proofs.voices.SureVoiceVoice.tell.Goals as goal

pub tell_sure-requires-clause-printable : goal.tell_sure-requires-clause-printable
tell_sure-requires-clause-printable g c = step_printable c.positions_have_sizes.ensures c.args.self.now.sig.now c.args.step.now c.requires.1
