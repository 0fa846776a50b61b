-- Where a log of impossible atoms is accepted, no history has an atom that it names.
use Rattle.std.proofs.Common.{ℕ, ◌≤◌, List, None}
use Rattle.std.specs.Prelude.{false, true}
use Rattle.cc_check.specs.declared.silent.SilentVerdict.{SilentVerdict}
use Rattle.cc_check.specs.Laws.{SilentSectionsHaveNoRows}
use Rattle.cc_check.specs.Silent.{IsSilentVerdict}
use Rattle.cc_defs.specs.Description.{Description}
use Rattle.cc_defs.specs.Histories.{IsHistory}
use Rattle.cc_defs.specs.Resolved.{Query}
use Rattle.cc_defs.specs.Runs.{axioms_of, range_of}
use Rattle.cc_form.specs.Forms.{TellsHistories, form_of}
use Rattle.cc_silent.specs.SureLogs.{RefutesAtoms, atom_heading, sure_subject}
use Rattle.cc_silent.proofs.AcceptedSilent.{accepted_refutes}
use Rattle.cc_silent.proofs.Atoms.{atom_tells}
use Rattle.cc_silent.proofs.SureHeadings.{no_header, one_heading}

pub refutes : (law : SilentSectionsHaveNoRows) (d : Description) (q : Query) (bytes : List ℕ) (verdict : SilentVerdict) → IsSilentVerdict (sure_subject d q) bytes verdict →
    ((horizon : ℕ) → (range_of q).0 ≤ horizon → horizon ≤ (range_of q).1 → TellsHistories d q horizon None (form_of d q horizon true None)) →
    RefutesAtoms d q bytes verdict
refutes law d q bytes verdict is tells = λ count accepted heading there reads row sought.
    let refuted = accepted_refutes (sure_subject d q) law one_heading no_header bytes verdict is count accepted
    (atom_heading heading.horizon heading.position heading.value) there heading reads in
    let (size, at, less) = refuted.right.atom in
    let own = atom_tells (axioms_of d q None false heading.horizon) heading.position heading.value size at less (IsHistory d q heading.horizon None)
    (tells heading.horizon refuted.right.least refuted.right.most) in
    refuted.none row ((own.rows row).1 sought)
