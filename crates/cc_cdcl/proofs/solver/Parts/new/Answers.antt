use Rattle.std.proofs.Common.{◌≡◌, ◌∙◌, ◌+◌, ℕ, List, length, get_or, sym, subst, ap, arith, rules}
use Rattle.cc_cdcl.specs.declared.choice.Cursor.{Cursor}
use Rattle.cc_cdcl.specs.Searches.{IsSection}
use Rattle.cc_cdcl.proofs.Listing.{none_derived, section_new}
use Rattle.cc_cdcl.proofs.Probing.{phase_of}
use Rattle.cc_cdcl.proofs.Standing.{first_of, searching_new}
use Rattle.cc_cdcl.proofs.solver.Parts.new.Goals as goal

pub invariant_of-result : goal.invariant_of-result
invariant_of-result c =
    let cursors : List Cursor = c.in_ok-cursors.cursors.items in
    let room : length cursors ≡ c.args.kernel.variables + 1 =
    (let count = c.in_ok-cursors.ensures.len in let long = c.in_ok-cursors.cursors.ok.0 in let same = c.variables.ensures.variables in omega arith) in
    let first : (other : Cursor) → get_or cursors 0 other ≡ record { position = 0; first = 1; variable = 1 } =
    (λ other. first_of cursors (c.variables.result + 1) c.variables.result c.start.result (omega arith)
    (c.in_ok-cursors.ensures.items_if_clones_equal (λ y h. search rules)) other ∙ c.start.ensures) in
    record {
      section = subst (λ (ns : List ℕ). IsSection ns c.args.kernel) (sym c.in_ok-own_sizes.ensures.items)
          (section_new c.args.sizes.now c.args.kernel c.requires.axioms c.requires.positions c.variables.ensures.clauses);
      room =
          let count = c.in_ok-row.ensures.len in let long = c.in_ok-row.row.ok.0 in
          let same : length c.in_ok-own_sizes.own_sizes.items ≡ length c.args.sizes.now = ap length c.in_ok-own_sizes.ensures.items in omega arith;
      stands = record {
        derived = none_derived c.args.kernel c.requires.axioms;
        in_phase = phase_of _ c.in_ok-own_sizes.own_sizes.items c.args.kernel c.in_ok-trail.trail cursors
            (searching_new c.in_ok-own_sizes.own_sizes.items c.args.kernel c.in_ok-trail.trail cursors c.in_ok-trail.ensures.new c.in_ok-trail.ensures.fits
            c.in_ok-trail.ensures.settled room first);
      };
    }
