use Rattle.std.proofs.Common.{◌∙◌, ◌++◌, ◌∷◌, [], ℕ, List, ap, map, subst, refl}
use Rattle.std.specs.Option.{IsSome}
use Rattle.std.proofs.lemmas.Result.{on_ok_weaker}
use Rattle.cc_sorts.specs.Lefts.{texts_of}
use Rattle.cc_sorts.proofs.Upward.{upper_added, texts_pushed, Keys}
use Rattle.cc_sorts.proofs.left.add_upper.Goals as goal

pub returns-in-Some : goal.returns-in-Some
returns-in-Some c = λ other.
    let written = c.get_mut.follows.holds c.push.new.self in
    upper_added c.args.uppers_of.now.entries (c.get_mut.follows.lender c.push.new.self).entries c.push.new.self c.args.upper.now c.args.lower.now other
    (texts_pushed c.push.new.self c.in-Some.uppers.now.items c.args.upper _ c.in_ok-push.ensures.items (ap texts_of c.in-Some.ensures.value))
    ((written.3 (subst IsSome c.in-Some.ensures.value refl)).0 (record { ref_ptr = (0, 0); now = other.1 }))

pub returns : goal.returns
returns c = on_ok_weaker c.put_entry.result (λ updates other.
    upper_added c.args.uppers_of.now.entries c.put_entry.new.map.entries c.in_ok-uppers.uppers c.args.upper.now c.args.lower.now other
    (ap (λ (keys : Keys). map (λ text. text.now) keys) c.in_ok-uppers.ensures.items ∙ ap (λ (texts : List (List ℕ)). texts ++ c.args.upper.now ∷ []) (ap texts_of c.in_default.ensures.value))
    (rw (c.get_mut.follows.holds-at-none) at (updates.0 (record { ref_ptr = (0, 0); now = other.1 })))) c.put_entry.ensures.updates
