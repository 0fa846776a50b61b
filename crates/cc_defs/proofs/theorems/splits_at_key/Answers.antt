-- A history after the key is a history that is above it.
use Rattle.cc_defs.proofs.Ascending.{split_at_key}
use Rattle.cc_defs.proofs.theorems.splits_at_key.Goals as goal

pub returns : goal.returns
returns c d q horizon key all later is_all is_later =
    split_at_key key all later is_all.ascending is_later.ascending (λ row. (
      (λ c. let history = (is_later.members row).0 c in
          ((is_all.members row).1 (record { path = history.path; meets = history.meets; after = tt }), history.after)),
      (λ h. let history = (is_all.members row).0 h.0 in
          (is_later.members row).1 (record { path = history.path; meets = history.meets; after = h.1 })),
    ))
