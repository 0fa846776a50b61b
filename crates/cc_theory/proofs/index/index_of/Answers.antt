use Rattle.std.proofs.Common.{◌∙◌, ◌≤◌, ℕ, List, ap, length, subst, sym, rules}
use Rattle.cc_theory.specs.Groups.{sizes_of, starts, place_keys, AreBelow, AreGroups, places}
use Rattle.cc_theory.proofs.HeadPlaces.{keys_below}
use Rattle.cc_theory.proofs.Made.{length_mapped}
use Rattle.cc_theory.proofs.index.index_of.Goals as goal

pub place_count-requires : goal.place_count-requires
place_count-requires c = record { firsts = c.deref-2.ensures.value ∙ c.in_ok-firsts.ensures ∙ ap (starts 0) (c.deref.ensures.value ∙ c.in_ok-sizes.ensures) }

pub keys-requires-clause-firsts : goal.keys-requires-clause-firsts
keys-requires-clause-firsts c = c.deref-3.ensures.value ∙ c.in_ok-firsts.ensures ∙ ap (starts 0) (c.deref.ensures.value ∙ c.in_ok-sizes.ensures)

pub keys-requires-clause-heads : goal.keys-requires-clause-heads
keys-requires-clause-heads c = c.requires.heads

pub grouped-requires-clause-few : goal.grouped-requires-clause-few
grouped-requires-clause-few c = subst (λ (n : ℕ). n ≤ 8000000) (sym (ap length (c.deref-4.ensures.value ∙ c.in_ok-keys.ensures) ∙ length_mapped _ c.args.rules.now)) c.requires.count

pub grouped-requires-clause-below : goal.grouped-requires-clause-below
grouped-requires-clause-below c =
    let sizes = sizes_of c.args.sig.now in
    subst (λ (keys : List ℕ). AreBelow c.in_ok-count.count keys) (sym (c.deref-4.ensures.value ∙ c.in_ok-keys.ensures))
    (subst (λ (n : ℕ). AreBelow n (place_keys sizes c.args.horizon c.args.rules.now)) (sym c.in_ok-count.ensures) (keys_below sizes c.args.horizon c.args.rules.now c.requires.heads))

pub returns : goal.returns
returns c =
    let index = c.in_ok-groups.groups in
    record {
      firsts_are = c.in_ok-firsts.ensures ∙ ap (starts 0) (c.deref.ensures.value ∙ c.in_ok-sizes.ensures);
      few = let count = c.in_ok-count.ensures in search rules;
      heads_fit = c.requires.heads;
      groups = subst (λ (keys : List ℕ). AreGroups keys (places (sizes_of c.args.sig.now) c.args.horizon) index.begins.items index.numbers.items) (c.deref-4.ensures.value ∙ c.in_ok-keys.ensures)
          (subst (λ (n : ℕ). AreGroups c.deref-4.result.now n index.begins.items index.numbers.items) c.in_ok-count.ensures c.in_ok-groups.ensures);
    }
