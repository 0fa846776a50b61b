-- Calls as those of acts, one after another.
use Rattle.std.proofs.Common.{◌≡◌, ◌∙◌, refl, sym, ap, ℕ, List, [], ◌∷◌, ◌++◌, map, flat_map, append-nil}
use Rattle.std.proofs.lemmas.Grind.{flat_map-append}
use Rattle.std.proofs.lemmas.List.Concat.{flat_map-cons}
use Rattle.cc_ports.specs.Calls.{Act, AreActs, AreGivings, AreReadings, Begins, BeginsLog, Call, Gives, GivesBytes, ReadsFile, calls_of}
use Rattle.cc_ports.specs.declared.desk.To.{To}

pub acts_none : AreActs []
acts_none = record { acts = []; calls_are = refl }

pub acts_both : (first second : List Call) → AreActs first → AreActs second → AreActs (first ++ second)
acts_both first second one other = record {
  acts = one.acts ++ other.acts;
  calls_are = (λ i. one.calls_are i ++ other.calls_are i) ∙ sym (flat_map-append calls_of one.acts other.acts);
}

gives_each : (to : To) (parts : List (List ℕ)) → map (Gives to) parts ≡ flat_map calls_of (map (GivesBytes to) parts)
gives_each to [] = refl
gives_each to (part ∷ parts) =
    ap (λ (l : List Call). Gives to part ∷ l) (gives_each to parts) ∙ sym (flat_map-cons calls_of (GivesBytes to part) (map (GivesBytes to) parts))

-- what `give_all` says of its calls
pub acts_given : (to : To) (calls : List Call) → AreGivings to calls → AreActs calls
acts_given to calls are = record { acts = map (GivesBytes to) are.parts; calls_are = are.calls_are ∙ gives_each to are.parts }

one_act : (act : Act) → calls_of act ≡ flat_map calls_of (act ∷ [])
one_act act = sym (append-nil (calls_of act)) ∙ sym (flat_map-cons calls_of act [])

-- what `read_all` says of its calls
pub acts_read : (name : List ℕ) (most : ℕ) (calls : List Call) → AreReadings name most calls → AreActs calls
acts_read name most calls are = record { acts = ReadsFile name are.rooms ∷ []; calls_are = are.calls_are ∙ one_act (ReadsFile name are.rooms) }

-- what `create_file` says of its call
pub acts_begun : (name : List ℕ) → AreActs (Begins name ∷ [])
acts_begun name = record { acts = BeginsLog name ∷ []; calls_are = one_act (BeginsLog name) }
