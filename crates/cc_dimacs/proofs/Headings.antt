-- Headings, word by word.
use Rattle.std.proofs.Common.{◌≡◌, ◌∙◌, ℕ, List, [], ◌∷◌, Option, Some, None, MatchOption, codes, decimal, sym, ap}
use Rattle.cc_defs.specs.LogTexts.{IsShort}
use Rattle.cc_dimacs.specs.CnfTexts.{IsHeading}
use Rattle.cc_dimacs.specs.Reading.{BeginWith, number_of}
use Rattle.cc_dimacs.proofs.Numbers.{number_complete, number_sound}

pub none_so : {X : Type 0} (option : Option X) (Nothing : Type 0) (Something : X → Type 0) → option ≡ None → Nothing → MatchOption option Nothing Something
none_so None Nothing Something is so = so
none_so (Some x) Nothing Something is so = absurd cc

pub no_number : (words others : List (List ℕ)) (word : List ℕ) → words ≡ word ∷ others → number_of word ≡ None → (number : ℕ) → IsShort number → BeginWith (decimal number) words → ⊥
no_number words others word is none number short begin =
    let begins = begin.1 in
    let same : word ≡ decimal number = cc in
    let wrong : None ≡ Some number = sym none ∙ ap number_of same ∙ number_complete number short in
    cc

pub is_number : (words others : List (List ℕ)) (word : List ℕ) (number : ℕ) → words ≡ word ∷ others → number_of word ≡ Some number → IsShort number × (words ≡ decimal number ∷ others)
is_number words others word number is read =
    let h = number_sound word number read in
    (h.0, is ∙ ap (λ (w : List ℕ). w ∷ others) h.1)

module _ (words name numbers : List (List ℕ)) (first : words ≡ codes "p" ∷ name) (second : name ≡ codes "cnf" ∷ numbers) where
  pub no_variables : ((number : ℕ) → IsShort number → BeginWith (decimal number) numbers → ⊥) → (variables count : ℕ) → IsHeading words variables count → ⊥
  no_variables none variables count heading =
      let spelled = heading.spelled in
      let same : numbers ≡ decimal variables ∷ decimal count ∷ [] = cc in
      none variables heading.variables_short (decimal count ∷ [], same)

  pub no_count : (own : ℕ) (rest : List (List ℕ)) → numbers ≡ decimal own ∷ rest → ((number : ℕ) → IsShort number → BeginWith (decimal number) rest → ⊥) → (variables count : ℕ) → IsHeading words variables count → ⊥
  no_count own rest third none variables count heading =
      let spelled = heading.spelled in
      let same : rest ≡ decimal count ∷ [] = cc in
      none count heading.count_short ([], same)
