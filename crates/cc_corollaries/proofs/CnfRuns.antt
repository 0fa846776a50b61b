-- A run over a CNF that came to its end with an answer: its section, and what that means.
use Rattle.std.proofs.Common.{◌≡◌, ◌≢◌, ◌∙◌, refl, sym, ap, subst, ℕ, List, [], ◌∷◌, ◌++◌, length, flat_map, Option, Some, inl, inr, append-nil}
use Rattle.std.proofs.lemmas.Option.{same_Some}
use Rattle.cc_corollaries.specs.Cnfs.{AskedMeansTheFirstOfThem, CompleteMeansAllOfThem, NoModelMeansNone}
use Rattle.cc_corollaries.specs.Ran.{AskedForModels}
use Rattle.cc_corollaries.proofs.Ended.{ended_so, not_refused}
use Rattle.cc_corollaries.proofs.Nones.{in_none}
use Rattle.cc_defs.specs.declared.log.EndWord.{EndWord}
use Rattle.cc_defs.specs.declared.log.EndWord.TheVariants as words
use Rattle.cc_defs.specs.Histories.{AreAllOf}
use Rattle.cc_defs.specs.Runs.{Section, TellsRows, optional, rows_of}
use Rattle.cc_describe.specs.Places.{Files}
use Rattle.cc_dimacs.specs.Cnfs.{PlainCnf, IsModelOf, cnf_axioms}
use Rattle.cc_dimacs.specs.CnfTexts.{IsCnfText}
use Rattle.cc_dimacs.specs.Laws.{OneCnf}
use Rattle.cc_list.specs.Answers.{Ended, left_in}
use Rattle.cc_list.specs.Names.{IsAnswer}
use Rattle.cc_list.specs.Wholes.{Left}
use Rattle.cc_ports.specs.Contents.{Contents}
use Rattle.cc_run.specs.Modes.Modelling.{EndsModels, IsCnfIn, modelling_promise}
use Rattle.cc_tell.specs.declared.status.Status.{Status}
use Rattle.cc_tell.specs.declared.status.Status.TheVariants as statuses
use Rattle.cc_tell_modes.specs.ModelTexts.{model_lines, models_end, models_status, models_text}
use Rattle.cc_words.specs.Requests.{Modelling, ToModel}
use Rattle.cc_words.specs.Words.{Text}

-- a file spells one CNF
pub same_cnf : OneCnf → (files : Files) (file : Text) (one other : PlainCnf) → IsCnfIn files file one → IsCnfIn files file other → one ≡ other
same_cnf unique files file one other first second =
    unique first.bytes one other first.spelled
    (subst (λ (bytes : List ℕ). IsCnfText bytes other) (same_Some second.bytes first.bytes (sym second.there ∙ first.there)) second.spelled)

-- a section that ended, and what was printed of it
record EndedModels (cnf : PlainCnf) (count : Option ℕ) (status : Status) (out : List ℕ) : Type 0 where
  pub budget : ℕ
  pub section : Section
  pub tells : TellsRows (IsModelOf cnf) (cnf_axioms cnf) count budget section
  pub word : EndWord
  pub ends : section.word ≡ Some word
  pub status_is : status ≡ models_status (length (rows_of section)) word
  pub out_is : out ≡ models_text section

module _ (files : Files) (modelling : Modelling) (status : Status) (answer : IsAnswer status) where
  ended_models : OneCnf → (cnf : PlainCnf) → IsCnfIn files modelling.file cnf → (left : Left) → Ended files (modelling_promise modelling) status left →
      EndedModels cnf modelling.count status left.given.out
  ended_models unique cnf named left ended = elim ended.gives [
    | inl refused ↦ not_refused status answer (same_Some status statuses.Refused (sym ended.ends ∙ refused.ends))
    | inr lists ↦
        subst (λ (cnf : PlainCnf). EndedModels cnf modelling.count status left.given.out) (same_cnf unique files modelling.file lists.cnf cnf lists.is named)
        (elim (subst (EndsModels lists.cnf lists.section ended.whole.given.err) ended.ends lists.ends) [
          | inl (word, is, err, status_is) ↦ record {
            budget = modelling.budget;
            section = lists.section;
            tells = lists.tells;
            word = word;
            ends = is;
            status_is = status_is;
            out_is = ap (λ (l : Left). l.given.out) ended.left_is ∙ lists.out;
          }
          | inr (none, many, err, is) ↦ not_refused status answer is
        ])
  ]

models_run : OneCnf → (cnf : PlainCnf) (status : Status) (after : Contents) → IsAnswer status → (asked : AskedForModels cnf status after) →
    EndedModels cnf asked.modelling.count status after.out
models_run unique cnf status after answer is =
    ended_models is.before.files is.modelling status answer unique cnf is.named (left_in after is.ran.answered.log is.ran.begun)
    (ended_so (ToModel is.modelling) is.before after status answer is.ran)

-- ---- what is printed

printed : (section : Section) (word : EndWord) → section.word ≡ Some word →
    models_text section ≡ model_lines 1 (rows_of section) ++ models_end (length (rows_of section)) word
printed section word is =
    ap (λ (o : Option EndWord). model_lines 1 (rows_of section) ++ flat_map (models_end (length (rows_of section))) (optional o)) is
    ∙ ap (λ (l : List ℕ). model_lines 1 (rows_of section) ++ l) (append-nil (models_end (length (rows_of section)) word))

-- ---- by the status

right_is : (rows : List (List ℕ)) (word : EndWord) → statuses.Right ≡ models_status (length rows) word → (word ≡ words.Empty) × (rows ≢ [])
right_is [] words.Empty is = absurd cc
right_is (row ∷ rows) words.Empty is = (refl, λ none. absurd cc)
right_is rows words.Found is = absurd cc
right_is rows words.Spent is = absurd cc

not_is : (rows : List (List ℕ)) (word : EndWord) → statuses.Not ≡ models_status (length rows) word → (word ≡ words.Empty) × (rows ≡ [])
not_is [] words.Empty is = (refl, refl)
not_is (row ∷ rows) words.Empty is = absurd cc
not_is rows words.Found is = absurd cc
not_is rows words.Spent is = absurd cc

asked_is : (rows : List (List ℕ)) (word : EndWord) → statuses.Asked ≡ models_status (length rows) word → word ≡ words.Found
asked_is [] words.Empty is = absurd cc
asked_is (row ∷ rows) words.Empty is = absurd cc
asked_is rows words.Found is = refl
asked_is rows words.Spent is = absurd cc

pub all_of_them : OneCnf → CompleteMeansAllOfThem
all_of_them unique cnf after is =
    let run = models_run unique cnf statuses.Right after tt is in
    let (empty, some) = right_is (rows_of run.section) run.word run.status_is in
    let ends : run.section.word ≡ Some words.Empty = run.ends ∙ ap Some empty in
    (rows_of run.section, run.tells.all_told ends, some, run.out_is ∙ printed run.section words.Empty ends)

pub first_of_them : OneCnf → AskedMeansTheFirstOfThem
first_of_them unique cnf after is =
    let run = models_run unique cnf statuses.Asked after tt is in
    let ends : run.section.word ≡ Some words.Found = run.ends ∙ ap Some (asked_is (rows_of run.section) run.word run.status_is) in
    (rows_of run.section, run.tells.first, run.tells.enough ends, run.out_is ∙ printed run.section words.Found ends)

pub none_of_them : OneCnf → NoModelMeansNone
none_of_them unique cnf after is model is_model =
    let run = models_run unique cnf statuses.Not after tt is in
    let (empty, none) = not_is (rows_of run.section) run.word run.status_is in
    let all : AreAllOf (IsModelOf cnf) [] = subst (AreAllOf (IsModelOf cnf)) none (run.tells.all_told (run.ends ∙ ap Some empty)) in
    in_none model ((all.members model).1 is_model)
