-- What all promises have in common, whatever words ask for.
use Rattle.std.proofs.Common.{refl, sym, subst, List, [], ◌∷◌, Option, Some, None, IfSome}
use Rattle.cc_describe.specs.Places.{Files, HasPlaces}
use Rattle.cc_ports.specs.Contents.{Contents}
use Rattle.cc_run.specs.Judging.{MayEndJudging}
use Rattle.cc_run.specs.Modes.Why.{MayEndWhy}
use Rattle.cc_run.specs.Modes.Exporting.{MayEndExporting}
use Rattle.cc_run.specs.Modes.Making.{MayEndMaking}
use Rattle.cc_run.specs.Modes.Proving.{MayEndProving}
use Rattle.cc_run.specs.Modes.Surely.{MayEndSurely}
use Rattle.cc_run.specs.Promised.{promise_asked}
use Rattle.cc_list.specs.Promises.{IsEndStatus}
use Rattle.cc_tell.specs.declared.status.Status.{Status}
use Rattle.cc_tell.specs.declared.status.Status.TheVariants as statuses
use Rattle.cc_words.specs.Requests.{Request, ToBeSure, ToCheck, ToCheckForever, ToCheckGeneral, ToCheckModels, ToCheckSure, ToConvert, ToSayWhy, ToExport, ToList, ToListGenerally, ToMake, ToModel, ToProve}
use Rattle.cc_words.specs.Words.{Text}

-- each may be refused
pub may_be_refused : (request : Option Request) → (promise_asked request).MayEnd statuses.Refused
may_be_refused None = refl
may_be_refused (Some (ToList listing)) = tt
may_be_refused (Some (ToCheck checking)) = tt
may_be_refused (Some (ToMake size budget)) = tt
may_be_refused (Some (ToSayWhy saying)) = tt
may_be_refused (Some (ToConvert converting)) = tt
may_be_refused (Some (ToExport exporting)) = tt
may_be_refused (Some (ToModel modelling)) = tt
may_be_refused (Some (ToCheckModels checking)) = tt
may_be_refused (Some (ToBeSure surely)) = tt
may_be_refused (Some (ToCheckSure checking)) = tt
may_be_refused (Some (ToListGenerally generally)) = tt
may_be_refused (Some (ToCheckGeneral checking)) = tt
may_be_refused (Some (ToProve proving)) = tt
may_be_refused (Some (ToCheckForever checking)) = tt

-- some names are asked for, whatever is asked
some_asked : HasPlaces → (files : Files) (request : Option Request) → (all : List Text) × (promise_asked request).Opens files all
some_asked has files None = ([], refl)
some_asked has files (Some (ToList listing)) =
    let there = has files listing.file in
    (_, (there.0, there.1, refl))
some_asked has files (Some (ToCheck checking)) =
    let there = has files checking.file in
    (_, (_, (there.0, there.1, refl), refl))
some_asked has files (Some (ToMake size budget)) = ([], refl)
some_asked has files (Some (ToSayWhy saying)) =
    let there = has files saying.file in
    (_, (there.0, there.1, refl))
some_asked has files (Some (ToConvert converting)) =
    let there = has files converting.file in
    (_, (_, (there.0, there.1, refl), refl))
some_asked has files (Some (ToExport exporting)) =
    let there = has files exporting.file in
    (_, (there.0, there.1, refl))
some_asked has files (Some (ToModel modelling)) = (_, refl)
some_asked has files (Some (ToCheckModels checking)) = (checking.file ∷ checking.log ∷ [], (checking.file ∷ [], refl, refl))
some_asked has files (Some (ToBeSure surely)) =
    let there = has files surely.file in
    (_, (there.0, there.1, refl))
some_asked has files (Some (ToCheckSure checking)) =
    let there = has files checking.file in
    (_, (_, (there.0, there.1, refl), refl))
some_asked has files (Some (ToListGenerally generally)) =
    let there = has files generally.file in
    (_, (there.0, there.1, refl))
some_asked has files (Some (ToCheckGeneral checking)) =
    let there = has files checking.file in
    (_, (_, (there.0, there.1, refl), refl))
some_asked has files (Some (ToProve proving)) =
    let there = has files proving.file in
    (_, (there.0, there.1, refl))
some_asked has files (Some (ToCheckForever checking)) =
    let there = has files checking.file in
    (_, (_, (there.0, there.1, refl), refl))

pub some_asked_of : HasPlaces → (request : Option Request) (o : Option Contents) → (all : List Text) × IfSome o (λ c. (promise_asked request).Opens c.files all)
some_asked_of has request None = ([], tt)
some_asked_of has request (Some c) = some_asked has c.files request

may_end_judging : (status : Status) → MayEndJudging status → IsEndStatus status
may_end_judging statuses.Right is = is
may_end_judging statuses.Not is = is
may_end_judging statuses.Refused is = is
may_end_judging statuses.Spent is = absurd is
may_end_judging statuses.Asked is = absurd is
may_end_judging statuses.ReadFault is = is
may_end_judging statuses.WriteFault is = is
may_end_judging statuses.OutOfMemory is = is

may_end_making : (status : Status) → MayEndMaking status → IsEndStatus status
may_end_making statuses.Right is = is
may_end_making statuses.Not is = is
may_end_making statuses.Refused is = is
may_end_making statuses.Spent is = is
may_end_making statuses.Asked is = absurd is
may_end_making statuses.ReadFault is = is
may_end_making statuses.WriteFault is = is
may_end_making statuses.OutOfMemory is = is

may_end_why : (status : Status) → MayEndWhy status → IsEndStatus status
may_end_why statuses.Right is = is
may_end_why statuses.Not is = is
may_end_why statuses.Refused is = is
may_end_why statuses.Spent is = absurd is
may_end_why statuses.Asked is = absurd is
may_end_why statuses.ReadFault is = is
may_end_why statuses.WriteFault is = is
may_end_why statuses.OutOfMemory is = is

may_end_exporting : (status : Status) → MayEndExporting status → IsEndStatus status
may_end_exporting statuses.Right is = is
may_end_exporting statuses.Not is = absurd is
may_end_exporting statuses.Refused is = is
may_end_exporting statuses.Spent is = absurd is
may_end_exporting statuses.Asked is = absurd is
may_end_exporting statuses.ReadFault is = is
may_end_exporting statuses.WriteFault is = is
may_end_exporting statuses.OutOfMemory is = is

may_end_surely : (status : Status) → MayEndSurely status → IsEndStatus status
may_end_surely statuses.Right is = is
may_end_surely statuses.Not is = is
may_end_surely statuses.Refused is = is
may_end_surely statuses.Spent is = is
may_end_surely statuses.Asked is = absurd is
may_end_surely statuses.ReadFault is = is
may_end_surely statuses.WriteFault is = is
may_end_surely statuses.OutOfMemory is = is

may_end_proving : (status : Status) → MayEndProving status → IsEndStatus status
may_end_proving statuses.Right is = is
may_end_proving statuses.Not is = is
may_end_proving statuses.Refused is = is
may_end_proving statuses.Spent is = is
may_end_proving statuses.Asked is = absurd is
may_end_proving statuses.ReadFault is = is
may_end_proving statuses.WriteFault is = is
may_end_proving statuses.OutOfMemory is = is

-- each comes to its end with a status that is no fault
pub ends_as_it_may : (request : Option Request) (status : Status) → (promise_asked request).MayEnd status → IsEndStatus status
ends_as_it_may None status is = subst IsEndStatus (sym is) tt
ends_as_it_may (Some (ToList listing)) status is = is
ends_as_it_may (Some (ToCheck checking)) status is = may_end_judging status is
ends_as_it_may (Some (ToMake size budget)) status is = may_end_making status is
ends_as_it_may (Some (ToSayWhy saying)) status is = may_end_why status is
ends_as_it_may (Some (ToConvert converting)) status is = may_end_judging status is
ends_as_it_may (Some (ToExport exporting)) status is = may_end_exporting status is
ends_as_it_may (Some (ToModel modelling)) status is = is
ends_as_it_may (Some (ToCheckModels checking)) status is = may_end_judging status is
ends_as_it_may (Some (ToBeSure surely)) status is = may_end_surely status is
ends_as_it_may (Some (ToCheckSure checking)) status is = may_end_judging status is
ends_as_it_may (Some (ToListGenerally generally)) status is = is
ends_as_it_may (Some (ToCheckGeneral checking)) status is = may_end_judging status is
ends_as_it_may (Some (ToProve proving)) status is = may_end_proving status is
ends_as_it_may (Some (ToCheckForever checking)) status is = may_end_judging status is
