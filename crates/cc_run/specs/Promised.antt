-- What a run promises, by what its words ask for.
use Rattle.std.specs.Prelude.{List, Option, Some, None}
use Rattle.cc_run.specs.Modes.Checking.{checking_promise}
use Rattle.cc_run.specs.Modes.CheckingForever.{forever_checking_promise}
use Rattle.cc_run.specs.Modes.CheckingGeneral.{general_checking_promise}
use Rattle.cc_run.specs.Modes.CheckingModels.{models_checking_promise}
use Rattle.cc_run.specs.Modes.CheckingSure.{sure_checking_promise}
use Rattle.cc_run.specs.Modes.Converting.{converting_promise}
use Rattle.cc_run.specs.Modes.Why.{why_promise}
use Rattle.cc_run.specs.Modes.Exporting.{exporting_promise}
use Rattle.cc_run.specs.Modes.Generally.{general_promise}
use Rattle.cc_list.specs.Listing.{listing_promise}
use Rattle.cc_run.specs.Modes.Making.{making_promise}
use Rattle.cc_run.specs.Modes.Modelling.{modelling_promise}
use Rattle.cc_run.specs.Modes.Proving.{proving_promise}
use Rattle.cc_run.specs.Modes.Surely.{sure_promise}
use Rattle.cc_list.specs.Promises.{Promise, refused_words}
use Rattle.cc_list.specs.Tasks.{request_of}
use Rattle.cc_words.specs.Requests.{Request, ToList, ToCheck, ToMake, ToSayWhy, ToConvert, ToExport, ToModel, ToCheckModels, ToBeSure, ToCheckSure, ToListGenerally, ToCheckGeneral, ToProve, ToCheckForever}
use Rattle.cc_words.specs.Words.{Text}

abbrev pub promise_of : Request → Promise
promise_of (ToList listing) = listing_promise listing
promise_of (ToCheck checking) = checking_promise checking
promise_of (ToMake size budget) = making_promise size budget
promise_of (ToSayWhy saying) = why_promise saying
promise_of (ToConvert converting) = converting_promise converting
promise_of (ToExport exporting) = exporting_promise exporting
promise_of (ToModel modelling) = modelling_promise modelling
promise_of (ToCheckModels checking) = models_checking_promise checking
promise_of (ToBeSure surely) = sure_promise surely
promise_of (ToCheckSure checking) = sure_checking_promise checking
promise_of (ToListGenerally generally) = general_promise generally
promise_of (ToCheckGeneral checking) = general_checking_promise checking
promise_of (ToProve proving) = proving_promise proving
promise_of (ToCheckForever checking) = forever_checking_promise checking

abbrev pub promise_asked : Option Request → Promise
promise_asked None = refused_words
promise_asked (Some request) = promise_of request

abbrev pub promised : List Text → Promise
promised words = promise_asked (request_of words)
