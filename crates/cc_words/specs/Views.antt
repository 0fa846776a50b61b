-- The program's values, as the definitions see them.
use Rattle.std.specs.Prelude.{Option, option_map}
use Rattle.std.specs.Borrow.{Bor}
use Rattle.cc_words.specs.declared.asked.Asked.{Asked}
use Rattle.cc_words.specs.declared.asked.Asked.TheVariants as asked
use Rattle.cc_words.specs.declared.asked.CheckAsked.{CheckAsked}
use Rattle.cc_words.specs.declared.asked.CheckForeverAsked.{CheckForeverAsked}
use Rattle.cc_words.specs.declared.asked.CheckGeneralAsked.{CheckGeneralAsked}
use Rattle.cc_words.specs.declared.asked.CheckModelsAsked.{CheckModelsAsked}
use Rattle.cc_words.specs.declared.asked.CheckSureAsked.{CheckSureAsked}
use Rattle.cc_words.specs.declared.asked.ConvertAsked.{ConvertAsked}
use Rattle.cc_words.specs.declared.asked.WhyAsked.{WhyAsked}
use Rattle.cc_words.specs.declared.asked.ExportAsked.{ExportAsked}
use Rattle.cc_words.specs.declared.asked.ForeverAsked.{ForeverAsked}
use Rattle.cc_words.specs.declared.asked.GeneralAsked.{GeneralAsked}
use Rattle.cc_words.specs.declared.asked.ListAsked.{ListAsked}
use Rattle.cc_words.specs.declared.asked.ModelsAsked.{ModelsAsked}
use Rattle.cc_words.specs.declared.asked.SureAsked.{SureAsked}
use Rattle.cc_words.specs.declared.given.Given.{Given as GivenWords}
use Rattle.cc_words.specs.Requests.{Checking, Converting, SayingWhy, Exporting, ForeverChecking, GeneralChecking, Generally, Listing, ModelChecking, Modelling, Proving, Request, SureChecking, Surely, ToList, ToCheck, ToMake, ToSayWhy, ToConvert, ToExport, ToModel, ToCheckModels, ToBeSure, ToCheckSure, ToListGenerally, ToCheckGeneral, ToProve, ToCheckForever}
use Rattle.cc_words.specs.Words.{Given, Text}

abbrev pub plain_text : Option (Bor Text) → Option Text
plain_text = option_map (λ text. text.now)

abbrev pub plain_given : GivenWords → Given
plain_given given = record {
  mode = plain_text given.mode;
  query = plain_text given.query;
  count = plain_text given.count;
  budget = plain_text given.budget;
  after = plain_text given.after;
  log = plain_text given.log;
  form = plain_text given.form;
  to = plain_text given.to;
  key = plain_text given.key;
  horizon = plain_text given.horizon;
  size = plain_text given.size;
  file = plain_text given.file;
}

-- ---- what each mode is asked for

abbrev pub listing_by : ListAsked → Listing
listing_by list = record {
  file = list.file.now;
  query = plain_text list.query;
  count = list.count;
  budget = list.budget;
  after = plain_text list.after;
  log = plain_text list.log;
  form = list.form;
}

abbrev pub checking_by : CheckAsked → Checking
checking_by check = record {
  file = check.file.now;
  query = plain_text check.query;
  after = plain_text check.after;
  log = check.log.now;
}

abbrev pub saying_why_by : WhyAsked → SayingWhy
saying_why_by why = record { file = why.file.now; key = why.key.now }

abbrev pub converting_by : ConvertAsked → Converting
converting_by convert = record {
  file = convert.file.now;
  query = plain_text convert.query;
  after = plain_text convert.after;
  log = convert.log.now;
  to = convert.to.now;
}

abbrev pub exporting_by : ExportAsked → Exporting
exporting_by export = record { file = export.file.now; query = plain_text export.query; horizon = export.horizon }

abbrev pub modelling_by : ModelsAsked → Modelling
modelling_by models = record {
  file = models.file.now;
  count = models.count;
  budget = models.budget;
  log = plain_text models.log;
  form = models.form;
}

abbrev pub models_checking_by : CheckModelsAsked → ModelChecking
models_checking_by check = record { file = check.file.now; log = check.log.now }

abbrev pub surely_by : SureAsked → Surely
surely_by sure = record {
  file = sure.file.now;
  query = plain_text sure.query;
  budget = sure.budget;
  log = plain_text sure.log;
}

abbrev pub sure_checking_by : CheckSureAsked → SureChecking
sure_checking_by check = record { file = check.file.now; query = plain_text check.query; log = check.log.now }

abbrev pub generally_by : GeneralAsked → Generally
generally_by general = record {
  file = general.file.now;
  query = plain_text general.query;
  count = general.count;
  budget = general.budget;
  log = plain_text general.log;
}

abbrev pub general_checking_by : CheckGeneralAsked → GeneralChecking
general_checking_by check = record { file = check.file.now; query = plain_text check.query; log = check.log.now }

abbrev pub proving_by : ForeverAsked → Proving
proving_by forever = record {
  file = forever.file.now;
  query = plain_text forever.query;
  budget = forever.budget;
  log = plain_text forever.log;
}

abbrev pub forever_checking_by : CheckForeverAsked → ForeverChecking
forever_checking_by check = record { file = check.file.now; query = plain_text check.query; log = check.log.now }

abbrev pub plain_request : Asked → Request
plain_request (asked.List list) = ToList (listing_by list)
plain_request (asked.Check check) = ToCheck (checking_by check)
plain_request (asked.Make size budget) = ToMake size budget
plain_request (asked.Why why) = ToSayWhy (saying_why_by why)
plain_request (asked.Convert convert) = ToConvert (converting_by convert)
plain_request (asked.Export export) = ToExport (exporting_by export)
plain_request (asked.Models models) = ToModel (modelling_by models)
plain_request (asked.CheckModels check) = ToCheckModels (models_checking_by check)
plain_request (asked.Sure sure) = ToBeSure (surely_by sure)
plain_request (asked.CheckSure check) = ToCheckSure (sure_checking_by check)
plain_request (asked.General general) = ToListGenerally (generally_by general)
plain_request (asked.CheckGeneral check) = ToCheckGeneral (general_checking_by check)
plain_request (asked.Forever forever) = ToProve (proving_by forever)
plain_request (asked.CheckForever check) = ToCheckForever (forever_checking_by check)

abbrev pub plain_asked : Option Asked → Option Request
plain_asked = option_map plain_request
