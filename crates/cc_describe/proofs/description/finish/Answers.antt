use Rattle.std.proofs.Common.{◌∙◌, map, ap}
use Rattle.cc_defs.specs.Resolved.{plain_base_law, plain_query}
use Rattle.cc_wide.specs.WideLaws.{plain_wide_base}
use Rattle.cc_describe.specs.FirstRefusal.{declared_in}
use Rattle.cc_describe.proofs.AsDescribed.{refused_whole, tells_no_fault}
use Rattle.cc_describe.proofs.description.finish.Goals as goal

pub returns-in-Err-clause-refused : goal.returns-in-Err-clause-refused
returns-in-Err-clause-refused c which places is =
    refused_whole places c.deref.result.now c.in-Err.fault c.from.result c.stop_of-stop.result (c.deref.ensures.value ∙ is.names)
    (c.in-Err.ensures.refused (declared_in places) is.table) c.from.ensures c.stop_of-stop.ensures

pub returns-in-Err-clause-no_read_fault : goal.returns-in-Err-clause-no_read_fault
returns-in-Err-clause-no_read_fault c = tells_no_fault c.deref.result.now c.in-Err.fault c.from.result c.stop_of-stop.result c.from.ensures c.stop_of-stop.ensures

pub returns-in-Ok-clause-described : goal.returns-in-Ok-clause-described
returns-in-Ok-clause-described c = λ which places is.
    let of = c.in-Ok.ensures.made (declared_in places) is.table in (
      of.0,
      record {
        described = record {
          table = rw c.said_by.ensures is.table;
          signature = rw c.said_by.ensures of;
          laws = ap (λ d. map plain_base_law d.described.laws) c.said_by.ensures ∙ is.laws;
          queries = ap (λ d. map plain_query d.described.queries) c.said_by.ensures ∙ is.queries;
          names = ap (λ d. d.described.files) c.said_by.ensures ∙ is.names;
        };
        wide = ap (λ d. map plain_wide_base d.wide) c.said_by.ensures ∙ is.wide;
      },
    )
