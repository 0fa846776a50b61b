use Rattle.std.proofs.Common.{[], ap, Err, inl}
use Rattle.cc_describe.specs.declared.description.DescribeStop.TheVariants as stops
use Rattle.cc_describe.specs.declared.heads.Heads.TheVariants as heads
use Rattle.cc_describe.specs.Describing.{Describes, HasStopped}
use Rattle.cc_describe.specs.Places.{Files}
use Rattle.cc_list.specs.Listing.{listing_promise}
use Rattle.cc_words.specs.Views.{listing_by}
use Rattle.cc_list.specs.Tasks.{named_by}
use Rattle.cc_ports.specs.Calls.{names_opened}
use Rattle.cc_tell.specs.declared.status.Stop.TheVariants as run_stops
use Rattle.cc_list.proofs.Callings.{called_reading, memory_not_read, memory_not_write, ok_no_err, read_not_write, refused_is_no_fault}
use Rattle.cc_list.proofs.Described.{all_named, first_named, stopped_refuses}
use Rattle.cc_list.proofs.Outcomes.{files_stay, known, prints_after_read, prints_opened, prints_refusal, prints_stopped}
use Rattle.cc_list.proofs.listing.list.Goals as goal

pub returns-in-Ok : goal.returns-in-Ok
returns-in-Ok g c =
    let listing = listing_by c.args.asked.now in
    let read = c.in-Ok.ensures in
    let opened = names_opened read.calls.0 in
    let there = files_stay read.after.0 (λ files. Describes heads.Definite files listing.file c.in-Ok.described) _ _ read.after.1 read.described in
    prints_opened (listing_promise listing) _ _ _ _ c.list_described.result (all_named _ heads.Definite listing.file opened read.calls.3)
    (prints_after_read (listing_promise listing) _ opened [] read.after.0 _ _ _ c.list_described.result read.after.1 read.begun read.reads_count read.writes_count
    (called_reading _ _ read.calls.0 read.calls.1 read.calls.2 read.calls.4) (read.calm (ok_no_err _ _)) (c.list_described.ensures there))

pub returns-in-Err-Refused : goal.returns-in-Err-Refused
returns-in-Err-Refused g c =
    let listing = listing_by c.args.asked.now in
    let read = c.in-Err-Refused.ensures in
    let refusal = c.in-Err-Refused.refusal in
    let file = c.in-Err-Refused.file in
    let opened = names_opened read.calls.0 in
    let HasRefused : Files → Type 0 = λ files. HasStopped heads.Definite files listing.file (stops.Refused refusal file) in
    let there = files_stay read.after.0 HasRefused _ _ read.after.1 (rw c.in-Err-Refused.field-0-is at read.refused) in
    prints_opened (listing_promise listing) _ _ _ _ c.refuse.result (all_named _ heads.Definite listing.file opened (rw c.in-Err-Refused.field-0-is at read.calls.3))
    (prints_after_read (listing_promise listing) _ opened [] read.after.0 _ _ _ c.refuse.result read.after.1 read.begun read.reads_count read.writes_count
    (called_reading _ _ read.calls.0 read.calls.1 read.calls.2 read.calls.4) (read.calm (refused_is_no_fault _ refusal file c.in-Err-Refused.field-0-is))
    (prints_refusal (listing_promise listing) _ [] refusal c.text.result.now _ _ c.refuse.result tt
    (rw c.text.ensures (known _ (λ before. HasRefused before.files) (λ before. (listing_promise listing).Refuses before.files refusal file)
    (λ before stopped. inl (stopped_refuses heads.Definite before.files listing.file refusal file stopped)) there))
    c.refuse.ensures.told c.refuse.ensures.status))

pub returns-in-Err-ReadFault : goal.returns-in-Err-ReadFault
returns-in-Err-ReadFault g c =
    let listing = listing_by c.args.asked.now in
    let read = c.in-Err-ReadFault.ensures in
    let names = first_named _ heads.Definite listing.file c.in-Err-ReadFault.field-0 (names_opened read.calls.0) read.calls.3 in
    prints_opened (listing_promise listing) _ names.0 _ _ _ names.2
    (prints_stopped (listing_promise listing) _ (names_opened read.calls.0) names.0 read.after.0 run_stops.ReadFault _ _ read.after.1 read.begun read.reads_count read.writes_count
    (called_reading _ _ read.calls.0 read.calls.1 read.calls.2 read.calls.4) names.1 (λ _. read.failed (ap Err c.in-Err-ReadFault.field-0-is)) read_not_write)

pub returns-in-Err-OutOfMemory : goal.returns-in-Err-OutOfMemory
returns-in-Err-OutOfMemory g c =
    let listing = listing_by c.args.asked.now in
    let read = c.in-Err-OutOfMemory.ensures in
    let names = first_named _ heads.Definite listing.file c.in-Err-OutOfMemory.field-0 (names_opened read.calls.0) read.calls.3 in
    prints_opened (listing_promise listing) _ names.0 _ _ _ names.2
    (prints_stopped (listing_promise listing) _ (names_opened read.calls.0) names.0 read.after.0 run_stops.OutOfMemory _ _ read.after.1 read.begun read.reads_count read.writes_count
    (called_reading _ _ read.calls.0 read.calls.1 read.calls.2 read.calls.4) names.1 (λ is. absurd (memory_not_read is)) memory_not_write)
