use Rattle.cc_sorts.proofs.Placing.{found_number, no_number}
use Rattle.cc_sorts.proofs.objects.find_number.Goals as goal

pub returns-in-Some : goal.returns-in-Some
returns-in-Some c =
    found_number c.args.numbers.now c.args.places.now.entries c.args.number c.in-Some.object.now c.checked.result c.requires c.in-Some.ensures.value c.checked.ensures

pub returns-in-None : goal.returns-in-None
returns-in-None c = no_number c.args.numbers.now c.args.places.now.entries c.args.number c.requires c.in-None.ensures.value
