use Rattle.std.proofs.Common.{◌≡◌, None, ap, ◌∙◌, sym, rules}
use Rattle.judge_reservations.specs.Trips.{trip_words}
use Rattle.judge_reservations.proofs.Cuts.{last_word, two_words, three_words, four_words, all_words, more_words}
use Rattle.judge_reservations.specs.Trips.{five_words}
use Rattle.judge_reservations.proofs.trips.trip_words.Goals as goal

pub returns-in_err-rest : goal.returns-in_err-rest
returns-in_err-rest c =
    let none : trip_words c.args.text.now ≡ None = ap five_words (last_word _ c.in_err-rest.ensures) in
    search (rules, none)

pub returns-in_err-customer : goal.returns-in_err-customer
returns-in_err-customer c =
    let name = c.in_ok-rest.ensures in
    let none : trip_words c.args.text.now ≡ None = two_words _ _ _ name.0 name.1 c.in_err-customer.ensures in
    search (rules, none)

pub returns-in_err-car : goal.returns-in_err-car
returns-in_err-car c =
    let name = c.in_ok-rest.ensures in
    let customer = c.in_ok-customer.ensures in
    let none : trip_words c.args.text.now ≡ None = three_words _ _ _ name.0 name.1 _ _ customer.0 customer.1
    c.in_err-car.ensures in
    search (rules, none)

pub returns-in_err-flight : goal.returns-in_err-flight
returns-in_err-flight c =
    let name = c.in_ok-rest.ensures in
    let customer = c.in_ok-customer.ensures in
    let car = c.in_ok-car.ensures in
    let none : trip_words c.args.text.now ≡ None = four_words _ _ _ name.0 name.1 _ _ customer.0 customer.1 _ _
    car.0 car.1 c.in_err-flight.ensures in
    search (rules, none)

pub returns-in-Some : goal.returns-in-Some
returns-in-Some c =
    let name = c.in_ok-rest.ensures in
    let customer = c.in_ok-customer.ensures in
    let car = c.in_ok-car.ensures in
    let flight = c.in_ok-flight.ensures in
    let more = c.in-Some.ensures in
    sym (more_words _ _ _ name.0 name.1 _ _ customer.0 customer.1 _ _ car.0 car.1 _ _ flight.0 flight.1 _ _
    more.0 more.1)

pub returns-in-None : goal.returns-in-None
returns-in-None c =
    let name = c.in_ok-rest.ensures in
    let customer = c.in_ok-customer.ensures in
    let car = c.in_ok-car.ensures in
    let flight = c.in_ok-flight.ensures in
    sym (all_words _ _ _ name.0 name.1 _ _ customer.0 customer.1 _ _ car.0 car.1 _ _ flight.0 flight.1
    c.in-None.ensures)
