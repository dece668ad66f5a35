use Rattle.std.proofs.Common.{rules, ◌≡◌, ◌∙◌, ℕ, ◌+◌, ◌<◌, inl, ap, arith}
use Rattle.vac_manager.specs.Called.{CallerShown}
use Rattle.ex_desk.specs.Trips.{trip_of}
use Rattle.ex_desk.specs.Desks.{asked}
use Rattle.ex_desk.proofs.Serving.{called, serves_none, serves_busy, next_booked, served_spent, served_out}
use Rattle.ex_desk.proofs.asking.serve.Goals as goal
use Rattle.ex_desk.proofs.asking.serve.Goals.{in-Ok, in-Err-Busy, else-trips-test, then-trips-test+in-Err-Spent}

pub trips-init : goal.trips-init
trips-init c = serves_none c.args.settings c.args.desk c.args.caller c.requires.desk

pub trips-preserved-after-call : goal.trips-preserved-after-call
trips-preserved-after-call c =
    let i = c.trips.invariant in
    let less : asked c.trips.desk < c.args.settings.trips = search (rules, arith) in
    let k = called c.trips.caller c.call.new.caller c.trip-task.result c.args.settings.tries c.call.result
    c.trip-task.ensures.range (search (rules, arith)) (search (rules, arith)) c.call.ensures.caller
    c.call.ensures.called in
    elim c.match-call.branch [
      | in-Ok w ↦ rw w.desk-is (next_booked c.args.settings c.args.desk c.trips.desk
          c.args.caller c.trips.caller c.call.new.caller c.trip-task.result _ i less k
          (c.trip-task.ensures.task ∙ ap (λ (n : ℕ). trip_of c.trips.desk.number n) c.asked-in-trips.ensures)
          w.in-Ok.ensures.called.records)
      | in-Err-Busy w ↦ let cost : c.call.new.caller.user.value.attempt.number ≡
          c.trips.caller.user.value.attempt.number + c.args.settings.tries = search rules in
          rw w.desk-is (serves_busy c.args.settings c.args.desk c.trips.desk
          c.args.caller c.trips.caller c.call.new.caller i less k
          w.in-Err-Busy.ensures.called.records cost)
    ]

pub trips-preserved-after-call-2 : goal.trips-preserved-after-call-2
trips-preserved-after-call-2 c =
    let i = c.trips.invariant in
    let less : asked c.trips.desk < c.args.settings.trips = search (rules, arith) in
    let k = called c.trips.caller c.call.new.caller c.trip-task.result c.args.settings.tries c.call.result
    c.trip-task.ensures.range (search (rules, arith)) (search (rules, arith)) c.call.ensures.caller
    c.call.ensures.called in
    elim c.match-call.branch [
      | in-Ok w ↦ rw w.desk-is (next_booked c.args.settings c.args.desk c.trips.desk
          c.args.caller c.trips.caller c.call.new.caller c.trip-task.result _ i less k
          (c.trip-task.ensures.task ∙ ap (λ (n : ℕ). trip_of c.trips.desk.number n) c.asked-in-trips.ensures)
          w.in-Ok.ensures.called.records)
      | in-Err-Busy w ↦ let cost : c.call.new.caller.user.value.attempt.number ≡
          c.trips.caller.user.value.attempt.number + c.args.settings.tries = search rules in
          rw w.desk-is (serves_busy c.args.settings c.args.desk c.trips.desk
          c.args.caller c.trips.caller c.call.new.caller i less k
          w.in-Err-Busy.ensures.called.records cost)
    ]

pub returns-clause-served : goal.returns-clause-served
returns-clause-served c =
    let z = c.trips.caller in
    elim c.trips-test.branch [
      | else-trips-test w ↦ served_out c.args.settings c.args.desk c.trips.desk c.args.caller z _ (record {
        serves = c.trips.invariant;
        why = inl (omega (
          arith,
          w.trips-test.false,
          c.asked.ensures,
          c.trips.invariant.may.within,
        ));
      }) (c.into_user.ensures.user ∙ ap (λ (x : CallerShown). x.user) w.caller-is)
      | then-trips-test+in-Err-Spent w ↦
          let k = called z w.call.new.caller w.trip-task.result c.args.settings.tries w.call.result
          w.trip-task.ensures.range (search (rules, arith)) (search (rules, arith)) w.call.ensures.caller
          w.call.ensures.called in
          let last : c.trips-test.caller ≡ w.call.new.caller = search rules in
          served_out c.args.settings c.args.desk c.trips.desk c.args.caller w.call.new.caller _
          (served_spent c.args.settings c.args.desk c.trips.desk c.args.caller z w.call.new.caller
          c.trips.invariant k w.in-Err-Spent.ensures.called.records (search rules))
          (c.into_user.ensures.user ∙ ap (λ (x : CallerShown). x.user) last)
    ]
