-- A desk goes on with its trips.
use Rattle.std.proofs.Common.{◌≡◌, ◌∙◌, ℕ, ◌+◌, ◌*◌, ◌<◌, inl, inr, List, [], ◌∷◌, ◌++◌, length-append, append-nil}
use Rattle.std.proofs.Common.{append_assoc, refl, sym, ap, subst, arith}
use Rattle.std.proofs.lemmas.Bool.{and_from, le-leb}
use Rattle.std.specs.Prelude.{◌≤◌, Result, Ok, Err, Bool, true, false, ◌&&◌, nat_le}
use Rattle.stm_core.specs.Client.{Record}
use Rattle.stm_region.specs.Shown.{RegionShown}
use Rattle.vac_model.specs.declared.replies.Reply.{Reply}
use Rattle.vac_model.specs.Code.{code}
use Rattle.vac_model.specs.Ranges.{is_task}
use Rattle.vac_model.specs.declared.tasks.Task.{Task}
use Rattle.vac_manager.specs.declared.fault.Fault.{Fault}
use Rattle.vac_manager.specs.declared.fault.Fault.TheVariants as fault
use Rattle.stm_object.specs.Callers.{GoesOn}
use Rattle.vac_manager.specs.Called.{ClientShown, CallerShown, Adds, HasCalled, is_call}
use Rattle.ex_desk.specs.declared.desk.Desk.{Desk}
use Rattle.ex_desk.specs.declared.settings.DeskSettings.{DeskSettings}
use Rattle.ex_desk.specs.Trips.{trip_of}
use Rattle.ex_desk.specs.Desks.{asked, AreTrips, MayServe, ServesTrips, HasServed, session_of}
use Rattle.ex_desk.proofs.Booking.{ascend_more, ascend_on, are_both, in_none, in_both, in_one, booked_none}
use Rattle.ex_desk.proofs.Booking.{same_desk, paid_none, paid_same, paid_on, paid_more}

pub serves_none : (s : DeskSettings) (d : Desk) (y : CallerShown) → MayServe s d → ServesTrips s d d y y
serves_none s d y may = record {
  caller = refl;
  grants = refl;
  may = may;
  done = record { trips = []; records = [] };
  booked = booked_none d;
  records = sym (append-nil y.user.value.records);
  renewals = λ r i. absurd (in_none r i);
  attempts = omega arith;
  paid = paid_none s.tries y.user.value.attempt.number (asked d);
}

-- a call left all but its client's value, and made some attempts
pub record Called (z z' : CallerShown) : Type 0 where
  pub caller : GoesOn z z'
  pub grants : z'.user.value.grants ≡ z.user.value.grants
  pub attempts : z.user.value.attempt.number < z'.user.value.attempt.number

on : (y z z' : CallerShown) → GoesOn y z → Called z z' → GoesOn y z'
on y z z' e k = k.caller ∙ ap (λ (x : CallerShown). record x {
  user = record x.user { value = z'.user.value };
}) e

-- a call that ended the round
pub serves_same : (s : DeskSettings) (d e : Desk) (y z z' : CallerShown) → ServesTrips s d e y z → Called z z' →
    z'.user.value.records ≡ z.user.value.records → ServesTrips s d e y z'
serves_same s d e y z z' h k same = record {
  caller = on y z z' h.caller k;
  grants = k.grants ∙ h.grants;
  may = h.may;
  done = h.done;
  booked = h.booked;
  records = same ∙ h.records;
  renewals = h.renewals;
  attempts = omega (arith, h.attempts, k.attempts);
  paid = paid_same s.tries y.user.value.attempt.number (asked d) h.done.trips h.done.records
      (asked e) z.user.value.attempt.number z'.user.value.attempt.number h.paid (omega (arith, k.attempts));
}

one_more : (n k : ℕ) → (n + 1) * k ≡ n * k + k
one_more n k = grind arith

-- a trip was given up
pub serves_busy : (s : DeskSettings) (d e : Desk) (y z z' : CallerShown) → ServesTrips s d e y z → asked e < s.trips →
    Called z z' → z'.user.value.records ≡ z.user.value.records →
    z'.user.value.attempt.number ≡ z.user.value.attempt.number + s.tries →
    ServesTrips s d (record e { given_up = e.given_up + 1 }) y z'
serves_busy s d e y z z' h less k same cost = record {
  caller = on y z z' h.caller k;
  grants = k.grants ∙ h.grants;
  may = record { number = h.may.number; within = omega (arith, less) };
  done = h.done;
  booked = record {
    same = h.booked.same;
    ascend = ascend_on (asked d) h.done.trips (asked e) (e.booked + (e.given_up + 1)) h.booked.ascend (omega arith);
    booked = h.booked.booked;
    given_up = omega (arith, h.booked.given_up);
    are_of = h.booked.are_of;
  };
  records = same ∙ h.records;
  renewals = h.renewals;
  attempts = omega (arith, h.attempts, cost, one_more e.given_up s.tries);
  paid = paid_on s.tries y.user.value.attempt.number (asked d) h.done.trips h.done.records (asked e)
      (e.booked + (e.given_up + 1)) z.user.value.attempt.number z'.user.value.attempt.number h.paid
      (omega arith) cost;
}

-- a trip was booked
serves_booked : (s : DeskSettings) (d e : Desk) (y z z' : CallerShown) (reply : Reply) → ServesTrips s d e y z →
    asked e < s.trips → Called z z' →
    Adds y.shared.renewal (code (trip_of e.number (asked e)) reply) z.user.value z'.user.value →
    ServesTrips s d (record e { booked = e.booked + 1 }) y z'
serves_booked s d e y z z' reply h less k a =
    let one : AreTrips e.number (asked e ∷ []) (a.added ∷ []) = ((reply, a.tag_is), tt) in
    let more : asked e < e.booked + 1 + e.given_up = omega arith in
    record {
      caller = on y z z' h.caller k;
      grants = k.grants ∙ h.grants;
      may = record { number = h.may.number; within = omega (arith, less) };
      done = record { trips = h.done.trips ++ (asked e ∷ []); records = h.done.records ++ (a.added ∷ []) };
      booked = record {
        same = h.booked.same;
        ascend = ascend_more (asked d) h.done.trips (asked e) (e.booked + 1 + e.given_up) h.booked.ascend more;
        booked = omega (arith, h.booked.booked, length-append h.done.trips (asked e ∷ []));
        given_up = h.booked.given_up;
        are_of = are_both d.number h.done.trips (asked e ∷ []) h.done.records (a.added ∷ []) h.booked.are_of
            (same_desk e.number d.number (asked e ∷ []) (a.added ∷ []) h.booked.same one);
      };
      records = a.records ∙ (ap (λ (l : List Record). l ++ (a.added ∷ [])) h.records ∙
          append_assoc y.user.value.records h.done.records (a.added ∷ []));
      renewals = λ r i. elim (in_both h.done.records (a.added ∷ []) r i) [
        | inl j ↦ h.renewals r j
        | inr j ↦ subst (λ (x : Record). x.renewal ≡ y.shared.renewal) (in_one a.added r j) a.renewal_is
      ];
      attempts = omega (arith, h.attempts, k.attempts);
      paid = paid_more s.tries y.user.value.attempt.number (asked d) h.done.trips h.done.records a.added
          (asked e) (e.booked + 1 + e.given_up) z.user.value.attempt.number z'.user.value.attempt.number h.paid
          (omega arith) k.attempts a.attempt_is;
    }

-- a task was answered that is the desk's next trip
pub next_booked : (s : DeskSettings) (d e : Desk) (y z z' : CallerShown) (t : Task) (reply : Reply) →
    ServesTrips s d e y z → asked e < s.trips → Called z z' →
    t ≡ trip_of e.number (asked e) → Adds z.shared.renewal (code t reply) z.user.value z'.user.value →
    ServesTrips s d (record e { booked = e.booked + 1 }) y z'
next_booked s d e y z z' t reply h less k trip a =
    serves_booked s d e y z z' reply h less k
    (subst (λ (x : Task). Adds y.shared.renewal (code x reply) z.user.value z'.user.value) trip
    (subst (λ (n : ℕ). Adds n (code t reply) z.user.value z'.user.value)
    (ap (λ (x : CallerShown). x.shared.renewal) h.caller) a))

-- the clock was found at its last version
pub served_spent : (s : DeskSettings) (d e : Desk) (y z z' : CallerShown) → ServesTrips s d e y z → Called z z' →
    z'.user.value.records ≡ z.user.value.records → z'.user.value.attempt.next_from ≡ z.shared.last →
    HasServed s d e y z'
served_spent s d e y z z' h k same spent = record {
  serves = serves_same s d e y z z' h k same;
  why = inr (spent ∙ ap (λ (x : CallerShown). x.shared.last) h.caller);
}

-- the caller ended, and its client is with the same manager
pub served_out : (s : DeskSettings) (d e : Desk) (y z : CallerShown) (c : ClientShown) → HasServed s d e y z →
    c ≡ z.user → HasServed s d e y (session_of y.shared c)
served_out s d e y z c h same =
    let all : z ≡ session_of y.shared c = ap (λ (m : RegionShown). session_of m z.user)
    (ap (λ (x : CallerShown). x.shared) h.serves.caller) ∙ ap (λ (x : ClientShown). session_of y.shared x) (sym same) in
    subst (λ (x : CallerShown). HasServed s d e y x) all h

some_false : (b : Bool) → b ≡ true → b ≡ false → ⊥
some_false b e f = cc

-- a call of a task in its range made an attempt
grows : (region : RegionShown) (t : Task) (tries : ℕ) (c c' : ClientShown) (result : Result Reply Fault) →
    is_call t tries ≡ true → 1 ≤ tries → HasCalled region t tries result c c' →
    c.value.attempt.number < c'.value.attempt.number
grows region t tries c c' (Ok reply) range some k = k.attempts.0
grows region t tries c c' (Err fault.Arguments) range some k =
    absurd (some_false (is_call t tries) range (k.arguments.0 refl))
grows region t tries c c' (Err fault.Memory) range some k = k.attempts.0
grows region t tries c c' (Err (fault.Busy conflict)) range some k = let all = k.attempts in omega (arith, all, some)
grows region t tries c c' (Err (fault.Spent version)) range some k = k.attempts.0

-- a call made some attempts
pub called : (z z' : CallerShown) (t : Task) (tries : ℕ) (result : Result Reply Fault) → is_task t ≡ true → 1 ≤ tries →
    tries ≤ 1048576 → GoesOn z z' → HasCalled z.shared t tries result z.user z'.user → Called z z'
called z z' t tries result range some most on k =
    let fits : is_call t tries ≡ true = and_from (is_task t) (nat_le 1 tries && nat_le tries 1048576) range
    (and_from (nat_le 1 tries) (nat_le tries 1048576) (le-leb 1 tries some) (le-leb tries 1048576 most)) in
    record { caller = on; grants = k.grants; attempts = grows z.shared t tries z.user z'.user result fits some k }
