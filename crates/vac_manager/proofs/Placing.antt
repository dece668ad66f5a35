-- Attempts and conflicts of a call.
use Rattle.std.proofs.Common.{◌≡◌, ℕ, zero, suc, ◌+◌, ◌≤◌, ◌<◌, nat_lt, List, [], ◌∷◌, length, Option, Some, None}
use Rattle.std.proofs.Common.{Result, Ok, Err, true, not, refl, ap, ◌∙◌, arith}
use Rattle.std.proofs.lemmas.Bool.Decides.{nat_tests}
use Rattle.stm_core.specs.Client.{Client}
use Rattle.stm_region.specs.Shown.{RegionShown}
use Rattle.stm_attempt.specs.declared.conflict.Conflict.{Conflict}
use Rattle.stm_attempt.specs.declared.conflict.Stop.{Stop}
use Rattle.stm_attempt.specs.declared.conflict.Stop.TheVariants as stop
use Rattle.stm_object.specs.declared.place.CommitPosition.{CommitPosition}
use Rattle.stm_object.specs.History.{ConflictWasShown, HasCalledAt, AbortedTimes, met_in}
use Rattle.stm_object.specs.Tracing.{conflict_in, tally_with, HasTallied}
use Rattle.vac_model.specs.declared.limits.TheConstants.{MOST_TRIES}
use Rattle.vac_model.specs.declared.replies.Reply.{Reply}
use Rattle.vac_model.specs.declared.tasks.Task.{Task}
use Rattle.vac_tasks.specs.Reading.{only_reads}
use Rattle.vac_manager.specs.Law.{vacation}
use Rattle.vac_manager.specs.Called.{changes_nothing}
use Rattle.vac_manager.specs.Ended.{placed_in}
use Rattle.vac_manager.specs.declared.placed.CallStatistics.{CallStatistics}
use Rattle.vac_manager.specs.Placed.{nothing_done, counted, conflicted, one_more, statistics_of}
use Rattle.vac_manager.specs.Placed.{HaveShown, CountsAttempts}
use Rattle.vac_manager.proofs.Counting.{one_conflict}
use Rattle.vac_manager.proofs.Trying.{was_shown}

attempts_are : (cs : List Conflict) → (statistics_of cs).attempts ≡ length cs
attempts_are [] = refl
attempts_are (c ∷ cs) = let k = one_conflict c (statistics_of cs) in let e = attempts_are cs in
    omega (arith, k.attempts, e)

-- so few are all counted
counted_few : (c : Option Conflict) (e : CallStatistics) → e.attempts < MOST_TRIES → nat_lt e.attempts MOST_TRIES ≡ true
counted_few c e few = grind (arith, nat_tests)

all_counted : (cs : List Conflict) → length cs ≤ MOST_TRIES →
    tally_with (λ c e. counted c e) nothing_done cs ≡ statistics_of cs
all_counted [] few = refl
all_counted (c ∷ cs) few =
    let rest = all_counted cs (omega (arith, few)) in
    let n = attempts_are cs in
    let t = counted_few (Some c) (statistics_of cs) (omega (arith, n, few)) in
    rw (rest, t) refl

module _ (region : RegionShown) (t : Task) where
  abbrev pub Shown : Conflict → Client → Type 0
  Shown conflict v = ConflictWasShown {A = Reply} vacation region (λ r. (t, r)) (λ r. not (changes_nothing t r))
      (only_reads t) conflict v

  missed_many : (n : ℕ) (v w : Client) (h : AbortedTimes Shown n v w) → (w.attempt.number ≡ v.attempt.number + n)
      × (w.records ≡ v.records) × (w.grants ≡ v.grants) × (length (met_in Shown n v w h) ≡ n)
  missed_many zero v w h =
      let e = ap (λ (x : Client). x.attempt.number) h in
      (omega (arith, e), ap (λ (x : Client). x.records) h, ap (λ (x : Client). x.grants) h, refl)
  missed_many (suc n) v w h =
      let k = missed_many n v h.0 h.1.0 in
      let m = h.1.1 in
      let next = m.next in
      let long = k.3 in
      (omega (arith, next, k.0), m.records ∙ k.1, m.grants ∙ k.2, omega (arith, long))

  -- each of them was shown
  have_shown : (n : ℕ) (v w : Client) (h : AbortedTimes Shown n v w) → HaveShown region v (met_in Shown n v w h)
  have_shown zero v w h = tt
  have_shown (suc n) v w h =
      let k = missed_many n v h.0 h.1.0 in
      let m = h.1.1 in
      let next = m.next in
      let long = k.3 in (
        record {
          client = w;
          number = omega (arith, next, k.0, long);
          records = m.records ∙ k.1;
          grants = m.grants ∙ k.2;
          shown = was_shown region t m.conflict w m.shown;
        },
        have_shown n v h.0 h.1.0,
      )

  abbrev Called : ℕ → Result (Reply × CommitPosition) Stop → Client → Client → Type 0
  Called tries result v v' = HasCalledAt {A = Reply} vacation region (λ r. (t, r)) (λ r. not (changes_nothing t r))
      (only_reads t) tries result v v'

  abbrev pub Tallied : ℕ → Result (Reply × CommitPosition) Stop → Client → Client → CallStatistics → Type 0
  Tallied tries result v v' e = HasTallied Shown (λ c o. counted c o) tries result v v' nothing_done e

  -- the conflicts of a call's earlier attempts, and how many they are
  module _ (tries : ℕ) (result : Result (Reply × CommitPosition) Stop) (v v' : Client) (e : CallStatistics)
      (few : tries ≤ MOST_TRIES)
      (h : Tallied tries result v v' e) where
    abbrev met : List Conflict
    met = met_in Shown h.attempts.missed v h.attempts.before h.attempts.misses

    long : length met ≡ h.attempts.missed
    long = (missed_many h.attempts.missed v h.attempts.before h.attempts.misses).3

    told : e ≡ counted (conflict_in result) (statistics_of met)
    told =
        let c = h.attempts.count in
        let l = long in
        h.tallied ∙ ap (λ (o : CallStatistics). counted (conflict_in result) o)
        (all_counted met (omega (arith, l, c, few)))

    room : nat_lt (statistics_of met).attempts MOST_TRIES ≡ true
    room =
        let c = h.attempts.count in
        let l = long in
        let n = attempts_are met in
        counted_few None (statistics_of met) (omega (arith, l, n, c, few))

    -- one that met no conflict is counted as one more
    counted_one : conflict_in result ≡ None → (e ≡ one_more (statistics_of met))
        × (v.attempt.number + e.attempts ≡ v'.attempt.number)
    counted_one none =
        let r = room in
        let is : e ≡ one_more (statistics_of met) = told ∙ rw (none, r) refl in
        let n = attempts_are met in
        let l = long in
        let at = h.attempts.number in
        let k = ap (λ (o : CallStatistics). o.attempts) is in
        (is, omega (arith, k, n, l, at))

    counted_conflict : (c : Conflict) → conflict_in result ≡ Some c → (e ≡ conflicted c (statistics_of met))
        × (v.attempt.number + e.attempts ≡ v'.attempt.number)
    counted_conflict c some =
        let r = room in
        let is : e ≡ conflicted c (statistics_of met) = told ∙ rw (some, r) refl in
        let n = attempts_are met in
        let l = long in
        let at = h.attempts.number in
        let k = ap (λ (o : CallStatistics). o.attempts) is in
        let one = (one_conflict c (statistics_of met)).attempts in
        (is, omega (arith, k, one, n, l, at))

  -- what the attempts of a call took
  pub took : (tries : ℕ) (result : Result (Reply × CommitPosition) Stop) (v v' : Client) (e : CallStatistics) →
      tries ≤ MOST_TRIES →
      Called tries result v v' → Tallied tries result v v' e → CountsAttempts region v v' (placed_in result) e
  took tries (Ok a) v v' e few g h =
      let one = counted_one tries (Ok a) v v' e few h refl in
      record {
        conflicts = met_in Shown h.attempts.missed v h.attempts.before h.attempts.misses;
        shown = have_shown h.attempts.missed v h.attempts.before h.attempts.misses;
        closes = tt;
        statistics = one.0;
        begun = one.1;
      }
  took tries (Err stop.Memory) v v' e few g h =
      let one = counted_one tries (Err stop.Memory) v v' e few h refl in
      record {
        conflicts = met_in Shown h.attempts.missed v h.attempts.before h.attempts.misses;
        shown = have_shown h.attempts.missed v h.attempts.before h.attempts.misses;
        closes = tt;
        statistics = one.0;
        begun = one.1;
      }
  took tries (Err (stop.Conflict c)) v v' e few g h =
      let one = counted_conflict tries (Err (stop.Conflict c)) v v' e few h c refl in
      let k = missed_many h.attempts.missed v h.attempts.before h.attempts.misses in
      let at = h.attempts.number in
      record {
        conflicts = c ∷ met_in Shown h.attempts.missed v h.attempts.before h.attempts.misses;
        shown = (
          record {
            client = v';
            number = omega (arith, at, k.3);
            records = g.records;
            grants = g.grants;
            shown = was_shown region t c v' g.stopped.1;
          },
          have_shown h.attempts.missed v h.attempts.before h.attempts.misses,
        );
        closes = refl;
        statistics = one.0;
        begun = one.1;
      }
  took tries (Err (stop.Spent version)) v v' e few g h =
      let one = counted_one tries (Err (stop.Spent version)) v v' e few h refl in
      record {
        conflicts = met_in Shown h.attempts.missed v h.attempts.before h.attempts.misses;
        shown = have_shown h.attempts.missed v h.attempts.before h.attempts.misses;
        closes = tt;
        statistics = one.0;
        begun = one.1;
      }
