-- The bounds on which an allowed event of a sane running core relies.
use Rattle.std.proofs.Common.{◌≡◌, ◌≢◌, ℕ, ◌+◌, ◌-◌, ◌%◌, ◌<◌, ◌≤◌, List, true, length, sym, subst, arith, ap}
use Rattle.stm_core.specs.Client.{is_committed, word_before, IsFree}
use Rattle.stm_core.specs.Event.{Action, probe, fetch, lock, tick, validate, put, release, give_back}
use Rattle.stm_core.specs.declared.limits.TheConstants.{MOST_GRANTS, MOST_RENEWALS, MOST_TICKS}
use Rattle.stm_core.specs.declared.version.TheConstants.{VERSION_LIMIT}
use Rattle.stm_core.specs.Core.{Core, bounds_of, client_of, acts, splits, gathers, renews, may_play, is_out}
use Rattle.stm_core.specs.Theorem.{free_law}
use Rattle.stm_replay.specs.Running.{may_run, IsSane, IsThere, stripes_of}
use Rattle.stm_replay.proofs.Counting.{run_test}
use Rattle.stm_core.proofs.Lists.{in_range}
use Rattle.stm_core.proofs.Held.{held_has}
use Rattle.stm_core.proofs.Conditions.{IsOut, CanAct, can_play, free_act, out_test}

may_of : (c : Core) (k : ℕ) (e : Action) → may_play (stripes_of c) (acts k e) c ≡ true →
    CanAct free_law (stripes_of c) (bounds_of c) e (client_of c k).attempt
may_of c k e h = (can_play free_law (stripes_of c) (acts k e) c (h, free_act e (client_of c k).attempt)).1

out_there : (c : Core) (k : ℕ) → IsOut c k → IsThere c k
out_there c k q = record { some = q.0; inside = in_range c.clients (k - 1) (client_of c k) q.1 }

pub out_some : (c : Core) (k : ℕ) → is_out c k ≡ true → 0 < k
out_some c k h = ((out_test c k).sound h).0

pub acting : (c : Core) (k : ℕ) (e : Action) → may_play (stripes_of c) (acts k e) c ≡ true → IsThere c k
acting c k e h = out_there c k (can_play free_law (stripes_of c) (acts k e) c (h, free_act e (client_of c k).attempt)).0

pub splitting : (c : Core) (k : ℕ) → may_run (stripes_of c) (splits k) c ≡ true → IsThere c k
splitting c k h = out_there c k (can_play free_law (stripes_of c) (splits k) c
    (((run_test (stripes_of c) (splits k) c).sound h).0, tt)).0

pub gathering : (c : Core) (k j : ℕ) → may_play (stripes_of c) (gathers k j) c ≡ true → IsThere c k × IsThere c j
gathering c k j h = let q = can_play free_law (stripes_of c) (gathers k j) c (h, tt) in
    (out_there c k q.0, out_there c j q.1)

pub renewing : (c : Core) (k last : ℕ) → may_play (stripes_of c) (renews k last) c ≡ true → IsThere c k
renewing c k last h = out_there c k (can_play free_law (stripes_of c) (renews k last) c (h, tt)).0

pub looked_inside : (c : Core) (k n : ℕ) → IsSane c → may_play (stripes_of c) (acts k (validate n)) c ≡ true →
    n < length c.locks
looked_inside c k n s h = let q = (may_of c k (validate n) h).2 in
    subst (λ y. y < length c.locks) q.3 (let z = s.some in let l : q.0 % length c.locks < length c.locks =
    omega arith in l)

pub looked_next : (c : Core) (k n : ℕ) → may_play (stripes_of c) (acts k (validate n)) c ≡ true →
    (client_of c k).attempt.passed < length (client_of c k).attempt.reads
looked_next c k n h = let q = (may_of c k (validate n) h).2 in
    in_range (client_of c k).attempt.reads (client_of c k).attempt.passed (q.0, q.1) q.2

pub put_inside : (c : Core) (k a x : ℕ) → IsSane c → may_play (stripes_of c) (acts k (put a x)) c ≡ true →
    a < length c.cells
put_inside c k a x s h = let m = may_of c k (put a x) h in s.written k a x (ap is_committed m.0) m.1

pub release_inside : (c : Core) (k n : ℕ) → IsSane c → may_play (stripes_of c) (acts k (release n)) c ≡ true →
    n < length c.locks
release_inside c k n s h = let m = may_of c k (release n) h in
    s.held k n (held_has (client_of c k).attempt.held n m.1.0 m.1.1)

pub given_inside : (c : Core) (k n : ℕ) → IsSane c → may_play (stripes_of c) (acts k (give_back n)) c ≡ true →
    n < length c.locks
given_inside c k n s h = let m = may_of c k (give_back n) h in
    s.held k n (held_has (client_of c k).attempt.held n m.1.0 m.1.1)

pub probe_inside : (c : Core) (k n : ℕ) → may_play (stripes_of c) (acts k (probe n)) c ≡ true → n < length c.locks
probe_inside c k n h = (may_of c k (probe n) h).1

pub fetch_inside : (c : Core) (k a : ℕ) → may_play (stripes_of c) (acts k (fetch a)) c ≡ true → a < length c.cells
fetch_inside c k a h = (may_of c k (fetch a) h).1

pub lock_inside : (c : Core) (k n : ℕ) → may_play (stripes_of c) (acts k (lock n)) c ≡ true → n < length c.locks
lock_inside c k n h = (may_of c k (lock n) h).1

pub lock_free : (c : Core) (k n : ℕ) → may_play (stripes_of c) (acts k (lock n)) c ≡ true →
    IsFree (word_before (client_of c k).attempt.last)
lock_free c k n h = let q = (may_of c k (lock n) h).2 in subst (λ l. IsFree (word_before l)) (sym q.1) q.2

pub tick_room : (c : Core) (k from : ℕ) (tag : List ℕ) (writes : List (ℕ × ℕ)) →
    may_play (stripes_of c) (acts k (tick from tag writes)) c ≡ true → (client_of c k).attempt.ticks < MOST_TICKS
tick_room c k from tag writes h = (may_of c k (tick from tag writes) h).3

pub tick_below : (c : Core) (k from : ℕ) (tag : List ℕ) (writes : List (ℕ × ℕ)) → IsSane c →
    may_play (stripes_of c) (acts k (tick from tag writes)) c ≡ true → from < VERSION_LIMIT
tick_below c k from tag writes s h = let below = (may_of c k (tick from tag writes) h).2 in let last = s.last in
    omega (arith, below, last)

pub split_grants : (c : Core) (k : ℕ) → may_run (stripes_of c) (splits k) c ≡ true → 0 < (client_of c k).grants
split_grants c k h = (can_play free_law (stripes_of c) (splits k) c
    (((run_test (stripes_of c) (splits k) c).sound h).0, tt)).2

pub gather_apart : (c : Core) (k j : ℕ) → may_play (stripes_of c) (gathers k j) c ≡ true → k ≢ j
gather_apart c k j h = (can_play free_law (stripes_of c) (gathers k j) c (h, tt)).2

pub gather_grants : (c : Core) (k j : ℕ) → IsSane c → may_play (stripes_of c) (gathers k j) c ≡ true →
    (client_of c k).grants + (client_of c j).grants + 1 ≤ MOST_GRANTS
gather_grants c k j s h = let q = can_play free_law (stripes_of c) (gathers k j) c (h, tt) in
    s.grants k j q.2 ((out_test c k).complete q.0) ((out_test c j).complete q.1)

pub renew_few : (c : Core) (k last : ℕ) → may_play (stripes_of c) (renews k last) c ≡ true → c.renewal < MOST_RENEWALS
renew_few c k last h = (can_play free_law (stripes_of c) (renews k last) c (h, tt)).5
