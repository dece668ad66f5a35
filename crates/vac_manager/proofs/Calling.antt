-- Calls of the manager, derived from calls of an object.
use Rattle.std.proofs.Common.{◌≡◌, inr, ℕ, ◌+◌, ◌≤◌, true, false, not, Bool, Result, Ok, Err, IfOk, IfErr, refl, sym}
use Rattle.std.proofs.Common.{ap}
use Rattle.std.proofs.Common.{◌∙◌, arith, Option, List, [], append-nil, nat_le, ◌&&◌}
use Rattle.std.specs.Prelude.{IsErrOf}
use Rattle.std.proofs.lemmas.Bool.Decides.{nat_tests}
use Rattle.stm_core.specs.Core.{IsFreeHanded}
use Rattle.vac_model.specs.declared.limits.TheConstants.{MOST_TRIES}
use Rattle.vac_manager.specs.declared.placed.CallStatistics.{CallStatistics}
use Rattle.vac_manager.specs.Placed.{nothing_done, HasCalledPlaced}
use Rattle.vac_manager.proofs.Placing.{Tallied, took}
use Rattle.stm_core.specs.Client.{Client, all_aborted}
use Rattle.stm_region.specs.Shown.{RegionShown}
use Rattle.stm_attempt.specs.declared.conflict.Stop.{Stop}
use Rattle.stm_attempt.specs.declared.conflict.Stop.TheVariants as stop
use Rattle.stm_object.specs.declared.place.CommitPosition.{CommitPosition}
use Rattle.stm_object.specs.History.{WritesOnlyChanges, RecordsEntry, WasInOrder, IsNoConflict, IsNear}
use Rattle.stm_object.specs.History.{IsStopOfEntry, HasCalledAt as HasCalledObject}
use Rattle.stm_object.specs.Tracing.{Trace, HasTraced}
use Rattle.vac_model.specs.declared.replies.Reply.{Reply}
use Rattle.vac_model.specs.declared.tasks.Task.{Task}
use Rattle.vac_tasks.specs.Reading.{only_reads}
use Rattle.vac_manager.specs.declared.fault.Fault.{Fault}
use Rattle.vac_manager.specs.declared.fault.Fault.TheVariants as fault
use Rattle.vac_manager.specs.declared.placed.PlacedReply.{PlacedReply}
use Rattle.vac_manager.specs.Law.{vacation}
use Rattle.vac_manager.specs.Legal.{WasLegal}
use Rattle.vac_manager.specs.Faults.{fault_of}
use Rattle.vac_manager.specs.Ended.{reply_in, placed_in}
use Rattle.stm_object.specs.Callers.{GoesOn}
use Rattle.vac_manager.specs.Called.{CallerShown, ClientShown, IsOpened, HasCalled, Records, AddsReaderIfUnchanged}
use Rattle.vac_manager.specs.Called.{Attempts, IsNext}
use Rattle.vac_manager.specs.Called.{IsFault, IsNotBusy, changes_nothing, is_call, is_try_count}
use Rattle.vac_model.specs.Ranges.{is_task}
use Rattle.vac_manager.specs.Placed.{IsAddedAtPlace, replied}
use Rattle.vac_manager.proofs.Adding.{adds_at, adds_reader}
use Rattle.vac_manager.proofs.Histories.{continues, whole_of}
use Rattle.vac_manager.proofs.Legality.{was_legal}
use Rattle.vac_manager.proofs.Trying.{is_fault}

no_change : (b : Bool) → b ≡ true → not b ≡ false
no_change true e = refl
no_change false e = absurd (let n : false ≡ true = e in cc)

never : (s : Stop) → fault_of s ≡ fault.Arguments → ⊥
never stop.Memory e = cc
never (stop.Conflict c) e = cc
never (stop.Spent version) e = cc

second : (a b : Bool) → (a && b) ≡ true → b ≡ true
second true b e = e
second false b e = absurd (let n : false ≡ true = e in cc)

pub same_client : (y y' : CallerShown) → GoesOn y y' → y'.user ≡ record y.user { value = y'.user.value }
same_client y y' e = ap (λ (z : CallerShown). z.user) e

pub few_tries : (t : Task) (tries : ℕ) → is_call t tries ≡ true → tries ≤ MOST_TRIES
few_tries t tries e =
    let a : is_try_count tries ≡ true = second (is_task t) (is_try_count tries) e in
    let b : nat_le tries MOST_TRIES ≡ true = second (nat_le 1 tries) (nat_le tries MOST_TRIES) a in
    grind (arith, nat_tests)

replied_is : (result : Result (Reply × CommitPosition) Stop) → replied (placed_in result) ≡ reply_in result
replied_is (Ok a) = refl
replied_is (Err s) = refl

module _ (region : RegionShown) (t : Task) where
  abbrev Called : ℕ → Result (Reply × CommitPosition) Stop → Client → Client → Type 0
  Called tries result v v' = HasCalledObject {A = Reply} vacation region (λ r. (t, r))
      (λ r. not (changes_nothing t r)) (only_reads t) tries result v v'

  records : (result : Result (Reply × CommitPosition) Stop) (v v' : Client) →
      RecordsEntry vacation region (λ r. (t, r)) result v v' → Records region t (reply_in result) v v'
  records (Ok a) v v' h = (adds_at region _ a.1 v v' h).adds
  records (Err s) v v' h = h

  pub added : (result : Result (Reply × CommitPosition) Stop) (v v' : Client) →
      RecordsEntry vacation region (λ r. (t, r)) result v v' → IsAddedAtPlace region t (placed_in result) v v'
  added (Ok a) v v' h = adds_at region _ a.1 v v' h
  added (Err s) v v' h = h

  spares : (result : Result (Reply × CommitPosition) Stop) (v v' : Client) →
      WritesOnlyChanges (only_reads t) (λ r. not (changes_nothing t r)) result v v' →
      AddsReaderIfUnchanged t (reply_in result) v v'
  spares (Ok a) v v' h = λ e. adds_reader v v' (h (inr (no_change (changes_nothing t a.0) e)))
  spares (Err s) v v' h = tt

  -- how many attempts there were
  attempts : (tries : ℕ) (result : Result (Reply × CommitPosition) Stop) (v v' : Client) → Called tries result v v' →
      Attempts tries v.attempt.number v'.attempt.number (reply_in result)
  attempts tries (Ok a) v v' g =
      let c = g.attempts.count in let n = g.attempts.number in (omega (arith, n), omega (arith, n, c))
  attempts tries (Err stop.Memory) v v' g =
      let c = g.attempts.count in let n = g.attempts.number in (omega (arith, n), omega (arith, n, c))
  attempts tries (Err (stop.Conflict x)) v v' g = g.stopped.0
  attempts tries (Err (stop.Spent version)) v v' g =
      let c = g.attempts.count in let n = g.attempts.number in (omega (arith, n), omega (arith, n, c))

  once : (result : Result (Reply × CommitPosition) Stop) (v v' : Client) → v'.attempt.number ≡ v.attempt.number + 1 →
      Attempts 1 v.attempt.number v'.attempt.number (reply_in result)
  once (Ok a) v v' e = (omega (arith, e), omega (arith, e))
  once (Err stop.Memory) v v' e = (omega (arith, e), omega (arith, e))
  once (Err (stop.Conflict x)) v v' e = e
  once (Err (stop.Spent version)) v v' e = (omega (arith, e), omega (arith, e))

  next : (reads : Bool) (last before now : ℕ) (result : Result (Reply × CommitPosition) Stop) →
      IsNear reads last before now result → IsNext last before now (reply_in result)
  next reads last before now (Ok a) h = h.0
  next reads last before now (Err stop.Memory) h = h.0
  next reads last before now (Err (stop.Conflict x)) h = h.0
  next reads last before now (Err (stop.Spent version)) h = h.0

  legal : (result : Result (Reply × CommitPosition) Stop) (v v' : Client) → IsOpened region → v'.is_gathered ≡ false →
      IfOk result (λ a. WasInOrder vacation region (t, a.0) v v') →
      IfOk (reply_in result) (λ _. WasLegal region v')
  legal (Ok a) v v' h out w = was_legal region (t, a.0) v v' h.shown out w
  legal (Err s) v v' h out w = tt

  faults : (tries : ℕ) (result : Result (Reply × CommitPosition) Stop) (v v' : Client) →
      IfErr result (λ s. IsStopOfEntry {A = Reply} vacation region (λ r. (t, r)) (λ r. not (changes_nothing t r))
      (only_reads t) tries s v v') → IfErr (reply_in result) (λ why. IsFault region t tries why v v')
  faults tries (Ok a) v v' h = tt
  faults tries (Err s) v v' h = is_fault region t tries s v v' h

  not_busy : (result : Result (Reply × CommitPosition) Stop) → IfErr result (λ s. IsNoConflict s) →
      IfErr (reply_in result) (λ why. IsNotBusy why)
  not_busy (Ok a) h = tt
  not_busy (Err stop.Memory) h = tt
  not_busy (Err (stop.Conflict x)) h = absurd h
  not_busy (Err (stop.Spent version)) h = tt

  no_arguments : (result : Result (Reply × CommitPosition) Stop) → IsErrOf (reply_in result) fault.Arguments → ⊥
  no_arguments (Ok a) e = cc
  no_arguments (Err s) e = never s (let n : fault_of s ≡ fault.Arguments = cc in n)

  pub has_called : (tries : ℕ) (result : Result (Reply × CommitPosition) Stop) (c c' : ClientShown) → IsOpened region →
      is_call t tries ≡ true → c' ≡ record c { value = c'.value } → Called tries result c.value c'.value →
      HasCalled region t tries (reply_in result) c c'
  has_called tries result c c' opened asked same g =
      let v = c.value in
      let v' = c'.value in
      let l = legal result v v' opened g.free_handed.0 g.order in
      let rs = records result v v' g.records in
      record {
        client = same;
        grants = g.grants;
        floor = g.floor;
        free_handed = g.free_handed;
        arguments = (
          λ e. absurd (no_arguments result e),
          λ e. absurd (let n : true ≡ false = sym asked ∙ e in cc),
        );
        records = rs;
        spares = spares result v v' g.spares;
        aborted = g.aborted;
        attempts = attempts tries result v v' g;
        once = λ all. once result v v' (g.once all);
        next = λ all. next (only_reads t) region.last v.floor v'.floor result (g.near all);
        legal = l;
        whole = λ all. whole_of region (reply_in result) v v' l g.grants all;
        history = λ all. continues region t (reply_in result) v v' rs
            (whole_of region (reply_in result) v v' l g.grants all);
        fault = faults tries result v v' g.stopped;
        alone = λ all. not_busy result (g.alone all);
      }

  -- a call with numbers out of their range does nothing
  pub not_asked : (tries : ℕ) (c : ClientShown) → is_call t tries ≡ false → IsFreeHanded c.value →
      HasCalled region t tries (Err fault.Arguments) c c
  not_asked tries c out free = record {
    client = refl;
    grants = refl;
    floor = omega arith;
    free_handed = free;
    arguments = (λ _. out, λ _. refl);
    records = refl;
    spares = tt;
    aborted = ([], sym (append-nil (all_aborted c.value)));
    attempts = refl;
    once = λ _. refl;
    next = λ _. refl;
    legal = tt;
    whole = λ _. tt;
    history = λ _ s h. h;
    fault = (out, refl);
    alone = λ _. tt;
  }

  pub not_asked_placed : (tries : ℕ) (c : ClientShown) (e : CallStatistics) → is_call t tries ≡ false →
      IsFreeHanded c.value →
      e ≡ nothing_done → HasCalledPlaced region t tries (Err fault.Arguments) e c c
  not_asked_placed tries c e out free none = record {
    call = not_asked tries c out free;
    place = refl;
    statistics = record {
      conflicts = [];
      shown = tt;
      closes = tt;
      statistics = none;
      begun = let n = ap (λ (o : CallStatistics). o.attempts) none in omega (arith, n);
    };
  }

  -- a call that also tells the place of its record and what it took
  pub has_called_placed : (tries : ℕ) (result : Result (Reply × CommitPosition) Stop) (e : CallStatistics)
      (c c' : ClientShown) →
      IsOpened region → is_call t tries ≡ true → tries ≤ MOST_TRIES → c' ≡ record c { value = c'.value } →
      Called tries result c.value c'.value → Tallied region t tries result c.value c'.value e →
      HasCalledPlaced region t tries (placed_in result) e c c'
  has_called_placed tries result e c c' opened asked few same g h = record {
    call = rw (replied_is result) (has_called tries result c c' opened asked same g);
    place = added result c.value c'.value g.records;
    statistics = took region t tries result c.value c'.value e few g h;
  }

  -- the statistics of a call, by what is left in the place for them
  pub with_effort : (tries : ℕ) (result : Result PlacedReply Fault) (e e' : CallStatistics) (c c' : ClientShown) →
      HasCalledPlaced region t tries result e c c' → e' ≡ e → HasCalledPlaced region t tries result e' c c'
  with_effort tries result e e' c c' h same = rw same h

-- the attempts of a call are traced alike however its end is told
pub traced_as : (fits : List ℕ → Type 0) (region : RegionShown) (result : Result (Reply × CommitPosition) Stop)
    (v v' : Client) (from to now : ℕ) (before after end : Option (List Trace)) →
    HasTraced fits region result v v' from to before after → now ≡ to → end ≡ after →
    HasTraced fits region (replied (placed_in result)) v v' from now before end
traced_as fits region (Ok a) v v' from to now before after end h n e = rw (n, e)
    (record { later = h.later; each = h.each })
traced_as fits region (Err s) v v' from to now before after end h n e = rw (n, e)
    (record { later = h.later; each = h.each })

pub none_traced : (fits : List ℕ → Type 0) (region : RegionShown) (v : Client) (from : ℕ)
    (before : Option (List Trace)) → HasTraced fits region {A = Reply} (Err fault.Arguments) v v from from before before
none_traced fits region v from before = record {
  later = omega arith;
  each = λ all is. (all, [], is, sym (append-nil all), refl, omega arith, omega arith);
}
