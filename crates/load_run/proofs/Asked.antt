-- Tasks that were asked for, and whose calls were kept.
use Rattle.std.proofs.lemmas.Bool.Decides.{nat_tests}
use Rattle.std.proofs.Common.{◌≡◌, ◌≢◌, ◌∙◌, ℕ, ◌+◌, ◌<◌, ◌≤◌, Bool, true, false, ◌&&◌, List, [], ◌∷◌, ◌++◌, Option}
use Rattle.std.proofs.Common.{Result, Ok, Err, IfOk, IfErr, append-nil, refl, sym, ap, subst, arith}
use Rattle.stm_core.specs.Client.{Client, Record}
use Rattle.stm_region.specs.Shown.{RegionShown}
use Rattle.vac_model.specs.Ranges.{is_task}
use Rattle.vac_model.specs.declared.commands.Command.{Command}
use Rattle.vac_model.specs.declared.replies.Reply.{Reply}
use Rattle.vac_model.specs.declared.tasks.Task.{Task}
use Rattle.vac_model.specs.declared.tasks.Task.TheVariants.{One}
use Rattle.vac_manager.specs.Called.{ClientShown, HasAllGrants, IsFault, IsNext, IsNotBusy, Attempts, is_try_count}
use Rattle.vac_manager.specs.Keeping.{HasKept, HasTakenOut}
use Rattle.vac_manager.specs.Law.{IsFitting}
use Rattle.vac_manager.specs.Placed.{HasCalledPlaced, nothing_done, replied}
use Rattle.vac_manager.specs.Called.{CallerShown}
use Rattle.vac_manager.specs.Tracing.{HasTraced, Trace}
use Rattle.vac_manager.specs.declared.fault.Fault.{Fault}
use Rattle.vac_manager.specs.declared.fault.Fault.TheVariants as fault
use Rattle.vac_manager.specs.declared.placed.CallStatistics.{CallStatistics}
use Rattle.vac_manager.specs.declared.placed.PlacedReply.{PlacedReply}
use Rattle.load_run.specs.Asking.{HasRecorded}
use Rattle.load_run.specs.Attempted.{AreStatistics, no_attempts, with_call}
use Rattle.load_run.specs.Keeping.{RecorderContents, HasKeptAdded}
use Rattle.load_run.specs.Looping.{Answered, AreOfTasks, Clocked, counted, least_attempts_of, nothing}
use Rattle.load_run.specs.Looping.{answered_by}
use Rattle.load_run.specs.Opening.{IsAnswered, IsOpeningFault, WasAnswered, WasRefused}
use Rattle.load_run.proofs.Answering.{RanOne, answered_one, answered_quiet}
use Rattle.load_run.proofs.Attempting.{took_answered, took_none, took_refused}
use Rattle.load_run.proofs.Clocking.{clocked_answered, clocked_quiet, clocked_refused}
use Rattle.load_run.proofs.Notes.{kept_none, kept_one, kept_refused}

-- a client issued a task in its ranges, with this limit on attempts, and the call ended with this
-- result and these statistics, or the recorder had no room and the task was not issued: exactly if
-- the call completed, its record was added, and the recorder kept the call. The call of a solo
-- client met no conflict; if the call completed, the client's records are a complete history, and
-- otherwise the call was refused as a command of the setup phase is
pub record WasAsked (region : RegionShown) (t : Task) (tries : ℕ) (end : Result (Unit {0}) Fault)
    (e : CallStatistics) (v v' : Client) (before after : RecorderContents) : Type 0 where
  pub in_range : IfErr end (λ why. why ≢ fault.Arguments)
  pub answered : Answered region.renewal (answered_by t end) v v'
  pub attempts : v.attempt.number + least_attempts_of tries end ≤ v'.attempt.number
  pub alone : HasAllGrants v → (counted end nothing).busy ≡ 0
  pub clock : HasAllGrants v → Clocked region.last v v' (counted end nothing)
  pub took : AreStatistics tries (counted end nothing) (with_call e no_attempts)
  pub kept : HasKeptAdded region.renewal v v' before after
  pub ready : HasAllGrants v → IfOk end (λ _. IsAnswered region v')
  pub refused : HasAllGrants v → IfErr end (λ why. IsOpeningFault region.last v.floor why)

one_try : (tries : ℕ) → is_try_count tries ≡ true → 1 ≤ tries
one_try tries h = grind (arith, nat_tests, h)

-- what is traced between a lending and a taking back, by what the keeper has
pub traced_by : (fits : List ℕ → Type 0) (region : RegionShown) {E : Type 0} (r : Result Reply E) (v v' : Client)
    (from lent end to : ℕ) (a b k m : Option (List Trace)) → lent ≡ from → to ≡ end → b ≡ a → m ≡ k →
    HasTraced fits region r v v' lent end b k → HasTraced fits region r v v' from to a m
traced_by fits region r v v' from lent end to a b k m begun ended e f h =
    subst (λ (n : ℕ). HasTraced fits region r v v' n to a m) begun
    (subst (λ (n : ℕ). HasTraced fits region r v v' lent n a m) (sym ended)
    (subst (λ (o : Option (List Trace)). HasTraced fits region r v v' lent end a o) (sym f)
    (subst (λ (o : Option (List Trace)). HasTraced fits region r v v' lent end o k) e h)))

-- there was no room to keep the call
pub asked_none : (region : RegionShown) (t : Task) (tries : ℕ) (e : CallStatistics) (v : Client)
    (a b : RecorderContents) →
    is_try_count tries ≡ true → e ≡ nothing_done → b ≡ a → WasAsked region t tries (Err fault.Memory) e v v a b
asked_none region t tries e v a b some none same = record {
  in_range = λ q. cc;
  answered = answered_quiet region.renewal v v refl (omega arith) refl;
  attempts = omega arith;
  alone = λ h. refl;
  clock = λ h. clocked_quiet region.last v v refl;
  took = took_none tries e (one_try tries some) none;
  kept = kept_none region.renewal v a b same;
  ready = λ h. tt;
  refused = λ h. tt;
}

-- what a loop needs of a task that was issued
pub record Issued {E : Type 0} (region : RegionShown) (built : Result Task E) (tries : ℕ)
    (end : Result (Unit {0}) Fault) (e : CallStatistics) (v v' : Client) (a b : RecorderContents) : Type 0 where
  pub in_range : IfErr end (λ why. why ≢ fault.Arguments)
  pub one : RanOne region.renewal built tries end v v'
  pub clock : HasAllGrants v → Clocked region.last v v' (counted end nothing)
  pub took : AreStatistics tries (counted end nothing) (with_call e no_attempts)
  pub kept : HasKeptAdded region.renewal v v' a b

-- a task that was built, and for whose call there was room
pub issued : {E : Type 0} (region : RegionShown) (drawn : Result Task E) (t : Task) (tries : ℕ)
    (end : Result (Unit {0}) Fault) (e : CallStatistics) (v v' : Client) (a b : RecorderContents) → drawn ≡ Ok t →
    WasAsked region t tries end e v v' a b → Issued region drawn tries end e v v' a b
issued region drawn t tries end e v v' a b is h =
    subst (λ (x : Result Task _). Issued region x tries end e v v' a b) (sym is) (record {
      in_range = h.in_range;
      one = (h.answered, h.attempts, h.alone);
      clock = h.clock;
      took = h.took;
      kept = h.kept;
    })

-- a task that was not built, or for whose call there was no room
pub issued_none : {E : Type 0} (region : RegionShown) (drawn : Result Task E) (tries : ℕ) (e : CallStatistics)
    (v : Client)
    (a b : RecorderContents) → is_try_count tries ≡ true → e ≡ nothing_done → b ≡ a →
    Issued region drawn tries (Err fault.Memory) e v v a b
issued_none region (Ok t) tries e v a b some none same =
    issued region (Ok t) t tries (Err fault.Memory) e v v a b refl (asked_none region t tries e v a b some none same)
issued_none region (Err f) tries e v a b some none same = record {
  in_range = λ q. cc;
  one = (refl, refl);
  clock = λ alone. clocked_quiet region.last v v refl;
  took = took_none tries e (one_try tries some) none;
  kept = kept_none region.renewal v a b same;
}

attempt_more : (n m tries : ℕ) → n < m → n + least_attempts_of {R = Unit {0}} tries (Ok tt) ≤ m
attempt_more n m tries less = omega arith

-- the call was answered, and kept
pub asked_answered : (region : RegionShown) (t : Task) (tries : ℕ) (end : Result PlacedReply Fault) (p : PlacedReply)
    (e : CallStatistics) (c c' : ClientShown) (a b k : RecorderContents) → end ≡ Ok p →
    HasCalledPlaced region t tries end e c c' →
    HasTraced IsFitting region (replied end) c.value c'.value a.latest b.latest a.traces b.traces →
    b.calls ≡ a.calls → HasKept t p b.traces b.calls k.calls → HasTakenOut b.traces k.traces →
    k.latest ≡ b.latest → WasAsked region t tries (Ok tt) e c.value c'.value a k
asked_answered region t tries end p e c c' a b k is h told same kept taken time =
    let called : HasCalledPlaced region t tries (Ok p) e c c' =
    subst (λ (r : Result PlacedReply Fault). HasCalledPlaced region t tries r e c c') is h in
    let attempts : HasTraced IsFitting region {X = Fault} (Ok p.reply) c.value c'.value a.latest b.latest a.traces
    b.traces = subst (λ (r : Result PlacedReply Fault). HasTraced IsFitting region (replied r) c.value c'.value a.latest
    b.latest a.traces b.traces) is told in
    record {
      in_range = tt;
      answered = answered_one region.renewal t p.reply c.value c'.value called.call.records called.call.floor
          called.call.grants;
      attempts = attempt_more c.value.attempt.number c'.value.attempt.number tries called.call.attempts.0;
      alone = λ alone. refl;
      clock = λ alone. clocked_answered region.last p.reply c.value c'.value (called.call.next alone);
      took = took_answered tries c.value.attempt.number c'.value.attempt.number p called.statistics.conflicts e
          called.call.attempts called.statistics.statistics called.statistics.begun;
      kept = kept_one region t p e.attempts c.value c'.value a b k called.place called.statistics.begun
          called.call.aborted attempts same kept taken time;
      ready = λ alone. record { whole = called.call.whole alone; legal = called.call.legal };
      refused = λ alone. tt;
    }

clash : (a b : Bool) → a ≡ true → b ≡ true → (a && b) ≡ false → ⊥
clash true true e f g = let bad : true ≡ false = g in cc
clash true false e f g = let bad : false ≡ true = f in cc
clash false b e f g = let bad : false ≡ true = e in cc

refused_attempts : (n m tries : ℕ) (f : Fault) → Attempts tries n m (Err f) →
    n + least_attempts_of {R = Unit {0}} tries (Err f) ≤ m
refused_attempts n m tries fault.Arguments h = omega (arith, h)
refused_attempts n m tries fault.Memory h = omega (arith, h.0)
refused_attempts n m tries (fault.Busy conflict) h = omega (arith, h)
refused_attempts n m tries (fault.Spent version) h = omega (arith, h.0)

none_busy : (f : Fault) → IsNotBusy f → (counted {R = Unit {0}} (Err f) nothing).busy ≡ 0
none_busy fault.Arguments h = refl
none_busy fault.Memory h = refl
none_busy (fault.Busy conflict) h = absurd h
none_busy (fault.Spent version) h = refl

opening_fault : (region : RegionShown) (t : Task) (tries : ℕ) (f : Fault) (v v' : Client) → f ≢ fault.Arguments →
    IsNext region.last v.floor v'.floor (Err f) → IsFault region t tries f v v' → IsOpeningFault region.last v.floor f
opening_fault region t tries fault.Arguments v v' known next why = known refl
opening_fault region t tries fault.Memory v v' known next why = tt
opening_fault region t tries (fault.Busy conflict) v v' known next why = next
opening_fault region t tries (fault.Spent version) v v' known next why = (why.1.version_is, next)

-- the call was refused
pub asked_refused : (region : RegionShown) (t : Task) (tries : ℕ) (end : Result PlacedReply Fault) (f : Fault)
    (e : CallStatistics)
    (c c' : ClientShown) (a b k : RecorderContents) → is_task t ≡ true → is_try_count tries ≡ true → end ≡ Err f →
    HasCalledPlaced region t tries end e c c' →
    HasTraced IsFitting region (replied end) c.value c'.value a.latest b.latest a.traces b.traces →
    b.calls ≡ a.calls → k ≡ b → WasAsked region t tries (Err f) e c.value c'.value a k
asked_refused region t tries end f e c c' a b k range some is h told same kept =
    let called : HasCalledPlaced region t tries (Err f) e c c' =
    subst (λ (r : Result PlacedReply Fault). HasCalledPlaced region t tries r e c c') is h in
    let attempts : HasTraced IsFitting region {A = Reply} (Err f) c.value c'.value a.latest b.latest a.traces b.traces =
    subst (λ (r : Result PlacedReply Fault). HasTraced IsFitting region (replied r) c.value c'.value a.latest b.latest
    a.traces b.traces) is told in
    let known : f ≢ fault.Arguments = λ q.
    clash (is_task t) (is_try_count tries) range some (called.call.arguments.0 (ap Err q)) in
    record {
      in_range = known;
      answered = answered_quiet region.renewal c.value c'.value called.place called.call.floor called.call.grants;
      attempts = refused_attempts c.value.attempt.number c'.value.attempt.number tries f called.call.attempts;
      alone = λ alone. none_busy f (called.call.alone alone);
      clock = λ alone. clocked_refused region.last f c.value c'.value (called.call.next alone);
      took = took_refused tries c.value.attempt.number c'.value.attempt.number f called.statistics.conflicts e known
          called.call.attempts called.statistics.statistics called.statistics.begun;
      kept = kept_refused region f e.attempts c.value c'.value a b k called.place called.statistics.begun
          called.call.aborted attempts same kept;
      ready = λ alone. tt;
      refused = λ alone. opening_fault region t tries f c.value c'.value known (called.call.next alone)
          called.call.fault;
    }

-- a call that was recorded after it ended
pub asked_recorded : (region : RegionShown) (t : Task) (tries : ℕ) (end : Result PlacedReply Fault)
    (ended : Result (Unit {0}) Fault) (e : CallStatistics) (c c' : ClientShown) (a b k : RecorderContents) →
    is_task t ≡ true → is_try_count tries ≡ true → HasCalledPlaced region t tries end e c c' →
    HasTraced IsFitting region (replied end) c.value c'.value a.latest b.latest a.traces b.traces →
    b.calls ≡ a.calls → HasRecorded t end ended b k → WasAsked region t tries ended e c.value c'.value a k
asked_recorded region t tries (Ok p) ended e c c' a b k range some called told same h =
    subst (λ (r : Result (Unit {0}) Fault). WasAsked region t tries r e c.value c'.value a k) (sym h.0)
    (asked_answered region t tries (Ok p) p e c c' a b k refl called told same h.1 h.2 h.3)
asked_recorded region t tries (Err f) ended e c c' a b k range some called told same h =
    subst (λ (r : Result (Unit {0}) Fault). WasAsked region t tries r e c.value c'.value a k) (sym h.0)
    (asked_refused region t tries (Err f) f e c c' a b k range some refl called told same h.1)

none_of : (rs : List Record) → AreOfTasks [] rs → rs ≡ []
none_of [] h = refl
none_of (r ∷ rs) h = absurd h

-- what was not answered added no record
no_record : (n : ℕ) (v v' : Client) → Answered n [] v v' → v'.records ≡ v.records
no_record n v v' a = a.records ∙ (ap (λ (l : List Record). v.records ++ l) (none_of a.added a.are_of) ∙
    append-nil v.records)

-- a command of the opening was answered
pub command_answered : (command : Command) (e : CallStatistics) (y y' : CallerShown) (a b : RecorderContents)
    (end : Result (Unit {0}) Fault) → HasAllGrants y.user.value →
    WasAsked y.shared (One command) 1 end e y.user.value y'.user.value a b →
    IfOk end (λ _. WasAnswered command y y' a b)
command_answered command e y y' a b (Ok x) alone h = record {
  answered = h.answered;
  near = (h.clock alone).near refl;
  ready = h.ready alone;
  kept = h.kept;
}
command_answered command e y y' a b (Err f) alone h = tt

-- it was refused
pub command_refused : (command : Command) (e : CallStatistics) (y y' : CallerShown) (a b : RecorderContents)
    (end : Result (Unit {0}) Fault) → HasAllGrants y.user.value →
    WasAsked y.shared (One command) 1 end e y.user.value y'.user.value a b →
    IfErr end (λ why. WasRefused why y y')
command_refused command e y y' a b (Ok x) alone h = tt
command_refused command e y y' a b (Err f) alone h = record {
  why = h.refused alone;
  same = no_record y.shared.renewal y.user.value y'.user.value h.answered;
}
