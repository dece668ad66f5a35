-- Commands of the opening that were asked for, one after the other.
use Rattle.std.proofs.Common.{◌≡◌, ◌≤◌, ◌⊎◌, inl, inr, refl, sym, subst, arith, ℕ, suc, ◌+◌, ◌-◌, List, [], ◌∷◌, ◌++◌}
use Rattle.std.proofs.Common.{length-append, append_assoc, Result, Ok, Err, IfOk, IfErr}
use Rattle.std.proofs.lemmas.List.{map-append}
use Rattle.std.specs.Result.{IsErrAnd}
use Rattle.stm_core.specs.Client.{Client}
use Rattle.vac_model.specs.declared.commands.Command.{Command}
use Rattle.vac_model.specs.declared.tasks.Task.TheVariants.{One}
use Rattle.vac_model.specs.declared.commands.Command.TheVariants.{NewCustomer}
use Rattle.load_tasks.specs.Draws.{Reader, Drawn, joined, for_each}
use Rattle.load_tasks.specs.Tasks.{stocks, customers, opening}
use Rattle.load_tasks.specs.declared.settings.Settings.{Settings}
use Rattle.load_run.specs.Looping.{Answered}
use Rattle.stm_region.specs.Shown.{RegionShown}
use Rattle.vac_manager.specs.Called.{HasAllGrants, CallerShown}
use Rattle.stm_object.specs.Callers.{GoesOn}
use Rattle.vac_manager.specs.declared.fault.Fault.{Fault}
use Rattle.load_run.specs.Keeping.{RecorderContents, HasKeptAdded}
use Rattle.load_run.specs.Opening.{as_tasks, RanDrawn, RanIn, Begun, Stopped, StoppedIn, IsAnswered, IsOpeningFault}
use Rattle.load_run.specs.Opening.{WasAnswered, WasRefused, RanOrStopped, OpeningEnded}
use Rattle.load_tasks.proofs.Drawing.{plus_one, drawn_always, drawn_then_always, drawn_joined}
use Rattle.load_run.proofs.Answering.{answered_both, answered_quiet}
use Rattle.load_run.proofs.Callers.{of_manager, went_both}
use Rattle.load_run.proofs.Beginning.{Readable, readable_stocks, begun_whole, begun_first, begun_second, begun_on}
use Rattle.load_run.proofs.Beginning.{begun_items, begun_customers, More, more_customers, long_customers}

ran_joined : {D : Type 0} (leads : D → ℕ → D → Type 0) (first second : Reader (List Command))
    (y z w : CallerShown) (a b c : D) → GoesOn y z → RanIn leads first y z a b → RanIn leads second z w b c →
    RanIn leads (joined first second) y w a c
ran_joined leads first second y z w a b c e p k =
    let q = of_manager (λ m. RanDrawn leads m.renewal second z.user.value w.user.value b c) y z e k in
    record {
      commands = p.commands ++ q.commands;
      drawn = drawn_joined leads first second a p.commands b q.commands c p.drawn q.drawn;
      answered = rw (map-append (λ c. One c) p.commands q.commands)
          (answered_both y.shared.renewal (as_tasks p.commands) (as_tasks q.commands) y.user.value z.user.value
          w.user.value p.answered q.answered);
      near = omega (arith, length-append p.commands q.commands, p.near, q.near);
    }

-- a call that was answered was kept
pub kept_if_ok : {E : Type 0} (command : Command) (y y' : CallerShown) (before after : RecorderContents)
    (result : Result (Unit {0}) E) → IfOk result (λ _. WasAnswered command y y' before after) →
    IfOk result (λ _. HasKeptAdded y.shared.renewal y.user.value y'.user.value before after)
kept_if_ok command y y' before after (Ok x) q = q.kept
kept_if_ok command y y' before after (Err e) q = tt

pub customers_more : (renewal n : ℕ) (v w u : Client) → Answered renewal (as_tasks (customers n)) v w →
    Answered renewal (One (NewCustomer (n + 1)) ∷ []) w u → Answered renewal (as_tasks (customers (n + 1))) v u
customers_more renewal n v w u = rw (plus_one n) (λ p q. rw (map-append (λ c. One c) (customers n)
    (NewCustomer (suc n) ∷ []))
    (answered_both renewal (as_tasks (customers n)) (One (NewCustomer (suc n)) ∷ []) v w u p q))

-- the items were added, and then the first n customers were made
pub record Opening {D : Type 0} (leads : D → ℕ → D → Type 0) (renewal : ℕ) (m n : ℕ) (v u : Client) (a b : D) :
    Type 0 where
  pub between : Client
  pub items : RanDrawn leads renewal (for_each m stocks) v between a b
  pub made : Answered renewal (as_tasks (customers n)) between u
  pub near : u.floor ≤ between.floor + n

pub opening_more : {D : Type 0} (leads : D → ℕ → D → Type 0) (m n : ℕ) (y z w : CallerShown)
    (before after : RecorderContents)
    (a b : D) → GoesOn y z → Opening leads y.shared.renewal m n y.user.value z.user.value a b →
    WasAnswered (NewCustomer (n + 1)) z w before after →
    Opening leads y.shared.renewal m (n + 1) y.user.value w.user.value a b
opening_more leads m n y z w before after a b e p q =
    let made = of_manager (λ r. Answered r.renewal (One (NewCustomer (n + 1)) ∷ []) z.user.value w.user.value)
    y z e q.answered in
    record {
      between = p.between;
      items = p.items;
      made = customers_more y.shared.renewal n p.between z.user.value w.user.value p.made made;
      near = omega (arith, p.near, q.near);
    }

pub opening_all : {D : Type 0} (leads : D → ℕ → D → Type 0) (renewal : ℕ) (s : Settings) (v u : Client) (a b : D) →
    Opening leads renewal s.items s.items v u a b → RanDrawn leads renewal (opening s) v u a b
opening_all leads renewal s v u a b p = record {
  commands = p.items.commands ++ customers s.items;
  drawn = drawn_then_always leads (for_each s.items stocks) (λ items. items ++ customers s.items) a p.items.commands b
      p.items.drawn;
  answered = rw (map-append (λ c. One c) p.items.commands (customers s.items))
      (answered_both renewal (as_tasks p.items.commands) (as_tasks (customers s.items)) v p.between u p.items.answered
      p.made);
  near = omega (
    arith,
    length-append p.items.commands (customers s.items),
    long_customers s.items,
    p.items.near,
    p.near,
  );
}

-- the first of two stopped
stopped_first : {D : Type 0} (leads : D → ℕ → D → Type 0) (first second : Reader (List Command)) (fault : Fault)
    (y y' : CallerShown) (a b : D) → Readable second → StoppedIn leads first fault y y' a b →
    StoppedIn leads (joined first second) fault y y' a b
stopped_first leads first second fault y y' a b r p = record {
  asked = p.asked;
  refused = p.refused;
  begun = begun_first leads first second a (p.asked ++ (p.refused ∷ [])) b r p.begun;
  between = p.between;
  answered = p.answered;
  near = p.near;
  kept = p.kept;
  why = p.why;
}

-- the second of two stopped
stopped_second : {D : Type 0} (leads : D → ℕ → D → Type 0) (first second : Reader (List Command)) (fault : Fault)
    (y z w : CallerShown) (a b c : D) → GoesOn y z → RanIn leads first y z a b →
    StoppedIn leads second fault z w b c → StoppedIn leads (joined first second) fault y w a c
stopped_second leads first second fault y z w a b c e p k =
    let q = of_manager (λ m. Stopped leads m.renewal m.last second fault z.user.value w.user.value b c) y z e k in
    record {
      asked = p.commands ++ q.asked;
      refused = q.refused;
      begun = subst (λ (l : List Command). Begun leads (joined first second) a l c)
          (sym (append_assoc p.commands q.asked (q.refused ∷ [])))
          (begun_second leads first second a p.commands b (q.asked ++ (q.refused ∷ [])) c p.drawn q.begun);
      between = q.between;
      answered = rw (map-append (λ c. One c) p.commands q.asked)
          (answered_both y.shared.renewal (as_tasks p.commands) (as_tasks q.asked) y.user.value z.user.value
          q.between p.answered q.answered);
      near = omega (arith, length-append p.commands q.asked, p.near, q.near);
      kept = q.kept;
      why = q.why;
    }

-- the items stopped at those of this id, of so many that there are
stopped_items : {D : Type 0} (leads : D → ℕ → D → Type 0) (n m : ℕ) (fault : Fault) (y z w : CallerShown)
    (a b c : D) → n + 1 ≤ m → GoesOn y z → RanIn leads (for_each n stocks) y z a b →
    StoppedIn leads (stocks (n + 1)) fault z w b c → StoppedIn leads (for_each m stocks) fault y w a c
stopped_items leads n m fault y z w a b c less e p q =
    let here : StoppedIn leads (for_each (suc n) stocks) fault y w a c =
    stopped_second leads (for_each n stocks) (stocks (suc n)) fault y z w a b c e p
    (subst (λ (k : ℕ). StoppedIn leads (stocks k) fault z w b c) (plus_one n) q) in
    record {
      asked = here.asked;
      refused = here.refused;
      begun = begun_on leads (m - (n + 1)) (suc n) m stocks a (here.asked ++ (here.refused ∷ [])) c
          (omega (arith, less)) (λ j. readable_stocks j) here.begun;
      between = here.between;
      answered = here.answered;
      near = here.near;
      kept = here.kept;
      why = here.why;
    }

-- the items stopped, and the opening with them
stopped_opening : {D : Type 0} (leads : D → ℕ → D → Type 0) (s : Settings) (fault : Fault) (y y' : CallerShown)
    (a b : D) → StoppedIn leads (for_each s.items stocks) fault y y' a b → StoppedIn leads (opening s) fault y y' a b
stopped_opening leads s fault y y' a b p = record {
  asked = p.asked;
  refused = p.refused;
  begun = begun_items leads s a (p.asked ++ (p.refused ∷ [])) b p.begun;
  between = p.between;
  answered = p.answered;
  near = p.near;
  kept = p.kept;
  why = p.why;
}

-- a customer was refused
stopped_customers : {D : Type 0} (leads : D → ℕ → D → Type 0) (s : Settings) (n : ℕ) (fault : Fault)
    (y z w : CallerShown) (a b : D) → n + 1 ≤ s.items → GoesOn y z →
    Opening leads y.shared.renewal s.items n y.user.value z.user.value a b → WasRefused fault z w →
    StoppedIn leads (opening s) fault y w a b
stopped_customers leads s n fault y z w a b less e p q =
    let m : More n s.items = (more_customers (s.items - (n + 1)) n s.items (omega (arith, less))) in
    record {
      asked = p.items.commands ++ customers n;
      refused = NewCustomer (suc n);
      begun = subst (λ (l : List Command). Begun leads (opening s) a l b)
          (sym (append_assoc p.items.commands (customers n) (NewCustomer (suc n) ∷ [])))
          (begun_customers leads s a p.items.commands b (customers (suc n)) m.rest p.items.drawn m.all);
      between = z.user.value;
      answered = rw (map-append (λ c. One c) p.items.commands (customers n))
          (answered_both y.shared.renewal (as_tasks p.items.commands) (as_tasks (customers n)) y.user.value
          p.between z.user.value p.items.answered p.made);
      near = omega (arith, length-append p.items.commands (customers n), long_customers n, p.items.near, p.near);
      kept = q.same;
      why = of_manager (λ m. IsOpeningFault m.last z.user.value.floor fault) y z e q.why;
    }

-- a client that is alone asked for a command whose words were drawn
pub asked_one : {D : Type 0} (leads : D → ℕ → D → Type 0) (reader : Reader (List Command)) (command : Command)
    (y y' : CallerShown) (before after : RecorderContents) (a b : D) (result : Result (Unit {0}) Fault) → GoesOn y y' →
    HasAllGrants y'.user.value → Drawn leads reader a (command ∷ []) b →
    IfOk result (λ _. WasAnswered command y y' before after) → IfErr result (λ fault. WasRefused fault y y') →
    RanOrStopped leads reader result y y' a b
asked_one leads reader command y y' before after a b (Ok x) e all p q r = record {
  caller = e;
  grants = all;
  ran = record { commands = command ∷ []; drawn = p; answered = q.answered; near = q.near };
  stopped = tt;
}
asked_one leads reader command y y' before after a b (Err f) e all p q r = record {
  caller = e;
  grants = all;
  ran = tt;
  stopped = record {
    asked = [];
    refused = command;
    begun = begun_whole leads reader a (command ∷ []) b p;
    between = y.user.value;
    answered = answered_quiet y.shared.renewal y.user.value y.user.value refl (omega arith) refl;
    near = omega arith;
    kept = r.same;
    why = r.why;
  };
}

-- for those of the first of two, which it ran, and then for those of the second
pub asked_both : {D : Type 0} (leads : D → ℕ → D → Type 0) (first second : Reader (List Command))
    (y z w : CallerShown) (a b c : D) (x : Unit {0}) (result : Result (Unit {0}) Fault) →
    RanOrStopped leads first (Ok x) y z a b → RanOrStopped leads second result z w b c →
    RanOrStopped leads (joined first second) result y w a c
asked_both leads first second y z w a b c x (Ok u) p q = record {
  caller = went_both y z w p.caller q.caller;
  grants = q.grants;
  ran = ran_joined leads first second y z w a b c p.caller p.ran q.ran;
  stopped = tt;
}
asked_both leads first second y z w a b c x (Err f) p q = record {
  caller = went_both y z w p.caller q.caller;
  grants = q.grants;
  ran = tt;
  stopped = stopped_second leads first second f y z w a b c p.caller p.ran q.stopped;
}

-- it stopped within those of the first of two
pub asked_first : {D : Type 0} (leads : D → ℕ → D → Type 0) (first second : Reader (List Command)) (fault : Fault)
    (y y' : CallerShown) (a b : D) → Readable second → RanOrStopped leads first (Err fault) y y' a b →
    RanOrStopped leads (joined first second) (Err fault) y y' a b
asked_first leads first second fault y y' a b r p = record {
  caller = p.caller;
  grants = p.grants;
  ran = tt;
  stopped = stopped_first leads first second fault y y' a b r p.stopped;
}

-- for those of no item yet
pub asked_none : {D : Type 0} (leads : D → ℕ → D → Type 0) (f : ℕ → Reader (List Command)) (y : CallerShown) (a : D)
    (x : Unit {0}) → HasAllGrants y.user.value → RanOrStopped leads (for_each 0 f) (Ok x) y y a a
asked_none leads f y a x all = record {
  caller = refl;
  grants = all;
  ran = record {
    commands = [];
    drawn = drawn_always leads a [];
    answered = answered_quiet y.shared.renewal y.user.value y.user.value refl (omega arith) refl;
    near = omega arith;
  };
  stopped = tt;
}

-- for those of one item more
pub asked_more : {D : Type 0} (leads : D → ℕ → D → Type 0) (n : ℕ) (f : ℕ → Reader (List Command))
    (y z w : CallerShown) (a b c : D) (x u : Unit {0}) → RanOrStopped leads (for_each n f) (Ok x) y z a b →
    RanOrStopped leads (f (n + 1)) (Ok u) z w b c → RanOrStopped leads (for_each (n + 1) f) (Ok u) y w a c
asked_more leads n f y z w a b c x u =
    rw (plus_one n) (λ p q. asked_both leads (for_each n f) (f (suc n)) y z w a b c x (Ok u) p q)

-- a fault that is handed on
pub handed_on : {X E : Type 0} (r : Result X E) (e : E) (P : E → Type 0) → IsErrAnd r (λ f. f ≡ e) → P e → IfErr r P
handed_on (Ok x) e P is holds = tt
handed_on (Err f) e P is holds = subst P (sym is) holds

pub asked_handed_on : {D : Type 0} (leads : D → ℕ → D → Type 0) (reader : Reader (List Command))
    (r : Result (Unit {0}) Fault) (fault : Fault) (y y' : CallerShown) (a b : D) → IsErrAnd r (λ f. f ≡ fault) →
    RanOrStopped leads reader (Err fault) y y' a b → RanOrStopped leads reader r y y' a b
asked_handed_on leads reader (Ok x) fault y y' a b is p = absurd is
asked_handed_on leads reader (Err f) fault y y' a b is p =
    subst (λ (e : Fault). RanOrStopped leads reader (Err e) y y' a b) (sym is) p

-- a load's opening stopped
opening_stopped : {D : Type 0} (leads : D → ℕ → D → Type 0) (s : Settings) (r : Result (Unit {0}) Fault) (fault : Fault)
    (y y' : CallerShown) (a b : D) → IsErrAnd r (λ f. f ≡ fault) → GoesOn y y' → HasAllGrants y'.user.value →
    StoppedIn leads (opening s) fault y y' a b → OpeningEnded leads s r y y' a b
opening_stopped leads s (Ok x) fault y y' a b is e all p = absurd is
opening_stopped leads s (Err f) fault y y' a b is e all p = record {
  asked = record {
    caller = e;
    grants = all;
    ran = tt;
    stopped = subst (λ (e : Fault). StoppedIn leads (opening s) e y y' a b) (sym is) p;
  };
  ready = tt;
}

-- at the items of this number
pub opening_stopped_at_items : {D : Type 0} (leads : D → ℕ → D → Type 0) (s : Settings) (n : ℕ)
    (r : Result (Unit {0}) Fault) (fault : Fault) (y z w : CallerShown) (a b c : D) (x : Unit {0}) → n + 1 ≤ s.items →
    IsErrAnd r (λ f. f ≡ fault) → RanOrStopped leads (for_each n stocks) (Ok x) y z a b →
    RanOrStopped leads (stocks (n + 1)) (Err fault) z w b c → OpeningEnded leads s r y w a c
opening_stopped_at_items leads s n r fault y z w a b c x less is p q = opening_stopped leads s r fault y w a c is
    (went_both y z w p.caller q.caller) q.grants (stopped_opening leads s fault y w a c
    (stopped_items leads n s.items fault y z w a b c less p.caller p.ran q.stopped))

-- at the customer of this number
pub opening_stopped_at_customer : {D : Type 0} (leads : D → ℕ → D → Type 0) (s : Settings) (n : ℕ)
    (r : Result (Unit {0}) Fault) (fault : Fault) (y z w : CallerShown) (a b : D) → n + 1 ≤ s.items →
    IsErrAnd r (λ f. f ≡ fault) → GoesOn y z → GoesOn z w → HasAllGrants w.user.value →
    Opening leads y.shared.renewal s.items n y.user.value z.user.value a b → WasRefused fault z w →
    OpeningEnded leads s r y w a b
opening_stopped_at_customer leads s n r fault y z w a b less is e f all p q = opening_stopped leads s r fault y w a b is
    (went_both y z w e f) all (stopped_customers leads s n fault y z w a b less e p q)

-- of at least one customer that was made the last one was answered
pub last_answered : (region : RegionShown) (n items : ℕ) (v : Client) → n ≡ items → 1 ≤ items →
    (n ≡ 0) ⊎ IsAnswered region v → IsAnswered region v
last_answered region n items v all some (inl none) = absurd (omega (arith, all, some, none))
last_answered region n items v all some (inr answered) = answered
