-- The effect of a step of the running core on its fields.
use Rattle.std.proofs.Common.{◌≡◌, ℕ, zero, suc, ◌+◌, ◌-◌, ◌<◌, ◌≤◌, List, [], ◌∷◌, ◌++◌, length, set, get_or}
use Rattle.std.proofs.Common.{replicate}
use Rattle.std.proofs.Common.{Result, Ok, Err}
use Rattle.std.proofs.Common.{OnErr, refl, ap, ◌∙◌, subst, arith, Bool, true, false, cond, eqb, ◌&&◌, ◌||◌}
use Rattle.std.proofs.lemmas.List.{get_or_default}
use Rattle.std.proofs.lemmas.Bool.Decides.{nat_tests}
use Rattle.std.specs.Vec.{with_item}
use Rattle.stm_core.specs.Client.{Client, Record}
use Rattle.stm_core.specs.Event.{Action, tick, validate, finish, decision, gone, is_empty, passes, versioned}
use Rattle.stm_core.specs.Event.{decides_at_once, writer_record, opener, giving, renewing, forgetting}
use Rattle.stm_core.specs.Core.{Core, found, left, written, client_of, stamp_of, splits, gathers, renews}
use Rattle.stm_core.specs.declared.limits.TheConstants.{MOST_GRANTS}
use Rattle.stm_replay.specs.Seat.{blank, seat_after, tag_number}
use Rattle.stm_replay.specs.Running.{Running, stripes_of, entered, entry_of_record, run_acts, run_played}
use Rattle.stm_replay.specs.Placing.{Placed, put_in}
use Rattle.stm_replay.specs.StateView.{running_of}
use Rattle.stm_replay.specs.declared.state.State.TheInside.{Inside}

pub refused : {T E : Type 0} (r : Result T E) {P : Type 0} → P → OnErr r P
refused (Ok x) p = tt
refused (Err e) p = p

set_own : (l : List Client) (i : ℕ) (d : Client) → set l i (get_or l i d) ≡ l
set_own [] i d = refl
set_own (x ∷ l) zero d = refl
set_own (x ∷ l) (suc i) d = ap (λ m. x ∷ m) (set_own l i d)

-- the state of a client, written back as it was
pub kept_seat : {A : Type 0} (i : Inside A) (s : Running) (k : ℕ) (x y : Client) → running_of i ≡ s →
    x ≡ get_or i.seats.items k x → y ≡ x → running_of (record i { seats = with_item i.seats k y }) ≡ s
kept_seat i s k x y v e f = ap (λ l. record (running_of i) { core = record (running_of i).core { clients = l } })
    (ap (λ z. set i.seats.items k z) (f ∙ e) ∙ set_own i.seats.items k x) ∙ v

entered_apart : (rs : List Record) (s : Running) (c : Core) →
    record { core = c; order = (entered rs s).order } ≡ entered rs (record s { core = c })
entered_apart [] s c = refl
entered_apart (r ∷ rs) s c = refl

acts_in : {A : Type 0} (i : Inside A) (k : ℕ) (e : Action) (n next : ℕ) (x y : Client) (d : Core) (o : Placed)
    → k - 1 < length i.seats.items → x ≡ get_or i.seats.items (k - 1) x
    → n ≡ found (stripes_of (running_of i).core) (running_of i).core e
    → next ≡ i.events + 1
    → y ≡ seat_after i.events e n x
    → d ≡ written e (left e n (client_of (running_of i).core k)) (running_of i).core
    → o ≡ (entered (decision (stamp_of (running_of i).core k) e n (client_of (running_of i).core k))
    (running_of i)).order
    → record { core = record d { clients = set i.seats.items (k - 1) y; events = next }; order = o } ≡ run_acts k e
    (running_of i)
acts_in i k e n next x y d o inside value word more seat words filed =
    let r : Running = running_of i in
    let m : ℕ = found (stripes_of r.core) r.core e in
    let same : x ≡ client_of r.core k = value ∙ get_or_default i.seats.items (k - 1) x gone inside in
    rw (words, filed, seat, more, word, same) (entered_apart (decision (stamp_of r.core k) e m (client_of r.core k)) r
    (record (written e (left e m (client_of r.core k)) r.core) {
      clients = set r.core.clients (k - 1) (seat_after r.core.events e m (client_of r.core k));
      events =
          r.core.events + 1;
    }))

-- the borrowed state is the client's
pub seen : {A : Type 0} (i : Inside A) (s : Running) (k : ℕ) (x : Client) → running_of i ≡ s →
    k - 1 < length s.core.clients → x ≡ get_or i.seats.items (k - 1) x → x ≡ client_of s.core k
seen i s k x v = subst (λ (r : Running). k - 1 < length r.core.clients → x ≡ get_or i.seats.items (k - 1) x →
    x ≡ client_of r.core k) v (λ inside value. value ∙ get_or_default i.seats.items (k - 1) x gone inside)

-- a step of an existing client, from the word that it finds, the client's state before and after,
-- and its effects on the words and on the order
pub acts_is : {A : Type 0} (i : Inside A) (s : Running) (k : ℕ) (e : Action) (n next : ℕ) (x y : Client) (d : Core)
    (o : Placed)
    → running_of i ≡ s
    → k - 1 < length s.core.clients → x ≡ get_or i.seats.items (k - 1) x
    → n ≡ found (stripes_of s.core) s.core e
    → next ≡ s.core.events + 1
    → y ≡ seat_after s.core.events e n x
    → d ≡ written e (left e n (client_of s.core k)) (running_of i).core
    → o ≡ (entered (decision (stamp_of s.core k) e n (client_of s.core k)) s).order
    → record { core = record d { clients = set i.seats.items (k - 1) y; events = next }; order = o } ≡ run_acts k e s
acts_is i s k e n next x y d o v =
    subst (λ (r : Running). k - 1 < length r.core.clients → x ≡ get_or i.seats.items (k - 1) x →
    n ≡ found (stripes_of r.core) r.core e → next ≡ r.core.events + 1 → y ≡ seat_after r.core.events e n x →
    d ≡ written e (left e n (client_of r.core k)) (running_of i).core →
    o ≡ (entered (decision (stamp_of r.core k) e n (client_of r.core k)) r).order →
    record { core = record d { clients = set i.seats.items (k - 1) y; events = next }; order = o } ≡ run_acts k e r)
    v (acts_in i k e n next x y d o)

-- there is room for another client's grants
pub room_for : (s : Running) (k j grants : ℕ) (x : Client) → x ≡ client_of s.core k →
    grants ≡ (client_of s.core j).grants
    → (client_of s.core k).grants + (client_of s.core j).grants + 1 ≤ MOST_GRANTS → x.grants + grants + 1 ≤ MOST_GRANTS
room_for s k j grants x e f h = rw (e, f) h

-- a client split off, by the seat before and after, and the new one
pub splits_is : {A : Type 0} (i : Inside A) (s : Running) (k next : ℕ) (x y z : Client) (seats : List Client)
    → running_of i ≡ s → k - 1 < length s.core.clients → x ≡ get_or i.seats.items (k - 1) x
    → next ≡ s.core.events + 1 → y ≡ blank (giving x) → z ≡ record opener { grants = 0 }
    → seats ≡ set i.seats.items (k - 1) y ++ z ∷ []
    → record (running_of i) { core = record (running_of i).core { clients = seats; events = next } }
    ≡ run_played (splits k) s
splits_is i s k next x y z seats v = subst (λ (r : Running). k - 1 < length r.core.clients
    → x ≡ get_or i.seats.items (k - 1) x → next ≡ r.core.events + 1 → y ≡ blank (giving x)
    → z ≡ record opener { grants = 0 } → seats ≡ set i.seats.items (k - 1) y ++ z ∷ []
    → record (running_of i) { core = record (running_of i).core { clients = seats; events = next } }
    ≡ run_played (splits k) r) v
    (λ inside value more giver new all.
    let same : x ≡ client_of (running_of i).core k =
    value ∙ get_or_default i.seats.items (k - 1) x gone inside in rw (all, giver, new, more, same) refl)

-- a client gathered, by the seat before and after
pub gathers_is : {A : Type 0} (i : Inside A) (s : Running) (k j grants next : ℕ) (x y z : Client)
    → running_of i ≡ s → k - 1 < length s.core.clients → x ≡ get_or i.seats.items (k - 1) x
    → grants ≡ (client_of s.core j).grants → next ≡ s.core.events + 1
    → y ≡ blank (record x { grants = x.grants + grants + 1; attempt = forgetting x.attempt }) → z ≡ gone
    → running_of (record i { seats = with_item (with_item i.seats (k - 1) y) (j - 1) z; events = next })
    ≡ run_played (gathers k j) s
gathers_is i s k j grants next x y z v = subst (λ (r : Running). k - 1 < length r.core.clients
    → x ≡ get_or i.seats.items (k - 1) x → grants ≡ (client_of r.core j).grants → next ≡ r.core.events + 1
    → y ≡ blank (record x { grants = x.grants + grants + 1; attempt = forgetting x.attempt }) → z ≡ gone
    → running_of (record i { seats = with_item (with_item i.seats (k - 1) y) (j - 1) z; events = next })
    ≡ run_played (gathers k j) r) v
    (λ inside value others more taker left.
    let same : x ≡ client_of (running_of i).core k =
    value ∙ get_or_default i.seats.items (k - 1) x gone inside in rw (taker, left, more, others, same) refl)

-- the clock renewed, by the seat before and after, and the new words
pub renews_is : {A : Type 0} (i : Inside A) (s : Running) (k last next : ℕ) (locks : List ℕ) (x y : Client)
    → running_of i ≡ s → i.stripes ≡ length i.locks.items → k - 1 < length s.core.clients
    → x ≡ get_or i.seats.items (k - 1) x → next ≡ s.core.events + 1 → y ≡ blank (renewing x)
    → locks ≡ replicate i.stripes 0
    → record {
      core = record (running_of i).core {
        last = last;
        renewal = i.renewal + 1;
        events = next;
        clock = 0;
        locks = locks;
        clients = set i.seats.items (k - 1) y;
      };
      order = i.order;
    } ≡ run_played (renews k last) s
renews_is i s k last next locks x y v stripes = subst (λ (r : Running). k - 1 < length r.core.clients
    → x ≡ get_or i.seats.items (k - 1) x → next ≡ r.core.events + 1 → y ≡ blank (renewing x)
    → locks ≡ replicate i.stripes 0
    → record {
      core = record (running_of i).core {
        last = last;
        renewal = i.renewal + 1;
        events = next;
        clock = 0;
        locks = locks;
        clients = set i.seats.items (k - 1) y;
      };
      order = i.order;
    } ≡ run_played (renews k last) r) v
    (λ inside value more renewed free.
    let same : x ≡ client_of (running_of i).core k =
    value ∙ get_or_default i.seats.items (k - 1) x gone inside in rw (free, stripes, renewed, more, same) refl)

-- the word after an exchange, by the number found or by the number wanted
pub exchange : (n m : ℕ) → cond (eqb n m) (n + 1) n ≡ cond (eqb n m) (m + 1) n
exchange n m = grind (arith, nat_tests)

-- a record that two tests decide
twice : (a b : Bool) (r : Record) (s : Running) → cond (a && b) (put_in (entry_of_record r) r.point s.order) s.order ≡
    (entered (cond a (cond b (r ∷ []) []) []) s).order
twice true true r s = refl
twice true false r s = refl
twice false b r s = refl

-- the order after a tick
pub ticked_order : {A : Type 0} (i : Inside A) (s : Running) (k from tag : ℕ) (writes : List (ℕ × ℕ)) (b : Bool)
    (z : Client) (o : Placed)
    → running_of i ≡ s → z ≡ client_of s.core k
    → b ≡ (eqb i.clock from && (is_empty z.attempt.reads || eqb (from + 1) (z.attempt.rv + 1)))
    → o ≡ cond b (put_in (record { client = k; tag = tag; version = from + 1; writer = true; renewal = i.renewal })
    i.events i.order) i.order
    → o ≡ (entered (decision (stamp_of s.core k) (tick from (tag ∷ []) writes) i.clock (client_of s.core k)) s).order
ticked_order i s k from tag writes b z o v = subst (λ (r : Running). z ≡ client_of r.core k
    → b ≡ (eqb i.clock from && (is_empty z.attempt.reads || eqb (from + 1) (z.attempt.rv + 1)))
    → o ≡ cond b (put_in (record { client = k; tag = tag; version = from + 1; writer = true; renewal = i.renewal })
    i.events i.order) i.order
    → o ≡ (entered (decision (stamp_of r.core k) (tick from (tag ∷ []) writes) i.clock (client_of r.core k)) r).order) v
    (λ e h q.
    let r : Running = running_of i in
    let w : Client = versioned (stamp_of r.core k) (from + 1) (tag ∷ []) writes (client_of r.core k) in
    q ∙ ap (λ d. cond d (put_in (record {
      client = k;
      tag = tag;
      version = from + 1;
      writer = true;
      renewal = i.renewal;
    }) i.events i.order) i.order)
    (h ∙ ap (λ (u : Client). eqb i.clock from && (is_empty u.attempt.reads || eqb (from + 1) (u.attempt.rv + 1))) e)
    ∙ twice (eqb i.clock from) (decides_at_once w) (writer_record (stamp_of r.core k) w.attempt) r)

-- the order after a validation
pub validated_order : {A : Type 0} (i : Inside A) (s : Running) (k stripe word tag version point : ℕ) (b : Bool)
    (z : Client) (o : Placed)
    → running_of i ≡ s → z ≡ client_of s.core k
    → tag ≡ tag_number z.attempt.tag → version ≡ z.attempt.wv → point ≡ z.attempt.ticked_at
    → b ≡ (passes stripe word z && eqb (z.attempt.passed + 1) (length z.attempt.reads))
    → o ≡ cond b (put_in (record { client = k; tag = tag; version = version; writer = true; renewal = i.renewal }) point
    i.order) i.order
    → o ≡ (entered (decision (stamp_of s.core k) (validate stripe) word (client_of s.core k)) s).order
validated_order i s k stripe word tag version point b z o v e et ev ep h q =
    let r : Running = running_of i in
    let here : o ≡ (entered (decision (stamp_of r.core k) (validate stripe) word z) r).order =
    q ∙ rw (et, ev, ep, h) (twice (passes stripe word z) (eqb (z.attempt.passed + 1) (length z.attempt.reads))
    (writer_record (stamp_of r.core k) z.attempt) r) in
    here ∙ ap (λ (u : Client). (entered (decision (stamp_of r.core k) (validate stripe) word u) r).order) e ∙
    ap (λ (t : Running). (entered (decision (stamp_of t.core k) (validate stripe) word (client_of s.core k))
    t).order) v

-- the order after a finish
pub finished_order : {A : Type 0} (i : Inside A) (s : Running) (k n tag version point : ℕ) (z : Client) (o : Placed)
    → running_of i ≡ s → z ≡ client_of s.core k
    → version ≡ z.attempt.rv → point ≡ z.attempt.began_at
    → o ≡ put_in (record { client = k; tag = tag; version = version; writer = false; renewal = i.renewal }) point
    i.order
    → o ≡ (entered (decision (stamp_of s.core k) (finish (tag ∷ [])) n (client_of s.core k)) s).order
finished_order i s k n tag version point z o v e ev ep q =
    let r : Running = running_of i in
    let here : o ≡ (entered (decision (stamp_of r.core k) (finish (tag ∷ [])) n z) r).order = q ∙ rw (ev, ep) refl in
    here ∙ ap (λ (u : Client). (entered (decision (stamp_of r.core k) (finish (tag ∷ [])) n u) r).order) e ∙
    ap (λ (t : Running). (entered (decision (stamp_of t.core k) (finish (tag ∷ [])) n (client_of s.core k))
    t).order) v
