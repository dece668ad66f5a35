-- The order of the records in the one list of a run keeps the real time of the run.
use Rattle.std.proofs.Common.{◌≡◌, ⊎_elim, ℕ, zero, suc, ◌+◌, ◌-◌, ◌≤◌, ◌<◌, true, false, cond, eqb, leb, List}
use Rattle.std.proofs.Common.{[], ◌∷◌, ◌++◌, length, length-append, map, refl, sym, ap, ◌∙◌, subst, arith}
use Rattle.std.proofs.lemmas.Bool.Decides.{nat_tests}
use mathlib.Core.Option.{some, some-injective, some-ne-none}
use lib.ListN.{get_elem?}
use Rattle.tx_memory.specs.Image.{In}
use Rattle.stm_core.specs.Client.{Client, Record, RecordLaw, Stamp}
use Rattle.stm_core.specs.Core.{Core, Event, acts, splits, gathers, renews, played, found, client_of, stamp_of}
use Rattle.stm_core.specs.Event.{Action, begin, tick, validate, finish, decision, versioned}
use Rattle.stm_core.specs.Event.{decides_at_once, passes, writer_record, reader_record}
use Rattle.stm_core.specs.Guards.{stripe_of}
use Rattle.stm_core.specs.History.{ByPoint}
use Rattle.stm_core.specs.Version.{At}
use Rattle.stm_core.specs.Listed.{is_begin_of, begins, IsStepOf, made, core_at, decisions, IsOfList}
use Rattle.stm_core.proofs.Eras.{in_append, append_left, append_right}
use Rattle.stm_core.proofs.Lists.{in_range, by_bool, clash}
use Rattle.stm_core.proofs.Renewing.{at_below}
use Rattle.stm_core.proofs.Traced.{core_after}
use Rattle.stm_core.proofs.Places.{number_at, begins_next, client_is}
use Rattle.stm_core.proofs.Steps.{by_case}
use Rattle.stm_region.specs.Shown.{unplaced}
use Rattle.stm_region.specs.Layout.{place}
use Rattle.stm_region.specs.Traced.{unplaced_record, unplaced_client, Shuffled, none, both, swap, over}
use Rattle.stm_region.specs.Runs.{Moment, Move, step, word_at, Moves, Has, Listing, start_of, IsRun, HasOneList}
use Rattle.stm_region.specs.RealTime.{events_at, history_at, begun_at, client_at, IsDecidingMove, ComesBefore}
use Rattle.stm_region.specs.RealTime.{KeepsRealTime}
use Rattle.stm_region.specs.RealTime.{EveryRunKeepsRealTime}
use Rattle.stm_region.proofs.Places.{found_there}

nothing_in : {A : Type 0} (x : A) → In x [] → ⊥
nothing_in x m = some-ne-none x (sym m.1)

-- what a list decides, a longer list decides
decided_stays : (lk : ℕ → ℕ) (c : Core) (es fs : List Event) (r : Record) → In r (decisions lk c es) →
    In r (decisions lk c (es ++ fs))
decided_stays lk c [] fs r m = absurd (nothing_in r m)
decided_stays lk c (e ∷ es) fs r m = ⊎_elim
    (λ p. append_left (made lk e c) (decisions lk (played lk e c) (es ++ fs)) r p)
    (λ p. append_right (made lk e c) (decisions lk (played lk e c) (es ++ fs)) r
    (decided_stays lk (played lk e c) es fs r p)) (in_append (made lk e c) (decisions lk (played lk e c) es) r m)

-- more events begin no fewer attempts, and change nothing before them
begins_most : (k : ℕ) (es fs : List Event) (n : ℕ) → n ≤ length es →
    begins k (es ++ fs) n ≤ begins k es (length es)
begins_most k es fs zero l = omega arith
begins_most k [] fs (suc n) l = absurd (omega arith)
begins_most k (x ∷ es) fs (suc n) l = (let h = begins_most k es fs n (omega arith) in omega (arith, h))

begins_least : (k : ℕ) (es fs : List Event) (n : ℕ) → length es ≤ n → n ≤ length (es ++ fs) →
    begins k es (length es) ≤ begins k (es ++ fs) n
begins_least k [] fs n l h = omega arith
begins_least k (x ∷ es) fs zero l h = absurd (omega arith)
begins_least k (x ∷ es) fs (suc n) l h =
    (let q = begins_least k es fs n (omega arith) (omega arith) in omega (arith, q))

begins_here : (k : ℕ) (es fs : List Event) → begins k (es ++ fs) (length es) ≡ begins k es (length es)
begins_here k [] fs = refl
begins_here k (x ∷ es) fs = ap (λ m. cond (is_begin_of k x) 1 0 + m) (begins_here k es fs)

-- of two records in the order of their points, the one with the earlier point comes first
first_comes : (l : List Record) → ByPoint l → (i j : ℕ) (x y : Record) → get_elem? l i ≡ some x →
    get_elem? l j ≡ some y → x.point < y.point → i < j
first_comes [] b i j x y e f h = absurd (some-ne-none x (sym e))
first_comes (z ∷ l) b zero zero x y e f h =
    let q : x ≡ y = some-injective x y (sym e ∙ f) in
    absurd (let p : x.point ≡ y.point = ap (λ (r : Record). r.point) q in omega (arith, p, h))
first_comes (z ∷ l) b zero (suc j) x y e f h = omega arith
first_comes (z ∷ l) b (suc i) zero x y e f h =
    let q : z ≡ y = some-injective z y f in
    absurd (let p = b.0 x (i, e) in
    let o : z.point ≡ y.point = ap (λ (r : Record). r.point) q in omega (arith, p, o, h))
first_comes (z ∷ l) b (suc i) (suc j) x y e f h = (let q = first_comes l b.1 i j x y e f h in omega (arith, q))

-- a begin of a client
is_begin : (k : ℕ) (x : Event) → is_begin_of k x ≡ true → x ≡ acts k begin
is_begin k (acts j begin) e = ap (λ n. acts n begin) (let q : j ≡ k = grind (arith, nat_tests) in q)
is_begin k (acts j _) e = clash e refl
is_begin k (splits j) e = clash e refl
is_begin k (gathers j i) e = clash e refl
is_begin k (renews j i) e = clash e refl

-- where the number of begun attempts passes a number, that attempt begins
crossing : (k a : ℕ) (es : List Event) (from more : ℕ) → begins k es from < a → a ≤ begins k es (from + more) →
    from + more ≤ length es → (place : ℕ) × (from ≤ place) × (place < from + more) × IsStepOf es k a place begin
crossing k a es from zero l h s =
    absurd (let e : from + 0 ≡ from = omega arith in
    let h' = subst (λ n. a ≤ begins k es n) e h in omega (arith, l, h'))
crossing k a es from (suc more) l h s =
    let e : from + suc more ≡ suc (from + more) = omega arith in
    let h' = subst (λ n. a ≤ begins k es n) e h in
    let at = at_below es (from + more) (omega (arith, s)) in
    let next = begins_next k es (from + more) at.0 at.1 in
    by_bool (leb a (begins k es (from + more)))
    (λ t. let q = crossing k a es from more l (let z : a ≤ begins k es (from + more) = grind (arith, nat_tests) in z)
    (omega (arith, s)) in (q.0, q.1, (let z = q.2 in omega (arith, z)), q.3))
    (λ t. let less : begins k es (from + more) < a = grind (arith, nat_tests) in by_bool (is_begin_of k at.0)
    (λ b. (
      from + more,
      omega arith,
      omega arith,
      (
        at.1 ∙ ap some (is_begin k at.0 b),
        (let z : begins k es (suc (from + more)) ≡ begins k es (from + more) + 1 =
            subst (λ y. begins k es (suc (from + more)) ≡ begins k es (from + more) + cond y 1 0) b next in
            omega (arith, z, less, h')),
      ),
    ))
    (λ b. absurd (let z : begins k es (suc (from + more)) ≡ begins k es (from + more) + 0 =
    subst (λ y. begins k es (suc (from + more)) ≡ begins k es (from + more) + cond y 1 0) b next in
    omega (arith, z, less, h'))))

shuffled_in : {xs ys : List Record} → Shuffled xs ys → (r : Record) → In r xs → In r ys
shuffled_in none r m = m
shuffled_in (both x s) r (zero, e) = (zero, e)
shuffled_in (both x s) r (suc j, e) = let q = shuffled_in s r (j, e) in (suc q.0, q.1)
shuffled_in (swap x y xs) r (zero, e) = (suc zero, e)
shuffled_in (swap x y xs) r (suc zero, e) = (zero, e)
shuffled_in (swap x y xs) r (suc (suc j), e) = (suc (suc j), e)
shuffled_in (over s t) r m = shuffled_in t r (shuffled_in s r m)

unplaced_in : (xs : List Record) (r : Record) → In r (map unplaced_record xs) →
    (x : Record) × In x xs × (unplaced_record x ≡ r)
unplaced_in [] r m = absurd (nothing_in r m)
unplaced_in (x ∷ xs) r (zero, e) = (x, (zero, refl), some-injective (unplaced_record x) r e)
unplaced_in (x ∷ xs) r (suc j, e) = let q = unplaced_in xs r (j, e) in (q.0, (suc q.1.0, q.1.1), q.2)

-- what the last event of a list decides, the list decides
decided_last : (lk : ℕ → ℕ) (c : Core) (es : List Event) (e : Event) (r : Record) →
    In r (made lk e (core_at lk c es (length es))) → In r (decisions lk c (es ++ e ∷ []))
decided_last lk c [] e r m = append_left (made lk e c) [] r m
decided_last lk c (x ∷ es) e r m = append_right (made lk x c) (decisions lk (played lk x c) (es ++ e ∷ [])) r
    (decided_last lk (played lk x c) es e r m)

no_record : {X : Type 0} (r : Record) → [] ≡ r ∷ [] → X
no_record r e = absurd (let z : 0 ≡ 1 = ap length e in omega (arith, z))

one_record : (x r : Record) → x ∷ [] ≡ r ∷ [] → x ≡ r
one_record x r e = some-injective x r (ap (λ l. get_elem? l 0) e)

-- a step that decides the client of a region decides that of the list, with the same record
abbrev Deciding : Stamp → Action → ℕ → Client → Record → Type 0
Deciding s e n w r =
    (x : Record) × (decision s e n w ≡ x ∷ []) × (unplaced_record x ≡ r) × (x.client ≡ s.client)
    × (x.attempt ≡ w.attempt.number)

decides_too : (s : Stamp) (e : Action) (n : ℕ) (rs : List Record) (w : Client) (r : Record) →
    decision (unplaced s.renewal) e n (unplaced_client rs w) ≡ r ∷ [] → Deciding s e n w r
decides_too s (tick from tag writes) n rs w r = by_case (λ b.
    cond b (cond (decides_at_once (versioned (unplaced s.renewal) (from + 1) tag writes (unplaced_client rs w)))
    (writer_record (unplaced s.renewal)
    (versioned (unplaced s.renewal) (from + 1) tag writes (unplaced_client rs w)).attempt
    ∷ []) []) [] ≡ r ∷ [] → (x : Record) × (cond b (cond (decides_at_once (versioned s (from + 1) tag writes w))
    (writer_record s (versioned s (from + 1) tag writes w).attempt ∷ []) []) [] ≡ x ∷ []) × (unplaced_record x ≡ r)
    × (x.client ≡ s.client) × (x.attempt ≡ w.attempt.number)) (eqb n from)
    (λ _. by_case (λ b. cond b (writer_record (unplaced s.renewal)
    (versioned (unplaced s.renewal) (from + 1) tag writes (unplaced_client rs w)).attempt ∷ []) [] ≡ r ∷ [] →
    (x : Record) × (cond b (writer_record s (versioned s (from + 1) tag writes w).attempt ∷ []) [] ≡ x ∷ [])
    × (unplaced_record x ≡ r) × (x.client ≡ s.client) × (x.attempt ≡ w.attempt.number))
    (decides_at_once (versioned s (from + 1) tag writes w))
    (λ _ e. (writer_record s (versioned s (from + 1) tag writes w).attempt, refl, one_record _ r e, refl, refl))
    (λ _ e. no_record r e)) (λ _ e. no_record r e)
decides_too s (validate k) n rs w r = by_case (λ b.
    cond b (cond (eqb (w.attempt.passed + 1) (length w.attempt.reads))
    (writer_record (unplaced s.renewal) (unplaced_client rs w).attempt ∷ []) []) [] ≡ r ∷ [] →
    (x : Record) × (cond b (cond (eqb (w.attempt.passed + 1) (length w.attempt.reads))
    (writer_record s w.attempt ∷ []) []) [] ≡ x ∷ []) × (unplaced_record x ≡ r)
    × (x.client ≡ s.client) × (x.attempt ≡ w.attempt.number)) (passes k n w)
    (λ _. by_case (λ b. cond b (writer_record (unplaced s.renewal) (unplaced_client rs w).attempt ∷ []) [] ≡ r ∷ [] →
    (x : Record) × (cond b (writer_record s w.attempt ∷ []) [] ≡ x ∷ []) × (unplaced_record x ≡ r)
    × (x.client ≡ s.client) × (x.attempt ≡ w.attempt.number)) (eqb (w.attempt.passed + 1) (length w.attempt.reads))
    (λ _ e. (writer_record s w.attempt, refl, one_record _ r e, refl, refl)) (λ _ e. no_record r e))
    (λ _ e. no_record r e)
decides_too s (finish tag) n rs w r = λ e. (reader_record s tag w.attempt, refl, one_record _ r e, refl, refl)
decides_too s _ n rs w r = λ e. no_record r e

module _ {lawful : RecordLaw} {moments : ℕ → Moment} {moves : ℕ → Move} {first : Listing lawful (moments 0)}
    (one : HasOneList lawful moments moves first) where
  abbrev start : Core
  start = start_of first

  abbrev lk : ℕ → ℕ
  lk = stripe_of (moments 0).opened.stripes

  -- every history is that of a list from the one opening
  of_list : (n : ℕ) → IsOfList lk start (events_at one n) (history_at one n)
  of_list n = subst (λ s. IsOfList (stripe_of s) start (events_at one n) (history_at one n)) (one.stripes n)
      (subst (λ c. IsOfList (stripe_of (moments n).opened.stripes) c (events_at one n) (history_at one n))
      (one.opening n) (one.lists n).stands.is_listed)

  module _ (m n : ℕ) (le : m ≤ n) where
    abbrev others : List Event
    others = (one.prefix m n le).0

    longer : events_at one n ≡ events_at one m ++ others
    longer = (one.prefix m n le).1

    stays : (r : Record) → In r (history_at one m) → In r (history_at one n)
    stays r i = ((of_list n).all r).1 (subst (λ es. In r (decisions lk start es)) (sym longer)
        (decided_stays lk start (events_at one m) others r (((of_list m).all r).0 i)))

    -- an attempt that begins after the state at m begins at an event behind it
    begins_behind : (k a place : ℕ) → begun_at one k m < a → IsStepOf (events_at one n) k a place begin →
        length (events_at one m) ≤ place
    begins_behind k a place less s = by_bool (leb (length (events_at one m)) place)
        (λ t. grind (arith, nat_tests))
        (λ t. absurd (
        let in' : suc place ≤ length (events_at one m) = grind (arith, nat_tests) in
        let most = begins_most k (events_at one m) others (suc place) in' in
        let is : begins k (events_at one m ++ others) (suc place) ≡ a =
        subst (λ es. begins k es (suc place) ≡ a) longer s.1 in omega (arith, most, is, less)))

    in_time : (i j : ℕ) (x y : Record) → In x (history_at one m) → begun_at one y.client m < y.attempt →
        get_elem? (history_at one n) i ≡ some x → get_elem? (history_at one n) j ≡ some y → i < j
    in_time i j x y has less e f =
        let p = (of_list m).each x has in
        let q = (of_list n).each y (j, f) in
        let decided = in_range (events_at one m) p.decided_at (acts x.client p.decided.0) p.decided.1.0 in
        let behind = begins_behind y.client y.attempt q.began_at less q.began in
        first_comes (history_at one n) (one.lists n).stands.is_history.ascending i j x y e f
        (let a = p.point in let b = q.begins_first in omega (arith, a, b, decided, behind))

    between : (k attempt : ℕ) → begun_at one k m < attempt → attempt ≤ begun_at one k n →
        (place : ℕ) × (length (events_at one m) ≤ place) × (place < length (events_at one n))
        × IsStepOf (events_at one n) k attempt place begin
    between k attempt less most =
        let l : length (events_at one n) ≡ length (events_at one m) + length others =
        ap length longer ∙ length-append (events_at one m) others in
        let here : begins k (events_at one n) (length (events_at one m)) ≡ begun_at one k m =
        ap (λ es. begins k es (length (events_at one m))) longer ∙ begins_here k (events_at one m) others in
        let q = crossing k attempt (events_at one n) (length (events_at one m)) (length others)
        (omega (arith, here, less)) (subst (λ z. attempt ≤ begins k (events_at one n) z) l most)
        (let z = l in omega (arith, z)) in
        (q.0, q.1, (let z = q.2 in let w = l in omega (arith, z, w)), q.3)

  has : (n i : ℕ) (v : Client) (r : Record) → Has (moments n) i v → In r v.records →
      (x : Record) × In x (history_at one n) × (unplaced_record x ≡ r)
  has n i v r at m =
      let t = one.lists n in
      let w = t.clients.each i v at in
      let q = unplaced_in w.0.records r (shuffled_in w.2.1 r m) in
      (q.0, t.stands.is_history.every (t.clients.number i) w.0 q.0 w.1 q.1, q.2)

  counts : (n i : ℕ) (v : Client) → Has (moments n) i v → v.is_gathered ≡ false →
      v.attempt.number ≡ begun_at one (client_at one n i) n
  counts n i v at out =
      let t = one.lists n in
      let o = (moments n).opened in
      let w = t.clients.each i v at in
      let end = core_after (stripe_of o.stripes) lawful t.events (start_of t) t.core t.leads in
      ap (λ (x : Client). x.attempt.number) w.2.0 ∙ sym (number_at lawful (stripe_of o.stripes) o.first t.last o.stripes
      t.events t.core t.leads (length t.events) (let z : length t.events ≤ length t.events = omega arith in z)
      (t.clients.number i) w.0 (subst (λ (c : Core). At c.clients (t.clients.number i) w.0) (sym end) w.1)
      (sym (ap (λ (x : Client). x.is_gathered) w.2.0) ∙ out))

  module _ {fits : List ℕ → Type 0} (run : IsRun fits lawful moments moves) where
    -- a move finds the word that the event finds
    pub finds : (n i : ℕ) (action : Action) → moves n ≡ step i action →
        word_at (moments n) action ≡ found (stripe_of (moments n).opened.stripes) (one.lists n).core action
    finds n i action is =
        let t = one.lists n in
        let o = (moments n).opened in
        let move : Moves lawful (moments n) (step i action) (moments (suc n)) =
        subst (λ x. Moves lawful (moments n) x (moments (suc n))) is (run.goes n) in
        let some' : 0 < o.stripes = subst (λ s. 0 < s) (sym (one.stripes n)) run.begins.some in
        ap (λ ws. Rattle.std.proofs.Common.slice_index ws (place o.stripes action)) t.words ∙
        found_there t.gap t.pad t.core o.stripes t.before_locks t.locks t.before_cells action some' (length o.image)
        move.2

    decides : (n i : ℕ) (v : Client) (r : Record) → IsDecidingMove one n i v r →
        (x : Record) × In x (history_at one (suc n)) × (unplaced_record x ≡ r) × (x.client ≡ client_at one n i)
        × (x.attempt ≡ v.attempt.number)
    decides n i v r d =
        let t = one.lists n in
        let o = (moments n).opened in
        let lk' = stripe_of o.stripes in
        let k = client_at one n i in
        let w = t.clients.each i v d.2 in
        let s : Stamp = stamp_of t.core k in
        let era : o.renewal ≡ t.core.renewal = sym t.renewal in
        let q : Deciding s d.0 (found lk' t.core d.0) w.0 r =
        decides_too s d.0 (found lk' t.core d.0) v.records w.0 r
        (subst (λ u. decision (unplaced s.renewal) d.0 (found lk' t.core d.0) u ≡ r ∷ []) w.2.0
        (subst (λ z. decision (unplaced z) d.0 (found lk' t.core d.0) v ≡ r ∷ []) era
        (subst (λ z. decision (unplaced o.renewal) d.0 z v ≡ r ∷ []) (finds n i d.0 d.1) d.3))) in
        let there : client_of t.core k ≡ w.0 = client_is t.core (t.clients.number i) w.0 w.1 in
        let here : core_at lk' (start_of t) t.events (length t.events) ≡ t.core =
        core_after lk' lawful t.events (start_of t) t.core t.leads in
        let event = acts k d.0 in
        let makes : made lk' event (core_at lk' (start_of t) t.events (length t.events)) ≡ q.0 ∷ [] =
        ap (made lk' event) here ∙ (ap (λ u. decision s d.0 (found lk' t.core d.0) u) there ∙ q.1) in
        let m : In q.0 (decisions lk' (start_of t) (t.events ++ event ∷ [])) =
        decided_last lk' (start_of t) t.events event q.0 (subst (In q.0) (sym makes) (0, refl)) in
        let longer : events_at one (suc n) ≡ t.events ++ event ∷ [] =
        subst (λ x. events_at one (suc n) ≡ t.events ++ Rattle.stm_region.specs.Runs.events_of t.clients.number x) d.1
        (one.goes_on n).events in
        let from : In q.0 (decisions lk start (events_at one (suc n))) =
        subst (λ es. In q.0 (decisions lk start es)) (sym longer)
        (subst (λ c. In q.0 (decisions lk c (t.events ++ event ∷ []))) (one.opening n)
        (subst (λ z. In q.0 (decisions (stripe_of z) (start_of t) (t.events ++ event ∷ []))) (one.stripes n) m)) in (
          q.0,
          ((of_list (suc n)).all q.0).1 from,
          q.2,
          q.3,
          q.4 ∙ sym (ap (λ (x : Client). x.attempt.number) w.2.0),
        )

    calls : (m n i j : ℕ) (v w : Client) (r s : Record) → m < n → IsDecidingMove one m i v r →
        IsDecidingMove one n j w s →
        begun_at one (client_at one n j) (suc m) < w.attempt.number →
        (x : Record) × (y : Record) × (unplaced_record x ≡ r) × (unplaced_record y ≡ s) × ComesBefore one (suc n) x y
    calls m n i j v w r s less d e later =
        let p = decides m i v r d in
        let q = decides n j w s e in
        let le : suc m ≤ suc n = omega (arith, less) in
        let a = stays (suc m) (suc n) le p.0 p.1 in
        let b = q.1 in
        let begun : begun_at one q.0.client (suc m) < q.0.attempt =
        subst (λ k. begun_at one k (suc m) < q.0.attempt) (sym q.3)
        (subst (λ z. begun_at one (client_at one n j) (suc m) < z) (sym q.4) later) in (
          p.0,
          q.0,
          p.2,
          q.2,
          (a.0, b.0, a.1, b.1, in_time (suc m) (suc n) le a.0 b.0 p.0 q.0 p.1 begun a.1 b.1),
        )

    pub keeps_real_time : KeepsRealTime one
    keeps_real_time = record {
      stays = λ m n r le i. stays m n le r i;
      in_time = λ m n i j x y le h l e f. in_time m n le i j x y h l e f;
      decides = decides;
      calls = calls;
      has = has;
      counts = counts;
      between = λ m n k a le l h. between m n le k a l h;
    }

pub every_run_keeps_real_time : (fits : List ℕ → Type 0) (lawful : RecordLaw) → EveryRunKeepsRealTime fits lawful
every_run_keeps_real_time fits lawful moments moves run first one = keeps_real_time one run
