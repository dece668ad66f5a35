-- Numbers in the place of tags: each step has the same effect, apart from the tags.
use Rattle.std.proofs.Common.{◌≡◌, ℕ, zero, suc, ◌+◌, ◌-◌, ◌<◌, Bool, true, false, cond, eqb, ◌&&◌, List, [], ◌∷◌, ◌++◌}
use Rattle.std.proofs.Common.{length, set, map, refl, sym, ap, ◌∙◌, subst, arith}
use Rattle.std.proofs.lemmas.List.{map-set, map-append, length-map}
use Rattle.std.proofs.Math.ListN.{get_or-map}
use Rattle.std.proofs.lemmas.Bool.Decides.{nat_tests}
use Rattle.stm_core.specs.Client.{Client, Record, Stamp, checked, locked, ticked, validated, version_of, word_before}
use Rattle.stm_core.specs.Client.{value_fetched, writes_to, before, inserted, merged, RecordLaw}
use Rattle.stm_core.specs.Event.{Action, begin, check, lock, tick, validate, finish, Bounds, committed_by, stepping}
use Rattle.stm_core.specs.Event.{failing, read_too, holding, versioned, decides_at_once, won, passes, passing, after}
use Rattle.stm_core.specs.Event.{giving, fresh, taking, renewing, gone, writer_record, reader_record, with_ticks}
use Rattle.stm_core.specs.Event.{marking, counting}
use Rattle.stm_core.specs.Core.{Core, bounds_of, found, left, written, stepped, divided, gathered, renewed, Event, acts}
use Rattle.stm_core.specs.Core.{splits, gathers, renews, Allowed, client_of, played, Leads, opened, is_out}
use Rattle.stm_core.specs.Core.{are_gathered, others_gathered, may_play}
use Rattle.stm_core.specs.Version.{At}
use Rattle.stm_core.specs.Theorem.{free_law}
use Rattle.stm_replay.specs.Numbered.{AllowedWithNumbers, SameButTags, numbered_action, numbered_event, numbered_record}
use Rattle.stm_replay.specs.Numbered.{numbered_client, numbered_core}
use Rattle.stm_core.proofs.Steps.{by_case}
use Rattle.stm_core.proofs.Conditions.{CanAct, can_play, free_event}
use Rattle.stm_core.specs.Guards.{may_act, stripe_of}
use Rattle.stm_core.proofs.Lones.{at_map}

module _ (number : List ℕ → ℕ) where
  inserted_numbered : (r : Record) (l : List Record) → map (numbered_record number) (inserted r l) ≡ inserted
      (numbered_record number r) (map (numbered_record number) l)
  inserted_numbered r [] = refl
  inserted_numbered r (x ∷ l) = go (before r x) (inserted_numbered r l)
    where
      go : (b : Bool) → map (numbered_record number) (inserted r l) ≡ inserted (numbered_record number r)
          (map (numbered_record number) l) → map (numbered_record number)
          (cond b (r ∷ x ∷ l) (x ∷ inserted r l)) ≡ cond b (numbered_record number r ∷ numbered_record number x ∷ map
          (numbered_record number) l) (numbered_record number x ∷ inserted (numbered_record number r)
          (map (numbered_record number) l))
      go true e = refl
      go false e = ap (λ m. numbered_record number x ∷ m) e

  merged_numbered : (l m : List Record) → map (numbered_record number) (merged l m) ≡ merged
      (map (numbered_record number) l) (map (numbered_record number) m)
  merged_numbered l [] = refl
  merged_numbered l (y ∷ m) = merged_numbered (inserted y l) m ∙ ap (λ k. merged k (map (numbered_record number) m))
      (inserted_numbered y l)

  -- a client with a write version has a number for its tag
  tag_numbered : (v : Client) → 0 < v.attempt.wv → cond (eqb v.attempt.wv 0) []
      (number v.attempt.tag ∷ []) ≡ number v.attempt.tag ∷ []
  tag_numbered v h = (let e : eqb v.attempt.wv 0 ≡ false = grind (arith, nat_tests) in rw e refl)

  committed_numbered : (t : Stamp) (v : Client) → 0 < v.attempt.wv →
      numbered_client number (committed_by t v) ≡ committed_by t (numbered_client number v)
  committed_numbered t v h = ap (λ l. record (committed_by t (numbered_client number v)) { records = l })
      (inserted_numbered (writer_record t v.attempt) v.records ∙
      ap (λ g. inserted (record (writer_record t v.attempt) { tag = g }) (map (numbered_record number) v.records))
      (sym (tag_numbered v h)))

  versioned_numbered : (t : Stamp) (n : ℕ) (tag : List ℕ) (writes : List (ℕ × ℕ)) (v : Client) → 0 < n →
      numbered_client number (versioned t n tag writes v) ≡ versioned t n (number tag ∷ []) writes
      (numbered_client number v)
  versioned_numbered t n tag writes v h = ap (λ g. let w = versioned t n (number tag ∷ []) writes
      (numbered_client number v) in record w { attempt = record w.attempt { tag = g } })
      (tag_numbered (versioned t n tag writes v) h)

  won_numbered : (t : Stamp) (n : ℕ) (tag : List ℕ) (writes : List (ℕ × ℕ)) (v : Client) → 0 < n →
      numbered_client number (won t n tag writes v) ≡ won t n (number tag ∷ []) writes (numbered_client number v)
  won_numbered t n tag writes v h =
      let w = versioned t n tag writes v in
      let u = versioned t n (number tag ∷ []) writes (numbered_client number v) in
      let e = versioned_numbered t n tag writes v h in
      by_case (λ b. numbered_client number (cond b (committed_by t w) w) ≡ cond b (committed_by t u) u)
      (decides_at_once w)
      (λ z. committed_numbered t w h ∙ ap (committed_by t) e)
      (λ z. e)

  passing_numbered : (t : Stamp) (v : Client) → 0 < v.attempt.wv →
      numbered_client number (passing t v) ≡ passing t (numbered_client number v)
  passing_numbered t v h =
      let w : Client = counting v in
      by_case (λ b. numbered_client number (cond b (committed_by t w) w) ≡ cond b
      (committed_by t (numbered_client number w)) (numbered_client number w))
      (eqb w.attempt.passed (length v.attempt.reads))
      (λ z. committed_numbered t w h)
      (λ z. refl)

  found_numbered : (lk : ℕ → ℕ) (c : Core) (e : Action) → found lk (numbered_core number c)
      (numbered_action number e) ≡ found lk c e
  found_numbered lk c begin = refl
  found_numbered lk c _ = refl

  left_numbered : (e : Action) (n : ℕ) (v : Client) → left (numbered_action number e) n
      (numbered_client number v) ≡ left e n v
  left_numbered begin n v = refl
  left_numbered _ n v = refl

  written_numbered : (e : Action) (m : ℕ) (c : Core) (cs : List Client) →
      record (written (numbered_action number e) m (numbered_core number c)) {
        clients = map (numbered_client number) cs;
        events = c.events + 1;
      } ≡ numbered_core number
      (record (written e m c) { clients = cs; events = c.events + 1 })
  written_numbered begin m c cs = refl
  written_numbered _ m c cs = refl

  module _ (lawful : RecordLaw) (lk : ℕ → ℕ) where
    after_numbered : (t : Stamp) (b : Bounds) (e : Action) (n : ℕ) (v : Client) → CanAct lawful lk b e v.attempt →
        numbered_client number (after t lk e n v) ≡ after t lk (numbered_action number e) n (numbered_client number v)
    after_numbered t b (check a) n v m =
        let l = checked a (word_before v.attempt.last) n in
        by_case (λ z. numbered_client number (stepping l (cond z (read_too a (value_fetched v.attempt.last) v)
        (failing v))) ≡ stepping l (cond z (read_too a (value_fetched v.attempt.last) (numbered_client number v))
        (failing (numbered_client number v)))) (eqb n (word_before v.attempt.last)) (λ e. refl) (λ e. refl)
    after_numbered t b (lock k) n v m =
        let l = locked k (word_before v.attempt.last) n in
        by_case (λ z. numbered_client number (stepping l (cond z (holding k (version_of n) v) (failing v))) ≡ stepping l
        (cond z (holding k (version_of n) (numbered_client number v)) (failing (numbered_client number v))))
        (eqb n (word_before v.attempt.last)) (λ e. refl) (λ e. refl)
    after_numbered t b (tick from tag writes) n v m =
        let to : Client → Client = λ w. with_ticks (v.attempt.ticks + 1) n (stepping (ticked from n) w) in
        by_case (λ z. numbered_client number (to (cond z (won t (from + 1) tag writes v) v)) ≡ to
        (cond z (won t (from + 1) (number tag ∷ []) writes (numbered_client number v)) (numbered_client number v)))
        (eqb n from)
        (λ e. ap to (won_numbered t (from + 1) tag writes v (omega arith)))
        (λ e. refl)
    after_numbered t b (validate k) n v m =
        let to : Client → Client = λ w. marking (writes_to v.attempt.held k) (stepping (validated k n) w) in
        by_case (λ z. numbered_client number (to (cond z (passing t v) (failing v))) ≡ to
        (cond z (passing t (numbered_client number v)) (failing (numbered_client number v)))) (passes k n v)
        (λ e. ap to (passing_numbered t v m.1))
        (λ e. refl)
    after_numbered t b (finish tag) n v m = ap (λ l. record (after t lk (finish (number tag ∷ [])) n
        (numbered_client number v)) { records = l }) (inserted_numbered (reader_record t tag v.attempt) v.records)
    after_numbered t b _ n v m = refl

  client_numbered : (c : Core) (k : ℕ) → client_of (numbered_core number c) k ≡ numbered_client number (client_of c k)
  client_numbered c k = get_or-map (numbered_client number) c.clients (k - 1) gone

  -- an allowed step has the same effect with numbers for the tags
  stepped_numbered : (t : Stamp) (lk : ℕ → ℕ) (e : Action) (i : ℕ) (v : Client) (c : Core) →
      ((n : ℕ) → numbered_client number (after t lk e n v) ≡ after t lk (numbered_action number e) n
      (numbered_client number v))
      → numbered_core number (stepped t lk e i v c) ≡ stepped t lk (numbered_action number e) i
      (numbered_client number v) (numbered_core number c)
  stepped_numbered t lk e i v c same =
      let n = found lk c e in
      let w = after t lk e n v in
      sym (rw (found_numbered lk c e, left_numbered e n v, ← same n, ← map-set (numbered_client number) c.clients i w)
      (written_numbered e (left e n v) c (set c.clients i w)))

  divided_numbered : (i : ℕ) (v : Client) (c : Core) → numbered_core number (divided i v c) ≡ divided i
      (numbered_client number v) (numbered_core number c)
  divided_numbered i v c = ap (λ l. record (numbered_core number c) { clients = l; events = c.events + 1 })
      (map-append (numbered_client number) (set c.clients i (giving v)) (fresh v ∷ []) ∙
      ap (λ l. l ++ fresh (numbered_client number v) ∷ [])
      (map-set (numbered_client number) c.clients i (giving v)))

  taking_numbered : (v w : Client) → numbered_client number (taking v w) ≡ taking (numbered_client number v)
      (numbered_client number w)
  taking_numbered v w = ap (λ l. record (taking (numbered_client number v) (numbered_client number w)) { records = l })
      (merged_numbered v.records w.records)

  gathered_numbered : (i : ℕ) (v : Client) (j : ℕ) (w : Client) (c : Core) →
      numbered_core number (gathered i v j w c) ≡ gathered i (numbered_client number v) j (numbered_client number w)
      (numbered_core number c)
  gathered_numbered i v j w c = ap (λ l. record (numbered_core number c) { clients = l; events = c.events + 1 })
      (map-set (numbered_client number) (set c.clients i (taking v w)) j gone
      ∙ ap (λ l. set l j gone) (map-set (numbered_client number) c.clients i (taking v w) ∙
      ap (set (map (numbered_client number) c.clients) i) (taking_numbered v w)))

  renewed_numbered : (i last : ℕ) (v : Client) (c : Core) → numbered_core number (renewed i last v c) ≡ renewed i last
      (numbered_client number v) (numbered_core number c)
  renewed_numbered i last v c = ap (λ l. record (renewed i last (numbered_client number v) (numbered_core number c)) {
    clients = l;
  }) (map-set (numbered_client number) c.clients i (renewing v))

  module _ (lawful : RecordLaw) (lk : ℕ → ℕ) where
    out_numbered : (c : Core) (k : ℕ) → is_out (numbered_core number c) k ≡ is_out c k
    out_numbered c k = rw (length-map c.clients (numbered_client number), client_numbered c k) refl

    may_numbered : (e : Event) (c : Core) → may_play lk (numbered_event number e)
        (numbered_core number c) ≡ may_play lk e c
    may_numbered (acts k e) c = rw (out_numbered c k, client_numbered c k) (ap (λ b. is_out c k && b) (same e))
      where
        same : (e : Action) → may_act lk (bounds_of (numbered_core number c)) (numbered_action number e)
            (numbered_client number (client_of c k)).attempt ≡ may_act lk (bounds_of c) e (client_of c k).attempt
        same begin = refl
        same _ = refl
    may_numbered (splits k) c = rw (out_numbered c k, client_numbered c k) refl
    may_numbered (gathers k j) c = rw (
      out_numbered c k,
      out_numbered c j,
      client_numbered c k,
      client_numbered c j,
    ) refl
    may_numbered (renews k last) c = rw (out_numbered c k, client_numbered c k, others_numbered c.clients (k - 1)) refl
      where
        are_numbered : (l : List Client) → are_gathered (map (numbered_client number) l) ≡ are_gathered l
        are_numbered [] = refl
        are_numbered (v ∷ vs) = ap (λ b. v.is_gathered && b) (are_numbered vs)

        others_numbered : (l : List Client) (i : ℕ) → others_gathered
            (map (numbered_client number) l) i ≡ others_gathered l i
        others_numbered [] i = refl
        others_numbered (v ∷ vs) zero = are_numbered vs
        others_numbered (v ∷ vs) (suc i) = ap (λ b. v.is_gathered && b) (others_numbered vs i)

    event_played : (e : Event) (c : Core) → Allowed lawful lk e c →
        numbered_core number (played lk e c) ≡ played lk (numbered_event number e) (numbered_core number c)
    event_played (acts k e) c h =
        let t : Stamp = record { client = k; place = c.events; renewal = c.renewal } in
        let v = client_of c k in
        let may : CanAct lawful lk (bounds_of c) e v.attempt = (can_play lawful lk (acts k e) c h).1 in
        stepped_numbered t lk e (k - 1) v c (λ n. after_numbered lawful lk t (bounds_of c) e n v may)
        ∙ ap (λ w. stepped t lk (numbered_action number e) (k - 1) w (numbered_core number c))
        (sym (client_numbered c k))
    event_played (splits k) c h = divided_numbered (k - 1) (client_of c k) c ∙
        ap (λ w. divided (k - 1) w (numbered_core number c)) (sym (client_numbered c k))
    event_played (gathers k j) c h =
        let d = numbered_core number c in
        gathered_numbered (k - 1) (client_of c k) (j - 1) (client_of c j) c
        ∙ (ap (λ w. gathered (k - 1) w (j - 1) (numbered_client number (client_of c j)) d) (sym (client_numbered c k)) ∙
        ap (λ w. gathered (k - 1) (client_of d k) (j - 1) w d) (sym (client_numbered c j)))
    event_played (renews k last) c h = renewed_numbered (k - 1) last (client_of c k) c ∙
        ap (λ w. renewed (k - 1) last w (numbered_core number c)) (sym (client_numbered c k))

    pub leads_numbered : (es : List Event) (c d : Core) → Leads lawful lk c es d →
        Leads free_law lk (numbered_core number c) (map (numbered_event number) es) (numbered_core number d)
    leads_numbered [] c d h = ap (numbered_core number) h
    leads_numbered (e ∷ es) c d h = (
      (may_numbered e c ∙ h.0.0, free_event (numbered_event number e) (numbered_core number c)),
      subst (λ m. Leads free_law lk m (map (numbered_event number) es) (numbered_core number d)) (event_played e c h.0)
          (leads_numbered es (played lk e c) d h.1),
    )

pub allowed_with_numbers : (lawful : RecordLaw) → AllowedWithNumbers lawful
allowed_with_numbers lawful number image last stripes es c h =
    leads_numbered number lawful (stripe_of stripes) es (opened image last stripes) c h

-- a list leads to one core only, whatever the laws
same_end : (l m : RecordLaw) (lk : ℕ → ℕ) (es : List Event) (a c d : Core) → Leads l lk a es c → Leads m lk a es d →
    c ≡ d
same_end l m lk [] a c d p q = sym p ∙ q
same_end l m lk (e ∷ es) a c d p q = same_end l m lk es (played lk e a) c d p.1 q.1

pub same_but_tags : (lawful : RecordLaw) → SameButTags lawful
same_but_tags lawful number image last stripes es c d h g i v e =
    let same : numbered_core number c ≡ d = same_end free_law free_law (stripe_of stripes)
    (map (numbered_event number) es) (opened image last stripes) (numbered_core number c) d
    (allowed_with_numbers lawful number image last stripes es c h) g in
    subst (λ (x : Core). (w : Client) × At x.clients i w × (w.records ≡ map (numbered_record number) v.records)) same
    (numbered_client number v, at_map (numbered_client number) c.clients i v e, refl)
