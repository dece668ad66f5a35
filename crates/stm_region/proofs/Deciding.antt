-- A step that leaves its client decided, or finished as a reader, has made one record and added it.
use Rattle.std.proofs.Common.{◌≡◌, ℕ, ◌+◌, eqb, true, cond, List, [], ◌∷◌, length, refl}
use Rattle.stm_core.specs.Client.{Client, Record, Stamp, running, decided, inserted, ticked, validated, writes_to}
use Rattle.stm_core.specs.Event.{tick, validate, finish, after, decision, versioned, won, committed_by, decides_at_once}
use Rattle.stm_core.specs.Event.{writer_record, reader_record, with_ticks, stepping, marking, passes, passing, failing}
use Rattle.stm_core.specs.Event.{counting}
use Rattle.stm_core.proofs.Lists.{clash}
use Rattle.stm_core.proofs.Steps.{by_case, undecided_at}

-- these records are a single one, of the client's attempt, which was added to the client's records
pub record Makes (s : Stamp) (rs : List Record) (v w : Client) : Type 0 where
  pub made : Record
  pub single : rs ≡ made ∷ []
  pub added : w.records ≡ inserted made v.records
  pub attempt : made.attempt ≡ w.attempt.number
  pub writer : decided w ≡ true → made ≡ writer_record s w.attempt

module _ (s : Stamp) (lk : ℕ → ℕ) (n : ℕ) (v : Client) (run : v.attempt.phase ≡ running) where
  pub tick_makes : (from : ℕ) (tag : List ℕ) (writes : List (ℕ × ℕ)) →
      decided (after s lk (tick from tag writes) n v) ≡ true →
      Makes s (decision s (tick from tag writes) n v) v (after s lk (tick from tag writes) n v)
  tick_makes from tag writes =
      let w0 : Client = versioned s (from + 1) tag writes v in
      by_case (λ b. decided (with_ticks (v.attempt.ticks + 1) n
      (stepping (ticked from n) (cond b (won s (from + 1) tag writes v) v))) ≡ true
      → Makes s (cond b (cond (decides_at_once w0) (writer_record s w0.attempt ∷ []) []) []) v
      (with_ticks (v.attempt.ticks + 1) n (stepping (ticked from n) (cond b (won s (from + 1) tag writes v) v))))
      (eqb n from)
      (λ e. by_case (λ b. decided (with_ticks (v.attempt.ticks + 1) n
      (stepping (ticked from n) (cond b (committed_by s w0) w0))) ≡ true
      → Makes s (cond b (writer_record s w0.attempt ∷ []) []) v
      (with_ticks (v.attempt.ticks + 1) n (stepping (ticked from n) (cond b (committed_by s w0) w0))))
      (decides_at_once w0)
      (λ z d. record {
        made = writer_record s w0.attempt;
        single = refl;
        added = refl;
        attempt = refl;
        writer = λ _. refl;
      })
      (λ z d. clash d (undecided_at v run)))
      (λ e d. clash d (undecided_at v run))

  pub validate_makes : (k : ℕ) → decided (after s lk (validate k) n v) ≡ true →
      Makes s (decision s (validate k) n v) v (after s lk (validate k) n v)
  validate_makes k =
      let w0 : Client = counting v in
      by_case (λ b. decided (marking (writes_to v.attempt.held k)
      (stepping (validated k n) (cond b (passing s v) (failing v)))) ≡ true
      → Makes s (cond b (cond (eqb w0.attempt.passed (length v.attempt.reads)) (writer_record s v.attempt ∷ []) []) [])
      v (marking (writes_to v.attempt.held k) (stepping (validated k n) (cond b (passing s v) (failing v)))))
      (passes k n v)
      (λ e. by_case (λ b. decided (marking (writes_to v.attempt.held k)
      (stepping (validated k n) (cond b (committed_by s w0) w0))) ≡ true
      → Makes s (cond b (writer_record s v.attempt ∷ []) []) v
      (marking (writes_to v.attempt.held k) (stepping (validated k n) (cond b (committed_by s w0) w0))))
      (eqb w0.attempt.passed (length v.attempt.reads))
      (λ z d. record {
        made = writer_record s v.attempt;
        single = refl;
        added = refl;
        attempt = refl;
        writer = λ _. refl;
      })
      (λ z d. clash d (undecided_at v run)))
      (λ e d. clash d refl)

  pub finish_makes : (tag : List ℕ) → Makes s (decision s (finish tag) n v) v (after s lk (finish tag) n v)
  finish_makes tag = record {
    made = reader_record s tag v.attempt;
    single = refl;
    added = refl;
    attempt = refl;
    writer = λ d. clash d refl;
  }
