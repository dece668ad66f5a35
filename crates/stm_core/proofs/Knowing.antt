-- Some client that is out knows the clock, and each event keeps this.
use Rattle.std.proofs.Common.{◌≡◌, ◌≢◌, ℕ, ◌+◌, ◌≤◌, max, false, cond, eqb, length, set, slice_index, slice_set, refl}
use Rattle.std.proofs.Common.{ap, ◌∙◌, subst, arith}
use mathlib.Core.Logic.{dite}
use native.Mathlib.Decide.{ℕ_discrete}
use Rattle.stm_core.specs.Client.{Client, checked, locked, ticked, validated, Stamp, version_of, word_before}
use Rattle.stm_core.specs.Client.{value_fetched, writes_to}
use Rattle.stm_core.specs.Event.{Action, begin, probe, fetch, check, lock, tick, validate, put, release, give_back}
use Rattle.stm_core.specs.Event.{finish, committed_by, stepping, failing, read_too, holding, versioned, decides_at_once}
use Rattle.stm_core.specs.Event.{won, passes, passing, after, giving, fresh, taking, gone, with_ticks, marking}
use Rattle.stm_core.specs.Event.{counting}
use Rattle.stm_core.specs.Core.{Core, stepped, divided, gathered}
use Rattle.stm_core.specs.Version.{At}
use Rattle.stm_core.specs.Invariant.{IsKnown}
use Rattle.stm_core.proofs.Lists.{set_here, set_else, same_at, at_longer}
use Rattle.stm_core.proofs.Steps.{by_case}

module _ (c : Core) (i : ℕ) (v : Client) (at : At c.clients i v) where
  -- the client after its step knows the clock
  pub turn_known : (clock' : ℕ) (w : Client) → w.is_gathered ≡ false → w.floor ≡ clock' →
      IsKnown clock' (set c.clients i w)
  turn_known clock' w out floor = record {
    place = i;
    knower = w;
    member = set_here c.clients i v w at;
    out = out;
    floor = floor;
  }

module _ (lk : ℕ → ℕ) (c : Core) (k : IsKnown c.clock c.clients) (i : ℕ) (v : Client) (at : At c.clients i v)
    (live : v.is_gathered ≡ false) where
  -- if this client is the one that knows the clock, its floor is the clock
  pub its_floor : k.place ≡ i → v.floor ≡ c.clock
  its_floor e = ap (λ (x : Client). x.floor) (same_at c.clients i v k.knower at
      (subst (λ n. At c.clients n k.knower) e k.member)) ∙ k.floor

  -- the client after its step has the same floor
  stays : (w : Client) → w.is_gathered ≡ v.is_gathered → w.floor ≡ v.floor → IsKnown c.clock (set c.clients i w)
  stays w out floor = dite (ℕ_discrete k.place i) (λ e. turn_known c i v at c.clock w (out ∙ live)
      (floor ∙ its_floor e))
      (λ n. record {
        place = k.place;
        knower = k.knower;
        member = set_else c.clients i k.place w k.knower n k.member;
        out = k.out;
        floor = k.floor;
      })

  pub act_known : (t : Stamp) (e : Action) → IsKnown (stepped t lk e i v c).clock (stepped t lk e i v c).clients
  act_known t begin = turn_known c i v at c.clock (after t lk begin c.clock v) live refl
  act_known t (probe j) = stays (after t lk (probe j) (slice_index c.locks j) v) refl refl
  act_known t (fetch a) = stays (after t lk (fetch a) (slice_index c.cells a) v) refl refl
  act_known t (check a) =
      let n = slice_index c.locks (lk a) in
      by_case (λ b. IsKnown c.clock (slice_set c.clients i (stepping (checked a (word_before v.attempt.last) n)
      (cond b (read_too a (value_fetched v.attempt.last) v) (failing v))))) (eqb n (word_before v.attempt.last))
      (λ e. stays (stepping (checked a (word_before v.attempt.last) n) (read_too a (value_fetched v.attempt.last) v))
      refl refl)
      (λ e. stays (stepping (checked a (word_before v.attempt.last) n) (failing v)) refl refl)
  act_known t (lock j) =
      let n = slice_index c.locks j in
      by_case (λ b. IsKnown c.clock (slice_set c.clients i (stepping (locked j (word_before v.attempt.last) n)
      (cond b (holding j (version_of n) v) (failing v))))) (eqb n (word_before v.attempt.last))
      (λ e. stays (stepping (locked j (word_before v.attempt.last) n) (holding j (version_of n) v)) refl refl)
      (λ e. stays (stepping (locked j (word_before v.attempt.last) n) (failing v)) refl refl)
  act_known t (tick from tag writes) =
      let w0 : Client = versioned t (from + 1) tag writes v in
      by_case (λ b. IsKnown (cond b (from + 1) c.clock) (slice_set c.clients i
      (with_ticks (v.attempt.ticks + 1) c.clock (stepping (ticked from c.clock)
      (cond b (won t (from + 1) tag writes v) v))))) (eqb c.clock from)
      (λ e. by_case (λ b. IsKnown (from + 1) (slice_set c.clients i
      (with_ticks (v.attempt.ticks + 1) c.clock (stepping (ticked from c.clock) (cond b (committed_by t w0) w0)))))
      (decides_at_once w0)
      (λ z. turn_known c i v at (from + 1) (with_ticks (v.attempt.ticks + 1) c.clock
      (stepping (ticked from c.clock) (committed_by t w0))) live refl)
      (λ z. turn_known c i v at (from + 1) (with_ticks (v.attempt.ticks + 1) c.clock
      (stepping (ticked from c.clock) w0)) live refl))
      (λ e. stays (with_ticks (v.attempt.ticks + 1) c.clock (stepping (ticked from c.clock) v)) refl refl)
  act_known t (validate j) =
      let n = slice_index c.locks j in
      let w0 : Client = counting v in
      by_case (λ b. IsKnown c.clock (slice_set c.clients i (marking (writes_to v.attempt.held j)
      (stepping (validated j n) (cond b (passing t v) (failing v)))))) (passes j n v)
      (λ e. by_case (λ b. IsKnown c.clock (slice_set c.clients i
      (marking (writes_to v.attempt.held j) (stepping (validated j n) (cond b (committed_by t w0) w0)))))
      (eqb w0.attempt.passed (length v.attempt.reads))
      (λ z. stays (marking (writes_to v.attempt.held j) (stepping (validated j n) (committed_by t w0))) refl refl)
      (λ z. stays (marking (writes_to v.attempt.held j) (stepping (validated j n) w0)) refl refl))
      (λ e. stays (marking (writes_to v.attempt.held j) (stepping (validated j n) (failing v))) refl refl)
  act_known t (put a x) = stays (after t lk (put a x) (slice_index c.cells a) v) refl refl
  act_known t (release j) = stays (after t lk (release j) (slice_index c.locks j) v) refl refl
  act_known t (give_back j) = stays (after t lk (give_back j) (slice_index c.locks j) v) refl refl
  act_known t (finish tag) = stays (after t lk (finish tag) c.clock v) refl refl

  pub split_known : IsKnown c.clock (divided i v c).clients
  split_known =
      let q = stays (giving v) refl refl in
      record {
        place = q.place;
        knower = q.knower;
        member = at_longer (set c.clients i
            (giving v)) (fresh v) q.knower q.place q.member;
        out = q.out;
        floor = q.floor;
      }

  -- the gatherer keeps the greater floor, and both are at most the clock
  pub gather_known : (j : ℕ) (w : Client) → At c.clients j w → i ≢ j → v.floor ≤ c.clock → w.floor ≤ c.clock →
      IsKnown c.clock (gathered i v j w c).clients
  gather_known j w to ne low low' = dite (ℕ_discrete k.place i) (λ e. here (let f = its_floor e in grind arith))
      (λ n. dite (ℕ_discrete k.place j)
      (λ e. here (let f : w.floor ≡ c.clock = ap (λ (x : Client). x.floor)
      (same_at c.clients j w k.knower to (subst (λ m. At c.clients m k.knower) e k.member)) ∙ k.floor in
      grind arith))
      (λ n'. record {
        place = k.place;
        knower = k.knower;
        member = set_else (set c.clients i
            (taking v w)) j k.place gone k.knower n' (set_else c.clients i k.place (taking v w) k.knower n k.member);
        out = k.out;
        floor = k.floor;
      }))
    where
      here : max v.floor w.floor ≡ c.clock → IsKnown c.clock (gathered i v j w c).clients
      here f = record {
        place = i;
        knower = taking v w;
        member = set_else (set c.clients i
            (taking v w)) j i gone (taking v w) ne (set_here c.clients i v (taking v w) at);
        out = live;
        floor = f;
      }
