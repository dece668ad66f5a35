-- The guards: when a client may make a step. Each guard is a test; a tick and a finish require
-- besides that the record that they would make is lawful.
use Rattle.std.specs.Prelude.{◌≡◌, ℕ, zero, suc, Bool, true, false, not, ◌&&◌, ◌||◌, ◌==◌, ◌%◌, nat_lt, nat_le, List, [], ◌∷◌}
use Rattle.std.specs.List.{list_any, list_all}
use Rattle.tx_memory.specs.Image.{In}
use Rattle.stm_core.specs.Client.{Attempt, Client, Phase, running, ending, Step, probed, fetched, version_of, is_free, is_committed, writes_to, RecordLaw}
use Rattle.stm_core.specs.Event.{is_empty, Bounds, Action, begin, probe, fetch, check, lock, tick, validate, put, release, give_back, finish}
use Rattle.stm_core.specs.declared.limits.TheConstants.{MOST_TICKS}

-- the lock of an address in a region with this number of stripes
abbrev pub stripe_of : ℕ → ℕ → ℕ
stripe_of stripes address = address % stripes

-- true if the attempt runs: it may still read, lock, tick or validate
abbrev pub is_running : Phase → Bool
is_running running = true
is_running _ = false

-- true if the attempt has begun and is not decided, so that it may give back its locks
abbrev pub may_end : Phase → Bool
may_end running = true
may_end ending = true
may_end _ = false

-- true if the attempt runs and has no write version
abbrev pub is_reading : Attempt → Bool
is_reading t = is_running t.phase && (t.wv == 0)

-- true if the last step was a probe of lock k that found the lock free, with a version of at most
-- rv
abbrev pub has_probed : ℕ → ℕ → Step → Bool
has_probed k rv (probed j n) = (j == k) && is_free n && nat_le (version_of n) rv
has_probed k rv _ = false

-- true if the last step was a probe of lock k that found the lock free
abbrev pub has_found_free : ℕ → Step → Bool
has_found_free k (probed j n) = (j == k) && is_free n
has_found_free k _ = false

-- true if the last step was a fetch of address a, after a probe that found its lock free with a
-- version of at most rv
abbrev pub has_fetched : ℕ → ℕ → Step → Bool
has_fetched a rv (fetched b n x) = (b == a) && is_free n && nat_le (version_of n) rv
has_fetched a rv _ = false

-- true if no address occurs twice
abbrev pub is_map : List (ℕ × ℕ) → Bool
is_map [] = true
is_map (p ∷ ps) = not (writes_to ps p.0) && is_map ps

-- the list of held locks names lock k
abbrev pub Holds : List (ℕ × ℕ) → ℕ → Type 0
Holds held k = (u : ℕ) × In (k, u) held

module _ (lk : ℕ → ℕ) where
  -- true if a tick may carry the writes: there is at least one, each address occurs once and is
  -- within the words, and the locks of the written words are exactly the held ones
  abbrev pub may_write : ℕ → List (ℕ × ℕ) → List (ℕ × ℕ) → Bool
  may_write size held writes =
      not (is_empty writes)
      && is_map writes
      && list_all (λ p. nat_lt p.0 size) writes
      && list_all (λ p. writes_to held (lk p.0)) writes
      && list_all (λ q. list_any (λ p. lk p.0 == q.0) writes) held

  -- true if lock k covers the address of the read at index n
  abbrev pub is_next : ℕ → List (ℕ × ℕ) → ℕ → Bool
  is_next k [] n = false
  is_next k (p ∷ ps) zero = lk p.0 == k
  is_next k (p ∷ ps) (suc n) = is_next k ps n

  -- true if every written address that lock k covers is stored
  abbrev pub are_stored : ℕ → List ℕ → List (ℕ × ℕ) → Bool
  are_stored k stored writes =
      list_all (λ p. not (lk p.0 == k) || list_any (λ n. n == p.0) stored) writes

  -- true if the attempt of a client that is not gathered may make this step; a begin starts the
  -- next attempt
  abbrev pub may_act : Bounds → Action → Attempt → Bool
  may_act b begin t = is_empty t.held
  may_act b (probe k) t = is_reading t && nat_lt k b.stripes
  may_act b (fetch a) t =
      is_reading t && nat_lt a b.size && is_empty t.held && has_probed (lk a) t.rv t.last
  may_act b (check a) t =
      is_reading t && nat_lt a b.size && is_empty t.held && has_fetched a t.rv t.last
  may_act b (lock k) t =
      is_reading t && nat_lt k b.stripes && has_found_free k t.last
      && list_all (λ p. nat_lt p.0 k) t.held
  may_act b (tick from tag writes) t =
      is_reading t && (from == t.next_from) && nat_lt from b.last && nat_lt t.ticks MOST_TICKS
      && may_write b.size t.held writes
  may_act b (validate k) t = is_running t.phase && nat_lt 0 t.wv && is_next k t.reads t.passed
  may_act b (put a x) t =
      is_committed t.phase && list_any (λ p. (p.0 == a) && (p.1 == x)) t.writes
      && writes_to t.held (lk a) && not (list_any (λ n. n == a) t.stored)
  may_act b (release k) t =
      is_committed t.phase && writes_to t.held k && are_stored k t.stored t.writes
  may_act b (give_back k) t = may_end t.phase && writes_to t.held k
  may_act b (finish tag) t = is_reading t && is_empty t.held

module _ (lawful : RecordLaw) where
  -- the record that a tick or a finish would make is lawful; other steps make no record
  abbrev pub IsLawful : Action → Attempt → Type 0
  IsLawful (tick from tag writes) t = lawful tag t.reads writes
  IsLawful (finish tag) t = lawful tag t.reads []
  IsLawful _ t = Unit {0}

  -- the attempt may make this step, and the record that it would make, if any, is lawful
  abbrev pub MayAct : (ℕ → ℕ) → Bounds → Action → Attempt → Type 0
  MayAct lk b action t = (may_act lk b action t ≡ true) × IsLawful action t

  -- the client is not gathered, its attempt may make this step, and the record that the step would
  -- make, if any, is lawful
  abbrev pub May : (ℕ → ℕ) → Bounds → Action → Client → Type 0
  May lk b action v = (v.is_gathered ≡ false) × MayAct lk b action v.attempt
