-- The records of all clients beside the story. The story lists, for each version from 1 on, the
-- writes of the decided writer of that version, or none if there is none yet.
use Rattle.std.specs.Prelude.{◌≡◌, ◌≢◌, ℕ, zero, suc, ◌-◌, ◌<◌, Bool, true, false, cond, eqb, List, [], ◌∷◌, length, slice_index}
use Rattle.tx_memory.specs.Image.{In}
use mathlib.Core.Option.{some}
use lib.ListN.{get_elem?}
use Rattle.stm_core.specs.Client.{Client, Record, Aborted, decided, writes_to, before, RecordLaw}
use Rattle.stm_core.specs.Guards.{is_map}
use Rattle.stm_core.specs.Version.{At, IsOpen}

-- the value at address a after the pairs were written, if d was the value before them
abbrev pub value_over : ℕ → List (ℕ × ℕ) → ℕ → ℕ
value_over d [] a = d
value_over d (p ∷ ps) a = value_over (cond (eqb p.0 a) p.1 d) ps a

-- the value at address a in the image of a version, if d was the value at the opening
abbrev pub value_in : List (List (ℕ × ℕ)) → ℕ → ℕ → ℕ → ℕ
value_in [] d b a = d
value_in (w ∷ ws) d zero a = d
value_in (w ∷ ws) d (suc b) a = value_in ws (value_over d w a) b a

-- the value at address a in the image of version b, on this opening image
abbrev pub value_of : List ℕ → List (List (ℕ × ℕ)) → ℕ → ℕ → ℕ
value_of image story b a = value_in story (slice_index image a) b a

-- true if the decided writer of a version wrote the address
abbrev pub wrote_in : List (List (ℕ × ℕ)) → ℕ → ℕ → Bool
wrote_in ws zero a = false
wrote_in [] (suc u) a = false
wrote_in (w ∷ ws) (suc zero) a = writes_to w a
wrote_in (w ∷ ws) (suc (suc u)) a = wrote_in ws (suc u) a

-- r may come after x: r is not ordered before x, and the two are not writers of one version
abbrev pub MayFollow : Record → Record → Type 0
MayFollow x r = (before r x ≡ false) × (x.writer ≡ true → r.writer ≡ true → x.version ≢ r.version)

-- each record may come after all records before it
abbrev pub Ordered : List Record → Type 0
Ordered [] = Unit {0}
Ordered (x ∷ xs) = ((r : Record) → In r xs → MayFollow x r) × Ordered xs

-- the address of each pair is an address of the region
abbrev pub AllInside : ℕ → List (ℕ × ℕ) → Type 0
AllInside size pairs = (a x : ℕ) → In (a, x) pairs → a < size

-- some client has a record of a writer of this version
abbrev pub HasWriter : List Client → ℕ → Type 0
HasWriter cs u =
    (i : ℕ) × (v : Client) × (r : Record) × At cs i v × In r v.records × (r.writer ≡ true)
    × (r.version ≡ u)

module _ (lawful : RecordLaw) (size renewal : ℕ) (story : List (List (ℕ × ℕ))) where
  -- the record agrees with the story
  pub record IsTold (r : Record) : Type 0 where
    -- the record is lawful, and of the present renewal
    pub abides : lawful r.tag r.reads r.writes
    pub present : r.renewal ≡ renewal
    -- the addresses read and written are in the region, and no written address occurs twice
    pub reads : AllInside size r.reads
    pub writes : AllInside size r.writes
    pub once : is_map r.writes ≡ true
    -- a writer's writes are those that the story has for its version, and a reader writes nothing
    pub writer : r.writer ≡ true
        → (0 < r.version) × (get_elem? story (r.version - 1) ≡ some r.writes)
    pub reader : r.writer ≡ false → r.writes ≡ []

  -- the client's value agrees with the story
  pub record IsFiled (v : Client) : Type 0 where
    -- the client's records are in order, and each agrees with the story
    pub ordered : Ordered v.records
    pub told : (r : Record) → In r v.records → IsTold r
    -- the addresses that the attempt has read are in the region, and those that aborted attempts
    -- of the present renewal have read
    pub reads : AllInside size v.attempt.reads
    pub aborted : (r : Aborted) → In r v.aborted → AllInside size r.reads
    -- if the client has a write version, its writes are in the region, no address twice. If it is
    -- undecided, the tag, reads and writes are lawful; if it is decided, the writes are those that
    -- the story has for its version
    pub writes : 0 < v.attempt.wv
        → AllInside size v.attempt.writes × (is_map v.attempt.writes ≡ true)
    pub abides : IsOpen v → lawful v.attempt.tag v.attempt.reads v.attempt.writes
    pub commits : decided v ≡ true → get_elem? story (v.attempt.wv - 1) ≡ some v.attempt.writes
    -- a gathered client holds no lock and has no record
    pub gone : v.is_gathered ≡ true → (v.records ≡ []) × (v.attempt.held ≡ [])

  -- the records and values of all clients agree with the story
  pub record Filed (clock : ℕ) (cs : List Client) : Type 0 where
    pub filed : (i : ℕ) (v : Client) → At cs i v → IsFiled v
    -- the story has an entry for each version up to the clock
    pub versions : length story ≡ clock
    -- no record has the version of an undecided client
    pub unwritten : (i j : ℕ) (v w : Client) (r : Record) → At cs i v → At cs j w → In r v.records
        → r.writer ≡ true → IsOpen w → r.version ≢ w.attempt.wv
    -- the story has no writes yet for the version of an undecided client
    pub empty : (i : ℕ) (v : Client) → At cs i v → IsOpen v
        → get_elem? story (v.attempt.wv - 1) ≡ some []
    -- two clients have no writers of one version
    pub once : (i j : ℕ) (v w : Client) (r x : Record) → At cs i v → At cs j w → i ≢ j
        → In r v.records → In x w.records → r.writer ≡ true → x.writer ≡ true
        → r.version ≢ x.version
    -- each entry of the story that has writes was written by a record
    pub complete : (u : ℕ) (ws : List (ℕ × ℕ)) → get_elem? story u ≡ some ws → ws ≢ []
        → HasWriter cs (suc u)
