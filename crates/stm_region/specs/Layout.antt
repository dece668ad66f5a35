-- The positions of a region's words in its table: the clock alone on its cache lines, the lock
-- words, and the data words.
use Rattle.std.specs.Prelude.{◌≡◌, ℕ, ◌+◌, ◌-◌, ◌%◌, ◌<◌, ◌≤◌, length, cond, eqb}
use Rattle.stm_core.specs.Client.{Client, RecordLaw}
use Rattle.stm_core.specs.Core.{left}
use Rattle.stm_core.specs.Event.{Action, begin, probe, fetch, check, lock, tick, validate, put, release, give_back, finish}
use Rattle.stm_region.specs.Shown.{Opened, RegionShown, MayStep}
use Rattle.stm_core.specs.Guards.{stripe_of}
use Rattle.stm_region.specs.declared.layout.TheConstants.{CLOCK, FIRST_LOCK, LINE_WORDS}
use Rattle.stm_core.specs.declared.version.TheConstants.{VERSION_LIMIT}
use Rattle.stm_core.specs.declared.limits.TheConstants.{MOST_WORDS, MOST_STRIPES}

-- the number of words between the lock words and the data words, which fill the last cache line of
-- the lock words
abbrev pub padding : ℕ → ℕ
padding stripes = (LINE_WORDS - 1) - (stripes + (LINE_WORDS - 1)) % LINE_WORDS

-- the index of the first data word
abbrev pub first_cell : ℕ → ℕ
first_cell stripes = FIRST_LOCK + stripes + padding stripes

-- the index of the word on which a step acts
abbrev pub place : ℕ → Action → ℕ
place stripes begin = CLOCK
place stripes (probe k) = FIRST_LOCK + k
place stripes (fetch a) = first_cell stripes + a
place stripes (check a) = FIRST_LOCK + stripe_of stripes a
place stripes (lock k) = FIRST_LOCK + k
place stripes (tick from tag writes) = CLOCK
place stripes (validate k) = FIRST_LOCK + k
place stripes (put a x) = first_cell stripes + a
place stripes (release k) = FIRST_LOCK + k
place stripes (give_back k) = FIRST_LOCK + k
place stripes (finish tag) = CLOCK

-- the lock or the address of a step is in the region
abbrev pub InRange : ℕ → ℕ → Action → Type 0
InRange stripes size begin = Unit {0}
InRange stripes size (probe k) = k < stripes
InRange stripes size (fetch a) = a < size
InRange stripes size (check a) = Unit {0}
InRange stripes size (lock k) = k < stripes
InRange stripes size (tick from tag writes) = Unit {0}
InRange stripes size (validate k) = k < stripes
InRange stripes size (put a x) = a < size
InRange stripes size (release k) = k < stripes
InRange stripes size (give_back k) = k < stripes
InRange stripes size (finish tag) = Unit {0}

-- the client's value allows the step, and the index is that of the step's word in the region
pub record MayStepAt (lawful : RecordLaw) (r : RegionShown) (step : Action) (word : ℕ)
    (v : Client) : Type 0 where
  pub range : InRange r.stripes r.size step
  pub word_is : word ≡ place r.stripes step
  pub allowed : MayStep lawful r step v

-- the fields of a running region agree with its table and with its opening
pub record IsLaid (words slots : ℕ) (o : Opened)
    (length_of_image last_version stripes cells renewals : ℕ) : Type 0 where
  pub total : words ≡ cells + length_of_image
  pub none : slots ≡ 0
  pub behind : cells ≡ first_cell stripes
  pub image : length o.image ≡ length_of_image
  pub small : length_of_image ≤ MOST_WORDS
  pub last : o.last ≡ last_version
  pub top : last_version < VERSION_LIMIT
  pub same : o.stripes ≡ stripes
  pub some : 0 < stripes
  pub few : stripes ≤ MOST_STRIPES
  pub counted : o.renewal ≡ renewals

-- the step compares and exchanges its word from this word to the next one, whatever word it finds
abbrev pub Exchanges : Action → ℕ → Client → Type 0
Exchanges e from v = (n : ℕ) → left e n v ≡ cond (eqb n from) (from + 1) n

-- the step is a store
abbrev pub IsStore : Action → Type 0
IsStore begin = ⊥
IsStore (probe k) = ⊥
IsStore (fetch a) = ⊥
IsStore (check a) = ⊥
IsStore (lock k) = ⊥
IsStore (tick from tag writes) = ⊥
IsStore (validate k) = ⊥
IsStore (put a x) = Unit {0}
IsStore (release k) = Unit {0}
IsStore (give_back k) = ⊥
IsStore (finish tag) = ⊥

-- the step stores this word
abbrev pub Stores : Action → ℕ → Client → Type 0
Stores e new v = IsStore e × ((n : ℕ) → left e n v ≡ new)
