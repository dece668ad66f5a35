-- Histories: when a list of records is serial, and the image of a version.
use Rattle.std.specs.Prelude.{◌≡◌, ℕ, ◌<◌, ◌≤◌, Bool, leb, ltb, eqb, ◌||◌, ◌&&◌, cond, true, List, [], ◌∷◌, length}
use Rattle.tx_memory.specs.Image.{In, Agrees, laid}
use Rattle.stm_core.specs.Client.{Client, Record, merged, RecordLaw}

-- the reads of each record agree with the image just before that record
abbrev pub Serial : List ℕ → List Record → Type 0
Serial image [] = Unit {0}
Serial image (r ∷ rs) = Agrees image r.reads × Serial (laid image r.writes) rs

-- the image after the writes of all records
abbrev pub image_after : List ℕ → List Record → List ℕ
image_after image [] = image
image_after image (r ∷ rs) = image_after (laid image r.writes) rs

-- the image of a version: the opening image with the writes of all records of at most that version
-- applied, in the order of the list
abbrev pub image_at : List ℕ → ℕ → List Record → List ℕ
image_at image u [] = image
image_at image u (r ∷ rs) = image_at (cond (leb r.version u) (laid image r.writes) image) u rs

-- true if the record is of an earlier renewal, or of this renewal with a version of at most u
abbrev pub is_upto : ℕ → ℕ → Record → Bool
is_upto n u r = ltb r.renewal n || (eqb r.renewal n && leb r.version u)

-- the image of version u of renewal n: the first image with the writes of all records of earlier
-- renewals applied, and of those of this renewal of at most that version, in the order of the list
abbrev pub image_upto : List ℕ → ℕ → ℕ → List Record → List ℕ
image_upto image n u [] = image
image_upto image n u (r ∷ rs) =
    image_upto (cond (is_upto n u r) (laid image r.writes) image) n u rs

-- the first list is a sublist of the second: the second without some of its elements
pub data Sub {A : Type 0} : List A → List A → Type 0 where
  done : {ys : List A} → Sub [] ys
  keep : (x : A) {xs ys : List A} → Sub xs ys → Sub (x ∷ xs) (x ∷ ys)
  skip : (y : A) {xs ys : List A} → Sub xs ys → Sub xs (y ∷ ys)

-- the records of all clients, merged to one list
abbrev pub all_records : List Client → List Record
all_records [] = []
all_records (v ∷ vs) = merged v.records (all_records vs)

-- the records of all clients are serial from the image and lawful, and a client's own records are
-- a sublist of them
pub record IsShared (lawful : RecordLaw) (image : List ℕ) (own all : List Record) : Type 0 where
  pub serial : Serial image all
  pub abides : (r : Record) → In r all → lawful r.tag r.reads r.writes
  pub among : Sub own all

-- some fitting image of this size agrees with the reads
abbrev pub SomeFits : (List ℕ → Type 0) → ℕ → List (ℕ × ℕ) → Type 0
SomeFits fits size reads =
    (image : List ℕ) × fits image × (length image ≡ size) × Agrees image reads

-- the versions ascend: no version is below an earlier one, and a writer's version is above all
-- earlier ones
abbrev pub Ascending : List Record → Type 0
Ascending [] = Unit {0}
Ascending (x ∷ xs) =
    ((r : Record) → In r xs
    → (x.version ≤ r.version) × (r.writer ≡ true → x.version < r.version)) × Ascending xs

-- the records are in the order of their point steps
abbrev pub ByPoint : List Record → Type 0
ByPoint [] = Unit {0}
ByPoint (x ∷ xs) = ((r : Record) → In r xs → x.point < r.point) × ByPoint xs
