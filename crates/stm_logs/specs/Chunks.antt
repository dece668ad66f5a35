-- The chunks of a read log. The last chunk in use is the current chunk; the other chunks are full
-- or spare.
use Rattle.std.specs.Prelude.{◌≡◌, ℕ, ◌⊎◌, ◌<◌, ◌≤◌, List, [], ◌∷◌, ◌++◌, length, take, slice_index_or}
use Rattle.stm_logs.specs.declared.read.TheConstants.{PLACES, MAX_CHUNKS}

-- the values of the chunks, one chunk after the other
abbrev pub joined_chunks : List (List ℕ) → List ℕ
joined_chunks [] = []
joined_chunks (chunk ∷ chunks) = chunk ++ joined_chunks chunks

-- the values of the log: those of the first `full` chunks, then the first `used` values of the
-- current chunk
abbrev pub logged : List (List ℕ) → ℕ → List ℕ → ℕ → List ℕ
logged rest full hand used = joined_chunks (take full rest) ++ take used hand

-- each chunk has all its places, and the number of chunks is within the limit
pub record AreWhole (chunks : List (List ℕ)) : Type 0 where
  pub each : (k : ℕ) → k < length chunks → length (slice_index_or chunks k []) ≡ PLACES
  pub limit : length chunks ≤ MAX_CHUNKS

-- each of the other chunks has all its places, and there are at least `full` of them. The current
-- chunk has all its places or none
pub record HasRoomInChunks (rest : List (List ℕ)) (full : ℕ) (hand : List ℕ) : Type 0 where
  pub whole : AreWhole rest
  pub count : full ≤ length rest
  pub here : (length hand ≡ 0) ⊎ (length hand ≡ PLACES)

-- `more` is the list of chunks with one more chunk at the end
pub record IsLonger (chunks more : List (List ℕ)) : Type 0 where
  pub chunk : List ℕ
  pub appended : more ≡ chunks ++ chunk ∷ []
  pub whole : AreWhole more

-- `more` has a chunk after the first `full` ones, and the first `full` ones are as before
pub record IsRoomier (rest more : List (List ℕ)) (full : ℕ) : Type 0 where
  pub whole : AreWhole more
  pub inside : full < length more
  pub same : take full more ≡ take full rest

-- the chunk is now the last of the full ones, and a spare chunk was found in its place
pub record IsSetAside (rest : List (List ℕ)) (full : ℕ) (chunk : List ℕ)
    (more : List (List ℕ)) (count : ℕ) (spare : List ℕ) : Type 0 where
  pub whole : AreWhole more
  pub inside : count ≤ length more
  pub places : length spare ≡ PLACES
  pub same : joined_chunks (take count more) ≡ joined_chunks (take full rest) ++ chunk

-- the current chunk is whole, and the values of the earlier current chunk come after those of the
-- earlier full chunks
pub record IsTurned (rest : List (List ℕ)) (full : ℕ) (hand : List ℕ)
    (more : List (List ℕ)) (count : ℕ) (spare : List ℕ) : Type 0 where
  pub room : HasRoomInChunks more count spare
  pub places : length spare ≡ PLACES
  pub same : joined_chunks (take count more) ≡ joined_chunks (take full rest) ++ hand
