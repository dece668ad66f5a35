-- The generators from which a load draws.
use Rattle.std.specs.Prelude.{◌≡◌, ℕ, zero, suc, List, [], ◌∷◌, ◌++◌}
use Rattle.rand_pcg.specs.Lcg.{Lcg, started, increment_of}
use Rattle.rand_pcg.specs.Pcg.{multiplier_64, pcg32}

-- this stream of the generator with this seed, at its beginning
abbrev pub stream_of : ℕ → ℕ → Lcg
stream_of seed stream = started 64 multiplier_64 seed (increment_of 64 stream)

-- the streams 1 to n
abbrev pub streams_of : ℕ → ℕ → List Lcg
streams_of seed zero = []
streams_of seed (suc n) = streams_of seed n ++ (stream_of seed (suc n) ∷ [])

-- the generator gives this word in this state, and the next state follows
abbrev pub gives : Lcg → ℕ → Lcg → Type 0
gives state word next = (word, next) ≡ pcg32 state
