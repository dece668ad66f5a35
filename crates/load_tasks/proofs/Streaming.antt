-- The streams of a seed, one after the other.
use Rattle.std.proofs.Common.{◌≡◌, ◌∙◌, ℕ, suc, ◌+◌, [], ◌∷◌, ◌++◌, ap, arith}
use Rattle.load_tasks.specs.Streams.{stream_of, streams_of}

-- one stream more
pub next_stream : (seed n k : ℕ) → k ≡ n → streams_of seed n ++ (stream_of seed (k + 1) ∷ []) ≡ streams_of seed (n + 1)
next_stream seed n k e =
    let more : k + 1 ≡ suc n = omega (arith, e) in
    let same : suc n ≡ n + 1 = omega arith in
    ap (λ (j : ℕ). streams_of seed n ++ (stream_of seed j ∷ [])) more ∙ ap (streams_of seed) same
