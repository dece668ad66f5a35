-- What hanging a block in leaves as it was.
use Rattle.std.proofs.lemmas.Bool.Decides.{nat_tests}
use Rattle.std.proofs.Common.{◌≡◌, ◌≢◌, inl, ℕ, ◌+◌, ◌<◌, ◌≤◌, arith}
use Rattle.std.proofs.lemmas.Bool.{cases_lt}
use Rattle.tx_alloc.specs.Pool.{IsBlock}
use Rattle.tx_alloc.specs.Rows.{Rows, times, Relinks}

-- the words of a block that is none of these rows
pub outside_block : {first : ℕ} → (m m' : ℕ → ℕ) (n root c k : ℕ) (rs : Rows) → Relinks m m' first root rs →
    ((a : ℕ) → 0 < times a rs → IsBlock n a) → IsBlock n c → times c rs ≡ 0 → k < 8 → c + k ≢ root →
    m' (c + k) ≡ m (c + k)
outside_block m m' n root c k rs r blocks bc none l ne = grind (arith, nat_tests, r.others (c + k) ne, cases_lt)

-- the words behind the links of any block
pub outside_links : {first : ℕ} → (m m' : ℕ → ℕ) (n root c k : ℕ) (rs : Rows) → Relinks m m' first root rs →
    ((a : ℕ) → 0 < times a rs → IsBlock n a) → IsBlock n c → 4 ≤ k → k < 8 → c + k ≢ root → m' (c + k) ≡ m (c + k)
outside_links m m' n root c k rs r blocks bc g l ne = grind (arith, nat_tests, r.others (c + k) ne, cases_lt c)

-- the words in front of the blocks
pub outside_low : {first : ℕ} → (m m' : ℕ → ℕ) (n root x : ℕ) (rs : Rows) → Relinks m m' first root rs →
    ((a : ℕ) → 0 < times a rs → IsBlock n a) → x < 16 → x ≢ root → m' x ≡ m x
outside_low m m' n root x rs r blocks l ne = r.others x ne (λ a i. let ba = blocks a i in inl (omega (arith, ba.1.1)))
