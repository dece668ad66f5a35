-- A block is given back, over every memory that there may be.
use Rattle.std.proofs.lemmas.Bool.Decides.{nat_tests}
use Rattle.std.proofs.Common.{◌≡◌, ℕ, ◌+◌, ◌<◌, ◌≤◌, List, length, ◌∙◌, arith}
use Rattle.tx_memory.specs.Seen.{some_le}
use Rattle.tx_memory.specs.View.{View, RestsOn, Kept, Loaded, Stored, IsWrite}
use Rattle.tx_alloc.specs.Steps.{mem, kept_both, stood, write_at_start}
use Rattle.tx_alloc.specs.Pool.{HasUsed, Given}
use Rattle.tx_alloc.proofs.Moves.{give_pool}

-- the heads and the block are words of the memory
pub used_in : (s0 s : View) (b : ℕ) → Kept s0 s → HasUsed s0 b → ∥ ((image : List ℕ) × RestsOn s image) ∥₁ →
    b + 8 ≤ s.size
used_in s0 s b k has ws = grind (arith, nat_tests, some_le (b + 8) s.size ws, stood k)

pub heads_in_used : (s0 s : View) (b : ℕ) → Kept s0 s → HasUsed s0 b → ∥ ((image : List ℕ) × RestsOn s image) ∥₁ →
    16 ≤ s.size
heads_in_used s0 s b k has ws = grind (arith, nat_tests, some_le 16 s.size ws, stood k)

pub given : (s0 s1 s2 s3 : View) (start b first head : ℕ) → start < 8 → head ≡ 8 + start → Loaded s0 s1 head first →
    Stored s1 s2 b first → Stored s2 s3 head b → Given s0 s3 start b
given s0 s1 s2 s3 start b first head l q d w w' = record {
  kept = kept_both s0 s2 s3 (kept_both s0 s1 s2 d.kept w.kept) w'.kept;
  giving = λ image free used count seen h.
      let i2 = w'.kept.seen image seen in let i1 = w.kept.seen image i2 in
      let led = d.answer image i1 in
      let one : IsWrite (mem s0 image) (mem s2 image) b (mem s0 image (8 + start)) =
      rw (← q, led) (write_at_start s0 s1 s2 b first d.writes w image i2) in
      let two : IsWrite (mem s2 image) (mem s3 image) (8 + start) b = rw (← q) (w'.written image) in
      record {
        pool = give_pool (mem s0 image) (mem s2 image) (mem s3 image)
            (length image) start b free used count h.pool h.block l one two;
        others = λ x nb nh. two.others x nh ∙ one.others x nb;
      };
}
