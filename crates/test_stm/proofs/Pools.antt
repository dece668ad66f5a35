-- Heaps of ten blocks.
use Rattle.std.proofs.Common.{◌≡◌, ℕ, Bool, true, List, Option, Some, None, MatchOption, length, slice_index, arith}
use Rattle.tx_memory.specs.View.{View}
use Rattle.stm_logs.specs.Log.{LogValue, empty_log, log_pairs}
use Rattle.stm_region.specs.Shown.{RegionShown, ClientShown}
use Rattle.stm_attempt.specs.Meaning.{memory_of, origin_of}
use Rattle.stm_attempt.specs.Leading.{IsLocal, Carries, KeepsFitting, records_lead}
use Rattle.tx_alloc.specs.Pool.{IsPool, HasPool, NoneFree, Taken}
use Rattle.tx_alloc.specs.Spread.{IsSpreadHeap, spread_lists}
use Rattle.tx_alloc.proofs.Moves.{pool_within}
use Rattle.test_stm.specs.Laws.{Fits, HoldsUnder, IsHeapOfTen}

pub heap_local : IsLocal IsHeapOfTen
heap_local m m' n same h = record {
  size = h.size;
  pool = record {
    free = h.pool.free;
    used = h.pool.used;
    count = h.pool.count;
    pool = pool_within m m' n h.pool.free h.pool.used h.pool.count same h.pool.pool;
  };
}

pub heap_pool : (s : View) → HoldsUnder IsHeapOfTen 96 s → HasPool s
heap_pool s h = record { small = omega (arith, h.size_is); under = λ image i. (h.under image i.sees).pool }

-- either answer of a call of take
pub heap_took : (taken : Option ℕ) (s s' : View) (start : ℕ) →
    MatchOption taken (NoneFree s s') (λ b. Taken s s' start b) → Carries IsHeapOfTen IsHeapOfTen s s'
heap_took None s s' start t = λ image i h. rw t.writes h
heap_took (Some b) s s' start t = λ image i h. record {
  size = h.size;
  pool = record {
    free = _;
    used = _;
    count = _;
    pool = (t.taking image h.pool.free h.pool.used h.pool.count i h.pool.pool).pool;
  };
}

-- the record of an attempt that keeps the heap a heap is lawful
pub heap_lawful : (in_use in_use' : Bool) (region region' : RegionShown) (name name' logs logs' : ℕ)
    (c c' : ClientShown) (w w' : LogValue) →
    in_use ≡ true → w ≡ empty_log → origin_of in_use' region' name' logs' c' ≡ origin_of in_use region name logs c →
    Carries IsHeapOfTen IsHeapOfTen (memory_of in_use region (λ (image : List ℕ). Fits IsHeapOfTen image) c.value w)
    (memory_of in_use' region' (λ (image : List ℕ). Fits IsHeapOfTen image) c'.value w') →
    KeepsFitting (λ (image : List ℕ). Fits IsHeapOfTen image) c'.value.attempt.reads (log_pairs w')
heap_lawful in_use in_use' region region' name name' logs logs' c c' w w' runs e origin carries = λ image f a.
    records_lead (λ (image : List ℕ). Fits IsHeapOfTen image) IsHeapOfTen IsHeapOfTen heap_local heap_local in_use
    in_use' region region' name name' logs logs' c c' w w' runs e origin carries image f a f

-- the words of a partitioned heap
pub spread_fits : (xs ys : List ℕ) → ys ≡ xs → IsSpreadHeap xs 10 →
    IsPool (λ (a : ℕ). slice_index xs a) (length xs) (spread_lists 10) (λ (x : ℕ). 0) 0 → Fits IsHeapOfTen ys
spread_fits xs ys e h p = rw e (record {
  size = omega (arith, h.size);
  pool = record { free = spread_lists 10; used = λ (x : ℕ). 0; count = 0; pool = p };
})
