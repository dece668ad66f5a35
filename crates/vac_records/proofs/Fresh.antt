-- The words of an empty heap represent the state with no entries.
use Rattle.std.proofs.Common.{◌≡◌, ℕ, ◌+◌, ◌*◌, ◌<◌, List, [], length, slice_index, refl, ap, arith}
use Rattle.std.specs.FinMap.{entries}
use Rattle.std.specs.Ordering.{nat_cmp}
use Rattle.vac_model.specs.declared.items.Kind.{Kind}
use Rattle.vac_model.specs.declared.items.Kind.TheVariants.{Car, Flight, Room}
use Rattle.vac_model.specs.State.{table_of, empty_state}
use Rattle.vac_model.proofs.Views.{entries-empty}
use Rattle.tx_alloc.specs.Pool.{IsPool, fresh_lists}
use Rattle.tx_alloc.specs.Spread.{spread_lists}
use Rattle.tx_tree.proofs.TableFrame.{table_empty}
use Rattle.vac_records.specs.Heap.{Parts, used_in, count_in}
use Rattle.vac_records.specs.Represents.{Represents, opened_bookings}
use Rattle.vac_records.specs.Laws.{FreshState, SpreadState}
use Rattle.vac_records.proofs.Insert.{pool_as}

-- nothing is in a structure
abbrev pub no_parts : (ℕ → List ℕ) → Parts
no_parts free = record { tables = λ i. []; lists = λ c. []; free = free; out = [] }

no_entries : (n : ℕ) (kind : Kind) → entries (table_of (empty_state n) kind) ≡ []
no_entries n Car = entries-empty nat_cmp
no_entries n Flight = entries-empty nat_cmp
no_entries n Room = entries-empty nat_cmp

-- all blocks are free, and nothing leads to a structure
free_state : (words : List ℕ) (blocks : ℕ) (free : ℕ → List ℕ) → length words ≡ 16 + 8 * blocks →
    ((x : ℕ) → x < 8 → slice_index words x ≡ 0) →
    IsPool (λ (a : ℕ). slice_index words a) (length words) free (λ (x : ℕ). 0) 0 →
    Represents (λ (a : ℕ). slice_index words a) (length words) [] (empty_state blocks)
free_state words blocks free size low pool =
    let m : ℕ → ℕ = λ (a : ℕ). slice_index words a in
    record {
      size = size;
      parts = no_parts free;
      heap = record {
        tables = λ i l. (let root = low (1 + i) (omega arith) in rw root (table_empty m (length words)));
        lists = λ c o. absurd (omega arith);
        pool = pool_as m m (length words) free (λ (x : ℕ). 0) (used_in (no_parts free)) 0 (count_in (no_parts free))
            (λ i l. refl) (λ i x l o. refl) (λ x b. refl) refl pool;
      };
      held = refl;
      items = λ kind. no_entries blocks kind;
      customers = ap opened_bookings (entries-empty nat_cmp);
    }

pub fresh_state : FreshState
fresh_state words blocks h pool =
    free_state words blocks (fresh_lists blocks) h.size
    (λ x l. h.others x (λ i less. omega arith) (λ b less. omega arith)) pool

pub spread_state : SpreadState
spread_state words blocks h pool =
    free_state words blocks (spread_lists blocks) h.size
    (λ x l. h.others x (λ i less. omega arith) (λ b less. omega arith)) pool
