use Rattle.std.proofs.Common.{◌≡◌, ℕ, ◌<◌, true, false, slice_index_or}
use Rattle.stm_logs.proofs.row.fill.Given as goal

abbrev pub invariant-loop-i : goal.invariant-loop-i
invariant-loop-i g l = record {
  filled : (k : ℕ) → k < l.i → slice_index_or l.row.filled k false ≡ true;
  items : (k : ℕ) → k < l.i → slice_index_or l.row.items k l.value ≡ l.value;
  ptr : l.row.ptr ≡ l.initial.row.ptr;
  len : l.row.len ≡ l.initial.row.len;
}
