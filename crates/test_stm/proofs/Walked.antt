-- A walk over a table in a heap of ten blocks.
use Rattle.std.proofs.Common.{◌≡◌, ℕ, Option, arith}
use Rattle.tx_memory.specs.View.{View, Kept, Loaded}
use Rattle.tx_alloc.specs.Steps.{stood}
use Rattle.tx_tree.specs.declared.walk.Walk.{Walk}
use Rattle.tx_tree.specs.Walk.{HasWalk, Begun, Stepped, later_rows}
use Rattle.tx_tree.proofs.Counting.{has_table, after_reads}
use Rattle.test_stm.specs.Laws.{HoldsTable}

-- the table, and a walk over it that has some rows still to come
pub record TableWalk (s : View) (count : ℕ) (walk : Walk) : Type 0 where
  pub table : HoldsTable s count
  pub ahead : HasWalk s walk

-- only reads were made
table_read : (s s' : View) (count : ℕ) → HoldsTable s count → Kept s s' → s'.writes ≡ s.writes → HoldsTable s' count
table_read s s' count h k w = record {
  entries = after_reads s s' 3 10 count h.entries k w;
  long = λ image i. h.long image (k.seen image i);
}

pub table_begun : (s s' : View) (count : ℕ) (walk : Walk) → HoldsTable s count → Begun s s' 3 walk →
    TableWalk s' count walk
table_begun s s' count walk h b = record {
  table = table_read s s' count h b.kept b.writes;
  ahead = record {
    small = omega (arith, h.entries.size, b.kept.size);
    under = λ image i.
        let t = (has_table s 3 10 count h.entries).under image (stood b.kept image i) in
        rw b.writes (t.entries, b.is image t.entries i.sees t.is);
  };
}

pub table_stepped : (s s' : View) (count : ℕ) (walk walk' : Walk) (next : Option ℕ) → TableWalk s count walk →
    Stepped s s' walk walk' next → TableWalk s' count walk'
table_stepped s s' count walk walk' next h t = record {
  table = table_read s s' count h.table t.kept t.writes;
  ahead = record {
    small = omega (arith, h.ahead.small, t.kept.size);
    under = λ image i.
        let p = h.ahead.under image (stood t.kept image i) in
        rw t.writes (later_rows p.0, (t.is image p.0 i.sees p.1).1);
  };
}

pub table_walk_loaded : (s s' : View) (count a v : ℕ) (walk : Walk) → TableWalk s count walk → Loaded s s' a v →
    TableWalk s' count walk
table_walk_loaded s s' count a v walk h l = record {
  table = table_read s s' count h.table l.kept l.writes;
  ahead = record {
    small = omega (arith, h.ahead.small, l.kept.size);
    under = λ image i. rw l.writes (h.ahead.under image (stood l.kept image i));
  };
}
