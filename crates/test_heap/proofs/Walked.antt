-- A walk over a table with a known number of entries.
use Rattle.std.proofs.Common.{◌≡◌, ℕ, Option, Some, None, MatchOption, arith}
use Rattle.tx_memory.specs.View.{View, Kept}
use Rattle.tx_alloc.specs.Steps.{stood}
use Rattle.tx_tree.specs.declared.walk.Walk.{Walk}
use Rattle.tx_tree.specs.Counted.{HasEntries}
use Rattle.tx_tree.specs.Table.{FoundRow, FoundAt}
use Rattle.tx_tree.specs.Walk.{HasWalk, Begun, Stepped, later_rows}
use Rattle.tx_tree.proofs.Counting.{has_table, after_reads}

-- the table, and a walk over it that has some rows still to come
pub record Walking (s : View) (blocks count : ℕ) (walk : Walk) : Type 0 where
  pub entries : HasEntries s 3 blocks count
  pub ahead : HasWalk s walk

pub walk_begun : (s s' : View) (blocks count : ℕ) (walk : Walk) → HasEntries s 3 blocks count → Begun s s' 3 walk →
    Walking s' blocks count walk
walk_begun s s' blocks count walk h b = record {
  entries = after_reads s s' 3 blocks count h b.kept b.writes;
  ahead = record {
    small = omega (arith, h.size, h.small, b.kept.size);
    under = λ image i.
        let t = (has_table s 3 blocks count h).under image (stood b.kept image i) in
        rw b.writes (t.entries, b.is image t.entries i.sees t.is);
  };
}

pub walk_stepped : (s s' : View) (blocks count : ℕ) (walk walk' : Walk) (next : Option ℕ) →
    Walking s blocks count walk → Stepped s s' walk walk' next → Walking s' blocks count walk'
walk_stepped s s' blocks count walk walk' next h t = record {
  entries = after_reads s s' 3 blocks count h.entries t.kept t.writes;
  ahead = record {
    small = omega (arith, h.ahead.small, t.kept.size);
    under = λ image i.
        let p = h.ahead.under image (stood t.kept image i) in
        rw t.writes (later_rows p.0, (t.is image p.0 i.sees p.1).1);
  };
}

-- only reads were made
walk_kept : (s s' : View) (blocks count : ℕ) (walk : Walk) → Walking s blocks count walk → Kept s s' →
    s'.writes ≡ s.writes → Walking s' blocks count walk
walk_kept s s' blocks count walk h k w = record {
  entries = after_reads s s' 3 blocks count h.entries k w;
  ahead = record {
    small = omega (arith, h.ahead.small, k.size);
    under = λ image i. rw w (h.ahead.under image (stood k image i));
  };
}

pub walk_sought : (s s' : View) (blocks count key : ℕ) (walk : Walk) (found : Option ℕ) →
    Walking s blocks count walk →
    MatchOption found (FoundRow s s' 3 key 0) (λ b. FoundAt s s' 3 key b) → Walking s' blocks count walk
walk_sought s s' blocks count key walk None h f = walk_kept s s' blocks count walk h f.kept f.writes
walk_sought s s' blocks count key walk (Some b) h f =
    walk_kept s s' blocks count walk h f.found.kept f.found.writes
