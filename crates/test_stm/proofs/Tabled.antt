-- Tables in heaps of ten blocks.
use Rattle.std.proofs.Common.{◌≡◌, ℕ, ◌+◌, ◌-◌, ◌*◌, ◌<◌, List, [], Option, Some, None, MatchOption, length}
use Rattle.std.proofs.Common.{slice_index, refl, sym, subst, ◌∙◌, arith}
use Rattle.tx_memory.specs.View.{View, Loaded}
use Rattle.tx_memory.specs.Plain.{flat_view}
use Rattle.tx_tree.specs.Table.{IsTable, FoundRow, FoundAt, IsFresh, Inserted, Removed}
use Rattle.tx_tree.proofs.Counting.{after_reads, after_put, after_cut, fresh_read, none_yet}
use Rattle.tx_tree.proofs.TableFrame.{table_empty}
use Rattle.test_stm.specs.Laws.{Fits, HoldsUnder, IsTableOfTen, HoldsTable, IsTableless}

-- a key that was not found
pub not_found : (s s' : View) (key : ℕ) (found : Option ℕ) → found ≡ None →
    MatchOption found (FoundRow s s' 3 key 0) (λ b. FoundAt s s' 3 key b) → FoundRow s s' 3 key 0
not_found s s' key found e h = let f = subst (λ (o : Option ℕ). MatchOption o (FoundRow s s' 3 key 0)
    (λ b. FoundAt s s' 3 key b)) e h in f

-- only reads were made
pub table_loaded : (s s' : View) (count a v : ℕ) → HoldsTable s count → Loaded s s' a v → HoldsTable s' count
table_loaded s s' count a v h l = record {
  entries = after_reads s s' 3 10 count h.entries l.kept l.writes;
  long = λ image i. h.long image (l.kept.seen image i);
}

pub table_sought : (s s' : View) (count key : ℕ) (found : Option ℕ) → HoldsTable s count →
    MatchOption found (FoundRow s s' 3 key 0) (λ b. FoundAt s s' 3 key b) → HoldsTable s' count
table_sought s s' count key None h f = record {
  entries = after_reads s s' 3 10 count h.entries f.kept f.writes;
  long = λ image i. h.long image (f.kept.seen image i);
}
table_sought s s' count key (Some b) h f = record {
  entries =
      after_reads s s' 3 10 count h.entries f.found.kept f.found.writes;
  long =
      λ image i. h.long image (f.found.kept.seen image i);
}

pub table_fresh : (s s1 s2 : View) (count key number b : ℕ) → HoldsTable s count → number < 10 → b ≡ 16 + 8 * number →
    Loaded s s1 b key → FoundRow s1 s2 3 key 0 → IsFresh s2 3 key b
table_fresh s s1 s2 count key number b h inside e l f =
    fresh_read s s1 s2 3 10 count key number b h.entries inside e l f

pub table_put : (s s' : View) (count key b : ℕ) → HoldsTable s count → count < 262144 → IsFresh s 3 key b →
    Inserted s s' 3 key b → HoldsTable s' (count + 1)
table_put s s' count key b h room fresh p = record {
  entries = after_put s s' 3 10 count key b h.entries room fresh p;
  long = λ image i. h.long image (p.kept.seen image i);
}

pub table_cut : (s s' : View) (count key : ℕ) (removed : Option ℕ) (b : ℕ) → HoldsTable s count → removed ≡ Some b →
    MatchOption removed (FoundRow s s' 3 key 0) (λ b. Removed s s' 3 key b) → HoldsTable s' (count - 1)
table_cut s s' count key removed b h e r =
    let p = subst (λ (o : Option ℕ). MatchOption o (FoundRow s s' 3 key 0) (λ b. Removed s s' 3 key b)) e r in
    record {
      entries = after_cut s s' 3 10 count key b h.entries p;
      long = λ image i. h.long image (p.kept.seen image i);
    }

pub table_fits : (xs ys : List ℕ) → ys ≡ xs → IsTableless xs → Fits (λ m n. IsTableOfTen 0 m n) ys
table_fits xs ys e h = rw e (record {
  size = h.0;
  entries = record {
    entries = [];
    table = subst (λ (p : ℕ). IsTable (λ (a : ℕ). slice_index xs a)
        (length xs) p []) (sym h.1) (table_empty (λ (a : ℕ). slice_index xs a) (length xs));
    is = refl;
  };
})

pub table_flat : (xs ys : List ℕ) → ys ≡ xs → IsTableless xs → HoldsTable (flat_view ys) 0
table_flat xs ys e h = rw e (record {
  entries = none_yet xs 3 10 (h.0 ∙ omega arith) (omega arith) (omega arith) h.1;
  long = λ image i. i.fits ∙ h.0;
})

-- an attempt that begins
pub table_held : (s : View) → HoldsUnder (λ m n. IsTableOfTen 0 m n) 96 s → HoldsTable s 0
table_held s h = record {
  entries = record {
    size = h.size_is ∙ omega arith;
    small = omega arith;
    low = omega arith;
    few = omega arith;
    under = λ image i. (h.under image i.sees).entries;
  };
  long = λ image i. (h.under image i).size;
}
