-- Structures over images whose words that point to the structures are 0, at one length only.
use Rattle.std.proofs.Common.{◌≡◌, inl, inr, ℕ, ◌+◌, ◌<◌, List, [], ◌∷◌, Option, Some, None}
use Rattle.std.proofs.Common.{MatchOption, length, replicate, slice_index, nat_eq, false, refl, sym, ap, ◌∙◌, subst}
use Rattle.std.proofs.Common.{arith}
use Rattle.std.proofs.lemmas.Bool.Decides.{nat_tests}
use Rattle.std.proofs.lemmas.List.{get_or-replicate}
use Rattle.tx_memory.specs.Seen.{same_or}
use Rattle.tx_memory.specs.View.{View, RestsOn, Kept, Loaded}
use Rattle.tx_alloc.specs.Steps.{mem, stood}
use Rattle.tx_alloc.specs.Pool.{IsPool, HasPool, NoneFree, Taken}
use Rattle.tx_alloc.specs.Rows.{Rows, times}
use Rattle.vac_bookings.specs.Lists.{IsListAt, HasList}
use Rattle.vac_bookings.specs.Lists as list
use Rattle.tx_tree.specs.Table.{IsTable, Table, HasTable, IsFresh, Inserted}
use Rattle.tx_tree.proofs.TableFrame.{table_empty}
use Rattle.vac_records.proofs.TableRows.{table_one}
use Rattle.test_stm.specs.Laws.{Fits, HoldsUnder, HasNulls}

-- a memory of 96 words with such images
pub record Nulls (s : View) : Type 0 where
  pub size : s.size ≡ 96
  pub under : (image : List ℕ) → RestsOn s image → HasNulls (mem s image) (length image)

pub nulls_held : (s : View) → HoldsUnder HasNulls 96 s → Nulls s
nulls_held s h = record { size = h.size_is; under = λ image i. h.under image i.sees }

-- no block is free, and all ten are taken
null_pool : (m : ℕ → ℕ) (n : ℕ) → n ≡ 96 → HasNulls m n → IsPool m n (λ (i : ℕ). []) (λ (x : ℕ). 1) 10
null_pool m n e h = record { lists = λ i l. h.free i l; once = λ x b. refl; all = sym e }

pub nulls_pool : (s : View) → Nulls s → HasPool s
nulls_pool s h = record {
  small = omega (arith, h.size);
  under = λ image i. record {
    free = λ (i : ℕ). [];
    used = λ (x : ℕ). 1;
    count = 10;
    pool = null_pool (mem s image) (length image) (i.size ∙ h.size) (h.under image i);
  };
}

read : (s s' : View) → Kept s s' → s'.writes ≡ s.writes → Nulls s → Nulls s'
read s s' k w h = record { size = k.size ∙ h.size; under = λ image i. rw w (h.under image (stood k image i)) }

pub nulls_loaded : (s s' : View) (a v : ℕ) → Nulls s → Loaded s s' a v → Nulls s'
nulls_loaded s s' a v h l = read s s' l.kept l.writes h

pub nulls_took : (taken : Option ℕ) (s s' : View) (start : ℕ) → Nulls s →
    MatchOption taken (NoneFree s s') (λ b. Taken s s' start b) → Nulls s'
nulls_took None s s' start h t = read s s' t.kept t.writes h
nulls_took (Some b) s s' start h t = record {
  size = t.kept.size ∙ h.size;
  under = λ image i.
      let i0 = stood t.kept image i in
      let g = t.taking image (λ (i : ℕ). []) (λ (x : ℕ). 1) 10 i.sees
      (null_pool (mem s image) (length image) (i0.size ∙ h.size) (h.under image i0)) in
      let none : 0 ≡ length (b ∷ g.rest) = ap (λ (xs : List ℕ). length xs) g.first in
      absurd (omega (arith, none));
}

-- the table is empty
null_table : (m : ℕ → ℕ) (n : ℕ) → m 3 ≡ 0 → Table m n 3 []
null_table m n e = record { table = subst (λ (p : ℕ). IsTable m n p []) (sym e) (table_empty m n); few = omega arith }

pub nulls_table : (s : View) → Nulls s → HasTable s 3
nulls_table s h = record {
  small = omega (arith, h.size);
  room = omega (arith, h.size);
  low = omega arith;
  under = λ image i. record { entries = []; is = null_table (mem s image) (length image) (h.under image i).root };
}

pub nulls_fresh : (s s' : View) (v : ℕ) → Nulls s → Loaded s s' 16 v → IsFresh s' 3 v 16
nulls_fresh s s' v h l =
    let h' = nulls_loaded s s' 16 v h l in
    record {
      under = λ image rs i t.
          let mine = null_table (mem s' image) (length image) (h'.under image i).root in
          let none : rs ≡ [] = table_one (mem s' image) (length image) (mem s' image 3) rs [] t.table mine.table in
          record {
            block = (0, (omega (arith, i.size, h'.size), refl));
            absent = rw none refl;
            key_is = rw l.writes (l.answer image i.sees);
          };
    }

-- the only block of one row
only : (key b a : ℕ) → 0 < times a ((key, b) ∷ []) → a ≡ b
only key b a h =
    elim (same_or a b) [
      | inl e ↦ e
      | inr ne ↦ (let t : nat_eq b a ≡ false = grind (arith, nat_tests) in let z : 0 < 0 = rw t at h in
          absurd (omega (arith, z)))
    ]

-- the word that leads to a list is 0
pub record NullHead (s : View) : Type 0 where
  pub size : s.size ≡ 96
  pub under : (image : List ℕ) → RestsOn s image → mem s image 5 ≡ 0

pub head_inserted : (s s' : View) (key : ℕ) → Nulls s → IsFresh s 3 key 16 → Inserted s s' 3 key 16 → NullHead s'
head_inserted s s' key h fresh p = record {
  size = p.kept.size ∙ h.size;
  under = λ image i.
      let i0 = stood p.kept image i in
      let f = h.under image i0 in
      let t = null_table (mem s image) (length image) f.root in
      let r = p.relinks image [] i.sees t (fresh.under image [] i0 t) in
      r.others 5 (omega arith) (λ a o. let e = only key 16 a o in inl (omega (arith, e))) ∙ f.head;
}

pub head_loaded : (s s' : View) (a v : ℕ) → NullHead s → Loaded s s' a v → NullHead s'
head_loaded s s' a v h l = record {
  size = l.kept.size ∙ h.size;
  under = λ image i. rw l.writes (h.under image (stood l.kept image i));
}

pub head_list : (s : View) → NullHead s → HasList s 5
head_list s h = record {
  small = omega (arith, h.size);
  room = omega (arith, h.size);
  under = λ image i. record {
    entries = [];
    is = record {
      list = record {
        linked = h.under image i;
      };
      outside = λ a x. absurd (omega (arith, x));
    };
  };
}

no_bookings : (m : ℕ → ℕ) (n : ℕ) (rs : Rows) → m 5 ≡ 0 → IsListAt m n 5 rs → rs ≡ []
no_bookings m n [] e l = refl
no_bookings m n (r ∷ rs) e l = (let b = l.list.linked.0 in absurd (omega (arith, e, b.at, b.block.1.1)))

pub head_fresh : (s s1 s2 : View) (kind id : ℕ) → NullHead s → Loaded s s1 24 kind → Loaded s1 s2 25 id →
    list.IsFreshBooking s2 5 (record { kind = kind; id = id }) 24
head_fresh s s1 s2 kind id h k l = record {
  under = λ image rs i at.
      let h2 = head_loaded s1 s2 25 id (head_loaded s s1 24 kind h k) l in
      let none = no_bookings (mem s2 image) (length image) rs (h2.under image i) at in
      let kind_is : mem s2 image 24 ≡ kind = rw (l.writes, k.writes) (k.answer image (l.kept.seen image i.sees)) in
      let id_is : mem s2 image 25 ≡ id = rw l.writes (l.answer image i.sees) in
      record {
        block = (1, (omega (arith, i.size, h2.size), refl));
        outside = inl (omega arith);
        absent = rw none refl;
        loose = rw none refl;
        kind_is = kind_is;
        id_is = id_is;
      };
}

-- words that are all 0
pub zeros_fit : (xs ys : List ℕ) → ys ≡ xs → xs ≡ replicate 96 0 → Fits HasNulls ys
zeros_fit xs ys e z =
    let zero : (i : ℕ) → i < 96 → slice_index ys i ≡ 0 = λ i l. rw (e, z) (get_or-replicate 96 i 0 0 l) in
    record { root = zero 3 (omega arith); head = zero 5 (omega arith); free = λ i l. zero (8 + i) (omega (arith, l)) }
