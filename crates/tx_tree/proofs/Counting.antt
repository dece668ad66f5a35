-- A table with the number of its entries over the calls of this crate, by their contracts alone.
use Rattle.std.proofs.Common.{◌≡◌, ℕ, zero, suc, ◌+◌, ◌-◌, ◌*◌, ◌<◌, ◌≤◌, List, [], ◌∷◌, length, slice_index, unwrap_or}
use Rattle.std.proofs.Common.{Option, Some, refl, sym, ap, ◌∙◌, subst, arith, get_or}
use Rattle.std.specs.FinMap.{get}
use Rattle.tx_memory.specs.View.{View, Kept, Loaded}
use Rattle.tx_memory.specs.Plain.{flat_view, numbered}
use Rattle.tx_memory.specs.PlainSeen.{get_at}
use Rattle.tx_alloc.specs.Steps.{mem, stood}
use Rattle.tx_alloc.specs.Rows.{put_row, cut_row}
use Rattle.tx_alloc.proofs.Times.{length_put, length_cut}
use Rattle.tx_tree.specs.Table.{IsTable, Table, HasTable, FoundRow, IsFresh, Inserted, Removed}
use Rattle.tx_tree.specs.Counted.{HasEntries}
use Rattle.tx_tree.proofs.TableFrame.{table_empty}

pub has_table : (s : View) (root blocks count : ℕ) → HasEntries s root blocks count → HasTable s root
has_table s root blocks count h = record {
  small = omega (arith, h.size, h.small);
  room = omega (arith, h.size);
  low = h.low;
  under = λ image i.
      let e = h.under image i in
      record { entries = e.entries; is = record { table = e.table; few = omega (arith, e.is, h.few) } };
}

-- only reads were made
pub after_reads : (s s' : View) (root blocks count : ℕ) → HasEntries s root blocks count → Kept s s' →
    s'.writes ≡ s.writes → HasEntries s' root blocks count
after_reads s s' root blocks count h k w = record {
  size = k.size ∙ h.size;
  small = h.small;
  low = h.low;
  few = h.few;
  under = λ image i. rw w (h.under image (stood k image i));
}

pub after_put : (s s' : View) (root blocks count key b : ℕ) → HasEntries s root blocks count → count < 262144 →
    IsFresh s root key b → Inserted s s' root key b → HasEntries s' root blocks (count + 1)
after_put s s' root blocks count key b h room fresh p = record {
  size = p.kept.size ∙ h.size;
  small = h.small;
  low = h.low;
  few = omega arith;
  under = λ image i.
      let i0 = stood p.kept image i in
      let e = h.under image i0 in
      let few : length e.entries ≤ 262144 = omega (arith, e.is, h.few) in
      let t : Table (mem s image) (length image) root e.entries = record { table = e.table; few = few } in
      record {
        entries = put_row e.entries key b;
        table = p.table image e.entries i.sees t (fresh.under image e.entries i0 t);
        is = omega (arith, length_put key b e.entries, e.is);
      };
}

pub after_cut : (s s' : View) (root blocks count key b : ℕ) → HasEntries s root blocks count → Removed s s' root key b →
    HasEntries s' root blocks (count - 1)
after_cut s s' root blocks count key b h p = record {
  size = p.kept.size ∙ h.size;
  small = h.small;
  low = h.low;
  few = omega (arith, h.few);
  under = λ image i.
      let e = h.under image (stood p.kept image i) in
      let few : length e.entries ≤ 262144 = omega (arith, e.is, h.few) in
      let t : Table (mem s image) (length image) root e.entries = record { table = e.table; few = few } in
      record {
        entries = cut_row e.entries key;
        table = p.table image e.entries i.sees t;
        is = omega (
          arith,
          length_cut key b e.entries (sym (p.is image e.entries i.sees t)) (omega (arith, p.inside.0)),
          e.is,
        );
      };
}

-- a block whose first word was read as a key that the table does not have
pub fresh_read : (s s1 s2 : View) (root blocks count key number b : ℕ) → HasEntries s root blocks count →
    number < blocks → b ≡ 16 + 8 * number → Loaded s s1 b key → FoundRow s1 s2 root key 0 → IsFresh s2 root key b
fresh_read s s1 s2 root blocks count key number b h inside e l f = record {
  under = λ image rs i t.
      let i1 = stood f.kept image i in
      let t1 : Table (mem s1 image) (length image) root rs = rw f.writes at t in
      record {
        block = (number, (omega (arith, i.size, f.kept.size, l.kept.size, h.size, inside, e), e));
        absent = sym (f.is image rs i.sees t1);
        key_is = rw (f.writes ∙ l.writes) (l.answer image i1.sees);
      };
}

-- plain words whose root word is 0
pub none_yet : (xs : List ℕ) (root blocks : ℕ) → length xs ≡ 16 + 8 * blocks → blocks ≤ 262144 → root < 16 →
    slice_index xs root ≡ 0 → HasEntries (flat_view xs) root blocks 0
none_yet xs root blocks size small low at_root = record {
  size = size;
  small = small;
  low = low;
  few = omega arith;
  under = λ image i.
      let g : get (numbered 0 xs) root ≡ Some (get_or xs root 0) = get_at xs root (omega (arith, size)) in
      let at : mem (flat_view xs) image root ≡ 0 = ap (λ (o : Option ℕ). unwrap_or o (slice_index image root)) g ∙
      at_root in
      record {
        entries = [];
        table = subst (λ (p : ℕ). IsTable (mem (flat_view xs) image)
            (length image) p []) (sym at) (table_empty (mem (flat_view xs) image) (length image));
        is = refl;
      };
}

-- a word inside of a list is the same whatever stands for those outside
pub in_range : (xs : List ℕ) (i d d' : ℕ) → i < length xs → get_or xs i d ≡ get_or xs i d'
in_range [] i d d' l = absurd (omega arith)
in_range (x ∷ xs) zero d d' l = refl
in_range (x ∷ xs) (suc i) d d' l = in_range xs i d d' (omega arith)
