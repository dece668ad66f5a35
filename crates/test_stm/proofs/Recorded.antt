-- The effects of the calls on an item.
use Rattle.std.proofs.Common.{◌≡◌, ℕ, ◌+◌, ◌<◌, ◌≤◌, ◌^◌, List, ap, ◌∙◌, arith}
use Rattle.std.specs.Prelude.{None}
use Rattle.tx_memory.specs.View.{View, Sees, RestsOn, Kept, Loaded, Stored}
use Rattle.tx_alloc.specs.Steps.{mem}
use Rattle.vac_model.specs.declared.items.Item.{Item}
use Rattle.vac_model.specs.Step.{added}
use Rattle.vac_records.specs.Items.{IsNode, HasRoomForUnits, HasFree, CanMakeOf, CanCancel, ItemMade, ItemChanged}
use Rattle.vac_records.specs.Items.{ItemChangedOf, UnitsAdded}
use Rattle.vac_records.specs.Steps.{kept_both}
use Rattle.vac_records.proofs.Counting.{more_item, priced_item, enough_fits}
use Rattle.test_stm.specs.Laws.{HoldsUnder}
use Rattle.test_stm.specs.Records.{IsSized, HasItem}

pub node_held : (s : View) → HoldsUnder (λ m n. IsSized m n) 96 s → IsNode s 16
node_held s h = record { inside = omega (arith, h.size_is); small = omega (arith, h.size_is) }

node_kept : (s s' : View) (node : ℕ) → IsNode s node → Kept s s' → IsNode s' node
node_kept s s' node h k = record { inside = omega (arith, h.inside, k.size); small = omega (arith, h.small, k.size) }

pub item_made : (s s' : View) (node key num price : ℕ) → IsNode s node → ItemMade s s' node key num price →
    HasItem s' node 0 num num price
item_made s s' node key num price n m = record {
  node_is = node_kept s s' node n m.kept;
  under = λ image i. let t = m.made image i in λ j. record {
    used = t.used_is j;
    free = t.free_is j;
    total = t.total_is j;
    price = t.price_is j;
  };
}

-- an item that changed after its free units were read
pub changed_after : (s s1 s2 : View) (node v : ℕ) (f : Item → Item) → Loaded s s1 (node + 5) v →
    ItemChangedOf s1 s2 node v f → ItemChanged s s2 node f
changed_after s s1 s2 node v f l w = record {
  kept = kept_both s s1 s2 l.kept w.kept;
  changed = λ image i.
      let is : mem s1 image (node + 5) ≡ v = rw l.writes (l.answer image (w.kept.seen image i)) in
      rw l.writes at (w.changed image i is);
}

module _ (s s' : View) (node used free total price : ℕ) (h : HasItem s node used free total price) where
  pub item_changed : (f : Item → Item) → ItemChanged s s' node f → (used' free' total' : ℕ) →
      f (record { used = used; free = free; total = total; price = price }) ≡ record {
        used = used';
        free = free';
        total = total';
        price = price;
      } → HasItem s' node used' free' total' price
  item_changed f c used' free' total' e = record {
    node_is = node_kept s s' node h.node_is c.kept;
    under = λ image i. (c.changed image i).is ∙ (ap f (h.under image (c.kept.seen image i)) ∙ e);
  }

  pub item_added : (num : ℕ) → UnitsAdded s s' node num → HasItem s' node used (free + num) (total + num) price
  item_added num a = record {
    node_is = node_kept s s' node h.node_is a.kept;
    under = λ image i. more_item (mem s image) (mem s' image) node num (a.added image i) ∙
        ap (λ (item : Item). added item num None) (h.under image (a.kept.seen image i));
  }

  pub item_priced : (now : ℕ) → Stored s s' (node + 7) now → HasItem s' node used free total now
  item_priced now w = record {
    node_is = node_kept s s' node h.node_is w.kept;
    under = λ image i. priced_item (mem s image) (mem s' image) node now (w.written image) ∙
        ap (λ (item : Item). record item { price = now }) (h.under image (w.kept.seen image i));
  }

module _ (s : View) (node used free total price : ℕ) (h : HasItem s node used free total price) where
  used_is : (image : List ℕ) → Sees s image → mem s image (node + 4) ≡ used
  used_is image i = ap (λ (item : Item). item.used) (h.under image i)

  free_is : (image : List ℕ) → Sees s image → mem s image (node + 5) ≡ free
  free_is image i = ap (λ (item : Item). item.free) (h.under image i)

  total_is : (image : List ℕ) → Sees s image → mem s image (node + 6) ≡ total
  total_is image i = ap (λ (item : Item). item.total) (h.under image i)

  pub can_drop : (num : ℕ) → num ≤ free → num ≤ total → HasFree s node num
  can_drop num l k = record {
    free = record { enough = λ image i. omega (arith, l, free_is image i.sees) };
    total = record { enough = λ image i. omega (arith, k, total_is image i.sees) };
  }

  -- the free units were read just now
  pub can_make : (s1 : View) (num v : ℕ) → num ≤ free → used + num < 2 ^ 64 → Loaded s s1 (node + 5) v →
      ∥ ((image : List ℕ) × RestsOn s1 image) ∥₁ → CanMakeOf s1 node num v
  can_make s1 num v l k read ws = record {
    free_is = λ image i. rw read.writes (read.answer image i.sees);
    enough = enough_fits s s1 (node + 5) num v (record {
      enough = λ image i. omega (arith, l, free_is image i.sees);
    }) read ws;
    used = record {
      fits = λ image i. rw read.writes (omega (arith, k, used_is image (read.kept.seen image i.sees)));
    };
  }

  pub can_cancel : (num : ℕ) → num ≤ used → free + num < 2 ^ 64 → CanCancel s node num
  can_cancel num l k = record {
    used = record { enough = λ image i. omega (arith, l, used_is image i.sees) };
    free = record { fits = λ image i. omega (arith, k, free_is image i.sees) };
  }

  pub has_room : (num : ℕ) → free + num < 2 ^ 64 → total + num < 2 ^ 64 → HasRoomForUnits s node num
  has_room num l k = record {
    free = λ image i. omega (arith, l, free_is image i.sees);
    total = λ image i. omega (arith, k, total_is image i.sees);
  }
