-- The sums of which a report consists.
use Rattle.std.specs.Prelude.{◌≡◌, ℕ, ◌+◌, ◌<◌, ◌≤◌, ◌^◌, List, [], ◌∷◌, length, sum_by}
use Rattle.std.specs.FinMap.{len, values}
use Rattle.tx_memory.specs.View.{View, Sees, RestsOn}
use Rattle.tx_alloc.specs.declared.place.TheConstants.{MOST_BLOCKS}
use Rattle.tx_alloc.specs.Rows.{Rows}
use Rattle.vac_bookings.specs.Lists.{IsListAt}
use Rattle.vac_bookings.specs.declared.place.TheConstants.{SUM, UNITS}
use Rattle.vac_model.specs.declared.items.Kind.{Kind}
use Rattle.vac_model.specs.State.{State, ItemTable, Customers, table_of, units_booked, bill_of}
use Rattle.vac_records.specs.Items.{mem}
use Rattle.vac_records.specs.declared.place.TheConstants.{USED, FREE, TOTAL}
use Rattle.vac_records.specs.Customers.{head_of}
use Rattle.vac_records.specs.Represents.{IsState}
use Rattle.vac_records.specs.InMemory.{OnlyRead}
use Rattle.vac_tasks.specs.declared.item_report.ItemSums.{ItemSums}
use Rattle.vac_tasks.specs.declared.customer_report.CustomerSums.{CustomerSums}

-- the sums over two parts together
abbrev pub items_together : ItemSums → ItemSums → ItemSums
items_together a b = record {
  count = a.count + b.count;
  used = a.used + b.used;
  free = a.free + b.free;
  total = a.total + b.total;
}

-- the sums over two parts of the customers together
abbrev pub customers_together : CustomerSums → CustomerSums → CustomerSums
customers_together a b = record {
  count = a.count + b.count;
  units = a.units + b.units;
  billed = a.billed + b.billed;
}

-- the sums over two parts of the items, taken together, fit 64 bits
pub record ItemsFit (a b : ItemSums) : Type 0 where
  pub count : a.count + b.count < 2 ^ 64
  pub used : a.used + b.used < 2 ^ 64
  pub free : a.free + b.free < 2 ^ 64
  pub total : a.total + b.total < 2 ^ 64

-- the sums over two parts of the customers, taken together, fit 64 bits
pub record CustomersFit (a b : CustomerSums) : Type 0 where
  pub count : a.count + b.count < 2 ^ 64
  pub units : a.units + b.units < 2 ^ 64
  pub billed : a.billed + b.billed < 2 ^ 64

-- the sums over a table of items
abbrev pub sums_of_items : ItemTable → ItemSums
sums_of_items t = record {
  count = len t;
  used = sum_by (λ i. i.used) (values t);
  free = sum_by (λ i. i.free) (values t);
  total = sum_by (λ i. i.total) (values t);
}

-- the sums over the customers
abbrev pub sums_of_customers : Customers → CustomerSums
sums_of_customers customers = record {
  count = len customers;
  units = sum_by units_booked (values customers);
  billed = sum_by bill_of (values customers);
}

-- the sums over the single item in the block at `node`
abbrev pub item_alone : (ℕ → ℕ) → ℕ → ItemSums
item_alone m node = record {
  count = 1;
  used = m (node + USED);
  free = m (node + FREE);
  total = m (node + TOTAL);
}

-- only reads were made, and under each possible image the result is the sums over the block's item
pub record ItemCounted (s s' : View) (node : ℕ) (sums : ItemSums) : Type 0 where
  pub reads : OnlyRead s s'
  pub is : (image : List ℕ) → Sees s' image → item_alone (mem s image) node ≡ sums

-- the sums are so small that the sums of three tables together fit 64 bits
pub record AreSmall (sums : ItemSums) : Type 0 where
  pub count : sums.count < 2 ^ 60
  pub used : sums.used < 2 ^ 60
  pub free : sums.free < 2 ^ 60
  pub total : sums.total < 2 ^ 60

-- only reads were made, and under each possible image the result is the sums over the items of a
-- kind
pub record ItemsSummed (s s' : View) (kind : Kind) (sums : ItemSums) : Type 0 where
  pub reads : OnlyRead s s'
  pub small : AreSmall sums
  pub is : (image : List ℕ) (state : State) → Sees s' image →
      IsState (mem s image) (length image) state → sums_of_items (table_of state kind) ≡ sums

-- the sum of the words at one place of the blocks of these rows
abbrev pub words_at : (ℕ → ℕ) → ℕ → Rows → ℕ
words_at m place [] = 0
words_at m place (r ∷ rs) = m (r.1 + place) + words_at m place rs

-- the customer has these bookings, at most 262,144, and their units and their sums add up to
-- 64-bit numbers
pub record HasSums (m : ℕ → ℕ) (n customer : ℕ) (rows : Rows) : Type 0 where
  pub list : IsListAt m n (head_of customer) rows
  pub few : length rows ≤ MOST_BLOCKS
  pub units : words_at m UNITS rows < 2 ^ 64
  pub sums : words_at m SUM rows < 2 ^ 64

-- the customer has some bookings whose units and sums add up to 64-bit numbers
pub record SomeSums (m : ℕ → ℕ) (n customer : ℕ) : Type 0 where
  pub entries : Rows
  pub is : HasSums m n customer entries

-- under each possible image of the memory's size, the customer's bookings add up to 64-bit
-- numbers. Addresses fit 32 bits.
pub record CanCount (s : View) (customer : ℕ) : Type 0 where
  pub small : s.size ≤ 2 ^ 32
  pub room : head_of customer < s.size
  pub under : (image : List ℕ) → RestsOn s image → SomeSums (mem s image) (length image) customer

-- the sums over the single customer with these bookings
abbrev pub customer_alone : (ℕ → ℕ) → Rows → CustomerSums
customer_alone m rows = record {
  count = 1;
  units = words_at m UNITS rows;
  billed = words_at m SUM rows;
}

-- only reads were made, and the result is the sums over the customer's bookings
pub record CustomerCounted (s s' : View) (customer : ℕ) (sums : CustomerSums) : Type 0 where
  pub reads : OnlyRead s s'
  pub is : (image : List ℕ) (rows : Rows) → Sees s' image →
      HasSums (mem s image) (length image) customer rows →
      customer_alone (mem s image) rows ≡ sums

-- only reads were made, and under each possible image the result is the sums over all customers
pub record CustomersSummed (s s' : View) (sums : CustomerSums) : Type 0 where
  pub reads : OnlyRead s s'
  pub is : (image : List ℕ) (state : State) → Sees s' image →
      IsState (mem s image) (length image) state → sums_of_customers state.customers ≡ sums
