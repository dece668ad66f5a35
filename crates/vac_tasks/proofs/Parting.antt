-- A customer without bookings goes: out of the table, and the block is given back.
use Rattle.std.proofs.Common.{◌≡◌, ℕ, ◌<◌, List, [], ◌∷◌, length, Some, None, true, refl, sym, ap, ◌∙◌, arith}
use Rattle.std.specs.Prelude.{Option}
use Rattle.std.specs.FinMap.{empty, empty_of_len}
use Rattle.tx_memory.specs.View.{View, Sees}
use Rattle.vac_model.specs.declared.commands.Command.TheVariants as command
use Rattle.vac_model.specs.declared.commands.Refusal.TheVariants.{NoCustomer}
use Rattle.vac_model.specs.declared.replies.Reply.TheVariants as reply
use Rattle.vac_model.specs.Ranges.{is_command}
use Rattle.vac_model.specs.State.{State, Bookings, bookings_of, without_customer}
use Rattle.tx_alloc.specs.Pool.{IsBlock, HasUsed, Given}
use Rattle.tx_alloc.specs.Rows.{Rows, cut_row, block_at}
use Rattle.tx_tree.specs.Table.{FoundRow, Removed}
use Rattle.vac_records.specs.Items.{mem}
use Rattle.vac_records.specs.Heap.{used_in, count_in}
use Rattle.vac_records.specs.Represents.{IsState}
use Rattle.vac_records.specs.InMemory.{HoldsState, OnlyRead}
use Rattle.vac_records.specs.Laws.{IsCustomerAt, StaysBut}
use Rattle.vac_records.specs.Steps.{kept_both, stood}
use Rattle.vac_records.proofs.Bridges.{table_there, hand_there}
use Rattle.vac_records.proofs.Customers.{customer_missing, customer_removed}
use Rattle.vac_records.proofs.Hands.{block_given}
use Rattle.vac_records.proofs.Keyed.{row_at, row_times}
use Rattle.vac_records.proofs.Shifts.{in_table}
use Rattle.vac_records.proofs.Single.{one_state, one_shape}
use Rattle.vac_tasks.specs.Entries.{LacksCustomer, CustomerIsAt}
use Rattle.vac_tasks.specs.Ran.{Ran, CustomerGone}
use Rattle.vac_tasks.specs.CustomerSteps.{RanOn, HasNoBookings, GivenBack}
use Rattle.vac_tasks.proofs.Held.{customer_none, outcome_of, ran_reads, ran_after, read_none}
use Rattle.vac_tasks.proofs.Dropping.{drop_bare}

not_both : {X : Type 0} (o : Option X) (x : X) → o ≡ None → o ≡ Some x → ⊥
not_both {X} o x e f = let z : ◌≡◌ {A = Option X} None (Some x) = sym e ∙ f in cc

-- the customer was not there after all
pub none_removed : (s s' : View) (id : ℕ) → HasNoBookings s id → FoundRow s s' 4 id 0 → CustomerGone s s' id
none_removed s s' id bare f = record {
  kept = f.kept;
  gone = λ image state i h there.
      let r = h.represents in
      let table = table_there (mem s image) (length image) [] state 3 r h.small.small (omega arith) in
      let none = customer_missing (mem s image) (length image) [] state r id
      (sym (f.is image (r.parts.tables 3) i table)) in
      absurd (not_both (bookings_of state id) empty none there);
}

-- the state while the block is in hand
module _ (s s1 : View) (id b : ℕ) (v : Removed s s1 4 id b) where
  leaves_from : (image : List ℕ) (state : State) → Sees s1 image →
      (h : IsState (mem s image) (length image) state) → bookings_of state id ≡ Some empty →
      IsCustomerAt h.represents id b empty
  leaves_from image state i h there =
      let table = table_there (mem s image) (length image) [] state 3 h.represents h.small.small (omega arith) in
      record {
        at = sym (v.is image (h.represents.parts.tables 3) i table);
        some = (let low = v.inside.0 in omega arith);
        there = there;
      }

  in_hand : (image : List ℕ) (state : State) → (i : Sees s1 image) →
      (h : IsState (mem s image) (length image) state) → bookings_of state id ≡ Some empty →
      StaysBut h.represents 3 (cut_row (h.represents.parts.tables 3) id) (mem s1 image) (b ∷ [])
      (without_customer state id)
  in_hand image state i h there =
      let table = table_there (mem s image) (length image) [] state 3 h.represents h.small.small (omega arith) in
      customer_removed (mem s image) (mem s1 image) (length image) [] state id b h.represents
      (leaves_from image state i h there) (record {
        table = v.table image (h.represents.parts.tables 3) i table;
        relinks = v.relinks image (h.represents.parts.tables 3) i table;
      })

  block : (image : List ℕ) (state : State) → (i : Sees s1 image) →
      (h : IsState (mem s image) (length image) state) → bookings_of state id ≡ Some empty →
      IsBlock (length image) b
  block image state i h there =
      let at = leaves_from image state i h there in
      let r = h.represents in
      in_table (mem s image) (length image) r.parts r.heap 3 b (omega arith)
      (row_times id b (r.parts.tables 3) (row_at id b (r.parts.tables 3) at.at at.some))

  pub used_in_hand : HoldsState s → HasNoBookings s id → HasUsed s1 b
  used_in_hand has bare = record {
    small = omega (arith, has.small, v.kept.size);
    under = λ image i.
        let i0 = stood v.kept image i in
        let h = has.under image i0 in
        let there = bare.none image h.0 i0 h.1 in
        let g = in_hand image h.0 i.sees h.1 there in
        let p = g.after.parts in
        record {
          free = p.free;
          used = used_in (record p { out = [] });
          count = count_in (record p { out = [] });
          is = hand_there (mem s1 image) (length image) b [] (without_customer h.0 id)
              (block image h.0 i.sees h.1 there) g.after;
        };
  }

  pub removed_gone : (s2 : View) (start : ℕ) → start < 8 → Given s1 s2 start b → CustomerGone s s2 id
  removed_gone s2 start l t = record {
    kept = kept_both s s1 s2 v.kept t.kept;
    gone = λ image state i h there.
        let i1 = t.kept.seen image i in
        let g = in_hand image state i1 h there in
        (block_given (mem s1 image) (mem s2 image) (length image) start b [] (without_customer state id) l
        (block image state i1 h there) g.after
        (λ used count is. t.giving image g.after.parts.free used count i is)).after;
  }

-- no booking is left
pub bare : (s s' : View) (id c : ℕ) → HoldsState s → CustomerIsAt s id c → GivenBack s s' id c 0 → HasNoBookings s' id
bare s s' id c has at given = record {
  none = λ image state' i h'.
      let i0 = stood given.kept image i in
      let h = has.under image i0 in
      let l = given.under image h.0 i.sees h.1 (at.at image h.0 i0 h.1) in
      let same : l.state ≡ state' = one_state (mem s' image)
      (length image) [] [] l.state state' l.is.represents h'.represents in
      let none : l.bookings ≡ empty = empty_of_len l.bookings (let f = l.few in omega arith) in
      ap (λ (z : State). bookings_of z id) (sym same) ∙ (l.there ∙ ap (λ (z : Bookings). Some z) none);
}

pub given_holds : (s s' : View) (id c most : ℕ) → HoldsState s → CustomerIsAt s id c → GivenBack s s' id c most →
    HoldsState s'
given_holds s s' id c most has at given = record {
  inside = omega (arith, has.inside, given.kept.size);
  small = omega (arith, has.small, given.kept.size);
  under = λ image i.
      let i0 = stood given.kept image i in
      let h = has.under image i0 in
      let l = given.under image h.0 i.sees h.1 (at.at image h.0 i0 h.1) in
      (l.state, l.is);
}

-- and the customer is still in the same block
pub given_seat : (s s' : View) (id c most : ℕ) → HoldsState s → CustomerIsAt s id c → GivenBack s s' id c most →
    CustomerIsAt s' id c
given_seat s s' id c most has at given = record {
  some = at.some;
  inside = (at.inside.0, omega (arith, at.inside.1, given.kept.size));
  at = λ image state' i h'.
      let i0 = stood given.kept image i in
      let h = has.under image i0 in
      let l = given.under image h.0 i.sees h.1 (at.at image h.0 i0 h.1) in
      ap (λ (rows : Rows). block_at rows id) (one_shape (mem s' image)
      (length image) [] [] l.state state' l.is.represents h'.represents 3 (omega arith)) ∙ l.seat;
}

-- given back, and gone
pub dropped : (s s1 s2 : View) (id c : ℕ) → is_command (command.DropCustomer id) ≡ true → GivenBack s s1 id c 0 →
    CustomerGone s1 s2 id → RanOn s s2 id c (command.DropCustomer id) reply.Done
dropped s s1 s2 id c range given gone = record {
  kept = kept_both s s1 s2 given.kept gone.kept;
  untouched = tt;
  idle = tt;
  outcome = λ image state i h at.
      let l = given.under image state (gone.kept.seen image i) h at in
      let none : l.bookings ≡ empty = empty_of_len l.bookings (let f = l.few in omega arith) in
      let there : bookings_of l.state id ≡ Some empty = l.there ∙ ap (λ (z : Bookings). Some z) none in
      outcome_of (mem s image) (mem s2 image) (length image) state (without_customer l.state id)
      (command.DropCustomer id) reply.Done h range (sym l.drops ∙ drop_bare l.state id there)
      (gone.gone image l.state i l.is there);
}

-- nobody is there
pub nobody : (s s' : View) (id : ℕ) → OnlyRead s s' → LacksCustomer s' id →
    Ran s s' (command.DropCustomer id) (reply.No NoCustomer)
nobody s s' id r lacks =
    ran_after s s' s' (command.DropCustomer id) (reply.No NoCustomer) r
    (ran_reads s' s' (command.DropCustomer id) (reply.No NoCustomer) (read_none s')
    (λ image state i h. let none = customer_none s' id lacks image state i h in rw none refl))
