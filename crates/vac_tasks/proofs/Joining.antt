-- A customer comes: a block is taken, made a customer, and hung into the table.
use Rattle.std.proofs.Common.{◌≡◌, inl, inr, ℕ, ◌<◌, ◌≤◌, List, [], ◌∷◌, length, Some, None, true, false, cond, nat_eq}
use Rattle.std.proofs.Common.{refl, ap, ◌∙◌, arith}
use Rattle.std.proofs.lemmas.Bool.Decides.{nat_tests}
use Rattle.std.specs.FinMap.{empty}
use Rattle.tx_memory.specs.View.{View, Sees, RestsOn}
use Rattle.tx_memory.specs.Seen.{some_le}
use Rattle.vac_model.specs.declared.commands.Command.TheVariants as command
use Rattle.vac_model.specs.declared.commands.Refusal.TheVariants.{Full, Exists}
use Rattle.vac_model.specs.declared.replies.Reply.TheVariants as reply
use Rattle.vac_model.specs.State.{State, Bookings, kind_number, bookings_of, with_bookings, size, is_full}
use Rattle.vac_model.specs.Ranges.{is_command}
use Rattle.vac_model.specs.Step.{step}
use Rattle.tx_alloc.specs.Drawing.{DrawnBlock, IsDrawing}
use Rattle.tx_alloc.specs.Pool.{NoneFree}
use Rattle.tx_alloc.specs.Rows.{Rows, put_row, block_at}
use Rattle.tx_alloc.proofs.Order.{at_put}
use Rattle.tx_tree.specs.Table.{Table, HasTable, Fresh, IsFresh, Inserted}
use Rattle.vac_records.specs.Items.{mem, IsNode}
use Rattle.vac_records.specs.Customers.{CustomerMade}
use Rattle.vac_records.specs.Heap.{used_in, count_in}
use Rattle.vac_records.specs.Represents.{IsState}
use Rattle.vac_records.specs.InMemory.{HoldsState, OnlyRead}
use Rattle.vac_records.specs.Laws.{Stays, StaysBut}
use Rattle.vac_records.specs.Steps.{kept_both, stood}
use Rattle.vac_records.proofs.Bridges.{pool_there, table_there}
use Rattle.vac_records.proofs.Customers.{customer_missing, customer_inserted}
use Rattle.vac_records.proofs.Hands.{block_drawn, block_written}
use Rattle.vac_records.proofs.Shifts.{kind_small}
use Rattle.vac_records.proofs.Single.{none_left, some_left, one_shape}
use Rattle.vac_records.proofs.TableRows.{table_one}
use Rattle.vac_tasks.specs.Entries.{customer_block, HasCustomerAt, CustomerIsMissing, ItemsStay}
use Rattle.vac_tasks.specs.Ran.{Ran}
use Rattle.vac_tasks.specs.CustomerSteps.{RanOn, ItemsStayOn, HasSeat}
use Rattle.vac_tasks.proofs.Held.{state_on, customer_is, outcome_of, outcome_same, read_none, ran_reads, ran_after}

-- the customer is there already
there_step : (state : State) (id : ℕ) (b : Bookings) → bookings_of state id ≡ Some b →
    step state (command.NewCustomer id) ≡ (state, reply.No Exists)
there_step state id b h = rw h refl

pub exists_already : (s s' : View) (id c : ℕ) → OnlyRead s s' → HasCustomerAt s' id c →
    Ran s s' (command.NewCustomer id) (reply.No Exists)
exists_already s s' id c r at =
    ran_after s s' s' (command.NewCustomer id) (reply.No Exists) r
    (ran_reads s' s' (command.NewCustomer id) (reply.No Exists) (read_none s')
    (λ image state i h.
    let t = customer_is s' id c at image state i h in
    there_step state id t.bookings t.there))

-- no block is left
full_step : (state : State) (id : ℕ) → bookings_of state id ≡ None → size state ≡ state.capacity →
    step state (command.NewCustomer id) ≡ (state, reply.No Full)
full_step state id none full =
    let t : is_full state ≡ true = grind (arith, nat_tests) in
    rw (none, t) refl

pub none_left_over : (s s' : View) (id : ℕ) → NoneFree s s' →
    RanOn s s' id 0 (command.NewCustomer id) (reply.No Full)
none_left_over s s' id n = record {
  kept = n.kept;
  untouched = n.writes;
  idle = tt;
  outcome = λ image state i h lacks.
      let r = h.represents in
      let none = customer_missing (mem s image) (length image) [] state r id lacks in
      outcome_same (mem s' image) (length image) state (command.NewCustomer id) (reply.No Full)
      (state_on s s' image state n.writes h)
      (full_step state id none (none_left (mem s image) (length image) state r
      (n.none image r.parts.free (used_in r.parts) (count_in r.parts) i
      (pool_there (mem s image) (length image) [] state r))));
}

-- the block that was taken
taking : (s s1 : View) (start b : ℕ) (image : List ℕ) (state : State) → DrawnBlock s s1 start b →
    Sees s1 image → (h : IsState (mem s image) (length image) state) →
    IsDrawing (mem s image) (mem s1 image) (length image) h.represents.parts.free
    (used_in h.represents.parts) (count_in h.represents.parts) start b
taking s s1 start b image state t i h =
    t.drawing image h.represents.parts.free (used_in h.represents.parts) (count_in h.represents.parts) i
    (pool_there (mem s image) (length image) [] state h.represents)

pub taken_node : (s s1 : View) (start b : ℕ) → HoldsState s → DrawnBlock s s1 start b → IsNode s1 b
taken_node s s1 start b h t = record { inside = t.room; small = omega (arith, h.small, t.kept.size) }

-- the state while the block is in hand
module _ (s s1 s2 : View) (id start b : ℕ) (t : DrawnBlock s s1 start b) (w : CustomerMade s1 s2 b id) where
  in_hand : (image : List ℕ) (state : State) → Sees s2 image →
      (h : IsState (mem s image) (length image) state) →
      Stays h.represents (mem s2 image) (b ∷ []) state
  in_hand image state i h =
      let m = mem s image in
      let n = length image in
      let k = taking s s1 start b image state t (w.kept.seen image i) h in
      let new = w.made image i in
      let one = block_drawn m (mem s1 image) n start b [] state h.represents k in
      let two = block_written (mem s1 image) (mem s2 image) n b [] state k.block one.after (λ x far.
      new.others x (elim far [ inl below ↦ omega arith | inr above ↦ omega arith ])
      (elim far [ inl below ↦ inl (omega arith) | inr above ↦ inr above ])) in
      record { after = two.after; tables = λ j l. two.tables j l ∙ one.tables j l }

  hand_table : (image : List ℕ) (state : State) → (i : Sees s2 image) →
      (h : IsState (mem s image) (length image) state) → (g : Stays h.represents (mem s2 image) (b ∷ []) state) →
      Table (mem s2 image) (length image) 4 (g.after.parts.tables 3)
  hand_table image state i h g =
      table_there (mem s2 image) (length image) (b ∷ []) state 3 g.after h.small.small (omega arith)

  pub table_in_hand : HoldsState s → HasTable s2 4
  table_in_hand has = record {
    small = omega (arith, has.small, t.kept.size, w.kept.size);
    room = omega (arith, has.inside, t.kept.size, w.kept.size);
    low = omega arith;
    under = λ image i.
        let h = has.under image (stood t.kept image (stood w.kept image i)) in
        let g = in_hand image h.0 i.sees h.1 in
        record { entries = g.after.parts.tables 3; is = hand_table image h.0 i.sees h.1 g };
  }

  -- the id is missing while the block is in hand
  missing : (image : List ℕ) (state : State) (h : IsState (mem s image) (length image) state) →
      customer_block h id ≡ 0 → (g : Stays h.represents (mem s2 image) (b ∷ []) state) →
      block_at (g.after.parts.tables 3) id ≡ 0
  missing image state h none g = ap (λ (z : Rows). block_at z id) (g.tables 3 (omega arith)) ∙ none

  pub fresh_in_hand : HoldsState s → CustomerIsMissing s id → IsFresh s2 4 id b
  fresh_in_hand has lacks = record {
    under = λ image rs i table.
        let i1 = stood w.kept image i in
        let i0 = stood t.kept image i1 in
        let h = has.under image i0 in
        let g = in_hand image h.0 i.sees h.1 in
        let here = hand_table image h.0 i.sees h.1 g in
        let same : rs ≡ g.after.parts.tables 3 =
        table_one (mem s2 image) (length image) (mem s2 image 4) rs (g.after.parts.tables 3) table.table here.table in
        record {
          block = (taking s s1 start b image h.0 t i1.sees h.1).block;
          absent = ap (λ (z : Rows). block_at z id) same ∙ missing image h.0 h.1 (lacks.none image h.0 i0 h.1) g;
          key_is = (w.made image i.sees).key_is;
        };
  }

  -- the state with the customer
  module _ (s3 : View) (v : Inserted s2 s3 4 id b) where
    joined : (image : List ℕ) (state : State) → (i : Sees s3 image) →
        (h : IsState (mem s image) (length image) state) → customer_block h id ≡ 0 →
        (g : Stays h.represents (mem s2 image) (b ∷ []) state) →
        StaysBut g.after 3 (put_row (g.after.parts.tables 3) id b) (mem s3 image) [] (with_bookings state id empty)
    joined image state i h none g =
        let i2 = v.kept.seen image i in
        let table = hand_table image state i2 h g in
        let block = (taking s s1 start b image state t (w.kept.seen image i2) h).block in
        let absent = missing image state h none g in
        let fresh : Fresh (mem s2 image) (length image) (g.after.parts.tables 3) id b =
        record { block = block; absent = absent; key_is = (w.made image i2).key_is } in
        customer_inserted (mem s2 image) (mem s3 image) (length image) b [] state id
        block g.after absent (w.made image i2).head_is (record {
          table = v.table image (g.after.parts.tables 3) i table fresh;
          relinks = v.relinks image (g.after.parts.tables 3) i table fresh;
        })

    new_step : (state : State) → bookings_of state id ≡ None → size state < state.capacity →
        step state (command.NewCustomer id) ≡ (with_bookings state id empty, reply.Done)
    new_step state none room =
        let f : is_full state ≡ false = grind (arith, nat_tests) in
        rw (none, f) refl

    pub joined_ran : is_command (command.NewCustomer id) ≡ true → RanOn s s3 id 0 (command.NewCustomer id) reply.Done
    joined_ran range = record {
      kept = kept_both s s2 s3 (kept_both s s1 s2 t.kept w.kept) v.kept;
      untouched = tt;
      idle = tt;
      outcome = λ image state i h lacks.
          let i2 = v.kept.seen image i in
          let g = in_hand image state i2 h in
          let none = customer_missing (mem s image) (length image) [] state h.represents id lacks in
          outcome_of (mem s image) (mem s3 image) (length image) state (with_bookings state id empty)
          (command.NewCustomer id) reply.Done h range
          (new_step state none (some_left (mem s2 image) (length image) b state g.after))
          (joined image state i h lacks g).after;
    }

    pub items_stay_joined : ItemsStayOn s s3 id 0
    items_stay_joined = record {
      stay = λ image state state' i h lacks h' kind id'.
          let g = in_hand image state (v.kept.seen image i) h in
          let j = joined image state i h lacks g in
          let k = kind_number kind in
          let l = kind_small kind in
          ap (λ (z : Rows). block_at z id')
          (one_shape (mem s3 image) (length image) [] [] (with_bookings state id empty) state' j.after h'.represents k
          (omega arith)
          ∙ (j.tables k (omega arith) (omega arith) ∙ g.tables k (omega arith)));
    }

    put_here : (rs : Rows) → block_at (put_row rs id b) id ≡ b
    put_here rs =
        let e : nat_eq id id ≡ true = grind (arith, nat_tests) in
        at_put rs id b id ∙ ap (λ z. cond {A = ℕ} z b (block_at rs id)) e

    pub seated_at : HoldsState s → ∥ ((image : List ℕ) × RestsOn s3 image) ∥₁ → HasSeat s s3 id b
    seated_at has ws =
        let low : 16 ≤ b = some_le 16 b ws (λ x.
        let i1 = stood w.kept x.0 (stood v.kept x.0 x.1) in
        let h = has.under x.0 (stood t.kept x.0 i1) in
        omega (arith, (taking s s1 start b x.0 h.0 t i1.sees h.1).block.1.1)) in
        record {
          some = omega arith;
          inside = (low, omega (arith, t.room, w.kept.size, v.kept.size));
          at = λ image state state' i h lacks h'.
              let g = in_hand image state (v.kept.seen image i) h in
              let j = joined image state i h lacks g in
              ap (λ (z : Rows). block_at z id)
              (one_shape (mem s3 image) (length image) [] []
              (with_bookings state id empty) state' j.after h'.represents 3 (omega arith) ∙ j.table)
              ∙ put_here (g.after.parts.tables 3);
        }

-- what stays under every image
pub stay_on : (s s' : View) (id c : ℕ) → ItemsStay s s' → ItemsStayOn s s' id c
stay_on s s' id c stays = record {
  stay = λ image state state'
      i h at h' kind item. stays.stay image state state' i h h' kind item;
}
