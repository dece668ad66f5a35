-- Links from which the search for a later booking may start, after a command on bookings.
use Rattle.std.proofs.Common.{◌≡◌, ◌≢◌, ℕ, ◌+◌, ◌<◌, ◌≤◌, List, [], ◌∷◌, length, refl, sym, ap, ◌∙◌, subst, arith}
use Rattle.std.proofs.lemmas.Bool.Decides.{nat_tests}
use Rattle.tx_memory.specs.View.{View, Words, Sees, memory}
use Rattle.vac_model.specs.declared.items.Kind.{Kind}
use Rattle.vac_model.specs.declared.commands.Command.{Command}
use Rattle.vac_model.specs.declared.replies.Reply.{Reply}
use Rattle.vac_model.specs.State.{State, Place}
use Rattle.tx_alloc.specs.Rows.{Rows, block_at}
use Rattle.vac_bookings.specs.Bookings.{link_to_key}
use Rattle.vac_bookings.specs.declared.search.Spot.{Spot}
use Rattle.vac_bookings.specs.Lists.{IsListAt, HasList}
use Rattle.vac_bookings.specs.Search.{Sought, SpotAt}
use Rattle.vac_bookings.proofs.Spots.{sought_spot}
use Rattle.vac_records.specs.Items.{mem}
use Rattle.vac_records.specs.Bookings.{place_key}
use Rattle.vac_records.specs.Customers.{head_of}
use Rattle.vac_records.specs.Represents.{IsState}
use Rattle.vac_records.specs.InMemory.{HoldsState, OnlyRead}
use Rattle.vac_records.specs.Laws.{IsBookingAt}
use Rattle.vac_records.specs.Steps.{stood}
use Rattle.vac_records.proofs.Keyed.{row_at, row_times}
use Rattle.vac_tasks.specs.Entries.{CustomerIsAt, customer_block}
use Rattle.vac_tasks.specs.BookingSteps.{Here, AtBooking, HasSpot, ServesCommand}
use Rattle.vac_tasks.specs.Starts.{MayStart, AtStart, HasStart, LeavesStart, LeavesBooking}
use Rattle.vac_tasks.proofs.Owners.{its_list, owner_list, spot_same}
use Rattle.vac_tasks.proofs.Serving.{customer_lands}
use Rattle.vac_tasks.proofs.Starting.{begun_at, list_begun, spot_begun, start_later, start_behind}
use Rattle.vac_tasks.proofs.Listed.{list_after}

-- a search may start at the head
first_link : (l : ℕ) (rs : Rows) → l ≡ link_to_key l rs 0
first_link l [] = refl
first_link l ((j, a) ∷ rs) = grind (arith, nat_tests)

pub start_head : (head key : ℕ) (rs : Rows) → MayStart head head key rs
start_head head key rs = record { low = 0; early = omega arith; is = first_link head rs }

pub has_head : (s : View) (customer owner key : ℕ) → CustomerIsAt s customer owner →
    HasStart s owner (head_of owner) key
has_head s customer owner key c = record {
  room = omega (arith, c.inside.1);
  at = λ image state i h. start_head (head_of owner) key (h.represents.parts.lists owner);
}

-- what holds before reads holds after them
start_same : (s s' : View) (image : List ℕ) (state : State) (owner link key : ℕ) → s'.writes ≡ s.writes →
    ((h : IsState (mem s image) (length image) state) →
    MayStart (head_of owner) link key (h.represents.parts.lists owner)) →
    (h : IsState (mem s' image) (length image) state) →
    MayStart (head_of owner) link key (h.represents.parts.lists owner)
start_same s s' image state owner link key w f =
    subst (λ (ws : Words). (h : IsState (memory image ws) (length image) state) →
    MayStart (head_of owner) link key (h.represents.parts.lists owner)) (sym w) f

pub start_is_on : (s s' : View) (owner link key : ℕ) → OnlyRead s s' → HasStart s owner link key →
    HasStart s' owner link key
start_is_on s s' owner link key r t = record {
  room = omega (arith, t.room, r.kept.size);
  at = λ image state i. start_same s s' image state owner link key r.writes
      (t.at image state (stood r.kept image i));
}

-- the link leads to a list
pub start_held : (s : View) (customer owner link key : ℕ) → HoldsState s → CustomerIsAt s customer owner →
    HasStart s owner link key → HasList s link
start_held s customer owner link key has c t = record {
  small = has.small;
  room = t.room;
  under = λ image i.
      let o = has.under image i in
      let rows = o.1.represents.parts.lists owner in
      let l = owner_list (mem s image) (length image) o.0 o.1 customer owner (c.at image o.0 i o.1) c.some in
      let b = begun_at (mem s image) (length image) (head_of owner) link key rows l (t.at image o.0 i o.1) in
      record {
        entries = b.rest;
        is = list_begun (mem s image) (length image) (head_of owner) link key rows l b;
      };
}

-- the spot that a search from the link came to
spot_from : (s s' : View) (image : List ℕ) (state : State) (h : IsState (mem s image) (length image) state)
    (owner link : ℕ) (place : Place) (spot : Spot) → Sought s s' link (place_key place) spot → Sees s' image →
    IsListAt (mem s image) (length image) (head_of owner) (h.represents.parts.lists owner) →
    MayStart (head_of owner) link (place_key place) (h.represents.parts.lists owner) →
    SpotAt (mem s image) (head_of owner) (place_key place) spot (h.represents.parts.lists owner)
spot_from s s' image state h owner link place spot f i l t =
    let m = mem s image in
    let n = length image in
    let rows = h.represents.parts.lists owner in
    let b = begun_at m n (head_of owner) link (place_key place) rows l t in
    spot_begun m n (head_of owner) link (place_key place) spot rows b
    (sought_spot s s' link (place_key place) spot f image b.rest i
    (list_begun m n (head_of owner) link (place_key place) rows l b))

pub spot_started : (s s2 s3 : View) (customer owner : ℕ) (kind : Kind) (id item link : ℕ) (spot : Spot) →
    OnlyRead s s2 → Sought s2 s3 link (place_key (kind, id)) spot →
    (image : List ℕ) (state : State) → Sees s3 image → (h : IsState (mem s image) (length image) state) →
    AtStart customer owner kind id item link (mem s image) (length image) state h →
    SpotAt (mem s image) (head_of owner) (place_key (kind, id)) spot (h.represents.parts.lists owner)
spot_started s s2 s3 customer owner kind id item link spot r f image state i h p =
    let l = its_list (mem s image) (length image) state h customer owner kind id item p.here in
    subst (λ (ws : Words). (h : IsState (memory image ws) (length image) state) →
    IsListAt (memory image ws) (length image) (head_of owner) (h.represents.parts.lists owner) →
    MayStart (head_of owner) link (place_key (kind, id)) (h.represents.parts.lists owner) →
    SpotAt (memory image ws) (head_of owner) (place_key (kind, id)) spot (h.represents.parts.lists owner)) r.writes
    (λ h l t. spot_from s2 s3 image state h owner link (kind, id) spot f i l t) h l p.start

pub spot_begins : (s s' : View) (customer owner : ℕ) (place : Place) (link : ℕ) (spot : Spot) →
    CustomerIsAt s customer owner → HasStart s owner link (place_key place) →
    Sought s s' link (place_key place) spot → HasSpot s' owner place spot
spot_begins s s' customer owner place link spot c t f = record {
  room = f.room;
  within = f.within;
  at = λ image state i. spot_same s s' image state owner place spot f.writes (λ h.
      let i0 = stood f.kept image i in
      spot_from s s' image state h owner link place spot f i.sees
      (owner_list (mem s image) (length image) state h customer owner (c.at image state i0 h) c.some)
      (t.at image state i0 h));
}

-- the states of one memory have the same lists
pub lists_one : (m : ℕ → ℕ) (n : ℕ) (s s' : State) (h : IsState m n s) (h' : IsState m n s') (customer owner : ℕ) →
    customer_block h customer ≡ owner → owner ≢ 0 →
    h'.represents.parts.lists owner ≡ h.represents.parts.lists owner
lists_one m n s s' h h' customer owner is some =
    let p = h.represents.parts in
    let there = row_times customer owner (p.tables 3) (row_at customer owner (p.tables 3) is some) in
    list_after m n s s' h.represents h'.represents owner (p.lists owner) there (h.represents.heap.lists owner there)

-- after reads alone a search for a later booking may start at the same link
pub start_reads : (s s' : View) (customer owner : ℕ) (kind : Kind) (id item link : ℕ) → link < s.size → OnlyRead s s' →
    LeavesStart s s' owner link (place_key (kind, id) + 1) (AtStart customer owner kind id item link)
start_reads s s' customer owner kind id item link room r = record {
  room = omega (arith, room, r.kept.size);
  at = λ image state state' i h p. start_same s s' image state' owner link (place_key (kind, id) + 1) r.writes (λ h'.
      let e = lists_one (mem s image) (length image) state state' h h' customer owner p.here.owner_is
      p.here.owner_some in
      subst (λ (rs : Rows). MayStart (head_of owner) link (place_key (kind, id) + 1) rs) (sym e)
      (start_later (head_of owner) link (place_key (kind, id)) (place_key (kind, id) + 1)
      (h.represents.parts.lists owner) (omega arith) p.start));
}

-- and the booking is in the same block
pub booking_reads : (s s' : View) (customer owner : ℕ) (kind : Kind) (id item b : ℕ) → b ≢ 0 → b + 8 ≤ s.size →
    OnlyRead s s' → LeavesBooking s s' owner (kind, id) b (AtBooking customer owner kind id item b)
booking_reads s s' customer owner kind id item b some room r = record {
  room = omega (arith, room, r.kept.size);
  at = λ image state state' i h p. subst (λ (ws : Words). (h' : IsState (memory image ws) (length image) state') →
      IsBookingAt h'.represents owner (kind, id) b) (sym r.writes) (λ h'.
      let e = lists_one (mem s image) (length image) state state' h h' customer owner p.here.owner_is
      p.here.owner_some in
      record {
        small = p.here.small;
        at = ap (λ (rs : Rows). block_at rs (place_key (kind, id))) e ∙ p.is;
        some = some;
      });
}

-- a search for a later booking may start behind the booking
pub start_past : (s s' : View) (customer owner : ℕ) (kind : Kind) (id item b : ℕ) (c : Command) (r : Reply)
    (P : (m : ℕ → ℕ) (n : ℕ) (state : State) → IsState m n state → Type 0) → ServesCommand s s' c r P →
    LeavesBooking s s' owner (kind, id) b P →
    ((image : List ℕ) (state : State) → (h : IsState (mem s image) (length image) state) →
    P (mem s image) (length image) state h → Here h customer owner kind id item) →
    LeavesStart s s' owner (b + 3) (place_key (kind, id) + 1) P
start_past s s' customer owner kind id item b c r P v k here = record {
  room = omega (arith, k.room);
  at = λ image state state' i h p h'.
      let m' = mem s' image in
      let n = length image in
      let e = here image state h p in
      let g = k.at image state state' i h p h' in
      let still : customer_block h' customer ≡ owner =
      customer_lands (mem s image) m' n state state' c r h h' (v.lands image state i h p) customer ∙ e.owner_is in
      let rows = h'.represents.parts.lists owner in
      start_behind m' n (head_of owner) (place_key (kind, id)) b rows
      (owner_list m' n state' h' customer owner still e.owner_some) g.at g.some;
}

-- a command that ran after reads
pub start_after : (s s1 s' : View) (owner link key : ℕ) (P : (m : ℕ → ℕ) (n : ℕ) (state : State) → IsState m n state →
    Type 0) → OnlyRead s s1 → LeavesStart s1 s' owner link key P → LeavesStart s s' owner link key P
start_after s s1 s' owner link key P k v = record {
  room = v.room;
  at = λ image state state' i. subst (λ (z : Words). (h : IsState (memory image z) (length image) state) →
      P (memory image z) (length image) state h → (h' : IsState (mem s' image) (length image) state') →
      MayStart (head_of owner) link key (h'.represents.parts.lists owner)) k.writes (v.at image state state' i);
}

-- less is asked where more follows
pub start_where : (s s' : View) (owner link key : ℕ) (P Q : (m : ℕ → ℕ) (n : ℕ) (state : State) → IsState m n state →
    Type 0) → LeavesStart s s' owner link key Q →
    ((image : List ℕ) (state : State) → Sees s' image → (h : IsState (mem s image) (length image) state) →
    P (mem s image) (length image) state h → Q (mem s image) (length image) state h) → LeavesStart s s' owner link key P
start_where s s' owner link key P Q v more = record {
  room = v.room;
  at = λ image state state' i h p h'. v.at image state state' i h (more image state i h p) h';
}
