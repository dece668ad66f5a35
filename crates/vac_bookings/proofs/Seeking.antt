-- The search for a key, over every memory that there may be.
use Rattle.std.proofs.Common.{◌≡◌, ◌≢◌, ℕ, ◌+◌, ◌<◌, ◌≤◌, ◌^◌, List, length, Option, Some, None, refl, ◌∙◌, arith}
use Rattle.std.proofs.lemmas.Bool.Decides.{nat_tests}
use Rattle.std.proofs.lemmas.Cmp.{ranked}
use Rattle.std.specs.declared.cmp.Ordering.{Ordering}
use Rattle.std.specs.declared.cmp.Ordering.TheVariants.{Less, Equal, Greater}
use Rattle.tx_memory.specs.Seen.{some_le}
use Rattle.tx_memory.specs.View.{View, Sees, Kept, Loaded}
use Rattle.tx_alloc.specs.Pointer.{pointer, IsWithin}
use Rattle.tx_alloc.specs.Rows.{Rows}
use Rattle.tx_alloc.specs.Steps.{mem, kept_none, kept_both, stood, at_start}
use Rattle.vac_bookings.specs.Bookings.{code_of, key_code, IsKey}
use Rattle.vac_bookings.specs.declared.key.Key.{Key}
use Rattle.vac_bookings.specs.declared.search.Spot.{Spot}
use Rattle.vac_bookings.specs.Lists.{IsListAt, HasList}
use Rattle.vac_bookings.specs.Search.{Compared, Sought, key_cmp}
use Rattle.vac_bookings.proofs.Reading.{Inside, inside, SomeImage}
use Rattle.vac_bookings.proofs.Spots.{Trail, Ended, Pointed, trail_at}

-- keys as numbers are ordered as keys
record Coded (k i k' i' : ℕ) (order : Ordering) : Type 0 where
  pub less : order ≡ Less → key_code k i < key_code k' i'
  pub same : order ≡ Equal → key_code k i ≡ key_code k' i'
  pub more : order ≡ Greater → key_code k' i' < key_code k i

coded : (k i k' i' : ℕ) (order : Ordering) → i < 2 ^ 32 → i' < 2 ^ 32 → order ≡ key_cmp k i k' i' →
    Coded k i k' i' order
coded k i k' i' order small small' e = grind (arith, nat_tests, ranked k k', ranked i i')

pub record Seeking (s0 s : View) (head key link low : ℕ) : Type 0 where
  pub kept : Kept s0 s
  pub writes : s.writes ≡ s0.writes
  pub lower : low ≤ key
  pub room : link < s.size
  pub trail : (image : List ℕ) (rs : Rows) → Sees s image → IsListAt (mem s0 image) (length image) head rs →
      Trail (mem s0 image) (length image) head link low key rs

pub seek_start : (s : View) (head key : ℕ) → HasList s head → Seeking s s head key head 0
seek_start s head key has = record {
  kept = kept_none s;
  writes = refl;
  lower = omega arith;
  room = has.room;
  trail = λ image rs seen h. record { rest = rs; linked = h.list.linked; same_link = refl; same_entry = refl };
}

abbrev pub spot : ℕ → ℕ → Option ℕ → Spot
spot link word entry = record { link = record { 0 = link }; word = word; entry = entry }

-- the word at the link was read
module _ (s0 s s1 : View) (head key link low p : ℕ) (k : Seeking s0 s head key link low) (l : Loaded s s1 link p) where
  at_word : (image : List ℕ) (rs : Rows) → Sees s1 image → IsListAt (mem s0 image) (length image) head rs →
      Pointed (mem s0 image) (length image) head link low key p rs
  at_word image rs seen h = trail_at (mem s0 image) (length image) head link low key p rs
      (k.trail image rs (l.kept.seen image seen) h) (at_start s0 s s1 link p k.writes l image seen)

  -- it leads to a block
  pub seek_in : HasList s0 head → p ≢ 0 → SomeImage s1 → Inside s1 p
  seek_in has ne ws = inside s1 p (omega (arith, has.small, k.kept.size, l.kept.size)) ws (λ w.
      let t = has.under w.0 (stood k.kept w.0 (stood l.kept w.0 w.1)) in
      ((at_word w.0 t.entries w.1.sees t.is).block ne).0)

  -- the search ends where it is known to
  ends : (s2 : View) (entry : Option ℕ) → Kept s1 s2 → s2.writes ≡ s1.writes → IsWithin s2 entry →
      ((image : List ℕ) (rs : Rows) → Sees s2 image → IsListAt (mem s0 image) (length image) head rs →
      Ended head link (pointer entry) key rs) → Sought s0 s2 head key (spot link p entry)
  ends s2 entry kept writes within ended = record {
    kept = kept_both s0 s s2 k.kept (kept_both s s1 s2 l.kept kept);
    writes = writes ∙ (l.writes ∙ k.writes);
    room = omega (arith, k.room, l.kept.size, kept.size);
    within = within;
    link = λ image rs seen h. (ended image rs seen h).link_is;
    word = λ image seen. at_start s0 s s1 link p k.writes l image (kept.seen image seen);
    entry = λ image rs seen h. (ended image rs seen h).entry_is;
  }

  -- the list ends here
  pub seek_end : p ≡ 0 → Sought s0 s1 head key (spot link p None)
  seek_end z = ends s1 None (kept_none s1) refl tt (λ image rs seen h. (at_word image rs seen h).none z)

-- and the key of its block was compared
module _ (s0 s s1 s2 : View) (head : ℕ) (key : Key) (link low p : ℕ) (order : Ordering) (is_key : IsKey key)
    (k : Seeking s0 s head (code_of key) link low) (has : HasList s0 head) (l : Loaded s s1 link p)
    (r : Compared s1 s2 p key order) (ne : p ≢ 0) where
  here : (image : List ℕ) (rs : Rows) → Sees s2 image → IsListAt (mem s0 image) (length image) head rs →
      Pointed (mem s0 image) (length image) head link low (code_of key) p rs ×
      Coded (mem s0 image (p + 0)) (mem s0 image (p + 1)) key.kind key.id order
  here image rs seen h =
      let t = at_word s0 s s1 head (code_of key) link low p k l image rs (r.kept.seen image seen) h in (
        t,
        coded (mem s0 image (p + 0)) (mem s0 image (p + 1)) key.kind key.id order (t.block ne).1.1 is_key.1
            (rw (l.writes ∙ k.writes) at (r.is image seen)),
      )

  -- a block that is passed has a lower key
  pub seek_below : order ≡ Less → SomeImage s2 → low + 1 ≤ code_of key
  seek_below less ws = some_le (low + 1) (code_of key) ws (λ w.
      let t = has.under w.0 (stood k.kept w.0 (stood l.kept w.0 (stood r.kept w.0 w.1))) in
      let a = here w.0 t.entries w.1.sees t.is in
      omega (arith, (a.0.block ne).1.0, a.1.less less))

  pub seek_here : SomeImage s1 → order ≡ Equal → Sought s0 s2 head (code_of key) (spot link p (Some p))
  seek_here ws same =
      let i = seek_in s0 s s1 head (code_of key) link low p k l has ne ws in
      ends s0 s s1 head (code_of key) link low p k l s2 (Some p) r.kept r.writes
      (i.low, omega (arith, i.room, r.kept.size))
      (λ image rs seen h. let a = here image rs seen h in a.0.here ne (a.1.same same))

  pub seek_past : order ≡ Greater → Sought s0 s2 head (code_of key) (spot link p None)
  seek_past later = ends s0 s s1 head (code_of key) link low p k l s2 None r.kept r.writes tt
      (λ image rs seen h. let a = here image rs seen h in a.0.past ne (a.1.more later))

  pub seek_step : SomeImage s1 → order ≡ Less → SomeImage s2 → Seeking s0 s2 head (code_of key) (p + 3) (low + 1)
  seek_step ws earlier ws' = record {
    kept = kept_both s0 s s2 k.kept (kept_both s s1 s2 l.kept r.kept);
    writes = r.writes ∙ (l.writes ∙ k.writes);
    lower = seek_below earlier ws';
    room = let i = seek_in s0 s s1 head (code_of key) link low p k l has ne ws in omega (arith, i.room, r.kept.size);
    trail = λ image rs seen h. let a = here image rs seen h in a.0.step ne (a.1.less earlier);
  }
