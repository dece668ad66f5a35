-- An insertion over every memory that there may be.
use Rattle.std.proofs.lemmas.Bool.Decides.{nat_tests}
use Rattle.std.proofs.Common.{◌≡◌, ◌≢◌, ℕ, ◌+◌, ◌-◌, ◌%◌, ◌<◌, ◌≤◌, Bool, true, false, List, length, slice_index, refl}
use Rattle.std.proofs.Common.{sym, ap, ◌∙◌, arith}
use Rattle.tx_memory.specs.Seen.{some_le}
use Rattle.tx_memory.specs.View.{View, Sees, RestsOn, Kept, Stored, IsWrite}
use Rattle.tx_alloc.specs.Steps.{mem, kept_none, kept_both, stood, at_start, write_at_start}
use Rattle.tx_tree.specs.Tree.{Tree, node, rows}
use Rattle.tx_tree.specs.Way.{Way, plug}
use Rattle.tx_tree.specs.Steps.{Reached, Coloured}
use Rattle.tx_tree.specs.Mending.{Raising, Rotated, HasWay, IsMended, RaisedAt, HasRaised, Settled, NeedsTurn}
use Rattle.tx_tree.proofs.Writes.{touches_none, touches_both}
use Rattle.tx_tree.proofs.Ways.{way_node}
use Rattle.tx_tree.proofs.Ending.{ends_sound, ends_after}
use Rattle.tx_tree.proofs.Raised.{sound_black, sound_one, ends_top, RaisedNow, flipped, turn_same, turn_other}

pub record Settling (s0 s : View) (xs : List ℕ) (d0 b0 d b : ℕ) : Type 0 where
  pub kept : Kept s0 s
  pub deep : d < 40
  pub goes : (image : List ℕ) → Sees s image → (root : ℕ) (total : ℕ → ℕ) (w : Way) (l : Tree) (k : ℕ) (o : Tree)
      (h : ℕ) → RaisedAt (mem s0 image) (length image) root total xs d0 b0 w l k o h →
      RaisedNow (mem s0 image) (mem s image) (length image) root total xs d b (rows (plug w (node true l (k, b0) o)))

pub settle_start : (s : View) (xs : List ℕ) (d b : ℕ) → HasRaised s xs d b → Settling s s xs d b d b
settle_start s xs d b h = grind (arith, nat_tests, kept_none s, touches_none)

pub raised_now : (s0 s : View) (xs : List ℕ) (d0 b0 d b : ℕ) → HasRaised s0 xs d0 b0 → Settling s0 s xs d0 b0 d b →
    HasRaised s xs d b
raised_now s0 s xs d0 b0 d b h t = record {
  small = omega (arith, h.small, t.kept.size);
  room = omega (arith, h.room, t.kept.size);
  size = h.size;
  deep = t.deep;
  under = λ image i.
      let a = h.under image (stood t.kept image i) in
      let r = t.goes image i.sees a.root a.total a.way a.left a.key a.right a.blacks a.at in
      record {
        root = a.root;
        total = a.total;
        way = r.way;
        left = r.left;
        key = r.key;
        right = r.right;
        blacks = r.blacks;
        at = r.at;
      };
}

pub raised_along : (s s' : View) (xs : List ℕ) (d b : ℕ) → Kept s s' → s'.writes ≡ s.writes → HasRaised s xs d b →
    HasRaised s' xs d b
raised_along s s' xs d b k w h = grind (arith, nat_tests, stood k)

pub raised_way : (s : View) (xs : List ℕ) (d b : ℕ) → HasRaised s xs d b → HasWay s xs d
raised_way s xs d b h = grind (arith, nat_tests)

pub raised_room : (s : View) (xs : List ℕ) (d b : ℕ) → HasRaised s xs d b → ∥ ((image : List ℕ) × RestsOn s image) ∥₁ →
    b + 8 ≤ s.size
raised_room s xs d b h ws = grind (arith, nat_tests, some_le (b + 8) s.size ws)

-- the node above is black
pub settled_black : (s0 s s1 : View) (xs : List ℕ) (d0 b0 d b : ℕ) (red : Bool) → HasRaised s0 xs d0 b0 →
    Settling s0 s xs d0 b0 d b → 1 ≤ d → Coloured s s1 (slice_index xs d - slice_index xs d % 8) red → red ≡ false →
    ∥ ((image : List ℕ) × RestsOn s image) ∥₁ → Settled s0 s1 xs d0 b0
settled_black s0 s s1 xs d0 b0 d b red has t one c e ws =
    let n = way_node s xs d (raised_way s xs d b (raised_now s0 s xs d0 b0 d b has t)) one ws in
    record {
      kept = kept_both s0 s s1 t.kept c.kept;
      ends = λ image i root total w l k o h r.
          let i' = c.kept.seen image i in
          let r' = t.goes image i' root total w l k o h r in
          let black : mem s image (slice_index xs d - slice_index xs d % 8 + 3) ≢ 1 =
          c.is_none e (omega arith) image i in
          let sound = sound_black (mem s image) (length image) root total xs d b r'.way r'.left r'.key r'.right
          r'.blacks r'.at one black in
          rw c.writes (ends_sound (mem s0 image) (mem s image) (length image) root total r'.way
          (node true r'.left (r'.key, b) r'.right) r'.blacks
          (rows (plug w (node true l (k, b0) o))) r'.at.zip sound r'.is r'.touches);
    }

pub settled_one : (s0 s : View) (xs : List ℕ) (d0 b0 d b : ℕ) → Settling s0 s xs d0 b0 d b → d ≡ 1 →
    Settled s0 s xs d0 b0
settled_one s0 s xs d0 b0 d b t one = record {
  kept = t.kept;
  ends = λ image i root total w l k o h r.
      let r' = t.goes image i root total w l k o h r in
      let sound = sound_one (mem s image) (length image) root total xs d b r'.way r'.left r'.key r'.right r'.blacks
      r'.at one in
      ends_sound (mem s0 image) (mem s image) (length image) root total r'.way
      (node true r'.left (r'.key, b) r'.right) r'.blacks
      (rows (plug w (node true l (k, b0) o))) r'.at.zip sound r'.is r'.touches;
}

pub settled_top : (s0 s s1 : View) (xs : List ℕ) (d0 b0 d b : ℕ) → Settling s0 s xs d0 b0 d b → d ≡ 0 →
    Stored s s1 (b + 3) 0 → Settled s0 s1 xs d0 b0
settled_top s0 s s1 xs d0 b0 d b t none write = record {
  kept = kept_both s0 s s1 t.kept write.kept;
  ends = λ image i root total w l k o h r.
      let r' = t.goes image (write.kept.seen image i) root total w l k o h r in
      ends_after (mem s0 image) (mem s image) (mem s1 image) (length image) root total _ _ r'.touches r'.is
      (ends_top (mem s image) (mem s1 image) (length image) root total xs d b r'.way r'.left r'.key r'.right
      r'.blacks r'.at none (write.written image));
}

pub settled_turn : (s0 s s3 s4 : View) (xs : List ℕ) (d0 b0 d b : ℕ) → Settling s0 s xs d0 b0 d b → Kept s s3 →
    s3.writes ≡ s.writes → Settled s3 s4 xs d b → Settled s0 s4 xs d0 b0
settled_turn s0 s s3 s4 xs d0 b0 d b t k e f = record {
  kept = kept_both s0 s s4 t.kept (kept_both s s3 s4 k f.kept);
  ends = λ image i root total w l k' o h r.
      let i' = k.seen image (f.kept.seen image i) in
      let r' = t.goes image i' root total w l k' o h r in
      let at : RaisedAt (mem s3 image) (length image) root total xs d b r'.way r'.left r'.key r'.right r'.blacks =
      rw e r'.at in
      let ends : IsMended (mem s image) (mem s4 image) (length image) root total
      (rows (plug r'.way (node true r'.left (r'.key, b) r'.right))) =
      rw e at (f.ends image i root total r'.way r'.left r'.key r'.right r'.blacks at) in
      ends_after (mem s0 image) (mem s image) (mem s4 image) (length image) root total _ _ r'.touches r'.is ends;
}

-- the node above, and the one beside that, are red
pub record Reds (s s3 : View) (xs : List ℕ) (d u : ℕ) : Type 0 where
  pub kept : Kept s s3
  pub writes : s3.writes ≡ s.writes
  pub some : u ≢ 0
  pub parent : (image : List ℕ) → Sees s3 image → mem s image (slice_index xs d - slice_index xs d % 8 + 3) ≡ 1
  pub uncle_at : (image : List ℕ) → Sees s3 image → mem s image
      (slice_index xs (d - 1) - slice_index xs (d - 1) % 8 + (3 - slice_index xs (d - 1) % 8)) ≡ u
  pub uncle : (image : List ℕ) → Sees s3 image → mem s image (u + 3) ≡ 1

pub reds : (s s1 s2 s3 : View) (xs : List ℕ) (d u : ℕ) (red red' : Bool) →
    Coloured s s1 (slice_index xs d - slice_index xs d % 8) red → red ≡ true →
    Reached s1 s2 (slice_index xs (d - 1) - slice_index xs (d - 1) % 8 + (3 - slice_index xs (d - 1) % 8)) u →
    Coloured s2 s3 u red' → red' ≡ true → Reds s s3 xs d u
reds s s1 s2 s3 xs d u red red' c e r c' e' = grind (
  arith,
  nat_tests,
  kept_both s s2 s3 (kept_both s s1 s2 c.kept r.loaded.kept) c'.kept,
  kept_both s s1 s2 c.kept r.loaded.kept,
  c'.there e',
  c.is_one e,
  at_start s s1 s2,
  c'.is_one e',
)

pub settle_step : (s0 s s3 s4 s5 s6 : View) (xs : List ℕ) (d0 b0 d b u : ℕ) → Settling s0 s xs d0 b0 d b → 2 ≤ d →
    Reds s s3 xs d u → Stored s3 s4 (slice_index xs d - slice_index xs d % 8 + 3) 0 → Stored s4 s5 (u + 3) 0 →
    Stored s5 s6 (slice_index xs (d - 1) - slice_index xs (d - 1) % 8 + 3) 1 →
    Settling s0 s6 xs d0 b0 (d - 2) (slice_index xs (d - 1) - slice_index xs (d - 1) % 8)
settle_step s0 s s3 s4 s5 s6 xs d0 b0 d b u t two r w1 w2 w3 = record {
  kept = kept_both s0 s3 s6 (kept_both s0 s s3 t.kept r.kept)
      (kept_both s3 s4 s6 w1.kept (kept_both s4 s5 s6 w2.kept w3.kept));
  deep = omega (arith, t.deep);
  goes = λ image i root total w l k o h at.
      let i5 = w3.kept.seen image i in let i4 = w2.kept.seen image i5 in let i3 = w1.kept.seen image i4 in
      let a = t.goes image (r.kept.seen image i3) root total w l k o h at in
      let first : IsWrite (mem s image) (mem s4 image) (slice_index xs d - slice_index xs d % 8 + 3) 0 =
      write_at_start s s3 s4 _ 0 r.writes w1 image i4 in
      let f = flipped (mem s image) (mem s4 image) (mem s5 image) (mem s6 image)
      (length image) root total xs d b u a.way a.left a.key a.right a.blacks a.at two (r.parent image i3)
      (r.uncle_at image i3) r.some (r.uncle image i3) first (w2.written image) (w3.written image) in
      record {
        way = f.way;
        left = f.left;
        key = f.key;
        right = f.right;
        blacks = f.blacks;
        at = f.at;
        is = f.is ∙ a.is;
        touches =
            touches_both (mem s0 image) (mem s image) (mem s6 image) root total a.touches f.touches;
      };
}

pub needs_turn : (s s1 s2 s3 : View) (xs : List ℕ) (d u : ℕ) (red red' : Bool) →
    Coloured s s1 (slice_index xs d - slice_index xs d % 8) red → red ≡ true →
    Reached s1 s2 (slice_index xs (d - 1) - slice_index xs (d - 1) % 8 + (3 - slice_index xs (d - 1) % 8)) u →
    Coloured s2 s3 u red' → red' ≡ false → NeedsTurn s3 xs d
needs_turn s s1 s2 s3 xs d u red red' c e r c' e' = grind (arith, nat_tests, c.is_one e)

pub turned_same : (s s1 : View) (xs : List ℕ) (d b : ℕ) → NeedsTurn s xs d → 2 ≤ d →
    slice_index xs d % 8 ≡ slice_index xs (d - 1) % 8 → Raising s s1 (slice_index xs (d - 2))
    (slice_index xs (d - 1) - slice_index xs (d - 1) % 8) (slice_index xs d - slice_index xs d % 8)
    (slice_index xs (d - 1) % 8) 0 1 → Settled s s1 xs d b
turned_same s s1 xs d b needs two same r = record {
  kept = r.kept;
  ends = λ image i root total w l k o h at. turn_same (mem s image) (mem s1 image)
      (length image) root total xs d b w l k o h at two (needs.under image (r.kept.seen image i)) same
      (r.rising image i);
}

pub turned_other : (s s1 s2 : View) (xs : List ℕ) (d b : ℕ) → NeedsTurn s xs d → 2 ≤ d →
    slice_index xs d % 8 ≢ slice_index xs (d - 1) % 8 → Rotated s s1 (slice_index xs (d - 1))
    (slice_index xs d - slice_index xs d % 8) b (slice_index xs d % 8)
    → Raising s1 s2 (slice_index xs (d - 2)) (slice_index xs (d - 1) - slice_index xs (d - 1) % 8) b
    (slice_index xs (d - 1) % 8) 0 1 → Settled s s2 xs d b
turned_other s s1 s2 xs d b needs two other t r = record {
  kept = kept_both s s1 s2 t.kept r.kept;
  ends = λ image i root total w l k o h at.
      let i1 = r.kept.seen image i in
      turn_other (mem s image) (mem s1 image) (mem s2 image) (length image) root total xs d b w l k o h at two
      (needs.under image (t.kept.seen image i1)) other (t.turning image i1) (r.rising image i);
}
