-- Words that are raised and lowered, and the numbers of an item.
use Rattle.std.proofs.Common.{◌≡◌, ◌≢◌, inl, inr, ℕ, ◌+◌, ◌-◌, ◌<◌, ◌≤◌, ◌^◌, List, sym, ap, ◌∙◌, subst, arith}
use Rattle.std.proofs.lemmas.Bool.{cases_lt}
use Rattle.std.proofs.lemmas.Grind.{not_there}
use Rattle.tx_memory.specs.Seen.{some_le}
use Rattle.tx_memory.specs.View.{View, Sees, RestsOn, Loaded, Stored, IsWrite}
use Rattle.vac_model.specs.declared.items.Item.{Item}
use Rattle.vac_model.specs.Step.{deleted, taken, given_back, added}
use Rattle.std.specs.Prelude.{None}
use Rattle.vac_records.specs.Items.{mem, item_in, RoomAt, EnoughAt, Shifted, HasMore, UnitsAdded, IsItemNow}
use Rattle.vac_records.specs.Items.{ItemChanged, ItemChangedOf}
use Rattle.vac_records.specs.Steps.{kept_both, stood, write_at_start}

-- a sum that fits under some image fits
pub some_lt : {W : Type 0} (a b : ℕ) → ∥ W ∥₁ → (W → a < b) → a < b
some_lt a b w f = elim (cases_lt a b) [
  | inl less ↦ less
  | inr le ↦
      absurd (not_there w (λ x. absurd (omega (arith, f x))))
]

pub room_fits : (s s1 : View) (a by v : ℕ) → RoomAt s a by → Loaded s s1 a v →
    ∥ ((image : List ℕ) × RestsOn s1 image) ∥₁ → v + by < 2 ^ 64
room_fits s s1 a by v room l ws = some_lt (v + by) (2 ^ 64) ws (λ w.
    omega (arith, room.fits w.0 (stood l.kept w.0 w.1), l.answer w.0 w.1.sees))

pub enough_fits : (s s1 : View) (a by v : ℕ) → EnoughAt s a by → Loaded s s1 a v →
    ∥ ((image : List ℕ) × RestsOn s1 image) ∥₁ → by ≤ v
enough_fits s s1 a by v enough l ws = some_le by v ws (λ w.
    omega (arith, enough.enough w.0 (stood l.kept w.0 w.1), l.answer w.0 w.1.sees))

pub shifted : (s s1 s2 : View) (a v : ℕ) (f : ℕ → ℕ) → Loaded s s1 a v → Stored s1 s2 a (f v) → Shifted s s2 a f
shifted s s1 s2 a v f l w = record {
  kept = kept_both s s1 s2 l.kept w.kept;
  shifted = λ image i.
      let e = l.answer image (w.kept.seen image i) in
      subst (λ (x : ℕ). IsWrite (mem s image) (mem s2 image) a (f x)) (sym e)
      (write_at_start s s1 s2 a (f v) l.writes w image i);
}

-- another word keeps its room
pub room_kept : (s s1 : View) (a b by : ℕ) (f : ℕ → ℕ) → Shifted s s1 a f → b ≢ a → RoomAt s b by → RoomAt s1 b by
room_kept s s1 a b by f w ne room = record {
  fits = λ image i. omega (
    arith,
    (w.shifted image i.sees).others b ne,
    room.fits image (stood w.kept image i),
  );
}

pub enough_kept : (s s1 : View) (a b by : ℕ) (f : ℕ → ℕ) → Shifted s s1 a f → b ≢ a → EnoughAt s b by → EnoughAt s1 b by
enough_kept s s1 a b by f w ne enough = record {
  enough = λ image i. omega (
    arith,
    (w.shifted image i.sees).others b ne,
    enough.enough image (stood w.kept image i),
  );
}

-- two words were changed
pub record TwoWords (m m' : ℕ → ℕ) (a b : ℕ) (f g : ℕ → ℕ) : Type 0 where
  pub first : m' a ≡ f (m a)
  pub second : m' b ≡ g (m b)
  pub others : (x : ℕ) → x ≢ a → x ≢ b → m' x ≡ m x

two_writes : (m m1 m2 : ℕ → ℕ) (a b : ℕ) (f g : ℕ → ℕ) → IsWrite m m1 a (f (m a)) → IsWrite m1 m2 b (g (m1 b)) → a ≢ b →
    TwoWords m m2 a b f g
two_writes m m1 m2 a b f g one two ne = record {
  first = two.others a ne ∙ one.here;
  second = two.here ∙ ap g (one.others b (λ q. ne (sym q)));
  others = λ x na nb. two.others x nb ∙ one.others x na;
}

pub two_words : (s s1 s2 : View) (a b : ℕ) (f g : ℕ → ℕ) → Shifted s s1 a f → Shifted s1 s2 b g → a ≢ b →
    (image : List ℕ) → Sees s2 image → TwoWords (mem s image) (mem s2 image) a b f g
two_words s s1 s2 a b f g w w' ne image i =
    two_writes (mem s image) (mem s1 image) (mem s2 image) a b f g (w.shifted image (w'.kept.seen image i))
    (w'.shifted image i) ne

pub more_units : (s s1 s2 : View) (node num a b : ℕ) → a ≡ node + 5 → b ≡ node + 6 → Shifted s s1 a (λ v. v + num) →
    Shifted s1 s2 b (λ v. v + num) → UnitsAdded s s2 node num
more_units s s1 s2 node num a b p q w w' = record {
  kept = kept_both s s1 s2 w.kept w'.kept;
  added = λ image i.
      let t = two_words s s1 s2 a b (λ v. v + num) (λ v. v + num) w w' (omega arith) image i in
      record {
        free_is = rw p at t.first;
        total_is = rw q at t.second;
        others = λ x na nb. t.others x (λ e. na (e ∙ p)) (λ e. nb (e ∙ q));
      };
}

-- an item whose numbers are these, and whose other words are as before
item_now : (m m' : ℕ → ℕ) (node a b : ℕ) (f g : ℕ → ℕ) (item : Item) → TwoWords m m' a b f g → (node + 4 ≤ a) →
    (a < node + 8) → (node + 4 ≤ b) → (b < node + 8) → item_in m' node ≡ item → IsItemNow m m' node item
item_now m m' node a b f g item t la ua lb ub e = record {
  is = e;
  others = λ x out. t.others x
      (λ q. elim out [ inl low ↦ absurd (omega arith) | inr high ↦ absurd (omega arith) ])
      (λ q. elim out [ inl low ↦ absurd (omega arith) | inr high ↦ absurd (omega arith) ]);
}

pub fewer_units : (s s1 s2 : View) (node num a b : ℕ) → a ≡ node + 5 → b ≡ node + 6 → Shifted s s1 a (λ v. v - num) →
    Shifted s1 s2 b (λ v. v - num) → ItemChanged s s2 node (λ item. deleted item num)
fewer_units s s1 s2 node num a b p q w w' = record {
  kept = kept_both s s1 s2 w.kept w'.kept;
  changed = λ image i.
      let t = two_words s s1 s2 a b (λ v. v - num) (λ v. v - num) w w' (omega arith) image i in
      let used = t.others (node + 4) (omega arith) (omega arith) in
      let free = rw p at t.first in
      let total = rw q at t.second in
      let price = t.others (node + 7) (omega arith) (omega arith) in
      item_now (mem s image) (mem s2 image) node a b (λ v. v - num) (λ v. v - num)
      (deleted (item_in (mem s image) node) num) t (omega arith) (omega arith) (omega arith) (omega arith)
      (λ j. record { used = used j; free = free j; total = total j; price = price j });
}

-- a word that was read before was written anew
pub units_made : (s s1 s2 : View) (node num free a b : ℕ) → a ≡ node + 4 → b ≡ node + 5 →
    Shifted s s1 a (λ v. v + num) → Stored s1 s2 b (free - num) → ItemChangedOf s s2 node free (λ item. taken item num)
units_made s s1 s2 node num free a b p q w w' = record {
  kept = kept_both s s1 s2 w.kept w'.kept;
  changed = λ image i is.
      let more = w.shifted image (w'.kept.seen image i) in
      let at : mem s1 image b ≡ free = more.others b (omega arith) ∙ ap (mem s image) q ∙ is in
      let less : IsWrite (mem s1 image) (mem s2 image) b (mem s1 image b - num) =
      subst (λ (x : ℕ). IsWrite (mem s1 image) (mem s2 image) b (x - num)) (sym at) (w'.written image) in
      let t = two_writes (mem s image) (mem s1 image) (mem s2 image) a b (λ v. v + num) (λ v. v - num) more less
      (omega arith) in
      let used = rw p at t.first in
      let free = rw q at t.second in
      let total = t.others (node + 6) (omega arith) (omega arith) in
      let price = t.others (node + 7) (omega arith) (omega arith) in
      item_now (mem s image) (mem s2 image) node a b (λ v. v + num) (λ v. v - num)
      (taken (item_in (mem s image) node) num) t (omega arith) (omega arith) (omega arith) (omega arith)
      (λ j. record { used = used j; free = free j; total = total j; price = price j });
}

pub units_cancelled : (s s1 s2 : View) (node num a b : ℕ) → a ≡ node + 4 → b ≡ node + 5 →
    Shifted s s1 a (λ v. v - num) → Shifted s1 s2 b (λ v. v + num) → ItemChanged s s2 node (λ item. given_back item num)
units_cancelled s s1 s2 node num a b p q w w' = record {
  kept = kept_both s s1 s2 w.kept w'.kept;
  changed = λ image i.
      let t = two_words s s1 s2 a b (λ v. v - num) (λ v. v + num) w w' (omega arith) image i in
      let used = rw p at t.first in
      let free = rw q at t.second in
      let total = t.others (node + 6) (omega arith) (omega arith) in
      let price = t.others (node + 7) (omega arith) (omega arith) in
      item_now (mem s image) (mem s2 image) node a b (λ v. v - num) (λ v. v + num)
      (given_back (item_in (mem s image) node) num) t (omega arith) (omega arith) (omega arith) (omega arith)
      (λ j. record { used = used j; free = free j; total = total j; price = price j });
}

-- what the records on single words say of the item
pub more_item : (m m' : ℕ → ℕ) (node num : ℕ) → HasMore m m' node num →
    item_in m' node ≡ added (item_in m node) num None
more_item m m' node num h =
    let used = h.others (node + 4) (omega arith) (omega arith) in
    let free = h.free_is in
    let total = h.total_is in
    let price = h.others (node + 7) (omega arith) (omega arith) in
    λ j. record { used = used j; free = free j; total = total j; price = price j }

pub priced_item : (m m' : ℕ → ℕ) (node price : ℕ) → IsWrite m m' (node + 7) price →
    item_in m' node ≡ record (item_in m node) { price = price }
priced_item m m' node price w =
    let used = w.others (node + 4) (omega arith) in
    let free = w.others (node + 5) (omega arith) in
    let total = w.others (node + 6) (omega arith) in
    let here = w.here in
    λ j. record { used = used j; free = free j; total = total j; price = here j }

-- the same of a word that has another name
pub room_at : (s : View) (a b by : ℕ) → a ≡ b → RoomAt s b by → RoomAt s a by
room_at s a b by e room = subst (λ (x : ℕ). RoomAt s x by) (sym e) room

pub enough_at : (s : View) (a b by : ℕ) → a ≡ b → EnoughAt s b by → EnoughAt s a by
enough_at s a b by e enough = subst (λ (x : ℕ). EnoughAt s x by) (sym e) enough

-- what was asked of another word before holds after the first change
pub room_later : (s s1 : View) (a b i j by : ℕ) (f : ℕ → ℕ) → Shifted s s1 a f → a ≡ i → b ≡ j → j ≢ i → RoomAt s j by →
    RoomAt s1 b by
room_later s s1 a b i j by f w p q ne room = room_kept s s1 a b by f w (λ e. ne (sym q ∙ (e ∙ p)))
    (room_at s b j by q room)

-- and of a word that was not stored
pub enough_later : (s s1 : View) (a b i j by : ℕ) (f : ℕ → ℕ) → Shifted s s1 a f → a ≡ i → b ≡ j → j ≢ i →
    EnoughAt s j by → EnoughAt s1 b by
enough_later s s1 a b i j by f w p q ne enough = enough_kept s s1 a b by f w (λ e. ne (sym q ∙ (e ∙ p)))
    (enough_at s b j by q enough)
