-- The memory of the tests, from its first words on.
use Rattle.std.proofs.Common.{◌≡◌, inl, inr, ℕ, ◌+◌, ◌-◌, ◌*◌, ◌/◌, ◌%◌, ◌<◌, List, [], length, slice_index, Option}
use Rattle.std.proofs.Common.{None, unwrap_or, nat_eq, nat_lt, get_or, set, get_or-set_same, get_or-set_other, true}
use Rattle.std.proofs.Common.{false, refl, sym, ap, ◌∙◌, subst, arith}
use Rattle.std.proofs.lemmas.Bool.Decides.{nat_tests}
use Rattle.std.proofs.lemmas.Bool.{cases_lt}
use Rattle.tx_memory.specs.Plain.{flat_view, numbered}
use Rattle.tx_memory.specs.PlainSeen.{get_at}
use Rattle.tx_memory.specs.View.{View, Kept, memory}
use Rattle.tx_alloc.specs.Pointer.{pointer}
use Rattle.tx_alloc.specs.Pool.{IsBlock}
use Rattle.tx_alloc.specs.Rows.{Rows, times, put_row, block_at, Relinks}
use Rattle.tx_alloc.specs.Steps.{mem, stood}
use Rattle.vac_bookings.specs.Bookings.{code_of, place_code}
use Rattle.vac_bookings.specs.declared.key.Key.{Key}
use Rattle.vac_bookings.specs.Lists.{IsListAt, HasList, IsFreshBooking, InsertedBooking, RemovedBooking}
use Rattle.test_stock.specs.Stock.{IsStock, IsStockKey, IsStocked, HasStock, stock_block, stock_word}
use Rattle.vac_bookings.proofs.Frame.{list_block, list_at}

pub stock_list : (s : View) → HasStock s → HasList s 5
stock_list s h = record {
  small = omega (arith, h.size);
  room = omega (arith, h.size);
  under = λ image i. (h.under image i).list;
}

-- a word of a block before its link word
kept_word : (m m' : ℕ → ℕ) (n j k : ℕ) (rs : Rows) → Relinks m m' 3 5 rs → ((a : ℕ) → 0 < times a rs → IsBlock n a) →
    k < 3 → m' (stock_block j + k) ≡ m (stock_block j + k)
kept_word m m' n j k rs r blocks l = r.others (stock_block j + k) (omega arith) (λ a i.
    let b = blocks a i in
    elim (cases_lt b.0 j) [
      | inl below ↦ inr (omega (arith, b.1.1, below))
      | inr above ↦
          inl (omega (arith, b.1.1, above))
    ])

pub stock_read : (s s' : View) → Kept s s' → s'.writes ≡ s.writes → HasStock s → HasStock s'
stock_read s s' k w h = record {
  size = omega (arith, h.size, k.size);
  under = λ image i. rw w (h.under image (stood k image i));
}

pub stock_removed : (s s' : View) (key : ℕ) (removed : Option ℕ) → HasStock s → RemovedBooking s s' 5 key removed →
    HasStock s'
stock_removed s s' key removed h d = record {
  size = omega (arith, h.size, d.kept.size);
  under = λ image i.
      let t = h.under image (stood d.kept image i) in
      let q = d.removal image t.list.entries i.sees t.list.is in
      let r = q.relinks in
      let blocks : (a : ℕ) → 0 < times a t.list.entries → IsBlock (length image) a =
      λ a x. list_block (mem s image) (length image) (mem s image 5) a t.list.entries t.list.is.list x in
      record {
        size = t.size;
        list = record { entries = _; is = q.list };
        kind_is = λ j l. kept_word (mem s image) (mem s' image) (length image) j 0 t.list.entries r blocks (omega arith)
            ∙ t.kind_is j l;
        id_is = λ j l. kept_word (mem s image) (mem s' image) (length image) j 1 t.list.entries r blocks (omega arith) ∙
            t.id_is j l;
      };
}

pub stock_inserted : (s s' : View) (key : Key) (b : ℕ) → HasStock s → IsFreshBooking s 5 key b →
    InsertedBooking s s' 5 key b →
    HasStock s'
stock_inserted s s' key b h fresh d = record {
  size = omega (arith, h.size, d.kept.size);
  under = λ image i.
      let i0 = stood d.kept image i in
      let t = h.under image i0 in
      let q = d.insertion image t.list.entries i.sees t.list.is (fresh.under image t.list.entries i0 t.list.is) in
      let r = q.relinks in
      let l = q.list in
      let blocks : (a : ℕ) → 0 < times a (put_row t.list.entries (code_of key) b) → IsBlock (length image) a =
      λ a x. list_block (mem s' image) (length image) (mem s' image 5) a _ l.list x in
      record {
        size = t.size;
        list = record { entries = _; is = l };
        kind_is = λ j less. kept_word (mem s image) (mem s' image) (length image) j 0 _ r blocks (omega arith) ∙
            t.kind_is j less;
        id_is = λ j less. kept_word (mem s image) (mem s' image) (length image) j 1 _ r blocks (omega arith) ∙
            t.id_is j less;
      };
}

-- the block of a key that the list does not have can be inserted
pub stock_fresh : (s s' : View) (key : Key) (b : ℕ) (removed : Option ℕ) → HasStock s →
    RemovedBooking s s' 5 (code_of key) removed → removed ≡ None → IsStockKey key →
    b ≡ stock_block (40 * key.kind + key.id) →
    IsFreshBooking s' 5 key b
stock_fresh s s' key b removed h d gone k e = record {
  under = λ image rs i l.
      let w = d.none gone in
      let t = h.under image (stood d.kept image i) in
      let before : IsListAt (mem s image) (length image) 5 rs = rw w at l in
      let absent : 0 ≡ block_at rs (code_of key) = sym (ap pointer gone) ∙ (d.removal image rs i.sees before).is in
      let kind_is : mem s image (b + 0) ≡ key.kind = rw e (t.kind_is (40 * key.kind + key.id) (omega (arith, k.0, k.1))
      ∙ omega (arith, k.1)) in
      let id_is : mem s image (b + 1) ≡ key.id = rw e (t.id_is (40 * key.kind + key.id) (omega (arith, k.0, k.1)) ∙
      omega (arith, k.1)) in
      let code : place_code (mem s image) b ≡ code_of key = omega (arith, kind_is, id_is) in
      let loose : times b rs ≡ 0 = elim (cases_lt 0 (times b rs)) [
        | inl more ↦ (let at = list_at (mem s image) (length image) (mem s image 5) b rs before.list more in
            let same : block_at rs (code_of key) ≡ b = rw code at at in absurd (omega (arith, absent, same, e)))
        | inr none ↦ omega (arith, none)
      ] in
      record {
        block = (40 * key.kind + key.id, (omega (arith, e, t.size, k.0, k.1), e));
        outside = inl (omega (arith, e));
        absent = sym absent;
        loose = loose;
        kind_is = rw w kind_is;
        id_is = rw w id_is;
      };
}

kind_word : (j : ℕ) → stock_word (stock_block j + 0) ≡ j / 40
kind_word j =
    let past : nat_lt (stock_block j + 0) 16 ≡ false = grind (arith, nat_tests) in
    let here : nat_eq ((stock_block j + 0) % 8) 0 ≡ true = let z : (stock_block j + 0) % 8 ≡ 0 = omega arith in
    grind (arith, nat_tests) in
    let e : (stock_block j + 0 - 16) / 8 ≡ j = omega arith in
    rw (past, here, e) refl

id_word : (j : ℕ) → stock_word (stock_block j + 1) ≡ j % 40
id_word j =
    let past : nat_lt (stock_block j + 1) 16 ≡ false = grind (arith, nat_tests) in
    let z : (stock_block j + 1) % 8 ≡ 1 = omega arith in
    let other : nat_eq ((stock_block j + 1) % 8) 0 ≡ false = grind (arith, nat_tests) in
    let here : nat_eq ((stock_block j + 1) % 8) 1 ≡ true = grind (arith, nat_tests) in
    let e : (stock_block j + 1 - 16) / 8 ≡ j = omega arith in
    rw (past, other, here, e) refl

-- one word more was written
pub word_written : (xs : List ℕ) (i v : ℕ) → length xs ≡ 976 → i < 976 →
    ((k : ℕ) → k < i → get_or xs k 0 ≡ stock_word k) → v ≡ stock_word i → (k : ℕ) → k < i + 1 →
    get_or (set xs i v) k 0 ≡ stock_word k
word_written xs i v size less h e k l =
    elim (cases_lt k i) [
      | inl below ↦ get_or-set_other xs i k v 0 (omega arith) ∙ h k below
      | inr here ↦ (
          let q : i ≡ k = omega arith in
          subst (λ (x : ℕ). get_or (set xs i v) x 0 ≡ stock_word x) q (get_or-set_same xs i v 0 (omega arith) ∙ e))
    ]

-- words that are those of the stock
pub stock_start : (m : ℕ → ℕ) (n : ℕ) → n ≡ 976 → ((a : ℕ) → a < 976 → m a ≡ stock_word a) → IsStocked m n
stock_start m n size word = record {
  size = size;
  list = record {
    entries = [];
    is = record {
      list = record {
        linked = word 5 (omega arith);
      };
      outside = λ a x. absurd (omega (arith, x));
    };
  };
  kind_is = λ j l. word (stock_block j + 0) (omega (arith, l)) ∙ kind_word j;
  id_is = λ j l. word (stock_block j + 1) (omega (arith, l)) ∙ id_word j;
}

-- plain memory of the first words
pub stock_flat : (xs ys : List ℕ) → ys ≡ xs → IsStock xs → HasStock (flat_view ys)
stock_flat xs ys e h = rw e (record {
  size = h.0;
  under = λ image i. stock_start (memory image (numbered 0 xs)) (length image) (i.sees.fits ∙ h.0)
      (λ a l. ap (λ (o : Option ℕ). unwrap_or o (slice_index image a)) (get_at xs a (omega (arith, l, h.0))) ∙ h.1 a l);
})
