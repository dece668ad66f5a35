-- Stores that make a customer and a booking, and what is added to a booking.
use Rattle.std.proofs.Common.{◌≡◌, ◌≢◌, inl, inr, ℕ, ◌+◌, ◌*◌, ◌<◌, ◌≤◌, sym, ap, ◌∙◌, arith}
use Rattle.tx_memory.specs.Seen.{same_or}
use Rattle.tx_memory.specs.View.{View, Loaded, Stored, IsWrite, memory}
use Rattle.vac_model.specs.State.{Place, kind_number}
use Rattle.vac_records.specs.Items.{mem}
use Rattle.vac_records.specs.Customers.{IsNewCustomer, CustomerMade, IsNewBooking, BookingMade}
use Rattle.vac_records.specs.Spare.{WordCleared, IsCleared, SpareCleared}
use Rattle.vac_records.specs.Steps.{kept_both, write_at_start}

-- a word that was 0 was read
pub cleared_by_read : (s s' : View) (a : ℕ) → Loaded s s' a 0 → WordCleared s s' a
cleared_by_read s s' a l = record {
  kept = l.kept;
  written = λ image i. record {
    here = ap (λ w. memory image w a) l.writes ∙ l.answer image i;
    others = λ x ne. ap (λ w. memory image w x) l.writes;
  };
}

-- a word was read and then written
pub cleared_by_store : (s s1 s' : View) (a v : ℕ) → Loaded s s1 a v → Stored s1 s' a 0 → WordCleared s s' a
cleared_by_store s s1 s' a v l w = record {
  kept = kept_both s s1 s' l.kept w.kept;
  written = write_at_start s s1 s' a 0 l.writes w;
}

cleared_by : (m m1 m2 m3 : ℕ → ℕ) (node a b c : ℕ) → a ≡ node + 5 → b ≡ node + 6 → c ≡ node + 7 → IsWrite m m1 a 0 →
    IsWrite m1 m2 b 0 → IsWrite m2 m3 c 0 → IsCleared m m3 node
cleared_by m m1 m2 m3 node a b c p q r w1 w2 w3 = record {
  spare = λ k low less. elim (same_or k 5) [
    | inl five ↦ (let e : a ≡ node + k = omega arith in ap m3 (sym e) ∙
        (w3.others a (omega arith) ∙ (w2.others a (omega arith) ∙ w1.here)))
    | inr other ↦ elim (same_or k 6) [
      | inl six ↦ (let e : b ≡ node + k = omega arith in ap m3 (sym e) ∙ (w3.others b (omega arith) ∙ w2.here))
      | inr last ↦ (let e : c ≡ node + k = omega arith in ap m3 (sym e) ∙ w3.here)
    ]
  ];
  others = λ x out.
      let far : (k : ℕ) → node + 5 ≤ k → k < node + 8 → x ≢ k =
      λ k l h is. elim out [ inl low ↦ absurd (omega arith) | inr high ↦ absurd (omega arith) ] in
      w3.others x (far c (omega arith) (omega arith)) ∙ (w2.others x (far b (omega arith) (omega arith)) ∙
      w1.others x (far a (omega arith) (omega arith)));
}

pub spare_cleared : (s s1 s2 s3 : View) (node a b c : ℕ) → a ≡ node + 5 → b ≡ node + 6 → c ≡ node + 7 →
    WordCleared s s1 a → WordCleared s1 s2 b → WordCleared s2 s3 c → SpareCleared s s3 node
spare_cleared s s1 s2 s3 node a b c p q r w1 w2 w3 = record {
  kept = kept_both s s2 s3 (kept_both s s1 s2 w1.kept w2.kept) w3.kept;
  cleared = λ image i.
      let seen2 = w3.kept.seen image i in
      cleared_by (mem s image) (mem s1 image) (mem s2 image) (mem s3 image) node a b c p q r
      (w1.written image (w2.kept.seen image seen2)) (w2.written image seen2) (w3.written image i);
}

new_customer_by : (m m1 m2 m3 : ℕ → ℕ) (node key a b : ℕ) → a ≡ node → b ≡ node + 4 → IsWrite m m1 a key →
    IsWrite m1 m2 b 0 → IsCleared m2 m3 node → IsNewCustomer m m3 node key
new_customer_by m m1 m2 m3 node key a b p q w1 w2 c = record {
  key_is = c.others node (inl (omega arith)) ∙ (w2.others node (omega arith) ∙ (ap m1 (sym p) ∙ w1.here));
  head_is = c.others (node + 4) (inl (omega arith)) ∙ (ap m2 (sym q) ∙ w2.here);
  spare = c.spare;
  others = λ x nk out.
      let nb : x ≢ b = λ is. elim out [ inl low ↦ absurd (omega arith) | inr high ↦ absurd (omega arith) ] in
      c.others x (elim out [ inl low ↦ inl (omega arith) | inr high ↦ inr high ]) ∙
      (w2.others x nb ∙ w1.others x (λ is. nk (is ∙ p)));
}

pub customer_made : (s s1 s2 s3 : View) (node key a b : ℕ) → a ≡ node → b ≡ node + 4 →
    Stored s s1 a key → Stored s1 s2 b 0 → SpareCleared s2 s3 node → CustomerMade s s3 node key
customer_made s s1 s2 s3 node key a b p q w1 w2 z = record {
  kept = kept_both s s2 s3 (kept_both s s1 s2 w1.kept w2.kept) z.kept;
  made = λ image i. new_customer_by (mem s image) (mem s1 image) (mem s2 image) (mem s3 image) node key a b p q
      (w1.written image) (w2.written image) (z.cleared image i);
}

new_booking_by : (m m1 m2 m3 m4 m5 : ℕ → ℕ) (node : ℕ) (place : Place) (num price kind id sum units a b c d : ℕ) →
    a ≡ node + 0 → b ≡ node + 1 → c ≡ node + 2 → d ≡ node + 4 →
    kind ≡ kind_number place.0 → id ≡ place.1 → sum ≡ num * price → units ≡ num →
    IsWrite m m1 a kind → IsWrite m1 m2 b id → IsWrite m2 m3 c sum → IsWrite m3 m4 d units → IsCleared m4 m5 node →
    IsNewBooking m m5 node place num price
new_booking_by m m1 m2 m3 m4 m5 node place num price kind id sum units a b c d p q r t ek ei es eu w1 w2 w3 w4 z =
    let clear : (x : ℕ) → x < node + 5 → m5 x ≡ m4 x = λ x l. z.others x (inl l) in
    let at0 : a ≡ node = omega arith in
    let kind_is : m5 node ≡ kind = clear node (omega arith) ∙
    (ap m4 (sym at0) ∙ (w4.others a (omega arith) ∙ (w3.others a (omega arith) ∙
    (w2.others a (omega arith) ∙ w1.here)))) in
    let id_is : m5 (node + 1) ≡ id = clear (node + 1) (omega arith) ∙
    (ap m4 (sym q) ∙ (w4.others b (omega arith) ∙ (w3.others b (omega arith) ∙ w2.here))) in
    let sum_is : m5 (node + 2) ≡ num * price = clear (node + 2) (omega arith) ∙
    (ap m4 (sym r) ∙ (w4.others c (omega arith) ∙ (w3.here ∙ es))) in
    let units_is : m5 (node + 4) ≡ num = clear (node + 4) (omega arith) ∙ (ap m4 (sym t) ∙ (w4.here ∙ eu)) in
    record {
      kind_is = kind_is ∙ ek;
      id_is = id_is ∙ ei;
      is = λ i. record { units = units_is i; sum = sum_is i };
      spare = z.spare;
      others = λ x out.
          let far : (k : ℕ) → node ≤ k → k < node + 8 → x ≢ k =
          λ k l h is. elim out [ inl low ↦ absurd (omega arith) | inr high ↦ absurd (omega arith) ] in
          z.others x (elim out [ inl low ↦ inl (omega arith) | inr high ↦ inr high ])
          ∙ (w4.others x (far d (omega arith) (omega arith)) ∙
          (w3.others x (far c (omega arith) (omega arith)) ∙
          (w2.others x (far b (omega arith) (omega arith)) ∙ w1.others x (far a (omega arith) (omega arith)))));
    }

pub booking_made : (s s1 s2 s3 s4 s5 : View) (node : ℕ) (place : Place) (num price kind id sum units a b c d : ℕ) →
    a ≡ node + 0 → b ≡ node + 1 → c ≡ node + 2 → d ≡ node + 4 →
    kind ≡ kind_number place.0 → id ≡ place.1 → sum ≡ num * price → units ≡ num →
    Stored s s1 a kind → Stored s1 s2 b id → Stored s2 s3 c sum → Stored s3 s4 d units → SpareCleared s4 s5 node →
    BookingMade s s5 node place num price
booking_made s s1 s2 s3 s4 s5 node place num price kind id sum units a b c d p q r t ek ei es eu w1 w2 w3 w4 z =
    record {
      kept = kept_both s s4 s5 (kept_both s s3 s4 (kept_both s s2 s3 (kept_both s s1 s2 w1.kept w2.kept) w3.kept)
          w4.kept)
          z.kept;
      made = λ image i.
          new_booking_by (mem s image) (mem s1 image) (mem s2 image) (mem s3 image) (mem s4 image)
          (mem s5 image) node place num price kind id sum units a b c d p q r t ek ei es eu
          (w1.written image) (w2.written image) (w3.written image) (w4.written image) (z.cleared image i);
    }
