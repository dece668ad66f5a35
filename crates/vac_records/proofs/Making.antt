-- Five stores make an item.
use Rattle.std.proofs.Common.{◌≡◌, ◌≢◌, inl, inr, ℕ, ◌+◌, ◌<◌, ◌≤◌, sym, ap, ◌∙◌, arith}
use Rattle.tx_memory.specs.View.{View, Stored, IsWrite}
use Rattle.vac_records.specs.Items.{mem, IsNewItem, ItemMade}
use Rattle.vac_records.specs.Steps.{kept_both}

new_item_by : (m m1 m2 m3 m4 m5 : ℕ → ℕ) (node key num price a b c d e : ℕ) → a ≡ node → b ≡ node + 4 → c ≡ node + 5 →
    d ≡ node + 6 → e ≡ node + 7 →
    IsWrite m m1 a key → IsWrite m1 m2 b 0 → IsWrite m2 m3 c num → IsWrite m3 m4 d num → IsWrite m4 m5 e price →
    IsNewItem m m5 node key num price
new_item_by m m1 m2 m3 m4 m5 node key num price a b c d e p q r s t w1 w2 w3 w4 w5 = record {
  key_is = ap m5 (sym p) ∙ (w5.others a (omega arith) ∙ (w4.others a (omega arith) ∙
      (w3.others a (omega arith) ∙ (w2.others a (omega arith) ∙ w1.here))));
  used_is = ap m5 (sym q) ∙ (w5.others b (omega arith) ∙ (w4.others b (omega arith) ∙
      (w3.others b (omega arith) ∙ w2.here)));
  free_is = ap m5 (sym r) ∙ (w5.others c (omega arith) ∙ (w4.others c (omega arith) ∙ w3.here));
  total_is = ap m5 (sym s) ∙ (w5.others d (omega arith) ∙ w4.here);
  price_is = ap m5 (sym t) ∙ w5.here;
  others = λ x nk out.
      let far : (k : ℕ) → node + 4 ≤ k → k < node + 8 → x ≢ k =
      λ k l h is. elim out [ inl low ↦ absurd (omega arith) | inr high ↦ absurd (omega arith) ] in
      w5.others x (far e (omega arith) (omega arith)) ∙ (w4.others x (far d (omega arith) (omega arith)) ∙
      (w3.others x (far c (omega arith) (omega arith)) ∙
      (w2.others x (far b (omega arith) (omega arith)) ∙ w1.others x (λ is. nk (is ∙ p)))));
}

pub item_made : (s s1 s2 s3 s4 s5 : View) (node key num price a b c d e : ℕ) → a ≡ node → b ≡ node + 4 → c ≡ node + 5 →
    d ≡ node + 6 → e ≡ node + 7 →
    Stored s s1 a key → Stored s1 s2 b 0 → Stored s2 s3 c num → Stored s3 s4 d num → Stored s4 s5 e price →
    ItemMade s s5 node key num price
item_made s s1 s2 s3 s4 s5 node key num price a b c d e p q r t u w1 w2 w3 w4 w5 = record {
  kept = kept_both s s4 s5 (kept_both s s3 s4 (kept_both s s2 s3 (kept_both s s1 s2 w1.kept w2.kept) w3.kept) w4.kept)
      w5.kept;
  made = λ image i. new_item_by (mem s image) (mem s1 image) (mem s2 image) (mem s3 image) (mem s4 image)
      (mem s5 image) node key num price a b c d e p q r t u
      (w1.written image) (w2.written image) (w3.written image) (w4.written image) (w5.written image);
}
