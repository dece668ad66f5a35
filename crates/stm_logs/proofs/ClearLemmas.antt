-- The nodes leave the index one after the other.
use Rattle.std.proofs.Common.{◌≡◌, ◌≢◌, inl, inr, ℕ, ◌+◌, ◌<◌, List, length, set, length-set, refl, sym, ap, ◌∙◌, arith}
use Rattle.stm_logs.specs.Nodes.{Node, Block, at, with_next}
use Rattle.stm_logs.specs.Index.{IsIndexed}
use Rattle.stm_logs.specs.Held.{IsIndexedAndChained, IsLog, Cleared}
use Rattle.stm_logs.proofs.NodeLemmas.{same_or, put_here, put_other, field_kept}
use Rattle.stm_logs.proofs.LogLemmas.{none_log}

pub cleared_none : (ns : List Node) (n : ℕ) → IsIndexed ns n → Cleared ns ns n 0
cleared_none ns n indexed = record {
  len = refl;
  places = λ _. refl;
  numbers = λ _. refl;
  locks = λ _. refl;
  left = λ q k t. (t, (indexed.slots q k t).0, (indexed.slots q k t).1);
}

pub cleared_place : (old new : List Node) (n e : ℕ) → IsIndexedAndChained old n → Cleared old new n e → e < n →
    (at new (e + 1)).place < length new
cleared_place old new n e ready c l = omega (
  arith,
  c.places (e + 1),
  c.len,
  (ready.indexed.places (e + 1) (omega arith) (omega arith)).0,
)

pub cleared_more : (old new : List Node) (n e q : ℕ) → Cleared old new n e → q ≡ (at new (e + 1)).place →
    q < length new → Cleared old (set new q (record (at new q) { slot = 0; finger = 0 })) n (e + 1)
cleared_more old new n e q c is l =
    let y : Node = record (at new q) { slot = 0; finger = 0 } in
    let more : List Node = set new q y in
    let places : (i : ℕ) → (at more i).place ≡ (at new i).place = field_kept (λ x. x.place) new q y l refl in
    let len : length more ≡ length new = length-set new q y in
    record {
      len = len ∙ c.len;
      places = λ i. places i ∙ c.places i;
      numbers = λ i. field_kept (λ x. x.number) new q y l refl i ∙ c.numbers i;
      locks = λ i. field_kept (λ x. x.lock) new q y l refl i ∙ c.locks i;
      left = λ p k t. elim (same_or p q) [
        | inl at_q ↦ absurd (omega (arith, ap (λ j. (at more j).slot) at_q, ap (λ x. x.slot) (put_here new q y l)))
        | inr ne ↦ (
            let s : (at more p).slot ≡ (at new p).slot = ap (λ x. x.slot) (put_other new q p y ne) in
            let h = c.left p (omega (arith, len)) (omega (arith, s)) in
            let other : (at new p).slot ≢ e + 1 = λ same. ne (sym h.2 ∙ ap (λ j. (at new j).place) same ∙ sym is) in
            (omega (arith, s, h.0, other), omega (arith, s, h.1), ap (λ j. (at more j).place) s ∙ places _ ∙ h.2))
      ];
    }

pub cleared_log : (old : Block) (new : List Node) → IsLog old → Cleared old.list new old.count old.count
    → IsLog (record { list = set new 0 (with_next (at new 0) 0); count = 0 })
cleared_log old new log c =
    let y : Node = with_next (at new 0) 0 in
    let places = log.places in
    let l : 0 < length new = omega (arith, c.len) in
    let len : length (set new 0 y) ≡ length new = length-set new 0 y in
    let root : at (set new 0 y) 0 ≡ y = put_here new 0 y l in
    none_log (set new 0 y) (omega (arith, len, c.len)) (omega (arith, len, c.len, log.ready.indexed.limit))
    (λ q k.
    let s : (at (set new 0 y) q).slot ≡ (at new q).slot = field_kept (λ x. x.slot) new 0 y l refl q in
    elim (same_or (at new q).slot 0) [
      | inl is ↦ s ∙ is
      | inr ne ↦ (let h = c.left q (omega (arith, len)) (omega arith) in absurd (omega (arith, h.0, h.1)))
    ])
    (ap (λ x. x.number) root ∙ c.numbers 0 ∙ log.ready.chained.top.0)
    (ap (λ x. x.lock) root ∙ c.locks 0 ∙ log.ready.chained.top.1) (ap (λ x. x.next) root)
