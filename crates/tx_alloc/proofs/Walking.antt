-- The walk along the blocks of a list, over every memory that there may be.
use Rattle.std.proofs.Common.{◌≡◌, ◌≢◌, ℕ, ◌+◌, ◌<◌, ◌≤◌, List, [], ◌∷◌, ◌++◌, append_assoc, length, length-append}
use Rattle.std.proofs.Common.{refl, sym, ap, ◌∙◌, subst, arith}
use Rattle.tx_memory.specs.Seen.{some_le}
use Rattle.tx_memory.specs.View.{View, Sees, RestsOn, Kept, Loaded}
use Rattle.tx_alloc.specs.Steps.{mem, kept_none, kept_both, stood, at_start}
use Rattle.tx_alloc.specs.Pool.{Free, IsPool, HasPool}
use Rattle.tx_alloc.specs.Drawing.{Begins, Walked}
use Rattle.tx_alloc.proofs.Taking.{free_first, free_zero}

-- last is one of the blocks of a list, behind i others but one, and behind leads to the next one
pub record IsWalk (m : ℕ → ℕ) (n : ℕ) (bs : List ℕ) (last behind i : ℕ) : Type 0 where
  pub front : List ℕ
  pub rest : List ℕ
  pub is : bs ≡ front ++ (last ∷ rest)
  pub size : length front + 1 ≡ i
  pub leads : m last ≡ behind
  pub rest_is : Free m n behind rest

pub record Walking (s0 s : View) (b last behind i : ℕ) : Type 0 where
  pub kept : Kept s0 s
  pub writes : s.writes ≡ s0.writes
  pub walk : (image : List ℕ) (free : ℕ → List ℕ) (used : ℕ → ℕ) (count : ℕ) → Sees s image →
      IsPool (mem s0 image) (length image) free used count → (l : ℕ) → l < 8 → mem s0 image (8 + l) ≡ b →
      IsWalk (mem s0 image) (length image) (free l) last behind i

pub walk_start : (s : View) (b next : ℕ) → Begins s b next → Walking s s b b next 1
walk_start s b next h = record {
  kept = kept_none s;
  writes = refl;
  walk = λ image free used count seen p l less e.
      let m = mem s image in
      let f = free_first m (length image) b (free l) (subst (λ (x : ℕ). Free m (length image) x (free l)) e
      (p.lists l less)) h.some in
      let chain = subst (λ (bs : List ℕ). Free m (length image) (m (8 + l)) bs) f.is (p.lists l less) in
      record {
        front = [];
        rest = f.rest;
        is = f.is;
        size = refl;
        leads = h.next_is image seen;
        rest_is = subst (λ (x : ℕ). Free m (length image) x f.rest) (h.next_is image seen) chain.2;
      };
}

-- the next block is a block of the memory
pub next_in : (s0 s : View) (b next last behind i : ℕ) → Begins s0 b next → Walking s0 s b last behind i →
    behind ≢ 0 → HasPool s0 → ∥ ((image : List ℕ) × RestsOn s image) ∥₁ → behind + 8 ≤ s.size
next_in s0 s b next last behind i h k ne has ws = some_le (behind + 8) s.size ws (λ w.
    let p = has.under w.0 (stood k.kept w.0 w.1) in
    let at = k.walk w.0 p.free p.used p.count w.1.sees p.pool h.list h.small (h.first w.0 (k.kept.seen w.0 w.1.sees))
    in
    omega (arith, (free_first (mem s0 w.0) (length w.0) behind at.rest at.rest_is ne).block.1.0, w.1.size))

pub walk_step : (s0 s s' : View) (b last behind i v : ℕ) → Walking s0 s b last behind i → behind ≢ 0 →
    Loaded s s' behind v → Walking s0 s' b behind v (i + 1)
walk_step s0 s s' b last behind i v k ne d = record {
  kept = kept_both s0 s s' k.kept d.kept;
  writes = d.writes ∙ k.writes;
  walk = λ image free used count seen p l less e.
      let m = mem s0 image in
      let n = length image in
      let at = k.walk image free used count (d.kept.seen image seen) p l less e in
      let f = free_first m n behind at.rest at.rest_is ne in
      let chain = subst (λ (bs : List ℕ). Free m n behind bs) f.is at.rest_is in
      let led : m behind ≡ v = at_start s0 s s' behind v k.writes d image seen in
      record {
        front = at.front ++ (last ∷ []);
        rest = f.rest;
        is = at.is ∙ (ap (λ (bs : List ℕ). at.front ++ (last ∷ bs)) f.is ∙
            sym (append_assoc at.front (last ∷ []) (behind ∷ f.rest)));
        size = omega (arith, length-append at.front (last ∷ []), at.size);
        leads = led;
        rest_is = subst (λ (x : ℕ). Free m n x f.rest) led chain.2;
      };
}

-- the list ends before the run does
pub walk_short : (s0 s : View) (b last behind i : ℕ) → Walking s0 s b last behind i → i < 64 → behind ≡ 0 →
    Walked s0 s b last behind
walk_short s0 s b last behind i k few z = record {
  kept = k.kept;
  writes = k.writes;
  run = λ image free used count seen p l less e.
      let at = k.walk image free used count seen p l less e in
      record {
        front = at.front;
        rest = at.rest;
        is = at.is;
        few = omega (arith, at.size);
        whole = λ _. free_zero (mem s0 image) (length image) behind at.rest at.rest_is z;
        leads = at.leads;
        rest_is = at.rest_is;
      };
}

pub walk_long : (s0 s : View) (b last behind i : ℕ) → Walking s0 s b last behind i → 64 ≤ i → i ≤ 64 →
    Walked s0 s b last behind
walk_long s0 s b last behind i k ge le = record {
  kept = k.kept;
  writes = k.writes;
  run = λ image free used count seen p l less e.
      let at = k.walk image free used count seen p l less e in
      record {
        front = at.front;
        rest = at.rest;
        is = at.is;
        few = omega (arith, at.size);
        whole = λ more. absurd (omega (arith, at.size));
        leads = at.leads;
        rest_is = at.rest_is;
      };
}
