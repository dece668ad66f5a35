-- Transactions over registers that read what no snapshot has.
use Rattle.std.proofs.Common.{◌≡◌, ◌⊎◌, ◌<◌, ℕ, suc, zero, true, false, Bool, cond, List, [], ◌∷◌, ◌++◌, length, drop}
use Rattle.std.proofs.Common.{refl, sym, ap, ◌∙◌, subst, inl, inr, arith}
use Rattle.std.specs.Prelude.{All, codes, ⊤, ◌==◌, Option, slice_index_or}
use Rattle.std.proofs.lemmas.List.Sorted.{All-permutation, Contains-permutation}
use Rattle.std.proofs.lemmas.List.Elements.{All-cons, All-head, All-tail, All-nil}
use Rattle.std.proofs.lemmas.Bool.Decides.{nat_tests}
use Rattle.judge_object.specs.Rules.{IsAnswerOf}
use Rattle.judge_object.specs.Call.{Call, EachCall, is_completed}
use Rattle.judge_snapshot.specs.Snapshots.{Transaction, Version, calls_of, MayCommitAll, plain_needs, version, state_of}
use Rattle.judge_snapshot.specs.Snapshots.{IsSnapshotIsolated}
use Rattle.judge_snapshot.specs.Registers.{Registers, registers, register_writes, run, told, installed, writes_of}
use Rattle.judge_snapshot.specs.Examples.{sets_both, sees_half, read_skew, ReadSkewIsNotIsolated}
use Rattle.judge_snapshot.specs.Examples.{rolled_back, sees_dirty, dirty_read, DirtyReadIsNotIsolated}
use Rattle.judge_snapshot.proofs.Tests.{false_true}
use Rattle.judge_snapshot.proofs.TwoCalls.{no_yes}

abbrev pub Versions : Type 0
Versions = List (Version (ℕ × ℕ) (Option ℕ × Option ℕ))

abbrev pub now : Versions → ℕ × ℕ
now past = state_of (0, 0) past

-- what a transaction reads that gives the reply "y"
told_true : (b : Bool) → told b ≡ codes "y" → b ≡ true
told_true true e = refl
told_true false e = absurd (no_yes e)

two_tests : (a b : Bool) → (cond {A = Bool} a b false) ≡ true → (a ≡ true) × (b ≡ true)
two_tests true b e = (refl, e)
two_tests false b e = absurd (false_true e)

same_of : (a b : ℕ) → (a == b) ≡ true → a ≡ b
same_of a b e = grind (arith, nat_tests, e)

abbrev pub Answers : ℕ × ℕ → Call Registers → Type 0
Answers p c = IsAnswerOf registers (run p c.op).1 c.reply

pub saw_both : (a b x y : ℕ) → told (cond {A = Bool} (a == x) (b == y) false) ≡ codes "y" → (a ≡ x) × (b ≡ y)
saw_both a b x y h =
    let both = two_tests (a == x) (b == y) (told_true (cond {A = Bool} (a == x) (b == y) false) h) in
    (same_of a x both.0, same_of b y both.1)

saw_one : (a x : ℕ) → told (cond {A = Bool} (a == x) true false) ≡ codes "y" → a ≡ x
saw_one a x h = same_of a x (two_tests (a == x) true (told_true (cond {A = Bool} (a == x) true false) h)).0

-- ---- calls of an order

abbrev pub InCalls : Call Registers → List (Transaction Registers) → Type 0
InCalls c [] = ⊥
InCalls c (t ∷ order) = (t.call ≡ c) ⊎ InCalls c order

-- a completed call that is in an order or left out is in the order
pub in_order : (order : List (Transaction Registers)) (left : List (Call Registers)) (c : Call Registers) (k : ℕ) →
    is_completed c ≡ true → EachCall (λ call. is_completed call ≡ false) left →
    k < length (calls_of order ++ left) → slice_index_or (calls_of order ++ left) k c ≡ c → InCalls c order
in_order [] [] c k t n l e = absurd (omega arith)
in_order [] (x ∷ left) c zero t n l e =
    absurd (false_true (sym n.0 ∙ ap (λ (x : Call Registers). is_completed x) e ∙ t))
in_order [] (x ∷ left) c (suc k) t n l e = in_order [] left c k t n.1 (omega arith) e
in_order (x ∷ order) left c zero t n l e = inl e
in_order (x ∷ order) left c (suc k) t n l e = inr (in_order order left c k t n (omega arith) e)

module _ (Q : Call Registers → Type 0) where
  -- a fact of each call of transactions
  abbrev pub EachOf : List (Transaction Registers) → Type 0
  EachOf [] = ⊤
  EachOf (t ∷ order) = Q t.call × EachOf order

  pub each_of_all : (order : List (Transaction Registers)) (left : List (Call Registers)) →
      All Q (calls_of order ++ left) → EachOf order
  each_of_all [] left h = tt
  each_of_all (t ∷ order) left h = (
    All-head Q t.call (calls_of order ++ left) h,
    each_of_all order left (All-tail Q t.call (calls_of order ++ left) h),
  )

-- ---- a fact that all calls keep, and that a reader contradicts

module _ (P : ℕ × ℕ → Type 0) (Q : Call Registers → Type 0) (reader : Call Registers) (start : P (0, 0))
    (keeps : (c : Call Registers) (p : ℕ × ℕ) → Q c → P p → P (installed (writes_of c.op) p))
    (never : (p : ℕ × ℕ) → P p → Answers p reader → ⊥) where
  abbrev EachVersion : Versions → Type 0
  EachVersion [] = ⊤
  EachVersion (v ∷ past) = P v.state × EachVersion past

  at_now : (past : Versions) → EachVersion past → P (now past)
  at_now [] h = start
  at_now (v ∷ past) h = h.0

  at_snapshot : (past : Versions) (missed : ℕ) → EachVersion past → P (now (drop missed past))
  at_snapshot [] zero h = start
  at_snapshot [] (suc missed) h = start
  at_snapshot (v ∷ past) zero h = h.0
  at_snapshot (v ∷ past) (suc missed) h = at_snapshot past missed h.1

  no_reader : (order : List (Transaction Registers)) (past : Versions) → EachVersion past → EachOf Q order →
      MayCommitAll registers register_writes plain_needs (0, 0) past order → InCalls reader order → ⊥
  no_reader [] past h q m i = i
  no_reader (t ∷ order) past h q m (inl e) =
      never (now (drop t.missed past)) (at_snapshot past t.missed h)
      (subst (Answers (now (drop t.missed past))) e m.0.reply)
  no_reader (t ∷ order) past h q m (inr i) =
      no_reader order (version registers register_writes (0, 0) past t ∷ past)
      (keeps t.call (now past) q.0 (at_now past h), h) q.1 m.1 i

  not_isolated : (calls : List (Call Registers)) (k : ℕ) → All Q calls → k < length calls →
      slice_index_or calls k reader ≡ reader → is_completed reader ≡ true →
      IsSnapshotIsolated registers register_writes (0, 0) calls → ⊥
  not_isolated calls k q l e t h =
      let left = h.selects.left in
      let all = calls_of h.order ++ left in
      let x = Contains-permutation calls all reader h.selects.all (k, l, e) in
      no_reader h.order [] tt (each_of_all Q h.order left (All-permutation Q calls all h.selects.all q)) h.commits
      (in_order h.order left reader x.0 t h.selects.never x.1 x.2)

-- ---- read skew: x and y are equal

abbrev IsOfSkew : Call Registers → Type 0
IsOfSkew c = (c ≡ sets_both) ⊎ (c ≡ sees_half)

skew_keeps : (c : Call Registers) (p : ℕ × ℕ) → IsOfSkew c → p.0 ≡ p.1 →
    (installed (writes_of c.op) p).0 ≡ (installed (writes_of c.op) p).1
skew_keeps c p (inl e) h =
    subst (λ (c : Call Registers). (installed (writes_of c.op) p).0 ≡ (installed (writes_of c.op) p).1) (sym e) refl
skew_keeps c p (inr e) h =
    subst (λ (c : Call Registers). (installed (writes_of c.op) p).0 ≡ (installed (writes_of c.op) p).1) (sym e) h

half_never : (p : ℕ × ℕ) → p.0 ≡ p.1 → Answers p sees_half → ⊥
half_never p h a = let saw = saw_both 1 0 p.0 p.1 a in let x = saw.0 in let y = saw.1 in absurd (omega (arith, h, x, y))

pub read_skew_is_not_isolated : ReadSkewIsNotIsolated
read_skew_is_not_isolated h =
    not_isolated (λ p. p.0 ≡ p.1) IsOfSkew sees_half refl skew_keeps half_never read_skew 1
    (All-cons IsOfSkew sets_both (sees_half ∷ []) (inl refl)
    (All-cons IsOfSkew sees_half [] (inr refl) (All-nil IsOfSkew))) (omega arith) refl refl h

-- ---- dirty read: x is 0

abbrev IsOfDirty : Call Registers → Type 0
IsOfDirty c = (c ≡ rolled_back) ⊎ (c ≡ sees_dirty)

dirty_keeps : (c : Call Registers) (p : ℕ × ℕ) → IsOfDirty c → p.0 ≡ 0 → (installed (writes_of c.op) p).0 ≡ 0
dirty_keeps c p (inl e) h =
    subst (λ (c : Call Registers). (installed (writes_of c.op) p).0 ≡ 0) (sym e) h
dirty_keeps c p (inr e) h =
    subst (λ (c : Call Registers). (installed (writes_of c.op) p).0 ≡ 0) (sym e) h

dirty_never : (p : ℕ × ℕ) → p.0 ≡ 0 → Answers p sees_dirty → ⊥
dirty_never p h a = let saw = saw_one 1 p.0 a in absurd (omega (arith, h, saw))

pub dirty_read_is_not_isolated : DirtyReadIsNotIsolated
dirty_read_is_not_isolated h =
    not_isolated (λ p. p.0 ≡ 0) IsOfDirty sees_dirty refl dirty_keeps dirty_never dirty_read 1
    (All-cons IsOfDirty rolled_back (sees_dirty ∷ []) (inl refl)
    (All-cons IsOfDirty sees_dirty [] (inr refl) (All-nil IsOfDirty))) (omega arith) refl refl h
