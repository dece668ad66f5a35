-- A long fork is not snapshot isolated.
use Rattle.std.proofs.Common.{◌≡◌, ◌⊎◌, ◌≤◌, ℕ, suc, zero, List, [], ◌∷◌, ◌++◌}
use Rattle.std.proofs.Common.{drop}
use Rattle.std.proofs.Common.{refl, sym, subst, inl, inr, arith}
use Rattle.std.specs.Prelude.{All, ⊤}
use Rattle.std.proofs.lemmas.List.Sorted.{All-permutation, Contains-permutation}
use Rattle.std.proofs.lemmas.List.Elements.{All-cons, All-nil}
use Rattle.judge_object.specs.Call.{Call}
use Rattle.judge_snapshot.specs.Snapshots.{Transaction, calls_of, MayCommitAll, plain_needs, version}
use Rattle.judge_snapshot.specs.Registers.{Registers, registers, register_writes, installed, writes_of}
use Rattle.judge_snapshot.specs.Examples.{fork_x, fork_y, sees_x, sees_y, long_fork, LongForkIsNotIsolated}
use Rattle.judge_snapshot.proofs.Readers.{Versions, now, Answers, InCalls, in_order, EachOf, each_of_all, saw_both}

abbrev Below : ℕ × ℕ → ℕ × ℕ → Type 0
Below p q = (p.0 ≤ q.0) × (p.1 ≤ q.1)

-- no version lowers a register, and none is above 1
abbrev Chain : Versions → Type 0
Chain [] = ⊤
Chain (v ∷ past) = Below (now past) v.state × Below v.state (1, 1) × Chain past

-- in some version the registers have these values
abbrev Has : ℕ → ℕ → Versions → Type 0
Has a b [] = (a ≡ 0) × (b ≡ 0)
Has a b (v ∷ past) = ((a ≡ v.state.0) × (b ≡ v.state.1)) ⊎ Has a b past

below_now : (past : Versions) (a b : ℕ) → Chain past → Has a b past → Below (a, b) (now past)
below_now [] a b c h = (let e = h.0 in omega (arith, e), let e = h.1 in omega (arith, e))
below_now (v ∷ past) a b c (inl h) = (let e = h.0 in omega (arith, e), let e = h.1 in omega (arith, e))
below_now (v ∷ past) a b c (inr h) =
    let more = below_now past a b c.2 h in (
      let e = more.0 in let f = c.0.0 in omega (arith, e, f),
      let e = more.1 in let f = c.0.1 in omega (arith, e, f),
    )

apart : (past : Versions) → Chain past → Has 1 0 past → Has 0 1 past → ⊥
apart [] c h g = let e = h.0 in absurd (omega (arith, e))
apart (v ∷ past) c (inl h) (inl g) = let e = h.0 in let f = g.0 in absurd (omega (arith, e, f))
apart (v ∷ past) c (inl h) (inr g) =
    let more = below_now past 0 1 c.2 g in
    let e = more.1 in let f = c.0.1 in let d = h.1 in absurd (omega (arith, e, f, d))
apart (v ∷ past) c (inr h) (inl g) =
    let more = below_now past 1 0 c.2 h in
    let e = more.0 in let f = c.0.0 in let d = g.0 in absurd (omega (arith, e, f, d))
apart (v ∷ past) c (inr h) (inr g) = apart past c.2 h g

-- a snapshot is one of the versions
has_snapshot : (past : Versions) (missed : ℕ) → Has (now (drop missed past)).0 (now (drop missed past)).1 past
has_snapshot [] zero = (refl, refl)
has_snapshot [] (suc missed) = (refl, refl)
has_snapshot (v ∷ past) zero = inl (refl, refl)
has_snapshot (v ∷ past) (suc missed) = inr (has_snapshot past missed)

abbrev Four : Call Registers → Type 0
Four c = (c ≡ fork_x) ⊎ ((c ≡ fork_y) ⊎ ((c ≡ sees_x) ⊎ (c ≡ sees_y)))

abbrev next : Call Registers → ℕ × ℕ → ℕ × ℕ
next c p = installed (writes_of c.op) p

abbrev Grows : ℕ × ℕ → Call Registers → Type 0
Grows p c = Below p (next c p) × Below (next c p) (1, 1)

four_grow : (c : Call Registers) (p : ℕ × ℕ) → Four c → Below p (1, 1) → Grows p c
four_grow c p (inl e) h =
    subst (Grows p) (sym e) (let a = h.0 in let b = h.1 in ((a, omega arith), (omega arith, b)))
four_grow c p (inr (inl e)) h =
    subst (Grows p) (sym e) (let a = h.0 in let b = h.1 in ((omega arith, b), (a, omega arith)))
four_grow c p (inr (inr (inl e))) h = subst (Grows p) (sym e) ((omega arith, omega arith), h)
four_grow c p (inr (inr (inr e))) h = subst (Grows p) (sym e) ((omega arith, omega arith), h)

now_small : (past : Versions) → Chain past → Below (now past) (1, 1)
now_small [] c = (omega arith, omega arith)
now_small (v ∷ past) c = c.1

saw_x : (c : Call Registers) (p : ℕ × ℕ) → c ≡ sees_x → Answers p c → (1 ≡ p.0) × (0 ≡ p.1)
saw_x c p e h = saw_both 1 0 p.0 p.1 (subst (Answers p) e h)

saw_y : (c : Call Registers) (p : ℕ × ℕ) → c ≡ sees_y → Answers p c → (0 ≡ p.0) × (1 ≡ p.1)
saw_y c p e h = saw_both 0 1 p.0 p.1 (subst (Answers p) e h)

no_fork : (order : List (Transaction Registers)) (past : Versions) → Chain past → EachOf Four order →
    MayCommitAll registers register_writes plain_needs (0, 0) past order →
    InCalls sees_x order ⊎ Has 1 0 past → InCalls sees_y order ⊎ Has 0 1 past → ⊥
no_fork [] past c f m (inl h) g = h
no_fork [] past c f m (inr h) (inl g) = g
no_fork [] past c f m (inr h) (inr g) = apart past c h g
no_fork (t ∷ order) past c f m h g =
    let p = now (drop t.missed past) in
    let grown = four_grow t.call (now past) f.0 (now_small past c) in
    let has = has_snapshot past t.missed in
    no_fork order (version registers register_writes (0, 0) past t ∷ past) (grown.0, grown.1, c) f.1 m.1
    (elim h [
      | inl i ↦ elim i [
        | inl e ↦
            let saw = saw_x t.call p e m.0.reply in
            inr (inr (subst (λ a. Has a 0 past) (sym saw.0) (subst (λ b. Has p.0 b past) (sym saw.1) has)))
        | inr i ↦ inl i
      ]
      | inr i ↦ inr (inr i)
    ])
    (elim g [
      | inl i ↦ elim i [
        | inl e ↦
            let saw = saw_y t.call p e m.0.reply in
            inr (inr (subst (λ a. Has a 1 past) (sym saw.0) (subst (λ b. Has p.0 b past) (sym saw.1) has)))
        | inr i ↦ inl i
      ]
      | inr i ↦ inr (inr i)
    ])

all_four : All Four long_fork
all_four =
    All-cons Four fork_x (fork_y ∷ sees_x ∷ sees_y ∷ []) (inl refl)
    (All-cons Four fork_y (sees_x ∷ sees_y ∷ []) (inr (inl refl))
    (All-cons Four sees_x (sees_y ∷ []) (inr (inr (inl refl)))
    (All-cons Four sees_y [] (inr (inr (inr refl))) (All-nil Four))))

pub long_fork_is_not_isolated : LongForkIsNotIsolated
long_fork_is_not_isolated h =
    let left = h.selects.left in
    let all = calls_of h.order ++ left in
    let x = Contains-permutation long_fork all sees_x h.selects.all (2, omega arith, refl) in
    let y = Contains-permutation long_fork all sees_y h.selects.all (3, omega arith, refl) in
    no_fork h.order [] tt (each_of_all Four h.order left (All-permutation Four long_fork all h.selects.all all_four))
    h.commits
    (inl (in_order h.order left sees_x x.0 refl h.selects.never x.1 x.2))
    (inl (in_order h.order left sees_y y.0 refl h.selects.never y.1 y.2))
