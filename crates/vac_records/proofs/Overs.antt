-- Sums over the customers' lists.
use Rattle.std.proofs.Common.{◌≡◌, ◌≢◌, inl, inr, ℕ, ◌+◌, ◌<◌, ◌≤◌, [], ◌∷◌, cond, nat_eq, Bool, true, false, refl, sym}
use Rattle.std.proofs.Common.{ap, ◌∙◌, arith}
use Rattle.std.proofs.lemmas.Bool.Decides.{nat_tests}
use Rattle.std.proofs.lemmas.Bool.{cases_lt}
use Rattle.tx_memory.specs.Seen.{same_or}
use Rattle.tx_alloc.specs.Pool.{with_at}
use Rattle.tx_alloc.proofs.Sums.{with_here, with_else}
use Rattle.tx_alloc.specs.Rows.{Rows, times, put_row, cut_row, block_at}
use Rattle.vac_records.specs.Heap.{over}
use Rattle.tx_alloc.proofs.Times.{cut_is, cut_else}

-- one list has what all have at least
pub over_has : (f : Rows → ℕ) (c : ℕ) (rs : Rows) (lists : ℕ → Rows) → 0 < times c rs → f (lists c) ≤ over f rs lists
over_has f c [] lists i = absurd (omega arith)
over_has f c ((k, a) ∷ rs) lists i =
    elim (same_or a c) [
      | inl e ↦ omega (arith, ap (λ (x : ℕ). f (lists x)) e)
      | inr ne ↦ (let more : 0 < times c rs = grind (arith, nat_tests) in omega (arith, over_has f c rs lists more))
    ]

-- and so have two
pub over_two : (f : Rows → ℕ) (c d : ℕ) (rs : Rows) (lists : ℕ → Rows) → c ≢ d → 0 < times c rs → 0 < times d rs →
    f (lists c) + f (lists d) ≤ over f rs lists
over_two f c d [] lists ne i j = absurd (omega arith)
over_two f c d ((k, a) ∷ rs) lists ne i j =
    elim (same_or a c) [
      | inl e ↦ (let more : 0 < times d rs = grind (arith, nat_tests) in
          omega (arith, over_has f d rs lists more, ap (λ (x : ℕ). f (lists x)) e))
      | inr other ↦ (
          let more : 0 < times c rs = grind (arith, nat_tests) in
          elim (same_or a d) [
            | inl e ↦ omega (arith, over_has f c rs lists more, ap (λ (x : ℕ). f (lists x)) e)
            | inr else ↦ (let again : 0 < times d rs = grind (arith, nat_tests) in
                omega (arith, over_two f c d rs lists ne more again))
          ])
    ]

pub over_put : (f : Rows → ℕ) (key b : ℕ) (rs : Rows) (lists : ℕ → Rows) →
    over f (put_row rs key b) lists ≡ f (lists b) + over f rs lists
over_put f key b [] lists = refl
over_put f key b ((k, a) ∷ rs) lists =
    elim (cases_lt k key) [
      | inl below ↦ (
          let p : put_row ((k, a) ∷ rs) key b ≡ (k, a) ∷ put_row rs key b = grind (arith, nat_tests) in
          omega (arith, ap (λ (z : Rows). over f z lists) p, over_put f key b rs lists))
      | inr here ↦ (
          let p : put_row ((k, a) ∷ rs) key b ≡ (key, b) ∷ ((k, a) ∷ rs) = grind (arith, nat_tests) in
          omega (arith, ap (λ (z : Rows). over f z lists) p))
    ]

-- a list of no customer is changed
pub over_else : (f : Rows → ℕ) (c : ℕ) (l : Rows) (rs : Rows) (lists : ℕ → Rows) → times c rs ≡ 0 →
    over f rs (with_at lists c l) ≡ over f rs lists
over_else f c l [] lists e = refl
over_else f c l ((k, a) ∷ rs) lists e =
    let ne : a ≢ c = λ q. (let t : nat_eq a c ≡ true = grind (arith, nat_tests) in
    absurd (omega (arith, e, ap (λ (b : Bool). cond {A = ℕ} b 1 0) t))) in
    let none : times c rs ≡ 0 = omega (arith, e) in
    omega (arith, ap f (with_else lists c a l ne), over_else f c l rs lists none)

-- the list of one customer is changed
pub over_with : (f : Rows → ℕ) (c : ℕ) (l : Rows) (rs : Rows) (lists : ℕ → Rows) → times c rs ≡ 1 →
    over f rs (with_at lists c l) + f (lists c) ≡ over f rs lists + f l
over_with f c l [] lists e = absurd (omega arith)
over_with f c l ((k, a) ∷ rs) lists e =
    elim (same_or a c) [
      | inl q ↦ (
          let t : nat_eq a c ≡ true = grind (arith, nat_tests) in
          let none : times c rs ≡ 0 = omega (arith, e, ap (λ (b : Bool). cond {A = ℕ} b 1 0) t) in
          omega (arith, ap f (with_here lists c a l q), over_else f c l rs lists none, ap (λ (x : ℕ). f (lists x)) q))
      | inr ne ↦ (
          let t : nat_eq a c ≡ false = grind (arith, nat_tests) in
          let one : times c rs ≡ 1 = omega (arith, e, ap (λ (b : Bool). cond {A = ℕ} b 1 0) t) in
          omega (arith, ap f (with_else lists c a l ne), over_with f c l rs lists one))
    ]

pub over_cut : (f : Rows → ℕ) (key b : ℕ) (rs : Rows) (lists : ℕ → Rows) → block_at rs key ≡ b → b ≢ 0 →
    f (lists b) + over f (cut_row rs key) lists ≡ over f rs lists
over_cut f key b [] lists e ne = absurd (ne (sym e))
over_cut f key b ((k, a) ∷ rs) lists e ne =
    elim (same_or k key) [
      | inl q ↦ (let c = cut_is k a key rs q in omega (
        arith,
        ap (λ (z : Rows). over f z lists) c.0,
        ap (λ (z : ℕ). f (lists z)) (sym c.1 ∙ e),
      ))
      | inr q ↦ (let c = cut_else k a key rs q in omega (
        arith,
        ap (λ (z : Rows). over f z lists) c.0,
        over_cut f key b rs lists (sym c.1 ∙ e) ne,
      ))
    ]
