-- The locks of a write log and those that are held, in their order.
use Rattle.std.proofs.Common.{◌≡◌, ◌≢◌, inl, inr, refl, sym, ap, subst, ◌∙◌, ℕ, zero, suc, ◌-◌, ◌<◌, true, false, eqb}
use Rattle.std.proofs.Common.{List, [], ◌∷◌, ◌++◌, length, length-append, Some, arith, take, eq-eqb}
use Rattle.std.proofs.lemmas.Bool.{ne_eqb}
use Rattle.std.specs.FinMap.{get}
use Rattle.tx_memory.specs.Image.{In}
use Rattle.tx_memory.specs.Paired.{in_later}
use Rattle.stm_logs.specs.Log.{LogValue, log_locks}
use Rattle.stm_logs.proofs.RisingLemmas.{Rising, In as Among}
use Rattle.stm_logs.proofs.LockLemmas.{locks_rise, locks_in}
use Rattle.stm_core.specs.Client.{without}
use Rattle.stm_attempt.specs.Begun.{addresses}
use Rattle.stm_core.specs.Guards.{Holds}

pub among_middle : {X : Type 0} (xs : List X) (k : X) (rest : List X) → Among k (xs ++ k ∷ rest)
among_middle [] k rest = inl refl
among_middle (x ∷ xs) k rest = inr (among_middle xs k rest)

pub among_front : {X : Type 0} (xs ys : List X) (j : X) → Among j xs → Among j (xs ++ ys)
among_front [] ys j i = absurd i
among_front (x ∷ xs) ys j (inl e) = inl e
among_front (x ∷ xs) ys j (inr i) = inr (among_front xs ys j i)

pub rising_before : (xs : List ℕ) (k : ℕ) (rest : List ℕ) (j : ℕ) → Rising (λ (x : ℕ). x) (xs ++ k ∷ rest) →
    Among j xs → j < k
rising_before [] k rest j rises i = absurd i
rising_before (x ∷ xs) k rest j rises (inl e) = subst (λ (y : ℕ). y < k) (sym e) (rises.0 k (among_middle xs k rest))
rising_before (x ∷ xs) k rest j rises (inr i) = rising_before xs k rest j rises.1 i

pub rising_behind : (xs ys : List ℕ) → Rising (λ (x : ℕ). x) (xs ++ ys) → Rising (λ (x : ℕ). x) ys
rising_behind [] ys rises = rises
rising_behind (x ∷ xs) ys rises = rising_behind xs ys rises.1

pub among_held : (held : List (ℕ × ℕ)) (k : ℕ) → Among k (addresses held) → Holds held k
among_held [] k i = absurd i
among_held (p ∷ ps) k (inl e) = (p.1, (zero, λ i. mathlib.Core.Option.some (sym e i, p.1)))
among_held (p ∷ ps) k (inr i) = let rest = among_held ps k i in (rest.0, in_later _ _ _ rest.1)

pub held_among : (held : List (ℕ × ℕ)) (j u : ℕ) → In (j, u) held → Among j (addresses held)
held_among [] j u (zero, e) = cc
held_among [] j u (suc n, e) = cc
held_among (p ∷ ps) j u (zero, e) = inl (let q : p ≡ (j, u) = cc in sym (ap (λ (x : ℕ × ℕ). x.0) q))
held_among (p ∷ ps) j u (suc n, e) = inr (held_among ps j u (n, e))

-- what is to be locked next is above all that is held, and is a lock of the log
module _ (w : LogValue) (held : List (ℕ × ℕ)) (k : ℕ) (left rest : List ℕ)
    (climbs : addresses held ++ left ≡ log_locks w) (next : left ≡ k ∷ rest) where
  order : addresses held ++ k ∷ rest ≡ log_locks w
  order = ap (λ (xs : List ℕ). addresses held ++ xs) (sym next) ∙ climbs

  pub next_above : (j u : ℕ) → In (j, u) held → j < k
  next_above j u i = rising_before (addresses held) k rest j
      (subst (λ (xs : List ℕ). Rising (λ (x : ℕ). x) xs) (sym order) (locks_rise w)) (held_among held j u i)

  pub next_logged : (a : ℕ) × (get w.locks a ≡ Some k)
  next_logged = locks_in w k (subst (λ (xs : List ℕ). Among k xs) order (among_middle (addresses held) k rest))

  pub room : length (addresses held) < length (log_locks w)
  room = let l : length (addresses held ++ k ∷ rest) ≡ length (log_locks w) = ap length order in let m =
      length-append (addresses held) (k ∷ rest) in omega (arith, l, m)

take_among : (n : ℕ) (xs : List ℕ) (j : ℕ) → Among j (take n xs) → Among j xs
take_among zero xs j i = absurd i
take_among (suc n) [] j i = absurd i
take_among (suc n) (x ∷ xs) j (inl e) = inl e
take_among (suc n) (x ∷ xs) j (inr i) = inr (take_among n xs j i)

without_none : (ps : List (ℕ × ℕ)) (k : ℕ) → ((j : ℕ) → Among j (addresses ps) → k < j) → without ps k ≡ ps
without_none [] k above = refl
without_none (p ∷ ps) k above =
    let less : k < p.0 = above p.0 (inl refl) in
    let other : eqb p.0 k ≡ false = ne_eqb p.0 k (λ e. absurd (omega arith)) in
    rw other (ap (λ (xs : List (ℕ × ℕ)). p ∷ xs) (without_none ps k (λ j i. above j (inr i))))

pub gives_first : (held : List (ℕ × ℕ)) (k left : ℕ) (rest : List ℕ) → left ≢ 0 →
    addresses held ≡ take left (k ∷ rest) → Rising (λ (x : ℕ). x) (k ∷ rest) →
    Holds held k × (addresses (without held k) ≡ take (left - 1) rest)
gives_first held k zero rest ne e rises = absurd (ne refl)
gives_first [] k (suc n) rest ne e rises = cc
gives_first (p ∷ ps) k (suc n) rest ne e rises =
    let here : p.0 ≡ k = cc in
    let later : addresses ps ≡ take n rest = cc in
    let test : eqb p.0 k ≡ true = eq-eqb p.0 k here in
    let one : suc n - 1 ≡ n = omega arith in
    let stays : without ps k ≡ ps = without_none ps k (λ j i. rises.0 j
    (take_among n rest j (subst (λ (xs : List ℕ). Among j xs) later i))) in
    ((p.1, (zero, λ i. mathlib.Core.Option.some (here i, p.1))), rw (test, one) (ap addresses stays ∙ later))
