-- The nodes in their order give the words of a lock, and the locks.
use Rattle.std.proofs.Common.{◌≡◌, ◌≢◌, ◌⊎◌, inl, inr, ℕ, zero, suc, ◌+◌, ◌-◌, ◌<◌, ◌≤◌, Bool, true, false, cond, not}
use Rattle.std.proofs.Common.{◌&&◌, nat_eq, leb, Option, Some, None, MatchOption, List, [], ◌∷◌, map, filter, drop}
use Rattle.std.proofs.Common.{get_or, length, refl, sym, ap, ◌∙◌, arith, subst}
use Rattle.std.specs.FinMap.{get, empty, entries, keys, from_entries, len-empty, len-entries}
use Rattle.std.specs.Ordering.{nat_cmp}
use Rattle.std.proofs.lemmas.Bool.Decides.{nat_tests}
use Rattle.std.proofs.lemmas.Bool.{cases_lt}
use Rattle.stm_logs.specs.declared.nodes.TheConstants.{TOP}
use Rattle.stm_logs.specs.Nodes.{Node, at}
use Rattle.stm_logs.specs.Log.{LogValue, empty_log, log_pairs, log_locks, is_number, pairs_of}
use Rattle.stm_logs.specs.Order.{rank_of_number, rank_in, Least, IsChained, IsBefore, log_value}
use Rattle.stm_logs.specs.Chain.{EndsWithin, pair_of, goes_on, words_from, locks_from}
use Rattle.stm_logs.proofs.NodeLemmas.{same_or}
use Rattle.stm_logs.proofs.OrderLemmas.{after_node, rank_number}
use Rattle.stm_logs.proofs.TableLemmas.{both_bool, true_false, get_source}
use Rattle.stm_logs.proofs.RisingLemmas.{In, Rising, rising_entries, get_in, in_get, filter_in, in_filter}
use Rattle.stm_logs.proofs.RisingLemmas.{rising_filter, rising_same}
use Rattle.stm_logs.proofs.LockLemmas.{locks_rise, locks_in, in_locks}
use Rattle.stm_logs.proofs.LogLemmas.{eq_zero, not_zero, numbers, values_at, locks_at, get_word, get_lock}

-- ---- ranks and locks
lock_up : (l k a b : ℕ) → a ≤ TOP → b ≤ TOP → rank_of_number l a < rank_of_number k b → l ≤ k
lock_up l k a b ma mb less = omega arith

lock_first : (l k a : ℕ) → a ≤ TOP → rank_of_number l 0 ≤ rank_of_number k a → l ≤ k
lock_first l k a ma le = omega arith

first_of_lock : (l k a : ℕ) → l ≤ k → rank_of_number l 0 ≤ rank_of_number k a
first_of_lock l k a le = omega arith

next_lock : (l k a : ℕ) → a ≤ TOP → l < k → rank_of_number l a + 1 ≤ rank_of_number k 0
next_lock l k a ma less = omega arith

-- ---- whether a chain goes on with a lock
pub going_on : (ns : List Node) (lock p : ℕ) → goes_on ns lock p ≡ true → (0 < p) × ((at ns p).lock ≡ lock)
going_on ns lock p t = elim (same_or p 0) [
  | inl is ↦ absurd (true_false _ t (ap (λ b. not b && nat_eq (at ns p).lock lock) (eq_zero p is)))
  | inr ne ↦ (
      let some : 0 < p = omega arith in
      let there : nat_eq (at ns p).lock lock ≡ true = sym (ap (λ b. not b && nat_eq (at ns p).lock lock)
      (not_zero p some)) ∙ t in
      (some, is_equal _ _ there))
]
  where
    is_equal : (a b : ℕ) → nat_eq a b ≡ true → a ≡ b
    is_equal a b e = grind (arith, nat_tests, e)

pub goes_at : (ns : List Node) (lock p : ℕ) → 0 < p → (at ns p).lock ≡ lock → goes_on ns lock p ≡ true
goes_at ns lock p some is = ap (λ b. not b && nat_eq (at ns p).lock lock) (not_zero p some) ∙ equal _ _ is
  where
    equal : (a b : ℕ) → a ≡ b → nat_eq a b ≡ true
    equal a b e = grind (arith, nat_tests, e)

pub stops_at : (ns : List Node) (lock p : ℕ) → (p ≡ 0) ⊎ ((at ns p).lock ≢ lock) → goes_on ns lock p ≡ false
stops_at ns lock p h = elim (both_bool (goes_on ns lock p)) [
  | inr stops ↦ stops
  | inl goes ↦ (
      let here = going_on ns lock p goes in
      let some = here.0 in
      elim h [ inl none ↦ absurd (omega arith) | inr other ↦ absurd (other here.1) ])
]

-- ---- a chain ends
-- how many of the first n nodes have a rank from low on
abbrev bit : ℕ → ℕ → ℕ
bit low r = cond (leb low r) 1 0

abbrev above : List Node → ℕ → ℕ → ℕ
above ns low zero = 0
above ns low (suc e) = bit low (rank_in (at ns (suc e))) + above ns low e

bit_one : (low r : ℕ) → low ≤ r → bit low r ≡ 1
bit_one low r l = grind (arith, nat_tests, l)

bit_none : (low r : ℕ) → r < low → bit low r ≡ 0
bit_none low r l = grind (arith, nat_tests, l)

above_le : (ns : List Node) (low n : ℕ) → above ns low n ≤ n
above_le ns low zero = omega arith
above_le ns low (suc e) =
    let rest = above_le ns low e in
    elim (cases_lt (rank_in (at ns (suc e))) low) [
      | inl less ↦ omega (arith, rest, bit_none low (rank_in (at ns (suc e))) less)
      | inr more ↦ omega (arith, rest, bit_one low (rank_in (at ns (suc e))) more)
    ]

above_down : (ns : List Node) (low high n : ℕ) → low ≤ high → above ns high n ≤ above ns low n
above_down ns low high zero h = omega arith
above_down ns low high (suc e) h =
    let r : ℕ = rank_in (at ns (suc e)) in
    let rest = above_down ns low high e h in
    elim (cases_lt r high) [
      | inl less ↦ (let none : bit high r ≡ 0 = bit_none high r less in omega (arith, rest, none))
      | inr more ↦ (
          let one : bit high r ≡ 1 = bit_one high r more in
          let two : bit low r ≡ 1 = bit_one low r (omega arith) in
          omega (arith, rest, one, two))
    ]

above_less : (ns : List Node) (low p n : ℕ) → 0 < p → p ≤ n → low ≤ rank_in (at ns p) →
    above ns (rank_in (at ns p) + 1) n + 1 ≤ above ns low n
above_less ns low p zero z m h = absurd (omega arith)
above_less ns low p (suc e) z m h =
    let r : ℕ = rank_in (at ns (suc e)) in
    let high : ℕ = rank_in (at ns p) + 1 in
    elim (same_or p (suc e)) [
      | inl is ↦ (
          let same : rank_in (at ns p) ≡ r = ap (λ j. rank_in (at ns j)) is in
          let one : bit low r ≡ 1 = bit_one low r (omega arith) in
          let none : bit high r ≡ 0 = bit_none high r (omega arith) in
          let rest = above_down ns low high e (omega arith) in
          omega (arith, one, none, rest))
      | inr ne ↦ (
          let rest = above_less ns low p e z (omega arith) h in
          elim (cases_lt r high) [
            | inl less ↦ (let none : bit high r ≡ 0 = bit_none high r less in omega (arith, rest, none))
            | inr more ↦ (
                let one : bit high r ≡ 1 = bit_one high r more in
                let two : bit low r ≡ 1 = bit_one low r (omega arith) in
                omega (arith, rest, one, two))
          ])
    ]

module _ (ns : List Node) (n : ℕ) (c : IsChained ns n) (room : n < length ns) where
  -- what comes behind a node
  pub behind : (p : ℕ) → 0 < p → p ≤ n → Least ns n (rank_in (at ns p) + 1) (at ns p).next
  behind p z m = subst (λ l. Least ns n l (at ns p).next) (after_node ns p z) (c.next p m)

  ends_from : (most low p : ℕ) → Least ns n low p → above ns low n ≤ most → EndsWithin ns most p
  ends_from zero low p l few = elim (same_or p 0) [
    | inl is ↦ is
    | inr ne ↦ (
        let s = l.some (omega arith) in
        let less = above_less ns low p n (omega arith) s.0 s.1 in
        absurd (omega (arith, few, less)))
  ]
  ends_from (suc most) low p l few = λ some. (
      let s = l.some some in
      let less = above_less ns low p n some s.0 s.1 in
      let inside = s.0 in (
        omega arith,
        ends_from most (rank_in (at ns p) + 1) (at ns p).next (behind p some s.0)
            (omega (arith, few, less)),
      ))

  pub ends : (low p : ℕ) → Least ns n low p → EndsWithin ns n p
  ends low p l = ends_from n low p l (above_le ns low n)

  -- a node from low on is the least one, or lies behind it
  first_or : (low p e : ℕ) → Least ns n low p → 0 < e → e ≤ n → low ≤ rank_in (at ns e) →
      (0 < p) × ((e ≡ p) ⊎ (rank_in (at ns p) + 1 ≤ rank_in (at ns e)))
  first_or low p e l z m up =
      let some : 0 < p = elim (same_or p 0) [
        | inl is ↦ absurd (omega (arith, l.none is e z m))
        | inr ne ↦
            omega arith
      ] in
      let s = l.some some in
      let le = l.least some e z m up in (
        some,
        elim (same_or e p) [
          | inl is ↦ inl is
          | inr ne ↦ (
              let other : rank_in (at ns e) ≢ rank_in (at ns p) =
              λ is. ne (c.alone e p z m some s.0 (rank_number _ _ _ _ (c.fits e m) (c.fits p s.0) is).1) in
              inr (omega (arith, le, other)))
        ],
      )

  -- ---- the words of a lock
  -- what stands in the words of a lock from low on
  record AreWords (lock low : ℕ) (xs : List (ℕ × ℕ)) : Type 0 where
    rising : Rising (λ (x : ℕ × ℕ). x.0) xs
    sound : (x : ℕ × ℕ) → In x xs → (e : ℕ) × ((0 < e) × (e ≤ n) × ((at ns e).lock ≡ lock) × (low ≤ rank_in (at ns e)) ×
        (x ≡ pair_of (at ns e)))
    complete : (e : ℕ) → 0 < e → e ≤ n → (at ns e).lock ≡ lock → low ≤ rank_in (at ns e) → In (pair_of (at ns e)) xs

  no_words : (lock low p : ℕ) → rank_of_number lock 0 ≤ low → Least ns n low p → (0 < p → (at ns p).lock ≢ lock) →
      AreWords lock low []
  no_words lock low p from l other = record {
    rising = tt;
    sound = λ x i. absurd i;
    complete = λ e z m is up. (
        let f = first_or low p e l z m up in
        let s = l.some f.0 in
        let at_p : lock ≤ (at ns p).lock = lock_first lock (at ns p).lock (at ns p).number (c.fits p s.0)
        (omega (arith, s.1, from)) in
        absurd (elim f.1 [
          | inl same ↦ other f.0 (sym (ap (λ j. (at ns j).lock) same) ∙ is)
          | inr behind ↦ (
              let up : (at ns p).lock ≤ (at ns e).lock = lock_up (at ns p).lock (at ns e).lock (at ns p).number
              (at ns e).number (c.fits p s.0) (c.fits e m) (omega arith) in
              other f.0 (omega (arith, up, at_p, is)))
        ]));
  }

  words_are : (lock most low p : ℕ) → rank_of_number lock 0 ≤ low → Least ns n low p → EndsWithin ns most p →
      AreWords lock low (words_from ns lock most p)
  words_are lock zero low p from l ends = no_words lock low p from l (λ some. absurd (omega (arith, ends)))
  words_are lock (suc most) low p from l ends = elim (both_bool (goes_on ns lock p)) [
    | inr stops ↦ subst (AreWords lock low) (sym (ap (λ b. cond b
        (pair_of (at ns p) ∷ words_from ns lock most (at ns p).next) []) stops))
        (no_words lock low p from l (λ some is. true_false (goes_on ns lock p) (goes_at ns lock p some is) stops))
    | inl goes_on_here ↦ (
        let here = going_on ns lock p goes_on_here in
        let some : 0 < p = here.0 in
        let s = l.some some in
        let rest = words_are lock most (rank_in (at ns p) + 1) (at ns p).next (omega (arith, s.1, from))
        (behind p some s.0) (ends some).1 in
        subst (AreWords lock low) (sym (ap (λ b. cond b (pair_of (at ns p) ∷ words_from ns lock most (at ns p).next) [])
        goes_on_here)) (record {
          rising = (
            (λ y i. (
                let e = rest.sound y i in
                let up = e.1.3 in
                let same : (at ns e.0).lock ≡ (at ns p).lock = e.1.2 ∙ sym here.1 in
                let key : y.0 ≡ (at ns e.0).number = ap (λ (x : ℕ × ℕ). x.0) e.1.4 in
                omega (arith, up, same, key))),
            rest.rising,
          );
          sound = λ x i. elim i [
            | inl is ↦ (p, (some, s.0, here.1, s.1, is))
            | inr j ↦ (let e = rest.sound x j in let up = e.1.3 in
                (e.0, (e.1.0, e.1.1, e.1.2, omega (arith, up, s.1), e.1.4)))
          ];
          complete = λ e z m is up. elim (first_or low p e l z m up).1 [
            | inl same ↦ inl (ap (λ j. pair_of (at ns j)) same)
            | inr later ↦ inr (rest.complete e z m is later)
          ];
        }))
  ]

  is_this : (o : Option ℕ) (lock : ℕ) → is_number o lock ≡ true → o ≡ Some lock
  is_this None lock t = absurd (true_false false t refl)
  is_this (Some k) lock t = (let e : k ≡ lock = grind (arith, nat_tests, t) in ap Some e)

  this_is : (o : Option ℕ) (lock : ℕ) → o ≡ Some lock → is_number o lock ≡ true
  this_is o lock e = ap (λ p. is_number p lock) e ∙ (let s : nat_eq lock lock ≡ true = grind (arith, nat_tests) in s)

  -- the words from the first one of a lock on are the pairs of the lock
  pub pairs_are : (lock most p : ℕ) → Least ns n (rank_of_number lock 0) p → EndsWithin ns most p →
      words_from ns lock most p ≡ pairs_of (log_value ns n) lock
  pairs_are lock most p l ends =
      let w : LogValue = log_value ns n in
      let test : ℕ × ℕ → Bool = λ x. is_number (get w.locks x.0) lock in
      let words = words_are lock most (rank_of_number lock 0) p (omega arith) l ends in
      rising_same (λ (x : ℕ × ℕ). x.0) (words_from ns lock most p) (pairs_of w lock) words.rising
      (rising_filter (λ (x : ℕ × ℕ). x.0) test (log_pairs w) (rising_entries w.words))
      (λ x i. (
      let e = words.sound x i in
      let at_e : get w.locks (at ns e.0).number ≡ Some lock = get_lock ns n e.0 _ c e.1.0 e.1.1 refl ∙ ap Some e.1.2 in
      subst (λ y. In y (pairs_of w lock)) (sym e.1.4)
      (in_filter test (log_pairs w) (pair_of (at ns e.0)) (get_in w.words _ _ (get_word ns n e.0 _ c e.1.0 e.1.1 refl))
      (this_is _ lock at_e))))
      (λ x i. (
      let s = filter_in test (log_pairs w) x i in
      let source = get_source (numbers ns) (values_at ns) n x.0 x.1 (in_get w.words x.0 x.1 s.0) in
      let e : ℕ = source.node in
      let here : get w.locks x.0 ≡ Some (at ns e).lock = get_lock ns n e x.0 c source.some source.inside source.key_is
      in
      let lock_is : (at ns e).lock ≡ lock = some_same _ _ (sym here ∙ is_this _ lock s.1) in
      let pair : pair_of (at ns e) ≡ x = λ j. (source.key_is j, source.value_is j) in
      subst (λ y. In y (words_from ns lock most p)) pair (words.complete e source.some source.inside lock_is
      (first_of_lock lock (at ns e).lock (at ns e).number (omega (arith, lock_is))))))
    where
      some_same : (a b : ℕ) → Some a ≡ Some b → a ≡ b
      some_same a b e = cc

  -- ---- the locks
  -- what stands in the locks from low on
  record AreLocks (low : ℕ) (xs : List ℕ) : Type 0 where
    rising : Rising (λ x. x) xs
    sound : (q : ℕ) → In q xs → (e : ℕ) × ((0 < e) × (e ≤ n) × (low ≤ rank_in (at ns e)) × ((at ns e).lock ≡ q))
    complete : (e : ℕ) → 0 < e → e ≤ n → low ≤ rank_in (at ns e) → In (at ns e).lock xs

  no_locks : (low p : ℕ) → p ≡ 0 → Least ns n low p → AreLocks low []
  no_locks low p none l = record {
    rising = tt;
    sound = λ q i. absurd i;
    complete = λ e z m up. absurd (omega (arith, l.none none e z m));
  }

  -- the next node has a greater lock
  lock_ends : (p : ℕ) → 0 < p → p ≤ n → goes_on ns (at ns p).lock (at ns p).next ≡ false → (e : ℕ) → 0 < e → e ≤ n →
      rank_in (at ns p) + 1 ≤ rank_in (at ns e) → (at ns p).lock < (at ns e).lock
  lock_ends p some m stops e z k up =
      let q : ℕ = (at ns p).next in
      let f = first_or _ q e (behind p some m) z k up in
      let s = (behind p some m).some f.0 in
      let s0 = s.0 in let s1 = s.1 in
      let other : (at ns q).lock ≢ (at ns p).lock = λ is. true_false (goes_on ns (at ns p).lock q)
      (goes_at ns (at ns p).lock q f.0 is) stops in
      let step : (at ns p).lock ≤ (at ns q).lock = lock_up (at ns p).lock (at ns q).lock (at ns p).number
      (at ns q).number (c.fits p m) (c.fits q s0) (omega arith) in
      let on : (at ns q).lock ≤ (at ns e).lock = elim f.1 [
        | inl same ↦ omega (arith, ap (λ j. (at ns j).lock) same)
        | inr later ↦ lock_up (at ns q).lock (at ns e).lock (at ns q).number (at ns e).number (c.fits q s0) (c.fits e k)
            (omega arith)
      ] in
      omega (arith, other, step, on)

  locks_are : (most low p : ℕ) → Least ns n low p → EndsWithin ns most p → AreLocks low (locks_from ns most p)
  locks_are zero low p l ends = no_locks low p ends l
  locks_are (suc most) low p l ends = elim (same_or p 0) [
    | inl none ↦ subst (AreLocks low) (sym (ap (λ b. cond b []
        (cond (goes_on ns (at ns p).lock (at ns p).next) (locks_from ns most (at ns p).next)
        ((at ns p).lock ∷ locks_from ns most (at ns p).next))) (eq_zero p none))) (no_locks low p none l)
    | inr ne ↦ (
        let some : 0 < p = omega arith in
        let s = l.some some in
        let s1 = s.1 in
        let rest = locks_are most (rank_in (at ns p) + 1) (at ns p).next (behind p some s.0) (ends some).1 in
        let start : locks_from ns (suc most) p ≡ cond (goes_on ns (at ns p).lock (at ns p).next)
        (locks_from ns most (at ns p).next) ((at ns p).lock ∷ locks_from ns most (at ns p).next) =
        ap (λ b. cond b [] (cond (goes_on ns (at ns p).lock (at ns p).next) (locks_from ns most (at ns p).next)
        ((at ns p).lock ∷ locks_from ns most (at ns p).next))) (not_zero p some) in
        subst (AreLocks low) (sym start) (elim (both_bool (goes_on ns (at ns p).lock (at ns p).next)) [
          | inl goes ↦ subst (AreLocks low) (sym (ap (λ b. cond b (locks_from ns most (at ns p).next)
              ((at ns p).lock ∷ locks_from ns most (at ns p).next)) goes)) (record {
                rising = rest.rising;
                sound = λ q i. (let e = rest.sound q i in let up = e.1.2 in
                    (e.0, (e.1.0, e.1.1, omega (arith, up, s1), e.1.3)));
                complete = λ e z m up. elim (first_or low p e l z m up).1 [
                  | inl same ↦ (
                      let next = going_on ns (at ns p).lock (at ns p).next goes in
                      let at_next = (behind p some s.0).some next.0 in
                      subst (λ k. In k (locks_from ns most (at ns p).next))
                      (next.1 ∙ ap (λ j. (at ns j).lock) (sym same))
                      (rest.complete (at ns p).next next.0 at_next.0 at_next.1))
                  | inr later ↦ rest.complete e z m later
                ];
              })
          | inr stops ↦ subst (AreLocks low) (sym (ap (λ b. cond b (locks_from ns most (at ns p).next)
              ((at ns p).lock ∷ locks_from ns most (at ns p).next)) stops)) (record {
                rising = (
                  (λ q i. (let e = rest.sound q i in let up = lock_ends p some s.0 stops e.0 e.1.0 e.1.1 e.1.2 in
                      let is = e.1.3 in omega (arith, up, is))),
                  rest.rising,
                );
                sound = λ q i. elim i [
                  | inl is ↦ (p, (some, s.0, s.1, sym is))
                  | inr j ↦ (let e = rest.sound q j in let up = e.1.2 in
                      (e.0, (e.1.0, e.1.1, omega (arith, up, s1), e.1.3)))
                ];
                complete = λ e z m up. elim (first_or low p e l z m up).1 [
                  | inl same ↦ inl (ap (λ j. (at ns j).lock) same)
                  | inr later ↦ inr (rest.complete e z m later)
                ];
              })
        ]))
  ]

  -- the locks from the first node on are those of the log
  pub all_locks : (most p : ℕ) → Least ns n 0 p → EndsWithin ns most p →
      locks_from ns most p ≡ log_locks (log_value ns n)
  all_locks most p l ends =
      let w : LogValue = log_value ns n in
      let locks = locks_are most 0 p l ends in
      rising_same (λ x. x) (locks_from ns most p) (log_locks w) locks.rising (locks_rise w)
      (λ q i. (let e = locks.sound q i in subst (λ k. In k (log_locks w)) e.1.3
      (in_locks w (at ns e.0).number (at ns e.0).lock (get_lock ns n e.0 _ c e.1.0 e.1.1 refl))))
      (λ q i. (
      let s = locks_in w q i in
      let source = get_source (numbers ns) (locks_at ns) n s.0 q s.1 in
      subst (λ k. In k (locks_from ns most p)) source.value_is
      (locks.complete source.node source.some source.inside (omega arith))))

  -- the words behind the last ones of a lock begin with those of the next lock
  pub least_of_lock : (p : ℕ) → 0 < p → p ≤ n → goes_on ns (at ns p).lock (at ns p).next ≡ false → 0 < (at ns p).next →
      Least ns n (rank_of_number (at ns ((at ns p).next)).lock 0) (at ns p).next
  least_of_lock p some m stops there =
      let q : ℕ = (at ns p).next in
      let old = behind p some m in
      let s = old.some there in
      let up = lock_ends p some m stops q there s.0 s.1 in
      let low : rank_in (at ns p) + 1 ≤ rank_of_number (at ns q).lock 0 =
      next_lock (at ns p).lock (at ns q).lock (at ns p).number (c.fits p m) up in
      record {
        none = λ z. absurd (omega arith);
        some = λ _. (s.0, first_of_lock (at ns q).lock (at ns q).lock (at ns q).number (omega arith));
        least = λ z f y k at_f. old.least z f y k (omega arith);
      }

  -- the first words of all begin with those of their lock
  pub first_lock : (p : ℕ) → Least ns n 0 p → 0 < p → Least ns n (rank_of_number (at ns p).lock 0) p
  first_lock p l some = record {
    none = λ z. absurd (omega arith);
    some = λ _. ((l.some some).0, first_of_lock (at ns p).lock (at ns p).lock (at ns p).number (omega arith));
    least = λ z f y k _. l.least z f y k (omega arith);
  }

  -- ---- where a lock's words begin
  pub least_behind : (x b : ℕ) → IsBefore ns n x b → Least ns n x (at ns b).next
  least_behind x b before =
      let old = c.next b before.below.inside in
      let less = before.below.less in
      record {
        none = λ none f z m. (let l = old.none none f z m in omega (arith, l, less));
        some = λ some. ((old.some some).0, before.last some);
        least = λ some f z m up. old.least some f z m (omega (arith, up, less));
      }

  -- the first node is the least one
  pub least_first : Least ns n 0 (at ns 0).next
  least_first = c.next 0 (omega arith)

  -- the first node from a lock on tells whether a word has the lock
  pub lock_there : (lock p : ℕ) → Least ns n (rank_of_number lock 0) p → 0 < p → (at ns p).lock ≡ lock →
      (a : ℕ) × (get (log_value ns n).locks a ≡ Some lock)
  lock_there lock p l some is = ((at ns p).number, get_lock ns n p _ c some (l.some some).0 refl ∙ ap Some is)

  pub there_lock : (lock p a : ℕ) → Least ns n (rank_of_number lock 0) p → get (log_value ns n).locks a ≡ Some lock →
      (0 < p) × ((at ns p).lock ≡ lock)
  there_lock lock p a l is =
      let source = get_source (numbers ns) (locks_at ns) n a lock is in
      let e : ℕ = source.node in
      let lock_is = source.value_is in
      let f = first_or (rank_of_number lock 0) p e l source.some source.inside
      (first_of_lock lock (at ns e).lock (at ns e).number (omega (arith, lock_is))) in
      let s = l.some f.0 in
      let from = s.1 in
      let up : lock ≤ (at ns p).lock = lock_first lock (at ns p).lock (at ns p).number (c.fits p s.0) from in (
        f.0,
        elim f.1 [
          | inl same ↦ ap (λ j. (at ns j).lock) (sym same) ∙ lock_is
          | inr later ↦ (
              let on : (at ns p).lock ≤ (at ns e).lock = lock_up (at ns p).lock (at ns e).lock (at ns p).number
              (at ns e).number (c.fits p s.0) (c.fits source.node source.inside) (omega arith) in
              omega (arith, up, on, lock_is))
        ],
      )

-- ---- logs without words
no_length : {X : Type 0} (xs : List X) → length xs ≡ 0 → xs ≡ []
no_length [] e = refl
no_length (x ∷ xs) e = absurd (omega arith)

none_entries : entries (empty {X = ℕ} {R = nat_cmp}) ≡ []
none_entries = no_length _ (sym (len-entries (empty {X = ℕ} {R = nat_cmp})) ∙ len-empty nat_cmp ℕ)

pub empty_locks : log_locks empty_log ≡ []
empty_locks = ap (λ (es : List (ℕ × ℕ)). keys {R = nat_cmp} (from_entries (map (λ (p : ℕ × ℕ). (p.1, p.0)) es)))
    none_entries ∙ ap (map (λ (p : ℕ × ℕ). p.0)) none_entries

pub empty_pairs : (lock : ℕ) → pairs_of empty_log lock ≡ []
empty_pairs lock = ap (filter (λ (p : ℕ × ℕ). is_number (get empty_log.locks p.0) lock)) none_entries

-- one element behind the others
pub drop_more : (xs ys : List ℕ) (n x : ℕ) → drop n xs ≡ x ∷ ys → (drop (n + 1) xs ≡ ys) × (get_or xs n 0 ≡ x)
drop_more [] ys zero x e = cc
drop_more [] ys (suc n) x e = cc
drop_more (z ∷ xs) ys zero x e = (cc, cc)
drop_more (z ∷ xs) ys (suc n) x e = let rest = drop_more xs ys n x e in
    (let up : suc n + 1 ≡ suc (n + 1) = omega arith in rw up rest.0, rest.1)

pub drop_none : (xs : List ℕ) (n : ℕ) → drop n xs ≡ [] → length xs ≤ n
drop_none [] n e = omega arith
drop_none (x ∷ xs) zero e = cc
drop_none (x ∷ xs) (suc n) e = let rest = drop_none xs n e in omega (arith, rest)

drop_empty : (n : ℕ) → drop {A = ℕ} n [] ≡ []
drop_empty zero = refl
drop_empty (suc n) = refl

drop_past : (xs : List ℕ) (n : ℕ) → length xs ≤ n → drop (n + 1) xs ≡ []
drop_past [] n h = drop_empty (n + 1)
drop_past (x ∷ xs) zero h = absurd (omega arith)
drop_past (x ∷ xs) (suc n) h = let rest = drop_past xs n (omega arith) in let up : suc n + 1 ≡ suc (n + 1) =
    omega arith in rw up rest

-- an iterator that stands behind n numbers of a list goes on by one
pub next_drop : (r : Option ℕ) (xs ys zs : List ℕ) (n : ℕ) → MatchOption r ((xs ≡ []) × (ys ≡ [])) (λ x. xs ≡ x ∷ ys) →
    xs ≡ drop n zs → ys ≡ drop (n + 1) zs
next_drop None xs ys zs n h e = h.1 ∙ sym (drop_past zs n (drop_none zs n (sym e ∙ h.0)))
next_drop (Some x) xs ys zs n h e = sym (drop_more zs ys n x (sym e ∙ h)).0

pub next_some : (r : Option ℕ) (xs ys zs : List ℕ) (n : ℕ) → MatchOption r ((xs ≡ []) × (ys ≡ [])) (λ x. xs ≡ x ∷ ys) →
    xs ≡ drop n zs → n < length zs → r ≡ Some (get_or zs n 0)
next_some None xs ys zs n h e l = let few = drop_none zs n (sym e ∙ h.0) in absurd (omega arith)
next_some (Some x) xs ys zs n h e l = ap Some (sym (drop_more zs ys n x (sym e ∙ h)).1)

-- ---- one step along a chain
pub step_inside : (ns : List Node) (most p : ℕ) → 0 < p → EndsWithin ns most p →
    (0 < most) × (p < length ns) × EndsWithin ns (most - 1) (at ns p).next
step_inside ns zero p some ends = absurd (omega (arith, ends))
step_inside ns (suc most) p some ends =
    let up : suc most - 1 ≡ most = omega arith in
    (omega arith, (ends some).0, subst (λ k. EndsWithin ns k (at ns p).next) (sym up) (ends some).1)

-- the same lock goes on
pub step_on : (ns : List Node) (most p : ℕ) → 0 < p → EndsWithin ns most p →
    goes_on ns (at ns p).lock (at ns p).next ≡ true
    → locks_from ns most p ≡ locks_from ns (most - 1) (at ns p).next
step_on ns zero p some ends goes = absurd (omega (arith, ends))
step_on ns (suc most) p some ends goes =
    let next : ℕ = (at ns p).next in
    let up : suc most - 1 ≡ most = omega arith in
    ap (λ b. cond b [] (cond (goes_on ns (at ns p).lock next) (locks_from ns most next)
    ((at ns p).lock ∷ locks_from ns most next))) (not_zero p some)
    ∙ ap (λ b. cond b (locks_from ns most next) ((at ns p).lock ∷ locks_from ns most next)) goes ∙
    ap (λ k. locks_from ns k next) (sym up)

-- another lock follows, or none
pub step_last : (ns : List Node) (most p : ℕ) → 0 < p → EndsWithin ns most p →
    goes_on ns (at ns p).lock (at ns p).next ≡ false
    → locks_from ns most p ≡ (at ns p).lock ∷ locks_from ns (most - 1) (at ns p).next
step_last ns zero p some ends stops = absurd (omega (arith, ends))
step_last ns (suc most) p some ends stops =
    let next : ℕ = (at ns p).next in
    let up : suc most - 1 ≡ most = omega arith in
    ap (λ b. cond b [] (cond (goes_on ns (at ns p).lock next) (locks_from ns most next)
    ((at ns p).lock ∷ locks_from ns most next))) (not_zero p some)
    ∙ ap (λ b. cond b (locks_from ns most next) ((at ns p).lock ∷ locks_from ns most next)) stops ∙
    ap (λ k. (at ns p).lock ∷ locks_from ns k next) (sym up)

-- a node that leads on lies in the block
pub next_inside : (ns : List Node) (left here next : ℕ) → 0 < here → EndsWithin ns left here →
    next ≡ (at ns here).next →
    0 < next → next < length ns
next_inside ns left here next some ends is more =
    let rest : EndsWithin ns (left - 1) next = subst (EndsWithin ns (left - 1)) (sym is)
    (step_inside ns left here some ends).2 in
    (step_inside ns (left - 1) next more rest).1

-- the locks behind the last node of a lock
pub locks_past : (ns : List Node) (most start left here lock next : ℕ) (b : Bool) → 0 < here → EndsWithin ns left here →
    (at ns here).lock ≡ (at ns start).lock → next ≡ (at ns here).next
    → lock ≡ (at ns start).lock → b ≡ goes_on ns lock next → b ≡ false →
    locks_from ns most start ≡ locks_from ns left here
    → locks_from ns most start ≡ (at ns start).lock ∷ locks_from ns (left - 1) next
locks_past ns most start left here lock next b some ends same is lock_is goes stops kept =
    let off : goes_on ns (at ns here).lock (at ns here).next ≡ false =
    ap (λ k. goes_on ns k (at ns here).next) (same ∙ sym lock_is) ∙ ap (goes_on ns lock) (sym is) ∙ sym goes ∙ stops in
    kept ∙ step_last ns left here some ends off ∙ ap (λ k. k ∷ locks_from ns (left - 1) (at ns here).next) same ∙
    ap (λ q. (at ns start).lock ∷ locks_from ns (left - 1) q) (sym is)
