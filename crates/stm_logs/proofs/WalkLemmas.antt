-- The keys of a short log give its locks and its words in their order.
use Rattle.std.proofs.Common.{◌≡◌, ◌≢◌, inl, inr, ℕ, zero, suc, ◌+◌, ◌-◌, ◌/◌, ◌%◌, ◌<◌, ◌≤◌, Bool, Option, Some}
use Rattle.std.proofs.Common.{None}
use Rattle.std.proofs.Common.{List, [], ◌∷◌, ◌++◌, nat_eq, cond, refl, sym, ap, ◌∙◌, arith, subst, true, false}
use Rattle.std.specs.FinMap.{get}
use Rattle.std.specs.List.{flat_map}
use Rattle.std.proofs.lemmas.Bool.Decides.{nat_tests}
use Rattle.stm_logs.specs.declared.short.ShortLog.{ShortLog}
use Rattle.stm_logs.specs.declared.keys.TheConstants.{POSITIONS}
use Rattle.stm_logs.specs.Keys.{key_at}
use Rattle.stm_logs.specs.Log.{LogValue, log_pairs, log_locks, is_number, pairs_of, pairs_by_lock}
use Rattle.stm_logs.specs.Short.{entry, short_log, key_of, IsShort, Has, HasNone, locks_at, pair_at, pairs_at, word_at}
use Rattle.stm_logs.proofs.NodeLemmas.{same_or}
use Rattle.stm_logs.proofs.TableLemmas.{get_source, true_false}
use Rattle.stm_logs.proofs.RisingLemmas.{In, Rising, rising_entries, get_in, in_get, filter_in, in_filter}
use Rattle.stm_logs.proofs.RisingLemmas.{rising_filter, rising_same}
use Rattle.stm_logs.proofs.LockLemmas.{locks_rise, locks_in, in_locks}
use Rattle.stm_logs.proofs.LogLemmas.{eq_zero, not_zero}
use Rattle.stm_logs.proofs.ShortLemmas.{short_lock, short_some}

-- ---- one key
lock_of_key : (l e : ℕ) → e < POSITIONS → key_of l e / POSITIONS ≡ l
lock_of_key l e less = omega arith

position_of_key : (l e : ℕ) → e < POSITIONS → key_of l e % POSITIONS ≡ e
position_of_key l e less = omega arith

some_same : (a b : ℕ) → Some a ≡ Some b → a ≡ b
some_same a b e = cc

is_this : (o : Option ℕ) (lock : ℕ) → is_number o lock ≡ true → o ≡ Some lock
is_this None lock t = absurd (true_false false t refl)
is_this (Some k) lock t = (let e : k ≡ lock = grind (arith, nat_tests, t) in ap Some e)

this_is : (o : Option ℕ) (lock : ℕ) → o ≡ Some lock → is_number o lock ≡ true
this_is o lock e = ap (λ p. is_number p lock) e ∙ (let s : nat_eq lock lock ≡ true = grind (arith, nat_tests) in s)

module _ (s : ShortLog) (short : IsShort s) where
  abbrev key : ℕ → ℕ
  key = key_at s.keys

  abbrev log : LogValue
  log = short_log s

  -- the word of a key
  pub record KeyWord (j : ℕ) : Type 0 where
    pub word : ℕ
    pub some : 0 < word
    pub inside : word ≤ s.count
    pub lock_is : key j / POSITIONS ≡ entry s.locks word
    pub position_is : key j % POSITIONS ≡ word
    pub key_is : key j ≡ key_of (entry s.locks word) word

  pub word_of_key : (j : ℕ) → j < s.count → KeyWord j
  word_of_key j l =
      let w = short.sorted.sound j l in
      let m = w.1.1 in
      let room = short.words.room in
      let less : w.0 < POSITIONS = omega (arith, m, room) in
      record {
        word = w.0;
        some = w.1.0;
        inside = m;
        lock_is = ap (λ k. k / POSITIONS) w.1.2 ∙ lock_of_key (entry s.locks w.0) w.0 less;
        position_is = ap (λ k. k % POSITIONS) w.1.2 ∙ position_of_key (entry s.locks w.0) w.0 less;
        key_is = w.1.2;
      }

  -- the locks of the keys strictly rise
  locks_up : (i j : ℕ) → i < j → j < s.count → key i / POSITIONS < key j / POSITIONS
  locks_up i j l m =
      let a = word_of_key i (omega arith) in
      let b = word_of_key j m in
      let up = short.sorted.keys.ascending i j l m in
      let room = short.words.room in
      let a_inside = a.inside in
      let b_inside = b.inside in
      let other : entry s.locks a.word ≢ entry s.locks b.word = λ same.
      (let e = short.words.locks a.word b.word a.some a.inside b.some b.inside same in
      let keys : key i ≡ key j = a.key_is ∙ ap (λ k. key_of k a.word) same ∙ ap (key_of (entry s.locks b.word)) e ∙
      sym b.key_is in
      absurd (omega (arith, up, keys))) in
      let less : entry s.locks a.word < entry s.locks b.word =
      omega (arith, up, other, a.key_is, b.key_is, room, a_inside, b_inside) in
      omega (arith, less, a.lock_is, b.lock_is)

  -- ---- the locks
  in_keys : (left at q : ℕ) → In q (locks_at key left at) → (j : ℕ) ×
      ((at ≤ j) × (j < at + left) × (q ≡ key j / POSITIONS))
  in_keys zero at q i = absurd i
  in_keys (suc left) at q (inl is) = (at, (omega arith, omega arith, is))
  in_keys (suc left) at q (inr i) =
      let r = in_keys left (at + 1) q i in
      let low = r.1.0 in
      let high = r.1.1 in
      (r.0, (omega (arith, low), omega (arith, high), r.1.2))

  keys_in : (left at j : ℕ) → at ≤ j → j < at + left → In (key j / POSITIONS) (locks_at key left at)
  keys_in zero at j low high = absurd (omega arith)
  keys_in (suc left) at j low high = elim (same_or j at) [
    | inl is ↦ inl (ap (λ i. key i / POSITIONS) is)
    | inr ne ↦ inr (keys_in left (at + 1) j (omega arith) (omega arith))
  ]

  locks_rising : (left at : ℕ) → at + left ≤ s.count → Rising (λ x. x) (locks_at key left at)
  locks_rising zero at m = tt
  locks_rising (suc left) at m = (
    λ q i. (
        let r = in_keys left (at + 1) q i in
        let low = r.1.0 in
        let high = r.1.1 in
        let up = locks_up at r.0 (omega (arith, low)) (omega (arith, high)) in
        omega (arith, up, r.1.2)),
    locks_rising left (at + 1) (omega arith),
  )

  pub all_locks : locks_at key s.count 0 ≡ log_locks log
  all_locks = rising_same (λ x. x) (locks_at key s.count 0) (log_locks log) (locks_rising s.count 0 (omega arith))
      (locks_rise log)
      (λ q i. (
      let r = in_keys s.count 0 q i in
      let high = r.1.1 in
      let w = word_of_key r.0 (omega (arith, high)) in
      subst (λ k. In k (log_locks log)) (sym (r.1.2 ∙ w.lock_is))
      (in_locks log (entry s.numbers w.word) (entry s.locks w.word) (short_lock s w.word short w.some w.inside))))
      (λ q i. (
      let a = locks_in log q i in
      let source = get_source (entry s.numbers) (entry s.locks) s.count a.0 q a.1 in
      let j = short.sorted.complete source.node source.some source.inside in
      let inside = source.inside in
      let room = short.words.room in
      let lock : key j.0 / POSITIONS ≡ q = ap (λ k. k / POSITIONS) j.1.1 ∙
      lock_of_key (entry s.locks source.node) source.node (omega (arith, inside, room)) ∙ source.value_is in
      let l = j.1.0 in
      subst (λ k. In k (locks_at key s.count 0)) lock (keys_in s.count 0 j.0 (omega arith) (omega (arith, l)))))

  -- ---- the words of one lock
  -- a word of the lock, from the pairs of the lock
  word_in : (lock : ℕ) (x : ℕ × ℕ) → In x (pairs_of log lock) →
      (e : ℕ) × ((0 < e) × (e ≤ s.count) × (entry s.locks e ≡ lock) × (pair_at s e ≡ x))
  word_in lock x i =
      let test : ℕ × ℕ → Bool = λ y. is_number (get log.locks y.0) lock in
      let f = filter_in test (log_pairs log) x i in
      let source = get_source (entry s.numbers) (entry s.values) s.count x.0 x.1 (in_get log.words x.0 x.1 f.0) in
      let here : get log.locks x.0 ≡ Some (entry s.locks source.node) = ap (get log.locks) (sym source.key_is) ∙
      short_lock s source.node short source.some source.inside in (
        source.node,
        (
          source.some,
          source.inside,
          some_same _ _ (sym here ∙ is_this _ lock f.1),
          λ j. (source.key_is j, source.value_is j),
        ),
      )

  in_pairs : (lock e : ℕ) → 0 < e → e ≤ s.count → entry s.locks e ≡ lock → In (pair_at s e) (pairs_of log lock)
  in_pairs lock e z m is =
      let test : ℕ × ℕ → Bool = λ y. is_number (get log.locks y.0) lock in
      in_filter test (log_pairs log) (pair_at s e)
      (get_in log.words (entry s.numbers e) (entry s.values e) (short_some s (entry s.numbers e) e short z (m, refl)))
      (this_is _ lock (short_lock s e short z m ∙ ap Some is))

  pairs_rise : (lock : ℕ) → Rising (λ (x : ℕ × ℕ). x.0) (pairs_of log lock)
  pairs_rise lock = rising_filter (λ (x : ℕ × ℕ). x.0) (λ (y : ℕ × ℕ). is_number (get log.locks y.0) lock)
      (log_pairs log) (rising_entries log.words)

  pub one_word : (lock e : ℕ) → 0 < e → e ≤ s.count → entry s.locks e ≡ lock → pairs_of log lock ≡ pair_at s e ∷ []
  one_word lock e z m is = rising_same (λ (x : ℕ × ℕ). x.0) (pairs_of log lock) (pair_at s e ∷ []) (pairs_rise lock)
      ((λ y i. absurd i), tt)
      (λ x i. (
      let w = word_in lock x i in
      let same : w.0 ≡ e = short.words.locks w.0 e w.1.0 w.1.1 z m (w.1.2 ∙ sym is) in
      inl (sym w.1.3 ∙ ap (pair_at s) same)))
      (λ x i. elim i [
        | inl here ↦ subst (λ y. In y (pairs_of log lock)) (sym here) (in_pairs lock e z m is)
        | inr none ↦ absurd none
      ])

  no_word : (lock : ℕ) → HasNone s s.locks lock → pairs_of log lock ≡ []
  no_word lock none = rising_same (λ (x : ℕ × ℕ). x.0) (pairs_of log lock) [] (pairs_rise lock) tt
      (λ x i. (let w = word_in lock x i in absurd (none w.0 w.1.0 w.1.1 w.1.2)))
      (λ x i. absurd i)

  pub words_are : (lock e : ℕ) → (0 < e → Has s s.locks lock e) → (e ≡ 0 → HasNone s s.locks lock) →
      word_at s e ≡ pairs_of log lock
  words_are lock e some none = elim (same_or e 0) [
    | inl is ↦ ap (λ b. cond b [] (pair_at s e ∷ [])) (eq_zero e is) ∙ sym (no_word lock (none is))
    | inr ne ↦ (
        let z : 0 < e = omega arith in
        let has = some z in
        ap (λ b. cond b [] (pair_at s e ∷ [])) (not_zero e z) ∙ sym (one_word lock e z has.0 has.1))
  ]

  -- ---- all words
  flat : (left at : ℕ) → at + left ≤ s.count → flat_map (pairs_of log) (locks_at key left at) ≡ pairs_at s left at
  flat zero at m = refl
  flat (suc left) at m =
      let w = word_of_key at (omega arith) in
      let rest = flat left (at + 1) (omega arith) in
      ap (λ (ws : List (ℕ × ℕ)). ws ++ flat_map (pairs_of log) (locks_at key left (at + 1)))
      (one_word (key at / POSITIONS) w.word w.some w.inside (sym w.lock_is) ∙
      ap (λ e. pair_at s e ∷ []) (sym w.position_is))
      ∙ ap (λ (ws : List (ℕ × ℕ)). pair_at s (key at % POSITIONS) ∷ ws) rest

  pub all_pairs : pairs_at s s.count 0 ≡ pairs_by_lock log
  all_pairs = sym (flat s.count 0 (omega arith)) ∙ ap (flat_map (pairs_of log)) all_locks

-- ---- one step along the keys
pub locks_step : (key : ℕ → ℕ) (left at : ℕ) → 0 < left →
    locks_at key left at ≡ key at / POSITIONS ∷ locks_at key (left - 1) (at + 1)
locks_step key zero at some = absurd (omega arith)
locks_step key (suc left) at some =
    let down : suc left - 1 ≡ left = omega arith in
    ap (λ k. key at / POSITIONS ∷ locks_at key k (at + 1)) (sym down)

pub pairs_step : (s : ShortLog) (left at : ℕ) → 0 < left →
    pairs_at s left at ≡ pair_at s (key_at s.keys at % POSITIONS) ∷ pairs_at s (left - 1) (at + 1)
pairs_step s zero at some = absurd (omega arith)
pairs_step s (suc left) at some =
    let down : suc left - 1 ≡ left = omega arith in
    ap (λ k. pair_at s (key_at s.keys at % POSITIONS) ∷ pairs_at s k (at + 1)) (sym down)
