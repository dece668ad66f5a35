-- Lemmas on the contents of a short log and their changes.
use Rattle.std.proofs.Common.{◌≡◌, ◌≢◌, ◌⊎◌, inl, inr, ℕ, zero, suc, ◌+◌, ◌%◌, ◌<◌, ◌≤◌, ◌↔◌, Some, None}
use Rattle.std.proofs.Common.{List}
use Rattle.std.proofs.Common.{length, set, refl, sym, ap, ◌∙◌, arith, subst, add-one, get_or-set_same}
use Rattle.std.proofs.Common.{get_or-set_other, ◌-◌, length-set}
use Rattle.std.proofs.lemmas.Bool.{cases_lt}
use Rattle.std.proofs.Math.ListN.{replicate}
use Rattle.std.specs.FinMap.{get, insert, len}
use Rattle.stm_logs.specs.declared.short.ShortLog.{ShortLog}
use Rattle.stm_logs.specs.declared.short.TheConstants.{MARKS, MOST_WORDS}
use Rattle.stm_logs.specs.declared.keys.Keys.{Keys}
use Rattle.stm_logs.specs.declared.keys.TheConstants.{POSITIONS}
use Rattle.stm_logs.specs.Keys.{key_at, AreKeys, HasKey}
use Rattle.stm_logs.specs.Held.{with_word}
use Rattle.stm_logs.specs.Log.{LogValue, SameAddresses, empty_log}
use Rattle.stm_logs.specs.Order.{table}
use Rattle.stm_logs.specs.Short.{entry, short_log, key_of, AreApart, Suits, AreWords, IsLast, AreMarked, AreSorted}
use Rattle.stm_logs.specs.Short.{IsShort, Has, HasNone, HasRows, IsRowOf, IsFreeFor}
use Rattle.stm_logs.proofs.NodeLemmas.{same_or}
use Rattle.stm_logs.proofs.TableLemmas.{some_none, get_there, get_none, get_source, table_same, table_value, len_table}
use Rattle.stm_logs.proofs.LogLemmas.{same_log, put_value}

-- ---- one entry of a row is put anew
-- the row x' is the row x with v at p
pub record IsSet (x x' : ℕ → ℕ) (p v : ℕ) : Type 0 where
  pub here : x' p ≡ v
  pub others : (e : ℕ) → e ≢ p → x' e ≡ x e

pub set_row : (xs : List ℕ) (p v : ℕ) → p < length xs → IsSet (entry xs) (entry (set xs p v)) p v
set_row xs p v l = record {
  here = get_or-set_same xs p v 0 l;
  others = λ e ne. get_or-set_other xs p e v 0 ne;
}

-- ---- a word enters
module _ (number lock mark next number' lock' mark' next' key key' : ℕ → ℕ) (n a l : ℕ)
    (words : AreWords number lock n) (marked : AreMarked number mark next n) (sorted : AreSorted lock key n)
    (room : n < MOST_WORDS) (suits : Suits a l)
    (no_number : (e : ℕ) → 0 < e → e ≤ n → number e ≢ a) (no_lock : (e : ℕ) → 0 < e → e ≤ n → lock e ≢ l)
    (numbers : IsSet number number' (n + 1) a) (locks : IsSet lock lock' (n + 1) l)
    (marks : IsSet mark mark' (a % MARKS) (n + 1)) (nexts : IsSet next next' (n + 1) (mark (a % MARKS)))
    (keys : AreKeys key' (n + 1)) (has : (x : ℕ) → HasKey key' (n + 1) x ↔ (HasKey key n x ⊎ (x ≡ key_of l (n + 1))))
  where
    apart_more : (row row' : ℕ → ℕ) (v : ℕ) → IsSet row row' (n + 1) v → AreApart row n →
        ((e : ℕ) → 0 < e → e ≤ n → row e ≢ v) → AreApart row' (n + 1)
    apart_more row row' v s old none e f ez em fz fm same = elim (same_or e (n + 1)) [
      | inl e_is ↦ elim (same_or f (n + 1)) [
        | inl f_is ↦ e_is ∙ sym f_is
        | inr f_ne ↦ absurd (none f fz (omega arith)
            (sym (s.others f f_ne) ∙ sym same ∙ ap row' e_is ∙ s.here))
      ]
      | inr e_ne ↦ elim (same_or f (n + 1)) [
        | inl f_is ↦ absurd (none e ez (omega arith) (sym (s.others e e_ne) ∙ same ∙ ap row' f_is ∙ s.here))
        | inr f_ne ↦ old e f ez (omega arith) fz (omega arith) (sym (s.others e e_ne) ∙ same ∙ s.others f f_ne)
      ]
    ]

    suit_more : (e : ℕ) → 0 < e → e ≤ n + 1 → Suits (number' e) (lock' e)
    suit_more e z m = elim (same_or e (n + 1)) [
      | inl is ↦ subst (λ i. Suits (number' i) (lock' i)) (sym is)
          (subst (λ k. Suits k (lock' (n + 1))) (sym numbers.here) (subst (Suits a) (sym locks.here) suits))
      | inr ne ↦ subst (λ k. Suits k (lock' e)) (sym (numbers.others e ne))
          (subst (Suits (number e)) (sym (locks.others e ne)) (words.suit e z (omega arith)))
    ]

    pub entered_words : AreWords number' lock' (n + 1)
    entered_words = record {
      room = omega arith;
      numbers = apart_more number number' a numbers words.numbers no_number;
      locks = apart_more lock lock' l locks words.locks no_lock;
      suit = suit_more;
    }

    -- the last of the first k words stays the last of them
    last_kept : (k m p : ℕ) → k ≤ n → IsLast number k m p → IsLast number' k m p
    last_kept k m p small old =
        let inside = old.inside in
        record {
          inside = inside;
          here = λ z. ap (λ x. x % MARKS) (numbers.others p (omega (arith, inside))) ∙ old.here z;
          last = λ e l up is. old.last e l up (sym (ap (λ x. x % MARKS) (numbers.others e (omega arith))) ∙ is);
        }

    last_new : (m : ℕ) → m ≡ a % MARKS → IsLast number' (n + 1) m (n + 1)
    last_new m is = record {
      inside = omega arith;
      here = λ z. ap (λ x. x % MARKS) numbers.here ∙ sym is;
      last = λ e l up. absurd (omega arith);
    }

    last_other : (m p : ℕ) → m ≢ a % MARKS → IsLast number n m p → IsLast number' (n + 1) m p
    last_other m p ne old =
        let kept = last_kept n m p (omega arith) old in
        let inside = kept.inside in
        record {
          inside = omega (arith, inside);
          here = kept.here;
          last = λ e l up is. elim (same_or e (n + 1)) [
            | inl new ↦ ne (sym is ∙ ap (λ x. x % MARKS) (ap number' new ∙ numbers.here))
            | inr other ↦ kept.last e l (omega arith) is
          ];
        }

    marks_more : (m : ℕ) → m < MARKS → IsLast number' (n + 1) m (mark' m)
    marks_more m l = elim (same_or m (a % MARKS)) [
      | inl is ↦ subst (IsLast number' (n + 1) m) (sym (ap mark' is ∙ marks.here)) (last_new m is)
      | inr ne ↦ subst (IsLast number' (n + 1) m) (sym (marks.others m ne))
          (last_other m (mark m) ne (marked.marks m l))
    ]

    nexts_more : (e : ℕ) → e < n + 1 → IsLast number' e (number' (e + 1) % MARKS) (next' (e + 1))
    nexts_more e l = elim (same_or e n) [
      | inl is ↦ subst (λ i. IsLast number' i (number' (i + 1) % MARKS) (next' (i + 1))) (sym is)
          (subst (λ x. IsLast number' n (x % MARKS) (next' (n + 1))) (sym numbers.here)
          (subst (IsLast number' n (a % MARKS)) (sym nexts.here)
          (last_kept n (a % MARKS) (mark (a % MARKS)) (omega arith) (marked.marks (a % MARKS) (omega arith)))))
      | inr ne ↦ subst (λ x. IsLast number' e (x % MARKS) (next' (e + 1))) (sym (numbers.others (e + 1) (omega arith)))
          (subst (IsLast number' e (number (e + 1) % MARKS)) (sym (nexts.others (e + 1) (omega arith)))
          (last_kept e (number (e + 1) % MARKS) (next (e + 1)) (omega arith) (marked.nexts e (omega arith))))
    ]

    pub entered_marked : AreMarked number' mark' next' (n + 1)
    entered_marked = record { marks = marks_more; nexts = nexts_more }

    key_kept : (e : ℕ) → e ≤ n → key_of (lock' e) e ≡ key_of (lock e) e
    key_kept e l = ap (λ k. key_of k e) (locks.others e (omega arith))

    sound_more : (j : ℕ) → j < n + 1 → (e : ℕ) × ((0 < e) × (e ≤ n + 1) × (key' j ≡ key_of (lock' e) e))
    sound_more j l = elim ((has (key' j)).0 (j, (l, refl))) [
      | inl old ↦ (
          let s = sorted.sound old.0 old.1.0 in
          let m = s.1.1 in
          (s.0, (s.1.0, omega (arith, m), sym old.1.1 ∙ s.1.2 ∙ sym (key_kept s.0 m))))
      | inr is ↦ (n + 1, (omega arith, omega arith, is ∙ ap (λ k. key_of k (n + 1)) (sym locks.here)))
    ]

    complete_more : (e : ℕ) → 0 < e → e ≤ n + 1 → HasKey key' (n + 1) (key_of (lock' e) e)
    complete_more e z m = (has (key_of (lock' e) e)).1 (elim (same_or e (n + 1)) [
      | inl is ↦ inr (ap (λ i. key_of (lock' i) i) is ∙ ap (λ k. key_of k (n + 1)) locks.here)
      | inr ne ↦ inl (subst (HasKey key n) (sym (key_kept e (omega arith))) (sorted.complete e z (omega arith)))
    ])

    pub entered_sorted : AreSorted lock' key' (n + 1)
    entered_sorted = record { keys = keys; sound = sound_more; complete = complete_more }

-- the log with the word that has entered
pub entered_log : (number lock value number' lock' value' : ℕ → ℕ) (n a l v : ℕ) → IsSet number number' (n + 1) a →
    IsSet lock lock' (n + 1) l → IsSet value value' (n + 1) v →
    (let old : LogValue = record { words = table number value n; locks = table number lock n } in
    let new : LogValue = record { words = table number' value' (n + 1); locks = table number' lock' (n + 1) } in
    new ≡ with_word old a l v)
entered_log number lock value number' lock' value' n a l v numbers locks values =
    same_log _ _ (more value value' v values) (more lock lock' l locks)
  where
    more : (row row' : ℕ → ℕ) (x : ℕ) → IsSet row row' (n + 1) x →
        table number' row' (n + 1) ≡ insert (table number row n) a x
    more row row' x rows =
        let e1 : n + 1 ≡ suc n = add-one n in
        let number_here : number' (suc n) ≡ a = ap number' (sym e1) ∙ numbers.here in
        let row_here : row' (suc n) ≡ x = ap row' (sym e1) ∙ rows.here in
        let old : table number' row' n ≡ table number row n = table_same number number' row row' n
        (λ e z m. numbers.others e (omega arith)) (λ e z m. rows.others e (omega arith)) in
        ap (table number' row') e1 ∙ ap (λ k. insert (table number' row' n) k (row' (suc n))) number_here
        ∙ ap (insert (table number' row' n) a) row_here ∙ ap (λ w. insert w a x) old

-- ---- the value of a word that is there
pub replaced_log : (s : ShortLog) (values' : List ℕ) (e a l v : ℕ) → IsShort s → 0 < e → Has s s.numbers a e →
    IsSet (entry s.values) (entry values') e v → ((k : ℕ) → get (short_log s).locks a ≡ Some k → k ≡ l)
    → short_log (record s { values = values' }) ≡ with_word (short_log s) a l v
replaced_log s values' e a l v short z has rows lock =
    let apart = short.words.numbers in
    let here : get (short_log s).locks a ≡ Some (entry s.locks e) = ap (get (short_log s).locks) (sym has.1) ∙
    get_there (entry s.numbers) (entry s.locks) s.count e apart z has.0 in
    same_log _ (record (short_log s) { words = insert (short_log s).words a v })
    (table_value (entry s.numbers) (entry s.numbers) (entry s.values)
    (entry values') s.count e v apart z has.0 rows.here
    (λ k. refl) rows.others ∙ ap (λ k. insert (short_log s).words k v) has.1) refl
    ∙ put_value (short_log s) a l v (λ none. some_none _ (sym here ∙ none)) lock

-- ---- what a short log says of an address
pub short_none : (s : ShortLog) (a : ℕ) → HasNone s s.numbers a → get (short_log s).words a ≡ None
short_none s a none = get_none (entry s.numbers) (entry s.values) s.count a none

pub short_some : (s : ShortLog) (a e : ℕ) → IsShort s → 0 < e → Has s s.numbers a e →
    get (short_log s).words a ≡ Some (entry s.values e)
short_some s a e short z has = ap (get (short_log s).words) (sym has.1) ∙
    get_there (entry s.numbers) (entry s.values) s.count e short.words.numbers z has.0

pub short_lock : (s : ShortLog) (e : ℕ) → IsShort s → 0 < e → e ≤ s.count →
    get (short_log s).locks (entry s.numbers e) ≡ Some (entry s.locks e)
short_lock s e short z m = get_there (entry s.numbers) (entry s.locks) s.count e short.words.numbers z m

pub short_len : (s : ShortLog) → IsShort s → len (short_log s).words ≡ s.count
short_len s short = len_table (entry s.numbers) (entry s.values) s.count short.words.numbers

pub short_addresses : (s : ShortLog) → IsShort s → SameAddresses (short_log s)
short_addresses s short a = (
  λ none. get_none (entry s.numbers) (entry s.locks) s.count a (λ e z m is.
      some_none _ (sym (short_some s a e short z (m, is)) ∙ none)),
  λ none. get_none (entry s.numbers) (entry s.values) s.count a (λ e z m is.
      some_none _ (sym (short_lock s e short z m) ∙ ap (get (short_log s).locks) is ∙ none)),
)

-- whether a short log has a word of a lock
pub lock_there : (s : ShortLog) (l e : ℕ) → IsShort s → 0 < e → Has s s.locks l e →
    (a : ℕ) × (get (short_log s).locks a ≡ Some l)
lock_there s l e short z has = (entry s.numbers e, short_lock s e short z has.0 ∙ ap Some has.1)

pub lock_missing : (s : ShortLog) (l a : ℕ) → HasNone s s.locks l → get (short_log s).locks a ≡ Some l → ⊥
lock_missing s l a none is =
    let source = get_source (entry s.numbers) (entry s.locks) s.count a l is in
    none source.node source.some source.inside source.value_is

-- ---- a short log without words
pub no_entries : (n e : ℕ) → entry (replicate n 0) e ≡ 0
no_entries zero e = refl
no_entries (suc n) zero = refl
no_entries (suc n) (suc e) = no_entries n e

pub none_words : (number lock : ℕ → ℕ) → AreWords number lock 0
none_words number lock = record {
  room = omega arith;
  numbers = λ e f z m y k is. absurd (omega arith);
  locks = λ e f z m y k is. absurd (omega arith);
  suit = λ e z m. absurd (omega arith);
}

pub none_marked : (number mark next : ℕ → ℕ) → ((m : ℕ) → mark m ≡ 0) → AreMarked number mark next 0
none_marked number mark next none = record {
  marks = λ m l. subst (IsLast number 0 m) (sym (none m)) (record {
    inside = omega arith;
    here = λ z. absurd (omega arith);
    last = λ e k up. absurd (omega arith);
  });
  nexts = λ e l. absurd (omega arith);
}

pub none_sorted : (lock key : ℕ → ℕ) → AreKeys key 0 → AreSorted lock key 0
none_sorted lock key keys = record {
  keys = keys;
  sound = λ j l. absurd (omega arith);
  complete = λ e z m. absurd (omega arith);
}

-- ---- a search along the words of one remainder
-- a row of numbers or of locks
pub row_of_numbers : (s : ShortLog) → IsRowOf s s.numbers
row_of_numbers s e z m = refl

pub row_of_locks : (s : ShortLog) → IsShort s → IsRowOf s s.locks
row_of_locks s short e z m = (short.words.suit e z m).1

-- the search has come to the position, and no word behind it has the entry
pub record IsSearched (s : ShortLog) (row : List ℕ) (x at : ℕ) : Type 0 where
  pub inside : at ≤ s.count
  pub here : 0 < at → entry s.numbers at % MARKS ≡ x % MARKS
  pub none : (e : ℕ) → at < e → e ≤ s.count → entry row e ≢ x

pub search_begins : (s : ShortLog) (row : List ℕ) (x : ℕ) → IsShort s → IsRowOf s row →
    IsSearched s row x (entry s.marks (x % MARKS))
search_begins s row x short is_row =
    let start = short.marked.marks (x % MARKS) (omega arith) in
    record {
      inside = start.inside;
      here = start.here;
      none = λ e l m is. start.last e l m (sym (is_row e (omega arith) m) ∙ ap (λ y. y % MARKS) is);
    }

-- the word before of the same remainder
before_word : (s : ShortLog) (at : ℕ) → IsShort s → 0 < at → at ≤ s.count →
    IsLast (entry s.numbers) (at - 1) (entry s.numbers at % MARKS) (entry s.nexts at)
before_word s at short z m =
    let up : at - 1 + 1 ≡ at = omega arith in
    subst (λ i. IsLast (entry s.numbers) (at - 1) (entry s.numbers i % MARKS) (entry s.nexts i)) up
    (short.marked.nexts (at - 1) (omega arith))

pub search_nears : (s : ShortLog) (at : ℕ) → IsShort s → 0 < at → at ≤ s.count → entry s.nexts at < at
search_nears s at short z m = (let inside = (before_word s at short z m).inside in omega (arith, inside))

pub search_goes_on : (s : ShortLog) (row : List ℕ) (x at : ℕ) → IsShort s → IsRowOf s row → 0 < at →
    entry row at ≢ x → IsSearched s row x at → IsSearched s row x (entry s.nexts at)
search_goes_on s row x at short is_row z other old =
    let before = before_word s at short z old.inside in
    let nearer = before.inside in
    let m = old.inside in
    record {
      inside = omega (arith, nearer, m);
      here = λ some. before.here some ∙ old.here z;
      none = λ e l k is. elim (same_or e at) [
        | inl here ↦ other (ap (entry row) (sym here) ∙ is)
        | inr ne ↦ elim (cases_lt e at) [
          | inl less ↦ before.last e l (omega arith)
              (sym (is_row e (omega arith) k) ∙ ap (λ y. y % MARKS) is ∙ sym (old.here z))
          | inr more ↦ old.none e (omega arith) k is
        ]
      ];
    }

-- ---- the log after a word has entered
pub key_is_new : (s : ShortLog) (l : ℕ) → IsShort s → s.count < MOST_WORDS → (j : ℕ) → j < s.count →
    key_at s.keys j ≢ key_of l (s.count + 1)
key_is_new s l short room j inside is =
    let w = short.sorted.sound j inside in
    let m = w.1.1 in
    let key = w.1.2 in
    absurd (omega (arith, m, key, is))

-- the log after the word has entered, if m is the remainder of its number
abbrev pub after_at : ShortLog → Keys → ℕ → ℕ → ℕ → ℕ → ShortLog
after_at s keys' m a l v = record {
  marks = set s.marks m (s.count + 1);
  nexts = set s.nexts (s.count + 1) (entry s.marks m);
  numbers = set s.numbers (s.count + 1) a;
  locks = set s.locks (s.count + 1) l;
  values = set s.values (s.count + 1) v;
  keys = keys';
  count = s.count + 1;
}

module _ (s : ShortLog) (keys' : Keys) (a l v : ℕ) (short : IsShort s) (free : IsFreeFor s a l)
    (new : HasNone s s.numbers a) (keys : AreKeys (key_at keys') (s.count + 1))
    (has : (x : ℕ) → HasKey (key_at keys') (s.count + 1) x
    ↔ (HasKey (key_at s.keys) s.count x ⊎ (x ≡ key_of l (s.count + 1)))) where
  abbrev after : ShortLog
  after = after_at s keys' (a % MARKS) a l v

  inside : s.count + 1 < POSITIONS
  inside = (let room = free.room in omega (arith, room))

  numbers_set : IsSet (entry s.numbers) (entry after.numbers) (s.count + 1) a
  numbers_set = set_row s.numbers (s.count + 1) a (omega (arith, inside, short.rows.numbers))

  locks_set : IsSet (entry s.locks) (entry after.locks) (s.count + 1) l
  locks_set = set_row s.locks (s.count + 1) l (omega (arith, inside, short.rows.locks))

  values_set : IsSet (entry s.values) (entry after.values) (s.count + 1) v
  values_set = set_row s.values (s.count + 1) v (omega (arith, inside, short.rows.values))

  marks_set : IsSet (entry s.marks) (entry after.marks) (a % MARKS) (s.count + 1)
  marks_set = set_row s.marks (a % MARKS) (s.count + 1) (omega (arith, short.rows.marks))

  nexts_set : IsSet (entry s.nexts) (entry after.nexts) (s.count + 1) (entry s.marks (a % MARKS))
  nexts_set = set_row s.nexts (s.count + 1) (entry s.marks (a % MARKS)) (omega (arith, inside, short.rows.nexts))

  pub entered_short : IsShort after
  entered_short = record {
    rows = record {
      marks = length-set s.marks (a % MARKS) (s.count + 1) ∙ short.rows.marks;
      nexts = length-set s.nexts (s.count + 1) (entry s.marks (a % MARKS)) ∙ short.rows.nexts;
      numbers = length-set s.numbers (s.count + 1) a ∙ short.rows.numbers;
      locks = length-set s.locks (s.count + 1) l ∙ short.rows.locks;
      values = length-set s.values (s.count + 1) v ∙ short.rows.values;
    };
    words = entered_words (entry s.numbers) (entry s.locks) (entry s.marks) (entry s.nexts) (entry after.numbers)
        (entry after.locks) (entry after.marks) (entry after.nexts) (key_at s.keys) (key_at keys') s.count a l
        short.words short.marked short.sorted free.room free.suits new free.none numbers_set locks_set marks_set
        nexts_set keys has;
    marked = entered_marked (entry s.numbers) (entry s.locks) (entry s.marks) (entry s.nexts) (entry after.numbers)
        (entry after.locks) (entry after.marks) (entry after.nexts) (key_at s.keys) (key_at keys') s.count a l
        short.words short.marked short.sorted free.room free.suits new free.none numbers_set locks_set marks_set
        nexts_set keys has;
    sorted = entered_sorted (entry s.numbers) (entry s.locks) (entry s.marks) (entry s.nexts) (entry after.numbers)
        (entry after.locks) (entry after.marks) (entry after.nexts) (key_at s.keys) (key_at keys') s.count a l
        short.words short.marked short.sorted free.room free.suits new free.none numbers_set locks_set marks_set
        nexts_set keys has;
  }

  pub entered_value : short_log after ≡ with_word (short_log s) a l v
  entered_value = entered_log (entry s.numbers) (entry s.locks) (entry s.values) (entry after.numbers)
      (entry after.locks) (entry after.values) s.count a l v numbers_set locks_set values_set

-- the rows other than the values are the same
pub replaced_short : (s : ShortLog) (e v : ℕ) → IsShort s → IsShort (record s { values = set s.values e v })
replaced_short s e v short = record {
  rows = record {
    marks = short.rows.marks;
    nexts = short.rows.nexts;
    numbers = short.rows.numbers;
    locks = short.rows.locks;
    values = length-set s.values e v ∙ short.rows.values;
  };
  words = short.words;
  marked = short.marked;
  sorted = short.sorted;
}

-- ---- a log without words
pub len_same : (n x : ℕ) → length (replicate n x) ≡ n
len_same zero x = refl
len_same (suc n) x = (let rest = len_same n x in omega (arith, rest))

pub cleared_short : (s : ShortLog) (keys' : Keys) → HasRows s → AreKeys (key_at keys') 0 →
    IsShort (record s { marks = replicate MARKS 0; keys = keys'; count = 0 })
cleared_short s keys' rows keys = record {
  rows = record {
    marks = len_same MARKS 0;
    nexts = rows.nexts;
    numbers = rows.numbers;
    locks = rows.locks;
    values = rows.values;
  };
  words = none_words (entry s.numbers) (entry s.locks);
  marked = none_marked (entry s.numbers) (entry (replicate MARKS 0)) (entry s.nexts) (no_entries MARKS);
  sorted = none_sorted (entry s.locks) (key_at keys') keys;
}

-- ---- the words enter a long log
-- the log of the first n words
abbrev pub first_words : ShortLog → ℕ → LogValue
first_words s n = record {
  words = table (entry s.numbers) (entry s.values) n;
  locks = table (entry s.numbers) (entry s.locks) n;
}

pub next_is_new : (s : ShortLog) (e : ℕ) → IsShort s → e < s.count →
    get (first_words s e).locks (entry s.numbers (e + 1)) ≡ None
next_is_new s e short l = get_none (entry s.numbers) (entry s.locks) e (entry s.numbers (e + 1)) (λ i z m is.
    (let same = short.words.numbers i (e + 1) z (omega arith) (omega arith) (omega arith) is in
    absurd (omega (arith, same))))

pub next_word : (s : ShortLog) (e : ℕ) →
    with_word (first_words s e) (entry s.numbers (e + 1)) (entry s.locks (e + 1)) (entry s.values (e + 1)) ≡
    first_words s (e + 1)
next_word s e =
    let up : e + 1 ≡ suc e = add-one e in
    ap (λ i. with_word (first_words s e) (entry s.numbers i) (entry s.locks i) (entry s.values i)) up
    ∙ ap (first_words s) (sym up)

pub new_short : (keys' : Keys) → AreKeys (key_at keys') 0 → IsShort (record {
  marks = replicate MARKS 0;
  nexts = replicate POSITIONS 0;
  numbers = replicate POSITIONS 0;
  locks = replicate POSITIONS 0;
  values = replicate POSITIONS 0;
  keys = keys';
  count = 0;
})
new_short keys' keys = record {
  rows = record {
    marks = len_same MARKS 0;
    nexts = len_same POSITIONS 0;
    numbers = len_same POSITIONS 0;
    locks = len_same POSITIONS 0;
    values = len_same POSITIONS 0;
  };
  words = none_words (entry (replicate POSITIONS 0)) (entry (replicate POSITIONS 0));
  marked = none_marked (entry (replicate POSITIONS 0)) (entry (replicate MARKS 0)) (entry (replicate POSITIONS 0))
      (no_entries MARKS);
  sorted = none_sorted (entry (replicate POSITIONS 0)) (key_at keys') keys;
}

-- a short log without words is the empty log
pub short_empty : (s : ShortLog) → s.count ≡ 0 → short_log s ≡ empty_log
short_empty s none = ap (first_words s) none
