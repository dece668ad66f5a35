-- What a log says, and how it changes.
use Rattle.std.proofs.Common.{◌≡◌, ◌≢◌, inl, inr, ℕ, suc, ◌+◌, ◌<◌, ◌≤◌, nat_eq, true, false, Option, Some, None, List}
use Rattle.std.proofs.Common.{length, set, refl, sym, ap, ◌∙◌, arith, subst, add-one, length-set}
use Rattle.std.specs.FinMap.{get, get-empty, insert, len, same_map, nat_cmp-IsAntisymmetric}
use Rattle.std.specs.Ordering.{nat_cmp}
use Rattle.std.proofs.lemmas.Cmp.{nat_cmp_total}
use Rattle.std.proofs.lemmas.Bool.Decides.{nat_tests}
use Rattle.tx_memory.specs.View.{Words}
use Rattle.stm_logs.specs.declared.nodes.TheConstants.{TOP}
use Rattle.stm_logs.specs.Nodes.{Node, Block, at, bare, blank_node, entry_of, with_entry, with_next}
use Rattle.stm_logs.specs.Log.{LogValue, empty_log}
use Rattle.stm_logs.specs.Index.{HasNoNumber, SameNode, IsIndexed, Answers, Entered}
use Rattle.stm_logs.specs.Order.{IsChained, IsBefore, OnlyFingers, rank_of_number, rank_in, log_value, block_log}
use Rattle.stm_logs.specs.Held.{IsIndexedAndChained, IsLog, held_value, with_word, Copied}
use Rattle.stm_logs.proofs.NodeLemmas.{same_or, put_here, put_other, field_kept}
use Rattle.stm_logs.specs.Index.{home, IsTaken}
use Rattle.stm_logs.proofs.IndexLemmas.{indexed_kept, indexed_none, along_at, along_map}
use Rattle.stm_logs.proofs.OrderLemmas.{IsBehind, chain_kept, chain_none, chain_more}
use Rattle.stm_logs.proofs.TableLemmas.{Apart, get_here, get_other, some_none, get_there, get_none, table_same}
use Rattle.stm_logs.proofs.TableLemmas.{table_value, len_table}

pub eq_zero : (p : ℕ) → p ≡ 0 → nat_eq p 0 ≡ true
eq_zero p e = grind (arith, nat_tests)

pub not_zero : (p : ℕ) → 0 < p → nat_eq p 0 ≡ false
not_zero p l = grind (arith, nat_tests)

abbrev pub numbers : List Node → ℕ → ℕ
numbers ns e = (at ns e).number

abbrev pub values_at : List Node → ℕ → ℕ
values_at ns e = (at ns e).value

abbrev pub locks_at : List Node → ℕ → ℕ
locks_at ns e = (at ns e).lock

pub same_log : (a b : LogValue) → a.words ≡ b.words → a.locks ≡ b.locks → a ≡ b
same_log a b p q = λ i. record { words = p i; locks = q i }

pub apart : (ns : List Node) (n : ℕ) (value : ℕ → ℕ) → IsChained ns n → Apart (numbers ns) value n
apart ns n value c e f z m y k num = c.alone e f z m y k num

pub get_word : (ns : List Node) (n e a : ℕ) → IsChained ns n → 0 < e → e ≤ n → (at ns e).number ≡ a →
    get (log_value ns n).words a ≡ Some (at ns e).value
get_word ns n e a c z m key =
    ap (get (log_value ns n).words) (sym key) ∙ get_there (numbers ns) (values_at ns) n e
    (apart ns n (values_at ns) c) z m

pub get_lock : (ns : List Node) (n e a : ℕ) → IsChained ns n → 0 < e → e ≤ n → (at ns e).number ≡ a →
    get (log_value ns n).locks a ≡ Some (at ns e).lock
get_lock ns n e a c z m key =
    ap (get (log_value ns n).locks) (sym key) ∙ get_there (numbers ns) (locks_at ns) n e
    (apart ns n (locks_at ns) c) z m

pub no_word : (ns : List Node) (n a : ℕ) → HasNoNumber ns n a → get (log_value ns n).words a ≡ None
no_word ns n a none = get_none (numbers ns) (values_at ns) n a none

pub no_lock : (ns : List Node) (n a : ℕ) → HasNoNumber ns n a → get (log_value ns n).locks a ≡ None
no_lock ns n a none = get_none (numbers ns) (locks_at ns) n a none

pub has_no_word : (ns : List Node) (n a : ℕ) → IsChained ns n → get (log_value ns n).words a ≡ None → HasNoNumber ns n a
has_no_word ns n a c none e z m key = some_none _ (sym (get_word ns n e a c z m key) ∙ none)

-- what a log says of two nodes is the same
pub record SameSight (old new : Node) : Type 0 where
  pub value : new.value ≡ old.value
  pub number : new.number ≡ old.number
  pub lock : new.lock ≡ old.lock

pub sights_value : (ns ns' : List Node) (n : ℕ) → ((e : ℕ) → e ≤ n → SameSight (at ns e) (at ns' e)) →
    log_value ns' n ≡ log_value ns n
sights_value ns ns' n s = same_log _ _
    (table_same (numbers ns) (numbers ns') (values_at ns) (values_at ns') n (λ e z m. (s e m).number)
    (λ e z m. (s e m).value))
    (table_same (numbers ns) (numbers ns') (locks_at ns) (locks_at ns') n (λ e z m. (s e m).number)
    (λ e z m. (s e m).lock))

-- ---- a log by its parts
pub log_of : (b : Block) (ns : List Node) (n : ℕ) → b.list ≡ ns → b.count ≡ n → IsIndexedAndChained ns n →
    4 ≤ length ns → IsLog b
log_of b ns n list count ready places = record {
  ready = subst (λ xs. IsIndexedAndChained xs b.count) (sym list) (subst (IsIndexedAndChained ns) (sym count) ready);
  places = subst (λ (xs : List Node). 4 ≤ length xs) (sym list) places;
}

-- ---- the value of a word that is there
abbrev pub with_value : Node → ℕ → Node
with_value y v = record y { value = v }

pub replaced_ready : (ns : List Node) (n e v : ℕ) → IsIndexedAndChained ns n → e ≤ n →
    IsIndexedAndChained (set ns e (with_value (at ns e) v)) n
replaced_ready ns n e v ready m =
    let y : Node = with_value (at ns e) v in
    let new : List Node = set ns e y in
    let l : e < length ns = omega (arith, ready.indexed.room) in
    let number : (j : ℕ) → (at new j).number ≡ (at ns j).number = field_kept (λ x. x.number) ns e y l refl in
    let lock : (j : ℕ) → (at new j).lock ≡ (at ns j).lock = field_kept (λ x. x.lock) ns e y l refl in
    let places : (j : ℕ) → (at new j).place ≡ (at ns j).place = field_kept (λ x. x.place) ns e y l refl in
    let slots : (j : ℕ) → (at new j).slot ≡ (at ns j).slot = field_kept (λ x. x.slot) ns e y l refl in
    let nexts : (j : ℕ) → (at new j).next ≡ (at ns j).next = field_kept (λ x. x.next) ns e y l refl in
    let len : length new ≡ length ns = length-set ns e y in
    record {
      indexed = value_indexed ns new n len number places slots ready.indexed;
      chained = chain_kept ns new n (λ j _. (number j, lock j)) (λ j _. nexts j) ready.chained;
    }
  where
    value_indexed : (ns ns' : List Node) (n : ℕ) → length ns' ≡ length ns →
        ((j : ℕ) → (at ns' j).number ≡ (at ns j).number) → ((j : ℕ) → (at ns' j).place ≡ (at ns j).place)
        → ((j : ℕ) → (at ns' j).slot ≡ (at ns j).slot) → IsIndexed ns n → IsIndexed ns' n
    value_indexed ns ns' n len number place slot ix = indexed_kept ns ns' n len
        (λ j. record { number = number j; place = place j; slot = slot j }) ix

pub replaced_value : (ns : List Node) (n e a v : ℕ) → IsIndexedAndChained ns n → 0 < e → e ≤ n → (at ns e).number ≡ a
    → log_value (set ns e (with_value (at ns e) v)) n ≡ record (log_value ns n) {
      words = insert (log_value ns n).words a v;
    }
replaced_value ns n e a v ready z m key =
    let y : Node = with_value (at ns e) v in
    let new : List Node = set ns e y in
    let c = ready.chained in
    let l : e < length ns = omega (arith, ready.indexed.room) in
    let number : (j : ℕ) → (at new j).number ≡ (at ns j).number = field_kept (λ x. x.number) ns e y l refl in
    let lock : (j : ℕ) → (at new j).lock ≡ (at ns j).lock = field_kept (λ x. x.lock) ns e y l refl in
    same_log _ _
    (table_value (numbers ns) (numbers new) (values_at ns) (values_at new) n e v (apart ns n (values_at ns) c) z m
    (ap (λ x. x.value) (put_here ns e y l)) number (λ j ne. ap (λ x. x.value) (put_other ns e j y ne))
    ∙ ap (λ k. insert (log_value ns n).words k v) key)
    (table_same (numbers ns) (numbers new) (locks_at ns) (locks_at new) n (λ j _ _. number j) (λ j _ _. lock j))

-- ---- a word enters
-- the node of a word, before it has a place of the index
abbrev pub entering : ℕ → ℕ → ℕ → ℕ → Node
entering value number lock next = record blank_node { value = value; number = number; lock = lock; next = next }

module _ (ns mid : List Node) (n b a l v : ℕ) (ready : IsIndexedAndChained ns n)
    (before : IsBefore ns n (rank_of_number l a) b)
    (none : HasNoNumber ns n a) (fits : a ≤ TOP)
    (w : Entered ns mid n (entering v a l (at ns b).next)) where
  abbrev y : Node
  y = with_next (at mid b) (n + 1)

  abbrev new : List Node
  new = set mid b y

  inside : b < length mid
  inside = omega (arith, before.below.inside, w.indexed.room)

  number_kept : (j : ℕ) → (at new j).number ≡ (at mid j).number
  number_kept = field_kept (λ x. x.number) mid b y inside refl

  lock_kept : (j : ℕ) → (at new j).lock ≡ (at mid j).lock
  lock_kept = field_kept (λ x. x.lock) mid b y inside refl

  value_kept : (j : ℕ) → (at new j).value ≡ (at mid j).value
  value_kept = field_kept (λ x. x.value) mid b y inside refl

  number_here : (at new (n + 1)).number ≡ a
  number_here = number_kept (n + 1) ∙ w.here.number

  lock_here : (at new (n + 1)).lock ≡ l
  lock_here = lock_kept (n + 1) ∙ w.here.lock

  rank_here : rank_in (at new (n + 1)) ≡ rank_of_number l a
  rank_here = ap (λ k. rank_of_number k (at new (n + 1)).number) lock_here ∙ ap (rank_of_number l) number_here

  other : n + 1 ≢ b
  other e = absurd (omega (arith, before.below.inside))

  is_behind : IsBehind ns new n b
  is_behind = record {
    same = λ e m. (let s = w.others e (omega arith) in (number_kept e ∙ s.number, lock_kept e ∙ s.lock));
    others = λ e m ne. ap (λ x. x.next) (put_other mid b e y ne) ∙ (w.others e (omega arith)).next;
    before = ap (λ x. x.next) (put_here mid b y inside);
    here = ap (λ x. x.next) (put_other mid b (n + 1) y other) ∙ w.here.next;
  }

  pub entered_ready : IsIndexedAndChained new (n + 1)
  entered_ready = record {
    indexed = indexed_kept mid new (n + 1) (length-set mid b y) (λ j. record {
      number = number_kept j;
      place = field_kept (λ x. x.place) mid b y inside refl j;
      slot = field_kept (λ x. x.slot) mid b y inside refl j;
    }) w.indexed;
    chained = chain_more ns new n b ready.chained is_behind (omega (arith, fits, number_here))
        (λ e z m is. none e z m (is ∙ number_here)) (subst (λ r. IsBefore ns n r b) (sym rank_here) before);
  }

  pub entered_value : log_value new (n + 1) ≡ with_word (log_value ns n) a l v
  entered_value =
      let e1 : n + 1 ≡ suc n = add-one n in
      let number : (at new (suc n)).number ≡ a = ap (λ j. (at new j).number) (sym e1) ∙ number_here in
      let lock : (at new (suc n)).lock ≡ l = ap (λ j. (at new j).lock) (sym e1) ∙ lock_here in
      let value : (at new (suc n)).value ≡ v = ap (λ j. (at new j).value) (sym e1) ∙ value_kept (n + 1) ∙
      w.here.value in
      let old : log_value new n ≡ log_value ns n = sights_value ns new n (λ e m.
      let s = w.others e (omega arith) in
      record { value = value_kept e ∙ s.value; number = number_kept e ∙ s.number; lock = lock_kept e ∙ s.lock }) in
      ap (log_value new) e1
      ∙ same_log (log_value new (suc n)) (with_word (log_value new n) a l v)
      (ap (λ k. insert (log_value new n).words k (values_at new (suc n))) number ∙
      ap (insert (log_value new n).words a) value)
      (ap (λ k. insert (log_value new n).locks k (locks_at new (suc n))) number ∙
      ap (insert (log_value new n).locks a) lock)
      ∙ ap (λ x. with_word x a l v) old

  pub entered_len : length new ≡ length ns
  entered_len = length-set mid b y ∙ w.len

-- ---- a block without nodes
pub none_log : (ns : List Node) → 4 ≤ length ns → length ns ≤ 2147483648 →
    ((q : ℕ) → q < length ns → (at ns q).slot ≡ 0)
    → (at ns 0).number ≡ TOP → (at ns 0).lock ≡ TOP → (at ns 0).next ≡ 0 →
    IsLog (record { list = ns; count = 0 })
none_log ns some limit free number lock next = record {
  ready = record { indexed = indexed_none ns (omega arith) limit free; chained = chain_none ns number lock next };
  places = some;
}

-- ---- a copy
pub copied_ready : (old new : List Node) (n : ℕ) → IsIndexedAndChained old n → Copied old new n →
    IsIndexedAndChained new n
copied_ready old new n ready c = record {
  indexed = c.indexed;
  chained = chain_kept old new n (λ e m. ((c.same e m).number, (c.same e m).lock))
      (λ e m. (c.same e m).next) ready.chained;
}

pub copied_value : (old new : List Node) (n : ℕ) → Copied old new n → log_value new n ≡ log_value old n
copied_value old new n c = sights_value old new n (λ e m. let s = c.same e m in
    record { value = s.value; number = s.number; lock = s.lock })

-- the node behind those that were copied has a number of its own
pub copy_is_new : (old new : List Node) (n e : ℕ) → IsIndexedAndChained old n → e < n → Copied old new e →
    HasNoNumber new e (at old (e + 1)).number
copy_is_new old new n e ready l c i z m key =
    let s = c.same i m in
    absurd (omega (
      arith,
      ready.chained.alone i (e + 1) z (omega arith) (omega arith) (omega arith)
          (sym s.number ∙ key),
    ))

pub copied_more : (old new more : List Node) (e : ℕ) → Copied old new e →
    Entered new more e (bare (entry_of (at old (e + 1)))) → Copied old more (e + 1)
copied_more old new more e c w = record {
  indexed = w.indexed;
  same = λ i m. elim (same_or i (e + 1)) [
    | inl is ↦ (
        let h = w.here in
        subst (λ j. SameNode (at old j) (at more j)) (sym is)
        (record { value = h.value; number = h.number; lock = h.lock; next = h.next }))
    | inr ne ↦ (
        let a = c.same i (omega arith) in let b = w.others i ne in
        record {
          value = b.value ∙ a.value;
          number = b.number ∙ a.number;
          lock = b.lock ∙ a.lock;
          next = b.next ∙ a.next;
        })
  ];
}

pub copied_start : (old new : List Node) → 0 < length new → length new ≤ 2147483648 → ((k : ℕ) → (at new k).slot ≡ 0) →
    Copied old (set new 0 (with_entry (at new 0) (entry_of (at old 0)))) 0
copied_start old new some limit free =
    let y : Node = with_entry (at new 0) (entry_of (at old 0)) in
    let l : length (set new 0 y) ≡ length new = length-set new 0 y in
    record {
      indexed = indexed_none (set new 0 y) (omega (arith, l)) (omega (arith, l))
          (λ q _. field_kept (λ x. x.slot) new 0 y some refl q ∙ free q);
      same = λ i m.
          let is : i ≡ 0 = omega arith in
          let root : at (set new 0 y) 0 ≡ y = put_here new 0 y some in
          subst (λ j. SameNode (at old j) (at (set new 0 y) j)) (sym is) (record {
            value = ap (λ x. x.value) root;
            number = ap (λ x. x.number) root;
            lock = ap (λ x. x.lock) root;
            next = ap (λ x. x.next) root;
          });
    }

-- ---- the fingers alone have changed
pub fingers_ready : (ns ns' : List Node) (n : ℕ) → OnlyFingers ns ns' → IsIndexedAndChained ns n →
    IsIndexedAndChained ns' n
fingers_ready ns ns' n f ready = record {
  indexed = indexed_kept ns ns' n f.len f.same ready.indexed;
  chained = chain_kept ns ns' n (λ e _. ((f.same e).number, f.locks e)) (λ e _. f.nexts e) ready.chained;
}

pub fingers_log : (b b' : Block) → OnlyFingers b.list b'.list → b'.count ≡ b.count → IsLog b → IsLog b'
fingers_log b b' f count log =
    log_of b' b'.list b.count refl count (fingers_ready b.list b'.list b.count f log.ready)
    (omega (arith, f.len, log.places))

pub fingers_none : (b b' : Block) (number : ℕ) → OnlyFingers b.list b'.list → b'.count ≡ b.count →
    HasNoNumber b.list b.count number → HasNoNumber b'.list b'.count number
fingers_none b b' number f count none e z m is = none e z (omega (arith, count)) (sym (f.same e).number ∙ is)

pub fingers_answer : (b b' : Block) (number q : ℕ) → OnlyFingers b.list b'.list → b'.count ≡ b.count →
    Answers b.list b.count number q → Answers b'.list b'.count number q
fingers_answer b b' number q f count an =
    let slot : (at b'.list q).slot ≡ (at b.list q).slot = (f.same q).slot in
    record {
      inside = omega (arith, an.inside, f.len);
      found = λ t. (
          let h = an.found (omega (arith, slot)) in
          (omega (arith, h.0, slot, count), ap (λ j. (at b'.list j).number) slot ∙ (f.same _).number ∙ h.1));
      free = λ e. (
          let h = an.free (sym slot ∙ e) in (
            fingers_none b b' number f count h.0,
            along_at (IsTaken b'.list) _ _ _ _ _ _ f.len (ap (home number) f.len) refl
                (along_map (IsTaken b.list) (IsTaken b'.list) _ _ _ (λ j t. omega (arith, (f.same j).slot)) h.1),
          ));
    }

pub fingers_value : (ns ns' : List Node) (n : ℕ) → OnlyFingers ns ns' → log_value ns' n ≡ log_value ns n
fingers_value ns ns' n f = sights_value ns ns' n (λ e m. record {
  value = f.values e;
  number = (f.same e).number;
  lock = f.locks e;
})

-- ---- how many words there are
pub count_words : (ns : List Node) (n : ℕ) → IsChained ns n → len (log_value ns n).words ≡ n
count_words ns n c = len_table (numbers ns) (values_at ns) n (apart ns n (values_at ns) c)

-- a free place of the index tells that the word is not there
pub absent_at : (b : Block) (w : LogValue) (x a q : ℕ) → block_log b ≡ w → Answers b.list b.count a q →
    x ≡ (at b.list q).slot → x ≡ 0
    → get w.words a ≡ None
absent_at b w x a q is an node free =
    sym (ap (λ (v : LogValue). get v.words a) is) ∙ no_word _ _ _ (an.free (sym node ∙ free)).0

-- ---- an address that is there, and one that is not
pub locks_follow : (ns : List Node) (n a : ℕ) → IsChained ns n →
    (get (log_value ns n).words a ≡ None → get (log_value ns n).locks a ≡ None) × (get (log_value ns n).locks a ≡ None →
    get (log_value ns n).words a ≡ None)
locks_follow ns n a c = (
  λ none. no_lock ns n a (has_no_word ns n a c none),
  λ none. no_word ns n a
      (λ e z m key. some_none _ (sym (get_lock ns n e a c z m key) ∙ none)),
)

pub insert_same : (w : Words) (a v : ℕ) → get w a ≡ Some v → insert w a v ≡ w
insert_same w a v e = same_map nat_cmp_total nat_cmp-IsAntisymmetric _ _ (λ q. elim (same_or q a) [
  | inl is ↦ ap (get (insert w a v)) is ∙ get_here w a v ∙ sym e ∙ sym (ap (get w) is)
  | inr ne ↦ get_other w a v q ne
])

-- a value that is put where an address is there leaves its lock
pub put_value : (w : LogValue) (a lock v : ℕ) → (get w.locks a ≡ None → ⊥) →
    ((l : ℕ) → get w.locks a ≡ Some l → l ≡ lock)
    → record w { words = insert w.words a v } ≡ with_word w a lock v
put_value w a lock v some is =
    let go : (o : Option ℕ) → get w.locks a ≡ o → insert w.locks a lock ≡ w.locks =
    λ o. elim o as (λ p. get w.locks a ≡ p → insert w.locks a lock ≡ w.locks) [
      | None ↦ λ none. absurd (some none)
      | Some l ↦ λ at_l. insert_same w.locks a lock (at_l ∙ ap Some (is l at_l))
    ] in
    same_log (record w { words = insert w.words a v }) (with_word w a lock v) refl (sym (go (get w.locks a) refl))

-- ---- a log with no table yet, and one with a table
pub held_none : (o : Option LogValue) (w : LogValue) → o ≡ None → held_value o ≡ w → w ≡ empty_log
held_none o w none is = sym is ∙ ap held_value none

pub held_some : (o : Option LogValue) (t w : LogValue) → o ≡ Some t → held_value o ≡ w → t ≡ w
held_some o t w some is = sym (ap held_value some) ∙ is

pub none_there : (o : Option LogValue) (w : LogValue) (a : ℕ) → o ≡ None → held_value o ≡ w → get w.words a ≡ None
none_there o w a none is = ap (λ (x : LogValue). get x.words a) (held_none o w none is) ∙ get-empty nat_cmp a
