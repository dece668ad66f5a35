-- Calls that are picked, one after the other.
use Rattle.std.proofs.Common.{◌≡◌, ◌∙◌, ◌<◌, ◌≤◌, ◌⊎◌, inl, inr, refl, sym, ap, subst, arith, Bool, true, false, ℕ}
use Rattle.std.proofs.Common.{zero, suc, List, [], ◌∷◌, ◌++◌, get_or, set, length, map}
use Rattle.std.specs.List.{All, AllPairs, sum_by}
use Rattle.std.proofs.lemmas.List.{get_or-map, length-map, get_or_past, get_or-set_same, get_or-set_other}
use Rattle.std.proofs.lemmas.List.Sums.{sum_by-set}
use Rattle.std.proofs.lemmas.List.Kept.{AllPairs-cons}
use Rattle.std.proofs.lemmas.List.Elements.{All-nil, All-cons, All-head, All-tail, All-weaker}
use Rattle.std.proofs.lemmas.Bool.{cases_lt, cases_eq}
use Rattle.vac_manager.specs.declared.note.CompletedCall.{CompletedCall}
use Rattle.load_record.specs.Order.{Entry, entries_of, entries_from, list_at, TakesFirst, Interleaves, precedes}
use Rattle.load_record.specs.Order.{AreOrdered}
use Rattle.load_record.specs.Order.{EachOrdered, IsMerged}
use Rattle.load_record.specs.Picking.{Picks, PicksAll, IsEmpty, Merges}
use Rattle.load_record.proofs.Ordering.{precedes_chain, precedes_turns, precedes_self}

-- how many calls are left
abbrev pub count : List (List Entry) → ℕ
count lists = sum_by (λ l. length l) lists

within : (lists : List (List Entry)) (place : ℕ) (x : Entry) (rest : List Entry) → list_at lists place ≡ x ∷ rest →
    place < length lists
within lists place x rest e = elim (cases_lt place (length lists)) [
  | inl low ↦ low
  | inr past ↦ absurd (let h : x ∷ rest ≡ [] = sym e ∙ get_or_past lists place [] past in cc)
]

pub one_fewer : (e : Entry) (lists others : List (List Entry)) → Picks e lists others → count others < count lists
one_fewer e lists others p =
    let t = p.takes in
    let low = within lists t.place e t.rest t.first in
    let sum = sum_by-set (λ l. length l) lists t.place t.rest [] low in
    let old : length (get_or lists t.place []) ≡ suc (length t.rest) = ap length t.first in
    let new : count others ≡ sum_by (λ l. length l) (set lists t.place t.rest) = ap count t.left in
    omega (arith, sum, old, new)

pub picks_both : (lists : List (List Entry)) (all more : List Entry) (mid left : List (List Entry)) →
    PicksAll lists all mid → PicksAll mid more left → PicksAll lists (all ++ more) left
picks_both lists [] more mid left p q = subst (λ (l : List (List Entry)). PicksAll l more left) (sym p) q
picks_both lists (e ∷ all) more mid left p q = (p.0, p.1, picks_both p.0 all more mid left p.2 q)

pub picks_one : (lists : List (List Entry)) (all : List Entry) (e : Entry) (mid left : List (List Entry)) →
    PicksAll lists all mid → Picks e mid left → PicksAll lists (all ++ e ∷ []) left
picks_one lists all e mid left p q = picks_both lists all (e ∷ []) mid left p (left, q, refl)

-- ---- something is picked where anything is left

abbrev Found : List (List Entry) → Type 0
Found lists = (e : Entry) × (others : List (List Entry)) × Picks e lists others

empty_cons : (lists : List (List Entry)) → IsEmpty lists → IsEmpty ([] ∷ lists)
empty_cons lists empty zero = refl
empty_cons lists empty (suc k) = empty k

same_first : (x y : Entry) (xs ys : List Entry) → x ∷ xs ≡ y ∷ ys → x ≡ y
same_first x y xs ys e = cc

module _ (x : Entry) (xs : List Entry) (lists : List (List Entry)) where
  -- the first list's call is picked
  picked_first : ((k : ℕ) (y : Entry) (more : List Entry) → list_at lists k ≡ y ∷ more →
      precedes y.note x.note ≡ false) → Picks x ((x ∷ xs) ∷ lists) (xs ∷ lists)
  picked_first least = record { takes = record { place = 0; rest = xs; first = refl; left = refl }; least = go }
    where
      go : (k : ℕ) (y : Entry) (more : List Entry) → list_at ((x ∷ xs) ∷ lists) k ≡ y ∷ more →
          precedes y.note x.note ≡ false
      go zero y more e = subst (λ (z : Entry). precedes z.note x.note ≡ false) (same_first x y xs more e)
          (precedes_self x.note)
      go (suc k) y more e = least k y more e

-- a call of the other lists is picked
picked_later : (first : List Entry) (lists others : List (List Entry)) (e : Entry) →
    ((y : Entry) (more : List Entry) → first ≡ y ∷ more → precedes y.note e.note ≡ false)
    → Picks e lists others → Picks e (first ∷ lists) (first ∷ others)
picked_later first lists others e less p = record {
  takes = record {
    place = suc p.takes.place;
    rest = p.takes.rest;
    first = p.takes.first;
    left = ap (λ (l : List (List Entry)). first ∷ l) p.takes.left;
  };
  least = go;
}
  where
    go : (k : ℕ) (y : Entry) (more : List Entry) → list_at (first ∷ lists) k ≡ y ∷ more → precedes y.note e.note ≡ false
    go zero y more h = less y more h
    go (suc k) y more h = p.least k y more h

module _ (x : Entry) (xs : List Entry) (lists : List (List Entry)) where
  nothing_later : IsEmpty lists → Found ((x ∷ xs) ∷ lists)
  nothing_later empty = (
    x,
    xs ∷ lists,
    picked_first x xs lists (λ k y more e. absurd (let h : y ∷ more ≡ [] =
        sym e ∙ empty k in cc)),
  )

  first_or_later : (e : Entry) (others : List (List Entry)) → Picks e lists others → (b : Bool) →
      precedes e.note x.note ≡ b → Found ((x ∷ xs) ∷ lists)
  first_or_later e others p true turn = (
    e,
    (x ∷ xs) ∷ others,
    picked_later (x ∷ xs) lists others e
        (λ y more h. subst (λ (z : Entry). precedes z.note e.note ≡ false) (same_first x y xs more h)
        (precedes_turns e.note x.note turn)) p,
  )
  first_or_later e others p false turn = (
    x,
    xs ∷ lists,
    picked_first x xs lists (λ k y more h. precedes_chain y.note e.note x.note
        (p.least k y more h) turn),
  )

found_or_empty : (lists : List (List Entry)) → IsEmpty lists ⊎ Found lists
found_or_empty [] = inl (λ k. refl)
found_or_empty ([] ∷ lists) = elim (found_or_empty lists) [
  | inl empty ↦ inl (empty_cons lists empty)
  | inr p ↦ inr (
    p.0,
    [] ∷ p.1,
    picked_later [] lists p.1 p.0 (λ y more h. absurd (let k : [] ≡ y ∷ more = h in
        cc)) p.2,
  )
]
found_or_empty ((x ∷ xs) ∷ lists) = elim (found_or_empty lists) [
  | inl empty ↦ inr (nothing_later x xs lists empty)
  | inr p ↦ inr (first_or_later x xs lists p.0 p.1 p.2 (precedes p.0.note x.note) refl)
]

-- so all calls can be picked
abbrev pub IsMergeable : List (List Entry) → Type 0
IsMergeable lists = (all : List Entry) × Merges lists all

merges_none : (lists : List (List Entry)) → IsEmpty lists → IsMergeable lists
merges_none lists empty = ([], record { left = lists; picked = refl; empty = empty })

merges_one : (lists others : List (List Entry)) (e : Entry) → Picks e lists others → IsMergeable others →
    IsMergeable lists
merges_one lists others e p m = (
  e ∷ m.0,
  record {
    left = m.1.left;
    picked = (others, p, m.1.picked);
    empty = m.1.empty;
  },
)

merging_within : (n : ℕ) (lists : List (List Entry)) → count lists ≤ n → IsMergeable lists
merging_within zero lists few = elim (found_or_empty lists) [
  | inl empty ↦ merges_none lists empty
  | inr p ↦ absurd (let less = one_fewer p.0 lists p.1 p.2 in omega (arith, less, few))
]
merging_within (suc n) lists few = elim (found_or_empty lists) [
  | inl empty ↦ merges_none lists empty
  | inr p ↦ let less = one_fewer p.0 lists p.1 p.2 in merges_one lists p.1 p.0 p.2
      (merging_within n p.1 (omega (arith, less, few)))
]

pub merging : (lists : List (List Entry)) → IsMergeable lists
merging lists = merging_within (count lists) lists (omega arith)

-- ---- what was picked is an interleaving, in order where the lists are

pub interleaves : (lists left : List (List Entry)) (all : List Entry) → PicksAll lists all left → IsEmpty left →
    Interleaves lists all
interleaves lists left [] p empty = subst IsEmpty (sym p) empty
interleaves lists left (e ∷ all) p empty = (p.0, p.1.takes, interleaves p.0 left all p.2 empty)

-- no call that stands later precedes an earlier one
abbrev InOrder : Entry → Entry → Type 0
InOrder earlier later = precedes later.note earlier.note ≡ false

-- a fact of each list
abbrev EachList : (List Entry → Type 0) → List (List Entry) → Type 0
EachList Q lists = (place : ℕ) → Q (list_at lists place)

module _ (Q : List Entry → Type 0) (lists others : List (List Entry)) (e : Entry) (t : TakesFirst e lists others) where
  -- of each list but the one that was taken from it is known already
  taken_each : Q t.rest → ((k : ℕ) → (k ≡ t.place → ⊥) → Q (list_at lists k)) → EachList Q others
  taken_each q each k =
      let low = within lists t.place e t.rest t.first in
      subst (λ (l : List (List Entry)). Q (list_at l k)) (sym t.left) (elim (cases_eq k t.place) [
        | inl same ↦ subst Q (sym (ap (λ (j : ℕ). get_or (set lists t.place t.rest) j []) same ∙
            get_or-set_same lists t.place t.rest [] low)) q
        | inr apart ↦ subst Q (sym (get_or-set_other lists t.place k t.rest [] apart)) (each k apart)
      ])

-- what holds of each element of each list holds of each that was picked
each_picked : (P : Entry → Type 0) (lists left : List (List Entry)) (all : List Entry) → PicksAll lists all left →
    EachList (All P) lists → All P all
each_picked P lists left [] p each = All-nil P
each_picked P lists left (e ∷ all) p each =
    let t = p.1.takes in
    let own = subst (All P) t.first (each t.place) in
    All-cons P e all (All-head P e t.rest own)
    (each_picked P p.0 left all p.2 (taken_each (All P) lists p.0 e t (All-tail P e t.rest own) (λ k _. each k)))

-- and of each of an interleaving
pub each_of : (P : Entry → Type 0) (lists : List (List Entry)) (all : List Entry) → Interleaves lists all →
    EachList (All P) lists → All P all
each_of P lists [] h each = All-nil P
each_of P lists (e ∷ all) h each =
    let t = h.1 in
    let own = subst (All P) t.first (each t.place) in
    All-cons P e all (All-head P e t.rest own)
    (each_of P h.0 all h.2 (taken_each (All P) lists h.0 e t (All-tail P e t.rest own) (λ k _. each k)))

-- the later calls of a list in order
behind_first : (x : Entry) (xs : List Entry) → AllPairs InOrder (x ∷ xs) → All (InOrder x) xs
behind_first x xs pairs k d low = pairs 0 (suc k) d (omega arith) (omega (arith, low))

pairs_tail : (x : Entry) (xs : List Entry) → AllPairs InOrder (x ∷ xs) → AllPairs InOrder xs
pairs_tail x xs pairs i j d less low = pairs (suc i) (suc j) d (omega (arith, less)) (omega (arith, low))

-- nothing in a list precedes a call that its first call does not precede
none_precedes : (e : Entry) (l : List Entry) → AllPairs InOrder l →
    ((x : Entry) (more : List Entry) → l ≡ x ∷ more → InOrder e x) → All (InOrder e) l
none_precedes e [] pairs first = All-nil (InOrder e)
none_precedes e (x ∷ xs) pairs first =
    All-cons (InOrder e) x xs (first x xs refl)
    (All-weaker (InOrder x) (InOrder e) (λ y h. precedes_chain y.note x.note e.note h (first x xs refl)) xs
    (behind_first x xs pairs))

picked_in_order : (lists left : List (List Entry)) (all : List Entry) → PicksAll lists all left →
    EachList (AllPairs InOrder) lists → AllPairs InOrder all
picked_in_order lists left [] p each = λ i j d less low. absurd (omega (arith, low))
picked_in_order lists left (e ∷ all) p each =
    let t = p.1.takes in
    let own = subst (AllPairs InOrder) t.first (each t.place) in
    AllPairs-cons InOrder e all
    (each_picked (InOrder e) p.0 left all p.2 (taken_each (All (InOrder e)) lists p.0 e t (behind_first e t.rest own)
    (λ k _. none_precedes e (list_at lists k) (each k) (λ x more h. p.1.least k x more h))))
    (picked_in_order p.0 left all p.2 (taken_each (AllPairs InOrder) lists p.0 e t (pairs_tail e t.rest own)
    (λ k _. each k)))

-- ---- the same of notes

-- the notes of calls in order
notes_in_order : (all : List Entry) → AllPairs InOrder all → AreOrdered (map (λ e. e.note) all)
notes_in_order all pairs i j d less low =
    let entry : Entry = record { client = 0; note = d } in
    let low' : j < length all = subst (λ (n : ℕ). j < n) (length-map all (λ e. e.note)) low in
    let first = get_or-map (λ e. e.note) all i entry d (omega (arith, less, low')) in
    let second = get_or-map (λ e. e.note) all j entry d low' in
    subst (λ (n : CompletedCall). precedes (get_or (map (λ e. e.note) all) j d) n ≡ false) (sym first)
    (subst (λ (n : CompletedCall). precedes n (get_or all i entry).note ≡ false) (sym second)
    (pairs i j entry less low'))

entries_in_order : (client : ℕ) (notes : List CompletedCall) → AreOrdered notes →
    AllPairs InOrder (entries_of client notes)
entries_in_order client notes pairs i j d less low =
    let make : CompletedCall → Entry = λ n. record { client = client; note = n } in
    let low' : j < length notes = subst (λ (n : ℕ). j < n) (length-map notes make) low in
    let first = get_or-map make notes i d.note d (omega (arith, less, low')) in
    let second = get_or-map make notes j d.note d low' in
    subst (λ (e : Entry). InOrder e (get_or (entries_of client notes) j d)) (sym first)
    (subst (λ (e : Entry). InOrder (make (get_or notes i d.note)) e) (sym second) (pairs i j d.note less low'))

entries_each : (first : ℕ) (kept : List (List CompletedCall)) → EachOrdered kept →
    EachList (AllPairs InOrder) (entries_from first kept)
entries_each first [] each k = λ i j d less low. absurd (omega (arith, low))
entries_each first (notes ∷ kept) each zero = entries_in_order first notes (each 0)
entries_each first (notes ∷ kept) each (suc k) = entries_each (suc first) kept (λ place. each (suc place)) k

pub is_merged : (kept : List (List CompletedCall)) (all : List Entry) → Merges (entries_from 0 kept) all →
    IsMerged kept all
is_merged kept all m = record {
  each_once = interleaves (entries_from 0 kept) m.left all m.picked m.empty;
  ordered = λ each. notes_in_order all (picked_in_order (entries_from 0 kept) m.left all m.picked
      (entries_each 0 kept each));
}
