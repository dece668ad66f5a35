-- The calls of each client, in the order of all.
use Rattle.std.proofs.Common.{◌≡◌, ◌∙◌, ◌≤◌, ◌<◌, ◌+◌, inl, inr, ℕ, zero, suc, List, [], ◌∷◌, Some, None, get_or}
use Rattle.std.proofs.Common.{length, map, refl, sym, ap, subst, arith}
use Rattle.std.proofs.lemmas.List.{get_or_past, get_or-set_same, get_or-set_other}
use Rattle.std.proofs.lemmas.Bool.{cases_lt, cases_eq}
use mathlib.Core.Option.{some, some-injective, some-ne-none}
use lib.ListN.{get_elem?}
use Rattle.tx_memory.specs.Image.{In}
use Rattle.stm_core.proofs.Lists.{nothing_in}
use Rattle.stm_core.proofs.Orders.{in_cons}
use Rattle.vac_manager.specs.declared.note.CompletedCall.{CompletedCall}
use Rattle.judge_calls.specs.Call.{Call}
use Rattle.judge_object.specs.Linear.{IsCallAt, CallsTakeTime as TheyTakeTime, CallsAreSequential}
use Rattle.load_record.specs.Turns.{NotesTakeTime, AreInTurn, EachInTurn}
use Rattle.load_record.specs.Order.{Entry, entries_of, entries_from, list_at, TakesFirst, Interleaves}
use Rattle.load_record.specs.History.{call_of_entry}

-- each call begins when those before it are over
abbrev InTurn : List Entry → Type 0
InTurn [] = Unit {0}
InTurn (e ∷ es) = ((x : Entry) → In x es → e.note.end ≤ x.note.begin) × InTurn es

-- the calls of the client with this number, which take their turns
record AreOwn (client : ℕ) (es : List Entry) : Type 0 where
  own : (x : Entry) → In x es → x.client ≡ client
  timed : (x : Entry) → In x es → x.note.begin ≤ x.note.end
  turns : InTurn es

abbrev EachOwn : List (List Entry) → Type 0
EachOwn lists = (place : ℕ) → AreOwn place (list_at lists place)

-- ---- what each client kept

end_before : (notes : List CompletedCall) (n : CompletedCall) (client : ℕ) → AreInTurn (n ∷ notes) → (x : Entry) →
    In x (entries_of client notes) → n.end ≤ x.note.begin
end_before notes n client h x i = go notes i.0 i.1 (λ j d low. h 0 (suc j) d (omega arith) (omega (arith, low)))
  where
    go : (ms : List CompletedCall) (j : ℕ) → get_elem? (entries_of client ms) j ≡ some x →
        ((j : ℕ) (d : CompletedCall) → j < length ms → n.end ≤ (get_or ms j d).begin) → n.end ≤ x.note.begin
    go [] j e f = absurd (some-ne-none x (sym e))
    go (m ∷ ms) zero e f = subst (λ (y : Entry). n.end ≤ y.note.begin)
        (some-injective (record { client = client; note = m }) x e) (f 0 m (omega arith))
    go (m ∷ ms) (suc j) e f = go ms j e (λ k d low. f (suc k) d (omega (arith, low)))

own_of : (client : ℕ) (notes : List CompletedCall) → NotesTakeTime notes → AreInTurn notes →
    AreOwn client (entries_of client notes)
own_of client [] timed turns = record {
  own = λ x i. absurd (nothing_in x i);
  timed = λ x i. absurd (nothing_in x i);
  turns = tt;
}
own_of client (n ∷ notes) timed turns =
    let e : Entry = record { client = client; note = n } in
    let rest = own_of client notes (λ k d low. timed (suc k) d (omega (arith, low)))
    (λ i j d less low. turns (suc i) (suc j) d (omega (arith, less)) (omega (arith, low))) in
    record {
      own = λ x i. elim (in_cons e x (entries_of client notes) i) [
        | inl same ↦ subst (λ (y : Entry). y.client ≡ client) same refl
        | inr k ↦ rest.own x k
      ];
      timed = λ x i. elim (in_cons e x (entries_of client notes) i) [
        | inl same ↦ subst (λ (y : Entry). y.note.begin ≤ y.note.end) same (timed 0 n (omega arith))
        | inr k ↦ rest.timed x k
      ];
      turns = (λ x i. end_before notes n client turns x i, rest.turns);
    }

none_own : (client : ℕ) → AreOwn client []
none_own client = record { own = λ x i. absurd (nothing_in x i); timed = λ x i. absurd (nothing_in x i); turns = tt }

each_from : (first : ℕ) (kept : List (List CompletedCall)) → EachInTurn kept → (place client : ℕ) →
    client ≡ first + place →
    AreOwn client (list_at (entries_from first kept) place)
each_from first [] turns place client e = none_own client
each_from first (notes ∷ kept) turns zero client e =
    let same : first ≡ client = omega (arith, e) in
    subst (λ (k : ℕ). AreOwn client (entries_of k notes)) (sym same) (own_of client notes (turns 0).0 (turns 0).1)
each_from first (notes ∷ kept) turns (suc place) client e = each_from (suc first) kept (λ k. turns (suc k)) place client
    (omega (arith, e))

each_own : (kept : List (List CompletedCall)) → EachInTurn kept → EachOwn (entries_from 0 kept)
each_own kept turns place = each_from 0 kept turns place place (omega arith)

-- ---- what is left when a call was taken

within : (lists : List (List Entry)) (place : ℕ) (x : Entry) (rest : List Entry) → list_at lists place ≡ x ∷ rest →
    place < length lists
within lists place x rest e = elim (cases_lt place (length lists)) [
  | inl low ↦ low
  | inr past ↦ absurd (let h : x ∷ rest ≡ [] = sym e ∙ get_or_past lists place [] past in cc)
]

module _ (lists others : List (List Entry)) (e : Entry) (t : TakesFirst e lists others) where
  left_here : list_at others t.place ≡ t.rest
  left_here = ap (λ (l : List (List Entry)). list_at l t.place) t.left ∙ get_or-set_same lists t.place t.rest []
      (within lists t.place e t.rest t.first)

  left_there : (k : ℕ) → (k ≡ t.place → ⊥) → list_at others k ≡ list_at lists k
  left_there k apart = ap (λ (l : List (List Entry)). list_at l k) t.left ∙
      get_or-set_other lists t.place k t.rest [] apart

  first_own : EachOwn lists → AreOwn t.place (e ∷ t.rest)
  first_own each = subst (λ (l : List Entry). AreOwn t.place l) t.first (each t.place)

  rest_own : AreOwn t.place (e ∷ t.rest) → AreOwn t.place t.rest
  rest_own h = record {
    own = λ x i. h.own x (suc i.0, i.1);
    timed = λ x i. h.timed x (suc i.0, i.1);
    turns = h.turns.1;
  }

  others_own : EachOwn lists → EachOwn others
  others_own each k = elim (cases_eq k t.place) [
    | inl same ↦ subst (λ (j : ℕ). AreOwn j (list_at others j)) (sym same)
        (subst (λ (l : List Entry). AreOwn t.place l) (sym left_here) (rest_own (first_own each)))
    | inr apart ↦ subst (λ (l : List Entry). AreOwn k l) (sym (left_there k apart)) (each k)
  ]

  -- what is left in its own place
  is_left : (k : ℕ) (x : Entry) → k ≡ t.place → In x (list_at others k) → In x t.rest
  is_left k x same i = subst (λ (l : List Entry). In x l) left_here (subst (λ (j : ℕ). In x (list_at others j)) same i)

  was_there : (k : ℕ) (x : Entry) → In x (list_at others k) → In x (list_at lists k)
  was_there k x i = elim (cases_eq k t.place) [
    | inl same ↦
        let j = is_left k x same i in
        let all : In x (e ∷ t.rest) = (suc j.0, j.1) in
        subst (λ (n : ℕ). In x (list_at lists n)) (sym same) (subst (λ (l : List Entry). In x l) (sym t.first) all)
    | inr apart ↦ subst (λ (l : List Entry). In x l) (left_there k apart) i
  ]

-- each call of an interleaving stands in one of the lists
in_a_list : (lists : List (List Entry)) (all : List Entry) (x : Entry) → Interleaves lists all → In x all →
    (k : ℕ) × In x (list_at lists k)
in_a_list lists [] x h i = absurd (nothing_in x i)
in_a_list lists (e ∷ all) x h i = elim (in_cons e x all i) [
  | inl same ↦
      let t = h.1 in
      let here : In x (e ∷ t.rest) = (0, ap some same) in
      (t.place, subst (λ (l : List Entry). In x l) (sym t.first) here)
  | inr k ↦ let q = in_a_list h.0 all x h.2 k in (q.0, was_there lists h.0 e h.1 q.0 x q.1)
]

-- ---- in the order of all

-- each call takes time, and those of its client behind it begin when it is over
abbrev Follow : List Entry → Type 0
Follow [] = Unit {0}
Follow (e ∷ es) =
    (e.note.begin ≤ e.note.end) × ((x : Entry) → In x es → e.client ≡ x.client → e.note.end ≤ x.note.begin) × Follow es

follow : (lists : List (List Entry)) (all : List Entry) → Interleaves lists all → EachOwn lists → Follow all
follow lists [] h each = tt
follow lists (e ∷ all) h each =
    let t = h.1 in
    let own = first_own lists h.0 e t each in
    let left = others_own lists h.0 e t each in (
      own.timed e (0, refl),
      λ x i same. (
          let q = in_a_list h.0 all x h.2 i in
          let number : x.client ≡ q.0 = (left q.0).own x q.1 in
          let mine : e.client ≡ t.place = own.own e (0, refl) in
          let at : q.0 ≡ t.place = sym number ∙ (sym same ∙ mine) in
          own.turns.0 x (is_left lists h.0 e t q.0 x at q.1)),
      follow h.0 all h.2 left,
    )

-- ---- the same of calls

none_some : (c : Call) → None ≡ Some c → ⊥
none_some c e = cc

some_same : (a b : Call) → Some a ≡ Some b → a ≡ b
some_same a b e = cc

entry_at : (all : List Entry) (i : ℕ) (a : Call) → IsCallAt (map call_of_entry all) i a →
    (x : Entry) × In x all × (call_of_entry x ≡ a)
entry_at [] i a e = absurd (none_some a e)
entry_at (x ∷ all) zero a e = (x, (0, refl), some_same (call_of_entry x) a e)
entry_at (x ∷ all) (suc i) a e = let q = entry_at all i a e in (q.0, (suc q.1.0, q.1.1), q.2)

takes_time : (all : List Entry) → Follow all → TheyTakeTime (map call_of_entry all)
takes_time [] f i a e = absurd (none_some a e)
takes_time (x ∷ all) f zero a e = subst (λ (c : Call). c.begin ≤ c.end) (some_same (call_of_entry x) a e) f.0
takes_time (x ∷ all) f (suc i) a e = takes_time all f.2 i a e

in_sequence : (all : List Entry) → Follow all → CallsAreSequential (map call_of_entry all)
in_sequence [] f i j a b e g less same = absurd (none_some a e)
in_sequence (x ∷ all) f i zero a b e g less same = absurd (omega (arith, less))
in_sequence (x ∷ all) f zero (suc j) a b e g less same =
    let q = entry_at all j b g in
    let first : call_of_entry x ≡ a = some_same (call_of_entry x) a e in
    let client : x.client ≡ q.0.client = ap (λ (c : Call). c.client) first ∙
    (same ∙ sym (ap (λ (c : Call). c.client) q.2)) in
    subst (λ (c : Call). c.end ≤ b.begin) first (subst (λ (c : Call). x.note.end ≤ c.begin) q.2 (f.1 q.0 q.1 client))
in_sequence (x ∷ all) f (suc i) (suc j) a b e g less same = in_sequence all f.2 i j a b e g (omega (arith, less)) same

pub times : (kept : List (List CompletedCall)) (all : List Entry) → Interleaves (entries_from 0 kept) all →
    EachInTurn kept →
    TheyTakeTime (map call_of_entry all)
times kept all h turns = takes_time all (follow (entries_from 0 kept) all h (each_own kept turns))

pub sequential : (kept : List (List CompletedCall)) (all : List Entry) → Interleaves (entries_from 0 kept) all →
    EachInTurn kept → CallsAreSequential (map call_of_entry all)
sequential kept all h turns = in_sequence all (follow (entries_from 0 kept) all h (each_own kept turns))
