-- Readers of one version are exchanged: the calls of a legal history are legal in any order of
-- their records' places.
use Rattle.std.proofs.Common.{◌≡◌, ◌∙◌, ◌⊎◌, inl, inr, ◌<◌, ◌*◌, ◌+◌, ◌&&◌, ◌||◌, ℕ, zero, suc, Bool, true, false, cond}
use Rattle.std.proofs.Common.{eqb, ltb, List, [], ◌∷◌, ◌++◌, get_or, length, map, refl, sym, ap, subst, arith}
use Rattle.std.proofs.lemmas.Bool.Decides.{nat_tests}
use mathlib.Core.Option.{some, some-injective, some-ne-none}
use lib.ListN.{get_elem?}
use Rattle.tx_memory.specs.Image.{In}
use Rattle.stm_core.specs.Client.{Record, before, rank}
use Rattle.stm_core.specs.Invariant.{Sorted}
use Rattle.stm_core.proofs.Lists.{nothing_in, by_bool}
use Rattle.stm_core.proofs.Orders.{in_cons}
use Rattle.vac_model.specs.declared.tasks.Task.{Task}
use Rattle.vac_model.specs.declared.replies.Reply.{Reply}
use Rattle.vac_model.specs.State.{State}
use Rattle.vac_model.specs.Run.{run}
use Rattle.vac_model.proofs.Codes.{code_determines}
use Rattle.vac_model.specs.ReplyText.{reply_text}
use Rattle.vac_manager.specs.Legal.{RecordRuns, IsLegal, AreNoRivals, HaveOneWriter, AreVersioned}
use Rattle.vac_manager.specs.declared.note.CompletedCall.{CompletedCall}
use Rattle.vac_manager.specs.Placed.{CommitPosition}
use Rattle.vac_manager.specs.Keeping.{IsNoted}
use Rattle.judge_calls.specs.Laws.{GiveReplies, state_after}
use Rattle.stm_object.specs.Places.{rank_of}
use Rattle.load_record.specs.Order.{Entry, precedes, AreOrdered}
use Rattle.load_record.specs.History.{call_of_entry}
use Rattle.load_record.specs.Legal.{AreCallsOf}

-- ---- a record in the midst of others

pub in_more : (first more : List Record) (r x : Record) → In x (first ++ more) → In x (first ++ r ∷ more)
in_more [] more r x i = (suc i.0, i.1)
in_more (y ∷ first) more r x i = elim (in_cons y x (first ++ more) i) [
  | inl e ↦ (0, ap some e)
  | inr k ↦ let q = in_more first more r x k in (suc q.0, q.1)
]

pub in_midst : (first more : List Record) (r : Record) → In r (first ++ r ∷ more)
in_midst [] more r = (0, refl)
in_midst (y ∷ first) more r = let q = in_midst first more r in (suc q.0, q.1)

pub in_split : (first more : List Record) (r x : Record) → In x (first ++ r ∷ more) → (r ≡ x) ⊎ In x (first ++ more)
in_split [] more r x i = in_cons r x more i
in_split (y ∷ first) more r x i = elim (in_cons y x (first ++ r ∷ more) i) [
  | inl e ↦ inr (0, ap some e)
  | inr k ↦ elim (in_split first more r x k) [ inl e ↦ inl e | inr j ↦ inr (suc j.0, j.1) ]
]

in_front : (first more : List Record) (x : Record) → In x first → In x (first ++ more)
in_front [] more x i = absurd (nothing_in x i)
in_front (y ∷ first) more x i = elim (in_cons y x first i) [
  | inl e ↦ (0, ap some e)
  | inr k ↦ let q = in_front first more x k in (suc q.0, q.1)
]

-- what holds of the others is kept without it
sorted_without : (first more : List Record) (r : Record) → Sorted (first ++ r ∷ more) → Sorted (first ++ more)
sorted_without [] more r o = o.1
sorted_without (x ∷ first) more r o = (λ y i. o.0 y (in_more first more r y i), sorted_without first more r o.1)

writers_without : (first more : List Record) (r : Record) → HaveOneWriter (first ++ r ∷ more) →
    HaveOneWriter (first ++ more)
writers_without [] more r o = o.1
writers_without (x ∷ first) more r o = (λ y i. o.0 y (in_more first more r y i), writers_without first more r o.1)

versioned_without : (first more : List Record) (r : Record) → AreVersioned (first ++ r ∷ more) →
    AreVersioned (first ++ more)
versioned_without first more r v = record {
  writers = writers_without first more r v.writers;
  readers = λ x i e. v.readers x (in_more first more r x i) e;
}

-- and what it has to do with those before it
behind : (first more : List Record) (r x : Record) → Sorted (first ++ r ∷ more) → In x first → before r x ≡ false
behind [] more r x o i = absurd (nothing_in x i)
behind (y ∷ first) more r x o i = elim (in_cons y x first i) [
  | inl e ↦ subst (λ (z : Record). before r z ≡ false) e (o.0 r (in_midst first more r))
  | inr k ↦ behind first more r x o.1 k
]

no_rivals : (first more : List Record) (r x : Record) → HaveOneWriter (first ++ r ∷ more) → In x first → AreNoRivals x r
no_rivals [] more r x o i = absurd (nothing_in x i)
no_rivals (y ∷ first) more r x o i = elim (in_cons y x first i) [
  | inl e ↦ subst (λ (z : Record). AreNoRivals z r) e (o.0 r (in_midst first more r))
  | inr k ↦ no_rivals first more r x o.1 k
]

-- ---- the calls of records

-- each record has a call
noted_by : (notes : List CompletedCall) (records : List Record) (x : Record) → AreCallsOf notes records → In x records →
    (n : CompletedCall) × In n notes × IsNoted n x
noted_by [] records x h i = absurd (nothing_in x (subst (λ (l : List Record). In x l) h i))
noted_by (n ∷ notes) records x h i = elim (in_split h.0 h.2 h.1 x (subst (λ (l : List Record). In x l) h.3 i)) [
  | inl e ↦ (n, (0, refl), subst (λ (z : Record). IsNoted n z) e h.4)
  | inr k ↦ let q = noted_by notes (h.0 ++ h.2) x h.5 k in (q.0, (suc q.1.0, q.1.1), q.2)
]

-- the first call in order precedes no other, nor does another precede it
at_place : (notes : List CompletedCall) (j : ℕ) (m : CompletedCall) → get_elem? notes j ≡ some m →
    (j < length notes) × (get_or notes j m ≡ m)
at_place [] j m e = absurd (some-ne-none m (sym e))
at_place (n ∷ notes) zero m e = (omega arith, some-injective n m e)
at_place (n ∷ notes) (suc j) m e = let q = at_place notes j m e in (omega (arith, q.0), q.1)

first_least : (n : CompletedCall) (notes : List CompletedCall) (m : CompletedCall) → AreOrdered (n ∷ notes) →
    In m notes → precedes m n ≡ false
first_least n notes m o i =
    let q = at_place notes i.0 m i.1 in
    subst (λ (x : CompletedCall). precedes x n ≡ false) q.1 (o 0 (suc i.0) m (omega arith) (omega (arith, q.0)))

ordered_rest : (n : CompletedCall) (notes : List CompletedCall) → AreOrdered (n ∷ notes) → AreOrdered notes
ordered_rest n notes o i j d less low = o (suc i) (suc j) d (omega (arith, less)) (omega (arith, low))

-- ---- records at one place

-- by the first numbers, then by the second ones, then by the third ones
abbrev below : ℕ → ℕ → ℕ → ℕ → ℕ → ℕ → Bool
below a b c x y z = ltb a x || (eqb a x && (ltb b y || (eqb b y && ltb c z)))

level : (a b c d x y z w : ℕ) → below a b c x y z ≡ false → below x y w a b d ≡ false → (x ≡ a) × (y ≡ b)
level a b c d x y z w p q = (grind (arith, nat_tests, p, q), grind (arith, nat_tests, p, q))

rank_parts : (v v' : ℕ) (w w' : Bool) → 2 * v + cond w 0 1 ≡ 2 * v' + cond w' 0 1 → (v ≡ v') × (w ≡ w')
rank_parts v v' true true e = (omega (arith, e), refl)
rank_parts v v' true false e = absurd (omega (arith, e))
rank_parts v v' false true e = absurd (omega (arith, e))
rank_parts v v' false false e = (omega (arith, e), refl)

-- neither stands behind the other: x by the order of records, r by that of calls
record AtOnePlace (r x : Record) : Type 0 where
  renewal : x.renewal ≡ r.renewal
  version : x.version ≡ r.version
  writer : x.writer ≡ r.writer

at_one_place : (r x : Record) (n m : CompletedCall) → IsNoted n r → IsNoted m x → before r x ≡ false →
    precedes m n ≡ false →
    AtOnePlace r x
at_one_place r x n m h k behind least =
    let at : below x.renewal (rank x) m.begin r.renewal (rank r) n.begin ≡ false =
    subst (λ (p : CommitPosition). below x.renewal (rank x) m.begin p.renewal (rank_of p) n.begin ≡ false) h.place
    (subst (λ (p : CommitPosition). below p.renewal (rank_of p) m.begin n.place.renewal
    (rank_of n.place) n.begin ≡ false)
    k.place least) in
    let same = level r.renewal (rank r) r.point n.begin x.renewal (rank x) x.point m.begin behind at in
    let parts = rank_parts x.version r.version x.writer r.writer same.1 in
    record { renewal = same.0; version = parts.0; writer = parts.1 }

-- so both are readers
both_read : (first more : List Record) (r x : Record) → AreVersioned (first ++ r ∷ more) → In x first → AtOnePlace r x →
    (x.writes ≡ []) × (r.writes ≡ [])
both_read first more r x v i one =
    let reads : r.writer ≡ false = by_bool r.writer
    (λ w. absurd (no_rivals first more r x v.writers i one.renewal one.version (one.writer ∙ w) w)) (λ w. w) in
    (v.readers x (in_front first (r ∷ more) x i) (one.writer ∙ reads), v.readers r (in_midst first more r) reads)

-- ---- a record runs first

-- a record runs before those in front of it, where they and it wrote nothing
taken : (s last : State) (first : List Record) (r : Record) (more : List Record) →
    ((x : Record) → In x first → (x.writes ≡ []) × (r.writes ≡ [])) → IsLegal s (first ++ r ∷ more) last →
    (after : State) × RecordRuns r s after × IsLegal after (first ++ more) last
taken s last [] r more quiet l = l
taken s last (x ∷ first) r more quiet l =
    let q = quiet x (0, refl) in
    let same : l.0 ≡ s = l.1.steady q.0 in
    let rest = subst (λ (z : State). IsLegal z (first ++ r ∷ more) last) same l.2 in
    let k = taken s last first r more (λ y i. quiet y (suc i.0, i.1)) rest in
    let still : k.0 ≡ s = k.1.steady q.1 in (
      s,
      subst (λ (z : State). RecordRuns r s z) still k.1,
      (
        s,
        subst (λ (z : State). RecordRuns x s z) same l.1,
        subst
            (λ (z : State). IsLegal z (first ++ more) last) still k.2,
      ),
    )

-- the record of a call runs its task to its reply
ran : (n : CompletedCall) (r : Record) (s after : State) → IsNoted n r → RecordRuns r s after →
    run s n.task ≡ (after, n.reply)
ran n r s after h p =
    let same = code_determines n.task p.task n.reply p.reply (sym h.tag ∙ p.told) in
    ap (λ (t : Task). run s t) same.0 ∙ (p.runs ∙ ap (λ (a : Reply). (after, a)) (sym same.1))

pub gives : (s last : State) (all : List Entry) (records : List Record) → AreCallsOf (map (λ e. e.note) all) records →
    AreOrdered (map (λ e. e.note) all) → Sorted records → AreVersioned records → IsLegal s records last →
    GiveReplies s (map call_of_entry all) × (state_after s (map call_of_entry all) ≡ last)
gives s last [] records m o sorted v l = (tt, subst (λ (rs : List Record). IsLegal s rs last) m l)
gives s last (e ∷ all) records m o sorted v l =
    let first = m.0 in
    let r = m.1 in
    let more = m.2 in
    let notes : List CompletedCall = map (λ e. e.note) all in
    let sorted' : Sorted (first ++ r ∷ more) = subst (λ (rs : List Record). Sorted rs) m.3 sorted in
    let v' : AreVersioned (first ++ r ∷ more) = subst (λ (rs : List Record). AreVersioned rs) m.3 v in
    let l' : IsLegal s (first ++ r ∷ more) last = subst (λ (rs : List Record). IsLegal s rs last) m.3 l in
    let quiet : (x : Record) → In x first → (x.writes ≡ []) × (r.writes ≡ []) = λ x i.
    let k = noted_by notes (first ++ more) x m.5 (in_front first more x i) in
    both_read first more r x v' i
    (at_one_place r x e.note k.0 m.4 k.2 (behind first more r x sorted' i) (first_least e.note notes k.0 o k.1)) in
    let q = taken s last first r more quiet l' in
    let done : run s e.note.task ≡ (q.0, e.note.reply) = ran e.note r s q.0 m.4 q.1 in
    let state : (run s e.note.task).0 ≡ q.0 = ap (λ (x : State × Reply). x.0) done in
    let reply : (run s e.note.task).1 ≡ e.note.reply = ap (λ (x : State × Reply). x.1) done in
    let k = gives q.0 last all (first ++ more) m.5 (ordered_rest e.note notes o) (sorted_without first more r sorted')
    (versioned_without first more r v') q.2 in (
      (ap reply_text reply, subst (λ (z : State). GiveReplies z (map call_of_entry all)) (sym state) k.0),
      ap (λ (z : State). state_after z (map call_of_entry all)) state ∙ k.1,
    )
