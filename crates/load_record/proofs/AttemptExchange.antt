-- Readers of one version are exchanged: attempts that are sorted by commit position are made serially.
use Rattle.std.proofs.Common.{◌≡◌, inl, inr, ◌*◌, ◌+◌, ◌&&◌, ◌||◌, ℕ, suc, Bool, true, false, cond}
use Rattle.std.proofs.Common.{eqb, ltb, List, [], ◌∷◌, ◌++◌, slice_index_or, refl, sym, ap, subst, arith, ◌∙◌}
use Rattle.std.proofs.lemmas.Bool.Decides.{nat_tests}
use Rattle.std.specs.Ordering.{is_lt}
use mathlib.Core.Option.{some}
use Rattle.tx_memory.specs.Image.{In, Agrees, laid}
use Rattle.stm_core.specs.Client.{Record, before, rank}
use Rattle.stm_core.specs.History.{Serial}
use Rattle.stm_core.specs.Invariant.{Sorted}
use Rattle.stm_core.proofs.Lists.{nothing_in, by_bool}
use Rattle.stm_core.proofs.Orders.{in_cons}
use Rattle.stm_object.specs.declared.place.CommitPosition.{CommitPosition}
use Rattle.vac_lines.proofs.Spacing.{Each}
use Rattle.vac_manager.specs.declared.note.TracedAttempt.{TracedAttempt}
use Rattle.vac_manager.specs.Legal.{AreNoRivals, HaveOneWriter, AreVersioned}
use Rattle.vac_manager.specs.Tracing.{trace_of, IsTraceOf}
use Rattle.stm_object.specs.Places.{rank_of}
use Rattle.load_record.proofs.Exchange.{in_more, in_midst, in_split}
use Rattle.load_record.specs.Lines.{AttemptEntry}
use Rattle.load_record.specs.AttemptOrder.{compare, EntriesAreOrdered}
use Rattle.load_record.specs.Records.{committed_notes, AreTracesOf}
use Rattle.load_record.specs.Ordered.{CorrespondTo, OrderedAttemptsAreMadeSerially}
use Rattle.load_record.specs.Ordered.{HistoriesAreOpaqueUpToPrecedence}
use Rattle.load_record.proofs.Judging.{up_to_precedence}
use Rattle.load_record.proofs.InPlace.{in_place_legal}

-- ---- the order of attempts, without their times

-- by the first numbers, then by the second ones
abbrev pub below : ℕ → ℕ → ℕ → ℕ → Bool
below a b x y = ltb a x || (eqb a x && ltb b y)

below_chain : (a b k l x y : ℕ) → below a b k l ≡ false → below k l x y ≡ false → below a b x y ≡ false
below_chain a b k l x y p q = grind (arith, nat_tests, p, q)

-- the attempt is not to be written before the other one
abbrev pub IsLater : TracedAttempt → TracedAttempt → Type 0
IsLater a b = below a.place.renewal (rank_of a.place) b.place.renewal (rank_of b.place) ≡ false

later_chain : (a b c : TracedAttempt) → IsLater a b → IsLater b c → IsLater a c
later_chain a b c p q =
    below_chain a.place.renewal (rank_of a.place) b.place.renewal (rank_of b.place) c.place.renewal
    (rank_of c.place) p q

later_of : (a b : TracedAttempt) → is_lt (compare a b) ≡ false → IsLater a b
later_of a b h = grind (arith, nat_tests, h)

abbrev pub Ordered : List TracedAttempt → Type 0
Ordered [] = Unit {0}
Ordered (a ∷ notes) = Each (λ x. IsLater x a) notes × Ordered notes

-- each of the entries is in order with the one before it
abbrev pub FollowOn : List AttemptEntry → Type 0
FollowOn [] = Unit {0}
FollowOn (e ∷ []) = Unit {0}
FollowOn (e ∷ f ∷ es) = IsLater f.attempt e.attempt × FollowOn (f ∷ es)

pub follow_on : (entries : List AttemptEntry) → EntriesAreOrdered entries → FollowOn entries
follow_on [] o = tt
follow_on (e ∷ []) o = tt
follow_on (e ∷ f ∷ es) o = (
  later_of f.attempt e.attempt (o 0 e (omega arith) (omega arith)),
  follow_on (f ∷ es) (λ k d first low.
      let next : suc k + 1 ≡ suc (k + 1) = omega arith in
      subst (λ n. is_lt (compare (slice_index_or (e ∷ f ∷ es) n d).attempt (slice_index_or (f ∷ es) k d).attempt) ≡
      false)
      next (o (suc k) d (omega arith) (omega (arith, low)))),
)

abbrev pub AllLater : TracedAttempt → List AttemptEntry → Type 0
AllLater a es = Each (λ (x : AttemptEntry). IsLater x.attempt a) es

all_later : (a : TracedAttempt) (es : List AttemptEntry) (b : TracedAttempt) → IsLater b a → AllLater b es →
    AllLater a es
all_later a [] b h k = tt
all_later a (e ∷ es) b h k = (later_chain e.attempt b a k.0 h, all_later a es b h k.1)

abbrev pub EntriesOrdered : List AttemptEntry → Type 0
EntriesOrdered [] = Unit {0}
EntriesOrdered (e ∷ es) = AllLater e.attempt es × EntriesOrdered es

pub entries_ordered : (entries : List AttemptEntry) → FollowOn entries → EntriesOrdered entries
entries_ordered [] h = tt
entries_ordered (e ∷ []) h = (tt, tt)
entries_ordered (e ∷ f ∷ es) h =
    let rest = entries_ordered (f ∷ es) h.1 in
    ((h.0, all_later e.attempt es f.attempt h.0 rest.0), rest)

pub committed_later : (a : TracedAttempt) (es : List AttemptEntry) → AllLater a es →
    Each (λ x. IsLater x a) (committed_notes es)
committed_later a [] h = tt
committed_later a (e ∷ es) h =
    elim e.attempt.commits as (λ b. Each (λ x. IsLater x a) (cond b (e.attempt ∷ committed_notes es)
    (committed_notes es))) [
      | true ↦ (h.0, committed_later a es h.1)
      | false ↦ committed_later a es h.1
    ]

pub committed_ordered : (es : List AttemptEntry) → EntriesOrdered es → Ordered (committed_notes es)
committed_ordered [] h = tt
committed_ordered (e ∷ es) h =
    elim e.attempt.commits as (λ b. Ordered (cond b (e.attempt ∷ committed_notes es) (committed_notes es))) [
      | true ↦ (committed_later e.attempt es h.0, committed_ordered es h.1)
      | false ↦ committed_ordered es h.1
    ]

pub ordered_rest : (first made : List TracedAttempt) → Ordered (first ++ made) → Ordered made
ordered_rest [] made h = h
ordered_rest (a ∷ first) made h = ordered_rest first made h.1

-- ---- a record in the midst of others

in_front : (first more : List Record) (x : Record) → In x first → In x (first ++ more)
in_front [] more x i = absurd (nothing_in x i)
in_front (y ∷ first) more x i = elim (in_cons y x first i) [
  | inl e ↦ (0, ap some e)
  | inr k ↦ let q = in_front first more x k in (suc q.0, q.1)
]

pub sorted_without : (first more : List Record) (r : Record) → Sorted (first ++ r ∷ more) → Sorted (first ++ more)
sorted_without [] more r o = o.1
sorted_without (x ∷ first) more r o = (λ y i. o.0 y (in_more first more r y i), sorted_without first more r o.1)

writers_without : (first more : List Record) (r : Record) → HaveOneWriter (first ++ r ∷ more) →
    HaveOneWriter (first ++ more)
writers_without [] more r o = o.1
writers_without (x ∷ first) more r o = (λ y i. o.0 y (in_more first more r y i), writers_without first more r o.1)

pub versioned_without : (first more : List Record) (r : Record) → AreVersioned (first ++ r ∷ more) →
    AreVersioned (first ++ more)
versioned_without first more r v = record {
  writers = writers_without first more r v.writers;
  readers = λ x i e. v.readers x (in_more first more r x i) e;
}

behind : (first more : List Record) (r x : Record) → Sorted (first ++ r ∷ more) → In x first → before r x ≡ false
behind [] more r x o i = absurd (nothing_in x i)
behind (y ∷ first) more r x o i = elim (in_cons y x first i) [
  | inl e ↦ subst (λ (z : Record). before r z ≡ false) e (o.0 r (in_midst first more r))
  | inr k ↦ behind first more r x o.1 k
]

no_rivals : (first more : List Record) (r x : Record) → HaveOneWriter (first ++ r ∷ more) → In x first → AreNoRivals x r
no_rivals [] more r x o i = absurd (nothing_in x i)
no_rivals (y ∷ first) more r x o i = elim (in_cons y x first i) [
  | inl e ↦ subst (λ (z : Record). AreNoRivals z r) e (o.0 r (in_midst first more r))
  | inr k ↦ no_rivals first more r x o.1 k
]

-- ---- the attempt of a record

-- some attempt after the first one made the record
abbrev pub MadeLater : TracedAttempt → Record → Type 0
MadeLater a x = (b : TracedAttempt) × IsTraceOf (trace_of b) x × IsLater b a

pub made_later : (a : TracedAttempt) (notes : List TracedAttempt) (records : List Record) (x : Record) →
    CorrespondTo notes records → Each (λ n. IsLater n a) notes → In x records → MadeLater a x
made_later a [] records x h k i = absurd (nothing_in x (subst (λ (l : List Record). In x l) h i))
made_later a (n ∷ notes) records x h k i =
    elim (in_split h.0 h.2 h.1 x (subst (λ (l : List Record). In x l) h.3 i)) [
      | inl e ↦ (n, subst (λ (z : Record). IsTraceOf (trace_of n) z) e h.4, k.0)
      | inr j ↦ made_later a notes (h.0 ++ h.2) x h.5 k.1 j
    ]

-- ---- records at one place

level : (a b c x y z : ℕ) → (ltb a x || (eqb a x && (ltb b y || (eqb b y && ltb c z)))) ≡ false →
    below x y a b ≡ false → (x ≡ a) × (y ≡ b)
level a b c x y z p q = (grind (arith, nat_tests, p, q), grind (arith, nat_tests, p, q))

rank_parts : (v v' : ℕ) (w w' : Bool) → 2 * v + cond w 0 1 ≡ 2 * v' + cond w' 0 1 → (v ≡ v') × (w ≡ w')
rank_parts v v' true true e = (omega (arith, e), refl)
rank_parts v v' true false e = absurd (omega (arith, e))
rank_parts v v' false true e = absurd (omega (arith, e))
rank_parts v v' false false e = (omega (arith, e), refl)

record AtOnePlace (r x : Record) : Type 0 where
  renewal : x.renewal ≡ r.renewal
  version : x.version ≡ r.version
  writer : x.writer ≡ r.writer

at_one_place : (r x : Record) (a b : TracedAttempt) → IsTraceOf (trace_of a) r → IsTraceOf (trace_of b) x →
    before r x ≡ false → IsLater b a → AtOnePlace r x
at_one_place r x a b h k behind later =
    let at : below x.renewal (rank x) r.renewal (rank r) ≡ false =
    subst (λ (p : CommitPosition). below x.renewal (rank x) p.renewal (rank_of p) ≡ false) h.place
    (subst (λ (p : CommitPosition). below p.renewal (rank_of p) a.place.renewal (rank_of a.place) ≡ false) k.place
    later) in
    let same = level r.renewal (rank r) r.point x.renewal (rank x) x.point behind at in
    let parts = rank_parts x.version r.version x.writer r.writer same.1 in
    record { renewal = same.0; version = parts.0; writer = parts.1 }

both_read : (first more : List Record) (r x : Record) → AreVersioned (first ++ r ∷ more) → In x first → AtOnePlace r x →
    (x.writes ≡ []) × (r.writes ≡ [])
both_read first more r x v i one =
    let reads : r.writer ≡ false = by_bool r.writer
    (λ w. absurd (no_rivals first more r x v.writers i one.renewal one.version (one.writer ∙ w) w)) (λ w. w) in
    (v.readers x (in_front first (r ∷ more) x i) (one.writer ∙ reads), v.readers r (in_midst first more r) reads)

-- if records stand in front of the record of the first attempt, then they wrote nothing, and neither did that record
pub quiet : (a : TracedAttempt) (notes : List TracedAttempt) (first : List Record) (r : Record) (more : List Record) →
    IsTraceOf (trace_of a) r → CorrespondTo notes (first ++ more) → Each (λ n. IsLater n a) notes →
    Sorted (first ++ r ∷ more) → AreVersioned (first ++ r ∷ more) → (x : Record) → In x first →
    (x.writes ≡ []) × (r.writes ≡ [])
quiet a notes first r more is m o sorted v x i =
    let k = made_later a notes (first ++ more) x m o (in_front first more x i) in
    both_read first more r x v i (at_one_place r x a k.0 is k.1 (behind first more r x sorted i) k.2)

-- ---- a record comes first

unwritten : (image : List ℕ) (r : Record) → r.writes ≡ [] → laid image r.writes ≡ image
unwritten image r e = ap (laid image) e

taken : (image : List ℕ) (first : List Record) (r : Record) (more : List Record) →
    ((x : Record) → In x first → (x.writes ≡ []) × (r.writes ≡ [])) → Serial image (first ++ r ∷ more) →
    Agrees image r.reads × Serial (laid image r.writes) (first ++ more)
taken image [] r more quiet s = s
taken image (x ∷ first) r more quiet s =
    let q = quiet x (0, refl) in
    let rest = subst (λ (i : List ℕ). Serial i (first ++ r ∷ more)) (unwritten image x q.0) s.1 in
    let k = taken image first r more (λ y i. quiet y (suc i.0, i.1)) rest in
    let still = unwritten image r q.1 in
    let behind = subst (λ (i : List ℕ). Serial i (first ++ more)) still k.1 in (
      k.0,
      subst (λ (i : List ℕ). Serial i (x ∷ first ++ more)) (sym still)
          (s.0, subst (λ (i : List ℕ). Serial i (first ++ more)) (sym (unwritten image x q.0)) behind),
    )

-- records in the order of their attempts
abbrev InOrder : List ℕ → List TracedAttempt → Type 0
InOrder image notes = (records : List Record) × AreTracesOf notes records × Serial image records

in_order : (image : List ℕ) (notes : List TracedAttempt) (records : List Record) → CorrespondTo notes records →
    Ordered notes → Sorted records → AreVersioned records → Serial image records → InOrder image notes
in_order image [] records m o sorted v s = ([], refl, tt)
in_order image (a ∷ notes) records m o sorted v s =
    let first = m.0 in
    let r = m.1 in
    let more = m.2 in
    let sorted' : Sorted (first ++ r ∷ more) = subst (λ (rs : List Record). Sorted rs) m.3 sorted in
    let v' : AreVersioned (first ++ r ∷ more) = subst (λ (rs : List Record). AreVersioned rs) m.3 v in
    let s' : Serial image (first ++ r ∷ more) = subst (λ (rs : List Record). Serial image rs) m.3 s in
    let q = taken image first r more (quiet a notes first r more m.4 m.5 o.0 sorted' v') s' in
    let rest = in_order (laid image r.writes) notes (first ++ more) m.5 o.1 (sorted_without first more r sorted')
    (versioned_without first more r v') q.1 in
    (r ∷ rest.0, (m.4, rest.1), (q.0, rest.2))

pub made_serially : OrderedAttemptsAreMadeSerially
made_serially image history first all sorted h =
    let ordered = committed_ordered all (entries_ordered all (follow_on all sorted)) in
    let made = ordered_rest first h.made (subst (λ (l : List TracedAttempt). Ordered l) h.committed ordered) in
    let found = in_order image h.made history h.traced made h.sorted h.versioned h.serial in
    record {
      made = h.made;
      committed = h.committed;
      writes = h.writes;
      records = found.0;
      traced = found.1;
      serial = found.2;
    }

pub history_judged : HistoriesAreOpaqueUpToPrecedence
history_judged words image history first all fit sorted h aborted turns =
    up_to_precedence words all fit
    (in_place_legal image first all (made_serially image history first all sorted h) aborted) turns
