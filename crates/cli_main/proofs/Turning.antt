-- The calls of a load's journals stand in order.
use Rattle.std.proofs.Common.{◌≡◌, ◌≤◌, ◌<◌, ◌&&◌, ◌||◌, eqb, ltb, Bool, false, refl, sym, subst, arith, ℕ, zero, suc}
use Rattle.std.proofs.Common.{List, [], ◌∷◌, ◌++◌, get_or, length, map}
use Rattle.std.proofs.lemmas.Bool.Decides.{nat_tests}
use Rattle.tx_memory.specs.Image.{In}
use Rattle.stm_core.specs.Client.{Record, before, rank}
use Rattle.stm_core.specs.History.{Sub, done, keep, skip}
use Rattle.stm_core.specs.Invariant.{Sorted}
use Rattle.stm_core.proofs.Merging.{in_sub}
use Rattle.load_tasks.specs.declared.settings.Settings.{Settings}
use Rattle.vac_manager.specs.Placed.{CommitPosition}
use Rattle.vac_manager.specs.declared.note.CompletedCall.{CompletedCall}
use Rattle.vac_manager.specs.Keeping.{IsNoted}
use Rattle.load_record.specs.declared.journal.CallRecorder.{CallRecorder}
use Rattle.load_record.specs.Turns.{NotesTakeTime, AreInTurn, EachInTurn}
use Rattle.stm_object.specs.Places.{rank_of}
use Rattle.load_record.specs.Order.{precedes, list_at, AreOrdered, EachOrdered}
use Rattle.load_record.specs.History.{notes_of, kept_by}
use Rattle.load_run.specs.Lists.{Paired, none, both}
use Rattle.load_run.specs.Load.{InterleavedAll}
use Rattle.load_run.proofs.Merging.{first_sub, second_sub}
use Rattle.load_run.specs.declared.summary.LoadSummary.{LoadSummary}
use Rattle.cli_main.specs.Load.{HasNoted}

-- what stands first by three numbers, the last of which do not go back, stands first by the first two
abbrev below : ℕ → ℕ → ℕ → ℕ → ℕ → ℕ → Bool
below a b c x y z = ltb a x || (eqb a x && (ltb b y || (eqb b y && ltb c z)))

never_back : (a b c d x y z w : ℕ) → below a b c x y z ≡ false → w ≤ d → below a b d x y w ≡ false
never_back a b c d x y z w e l = grind (arith, nat_tests, e, l)

-- a call does not precede one that began before it, and whose record does not stand behind its own
not_before : (a b : CompletedCall) (r x : Record) → IsNoted a r → IsNoted b x → before x r ≡ false → a.begin ≤ b.begin →
    precedes b a ≡ false
not_before a b r x h k e l =
    subst (λ (p : CommitPosition). ltb p.renewal a.place.renewal || (eqb p.renewal a.place.renewal &&
    (ltb (rank_of p) (rank_of a.place) || (eqb (rank_of p) (rank_of a.place) && ltb b.begin a.begin))) ≡ false)
    (sym k.place)
    (subst (λ (p : CommitPosition). ltb x.renewal p.renewal || (eqb x.renewal p.renewal &&
    (ltb (rank x) (rank_of p) || (eqb (rank x) (rank_of p) && ltb b.begin a.begin))) ≡ false) (sym h.place)
    (never_back x.renewal (rank x) x.point b.begin r.renewal (rank r) r.point a.begin e l))

-- a part of a list in order is in order
sorted_part : {p l : List Record} → Sub p l → Sorted l → Sorted p
sorted_part done o = tt
sorted_part (keep x s) o = (λ r i. o.0 r (in_sub r s i), sorted_part s o.1)
sorted_part (skip y s) o = sorted_part s o.1

-- the record of a call
noted_at : (notes : List CompletedCall) (records : List Record) → Paired IsNoted notes records →
    (k : ℕ) (d : CompletedCall) →
    k < length notes → (r : Record) × IsNoted (get_or notes k d) r × In r records
noted_at [] [] none k d low = absurd (omega (arith, low))
noted_at (n ∷ notes) (r ∷ records) (both h hs) zero d low = (r, h, (0, refl))
noted_at (n ∷ notes) (r ∷ records) (both h hs) (suc k) d low =
    let p = noted_at notes records hs k d (omega (arith, low)) in
    (p.0, p.1, (suc p.2.0, p.2.1))
noted_at [] (r ∷ records) h k d low = elim h [ ]
noted_at (n ∷ notes) [] h k d low = elim h [ ]

-- the records of two calls, one behind the other
record StandBehind (a b : CompletedCall) : Type 0 where
  first : Record
  second : Record
  of_first : IsNoted a first
  of_second : IsNoted b second
  behind : before second first ≡ false

behind_at : (notes : List CompletedCall) (records : List Record) → Paired IsNoted notes records → Sorted records →
    (i j : ℕ) (d : CompletedCall) → i < j → j < length notes → StandBehind (get_or notes i d) (get_or notes j d)
behind_at [] [] none o i j d less low = absurd (omega (arith, low))
behind_at (n ∷ notes) (r ∷ records) (both h hs) o i zero d less low = absurd (omega (arith, less))
behind_at (n ∷ notes) (r ∷ records) (both h hs) o zero (suc j) d less low =
    let p = noted_at notes records hs j d (omega (arith, low)) in
    record { first = r; second = p.0; of_first = h; of_second = p.1; behind = o.0 p.0 p.2 }
behind_at (n ∷ notes) (r ∷ records) (both h hs) o (suc i) (suc j) d less low =
    behind_at notes records hs o.1 i j d (omega (arith, less)) (omega (arith, low))
behind_at [] (r ∷ records) h o i j d less low = elim h [ ]
behind_at (n ∷ notes) [] h o i j d less low = elim h [ ]

ordered_notes : (notes : List CompletedCall) (records : List Record) → Paired IsNoted notes records → Sorted records →
    NotesTakeTime notes → AreInTurn notes → AreOrdered notes
ordered_notes notes records h o timed turns i j d less low =
    let p = behind_at notes records h o i j d less low in
    let takes = timed i d (omega (arith, less, low)) in
    let turn = turns i j d less low in
    not_before (get_or notes i d) (get_or notes j d) p.first p.second p.of_first p.of_second p.behind
    (omega (arith, takes, turn))

-- the journals of clients whose records are parts of a list in order
clients_ordered : {C X : Type 0} (records_of : X → List Record) (clients : List (CallRecorder C)) (xs : List X)
    (all : List Record) → Paired (λ notes x. Paired IsNoted notes (records_of x)) (map notes_of clients) xs
    → InterleavedAll records_of xs all → Sorted all → EachOrdered (map notes_of clients)
clients_ordered records_of [] xs all h among o place = λ i j d less low. absurd (omega (arith, low))
clients_ordered records_of (c ∷ clients) (x ∷ xs) all (both h hs) among o zero =
    ordered_notes (notes_of c) (records_of x) h (sorted_part (first_sub among.1) o) c.timed c.in_turn
clients_ordered records_of (c ∷ clients) (x ∷ xs) all (both h hs) among o (suc k) =
    clients_ordered records_of clients xs among.0 hs among.2 (sorted_part (second_sub among.1) o) k
clients_ordered records_of (c ∷ clients) [] all h among o place = elim h [ ]

-- a list in two parts
sub_front : {A : Type 0} (l m : List A) → Sub l (l ++ m)
sub_front [] m = done
sub_front (x ∷ l) m = keep x (sub_front l m)

sub_back : {A : Type 0} (l m : List A) → Sub m (l ++ m)
sub_back [] [] = done
sub_back [] (x ∷ m) = keep x (sub_back [] m)
sub_back (x ∷ l) m = skip x (sub_back l m)

pub each_ordered : {C : Type 0} {n : LoadSummary} (s : Settings) (opening : CallRecorder C)
    (clients : List (CallRecorder C)) →
    HasNoted s n (notes_of opening) (map notes_of clients) → EachOrdered (kept_by opening clients)
each_ordered s opening clients h place =
    let sorted : Sorted (h.loaded.opened ++ h.loaded.rest) =
    subst Sorted h.loaded.opening_first h.loaded.in_order in
    go sorted place
  where
    go : Sorted (h.loaded.opened ++ h.loaded.rest) → (k : ℕ) → AreOrdered (list_at (kept_by opening clients) k)
    go sorted zero = ordered_notes (notes_of opening) h.loaded.opened h.of_opening
        (sorted_part (sub_front h.loaded.opened h.loaded.rest) sorted) opening.timed opening.in_turn
    go sorted (suc k) = clients_ordered (λ x. x.records) clients h.loaded.shares h.loaded.rest h.of_clients
        h.loaded.each_once (sorted_part (sub_back h.loaded.opened h.loaded.rest) sorted) k

-- each journal's calls take their turns
clients_in_turn : {C : Type 0} (clients : List (CallRecorder C)) → EachInTurn (map notes_of clients)
clients_in_turn [] place = (λ k d low. absurd (omega (arith, low)), λ i j d less low. absurd (omega (arith, low)))
clients_in_turn (c ∷ clients) zero = (c.timed, c.in_turn)
clients_in_turn (c ∷ clients) (suc k) = clients_in_turn clients k

pub each_in_turn : {C : Type 0} (opening : CallRecorder C) (clients : List (CallRecorder C)) →
    EachInTurn (kept_by opening clients)
each_in_turn opening clients = clients_in_turn (opening ∷ clients)
