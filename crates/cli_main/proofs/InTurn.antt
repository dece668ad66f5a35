-- The attempts of a client in the order in which the client made them: by their times, and by their commit positions.
use Rattle.std.proofs.Common.{◌≡◌, ◌∙◌, ◌≤◌, ◌<◌, ◌&&◌, ◌||◌, ◌⊎◌, inl, inr, refl, ap, arith, ℕ, Bool, true, false, not}
use Rattle.std.proofs.Common.{eqb, ltb, cond, List, [], ◌∷◌, map, if◌then◌else◌}
use Rattle.std.specs.Prelude.{filter}
use Rattle.std.specs.List.{All, AllPairs, list_all}
use Rattle.std.proofs.lemmas.Bool.Decides.{nat_tests}
use Rattle.std.proofs.lemmas.List.Elements.{All-nil, All-cons}
use Rattle.std.proofs.lemmas.List.Kept.{AllPairs-cons}
use Rattle.vac_manager.specs.declared.note.TracedAttempt.{TracedAttempt}
use Rattle.vac_manager.specs.Placed.{CommitPosition}
use Rattle.vac_manager.specs.Tracing.{Trace, trace_of, AreMadeInTurn}
use Rattle.stm_object.specs.Places.{rank_of}
use Rattle.load_run.specs.Made.{IsNotAfter, AreAscending, committed_in}
use Rattle.load_run.specs.Several.{Interleaved, no_more, of_first, of_second}
use Rattle.load_record.specs.InTurn.{is_before}
use Rattle.load_record.specs.Noted.{none_committed}
use Rattle.cli_main.proofs.LoadEnds.{both_first, both_second}

-- ---- times

pub times_of : (from to : ℕ) (xs : List TracedAttempt) → AreMadeInTurn from (map trace_of xs) to →
    All (λ a. a.begin ≤ a.end) xs
times_of from to [] h = All-nil (λ a. a.begin ≤ a.end)
times_of from to (a ∷ xs) h = All-cons (λ a. a.begin ≤ a.end) a xs h.1 (times_of a.end to xs h.2)

-- all begin no earlier than the first time
behind : (low from to : ℕ) (xs : List TracedAttempt) → low ≤ from → AreMadeInTurn from (map trace_of xs) to →
    All (λ a. low ≤ a.begin) xs
behind low from to [] l h = All-nil (λ a. low ≤ a.begin)
behind low from to (a ∷ xs) l h =
    let first = h.0 in
    let own = h.1 in
    All-cons (λ b. low ≤ b.begin) a xs (omega (arith, l, first))
    (behind low a.end to xs (omega (arith, l, first, own)) h.2)

abbrev InTime : TracedAttempt → TracedAttempt → Type 0
InTime earlier later = earlier.end ≤ later.begin

pub turns_of : (from to : ℕ) (xs : List TracedAttempt) → AreMadeInTurn from (map trace_of xs) to →
    AllPairs (λ earlier later. earlier.end ≤ later.begin) xs
turns_of from to [] h = λ i j d less low. absurd (omega (arith, low))
turns_of from to (a ∷ xs) h = AllPairs-cons InTime a xs (behind a.end a.end to xs (omega arith) h.2)
    (turns_of a.end to xs h.2)

-- ---- positions

not_after_chain : (p q r : CommitPosition) → IsNotAfter p q → IsNotAfter q r → IsNotAfter p r
not_after_chain p q r (inl l) (inl k) = inl (omega (arith, l, k))
not_after_chain p q r (inl l) (inr k) = let same = k.0 in inl (omega (arith, l, same))
not_after_chain p q r (inr l) (inl k) = let same = l.0 in inl (omega (arith, same, k))
not_after_chain p q r (inr l) (inr k) =
    let a = l.1 in
    let b = k.1 in
    inr (l.0 ∙ k.0, omega (arith, a, b))

never_before : (a x b y : ℕ) → (a < x) ⊎ ((a ≡ x) × (b ≤ y)) → (ltb x a || (eqb x a && ltb y b)) ≡ false
never_before a x b y (inl l) = grind (arith, nat_tests, l)
never_before a x b y (inr h) = let same = h.0 in let low = h.1 in grind (arith, nat_tests, same, low)

abbrev InOrder : TracedAttempt → TracedAttempt → Type 0
InOrder earlier later = is_before later.place earlier.place ≡ false

-- no position behind is before this one
places_behind : (p first last : CommitPosition) (xs : List TracedAttempt) → IsNotAfter p first →
    AreAscending first (map trace_of xs) last → All (λ a. is_before a.place p ≡ false) xs
places_behind p first last [] l h = All-nil (λ a. is_before a.place p ≡ false)
places_behind p first last (a ∷ xs) l h =
    let up = not_after_chain p first a.place l h.0 in
    All-cons (λ b. is_before b.place p ≡ false) a xs
    (never_before p.renewal a.place.renewal (rank_of p) (rank_of a.place) up)
    (places_behind p a.place last xs up h.1)

pub places_of : (first last : CommitPosition) (xs : List TracedAttempt) → AreAscending first (map trace_of xs) last →
    AllPairs (λ earlier later. is_before later.place earlier.place ≡ false) xs
places_of first last [] h = λ i j d less low. absurd (omega (arith, low))
places_of first last (a ∷ xs) h = AllPairs-cons InOrder a xs
    (places_behind a.place a.place last xs (inr (refl, omega arith)) h.1) (places_of a.place last xs h.1)

-- ---- those that committed, and the others

abbrev all_committed : List TracedAttempt → Bool
all_committed xs = list_all (λ a. a.commits) xs

abbrev traces_committed : List Trace → Bool
traces_committed ts = list_all (λ t. t.commits) ts

one_committed : (b : Bool) (t : Trace) (ts : List Trace) → t.commits ≡ b → traces_committed ts ≡ true →
    traces_committed (if b then t ∷ ts else ts) ≡ true
one_committed true t ts e h = rw e h
one_committed false t ts e h = h

are_committed : (ts : List Trace) → traces_committed (committed_in ts) ≡ true
are_committed [] = refl
are_committed (t ∷ ts) = one_committed t.commits t (committed_in ts) refl (are_committed ts)

by_traces : (xs : List TracedAttempt) → all_committed xs ≡ traces_committed (map trace_of xs)
by_traces [] = refl
by_traces (a ∷ xs) = ap (λ b. a.commits && b) (by_traces xs)

-- attempts whose traces are those of committed ones committed
pub commit_all : (xs : List TracedAttempt) (ts : List Trace) → map trace_of xs ≡ committed_in ts →
    list_all (λ a. a.commits) xs ≡ true
commit_all xs ts e = by_traces xs ∙ (ap traces_committed e ∙ are_committed ts)

taken : (b : Bool) (a : TracedAttempt) (xs ys : List TracedAttempt) → b ≡ true → xs ≡ ys →
    cond b (a ∷ xs) xs ≡ a ∷ ys
taken true a xs ys e f = ap (λ (l : List TracedAttempt). a ∷ l) f
taken false a xs ys e f = absurd (let n : false ≡ true = e in cc)

left_out : (b : Bool) (a : TracedAttempt) (xs ys : List TracedAttempt) → b ≡ false → xs ≡ ys →
    cond b (a ∷ xs) xs ≡ ys
left_out false a xs ys e f = f
left_out true a xs ys e f = absurd (let n : true ≡ false = e in cc)

not_true : (b : Bool) → b ≡ true → not b ≡ false
not_true true e = refl
not_true false e = absurd (let n : false ≡ true = e in cc)

true_not : (b : Bool) → not b ≡ true → b ≡ false
true_not false e = refl
true_not true e = absurd (let n : false ≡ true = e in cc)

-- the parts of a list that was put together are what a test takes out and leaves
pub parted_by : {xs ys zs : List TracedAttempt} → Interleaved xs ys zs → list_all (λ a. a.commits) xs ≡ true →
    none_committed ys ≡ true →
    (filter (λ a. a.commits) zs ≡ xs) × (filter (λ a. not a.commits) zs ≡ ys)
parted_by no_more h k = (refl, refl)
parted_by (of_first x {xs = xs} {ys = ys} {zs = zs} p) h k =
    let own : x.commits ≡ true = both_first x.commits (all_committed xs) h in
    let rest = parted_by p (both_second x.commits (all_committed xs) h) k in (
      taken x.commits x (filter (λ a. a.commits) zs) xs own rest.0,
      left_out (not x.commits) x (filter (λ a. not a.commits) zs) ys (not_true x.commits own) rest.1,
    )
parted_by (of_second y {xs = xs} {ys = ys} {zs = zs} p) h k =
    let own : not y.commits ≡ true = both_first (not y.commits) (none_committed ys) k in
    let rest = parted_by p h (both_second (not y.commits) (none_committed ys) k) in (
      left_out y.commits y (filter (λ a. a.commits) zs) xs (true_not y.commits own) rest.0,
      taken (not y.commits) y (filter (λ a. not a.commits) zs) ys own rest.1,
    )
