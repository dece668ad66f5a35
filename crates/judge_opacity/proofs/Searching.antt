-- The search over the attempts of a text: positions and counts say what the greedy search has to know.
use Rattle.std.proofs.Common.{◌≡◌, ℕ, suc, zero, ◌+◌, ◌<◌, ◌≤◌, ◌==◌, ◌&&◌, Bool, true, false, not, cond, List, [], ◌∷◌}
use Rattle.std.proofs.Common.{◌++◌}
use Rattle.std.proofs.Common.{length, map, take, drop, get_or, remove, Option, Some, None, is_none, is_some, All}
use Rattle.std.proofs.Common.{refl, sym, ap}
use Rattle.std.proofs.Common.{Result, Ok, Err, OnOk}
use Rattle.std.proofs.Common.{◌∙◌, subst, arith}
use Rattle.std.specs.List.{count_by}
use mathlib.Core.List.{reverse_aux}
use Rattle.std.proofs.lemmas.List.{map-append, reverse-reverse}
use Rattle.std.proofs.lemmas.List.Elements.{All-append, All-take, All-drop}
use Rattle.std.proofs.lemmas.List.Sums.{sum_by-cons}
use Rattle.std.proofs.lemmas.Bool.Decides.{nat_tests}
use Rattle.judge_object.specs.declared.span.Misplaced.{Misplaced}
use Rattle.judge_object.specs.Keeping.{Keeps}
use Rattle.judge_object.specs.Order.{itself, misplaced}
use Rattle.judge_object.proofs.Order.{misplaced_mapped}
use Rattle.judge_opacity.specs.declared.finding.AttemptViolation.{AttemptViolation}
use Rattle.judge_opacity.specs.declared.finding.AttemptViolation.TheVariants as violation
use Rattle.judge_opacity.specs.declared.finding.Counts.{Counts}
use Rattle.judge_opacity.specs.declared.judge.Judge.{Judge}
use Rattle.judge_opacity.specs.declared.logged.Logged.{Logged}
use Rattle.judge_opacity.specs.Attempt.{Attempt, span_of_attempt}
use Rattle.judge_opacity.specs.Covered.{image_of}
use Rattle.judge_opacity.specs.Words.{left_by, wrong_read}
use Rattle.judge_opacity.specs.Verdict.{place_first, violation_of, counts_of}
use Rattle.judge_opacity.specs.Judging.{FollowsAttempts}
use Rattle.judge_opacity.specs.Placing.{is_writer, NoWriter, IsPlacement, IsPlaceable, may_follow, Goes, Completes}
use Rattle.judge_opacity.specs.Logs.{logged_attempt, attempts_in, blocks, blocked_by, own_block, is_free}
use Rattle.judge_opacity.specs.Logs.{IsFreeAt, IsFirstWriter, IsSameJudge, MayComeNext, IsNextPlaced, IsPlacedAs}
use Rattle.judge_opacity.proofs.Judged.{by_place, by_reads}
use Rattle.judge_opacity.proofs.Greedy.{AllFollow, NoFree, heads, none_split, free_next, writer_next, stuck_none}
use Rattle.judge_opacity.proofs.Greedy.{completes_first, goes_opaque}

-- ---- judges

pub same_follows : (words : ℕ) (judge other : Judge) (earlier : List Attempt) → IsSameJudge judge other →
    FollowsAttempts words judge earlier → FollowsAttempts words other earlier
same_follows words judge other earlier s f = record {
  size = ap length s.words ∙ f.size;
  left = ap image_of s.words ∙ f.left;
  spans = subst (λ t. Keeps t (map span_of_attempt earlier)) (sym s.spans) f.spans;
  committed = s.committed ∙ f.committed;
}

pub same_then : (judge other third : Judge) → IsSameJudge judge other → IsSameJudge other third →
    IsSameJudge judge third
same_then judge other third s t = record {
  words = t.words ∙ s.words;
  spans = t.spans ∙ s.spans;
  committed = t.committed ∙ s.committed;
}

-- an attempt that is not in its place
pub misplaced_fails : (earlier : List Attempt) (a : Attempt) (place : Option Misplaced) →
    misplaced itself (map span_of_attempt earlier) a.span ≡ place → is_some place ≡ true →
    false ≡ is_none (violation_of earlier a)
misplaced_fails earlier a None h e = absurd (no_yes e)
  where
    no_yes : false ≡ true → ⊥
    no_yes e = cc
misplaced_fails earlier a (Some wrong) h e = sym (ap is_none (by_place earlier a (Some wrong) h))

-- an attempt in its place, of which this was found
pub placed_breach : (words : ℕ) (judge : Judge) (earlier : List Attempt) (a : Attempt) (place : Option Misplaced)
    (found : Option AttemptViolation) → FollowsAttempts words judge earlier →
    misplaced itself (map span_of_attempt earlier) a.span ≡ place → is_some place ≡ false →
    wrong_read (image_of judge.memory.words.items) a.accesses ≡ found → violation_of earlier a ≡ found
placed_breach words judge earlier a None found f h e r = by_reads words judge earlier a found f h r
placed_breach words judge earlier a (Some wrong) found f h e r = absurd (yes_no e)
  where
    yes_no : true ≡ false → ⊥
    yes_no e = cc

-- an attempt without a fault is in its place, and its reads are right
both_parts : (place : Option Misplaced) (rest : Option AttemptViolation) → place_first place rest ≡ None →
    (place ≡ None) × (rest ≡ None)
both_parts None rest h = (refl, h)
both_parts (Some wrong) rest h = absurd (some_none (violation.Place wrong) h)
  where
    some_none : (b : AttemptViolation) → Some b ≡ None → ⊥
    some_none b e = cc

pub fit_place : (earlier : List Attempt) (a : Attempt) → violation_of earlier a ≡ None →
    misplaced itself (map span_of_attempt earlier) a.span ≡ None
fit_place earlier a h =
    misplaced_mapped span_of_attempt earlier a
    ∙ (both_parts (misplaced span_of_attempt earlier a) (wrong_read (left_by earlier) a.accesses) h).0

pub fit_reads : (words : ℕ) (judge : Judge) (earlier : List Attempt) (a : Attempt) →
    FollowsAttempts words judge earlier → violation_of earlier a ≡ None →
    wrong_read (image_of judge.memory.words.items) a.accesses ≡ None
fit_reads words judge earlier a f h =
    ap (λ m. wrong_read m a.accesses) f.left
    ∙ (both_parts (misplaced span_of_attempt earlier a) (wrong_read (left_by earlier) a.accesses) h).1

pub none_test : {A : Type 0} (o : Option A) (r : Bool) → is_some o ≡ not r → r ≡ is_none o
none_test None true e = refl
none_test None false e = cc
none_test (Some x) true e = cc
none_test (Some x) false e = refl

pub on_ok : {A E P Q : Type 0} (r : Result A E) → OnOk r P → (P → Q) → OnOk r Q
on_ok (Ok x) p h = h p
on_ok (Err e) p h = tt

-- ---- positions

same_default : (xs : List Logged) (i : ℕ) (d e : Logged) → i < length xs → get_or xs i d ≡ get_or xs i e
same_default [] i d e l = absurd (omega arith)
same_default (x ∷ xs) zero d e l = refl
same_default (x ∷ xs) (suc i) d e l = same_default xs i d e (omega arith)

pub at_any : (xs : List Logged) (i : ℕ) (l d : Logged) → i < length xs → l ≡ get_or xs i l → get_or xs i d ≡ l
at_any xs i l d w e = same_default xs i d l w ∙ sym e

pub split_at : (xs : List Logged) (i : ℕ) (d : Logged) → i < length xs →
    attempts_in xs ≡ attempts_in (take i xs) ++ logged_attempt (get_or xs i d) ∷ attempts_in (drop (suc i) xs)
split_at [] i d l = absurd (omega arith)
split_at (x ∷ xs) zero d l = refl
split_at (x ∷ xs) (suc i) d l = ap (λ t. logged_attempt x ∷ t) (split_at xs i d (omega arith))

pub removed : (xs : List Logged) (i : ℕ) →
    attempts_in (remove xs i) ≡ attempts_in (take i xs) ++ attempts_in (drop (suc i) xs)
removed xs i = map-append logged_attempt (take i xs) (drop (suc i) xs)

-- where an attempt of the list stands
record StandsAt (xs : List Logged) (i : ℕ) (f : Attempt) (d : Logged) : Type 0 where
  within : i < length xs
  is : f ≡ logged_attempt (get_or xs i d)

index_of : (xs : List Logged) (b a : List Attempt) (f : Attempt) (d : Logged) → attempts_in xs ≡ b ++ f ∷ a →
    StandsAt xs (length b) f d
index_of [] b a f d e = absurd (none_split f b a e)
index_of (x ∷ xs) [] a f d e = record {
  within = omega arith;
  is = sym (heads (logged_attempt x) f (attempts_in xs) a e).0;
}
index_of (x ∷ xs) (y ∷ b) a f d e =
    let h = heads (logged_attempt x) y (attempts_in xs) (b ++ f ∷ a) e in
    let rest = index_of xs b a f d h.1 in
    let within = rest.within in
    record { within = omega (arith, within); is = rest.is }

-- ---- counts

-- an attempt that has to come before another one
abbrev precedes : Attempt → Attempt → Bool
precedes f y = not (may_follow f y)

count_cons : {X : Type 0} (p : X → Bool) (x : X) (xs : List X) → count_by p (x ∷ xs) ≡ cond (p x) 1 0 + count_by p xs
count_cons p x xs = sum_by-cons (λ y. cond (p y) 1 0) x xs

count_logged : (f : Attempt) (xs : List Logged) → blocked_by f.span xs ≡ count_by (precedes f) (attempts_in xs)
count_logged f [] = refl
count_logged f (x ∷ xs) =
    count_cons (blocks f.span) x xs
    ∙ ap (λ n. cond (blocks f.span x) 1 0 + n) (count_logged f xs)
    ∙ sym (count_cons (precedes f) (logged_attempt x) (attempts_in xs))

moved : (a b c x y : ℕ) → a ≡ y + b → b ≡ x + c → a ≡ x + (y + c)
moved a b c x y e f = omega arith

count_out : (p : Attempt → Bool) (b a : List Attempt) (x : Attempt) →
    count_by p (b ++ x ∷ a) ≡ cond (p x) 1 0 + count_by p (b ++ a)
count_out p [] a x = count_cons p x a
count_out p (y ∷ b) a x =
    moved (count_by p (y ∷ (b ++ x ∷ a))) (count_by p (b ++ x ∷ a)) (count_by p (b ++ a)) (cond (p x) 1 0)
    (cond (p y) 1 0) (count_cons p y (b ++ x ∷ a)) (count_out p b a x)
    ∙ ap (λ n. cond (p x) 1 0 + n) (sym (count_cons p y (b ++ a)))

first_none : (a x n : ℕ) → a ≡ x + n → a ≡ 0 → x ≡ 0
first_none a x n e f = omega arith

rest_none : (a x n : ℕ) → a ≡ x + n → a ≡ 0 → n ≡ 0
rest_none a x n e f = omega arith

both_none : (a x n : ℕ) → a ≡ x + n → x ≡ 0 → n ≡ 0 → a ≡ 0
both_none a x n e f g = omega arith

not_counted : (b : Bool) → ◌≡◌ {A = ℕ} (cond (not b) 1 0) 0 → b ≡ true
not_counted true e = refl
not_counted false e = absurd (omega arith)

follow_none : (f : Attempt) (xs : List Attempt) → count_by (precedes f) xs ≡ 0 → AllFollow f xs
follow_none f [] e = tt
follow_none f (y ∷ ys) e =
    let cons = count_cons (precedes f) y ys in (
      not_counted (may_follow f y) (first_none _ (cond (precedes f y) 1 0) (count_by (precedes f) ys) cons e),
      follow_none f ys (rest_none _ (cond (precedes f y) 1 0) (count_by (precedes f) ys) cons e),
    )

none_follow : (f : Attempt) (xs : List Attempt) → AllFollow f xs → count_by (precedes f) xs ≡ 0
none_follow f [] h = refl
none_follow f (y ∷ ys) h =
    both_none _ (cond (precedes f y) 1 0) (count_by (precedes f) ys) (count_cons (precedes f) y ys)
    (ap (λ b. cond (not b) 1 0) h.0) (none_follow f ys h.1)

own_counted : (b : Bool) → ◌≡◌ {A = ℕ} (cond b 0 1) (cond (not b) 1 0)
own_counted true = refl
own_counted false = refl

alone : (own rest all : ℕ) → all ≡ own → all ≡ own + rest → rest ≡ 0
alone own rest all e f = omega arith

not_alone : (own rest all : ℕ) → rest ≡ 0 → all ≡ own + rest → all ≡ own
not_alone own rest all e f = omega arith

-- no other attempt has to come before it
first_follows : (f : Attempt) (xs : List Logged) (b a : List Attempt) → attempts_in xs ≡ b ++ f ∷ a →
    blocked_by f.span xs ≡ own_block f.span → AllFollow f (b ++ a)
first_follows f xs b a e h =
    follow_none f (b ++ a)
    (alone (cond (precedes f f) 1 0) (count_by (precedes f) (b ++ a)) (count_by (precedes f) (b ++ f ∷ a))
    (ap (count_by (precedes f)) (sym e) ∙ sym (count_logged f xs) ∙ h ∙ own_counted (may_follow f f))
    (count_out (precedes f) b a f))

follows_first : (f : Attempt) (xs : List Logged) (b a : List Attempt) → attempts_in xs ≡ b ++ f ∷ a →
    AllFollow f (b ++ a) → blocked_by f.span xs ≡ own_block f.span
follows_first f xs b a e h =
    count_logged f xs ∙ ap (count_by (precedes f)) e
    ∙ not_alone (cond (precedes f f) 1 0) (count_by (precedes f) (b ++ a)) (count_by (precedes f) (b ++ f ∷ a))
    (none_follow f (b ++ a) h) (count_out (precedes f) b a f)
    ∙ sym (own_counted (may_follow f f))

-- ---- free attempts

false_true : false ≡ true → ⊥
false_true e = cc

and_first : (a b : Bool) → (a && b) ≡ true → a ≡ true
and_first true b h = refl
and_first false b h = absurd (false_true h)

and_second : (a b : Bool) → (a && b) ≡ true → b ≡ true
and_second true b h = h
and_second false b h = absurd (false_true h)

not_true : (a : Bool) → not a ≡ true → a ≡ false
not_true true h = absurd (false_true h)
not_true false h = refl

same_number : (a b : ℕ) → (a == b) ≡ true → a ≡ b
same_number a b h = grind (arith, nat_tests)

number_same : (a b : ℕ) → a ≡ b → (a == b) ≡ true
number_same a b h = grind (arith, nat_tests)

pub none_is : (o : Option AttemptViolation) → is_none o ≡ true → o ≡ None
none_is None h = refl
none_is (Some b) h = absurd (false_true h)

pub free_comes : (earlier : List Attempt) (left : List Logged) (place : ℕ) → IsFreeAt earlier left place →
    MayComeNext earlier left place
free_comes earlier left place free = record {
  within = free.within;
  fits = λ d. fits d;
  writers = λ d w. absurd (false_true (sym (unwritten d) ∙ w));
  completes = λ d c.
      let f = logged_attempt (get_or left place d) in
      let split = split_at left place d free.within in
      let b = attempts_in (take place left) in
      let a = attempts_in (drop (suc place) left) in
      subst (Completes (f ∷ earlier)) (sym (removed left place))
      (free_next earlier b a f (subst (Completes earlier) split c) (unwritten d)
      (first_follows f left b a split (first d)));
}
  where
    tests : (d : Logged) → is_free earlier left (get_or left place d) ≡ true
    tests d = free.free d

    unwritten : (d : Logged) → is_writer (logged_attempt (get_or left place d)) ≡ false
    unwritten d =
        let l = get_or left place d in
        sym l.known ∙ not_true l.writer (and_first (not l.writer) _ (tests d))

    first : (d : Logged) → blocked_by (get_or left place d).head.span left ≡ own_block (get_or left place d).head.span
    first d =
        let l = get_or left place d in
        same_number (blocked_by l.head.span left) (own_block l.head.span)
        (and_first (blocked_by l.head.span left == own_block l.head.span) _ (and_second (not l.writer) _ (tests d)))

    fits : (d : Logged) → violation_of earlier (logged_attempt (get_or left place d)) ≡ None
    fits d =
        let l = get_or left place d in
        none_is (violation_of earlier (logged_attempt l))
        (and_second (blocked_by l.head.span left == own_block l.head.span) _ (and_second (not l.writer) _ (tests d)))

three : (a b c : Bool) → a ≡ false → b ≡ true → c ≡ true → (not a && (b && c)) ≡ true
three false true true e f g = refl
three true b c e f g = absurd (false_true (sym e))
three false false c e f g = absurd (false_true f)
three false true false e f g = absurd (false_true g)

free_test : (earlier : List Attempt) (left : List Logged) (l : Logged) (f : Attempt) (b a : List Attempt) →
    attempts_in left ≡ b ++ f ∷ a → f ≡ logged_attempt l → is_writer f ≡ false → AllFollow f (b ++ a) →
    violation_of earlier f ≡ None → is_free earlier left l ≡ true
free_test earlier left l f b a e is free all fits =
    let first : blocked_by l.head.span left ≡ own_block l.head.span =
    subst (λ (g : Attempt). blocked_by g.span left ≡ own_block g.span) is (follows_first f left b a e all) in
    three l.writer (blocked_by l.head.span left == own_block l.head.span)
    (is_none (violation_of earlier (logged_attempt l)))
    (l.known ∙ ap is_writer (sym is) ∙ free)
    (number_same (blocked_by l.head.span left) (own_block l.head.span) first)
    (ap (λ (g : Attempt). is_none (violation_of earlier g)) (sym is) ∙ ap is_none fits)

pub no_free : (earlier : List Attempt) (left : List Logged) → All (λ l. is_free earlier left l ≡ false) left →
    NoFree earlier (attempts_in left)
no_free earlier [] h b a f e free all fits = none_split f b a e
no_free earlier (x ∷ xs) h b a f e free all fits =
    let at = index_of (x ∷ xs) b a f x e in
    false_true (sym (h (length b) x at.within)
    ∙ free_test earlier (x ∷ xs) (get_or (x ∷ xs) (length b) x) f b a e at.is free all fits)

-- ---- writers

no_writers : (xs : List Logged) → All (λ l. l.writer ≡ false) xs → NoWriter (attempts_in xs)
no_writers [] h = tt
no_writers (x ∷ xs) h =
    (sym x.known ∙ h 0 x (omega arith), no_writers xs (λ k d l. h (suc k) d (omega arith)))

no_writers_front : (xs : List Logged) (i : ℕ) → i ≤ length xs →
    ((k : ℕ) (d : Logged) → k < i → (get_or xs k d).writer ≡ false) → NoWriter (attempts_in (take i xs))
no_writers_front [] zero l h = tt
no_writers_front [] (suc i) l h = absurd (omega arith)
no_writers_front (x ∷ xs) zero l h = tt
no_writers_front (x ∷ xs) (suc i) l h =
    (sym x.known ∙ h 0 x (omega arith), no_writers_front xs i (omega arith) (λ k d m. h (suc k) d (omega arith)))

-- what the first writer leads to
writer_leads : (earlier : List Attempt) (left : List Logged) (place : ℕ) (d : Logged) →
    All (λ l. is_free earlier left l ≡ false) left → IsFirstWriter left place → Completes earlier (attempts_in left) →
    (violation_of earlier (logged_attempt (get_or left place d)) ≡ None)
    × Completes (logged_attempt (get_or left place d) ∷ earlier) (attempts_in (remove left place))
writer_leads earlier left place d none w c =
    let l = get_or left place d in
    let split = split_at left place d w.within in
    let b = attempts_in (take place left) in
    let a = attempts_in (drop (suc place) left) in
    let within = w.within in
    let next = writer_next earlier b a (logged_attempt l) (subst (Completes earlier) split c)
    (sym l.known ∙ w.writes d) (no_writers_front left place (omega (arith, within)) w.first)
    (subst (NoFree earlier) split (no_free earlier left none)) in
    (next.0, subst (Completes (logged_attempt l ∷ earlier)) (sym (removed left place)) next.1)

pub writer_comes : (earlier : List Attempt) (left : List Logged) (place : ℕ) →
    All (λ l. is_free earlier left l ≡ false) left → IsFirstWriter left place →
    ((d : Logged) → violation_of earlier (logged_attempt (get_or left place d)) ≡ None) → MayComeNext earlier left place
writer_comes earlier left place none w fits = record {
  within = w.within;
  fits = fits;
  writers = λ d writes. let within = w.within in no_writers_front left place (omega (arith, within)) w.first;
  completes = λ d c. (writer_leads earlier left place d none w c).1;
}

pub writer_stuck : (earlier : List Attempt) (left : List Logged) (place : ℕ) (d : Logged) →
    All (λ l. is_free earlier left l ≡ false) left → IsFirstWriter left place →
    is_none (violation_of earlier (logged_attempt (get_or left place d))) ≡ false →
    Completes earlier (attempts_in left) → attempts_in left ≡ []
writer_stuck earlier left place d none w h c =
    absurd (false_true (sym h ∙ ap is_none (writer_leads earlier left place d none w c).0))

pub none_next : (earlier : List Attempt) (left : List Logged) → All (λ l. is_free earlier left l ≡ false) left →
    All (λ l. l.writer ≡ false) left → Completes earlier (attempts_in left) → attempts_in left ≡ []
none_next earlier left none unwritten c =
    stuck_none earlier (attempts_in left) c (no_writers left unwritten) (no_free earlier left none)

-- ---- one attempt after the other

some_logged : (xs : List Logged) (i : ℕ) → i < length xs → Logged
some_logged [] i l = absurd (omega arith)
some_logged (x ∷ xs) i l = x

pub next_placed : (words : ℕ) (judge : Judge) (earlier : List Attempt) (left after : List Logged) (place : ℕ) →
    MayComeNext earlier left place → after ≡ remove left place →
    ((d : Logged) → FollowsAttempts words judge (logged_attempt (get_or left place d) ∷ earlier)) →
    IsNextPlaced words judge earlier (attempts_in left) (attempts_in after)
next_placed words judge earlier left after place may is follows =
    let d = some_logged left place may.within in
    record {
      before = attempts_in (take place left);
      next = logged_attempt (get_or left place d);
      behind = attempts_in (drop (suc place) left);
      split = split_at left place d may.within;
      rest = ap attempts_in is ∙ removed left place;
      writers = may.writers d;
      fits = may.fits d;
      follows = follows d;
      completes = λ c. subst (λ t. Completes (logged_attempt (get_or left place d) ∷ earlier) (attempts_in t)) (sym is)
          (may.completes d c);
    }

-- an order of those that are left, behind the placed ones
pub record Solves (all earlier order : List Attempt) : Type 0 where
  pub placement : IsPlacement all (reverse_aux earlier order)
  pub goes : Goes [] (reverse_aux earlier order)

-- some attempts were placed, and these are left
pub record Reached (words : ℕ) (judge : Judge) (all left : List Attempt) : Type 0 where
  pub earlier : List Attempt
  pub follows : FollowsAttempts words judge earlier
  pub complete : IsPlaceable all → Completes earlier left
  pub sound : (order : List Attempt) → IsPlacement left order → Goes earlier order → Solves all earlier order

pub reached_first : (words : ℕ) (judge : Judge) (all : List Attempt) → FollowsAttempts words judge [] →
    Reached words judge all all
reached_first words judge all f = record {
  earlier = [];
  follows = f;
  complete = completes_first all;
  sound = λ order p g. record { placement = p; goes = g };
}

pub reached_more : (words : ℕ) (judge next : Judge) (all left after : List Attempt) (r : Reached words judge all left) →
    IsNextPlaced words next r.earlier left after → Reached words next all after
reached_more words judge next all left after r n = record {
  earlier = n.next ∷ r.earlier;
  follows = n.follows;
  complete = λ p. n.completes (r.complete p);
  sound = λ order p g.
      let s = r.sound (n.next ∷ order) (
        n.before,
        n.behind,
        n.split,
        n.writers,
        subst (λ t. IsPlacement t order) n.rest p,
      )
      (n.fits, g) in
      record { placement = s.placement; goes = s.goes };
}

pub reached_all : (words : ℕ) (judge : Judge) (all left : List Attempt) (counts : Counts) →
    (r : Reached words judge all left) → left ≡ [] → counts ≡ counts_of r.earlier → IsPlacedAs all counts
reached_all words judge all left counts r e is =
    let s = r.sound [] e tt in
    record {
      order = reverse_aux r.earlier [];
      placement = s.placement;
      opaque = goes_opaque (reverse_aux r.earlier []) s.goes;
      counts_are = is ∙ ap counts_of (sym (reverse-reverse r.earlier));
    }

pub reached_none : (words : ℕ) (judge : Judge) (all left : List Attempt) (r : Reached words judge all left) →
    (Completes r.earlier left → left ≡ []) → (left ≡ [] → ⊥) → IsPlaceable all → ⊥
reached_none words judge all left r stuck some p = some (stuck (r.complete p))

-- ---- taking an attempt out

pub among_removed : (P : Logged → Type 0) (xs : List Logged) (i : ℕ) → i < length xs → All P xs → All P (remove xs i)
among_removed P xs i l h = All-append P (take i xs) (drop (suc i) xs) (All-take P i xs h) (All-drop P (suc i) xs h)

pub no_logged : (xs : List Logged) → 0 < length xs → attempts_in xs ≡ [] → ⊥
no_logged [] l e = omega arith
no_logged (x ∷ xs) l e = cc

pub none_left : (xs : List Logged) → length xs ≡ 0 → attempts_in xs ≡ []
none_left [] e = refl
none_left (x ∷ xs) e = absurd (omega arith)
