-- The attempts of each client that made them one after the other are in turn in the order of their lines.
use Rattle.std.proofs.Common.{◌≡◌, ◌⊎◌, inl, inr, ◌<◌, ◌≤◌, ◌&&◌, ◌||◌, not, ℕ, zero, suc, Bool, true, false}
use Rattle.std.proofs.Common.{cond, eqb, ltb, List, [], ◌∷◌, ◌++◌, Some, None, refl, sym, subst, arith}
use Rattle.std.specs.Prelude.{filter}
use Rattle.std.specs.List.{All, AllPairs}
use Rattle.std.specs.Ordering.{is_lt}
use Rattle.std.proofs.lemmas.Bool.Decides.{nat_tests}
use Rattle.std.proofs.lemmas.List.Sorted.{sorted_far}
use Rattle.vac_lines.proofs.Spacing.{Each, each_both}
use Rattle.stm_object.specs.declared.place.CommitPosition.{CommitPosition}
use Rattle.vac_manager.specs.declared.note.TracedAttempt.{TracedAttempt}
use Rattle.judge_object.specs.Laws.{IsAt, TakeTurns}
use Rattle.stm_object.specs.Places.{rank_of}
use Rattle.load_record.specs.Laying.{IsLaidFirst}
use Rattle.load_record.specs.Lines.{AttemptEntry}
use Rattle.load_record.specs.AttemptOrder.{compare, EntriesAreOrdered}
use Rattle.load_record.specs.Pages.{Page, attempts_of, attempt_entries_of, entries_on, attempt_entries_from}
use Rattle.load_record.specs.Text.{AreAttempts}
use Rattle.load_record.specs.Entries.{span_of_entry}
use Rattle.load_record.specs.InTurn.{is_before, MadeInTurn, EachMadeInTurn, LoadsAreJudgedByPrecedence}
use Rattle.load_record.proofs.AtPlaces.{judged_by_times}
use Rattle.load_record.proofs.Corresponding.{Same, same_of, same_keeps, same_under, same_flip, from_front}
use Rattle.load_record.proofs.First.{entry_before, entry_order}

-- ---- every element

module _ {X : Type 0} where
  each_any : (P : X → Type 0) → ((x : X) → P x) → (xs : List X) → Each P xs
  each_any P h [] = tt
  each_any P h (x ∷ xs) = (h x, each_any P h xs)

  each_map : (P R : X → Type 0) → ((x : X) → P x → R x) → (xs : List X) → Each P xs → Each R xs
  each_map P R h [] p = tt
  each_map P R h (x ∷ xs) p = (h x p.0, each_map P R h xs p.1)

  each_with : (P Q R : X → Type 0) → ((x : X) → P x → Q x → R x) → (xs : List X) → Each P xs → Each Q xs → Each R xs
  each_with P Q R h [] p q = tt
  each_with P Q R h (x ∷ xs) p q = (h x p.0 q.0, each_with P Q R h xs p.1 q.1)

  all_each : (P : X → Type 0) (xs : List X) → All P xs → Each P xs
  all_each P [] h = tt
  all_each P (x ∷ xs) h = (h 0 x (omega arith), all_each P xs (λ k d l. h (suc k) d (omega (arith, l))))

  -- the relation holds of each element and each later one
  abbrev Pairs : (X → X → Type 0) → List X → Type 0
  Pairs R [] = Unit {0}
  Pairs R (x ∷ xs) = Each (λ y. R x y) xs × Pairs R xs

  all_pairs : (R : X → X → Type 0) (xs : List X) → AllPairs R xs → Pairs R xs
  all_pairs R [] h = tt
  all_pairs R (x ∷ xs) h = (
    all_each (λ y. R x y) xs (λ k d l. h 0 (suc k) d (omega arith) (omega (arith, l))),
    all_pairs R xs (λ i j d less l. h (suc i) (suc j) d (omega (arith, less)) (omega (arith, l))),
  )

  pairs_both : (R : X → X → Type 0) (xs ys : List X) → Pairs R xs → Pairs R ys →
      Each (λ x. Each (λ y. R x y) ys) xs → Pairs R (xs ++ ys)
  pairs_both R [] ys p q h = q
  pairs_both R (x ∷ xs) ys p q h = (each_both (λ y. R x y) xs ys p.0 h.0, pairs_both R xs ys p.1 q h.1)

  -- a symmetric relation holds in any order
  module _ (R : X → X → Type 0) (turn : (x y : X) → R x y → R y x) where
    -- the relation holds of each two elements, and of each element of the other list with each of them
    abbrev Among : List X → List X → Type 0
    Among xs s = Pairs R xs × Each (λ z. Each (λ y. R z y) xs) s

    among_under : (x : X) (t t' : List X) → ((s : List X) → Among t s → Among t' s) → (s : List X) →
        Among (x ∷ t) s → Among (x ∷ t') s
    among_under x t t' f s q =
        let k = f (x ∷ s) (
          q.0.1,
          (
            q.0.0,
            each_map (λ z. R z x × Each (λ y. R z y) t) (λ z. Each (λ y. R z y) t) (λ z h. h.1) s q.1,
          ),
        ) in (
          (k.1.0, k.0),
          each_with (λ z. R z x × Each (λ y. R z y) t) (λ z. Each (λ y. R z y) t')
              (λ z. R z x × Each (λ y. R z y) t') (λ z h g. (h.0, g)) s q.1 k.1.1,
        )

    among_flip : (x y : X) (t : List X) (s : List X) → Among (x ∷ y ∷ t) s → Among (y ∷ x ∷ t) s
    among_flip x y t s q = (
      ((turn x y q.0.0.0, q.0.1.0), (q.0.0.1, q.0.1.1)),
      each_map (λ z. R z x × (R z y × Each (λ w. R z w) t)) (λ z. R z y × (R z x × Each (λ w. R z w) t))
          (λ z h. (h.1.0, (h.0, h.1.1))) s q.1,
    )

    same_pairs : (xs ys : List X) → Same xs ys → Pairs R ys → Pairs R xs
    same_pairs xs ys same p = (same_keeps Among among_under among_flip xs ys same [] (p, tt)).0

  module _ (P : X → Type 0) where
    abbrev EachOf : List X → Unit {0} → Type 0
    EachOf xs s = Each P xs

    each_under : (x : X) (t t' : List X) → ((s : Unit {0}) → EachOf t s → EachOf t' s) → (s : Unit {0}) →
        EachOf (x ∷ t) s → EachOf (x ∷ t') s
    each_under x t t' f s q = (q.0, f s q.1)

    each_flip : (x y : X) (t : List X) (s : Unit {0}) → EachOf (x ∷ y ∷ t) s → EachOf (y ∷ x ∷ t) s
    each_flip x y t s q = (q.1.0, (q.0, q.1.1))

    same_each : (xs ys : List X) → Same xs ys → Each P ys → Each P xs
    same_each xs ys same p = same_keeps EachOf each_under each_flip xs ys same tt p

  some_same : (a b : X) → Some a ≡ Some b → a ≡ b
  some_same a b e = cc

  none_some : (a : X) → None ≡ Some a → ⊥
  none_some a e = cc

  each_at : (P : X → Type 0) (xs : List X) (i : ℕ) (a : X) → Each P xs → IsAt xs i a → P a
  each_at P [] i a h e = absurd (none_some a e)
  each_at P (x ∷ xs) zero a h e = subst P (some_same x a e) h.0
  each_at P (x ∷ xs) (suc i) a h e = each_at P xs i a h.1 e

  pairs_at : (R : X → X → Type 0) (xs : List X) (i j : ℕ) (a b : X) → Pairs R xs → IsAt xs i a → IsAt xs j b →
      i < j → R a b
  pairs_at R [] i j a b h e f less = absurd (none_some a e)
  pairs_at R (x ∷ xs) i zero a b h e f less = absurd (omega (arith, less))
  pairs_at R (x ∷ xs) zero (suc j) a b h e f less =
      subst (λ z. R z b) (some_same x a e) (each_at (λ y. R x y) xs j b h.0 f)
  pairs_at R (x ∷ xs) (suc i) (suc j) a b h e f less = pairs_at R xs i j a b h.1 e f (omega (arith, less))

-- ---- two attempts of a client

-- the first attempt was over when the second one began, and the second one is not before it
abbrev IsOver : TracedAttempt → TracedAttempt → Type 0
IsOver a b = (a.end ≤ b.begin) × (is_before b.place a.place ≡ false)

-- one of the two, if they are of one client, was over when the other began
abbrev Apart : AttemptEntry → AttemptEntry → Type 0
Apart x y = x.client ≡ y.client → IsOver x.attempt y.attempt ⊎ IsOver y.attempt x.attempt

apart_turn : (x y : AttemptEntry) → Apart x y → Apart y x
apart_turn x y h e = elim (h (sym e)) [ inl k ↦ inr k | inr k ↦ inl k ]

-- no attempt ends before it begins
abbrev TakesTime : AttemptEntry → Type 0
TakesTime e = e.attempt.begin ≤ e.attempt.end

abbrev Follows : AttemptEntry → AttemptEntry → Type 0
Follows x y = entry_before y x ≡ false

-- of two attempts of a client in the order of their lines, the first was over when the second one began
over : (a b : TracedAttempt) → is_lt (compare b a) ≡ false → a.begin ≤ a.end → b.begin ≤ b.end →
    IsOver a b ⊎ IsOver b a → a.end ≤ b.begin
over a b sorted p q (inl k) = k.0
over a b sorted p q (inr k) =
    let ends = k.0 in
    let places = k.1 in
    grind (arith, nat_tests, sorted, p, q, ends, places)

-- ---- the attempts of one client

-- the attempts that committed and those that aborted
both_same : (client : ℕ) (own : List TracedAttempt) →
    Same (attempt_entries_of client (filter (λ a. a.commits) own)
    ++ attempt_entries_of client (filter (λ a. not a.commits) own)) (attempt_entries_of client own)
both_same client [] = refl
both_same client (a ∷ own) =
    go a.commits (filter (λ a. a.commits) own) (filter (λ a. not a.commits) own) (both_same client own)
  where
    go : (b : Bool) (done given_up : List TracedAttempt) →
        Same (attempt_entries_of client done ++ attempt_entries_of client given_up) (attempt_entries_of client own) →
        Same (attempt_entries_of client (cond b (a ∷ done) done)
        ++ attempt_entries_of client (cond (not b) (a ∷ given_up) given_up)) (attempt_entries_of client (a ∷ own))
    go true done given_up same =
        ([], record { client = client; attempt = a }, attempt_entries_of client own, refl, refl, same)
    go false done given_up same =
        let entry : AttemptEntry = record { client = client; attempt = a } in
        from_front Same same_under same_flip (attempt_entries_of client done) entry
        (attempt_entries_of client given_up) (entry ∷ attempt_entries_of client own)
        ([], entry, attempt_entries_of client own, refl, refl, same)

own_times : (client : ℕ) (own : List TracedAttempt) → Each (λ a. a.begin ≤ a.end) own →
    Each TakesTime (attempt_entries_of client own)
own_times client [] h = tt
own_times client (a ∷ own) h = (h.0, own_times client own h.1)

over_each : (client : ℕ) (a : TracedAttempt) (own : List TracedAttempt) → Each (λ b. a.end ≤ b.begin) own →
    Each (λ b. is_before b.place a.place ≡ false) own →
    Each (λ y. Apart (record { client = client; attempt = a }) y) (attempt_entries_of client own)
over_each client a [] h k = tt
over_each client a (b ∷ own) h k = (λ e. inl (h.0, k.0), over_each client a own h.1 k.1)

own_apart : (client : ℕ) (own : List TracedAttempt) → Pairs (λ a b. a.end ≤ b.begin) own →
    Pairs (λ a b. is_before b.place a.place ≡ false) own → Pairs Apart (attempt_entries_of client own)
own_apart client [] h k = tt
own_apart client (a ∷ own) h k = (over_each client a own h.0 k.0, own_apart client own h.1 k.1)

-- the entries of a page are those of its attempts in their order
page_same : (client : ℕ) (page : Page) (m : MadeInTurn page) →
    Same (entries_on client page) (attempt_entries_of client m.attempts)
page_same client page m =
    subst (λ (l : List TracedAttempt). Same (attempt_entries_of client (attempts_of page.calls)
    ++ attempt_entries_of client l) (attempt_entries_of client m.attempts)) m.own.aborted
    (subst (λ (l : List TracedAttempt). Same (attempt_entries_of client l
    ++ attempt_entries_of client (filter (λ a. not a.commits) m.attempts)) (attempt_entries_of client m.attempts))
    m.own.committed (both_same client m.attempts))

page_times : (client : ℕ) (page : Page) → MadeInTurn page → Each TakesTime (entries_on client page)
page_times client page m =
    same_each TakesTime (entries_on client page) (attempt_entries_of client m.attempts) (page_same client page m)
    (own_times client m.attempts (all_each (λ (a : TracedAttempt). a.begin ≤ a.end) m.attempts m.times))

page_apart : (client : ℕ) (page : Page) → MadeInTurn page → Pairs Apart (entries_on client page)
page_apart client page m =
    same_pairs Apart apart_turn (entries_on client page) (attempt_entries_of client m.attempts)
    (page_same client page m)
    (own_apart client m.attempts (all_pairs (λ (a b : TracedAttempt). a.end ≤ b.begin) m.attempts m.turns)
    (all_pairs (λ (a b : TracedAttempt). is_before b.place a.place ≡ false) m.attempts m.positions))

-- ---- the attempts of all clients

of_client : (client : ℕ) (notes : List TracedAttempt) →
    Each (λ (e : AttemptEntry). e.client ≡ client) (attempt_entries_of client notes)
of_client client [] = tt
of_client client (a ∷ notes) = (refl, of_client client notes)

page_client : (client : ℕ) (page : Page) → Each (λ (e : AttemptEntry). e.client ≡ client) (entries_on client page)
page_client client page =
    each_both (λ (e : AttemptEntry). e.client ≡ client) (attempt_entries_of client (attempts_of page.calls))
    (attempt_entries_of client page.given_up) (of_client client (attempts_of page.calls))
    (of_client client page.given_up)

later_clients : (low first : ℕ) (pages : List Page) → low < first →
    Each (λ (e : AttemptEntry). low < e.client) (attempt_entries_from first pages)
later_clients low first [] less = tt
later_clients low first (page ∷ pages) less =
    each_both (λ (e : AttemptEntry). low < e.client) (entries_on first page) (attempt_entries_from (suc first) pages)
    (each_map (λ (e : AttemptEntry). e.client ≡ first) (λ (e : AttemptEntry). low < e.client)
    (λ e same. omega (arith, same, less)) (entries_on first page) (page_client first page))
    (later_clients low (suc first) pages (omega (arith, less)))

two_clients : (client : ℕ) (x y : AttemptEntry) → x.client ≡ client → client < y.client → Apart x y
two_clients client x y same less e = absurd (omega (arith, same, less, e))

pages_times : (first : ℕ) (pages : List Page) → EachMadeInTurn pages →
    Each TakesTime (attempt_entries_from first pages)
pages_times first [] h = tt
pages_times first (page ∷ pages) h =
    each_both TakesTime (entries_on first page) (attempt_entries_from (suc first) pages)
    (page_times first page (h page (0, refl))) (pages_times (suc first) pages (λ p i. h p (suc i.0, i.1)))

pages_apart : (first : ℕ) (pages : List Page) → EachMadeInTurn pages → Pairs Apart (attempt_entries_from first pages)
pages_apart first [] h = tt
pages_apart first (page ∷ pages) h =
    let own = entries_on first page in
    let more = attempt_entries_from (suc first) pages in
    pairs_both Apart own more (page_apart first page (h page (0, refl)))
    (pages_apart (suc first) pages (λ p i. h p (suc i.0, i.1)))
    (each_map (λ (e : AttemptEntry). e.client ≡ first) (λ x. Each (λ y. Apart x y) more)
    (λ x same. each_map (λ (e : AttemptEntry). first < e.client) (λ y. Apart x y)
    (λ y less. two_clients first x y same less) more (later_clients first (suc first) pages (omega arith))) own
    (page_client first page))

-- ---- the attempts that write the words of the heap

laid_over : (a b : TracedAttempt) → IsLaidFirst a → IsOver a b
laid_over a b h =
    let end = h.end in (
      omega (arith, end),
      subst (λ (p : CommitPosition). is_before b.place p ≡ false) (sym h.place)
          (lowest b.place.renewal (rank_of b.place)),
    )
  where
    lowest : (n r : ℕ) → (ltb n 0 || (eqb n 0 && ltb r 0)) ≡ false
    lowest n r = grind (arith, nat_tests)

laid_times : (laid : List TracedAttempt) (more : List AttemptEntry) → All (λ a. IsLaidFirst a) laid →
    Each TakesTime more → Each TakesTime (attempt_entries_of 0 laid ++ more)
laid_times [] more h k = k
laid_times (a ∷ laid) more h k =
    let begin = (h 0 a (omega arith)).begin in
    (omega (arith, begin), laid_times laid more (λ i d l. h (suc i) d (omega (arith, l))) k)

laid_apart : (laid : List TracedAttempt) (more : List AttemptEntry) → All (λ a. IsLaidFirst a) laid →
    Pairs Apart more → Pairs Apart (attempt_entries_of 0 laid ++ more)
laid_apart [] more h k = k
laid_apart (a ∷ laid) more h k =
    let is = h 0 a (omega arith) in (
      each_any (λ y. Apart (record { client = 0; attempt = a }) y) (λ y e. inl (laid_over a y.attempt is))
          (attempt_entries_of 0 laid ++ more),
      laid_apart laid more (λ i d l. h (suc i) d (omega (arith, l))) k,
    )

-- ---- the load

follows : (all : List AttemptEntry) → EntriesAreOrdered all → Pairs Follows all
follows all o =
    all_pairs Follows all (λ i j d less l. sorted_far entry_before entry_order all o i j d (omega (arith, less)) l)

module _ (blocks : ℕ) (pages : List Page) (all : List AttemptEntry) (are : AreAttempts blocks pages all)
    (turns : EachMadeInTurn pages) where
  abbrev parts : List AttemptEntry
  parts = attempt_entries_of 0 are.laid ++ attempt_entries_from 0 pages

  same : Same all parts
  same = same_of parts all are.each_once

  times : Each TakesTime all
  times =
      same_each TakesTime all parts same
      (laid_times are.laid (attempt_entries_from 0 pages) are.lays.before_all (pages_times 0 pages turns))

  apart : Pairs Apart all
  apart =
      same_pairs Apart apart_turn all parts same
      (laid_apart are.laid (attempt_entries_from 0 pages) are.lays.before_all (pages_apart 0 pages turns))

  take_turns : TakeTurns span_of_entry all
  take_turns = record {
    times = λ i a at. each_at TakesTime all i a times at;
    clients = λ i j a b at next less client.
        over a.attempt b.attempt (pairs_at Follows all i j a b (follows all are.ordered) at next less)
        (each_at TakesTime all i a times at) (each_at TakesTime all j b times next)
        (pairs_at Apart all i j a b apart at next less client);
  }

pub judged_by_precedence : LoadsAreJudgedByPrecedence
judged_by_precedence = λ blocks pages all few are fit made aborted turns.
    let judged = (judged_by_times blocks pages all few are fit made aborted).1 in (
      λ e. (judged.0 e).precedence,
      λ p. judged.1 (record { turns = take_turns blocks pages all are turns; precedence = p }),
    )
