-- Rounds, one after the other.
use Rattle.std.proofs.Common.{◌≡◌, ◌∙◌, ℕ, suc, ◌+◌, ◌*◌, ◌≤◌, ◌<◌, inl, inr, List, [], ◌∷◌, ◌++◌, length}
use Rattle.std.proofs.Common.{length-append, append_assoc, refl, sym, ap, subst, arith}
use Rattle.std.proofs.Math.Nat.{add-mul, mul-le-mul}
use Rattle.tx_memory.specs.Image.{In}
use Rattle.stm_core.specs.Client.{Record, Aborted, all_aborted}
use Rattle.stm_region.specs.Shown.{RegionShown}
use Rattle.stm_object.specs.Places.{reader_at}
use Rattle.vac_manager.specs.Called.{ClientShown, CallerShown}
use Rattle.vac_manager.specs.Renewed.{ClosesSomewhere}
use Rattle.stm_core.specs.History.{Sub, done, keep, skip}
use Rattle.load_tasks.specs.declared.settings.Settings.{Settings}
use Rattle.load_run.specs.declared.rounds.Round.{Round}
use Rattle.load_run.specs.Attempted.{TaskCountsShown}
use Rattle.load_run.specs.declared.outcomes.Outcomes.{Outcomes}
use Rattle.load_run.specs.Looping.{total, least_attempts, AreKnown, plus}
use Rattle.load_run.specs.Several.{Within, AllWithin, sum_of, added_up}
use Rattle.stm_core.proofs.Eras.{in_append}
use Rattle.load_run.specs.Lists.{Paired, none, both}
use Rattle.load_run.specs.Slots.{SlotShown}
use Rattle.load_run.specs.Load.{InterleavedAll, Share, drawn_share, HasShare, HasKeptShare, RanAll, RoundHasRun}
use Rattle.load_tasks.proofs.Drawing.{drawn_both}
use Rattle.load_run.proofs.Answering.{are_of_both}
use Rattle.load_run.proofs.Merging.{interleaved_both}
use Rattle.load_run.proofs.Notes.{are_kept_both, kept_from}
use Rattle.load_run.proofs.Pairs.{paired_through, paired_length}

sub_after : {A : Type 0} (us bs xs : List A) → Sub xs bs → Sub xs (us ++ bs)
sub_after [] bs xs p = p
sub_after (u ∷ us) bs xs p = skip u (sub_after us bs xs p)

sub_both : {A : Type 0} {xs us : List A} (ys vs : List A) → Sub xs us → Sub ys vs → Sub (xs ++ ys) (us ++ vs)
sub_both ys vs (done {ys = us}) q = sub_after us vs ys q
sub_both ys vs (keep x p) q = keep x (sub_both ys vs p q)
sub_both ys vs (skip y p) q = skip y (sub_both ys vs p q)

-- what a client did in some rounds and then in others
abbrev joined_share : {D : Type 0} → Share D → Share D → Share D
joined_share x y = record {
  records = x.records ++ y.records;
  attempts = x.attempts + y.attempts;
  aborts = x.aborts ++ y.aborts;
  outcomes = plus x.outcomes y.outcomes;
  left = y.left;
}

least_both : (tries n m : ℕ) (t u : Outcomes) → least_attempts tries t ≤ n → least_attempts tries u ≤ m →
    least_attempts tries (plus t u) ≤ n + m
least_both tries n m t u h k = omega (arith, add-mul t.busy u.busy tries, h, k)

share_both : {D : Type 0} (leads : D → ℕ → D → Type 0) (s : Settings) (n m : ℕ) (state : D) (x y : Share D) →
    HasShare leads s n state x → HasShare leads s m x.left y → HasShare leads s (n + m) state (joined_share x y)
share_both leads s n m state x y h k = record {
  tasks = h.tasks ++ k.tasks;
  drawn = drawn_both leads n m _ state h.tasks x.left k.tasks y.left h.drawn k.drawn;
  answered = h.answered ++ k.answered;
  among = sub_both k.answered k.tasks h.among k.among;
  number = omega (arith, length-append h.answered k.answered, h.number, k.number);
  are_of = are_of_both h.answered k.answered x.records y.records h.are_of k.are_of;
  all = omega (arith, h.all, k.all);
  least = least_both s.tries x.attempts y.attempts x.outcomes y.outcomes h.least k.least;
}

-- the same with what was kept
kept_share_both : {D : Type 0} (leads : D → ℕ → D → Type 0) (s : Settings) (n m from middle next to : ℕ) →
    middle < next → (state : SlotShown D) (x y : Share (SlotShown D)) → HasKeptShare leads s n from middle state x →
    HasKeptShare leads s m next to x.left y → HasKeptShare leads s (n + m) from to state (joined_share x y)
kept_share_both leads s n m from middle next to less state x y h k = record {
  has = share_both leads s n m state.draws (drawn_share x) (drawn_share y) h.has k.has;
  low = h.low;
  high = k.high;
  kept = are_kept_both (reader_at from h.low) (reader_at middle h.high) (reader_at to k.high) x.attempts y.attempts
      x.records y.records x.aborts y.aborts state.kept x.left.kept y.left.kept h.kept
      (kept_from (reader_at middle h.high) (reader_at next k.low) (reader_at to k.high) y.attempts y.records y.aborts
      x.left.kept y.left.kept (inl less) k.kept);
}

all_made : (a b x y z : ℕ) → a ≡ x → b ≡ y → z ≡ x + y → a + b ≡ z
all_made a b x y z e f g = omega (arith, e, f, g)

abbrev zipped : {D : Type 0} → List (Share D) → List (Share D) → List (Share D)
zipped [] ys = []
zipped (x ∷ xs) [] = []
zipped (x ∷ xs) (y ∷ ys) = joined_share x y ∷ zipped xs ys

module _ {D P : Type 0} (leads : D → ℕ → D → Type 0) (s : Settings) (shown_of : P → SlotShown D) (n m : ℕ)
    (from middle next to : ℕ) (less : middle < next) where
  zip_each : (ps : List P) (xs ys : List (Share (SlotShown D))) →
      Paired (λ p x. HasKeptShare leads s n from middle (shown_of p) x) ps xs →
      Paired (λ x y. HasKeptShare leads s m next to x.left y) xs ys →
      Paired (λ p x. HasKeptShare leads s (n + m) from to (shown_of p) x) ps (zipped xs ys)
  zip_each [] [] [] none none = none
  zip_each (p ∷ ps) (x ∷ xs) (y ∷ ys) (both h hs) (both k ks) =
      both (kept_share_both leads s n m from middle next to less (shown_of p) x y h k) (zip_each ps xs ys hs ks)
  zip_each [] (x ∷ xs) ys hs ks = elim hs [ ]
  zip_each (p ∷ ps) [] ys hs ks = elim hs [ ]
  zip_each [] [] (y ∷ ys) hs ks = elim ks [ ]
  zip_each (p ∷ ps) (x ∷ xs) [] hs ks = elim ks [ ]

  zip_left : (xs ys : List (Share (SlotShown D))) (ps : List P) →
      Paired (λ x y. HasKeptShare leads s m next to x.left y) xs ys → Paired (λ y p. shown_of p ≡ y.left) ys ps →
      Paired (λ x p. shown_of p ≡ x.left) (zipped xs ys) ps
  zip_left [] [] [] none none = none
  zip_left (x ∷ xs) (y ∷ ys) (p ∷ ps) (both h hs) (both k ks) = both k (zip_left xs ys ps hs ks)
  zip_left [] (y ∷ ys) ps hs ks = elim hs [ ]
  zip_left (x ∷ xs) [] ps hs ks = elim hs [ ]
  zip_left [] [] (p ∷ ps) hs ks = elim ks [ ]
  zip_left (x ∷ xs) (y ∷ ys) [] hs ks = elim ks [ ]

  zip_once : (xs ys : List (Share (SlotShown D))) (k l : List Record) →
      Paired (λ x y. HasKeptShare leads s m next to x.left y) xs ys →
      InterleavedAll (λ (x : Share (SlotShown D)). x.records) xs k →
      InterleavedAll (λ (x : Share (SlotShown D)). x.records) ys l →
      InterleavedAll (λ (x : Share (SlotShown D)). x.records) (zipped xs ys) (k ++ l)
  zip_once [] [] k l none a b = ap (λ (r : List Record). r ++ l) a ∙ b
  zip_once (x ∷ xs) (y ∷ ys) k l (both h hs) a b = (
    a.0 ++ b.0,
    interleaved_both a.1 b.1,
    zip_once xs ys a.0 b.0 hs a.2 b.2,
  )
  zip_once [] (y ∷ ys) k l hs a b = elim hs [ ]
  zip_once (x ∷ xs) [] k l hs a b = elim hs [ ]

  -- the aborted attempts of both are among the later ones
  zip_within : (xs ys : List (Share (SlotShown D))) (a b : List Aborted) →
      Paired (λ x y. HasKeptShare leads s m next to x.left y) xs ys → Within a b →
      AllWithin (λ (x : Share (SlotShown D)). x.aborts) xs a → AllWithin (λ (x : Share (SlotShown D)). x.aborts) ys b →
      AllWithin (λ (x : Share (SlotShown D)). x.aborts) (zipped xs ys) b
  zip_within [] [] a b none k p q = tt
  zip_within (x ∷ xs) (y ∷ ys) a b (both h hs) k p q = (
    λ r i. elim (in_append x.aborts y.aborts r i) [ inl j ↦ k r (p.0 r j) | inr j ↦ q.0 r j ],
    zip_within xs ys a b hs k p.1 q.1,
  )
  zip_within [] (y ∷ ys) a b hs k p q = elim hs [ ]
  zip_within (x ∷ xs) [] a b hs k p q = elim hs [ ]

  -- sums over shares of what adds up
  zip_sum : (f : Share (SlotShown D) → ℕ) → ((x y : Share (SlotShown D)) → f (joined_share x y) ≡ f x + f y) →
      (xs ys : List (Share (SlotShown D))) → Paired (λ x y. HasKeptShare leads s m next to x.left y) xs ys →
      sum_of f (zipped xs ys) ≡ sum_of f xs + sum_of f ys
  zip_sum f adds [] [] none = refl
  zip_sum f adds (x ∷ xs) (y ∷ ys) (both h hs) = omega (arith, adds x y, zip_sum f adds xs ys hs)
  zip_sum f adds [] (y ∷ ys) hs = elim hs [ ]
  zip_sum f adds (x ∷ xs) [] hs = elim hs [ ]

  zip_tallies : (xs ys : List (Share (SlotShown D))) → Paired (λ x y. HasKeptShare leads s m next to x.left y) xs ys →
      added_up (λ (x : Share (SlotShown D)). x.outcomes) (zipped xs ys) ≡ plus
      (added_up (λ (x : Share (SlotShown D)). x.outcomes) xs) (added_up (λ (x : Share (SlotShown D)). x.outcomes) ys)
  zip_tallies xs ys h = λ i. record {
    answered = zip_sum (λ (x : Share (SlotShown D)). x.outcomes.answered) (λ x y. refl) xs ys h i;
    busy = zip_sum (λ (x : Share (SlotShown D)). x.outcomes.busy) (λ x y. refl) xs ys h i;
    memory = zip_sum (λ (x : Share (SlotShown D)). x.outcomes.memory) (λ x y. refl) xs ys h i;
    spent = zip_sum (λ (x : Share (SlotShown D)). x.outcomes.spent) (λ x y. refl) xs ys h i;
  }

  pub ran_both : (before between-records after : List Record) (pairs between left : List P) (t u : Outcomes)
      (a b : ℕ) (earlier mid later : List Aborted) →
      RanAll leads s shown_of n from middle before pairs between-records between t a earlier mid →
      RanAll leads s shown_of m next to between-records between after left u b mid later →
      RanAll leads s shown_of (n + m) from to before pairs after left (plus t u) (a + b) earlier later
  ran_both before between-records after pairs between left t u a b earlier mid later h k =
      let goes : Paired (λ x y. HasKeptShare leads s m next to x.left y) h.shares k.shares =
      paired_through (λ (x : Share (SlotShown D)) p. shown_of p ≡ x.left)
      (λ p (y : Share (SlotShown D)). HasKeptShare leads s m next to (shown_of p) y)
      (λ (x : Share (SlotShown D)) y. HasKeptShare leads s m next to x.left y)
      (λ x p y e f. subst (λ (d : SlotShown D). HasKeptShare leads s m next to d y) e f) h.shares between k.shares
      h.left_are k.each in
      record {
        shares = zipped h.shares k.shares;
        each = zip_each pairs h.shares k.shares h.each goes;
        left_are = zip_left h.shares k.shares left goes k.left_are;
        rest = h.rest ++ k.rest;
        behind = k.behind ∙ (ap (λ (l : List Record). l ++ k.rest) h.behind ∙ append_assoc before h.rest k.rest);
        each_once = zip_once h.shares k.shares h.rest k.rest goes h.each_once k.each_once;
        tallies = ap (λ (x : Outcomes). plus x u) h.tallies ∙ (ap
            (λ (x : Outcomes). plus (added_up (λ (y : Share (SlotShown D)). y.outcomes) h.shares) x) k.tallies ∙
            sym (zip_tallies h.shares k.shares goes));
        made = all_made a b (sum_of (λ (x : Share (SlotShown D)). x.attempts) h.shares)
            (sum_of (λ (x : Share (SlotShown D)). x.attempts) k.shares) _ h.made k.made
            (zip_sum (λ (x : Share (SlotShown D)). x.attempts) (λ x y. refl) h.shares k.shares goes);
        stays = λ r i. k.stays r (h.stays r i);
        listed = zip_within h.shares k.shares mid later goes k.stays h.listed k.listed;
        alone = λ one. (
            let same : length between ≡ length pairs = paired_length _ h.shares between h.left_are ∙
            paired_length _ pairs h.shares h.each in
            let a = h.alone one in
            let b = k.alone (same ∙ one) in
            omega (arith, a, b));
        in_time = λ one time. (
            let same : length between ≡ length pairs = paired_length _ h.shares between h.left_are ∙
            paired_length _ pairs h.shares h.each in
            let a = h.in_time one time in
            let b = k.in_time (same ∙ one) time in
            omega (arith, a, b));
      }

-- one round more
pub ran_more : {W D : Type 0} (leads : D → ℕ → D → Type 0) (shown_of : W → SlotShown D) (s : Settings) (rounds : ℕ)
    (y ready : CallerShown) (slots : List W) (r more : Round W) (t : TaskCountsShown) →
    RoundHasRun leads shown_of s (rounds * s.tasks) y slots r →
    ready.user.value.records ≡ r.client.value.records →
    all_aborted ready.user.value ≡ all_aborted r.client.value → r.manager.renewal < ready.shared.renewal →
    RoundHasRun leads shown_of s s.tasks ready r.slots.items more →
    t.outcomes ≡ plus r.counts.outcomes more.counts.outcomes →
    t.attempts ≡ r.counts.attempts + more.counts.attempts →
    RanAll leads s shown_of ((rounds + 1) * s.tasks) y.shared.renewal more.manager.renewal y.user.value.records slots
    more.client.value.records more.slots.items t.outcomes t.attempts (all_aborted y.user.value)
    (all_aborted more.client.value)
ran_more leads shown_of s rounds y ready slots r more t h same kept less k e f =
    let n : rounds * s.tasks + s.tasks ≡ (rounds + 1) * s.tasks = grind arith in
    let first = y.user.value.records in
    let middle = r.client.value.records in
    let last = more.client.value.records in
    let from = y.shared.renewal in
    let to = more.manager.renewal in
    let old = all_aborted y.user.value in
    let mid = all_aborted r.client.value in
    let new = all_aborted more.client.value in
    let next : RanAll leads s shown_of s.tasks ready.shared.renewal to middle r.slots.items last more.slots.items
    more.counts.outcomes more.counts.attempts mid new =
    subst (λ (l : List Aborted). RanAll leads s shown_of s.tasks ready.shared.renewal to middle r.slots.items last
    more.slots.items more.counts.outcomes more.counts.attempts l new) kept
    (subst (λ (l : List Record). RanAll leads s shown_of s.tasks ready.shared.renewal to l r.slots.items last
    more.slots.items more.counts.outcomes more.counts.attempts (all_aborted ready.user.value) new) same k) in
    subst (λ (j : ℕ). RanAll leads s shown_of j from to first slots last more.slots.items t.outcomes t.attempts old new)
    n
    (subst (λ (u : Outcomes). RanAll leads s shown_of (rounds * s.tasks + s.tasks) from to first slots last
    more.slots.items u t.attempts old new) (sym e)
    (subst (λ (j : ℕ). RanAll leads s shown_of (rounds * s.tasks + s.tasks) from to first slots last
    more.slots.items (plus r.counts.outcomes more.counts.outcomes) j old new) (sym f)
    (ran_both leads s shown_of (rounds * s.tasks) s.tasks from r.manager.renewal ready.shared.renewal to less
    first middle last slots r.slots.items more.slots.items
    r.counts.outcomes more.counts.outcomes r.counts.attempts more.counts.attempts old mid new h next)))

-- tallies of so many tasks each
total_of : {D P : Type 0} (leads : D → ℕ → D → Type 0) (s : Settings) (shown_of : P →
    SlotShown D) (n from to : ℕ) (pairs : List P) (shares : List (Share (SlotShown D))) →
    Paired (λ p x. HasKeptShare leads s n from to (shown_of p) x) pairs shares →
    total (added_up (λ (x : Share (SlotShown D)). x.outcomes) shares) ≡ length pairs * n
total_of leads s shown_of n from to [] [] none = omega arith
total_of leads s shown_of n from to (p ∷ pairs) (x ∷ shares) (both h hs) =
    counts (total_of leads s shown_of n from to pairs shares hs) h.has.all
  where
    counts : total (added_up (λ (y : Share _). y.outcomes) shares) ≡ length pairs * n → total x.outcomes ≡ n →
        total (added_up (λ (y : Share _). y.outcomes) (x ∷ shares)) ≡ suc (length pairs) * n
    counts e f = omega (arith, e, f)
total_of leads s shown_of n from to [] (x ∷ shares) hs = elim hs [ ]
total_of leads s shown_of n from to (p ∷ pairs) [] hs = elim hs [ ]

pub ran_total : {D P : Type 0} (leads : D → ℕ → D → Type 0) (s : Settings) (shown_of : P →
    SlotShown D) (n from to : ℕ) (before after : List Record) (pairs left : List P) (t : Outcomes) (a : ℕ)
    (earlier later : List Aborted) → RanAll leads s shown_of n from to before pairs after left t a earlier later →
    total t ≡ length pairs * n
ran_total leads s shown_of n from to before after pairs left t a earlier later h =
    ap (λ (u : Outcomes). total u) h.tallies ∙
    total_of leads s shown_of n from to pairs h.shares h.each

-- the product of numbers below bounds
below_both : (a b c d : ℕ) → a ≤ b → c ≤ d → a * c ≤ b * d
below_both a b c d p q = mul-le-mul p q

-- no more tasks than in the most rounds by the most clients
pub few_tasks : (clients rounds tasks : ℕ) → clients ≤ 64 → rounds ≤ 100 → tasks ≤ 1000000 →
    clients * (rounds * tasks) ≤ 6400000000
few_tasks clients rounds tasks a b c =
    let p : rounds * tasks ≤ 100 * 1000000 = below_both rounds 100 tasks 1000000 b c in
    below_both clients 64 (rounds * tasks) (100 * 1000000) a p

pub few_each : (n pairs clients tasks : ℕ) → n ≡ pairs * tasks → pairs ≡ clients → clients ≤ 64 → tasks ≤ 1000000 →
    n ≤ 64000000
few_each n pairs clients tasks e f a b = let p : pairs * tasks ≤ 64 * 1000000 =
    below_both pairs 64 tasks 1000000 (omega (arith, f, a)) b in omega (arith, e, p)

pub few_all : (n pairs clients rounds tasks : ℕ) → n ≡ pairs * (rounds * tasks) → pairs ≡ clients → clients ≤ 64 →
    rounds ≤ 100 → tasks ≤ 1000000 → n ≤ 6400000000
few_all n pairs clients rounds tasks e f a b c = let p = few_tasks pairs rounds tasks (omega (arith, f, a)) b c in
    omega (arith, e, p)

-- after a renewal all records are of earlier ones
pub renewed_known : (region region' : RegionShown) (c c' : ClientShown) (words : List ℕ) →
    ClosesSomewhere region c.value words → region'.renewal ≡ region.renewal + 1 → c'.value.records ≡ c.value.records →
    AreKnown region'.renewal c'.value.floor c'.value.records
renewed_known region region' c c' words h e same = λ r i.
    (let past = h.1.ends.eras r (subst (λ (l : List Record). In r l) same i) in
    record {
      present = omega (arith, e, past);
      known = λ q. absurd (omega (arith, e, past, q));
      unplaced = λ q. absurd (omega (arith, e, past, q));
    })
