-- What each client did, from its client before and after.
use Rattle.std.proofs.Common.{◌≡◌, ◌∙◌, ℕ, suc, ◌+◌, ◌*◌, ◌-◌, ◌≤◌, List, [], ◌∷◌, ◌++◌, length, All, inl, inr, refl}
use Rattle.std.proofs.Common.{sym, ap, subst, arith}
use Rattle.tx_memory.specs.Image.{In}
use Rattle.stm_core.specs.Client.{Client, Record, Aborted, all_aborted, merged}
use Rattle.stm_core.proofs.Eras.{append_left, append_right}
use Rattle.stm_core.specs.Invariant.{Sorted}
use Rattle.stm_core.proofs.Orders.{in_merged}
use Rattle.stm_core.proofs.Whole.{merged_sorted}
use Rattle.stm_region.specs.Shown.{RegionShown}
use Rattle.vac_manager.specs.Called.{ClientShown, Splits, CallerShown}
use Rattle.load_tasks.specs.declared.settings.Settings.{Settings}
use Rattle.load_run.specs.Attempted.{TaskCountsShown}
use Rattle.load_run.specs.declared.outcomes.Outcomes.{Outcomes}
use Rattle.load_run.specs.declared.workers.Worker.{Worker}
use Rattle.load_run.specs.declared.workers.Crew.{Crew}
use Rattle.load_tasks.specs.Draws.{Drawn, times_over}
use Rattle.load_tasks.specs.Tasks.{task_of}
use Rattle.stm_object.specs.Places.{reader_at}
use Rattle.load_run.specs.Keeping.{AreKeptBetween}
use Rattle.load_run.specs.Slots.{SlotShown}
use Rattle.load_run.specs.Looping.{AreKnown, plus}
use Rattle.load_run.specs.Several.{Within, AllWithin, sum_of, added_up, Interleaved}
use Rattle.load_run.specs.Lists.{Paired, none, both}
use Rattle.load_run.specs.Load.{InterleavedAll, all_merged, Gathered, DidWork, DidAllWork, IsWorker, IsCrew}
use Rattle.load_run.specs.Load.{IsMember, CanGather, Share, HasKeptShare, RanAll}
use Rattle.load_run.specs.Alone.{IsInRenewal, IsReadyForRound}
use Rattle.load_run.proofs.Clocking.{clocked_in_time}
use Rattle.load_run.proofs.Eras.{more_in}
use Rattle.load_run.proofs.Order.{IsLater, added_later, known_first}
use Rattle.load_run.proofs.Merging.{merged_behind, interleaved_alone, regrouped, merged_interleaved}
use Rattle.load_run.proofs.Notes.{kept_added}
use Rattle.load_run.proofs.Pairs.{paired_through, paired_length, all_cons}

-- a worker whose caller was split off
pub split_worker : {W : Type 0} (y before after : CallerShown) (w : Worker W) →
    Splits before.user after.user w.caller.user → w.caller.shared ≡ before.shared →
    before.shared ≡ y.shared → before.user.value.floor ≡ y.user.value.floor →
    IsWorker y.shared [] y.user.value.floor w.slot w
split_worker y before after w s m t f = record {
  manager_is = m ∙ t;
  records_are = ap (λ (x : ClientShown). x.value.records) s.theirs;
  knows = ap (λ (x : ClientShown). x.value.floor) s.theirs ∙ f;
  seat_is = refl;
}

-- the client that another was split off from
pub record SplitKeeps (before after : ClientShown) : Type 0 where
  pub records : after.value.records ≡ before.value.records
  pub floor : after.value.floor ≡ before.value.floor
  pub grants : after.value.grants + 1 ≡ before.value.grants
  pub aborted : all_aborted after.value ≡ all_aborted before.value

pub split_keeps : (before after other : ClientShown) → Splits before after other → SplitKeeps before after
split_keeps before after other s = record {
  records = ap (λ (x : ClientShown). x.value.records) s.mine;
  floor = ap (λ (x : ClientShown). x.value.floor) s.mine;
  aborted = ap (λ (x : ClientShown). all_aborted x.value) s.mine;
  grants = let q : after.value.grants ≡ before.value.grants - 1 = ap (λ (x : ClientShown). x.value.grants) s.mine in
      omega (arith, q, s.some);
}

-- what follows for each element of the second list
pub paired_each : {A B : Type 0} (related : A → B → Type 0) (P : B → Type 0) → ((x : A) (y : B) → related x y → P y) →
    (xs : List A) (ys : List B) → Paired related xs ys → All P ys
paired_each related P f [] [] none = λ k d less. absurd (omega (arith, less))
paired_each related P f (x ∷ xs) (y ∷ ys) (both r p) = all_cons P y ys (f x y r) (paired_each related P f xs ys p)
paired_each related P f [] (y ∷ ys) p = elim p [ ]
paired_each related P f (x ∷ xs) [] p = elim p [ ]

-- what follows for each element, from what is known of the element before it
pub paired_both : {A B : Type 0} (related : A → B → Type 0) (P : A → Type 0) (Q : B → Type 0) →
    ((x : A) (y : B) → P x → related x y → Q y) → (xs : List A) (ys : List B) → All P xs → Paired related xs ys →
    All Q ys
paired_both related P Q f [] [] h none = λ k d less. absurd (omega (arith, less))
paired_both related P Q f (x ∷ xs) (y ∷ ys) h (both r p) = all_cons Q y ys (f x y (h 0 x (omega arith)) r)
    (paired_both related P Q f xs ys (λ j e l. h (suc j) e (omega (arith, l))) p)
paired_both related P Q f [] (y ∷ ys) h p = elim p [ ]
paired_both related P Q f (x ∷ xs) [] h p = elim p [ ]

-- the records that a client added, and that they stand behind those that it had
pub record Did {D : Type 0} (leads : D → ℕ → D → Type 0) (s : Settings) (renewal floor : ℕ) (before : List Record)
    (state left : SlotShown D) (after : ClientShown) (t : TaskCountsShown) : Type 0 where
  pub added : List Record
  pub records_are : after.value.records ≡ before ++ added
  pub sorted : Sorted added
  pub later : (r : Record) → In r added → IsLater renewal floor r
  pub aborts : List Aborted
  pub listed : Within aborts (all_aborted after.value)
  pub has : HasKeptShare leads s s.tasks renewal renewal state (record {
    records = added;
    attempts = t.attempts;
    aborts = aborts;
    outcomes = t.outcomes;
    left = left;
  })

at_least : (a n k l : ℕ) → a + n ≡ k → a + l ≤ k → l ≤ n
at_least a n k l e less = omega (arith, e, less)

pub did : {W D : Type 0} (leads : D → ℕ → D → Type 0) (shown_of : W →
    SlotShown D) (s : Settings) (manager : RegionShown)
    (floor : ℕ) (before : List Record) (slot : W) (w : Worker W) (r : Worker W) →
    IsWorker manager before floor slot w → DidWork leads shown_of s w r →
    Did leads s manager.renewal floor before (shown_of slot) (shown_of r.slot) r.caller.user r.counts
did leads shown_of s manager floor before slot w r h k =
    let y = w.caller in
    let y' = r.caller in
    let left = shown_of r.slot in
    let same = ap (λ (x : _). shown_of x) h.seat_is in
    let l = k.looped in
    let a = l.answered in
    record {
      added = a.added;
      records_are = a.records ∙ ap (λ (rs : List Record). rs ++ a.added) h.records_are;
      sorted = a.sorted;
      later = λ r i. subst (λ (m : RegionShown). IsLater m.renewal floor r) h.manager_is
          (added_later y.shared.renewal floor y.user.value.floor y'.user.value.floor r (omega (arith, h.knows))
          (a.each r i));
      aborts = k.kept.aborts;
      listed = λ b i. subst (λ (l : List Aborted). In b l) (sym k.kept.listed)
          (append_right (all_aborted y.user.value) k.kept.aborts b i);
      has = record {
        has = record {
          tasks = l.tasks;
          drawn = subst (λ (x : SlotShown _). Drawn leads (times_over s.tasks (task_of s)) x.draws l.tasks left.draws)
              same l.drawn;
          answered = l.done;
          among = l.among;
          number = l.number;
          are_of = a.are_of;
          all = l.all;
          least = at_least y.user.value.attempt.number r.counts.attempts y'.user.value.attempt.number _ k.attempts
              l.attempts;
        };
        low = y.user.value.floor;
        high = y'.user.value.floor;
        kept = subst (λ (x : SlotShown _). AreKeptBetween (reader_at manager.renewal y.user.value.floor)
            (reader_at manager.renewal y'.user.value.floor) r.counts.attempts a.added k.kept.aborts x.kept left.kept)
            same
            (subst (λ (m : RegionShown). AreKeptBetween (reader_at m.renewal y.user.value.floor)
            (reader_at m.renewal y'.user.value.floor) r.counts.attempts a.added k.kept.aborts
            (shown_of w.slot).kept left.kept)
            h.manager_is
            (kept_added y.shared.renewal y.user.value y'.user.value r.counts.attempts a.added (shown_of w.slot).kept
            left.kept a.records k.attempts k.kept));
      };
    }

-- each share's records stand in order, behind all that is known
abbrev AreLater : {D : Type 0} → ℕ → ℕ → List (Share D) → Type 0
AreLater renewal floor [] = Unit {0}
AreLater renewal floor (x ∷ xs) = (Sorted x.records × ((r : Record) → In r x.records → IsLater renewal floor r)) ×
    AreLater renewal floor xs

-- they are merged behind all that is known
merged_front : {D : Type 0} (renewal floor : ℕ) (o l : List Record) (xs : List (Share D)) → AreKnown renewal floor o →
    AreLater renewal floor xs →
    all_merged (λ (x : Share D). x.records) (o ++ l) xs ≡ o ++ all_merged (λ (x : Share D). x.records) l xs
merged_front renewal floor o l [] k h = refl
merged_front {D} renewal floor o l (x ∷ xs) k h =
    ap (λ (m : List Record). all_merged (λ (y : Share D). y.records) m xs)
    (merged_behind o l x.records (λ a b i j. known_first renewal floor a b (k a i) (h.0.1 b j)))
    ∙ merged_front renewal floor o (merged l x.records) xs k h.1

-- merged lists stand in the merge, each in its order, and it has no others
within : {D : Type 0} (renewal floor : ℕ) (l : List Record) (xs : List (Share D)) → Sorted l →
    AreLater renewal floor xs →
    (others : List Record) × Interleaved l others (all_merged (λ (x : Share D). x.records) l xs) ×
    InterleavedAll (λ (x : Share D). x.records) xs others
within renewal floor l [] s h = ([], interleaved_alone l, refl)
within renewal floor l (x ∷ xs) s h =
    let m = within renewal floor (merged l x.records) xs (merged_sorted l x.records s) h.1 in
    let r = regrouped m.1 (merged_interleaved l x.records s h.0.0) in
    (r.later, r.whole, (m.0, r.lasts, m.2))

-- all of them are of this renewal
of_this : {D : Type 0} (renewal floor : ℕ) (l : List Record) (xs : List (Share D)) →
    ((r : Record) → In r l → IsLater renewal floor r) → AreLater renewal floor xs →
    (r : Record) → In r (all_merged (λ (x : Share D). x.records) l xs) → r.renewal ≡ renewal
of_this renewal floor l [] f h r i = (f r i).renewal_is
of_this renewal floor l (x ∷ xs) f h r i =
    of_this renewal floor (merged l x.records) xs (λ y j. elim (in_merged l x.records y j) [
      | inl k ↦ f y k
      | inr k ↦
          h.0.1 y k
    ]) h.1 r i

no_sum : {X : Type 0} (f : X → ℕ) (xs : List X) → length xs ≡ 0 → sum_of f xs ≡ 0
no_sum f [] e = refl
no_sum f (x ∷ xs) e = absurd (omega (arith, e))

module _ {W D : Type 0} (leads : D → ℕ → D → Type 0) (shown_of : W → SlotShown D)
    (s : Settings) (opener : CallerShown) where
  -- how the tasks ended
  abbrev tally_of : Worker W → Outcomes
  tally_of r = r.counts.outcomes

  -- the number of attempts
  abbrev attempts_of : Worker W → ℕ
  attempts_of r = r.counts.attempts

  -- the records of the client
  abbrev records_of : Worker W → List Record
  records_of r = r.caller.user.value.records

  -- the shares of the clients that began without records
  record Shared (floor : ℕ) (ps : List W) (rs : List (Worker W)) : Type 0 where
    shares : List (Share (SlotShown D))
    each : Paired (λ p x. HasKeptShare leads s s.tasks opener.shared.renewal opener.shared.renewal (shown_of p) x) ps
        shares
    left_are : Paired (λ x r. shown_of r.slot ≡ x.left) shares rs
    later : AreLater opener.shared.renewal floor shares
    merges : (l : List Record) → all_merged records_of l rs ≡ all_merged
        (λ (x : Share (SlotShown D)). x.records) l shares
    listed : (l : List Aborted) → AllWithin (λ r. all_aborted r.caller.user.value) rs l →
        AllWithin (λ (x : Share (SlotShown D)). x.aborts) shares l
    tallies : added_up tally_of rs ≡ added_up (λ (x : Share (SlotShown D)). x.outcomes) shares
    made : sum_of attempts_of rs ≡ sum_of (λ (x : Share (SlotShown D)). x.attempts) shares

  shared : (floor : ℕ) (ps : List W) (ws : List (Worker W)) (rs : List (Worker W)) →
      Paired (IsWorker opener.shared [] floor) ps ws → Paired (DidWork leads shown_of s) ws rs → Shared floor ps rs
  shared floor [] [] [] none none = record {
    shares = [];
    each = none;
    left_are = none;
    later = tt;
    merges = λ l. refl;
    listed = λ l h. tt;
    tallies = refl;
    made = refl;
  }
  shared floor (p ∷ ps) (w ∷ ws) (r ∷ rs) (both h hs) (both k ks) =
      let d = did leads shown_of s opener.shared floor [] p w r h k in
      let more = shared floor ps ws rs hs ks in
      record {
        shares = record {
          records = d.added;
          attempts = attempts_of r;
          aborts = d.aborts;
          outcomes = tally_of r;
          left = shown_of r.slot;
        } ∷ more.shares;
        each = both d.has more.each;
        left_are = both refl more.left_are;
        later = ((d.sorted, d.later), more.later);
        merges = λ l. ap (λ (m : List Record). all_merged records_of (merged l m) rs) d.records_are
            ∙ more.merges (merged l d.added);
        listed = λ l q. (λ b i. q.0 b (d.listed b i), more.listed l q.1);
        tallies = ap (λ (t : Outcomes). plus (tally_of r) t) more.tallies;
        made = ap (λ (n : ℕ). attempts_of r + n) more.made;
      }
  shared floor [] [] (r ∷ rs) hs ks = elim ks [ ]
  shared floor [] (w ∷ ws) rs hs ks = elim hs [ ]
  shared floor (p ∷ ps) [] rs hs ks = elim hs [ ]
  shared floor (p ∷ ps) (w ∷ ws) [] hs ks = elim ks [ ]

  -- what a seat that was handed back shows
  handed : (x : Share (SlotShown D)) (r : Worker W) (p : W) → shown_of r.slot ≡ x.left → p ≡ r.slot →
      shown_of p ≡ x.left
  handed x r p e f = ap (λ (y : W). shown_of y) f ∙ e

  -- what the first one added, and the others behind it
  record Round (slots : List W) (crew : Crew W) (done : Crew W) (all : List Record)
      (h : IsCrew opener s.tries slots crew) : Type 0 where
    mine : Did leads s opener.shared.renewal opener.user.value.floor opener.user.value.records
        (shown_of h.slot) (shown_of done.first.slot) done.first.caller.user done.first.counts
    more : Shared opener.user.value.floor h.rest done.others.items
    behind : all ≡ opener.user.value.records
        ++ all_merged (λ (x : Share (SlotShown D)). x.records) mine.added more.shares

  round : (slots : List W) (crew : Crew W) (done : Crew W) (all : List Record)
      (t : Outcomes) → IsReadyForRound s opener → (h : IsCrew opener s.tries slots crew) →
      DidAllWork leads shown_of s crew done →
      Gathered records_of tally_of done.first done.others.items all t → Round slots crew done all h
  round slots crew done all t ready h k g =
      let floor = opener.user.value.floor in
      let before = opener.user.value.records in
      let d = did leads shown_of s opener.shared floor before h.slot crew.first done.first h.opening k.first in
      let more = shared floor h.rest crew.others.items done.others.items h.others_are k.others in
      record {
        mine = d;
        more = more;
        behind = g.records_are ∙ (ap (λ (m : List Record). all_merged records_of m done.others.items) d.records_are
            ∙ (more.merges (before ++ d.added)
            ∙ merged_front opener.shared.renewal floor before d.added more.shares ready.known more.later));
      }

  pub ran_all : (slots left : List W) (crew : Crew W) (done : Crew W)
      (after : Client) (t : Outcomes) (n : ℕ) → IsReadyForRound s opener → IsCrew opener s.tries slots crew →
      DidAllWork leads shown_of s crew done →
      Gathered records_of tally_of done.first done.others.items after.records t →
      Paired (λ r p. p ≡ r.slot) (done.first ∷ done.others.items) left →
      n ≡ sum_of attempts_of (done.first ∷ done.others.items) →
      AllWithin (λ r. all_aborted r.caller.user.value) (done.first ∷ done.others.items) (all_aborted after) →
      RanAll leads s shown_of s.tasks opener.shared.renewal opener.shared.renewal opener.user.value.records slots
      after.records left t n (all_aborted opener.user.value) (all_aborted after)
  ran_all slots left crew done after t n ready h k g lefts counted aborted =
      let r = round slots crew done after.records t ready h k g in
      let d = r.mine in
      let more = r.more in
      let mine : Share (SlotShown D) = record {
        records = d.added;
        attempts = attempts_of done.first;
        aborts = d.aborts;
        outcomes = tally_of done.first;
        left = shown_of done.first.slot;
      } in
      -- with one client there are no others
      let none : length slots ≡ 1 → length crew.others.items ≡ 0 = λ one. (
      let long : length slots ≡ suc (length h.rest) = ap (λ (l : List W). length l) h.seats_are in
      let same = paired_length _ h.rest crew.others.items h.others_are in
      omega (arith, one, long, same)) in
      let quiet : (f : Worker W → ℕ) → length slots ≡ 1 → sum_of f done.others.items ≡ 0 = λ f one. (
      let same = paired_length _ crew.others.items done.others.items k.others in
      no_sum f done.others.items (omega (arith, none one, same))) in
      let grants : length slots ≡ 1 → crew.first.caller.user.value.grants ≡ 63 = λ one. (
      let held : crew.first.caller.user.value.grants + crew.others.len ≡ 63 = h.grants in
      omega (arith, none one, held, crew.others.ok.0)) in
      record {
        shares = mine ∷ more.shares;
        each = subst (λ (l : List W). Paired (λ p x. HasKeptShare leads s s.tasks opener.shared.renewal
            opener.shared.renewal (shown_of p) x) l
            (mine ∷ more.shares)) (sym h.seats_are) (both d.has more.each);
        left_are = paired_through (λ x r. shown_of r.slot ≡ x.left) (λ r p. p ≡ r.slot)
            (λ x p. shown_of p ≡ x.left) handed (mine ∷ more.shares) (done.first ∷ done.others.items) left
            (both refl more.left_are) lefts;
        rest = all_merged (λ (x : Share (SlotShown D)). x.records) d.added more.shares;
        behind = r.behind;
        each_once = within opener.shared.renewal opener.user.value.floor d.added more.shares d.sorted more.later;
        tallies = g.tallies ∙ ap (λ (u : Outcomes). plus (tally_of done.first) u) more.tallies;
        made = counted ∙ ap (λ (m : ℕ). attempts_of done.first + m) more.made;
        stays = λ b i. aborted.0 b (subst (λ (l : List Aborted). In b l) (sym k.first.kept.listed)
            (append_left (all_aborted crew.first.caller.user.value) k.first.kept.aborts b
            (subst (λ (l : List Aborted). In b l) (sym h.aborted) i)));
        listed = (λ b i. aborted.0 b (d.listed b i), more.listed (all_aborted after) aborted.1);
        alone = λ one. (
            let first = k.first.looped.alone (grants one) in
            let busy : t.busy ≡ (tally_of done.first).busy + sum_of (λ r. (tally_of r).busy) done.others.items =
            ap (λ (u : Outcomes). u.busy) g.tallies in
            omega (arith, first, quiet (λ r. (tally_of r).busy) one, busy));
        in_time = λ one time. (
            let clock = k.first.clock (grants one) in
            let ends : crew.first.caller.shared.last ≡ s.last =
            ap (λ (m : RegionShown). m.last) h.opening.manager_is ∙ ready.last in
            let first = clocked_in_time _ _ _ _ s.tasks (4 * s.items) clock k.first.looped.all
            (omega (arith, h.opening.knows, ready.early)) (omega (arith, ends, time)) in
            let spent : t.spent ≡ (tally_of done.first).spent + sum_of (λ r. (tally_of r).spent) done.others.items =
            ap (λ (u : Outcomes). u.spent) g.tallies in
            omega (arith, first, quiet (λ r. (tally_of r).spent) one, spent));
      }

  -- what they added is of this renewal
  pub ran_in : (slots : List W) (crew : Crew W) (done : Crew W) (after : Client)
      (t : Outcomes) → IsReadyForRound s opener → IsCrew opener s.tries slots crew →
      DidAllWork leads shown_of s crew done →
      Gathered records_of tally_of done.first done.others.items after.records t →
      IsInRenewal opener.shared.renewal opener.user.value.records → IsInRenewal opener.shared.renewal after.records
  ran_in slots crew done after t ready h k g in_it =
      let r = round slots crew done after.records t ready h k g in
      more_in opener.shared.renewal opener.user.value.records
      (all_merged (λ (x : Share (SlotShown D)). x.records) r.mine.added r.more.shares) after.records in_it r.behind
      (of_this opener.shared.renewal opener.user.value.floor r.mine.added r.more.shares r.mine.later r.more.later)

  -- workers that ran their tasks can be gathered
  pub can_gather : (slots : List W) (crew : Crew W) (done : Crew W) →
      s.clients ≤ 64 → s.tasks ≤ 1000000 → length slots ≡ s.clients → IsCrew opener s.tries slots crew →
      DidAllWork leads shown_of s crew done → CanGather done
  can_gather slots crew done clients tasks number h k =
      let first = ap (λ (y : CallerShown). y.shared) k.first.caller ∙ h.opening.manager_is in
      let same = paired_length _ crew.others.items done.others.items k.others in
      let there = done.others.ok.0 in
      let managers = paired_each (IsWorker opener.shared [] opener.user.value.floor)
      (λ w. w.caller.shared ≡ opener.shared) (λ p w i. i.manager_is) h.rest crew.others.items h.others_are in
      record {
        grants = (
            let held = k.first.looped.answered.grants in
            let all : crew.first.caller.user.value.grants + crew.others.len ≡ 63 = h.grants in
            omega (arith, held, same, crew.others.ok.0, there, all));
        few = (
            let long : length slots ≡ suc (length h.rest) = ap (λ (l : List W). length l) h.seats_are in
            let pairs = paired_length _ h.rest crew.others.items h.others_are in
            omega (arith, long, pairs, same, there, number, clients));
        tasks = (let all = k.first.looped.all in omega (arith, all, tasks));
        others = paired_both (DidWork leads shown_of s)
            (λ w. (w.caller.shared ≡ opener.shared) × (w.caller.user.value.grants ≡ 0)) (IsMember done.first)
            (λ w r e d. record {
              one = ap (λ (y : CallerShown). y.shared) d.caller ∙ (e.0 ∙ sym first);
              grants = d.looped.answered.grants ∙ e.1;
              tasks = (let all = d.looped.all in omega (arith, all, tasks));
              tries = d.tries ∙ sym k.first.tries;
            }) crew.others.items done.others.items (λ j x l. (managers j x l, h.others_grants j x l)) k.others;
      }
