-- A load as a whole: the opening, the clients, and the report.
use Rattle.std.proofs.Common.{true, false, Result, Ok, IsErrOf, ◌↔◌, ◌≡◌, ◌∙◌, ◌⊎◌, ℕ, ◌+◌, ◌*◌, ◌-◌}
use Rattle.std.proofs.Common.{◌/◌, List, [], ◌∷◌, ◌++◌, length}
use Rattle.std.proofs.Common.{length-append, map, refl, sym, inl, inr, ap, subst, arith}
use Rattle.tx_memory.specs.Image.{In, Agrees}
use Rattle.stm_core.specs.Client.{Client, Record, Aborted, all_aborted}
use Rattle.stm_core.specs.History.{Serial, image_upto}
use Rattle.stm_core.proofs.Lists.{nothing_in}
use Rattle.stm_core.proofs.Orders.{in_cons}
use Rattle.stm_region.specs.Shown.{RegionShown}
use Rattle.vac_model.specs.declared.replies.Report.{Report}
use Rattle.vac_model.specs.State.{State, empty_state, report}
use Rattle.vac_manager.specs.Law.{Shows}
use Rattle.vac_manager.specs.Legal.{IsLegal, AreVersioned, capacity_of}
use Rattle.vac_manager.specs.Called.{ClientShown, CallerShown}
use Rattle.vac_manager.specs.Opening.{Opens}
use Rattle.vac_manager.specs.Renewed.{ClosesSomewhere}
use Rattle.load_tasks.specs.declared.settings.Settings.{Settings}
use Rattle.load_run.specs.declared.outcomes.Outcomes.{Outcomes}
use Rattle.load_tasks.specs.Tasks.{opening}
use Rattle.vac_manager.specs.declared.fault.Fault.{Fault}
use Rattle.vac_manager.specs.declared.fault.Fault.TheVariants as fault
use Rattle.load_run.specs.Opening.{Stopped}
use Rattle.rand_pcg.specs.Lcg.{Lcg}
use Rattle.load_run.specs.declared.slots.Recorders.{Recorders}
use Rattle.load_run.specs.declared.slots.Slot.{Slot}
use Rattle.load_run.specs.declared.rounds.Round.{Round}
use Rattle.load_run.specs.declared.load.LoadFault.{LoadFault}
use Rattle.load_run.specs.declared.load.LoadFault.TheVariants as load
use Rattle.load_tasks.specs.Streams.{stream_of, streams_of, gives}
use Rattle.load_run.specs.declared.load.Load.{Load}
use Rattle.load_run.specs.Streams.{KeptBySeed, IsBySeed}
use Rattle.stm_object.specs.Places.{reader_at}
use Rattle.load_run.specs.Lists.{Paired, none, both}
use Rattle.load_run.specs.Alone.{IsReadyForRound}
use Rattle.load_run.specs.Keeping.{RecorderContents, AreKept}
use Rattle.load_run.specs.Several.{AllKept, none_kept, one_kept, Within, AllWithin, sum_of, added_up}
use Rattle.load_run.specs.Slots.{SlotShown, shown, kept_at}
use Rattle.load_run.specs.Load.{InterleavedAll, Share, drawn_share, HasShare, HasKeptShare, HasOpened, RoundHasRun}
use Rattle.load_run.specs.Load.{is_load, HaveRead, LoadedKept, WasOpened, WasStopped, IsTooShort, IsStopOfLoad}
use Rattle.load_run.specs.Load.{StopsLoad}
use Rattle.load_run.proofs.Images.{heap_upto}
use Rattle.load_run.proofs.Order.{added_known}
use Rattle.load_run.proofs.Joining.{ran_total}
use Rattle.load_run.proofs.Beginning.{long_opening}

-- after the opening the first round can begin: what the opening added is known to its client, and it
-- took the clock on by at most one for each of its commands
pub opened_ready : {D : Type 0} (leads : D → ℕ → D → Type 0) (s : Settings) (state left : D) (y : CallerShown) →
    HasOpened leads s state left y → IsReadyForRound s y
opened_ready leads s state left y h =
    let a = h.ran.answered in
    let all : y.user.value.records ≡ a.added = a.records ∙
    ap (λ (c : ClientShown). c.value.records ++ a.added) h.opens.client_is in
    let first : h.opener.value.floor ≡ 0 = ap (λ (c : ClientShown). c.value.floor) h.opens.client_is in
    let d = h.ran.drawn in
    let long = long_opening s (d.words ++ []) h.ran.commands [] (d.reads []) in
    record {
      last = h.opens.last_is;
      known = λ r i. added_known y.shared.renewal h.opener.value.floor y.user.value.floor r
          (a.each r (subst (λ (l : List Record). In r l) all i));
      early = omega (arith, long, first, h.ran.near);
    }

-- shares without what was kept
module _ {D : Type 0} where
  once_drawn : (xs : List (Share (SlotShown D))) (l : List Record) →
      InterleavedAll (λ (x : Share (SlotShown D)). x.records) xs l →
      InterleavedAll (λ (x : Share D). x.records) (map drawn_share xs) l
  once_drawn [] l h = h
  once_drawn (x ∷ xs) l h = (h.0, h.1, once_drawn xs h.0 h.2)

  sum_drawn : (f : Share D → ℕ) (xs : List (Share (SlotShown D))) →
      sum_of f (map drawn_share xs) ≡ sum_of (λ x. f (drawn_share x)) xs
  sum_drawn f [] = refl
  sum_drawn f (x ∷ xs) = ap (λ n. f (drawn_share x) + n) (sum_drawn f xs)

  tallies_drawn : (xs : List (Share (SlotShown D))) → added_up (λ (x : Share D). x.outcomes)
      (map drawn_share xs) ≡ added_up (λ (x : Share (SlotShown D)). x.outcomes) xs
  tallies_drawn xs = λ i. record {
    answered = sum_drawn (λ x. x.outcomes.answered) xs i;
    busy = sum_drawn (λ x. x.outcomes.busy) xs i;
    memory = sum_drawn (λ x. x.outcomes.memory) xs i;
    spent = sum_drawn (λ x. x.outcomes.spent) xs i;
  }

-- a share's aborted attempts are among those that the shares list
drawn_within : {D : Type 0} (xs : List (Share (SlotShown D))) (l : List Aborted) →
    AllWithin (λ (x : Share (SlotShown D)). x.aborts) xs l → (x : Share D) → In x (map drawn_share xs) →
    Within x.aborts l
drawn_within [] l h x i = absurd (nothing_in x i)
drawn_within (y ∷ ys) l h x i = elim (in_cons (drawn_share y) x (map drawn_share ys) i) [
  | inl e ↦ subst (λ (z : Share _). Within z.aborts l) e h.0
  | inr j ↦ drawn_within ys l h.1 x j
]

module _ {D P : Type 0} (leads : D → ℕ → D → Type 0) (s : Settings) (shown_of : P → SlotShown D) (n from to : ℕ) where
  each_drawn : (ps : List P) (xs : List (Share (SlotShown D))) →
      Paired (λ p x. HasKeptShare leads s n from to (shown_of p) x) ps xs →
      Paired (λ p x. HasShare leads s n (shown_of p).draws x) ps (map drawn_share xs)
  each_drawn [] [] none = none
  each_drawn (p ∷ ps) (x ∷ xs) (both h hs) = both h.has (each_drawn ps xs hs)
  each_drawn [] (x ∷ xs) hs = elim hs [ ]
  each_drawn (p ∷ ps) [] hs = elim hs [ ]

  kept_drawn : (ps : List P) (xs : List (Share (SlotShown D))) (qs : List P) →
      Paired (λ p x. HasKeptShare leads s n from to (shown_of p) x) ps xs → Paired (λ x p. shown_of p ≡ x.left) xs qs →
      AllKept (λ (x : Share D). x.attempts) (λ (x : Share D). x.records) (λ (x : Share D). x.aborts)
      (map drawn_share xs)
      (map (λ p. (shown_of p).kept) ps)
      (map (λ p. (shown_of p).kept) qs)
  kept_drawn [] [] [] none none = none_kept
  kept_drawn (p ∷ ps) (x ∷ xs) (q ∷ qs) (both h hs) (both k ks) =
      one_kept (subst (λ (y : SlotShown D). AreKept x.attempts x.records x.aborts (shown_of p).kept y.kept)
      (sym k)
      (record { first = reader_at from h.low; last = reader_at to h.high; between = h.kept }))
      (kept_drawn ps xs qs hs ks)
  kept_drawn [] (x ∷ xs) qs hs ks = elim hs [ ]
  kept_drawn (p ∷ ps) [] qs hs ks = elim hs [ ]
  kept_drawn [] [] (q ∷ qs) hs ks = elim ks [ ]
  kept_drawn (p ∷ ps) (x ∷ xs) [] hs ks = elim ks [ ]

pub loaded_kept : {D G K : Type 0} (leads : D → ℕ → D → Type 0) (notes : K →
    RecorderContents) (s : Settings) (state last : D)
    (slots : List (Slot D G K)) (y : CallerShown) (end : Round (Slot D G K)) (before kept : RecorderContents)
    (words : List ℕ)
    (r : Report) →
    length slots ≡ s.clients →
    HasOpened leads s state last y →
    AreKept y.user.value.attempt.number y.user.value.records (all_aborted y.user.value) before kept →
    RoundHasRun leads (shown notes) s (s.rounds * s.tasks) y slots end →
    AreVersioned end.client.value.records →
    end.manager.size ≡ y.shared.size →
    end.manager.first ≡ y.shared.first →
    ClosesSomewhere end.manager end.client.value words →
    ((x : State) → Shows words x → report x ≡ r) →
    LoadedKept leads s (λ slot. slot.draws) state slots end.counts.outcomes r end.counts.attempts before kept
    (kept_at notes slots)
    (kept_at notes end.slots.items)
loaded_kept leads notes s state last slots y end before kept words r n opened keeps all versioned size first closed
    shows =
    let ran = opened.ran in
    let closes = closed.1 in
    let added = ran.answered.added in
    let after = end.client.value in
    let left = end.slots.items in
    let n_of = s.rounds * s.tasks in
    let from = y.shared.renewal in
    let to = end.manager.renewal in
    let records : y.user.value.records ≡ added = ran.answered.records ∙
    ap (λ (c : ClientShown). c.value.records ++ added) opened.opens.client_is in
    let capacity : capacity_of end.manager ≡ s.blocks = ap (λ (k : ℕ). (k - 16) / 8) size ∙
    opened.opens.capacity in
    let start : end.manager.first ≡ y.shared.opening = first ∙ opened.opens.first in
    let serial : Serial y.shared.opening after.records =
    subst (λ (i : List ℕ). Serial i after.records) start closes.ends.serial in
    let old = all_aborted y.user.value in
    let new = all_aborted after in
    let read : HaveRead y.shared.opening after.records new =
    λ a i. subst (λ (image : List ℕ). Agrees (image_upto image a.renewal a.version after.records) a.reads) start
    (closes.ends.aborted a i).1 in
    let count : s.clients * (s.rounds * s.tasks) ≡ s.rounds * s.clients * s.tasks = grind arith in
    record {
      loaded = record {
        history = after.records;
        last = closes.last;
        legal = subst (λ (k : ℕ). IsLegal (empty_state k) after.records closes.last) capacity closes.legal;
        shown = shows closes.last closes.shown;
        opened = ran.answered.added;
        rest = all.rest;
        opening_first = all.behind ∙ ap (λ (l : List Record). l ++ all.rest) records;
        image = y.shared.opening;
        heap = opened.opens.heap;
        serial = serial;
        balanced = λ renewal version. heap_upto renewal version s.blocks y.shared.opening after.records
            (record { state = empty_state s.blocks; shown = opened.opens.shown; capacity = refl }) serial
            closes.ends.sorted closes.ends.abides;
        in_order = closes.ends.sorted;
        versioned = versioned;
        commands = ran.commands;
        drawn = last;
        opening_is = ran.drawn;
        opened_are = ran.answered.are_of;
        shares = map drawn_share all.shares;
        each = each_drawn leads s (shown notes) n_of from to slots all.shares all.each;
        each_once = once_drawn all.shares all.rest all.each_once;
        tallies = all.tallies ∙ sym (tallies_drawn all.shares);
        all = ran_total leads s (shown notes) n_of from to y.user.value.records after.records slots left
            end.counts.outcomes end.counts.attempts old new all ∙
            (ap (λ (k : ℕ). k * (s.rounds * s.tasks)) n ∙ count);
        alone = λ one. all.alone (n ∙ one);
        in_time = λ one time. all.in_time (n ∙ one) time;
      };
      made = all.made ∙ sym (sum_drawn (λ x. x.attempts) all.shares);
      setup_attempts = y.user.value.attempt.number;
      opening_aborts = old;
      opening_kept = subst (λ (l : List Record). AreKept y.user.value.attempt.number l old before kept) records keeps;
      opening_read = λ a i. read a (all.stays a i);
      clients_kept = kept_drawn leads s (shown notes) n_of from to slots all.shares left all.each all.left_are;
      clients_read = λ x j a i. read a (drawn_within all.shares new all.listed x j a i);
    }

-- what holds between images and elements holds between the list of images and the elements
paired_map : {A B X : Type 0} (f : A → B) (related : B → X → Type 0) (ks : List A) (xs : List X) →
    Paired (λ a x. related (f a) x) ks xs → Paired related (map f ks) xs
paired_map f related [] [] none = none
paired_map f related (a ∷ ks) (x ∷ xs) (both h hs) = both h (paired_map f related ks xs hs)
paired_map f related [] (x ∷ xs) hs = elim hs [ ]
paired_map f related (a ∷ ks) [] hs = elim hs [ ]

paired_unmap : {A B X : Type 0} (f : A → B) (related : B → X → Type 0) (ks : List A) (xs : List X) →
    Paired related (map f ks) xs → Paired (λ a x. related (f a) x) ks xs
paired_unmap f related [] [] none = none
paired_unmap f related (a ∷ ks) (x ∷ xs) (both h hs) = both h (paired_unmap f related ks xs hs)
paired_unmap f related [] (x ∷ xs) hs = elim hs [ ]
paired_unmap f related (a ∷ ks) [] hs = elim hs [ ]

-- a load is one of whatever its clients' draws begin with
kept_on : {D P Q : Type 0} (leads : D → ℕ → D → Type 0) (s : Settings) (draws_of : P → D) (drawing : Q →
    D) (state : D) (ps : List P) (qs : List Q) (t : Outcomes) (r : Report) (n : ℕ)
    (before after : RecorderContents) (befores afters : List RecorderContents) →
    map draws_of ps ≡ map drawing qs → LoadedKept leads s draws_of state ps t r n before after befores afters →
    LoadedKept leads s drawing state qs t r n before after befores afters
kept_on leads s draws_of drawing state ps qs t r n before after befores afters e h = record {
  loaded = record {
    history = h.loaded.history;
    last = h.loaded.last;
    legal = h.loaded.legal;
    shown = h.loaded.shown;
    opened = h.loaded.opened;
    rest = h.loaded.rest;
    opening_first = h.loaded.opening_first;
    image = h.loaded.image;
    heap = h.loaded.heap;
    serial = h.loaded.serial;
    balanced = h.loaded.balanced;
    in_order = h.loaded.in_order;
    versioned = h.loaded.versioned;
    commands = h.loaded.commands;
    drawn = h.loaded.drawn;
    opening_is = h.loaded.opening_is;
    opened_are = h.loaded.opened_are;
    shares = h.loaded.shares;
    each = paired_unmap drawing (λ d x. HasShare leads s (s.rounds * s.tasks) d x) qs h.loaded.shares
        (subst (λ ds. Paired (λ d x. HasShare leads s (s.rounds * s.tasks) d x) ds h.loaded.shares) e
        (paired_map draws_of (λ d x. HasShare leads s (s.rounds * s.tasks) d x) ps h.loaded.shares h.loaded.each));
    each_once = h.loaded.each_once;
    tallies = h.loaded.tallies;
    all = h.loaded.all;
    alone = h.loaded.alone;
    in_time = h.loaded.in_time;
  };
  opening_aborts = h.opening_aborts;
  opening_kept = h.opening_kept;
  opening_read = h.opening_read;
  made = h.made;
  setup_attempts = h.setup_attempts;
  clients_kept = h.clients_kept;
  clients_read = h.clients_read;
}

map_same : {A : Type 0} (xs : List A) → map (λ x. x) xs ≡ xs
map_same [] = refl
map_same (x ∷ xs) = ap (λ (l : List _). x ∷ l) (map_same xs)

map_both : {A B C : Type 0} (f : A → B) (g : B → C) (xs : List A) → map (λ x. g (f x)) xs ≡ map g (map f xs)
map_both f g [] = refl
map_both f g (x ∷ xs) = ap (λ (l : List _). g (f x) ∷ l) (map_both f g xs)

-- a load that can be run is not refused for its arguments
pub can_be_run : {R : Type 0} (s : Settings) (n m : ℕ) (r : Result R LoadFault) → n ≡ m → true ≡ is_load s n →
    (IsErrOf r load.Arguments → ⊥) → IsErrOf r load.Arguments ↔ (is_load s m ≡ false)
can_be_run s n m r e b never =
    (λ x. absurd (never x), λ x. absurd (let k : true ≡ false = b ∙ (ap (λ (k : ℕ). is_load s k) e ∙ x) in cc))

pub was_done : {R : Type 0} (r : Result R LoadFault) (x : R) → r ≡ Ok x → IsErrOf r load.Arguments → ⊥
was_done r x done e = cc

-- what is kept at the seats is what their keepers kept
pub kept_returned : {P K : Type 0} (keep_of : P → K) (notes : K → RecorderContents) (left : List P) (keeps : List K) →
    keeps ≡ map keep_of left → (says : List RecorderContents → Type 0) → says (map (λ p. notes (keep_of p)) left) →
    says (map notes keeps)
kept_returned keep_of notes left keeps are says h =
    subst says (map_both keep_of notes left ∙ sym (ap (λ (l : List _). map notes l) are)) h

-- a load by a seed, with its keepers
pub kept_by_seed : {G K : Type 0} (notes : K → RecorderContents) (s : Settings) (before after : Recorders K)
    (l : Load Lcg G K) (t : Outcomes) (r : Report) (n : ℕ) → IsBySeed s before l →
    LoadedKept gives l.plan.settings (λ slot. slot.draws) l.draws l.slots.items t r n (notes l.keep)
    (notes after.opening) (kept_at notes l.slots.items) (map notes after.clients.items) →
    KeptBySeed notes s t r n before after
kept_by_seed notes s before after l t r n is h =
    let streams = streams_of s.seed s.clients in
    let opened = notes after.opening in
    let all = map notes after.clients.items in
    let first : kept_at notes l.slots.items ≡ map notes before.clients.items =
    map_both (λ slot. slot.keep) notes l.slots.items ∙ ap (λ (l : List _). map notes l) is.keeps_are in
    kept_on gives s (λ slot. slot.draws) (λ d. d) (stream_of s.seed 0) l.slots.items streams t r n _ _ _ _
    (is.streams_are ∙ sym (map_same streams))
    (subst (λ (ks : List RecorderContents). LoadedKept gives s (λ slot. slot.draws)
    (stream_of s.seed 0) l.slots.items t r n
    (notes before.opening) opened ks all) first
    (subst (λ (k : _). LoadedKept gives s (λ slot. slot.draws) (stream_of s.seed 0) l.slots.items t r n
    (notes k) opened (kept_at notes l.slots.items) all) is.keep_is
    (subst (λ (d : Lcg). LoadedKept gives s (λ slot. slot.draws) d l.slots.items t r n
    (notes l.keep) opened (kept_at notes l.slots.items) all) is.draws_are
    (subst (λ (x : Settings). LoadedKept gives x (λ slot. slot.draws) l.draws l.slots.items t r n
    (notes l.keep) opened (kept_at notes l.slots.items) all) is.settings_are h))))

too_short : {D : Type 0} (leads : D → ℕ → D → Type 0) (s : Settings) (renewal : ℕ) (e : Fault) (v v' : Client)
    (state left : D) → v.floor ≡ 0 → Stopped leads renewal s.last (opening s) e v v' state left → IsTooShort s e
too_short leads s renewal fault.Arguments v v' state left first p = p.why
too_short leads s renewal fault.Memory v v' state left first p = tt
too_short leads s renewal (fault.Busy conflict) v v' state left first p = p.why
too_short leads s renewal (fault.Spent version) v v' state left first p =
    let b = p.begun in
    let long = long_opening s ((b.words ++ b.more) ++ []) ((p.asked ++ (p.refused ∷ [])) ++ b.rest) [] (b.reads []) in
    let some = length-append (p.asked ++ (p.refused ∷ [])) b.rest in
    let asked = length-append p.asked (p.refused ∷ []) in
    let floor = p.why.1 in
    (p.why.0, omega (arith, long, some, asked, floor, first, p.near))

-- the manager of a load was made, and its opening stopped
pub was_stopped : {D : Type 0} (leads : D → ℕ → D → Type 0) (s : Settings) (e : Fault) (state left : D) (stripes : ℕ)
    (region : RegionShown) (opener : ClientShown) (after : Client) →
    Opens s.blocks s.last stripes region opener → Stopped leads region.renewal region.last
    (opening s) e opener.value after state left → WasStopped leads s e state left
was_stopped leads s e state left stripes region opener after opens stopped =
    let at : Stopped leads region.renewal s.last (opening s) e opener.value after state left =
    subst (λ (n : ℕ). Stopped leads region.renewal n (opening s) e opener.value after state left) opens.last_is
    stopped in
    record {
      stripes = stripes;
      region = region;
      opener = opener;
      opens = opens;
      after = after;
      stopped = at;
      short = too_short leads s region.renewal e opener.value after state left
          (ap (λ (c : ClientShown). c.value.floor) opens.client_is) at;
    }

-- a load by a seed that stopped
pub stop_by_seed : {G K : Type 0} (s : Settings) (recorders : Recorders K) (l : Load Lcg G K) (e : LoadFault) →
    IsBySeed s recorders l → StopsLoad gives l.plan.settings l.draws e →
    StopsLoad gives s (stream_of s.seed 0) e
stop_by_seed s recorders l e is h = subst (λ (d : Lcg). StopsLoad gives s d e) is.draws_are
    (subst (λ (x : Settings). StopsLoad gives x l.draws e) is.settings_are h)

-- where memory or a thread is wanting once the opening was answered
pub stop_behind : {D : Type 0} (leads : D → ℕ → D → Type 0) (s : Settings) (state left : D) (e : LoadFault) →
    WasOpened leads s state left → (e ≡ load.Memory) ⊎ (e ≡ load.Spawn) → IsStopOfLoad leads s state left e
stop_behind leads s state left e opened (inl memory) = subst (λ (f : LoadFault). IsStopOfLoad leads s state left f)
    (sym memory) (inr opened)
stop_behind leads s state left e opened (inr spawn) = subst (λ (f : LoadFault). IsStopOfLoad leads s state left f)
    (sym spawn) opened
