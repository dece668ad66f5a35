-- The worked example of a load's text.
use Rattle.std.proofs.Common.{◌≡◌, ◌≢◌, ◌≤◌, ◌<◌, ◌+◌, ◌*◌, inl, inr, ℕ, zero, suc, true, false, List, [], ◌∷◌, ◌++◌}
use Rattle.std.proofs.Common.{Some, None, length, map, refl, sym, ap, subst, ◌∙◌, arith, append-nil, slice_index}
use Rattle.std.specs.Prelude.{replicate, All}
use Rattle.std.specs.List.{AllPairs}
use Rattle.std.proofs.lemmas.List.Elements.{All-nil, All-cons}
use Rattle.std.specs.FinMap.{get, insert, empty, entries, get-empty, len-empty, len-entries}
use Rattle.std.specs.Global.{Vec, Box}
use Rattle.std.specs.Ordering.{nat_cmp}
use Rattle.tx_memory.specs.Image.{In, Has, Agrees, laid}
use Rattle.tx_memory.specs.View.{Words}
use Rattle.tx_memory.specs.Pairs.{map_of}
use Rattle.tx_memory.specs.Seen.{same_or, get_here, get_other}
use Rattle.tx_memory.specs.declared.access.Access.{Access}
use Rattle.tx_memory.specs.declared.access.Access.TheVariants.{Read, Write}
use Rattle.tx_memory.specs.Accesses.{reads_behind, writes_behind, are_right}
use Rattle.tx_alloc.specs.Spread.{IsSpreadHeap, spread_start}
use Rattle.tx_alloc.specs.Pool.{block_place, heap_words, place_of_block}
use Rattle.stm_core.specs.Client.{Record}
use Rattle.stm_core.specs.Merging.{nothing_in, in_cons}
use Rattle.vac_model.specs.Code.{code}
use Rattle.vac_model.specs.declared.tasks.Task.{Task}
use Rattle.vac_model.specs.declared.replies.Reply.{Reply}
use Rattle.judge_object.specs.Laws.{IsAt, TakeTurns, KeepPrecedence}
use Rattle.vac_manager.specs.Keeping.{IsNoted}
use Rattle.vac_manager.specs.Legal.{AreVersioned}
use Rattle.vac_manager.specs.Tracing.{trace_of, IsTraceOf}
use Rattle.vac_manager.specs.declared.note.CompletedCall.{CompletedCall}
use Rattle.vac_manager.specs.declared.note.TracedAttempt.{TracedAttempt}
use Rattle.load_record.specs.Lines.{AttemptEntry}
use Rattle.load_record.specs.AttemptOrder.{EntriesAreOrdered}
use Rattle.load_record.specs.Entries.{attempt_of, span_of_entry, Fits, AllFit, FitsAccess}
use Rattle.load_record.specs.Laying.{Lays, IsLaidFirst}
use Rattle.load_record.specs.Loads.{MadeHistory, AbortsAndTimesAreRight}
use Rattle.load_record.specs.Ordered.{AreOfHistory}
use Rattle.load_record.specs.Pages.{Page, attempts_of, calls_on}
use Rattle.load_record.specs.Records.{ReadsImage, image_left, ReadsInPlace, AbortedReadInPlace}
use Rattle.load_record.specs.Text.{AreAttempts}
use Rattle.load_record.specs.InPlace.{ReadsAtItsPlace, AbortedReadAtTheirPlaces}
use Rattle.load_record.specs.InTurn.{is_before, MadeInTurn, EachMadeInTurn}
use Rattle.load_record.specs.Examples.{worked_first}
use Rattle.load_record.specs.LoadExample.{loaded_image, loaded_committed, loaded_aborted, loaded_call, loaded_pages}
use Rattle.load_record.specs.LoadExample.{loaded_entries, AreLoaded, WorkedLoad}
use Rattle.load_record.proofs.AttemptExchange.{made_serially}
use Rattle.load_record.proofs.AtPlaces.{judged_by_times}
use Rattle.load_record.proofs.InPlace.{in_place_legal}
use Rattle.load_record.proofs.InTurn.{judged_by_precedence}
use Rattle.load_record.proofs.Lengths.{few_fit}
use Rattle.load_record.proofs.Made.{judged_by_aborts_and_times}
use Rattle.load_record.proofs.Serial.{judged_apart}

-- ---- the heap

zeros : (n x : ℕ) → slice_index (replicate n 0) x ≡ 0
zeros zero x = refl
zeros (suc n) zero = refl
zeros (suc n) (suc x) = zeros n x

heads : (i : ℕ) → i < 8 → slice_index loaded_image (8 + i)
    ≡ place_of_block (spread_start 1 (i + 1)) (spread_start 1 i)
heads zero less = refl
heads (suc zero) less = refl
heads (suc (suc zero)) less = refl
heads (suc (suc (suc zero))) less = refl
heads (suc (suc (suc (suc zero)))) less = refl
heads (suc (suc (suc (suc (suc zero))))) less = refl
heads (suc (suc (suc (suc (suc (suc zero)))))) less = refl
heads (suc (suc (suc (suc (suc (suc (suc zero))))))) less = refl
heads (suc (suc (suc (suc (suc (suc (suc (suc i)))))))) less = absurd (omega (arith, less))

-- the other lists have no block
none_there : (b : ℕ) → 1 ≤ b → b < 1 → ⊥
none_there b low high = omega (arith, low, high)

nexts : (i b : ℕ) → i < 8 → spread_start 1 i ≤ b → b < spread_start 1 (i + 1) → slice_index loaded_image (block_place b)
    ≡ place_of_block (spread_start 1 (i + 1)) (b + 1)
nexts zero zero less low high = refl
nexts zero (suc b) less low high = absurd (none_there (suc b) (omega arith) high)
nexts (suc zero) b less low high = absurd (none_there b low high)
nexts (suc (suc zero)) b less low high = absurd (none_there b low high)
nexts (suc (suc (suc zero))) b less low high = absurd (none_there b low high)
nexts (suc (suc (suc (suc zero)))) b less low high = absurd (none_there b low high)
nexts (suc (suc (suc (suc (suc zero))))) b less low high = absurd (none_there b low high)
nexts (suc (suc (suc (suc (suc (suc zero)))))) b less low high = absurd (none_there b low high)
nexts (suc (suc (suc (suc (suc (suc (suc zero))))))) b less low high = absurd (none_there b low high)
nexts (suc (suc (suc (suc (suc (suc (suc (suc i)))))))) b less low high = absurd (omega (arith, less))

others : (x : ℕ) → ((i : ℕ) → i < 8 → x ≢ 8 + i) → ((b : ℕ) → b < 1 → x ≢ block_place b) →
    slice_index loaded_image x ≡ 0
others zero h k = refl
others (suc zero) h k = refl
others (suc (suc zero)) h k = refl
others (suc (suc (suc zero))) h k = refl
others (suc (suc (suc (suc zero)))) h k = refl
others (suc (suc (suc (suc (suc zero))))) h k = refl
others (suc (suc (suc (suc (suc (suc zero)))))) h k = refl
others (suc (suc (suc (suc (suc (suc (suc zero))))))) h k = refl
others (suc (suc (suc (suc (suc (suc (suc (suc zero)))))))) h k = absurd (h 0 (omega arith) refl)
others (suc (suc (suc (suc (suc (suc (suc (suc (suc x))))))))) h k = zeros 15 x

heap : IsSpreadHeap loaded_image 1
heap = record { size = refl; heads = heads; nexts = nexts; others = others }

-- ---- the attempts

abbrev reads_one : List Access
reads_one = Read (record { 0 = 1 }) 0 ∷ []

abbrev reads_head : List Access
reads_head = Read (record { 0 = 8 }) 16 ∷ []

-- the record of the attempt that commits
abbrev made_by : Task → Reply → Record
made_by task reply = record {
  tag = code task reply;
  reads = (1, 0) ∷ [];
  writes = [];
  writer = false;
  version = 0;
  attempt = 1;
  renewal = 0;
  point = 0;
  client = 1;
}

none_at : (a : ℕ) → get {R = nat_cmp} (empty {X = ℕ}) a ≡ None
none_at a = get-empty nat_cmp a

no_length : (es : List (ℕ × ℕ)) → length es ≡ 0 → es ≡ []
no_length [] e = refl
no_length (x ∷ es) e = absurd (omega (arith, e))

no_entries : entries {R = nat_cmp} (empty {X = ℕ}) ≡ []
no_entries = no_length (entries {R = nat_cmp} (empty {X = ℕ}))
    (sym (len-entries {R = nat_cmp} (empty {X = ℕ})) ∙ len-empty nat_cmp ℕ)

reads_are : map_of ((1, 0) ∷ []) ≡ reads_behind empty empty reads_one
reads_are = rw (none_at 1) refl

right_are : are_right empty empty reads_one ≡ true
right_are = rw (none_at 1) refl

later_are : reads_behind empty empty reads_head ≡ insert empty 8 16
later_are = rw (none_at 8) refl

later_right : are_right empty empty reads_head ≡ true
later_right = rw (none_at 8) refl

module _ (x y z : Vec Access) (task : Task) (reply : Reply) (first : x.items ≡ Write (record { 0 = 8 }) 16 ∷ [])
    (reads : y.items ≡ reads_one) (aborts : z.items ≡ reads_head) where
  abbrev made : Record
  made = made_by task reply

  abbrev entries_are : List AttemptEntry
  entries_are = loaded_entries (worked_first x) (loaded_committed y) (loaded_aborted z)

  laid_first : IsLaidFirst (worked_first x)
  laid_first = record { commits = refl; begin = refl; end = refl; place = refl }

  lays : Lays 1 (worked_first x ∷ [])
  lays = record {
    words = loaded_image;
    heap = heap;
    before_all = All-cons (λ a. IsLaidFirst a) (worked_first x) [] laid_first (All-nil (λ a. IsLaidFirst a));
    writes = append-nil x.items ∙ first;
  }

  sorted : EntriesAreOrdered entries_are
  sorted zero d low high = refl
  sorted (suc zero) d low high = refl
  sorted (suc (suc k)) d low high = absurd (omega (arith, high))

  trace : IsTraceOf (trace_of (loaded_committed y)) made
  trace = record {
    commits = refl;
    place = refl;
    reads = reads_are ∙ ap (reads_behind empty empty) (sym reads);
    writes = sym (ap (λ l. entries (writes_behind empty l)) reads ∙ no_entries);
    right = ap (are_right empty empty) reads ∙ right_are;
  }

  agrees : Agrees loaded_image made.reads
  agrees a v i = elim (in_cons (1, 0) (a, v) [] i) [
    | inl e ↦ subst (λ (p : ℕ × ℕ). Has loaded_image p.0 p.1) e (omega arith, refl)
    | inr k ↦ absurd (nothing_in (a, v) k)
  ]

  versioned : AreVersioned (made ∷ [])
  versioned = record {
    writers = (λ r i. absurd (nothing_in r i), tt);
    readers = λ r i e. elim (in_cons made r [] i) [
      | inl same ↦ sym (ap (λ (q : Record). q.writes) same)
      | inr k ↦ absurd (nothing_in r k)
    ];
  }

  history : AreOfHistory loaded_image (made ∷ []) (worked_first x ∷ []) entries_are
  history = record {
    made = loaded_committed y ∷ [];
    committed = refl;
    writes = append-nil x.items ∙ first;
    traced = ([], made, [], refl, trace, refl);
    serial = (agrees, tt);
    sorted = (λ r i. absurd (nothing_in r i), tt);
    versioned = versioned;
  }

  -- ---- the aborted attempt reads the image that the committed attempts leave

  left : image_left loaded_image (loaded_committed y ∷ []) ≡ loaded_image
  left = ap (laid loaded_image) (ap (λ l. entries (writes_behind empty l)) reads ∙ no_entries)

  none_some : (v : ℕ) → None ≡ Some v → ⊥
  none_some v e = cc

  same_some : (u v : ℕ) → Some u ≡ Some v → u ≡ v
  same_some u v e = cc

  seen : (a v : ℕ) → get {R = nat_cmp} (insert (empty {X = ℕ}) 8 16) a ≡ Some v → Has loaded_image a v
  seen a v e = elim (same_or a 8) [
    | inl here ↦ subst (λ (p : ℕ). Has loaded_image p v) (sym here)
        (omega arith, same_some 16 v (sym (ap (get (insert empty 8 16)) here ∙ get_here empty 8 16) ∙ e))
    | inr other ↦ absurd (none_some v (sym (get_other empty 8 16 a other ∙ none_at a) ∙ e))
  ]

  reads_first : ReadsImage loaded_image (loaded_aborted z)
  reads_first = record {
    agrees = λ a v e. seen a v (sym (ap (λ (w : Words). get w a) (ap (reads_behind empty empty) aborts ∙ later_are))
        ∙ e);
    right = ap (are_right empty empty) aborts ∙ later_right;
  }

  image_read : ReadsImage (image_left loaded_image (loaded_committed y ∷ [])) (loaded_aborted z)
  image_read = subst (λ (image : List ℕ). ReadsImage image (loaded_aborted z)) (sym left) reads_first

  -- the record of the call wrote nothing
  read_at_place : ReadsAtItsPlace loaded_image (made ∷ []) (loaded_aborted z)
  read_at_place = record { reader = refl; reads = reads_first }

  abbrev entry_first : AttemptEntry
  entry_first = record { client = 0; attempt = worked_first x }

  abbrev entry_committed : AttemptEntry
  entry_committed = record { client = 1; attempt = loaded_committed y }

  abbrev entry_aborted : AttemptEntry
  entry_aborted = record { client = 1; attempt = loaded_aborted z }

  in_place : ReadsInPlace loaded_image (worked_first x ∷ []) (entry_first ∷ entry_committed ∷ []) (loaded_aborted z)
  in_place = record { made = loaded_committed y ∷ []; committed = refl; reads = image_read }

  two_heads : (a b : AttemptEntry) (xs ys : List AttemptEntry) → a ∷ xs ≡ b ∷ ys → (a ≡ b) × (xs ≡ ys)
  two_heads a b xs ys e = (cc, cc)

  no_split : (a : AttemptEntry) (before after : List AttemptEntry) → [] ≡ before ++ a ∷ after → ⊥
  no_split a [] after e = cc
  no_split a (b ∷ before) after e = cc

  true_false : true ≡ false → ⊥
  true_false e = cc

  aborted : AbortedReadInPlace loaded_image (worked_first x ∷ []) entries_are
  aborted [] after e s c =
      let one = two_heads entry_first e (entry_committed ∷ entry_aborted ∷ []) after s in
      absurd (true_false (ap (λ (n : AttemptEntry). n.attempt.commits) one.0 ∙ c))
  aborted (a ∷ []) after e s c =
      let one = two_heads entry_first a (entry_committed ∷ entry_aborted ∷ []) (e ∷ after) s in
      let two = two_heads entry_committed e (entry_aborted ∷ []) after one.1 in
      absurd (true_false (ap (λ (n : AttemptEntry). n.attempt.commits) two.0 ∙ c))
  aborted (a ∷ b ∷ []) after e s c =
      let one = two_heads entry_first a (entry_committed ∷ entry_aborted ∷ []) (b ∷ e ∷ after) s in
      let two = two_heads entry_committed b (entry_aborted ∷ []) (e ∷ after) one.1 in
      let three = two_heads entry_aborted e [] after two.1 in
      subst (λ (n : AttemptEntry). ReadsInPlace loaded_image (worked_first x ∷ []) (n ∷ b ∷ []) e.attempt) one.0
      (subst (λ (n : AttemptEntry). ReadsInPlace loaded_image (worked_first x ∷ []) (entry_first ∷ n ∷ []) e.attempt)
      two.0 (subst (λ (n : AttemptEntry). ReadsInPlace loaded_image (worked_first x ∷ [])
      (entry_first ∷ entry_committed ∷ []) n.attempt) three.0 in_place))
  aborted (a ∷ b ∷ d ∷ before) after e s c =
      let one = two_heads entry_first a (entry_committed ∷ entry_aborted ∷ []) (b ∷ d ∷ before ++ e ∷ after) s in
      let two = two_heads entry_committed b (entry_aborted ∷ []) (d ∷ before ++ e ∷ after) one.1 in
      let three = two_heads entry_aborted d [] (before ++ e ∷ after) two.1 in
      absurd (no_split e before after three.1)

  -- ---- the times

  -- the attempt at place i ends at 2 * i, and begins at most one before
  record Timed (i : ℕ) (e : AttemptEntry) : Type 0 where
    times : e.attempt.begin ≤ e.attempt.end
    ends : e.attempt.end ≡ 2 * i
    low : 2 * i ≤ e.attempt.begin + 1
    high : e.attempt.begin ≤ 2 * i

  same_entry : (a b : AttemptEntry) → Some a ≡ Some b → a ≡ b
  same_entry a b e = cc

  no_entry : (a : AttemptEntry) → None ≡ Some a → ⊥
  no_entry a e = cc

  timed : (i : ℕ) (e : AttemptEntry) → IsAt entries_are i e → Timed i e
  timed zero e h = subst (λ (a : AttemptEntry). Timed 0 a) (same_entry entry_first e h)
      (record { times = omega arith; ends = omega arith; low = omega arith; high = omega arith })
  timed (suc zero) e h = subst (λ (a : AttemptEntry). Timed 1 a) (same_entry entry_committed e h)
      (record { times = omega arith; ends = omega arith; low = omega arith; high = omega arith })
  timed (suc (suc zero)) e h = subst (λ (a : AttemptEntry). Timed 2 a) (same_entry entry_aborted e h)
      (record { times = omega arith; ends = omega arith; low = omega arith; high = omega arith })
  timed (suc (suc (suc i))) e h = absurd (no_entry e h)

  turns : TakeTurns span_of_entry entries_are
  turns = record {
    times = λ i e h. (timed i e h).times;
    clients = λ i j e f h g less same.
        let p = timed i e h in
        let q = timed j f g in
        omega (arith, p.ends, q.low, less);
  }

  precedence : KeepPrecedence span_of_entry entries_are
  precedence i j e f h g less =
      let p = timed i e h in
      let q = timed j f g in
      omega (arith, p.ends, q.high, less)

  right : AbortsAndTimesAreRight entries_are
  right = record {
    aborted = ((judged_apart (map attempt_of entries_are)).0 (in_place_legal loaded_image (worked_first x ∷ [])
        entries_are (made_serially loaded_image (made ∷ []) (worked_first x ∷ []) entries_are sorted history)
        aborted)).1;
    turns = turns;
    precedence = precedence;
  }

  -- ---- the attempts of client 1 in their order

  two_pairs : (R : TracedAttempt → TracedAttempt → Type 0) (a b : TracedAttempt) → R a b → AllPairs R (a ∷ b ∷ [])
  two_pairs R a b h zero (suc zero) d less low = h
  two_pairs R a b h zero zero d less low = absurd (omega (arith, less))
  two_pairs R a b h (suc i) zero d less low = absurd (omega (arith, less))
  two_pairs R a b h (suc i) (suc zero) d less low = absurd (omega (arith, less))
  two_pairs R a b h i (suc (suc j)) d less low = absurd (omega (arith, low))

  abbrev second_page : CompletedCall → Page
  second_page call = record { calls = call ∷ []; given_up = loaded_aborted z ∷ [] }

  second_in_turn : (call : CompletedCall) → attempts_of (call ∷ []) ≡ loaded_committed y ∷ [] →
      MadeInTurn (second_page call)
  second_in_turn call is = record {
    attempts = loaded_committed y ∷ loaded_aborted z ∷ [];
    own = record { committed = sym is; aborted = refl };
    times = All-cons (λ (a : TracedAttempt). a.begin ≤ a.end) (loaded_committed y) (loaded_aborted z ∷ []) (omega arith)
        (All-cons (λ (a : TracedAttempt). a.begin ≤ a.end) (loaded_aborted z) [] (omega arith)
        (All-nil (λ (a : TracedAttempt). a.begin ≤ a.end)));
    turns = two_pairs (λ a b. a.end ≤ b.begin) (loaded_committed y) (loaded_aborted z) (omega arith);
    positions = two_pairs (λ a b. is_before b.place a.place ≡ false) (loaded_committed y) (loaded_aborted z) refl;
  }

  abbrev first_page : Page
  first_page = record { calls = []; given_up = [] }

  first_in_turn : MadeInTurn first_page
  first_in_turn = record {
    attempts = [];
    own = record { committed = refl; aborted = refl };
    times = All-nil (λ (a : TracedAttempt). a.begin ≤ a.end);
    turns = λ i j d less low. absurd (omega (arith, low));
    positions = λ i j d less low. absurd (omega (arith, low));
  }

  each_in_turn : (call : CompletedCall) → attempts_of (call ∷ []) ≡ loaded_committed y ∷ [] →
      EachMadeInTurn (loaded_pages call (loaded_aborted z))
  each_in_turn call is page i = elim (in_cons first_page page (second_page call ∷ []) i) [
    | inl e ↦ subst (λ (p : Page). MadeInTurn p) e first_in_turn
    | inr k ↦ elim (in_cons (second_page call) page [] k) [
      | inl e ↦ subst (λ (p : Page). MadeInTurn p) e (second_in_turn call is)
      | inr j ↦ absurd (nothing_in page j)
    ]
  ]

  abbrev AllRead : Page → Type 0
  AllRead page = (a : TracedAttempt) → In a page.given_up → ReadsAtItsPlace loaded_image (made ∷ []) a

  second_read : (call : CompletedCall) → AllRead (second_page call)
  second_read call a i = elim (in_cons (loaded_aborted z) a [] i) [
    | inl e ↦ subst (λ (b : TracedAttempt). ReadsAtItsPlace loaded_image (made ∷ []) b) e read_at_place
    | inr k ↦ absurd (nothing_in a k)
  ]

  each_read : (call : CompletedCall) →
      AbortedReadAtTheirPlaces loaded_image (made ∷ []) (loaded_pages call (loaded_aborted z))
  each_read call page i = elim (in_cons first_page page (second_page call ∷ []) i) [
    | inl e ↦ subst (λ (p : Page). AllRead p) e (λ a j. absurd (nothing_in a j))
    | inr k ↦ elim (in_cons (second_page call) page [] k) [
      | inl e ↦ subst (λ (p : Page). AllRead p) e (second_read call)
      | inr j ↦ absurd (nothing_in page j)
    ]
  ]

  -- ---- the lines

  one_word : (access : Access) (l : List Access) → l ≡ access ∷ [] → FitsAccess (heap_words 1) access →
      All (λ a. FitsAccess (heap_words 1) a) l
  one_word access l e h = subst (λ (m : List Access). All (λ a. FitsAccess (heap_words 1) a) m) (sym e)
      (only access h)
    where
      only : (a : Access) → FitsAccess (heap_words 1) a → All (λ a. FitsAccess (heap_words 1) a) (a ∷ [])
      only a h zero d less = h
      only a h (suc k) d less = absurd (omega (arith, less))

  one_long : (access : Access) (l : List Access) → l ≡ access ∷ [] → length l ≤ 2164800
  one_long access l e = let n : length l ≡ 1 = ap (λ (m : List Access). length m) e in omega (arith, n)

  fits_first : Fits (heap_words 1) entry_first
  fits_first = few_fit (heap_words 1) entry_first (omega arith) (record {
    client = omega arith;
    begin = omega arith;
    end = omega arith;
    accesses = one_word (Write (record { 0 = 8 }) 16) x.items first
        (record { address_fits = omega arith; among = omega arith; value_fits = omega arith });
  }) (one_long (Write (record { 0 = 8 }) 16) x.items first)

  fits_committed : Fits (heap_words 1) entry_committed
  fits_committed = few_fit (heap_words 1) entry_committed (omega arith) (record {
    client = omega arith;
    begin = omega arith;
    end = omega arith;
    accesses = one_word (Read (record { 0 = 1 }) 0) y.items reads
        (record { address_fits = omega arith; among = omega arith; value_fits = omega arith });
  }) (one_long (Read (record { 0 = 1 }) 0) y.items reads)

  fits_aborted : Fits (heap_words 1) entry_aborted
  fits_aborted = few_fit (heap_words 1) entry_aborted (omega arith) (record {
    client = omega arith;
    begin = omega arith;
    end = omega arith;
    accesses = one_word (Read (record { 0 = 8 }) 16) z.items aborts
        (record { address_fits = omega arith; among = omega arith; value_fits = omega arith });
  }) (one_long (Read (record { 0 = 8 }) 16) z.items aborts)

  fits : AllFit (heap_words 1) entries_are
  fits zero d less = fits_first
  fits (suc zero) d less = fits_committed
  fits (suc (suc zero)) d less = fits_aborted
  fits (suc (suc (suc k))) d less = absurd (omega (arith, less))

  -- ---- the load, whose call has the attempt that commits

  module _ (attempt : Box TracedAttempt) (same : attempt.value ≡ loaded_committed y) where
    abbrev its_entries : TracedAttempt → List AttemptEntry
    its_entries committed = loaded_entries (worked_first x) committed (loaded_aborted z)

    noted : IsNoted (loaded_call task reply attempt) made
    noted = record {
      tag = refl;
      place = refl;
      attempt = subst (λ (a : TracedAttempt). IsTraceOf (trace_of a) made) (sym same) trace;
    }

    history_made : MadeHistory 1 (calls_on (loaded_pages (loaded_call task reply attempt) (loaded_aborted z)))
    history_made = record {
      image = loaded_image;
      heap = heap;
      history = made ∷ [];
      made = ([], made, [], refl, noted, refl);
      serial = (agrees, tt);
      sorted = (λ r i. absurd (nothing_in r i), tt);
      versioned = versioned;
    }

    attempts : AreAttempts 1 (loaded_pages (loaded_call task reply attempt) (loaded_aborted z))
        (its_entries attempt.value)
    attempts = record {
      laid = worked_first x ∷ [];
      lays = lays;
      told = refl;
      each_once = record { moves = []; below = tt; is = refl };
      ordered = subst (λ (a : TracedAttempt). EntriesAreOrdered (its_entries a)) (sym same) sorted;
      rest = record { client = 1; attempt = attempt.value } ∷ entry_aborted ∷ [];
      first = refl;
    }

    abbrev call_is : CompletedCall
    call_is = loaded_call task reply attempt

    abbrev pages_are : List Page
    pages_are = loaded_pages call_is (loaded_aborted z)

    all_fit : AllFit (heap_words 1) (its_entries attempt.value)
    all_fit = subst (λ (a : TracedAttempt). AllFit (heap_words 1) (its_entries a)) (sym same) fits

    in_turn : EachMadeInTurn pages_are
    in_turn = each_in_turn call_is (ap (λ (a : TracedAttempt). a ∷ []) same)

    loaded : AreLoaded (worked_first x) attempt.value (loaded_aborted z) call_is
    unfolding history_made
    loaded = record {
      attempts = attempts;
      made = history_made;
      right = subst (λ (a : TracedAttempt). AbortsAndTimesAreRight (its_entries a)) (sym same) right;
      judged = judged_by_aborts_and_times 1 pages_are (its_entries attempt.value) (omega arith) attempts all_fit
          history_made;
      read = each_read call_is;
      by_times = (judged_by_times 1 pages_are (its_entries attempt.value) (omega arith) attempts all_fit history_made
          (each_read call_is)).1;
      in_turn = in_turn;
      by_precedence = judged_by_precedence 1 pages_are (its_entries attempt.value) (omega arith) attempts all_fit
          history_made (each_read call_is) in_turn;
    }

pub worked_load : WorkedLoad
worked_load x y z task reply attempt first reads aborts same =
    loaded x y z task reply first reads aborts attempt same
