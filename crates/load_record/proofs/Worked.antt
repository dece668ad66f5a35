-- The worked example meets the conditions.
use Rattle.std.proofs.Common.{◌≡◌, ◌≤◌, ◌<◌, ◌⊎◌, inl, inr, ℕ, zero, suc, true, false, List, [], ◌∷◌, ◌++◌}
use Rattle.std.proofs.Common.{Some, None, length, refl, sym, ap, subst, ◌∙◌, arith, append-nil}
use Rattle.std.specs.FinMap.{get, insert, empty, entries, get-empty, entries-insert, len-empty, len-entries}
use Rattle.std.specs.Global.{Vec}
use Rattle.std.specs.Ordering.{nat_cmp}
use Rattle.std.proofs.lemmas.Cmp.{nat_cmp_total}
use Rattle.tx_memory.specs.Image.{Has, Agrees, laid}
use Rattle.tx_memory.specs.View.{Words}
use Rattle.tx_memory.specs.Pairs.{map_of}
use Rattle.tx_memory.specs.Seen.{same_or, get_here, get_other}
use Rattle.tx_memory.specs.declared.access.Access.{Access}
use Rattle.tx_memory.specs.declared.access.Access.TheVariants.{Read, Write}
use Rattle.tx_memory.specs.Accesses.{reads_behind, writes_behind, are_right}
use Rattle.stm_core.specs.Client.{Record}
use Rattle.stm_core.specs.Merging.{nothing_in, in_cons}
use Rattle.judge_object.specs.Laws.{IsAt, TakeTurns, KeepPrecedence}
use Rattle.vac_manager.specs.Legal.{AreVersioned}
use Rattle.vac_manager.specs.Tracing.{trace_of, IsTraceOf}
use Rattle.load_record.specs.Lines.{AttemptEntry}
use Rattle.load_record.specs.AttemptOrder.{EntriesAreOrdered}
use Rattle.load_record.specs.Entries.{span_of_entry}
use Rattle.load_record.specs.Ordered.{AreOfHistory}
use Rattle.load_record.specs.Records.{ReadsImage, image_left, ReadsInPlace, AbortedReadInPlace}
use Rattle.load_record.specs.Examples.{worked_image, worked_first, worked_writer, worked_aborted, worked_entries}
use Rattle.load_record.specs.Examples.{WorkedAttempts}

-- the accesses
abbrev own_reads : List Access
own_reads = Read (record { 0 = 1 }) 5 ∷ Write (record { 0 = 0 }) 7 ∷ Read (record { 0 = 0 }) 7 ∷ []

abbrev later_read : List Access
later_read = Read (record { 0 = 0 }) 7 ∷ []

-- the record of the attempt that commits
abbrev made : Record
made = record {
  tag = [];
  reads = (1, 5) ∷ [];
  writes = (0, 7) ∷ [];
  writer = true;
  version = 1;
  attempt = 1;
  renewal = 0;
  point = 0;
  client = 1;
}

-- the words with a 7 at word 0
abbrev seven : Words
seven = insert empty 0 7

none_at : (a : ℕ) → get {R = nat_cmp} (empty {X = ℕ}) a ≡ None
none_at a = get-empty nat_cmp a

no_length : (es : List (ℕ × ℕ)) → length es ≡ 0 → es ≡ []
no_length [] e = refl
no_length (x ∷ es) e = absurd (omega (arith, e))

no_entries : entries {R = nat_cmp} (empty {X = ℕ}) ≡ []
no_entries = no_length (entries {R = nat_cmp} (empty {X = ℕ}))
    (sym (len-entries {R = nat_cmp} (empty {X = ℕ})) ∙ len-empty nat_cmp ℕ)

one_written : entries {R = nat_cmp} (insert (empty {X = ℕ}) 0 7) ≡ (0, 7) ∷ []
one_written = entries-insert nat_cmp_total (empty {X = ℕ}) 0 7 ∙ rw no_entries refl

reads_are : map_of ((1, 5) ∷ []) ≡ reads_behind empty empty own_reads
reads_are = rw (none_at 1, get_here empty 0 7) refl

right_are : are_right empty empty own_reads ≡ true
right_are = rw (none_at 1, get_here empty 0 7) refl

later_are : reads_behind empty empty later_read ≡ insert empty 0 7
later_are = rw (none_at 0) refl

later_right : are_right empty empty later_read ≡ true
later_right = rw (none_at 0) refl

module _ (x y z : Vec Access) (first : x.items ≡ Write (record { 0 = 1 }) 5 ∷ []) (writes : y.items ≡ own_reads)
    (reads : z.items ≡ later_read) where
  trace : IsTraceOf (trace_of (worked_writer y)) made
  trace = record {
    commits = refl;
    place = refl;
    reads = reads_are ∙ ap (reads_behind empty empty) (sym writes);
    writes = sym (ap (λ l. entries (writes_behind empty l)) writes ∙ one_written);
    right = ap (are_right empty empty) writes ∙ right_are;
  }

  agrees : Agrees worked_image made.reads
  agrees a v i = elim (in_cons (1, 5) (a, v) [] i) [
    | inl e ↦ subst (λ (p : ℕ × ℕ). Has worked_image p.0 p.1) e (omega arith, refl)
    | inr k ↦ absurd (nothing_in (a, v) k)
  ]

  versioned : AreVersioned (made ∷ [])
  versioned = record {
    writers = (λ r i. absurd (nothing_in r i), tt);
    readers = λ r i e. elim (in_cons made r [] i) [
      | inl same ↦ absurd (let k : true ≡ false = ap (λ (q : Record). q.writer) same ∙ e in cc)
      | inr k ↦ absurd (nothing_in r k)
    ];
  }

  history : AreOfHistory worked_image (made ∷ []) (worked_first x ∷ []) (worked_entries x y z)
  history = record {
    made = worked_writer y ∷ [];
    committed = refl;
    writes = append-nil x.items ∙ first;
    traced = ([], made, [], refl, trace, refl);
    serial = (agrees, tt);
    sorted = (λ r i. absurd (nothing_in r i), tt);
    versioned = versioned;
  }

  sorted : EntriesAreOrdered (worked_entries x y z)
  sorted zero d low high = refl
  sorted (suc zero) d low high = refl
  sorted (suc (suc k)) d low high = absurd (omega (arith, high))

  -- the image that the committed attempts leave
  left : image_left worked_image (worked_writer y ∷ []) ≡ 7 ∷ 5 ∷ []
  left = ap (laid worked_image) (ap (λ l. entries (writes_behind empty l)) writes ∙ one_written)

  none_some : (v : ℕ) → None ≡ Some v → ⊥
  none_some v e = cc

  same_some : (u v : ℕ) → Some u ≡ Some v → u ≡ v
  same_some u v e = cc

  seen : (a v : ℕ) → get seven a ≡ Some v → Has (7 ∷ 5 ∷ []) a v
  seen a v e = elim (same_or a 0) [
    | inl here ↦ subst (λ (p : ℕ). Has (7 ∷ 5 ∷ []) p v) (sym here)
        (omega arith, same_some 7 v (sym (ap (get seven) here ∙ get_here empty 0 7) ∙ e))
    | inr other ↦ absurd (none_some v (sym (get_other empty 0 7 a other ∙ none_at a) ∙ e))
  ]

  image_read : ReadsImage (image_left worked_image (worked_writer y ∷ [])) (worked_aborted z)
  image_read = record {
    agrees = λ a v e. subst (λ (image : List ℕ). Has image a v) (sym left)
        (seen a v (sym (ap (λ (w : Words). get w a) (ap (reads_behind empty empty) reads ∙ later_are)) ∙ e));
    right = ap (are_right empty empty) reads ∙ later_right;
  }

  in_place : ReadsInPlace worked_image (worked_first x ∷ []) (record { client = 0; attempt = worked_first x }
      ∷ record { client = 1; attempt = worked_writer y } ∷ []) (worked_aborted z)
  in_place = record { made = worked_writer y ∷ []; committed = refl; reads = image_read }

  heads : (a b : AttemptEntry) (xs ys : List AttemptEntry) → a ∷ xs ≡ b ∷ ys → (a ≡ b) × (xs ≡ ys)
  heads a b xs ys e = (cc, cc)

  no_split : (a : AttemptEntry) (before after : List AttemptEntry) → [] ≡ before ++ a ∷ after → ⊥
  no_split a [] after e = cc
  no_split a (b ∷ before) after e = cc

  true_false : true ≡ false → ⊥
  true_false e = cc

  abbrev entry_first : AttemptEntry
  entry_first = record { client = 0; attempt = worked_first x }

  abbrev entry_writer : AttemptEntry
  entry_writer = record { client = 1; attempt = worked_writer y }

  abbrev entry_aborted : AttemptEntry
  entry_aborted = record { client = 2; attempt = worked_aborted z }

  aborted : AbortedReadInPlace worked_image (worked_first x ∷ []) (worked_entries x y z)
  aborted [] after e s c =
      let one = heads entry_first e (entry_writer ∷ entry_aborted ∷ []) after s in
      absurd (true_false (ap (λ (n : AttemptEntry). n.attempt.commits) one.0 ∙ c))
  aborted (a ∷ []) after e s c =
      let one = heads entry_first a (entry_writer ∷ entry_aborted ∷ []) (e ∷ after) s in
      let two = heads entry_writer e (entry_aborted ∷ []) after one.1 in
      absurd (true_false (ap (λ (n : AttemptEntry). n.attempt.commits) two.0 ∙ c))
  aborted (a ∷ b ∷ []) after e s c =
      let one = heads entry_first a (entry_writer ∷ entry_aborted ∷ []) (b ∷ e ∷ after) s in
      let two = heads entry_writer b (entry_aborted ∷ []) (e ∷ after) one.1 in
      let three = heads entry_aborted e [] after two.1 in
      subst (λ (n : AttemptEntry). ReadsInPlace worked_image (worked_first x ∷ []) (n ∷ b ∷ []) e.attempt) one.0
      (subst (λ (n : AttemptEntry). ReadsInPlace worked_image (worked_first x ∷ []) (entry_first ∷ n ∷ []) e.attempt)
      two.0 (subst (λ (n : AttemptEntry). ReadsInPlace worked_image (worked_first x ∷ [])
      (entry_first ∷ entry_writer ∷ []) n.attempt) three.0 in_place))
  aborted (a ∷ b ∷ d ∷ before) after e s c =
      let one = heads entry_first a (entry_writer ∷ entry_aborted ∷ []) (b ∷ d ∷ before ++ e ∷ after) s in
      let two = heads entry_writer b (entry_aborted ∷ []) (d ∷ before ++ e ∷ after) one.1 in
      let three = heads entry_aborted d [] (before ++ e ∷ after) two.1 in
      absurd (no_split e before after three.1)

  -- where an attempt stands, whose it is, and when it was
  record Stamped (n i : ℕ) (e : AttemptEntry) (begin end : ℕ) : Type 0 where
    place : i ≡ n
    client : e.client ≡ n
    begins : e.attempt.begin ≡ begin
    ends : e.attempt.end ≡ end

  abbrev AnyPlace : ℕ → AttemptEntry → Type 0
  AnyPlace i e = Stamped 0 i e 0 0 ⊎ (Stamped 1 i e 1 4 ⊎ Stamped 2 i e 2 5)

  same_entry : (a b : AttemptEntry) → Some a ≡ Some b → a ≡ b
  same_entry a b e = cc

  no_entry : (a : AttemptEntry) → None ≡ Some a → ⊥
  no_entry a e = cc

  stamped : (n i begin end : ℕ) (a e : AttemptEntry) → i ≡ n → a.client ≡ n → a.attempt.begin ≡ begin →
      a.attempt.end ≡ end → a ≡ e → Stamped n i e begin end
  stamped n i begin end a e p c b d same = record {
    place = p;
    client = sym (ap (λ (k : AttemptEntry). k.client) same) ∙ c;
    begins = sym (ap (λ (k : AttemptEntry). k.attempt.begin) same) ∙ b;
    ends = sym (ap (λ (k : AttemptEntry). k.attempt.end) same) ∙ d;
  }

  any_place : (i : ℕ) (e : AttemptEntry) → IsAt (worked_entries x y z) i e → AnyPlace i e
  any_place zero e h = inl (stamped 0 0 0 0 entry_first e refl refl refl refl (same_entry entry_first e h))
  any_place (suc zero) e h =
      inr (inl (stamped 1 1 1 4 entry_writer e refl refl refl refl (same_entry entry_writer e h)))
  any_place (suc (suc zero)) e h =
      inr (inr (stamped 2 2 2 5 entry_aborted e refl refl refl refl (same_entry entry_aborted e h)))
  any_place (suc (suc (suc i))) e h = absurd (no_entry e h)

  -- by their numbers
  timed : (i : ℕ) (e : AttemptEntry) → AnyPlace i e → e.attempt.begin ≤ e.attempt.end
  timed i e (inl p) = omega (arith, p.begins, p.ends)
  timed i e (inr (inl p)) = omega (arith, p.begins, p.ends)
  timed i e (inr (inr p)) = omega (arith, p.begins, p.ends)

  apart : (i : ℕ) (e : AttemptEntry) → AnyPlace i e → e.client ≡ i
  apart i e (inl p) = p.client ∙ sym p.place
  apart i e (inr (inl p)) = p.client ∙ sym p.place
  apart i e (inr (inr p)) = p.client ∙ sym p.place

  turns : TakeTurns span_of_entry (worked_entries x y z)
  turns = record {
    times = λ i e h. timed i e (any_place i e h);
    clients = λ i j e f h g less same.
        let p = apart i e (any_place i e h) in
        let q = apart j f (any_place j f g) in
        absurd (omega (arith, p, q, less, same));
  }

  -- an attempt that ends before another begins is the first one, and the other is a later one
  ends_first : (i : ℕ) (e : AttemptEntry) → AnyPlace i e → e.attempt.end < 3 → i ≡ 0
  ends_first i e (inl p) low = p.place
  ends_first i e (inr (inl p)) low = absurd (omega (arith, p.ends, low))
  ends_first i e (inr (inr p)) low = absurd (omega (arith, p.ends, low))

  begins_soon : (j : ℕ) (f : AttemptEntry) → AnyPlace j f → f.attempt.begin ≡ j
  begins_soon j f (inl p) = p.begins ∙ sym p.place
  begins_soon j f (inr (inl p)) = p.begins ∙ sym p.place
  begins_soon j f (inr (inr p)) = p.begins ∙ sym p.place

  begins_low : (j : ℕ) (f : AttemptEntry) → AnyPlace j f → f.attempt.begin ≤ 2
  begins_low j f (inl p) = omega (arith, p.begins)
  begins_low j f (inr (inl p)) = omega (arith, p.begins)
  begins_low j f (inr (inr p)) = omega (arith, p.begins)

  precedence : KeepPrecedence span_of_entry (worked_entries x y z)
  precedence i j e f h g less =
      let low = begins_low j f (any_place j f g) in
      let soon = begins_soon j f (any_place j f g) in
      let at = ends_first i e (any_place i e h) (omega (arith, less, low)) in
      omega (arith, at, soon, less)

pub worked : WorkedAttempts
worked x y z first writes reads = record {
  sorted = sorted x y z first writes reads;
  records = made ∷ [];
  history = history x y z first writes reads;
  aborted = aborted x y z first writes reads;
  turns = turns x y z first writes reads;
  precedence = precedence x y z first writes reads;
}
