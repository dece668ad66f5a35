-- The consequences of the version invariant for the records, the images and the words.
use Rattle.std.proofs.Common.{◌≡◌, ◌≢◌, ℕ, suc, ◌+◌, ◌*◌, ◌≤◌, ◌<◌, ⊎_elim, true, false, List, [], ◌∷◌, length}
use Rattle.std.proofs.Common.{slice_index}
use Rattle.std.proofs.Common.{refl, sym, ap, ◌∙◌, subst, arith, zero-le}
use mathlib.Core.Logic.{dite}
use native.Mathlib.Decide.{ℕ_discrete}
use Rattle.std.proofs.lemmas.List.{ext_get_or}
use Rattle.tx_memory.specs.Image.{In, Agrees, laid}
use Rattle.stm_core.specs.Client.{Client, Record, Aborted, given_up, base, version_of, IsFree, RecordLaw}
use Rattle.stm_core.specs.Core.{Core, IsFreeHanded}
use Rattle.stm_core.specs.Version.{At, runs, noted}
use Rattle.stm_core.specs.Records.{Ordered, value_of}
use Rattle.stm_core.specs.Invariant.{share, Inv}
use Rattle.stm_core.specs.History.{Serial, image_after, image_at, all_records, IsShared, SomeFits}
use Rattle.stm_core.proofs.Lists.{nothing_in, same_at, by_bool}
use Rattle.stm_core.proofs.Loading.{given_cases, given_claims}
use Rattle.stm_core.proofs.Orders.{rank_after}
use Rattle.stm_core.proofs.Stories.{at_zero}
use Rattle.stm_core.proofs.Histories.{IsInStory, Ranked, Ahead, serial, image_is, image_length, image_last, image_fits}
use Rattle.stm_core.proofs.Merging.{Apart, in_all, all_in, all_ordered, all_sub, alone_all}
use Rattle.stm_core.proofs.Sums.{two_of_sum, share_of}

ranked_of : (l : List Record) (n : ℕ) → Ordered l → ((r : Record) → In r l → r.renewal ≡ n) → Ranked l
ranked_of [] n o f = tt
ranked_of (x ∷ l) n o f = (
  λ r i. (rank_after r x (o.0 r i).0 (f r (suc i.0, i.1) ∙ sym (f x (0, refl))), (o.0 r i).1),
  ranked_of l n o.1 (λ r i. f r (suc i.0, i.1)),
)

module _ (lawful : RecordLaw) (lk : ℕ → ℕ) (c : Core) (h : Inv lawful lk c) where
  apart_of : Apart c.clients
  apart_of = record { each = λ i v e. (h.filed.filed i v e).ordered; once = h.filed.once }

  true_of : (r : Record) (i : ℕ) (v : Client) → At c.clients i v → In r v.records → IsInStory c.opening h.story r
  true_of r i v e m = let it = (h.filed.filed i v e).told r m in
      record {
        reads = λ a x n. (it.reads a x n, ((h.version.sound i v e).agrees (base r) a x (noted r m refl n)).0);
        writer = it.writer;
        reader = it.reader;
      }

  -- the condition under which an ordered list of all records is serial
  pub ahead_by : (rs : List Record) → Ranked rs → ((r : Record) → In r rs →
      (i : ℕ) × (v : Client) × At c.clients i v × In r v.records) →
      ((i : ℕ) (v : Client) (r : Record) → At c.clients i v → In r v.records → In r rs) →
      Ahead c.opening h.story rs c.opening 0
  ahead_by rs ranked back forth = record {
    size = refl;
    now = λ a l. sym (at_zero h.story (slice_index c.opening a) a);
    each = λ r i. let q = back r i in true_of r q.0 q.1 q.2 q.3;
    ranked = ranked;
    complete = λ u ws e n l. let q = h.filed.complete u ws e n in (q.2, forth q.0 q.1 q.2 q.3 q.4, q.5, q.6);
    above = λ r i. (zero-le, λ w. let q = back r i in (((h.filed.filed q.0 q.1 q.2).told r q.3).writer w).0);
  }

  pub ahead : Ahead c.opening h.story (all_records c.clients) c.opening 0
  ahead = ahead_by (all_records c.clients) (ranked_of (all_records c.clients) c.renewal (all_ordered c.clients apart_of)
      (λ r i. let q = in_all c.clients r i in ((h.filed.filed q.0 q.1 q.2).told r q.3).present))
      (λ r i. in_all c.clients r i) (λ i v r e m. all_in c.clients i v r e m)

  -- the records of all clients are serial from the opening image
  pub all_serial : Serial c.opening (all_records c.clients)
  all_serial = serial c.opening h.story (all_records c.clients) c.opening 0 ahead

  pub all_lawful : (r : Record) → In r (all_records c.clients) → lawful r.tag r.reads r.writes
  all_lawful r i = let q = in_all c.clients r i in ((h.filed.filed q.0 q.1 q.2).told r q.3).abides

  -- each client's own records are among them, each once and in their order
  pub all_shared : (i : ℕ) (v : Client) → At c.clients i v → IsShared lawful c.opening v.records (all_records c.clients)
  all_shared i v e = record { serial = all_serial; abides = all_lawful; among = all_sub c.clients apart_of i v e }

  -- the image of a version by the ordered records is the image that the story gives
  pub image_by : (rs : List Record) → Ahead c.opening h.story rs c.opening 0 → (v a : ℕ) → a < length c.opening →
      slice_index (image_at c.opening v rs) a ≡ value_of c.opening h.story v a
  image_by rs g v a l = image_is c.opening h.story rs c.opening 0 v a g zero-le l

  -- all words that an attempt has read are in the image of its read version
  pub agrees_by : (rs : List Record) → Ahead c.opening h.story rs c.opening 0 → (i : ℕ) (v : Client) →
      At c.clients i v → Agrees (image_at c.opening v.attempt.rv rs) v.attempt.reads
  agrees_by rs g i v e a x m =
      let l = (h.filed.filed i v e).reads a x m in (
        rw (image_length c.opening h.story rs c.opening v.attempt.rv) l,
        image_by rs g v.attempt.rv a l ∙ ((h.version.sound i v e).agrees v.attempt.rv a x (runs refl m)).0,
      )

  -- all words that an aborted attempt of the present renewal has read are in the image of its read
  -- version
  pub aborted_by : (rs : List Record) → Ahead c.opening h.story rs c.opening 0 → (i : ℕ) (v : Client) →
      At c.clients i v → (r : Aborted) → In r (given_up v) → Agrees (image_at c.opening r.version rs) r.reads
  aborted_by rs g i v e r k a x m =
      let f = h.filed.filed i v e in
      let l = ⊎_elim (λ p. f.aborted r p a x m)
      (λ p. f.reads a x (subst (λ (z : Aborted). In (a, x) z.reads) (sym p.1) m)) (given_cases v r k) in (
        rw (image_length c.opening h.story rs c.opening r.version) l,
        image_by rs g r.version a l
            ∙ ((h.version.sound i v e).agrees r.version a x (given_claims v r r.version a x k refl m)).0,
      )

  pub one_version : (i : ℕ) (v : Client) → At c.clients i v →
      Agrees (image_at c.opening v.attempt.rv (all_records c.clients)) v.attempt.reads
  one_version i v e = agrees_by (all_records c.clients) ahead i v e

  -- under a law that keeps what fits, some fitting image of the size agrees with the reads of an attempt
  pub some_fits : (fits : List ℕ → Type 0) → ((tag m : List ℕ) (reads writes : List (ℕ × ℕ)) → fits m → Agrees m reads →
      lawful tag reads writes → fits (laid m writes)) → fits c.opening → (i : ℕ) (v : Client) → At c.clients i v →
      SomeFits fits (length c.opening) v.attempt.reads
  some_fits fits keeps k i v e = (
    image_at c.opening v.attempt.rv (all_records c.clients),
    image_fits c.opening h.story fits lawful keeps (all_records c.clients) c.opening 0 v.attempt.rv ahead all_lawful k,
    image_length c.opening h.story (all_records c.clients) c.opening v.attempt.rv,
    one_version i v e,
  )

  -- if no client holds a lock, the data words are the newest image
  pub cells_by : (rs : List Record) → Ahead c.opening h.story rs c.opening 0 →
      ((r : Record) → In r rs → (i : ℕ) × (v : Client) × At c.clients i v × In r v.records) →
      ((i : ℕ) (v : Client) → At c.clients i v → v.attempt.held ≡ []) → c.cells ≡ image_after c.opening rs
  cells_by rs g back free =
      let newest : image_at c.opening c.clock rs ≡ image_after c.opening rs =
      image_last c.opening h.story rs c.opening c.clock (λ r i. let q = back r i in
      (h.version.sound q.0 q.1 q.2).recorded r q.3) in
      ext_get_or 0 c.cells (image_at c.opening c.clock rs) (h.size ∙
      sym (image_length c.opening h.story rs c.opening c.clock))
      (λ a l. (h.version.free (lk a) a 0 (even (lk a)) refl).0 ∙ sym (image_by rs g c.clock a (let s = h.size in
      omega arith))) ∙ newest
    where
      even : (k : ℕ) → IsFree (slice_index c.locks k)
      even k = dite (ℕ_discrete (slice_index c.locks k) (2 * version_of (slice_index c.locks k))) (λ e. e)
          (λ n. let q = h.version.holder k (let z : slice_index c.locks k ≡ 2 * version_of (slice_index c.locks k) + 1 =
          omega arith in z) in absurd (nothing_in (k, version_of (slice_index c.locks k))
          (subst (In (k, version_of (slice_index c.locks k))) (free q.0 q.1 q.2) q.3)))

  pub grants_of_two : (i j : ℕ) (v w : Client) → i ≢ j → At c.clients i v → At c.clients j w → v.is_gathered ≡ false →
      w.is_gathered ≡ false → v.grants + w.grants + 1 ≤ 63
  grants_of_two i j v w n e f un un' = let a = two_of_sum share c.clients i j v w n e f in let b = share_of v un in
      let b' = share_of w un' in let g = h.grants in omega arith

  -- a client with all grants is the only one out
  pub others_gathered : (i : ℕ) (v : Client) → At c.clients i v → v.is_gathered ≡ false → v.grants ≡ 63 →
      (j : ℕ) (w : Client) → At c.clients j w → j ≢ i → w.is_gathered ≡ true
  others_gathered i v e un all j w f n = by_bool w.is_gathered (λ t. t) (λ t. absurd (let a =
      grants_of_two i j v w (λ z. n (sym z)) e f un t in omega arith))

  -- if no other client is out, a client's records are all records, and the data words are the
  -- opening image with their writes applied
  pub alone : (i : ℕ) (v : Client) → At c.clients i v → IsFreeHanded v →
      ((j : ℕ) (w : Client) → At c.clients j w → j ≢ i → w.is_gathered ≡ true) →
      (all_records c.clients ≡ v.records) × (c.cells ≡ image_after c.opening v.records)
  alone i v e free is_gathered =
      let mine = alone_all c.clients i v e (h.filed.filed i v e).ordered
      (λ j w f n. ((h.filed.filed j w f).gone (is_gathered j w f n)).0) in (
        mine,
        cells_by (all_records c.clients) ahead (λ r m. in_all c.clients r m)
            (λ j w f. dite (ℕ_discrete j i) (λ z. ap (λ (y : Client). y.attempt.held)
            (same_at c.clients i w v (subst (λ n. At c.clients n w) z f) e) ∙
            free.1) (λ n. ((h.filed.filed j w f).gone (is_gathered j w f n)).1)) ∙ ap (image_after c.opening) mine,
      )

  pub alone_serial : (i : ℕ) (v : Client) → At c.clients i v → IsFreeHanded v →
      ((j : ℕ) (w : Client) → At c.clients j w → j ≢ i → w.is_gathered ≡ true) → Serial c.opening v.records
  alone_serial i v e free is_gathered = subst (Serial c.opening) (alone i v e free is_gathered).0 all_serial
