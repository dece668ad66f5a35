-- Lemmas on the judge's reading of the accesses of one record.
use Rattle.std.proofs.Common.{◌≡◌, ◌≢◌, ◌<◌, ◌&&◌, inl, inr, ℕ, Bool, true, false, cond, eqb, List, [], ◌∷◌, length}
use Rattle.std.proofs.Common.{map, Option, Some, None, slice_index, unwrap_or, refl, sym, ap, subst, ◌∙◌, arith}
use Rattle.std.proofs.lemmas.Bool.Decides.{nat_tests}
use Rattle.std.specs.FinMap.{get, insert, empty, get-empty, entries}
use Rattle.std.specs.Ordering.{nat_cmp}
use Rattle.tx_memory.specs.Image.{Has, Agrees, laid}
use Rattle.tx_memory.specs.View.{Words, memory}
use Rattle.tx_memory.specs.Seen.{same_or, get_here, get_other}
use Rattle.tx_memory.specs.Paired.{agrees-map_of, laid-entries, length-laid}
use Rattle.tx_memory.specs.declared.access.Access.{Access as MadeAccess}
use Rattle.tx_memory.specs.declared.access.Access.TheVariants as made
use Rattle.tx_memory.specs.Accesses.{reads_with, reads_behind, writes_behind, is_right_read, are_right}
use Rattle.stm_core.specs.Client.{Record}
use Rattle.stm_object.specs.Tracing.{Trace, IsTraceOf}
use Rattle.judge_object.proofs.Tests.{test}
use Rattle.judge_opacity.specs.declared.attempt.Access.{Access}
use Rattle.judge_opacity.specs.Words.{Image, image_with, words_after, wrong_read}
use Rattle.judge_opacity.proofs.Legal.{unless_right}
use Rattle.load_record.specs.Entries.{access_of}

-- the judge's words are those of the image with these writes, as far as the image goes, and each
-- write is one of them
pub record Stands (m : Image) (image : List ℕ) (writes : Words) : Type 0 where
  pub below : (a : ℕ) → a < length image → m a ≡ memory image writes a
  pub own : (a u : ℕ) → get writes a ≡ Some u → m a ≡ u

-- ---- one write

pub with_here : (m : Image) (at word value : ℕ) → at ≡ word → image_with m at value word ≡ value
with_here m at word value e =
    elim (test at word) [
      | inl t ↦ ap (λ b. cond b value (m word)) t.0
      | inr t ↦ absurd (t.1 e)
    ]

pub with_other : (m : Image) (at word value : ℕ) → at ≢ word → image_with m at value word ≡ m word
with_other m at word value n =
    elim (test at word) [
      | inl t ↦ absurd (n t.1)
      | inr t ↦ ap (λ b. cond b value (m word)) t.0
    ]

same_some : (u v : ℕ) → Some u ≡ Some v → u ≡ v
same_some u v e = cc

none_some : (u : ℕ) → None ≡ Some u → ⊥
none_some u e = cc

turned : (a b : ℕ) → a ≢ b → b ≢ a
turned a b n e = n (sym e)

stands_write : (m : Image) (image : List ℕ) (w : Words) (at value : ℕ) → Stands m image w →
    Stands (image_with m at value) image (insert w at value)
stands_write m image w at value s = record {
  below = λ a low. elim (same_or a at) [
    | inl e ↦ with_here m at a value (sym e)
        ∙ sym (ap (λ (o : Option ℕ). unwrap_or o (slice_index image a))
        (ap (get (insert w at value)) e ∙ get_here w at value))
    | inr n ↦ with_other m at a value (turned a at n) ∙ s.below a low
        ∙ sym (ap (λ (o : Option ℕ). unwrap_or o (slice_index image a)) (get_other w at value a n))
  ];
  own = λ a u h. elim (same_or a at) [
    | inl e ↦ with_here m at a value (sym e)
        ∙ same_some value u (sym (ap (get (insert w at value)) e ∙ get_here w at value) ∙ h)
    | inr n ↦ with_other m at a value (turned a at n) ∙ s.own a u (sym (get_other w at value a n) ∙ h)
  ];
}

-- the accesses of the judge
abbrev pub judged : List MadeAccess → List Access
judged xs = map access_of xs

pub stands_after : (m : Image) (image : List ℕ) (w : Words) (xs : List MadeAccess) → Stands m image w →
    Stands (words_after m (judged xs)) image (writes_behind w xs)
stands_after m image w [] s = s
stands_after m image w (made.Read addr value ∷ more) s = stands_after m image w more s
stands_after m image w (made.Write addr value ∷ more) s =
    stands_after (image_with m addr.0 value) image (insert w addr.0 value) more (stands_write m image w addr.0 value s)

-- ---- the reads

and_left : (a b : Bool) → (a && b) ≡ true → a ≡ true
and_left true b e = refl
and_left false b e = absurd (let k : false ≡ true = e in cc)

and_right : (a b : Bool) → (a && b) ≡ true → b ≡ true
and_right true b e = e
and_right false b e = absurd (let k : false ≡ true = e in cc)

equal : (a b : ℕ) → eqb a b ≡ true → a ≡ b
equal a b e = grind (arith, nat_tests, e)

-- a read that is right leaves a value that was read
value_stays : (r w : Words) (at x a v : ℕ) (own : Option ℕ) → get w at ≡ own → get r a ≡ Some v →
    is_right_read own (get r at) x ≡ true → get (reads_with r w at x) a ≡ Some v
value_stays r w at x a v (Some u) o h k = rw o h
value_stays r w at x a v None o h k =
    elim (same_or a at) [
      | inl e ↦
          let is : get r at ≡ Some v = ap (get r) (sym e) ∙ h in
          let same : x ≡ v = equal x v (sym (ap (λ (i : Option ℕ). is_right_read None i x) is) ∙ k) in
          rw o (ap (get (insert r at x)) e ∙ get_here r at x ∙ ap Some same)
      | inr n ↦ rw o (get_other r at x a n ∙ h)
    ]

read_stays : (r w : Words) (xs : List MadeAccess) (a v : ℕ) → are_right r w xs ≡ true → get r a ≡ Some v →
    get (reads_behind r w xs) a ≡ Some v
read_stays r w [] a v k h = h
read_stays r w (made.Read addr x ∷ more) a v k h =
    let own = is_right_read (get w addr.0) (get r addr.0) x in
    let rest = are_right (reads_with r w addr.0 x) w more in
    read_stays (reads_with r w addr.0 x) w more a v (and_right own rest k)
    (value_stays r w addr.0 x a v (get w addr.0) refl h (and_left own rest k))
read_stays r w (made.Write addr x ∷ more) a v k h = read_stays r (insert w addr.0 x) more a v k h

-- the value of a read, if its word was not written before
entered : (r w : Words) (at x : ℕ) → get w at ≡ None → get (reads_with r w at x) at ≡ Some x
entered r w at x e = rw e (get_here r at x)

-- a read gives what its word has
value_is : (m : Image) (image : List ℕ) (r w : Words) (addr x : ℕ) (final : Words) (own : Option ℕ) →
    Stands m image w → get w addr ≡ own → is_right_read own (get r addr) x ≡ true →
    (get w addr ≡ None → Has image addr x) → x ≡ m addr
value_is m image r w addr x final (Some u) s o k h = equal x u k ∙ sym (s.own addr u o)
value_is m image r w addr x final None s o k h =
    let has = h o in
    sym has.1 ∙ sym (ap (λ (i : Option ℕ). unwrap_or i (slice_index image addr)) o) ∙ sym (s.below addr has.0)

-- all that was read of words before they were written stands in the image
abbrev AllStand : List ℕ → Words → Type 0
AllStand image reads = (a v : ℕ) → get reads a ≡ Some v → Has image a v

pub reads_right : (m : Image) (image : List ℕ) (r w : Words) (xs : List MadeAccess) → Stands m image w →
    are_right r w xs ≡ true → AllStand image (reads_behind r w xs) → wrong_read m (judged xs) ≡ None
reads_right m image r w [] s k h = refl
reads_right m image r w (made.Read addr x ∷ more) s k h =
    let own = is_right_read (get w addr.0) (get r addr.0) x in
    let rest = are_right (reads_with r w addr.0 x) w more in
    let stays : get w addr.0 ≡ None → Has image addr.0 x = λ e.
    h addr.0 x (read_stays (reads_with r w addr.0 x) w more addr.0 x (and_right own rest k) (entered r w addr.0 x e)) in
    unless_right addr.0 x (m addr.0) (wrong_read m (judged more))
    (value_is m image r w addr.0 x r (get w addr.0) s refl (and_left own rest k) stays)
    ∙ reads_right m image (reads_with r w addr.0 x) w more s (and_right own rest k) h
reads_right m image r w (made.Write addr x ∷ more) s k h =
    reads_right (image_with m addr.0 x) image r (insert w addr.0 x) more (stands_write m image w addr.0 x s) k h

-- ---- a record

pub trace_right : (m : Image) (image : List ℕ) (t : Trace) (r : Record) → Stands m image empty → IsTraceOf t r →
    Agrees image r.reads → wrong_read m (judged t.accesses) ≡ None
trace_right m image t r s h agrees =
    reads_right m image empty empty t.accesses s h.right
    (λ a v e. agrees-map_of image r.reads agrees a v (ap (λ (w : Words). get w a) h.reads ∙ e))

empty_none : (a u : ℕ) → get {R = nat_cmp} (empty {X = ℕ}) a ≡ Some u → ⊥
empty_none a u e = none_some u (sym (get-empty nat_cmp a) ∙ e)

-- words that stand behind an image's words
pub stands_on : (m : Image) (image : List ℕ) → ((a : ℕ) → a < length image → m a ≡ slice_index image a) →
    Stands m image empty
stands_on m image h = record {
  below = λ a low.
      h a low ∙ sym (ap (λ (o : Option ℕ). unwrap_or o (slice_index image a)) (get-empty nat_cmp a));
  own = λ a u e. absurd (empty_none a u e);
}

pub attempt_stands : (m : Image) (image : List ℕ) (xs : List MadeAccess) → Stands m image empty →
    Stands (words_after m (judged xs)) (laid image (entries (writes_behind empty xs))) empty
attempt_stands m image xs s =
    let w = writes_behind empty xs in
    let after = stands_after m image empty xs s in
    stands_on (words_after m (judged xs)) (laid image (entries w)) (λ a low.
    let inside : a < length image = subst (λ (n : ℕ). a < n) (length-laid image (entries w)) low in
    after.below a inside ∙ sym (laid-entries w image a inside))

pub trace_stands : (m : Image) (image : List ℕ) (t : Trace) (r : Record) → Stands m image empty → IsTraceOf t r →
    Stands (words_after m (judged t.accesses)) (laid image r.writes) empty
trace_stands m image t r s h =
    subst (λ (ps : List (ℕ × ℕ)). Stands (words_after m (judged t.accesses)) (laid image ps) empty) (sym h.writes)
    (attempt_stands m image t.accesses s)
