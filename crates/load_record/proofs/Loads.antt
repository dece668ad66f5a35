-- The attempts of a load begin with those that write the words of its heap.
use Rattle.std.proofs.Common.{◌≡◌, ◌∙◌, ◌+◌, ◌*◌, ◌^◌, ◌≤◌, ℕ, suc, cond, List, [], ◌∷◌, ◌++◌}
use Rattle.std.proofs.Common.{length}
use Rattle.std.proofs.Common.{refl, sym, ap, subst, arith, length-append}
use Rattle.std.specs.Prelude.{All}
use Rattle.std.proofs.lemmas.Grind.{flat_map-append}
use Rattle.std.proofs.lemmas.List.Elements.{All-nil, All-cons, All-head, All-tail}
use Rattle.tx_alloc.specs.Pool.{heap_words}
use Rattle.tx_memory.specs.declared.access.Access.{Access}
use Rattle.vac_manager.specs.declared.note.TracedAttempt.{TracedAttempt}
use Rattle.load_record.specs.Laying.{IsLaidFirst, Lays, writes_from, done_by}
use Rattle.load_record.specs.Lines.{AttemptEntry, line_text, lines_text}
use Rattle.load_record.specs.Pages.{attempt_entries_of}
use Rattle.load_record.specs.Entries.{FitsAccess, Fits, AllFit}
use Rattle.load_record.specs.Records.{committed_notes}
use Rattle.load_record.specs.Loads.{LoadsBeginWithTheirHeap}
use Rattle.load_record.proofs.Lengths.{few_fit}
use Rattle.load_record.proofs.Heap.{word_small, writes_fit, writes_few}

-- ---- the committed ones among the first

pub committed_first : (laid : List TracedAttempt) (rest : List AttemptEntry) → All (λ a. IsLaidFirst a) laid →
    committed_notes (attempt_entries_of 0 laid ++ rest) ≡ laid ++ committed_notes rest
committed_first [] rest h = refl
committed_first (a ∷ laid) rest h =
    let is = h 0 a (omega arith) in
    let more = committed_notes (attempt_entries_of 0 laid ++ rest) in
    ap (λ b. cond b (a ∷ more) more) is.commits
    ∙ ap (λ l. a ∷ l) (committed_first laid rest (λ k d l. h (suc k) d (omega (arith, l))))

-- ---- the lines fit

-- what holds of the elements of two lists holds of those of each
front_all : {X : Type 0} (P : X → Type 0) (xs ys : List X) → All P (xs ++ ys) → All P xs
front_all P [] ys h = All-nil P
front_all P (x ∷ xs) ys h =
    All-cons P x xs (All-head P x (xs ++ ys) h) (front_all P xs ys (All-tail P x (xs ++ ys) h))

back_all : {X : Type 0} (P : X → Type 0) (xs ys : List X) → All P (xs ++ ys) → All P ys
back_all P [] ys h = h
back_all P (x ∷ xs) ys h = back_all P xs ys (All-tail P x (xs ++ ys) h)

module _ (words : ℕ) (most : words ≤ 2097168) where
  one_fits : (a : TracedAttempt) → IsLaidFirst a → All (λ x. FitsAccess words x) a.accesses.items →
      length a.accesses.items ≤ words → Fits words (record { client = 0; attempt = a })
  one_fits a is accesses short =
      let few : words ≤ 4194304 = omega (arith, most) in
      let least : 0 ≤ 4294967295 = omega arith in
      let begin : a.begin ≡ 0 = is.begin in
      let end : a.end ≡ 0 = is.end in
      let fitting : length a.accesses.items ≤ 2164800 = omega (arith, short, most) in
      few_fit words (record { client = 0; attempt = a }) few (record {
        client = least;
        begin = omega (arith, begin);
        end = omega (arith, end);
        accesses = accesses;
      }) fitting

  all_fit : (laid : List TracedAttempt) → All (λ a. IsLaidFirst a) laid →
      All (λ x. FitsAccess words x) (done_by laid) → length (done_by laid) ≤ words →
      AllFit words (attempt_entries_of 0 laid)
  all_fit [] h accesses short = All-nil (λ e. Fits words e)
  all_fit (a ∷ laid) h accesses short =
      let size = length-append a.accesses.items (done_by laid) in
      let both : length (a.accesses.items ++ done_by laid) ≤ words = short in
      All-cons (λ e. Fits words e) (record { client = 0; attempt = a }) (attempt_entries_of 0 laid)
      (one_fits a (h 0 a (omega arith))
      (front_all (λ x. FitsAccess words x) a.accesses.items (done_by laid) accesses) (omega (arith, size, both)))
      (all_fit laid (λ k d l. h (suc k) d (omega (arith, l)))
      (back_all (λ x. FitsAccess words x) a.accesses.items (done_by laid) accesses) (omega (arith, size, both)))

laid_fit : (blocks : ℕ) (laid : List TracedAttempt) → blocks ≤ 262144 → Lays blocks laid →
    AllFit (heap_words blocks) (attempt_entries_of 0 laid)
laid_fit blocks laid few lays =
    let size : length lays.words ≡ 16 + 8 * blocks = lays.heap.size in
    let long : 0 + length lays.words ≤ 16 + 8 * blocks = omega (arith, size) in
    let small : 16 + 8 * blocks ≤ 2 ^ 32 = omega (arith, few) in
    let most : 16 + 8 * blocks ≤ 2097168 = omega (arith, few) in
    let accesses = writes_fit (16 + 8 * blocks) 0 lays.words long small (word_small lays.words blocks lays.heap few) in
    let fewer = writes_few 0 lays.words in
    let short : length (writes_from 0 lays.words) ≤ 16 + 8 * blocks = omega (arith, fewer, size) in
    all_fit (16 + 8 * blocks) most laid lays.before_all
    (subst (λ l. All (λ x. FitsAccess (16 + 8 * blocks) x) l) (sym lays.writes) accesses)
    (subst (λ (l : List Access). length l ≤ 16 + 8 * blocks) (sym lays.writes) short)

pub begin_with_heap : LoadsBeginWithTheirHeap
begin_with_heap = λ blocks pages all few are. record {
  sorted = are.ordered;
  image = are.lays.words;
  heap = are.lays.heap;
  first = are.laid;
  rest = are.rest;
  text = ap lines_text are.first ∙ flat_map-append line_text (attempt_entries_of 0 are.laid) are.rest;
  committed = ap committed_notes are.first ∙ committed_first are.laid are.rest are.lays.before_all;
  writes = are.lays.writes;
  fits = laid_fit blocks are.laid few are.lays;
}
