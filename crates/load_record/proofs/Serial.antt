-- Attempts whose records are serial are legal.
use Rattle.std.proofs.Common.{◌≡◌, ◌≢◌, ◌<◌, ◌≤◌, ◌+◌, ℕ, zero, suc, Bool, true, false, cond, eqb, List, [], ◌∷◌, ◌++◌}
use Rattle.std.proofs.Common.{length, map, None, slice_index, refl, sym, ap, ◌∙◌, arith, append_assoc}
use Rattle.std.proofs.lemmas.Grind.{flat_map-append}
use Rattle.std.proofs.lemmas.List.{map-append}
use Rattle.std.proofs.lemmas.Bool.Decides.{nat_tests}
use Rattle.std.specs.FinMap.{empty}
use Rattle.tx_memory.specs.Image.{laid}
use Rattle.tx_memory.specs.declared.access.Access.{Access as MadeAccess}
use Rattle.tx_memory.specs.declared.access.Access.TheVariants.{Write}
use Rattle.stm_core.specs.Client.{Record}
use Rattle.stm_core.specs.History.{Serial}
use Rattle.vac_manager.specs.declared.note.TracedAttempt.{TracedAttempt}
use Rattle.vac_manager.specs.Tracing.{trace_of}
use Rattle.judge_opacity.specs.Attempt.{Attempt}
use Rattle.judge_opacity.specs.Words.{Image, zeros, words_after, wrong_read}
use Rattle.judge_opacity.specs.Laws.{ReadsAreLegal, committed, visible}
use Rattle.judge_opacity.proofs.Legal.{after_both, legal_of, wrong_both, first_right}
use Rattle.load_record.specs.Laying.{write_of, writes_from, done_by}
use Rattle.load_record.specs.Lines.{AttemptEntry}
use Rattle.load_record.specs.Entries.{access_of, attempt_of}
use Rattle.load_record.specs.Records.{AreLegalOf, CommittedAreLegal, OutcomesAreJudgedApart, committed_notes}
use Rattle.load_record.specs.Records.{AreTracesOf, AreMadeSerially, SerialAttemptsAreLegal}
use Rattle.load_record.proofs.FewAccesses.{Stands, judged, trace_right, trace_stands, stands_on, with_here, with_other}

-- ---- all attempts

by_outcome : (attempts before after : List Attempt) (attempt : Attempt) (b : Bool) → AreLegalOf true attempts →
    AreLegalOf false attempts → attempts ≡ before ++ attempt ∷ after → attempt.commits ≡ b →
    ReadsAreLegal (visible before attempt)
by_outcome attempts before after attempt true h g e c = h before after attempt e c
by_outcome attempts before after attempt false h g e c = g before after attempt e c

pub judged_apart : OutcomesAreJudgedApart
judged_apart attempts = (
  λ all. (
    λ before after attempt e c. all before after attempt e,
    λ before after attempt e c. all before after attempt e,
  ),
  λ both before after attempt e. by_outcome attempts before after attempt attempt.commits both.0 both.1 e refl,
)

-- ---- the committed ones

pub committed_both : (xs ys : List Attempt) → committed (xs ++ ys) ≡ committed xs ++ committed ys
committed_both [] ys = refl
committed_both (a ∷ xs) ys =
    let rest = committed_both xs ys in
    elim a.commits as (λ b. cond b (a.accesses ++ committed (xs ++ ys)) (committed (xs ++ ys)) ≡ cond b
    (a.accesses ++ committed xs) (committed xs) ++ committed ys) [
      | true ↦ ap (λ t. a.accesses ++ t) rest ∙ sym (append_assoc a.accesses (committed xs) (committed ys))
      | false ↦ rest
    ]

committed_first : (a : Attempt) (after : List Attempt) → a.commits ≡ true →
    committed (a ∷ after) ≡ a.accesses ++ committed after
committed_first a after c = ap (λ b. cond b (a.accesses ++ committed after) (committed after)) c

-- the accesses of committed attempts without a wrong read make each of them legal
pub each_legal : (attempts : List Attempt) → wrong_read zeros (committed attempts) ≡ None → CommittedAreLegal attempts
each_legal attempts h before after a e c =
    let split : committed attempts ≡ visible before a ++ committed after =
    ap committed e ∙ committed_both before (a ∷ after) ∙ ap (λ t. committed before ++ t) (committed_first a after c)
    ∙ sym (append_assoc (committed before) a.accesses (committed after)) in
    legal_of (visible before a) (first_right zeros (visible before a) (committed after)
    (sym (ap (wrong_read zeros) split) ∙ h))

pub judged_both : (xs ys : List MadeAccess) → judged (xs ++ ys) ≡ judged xs ++ judged ys
judged_both xs ys = map-append access_of xs ys

done_both : (xs ys : List TracedAttempt) → done_by (xs ++ ys) ≡ done_by xs ++ done_by ys
done_both xs ys = flat_map-append (λ (a : TracedAttempt). a.accesses.items) xs ys

committed_is : (entries : List AttemptEntry) →
    committed (map attempt_of entries) ≡ judged (done_by (committed_notes entries))
committed_is [] = refl
committed_is (e ∷ es) =
    let own = e.attempt.accesses.items in
    let rest = committed_is es in
    elim e.attempt.commits as (λ b. cond b (judged own ++ committed (map attempt_of es))
    (committed (map attempt_of es)) ≡ judged (done_by (cond b (e.attempt ∷ committed_notes es) (committed_notes es)))) [
      | true ↦ ap (λ t. judged own ++ t) rest ∙ sym (judged_both own (done_by (committed_notes es)))
      | false ↦ rest
    ]

-- ---- the first words

-- the judge's words after the write of one word
abbrev one_after : Image → ℕ → ℕ → Image
one_after m first w = words_after m (judged (write_of first w))

one_right : (m : Image) (first w : ℕ) → wrong_read m (judged (write_of first w)) ≡ None
one_right m first w =
    elim (eqb w 0) as (λ b. wrong_read m (judged (cond b [] (Write (record { 0 = first }) w ∷ []))) ≡ None) [
      | true ↦ refl
      | false ↦ refl
    ]

zero_of : (w : ℕ) → eqb w 0 ≡ true → w ≡ 0
zero_of w e = grind (arith, nat_tests, e)

one_here : (m : Image) (first w : ℕ) → m first ≡ 0 → one_after m first w first ≡ w
one_here m first w h = at (eqb w 0) refl
  where
    at : (b : Bool) → eqb w 0 ≡ b → words_after m (judged (cond b [] (Write (record { 0 = first }) w ∷ []))) first ≡ w
    at true e = h ∙ sym (zero_of w e)
    at false e = with_here m first first w refl

one_other : (m : Image) (first w a : ℕ) → first ≢ a → one_after m first w a ≡ m a
one_other m first w a n =
    elim (eqb w 0) as (λ b. words_after m (judged (cond b [] (Write (record { 0 = first }) w ∷ []))) a ≡ m a) [
      | true ↦ refl
      | false ↦ with_other m first a w n
    ]

-- the first word is written before the others
first_apart : (m : Image) (first w : ℕ) (ws : List ℕ) → words_after m (judged (writes_from first (w ∷ ws)))
    ≡ words_after (one_after m first w) (judged (writes_from (suc first) ws))
first_apart m first w ws =
    ap (words_after m) (judged_both (write_of first w) (writes_from (suc first) ws))
    ∙ after_both m (judged (write_of first w)) (judged (writes_from (suc first) ws))

-- no read of them is wrong
laid_right : (m : Image) (first : ℕ) (ws : List ℕ) → wrong_read m (judged (writes_from first ws)) ≡ None
laid_right m first [] = refl
laid_right m first (w ∷ ws) =
    ap (wrong_read m) (judged_both (write_of first w) (writes_from (suc first) ws))
    ∙ wrong_both m (judged (write_of first w)) (judged (writes_from (suc first) ws)) (one_right m first w)
    ∙ laid_right (one_after m first w) (suc first) ws

-- a word before them stays as it is
laid_before : (m : Image) (first : ℕ) (ws : List ℕ) (a : ℕ) → a < first →
    words_after m (judged (writes_from first ws)) a ≡ m a
laid_before m first [] a low = refl
laid_before m first (w ∷ ws) a low =
    ap (λ (f : Image). f a) (first_apart m first w ws)
    ∙ laid_before (one_after m first w) (suc first) ws a (omega (arith, low))
    ∙ one_other m first w a (omega (arith, low))

-- each of them is written where it stands, if all words from the first place on were 0
laid_at : (m : Image) (first : ℕ) (ws : List ℕ) → ((a : ℕ) → first ≤ a → m a ≡ 0) → (k : ℕ) → k < length ws →
    words_after m (judged (writes_from first ws)) (first + k) ≡ slice_index ws k
laid_at m first [] h k low = absurd (omega (arith, low))
laid_at m first (w ∷ ws) h zero low =
    let e : first + 0 ≡ first = omega arith in
    ap (words_after m (judged (writes_from first (w ∷ ws)))) e
    ∙ ap (λ (f : Image). f first) (first_apart m first w ws)
    ∙ laid_before (one_after m first w) (suc first) ws first (omega arith)
    ∙ one_here m first w (h first (omega arith))
laid_at m first (w ∷ ws) h (suc k) low =
    let e : first + suc k ≡ suc first + k = omega arith in
    ap (words_after m (judged (writes_from first (w ∷ ws)))) e
    ∙ ap (λ (f : Image). f (suc first + k)) (first_apart m first w ws)
    ∙ laid_at (one_after m first w) (suc first) ws
    (λ a high. one_other m first w a (omega (arith, high)) ∙ h a (omega (arith, high))) k (omega (arith, low))

laid_all : (image : List ℕ) (a : ℕ) → a < length image →
    words_after zeros (judged (writes_from 0 image)) a ≡ slice_index image a
laid_all image a low =
    let e : a ≡ 0 + a = omega arith in
    ap (words_after zeros (judged (writes_from 0 image))) e ∙ laid_at zeros 0 image (λ b high. refl) a low

-- ---- serial records

made_right : (m : Image) (image : List ℕ) (made : List TracedAttempt) (records : List Record) →
    Stands m image empty → AreTracesOf made records → Serial image records →
    wrong_read m (judged (done_by made)) ≡ None
made_right m image [] records s h serial = refl
made_right m image (a ∷ more) [] s h serial = absurd h
made_right m image (a ∷ more) (r ∷ records) s h serial =
    let own = a.accesses.items in
    ap (wrong_read m) (judged_both own (done_by more))
    ∙ wrong_both m (judged own) (judged (done_by more)) (trace_right m image (trace_of a) r s h.0 serial.0)
    ∙ made_right (words_after m (judged own)) (laid image r.writes) more records
    (trace_stands m image (trace_of a) r s h.0) h.1 serial.1

-- the attempts that write the image
pub opening_right : (image : List ℕ) (first : List TracedAttempt) → done_by first ≡ writes_from 0 image →
    wrong_read zeros (judged (done_by first)) ≡ None
opening_right image first e = ap (λ l. wrong_read zeros (judged l)) e ∙ laid_right zeros 0 image

pub opening_stands : (image : List ℕ) (first : List TracedAttempt) → done_by first ≡ writes_from 0 image →
    Stands (words_after zeros (judged (done_by first))) image empty
opening_stands image first e = stands_on (words_after zeros (judged (done_by first))) image
    (λ a low. ap (λ l. words_after zeros (judged l) a) e ∙ laid_all image a low)

-- the accesses of the committed attempts, in two parts
pub committed_parts : (entries : List AttemptEntry) (first made : List TracedAttempt) →
    committed_notes entries ≡ first ++ made →
    committed (map attempt_of entries) ≡ judged (done_by first) ++ judged (done_by made)
committed_parts entries first made e =
    committed_is entries ∙ ap (λ notes. judged (done_by notes)) e ∙ ap judged (done_both first made)
    ∙ judged_both (done_by first) (done_by made)

-- none of their reads is wrong
pub committed_right : (image : List ℕ) (first : List TracedAttempt) (all : List AttemptEntry) →
    AreMadeSerially image first all → wrong_read zeros (committed (map attempt_of all)) ≡ None
committed_right image first all h =
    ap (wrong_read zeros) (committed_parts all first h.made h.committed)
    ∙ wrong_both zeros (judged (done_by first)) (judged (done_by h.made)) (opening_right image first h.writes)
    ∙ made_right (words_after zeros (judged (done_by first))) image h.made h.records
    (opening_stands image first h.writes) h.traced h.serial

pub serial_legal : SerialAttemptsAreLegal
serial_legal image first all h = each_legal (map attempt_of all) (committed_right image first all h)
