-- Attempts that read in place are legal.
use Rattle.std.proofs.Common.{◌≡◌, ℕ, false, List, [], ◌∷◌, ◌++◌, map, None, refl, sym, ap, subst, ◌∙◌}
use Rattle.std.proofs.lemmas.List.{map-append}
use Rattle.std.specs.FinMap.{empty, entries}
use Rattle.tx_memory.specs.Image.{laid}
use Rattle.tx_memory.specs.Accesses.{writes_behind}
use Rattle.vac_manager.specs.declared.note.TracedAttempt.{TracedAttempt}
use Rattle.judge_opacity.specs.Attempt.{Attempt}
use Rattle.judge_opacity.specs.Words.{Image, zeros, words_after, wrong_read}
use Rattle.judge_opacity.specs.Laws.{ReadsAreLegal, committed, visible}
use Rattle.judge_opacity.proofs.Legal.{after_both, legal_of, wrong_both, first_right}
use Rattle.load_record.specs.Laying.{writes_from, done_by}
use Rattle.load_record.specs.Lines.{AttemptEntry}
use Rattle.load_record.specs.Entries.{attempt_of}
use Rattle.load_record.specs.Records.{AbortedAreLegal, AreMadeSerially, image_left, ReadsInPlace}
use Rattle.load_record.specs.Records.{AbortedReadInPlace, AttemptsInPlaceAreLegal}
use Rattle.load_record.proofs.FewAccesses.{Stands, judged, attempt_stands, reads_right}
use Rattle.load_record.proofs.Serial.{judged_apart, judged_both, opening_stands, committed_both, committed_parts}
use Rattle.load_record.proofs.Serial.{committed_right, serial_legal}

-- a list of attempts in two parts is that of entries in two parts
record SplitEntries (all : List AttemptEntry) (before after : List Attempt) (attempt : Attempt) : Type 0 where
  front : List AttemptEntry
  entry : AttemptEntry
  back : List AttemptEntry
  split : all ≡ front ++ entry ∷ back
  front_is : map attempt_of front ≡ before
  entry_is : attempt_of entry ≡ attempt

heads : (a b : Attempt) (xs ys : List Attempt) → a ∷ xs ≡ b ∷ ys → (a ≡ b) × (xs ≡ ys)
heads a b xs ys e = (cc, cc)

no_split : (a : Attempt) (before after : List Attempt) → [] ≡ before ++ a ∷ after → ⊥
no_split a [] after e = cc
no_split a (x ∷ before) after e = cc

split_entries : (all : List AttemptEntry) (before after : List Attempt) (attempt : Attempt) →
    map attempt_of all ≡ before ++ attempt ∷ after → SplitEntries all before after attempt
split_entries [] before after attempt e = absurd (no_split attempt before after e)
split_entries (x ∷ xs) [] after attempt e = record {
  front = [];
  entry = x;
  back = xs;
  split = refl;
  front_is = refl;
  entry_is = (heads (attempt_of x) attempt (map attempt_of xs) after e).0;
}
split_entries (x ∷ xs) (b ∷ before) after attempt e =
    let both = heads (attempt_of x) b (map attempt_of xs) (before ++ attempt ∷ after) e in
    let rest = split_entries xs before after attempt both.1 in
    record {
      front = x ∷ rest.front;
      entry = rest.entry;
      back = rest.back;
      split = ap (λ l. x ∷ l) rest.split;
      front_is = ap (λ a. a ∷ map attempt_of rest.front) both.0 ∙ ap (λ l. b ∷ l) rest.front_is;
      entry_is = rest.entry_is;
    }

-- the judge's words stand behind attempts
made_stand : (m : Image) (image : List ℕ) (made : List TracedAttempt) → Stands m image empty →
    Stands (words_after m (judged (done_by made))) (image_left image made) empty
made_stand m image [] s = s
made_stand m image (a ∷ more) s =
    let own = a.accesses.items in
    subst (λ (f : Image). Stands f (image_left image (a ∷ more)) empty)
    (sym (ap (words_after m) (judged_both own (done_by more)) ∙ after_both m (judged own) (judged (done_by more))))
    (made_stand (words_after m (judged own)) (laid image (entries (writes_behind empty own))) more
    (attempt_stands m image own s))

-- the committed attempts of the first entries have no wrong read
front_right : (image : List ℕ) (first : List TracedAttempt) (all before rest : List AttemptEntry) →
    AreMadeSerially image first all → all ≡ before ++ rest →
    wrong_read zeros (committed (map attempt_of before)) ≡ None
front_right image first all before rest h e =
    let split : committed (map attempt_of all) ≡ committed (map attempt_of before) ++ committed (map attempt_of rest) =
    ap (λ l. committed (map attempt_of l)) e ∙ ap committed (map-append attempt_of before rest)
    ∙ committed_both (map attempt_of before) (map attempt_of rest) in
    first_right zeros (committed (map attempt_of before)) (committed (map attempt_of rest))
    (sym (ap (wrong_read zeros) split) ∙ committed_right image first all h)

-- an attempt that reads in place has no wrong read
in_place_right : (image : List ℕ) (first : List TracedAttempt) (before : List AttemptEntry) (e : AttemptEntry) →
    done_by first ≡ writes_from 0 image → wrong_read zeros (committed (map attempt_of before)) ≡ None →
    ReadsInPlace image first before e.attempt → wrong_read zeros (visible (map attempt_of before) (attempt_of e)) ≡ None
in_place_right image first before e writes right p =
    let own = e.attempt.accesses.items in
    let opening = judged (done_by first) in
    let made = judged (done_by p.made) in
    let stands = made_stand (words_after zeros opening) image p.made (opening_stands image first writes) in
    let words : words_after zeros (committed (map attempt_of before)) ≡ words_after (words_after zeros opening) made =
    ap (words_after zeros) (committed_parts before first p.made p.committed) ∙ after_both zeros opening made in
    wrong_both zeros (committed (map attempt_of before)) (judged own) right
    ∙ ap (λ (m : Image). wrong_read m (judged own)) words
    ∙ reads_right (words_after (words_after zeros opening) made) (image_left image p.made) empty empty own stands
    p.reads.right p.reads.agrees

pub aborted_legal : (image : List ℕ) (first : List TracedAttempt) (all : List AttemptEntry) →
    AreMadeSerially image first all → AbortedReadInPlace image first all → AbortedAreLegal (map attempt_of all)
aborted_legal image first all h each before after attempt e c =
    let s = split_entries all before after attempt e in
    let aborted : s.entry.attempt.commits ≡ false = ap (λ (a : Attempt). a.commits) s.entry_is ∙ c in
    let place = each s.front s.back s.entry s.split aborted in
    let right = in_place_right image first s.front s.entry h.writes
    (front_right image first all s.front (s.entry ∷ s.back) h s.split) place in
    subst (λ (l : List Attempt). ReadsAreLegal (visible l attempt)) s.front_is
    (subst (λ (a : Attempt). ReadsAreLegal (visible (map attempt_of s.front) a)) s.entry_is
    (legal_of (visible (map attempt_of s.front) (attempt_of s.entry)) right))

pub in_place_legal : AttemptsInPlaceAreLegal
in_place_legal image first all h each = (judged_apart (map attempt_of all)).1
    (serial_legal image first all h, aborted_legal image first all h each)
