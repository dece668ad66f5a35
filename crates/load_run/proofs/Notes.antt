-- Calls that keepers keep.
use Rattle.std.proofs.Common.{◌≡◌, ◌∙◌, ℕ, ◌+◌, List, [], ◌∷◌, ◌++◌, Option, Some, None, Result, Ok, Err, IfOk, refl}
use Rattle.std.proofs.Common.{sym, ap, subst, append_assoc, append-nil, arith}
use Rattle.std.specs.Prelude.{IfSome}
use Rattle.std.specs.Global.{Box}
use Rattle.stm_core.specs.Client.{Client, Record, Aborted, all_aborted}
use Rattle.stm_region.specs.Shown.{RegionShown}
use Rattle.stm_object.specs.declared.place.CommitPosition.{CommitPosition}
use Rattle.stm_object.specs.History.{GrowsAborted}
use Rattle.stm_object.specs.Places.{reader_at}
use Rattle.vac_model.specs.declared.tasks.Task.{Task}
use Rattle.vac_model.specs.Code.{code}
use Rattle.vac_model.specs.declared.replies.Reply.{Reply}
use Rattle.vac_manager.specs.declared.placed.PlacedReply.{PlacedReply}
use Rattle.vac_manager.specs.Placed.{AddsAt}
use Rattle.vac_manager.specs.declared.fault.Fault.{Fault}
use Rattle.vac_manager.specs.declared.note.CompletedCall.{CompletedCall}
use Rattle.vac_manager.specs.declared.note.TracedAttempt.{TracedAttempt}
use Rattle.vac_manager.specs.Law.{IsFitting}
use Rattle.vac_manager.specs.Tracing.{Trace, trace_of, IsLastTraced, IsTraceOf, IsOfAdded, HasTraced}
use Rattle.vac_manager.specs.Keeping.{notes_behind, HasKept, HasTakenOut, IsNoted}
use Rattle.load_run.specs.Lists.{none, both}
use Rattle.load_run.specs.Keeping.{RecorderContents, AddsTraces, AreKept, AreKeptBetween, HasKeptAdded}
use Rattle.load_run.specs.Made.{IsNotAfter}
use Rattle.load_run.proofs.Making.{paired_both, same_last, ascending_from, adds_both, adds_none, adds_refused}
use Rattle.load_run.proofs.Making.{same_rest}
use Rattle.load_run.proofs.Making.{adds_answered}

behind_none : (k : Option (List CompletedCall)) → notes_behind k [] ≡ k
behind_none None = refl
behind_none (Some ns) = ap (λ (l : List CompletedCall). Some l) (append-nil ns)

behind_both : (k : Option (List CompletedCall)) (ns ms : List CompletedCall) →
    notes_behind (notes_behind k ns) ms ≡ notes_behind k (ns ++ ms)
behind_both None ns ms = refl
behind_both (Some ks) ns ms = ap (λ (l : List CompletedCall). Some l) (append_assoc ks ns ms)

-- ---- recorded calls

pub are_kept_both : (first middle last : CommitPosition) (n m : ℕ) (rs qs : List Record) (gs ds : List Aborted)
    (a b c : RecorderContents) → AreKeptBetween first middle n rs gs a b → AreKeptBetween middle last m qs ds b c →
    AreKeptBetween first last (n + m) (rs ++ qs) (gs ++ ds) a c
are_kept_both first middle last n m rs qs gs ds a b c p q = record {
  notes = p.notes ++ q.notes;
  are_of = paired_both IsNoted p.notes q.notes rs qs p.are_of q.are_of;
  kept = q.kept
      ∙ (ap (λ (k : Option (List CompletedCall)). notes_behind k q.notes) p.kept
      ∙ behind_both a.calls p.notes q.notes);
  traced = adds_both first middle last a.latest b.latest c.latest n m p.notes q.notes rs qs gs ds a.traces b.traces
      c.traces p.traced q.traced;
}

-- nothing was added, and nothing kept
pub kept_none : (renewal : ℕ) (v : Client) (a b : RecorderContents) → b ≡ a → HasKeptAdded renewal v v a b
kept_none renewal v a b e = record {
  added = [];
  records = sym (append-nil v.records);
  attempts = 0;
  number = omega arith;
  aborts = [];
  listed = sym (append-nil (all_aborted v));
  kept = record {
    notes = [];
    are_of = none;
    kept = ap (λ (k : RecorderContents). k.calls) e ∙ sym (behind_none a.calls);
    traced = adds_none renewal v.floor a.latest b.latest a.traces b.traces
        (ap (λ (k : RecorderContents). k.latest) e) (ap (λ (k : RecorderContents). k.traces) e);
  };
}

-- a call that was refused is not recorded, and its attempts are traced
pub kept_refused : (region : RegionShown) (f : Fault) (n : ℕ) (v v' : Client) (a b c : RecorderContents) →
    v'.records ≡ v.records → v.attempt.number + n ≡ v'.attempt.number → GrowsAborted v v' →
    HasTraced IsFitting region {A = Reply} (Err f) v v' a.latest b.latest a.traces b.traces → b.calls ≡ a.calls →
    c ≡ b →
    HasKeptAdded region.renewal v v' a c
kept_refused region f n v v' a b c same begun grows attempts calls e = record {
  added = [];
  records = same ∙ sym (append-nil v.records);
  attempts = n;
  number = begun;
  aborts = grows.0;
  listed = grows.1;
  kept = record {
    notes = [];
    are_of = none;
    kept = ap (λ (k : RecorderContents). k.calls) e ∙ (calls ∙ sym (behind_none a.calls));
    traced = subst (λ (k : RecorderContents). AddsTraces (reader_at region.renewal v.floor)
        (reader_at region.renewal v'.floor) a.latest k.latest n [] [] grows.0 a.traces k.traces) (sym e)
        (adds_refused {E = Fault} region f v v' a.latest b.latest n a.traces b.traces grows.0 begun grows.1 attempts);
  };
}

-- the last attempt that was traced is the one that was answered
is_of_answer : (fits : List ℕ → Type 0) (region : RegionShown) (reply : Reply) (v v' : Client)
    (from to : ℕ) (before traced : Option (List Trace)) (t : Trace) →
    HasTraced fits region {X = Fault} (Ok reply) v v' from to before traced → IsLastTraced traced t → IsOfAdded v v' t
is_of_answer fits region reply v v' from to before traced t h last =
    let k = h.each (last.0 ++ (t ∷ [])) last.1 in
    let a = k.4 in
    let e : last.0 ++ (t ∷ []) ≡ (k.0 ++ a.0) ++ (a.1 ∷ []) =
    k.3 ∙ (ap (λ (l : List Trace). k.0 ++ l) a.2 ∙ sym (append_assoc k.0 a.0 (a.1 ∷ []))) in
    subst (λ (x : Trace). IsOfAdded v v' x) (sym (same_last last.0 (k.0 ++ a.0) t a.1 e)) a.4

-- it made the record that was added
is_of_record : (v v' : Client) (r : Record) (t : Trace) → v'.records ≡ v.records ++ (r ∷ []) → IsOfAdded v v' t →
    IsTraceOf t r
is_of_record v v' r t e h = subst (λ (x : Record). IsTraceOf t x)
    (same_last v.records v.records h.added r (sym h.records ∙ e)) h.is

-- so did the one that is noted, if any is
noted_made : (fits : List ℕ → Type 0) (region : RegionShown) (o : Option (Box TracedAttempt)) (reply : Reply)
    (v v' : Client) (r : Record) (from to : ℕ)
    (before traced : Option (List Trace)) → v'.records ≡ v.records ++ (r ∷ []) →
    HasTraced fits region {X = Fault} (Ok reply) v v' from to before traced →
    IfSome o (λ a. IsLastTraced traced (trace_of a.value)) → IfSome o (λ a. IsTraceOf (trace_of a.value) r)
noted_made fits region (Some a) reply v v' r from to before traced e h last = is_of_record v v' r (trace_of a.value) e
    (is_of_answer fits region reply v v' from to before traced (trace_of a.value) h last)
noted_made fits region None reply v v' r from to before traced e h last = tt

-- the call that added a record was kept
pub kept_one : (region : RegionShown) (t : Task) (p : PlacedReply) (n : ℕ) (v v' : Client) (a b c : RecorderContents) →
    AddsAt region.renewal (code t p.reply) p.place v v' → v.attempt.number + n ≡ v'.attempt.number →
    GrowsAborted v v' →
    HasTraced IsFitting region {X = Fault} (Ok p.reply) v v' a.latest b.latest a.traces b.traces →
    b.calls ≡ a.calls → HasKept t p b.traces b.calls c.calls → HasTakenOut b.traces c.traces →
    c.latest ≡ b.latest → HasKeptAdded region.renewal v v' a c
kept_one region t p n v v' a b c adds begun grows attempts same h taken time = record {
  added = adds.adds.added ∷ [];
  records = adds.adds.records;
  attempts = n;
  number = begun;
  aborts = grows.0;
  listed = grows.1;
  kept = record {
    notes = h.note ∷ [];
    are_of = both (record {
      tag = rw h.task (rw h.reply adds.adds.tag_is);
      place = h.place ∙ adds.place_is;
      attempt = noted_made IsFitting region h.note.attempt p.reply v v' adds.adds.added a.latest b.latest a.traces
          b.traces adds.adds.records attempts h.attempt;
    }) none;
    kept = h.kept ∙ ap (λ (k : Option (List CompletedCall)). notes_behind k (h.note ∷ [])) same;
    traced = subst (λ (to : ℕ). AddsTraces (reader_at region.renewal v.floor) (reader_at region.renewal v'.floor)
        a.latest to n (h.note ∷ []) (adds.adds.added ∷ []) grows.0 a.traces c.traces) (sym time)
        (adds_answered {E = Fault} region (code t p.reply) p.place p.reply v v' h.note a.latest b.latest n a.traces
        b.traces c.traces grows.0 adds begun grows.1 attempts h.attempt taken);
  };
}

all_begun : (a b c n m : ℕ) → a + n ≡ b → b + m ≡ c → a + (n + m) ≡ c
all_begun a b c n m e f = omega (arith, e, f)

-- one behind the other
pub kept_both : (renewal : ℕ) (v w u : Client) (a b c : RecorderContents) → HasKeptAdded renewal v w a b →
    HasKeptAdded renewal w u b c → HasKeptAdded renewal v u a c
kept_both renewal v w u a b c p q = record {
  added = p.added ++ q.added;
  records = q.records ∙ (ap (λ (l : List Record). l ++ q.added) p.records ∙ append_assoc v.records p.added q.added);
  attempts = p.attempts + q.attempts;
  number = all_begun v.attempt.number w.attempt.number u.attempt.number p.attempts q.attempts p.number q.number;
  aborts = p.aborts ++ q.aborts;
  listed = q.listed ∙ (ap (λ (l : List Aborted). l ++ q.aborts) p.listed
      ∙ append_assoc (all_aborted v) p.aborts q.aborts);
  kept = are_kept_both (reader_at renewal v.floor) (reader_at renewal w.floor) (reader_at renewal u.floor) p.attempts
      q.attempts p.added q.added p.aborts q.aborts a b c p.kept q.kept;
}

as_many : (n m k l : ℕ) → n + m ≡ k → n + l ≡ k → m ≡ l
as_many n m k l e f = omega (arith, e, f)

-- the calls of exactly these records, and this number of attempts, were kept
pub kept_added : (renewal : ℕ) (v v' : Client) (n : ℕ) (rs : List Record) (a b : RecorderContents) →
    v'.records ≡ v.records ++ rs → v.attempt.number + n ≡ v'.attempt.number → (h : HasKeptAdded renewal v v' a b) →
    AreKeptBetween (reader_at renewal v.floor) (reader_at renewal v'.floor) n rs h.aborts a b
kept_added renewal v v' n rs a b e begun h =
    let first = reader_at renewal v.floor in
    let last = reader_at renewal v'.floor in
    subst (λ (k : ℕ). AreKeptBetween first last k rs h.aborts a b)
    (as_many v.attempt.number h.attempts v'.attempt.number n h.number begun)
    (subst (λ (l : List Record). AreKeptBetween first last h.attempts l h.aborts a b)
    (same_rest v.records h.added rs (sym h.records ∙ e)) h.kept)

-- the same from some position to another one
pub kept_all : (renewal : ℕ) (v v' : Client) (n : ℕ) (rs : List Record) (a b : RecorderContents) →
    v'.records ≡ v.records ++ rs → v.attempt.number + n ≡ v'.attempt.number → (h : HasKeptAdded renewal v v' a b) →
    AreKept n rs h.aborts a b
kept_all renewal v v' n rs a b e begun h = record {
  first = reader_at renewal v.floor;
  last = reader_at renewal v'.floor;
  between = kept_added renewal v v' n rs a b e begun h;
}

-- the same from an earlier position on
pub kept_from : (p q last : CommitPosition) (n : ℕ) (rs : List Record) (gs : List Aborted) (a b : RecorderContents) →
    IsNotAfter p q → AreKeptBetween q last n rs gs a b → AreKeptBetween p last n rs gs a b
kept_from p q last n rs gs a b less h = record {
  notes = h.notes;
  are_of = h.are_of;
  kept = h.kept;
  traced = λ all is. (
      let o = h.traced all is in
      let k = o.are_made in
      record {
        earlier = o.earlier;
        before_is = o.before_is;
        left = o.left;
        all_are = o.all_are;
        made = o.made;
        number = o.number;
        are_made = record {
          ascending = ascending_from p q last o.made less k.ascending;
          turns = k.turns;
          of_records = k.of_records;
          of_calls = k.of_calls;
          listed = k.listed;
          aborted = k.aborted;
        };
        are_left = o.are_left;
      });
}

-- where the last of two was answered, both were kept
pub kept_then : {X E : Type 0} (renewal : ℕ) (v w u : Client) (a b c : RecorderContents) (result : Result X E) →
    HasKeptAdded renewal v w a b →
    IfOk result (λ _. HasKeptAdded renewal w u b c) → IfOk result (λ _. HasKeptAdded renewal v u a c)
kept_then renewal v w u a b c (Ok x) p q = kept_both renewal v w u a b c p q
kept_then renewal v w u a b c (Err e) p q = tt
