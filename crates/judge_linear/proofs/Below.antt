-- Findings of the searches at a level, as findings for the text.
use Rattle.std.proofs.Common.{◌≡◌, ◌≢◌, ℕ, ◌+◌, ◌-◌, ◌^◌, ◌≤◌, List, inl, inr, refl, sym, ap, ◌∙◌, subst, arith}
use Rattle.std.specs.Prelude.{None}
use Rattle.vac_model.specs.declared.limits.TheConstants.{MOST_BLOCKS}
use Rattle.vac_model.specs.declared.tasks.Task.{Task}
use Rattle.vac_model.specs.State.{State, empty_state}
use Rattle.vac_lines.specs.Lines.{lines_of}
use Rattle.judge_calls.specs.Laws.{Lists}
use Rattle.judge_object.specs.declared.line.Line.{Line}
use Rattle.judge_object.specs.Orders.{IsMerge}
use Rattle.judge_object.specs.declared.level.Level.{Level}
use Rattle.judge_object.specs.declared.level.Level.TheVariants as level
use Rattle.judge_object.specs.Levels.{keeps_all_of}
use Rattle.judge_object.specs.Relaxed.{PendingAreLast}
use Rattle.judge_reservations.specs.Reserving.{reserving}
use Rattle.judge_search.specs.declared.calls.Calls.{Calls}
use Rattle.judge_search.specs.declared.point.Point.{Point}
use Rattle.judge_search.specs.declared.walk.Found.{Found}
use Rattle.judge_search.specs.Calls.{calls_of}
use Rattle.judge_search.specs.Configurations.{start}
use Rattle.judge_search.specs.Judging.{IsFoundIn}
use Rattle.judge_search.specs.Point.{point_at}
use Rattle.judge_search.specs.Searching.{HasRun}
use Rattle.judge_search.specs.Sorting.{AreSortOf}
use Rattle.judge_search.specs.Walk.{InTurn, IsWhole}
use Rattle.judge_search.proofs.Judged.{whole_kept}
use Rattle.judge_linear.specs.declared.history.History.{History}
use Rattle.judge_linear.specs.declared.order.SearchResult.{SearchResult}
use Rattle.judge_linear.specs.declared.order.SearchResult.TheVariants as judged
use Rattle.judge_linear.specs.declared.order.SearchedCalls.{SearchedCalls}
use Rattle.judge_linear.specs.declared.ordering.Outcome.{Outcome}
use Rattle.judge_linear.specs.declared.ordering.Outcome.TheVariants as outcome
use Rattle.judge_linear.specs.Found.{FoundOfText, Wrong, Order, NoOrder, IllegalPart, Undecided, IsFound}
use Rattle.judge_linear.specs.Found.{RunsGiven, RunsBefore}
use Rattle.judge_linear.specs.Judged.{IsJudged, AreRelaxed, IsJudgedAs, HasSearched, IsOrder, HasFoundOrder}
use Rattle.judge_linear.specs.Judged.{IsJudgedFirst, IsJudgedBelow, IsJudgedAt, IsReadAt}
use Rattle.judge_linear.specs.Found.{found_text}
use Rattle.judge_linear.specs.Ordering.{outcome_of, FindsText}
use Rattle.judge_linear.specs.Reading.{IsHeld, AreKeptLines, texts_of, numbers_of, first_wrong}
use Rattle.judge_linear.specs.Relaxed.{AreRelaxedCalls}
use Rattle.judge_linear.proofs.Kept.{kept_lines}
use Rattle.judge_linear.proofs.Freed.{freed_lines, freed_are, freed_calls, relaxed_texts, relaxed_kept, sorted_kept}
use Rattle.judge_linear.proofs.Freed.{turn_relaxed, whole_relaxed, pending_last}
use Rattle.judge_linear.proofs.Founds.{kept_are, kept_same}
use Rattle.judge_linear.proofs.Written.{strongest, illegal_not, undecided_not}

-- lines as they are given
pub as_given : (lines sorted : List (Line Task)) → AreKeptLines lines sorted →
    AreRelaxed level.Linearizable lines sorted
as_given lines sorted k = record { relaxed = lines; texts = refl; calls = refl; are_kept = k }

pub held_last : (history : History) → IsHeld history → PendingAreLast (calls_of history.lines.items)
held_last history held = pending_last (calls_of history.lines.items) held.turn held.timed

pub given_whole : (history : History) (calls : Calls Task) → IsHeld history →
    (InTurn (calls_of history.lines.items) →
    IsMerge (calls_of history.lines.items) (calls_of calls.lines.items)) → IsWhole (calls_of calls.lines.items)
given_whole history calls held merges =
    whole_kept reserving (calls_of history.lines.items) (calls_of calls.lines.items) (merges held.turn)
    (record { turn = held.turn; last = 2 ^ 64 - 1; timed = held.timed })

pub given_judged : (history : History) (calls : Calls Task) (s : State) (steps : ℕ) (j : SearchResult) →
    IsHeld history → AreSortOf history.lines.items calls.lines.items →
    (InTurn (calls_of history.lines.items) →
    IsMerge (calls_of history.lines.items) (calls_of calls.lines.items)) → IsJudged s calls steps j →
    IsJudgedAs level.Linearizable s history.lines.items steps (record { calls = calls; judged = j })
given_judged history calls s steps j held sort merges is = record {
  relaxed = as_given history.lines.items calls.lines.items
      (kept_lines history.lines.items calls.lines.items held.numbered (merges held.turn) sort);
  judged = is;
}

-- ---- the search of a history as it is given, and then at a level

module _ (want : Level) (n steps bound : ℕ) (history : History) (held : IsHeld history) (calls : Calls Task)
    (sort : AreSortOf history.lines.items calls.lines.items)
    (merges : InTurn (calls_of history.lines.items) →
    IsMerge (calls_of history.lines.items) (calls_of calls.lines.items)) (found : Found (Point State))
    (f : IsFoundIn reserving (point_at reserving calls) (empty_state n) (calls_of calls.lines.items) bound found)
    (small : bound + bound ≤ steps) where
  abbrev lines : List (Line Task)
  lines = history.lines.items

  kept : AreKeptLines lines calls.lines.items
  kept = kept_lines lines calls.lines.items held.numbered (merges held.turn) sort

  has_searched : HasSearched (empty_state n) lines found.steps
  has_searched = record { sorted = calls.lines.items; are_kept = kept; run = f.run }

  relaxed_sort : AreRelaxed want lines (freed_lines want calls.lines.items)
  relaxed_sort = record {
    relaxed = freed_lines want lines;
    texts = relaxed_texts want lines (freed_lines want lines) (freed_are want lines);
    calls = freed_calls want lines held.numbered;
    are_kept = relaxed_kept want lines calls.lines.items (freed_lines want calls.lines.items) held.numbered sort kept
        (freed_are want calls.lines.items);
  }

  together : found.steps + (steps - found.steps) ≡ steps
  together = let within = f.within in omega (arith, small)

  half : found.steps + found.steps ≤ steps
  half = let within = f.within in omega (arith, small)

  as_made : IsFoundIn reserving (point_at reserving calls) (empty_state n) (calls_of calls.lines.items) found.steps
      found
  as_made = record { within = omega arith; run = f.run; finds = f.finds; spent = λ u. refl }

  pub first_found : IsOrder found.finding →
      IsJudgedBelow want (empty_state n) lines steps (record { calls = calls; judged = judged.AllCalls found })
  first_found order = record {
    given = found.steps;
    left = steps - found.steps;
    together = together;
    half = half;
    before = has_searched;
    sorted = freed_lines want calls.lines.items;
    relaxed = relaxed_sort;
    judged = inl (record { relaxed = as_given lines calls.lines.items kept; judged = as_made }, order);
  }

  module _ (below : want ≢ level.Linearizable) (others : Calls Task)
      (r : AreRelaxedCalls want calls.lines.items others) where
    turn : InTurn (calls_of r.relaxed)
    turn = turn_relaxed want lines calls.lines.items r.relaxed below held.numbered sort (merges held.turn)
        (held_last history held) r.are

    pub below_whole : IsWhole (calls_of others.lines.items)
    below_whole =
        whole_kept reserving (calls_of r.relaxed) (calls_of others.lines.items) (r.merges turn)
        (whole_relaxed want lines calls.lines.items r.relaxed (2 ^ 64 - 1) below held.numbered sort (merges held.turn)
        (held_last history held) r.are held.timed)

    relaxed_others : AreRelaxed want lines others.lines.items
    relaxed_others = record {
      relaxed = freed_lines want lines;
      texts = relaxed_texts want lines (freed_lines want lines) (freed_are want lines);
      calls = freed_calls want lines held.numbered;
      are_kept = sorted_kept (freed_lines want lines) r.relaxed others.lines.items
          (relaxed_kept want lines calls.lines.items r.relaxed held.numbered sort kept r.are) r.same (r.merges turn);
    }

    pub below_judged : (j : SearchResult) → IsJudged (empty_state n) others (steps - found.steps) j →
        IsJudgedBelow want (empty_state n) lines steps (record { calls = others; judged = j })
    below_judged j is = record {
      given = found.steps;
      left = steps - found.steps;
      together = together;
      half = half;
      before = has_searched;
      sorted = freed_lines want calls.lines.items;
      relaxed = relaxed_sort;
      judged = inr (record { relaxed = relaxed_others; judged = is });
    }

pub at_below : (want : Level) (s : State) (calls : List (Line Task)) (steps : ℕ) (searched : SearchedCalls) →
    want ≢ level.Linearizable → IsJudgedBelow want s calls steps searched → IsJudgedAt want s calls steps searched
at_below level.Linearizable s calls steps searched below h = absurd (below refl)
at_below level.Sequential s calls steps searched below h = h
at_below level.Serializable s calls steps searched below h = h

-- ---- what is found of the text

-- an order that keeps all order is found at each level
order_below : (want : Level) (n steps given : ℕ) (bytes text : List ℕ) →
    FindsText level.Linearizable n given bytes outcome.Ordered text → FindsText want n steps bytes outcome.Ordered text
order_below want n steps given bytes text f = go f.found f.is f.answered f.text_is
  where
    go : (found : FoundOfText) → IsFound level.Linearizable n given bytes found →
        outcome.Ordered ≡ outcome_of found → text ≡ found_text bytes found →
        FindsText want n steps bytes outcome.Ordered text
    go (Wrong verdict) is a t = absurd (illegal_not a)
    go (Order numbers) is a t = record {
      found = Order numbers;
      is = record {
        shown = is.shown;
        keeps = ap (λ shown. keeps_all_of shown want) (strongest is.shown is.keeps);
        ordered = is.ordered;
      };
      answered = refl;
      text_is = t;
    }
    go (NoOrder most stuck) is a t = absurd (illegal_not a)
    go (IllegalPart line customers items stuck states) is a t = absurd (illegal_not a)
    go (Undecided most) is a t = absurd (undecided_not a)

module _ (n steps : ℕ) (history : History) (held : IsHeld history) (few : n ≤ MOST_BLOCKS) (bytes : List ℕ)
    (texts : texts_of history.lines.items ≡ lines_of bytes) (listed : Lists bytes (calls_of history.lines.items))
    (right : first_wrong bytes ≡ None) (searched : SearchedCalls) (result : Outcome) (text : List ℕ)
    (prints : (kept : Level) (lines : List (Line Task)) (n given left : ℕ) (bytes : List ℕ) → n ≤ MOST_BLOCKS →
    AreKeptLines lines searched.calls.lines.items → IsJudged (empty_state n) searched.calls left searched.judged →
    (read : IsReadAt kept bytes lines) → RunsBefore kept n bytes read.calls given → given ≤ left →
    FindsText kept n (given + left) bytes result text)
    (order : HasFoundOrder searched.judged → result ≡ outcome.Ordered) where
  abbrev all : List (Line Task)
  all = history.lines.items

  read_at : (want : Level) (sorted : List (Line Task)) (r : AreRelaxed want all sorted) → IsReadAt want bytes r.relaxed
  read_at want sorted r = record {
    texts = r.texts ∙ texts;
    calls = calls_of all;
    listed = listed;
    right = right;
    last = held_last history held;
    are = r.calls;
  }

  told_given : (left : ℕ) → IsJudgedAs level.Linearizable (empty_state n) all left searched →
      FindsText level.Linearizable n left bytes result text
  told_given left h =
      subst (λ m. FindsText level.Linearizable n m bytes result text) (omega arith)
      (prints level.Linearizable h.relaxed.relaxed n 0 left bytes few h.relaxed.are_kept h.judged
      (read_at level.Linearizable searched.calls.lines.items h.relaxed) refl (omega arith))

  runs_given : (given : ℕ) → HasSearched (empty_state n) all given → RunsGiven n bytes (calls_of all) given
  unfolding as_given read_at
  runs_given given h =
      let read = read_at level.Linearizable h.sorted (as_given all h.sorted h.are_kept) in
      record {
        numbers = numbers_of h.sorted;
        are_kept = kept_are level.Linearizable all h.sorted h.are_kept bytes read;
        run = subst (λ cs. HasRun reserving given (start (empty_state n) cs))
            (kept_same level.Linearizable all h.sorted h.are_kept bytes read) h.run;
      }

  told_below : (want : Level) (h : IsJudgedBelow want (empty_state n) all steps searched) →
      RunsBefore want n bytes (calls_of all) h.given → FindsText want n steps bytes result text
  unfolding read_at
  told_below want h before = go h.judged
    where
      less : h.given ≤ h.left
      less = let own = h.together in let half = h.half in omega arith

      go : IsJudgedFirst want (empty_state n) all h.given h.left searched → FindsText want n steps bytes result text
      go (inl found) =
          let ordered_is = order found.1 in
          subst (λ o. FindsText want n steps bytes o text) (sym ordered_is)
          (order_below want n steps h.given bytes text
          (subst (λ o. FindsText level.Linearizable n h.given bytes o text) ordered_is (told_given h.given found.0)))
      go (inr j) =
          subst (λ m. FindsText want n m bytes result text) h.together
          (prints want j.relaxed.relaxed n h.given h.left bytes few j.relaxed.are_kept j.judged
          (read_at want searched.calls.lines.items j.relaxed) before less)

  pub told_at : (want : Level) → IsJudgedAt want (empty_state n) all steps searched →
      FindsText want n steps bytes result text
  told_at level.Linearizable h = told_given steps h
  told_at level.Sequential h = told_below level.Sequential h (runs_given h.given h.before)
  told_at level.Serializable h = told_below level.Serializable h (runs_given h.given h.before)
