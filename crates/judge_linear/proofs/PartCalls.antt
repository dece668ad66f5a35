-- The part of a history: its calls take their clients' turns, and are parts of the lines with their numbers.
use Rattle.std.proofs.Common.{◌≡◌, ℕ, ◌≤◌, suc, zero, List, [], ◌∷◌, map, refl, sym, ap, ◌∙◌, subst, arith}
use Rattle.std.proofs.Common.{Option, Some, None}
use Rattle.std.specs.Prelude.{All, slice_get}
use Rattle.std.specs.List.{filter_map, cons_option}
use Rattle.std.specs.Option.{option_map, option_and_then}
use Rattle.std.proofs.lemmas.List.{length-map}
use Rattle.std.proofs.lemmas.List.Elements.{All-cons, All-head, All-tail, All-nil}
use Rattle.std.proofs.lemmas.List.Sorted.{All-permutation}
use Rattle.vac_model.specs.declared.tasks.Task.{Task}
use Rattle.judge_object.specs.declared.line.Line.{Line}
use Rattle.judge_object.specs.Call.{Call, IsBehind, EachCall, is_completed}
use Rattle.judge_reservations.specs.declared.scope.Scope.{Scope}
use Rattle.judge_reservations.specs.Tasks.{Answered}
use Rattle.judge_reservations.specs.Completed.{task_part}
use Rattle.judge_reservations.specs.Pending.{pending_part}
use Rattle.judge_reservations.specs.Histories.{with_answered, with_pending, replied_part, part_of_call, part_of_history}
use Rattle.judge_reservations.specs.Lines.{numbered, line_part}
use Rattle.judge_search.specs.Calls.{call_of, calls_of, soonest_of}
use Rattle.judge_search.specs.Sorting.{AreSortOf}
use Rattle.judge_search.specs.Walk.{InTurn, IsTimed, IsWhole}
use Rattle.judge_linear.specs.Reading.{numbers_of, IsLineAt}
use Rattle.judge_linear.specs.Found.{IsGivenAt, AreGivenAt, ArePartsThen, IsEndOf}
use Rattle.judge_linear.specs.Moments.{part_then, IsEndIn, IsWrongPart}
use Rattle.judge_object.specs.Cut.{cut_call, line_cut}
use Rattle.judge_object.proofs.Cuts.{cut_linearizable}
use Rattle.judge_linear.specs.Judged.{HasNoOrderOf}
use Rattle.judge_linear.specs.declared.part.IllegalPart.{IllegalPart}
use Rattle.std.specs.Prelude.{true}
use Rattle.std.specs.List.{list_all}
use Rattle.vac_model.specs.declared.limits.TheConstants.{MOST_BLOCKS}
use Rattle.vac_model.specs.State.{empty_state}
use Rattle.judge_object.specs.Orders.{IsMerge, IsLinearizable}
use Rattle.judge_reservations.specs.Lines.{has_part}
use Rattle.judge_reservations.specs.Reserving.{reserving}
use Rattle.judge_search.proofs.Judged.{whole_kept, none_given}

none_some : {X : Type 0} (x : X) → None ≡ Some x → ⊥
none_some x e = cc

some_same : {X : Type 0} (x y : X) → Some x ≡ Some y → x ≡ y
some_same x y e = cc

-- a call in the place of another
record Stands (c d : Call Task) : Type 0 where
  pub client : d.client ≡ c.client
  pub begin : d.begin ≡ c.begin
  pub end : d.end ≡ c.end
  pub completed : is_completed d ≡ is_completed c

answered : (c d : Call Task) (o : Option Answered) → option_map (with_answered c) o ≡ Some d → Stands c d
answered c d None e = absurd (none_some d e)
answered c d (Some a) e =
    subst (Stands c) (some_same (with_answered c a) d e)
    (record { client = refl; begin = refl; end = refl; completed = refl })

pending : (c d : Call Task) (o : Option Task) → option_map (with_pending c) o ≡ Some d → Stands c d
pending c d None e = absurd (none_some d e)
pending c d (Some t) e =
    subst (Stands c) (some_same (with_pending c t) d e)
    (record { client = refl; begin = refl; end = refl; completed = refl })

stands : (scope : Scope) (c d : Call Task) → part_of_call scope c ≡ Some d → Stands c d
stands scope c d e = go c.reply e
  where
    go : (given : Option (List ℕ)) → replied_part scope c given ≡ Some d → Stands c d
    go None e = pending c d (pending_part scope c.op) e
    go (Some text) e = answered c d (task_part scope c.op text) e

-- what holds of each call holds of each part
each_part : (scope : Scope) (P Q : Call Task → Type 0) → ((c d : Call Task) → Stands c d → P c → Q d) →
    (cs : List (Call Task)) → EachCall P cs → EachCall Q (part_of_history scope cs)
each_part scope P Q f [] h = tt
each_part scope P Q f (c ∷ cs) h = go (part_of_call scope c) refl (each_part scope P Q f cs h.1)
  where
    go : (o : Option (Call Task)) → part_of_call scope c ≡ o → EachCall Q (part_of_history scope cs) →
        EachCall Q (cons_option o (part_of_history scope cs))
    go None e rest = rest
    go (Some d) e rest = (f c d (stands scope c d e) h.0, rest)

behind : (c d : Call Task) → Stands c d → (x y : Call Task) → Stands x y → IsBehind x c → IsBehind y d
behind c d s x y t h = λ client.
    let was : c.end ≤ x.begin = h (sym s.client ∙ client ∙ t.client) in
    omega (arith, was, s.end, t.begin)

turn_part : (scope : Scope) (cs : List (Call Task)) → InTurn cs → InTurn (part_of_history scope cs)
turn_part scope [] h = tt
turn_part scope (c ∷ cs) h = go (part_of_call scope c) refl (turn_part scope cs h.2)
  where
    go : (o : Option (Call Task)) → part_of_call scope c ≡ o → InTurn (part_of_history scope cs) →
        InTurn (cons_option o (part_of_history scope cs))
    go None e rest = rest
    go (Some d) e rest =
        let s = stands scope c d e in
        let time : d.begin ≤ d.end = omega (arith, h.0, s.begin, s.end) in
        (time, each_part scope (λ x. IsBehind x c) (λ y. IsBehind y d) (behind c d s) cs h.1, rest)

timed : (last : ℕ) (c d : Call Task) → Stands c d → IsTimed last c → IsTimed last d
timed last c d s t = record {
  begins = (let was = t.begins in omega (arith, was, s.begin));
  ends = λ e. let was = t.ends (sym s.completed ∙ e) in omega (arith, was, s.end);
}

-- the parts of calls are whole if the calls are
pub whole_part : (scope : Scope) (calls : List (Call Task)) → IsWhole calls → IsWhole (part_of_history scope calls)
whole_part scope calls w = record {
  turn = turn_part scope calls w.turn;
  last = w.last;
  timed = each_part scope (IsTimed w.last) (IsTimed w.last) (timed w.last) calls w.timed;
}

-- what a function gives for the call of a line, with the number of the line
abbrev given_line : (Call Task → Option (Call Task)) → Line Task → Option (ℕ × Call Task)
given_line f line = option_map (λ (call : Call Task). (line.number, call)) (f (call_of line))

module _ (f : Call Task → Option (Call Task)) (lines : List (Line Task)) where
  abbrev PairAt : ℕ × Call Task → Type 0
  PairAt x = IsGivenAt f (calls_of lines) x.0 x.1

  abbrev PartLine : Line Task → Type 0
  PartLine line = IsGivenAt f (calls_of lines) line.number (call_of line)

  pairs_at : (kept : List (Line Task)) → All (IsLineAt lines) kept → All PairAt (filter_map (given_line f) kept)
  pairs_at [] h = All-nil PairAt
  pairs_at (k ∷ ks) h = go (f (call_of k)) refl
      (pairs_at ks (All-tail (IsLineAt lines) k ks h))
    where
      go : (o : Option (Call Task)) → f (call_of k) ≡ o →
          All PairAt (filter_map (given_line f) ks) →
          All PairAt (cons_option (option_map (λ (call : Call Task). (k.number, call)) o)
          (filter_map (given_line f) ks))
      go None e rest = rest
      go (Some d) e rest =
          let own = All-head (IsLineAt lines) k ks h in
          All-cons PairAt (k.number, d) (filter_map (given_line f) ks) (record {
            first = own.first;
            last = subst (λ m. k.number ≤ m) (sym (length-map lines call_of)) own.last;
            is = ap f own.call ∙ e;
          }) rest

  lines_at : (from : List (Line Task)) → All PairAt (map numbered from) → All PartLine from
  lines_at [] h = All-nil PartLine
  lines_at (l ∷ ls) h =
      All-cons PartLine l ls (All-head PairAt (numbered l) (map numbered ls) h)
      (lines_at ls (All-tail PairAt (numbered l) (map numbered ls) h))

  soonest_at : (sorted : List (Line Task)) → All PartLine sorted → All PartLine (soonest_of sorted)
  soonest_at [] h = h
  soonest_at (l ∷ ls) h =
      let own = All-head PartLine l ls h in
      All-cons PartLine _ (soonest_of ls) (record { first = own.first; last = own.last; is = own.is })
      (soonest_at ls (All-tail PartLine l ls h))

  pub are_at : (sorted : List (Line Task)) → All PartLine sorted →
      AreGivenAt f (calls_of lines) (numbers_of sorted) (calls_of sorted)
  are_at [] h = tt
  are_at (l ∷ ls) h = (All-head PartLine l ls h, are_at ls (All-tail PartLine l ls h))

  -- what holds of the pairs holds of the lines in the order in which their calls ended
  pub sorted_at : (from sorted : List (Line Task)) → All PairAt (map numbered from) → AreSortOf from sorted →
      All PartLine sorted
  sorted_at from sorted own s =
      subst (All PartLine) (sym s.2) (soonest_at s.0 (All-permutation PartLine from s.0 s.1 (lines_at from own)))

-- the calls of the part, in the order in which they ended, are parts of the lines with their numbers
pub part_lines : (scope : Scope) (lines kept from sorted : List (Line Task)) → All (IsLineAt lines) kept →
    map numbered from ≡ filter_map (line_part scope) kept → AreSortOf from sorted →
    All (PartLine (part_of_call scope) lines) sorted
part_lines scope lines kept from sorted each e s =
    sorted_at (part_of_call scope) lines from sorted
    (subst (All (PairAt (part_of_call scope) lines)) (sym e) (pairs_at (part_of_call scope) lines kept each)) s

-- and so are the parts as they stood at a moment
module _ (scope : Scope) (moment : ℕ) (lines : List (Line Task)) where
  cut_pairs : (sorted : List (Line Task)) → All (PartLine (part_of_call scope) lines) sorted →
      All (PairAt (part_then scope moment) lines) (filter_map (line_cut moment) sorted)
  cut_pairs [] h = All-nil (PairAt (part_then scope moment) lines)
  cut_pairs (l ∷ ls) h = go (cut_call moment (call_of l)) refl
      (cut_pairs ls (All-tail (PartLine (part_of_call scope) lines) l ls h))
    where
      go : (o : Option (Call Task)) → cut_call moment (call_of l) ≡ o →
          All (PairAt (part_then scope moment) lines) (filter_map (line_cut moment) ls) →
          All (PairAt (part_then scope moment) lines)
          (cons_option (option_map (λ (call : Call Task). (l.number, call)) o) (filter_map (line_cut moment) ls))
      go None e rest = rest
      go (Some d) e rest =
          let own = All-head (PartLine (part_of_call scope) lines) l ls h in
          All-cons (PairAt (part_then scope moment) lines) (l.number, d) (filter_map (line_cut moment) ls) (record {
            first = own.first;
            last = own.last;
            is = ap (option_and_then (cut_call moment)) own.is ∙ e;
          }) rest

  pub then_at : (sorted from cuts : List (Line Task)) → All (PartLine (part_of_call scope) lines) sorted →
      map numbered from ≡ filter_map (line_cut moment) sorted → AreSortOf from cuts →
      ArePartsThen scope moment (calls_of lines) (numbers_of cuts) (calls_of cuts)
  then_at sorted from cuts each e s =
      are_at (part_then scope moment) lines cuts (sorted_at (part_then scope moment) lines from cuts
      (subst (All (PairAt (part_then scope moment) lines)) (sym e) (cut_pairs sorted each)) s)

-- the calls of the part are whole
own_whole : (scope : Scope) (kept from : List (Line Task)) → IsWhole (calls_of kept) →
    calls_of from ≡ part_of_history scope (calls_of kept) → IsWhole (calls_of from)
own_whole scope kept from w e = subst IsWhole (sym e) (whole_part scope (calls_of kept) w)

pub sorted_whole : (scope : Scope) (kept from sorted : List (Line Task)) → IsWhole (calls_of kept) →
    calls_of from ≡ part_of_history scope (calls_of kept) →
    (InTurn (calls_of from) → IsMerge (calls_of from) (calls_of sorted)) → IsWhole (calls_of sorted)
sorted_whole scope kept from sorted w e merges =
    let own = own_whole scope kept from w e in
    whole_kept reserving (calls_of from) (calls_of sorted) (merges own.turn) own

-- if the calls of the part had no order at some moment, the part has none
pub part_none : (kept from : List (Line Task)) (part : IllegalPart) →
    list_all (has_part part.scope) (calls_of kept) ≡ true → IsWhole (calls_of kept) →
    map numbered from ≡ filter_map (line_part part.scope) kept →
    calls_of from ≡ part_of_history part.scope (calls_of kept) →
    (InTurn (calls_of from) → IsMerge (calls_of from) (calls_of part.calls.lines.items)) →
    AreSortOf from part.calls.lines.items → IsWrongPart part.calls.lines.items part.wrong → HasNoOrderOf kept part
part_none kept from part fits whole numbers calls merges sorted wrong =
    let own = own_whole part.scope kept from whole calls in
    let merged = merges own.turn in
    let moment = part.wrong.part.moment in
    let now : IsLinearizable reserving (empty_state MOST_BLOCKS) (calls_of part.calls.lines.items) → ⊥ =
    λ l. wrong.none.none (cut_linearizable reserving (empty_state MOST_BLOCKS) moment
    (calls_of part.calls.lines.items) wrong.none.early l) in
    let none = none_given reserving (empty_state MOST_BLOCKS) (calls_of from) (calls_of part.calls.lines.items) merged
    now in
    record {
      fits = fits;
      from = from;
      numbers = numbers;
      sorted = sorted;
      merges = subst (λ cs. IsMerge cs (calls_of part.calls.lines.items)) calls merged;
      none = subst (λ cs. IsLinearizable reserving (empty_state MOST_BLOCKS) cs → ⊥) calls none;
      wrong = wrong;
    }

-- ---- the call that ended at the moment

number_at : (xs : List (Line Task)) (i : ℕ) (x : Line Task) → slice_get xs i ≡ Some x →
    slice_get (numbers_of xs) i ≡ Some x.number
number_at [] i x e = absurd (none_some x e)
number_at (y ∷ ys) zero x e = ap (λ (l : Line Task). Some l.number) (some_same y x e)
number_at (y ∷ ys) (suc i) x e = number_at ys i x e

call_at_place : (xs : List (Line Task)) (i : ℕ) (x : Line Task) → slice_get xs i ≡ Some x →
    slice_get (calls_of xs) i ≡ Some (call_of x)
call_at_place [] i x e = absurd (none_some x e)
call_at_place (y ∷ ys) zero x e = ap (λ (l : Line Task). Some (call_of l)) (some_same y x e)
call_at_place (y ∷ ys) (suc i) x e = call_at_place ys i x e

pub end_of_line : (lines : List (Line Task)) (number moment : ℕ) → IsEndIn lines number moment →
    IsEndOf (calls_of lines) (numbers_of lines) number moment
end_of_line lines number moment h =
    let line = h.ends.line in record {
      place = h.place;
      number_at = number_at lines h.place line h.ends.at ∙ ap Some h.number_is;
      call = call_of line;
      call_is = call_at_place lines h.place line h.ends.at;
      completed = h.ends.completed;
      end = h.ends.end;
    }
