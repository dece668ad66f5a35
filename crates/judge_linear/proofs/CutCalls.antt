-- The calls of a part of a history as they stood at a moment.
use Rattle.std.proofs.Common.{◌≡◌, ◌⊎◌, ℕ, ◌+◌, ◌<◌, ◌≤◌, suc, zero, Bool, true, false, cond, List, [], ◌∷◌, ◌++◌, map}
use Rattle.std.proofs.Common.{length}
use Rattle.std.proofs.Common.{Option, Some, None, take, get_or, refl, sym, ap, ◌∙◌, subst, inl, inr, arith}
use Rattle.std.specs.Prelude.{nat_le, slice_get, IfSome}
use Rattle.std.specs.List.{filter_map, cons_option}
use Rattle.std.specs.Option.{option_map}
use Rattle.std.proofs.lemmas.Bool.Decides.{nat_tests}
use Rattle.std.proofs.lemmas.List.{take_more, map-append}
use Rattle.vac_model.specs.declared.limits.TheConstants.{MOST_BLOCKS}
use Rattle.vac_model.specs.declared.tasks.Task.{Task}
use Rattle.vac_model.specs.State.{State, empty_state}
use Rattle.judge_object.specs.declared.span.TheConstants.{NEVER}
use Rattle.judge_object.specs.declared.line.Line.{Line}
use Rattle.judge_object.specs.Call.{Call, IsBehind, EachCall, is_completed}
use Rattle.judge_object.specs.Orders.{IsMerge}
use Rattle.judge_object.specs.Cut.{running, cut_call, cut, line_cut}
use Rattle.judge_object.proofs.Cuts.{at_moment}
use Rattle.judge_object.proofs.CutLines.{cut_calls}
use Rattle.judge_reservations.specs.Lines.{numbered}
use Rattle.judge_reservations.specs.Reserving.{reserving}
use Rattle.judge_search.specs.declared.calls.Calls.{Calls}
use Rattle.judge_search.specs.declared.point.Point.{Point}
use Rattle.judge_search.specs.Calls.{call_of, calls_of}
use Rattle.judge_search.specs.Judging.{HasNoOrder}
use Rattle.judge_search.specs.Point.{made_of, point_at}
use Rattle.judge_search.specs.Stuck.{AreStuck}
use Rattle.judge_search.specs.Walk.{InTurn, IsTimed, IsWhole}
use Rattle.judge_search.proofs.Judged.{whole_kept, none_given}
use Rattle.judge_linear.specs.declared.moments.CutPart.{CutPart}
use Rattle.judge_linear.specs.Moments.{AreCutCalls, EndsAt, IsEndIn, HadNoOrder, HadNoOrderAt}
use Rattle.judge_linear.specs.Relaxed.{IsCopy}

none_some : {X : Type 0} (x : X) → None ≡ Some x → ⊥
none_some x e = cc

some_same : {X : Type 0} (x y : X) → Some x ≡ Some y → x ≡ y
some_same x y e = cc

-- ---- calls that stood in turn

-- a call of a cut is the call that had ended, or the running one
abbrev Stood : ℕ → Call Task → Call Task → Type 0
Stood moment x d =
    ((x.end ≤ moment) × (x ≡ d)) ⊎ ((moment < x.end) × (x.begin ≤ moment) × (running x ≡ d))

stood : (moment : ℕ) (x d : Call Task) → cut_call moment x ≡ Some d → Stood moment x d
stood moment x d e = elim (at_moment moment x) [
  | inl h ↦ inl (h.0, some_same x d (sym h.1 ∙ e))
  | inr more ↦ elim more [
    | inl h ↦ inr (h.0, h.1, some_same (running x) d (sym h.2 ∙ e))
    | inr h ↦ absurd (none_some d (sym h.2 ∙ e))
  ]
]

stood_client : (moment : ℕ) (x d : Call Task) → Stood moment x d → x.client ≡ d.client
stood_client moment x d (inl h) = ap (λ (c : Call Task). c.client) h.1
stood_client moment x d (inr h) = ap (λ (c : Call Task). c.client) h.2

stood_begin : (moment : ℕ) (x d : Call Task) → Stood moment x d → x.begin ≡ d.begin
stood_begin moment x d (inl h) = ap (λ (c : Call Task). c.begin) h.1
stood_begin moment x d (inr h) = ap (λ (c : Call Task). c.begin) h.2

-- what stood in a cut had begun
stood_begun : (moment : ℕ) (x d : Call Task) → x.begin ≤ x.end → Stood moment x d → x.begin ≤ moment
stood_begun moment x d t (inl h) = let ended = h.0 in omega (arith, t, ended)
stood_begun moment x d t (inr h) = h.1

running_late : (answered : Bool) (end moment : ℕ) → moment < end → moment < NEVER →
    moment < cond {A = ℕ} answered NEVER end
running_late true end moment l n = n
running_late false end moment l n = l

each_cut : (moment : ℕ) (P Q : Call Task → Type 0) → ((x d : Call Task) → Stood moment x d → P x → Q d) →
    (cs : List (Call Task)) → EachCall P cs → EachCall Q (cut moment cs)
each_cut moment P Q f [] h = tt
each_cut moment P Q f (c ∷ cs) h = go (cut_call moment c) refl (each_cut moment P Q f cs h.1)
  where
    go : (o : Option (Call Task)) → cut_call moment c ≡ o → EachCall Q (cut moment cs) →
        EachCall Q (cons_option o (cut moment cs))
    go None e rest = rest
    go (Some d) e rest = (f c d (stood moment c d e) h.0, rest)

each_both : (P Q : Call Task → Type 0) (cs : List (Call Task)) → EachCall P cs → EachCall Q cs →
    EachCall (λ c. P c × Q c) cs
each_both P Q [] p q = tt
each_both P Q (c ∷ cs) p q = ((p.0, q.0), each_both P Q cs p.1 q.1)

abbrev TakesTime : Call Task → Type 0
TakesTime call = call.begin ≤ call.end

times_of : (cs : List (Call Task)) → InTurn cs → EachCall TakesTime cs
times_of [] h = tt
times_of (c ∷ cs) h = (h.0, times_of cs h.2)

-- a later call of the client of a call is behind it in the cut
behind : (moment : ℕ) (c b : Call Task) → Stood moment c b → (x d : Call Task) → Stood moment x d →
    IsBehind x c × TakesTime x → IsBehind d b
behind moment c b (inl h) x d s p = λ client.
    let was : c.end ≤ x.begin = p.0 (ap (λ (y : Call Task). y.client) h.1 ∙ client ∙ sym (stood_client moment x d s)) in
    let begin = stood_begin moment x d s in
    let end : c.end ≡ b.end = ap (λ (y : Call Task). y.end) h.1 in
    omega (arith, was, begin, end)
behind moment c b (inr h) x d s p = λ client.
    let was : c.end ≤ x.begin = p.0 (ap (λ (y : Call Task). y.client) h.2 ∙ client ∙ sym (stood_client moment x d s)) in
    let late = h.0 in
    let begun = stood_begun moment x d p.1 s in
    absurd (omega (arith, was, late, begun))

takes_time : (moment : ℕ) (x d : Call Task) → moment < NEVER → Stood moment x d → TakesTime x → TakesTime d
takes_time moment x d n (inl h) t = subst TakesTime h.1 t
takes_time moment x d n (inr h) t =
    let begun = h.1 in
    let late = running_late (is_completed x) x.end moment h.0 n in
    let time : TakesTime (running x) = omega (arith, begun, late) in
    subst TakesTime h.2 time

turn_cut : (moment : ℕ) → moment < NEVER → (cs : List (Call Task)) → InTurn cs → InTurn (cut moment cs)
turn_cut moment n [] h = tt
turn_cut moment n (c ∷ cs) h = go (cut_call moment c) refl (turn_cut moment n cs h.2)
  where
    go : (o : Option (Call Task)) → cut_call moment c ≡ o → InTurn (cut moment cs) →
        InTurn (cons_option o (cut moment cs))
    go None e rest = rest
    go (Some d) e rest =
        let s = stood moment c d e in (
          takes_time moment c d n s h.0,
          each_cut moment (λ x. IsBehind x c × TakesTime x) (λ x. IsBehind x d)
              (behind moment c d s) cs (each_both (λ x. IsBehind x c) TakesTime cs h.1 (times_of cs h.2)),
          rest,
        )

-- the calls are timed by the earlier of two moments
timed_last : (moment last : ℕ) → moment < NEVER → last ≤ moment → (x d : Call Task) → Stood moment x d →
    IsTimed last x × TakesTime x → IsTimed last d
timed_last moment last n l x d s p = record {
  begins = (let was = p.0.begins in let begin = stood_begin moment x d s in omega (arith, was, begin));
  ends = ends s;
}
  where
    ends : Stood moment x d → is_completed d ≡ false → last ≤ d.end
    ends (inl h) e = subst (λ (c : Call Task). is_completed c ≡ false → last ≤ c.end) h.1 p.0.ends e
    ends (inr h) e =
        let late = running_late (is_completed x) x.end moment h.0 n in
        let by : last ≤ (running x).end = omega (arith, l, late) in
        subst (λ (c : Call Task). last ≤ c.end) h.2 by

timed_moment : (moment last : ℕ) → moment < NEVER → moment ≤ last → (x d : Call Task) → Stood moment x d →
    IsTimed last x × TakesTime x → IsTimed moment d
timed_moment moment last n l x d s p = record {
  begins = (let begun = stood_begun moment x d p.1 s in let begin = stood_begin moment x d s in
      omega (arith, begun, begin));
  ends = ends s;
}
  where
    ends : Stood moment x d → is_completed d ≡ false → moment ≤ d.end
    ends (inl h) e =
        let was = subst (λ (c : Call Task). is_completed c ≡ false → last ≤ c.end) h.1 p.0.ends e in
        omega (arith, l, was)
    ends (inr h) e =
        let late = running_late (is_completed x) x.end moment h.0 n in
        let by : moment ≤ (running x).end = omega (arith, late) in
        subst (λ (c : Call Task). moment ≤ c.end) h.2 by

either : (a b : ℕ) → (a ≤ b) ⊎ (b ≤ a)
either a b = go (nat_le a b) refl
  where
    go : (t : Bool) → nat_le a b ≡ t → (a ≤ b) ⊎ (b ≤ a)
    go true e = inl (grind (arith, nat_tests, e))
    go false e = inr (grind (arith, nat_tests, e))

-- the calls of a cut are whole if the calls are
pub whole_cut : (moment : ℕ) (calls : List (Call Task)) → moment < NEVER → IsWhole calls →
    IsWhole (cut moment calls)
whole_cut moment calls n w =
    let both = each_both (IsTimed w.last) TakesTime calls w.timed (times_of calls w.turn) in
    elim (either w.last moment) [
      | inl l ↦ record {
        turn = turn_cut moment n calls w.turn;
        last = w.last;
        timed = each_cut moment (λ x. IsTimed w.last x × TakesTime x) (IsTimed w.last)
            (timed_last moment w.last n l) calls both;
      }
      | inr l ↦ record {
        turn = turn_cut moment n calls w.turn;
        last = moment;
        timed = each_cut moment (λ x. IsTimed w.last x × TakesTime x) (IsTimed moment)
            (timed_moment moment w.last n l) calls both;
      }
    ]

-- ---- lines of such calls

numbered_copy : (line copy : Line Task) → IsCopy line copy → numbered copy ≡ numbered line
numbered_copy line copy h = ap (λ (n : ℕ). (n, call_of copy)) h.number ∙ ap (λ (c : Call Task). (line.number, c)) h.call

pub copies_more : (lines copies after : List (Line Task)) (at : ℕ) (line copy : Line Task) → at < length lines →
    line ≡ get_or lines at line → map numbered copies ≡ map numbered (take at lines) → IsCopy line copy →
    after ≡ copies ++ copy ∷ [] → map numbered after ≡ map numbered (take (at + 1) lines)
copies_more lines copies after at line copy short is e c f =
    ap (map numbered) f ∙ map-append numbered copies (copy ∷ [])
    ∙ ap (λ xs. xs ++ numbered copy ∷ []) e
    ∙ ap (λ x. map numbered (take at lines) ++ x ∷ []) (numbered_copy line copy c ∙ ap numbered is)
    ∙ sym (map-append numbered (take at lines) (get_or lines at line ∷ []))
    ∙ ap (map numbered) (sym (take_more lines at line short))

-- a numbered call as it stood
abbrev pair_cut : ℕ → ℕ × Call Task → Option (ℕ × Call Task)
pair_cut moment x = option_map (λ (call : Call Task). (x.0, call)) (cut_call moment x.1)

filter_mapped : {X Y Z : Type 0} (f : X → Y) (g : Y → Option Z) (xs : List X) →
    filter_map g (map f xs) ≡ filter_map (λ x. g (f x)) xs
filter_mapped f g [] = refl
filter_mapped f g (x ∷ xs) = ap (cons_option (g (f x))) (filter_mapped f g xs)

-- the cut of copies
pub copies_cut : (moment : ℕ) (copies lines : List (Line Task)) → map numbered copies ≡ map numbered lines →
    filter_map (line_cut moment) copies ≡ filter_map (line_cut moment) lines
copies_cut moment copies lines e =
    sym (filter_mapped numbered (pair_cut moment) copies) ∙ ap (filter_map (pair_cut moment)) e
    ∙ filter_mapped numbered (pair_cut moment) lines

-- the calls of lines that are cut
pub calls_cut : (moment : ℕ) (from lines : List (Line Task)) →
    map numbered from ≡ filter_map (line_cut moment) lines → calls_of from ≡ cut moment (calls_of lines)
calls_cut moment from lines e = cut_calls moment from lines e

-- the kept calls of a cut are whole, and its calls
pub kept_cut : (moment : ℕ) (lines : List (Line Task)) (kept : Calls Task) → moment < NEVER →
    IsWhole (calls_of lines) → AreCutCalls moment lines kept →
    IsWhole (calls_of kept.lines.items) × IsMerge (cut moment (calls_of lines)) (calls_of kept.lines.items)
kept_cut moment lines kept n w h =
    let same = calls_cut moment h.from lines h.numbers in
    let own : IsWhole (calls_of h.from) = subst IsWhole (sym same) (whole_cut moment (calls_of lines) n w) in
    let merged = h.merges own.turn in (
      whole_kept reserving (calls_of h.from) (calls_of kept.lines.items) merged own,
      subst (λ cs. IsMerge cs (calls_of kept.lines.items)) same merged,
    )

-- a search of the kept calls of a cut that finds no order shows that the cut has none
pub cut_none : (lines : List (Line Task)) (part : CutPart) (most : ℕ) (point : Point State) →
    part.moment < NEVER → IsWhole (calls_of lines) → AreCutCalls part.moment lines part.calls →
    HasNoOrder reserving (empty_state MOST_BLOCKS) (calls_of part.calls.lines.items) most
    (point_at reserving part.calls point) →
    AreStuck reserving point.machine (made_of point) (calls_of part.calls.lines.items) part.stuck.items →
    1 ≤ length part.stuck.items → HadNoOrder lines part
cut_none lines part most point early whole cuts h are some =
    let kept = kept_cut part.moment lines part.calls early whole cuts in
    record {
      early = early;
      from = cuts.from;
      numbers = cuts.numbers;
      sorted = cuts.sorted;
      merges = kept.1;
      none = none_given reserving (empty_state MOST_BLOCKS) (cut part.moment (calls_of lines))
          (calls_of part.calls.lines.items) kept.1 h.none;
      most = most;
      made = made_of point;
      state = point.machine;
      deepest = h.deepest;
      bound = h.bound;
      are = are;
      some = some;
    }

-- ---- ends of calls

pub at_get : {X : Type 0} (xs : List X) (i : ℕ) (x : X) → i < length xs → x ≡ get_or xs i x → slice_get xs i ≡ Some x
at_get [] i x l e = absurd (omega arith)
at_get (y ∷ ys) zero x l e = ap Some (sym e)
at_get (y ∷ ys) (suc i) x l e = at_get ys i x (omega arith) e

-- a search of the calls at an end found no order
pub at_end : (lines : List (Line Task)) (place moment : ℕ) (found : Option CutPart) → EndsAt lines place moment →
    IfSome found (HadNoOrder lines) → IfSome found (λ part. part.moment ≡ moment) →
    IfSome found (HadNoOrderAt lines place)
at_end lines place moment None ends none same = tt
at_end lines place moment (Some part) ends none same =
    record { ends = subst (EndsAt lines place) (sym same) ends; none = none }

get_at : {X : Type 0} (xs : List X) (i : ℕ) (x d : X) → slice_get xs i ≡ Some x → x ≡ get_or xs i d
get_at [] i x d e = absurd (none_some x e)
get_at (y ∷ ys) zero x d e = some_same x y (sym e)
get_at (y ∷ ys) (suc i) x d e = get_at ys i x d e

pub end_in : (lines : List (Line Task)) (place moment : ℕ) (d : Line Task) → EndsAt lines place moment →
    IsEndIn lines (get_or lines place d).number moment
end_in lines place moment d h = record {
  place = place;
  ends = h;
  number_is = ap (λ (l : Line Task). l.number) (get_at lines place h.line d h.at);
}
