-- The first wrong line of a text, and what a call that is not in turn says of all orders.
use Rattle.std.proofs.Common.{◌≡◌, ◌⊎◌, ℕ, ◌+◌, ◌≤◌, Bool, true, false, cond, List, [], ◌∷◌, ◌++◌}
use Rattle.std.proofs.Common.{length, map, take, drop, Option, Some, None, Result, Ok, Err, refl, sym, ap, ◌∙◌, subst}
use Rattle.std.proofs.Common.{inl, inr, arith, append-nil, append_assoc, nat_lt}
use Rattle.std.specs.List.{list_any}
use Rattle.std.proofs.Math.Seq.{drop-append_seam}
use Rattle.vac_lines.specs.Lines.{lines_of}
use Rattle.judge_calls.specs.declared.fault.CallFault.{CallFault}
use Rattle.judge_calls.specs.declared.verdict.CallViolation.TheVariants.{Client, Time, Reply}
use Rattle.judge_calls.specs.declared.verdict.Verdict.{Verdict}
use Rattle.judge_calls.specs.declared.verdict.Verdict.TheVariants.{Legal, Fault, Illegal}
use Rattle.judge_calls.specs.Call.{Call, line_call}
use Rattle.judge_calls.specs.Order.{call_breaks_client}
use Rattle.judge_calls.specs.Verdict.{verdict_text}
use Rattle.judge_calls.specs.Wrongs.{CallsTakeTurns}
use Rattle.judge_object.proofs.Order.{passes}
use Rattle.judge_object.proofs.Tests.{turn_test, time_test, both_false, false_both}
use Rattle.judge_object.specs.Call.{IsBehind, is_completed}
use Rattle.judge_object.specs.Orders.{of_client}
use Rattle.judge_search.specs.Walk.{InTurn}
use Rattle.judge_search.proofs.Each.{Each, test, self}
use Rattle.judge_search.proofs.Places.{times_of, turns_of, in_turn_from}
use Rattle.judge_linear.specs.declared.ordering.Outcome.TheVariants as outcome
use Rattle.judge_linear.specs.Reading.{calls_overlap, wrong_behind, first_wrong}
use Rattle.judge_linear.specs.Found.{FoundOfText, Wrong, Order, NoOrder, IllegalPart, Undecided, IsFound, found_text}
use Rattle.judge_linear.specs.Ordering.{outcome_of}
use Rattle.judge_linear.specs.Wrongs.{IsFirstWrongLine, IsInTurn, WrongIsFirst}
use Rattle.judge_linear.specs.Wrongs.{FirstWrongIsWritten, WrongOrInTurn, LeavesOutFrom, OutOfTurnIsLeftOut}
use Rattle.judge_linear.specs.Wrongs.{OutOfTurnMeansNone}
use Rattle.judge_linear.proofs.Turns.{turn_more}
use Rattle.judge_linear.proofs.Lawful.{tail_same}

true_false : true ≡ false → ⊥
true_false e = cc

none_some : (v : Verdict) → None ≡ Some v → ⊥
none_some v e = cc

some_same : (v w : Verdict) → Some v ≡ Some w → v ≡ w
some_same v w e = cc

-- ---- calls in turn

in_turn : (calls : List Call) → CallsTakeTurns calls → InTurn calls
in_turn calls t = in_turn_from calls t.times t.clients

take_turns : (calls : List Call) → InTurn calls → CallsTakeTurns calls
take_turns calls t = record { times = times_of calls t; clients = turns_of calls t }

each_front : (P : Call → Type 0) (xs ys : List Call) → Each P (xs ++ ys) → Each P xs
each_front P [] ys h = tt
each_front P (x ∷ xs) ys h = (h.0, each_front P xs ys h.1)

each_at : (P : Call → Type 0) (xs : List Call) (c : Call) (ys : List Call) → Each P (xs ++ c ∷ ys) → P c
each_at P [] c ys h = h.0
each_at P (x ∷ xs) c ys h = each_at P xs c ys h.1

turn_front : (xs ys : List Call) → InTurn (xs ++ ys) → InTurn xs
turn_front [] ys h = tt
turn_front (x ∷ xs) ys h = (h.0, each_front (λ d. IsBehind d x) xs ys h.1, turn_front xs ys h.2)

-- a call in turn takes time, and overlaps none before it
last_turn : (xs : List Call) (c : Call) (ys : List Call) → InTurn (xs ++ c ∷ ys) →
    (c.begin ≤ c.end) × (list_any (calls_overlap c) xs ≡ false)
last_turn [] c ys h = (h.0, refl)
last_turn (x ∷ xs) c ys h =
    let more = last_turn xs c ys h.2 in
    let behind : IsBehind c x = each_at (λ d. IsBehind d x) xs c ys h.1 in (
      more.0,
      false_both (calls_overlap c x) (list_any (calls_overlap c) xs) (turn_test x.client c.client c.begin x.end behind)
          more.1,
    )

-- so it does not break the turn of its client
keeps_turn : (xs : List Call) (c : Call) (ys : List Call) → InTurn (xs ++ c ∷ ys) → call_breaks_client xs c ≡ false
keeps_turn xs c ys h =
    let last = last_turn xs c ys h in
    false_both (nat_lt c.end c.begin) (list_any (calls_overlap c) xs) (time_test c.end c.begin last.0) last.1

-- ---- the first wrong line

-- the verdict that a line brings after calls that are in turn
abbrev Brings : List Call → Result Call CallFault → Verdict → Type 0
Brings before (Err fault) verdict = verdict ≡ Fault (length before + 1) fault
Brings before (Ok call) verdict =
    (call_breaks_client before call ≡ true) × (verdict ≡ Illegal (length before + 1) Client)

-- the first line that brings a verdict
record BringsAt (calls : List Call) (lines : List (Result Call CallFault)) (verdict : Verdict) : Type 0 where
  before : List Call
  one : Result Call CallFault
  rest : List (Result Call CallFault)
  listed : lines ≡ map Ok before ++ one ∷ rest
  turn : InTurn (calls ++ before)
  brings : Brings (calls ++ before) one verdict

here : (calls : List Call) (one : Result Call CallFault) (rest : List (Result Call CallFault)) (verdict : Verdict) →
    InTurn calls → Brings calls one verdict → BringsAt calls (one ∷ rest) verdict
here calls one rest verdict t b = record {
  before = [];
  one = one;
  rest = rest;
  listed = refl;
  turn = subst InTurn (sym (append-nil calls)) t;
  brings = subst (λ cs. Brings cs one verdict) (sym (append-nil calls)) b;
}

further : (calls : List Call) (c : Call) (lines : List (Result Call CallFault)) (verdict : Verdict) →
    BringsAt (calls ++ c ∷ []) lines verdict → BringsAt calls (Ok c ∷ lines) verdict
further calls c lines verdict b = record {
  before = c ∷ b.before;
  one = b.one;
  rest = b.rest;
  listed = ap (λ l. Ok c ∷ l) b.listed;
  turn = subst InTurn (append_assoc calls (c ∷ []) b.before) b.turn;
  brings = subst (λ cs. Brings cs b.one verdict) (append_assoc calls (c ∷ []) b.before) b.brings;
}

find : (calls : List Call) (lines : List (Result Call CallFault)) (verdict : Verdict) → InTurn calls →
    wrong_behind calls lines ≡ Some verdict → BringsAt calls lines verdict
find calls [] verdict t h = absurd (none_some verdict h)
find calls (Err fault ∷ rest) verdict t h =
    here calls (Err fault) rest verdict t (sym (some_same (Fault (length calls + 1) fault) verdict h))
find calls (Ok c ∷ rest) verdict t h =
    go (call_breaks_client calls c) refl (λ u g. find (calls ++ c ∷ []) rest verdict u g) h
  where
    go : (b : Bool) → call_breaks_client calls c ≡ b → (InTurn (calls ++ c ∷ []) →
        wrong_behind (calls ++ c ∷ []) rest ≡ Some verdict → BringsAt (calls ++ c ∷ []) rest verdict) →
        cond b (Some (Illegal (length calls + 1) Client)) (wrong_behind (calls ++ c ∷ []) rest) ≡ Some verdict →
        BringsAt calls (Ok c ∷ rest) verdict
    go true e more g =
        here calls (Ok c) rest verdict t (e, sym (some_same (Illegal (length calls + 1) Client) verdict g))
    go false e more g = further calls c rest verdict (more (turn_more calls c t e) g)

brought : (calls : List Call) (one : Result Call CallFault) (rest : List (Result Call CallFault)) (verdict : Verdict) →
    Brings calls one verdict → wrong_behind calls (one ∷ rest) ≡ Some verdict
brought calls (Err fault) rest verdict b = ap (λ v. Some v) (sym b)
brought calls (Ok c) rest verdict b =
    ap (λ x. cond x (Some (Illegal (length calls + 1) Client)) (wrong_behind (calls ++ c ∷ []) rest)) b.0
    ∙ ap (λ v. Some v) (sym b.1)

named : (calls before : List Call) (one : Result Call CallFault) (rest : List (Result Call CallFault))
    (verdict : Verdict) → InTurn (calls ++ before) → Brings (calls ++ before) one verdict →
    wrong_behind calls (map Ok before ++ one ∷ rest) ≡ Some verdict
named calls [] one rest verdict t b =
    brought calls one rest verdict (subst (λ cs. Brings cs one verdict) (append-nil calls) b)
named calls (c ∷ before) one rest verdict t b =
    ap (λ x. cond x (Some (Illegal (length calls + 1) Client)) (wrong_behind (calls ++ c ∷ [])
    (map Ok before ++ one ∷ rest))) (keeps_turn calls c before t)
    ∙ named (calls ++ c ∷ []) before one rest verdict (subst InTurn (sym (append_assoc calls (c ∷ []) before)) t)
    (subst (λ cs. Brings cs one verdict) (sym (append_assoc calls (c ∷ []) before)) b)

-- where no line brings a verdict, all are calls in turn
record AllInTurn (calls : List Call) (lines : List (Result Call CallFault)) : Type 0 where
  more : List Call
  listed : lines ≡ map Ok more
  turn : InTurn (calls ++ more)

some_none : (v : Verdict) → Some v ≡ None → ⊥
some_none v e = cc

none_wrong : (calls : List Call) (lines : List (Result Call CallFault)) → InTurn calls →
    wrong_behind calls lines ≡ None → AllInTurn calls lines
none_wrong calls [] t h = record { more = []; listed = refl; turn = subst InTurn (sym (append-nil calls)) t }
none_wrong calls (Err fault ∷ rest) t h = absurd (some_none (Fault (length calls + 1) fault) h)
none_wrong calls (Ok c ∷ rest) t h =
    go (call_breaks_client calls c) refl (λ u g. none_wrong (calls ++ c ∷ []) rest u g) h
  where
    go : (b : Bool) → call_breaks_client calls c ≡ b → (InTurn (calls ++ c ∷ []) →
        wrong_behind (calls ++ c ∷ []) rest ≡ None → AllInTurn (calls ++ c ∷ []) rest) →
        cond b (Some (Illegal (length calls + 1) Client)) (wrong_behind (calls ++ c ∷ []) rest) ≡ None →
        AllInTurn calls (Ok c ∷ rest)
    go true e more g = absurd (some_none (Illegal (length calls + 1) Client) g)
    go false e more g =
        let all = more (turn_more calls c t e) g in
        record {
          more = c ∷ all.more;
          listed = ap (λ l. Ok c ∷ l) all.listed;
          turn = subst InTurn (append_assoc calls (c ∷ []) all.more) all.turn;
        }

pub first_of : (bytes : List ℕ) (verdict : Verdict) → first_wrong bytes ≡ Some verdict → IsFirstWrongLine bytes verdict
first_of bytes verdict h =
    let at = find [] (map line_call (lines_of bytes)) verdict tt h in
    go at.before at.rest at.one at.listed at.turn at.brings
  where
    go : (before : List Call) (rest : List (Result Call CallFault)) (one : Result Call CallFault) →
        map line_call (lines_of bytes) ≡ map Ok before ++ one ∷ rest → InTurn before → Brings before one verdict →
        IsFirstWrongLine bytes verdict
    go before rest (Err fault) listed turn brings =
        subst (IsFirstWrongLine bytes) (sym brings) (record {
          before = before;
          rest = rest;
          listed = listed;
          number = refl;
          turns = take_turns before turn;
        })
    go before rest (Ok call) listed turn brings =
        subst (IsFirstWrongLine bytes) (sym brings.1) (record {
          before = before;
          call = call;
          rest = rest;
          listed = listed;
          number = refl;
          turns = take_turns before turn;
          broken = λ t. true_false (sym brings.0 ∙ keeps_turn before call [] (in_turn (before ++ call ∷ []) t));
        })

of_first : (bytes : List ℕ) (verdict : Verdict) → IsFirstWrongLine bytes verdict → first_wrong bytes ≡ Some verdict
of_first bytes (Fault line fault) f =
    ap (wrong_behind []) f.listed
    ∙ named [] f.before (Err fault) f.rest (Fault line fault) (in_turn f.before f.turns)
    (ap (λ k. Fault k fault) f.number)
of_first bytes (Illegal line Client) f =
    ap (wrong_behind []) f.listed
    ∙ named [] f.before (Ok f.call) f.rest (Illegal line Client) (in_turn f.before f.turns) (
      passes (call_breaks_client f.before f.call) (λ e. f.broken (take_turns (f.before ++ f.call ∷ [])
          (turn_more f.before f.call (in_turn f.before f.turns) e))),
      ap (λ k. Illegal k Client) f.number,
    )
of_first bytes (Illegal line Time) f = absurd f
of_first bytes (Illegal line (Reply expected)) f = absurd f
of_first bytes (Legal found) f = absurd f

pub wrong_is_first : WrongIsFirst
wrong_is_first kept n steps bytes verdict = (first_of bytes verdict, of_first bytes verdict)

pub first_wrong_is_written : FirstWrongIsWritten
first_wrong_is_written kept n steps bytes result text verdict finds first =
    go finds.found finds.is finds.answered finds.text_is
  where
    wrong : first_wrong bytes ≡ Some verdict
    wrong = of_first bytes verdict first

    go : (found : FoundOfText) → IsFound kept n steps bytes found → result ≡ outcome_of found →
        text ≡ found_text bytes found → (result ≡ outcome.Illegal) × (text ≡ verdict_text verdict)
    go (Wrong other) is a t = (a, t ∙ ap verdict_text (some_same other verdict (sym is ∙ wrong)))
    go (Order numbers) is a t = absurd (none_some verdict (sym is.ordered.right ∙ wrong))
    go (NoOrder most stuck) is a t = absurd (none_some verdict (sym is.are_kept.right ∙ wrong))
    go (IllegalPart line customers items stuck states) is a t =
        absurd (none_some verdict (sym is.are_kept.right ∙ wrong))
    go (Undecided most) is a t = absurd (none_some verdict (sym is.are_kept.right ∙ wrong))

pub wrong_or_in_turn : WrongOrInTurn
wrong_or_in_turn bytes = go (first_wrong bytes) refl
  where
    go : (o : Option Verdict) → first_wrong bytes ≡ o →
        ((verdict : Verdict) × IsFirstWrongLine bytes verdict) ⊎ IsInTurn bytes
    go (Some verdict) e = inl (verdict, first_of bytes verdict e)
    go None e =
        let all = none_wrong [] (map line_call (lines_of bytes)) tt e in
        inr (record { calls = all.more; listed = all.listed; turns = take_turns all.more all.turn })

-- ---- all orders leave out a call that is not in turn

each_client : (P : Call → Type 0) (k : ℕ) (cs : List Call) → Each P cs → Each P (of_client k cs)
each_client P k [] h = tt
each_client P k (c ∷ cs) h =
    elim (test c.client k) [
      | inl t ↦ rw t.0 (h.0, each_client P k cs h.1)
      | inr t ↦ rw t.0 (each_client P k cs h.1)
    ]

turn_client : (k : ℕ) (cs : List Call) → InTurn cs → InTurn (of_client k cs)
turn_client k [] h = tt
turn_client k (c ∷ cs) h =
    elim (test c.client k) [
      | inl t ↦ rw t.0 (h.0, each_client (λ d. IsBehind d c) k cs h.1, turn_client k cs h.2)
      | inr t ↦ rw t.0 (turn_client k cs h.2)
    ]

client_both : (k : ℕ) (xs ys : List Call) → of_client k (xs ++ ys) ≡ of_client k xs ++ of_client k ys
client_both k [] ys = refl
client_both k (x ∷ xs) ys =
    elim (test x.client k) [
      | inl t ↦ rw t.0 (ap (λ l. x ∷ l) (client_both k xs ys))
      | inr t ↦ rw t.0 (client_both k xs ys)
    ]

client_first : (c : Call) (cs : List Call) → of_client c.client (c ∷ cs) ≡ c ∷ of_client c.client cs
client_first c cs = rw (self c.client) refl

-- a call that overlaps no call of its client overlaps none
client_clear : (c : Call) (xs : List Call) → list_any (calls_overlap c) (of_client c.client xs) ≡ false →
    list_any (calls_overlap c) xs ≡ false
client_clear c [] h = refl
client_clear c (x ∷ xs) h =
    elim (test x.client c.client) [
      | inl t ↦
          let both = both_false (calls_overlap c x) (list_any (calls_overlap c) (of_client c.client xs))
          (rw t.0 at h) in
          false_both (calls_overlap c x) (list_any (calls_overlap c) xs) both.0 (client_clear c xs both.1)
      | inr t ↦
          false_both (calls_overlap c x) (list_any (calls_overlap c) xs)
          (turn_test x.client c.client c.begin x.end (λ e. absurd (t.1 e))) (client_clear c xs (rw t.0 at h))
    ]

-- of two ways to cut a list, the first cut is not behind the second, or the second's next element is in the first part
data Cut (xs ys : List Call) (c : Call) (rest : List Call) (left : List Call) : Type 0 where
  short : length xs ≤ length ys → (more : List Call) → left ≡ more ++ c ∷ rest → Cut xs ys c rest left
  long : (more : List Call) → xs ≡ ys ++ c ∷ more → Cut xs ys c rest left

head_same : (a b : Call) (xs ys : List Call) → a ∷ xs ≡ b ∷ ys → (a ≡ b) × (xs ≡ ys)
head_same a b xs ys e = (cc, cc)

none_cons : (c : Call) (cs : List Call) → ◌≡◌ {A = List Call} [] (c ∷ cs) → ⊥
none_cons c cs e = cc

cut : (xs left ys : List Call) (c : Call) (rest : List Call) → xs ++ left ≡ ys ++ c ∷ rest → Cut xs ys c rest left
cut [] left ys c rest e = short (omega arith) ys e
cut (x ∷ xs) left [] c rest e =
    let two = head_same x c (xs ++ left) rest e in
    long xs (ap (λ a. a ∷ xs) two.0)
cut (x ∷ xs) left (y ∷ ys) c rest e =
    let two = head_same x y (xs ++ left) (ys ++ c ∷ rest) e in
    go (cut xs left ys c rest two.1) two.0
  where
    go : Cut xs ys c rest left → x ≡ y → Cut (x ∷ xs) (y ∷ ys) c rest left
    go (short l more f) same = short (omega (arith, l)) more f
    go (long more f) same = long more (ap (λ a. a ∷ xs) same ∙ ap (λ l. y ∷ l) f)

each_behind : (P : Call → Type 0) (xs ys : List Call) → Each P (xs ++ ys) → Each P ys
each_behind P [] ys h = h
each_behind P (x ∷ xs) ys h = each_behind P xs ys h.1

ok_same : (a b : Call) → ◌≡◌ {A = Result Call CallFault} (Ok a) (Ok b) → a ≡ b
ok_same a b e = cc

none_listed : (one : Result Call CallFault) (rest : List (Result Call CallFault)) → [] ≡ one ∷ rest → ⊥
none_listed one rest e = cc

-- the calls of a text stand around the call of a line
split : (calls before : List Call) (c : Call) (rest : List (Result Call CallFault)) →
    map Ok calls ≡ map Ok before ++ Ok c ∷ rest → (after : List Call) × (calls ≡ before ++ c ∷ after)
split [] [] c rest e = absurd (none_listed (Ok c) rest e)
split [] (b ∷ before) c rest e = absurd (none_listed (Ok b) (map Ok before ++ Ok c ∷ rest) e)
split (x ∷ xs) [] c rest e =
    let two = tail_same (Ok x) (Ok c) (map Ok xs) rest e in
    (xs, ap (λ a. a ∷ xs) (ok_same x c two.0))
split (x ∷ xs) (b ∷ before) c rest e =
    let two = tail_same (Ok x) (Ok b) (map Ok xs) (map Ok before ++ Ok c ∷ rest) e in
    let more = split xs before c rest two.1 in
    (more.0, ap (λ a. a ∷ xs) (ok_same x b two.0) ∙ ap (λ l. b ∷ l) more.1)

take_front : (xs ys : List Call) → take (length xs) (xs ++ ys) ≡ xs
take_front [] [] = refl
take_front [] (y ∷ ys) = refl
take_front (x ∷ xs) ys = ap (λ l. x ∷ l) (take_front xs ys)

pub out_of_turn_is_left_out : OutOfTurnIsLeftOut
out_of_turn_is_left_out n line bytes first calls order listed o l =
    let k = first.call.client in
    let parts = split calls first.before first.call first.rest (sym listed ∙ first.listed) in
    let all : of_client k calls ≡ of_client k first.before ++ first.call ∷ of_client k parts.0 =
    ap (of_client k) parts.1 ∙ client_both k first.before (first.call ∷ parts.0)
    ∙ ap (λ t. of_client k first.before ++ t) (client_first first.call parts.0) in
    let whole : of_client k order ++ of_client k o.left ≡ of_client k first.before ++ first.call ∷ of_client k parts.0 =
    sym (client_both k order o.left) ∙ o.merges k ∙ all in
    go parts.0 parts.1 (cut (of_client k order) (of_client k o.left) (of_client k first.before) first.call
    (of_client k parts.0) whole)
  where
    k : ℕ
    k = first.call.client

    go : (after : List Call) → calls ≡ first.before ++ first.call ∷ after →
        Cut (of_client k order) (of_client k first.before) first.call (of_client k after) (of_client k o.left) →
        LeavesOutFrom calls order k (length first.before)
    go after e (short less more f) = record {
      pending = subst (Each (λ c. is_completed c ≡ false))
          (sym (client_first first.call after) ∙ ap (of_client k) (sym (drop-append_seam first.before
          (first.call ∷ after)) ∙ ap (drop (length first.before)) (sym e)))
          (each_behind (λ c. is_completed c ≡ false) more (first.call ∷ of_client k after)
          (subst (Each (λ c. is_completed c ≡ false)) f (each_client (λ c. is_completed c ≡ false) k o.left o.never)));
      none = subst (λ cs. length (of_client k order) ≤ length (of_client k cs))
          (sym (take_front first.before (first.call ∷ after)) ∙ ap (take (length first.before)) (sym e)) less;
    }
    go after e (long more f) =
        let turn : InTurn (of_client k first.before ++ first.call ∷ more) =
        subst InTurn f (turn_client k order (in_turn_from order l.times l.clients)) in
        let last = last_turn (of_client k first.before) first.call more turn in
        let clear = client_clear first.call first.before last.1 in
        let keeps : call_breaks_client first.before first.call ≡ false =
        false_both (nat_lt first.call.end first.call.begin) (list_any (calls_overlap first.call) first.before)
        (time_test first.call.end first.call.begin last.0) clear in
        absurd (first.broken (take_turns (first.before ++ first.call ∷ [])
        (turn_more first.before first.call (in_turn first.before first.turns) keeps)))

pub out_of_turn_means_none : OutOfTurnMeansNone
out_of_turn_means_none n line bytes first answered calls listed some =
    let left = out_of_turn_is_left_out n line bytes first calls some.order listed some.orders some.linearization in
    let parts = split calls first.before first.call first.rest (sym listed ∙ first.listed) in
    let pending : Each (λ c. is_completed c ≡ false) (first.call ∷ of_client first.call.client parts.0) =
    subst (Each (λ c. is_completed c ≡ false)) (ap (of_client first.call.client)
    (ap (drop (length first.before)) parts.1
    ∙ drop-append_seam first.before (first.call ∷ parts.0)) ∙ client_first first.call parts.0) left.pending in
    true_false (sym answered ∙ pending.0)
