-- What the last end of each client says of a further call.
use Rattle.std.proofs.Common.{◌≡◌, ◌≢◌, ℕ, ◌+◌, ◌==◌, ◌&&◌, ◌||◌, ◌<◌, ◌≤◌, Bool, true, false, not, List, []}
use Rattle.std.proofs.Common.{◌∷◌, ◌++◌, length, Option, Some, None, refl, sym, ap, ◌∙◌, subst, inl, inr}
use Rattle.std.proofs.Common.{arith, nat_lt, nat_le}
use Rattle.std.specs.List.{list_any}
use Rattle.std.specs.Ordering.{nat_cmp, eq_by_cmp}
use Rattle.std.specs.FinMap.{FinMap, get, insert, empty, get-empty, get-insert}
use Rattle.std.proofs.lemmas.Cmp.{nat_cmp_total}
use Rattle.std.proofs.lemmas.Bool.Decides.{nat_tests}
use Rattle.std.proofs.lemmas.List.Folds.{list_any-append}
use Rattle.judge_calls.specs.Call.{Call}
use Rattle.judge_calls.specs.declared.call_line.CallLine.{CallLine}
use Rattle.judge_calls.specs.Parts.{shown_call, shown_end}
use Rattle.judge_calls.specs.Order.{call_breaks_client}
use Rattle.judge_object.specs.declared.span.TheConstants.{NEVER}
use Rattle.judge_object.specs.Call.{IsBehind, EachCall}
use Rattle.judge_object.specs.declared.line.Line.{Line}
use Rattle.judge_linear.specs.declared.history.History.{History}
use Rattle.judge_search.specs.Walk.{InTurn, IsTimed}
use Rattle.judge_search.specs.Calls.{call_of, calls_of}
use Rattle.judge_linear.specs.Reading.{calls_overlap, AreNumbered, began_before, KeepsEnds, IsHeld}
use Rattle.judge_linear.specs.Reading.{Took}
use Rattle.judge_linear.specs.Reading.{texts_of}
use Rattle.std.specs.Prelude.{◌-◌, ◌^◌}
use Rattle.std.proofs.lemmas.List.{map-append}
use Rattle.judge_search.proofs.Each.{test}
use Rattle.vac_model.proofs.Kept.{lt_false}
use Rattle.vac_model.specs.declared.tasks.Task.{Task}

both_false : (a b : Bool) → (a || b) ≡ false → (a ≡ false) × (b ≡ false)
both_false true b h = cc
both_false false b h = (refl, h)

get_here : (m : FinMap nat_cmp ℕ) (a v b : ℕ) → b ≡ a → get (insert m a v) b ≡ Some v
get_here m a v b e =
    let t : eq_by_cmp nat_cmp b a ≡ true = grind (arith, nat_tests) in
    rw (get-insert nat_cmp_total m a v b, t) refl

get_other : (m : FinMap nat_cmp ℕ) (a v b : ℕ) → b ≢ a → get (insert m a v) b ≡ get m b
get_other m a v b ne =
    let t : eq_by_cmp nat_cmp b a ≡ false = grind (arith, nat_tests) in
    rw (get-insert nat_cmp_total m a v b, t) refl

-- where no call was read no client has ended one
pub keeps_none : (ends : FinMap nat_cmp ℕ) (calls : List Call) → ends ≡ empty → calls ≡ [] → KeepsEnds ends calls
keeps_none ends calls e f call =
    ap (list_any (calls_overlap call)) f
    ∙ sym (ap (λ (m : FinMap nat_cmp ℕ). began_before (get m call.client) call.begin) e
    ∙ ap (λ o. began_before o call.begin) (get-empty nat_cmp call.client))

-- the last end of the client and that of a later call
later : (o : Option ℕ) (begin end b : ℕ) → began_before o begin ≡ false → begin ≤ end →
    (began_before o b || (nat_lt b end || false)) ≡ nat_lt b end
later None begin end b h l = or_false (nat_lt b end)
  where
    or_false : (x : Bool) → (x || false) ≡ x
    or_false true = refl
    or_false false = refl
later (Some e) begin end b h l = go (nat_lt b e) refl (nat_lt b end) refl
  where
    go : (x : Bool) → nat_lt b e ≡ x → (y : Bool) → nat_lt b end ≡ y → (x || (y || false)) ≡ y
    go true p true q = refl
    go true p false q = absurd (
        let one : b < e = grind (arith, nat_tests) in
        let two : end ≤ b = grind (arith, nat_tests) in
        let three : e ≤ begin = grind (arith, nat_tests) in omega arith
        )
    go false p true q = refl
    go false p false q = refl

-- one call more
pub keeps_more : (ends : FinMap nat_cmp ℕ) (calls : List Call) (c : Call) → KeepsEnds ends calls →
    call_breaks_client calls c ≡ false
    → KeepsEnds (insert ends c.client c.end) (calls ++ c ∷ [])
keeps_more ends calls c k n d =
    let none = both_false (nat_lt c.end c.begin) (list_any (calls_overlap c) calls) n in
    let own : c.begin ≤ c.end = (let f = none.0 in grind (arith, nat_tests)) in
    let all : list_any (calls_overlap d) (calls ++ c ∷ []) ≡ (began_before (get ends d.client) d.begin || ((c.client ==
    d.client && nat_lt d.begin c.end) || false)) =
    list_any-append (calls_overlap d) calls (c ∷ []) ∙ ap (λ b. b || ((c.client ==
    d.client && nat_lt d.begin c.end) || false)) (k d) in
    elim (test c.client d.client) [
      | inl s ↦
          let over : began_before (get ends d.client) c.begin ≡ false =
          subst (λ q. began_before (get ends q) c.begin ≡ false) s.1 (sym (k c) ∙ none.1) in
          all ∙ ap (λ b. began_before (get ends d.client) d.begin || ((b && nat_lt d.begin c.end) || false)) s.0
          ∙ later (get ends d.client) c.begin c.end d.begin over own
          ∙ sym (ap (λ o. began_before o d.begin) (get_here ends c.client c.end d.client (sym s.1)))
      | inr s ↦
          all ∙ ap (λ b. began_before (get ends d.client) d.begin || ((b && nat_lt d.begin c.end) || false)) s.0
          ∙ or_none (began_before (get ends d.client) d.begin)
          ∙ sym (ap (λ o. began_before o d.begin) (get_other ends c.client c.end d.client (λ e. s.1 (sym e))))
    ]
  where
    or_none : (x : Bool) → (x || false) ≡ x
    or_none true = refl
    or_none false = refl

pub each_more : (P : Call → Type 0) (calls : List Call) (c : Call) → EachCall P calls → P c →
    EachCall P (calls ++ c ∷ [])
each_more P [] c h p = (p, tt)
each_more P (x ∷ xs) c h p = (h.0, each_more P xs c h.1 p)

behind_from : (a b x y : ℕ) → (a == b && nat_lt x y) ≡ false → a ≡ b → y ≤ x
behind_from a b x y h e = grind (arith, nat_tests)

-- the calls are in turn with one more
turn_on : (calls : List Call) (c : Call) → InTurn calls → c.begin ≤ c.end → list_any (calls_overlap c) calls ≡ false →
    InTurn (calls ++ c ∷ [])
turn_on [] c t own h = (own, tt, tt)
turn_on (x ∷ xs) c t own h =
    let two = both_false (calls_overlap c x) (list_any (calls_overlap c) xs) h in (
      t.0,
      each_more (λ later. IsBehind later x) xs c t.1 (behind_from x.client c.client c.begin x.end two.0),
      turn_on xs c t.2 own two.1,
    )

pub turn_more : (calls : List Call) (c : Call) → InTurn calls → call_breaks_client calls c ≡ false →
    InTurn (calls ++ c ∷ [])
turn_more calls c t n =
    let none = both_false (nat_lt c.end c.begin) (list_any (calls_overlap c) calls) n in
    turn_on calls c t (let f = none.0 in grind (arith, nat_tests)) none.1

pub numbered_more : (n : ℕ) (lines : List (Line Task)) (l : Line Task) → AreNumbered n lines →
    l.number ≡ n + length lines →
    AreNumbered n (lines ++ l ∷ [])
numbered_more n [] l h e = (omega arith, tt)
numbered_more n (x ∷ xs) l h e = (h.0, numbered_more (n + 1) xs l h.1 (omega arith))

-- what is said of a call by its times
abbrev fits_behind : Option ℕ → ℕ → Bool
fits_behind None begin = true
fits_behind (Some end) begin = nat_le end begin

said : (o : Option ℕ) (begin : ℕ) → not (began_before o begin) ≡ fits_behind o begin
said None begin = refl
said (Some end) begin = go (nat_lt begin end) refl (nat_le end begin) refl
  where
    go : (x : Bool) → nat_lt begin end ≡ x → (y : Bool) → nat_le end begin ≡ y → not x ≡ y
    go true p true q = absurd (let one : begin < end = grind (arith, nat_tests) in let two : end ≤ begin =
        grind (arith, nat_tests) in omega arith)
    go true p false q = refl
    go false p true q = refl
    go false p false q = absurd (let one : end ≤ begin = grind (arith, nat_tests) in let two : begin < end =
        grind (arith, nat_tests) in omega arith)

pub too_early : (calls : List Call) (c : Call) → c.end < c.begin → false ≡ not (call_breaks_client calls c)
too_early calls c l = let t : nat_lt c.end c.begin ≡ true = grind (arith, nat_tests) in
    sym (ap (λ b. not (b || list_any (calls_overlap c) calls)) t)

said_of : (ends : FinMap nat_cmp ℕ) (calls : List Call) (c : Call) → KeepsEnds ends calls → c.begin ≤ c.end →
    not (call_breaks_client calls c) ≡ fits_behind (get ends c.client) c.begin
said_of ends calls c k l =
    let t : nat_lt c.end c.begin ≡ false = grind (arith, nat_tests) in
    ap (λ b. not (b || list_any (calls_overlap c) calls)) t ∙ ap not (k c) ∙ said (get ends c.client) c.begin

pub said_some : (ends : FinMap nat_cmp ℕ) (calls : List Call) (c : Call) (last : ℕ) → KeepsEnds ends calls →
    c.begin ≤ c.end → get ends c.client ≡ Some last
    → nat_le last c.begin ≡ not (call_breaks_client calls c)
said_some ends calls c last k l e = sym (said_of ends calls c k l ∙ ap (λ o. fits_behind o c.begin) e)

pub said_none : (ends : FinMap nat_cmp ℕ) (calls : List Call) (c : Call) → KeepsEnds ends calls → c.begin ≤ c.end →
    get ends c.client ≡ None → true ≡ not (call_breaks_client calls c)
said_none ends calls c k l e = sym (said_of ends calls c k l ∙ ap (λ o. fits_behind o c.begin) e)

-- a call that is in turn was taken
pub took : (before after : History) (text : List ℕ) (c : Call) (l : Line Task) (n : ℕ) → IsHeld before →
    after.ends ≡ insert before.ends c.client c.end
    → n ≡ length before.lines.items + 1 → l.number ≡ n → l.text.items ≡ text → call_of l ≡ c →
    after.lines.items ≡ before.lines.items ++ l ∷ [] →
    call_breaks_client (calls_of before.lines.items) c ≡ false
    → IsTimed (2 ^ 64 - 1) c → Took before after text c
took before after text c l n h e m number_is text_is call_is p f t =
    let calls : calls_of after.lines.items ≡ calls_of before.lines.items ++ c ∷ [] =
    ap calls_of p ∙ map-append call_of before.lines.items (l ∷ []) ∙
    ap (λ d. calls_of before.lines.items ++ d ∷ []) call_is in
    record {
      fits = f;
      held = record {
        ends = subst (λ cs. KeepsEnds after.ends cs) (sym calls)
            (subst (λ (m : FinMap nat_cmp ℕ). KeepsEnds m (calls_of before.lines.items ++ c ∷ [])) (sym e)
            (keeps_more before.ends (calls_of before.lines.items) c h.ends f));
        turn = subst InTurn (sym calls) (turn_more (calls_of before.lines.items) c h.turn f);
        timed = subst (EachCall (IsTimed (2 ^ 64 - 1))) (sym calls)
            (each_more (IsTimed (2 ^ 64 - 1)) (calls_of before.lines.items) c h.timed t);
        numbered = subst (AreNumbered 1) (sym p) (numbered_more 1 before.lines.items l h.numbered (omega arith));
      };
      texts = ap texts_of p ∙ map-append (λ (x : Line Task). x.text.items) before.lines.items (l ∷ []) ∙
          ap (λ u. texts_of before.lines.items ++ u ∷ []) text_is;
      calls = calls;
    }

-- a call whose begin is a reading of the clock is timed
pub timed_of : (c : CallLine) → c.begin < 2 ^ 64 → IsTimed (2 ^ 64 - 1) (shown_call c)
timed_of c l = record {
  begins = (let b : c.begin ≤ 2 ^ 64 - 1 = omega arith in b);
  ends = λ e. let late = lt_false (shown_end c.end) NEVER e in omega (arith, late);
}

pub not_true : (b : Bool) → not b ≡ true → b ≡ false
not_true true h = cc
not_true false h = refl
