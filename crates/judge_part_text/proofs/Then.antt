-- The text for a history as it stood at a moment.
use Rattle.std.proofs.Common.{◌≡◌, ◌<◌, ◌≤◌, ◌+◌, ◌&&◌, ◌∙◌, ℕ, Bool, true, false, not, List, [], ◌∷◌, Option, Some}
use Rattle.std.proofs.Common.{None}
use Rattle.std.proofs.Common.{refl, sym, ap, subst, inl, arith, ◌||◌, cond, is_some, nat_le, nat_lt}
use Rattle.std.proofs.lemmas.Bool.Decides.{nat_tests}
use Rattle.std.specs.Global.{Vec}
use Rattle.std.specs.List.{list_all, position, cons_option}
use Rattle.vac_model.proofs.Ids.{both_true}
use Rattle.vac_model.specs.declared.tasks.Task.{Task}
use Rattle.vac_model.specs.State.{Place}
use Rattle.judge_object.specs.declared.span.TheConstants.{NEVER}
use Rattle.judge_object.specs.declared.line.Line.{Line}
use Rattle.judge_object.specs.Rules.{given_text}
use Rattle.judge_object.specs.Cut.{cut, cut_call, running}
use Rattle.judge_calls.specs.Call.{Call}
use Rattle.judge_calls.specs.Laws.{Lists}
use Rattle.judge_reservations.specs.declared.scope.Scope.{Scope}
use Rattle.judge_reservations.specs.Scopes.{IsOpen}
use Rattle.judge_reservations.specs.Largest.{HasNoScope}
use Rattle.judge_reservations.specs.Lines.{call_of, calls_of, has_part}
use Rattle.judge_part_text.specs.Until.{had_part, may_have_part, end_at, IsFirstWithoutThen, IsTextThen}
use Rattle.judge_part_text.specs.Until.{IsTextUntil, IsCutTextFor}
use Rattle.judge_part_text.specs.Until.{IsTextOfCut}
use Rattle.judge_part_text.specs.Laws.{IsIllegalFrom}
use Rattle.judge_part_text.proofs.Histories.{same_calls}
use Rattle.judge_part_text.proofs.Without.{all_pass, position_map}
use Rattle.judge_reservations.specs.Histories.{part_of_history, fits}
use Rattle.judge_reservations.specs.Laws.{IllegalPartsShow}
use Rattle.judge_object.proofs.Cuts.{cut_linearizable}
use Rattle.judge_object.specs.Orders.{IsLinearizable}
use Rattle.judge_reservations.specs.Reserving.{reserving}
use Rattle.vac_model.specs.State.{empty_state}
use Rattle.vac_model.specs.declared.limits.TheConstants.{MOST_BLOCKS}

both : (a b : Bool) → a ≡ true → b ≡ true → (a && b) ≡ true
both true b e f = f
both false b e f = absurd (let never : false ≡ true = e in cc)

-- the calls of the cut have parts, if each call had a part or had not begun
cut_all : (scope : Scope) (moment : ℕ) (cs : List Call) → list_all (had_part scope moment) cs ≡ true →
    list_all (has_part scope) (cut moment cs) ≡ true
cut_all scope moment [] h = refl
cut_all scope moment (c ∷ cs) h =
    let two = both_true (had_part scope moment c) (list_all (had_part scope moment) cs) h in
    one (cut_call moment c) two.0 (cut_all scope moment cs two.1)
  where
    one : (o : Option Call) → may_have_part scope o ≡ true → list_all (has_part scope) (cut moment cs) ≡ true →
        list_all (has_part scope) (cons_option o (cut moment cs)) ≡ true
    one None e rest = rest
    one (Some d) e rest = both (has_part scope d) (list_all (has_part scope) (cut moment cs)) e rest

-- the reply of a line's call is known if the line has one
given_some : (r : Option (Vec ℕ)) → is_some (given_text r) ≡ is_some r
given_some None = refl
given_some (Some text) = refl

-- a call ends never, or its reply is known
pub line_ended : (line : Line Task) → (is_some line.reply || nat_le NEVER line.end) ≡ true →
    (is_some (call_of line).reply || nat_le NEVER (call_of line).end) ≡ true
line_ended line e = ap (λ b. b || nat_le NEVER line.end) (given_some line.reply) ∙ e

late_same : (known : Bool) (end : ℕ) → (known || nat_le NEVER end) ≡ true →
    (known || nat_le NEVER (cond {A = ℕ} (nat_lt end NEVER) NEVER end)) ≡ (known || nat_le NEVER end)
late_same true end e = refl
late_same false end e =
    let late : nat_lt end NEVER ≡ false = grind (arith, nat_tests, e) in
    ap (λ b. nat_le NEVER (cond {A = ℕ} b NEVER end)) late

-- a running call has a part if the call has one
running_part : (scope : Scope) (c : Call) → (is_some c.reply || nat_le NEVER c.end) ≡ true →
    has_part scope (running c) ≡ has_part scope c
running_part scope c e =
    ap (λ timed. fits scope c && (nat_lt c.begin NEVER && timed)) (late_same (is_some c.reply) c.end e)

-- a call that had begun had a part if the call has one
pub had_as_is : (scope : Scope) (moment : ℕ) (c : Call) → (is_some c.reply || nat_le NEVER c.end) ≡ true →
    is_some (cut_call moment c) ≡ true → has_part scope c ≡ had_part scope moment c
had_as_is scope moment c e = go (nat_le c.end moment) (nat_le c.begin moment)
  where
    go : (ended begun : Bool) → is_some (cond ended (Some c) (cond begun (Some (running c)) None)) ≡ true →
        has_part scope c ≡ may_have_part scope (cond ended (Some c) (cond begun (Some (running c)) None))
    go true begun h = refl
    go false true h = sym (running_part scope c e)
    go false false h = absurd (let never : false ≡ true = h in cc)

pub had_not_begun : (scope : Scope) (moment : ℕ) (c : Call) → is_some (cut_call moment c) ≡ false →
    true ≡ had_part scope moment c
had_not_begun scope moment c = go (cut_call moment c)
  where
    go : (o : Option Call) → is_some o ≡ false → true ≡ may_have_part scope o
    go None h = refl
    go (Some d) h = absurd (let never : true ≡ false = h in cc)

-- some call had no part, if the cut has no scope
pub none_then : (customers : List ℕ) (items : List Place) (moment : ℕ) (lines : List (Line Task)) (scope : Scope) →
    HasNoScope customers items (cut moment (calls_of lines)) → IsOpen customers items scope →
    position (λ line. not (had_part scope moment (call_of line))) lines ≡ None → ⊥
none_then customers items moment lines scope none bare e = none scope (record {
  customers_are = bare.customers_are;
  items_are = bare.items_are;
  parts = cut_all scope moment (calls_of lines) (all_pass (had_part scope moment) (calls_of lines)
      (position_map call_of (λ call. not (had_part scope moment call)) lines ∙ e));
})

pub first_then : (customers : List ℕ) (items : List Place) (moment : ℕ) (lines : List (Line Task)) (scope : Scope)
    (place : ℕ) → HasNoScope customers items (cut moment (calls_of lines)) → IsOpen customers items scope →
    position (λ line. not (had_part scope moment (call_of line))) lines ≡ Some place →
    IsFirstWithoutThen customers items moment (calls_of lines) (place + 1)
first_then customers items moment lines scope place none bare e = record {
  none = none;
  scope = scope;
  is_open = bare;
  place = place;
  first = position_map call_of (λ call. not (had_part scope moment call)) lines ∙ e;
  number = refl;
}

-- the text at the end of a completed call
pub text_at_end : (customers : List ℕ) (items : List Place) (calls : List Call) (line moment : ℕ) (is_part : Bool)
    (text : List ℕ) → end_at calls line ≡ Some moment → moment < NEVER →
    IsTextThen customers items moment calls is_part text → IsTextUntil customers items calls line is_part text
text_at_end customers items calls line moment true text e l h =
    record { moment = moment; ends = e; early = l; text_is = h }
text_at_end customers items calls line moment false text e l h =
    inl (record { moment = moment; ends = e; early = l; text_is = h })

-- the text for a history whose lines are calls
pub whole_cut : (customers : List ℕ) (items : List Place) (line : ℕ) (bytes : List ℕ) (calls : List Call)
    (is_part : Bool) (text : List ℕ) → Lists bytes calls → IsTextUntil customers items calls line is_part text →
    IsCutTextFor customers items line bytes is_part text
whole_cut customers items line bytes calls true text listed h =
    record { calls = calls; listed = listed; text_is = h }
whole_cut customers items line bytes calls false text listed h =
    inl (record { calls = calls; listed = listed; text_is = h })

-- ---- laws

-- an illegal part of a cut shows that the cut is illegal, and so the history
pub illegal_from : ((scope : Scope) → IllegalPartsShow scope) → (customers : List ℕ) (items : List Place) (line : ℕ)
    (bytes text : List ℕ) (part : IsTextOfCut customers items line bytes true text) →
    (IsLinearizable reserving (empty_state MOST_BLOCKS)
    (part_of_history part.text_is.text_is.scope (cut part.text_is.moment part.calls)) → ⊥) →
    (blocks : ℕ) (calls : List Call) → blocks ≤ MOST_BLOCKS → Lists bytes calls → IsIllegalFrom blocks line calls
illegal_from show customers items line bytes text part illegal blocks calls few listed =
    let moment = part.text_is.moment in
    let then : IsLinearizable reserving (empty_state blocks) (cut moment part.calls) → ⊥ =
    show part.text_is.text_is.scope blocks (cut moment part.calls) few part.text_is.text_is.is_scope.parts illegal in
    subst (IsIllegalFrom blocks line) (same_calls part.calls calls (sym part.listed ∙ listed)) (record {
      then = λ end e l. then (subst (λ m. IsLinearizable reserving (empty_state blocks) (cut m part.calls))
          (some_same end moment (sym e ∙ part.text_is.ends)) l);
      whole = λ l. then (cut_linearizable reserving (empty_state blocks) moment part.calls part.text_is.early l);
    })
  where
    some_same : (x y : ℕ) → Some x ≡ Some y → x ≡ y
    some_same x y e = cc
