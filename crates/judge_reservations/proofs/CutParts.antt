-- The part of a call as the call stood at a moment: the part of a cut is the cut of the part.
use Rattle.std.proofs.Common.{◌≡◌, ℕ, ◌&&◌, ◌||◌, Bool, true, false, cond, List, [], ◌∷◌, refl, ap, sym, ◌∙◌, arith}
use Rattle.std.specs.Prelude.{Option, Some, None, is_some, nat_le, nat_lt}
use Rattle.std.specs.List.{filter_map, cons_option, list_all}
use Rattle.std.specs.Option.{option_map, option_and_then}
use Rattle.std.proofs.lemmas.Bool.Decides.{nat_tests}
use Rattle.vac_model.specs.declared.tasks.Task.{Task}
use Rattle.vac_model.proofs.Ids.{both_true}
use Rattle.judge_object.specs.declared.span.TheConstants.{NEVER}
use Rattle.judge_object.specs.Call.{Call}
use Rattle.judge_object.specs.Cut.{running, cut_call, cut}
use Rattle.judge_reservations.specs.declared.scope.Scope.{Scope}
use Rattle.judge_reservations.specs.Tasks.{Answered}
use Rattle.judge_reservations.specs.Completed.{task_part}
use Rattle.judge_reservations.specs.Pending.{pending_part}
use Rattle.judge_reservations.specs.Histories.{with_answered, with_pending, replied_part, part_of_call, part_of_history}
use Rattle.judge_reservations.specs.Histories.{fits, is_timed}
use Rattle.judge_reservations.specs.Lines.{has_part}
use Rattle.judge_reservations.specs.Laws.{PartOfCut, CallsOfCutsHaveParts}

pub map_option : {X Y : Type 0} (f : X → Option Y) (o : Option X) (xs : List X) →
    filter_map f (cons_option o xs) ≡ cons_option (option_and_then f o) (filter_map f xs)
map_option f None xs = refl
map_option f (Some x) xs = refl

-- a call, the call without end, or none, by the tests of its times
abbrev at_tests : {X : Type 0} → Bool → Bool → X → X → Option X
at_tests ended begun call without = cond ended (Some call) (cond begun (Some without) None)

none_at : {X : Type 0} (a b : Bool) (o : Option X) → o ≡ None → None ≡ cond a o (cond b o None)
none_at true b o e = sym e
none_at false true o e = sym e
none_at false false o e = refl

pub and_all : (a b : Bool) → a ≡ true → b ≡ true → (a && b) ≡ true
and_all true b e f = f
and_all false b e f = absurd (let never : false ≡ true = e in cc)

-- a running call does not end
never_ends : (end : ℕ) → nat_le NEVER (cond {A = ℕ} (nat_lt end NEVER) NEVER end) ≡ true
never_ends end = go (nat_lt end NEVER) refl
  where
    go : (b : Bool) → nat_lt end NEVER ≡ b → nat_le NEVER (cond {A = ℕ} b NEVER end) ≡ true
    go true e = refl
    go false e = grind (arith, nat_tests, e)

module _ (scope : Scope) where
  module _ (moment : ℕ) (call : Call Task) where
    abbrev ended : Bool
    ended = nat_le call.end moment

    abbrev begun : Bool
    begun = nat_le call.begin moment

    abbrev Of : Option (List ℕ) → Option (Call Task)
    Of given = cond ended (replied_part scope call given) (cond begun (replied_part scope (running call) given) None)

    of_cut : (a b : Bool) → option_and_then (part_of_call scope) (at_tests a b call (running call))
        ≡ cond a (part_of_call scope call) (cond b (part_of_call scope (running call)) None)
    of_cut true b = refl
    of_cut false true = refl
    of_cut false false = refl

    pended : (o : Option Task) → option_and_then (cut_call moment) (option_map (with_pending call) o)
        ≡ cond ended (option_map (with_pending call) o)
        (cond begun (option_map (with_pending (running call)) o) None)
    pended None = none_at {X = Call Task} ended begun None refl
    pended (Some t) = refl

    answered : (o : Option Answered) → option_and_then (cut_call moment) (option_map (with_answered call) o)
        ≡ cond ended (option_map (with_answered call) o)
        (cond begun (option_map (with_answered (running call)) o) None)
    answered None = none_at {X = Call Task} ended begun None refl
    answered (Some a) = refl

    of_part : (given : Option (List ℕ)) → option_and_then (cut_call moment) (replied_part scope call given) ≡ Of given
    of_part None = pended (pending_part scope call.op)
    of_part (Some text) = answered (task_part scope call.op text)

    -- the part of a call as it stood is the part as it stood
    pub call_of_cut : option_and_then (part_of_call scope) (cut_call moment call)
        ≡ option_and_then (cut_call moment) (part_of_call scope call)
    call_of_cut = of_cut ended begun ∙ sym (of_part call.reply)

  pub part_of_cut : PartOfCut scope
  part_of_cut moment [] = refl
  part_of_cut moment (c ∷ cs) =
      map_option (part_of_call scope) (cut_call moment c) (cut moment cs)
      ∙ ap (λ o. cons_option o (part_of_history scope (cut moment cs))) (call_of_cut moment c)
      ∙ ap (cons_option (option_and_then (cut_call moment) (part_of_call scope c))) (part_of_cut moment cs)
      ∙ sym (map_option (cut_call moment) (part_of_call scope c) (part_of_history scope cs))

  -- a running call has a part if the call has one
  running_part : (c : Call Task) → has_part scope c ≡ true → has_part scope (running c) ≡ true
  running_part c e =
      let outer = both_true (fits scope c) (is_timed c) e in
      let inner = both_true (nat_lt c.begin NEVER) (is_some c.reply || nat_le NEVER c.end) outer.1 in
      and_all (fits scope c) (is_timed (running c)) outer.0
      (and_all (nat_lt c.begin NEVER) (is_some c.reply || nat_le NEVER (running c).end) inner.0
      (late (is_some c.reply)))
    where
      late : (known : Bool) → (known || nat_le NEVER (running c).end) ≡ true
      late true = refl
      late false = never_ends c.end

  pub cut_parts : CallsOfCutsHaveParts scope
  cut_parts moment [] e = refl
  cut_parts moment (c ∷ cs) e =
      let both = both_true (has_part scope c) (list_all (has_part scope) cs) e in
      go (nat_le c.end moment) (nat_le c.begin moment) both.0 (cut_parts moment cs both.1)
    where
      go : (a b : Bool) → has_part scope c ≡ true → list_all (has_part scope) (cut moment cs) ≡ true →
          list_all (has_part scope) (cons_option (at_tests a b c (running c)) (cut moment cs)) ≡ true
      go true b here rest = and_all (has_part scope c) (list_all (has_part scope) (cut moment cs)) here rest
      go false true here rest =
          and_all (has_part scope (running c)) (list_all (has_part scope) (cut moment cs)) (running_part c here) rest
      go false false here rest = rest
