-- What is found is right.
use Rattle.std.proofs.Common.{◌≡◌, ◌<◌, ◌≤◌, true, Ok, Result, List, [], ◌∷◌, map, refl, sym, ap, ◌∙◌, subst, arith}
use Rattle.judge_calls.specs.declared.fault.CallFault.{CallFault}
use Rattle.judge_calls.specs.Call.{Call}
use Rattle.judge_object.specs.declared.level.Level.{Level}
use Rattle.judge_object.specs.declared.level.Level.TheVariants as level
use Rattle.judge_object.specs.Levels.{IsAt, keeps_all_of}
use Rattle.judge_object.specs.declared.span.TheConstants.{NEVER}
use Rattle.judge_object.specs.Cut.{cut, CutIsLinearizable, CutOfCut}
use Rattle.judge_object.specs.Orders.{IsLinearizable}
use Rattle.judge_object.specs.Relaxed.{relax}
use Rattle.judge_object.proofs.Levels.{linearizable_is_sequential, sequential_is_serializable}
use Rattle.judge_object.proofs.Levels.{relaxed_is_at, at_is_relaxed}
use Rattle.judge_linear.specs.Laws.{OrderIsAtLevel, NoOrderMeansNone, IllegalPartMeansNone, StatesShowFirstEnd}
use Rattle.judge_linear.specs.Found.{relaxed_numbered}
use Rattle.judge_reservations.specs.declared.scope.Scope.{Scope}
use Rattle.judge_reservations.specs.Laws.{IllegalPartsShow}
use Rattle.judge_search.proofs.Judged.{none_given}
use Rattle.judge_reservations.specs.Reserving.{reserving}
use Rattle.judge_linear.proofs.PossibleStates.{first_in}
use Rattle.vac_model.specs.declared.limits.TheConstants.{MOST_BLOCKS}
use Rattle.vac_model.specs.declared.tasks.Task.{Task}
use Rattle.vac_model.specs.State.{State, empty_state}

pub tail_same : (a b : Result Call CallFault) (xs ys : List (Result Call CallFault)) → a ∷ xs ≡ b ∷ ys →
    (a ≡ b) × (xs ≡ ys)
tail_same a b xs ys e = (cc, cc)

ok_same : (a b : Call) → ◌≡◌ {A = Result Call CallFault} (Ok a) (Ok b) → a ≡ b
ok_same a b e = cc

-- a text lists its calls in one way
pub calls_same : (xs ys : List Call) → ◌≡◌ {A = List (Result Call CallFault)} (map Ok xs) (map Ok ys) → xs ≡ ys
calls_same [] [] e = refl
calls_same [] (y ∷ ys) e = cc
calls_same (x ∷ xs) [] e = cc
calls_same (x ∷ xs) (y ∷ ys) e =
    let two = tail_same (Ok x) (Ok y) (map Ok xs) (map Ok ys) e in
    ap (λ c. c ∷ xs) (ok_same x y two.0) ∙ ap (λ l. y ∷ l) (calls_same xs ys two.1)

same_level : (kept shown : Level) → keeps_all_of shown kept ≡ true → (s : State) (calls : List Call) →
    IsAt reserving shown s calls → IsAt reserving kept s calls
same_level level.Linearizable level.Linearizable e s calls h = h
same_level level.Linearizable level.Sequential e s calls h = cc
same_level level.Linearizable level.Serializable e s calls h = cc
same_level level.Sequential level.Linearizable e s calls h = linearizable_is_sequential reserving s calls h
same_level level.Sequential level.Sequential e s calls h = h
same_level level.Sequential level.Serializable e s calls h = cc
same_level level.Serializable level.Linearizable e s calls h =
    sequential_is_serializable reserving s calls (linearizable_is_sequential reserving s calls h)
same_level level.Serializable level.Sequential e s calls h = sequential_is_serializable reserving s calls h
same_level level.Serializable level.Serializable e s calls h = h

pub order_is_at_level : OrderIsAtLevel
order_is_at_level kept n steps bytes numbers h calls l =
    let found = h.ordered in
    subst (IsAt reserving kept (empty_state n)) (calls_same found.calls calls (sym found.listed ∙ l))
    (same_level kept h.shown h.keeps (empty_state n) found.calls
    (relaxed_is_at reserving h.shown (empty_state n) found.calls
    (record { order = _; orders = found.orders; linearization = found.linearization })))

pub no_order_means_none : NoOrderMeansNone
no_order_means_none kept n steps bytes most stuck h calls l some =
    h.none (subst (IsAt reserving kept (empty_state n)) (calls_same calls h.calls (sym l ∙ h.are_kept.listed)) some)

pub illegal_part_means_none : ((scope : Scope) → IllegalPartsShow scope) → IllegalPartMeansNone
illegal_part_means_none show kept n steps bytes line customers items stuck states h calls l some =
    let sorted = relaxed_numbered kept h.calls h.numbers in
    let own = subst (IsAt reserving kept (empty_state n))
    (calls_same calls h.calls (sym l ∙ h.are_kept.listed)) some in
    none_given reserving (empty_state n) (relax kept h.calls) sorted h.are_kept.merges
    (show h.scope n sorted h.blocks h.is_scope.parts h.none)
    (at_is_relaxed reserving kept (empty_state n) h.calls h.are_kept.last own)

-- the parts had an order just before the end if the number of states is given, and so at each earlier moment
pub states_show_first_end : CutOfCut Task → CutIsLinearizable reserving → StatesShowFirstEnd
states_show_first_end again linearizable kept n bytes line customers items stuck count found earlier less =
    let had = found.states_before in
    let next = had.next in
    let early = found.early in
    let number = had.had.number in
    let some = had.had.some in
    let state = first_in had.had.states (omega arith) in
    let left = (had.had.are state.0).0 state.1 in
    let within : earlier ≤ had.before = omega arith in
    let soon : earlier < NEVER = omega arith in
    subst (IsLinearizable reserving (empty_state MOST_BLOCKS)) (again earlier had.before found.parts within soon)
    (linearizable (empty_state MOST_BLOCKS) earlier (cut had.before found.parts) soon
    (record { order = left.order; orders = left.orders; linearization = left.linearization }))
