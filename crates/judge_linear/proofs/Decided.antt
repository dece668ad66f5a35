-- The outcome of a search at a level says whether the history is at the level.
use Rattle.std.proofs.Common.{◌*◌, ◌<◌, ◌≡◌, ℕ, List, length, inl, inr, sym, ap, ◌∙◌, subst, arith}
use Rattle.vac_model.specs.State.{empty_state}
use Rattle.judge_calls.specs.Call.{Call}
use Rattle.judge_calls.specs.Laws.{Lists}
use Rattle.judge_object.specs.declared.level.Level.{Level}
use Rattle.judge_object.specs.Relaxed.{relax}
use Rattle.judge_reservations.specs.declared.scope.Scope.{Scope}
use Rattle.judge_reservations.specs.Laws.{IllegalPartsShow}
use Rattle.judge_reservations.specs.Reserving.{reserving}
use Rattle.judge_search.specs.Deciding.{most_steps}
use Rattle.judge_search.proofs.Deciding.{merge_length, undecided_less}
use Rattle.judge_linear.specs.Laws.{IsDecided, OutcomeDecides}
use Rattle.judge_linear.specs.Found.{FoundOfText, Wrong, Order, NoOrder, IllegalPart, Undecided, IsFound}
use Rattle.judge_linear.specs.Found.{IsLeftOpen, relaxed_numbered}
use Rattle.judge_linear.specs.Ordering.{outcome_of}
use Rattle.judge_linear.proofs.Founds.{length_relaxed}
use Rattle.judge_linear.proofs.Lawful.{calls_same, order_is_at_level, no_order_means_none, illegal_part_means_none}
use Rattle.judge_linear.proofs.WrongLines.{first_of}

-- a search that is left open could make few steps
open_less : (kept : Level) (n steps : ℕ) (bytes : List ℕ) (most : ℕ) (calls : List Call) → Lists bytes calls →
    IsLeftOpen kept n bytes steps most → steps < 2 * most_steps (length calls)
open_less kept n steps bytes most calls l h =
    let same : length (relaxed_numbered kept h.calls h.numbers) ≡ length calls =
    sym (merge_length (relax kept h.calls) (relaxed_numbered kept h.calls h.numbers) h.are_kept.merges)
    ∙ length_relaxed kept h.calls
    ∙ ap (λ (cs : List Call). length cs) (calls_same h.calls calls (sym h.are_kept.listed ∙ l)) in
    let less : h.left < most_steps (length calls) = subst (λ (m : ℕ). h.left < most_steps m) same
    (undecided_less reserving (empty_state n) (relaxed_numbered kept h.calls h.numbers) h.left most h.undecided) in
    let together = h.together in
    let half = h.half in
    omega arith

pub outcome_decides : ((scope : Scope) → IllegalPartsShow scope) → OutcomeDecides
outcome_decides show kept n steps bytes result text f calls l =
    subst (IsDecided kept n steps bytes calls) (sym f.answered) (go f.found f.is)
  where
    go : (found : FoundOfText) → IsFound kept n steps bytes found →
        IsDecided kept n steps bytes calls (outcome_of found)
    go (Wrong verdict) is = inr (verdict, first_of bytes verdict is)
    go (Order numbers) is = order_is_at_level kept n steps bytes numbers is calls l
    go (NoOrder most stuck) is = inl (no_order_means_none kept n steps bytes most stuck is calls l)
    go (IllegalPart line customers items stuck states) is =
        inl (illegal_part_means_none show kept n steps bytes line customers items stuck states is calls l)
    go (Undecided most) is = open_less kept n steps bytes most calls l is
