-- Attempts that have ended.
use Rattle.std.proofs.Common.{◌≡◌, ◌∙◌, sym, ap, subst, Bool, true, List, [], ◌∷◌, ◌++◌, map, Option, Some, Result, Ok}
use Rattle.std.proofs.Common.{Err, None, false, inl, inr, append-nil}
use Rattle.std.specs.Prelude.{IfOk, IfSome}
use Rattle.std.specs.Result.{result_ok}
use Rattle.std.specs.Global.{Box}
use Rattle.vac_manager.specs.declared.note.TracedAttempt.{TracedAttempt}
use Rattle.vac_manager.specs.Tracing.{Trace, trace_of, IsLastTraced}
use Rattle.vac_manager.specs.Keeping.{HasTakenOut}
use Rattle.load_record.specs.Known.{known, committed_trace}

-- all that have ended
abbrev all_ended : Bool → List TracedAttempt → Option TracedAttempt → Option (List Trace)
all_ended whole given at_hand = known whole (map trace_of given ++ committed_trace at_hand)

-- the one that is taken is the last of them
pub last_taken : {E : Type 0} (given : List TracedAttempt) (at_hand : Option TracedAttempt) (a : TracedAttempt)
    (made : Result (Box TracedAttempt) E) (taken : Option (Box TracedAttempt)) (whole : Bool)
    → whole ≡ true → at_hand ≡ Some a → IfOk made (λ b. b.value ≡ a) → taken ≡ result_ok made →
    IfSome taken (λ b. IsLastTraced (all_ended whole given at_hand) (trace_of b.value))
last_taken given at_hand a (Ok b) taken whole all there is e =
    subst (λ (o : Option (Box TracedAttempt)). IfSome o (λ x. IsLastTraced (all_ended whole given at_hand)
    (trace_of x.value)))
    (sym e) (
      map trace_of given,
      ap (λ (w : Bool). all_ended w given at_hand) all ∙ ap (all_ended true given) there ∙
          ap (λ (x : TracedAttempt). Some (map trace_of given ++ trace_of x ∷ [])) (sym is),
    )
last_taken given at_hand a (Err x) taken whole all there is e =
    subst (λ (o : Option (Box TracedAttempt)). IfSome o (λ b. IsLastTraced (all_ended whole given at_hand)
    (trace_of b.value)))
    (sym e) tt

-- the one at hand is taken out, and the others stay
one_taken : (whole : Bool) (given : List TracedAttempt) (at_hand : Option TracedAttempt)
    → HasTakenOut (all_ended whole given at_hand) (all_ended whole given None)
one_taken false given at_hand all e = absurd (let z : None ≡ Some all = e in cc)
one_taken true given None all e = inl e
one_taken true given (Some a) all e =
    let z : Some (map trace_of given ++ []) ≡ Some all = e in
    let same : map trace_of given ++ [] ≡ all = cc in
    inr (trace_of a, ap (λ t. Some (t ++ trace_of a ∷ [])) (sym (append-nil (map trace_of given)) ∙ same))

pub has_taken : (given given' : List TracedAttempt) (at_hand left : Option TracedAttempt) (whole whole' : Bool) →
    left ≡ None → given' ≡ given → whole' ≡ whole →
    HasTakenOut (all_ended whole given at_hand) (all_ended whole' given' left)
has_taken given given' at_hand left whole whole' none same kept all e =
    one_taken whole given at_hand all
    (sym (ap (λ (w : Bool). all_ended w given' left) kept ∙ ap (λ (l : List TracedAttempt). all_ended whole l left)
    same ∙
    ap (all_ended whole given) none) ∙ e)
