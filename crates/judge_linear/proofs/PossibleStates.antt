-- States that are possible after calls, each once.
use Rattle.std.proofs.Common.{◌≡◌, ℕ, ◌+◌, ◌≤◌, suc, zero, List, [], ◌∷◌, ◌++◌, length}
use Rattle.std.proofs.Common.{Option, Some, None, refl, sym, subst, inl, inr, arith}
use Rattle.std.specs.Prelude.{IfSome}
use Rattle.std.specs.List.{Contains}
use Rattle.std.proofs.lemmas.List.Elements.{Contains-append_left, Contains-push, Contains-push_cases}
use Rattle.vac_model.specs.declared.limits.TheConstants.{MOST_BLOCKS}
use Rattle.vac_model.specs.State.{State, empty_state}
use Rattle.judge_calls.specs.Call.{Call}
use Rattle.judge_object.specs.Cut.{cut}
use Rattle.judge_object.specs.Orders.{IsMerge}
use Rattle.judge_reservations.specs.Reserving.{reserving}
use Rattle.judge_search.specs.Reaching.{AreLeft}
use Rattle.judge_search.proofs.Judged.{order_given}
use Rattle.judge_linear.specs.Possible.{AreOnce, AddsOnce, AreSameOnce, HaveStates, HadStatesBefore}

none_in : {A : Type 0} (x : A) → Contains [] x → ⊥
none_in x h = let l = h.1 in absurd (omega arith)

-- a state that is there is not added
pub adds_there : (state : State) (before : List State) → Contains before state → AddsOnce state before before
adds_there state before there = record {
  once = λ h. h;
  are = λ other. (
    λ i. inl i,
    λ e. elim e [
      | inl i ↦ i
      | inr same ↦ subst (Contains before) same there
    ],
  );
}

once_push : (states : List State) (state : State) → AreOnce states → (Contains states state → ⊥) →
    AreOnce (states ++ state ∷ [])
once_push [] state h none = (none_in state, tt)
once_push (s ∷ states) state h none = (
  λ i. elim (Contains-push_cases states state s i) [
    | inl l ↦ h.0 l
    | inr same ↦ none (zero, omega arith, sym same)
  ],
  once_push states state h.1 (λ i. none (Contains-tail s states state i)),
)
  where
    Contains-tail : (x : State) (xs : List State) (y : State) → Contains xs y → Contains (x ∷ xs) y
    Contains-tail x xs y i = let l = i.1 in (suc i.0, omega arith, i.2)

-- another state is added
pub adds_other : (state : State) (before after : List State) → (Contains before state → ⊥) →
    after ≡ before ++ state ∷ [] → AddsOnce state before after
adds_other state before after none e = record {
  once = λ h. subst AreOnce (sym e) (once_push before state h none);
  are = λ other. (
    λ i. Contains-push_cases before state other (subst (λ l. Contains l other) e i),
    λ i. subst (λ l. Contains l other) (sym e) (elim i [
      | inl l ↦ Contains-append_left before (state ∷ []) other l
      | inr same ↦ subst (Contains (before ++ state ∷ [])) same (Contains-push before state)
    ]),
  );
}

pub same_none : (same : List State) → same ≡ [] → AreSameOnce [] same
same_none same e = record {
  once = subst AreOnce (sym e) tt;
  are = λ state. (λ i. subst (λ l. Contains l state) e i, λ i. subst (λ l. Contains l state) (sym e) i);
}

-- one state more
pub same_more : (states same after : List State) (state : State) → AreSameOnce states same →
    AddsOnce state same after → AreSameOnce (states ++ state ∷ []) after
same_more states same after state h a = record {
  once = a.once h.once;
  are = λ other. (
    λ i. elim ((a.are other).0 i) [
      | inl l ↦ Contains-append_left states (state ∷ []) other ((h.are other).0 l)
      | inr own ↦ subst (Contains (states ++ state ∷ [])) own (Contains-push states state)
    ],
    λ i. (a.are other).1 (elim (Contains-push_cases states state other i) [
      | inl l ↦ inl ((h.are other).1 l)
      | inr own ↦ inr own
    ]),
  );
}

-- the number of the states that are left, each once
pub have_states : (calls : List Call) (states same : List State) (s : State) (count : ℕ) → s ≡ empty_state MOST_BLOCKS →
    AreLeft reserving s calls states → AreSameOnce states same → length same ≡ count → 1 ≤ count →
    HaveStates calls count
have_states calls states same s count e left h n some = record {
  states = same;
  are = λ state.
      let own = subst (λ x. AreLeft reserving x calls states) e left in (
        λ i. (own state).0 ((h.are state).0 i),
        λ l. (h.are state).1 ((own state).1 l),
      );
  once = h.once;
  number = n;
  some = some;
}

-- the states that calls leave as they are kept are those that they leave as they are given
left_given : (calls kept : List Call) (s : State) (states : List State) → IsMerge calls kept →
    AreLeft reserving s kept states → AreLeft reserving s calls states
left_given calls kept s states m h = λ state. (
  λ i.
      let l = (h state).0 i in
      record {
        order = l.order;
        orders = order_given reserving calls kept l.order m l.orders;
        linearization = l.linearization;
        leaves = l.leaves;
      },
  λ l. (h state).1 (record {
    order = l.order;
    orders = order_given reserving kept calls l.order (λ k. sym (m k)) l.orders;
    linearization = l.linearization;
    leaves = l.leaves;
  }),
)

pub had_before : (calls kept : List Call) (moment before : ℕ) → moment ≡ before + 1 → IsMerge (cut before calls) kept →
    (found : Option ℕ) → IfSome found (HaveStates kept) → IfSome found (HadStatesBefore calls moment)
had_before calls kept moment before e m None h = tt
had_before calls kept moment before e m (Some count) h = record {
  before = before;
  next = e;
  had = record {
    states = h.states;
    are = left_given (cut before calls) kept (empty_state MOST_BLOCKS) h.states m h.are;
    once = h.once;
    number = h.number;
    some = h.some;
  };
}

-- a list that is not empty has an element
pub first_in : (states : List State) → 1 ≤ length states → (state : State) × Contains states state
first_in [] l = absurd (omega arith)
first_in (s ∷ states) l = (s, (zero, omega arith, refl))
