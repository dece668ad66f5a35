-- A part that had no order at the end of a call, and the part that is written for the cut at that end.
use Rattle.std.proofs.Common.{◌≡◌, ◌≤◌, ◌<◌, ℕ, ◌-◌, ◌&&◌, ◌==◌, Bool, true, false, cond, List, [], ◌∷◌, refl, ap, sym}
use Rattle.std.proofs.Common.{◌∙◌, subst, Option, Some, None, length, get_or, suc, zero, arith, ◌++◌, map, Result, Ok}
use Rattle.std.proofs.Common.{Err, inl, inr}
use Rattle.std.specs.Prelude.{nat_le, nat_lt, slice_get}
use Rattle.std.specs.List.{list_all, cons_option}
use Rattle.std.specs.Option.{option_map, option_and_then}
use Rattle.std.proofs.lemmas.Bool.Decides.{nat_tests}
use Rattle.vac_model.proofs.Ids.{both_true}
use Rattle.vac_model.specs.declared.limits.TheConstants.{MOST_BLOCKS}
use Rattle.vac_model.specs.declared.tasks.Task.{Task}
use Rattle.vac_model.specs.State.{Place, empty_state}
use Rattle.judge_object.specs.Call.{is_completed}
use Rattle.judge_object.specs.Cut.{cut}
use Rattle.judge_object.specs.Orders.{of_client, IsMerge, IsLinearizable}
use Rattle.judge_object.specs.declared.span.TheConstants.{NEVER}
use Rattle.judge_object.proofs.Cuts.{merge_cut}
use Rattle.judge_object.proofs.Merges.{self}
use Rattle.judge_calls.specs.declared.fault.CallFault.{CallFault}
use Rattle.judge_calls.specs.Call.{Call}
use Rattle.judge_calls.specs.Laws.{Lists}
use Rattle.judge_reservations.specs.Reserving.{reserving}
use Rattle.judge_reservations.specs.declared.scope.Scope.{Scope}
use Rattle.judge_reservations.specs.Scopes.{is_among, is_place_among, has_customer, has_item}
use Rattle.judge_reservations.specs.Histories.{with_answered, with_pending, replied_part, part_of_call, part_of_history}
use Rattle.judge_reservations.specs.Completed.{task_part}
use Rattle.judge_reservations.specs.Pending.{pending_part}
use Rattle.judge_reservations.specs.Tasks.{Answered}
use Rattle.judge_reservations.specs.Largest.{IsScopeOf}
use Rattle.judge_reservations.specs.Lines.{has_part}
use Rattle.judge_reservations.specs.Laws.{PartOfCut, CallsOfCutsHaveParts, FinerPartsAreIllegal}
use Rattle.judge_part_text.specs.Parting.{IsPartOfCalls}
use Rattle.judge_part_text.specs.Until.{completed_end, end_at, IsTextUntil, IsTextOfCut}
use Rattle.judge_part_text.specs.Laws.{HaveNoOrder, HadIllegalPart, IllegalPartsAreWritten, PartsAreWrittenForCuts}
use Rattle.judge_part_text.proofs.Histories.{same_calls}

both : (a b : Bool) → a ≡ true → b ≡ true → (a && b) ≡ true
both true b e f = f
both false b e f = absurd (let never : false ≡ true = e in cc)

some_same : {X : Type 0} (x y : X) → Some x ≡ Some y → x ≡ y
some_same x y e = cc

some_none : {X : Type 0} (x : X) → Some x ≡ None → ⊥
some_none x e = cc

module _ (cuts : (scope : Scope) → PartOfCut scope) (have : (scope : Scope) → CallsOfCutsHaveParts scope)
    (finer : (one other : Scope) → FinerPartsAreIllegal one other) where
  -- of the calls as they stood at a moment
  then_illegal : (customers : List ℕ) (items : List Place) (calls : List Call) (moment : ℕ) (scope : Scope) →
      IsScopeOf customers items calls scope → HaveNoOrder (cut moment (part_of_history scope calls)) →
      (text : List ℕ) (part : IsPartOfCalls customers items (cut moment calls) text) →
      HaveNoOrder (part_of_history part.scope (cut moment calls))
  then_illegal customers items calls moment scope is none text part legal =
      finer scope part.scope (record {
        customers = same_customers;
        items = same_items;
        closed = λ q e.
            let two = both_true (has_item scope q) (is_place_among scope.closed.items q) e in
            both (has_item part.scope q) (is_place_among part.scope.closed.items q)
            (ap (λ qs. is_place_among qs q) (sym same_items) ∙ two.0) (part.closed scope own q e);
        whole = λ c e.
            let two = both_true (has_customer scope c) (is_among scope.whole.items c) e in
            both (has_customer part.scope c) (is_among part.scope.whole.items c)
            (ap (λ cs. is_among cs c) (sym same_customers) ∙ two.0) (part.whole scope own c e);
      }) (cut moment calls) part.is_scope.parts
      (λ l. none (subst (IsLinearizable reserving (empty_state MOST_BLOCKS)) (cuts scope moment calls) l)) legal
    where
      same_customers : scope.customers.items ≡ part.scope.customers.items
      same_customers = is.customers_are ∙ sym part.is_scope.customers_are

      same_items : scope.items.items ≡ part.scope.items.items
      same_items = is.items_are ∙ sym part.is_scope.items_are

      own : IsScopeOf customers items (cut moment calls) scope
      own = record {
        customers_are = is.customers_are;
        items_are = is.items_are;
        parts = have scope moment calls is.parts;
      }

  pub written_illegal : IllegalPartsAreWritten
  written_illegal customers items line bytes text had part legal =
      then_illegal customers items part.calls part.text_is.moment had.scope
      (subst (λ cs. IsScopeOf customers items cs had.scope) same had.is_scope)
      (subst (λ cs. HaveNoOrder (cut part.text_is.moment (part_of_history had.scope cs))) same
      (subst (λ m. HaveNoOrder (cut m (part_of_history had.scope had.calls))) moment had.none))
      text part.text_is.text_is legal
    where
      same : had.calls ≡ part.calls
      same = same_calls had.calls part.calls (sym had.listed ∙ part.listed)

      moment : had.moment ≡ part.text_is.moment
      moment = some_same had.moment part.text_is.moment
          (sym had.ends ∙ ap (λ cs. end_at cs line) same ∙ part.text_is.ends)

-- ---- a part is written

-- no list of calls has a fault
no_damage : (before calls : List Call) (fault : CallFault) (rest : List (Result Call CallFault)) →
    map Ok before ++ Err fault ∷ rest ≡ map Ok calls → ⊥
no_damage [] [] fault rest e = none e
  where
    none : ◌≡◌ {A = List (Result Call CallFault)} (Err fault ∷ rest) [] → ⊥
    none e = cc
no_damage [] (c ∷ calls) fault rest e = clash (head (Err fault) (Ok c) rest (map Ok calls) e)
  where
    head : (x y : Result Call CallFault) (xs ys : List (Result Call CallFault)) → x ∷ xs ≡ y ∷ ys → x ≡ y
    head x y xs ys e = cc

    clash : ◌≡◌ {A = Result Call CallFault} (Err fault) (Ok c) → ⊥
    clash e = cc
no_damage (b ∷ before) [] fault rest e = none e
  where
    none : ◌≡◌ {A = List (Result Call CallFault)} (Ok b ∷ (map Ok before ++ Err fault ∷ rest)) [] → ⊥
    none e = cc
no_damage (b ∷ before) (c ∷ calls) fault rest e =
    no_damage before calls fault rest (tail (Ok b) (Ok c) (map Ok before ++ Err fault ∷ rest) (map Ok calls) e)
  where
    tail : (x y : Result Call CallFault) (xs ys : List (Result Call CallFault)) → x ∷ xs ≡ y ∷ ys → xs ≡ ys
    tail x y xs ys e = cc

pub no_fault : ((scope : Scope) → CallsOfCutsHaveParts scope) → PartsAreWrittenForCuts
no_fault have customers items line bytes text had fault = elim fault [
  | inl found ↦ at_end found (same_calls had.calls found.calls (sym had.listed ∙ found.listed)) found.text_is
  | inr damage ↦
      no_damage damage.first.before had.calls damage.fault damage.first.rest (sym damage.first.listed ∙ had.listed)
]
  where
    at_end : (found : IsTextOfCut customers items line bytes false text) → had.calls ≡ found.calls →
        IsTextUntil customers items found.calls line false text → ⊥
    at_end found same h = elim h [
      | inl then ↦ then.text_is.1.none had.scope (record {
        customers_are = had.is_scope.customers_are;
        items_are = had.is_scope.items_are;
        parts = have had.scope then.moment found.calls
            (subst (λ cs. list_all (has_part had.scope) cs ≡ true) same had.is_scope.parts);
      })
      | inr none ↦ some_none had.moment (sym had.ends ∙ ap (λ cs. end_at cs line) same ∙ none.none)
    ]

-- ---- calls that were merged

-- a part is of the client of its call, and ends when the call ends
record Stands (c d : Call) : Type 0 where
  pub client : d.client ≡ c.client
  pub end : d.end ≡ c.end

stands : (scope : Scope) (c d : Call) → part_of_call scope c ≡ Some d → Stands c d
stands scope c d e = go c.reply e
  where
    answered : (o : Option Answered) → option_map (with_answered c) o ≡ Some d → Stands c d
    answered None e = absurd (let never : None ≡ Some d = e in cc)
    answered (Some a) e =
        subst (Stands c) (some_same (with_answered c a) d e) (record { client = refl; end = refl })

    pended : (o : Option Task) → option_map (with_pending c) o ≡ Some d → Stands c d
    pended None e = absurd (let never : None ≡ Some d = e in cc)
    pended (Some t) e = subst (Stands c) (some_same (with_pending c t) d e) (record { client = refl; end = refl })

    go : (given : Option (List ℕ)) → replied_part scope c given ≡ Some d → Stands c d
    go None e = pended (pending_part scope c.op) e
    go (Some text) e = answered (task_part scope c.op text) e

module _ (scope : Scope) where
  client_part : (k : ℕ) (cs : List Call) →
      of_client k (part_of_history scope cs) ≡ part_of_history scope (of_client k cs)
  client_part k [] = refl
  client_part k (c ∷ cs) = go (part_of_call scope c) refl (c.client == k) refl (client_part k cs)
    where
      go : (o : Option Call) → part_of_call scope c ≡ o → (b : Bool) → (c.client == k) ≡ b →
          of_client k (part_of_history scope cs) ≡ part_of_history scope (of_client k cs) →
          of_client k (cons_option o (part_of_history scope cs)) ≡
          part_of_history scope (cond b (c ∷ of_client k cs) (of_client k cs))
      go None e true t h = h ∙ ap (λ o. cons_option o (part_of_history scope (of_client k cs))) (sym e)
      go None e false t h = h
      go (Some d) e b t h =
          ap (λ b. cond b (d ∷ of_client k (part_of_history scope cs)) (of_client k (part_of_history scope cs)))
          (ap (λ n. n == k) (stands scope c d e).client ∙ t) ∙ kept b
        where
          kept : (b : Bool) →
              cond b (d ∷ of_client k (part_of_history scope cs)) (of_client k (part_of_history scope cs))
              ≡ part_of_history scope (cond b (c ∷ of_client k cs) (of_client k cs))
          kept true =
              ap (λ l. d ∷ l) h ∙ ap (λ o. cons_option o (part_of_history scope (of_client k cs))) (sym e)
          kept false = h

  merge_part : (xs ys : List Call) → IsMerge xs ys → IsMerge (part_of_history scope xs) (part_of_history scope ys)
  merge_part xs ys m k = client_part k ys ∙ ap (part_of_history scope) (m k) ∙ sym (client_part k xs)

-- what holds of all calls holds of the calls of each client
client_all : (p : Call → Bool) (k : ℕ) (cs : List Call) → list_all p cs ≡ true → list_all p (of_client k cs) ≡ true
client_all p k [] e = refl
client_all p k (c ∷ cs) e =
    let two = both_true (p c) (list_all p cs) e in
    go (c.client == k) two.0 (client_all p k cs two.1)
  where
    go : (b : Bool) → p c ≡ true → list_all p (of_client k cs) ≡ true →
        list_all p (cond b (c ∷ of_client k cs) (of_client k cs)) ≡ true
    go true here rest = both (p c) (list_all p (of_client k cs)) here rest
    go false here rest = rest

all_from : (p : Call → Bool) (cs : List Call) → ((k : ℕ) → list_all p (of_client k cs) ≡ true) → list_all p cs ≡ true
all_from p [] h = refl
all_from p (c ∷ cs) h =
    both (p c) (list_all p cs) (head (c.client == c.client) (self c.client) (h c.client))
    (all_from p cs (λ k. tail k (c.client == k) (h k)))
  where
    head : (b : Bool) → b ≡ true → list_all p (cond b (c ∷ of_client c.client cs) (of_client c.client cs)) ≡ true →
        p c ≡ true
    head true e h = (both_true (p c) (list_all p (of_client c.client cs)) h).0
    head false e h = absurd (let never : false ≡ true = e in cc)

    tail : (k : ℕ) (b : Bool) → list_all p (cond b (c ∷ of_client k cs) (of_client k cs)) ≡ true →
        list_all p (of_client k cs) ≡ true
    tail k true h = (both_true (p c) (list_all p (of_client k cs)) h).1
    tail k false h = h

-- what holds of all calls of an order holds of all calls
merged_all : (p : Call → Bool) (calls order : List Call) → IsMerge calls order → list_all p order ≡ true →
    list_all p calls ≡ true
merged_all p calls order m e =
    all_from p calls (λ k. subst (λ cs. list_all p cs ≡ true) (m k) (client_all p k order e))

got : (xs : List Call) (i : ℕ) (d : Call) → i < length xs → slice_get xs i ≡ Some (get_or xs i d)
got [] i d l = absurd (omega (arith, l))
got (x ∷ xs) zero d l = refl
got (x ∷ xs) (suc i) d l = got xs i d (omega (arith, l))

-- the call of a line whose part ended at a moment ended at that moment
pub ended_at : (scope : Scope) (calls : List Call) (line moment : ℕ) (none part : Call) → 1 ≤ line →
    line ≤ length calls → part_of_call scope (get_or calls (line - 1) none) ≡ Some part → is_completed part ≡ true →
    part.end ≡ moment → end_at calls line ≡ Some moment
ended_at scope calls line moment none part first last is completed end =
    let call = get_or calls (line - 1) none in
    let s = stands scope call part is in
    let some : nat_le 1 line ≡ true = grind (arith, nat_tests, first) in
    let done : is_completed call ≡ true = ap (λ n. nat_lt n NEVER) (sym s.end) ∙ completed in
    ap (λ b. cond b (option_and_then completed_end (slice_get calls (line - 1))) None) some
    ∙ ap (option_and_then completed_end) (got calls (line - 1) none (omega (arith, first, last)))
    ∙ ap (λ b. cond b (Some call.end) None) done ∙ ap Some (sym s.end ∙ end)

-- if the parts of the calls in an order had none, then neither had the parts of the calls as they are listed
pub merged_had : (customers : List ℕ) (items : List Place) (line : ℕ) (bytes : List ℕ) (calls order : List Call) →
    Lists bytes calls → IsMerge calls order → (scope : Scope) → IsScopeOf customers items order scope →
    (parts : List Call) → IsMerge (part_of_history scope order) parts → (moment : ℕ) →
    end_at calls line ≡ Some moment → HaveNoOrder (cut moment parts) → HadIllegalPart customers items line bytes
merged_had customers items line bytes calls order listed m scope is parts mp moment ends none = record {
  calls = calls;
  listed = listed;
  scope = scope;
  is_scope = record {
    customers_are = is.customers_are;
    items_are = is.items_are;
    parts = merged_all (has_part scope) calls order m is.parts;
  };
  moment = moment;
  ends = ends;
  none = λ l. none (record {
    order = l.order;
    orders = record { left = l.orders.left; merges = λ k. l.orders.merges k ∙ sym (cuts k); never = l.orders.never };
    linearization = l.linearization;
  });
}
  where
    cuts : IsMerge (cut moment (part_of_history scope calls)) (cut moment parts)
    cuts = merge_cut moment (part_of_history scope calls) parts (λ k. mp k ∙ merge_part scope calls order m k)
