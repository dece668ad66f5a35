-- Calls that have parts on each of some scopes have parts on a scope of the same customers and items that has no other
-- closed items and whole customers.
use Rattle.std.proofs.Common.{◌≡◌, ℕ, ◌==◌, ◌&&◌, ◌||◌, not, Bool, true, false, cond, List, [], ◌∷◌, ◌++◌, refl}
use Rattle.std.proofs.Common.{ap, sym, subst, ◌∙◌, arith, codes, ◌⊎◌, inl, inr}
use Rattle.std.specs.Prelude.{Option, Some, None, nat_le, count_by}
use Rattle.std.specs.Option.{option_map_or}
use Rattle.std.specs.List.{list_all}
use Rattle.std.specs.Str.{bytes_eq}
use Rattle.std.proofs.lemmas.Bool.Decides.{nat_tests}
use Rattle.vac_model.specs.declared.items.Kind.{Kind}
use Rattle.vac_model.specs.declared.items.Kind.TheVariants.{Car, Flight, Room}
use Rattle.vac_model.specs.declared.commands.Command.{Command}
use Rattle.vac_model.specs.declared.commands.Command.TheVariants as command
use Rattle.vac_model.specs.declared.replies.Reply.TheVariants as reply
use Rattle.vac_model.specs.declared.tasks.Task.{Task}
use Rattle.vac_model.specs.declared.tasks.Task.TheVariants as task
use Rattle.vac_model.specs.Ranges.{is_task}
use Rattle.vac_model.specs.State.{Place, kind_number}
use Rattle.vac_model.proofs.Ids.{both_true}
use Rattle.vac_model.proofs.Kept.{eq_true}
use Rattle.judge_object.specs.Call.{Call}
use Rattle.judge_reservations.specs.declared.scope.Scope.{Scope}
use Rattle.judge_reservations.specs.Scopes.{is_among, is_place_among, has_customer, has_item, is_closed, is_whole}
use Rattle.judge_reservations.specs.Scopes.{allows}
use Rattle.judge_reservations.specs.Tasks.{is_reply, command_changes, command_allowed, are_outside}
use Rattle.judge_reservations.specs.Trips.{Shown, TripWords, shown_pick, trip_words, pick_fits, picks_fit}
use Rattle.judge_reservations.specs.Completed.{answer_fits}
use Rattle.judge_reservations.specs.Pending.{pending_fits}
use Rattle.judge_reservations.specs.Histories.{reply_fits, fits, is_timed}
use Rattle.judge_reservations.specs.Lines.{has_part}
use Rattle.judge_reservations.specs.Largest.{IsScopeOf, MayClose, MayCloseEach, MayBeWhole, MayBeWholeEach, HasNoScope}
use Rattle.judge_reservations.proofs.Larger.{no, and_left, and_right, same_place, or_false, place_join, customer_join}

-- a scope that is closed and whole for an item or a customer
pub record Closes (P : Scope → Type 0) (q : Place) : Type 0 where
  pub scope : Scope
  pub among : P scope
  pub closed : is_closed scope q ≡ true

pub record Wholes (P : Scope → Type 0) (c : ℕ) : Type 0 where
  pub scope : Scope
  pub among : P scope
  pub whole : is_whole scope c ≡ true

-- a scope of the customers and items of some scopes, of which there is one; each closed item is closed on one of them,
-- and each whole customer is whole on one of them
pub record Joins (P : Scope → Type 0) (one : Scope) : Type 0 where
  pub some : Scope
  pub among : P some
  pub customers : (other : Scope) → P other → other.customers.items ≡ one.customers.items
  pub items : (other : Scope) → P other → other.items.items ≡ one.items.items
  pub closed : (q : Place) → is_closed one q ≡ true → Closes P q
  pub whole : (c : ℕ) → is_whole one c ≡ true → Wholes P c

and_both : (a b : Bool) → a ≡ true → b ≡ true → (a && b) ≡ true
and_both a b e f = rw (e, f) refl

or_true : (a : Bool) → (a || not false) ≡ true
or_true true = refl
or_true false = refl

module _ (P : Scope → Type 0) (one : Scope) (joins : Joins P one) where
  same_customer : (other : Scope) → P other → (c : ℕ) → has_customer other c ≡ has_customer one c
  same_customer other p c = ap (λ cs. is_among cs c) (joins.customers other p)

  same_item : (other : Scope) → P other → (q : Place) → has_item other q ≡ has_item one q
  same_item other p q = ap (λ qs. is_place_among qs q) (joins.items other p)

  of_shut : (a : Bool) → (a || not true) ≡ true → a ≡ true
  of_shut true e = refl
  of_shut false e = no e

  closed_kept : (c : ℕ) (q : Place) → ((other : Scope) → P other → allows other c q ≡ true) → (b : Bool) →
      is_closed one q ≡ b → (has_customer one c || not b) ≡ true
  closed_kept c q h false e = or_true (has_customer one c)
  closed_kept c q h true e =
      let found = joins.closed q e in
      let left = and_left (has_customer found.scope c || not (is_closed found.scope q))
      (has_item found.scope q || not (is_whole found.scope c)) (h found.scope found.among) in
      let shut : (has_customer found.scope c || not true) ≡ true =
      ap (λ b. has_customer found.scope c || not b) (sym found.closed) ∙ left in
      let mine = sym (same_customer found.scope found.among c) ∙ of_shut (has_customer found.scope c) shut in
      ap (λ b. b || not true) mine

  whole_kept : (c : ℕ) (q : Place) → ((other : Scope) → P other → allows other c q ≡ true) → (b : Bool) →
      is_whole one c ≡ b → (has_item one q || not b) ≡ true
  whole_kept c q h false e = or_true (has_item one q)
  whole_kept c q h true e =
      let found = joins.whole c e in
      let right = and_right (has_customer found.scope c || not (is_closed found.scope q))
      (has_item found.scope q || not (is_whole found.scope c)) (h found.scope found.among) in
      let shut : (has_item found.scope q || not true) ≡ true =
      ap (λ b. has_item found.scope q || not b) (sym found.whole) ∙ right in
      let mine = sym (same_item found.scope found.among q) ∙ of_shut (has_item found.scope q) shut in
      ap (λ b. b || not true) mine

  allows_joined : (c : ℕ) (q : Place) → ((other : Scope) → P other → allows other c q ≡ true) →
      allows one c q ≡ true
  allows_joined c q h = and_both (has_customer one c || not (is_closed one q)) (has_item one q || not (is_whole one c))
      (closed_kept c q h (is_closed one q) refl) (whole_kept c q h (is_whole one c) refl)

  guarded : (g : Bool) (c : ℕ) (q : Place) → ((other : Scope) → P other → (g || allows other c q) ≡ true) →
      (g || allows one c q) ≡ true
  guarded true c q h = refl
  guarded false c q h = allows_joined c q h

  allowed_joined : (c : Command) → ((other : Scope) → P other → command_allowed other c ≡ true) →
      command_allowed one c ≡ true
  allowed_joined (command.Add kind id num price) h = refl
  allowed_joined (command.Delete kind id num) h = refl
  allowed_joined (command.DropFlight id) h = refl
  allowed_joined (command.NewCustomer id) h = refl
  allowed_joined (command.DropCustomer id) h = refl
  allowed_joined (command.Free kind id) h = refl
  allowed_joined (command.Price kind id) h = refl
  allowed_joined (command.Bill id) h = refl
  allowed_joined (command.Reserve c kind id num) h = allows_joined c (kind, id) h
  allowed_joined (command.Cancel c kind id) h = refl
  allowed_joined command.Audit h = refl

  done_joined : (g : Bool) (c : Command) → ((other : Scope) → P other → (g || command_allowed other c) ≡ true) →
      (g || command_allowed one c) ≡ true
  done_joined true c h = refl
  done_joined false c h = allowed_joined c h

  shown_joined : (c : ℕ) (kind : Kind) (o : Option Shown) →
      ((other : Scope) → P other →
      option_map_or (λ (pick : Shown). not (bytes_eq pick.1 (codes "true")) || allows other c (kind, pick.0)) o true ≡
      true) →
      option_map_or (λ (pick : Shown). not (bytes_eq pick.1 (codes "true")) || allows one c (kind, pick.0)) o true ≡
      true
  shown_joined c kind None h = refl
  shown_joined c kind (Some pick) h = guarded (not (bytes_eq pick.1 (codes "true"))) c (kind, pick.0) h

  pick_joined : (c : ℕ) (kind : Kind) (word : List ℕ) →
      ((other : Scope) → P other → pick_fits other c kind word ≡ true) → pick_fits one c kind word ≡ true
  pick_joined c kind word h = shown_joined c kind (shown_pick word) h

  picks_joined : (c : ℕ) (o : Option TripWords) →
      ((other : Scope) → P other → option_map_or (picks_fit other c) o true ≡ true) →
      option_map_or (picks_fit one c) o true ≡ true
  picks_joined c None h = refl
  picks_joined c (Some words) h =
      let outer = λ (other : Scope) (p : P other).
      both_true (pick_fits other c Car words.1 && pick_fits other c Flight words.2)
      (pick_fits other c Room words.3) (h other p) in
      let inner = λ (other : Scope) (p : P other).
      both_true (pick_fits other c Car words.1) (pick_fits other c Flight words.2) (outer other p).0 in
      let first = pick_joined c Car words.1 (λ other p. (inner other p).0) in
      let second = pick_joined c Flight words.2 (λ other p. (inner other p).1) in
      let third = pick_joined c Room words.3 (λ other p. (outer other p).1) in
      and_both (pick_fits one c Car words.1 && pick_fits one c Flight words.2) (pick_fits one c Room words.3)
      (and_both (pick_fits one c Car words.1) (pick_fits one c Flight words.2) first second) third

  answer_joined : (t : Task) (text : List ℕ) → ((other : Scope) → P other → answer_fits other t text ≡ true) →
      answer_fits one t text ≡ true
  answer_joined (task.One c) text h = done_joined (not (is_reply reply.Done text)) c h
  answer_joined (task.Trip c asks) text h = picks_joined c (trip_words text) h
  answer_joined (task.Leave c) text h = refl
  answer_joined (task.Update cs) text h = refl

  asks_joined : (c : ℕ) (asks : List Place) →
      ((other : Scope) → P other → list_all (λ ask. allows other c ask) asks ≡ true) →
      list_all (λ ask. allows one c ask) asks ≡ true
  asks_joined c [] h = refl
  asks_joined c (ask ∷ asks) h =
      let both = λ (other : Scope) (p : P other).
      both_true (allows other c ask) (list_all (λ a. allows other c a) asks) (h other p) in
      and_both (allows one c ask) (list_all (λ a. allows one c a) asks)
      (allows_joined c ask (λ other p. (both other p).0)) (asks_joined c asks (λ other p. (both other p).1))

  same_changes : (other : Scope) → P other → (c : Command) → command_changes other c ≡ command_changes one c
  same_changes other p (command.Add kind id num price) = same_item other p (kind, id)
  same_changes other p (command.Delete kind id num) = same_item other p (kind, id)
  same_changes other p (command.DropFlight id) = same_item other p (Flight, id)
  same_changes other p (command.NewCustomer id) = same_customer other p id
  same_changes other p (command.DropCustomer id) = same_customer other p id
  same_changes other p (command.Free kind id) = refl
  same_changes other p (command.Price kind id) = refl
  same_changes other p (command.Bill id) = refl
  same_changes other p (command.Reserve c kind id num) =
      let left = same_customer other p c in
      let right = same_item other p (kind, id) in λ k. left k && right k
  same_changes other p (command.Cancel c kind id) =
      let left = same_customer other p c in
      let right = same_item other p (kind, id) in λ k. left k && right k
  same_changes other p command.Audit = refl

  pending_joined : (t : Task) → ((other : Scope) → P other → pending_fits other t ≡ true) →
      pending_fits one t ≡ true
  pending_joined (task.One c) h = allowed_joined c h
  pending_joined (task.Trip c asks) h =
      let both = λ (other : Scope) (p : P other). both_true (list_all (λ ask. allows other c ask) asks)
      (not (has_customer other c) || are_outside other asks) (h other p) in
      let some = joins.some in
      let customer = same_customer some joins.among c in
      let item = same_item some joins.among in
      let same : (not (has_customer some c) || are_outside some asks) ≡
      (not (has_customer one c) || are_outside one asks) =
      λ k. not (customer k) || list_all (λ ask. not (item ask k)) asks in
      and_both (list_all (λ ask. allows one c ask) asks) (not (has_customer one c) || are_outside one asks)
      (asks_joined c asks (λ other p. (both other p).0)) (sym same ∙ (both some joins.among).1)
  pending_joined (task.Leave c) h = refl
  pending_joined (task.Update cs) h =
      let same = same_changes joins.some joins.among in
      let counts : nat_le (count_by (command_changes joins.some) cs) 1 ≡ nat_le (count_by (command_changes one) cs) 1 =
      λ k. nat_le (count_by (λ c. same c k) cs) 1 in
      sym counts ∙ h joins.some joins.among

  reply_joined : (t : Task) (given : Option (List ℕ)) →
      ((other : Scope) → P other → reply_fits other t given ≡ true) → reply_fits one t given ≡ true
  reply_joined t None h = pending_joined t h
  reply_joined t (Some text) h = answer_joined t text h

  part_joined : (call : Call Task) → ((other : Scope) → P other → has_part other call ≡ true) →
      has_part one call ≡ true
  part_joined call h =
      let outer = λ (other : Scope) (p : P other). both_true (fits other call) (is_timed call) (h other p) in
      let inner = λ (other : Scope) (p : P other).
      both_true (is_task call.op) (reply_fits other call.op call.reply) (outer other p).0 in
      let fit = reply_joined call.op call.reply (λ other p. (inner other p).1) in
      and_both (fits one call) (is_timed call)
      (and_both (is_task call.op) (reply_fits one call.op call.reply) (inner joins.some joins.among).0 fit)
      (outer joins.some joins.among).1

  pub parts_joined : (calls : List (Call Task)) →
      ((other : Scope) → P other → list_all (has_part other) calls ≡ true) → list_all (has_part one) calls ≡ true
  parts_joined [] h = refl
  parts_joined (call ∷ calls) h =
      let both = λ (other : Scope) (p : P other).
      both_true (has_part other call) (list_all (has_part other) calls) (h other p) in
      and_both (has_part one call) (list_all (has_part one) calls) (part_joined call (λ other p. (both other p).0))
      (parts_joined calls (λ other p. (both other p).1))

module _ (customers : List ℕ) (items : List Place) (calls : List (Call Task)) (one : Scope)
    (own : one.customers.items ≡ customers) (mine : one.items.items ≡ items)
    (closes : MayCloseEach customers items calls one.closed.items)
    (wholes : MayBeWholeEach customers items calls one.whole.items) where
  one_closes : (q : Place) → is_closed one q ≡ true → Closes (IsScopeOf customers items calls) q
  one_closes q e =
      let found = closes q (and_right (has_item one q) (is_place_among one.closed.items q) e) in
      let inside = and_left (has_item one q) (is_place_among one.closed.items q) e in
      let there = ap (λ qs. is_place_among qs q) (found.is_scope.items_are ∙ sym mine) ∙ inside in record {
        scope = found.scope;
        among = found.is_scope;
        closed = and_both (has_item found.scope q) (is_place_among found.scope.closed.items q) there found.closed;
      }

  one_wholes : (c : ℕ) → is_whole one c ≡ true → Wholes (IsScopeOf customers items calls) c
  one_wholes c e =
      let found = wholes c (and_right (has_customer one c) (is_among one.whole.items c) e) in
      let inside = and_left (has_customer one c) (is_among one.whole.items c) e in
      let there = ap (λ cs. is_among cs c) (found.is_scope.customers_are ∙ sym own) ∙ inside in record {
        scope = found.scope;
        among = found.is_scope;
        whole = and_both (has_customer found.scope c) (is_among found.scope.whole.items c) there found.whole;
      }

  -- if some scope has parts of all calls, then so has the scope that was built
  pub built_has_parts : (some : Scope) → IsScopeOf customers items calls some →
      list_all (has_part one) calls ≡ true
  built_has_parts some is = parts_joined (IsScopeOf customers items calls) one (record {
    some = some;
    among = is;
    customers = λ other p. p.customers_are ∙ sym own;
    items = λ other p. p.items_are ∙ sym mine;
    closed = one_closes;
    whole = one_wholes;
  }) calls (λ other p. p.parts)

  -- so there is none if a call has no part on the scope that was built
  pub none_without : list_all (has_part one) calls ≡ false → HasNoScope customers items calls
  none_without e some is = no (sym e ∙ built_has_parts some is)

eq_self : (n : ℕ) → (n == n) ≡ true
eq_self n = grind (arith, nat_tests)

-- a list of one item, or of one customer
pub place_alone : (p : Place) → is_place_among (p ∷ []) p ≡ true
place_alone p =
    let kind = eq_self (kind_number p.0) in
    let id = eq_self p.1 in rw (kind, id) refl

pub customer_alone : (c : ℕ) → is_among (c ∷ []) c ≡ true
customer_alone c = let same = eq_self c in rw same refl

-- one more item, or one more customer
either_true : (a b : Bool) → (a || b) ≡ true → (a ≡ true) ⊎ (b ≡ true)
either_true true b e = inl refl
either_true false b e = inr e

module _ (customers : List ℕ) (items : List Place) (calls : List (Call Task)) where
  new_place : (shut : Bool) (p q : Place) → (shut ≡ true → MayClose customers items calls p) →
      is_place_among (cond shut (p ∷ []) []) q ≡ true → MayClose customers items calls q
  new_place false p q f e = no e
  new_place true p q f e =
      subst (λ x. MayClose customers items calls x) (same_place p q (or_false _ false e refl)) (f refl)

  pub closes_none : (closed : List Place) → closed ≡ [] → MayCloseEach customers items calls closed
  closes_none closed none q e = no (sym (ap (λ xs. is_place_among xs q) none) ∙ e)

  pub closes_more : (closed new : List Place) (p : Place) (shut : Bool) → MayCloseEach customers items calls closed →
      (shut ≡ true → MayClose customers items calls p) → new ≡ closed ++ cond shut (p ∷ []) [] →
      MayCloseEach customers items calls new
  closes_more closed new p shut before here grown q e =
      let parts : (is_place_among closed q || is_place_among (cond shut (p ∷ []) []) q) ≡ true =
      sym (ap (λ xs. is_place_among xs q) grown ∙ place_join q closed (cond shut (p ∷ []) [])) ∙ e in
      elim (either_true (is_place_among closed q) (is_place_among (cond shut (p ∷ []) []) q) parts) [
        | inl old ↦ before q old
        | inr last ↦ new_place shut p q here last
      ]

  new_customer : (own : Bool) (c d : ℕ) → (own ≡ true → MayBeWhole customers items calls c) →
      is_among (cond own (c ∷ []) []) d ≡ true → MayBeWhole customers items calls d
  new_customer false c d f e = no e
  new_customer true c d f e =
      subst (λ x. MayBeWhole customers items calls x) (eq_true c d (or_false _ false e refl)) (f refl)

  pub wholes_none : (whole : List ℕ) → whole ≡ [] → MayBeWholeEach customers items calls whole
  wholes_none whole none c e = no (sym (ap (λ xs. is_among xs c) none) ∙ e)

  pub wholes_more : (whole new : List ℕ) (c : ℕ) (own : Bool) → MayBeWholeEach customers items calls whole →
      (own ≡ true → MayBeWhole customers items calls c) → new ≡ whole ++ cond own (c ∷ []) [] →
      MayBeWholeEach customers items calls new
  wholes_more whole new c own before here grown d e =
      let parts : (is_among whole d || is_among (cond own (c ∷ []) []) d) ≡ true =
      sym (ap (λ xs. is_among xs d) grown ∙ customer_join d whole (cond own (c ∷ []) [])) ∙ e in
      elim (either_true (is_among whole d) (is_among (cond own (c ∷ []) []) d) parts) [
        | inl old ↦ before d old
        | inr last ↦ new_customer own c d here last
      ]
