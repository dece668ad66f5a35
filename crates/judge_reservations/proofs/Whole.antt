-- The part of a linearizable history is linearizable.
use Rattle.std.proofs.Common.{◌≡◌, ◌⊎◌, ℕ, ◌≤◌, ◌<◌, ◌&&◌, ◌||◌, not, Bool, true, false, cond, List, refl, ap, sym}
use Rattle.std.proofs.Common.{subst}
use Rattle.std.proofs.Common.{◌∙◌, inl, inr, arith}
use Rattle.std.specs.Prelude.{Option, Some, None, is_some, nat_lt, nat_le}
use Rattle.std.specs.Option.{option_map, option_and_then}
use Rattle.std.specs.Ordering.{nat_cmp}
use Rattle.std.specs.FinMap as map
use Rattle.std.proofs.lemmas.Bool.Decides.{nat_tests}
use Rattle.std.specs.FinMap.{get}
use Rattle.vac_model.specs.declared.limits.TheConstants.{MOST_BLOCKS}
use Rattle.vac_model.specs.declared.items.Kind.{Kind}
use Rattle.vac_model.specs.declared.items.Kind.TheVariants.{Car, Flight, Room}
use Rattle.vac_model.specs.declared.tasks.Task.{Task}
use Rattle.vac_model.specs.declared.tasks.Task.TheVariants as task
use Rattle.vac_model.specs.State.{State, Place, Bookings, empty_state, item_of, bookings_of}
use Rattle.vac_model.specs.Ranges.{is_task}
use Rattle.vac_model.specs.Step.{step}
use Rattle.vac_model.specs.Run.{run, leave}
use Rattle.vac_model.proofs.Empty.{empty-balanced}
use Rattle.vac_model.proofs.Ids.{both_true}
use Rattle.vac_model.proofs.Kept.{le_true}
use Rattle.vac_model.specs.ReplyText.{reply_text}
use Rattle.judge_object.specs.declared.span.TheConstants.{NEVER}
use Rattle.judge_object.specs.Rules.{IsAnswerOf}
use Rattle.judge_object.specs.Call.{Call, EachCall, is_completed}
use Rattle.judge_object.specs.Orders.{IsLinearizable}
use Rattle.judge_reservations.specs.Reserving.{reserving}
use Rattle.judge_reservations.specs.declared.scope.Scope.{Scope}
use Rattle.judge_reservations.specs.Scopes.{has_customer, has_item}
use Rattle.judge_reservations.specs.Parts.{HasPart, offer_of, is_customer, booking_of}
use Rattle.judge_reservations.specs.Tasks.{Answered}
use Rattle.judge_reservations.specs.Completed.{task_part, answer_fits}
use Rattle.judge_reservations.specs.Pending.{pending_part}
use Rattle.judge_reservations.specs.Histories.{with_answered, with_pending, replied_part, part_of_call, part_of_history}
use Rattle.judge_reservations.specs.Histories.{reply_fits, fits, waits, is_timed, AreTimed}
use Rattle.judge_reservations.proofs.Restricted.{both_default}
use Rattle.judge_reservations.proofs.Effects.{Near, offer}
use Rattle.judge_reservations.proofs.Commands.{Made, command_made, leave_made}
use Rattle.judge_reservations.proofs.Ranges.{InRange, command_range, leave_range, next_out, next_both}
use Rattle.judge_reservations.proofs.Choices.{lt_true}
use Rattle.judge_reservations.proofs.UpdateParts.{update_made}
use Rattle.judge_reservations.proofs.TripParts.{trip_made}
use Rattle.judge_reservations.proofs.PendingParts.{Waits, pending_made}
use Rattle.judge_reservations.proofs.Orders.{Replaces, Follows, each_both, part_linearizable}

not_before : (a b : ℕ) → b ≤ a → nat_lt a b ≡ false
not_before a b e = grind (arith, nat_tests, e)

module _ (scope : Scope) where
  abbrev Next : State → State → Option (Call Task) → Type 0
  Next s p o = Follows reserving (HasPart scope) s p o

  followed : (s p : State) (h : HasPart scope s p) (call : Call Task) (t : Task) → is_task t ≡ true →
      (o : Option Answered) → InRange o → Made scope s p h (run s t) o →
      Next (run s t).0 p (option_map (with_answered call) o)
  followed s p h call t e None range made = next_out scope s p t h e made
  followed s p h call t e (Some a) range made =
      inl (made.0, next_both scope s p t a.0 h e range made.1)

  -- the part of a completed task
  task_made : (s p : State) (h : HasPart scope s p) (t : Task) → is_task t ≡ true →
      answer_fits scope t (reply_text (run s t).1) ≡ true →
      Made scope s p h (run s t) (task_part scope t (reply_text (run s t).1))
      × InRange (task_part scope t (reply_text (run s t).1))
  task_made s p h (task.One c) e fit =
      (command_made scope s p h c fit, command_range scope c (reply_text (step s c).1) e)
  task_made s p h (task.Trip customer asks) e fit = trip_made scope s p h customer asks e fit
  task_made s p h (task.Leave customer) e fit =
      (leave_made scope s p h customer, leave_range scope customer (reply_text (leave s customer).1) e)
  task_made s p h (task.Update changes) e fit = update_made scope s p h changes e

  -- a pending call
  waited : (s' p : State) (call : Call Task) (u : Option Task) → Waits scope s' p u →
      Next s' p (option_map (with_pending call) u)
  waited s' p call None h = h
  waited s' p call (Some u) h = elim h.1 [
    | inl done ↦ inl (tt, done)
    | inr never ↦ inr (refl, never)
  ]

  completed : (s p : State) (h : HasPart scope s p) (call : Call Task) (t : Task) (text : List ℕ) →
      is_task t ≡ true → reply_fits scope t (Some text) ≡ true → reply_text (run s t).1 ≡ text →
      Next (run s t).0 p (option_map (with_answered call) (task_part scope t text))
  completed s p h call t text e fit is =
      let fair = subst (λ x. reply_fits scope t (Some x) ≡ true) (sym is) fit in
      let part = task_made s p h t e fair in
      subst (λ x. Next (run s t).0 p (option_map (with_answered call) (task_part scope t x))) is
      (followed s p h call t e (task_part scope t (reply_text (run s t).1)) part.1 part.0)

  replied : (s p : State) (h : HasPart scope s p) (call : Call Task) (given : Option (List ℕ)) →
      is_task call.op ≡ true → reply_fits scope call.op given ≡ true →
      IsAnswerOf reserving (run s call.op).1 given → Next (run s call.op).0 p (replied_part scope call given)
  replied s p h call None e fit is =
      waited (run s call.op).0 p call (pending_part scope call.op) (pending_made scope s p h call.op e fit)
  replied s p h call (Some text) e fit is = completed s p h call call.op text e fit is

  step_part : (s p : State) (call : Call Task) → HasPart scope s p → fits scope call ≡ true →
      IsAnswerOf reserving (reserving.run s call.op).1 call.reply →
      Next (reserving.run s call.op).0 p (part_of_call scope call)
  step_part s p call h fit is =
      let both = both_true (is_task call.op) (reply_fits scope call.op call.reply) fit in
      replied s p h call call.reply both.0 both.1 is

  with_spans : (call d : Call Task) (o : Option Answered) → option_map (with_answered call) o ≡ Some d →
      Replaces call d
  with_spans call d None e = absurd (let never : None ≡ Some d = e in cc)
  with_spans call d (Some a) e = subst (Replaces call) (same (with_answered call a) d e)
      (record { client = refl; begin = refl; end = refl })
    where
      same : (x y : Call Task) → Some x ≡ Some y → x ≡ y
      same x y e = cc

  the_same : (x y : Call Task) → Some x ≡ Some y → x ≡ y
  the_same x y e = cc

  with_pended : (call d : Call Task) (o : Option Task) → option_map (with_pending call) o ≡ Some d → Replaces call d
  with_pended call d None e = absurd (let never : None ≡ Some d = e in cc)
  with_pended call d (Some a) e = subst (Replaces call) (the_same (with_pending call a) d e)
      (record { client = refl; begin = refl; end = refl })

  spans : (call d : Call Task) → part_of_call scope call ≡ Some d → Replaces call d
  spans call d e = go call.reply e
    where
      go : (given : Option (List ℕ)) → replied_part scope call given ≡ Some d → Replaces call d
      go None e = with_pended call d (pending_part scope call.op) e
      go (Some text) e = with_spans call d (task_part scope call.op text) e

  -- a call of which the part has no known reply
  has_choice : (call d : Call Task) → part_of_call scope call ≡ Some d → is_some d.reply ≡ false →
      waits scope call ≡ true
  has_choice call d e unknown = go call.reply e
    where
      some : (o : Option Task) → option_map (with_pending call) o ≡ Some d → is_some o ≡ true
      some None e = absurd (let wrong : None ≡ Some d = e in cc)
      some (Some a) e = refl

      known : (o : Option Answered) → option_map (with_answered call) o ≡ Some d → is_some d.reply ≡ true
      known None e = absurd (let wrong : None ≡ Some d = e in cc)
      known (Some a) e = subst (λ x. is_some x.reply ≡ true) (the_same (with_answered call a) d e) refl

      go : (given : Option (List ℕ)) → replied_part scope call given ≡ Some d →
          (not (is_some given) && is_some (pending_part scope call.op)) ≡ true
      go None e = some (pending_part scope call.op) e
      go (Some text) e =
          absurd (let wrong : true ≡ false = sym (known (task_part scope call.op text) e) ∙ unknown in cc)

  no_item : (n : ℕ) (kind : Kind) (id : ℕ) → item_of (empty_state n) kind id ≡ None
  no_item n Car id = map.get-empty nat_cmp id
  no_item n Flight id = map.get-empty nat_cmp id
  no_item n Room id = map.get-empty nat_cmp id

  no_bookings : (n : ℕ) (c : ℕ) → bookings_of (empty_state n) c ≡ None
  no_bookings n c = map.get-empty nat_cmp c

  no_booking : (n : ℕ) (c : ℕ) (q : Place) → booking_of (empty_state n) c q ≡ None
  no_booking n c q = ap (option_and_then (λ (b : Bookings). get b q)) (no_bookings n c)

  no_offer : (n : ℕ) (q : Place) → offer_of (empty_state n) q ≡ None
  no_offer n q = ap (option_map offer) (no_item n q.0 q.1)

  no_customer : (n : ℕ) (c : ℕ) → is_customer (empty_state n) c ≡ false
  no_customer n c = ap is_some (no_bookings n c)

  first : (blocks : ℕ) → blocks ≤ MOST_BLOCKS → HasPart scope (empty_state blocks) (empty_state MOST_BLOCKS)
  first blocks few = record {
    part = record {
      offers = λ q. no_offer MOST_BLOCKS q ∙ both_default None (has_item scope q)
          ∙ sym (ap (λ o. cond (has_item scope q) o None) (no_offer blocks q));
      customers = λ c. no_customer MOST_BLOCKS c ∙ both_default false (has_customer scope c)
          ∙ sym (ap (λ o. cond (has_customer scope c) o false) (no_customer blocks c));
      bookings = λ c q. no_booking MOST_BLOCKS c q ∙ both_default None (has_customer scope c && has_item scope q)
          ∙ sym (ap (λ o. cond (has_customer scope c && has_item scope q) o None) (no_booking blocks c q));
    };
    confined = record {
      closed = λ c q _ _. no_booking blocks c q;
      whole = λ c q _ _. no_booking blocks c q;
    };
    balanced = empty-balanced blocks;
    part_balanced = empty-balanced MOST_BLOCKS;
    capacity = few;
    part_capacity = refl;
  }

  abbrev Fits : Call Task → Type 0
  Fits call = fits scope call ≡ true

  abbrev Never : Call Task → Type 0
  Never call = waits scope call ≡ false

  abbrev Timed : Call Task → Type 0
  Timed call = is_timed call ≡ true

  -- if no call waits, each part has a known reply
  all_known : (c d : Call Task) → Never c → part_of_call scope c ≡ Some d → is_some d.reply ≡ false → ⊥
  all_known c d never e unknown = let wrong : true ≡ false = sym (has_choice c d e unknown) ∙ never in cc

  end_is : (call : Call Task) → Timed call → waits scope call ≡ true → NEVER ≤ call.end
  end_is call timed wait = go (is_some call.reply) timed wait
    where
      go : (known : Bool) → (nat_lt call.begin NEVER && (known || nat_le NEVER call.end)) ≡ true →
          (not known && is_some (pending_part scope call.op)) ≡ true → NEVER ≤ call.end
      go true timed wait = absurd (let wrong : false ≡ true = wait in cc)
      go false timed wait =
          le_true NEVER call.end (both_true (nat_lt call.begin NEVER) (nat_le NEVER call.end) timed).1

  begin_is : (call : Call Task) → Timed call → call.begin < NEVER
  begin_is call timed =
      let both = both_true (nat_lt call.begin NEVER) (is_some call.reply || nat_le NEVER call.end) timed in
      lt_true call.begin NEVER both.0

  never_pends : (c d : Call Task) → Fits c × Never c → part_of_call scope c ≡ Some d → is_some d.reply ≡ false →
      is_completed d ≡ false
  never_pends c d fit e unknown = absurd (all_known c d fit.1 e unknown)

  never_late : (c d b : Call Task) → Fits c × Never c → Fits b × Never b → part_of_call scope c ≡ Some d →
      is_some d.reply ≡ false → c.end ≤ b.begin → ⊥
  never_late c d b fit other e unknown late = all_known c d fit.1 e unknown

  timed_pends : (c d : Call Task) → Fits c × Timed c → part_of_call scope c ≡ Some d → is_some d.reply ≡ false →
      is_completed d ≡ false
  timed_pends c d fit e unknown =
      let ends = end_is c fit.1 (has_choice c d e unknown) in
      let same = (spans c d e).end in
      not_before d.end NEVER (omega (arith, ends, same))

  timed_late : (c d b : Call Task) → Fits c × Timed c → Fits b × Timed b → part_of_call scope c ≡ Some d →
      is_some d.reply ≡ false → c.end ≤ b.begin → ⊥
  timed_late c d b fit other e unknown late =
      let ends = end_is c fit.1 (has_choice c d e unknown) in
      let begins = begin_is b other.1 in
      omega (arith, ends, begins, late)

  pub parts_linearizable : (blocks : ℕ) (calls : List (Call Task)) → blocks ≤ MOST_BLOCKS →
      EachCall (λ call. fits scope call ≡ true) calls → AreTimed scope calls →
      IsLinearizable reserving (empty_state blocks) calls →
      IsLinearizable reserving (empty_state MOST_BLOCKS) (part_of_history scope calls)
  parts_linearizable blocks calls few fit timed h = elim timed [
    | inl none ↦ part_linearizable (part_of_call scope) spans reserving (HasPart scope)
        (λ call. Fits call × Never call) never_pends never_late
        (λ s p call has both is. step_part s p call has both.0 is) (empty_state blocks) (empty_state MOST_BLOCKS) calls
        (first blocks few) (each_both Fits Never calls fit none) h
    | inr all ↦ part_linearizable (part_of_call scope) spans reserving (HasPart scope)
        (λ call. Fits call × Timed call) timed_pends timed_late
        (λ s p call has both is. step_part s p call has both.0 is) (empty_state blocks) (empty_state MOST_BLOCKS) calls
        (first blocks few) (each_both Fits Timed calls fit all) h
  ]
