-- Calls that have parts on a scope have parts on each scope with fewer closed items and whole customers.
use Rattle.std.proofs.Common.{◌≡◌, ℕ, ◌+◌, ◌<◌, ◌≤◌, ◌==◌, ◌&&◌, ◌||◌, not, Bool, true, false, cond, List, [], ◌∷◌}
use Rattle.std.proofs.Common.{◌++◌, refl}
use Rattle.std.proofs.Common.{ap, sym, subst, ◌∙◌, length, take, get_or, codes}
use Rattle.std.specs.Prelude.{Option, Some, None, nat_le, count_by}
use Rattle.std.specs.Option.{option_map_or}
use Rattle.std.specs.List.{list_all}
use Rattle.std.specs.Str.{bytes_eq}
use Rattle.std.proofs.lemmas.List.{take_more, take_all}
use Rattle.std.proofs.lemmas.List.Folds.{list_any-append}
use Rattle.vac_model.specs.declared.items.Kind.{Kind}
use Rattle.vac_model.specs.declared.items.Kind.TheVariants.{Car, Flight, Room}
use Rattle.vac_model.specs.declared.commands.Command.{Command}
use Rattle.vac_model.specs.declared.commands.Command.TheVariants as command
use Rattle.vac_model.specs.declared.replies.Reply.TheVariants as reply
use Rattle.vac_model.specs.declared.tasks.Task.{Task}
use Rattle.vac_model.specs.declared.tasks.Task.TheVariants as task
use Rattle.vac_model.specs.Ranges.{is_task}
use Rattle.vac_model.specs.State.{Place, kind_number}
use Rattle.vac_model.proofs.Ids.{both_true}
use Rattle.vac_model.proofs.Kept.{eq_true}
use Rattle.judge_object.specs.Call.{Call}
use Rattle.judge_reservations.specs.declared.scope.Scope.{Scope}
use Rattle.judge_reservations.specs.Scopes.{is_among, is_place_among, has_customer, has_item, is_closed, is_whole}
use Rattle.judge_reservations.specs.Scopes.{allows, IsCoarser}
use Rattle.judge_reservations.specs.Tasks.{is_reply, command_changes, command_allowed, are_outside}
use Rattle.judge_reservations.specs.Trips.{Shown, TripWords, shown_pick, trip_words, pick_fits, picks_fit}
use Rattle.judge_reservations.specs.Completed.{answer_fits}
use Rattle.judge_reservations.specs.Pending.{pending_fits}
use Rattle.judge_reservations.specs.Histories.{reply_fits, fits, is_timed}
use Rattle.judge_reservations.specs.Lines.{has_part}
use Rattle.judge_reservations.specs.Largest.{IsScopeOf, HasAllClosed, HasAllWhole}
use Rattle.judge_reservations.proofs.Tasks.{same_kind}

pub no : {X : Type 0} → false ≡ true → X
no e = absurd (let never : false ≡ true = e in cc)

fewer_not : (h a b : Bool) → (a ≡ true → b ≡ true) → (h || not b) ≡ true → (h || not a) ≡ true
fewer_not true a b f e = refl
fewer_not false true b f e = no (ap not (sym (f refl)) ∙ e)
fewer_not false false b f e = refl

pub or_more : (a x y : Bool) → (x ≡ true → y ≡ true) → (a || x) ≡ true → (a || y) ≡ true
or_more true x y f e = refl
or_more false x y f e = f e

all_more : {X : Type 0} (p q : X → Bool) → ((x : X) → p x ≡ true → q x ≡ true) → (xs : List X) →
    list_all p xs ≡ true → list_all q xs ≡ true
all_more p q f [] e = refl
all_more p q f (x ∷ xs) e =
    let both = both_true (p x) (list_all p xs) e in
    let here = f x both.0 in
    let rest = all_more p q f xs both.1 in
    rw (here, rest) refl

module _ (one other : Scope) (u : IsCoarser one other) where
  pub same_customer : (c : ℕ) → has_customer one c ≡ has_customer other c
  same_customer c = ap (λ cs. is_among cs c) u.customers

  pub same_item : (q : Place) → has_item one q ≡ has_item other q
  same_item q = ap (λ qs. is_place_among qs q) u.items

  allows_more : (c : ℕ) (q : Place) → allows other c q ≡ true → allows one c q ≡ true
  allows_more c q e =
      let both = both_true (has_customer other c || not (is_closed other q))
      (has_item other q || not (is_whole other c)) e in
      let first = fewer_not (has_customer one c) (is_closed one q) (is_closed other q) (u.closed q)
      (ap (λ t. t || not (is_closed other q)) (same_customer c) ∙ both.0) in
      let second = fewer_not (has_item one q) (is_whole one c) (is_whole other c) (u.whole c)
      (ap (λ t. t || not (is_whole other c)) (same_item q) ∙ both.1) in
      join (has_customer one c || not (is_closed one q)) (has_item one q || not (is_whole one c)) first second
    where
      join : (a b : Bool) → a ≡ true → b ≡ true → (a && b) ≡ true
      join a b e f = rw (e, f) refl

  allowed_more : (c : Command) → command_allowed other c ≡ true → command_allowed one c ≡ true
  allowed_more (command.Add kind id num price) e = refl
  allowed_more (command.Delete kind id num) e = refl
  allowed_more (command.DropFlight id) e = refl
  allowed_more (command.NewCustomer id) e = refl
  allowed_more (command.DropCustomer id) e = refl
  allowed_more (command.Free kind id) e = refl
  allowed_more (command.Price kind id) e = refl
  allowed_more (command.Bill id) e = refl
  allowed_more (command.Reserve c kind id num) e = allows_more c (kind, id) e
  allowed_more (command.Cancel c kind id) e = refl
  allowed_more command.Audit e = refl

  pub same_changes : (c : Command) → command_changes one c ≡ command_changes other c
  same_changes (command.Add kind id num price) = same_item (kind, id)
  same_changes (command.Delete kind id num) = same_item (kind, id)
  same_changes (command.DropFlight id) = same_item (Flight, id)
  same_changes (command.NewCustomer id) = same_customer id
  same_changes (command.DropCustomer id) = same_customer id
  same_changes (command.Free kind id) = refl
  same_changes (command.Price kind id) = refl
  same_changes (command.Bill id) = refl
  same_changes (command.Reserve c kind id num) =
      let left = same_customer c in
      let right = same_item (kind, id) in λ k. left k && right k
  same_changes (command.Cancel c kind id) =
      let left = same_customer c in
      let right = same_item (kind, id) in λ k. left k && right k
  same_changes command.Audit = refl

  shown_more : (c : ℕ) (kind : Kind) (o : Option Shown) →
      option_map_or (λ (pick : Shown). not (bytes_eq pick.1 (codes "true")) || allows other c (kind, pick.0)) o true ≡
      true →
      option_map_or (λ (pick : Shown). not (bytes_eq pick.1 (codes "true")) || allows one c (kind, pick.0)) o true ≡
      true
  shown_more c kind None e = refl
  shown_more c kind (Some pick) e =
      or_more (not (bytes_eq pick.1 (codes "true"))) (allows other c (kind, pick.0)) (allows one c (kind, pick.0))
      (allows_more c (kind, pick.0)) e

  pick_more : (c : ℕ) (kind : Kind) (word : List ℕ) → pick_fits other c kind word ≡ true →
      pick_fits one c kind word ≡ true
  pick_more c kind word e = shown_more c kind (shown_pick word) e

  picks_more : (c : ℕ) (o : Option TripWords) → option_map_or (picks_fit other c) o true ≡ true →
      option_map_or (picks_fit one c) o true ≡ true
  picks_more c None e = refl
  picks_more c (Some words) e =
      let outer = both_true (pick_fits other c Car words.1 && pick_fits other c Flight words.2)
      (pick_fits other c Room words.3) e in
      let inner = both_true (pick_fits other c Car words.1) (pick_fits other c Flight words.2) outer.0 in
      let first = pick_more c Car words.1 inner.0 in
      let second = pick_more c Flight words.2 inner.1 in
      let third = pick_more c Room words.3 outer.1 in
      three (pick_fits one c Car words.1) (pick_fits one c Flight words.2)
      (pick_fits one c Room words.3) first second third
    where
      three : (a b d : Bool) → a ≡ true → b ≡ true → d ≡ true → (a && b && d) ≡ true
      three a b d e f g = rw (e, f, g) refl

  answer_more : (t : Task) (text : List ℕ) → answer_fits other t text ≡ true → answer_fits one t text ≡ true
  answer_more (task.One c) text e =
      or_more (not (is_reply reply.Done text)) (command_allowed other c) (command_allowed one c) (allowed_more c) e
  answer_more (task.Trip c asks) text e = picks_more c (trip_words text) e
  answer_more (task.Leave c) text e = refl
  answer_more (task.Update cs) text e = refl

  pending_more : (t : Task) → pending_fits other t ≡ true → pending_fits one t ≡ true
  pending_more (task.One c) e = allowed_more c e
  pending_more (task.Trip c asks) e =
      let both = both_true (list_all (λ ask. allows other c ask) asks)
      (not (has_customer other c) || are_outside other asks) e in
      let all = all_more (λ ask. allows other c ask) (λ ask. allows one c ask) (allows_more c) asks both.0 in
      let customer = same_customer c in
      let item = same_item in
      let same : (not (has_customer one c) || are_outside one asks) ≡
      (not (has_customer other c) || are_outside other asks) =
      λ k. not (customer k) || list_all (λ ask. not (item ask k)) asks in
      two (list_all (λ ask. allows one c ask) asks) (not (has_customer one c) || are_outside one asks) all
      (same ∙ both.1)
    where
      two : (a b : Bool) → a ≡ true → b ≡ true → (a && b) ≡ true
      two a b e f = rw (e, f) refl
  pending_more (task.Leave c) e = refl
  pending_more (task.Update cs) e =
      let same = same_changes in
      let counts : nat_le (count_by (command_changes one) cs) 1 ≡ nat_le (count_by (command_changes other) cs) 1 =
      λ k. nat_le (count_by (λ c. same c k) cs) 1 in
      counts ∙ e

  reply_more : (t : Task) (given : Option (List ℕ)) → reply_fits other t given ≡ true → reply_fits one t given ≡ true
  reply_more t None e = pending_more t e
  reply_more t (Some text) e = answer_more t text e

  part_more : (call : Call Task) → has_part other call ≡ true → has_part one call ≡ true
  part_more call e =
      let outer = both_true (fits other call) (is_timed call) e in
      let inner = both_true (is_task call.op) (reply_fits other call.op call.reply) outer.0 in
      let fit = reply_more call.op call.reply inner.1 in
      three (is_task call.op) (reply_fits one call.op call.reply) (is_timed call) inner.0 fit outer.1
    where
      three : (a b d : Bool) → a ≡ true → b ≡ true → d ≡ true → (a && b && d) ≡ true
      three a b d e f g = rw (e, f, g) refl

  pub parts_more : (calls : List (Call Task)) → list_all (has_part other) calls ≡ true →
      list_all (has_part one) calls ≡ true
  parts_more calls e = all_more (has_part other) (has_part one) part_more calls e

-- one item, or one customer
pub same_place : (p q : Place) → (kind_number p.0 == kind_number q.0 && p.1 == q.1) ≡ true → p ≡ q
same_place p q e =
    let both = both_true (kind_number p.0 == kind_number q.0) (p.1 == q.1) e in
    let kind = same_kind p.0 q.0 both.0 in
    let id = eq_true p.1 q.1 both.1 in
    λ k. (kind k, id k)

pub or_false : (a b : Bool) → (a || b) ≡ true → b ≡ false → a ≡ true
or_false true b e f = refl
or_false false b e f = no (sym f ∙ e)

pub and_right : (a b : Bool) → (a && b) ≡ true → b ≡ true
and_right a b e = (both_true a b e).1

pub and_left : (a b : Bool) → (a && b) ≡ true → a ≡ true
and_left a b e = (both_true a b e).0

module _ (customers : List ℕ) (items : List Place) (calls : List (Call Task)) (one : Scope)
    (own : one.customers.items ≡ customers) (mine : one.items.items ≡ items) where
  -- a scope with this closed item alone
  pub shut_alone : (item : Place) → one.closed.items ≡ item ∷ [] → one.whole.items ≡ [] → (other : Scope) →
      IsScopeOf customers items calls other → is_closed other item ≡ true → list_all (has_part one) calls ≡ true
  shut_alone item shut none other is closed = parts_more one other (record {
    customers = own ∙ sym is.customers_are;
    items = mine ∙ sym is.items_are;
    closed = λ q e.
        let here = and_right (has_item one q) (is_place_among one.closed.items q) e in
        let only : is_place_among (item ∷ []) q ≡ true = ap (λ qs. is_place_among qs q) (sym shut) ∙ here in
        let same = same_place item q (or_false _ false only refl) in
        subst (λ x. is_closed other x ≡ true) same closed;
    whole = λ c e.
        let here = and_right (has_customer one c) (is_among one.whole.items c) e in
        no (ap (λ cs. is_among cs c) (sym none) ∙ here);
  }) calls is.parts

  -- a scope with this whole customer alone
  pub whole_alone : (c : ℕ) → one.closed.items ≡ [] → one.whole.items ≡ c ∷ [] → (other : Scope) →
      IsScopeOf customers items calls other → is_whole other c ≡ true → list_all (has_part one) calls ≡ true
  whole_alone c none all other is whole = parts_more one other (record {
    customers = own ∙ sym is.customers_are;
    items = mine ∙ sym is.items_are;
    closed = λ q e.
        let here = and_right (has_item one q) (is_place_among one.closed.items q) e in
        no (ap (λ qs. is_place_among qs q) (sym none) ∙ here);
    whole = λ d e.
        let here = and_right (has_customer one d) (is_among one.whole.items d) e in
        let only : is_among (c ∷ []) d ≡ true = ap (λ cs. is_among cs d) (sym all) ∙ here in
        let same = eq_true c d (or_false _ false only refl) in
        subst (λ x. is_whole other x ≡ true) same whole;
  }) calls is.parts

or_left : (a b : Bool) → a ≡ true → (a || b) ≡ true
or_left true b e = refl
or_left false b e = no e

or_right : (a b : Bool) → b ≡ true → (a || b) ≡ true
or_right true b e = refl
or_right false b e = e

either_of : (a b : Bool) → (a || b) ≡ true → a ≡ false → b ≡ true
either_of true b e f = no (sym f ∙ e)
either_of false b e f = e

pub place_join : (q : Place) (xs ys : List Place) →
    is_place_among (xs ++ ys) q ≡ (is_place_among xs q || is_place_among ys q)
place_join q xs ys = list_any-append (λ (x : Place). kind_number x.0 == kind_number q.0 && x.1 == q.1) xs ys

pub customer_join : (c : ℕ) (xs ys : List ℕ) → is_among (xs ++ ys) c ≡ (is_among xs c || is_among ys c)
customer_join c xs ys = list_any-append (λ (x : ℕ). x == c) xs ys

module _ (customers : List ℕ) (items : List Place) (calls : List (Call Task)) where
  -- the closed items among the first items
  abbrev pub ClosedUpTo : ℕ → List Place → Type 0
  ClosedUpTo n closed = (other : Scope) → IsScopeOf customers items calls other →
      (place : Place) → is_closed other place ≡ true → is_place_among (take n items) place ≡ true →
      is_place_among closed place ≡ true

  pub closed_more : (n : ℕ) (d : Place) (closed new : List Place) (shut : Bool) → n < length items →
      ClosedUpTo n closed →
      ((other : Scope) → IsScopeOf customers items calls other → is_closed other (get_or items n d) ≡ true →
      shut ≡ true) →
      new ≡ closed ++ cond shut (get_or items n d ∷ []) [] → ClosedUpTo (n + 1) new
  closed_more n d closed new shut short before here grown other is q e found =
      ap (λ xs. is_place_among xs q) grown ∙ place_join q closed (cond shut (get_or items n d ∷ []) [])
      ∙ go (is_place_among (take n items) q) refl
    where
      either_place : (is_place_among (take n items) q || is_place_among (get_or items n d ∷ []) q) ≡ true
      either_place = sym (ap (λ xs. is_place_among xs q) (take_more items n d short)
          ∙ place_join q (take n items) (get_or items n d ∷ [])) ∙ found

      go : (b : Bool) → is_place_among (take n items) q ≡ b →
          (is_place_among closed q || is_place_among (cond shut (get_or items n d ∷ []) []) q) ≡ true
      go true f = or_left (is_place_among closed q) (is_place_among (cond shut (get_or items n d ∷ []) []) q)
          (before other is q e f)
      go false f =
          let only = either_of (is_place_among (take n items) q)
          (is_place_among (get_or items n d ∷ []) q) either_place f in
          let same = same_place (get_or items n d) q (or_false _ false only refl) in
          let closes = here other is (subst (λ x. is_closed other x ≡ true) (sym same) e) in
          or_right (is_place_among closed q) (is_place_among (cond shut (get_or items n d ∷ []) []) q)
          (ap (λ t. is_place_among (cond t (get_or items n d ∷ []) []) q) closes ∙ only)

  pub closed_all : (n : ℕ) (closed : List Place) → length items ≤ n → ClosedUpTo n closed →
      HasAllClosed customers items calls closed
  closed_all n closed long upto other is q e =
      let inside = and_left (has_item other q) (is_place_among other.closed.items q) e in
      upto other is q e (ap (λ xs. is_place_among xs q) (take_all n items long)
      ∙ ap (λ xs. is_place_among xs q) (sym is.items_are) ∙ inside)

  pub closed_none : (closed : List Place) → ClosedUpTo 0 closed
  closed_none closed other is q e found = no found

  -- the whole customers among the first customers
  abbrev pub WholeUpTo : ℕ → List ℕ → Type 0
  WholeUpTo n whole = (other : Scope) → IsScopeOf customers items calls other →
      (c : ℕ) → is_whole other c ≡ true → is_among (take n customers) c ≡ true → is_among whole c ≡ true

  pub whole_more : (n e : ℕ) (whole new : List ℕ) (own : Bool) → n < length customers → WholeUpTo n whole →
      ((other : Scope) → IsScopeOf customers items calls other → is_whole other (get_or customers n e) ≡ true →
      own ≡ true) →
      new ≡ whole ++ cond own (get_or customers n e ∷ []) [] → WholeUpTo (n + 1) new
  whole_more n e whole new own short before here grown other is d given found =
      ap (λ xs. is_among xs d) grown ∙ customer_join d whole (cond own (get_or customers n e ∷ []) [])
      ∙ go (is_among (take n customers) d) refl
    where
      either_customer : (is_among (take n customers) d || is_among (get_or customers n e ∷ []) d) ≡ true
      either_customer = sym (ap (λ xs. is_among xs d) (take_more customers n e short)
          ∙ customer_join d (take n customers) (get_or customers n e ∷ [])) ∙ found

      go : (b : Bool) → is_among (take n customers) d ≡ b →
          (is_among whole d || is_among (cond own (get_or customers n e ∷ []) []) d) ≡ true
      go true f = or_left (is_among whole d) (is_among (cond own (get_or customers n e ∷ []) []) d)
          (before other is d given f)
      go false f =
          let only = either_of (is_among (take n customers) d)
          (is_among (get_or customers n e ∷ []) d) either_customer f in
          let same = eq_true (get_or customers n e) d (or_false _ false only refl) in
          let wholes = here other is (subst (λ x. is_whole other x ≡ true) (sym same) given) in
          or_right (is_among whole d) (is_among (cond own (get_or customers n e ∷ []) []) d)
          (ap (λ t. is_among (cond t (get_or customers n e ∷ []) []) d) wholes ∙ only)

  pub whole_all : (n : ℕ) (whole : List ℕ) → length customers ≤ n → WholeUpTo n whole →
      HasAllWhole customers items calls whole
  whole_all n whole long upto other is c e =
      let inside = and_left (has_customer other c) (is_among other.whole.items c) e in
      upto other is c e (ap (λ xs. is_among xs c) (take_all n customers long)
      ∙ ap (λ xs. is_among xs c) (sym is.customers_are) ∙ inside)

  pub whole_none : (whole : List ℕ) → WholeUpTo 0 whole
  whole_none whole other is c e found = no found
