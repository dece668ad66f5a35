-- An order that is a linearization passes the check call by call.
use Rattle.std.proofs.Common.{◌≡◌, ℕ, ◌+◌, ◌<◌, ◌≤◌, ◌==◌, ◌||◌, suc, zero, Bool, true, false, cond, Option, Some}
use Rattle.std.proofs.Common.{None, List, [], ◌∷◌, ◌++◌, length, take, get_or, refl, sym, ap, ◌∙◌, subst, inl, inr}
use Rattle.std.proofs.Common.{◌-◌, arith, nat_lt, append_assoc, append-nil}
use Rattle.std.specs.Prelude.{All, IfSome}
use Rattle.std.specs.List.{list_any}
use Rattle.std.proofs.lemmas.Bool.Decides.{nat_tests}
use Rattle.std.proofs.lemmas.List.{map-append}
use Rattle.std.proofs.lemmas.List.Elements.{All-head, All-tail}
use Rattle.std.proofs.lemmas.List.Sums.{sum_by-append, sum_by-cons}
use Rattle.judge_object.specs.Rules.{Rules}
use Rattle.judge_object.specs.Call.{Call}
use Rattle.judge_search.specs.declared.point.Point.{Point}
use Rattle.judge_search.specs.Calls.{rest_of, can_come, tries_from, TellsTry}
use Rattle.judge_search.specs.Point.{made_of}
use Rattle.judge_search.specs.Configurations.{Configuration, Goes, CallsReach, start, answered, fits, after_call}
use Rattle.judge_search.specs.Walk.{IsWhole}
use Rattle.judge_search.specs.Walking.{AreDistinct}
use Rattle.judge_search.specs.Judging.{calls_at, KeepsTurn, KeepTurns, IsLinearizedInTurn}
use Rattle.judge_search.specs.Checking.{HavePlaces}
use Rattle.judge_search.proofs.Each.{test}
use Rattle.judge_search.proofs.Placing.{times}
use Rattle.judge_search.proofs.Tries.{at, stands_of, of_stands, late_ended, tries_step, tries_none}
use Rattle.judge_search.proofs.Completing.{completes_start}

-- a number that is in a list is there at least once
some_times : (n : ℕ) (ns : List ℕ) → list_any (λ o. o == n) ns ≡ true → 1 ≤ times n ns
some_times n [] h = cc
some_times n (x ∷ xs) h = go (x == n) refl h (some_times n xs)
  where
    go : (b : Bool) → (x == n) ≡ b → (b || list_any (λ o. o == n) xs) ≡ true →
        (list_any (λ o. o == n) xs ≡ true → 1 ≤ times n xs) → 1 ≤ times n (x ∷ xs)
    go true e g more =
        let all : times n (x ∷ xs) ≡ cond {A = ℕ} (x == n) 1 0 + times n xs =
        sum_by-cons (λ o. cond (o == n) 1 0) x xs in
        let one : cond {A = ℕ} (x == n) 1 0 ≡ 1 = ap (λ (b : Bool). cond {A = ℕ} b 1 0) e in omega arith
    go false e g more =
        let all : times n (x ∷ xs) ≡ cond {A = ℕ} (x == n) 1 0 + times n xs =
        sum_by-cons (λ o. cond (o == n) 1 0) x xs in
        let rest = more g in omega arith

or_true : (a b : Bool) → b ≡ true → (a || b) ≡ true
or_true true b h = refl
or_true false b h = h

-- of distinct numbers none comes before itself
pub none_before : (front : List ℕ) (n : ℕ) (rest : List ℕ) → AreDistinct (front ++ n ∷ rest) →
    list_any (λ o. o == n) front ≡ false
none_before front n rest d = go (list_any (λ o. o == n) front) refl
  where
    go : (b : Bool) → list_any (λ o. o == n) front ≡ b → b ≡ false
    go true e =
        let some = some_times n front e in
        let both : times n (front ++ n ∷ rest) ≡ times n front + times n (n ∷ rest) =
        sum_by-append (λ o. cond (o == n) 1 0) front (n ∷ rest) in
        let own : (n == n) ≡ true = grind (arith, nat_tests) in
        let one : cond {A = ℕ} (n == n) 1 0 ≡ 1 = ap (λ (b : Bool). cond {A = ℕ} b 1 0) own in
        let tail : times n (n ∷ rest) ≡ cond {A = ℕ} (n == n) 1 0 + times n rest =
        sum_by-cons (λ o. cond (o == n) 1 0) n rest in
        let most : times n (front ++ n ∷ rest) ≤ 1 = d n in absurd (omega arith)
    go false e = refl

-- a fact of the element behind a front
all_behind : {A : Type 0} (P : A → Type 0) (front : List A) (x : A) (rest : List A) → All P (front ++ x ∷ rest) → P x
all_behind P [] x rest h = All-head P x rest h
all_behind P (y ∷ front) x rest h = all_behind P front x rest (All-tail P y (front ++ x ∷ rest) h)

-- the list up to a place, the element there and those after it
pub split_at : {A : Type 0} (xs : List A) (i : ℕ) (d : A) → i < length xs →
    (rest : List A) × (xs ≡ take i xs ++ get_or xs i d ∷ rest)
split_at [] i d l = absurd (omega arith)
split_at (x ∷ xs) zero d l = (xs, refl)
split_at (x ∷ xs) (suc i) d l = let more = split_at xs i d (omega arith) in (more.0, ap (λ l. x ∷ l) more.1)

module _ {S O R : Type 0} (X : Rules S O R) where
  -- one place more
  pub turns_more : (calls : List (Call O)) (before places : List ℕ) (place : ℕ) → KeepTurns X calls before places →
      KeepsTurn X calls (before ++ places) place → KeepTurns X calls before (places ++ place ∷ [])
  turns_more calls before [] place h t =
      (subst (λ l. KeepsTurn X calls l place) (append-nil before) t, tt)
  turns_more calls before (p ∷ ps) place h t = (
    h.0,
    turns_more calls (before ++ p ∷ []) ps place h.1
        (subst (λ l. KeepsTurn X calls l place) (sym (append_assoc before (p ∷ []) ps)) t),
  )

  turn_behind : (calls : List (Call O)) (before front : List ℕ) (place : ℕ) (rest : List ℕ) →
      KeepTurns X calls before (front ++ place ∷ rest) → KeepsTurn X calls (before ++ front) place
  turn_behind calls before [] place rest h = subst (λ l. KeepsTurn X calls l place) (sym (append-nil before)) h.0
  turn_behind calls before (p ∷ front) place rest h =
      subst (λ l. KeepsTurn X calls l place) (append_assoc before (p ∷ []) front)
      (turn_behind calls (before ++ p ∷ []) front place rest h.1)

  -- an earlier call of the client that is left would be found before a place
  some_before : (made : ℕ → Bool) (i : ℕ) (cs : List (Call O)) (p q k : ℕ) → q < p → q < length cs →
      made (i + q) ≡ false → (at X cs q).client ≡ k →
      list_any (λ (o : Call O). o.client == k) (rest_of made i (take p cs)) ≡ true
  some_before made i [] p q k l m f e = absurd (omega arith)
  some_before made i (c ∷ cs) zero q k l m f e = absurd (omega arith)
  some_before made i (c ∷ cs) (suc p) zero k l m f e =
      let own : made i ≡ false = ap made (let s : i ≡ i + 0 = omega arith in s) ∙ f in
      elim (test c.client k) [
        | inl t ↦ rw (own, t.0) refl
        | inr t ↦ absurd (t.1 e)
      ]
  some_before made i (c ∷ cs) (suc p) (suc q) k l m f e =
      let more = some_before made (suc i) cs p q k (omega arith) (omega arith)
      (ap made (let s : suc i + q ≡ i + suc q = omega arith in s) ∙ f) e in
      go (made i) more
    where
      go : (b : Bool) → list_any (λ (o : Call O). o.client == k) (rest_of made (suc i) (take p cs)) ≡ true →
          list_any (λ (o : Call O). o.client == k)
          (cond b (rest_of made (suc i) (take p cs)) (c ∷ rest_of made (suc i) (take p cs))) ≡ true
      go true g = g
      go false g = or_true (c.client == k) (list_any (λ (o : Call O). o.client ==
          k) (rest_of made (suc i) (take p cs))) g

  -- a call that may come next keeps its client's turn
  pub turn_of : (made : ℕ → Bool) (calls : List (Call O)) (places : List ℕ) (place : ℕ) → place < length calls →
      can_come X made calls place ≡ true → ((p : ℕ) → made p ≡ list_any (λ o. o == p) places) →
      KeepsTurn X calls places place
  turn_of made calls places place l can h earlier below same =
      sym (h earlier) ∙ go (made earlier) refl
    where
      true_false : true ≡ false → ⊥
      true_false e = cc

      go : (b : Bool) → made earlier ≡ b → b ≡ true
      go true e = refl
      go false e = absurd (true_false (sym (some_before made 0 calls place earlier (at X calls place).client below
          (omega arith) (ap made (let s : 0 + earlier ≡ earlier = omega arith in s) ∙ e) same) ∙
          (stands_of X made calls place can).none))

  -- calls of which no earlier one of the client is left
  none_earlier : (made : ℕ → Bool) (i : ℕ) (cs : List (Call O)) (p k : ℕ)
      → ((q : ℕ) → q < p → (at X cs q).client ≡ k → made (i + q) ≡ true)
      → list_any (λ (o : Call O). o.client == k) (rest_of made i (take p cs)) ≡ false
  none_earlier made i [] zero k h = refl
  none_earlier made i [] (suc p) k h = refl
  none_earlier made i (c ∷ cs) zero k h = refl
  none_earlier made i (c ∷ cs) (suc p) k h =
      let more = none_earlier made (suc i) cs p k (λ q l e.
      ap made (let s : suc i + q ≡ i + suc q = omega arith in s) ∙ h (suc q) (omega arith) e) in
      elim (test c.client k) [
        | inl t ↦
            let own : made i ≡ true = ap made (let s : i ≡ i + 0 = omega arith in s) ∙ h 0 (omega arith) t.1 in
            rw own more
        | inr t ↦ go (made i) t.0 more
      ]
    where
      go : (b : Bool) → (c.client == k) ≡ false →
          list_any (λ (o : Call O). o.client == k) (rest_of made (suc i) (take p cs)) ≡ false →
          list_any (λ (o : Call O). o.client == k)
          (cond b (rest_of made (suc i) (take p cs)) (c ∷ rest_of made (suc i) (take p cs))) ≡ false
      go true e g = g
      go false e g = rw e g

  -- calls that are made one after the other reach one configuration
  reach_split : (a c : Configuration S O) (xs ys : List (Call O)) → CallsReach X a (xs ++ ys) c →
      (b : Configuration S O) × CallsReach X a xs b × CallsReach X b ys c
  reach_split a c [] ys h = (a, refl, h)
  reach_split a c (x ∷ xs) ys h =
      let more = reach_split (after_call X a x) c xs ys h.1 in (more.0, (h.0, more.1), more.2)

  pub reach_same : (a b c : Configuration S O) (xs : List (Call O)) → CallsReach X a xs b → CallsReach X a xs c → b ≡ c
  reach_same a b c [] h g = sym h ∙ g
  reach_same a b c (x ∷ xs) h g = reach_same (after_call X a x) b c xs h.1 g.1

  -- the next call of a linearization may come next, and gives its reply
  pub record GoesOn (calls : List (Call O)) (point : Point S) (place : ℕ) : Type 0 where
    pub within : place < length calls
    pub can : can_come X (made_of point) calls place ≡ true
    pub fit : fits X point.machine (at X calls place) ≡ true

  pub goes_on : (s : S) (calls : List (Call O)) (places front : List ℕ) (place : ℕ) (rest : List ℕ) (point : Point S) →
      IsWhole calls → IsLinearizedInTurn X s calls places → places ≡ front ++ place ∷ rest →
      HavePlaces X s calls front point → GoesOn calls point place
  goes_on s calls places front place rest point w l e h =
      let order = calls_at X calls places in
      let done = completes_start X s calls order w l.is.orders l.is.linearization in
      let parts : order ≡ calls_at X calls front ++ at X calls place ∷ calls_at X calls rest =
      ap (calls_at X calls) e ∙ map-append (λ p. at X calls p) front (place ∷ rest) in
      let split = reach_split (start s calls) done.to (calls_at X calls front)
      (at X calls place ∷ calls_at X calls rest) (subst (λ o. CallsReach X (start s calls) o done.to) parts
      done.reaches)
      in
      let here = reach_same (start s calls) split.0 _ (calls_at X calls front) split.1 h.reaches in
      let goes : Goes X (record { rest = rest_of (made_of point) 0 calls; state = point.machine }) (at X calls place) =
      subst (λ b. Goes X b (at X calls place)) here split.2.0 in
      let turn = turn_behind calls [] front place rest (subst (KeepTurns X calls []) e l.turns) in
      record {
        within = all_behind (λ p. p < length calls) front place rest
            (subst (All (λ p. p < length calls)) e l.is.within);
        can = of_stands X (made_of point) calls place (record {
          free = h.made place ∙ none_before front place rest (subst AreDistinct e l.is.distinct);
          none = none_earlier (made_of point) 0 calls place (at X calls place).client (λ q b c.
              ap (made_of point) (let s : 0 + q ≡ q = omega arith in s) ∙ h.made q ∙ turn q b c);
          early = late_ended X (at X calls place).begin (rest_of (made_of point) 0 calls) goes.may.early;
        });
        fit = goes.fit;
      }

  -- and after the last no completed call is left
  pub none_left : (s : S) (calls : List (Call O)) (places : List ℕ) (point : Point S) → IsWhole calls →
      IsLinearizedInTurn X s calls places → HavePlaces X s calls places point →
      answered (rest_of (made_of point) 0 calls) ≡ 0
  none_left s calls places point w l h =
      let order = calls_at X calls places in
      let done = completes_start X s calls order w l.is.orders l.is.linearization in
      let here = reach_same (start s calls) done.to _ order done.reaches h.reaches in
      ap (λ (b : Configuration S O). answered b.rest) (sym here) ∙ done.done

  -- no tries are more from a later place on
  tries_fewer : (made : ℕ → Bool) (cs : List (Call O)) (p : ℕ) →
      length (tries_from made cs (suc p)) ≤ length (tries_from made cs p)
  tries_fewer made cs p = go (nat_lt p (length cs)) refl
    where
      more : (b : Bool) → length (tries_from made cs (suc p))
          ≤ length (cond b (at X cs p ∷ tries_from made cs (suc p)) (tries_from made cs (suc p)))
      more true = omega arith
      more false = omega arith

      go : (b : Bool) → nat_lt p (length cs) ≡ b → length (tries_from made cs (suc p)) ≤ length (tries_from made cs p)
      go true h =
          let l : p < length cs = grind (arith, nat_tests) in
          subst (λ t. length (tries_from made cs (suc p)) ≤ length t) (sym (tries_step X made cs p l))
          (more (can_come X made cs p))
      go false h =
          let l : length cs ≤ p = grind (arith, nat_tests) in
          let none : length (tries_from made cs (suc p)) ≡ 0 = ap length (tries_none X made cs (suc p) (omega arith)) in
          omega arith

  tries_less : (made : ℕ → Bool) (cs : List (Call O)) (p more : ℕ) →
      length (tries_from made cs (p + more)) ≤ length (tries_from made cs p)
  tries_less made cs p zero =
      subst (λ q. length (tries_from made cs q) ≤ length (tries_from made cs p))
      (let e : p ≡ p + 0 = omega arith in e) (omega arith)
  tries_less made cs p (suc more) =
      let less = tries_less made cs p more in
      let step = tries_fewer made cs (p + more) in
      let same : length (tries_from made cs (suc (p + more))) ≡ length (tries_from made cs (p + suc more)) =
      ap (λ q. length (tries_from made cs q)) (let e : suc (p + more) ≡ p + suc more = omega arith in e) in
      omega arith

  -- a call that may come next is the first from its place on that may
  pub first_try : (made : ℕ → Bool) (cs : List (Call O)) (place : ℕ) (r : Option ℕ) → place < length cs →
      can_come X made cs place ≡ true → TellsTry X made cs place r → IfSome r (λ p. place ≤ p) → r ≡ Some place
  first_try made cs place r l can t a = go r t a
    where
      here : tries_from made cs place ≡ at X cs place ∷ tries_from made cs (suc place)
      here = tries_step X made cs place l
          ∙ ap (λ b. cond b (at X cs place ∷ tries_from made cs (suc place)) (tries_from made cs (suc place))) can

      one : length (tries_from made cs place) ≡ suc (length (tries_from made cs (suc place)))
      one = ap length here

      way : (p more : ℕ) → p ≡ suc place + more →
          length (tries_from made cs p) ≤ length (tries_from made cs (suc place))
      way p more e = subst (λ q. length (tries_from made cs q) ≤ length (tries_from made cs (suc place))) (sym e)
          (tries_less made cs (suc place) more)

      rest_of_way : (p : ℕ) → place < p → length (tries_from made cs p) ≤ length (tries_from made cs (suc place))
      rest_of_way p b = way p (p - suc place) (omega arith)

      go : (r : Option ℕ) → TellsTry X made cs place r → IfSome r (λ p. place ≤ p) → r ≡ Some place
      go None t a = absurd (let zero : length (tries_from made cs place) ≡ 0 = ap length t in let o = one in
          omega arith)
      go (Some p) t a = same (nat_lt place p) refl
        where
          same : (b : Bool) → nat_lt place p ≡ b → Some p ≡ Some place
          same true h =
              let below : place < p = grind (arith, nat_tests) in
              let there : length (tries_from made cs place) ≡ suc (length (tries_from made cs (p + 1))) =
              ap length t.is in
              let own : tries_from made cs p ≡ at X cs p ∷ tries_from made cs (suc p) =
              tries_step X made cs p t.within ∙ ap (λ b. cond b (at X cs p ∷ tries_from made cs (suc p))
              (tries_from made cs (suc p))) t.can in
              let count : length (tries_from made cs p) ≡ suc (length (tries_from made cs (suc p))) = ap length own in
              let next : length (tries_from made cs (p + 1)) ≡ length (tries_from made cs (suc p)) =
              ap (λ q. length (tries_from made cs q)) (let e : p + 1 ≡ suc p = omega arith in e) in
              let far = rest_of_way p below in
              let o = one in absurd (omega arith)
          same false h =
              let low : place ≤ p = a in
              let high : p ≤ place = grind (arith, nat_tests) in
              ap Some (let e : p ≡ place = omega arith in e)
