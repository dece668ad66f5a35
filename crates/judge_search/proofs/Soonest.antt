-- Each line has the least begin of itself and the lines after it.
use Rattle.std.proofs.Common.{◌≡◌, ℕ, ◌+◌, ◌-◌, ◌<◌, ◌≤◌, ◌==◌, ◌&&◌, ◌||◌, suc, zero, Bool, true, false, not, is_some}
use Rattle.std.proofs.Common.{cond, List, [], ◌∷◌, ◌++◌, length, take, drop, set, get_or, refl, sym, ap, ◌∙◌, arith}
use Rattle.std.proofs.Common.{subst}
use Rattle.std.proofs.Common.{nat_lt, nat_le}
use Rattle.std.specs.List.{filter}
use Rattle.std.proofs.Props.{props}
use Rattle.judge_object.specs.declared.span.TheConstants.{NEVER}
use Rattle.std.specs.List.Sorted.{IsNonDecreasingBy, IsStableByKey, ties}
use Rattle.std.specs.Ordering.{nat_cmp, is_lt}
use Rattle.std.specs.declared.cmp.Ordering.TheVariants.{Less, Equal, Greater}
use Rattle.std.proofs.Math.Seq.{take-append_seam}
use Rattle.std.proofs.lemmas.Bool.Decides.{nat_tests}
use Rattle.judge_object.specs.declared.line.Line.{Line}
use Rattle.judge_search.specs.Calls.{call_of, calls_of, has_ended, are_sorted, is_kind, least_begin, soonest_of}
use Rattle.judge_search.proofs.Sorted.{EachLine}
use Rattle.judge_search.proofs.Stable.{Rises, at_once}

own_begin : (k : Bool) (b m : ℕ) → k ≡ true → cond (k && nat_lt b m) b m ≤ b
own_begin k b m e = subst (λ x. cond (x && nat_lt b m) b m ≤ b) (sym e) (go (nat_lt b m) refl)
  where
    go : (x : Bool) → nat_lt b m ≡ x → cond x b m ≤ b
    go true e = omega arith
    go false e = grind (arith, nat_tests)

less_begin : (k : Bool) (b m : ℕ) → cond (k && nat_lt b m) b m ≤ m
less_begin k b m = go (k && nat_lt b m) (nat_lt b m) refl (λ e. (both k (nat_lt b m) e))
  where
    both : (a b : Bool) → (a && b) ≡ true → b ≡ true
    both true b h = h
    both false b h = cc

    go : (x y : Bool) → nat_lt b m ≡ y → (x ≡ true → y ≡ true) → cond x b m ≤ m
    go true y e h = let l : b < m = (let f : nat_lt b m ≡ true = e ∙ h refl in grind (arith, nat_tests)) in omega arith
    go false y e h = omega arith

le_true : (x y : ℕ) → x ≤ y → nat_le x y ≡ true
le_true x y h = grind (arith, nat_tests)

true_both : (a b : Bool) → a ≡ true → b ≡ true → (a && b) ≡ true
true_both a b h g = ap (λ x. x && b) h ∙ g

is_less : (a b : ℕ) → is_lt (nat_cmp a b) ≡ nat_lt a b
is_less a b = go (nat_lt a b) refl (a == b)
  where
    go : (x : Bool) → nat_lt a b ≡ x → (y : Bool) → is_lt (cond x Less (cond y Equal Greater)) ≡ x
    go true e y = refl
    go false e true = refl
    go false e false = refl

module _ {O : Type 0} where
  -- the calls stay as they are
  pub same_calls : (lines : List (Line O)) → calls_of (soonest_of lines) ≡ calls_of lines
  same_calls [] = refl
  same_calls (l ∷ ls) = ap (λ cs. call_of l ∷ cs) (same_calls ls)

  answers : (a b : Line O) → a.end ≤ b.end → (has_ended a || not (has_ended b)) ≡ true
  answers a b l = go (nat_lt a.end NEVER) (nat_lt b.end NEVER) refl refl
    where
      go : (x y : Bool) → nat_lt a.end NEVER ≡ x → nat_lt b.end NEVER ≡ y → (x || not y) ≡ true
      go true y e f = refl
      go false false e f = refl
      go false true e f = absurd (let p : NEVER ≤ a.end = grind (arith, nat_tests) in let q : b.end < NEVER =
          grind (arith, nat_tests) in omega arith)

  own_kind : (x : Line O) → is_kind (has_ended x) x ≡ true
  own_kind x = go (has_ended x)
    where
      go : (b : Bool) → cond b b (not b) ≡ true
      go true = refl
      go false = refl

  own_least : (x : Line O) (xs : List (Line O)) → least_begin (has_ended x) (x ∷ xs) ≤ x.begin
  own_least x xs = own_begin (is_kind (has_ended x) x) x.begin (least_begin (has_ended x) xs) (own_kind x)

  -- where both are completed, or both pending, the later line names no earlier begin
  names_later : (a b : Line O) (ls : List (Line O)) → (has_ended a || not (has_ended b)) ≡ true →
      (nat_le (least_begin (has_ended a) (a ∷ (b ∷ ls))) (least_begin (has_ended b) (b ∷ ls))
      || has_ended a && not (has_ended b)) ≡ true
  names_later a b ls h = go (has_ended a) (has_ended b) h
      (λ k. le_true (least_begin k (a ∷ (b ∷ ls))) (least_begin k (b ∷ ls))
      (less_begin (is_kind k a) a.begin (least_begin k (b ∷ ls))))
    where
      or_true : (x : Bool) → (x || true) ≡ true
      or_true true = refl
      or_true false = refl

      go : (x y : Bool) → (x || not y) ≡ true
          → ((k : Bool) → nat_le (least_begin k (a ∷ (b ∷ ls))) (least_begin k (b ∷ ls)) ≡ true)
          → (nat_le (least_begin x (a ∷ (b ∷ ls))) (least_begin y (b ∷ ls)) || x && not y) ≡ true
      go true true h le = ap (λ t. t || false) (le true)
      go true false h le = or_true (nat_le (least_begin true (a ∷ (b ∷ ls))) (least_begin false (b ∷ ls)))
      go false true h le = cc
      go false false h le = ap (λ t. t || false) (le false)

  -- so the lines are sorted
  pub sorted_soonest : (lines : List (Line O)) → Rises lines → are_sorted (soonest_of lines) ≡ true
  sorted_soonest [] h = refl
  sorted_soonest (a ∷ []) h = le_true (least_begin (has_ended a) (a ∷ [])) a.begin (own_least a [])
  sorted_soonest (a ∷ (b ∷ ls)) h =
      let s = least_begin (has_ended a) (a ∷ (b ∷ ls)) in
      let t = least_begin (has_ended b) (b ∷ ls) in
      let kinds = answers a b h.0.0 in
      let begins : nat_le s a.begin ≡ true = le_true s a.begin (own_least a (b ∷ ls)) in
      let ends : nat_le a.end b.end ≡ true = le_true a.end b.end h.0.0 in
      true_both (nat_le s a.begin && (nat_le a.end b.end && (has_ended a || not (has_ended b))
      && (nat_le s t || has_ended a && not (has_ended b))))
      (are_sorted (soonest_of (b ∷ ls)))
      (true_both (nat_le s a.begin) (nat_le a.end b.end && (has_ended a || not (has_ended b))
      && (nat_le s t || has_ended a && not (has_ended b)))
      begins
      (true_both (nat_le a.end b.end && (has_ended a || not (has_ended b)))
      (nat_le s t || has_ended a && not (has_ended b))
      (true_both (nat_le a.end b.end) (has_ended a || not (has_ended b)) ends kinds)
      (names_later a b ls kinds)))
      (sorted_soonest (b ∷ ls) h.1)

  -- one line more says so
  pub keep_get : (lines : List (Line O)) (p : ℕ) (d : Line O) → p < length lines →
      get_or (take (suc p) lines ++ soonest_of (drop (suc p) lines)) p d ≡ get_or lines p d
  keep_get [] p d l = absurd (omega arith)
  keep_get (x ∷ xs) zero d l = refl
  keep_get (x ∷ xs) (suc p) d l = keep_get xs p d (omega arith)

  pub keep_more : (lines : List (Line O)) (p : ℕ) (x d : Line O) (s : ℕ) → p < length lines → x ≡ get_or lines p d →
      s ≡ least_begin (has_ended x) (drop p lines)
      → set (take (suc p) lines ++ soonest_of (drop (suc p) lines)) p
      (record x { soonest = s }) ≡ take p lines ++ soonest_of (drop p lines)
  keep_more [] p x d s l e f = absurd (omega arith)
  keep_more (y ∷ ys) zero x d s l e f =
      ap (λ (z : Line O). (record z { soonest = s }) ∷ soonest_of ys) e
      ∙ ap (λ n. (record y { soonest = n }) ∷ soonest_of ys)
      (f ∙ ap (λ (z : Line O). least_begin (has_ended z) (y ∷ ys)) e)
  keep_more (y ∷ ys) (suc p) x d s l e f = ap (λ l. y ∷ l) (keep_more ys p x d s (omega arith) e f)

  pub least_here : (k : Bool) (lines : List (Line O)) (p : ℕ) (x d : Line O) → p < length lines → x ≡ get_or lines p d
      → least_begin k (drop p lines) ≡ cond (is_kind k x && nat_lt x.begin (least_begin k (drop (suc p) lines))) x.begin
      (least_begin k (drop (suc p) lines))
  least_here k [] p x d l e = absurd (omega arith)
  least_here k (y ∷ ys) zero x d l e =
      ap (λ (z : Line O). cond (is_kind k z && nat_lt z.begin (least_begin k ys)) z.begin (least_begin k ys)) (sym e)
  least_here k (y ∷ ys) (suc p) x d l e = least_here k ys p x d (omega arith) e

  length_soonest : (lines : List (Line O)) → length (soonest_of lines) ≡ length lines
  length_soonest [] = refl
  length_soonest (x ∷ xs) = ap suc (length_soonest xs)

  pub length_kept : (lines : List (Line O)) (m : ℕ) → length (take m lines ++ soonest_of (drop m lines)) ≡ length lines
  length_kept lines zero = length_soonest lines
  length_kept [] (suc m) = refl
  length_kept (x ∷ xs) (suc m) = ap suc (length_kept xs m)

  -- a step of the loop that lets each line say so
  pub record Keeps (init now : List (Line O)) (back completed pending : ℕ) : Type 0 where
    pub lines : now ≡ take (length init - back) init ++ soonest_of (drop (length init - back) init)
    pub completed_is : completed ≡ least_begin true (drop (length init - back) init)
    pub pending_is : pending ≡ least_begin false (drop (length init - back) init)

  -- the line at a place is still as it was
  pub keep_was : (init now : List (Line O)) (back completed pending p : ℕ) (x d : Line O) →
      Keeps init now back completed pending → back < length init → p ≡ length now - 1 - back → x ≡ get_or now p d →
      (p < length init) × (x ≡ get_or init p d)
  keep_was init now back completed pending p x d k l e f =
      let long : length now ≡ length init = ap length k.lines ∙ length_kept init (length init - back) in
      let within : p < length init = omega arith in
      let suc_is : length init - back ≡ suc p = omega arith in
      let was : now ≡ take (suc p) init ++ soonest_of (drop (suc p) init) =
      k.lines ∙ ap (λ m. take m init ++ soonest_of (drop m init)) suc_is in
      (within, f ∙ ap (λ l. get_or l p d) was ∙ keep_get init p d within)

  pub keep_step : (init now : List (Line O)) (back completed pending more_c more_p s p : ℕ) (x d : Line O) →
      Keeps init now back completed pending →
      back < length init → p ≡ length now - 1 - back → x ≡ get_or now p d
      → more_c ≡ cond (has_ended x && nat_lt x.begin completed) x.begin completed
      → more_p ≡ cond (not (has_ended x) && nat_lt x.begin pending) x.begin pending
      → s ≡ cond (has_ended x) more_c more_p →
      Keeps init (set now p (record x { soonest = s })) (back + 1) more_c more_p
  keep_step init now back completed pending more_c more_p s p x d k l e f nc np sn =
      let long : length now ≡ length init = ap length k.lines ∙ length_kept init (length init - back) in
      let was = keep_was init now back completed pending p x d k l e f in
      let within = was.0 in
      let got = was.1 in
      let suc_is : length init - back ≡ suc p = omega arith in
      let p_is : length init - (back + 1) ≡ p = omega arith in
      let whole : now ≡ take (suc p) init ++ soonest_of (drop (suc p) init) =
      k.lines ∙ ap (λ m. take m init ++ soonest_of (drop m init)) suc_is in
      let least_c : more_c ≡ least_begin true (drop p init) =
      nc ∙ ap (λ m. cond (has_ended x && nat_lt x.begin m) x.begin m)
      (k.completed_is ∙ ap (λ m. least_begin true (drop m init)) suc_is)
      ∙ sym (least_here true init p x d within got) in
      let least_p : more_p ≡ least_begin false (drop p init) =
      np ∙ ap (λ m. cond (not (has_ended x) && nat_lt x.begin m) x.begin m)
      (k.pending_is ∙ ap (λ m. least_begin false (drop m init)) suc_is)
      ∙ sym (least_here false init p x d within got) in
      let own : s ≡ least_begin (has_ended x) (drop p init) =
      sn ∙ chosen (has_ended x) more_c more_p (drop p init) least_c least_p in
      record {
        lines = ap (λ l. set l p (record x { soonest = s })) whole ∙ keep_more init p x d s within got own
            ∙ ap (λ m. take m init ++ soonest_of (drop m init)) (sym p_is);
        completed_is = least_c ∙ ap (λ m. least_begin true (drop m init)) (sym p_is);
        pending_is = least_p ∙ ap (λ m. least_begin false (drop m init)) (sym p_is);
      }
    where
      chosen : (b : Bool) (c p : ℕ) (ls : List (Line O)) → c ≡ least_begin true ls → p ≡ least_begin false ls →
          cond b c p ≡ least_begin b ls
      chosen true c p ls e f = e
      chosen false c p ls e f = f

  -- the part of a list that is the whole
  pub whole_part : (items now : List (Line O)) (len : ℕ) → now ≡ soonest_of items → len ≡ length items →
      take len (now ++ drop (length now) items) ≡ soonest_of items
  whole_part items now len e l =
      let long : len ≡ length now = l ∙ sym (ap length e ∙ length_soonest items) in
      ap (λ n. take n (now ++ drop (length now) items)) long ∙ take-append_seam now (drop (length now) items) ∙ e

  each_from : (P : (Line O) → Type 0) (xs : List (Line O)) →
      ((j : ℕ) (d : Line O) → j < length xs → P (get_or xs j d)) →
      EachLine P xs
  each_from P [] h = tt
  each_from P (x ∷ xs) h = (h 0 x (omega arith), each_from P xs (λ j d l. h (suc j) d (omega arith)))

  -- a list that does not fall rises
  pub rises_from : (xs : List (Line O)) → IsNonDecreasingBy (λ (l : Line O). l.end) xs → Rises xs
  rises_from [] h = tt
  rises_from (x ∷ xs) h = (
    each_from (λ later. x.end ≤ later.end) xs (λ j d l. h 0 (suc j) d (omega arith) (omega arith)),
    rises_from xs (λ i j d l m. h (suc i) (suc j) d (omega arith) (omega arith)),
  )

  filter_same : (p q : (Line O) → Bool) → ((l : Line O) → p l ≡ q l) → (xs : List (Line O)) → filter p xs ≡ filter q xs
  filter_same p q h [] = refl
  filter_same p q h (x ∷ xs) = ap (λ b. cond b (x ∷ filter p xs) (filter p xs)) (h x) ∙ ap (λ l. cond (q x) (x ∷ l) l)
      (filter_same p q h xs)

  -- a sort that is stable keeps those that end at once
  pub stable_once : (xs ys : List (Line O)) → IsStableByKey (λ (l : Line O). l.end) nat_cmp xs ys → (z : Line O) →
      filter (at_once z) ys ≡ filter (at_once z) xs
  stable_once xs ys h z =
      filter_same (at_once z) (ties (λ (a b : Line O). is_lt (nat_cmp a.end b.end)) z) (λ l. sym (same l)) ys ∙ h z
      ∙ filter_same (ties (λ (a b : Line O). is_lt (nat_cmp a.end b.end)) z) (at_once z) same xs
    where
      same : (l : Line O) → ties (λ (a b : Line O). is_lt (nat_cmp a.end b.end)) z l ≡ at_once z l
      same l = ap (λ b. not b && not (is_lt (nat_cmp l.end z.end))) (is_less z.end l.end) ∙
          ap (λ b. not (nat_lt z.end l.end) && not b) (is_less l.end z.end)

  pub same_default : (xs : List (Line O)) (i : ℕ) (d e : Line O) → i < length xs → get_or xs i d ≡ get_or xs i e
  same_default [] i d e l = absurd (omega arith)
  same_default (x ∷ xs) zero d e l = refl
  same_default (x ∷ xs) (suc i) d e l = same_default xs i d e (omega arith)

  -- a line that says so is the same whatever shows what is known of it
  pub keep_any : (x : Line O) (s : ℕ) (ended : (is_some x.reply || nat_le NEVER x.end) ≡ true)
      → ◌≡◌ {A = Line O} (record {
        number = x.number;
        text = x.text;
        client = x.client;
        begin = x.begin;
        end = x.end;
        op = x.op;
        reply = x.reply;
        soonest = s;
        ended = ended;
      }) (record x { soonest = s })
  keep_any x s ended =
      let two : IsProp ((is_some x.reply || nat_le NEVER x.end) ≡ true) = hlevel props in
      ap (λ e. record {
        number = x.number;
        text = x.text;
        client = x.client;
        begin = x.begin;
        end = x.end;
        op = x.op;
        reply = x.reply;
        soonest = s;
        ended = e;
      }) (two ended x.ended)
