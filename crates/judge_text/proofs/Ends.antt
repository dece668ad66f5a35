-- What the last end of each client says of a further call.
use Rattle.std.proofs.Common.{◌≡◌, ◌≢◌, ℕ, ◌-◌, ◌==◌, ◌&&◌, ◌||◌, ◌<◌, ◌≤◌, Bool, true, false, not, List, []}
use Rattle.std.proofs.Common.{◌∷◌, ◌++◌, length, Option, Some, None, refl, sym, ap, ◌∙◌, subst, inl, inr}
use Rattle.std.proofs.Common.{arith, nat_lt, nat_le, suc, zero, get_or}
use Rattle.std.specs.Prelude.{◌^◌, ◌⊎◌}
use Rattle.std.specs.List.{list_any}
use Rattle.std.specs.Ordering.{nat_cmp, eq_by_cmp}
use Rattle.std.specs.FinMap.{FinMap, get, insert, empty, get-empty, get-insert}
use Rattle.std.proofs.lemmas.Cmp.{nat_cmp_total}
use Rattle.std.proofs.lemmas.Bool.Decides.{nat_tests}
use Rattle.std.proofs.lemmas.List.Folds.{list_any-append}
use Rattle.judge_object.specs.Call.{Call, IsBehind, EachCall}
use Rattle.judge_object.specs.declared.span.TheConstants.{NEVER}
use Rattle.judge_object.specs.declared.line.Line.{Line}
use Rattle.judge_search.specs.Walk.{InTurn, IsTimed, IsWhole}
use Rattle.judge_search.specs.Calls.{call_of, calls_of}
use Rattle.judge_search.proofs.Each.{Test, test}
use Rattle.judge_object.specs.Relaxed.{PendingAreLast}
use Rattle.judge_text.specs.Many.{IsApart, AreStrict}
use Rattle.judge_text.proofs.Relaxed.{pending_last}
use Rattle.judge_text.specs.Turns.{began_before, call_breaks_client, calls_overlap, KeepsEnds, KnowsClients, KnowsEnds}

both_false : (a b : Bool) → (a || b) ≡ false → (a ≡ false) × (b ≡ false)
both_false true b h = cc
both_false false b h = (refl, h)

get_here : (m : FinMap nat_cmp ℕ) (a v b : ℕ) → b ≡ a → get (insert m a v) b ≡ Some v
get_here m a v b e =
    let t : eq_by_cmp nat_cmp b a ≡ true = grind (arith, nat_tests) in
    rw (get-insert nat_cmp_total m a v b, t) refl

get_other : (m : FinMap nat_cmp ℕ) (a v b : ℕ) → b ≢ a → get (insert m a v) b ≡ get m b
get_other m a v b ne =
    let t : eq_by_cmp nat_cmp b a ≡ false = grind (arith, nat_tests) in
    rw (get-insert nat_cmp_total m a v b, t) refl

-- the last end of the client and that of a later call
later : (o : Option ℕ) (begin end b : ℕ) → began_before o begin ≡ false → begin ≤ end →
    (began_before o b || (nat_lt b end || false)) ≡ nat_lt b end
later None begin end b h l = or_false (nat_lt b end)
  where
    or_false : (x : Bool) → (x || false) ≡ x
    or_false true = refl
    or_false false = refl
later (Some e) begin end b h l = go (nat_lt b e) refl (nat_lt b end) refl
  where
    go : (x : Bool) → nat_lt b e ≡ x → (y : Bool) → nat_lt b end ≡ y → (x || (y || false)) ≡ y
    go true p true q = refl
    go true p false q = absurd (
        let one : b < e = grind (arith, nat_tests) in
        let two : end ≤ b = grind (arith, nat_tests) in
        let three : e ≤ begin = grind (arith, nat_tests) in omega arith
        )
    go false p true q = refl
    go false p false q = refl

behind_from : (a b x y : ℕ) → (a == b && nat_lt x y) ≡ false → a ≡ b → y ≤ x
behind_from a b x y h e = grind (arith, nat_tests)

-- what is said of a call by its times
abbrev fits_behind : Option ℕ → ℕ → Bool
fits_behind None begin = true
fits_behind (Some end) begin = nat_le end begin

said : (o : Option ℕ) (begin : ℕ) → not (began_before o begin) ≡ fits_behind o begin
said None begin = refl
said (Some end) begin = go (nat_lt begin end) refl (nat_le end begin) refl
  where
    go : (x : Bool) → nat_lt begin end ≡ x → (y : Bool) → nat_le end begin ≡ y → not x ≡ y
    go true p true q = absurd (let one : begin < end = grind (arith, nat_tests) in let two : end ≤ begin =
        grind (arith, nat_tests) in omega arith)
    go true p false q = refl
    go false p true q = refl
    go false p false q = absurd (let one : end ≤ begin = grind (arith, nat_tests) in let two : begin < end =
        grind (arith, nat_tests) in omega arith)

pub not_true : (b : Bool) → not b ≡ true → b ≡ false
not_true true h = cc
not_true false h = refl

-- what never ended ends later than all begin
never : (end : ℕ) → nat_lt end NEVER ≡ false → 2 ^ 64 - 1 ≤ end
never end e = let x : NEVER ≤ end = grind (arith, nat_tests) in omega arith

module _ {O : Type 0} where
  -- where no call was read no client has ended one
  pub keeps_none : (ends : FinMap nat_cmp ℕ) (calls : List (Call O)) → ends ≡ empty → calls ≡ [] → KeepsEnds ends calls
  keeps_none ends calls e f call =
      ap (list_any (calls_overlap call)) f
      ∙ sym (ap (λ (m : FinMap nat_cmp ℕ). began_before (get m call.client) call.begin) e
      ∙ ap (λ o. began_before o call.begin) (get-empty nat_cmp call.client))

  -- one call more
  pub keeps_more : (ends : FinMap nat_cmp ℕ) (calls : List (Call O)) (c : Call O) → KeepsEnds ends calls →
      call_breaks_client calls c ≡ false
      → KeepsEnds (insert ends c.client c.end) (calls ++ c ∷ [])
  keeps_more ends calls c k n d =
      let none = both_false (nat_lt c.end c.begin) (list_any (calls_overlap c) calls) n in
      let own : c.begin ≤ c.end = (let f = none.0 in grind (arith, nat_tests)) in
      let all : list_any (calls_overlap d) (calls ++ c ∷ []) ≡
      (began_before (get ends d.client) d.begin || ((c.client ==
      d.client && nat_lt d.begin c.end) || false)) =
      list_any-append (calls_overlap d) calls (c ∷ []) ∙ ap (λ b. b || ((c.client ==
      d.client && nat_lt d.begin c.end) || false)) (k d) in
      elim (test c.client d.client) [
        | inl s ↦
            let over : began_before (get ends d.client) c.begin ≡ false =
            subst (λ q. began_before (get ends q) c.begin ≡ false) s.1 (sym (k c) ∙ none.1) in
            all ∙ ap (λ b. began_before (get ends d.client) d.begin || ((b && nat_lt d.begin c.end) || false)) s.0
            ∙ later (get ends d.client) c.begin c.end d.begin over own
            ∙ sym (ap (λ o. began_before o d.begin) (get_here ends c.client c.end d.client (sym s.1)))
        | inr s ↦
            all ∙ ap (λ b. began_before (get ends d.client) d.begin || ((b && nat_lt d.begin c.end) || false)) s.0
            ∙ or_none (began_before (get ends d.client) d.begin)
            ∙ sym (ap (λ o. began_before o d.begin) (get_other ends c.client c.end d.client (λ e. s.1 (sym e))))
      ]
    where
      or_none : (x : Bool) → (x || false) ≡ x
      or_none true = refl
      or_none false = refl

  pub each_more : (P : (Call O) → Type 0) (calls : List (Call O)) (c : Call O) → EachCall P calls → P c →
      EachCall P (calls ++ c ∷ [])
  each_more P [] c h p = (p, tt)
  each_more P (x ∷ xs) c h p = (h.0, each_more P xs c h.1 p)

  -- the calls are in turn with one more
  turn_on : (calls : List (Call O)) (c : Call O) → InTurn calls → c.begin ≤ c.end →
      list_any (calls_overlap c) calls ≡ false →
      InTurn (calls ++ c ∷ [])
  turn_on [] c t own h = (own, tt, tt)
  turn_on (x ∷ xs) c t own h =
      let two = both_false (calls_overlap c x) (list_any (calls_overlap c) xs) h in (
        t.0,
        each_more (λ later. IsBehind later x) xs c t.1 (behind_from x.client c.client c.begin x.end two.0),
        turn_on xs c t.2 own two.1,
      )

  pub turn_more : (calls : List (Call O)) (c : Call O) → InTurn calls → call_breaks_client calls c ≡ false →
      InTurn (calls ++ c ∷ [])
  turn_more calls c t n =
      let none = both_false (nat_lt c.end c.begin) (list_any (calls_overlap c) calls) n in
      turn_on calls c t (let f = none.0 in grind (arith, nat_tests)) none.1

  pub too_early : (calls : List (Call O)) (c : Call O) → c.end < c.begin → false ≡ not (call_breaks_client calls c)
  too_early calls c l = let t : nat_lt c.end c.begin ≡ true = grind (arith, nat_tests) in
      sym (ap (λ b. not (b || list_any (calls_overlap c) calls)) t)

  said_of : (ends : FinMap nat_cmp ℕ) (calls : List (Call O)) (c : Call O) → KeepsEnds ends calls → c.begin ≤ c.end →
      not (call_breaks_client calls c) ≡ fits_behind (get ends c.client) c.begin
  said_of ends calls c k l =
      let t : nat_lt c.end c.begin ≡ false = grind (arith, nat_tests) in
      ap (λ b. not (b || list_any (calls_overlap c) calls)) t ∙ ap not (k c) ∙ said (get ends c.client) c.begin

  pub said_some : (ends : FinMap nat_cmp ℕ) (calls : List (Call O)) (c : Call O) (last : ℕ) → KeepsEnds ends calls →
      c.begin ≤ c.end → get ends c.client ≡ Some last
      → nat_le last c.begin ≡ not (call_breaks_client calls c)
  said_some ends calls c last k l e = sym (said_of ends calls c k l ∙ ap (λ o. fits_behind o c.begin) e)

  pub said_none : (ends : FinMap nat_cmp ℕ) (calls : List (Call O)) (c : Call O) → KeepsEnds ends calls →
      c.begin ≤ c.end →
      get ends c.client ≡ None → true ≡ not (call_breaks_client calls c)
  said_none ends calls c k l e = sym (said_of ends calls c k l ∙ ap (λ o. fits_behind o c.begin) e)

  -- the calls of lines so far
  pub record AreHeld (ends : FinMap nat_cmp ℕ) (calls : List (Call O)) (strict : Bool) : Type 0 where
    pub ends_are : KeepsEnds ends calls
    pub clients : KnowsClients ends calls
    pub real : KnowsEnds ends calls
    pub turn : InTurn calls
    pub timed : EachCall (IsTimed (2 ^ 64 - 1)) calls
    pub apart : strict ≡ true → AreStrict calls
    pub touch : strict ≡ false → AreStrict calls → ⊥

  pub held_none : (ends : FinMap nat_cmp ℕ) (calls : List (Call O)) → ends ≡ empty → calls ≡ [] →
      AreHeld ends calls true
  held_none ends calls e f = record {
    ends_are = keeps_none ends calls e f;
    clients = λ k n. subst (EachCall (λ x. x.client ≢ k)) (sym f) tt;
    real = λ k last is _. absurd (none_some last (sym (get-empty nat_cmp k)
        ∙ sym (ap (λ (m : FinMap nat_cmp ℕ). get m k) e) ∙ is));
    turn = subst InTurn (sym f) tt;
    timed = subst (EachCall (IsTimed (2 ^ 64 - 1))) (sym f) tt;
    apart = λ s. subst AreStrict (sym f) tt;
    touch = λ s. absurd (not_both s);
  }
    where
      none_some : (v : ℕ) → None ≡ Some v → ⊥
      none_some v e = cc

      not_both : true ≡ false → ⊥
      not_both e = cc

  knows_more : (ends : FinMap nat_cmp ℕ) (calls : List (Call O)) (c : Call O) (k : ℕ) → KnowsClients ends calls →
      get (insert ends c.client c.end) k ≡ None → Test c.client k → EachCall (λ x. x.client ≢ k) (calls ++ c ∷ [])
  knows_more ends calls c k h n (inl t) =
      absurd (none_some c.end (sym n ∙ get_here ends c.client c.end k (sym t.1)))
    where
      none_some : (v : ℕ) → None ≡ Some v → ⊥
      none_some v e = cc
  knows_more ends calls c k h n (inr t) =
      each_more (λ x. x.client ≢ k) calls c (h k (sym (get_other ends c.client c.end k (λ e. t.1 (sym e))) ∙ n)) t.1

  strict_more : (calls : List (Call O)) (c : Call O) → AreStrict calls → EachCall (IsApart c) calls →
      AreStrict (calls ++ c ∷ [])
  strict_more [] c s h = (tt, tt)
  strict_more (x ∷ xs) c s h = (each_more (λ later. IsApart later x) xs c s.0 h.0, strict_more xs c s.1 h.1)

  -- the call of the line at a place
  pub calls_get : (ls : List (Line O)) (i : ℕ) (l : Line O) (d : Call O) → i < length ls →
      get_or (calls_of ls) i d ≡ call_of (get_or ls i l)
  calls_get [] i l d h = absurd (omega arith)
  calls_get (x ∷ xs) zero l d h = refl
  calls_get (x ∷ xs) (suc i) l d h = calls_get xs i l d (omega arith)

  -- without the last call
  each_less : (P : Call O → Type 0) (calls : List (Call O)) (c : Call O) → EachCall P (calls ++ c ∷ []) →
      EachCall P calls × P c
  each_less P [] c h = (tt, h.0)
  each_less P (x ∷ xs) c h = let rest = each_less P xs c h.1 in ((h.0, rest.0), rest.1)

  pub strict_less : (calls : List (Call O)) (c : Call O) → AreStrict (calls ++ c ∷ []) →
      AreStrict calls × EachCall (IsApart c) calls
  strict_less [] c s = (tt, tt)
  strict_less (x ∷ xs) c s =
      let one = each_less (λ later. IsApart later x) xs c s.0 in
      let rest = strict_less xs c s.1 in
      ((one.0, rest.0), (one.1, rest.1))

  real_more : (ends : FinMap nat_cmp ℕ) (calls : List (Call O)) (c : Call O) (k last : ℕ) → KnowsEnds ends calls →
      get (insert ends c.client c.end) k ≡ Some last → Test c.client k →
      EachCall (λ x. x.client ≡ k → x.end ≢ last) (calls ++ c ∷ []) → ⊥
  real_more ends calls c k last h is (inl t) all =
      (each_less (λ x. x.client ≡ k → x.end ≢ last) calls c all).1 t.1
      (same (sym (get_here ends c.client c.end k (sym t.1)) ∙ is))
    where
      same : {a b : ℕ} → Some a ≡ Some b → a ≡ b
      same e = cc
  real_more ends calls c k last h is (inr t) all =
      h k last (sym (get_other ends c.client c.end k (λ e. t.1 (sym e))) ∙ is)
      (each_less (λ x. x.client ≡ k → x.end ≢ last) calls c all).0

  -- a call that begins when an earlier one of its client ended is not apart from that
  pub touch_some : (ends : FinMap nat_cmp ℕ) (calls : List (Call O)) (c : Call O) → KnowsEnds ends calls →
      get ends c.client ≡ Some c.begin → EachCall (IsApart c) calls → ⊥
  touch_some ends calls c k is apart = k c.client c.begin is (each calls apart)
    where
      each : (xs : List (Call O)) → EachCall (IsApart c) xs → EachCall (λ x. x.client ≡ c.client → x.end ≢ c.begin) xs
      each [] h = tt
      each (x ∷ xs) h = (λ s e. absurd (let l = h.0 s in omega arith), each xs h.1)

  -- one call more
  pub held_more : (ends : FinMap nat_cmp ℕ) (calls : List (Call O)) (c : Call O) (strict now : Bool) →
      AreHeld ends calls strict → call_breaks_client calls c ≡ false → IsTimed (2 ^ 64 - 1) c →
      (now ≡ true → (strict ≡ true) × EachCall (IsApart c) calls) →
      (now ≡ false → (strict ≡ false) ⊎ (EachCall (IsApart c) calls → ⊥)) →
      AreHeld (insert ends c.client c.end) (calls ++ c ∷ []) now
  held_more ends calls c strict now h f t a b = record {
    ends_are = keeps_more ends calls c h.ends_are f;
    clients = λ k n. knows_more ends calls c k h.clients n (test c.client k);
    real = λ k last is. real_more ends calls c k last h.real is (test c.client k);
    turn = turn_more calls c h.turn f;
    timed = each_more (IsTimed (2 ^ 64 - 1)) calls c h.timed t;
    apart = λ s. strict_more calls c (h.apart (a s).0) (a s).1;
    touch = λ s all.
        let less = strict_less calls c all in
        elim (b s) [
          | inl e ↦ h.touch e less.0
          | inr e ↦ e less.1
        ];
  }

  pub held_whole : (ends : FinMap nat_cmp ℕ) (calls : List (Call O)) (strict : Bool) → AreHeld ends calls strict →
      IsWhole calls × (strict ≡ true → AreStrict calls) × (strict ≡ false → AreStrict calls → ⊥)
      × PendingAreLast calls
  held_whole ends calls strict h = (
    record { turn = h.turn; last = 2 ^ 64 - 1; timed = h.timed },
    h.apart,
    h.touch,
    pending_last calls h.turn h.timed,
  )

  -- a line is timed
  pub timed_of : (l : Line O) → l.begin < 2 ^ 64 → IsTimed (2 ^ 64 - 1) (call_of l)
  timed_of l b = record {
    begins = (let x : l.begin ≤ 2 ^ 64 - 1 = omega arith in x);
    ends = never l.end;
  }

  -- a call that begins later than the last of its client ended
  apart_from : (calls : List (Call O)) (c d : Call O) → d.client ≡ c.client → suc d.begin ≡ c.begin →
      list_any (calls_overlap d) calls ≡ false → EachCall (IsApart c) calls
  apart_from [] c d e f h = tt
  apart_from (x ∷ xs) c d e f h =
      let two = both_false (calls_overlap d x) (list_any (calls_overlap d) xs) h in (
        (λ s. (let y : x.end ≤ d.begin = behind_from x.client d.client d.begin x.end two.0 (s ∙ sym e) in omega arith)),
        apart_from xs c d e f two.1,
      )

  pub apart_some : (ends : FinMap nat_cmp ℕ) (calls : List (Call O)) (c : Call O) (last : ℕ) → KeepsEnds ends calls →
      get ends c.client ≡ Some last → last < c.begin → EachCall (IsApart c) calls
  apart_some ends calls c last k e l =
      let d : Call O = record c { begin = c.begin - 1 } in
      let no : nat_lt d.begin last ≡ false = grind (arith, nat_tests) in
      apart_from calls c d refl (let x : suc (c.begin - 1) ≡ c.begin = omega arith in x)
      (k d ∙ ap (λ o. began_before o d.begin) e ∙ no)

  apart_each : (calls : List (Call O)) (c : Call O) → EachCall (λ x. x.client ≢ c.client) calls →
      EachCall (IsApart c) calls
  apart_each [] c h = tt
  apart_each (x ∷ xs) c h = (λ s. absurd (h.0 s), apart_each xs c h.1)

  pub apart_none : (ends : FinMap nat_cmp ℕ) (calls : List (Call O)) (c : Call O) → KnowsClients ends calls →
      get ends c.client ≡ None → EachCall (IsApart c) calls
  apart_none ends calls c k e = apart_each calls c (k c.client e)
