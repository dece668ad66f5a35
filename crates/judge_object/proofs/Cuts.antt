-- Cuts of histories: a cut of a linearizable history is linearizable, and a cut of a cut is a cut.
use Rattle.std.proofs.Common.{◌≡◌, ◌⊎◌, ℕ, ◌<◌, ◌≤◌, ◌==◌, suc, zero, Bool, true, false, cond, List, [], ◌∷◌, ◌++◌}
use Rattle.std.proofs.Common.{Option, Some, None, refl, sym, ap, ◌∙◌, subst, inl, inr, arith, append_assoc}
use Rattle.std.specs.Prelude.{nat_le, nat_lt}
use Rattle.std.specs.List.{filter_map, cons_option}
use Rattle.std.proofs.lemmas.Bool.Decides.{nat_tests}
use Rattle.judge_object.specs.declared.span.TheConstants.{NEVER}
use Rattle.judge_object.specs.Rules.{Rules}
use Rattle.judge_object.specs.Call.{Call, EachCall, is_completed}
use Rattle.judge_object.specs.Linear.{IsCallAt, CallsTakeTime, CallsAreSequential, CallsKeepPrecedence}
use Rattle.judge_object.specs.Linear.{GiveReplies}
use Rattle.judge_object.specs.Orders.{of_client, IsMerge, IsLinearizable}
use Rattle.judge_object.specs.Cut.{running, cut_call, cut, CutOfCut, CutIsLinearizable, LaterCutsAreIllegal}

none_some : {X : Type 0} (x : X) → None ≡ Some x → ⊥
none_some x e = cc

some_same : {X : Type 0} (x y : X) → Some x ≡ Some y → x ≡ y
some_same x y e = cc

by_test : (a b : ℕ) → nat_le a b ≡ true → a ≤ b
by_test a b e = grind (arith, nat_tests, e)

beyond_test : (a b : ℕ) → nat_le a b ≡ false → b < a
beyond_test a b e = grind (arith, nat_tests, e)

pub filter_append : {X Y : Type 0} (f : X → Option Y) (xs ys : List X) →
    filter_map f (xs ++ ys) ≡ filter_map f xs ++ filter_map f ys
filter_append f [] ys = refl
filter_append f (x ∷ xs) ys =
    elim (f x) as
    (λ o. cons_option o (filter_map f (xs ++ ys)) ≡ cons_option o (filter_map f xs) ++ filter_map f ys) [
      | None ↦ filter_append f xs ys
      | Some y ↦ ap (λ l. y ∷ l) (filter_append f xs ys)
    ]

-- a running call is pending
running_pending : (end : ℕ) → nat_lt (cond {A = ℕ} (nat_lt end NEVER) NEVER end) NEVER ≡ false
running_pending end = go (nat_lt end NEVER) refl
  where
    go : (b : Bool) → nat_lt end NEVER ≡ b → nat_lt (cond {A = ℕ} b NEVER end) NEVER ≡ false
    go true t = refl
    go false t = t

-- a running call does not end by the moment
running_end : (answered : Bool) (end moment : ℕ) → moment < end → moment < NEVER →
    moment < cond {A = ℕ} answered NEVER end
running_end true end moment l n = n
running_end false end moment l n = l

module _ {O : Type 0} where
  -- a call at a moment: it had ended, it was running, or it had not begun
  abbrev pub AtMoment : ℕ → Call O → Type 0
  AtMoment moment call =
      ((call.end ≤ moment) × (cut_call moment call ≡ Some call))
      ⊎ (((moment < call.end) × (call.begin ≤ moment) × (cut_call moment call ≡ Some (running call)))
      ⊎ ((moment < call.end) × (moment < call.begin) × (cut_call moment call ≡ None)))

  pub at_moment : (moment : ℕ) (call : Call O) → AtMoment moment call
  at_moment moment call = go (nat_le call.end moment) refl (nat_le call.begin moment) refl
    where
      go : (a : Bool) → nat_le call.end moment ≡ a → (b : Bool) → nat_le call.begin moment ≡ b → AtMoment moment call
      go true e b f = inl (by_test call.end moment e, rw e refl)
      go false e true f =
          inr (inl (beyond_test call.end moment e, by_test call.begin moment f, rw (e, f) refl))
      go false e false f =
          inr (inr (beyond_test call.end moment e, beyond_test call.begin moment f, rw (e, f) refl))

  -- ---- cuts of cuts

  running_twice : (call : Call O) → running (running call) ≡ running call
  running_twice call = ap (λ b. record {
    client = call.client;
    begin = call.begin;
    end = cond {A = ℕ} b NEVER (cond {A = ℕ} (is_completed call) NEVER call.end);
    op = call.op;
    reply = call.reply;
  }) (running_pending call.end)

  same_running : (earlier later : ℕ) (call : Call O) → earlier ≤ later → earlier < NEVER → later < call.end →
      cut_call earlier (running call) ≡ cut_call earlier call
  same_running earlier later call l n after =
      let late : earlier < call.end = omega (arith, l, after) in
      let end : earlier < (running call).end = running_end (is_completed call) call.end earlier late n in
      elim (at_moment earlier call) [
        | inl h ↦ absurd (let ended = h.0 in omega (arith, ended, late))
        | inr more ↦ elim (at_moment earlier (running call)) [
          | inl h ↦ absurd (let ended = h.0 in omega (arith, ended, end))
          | inr other ↦ elim more [
            | inl h ↦ elim other [
              | inl g ↦ g.2 ∙ ap Some (running_twice call) ∙ sym h.2
              | inr g ↦ absurd (let a = h.1 in let b = g.1 in omega (arith, a, b))
            ]
            | inr h ↦ elim other [
              | inl g ↦ absurd (let a = h.1 in let b = g.1 in omega (arith, a, b))
              | inr g ↦ g.2 ∙ sym h.2
            ]
          ]
        ]
      ]

  not_begun : (earlier later : ℕ) (call : Call O) → earlier ≤ later → later < call.end → later < call.begin →
      cut_call earlier call ≡ None
  not_begun earlier later call l after begin = elim (at_moment earlier call) [
    | inl h ↦ absurd (let ended = h.0 in omega (arith, l, after, ended))
    | inr more ↦ elim more [
      | inl h ↦ absurd (let begun = h.1 in omega (arith, l, begin, begun))
      | inr h ↦ h.2
    ]
  ]

  pub cut_of_cut : CutOfCut O
  cut_of_cut earlier later [] l n = refl
  cut_of_cut earlier later (c ∷ cs) l n =
      let rest = cut_of_cut earlier later cs l n in
      elim (at_moment later c) [
        | inl h ↦
            ap (λ o. cut earlier (cons_option o (cut later cs))) h.1
            ∙ ap (cons_option (cut_call earlier c)) rest
        | inr more ↦ elim more [
          | inl h ↦
              ap (λ o. cut earlier (cons_option o (cut later cs))) h.2
              ∙ ap (cons_option (cut_call earlier (running c))) rest
              ∙ ap (λ o. cons_option o (cut earlier cs)) (same_running earlier later c l n h.0)
          | inr h ↦
              ap (λ o. cut earlier (cons_option o (cut later cs))) h.2 ∙ rest
              ∙ ap (λ o. cons_option o (cut earlier cs)) (sym (not_begun earlier later c l h.0 h.1))
        ]
      ]

  -- ---- each client's calls

  cut_client : (moment : ℕ) (c d : Call O) → cut_call moment c ≡ Some d → d.client ≡ c.client
  cut_client moment c d e = elim (at_moment moment c) [
    | inl h ↦ ap (λ (x : Call O). x.client) (some_same d c (sym e ∙ h.1))
    | inr more ↦ elim more [
      | inl h ↦ ap (λ (x : Call O). x.client) (some_same d (running c) (sym e ∙ h.2))
      | inr h ↦ absurd (none_some d (sym h.2 ∙ e))
    ]
  ]

  pub client_cut : (moment k : ℕ) (cs : List (Call O)) → of_client k (cut moment cs) ≡ cut moment (of_client k cs)
  client_cut moment k [] = refl
  client_cut moment k (c ∷ cs) = go (cut_call moment c) refl (c.client == k) refl (client_cut moment k cs)
    where
      go : (o : Option (Call O)) → cut_call moment c ≡ o → (b : Bool) → (c.client == k) ≡ b →
          of_client k (cut moment cs) ≡ cut moment (of_client k cs) →
          of_client k (cons_option o (cut moment cs)) ≡
          cut moment (cond b (c ∷ of_client k cs) (of_client k cs))
      go None e true t h = h ∙ ap (λ o. cons_option o (cut moment (of_client k cs))) (sym e)
      go None e false t h = h
      go (Some d) e true t h =
          let same : (d.client == k) ≡ true = ap (λ n. n == k) (cut_client moment c d e) ∙ t in
          ap (λ b. cond b (d ∷ of_client k (cut moment cs)) (of_client k (cut moment cs))) same
          ∙ ap (λ l. d ∷ l) h ∙ ap (λ o. cons_option o (cut moment (of_client k cs))) (sym e)
      go (Some d) e false t h =
          let same : (d.client == k) ≡ false = ap (λ n. n == k) (cut_client moment c d e) ∙ t in
          ap (λ b. cond b (d ∷ of_client k (cut moment cs)) (of_client k (cut moment cs))) same ∙ h

  pub merge_cut : (moment : ℕ) (xs ys : List (Call O)) → IsMerge xs ys → IsMerge (cut moment xs) (cut moment ys)
  merge_cut moment xs ys m k =
      client_cut moment k ys ∙ ap (cut moment) (m k) ∙ sym (client_cut moment k xs)

  -- ---- pending calls

  each_join : (P : Call O → Type 0) (xs ys : List (Call O)) → EachCall P xs → EachCall P ys → EachCall P (xs ++ ys)
  each_join P [] ys p q = q
  each_join P (x ∷ xs) ys p q = (p.0, each_join P xs ys p.1 q)

  pending_option : (moment : ℕ) (c : Call O) (o : Option (Call O)) → cut_call moment c ≡ o →
      is_completed c ≡ false ⊎ (moment < c.end) → (rest : List (Call O)) →
      EachCall (λ d. is_completed d ≡ false) rest → EachCall (λ d. is_completed d ≡ false) (cons_option o rest)
  pending_option moment c None e h rest more = more
  pending_option moment c (Some d) e h rest more = (never, more)
    where
      running_never : d ≡ running c → is_completed d ≡ false
      running_never s = ap (λ (x : Call O). is_completed x) s ∙ running_pending c.end

      never : is_completed d ≡ false
      never = elim (at_moment moment c) [
        | inl g ↦ elim h [
          | inl pending ↦ ap (λ (x : Call O). is_completed x) (some_same d c (sym e ∙ g.1)) ∙ pending
          | inr late ↦ absurd (let ended = g.0 in omega (arith, ended, late))
        ]
        | inr other ↦ elim other [
          | inl g ↦ running_never (some_same d (running c) (sym e ∙ g.2))
          | inr g ↦ absurd (none_some d (sym g.2 ∙ e))
        ]
      ]

  all_pending : (moment : ℕ) (cs : List (Call O)) → EachCall (λ c. is_completed c ≡ false ⊎ (moment < c.end)) cs →
      EachCall (λ d. is_completed d ≡ false) (cut moment cs)
  all_pending moment [] h = tt
  all_pending moment (c ∷ cs) h =
      pending_option moment c (cut_call moment c) refl h.0 (cut moment cs) (all_pending moment cs h.1)

  each_then : (P Q : Call O → Type 0) → ((c : Call O) → P c → Q c) → (cs : List (Call O)) → EachCall P cs →
      EachCall Q cs
  each_then P Q f [] h = tt
  each_then P Q f (c ∷ cs) h = (f c h.0, each_then P Q f cs h.1)

  -- ---- an order up to the last call that had ended

  -- a call of an order that had ended, at this position or later
  record Ended (moment : ℕ) (order : List (Call O)) (place : ℕ) : Type 0 where
    pub at : ℕ
    pub call : Call O
    pub is : IsCallAt order at call
    pub later : place ≤ at
    pub ended : call.end ≤ moment

  record Split (moment : ℕ) (order : List (Call O)) : Type 0 where
    pub front : List (Call O)
    pub back : List (Call O)
    pub whole : order ≡ front ++ back
    pub ended : (i : ℕ) (a : Call O) → IsCallAt front i a → Ended moment order i
    pub never : EachCall (λ c. moment < c.end) back

  one_ended : (moment : ℕ) (c : Call O) (cs : List (Call O)) → c.end ≤ moment → (i : ℕ) (a : Call O) →
      IsCallAt (c ∷ []) i a → Ended moment (c ∷ cs) i
  one_ended moment c cs h zero a e =
      record { at = 0; call = c; is = refl; later = omega arith; ended = h }
  one_ended moment c cs h (suc i) a e = absurd (none_some a e)

  more_ended : (moment : ℕ) (c : Call O) (cs : List (Call O)) (i j : ℕ) → i ≤ suc j → Ended moment cs j →
      Ended moment (c ∷ cs) i
  more_ended moment c cs i j l h = record {
    at = suc h.at;
    call = h.call;
    is = h.is;
    later = (let later = h.later in omega (arith, l, later));
    ended = h.ended;
  }

  split : (moment : ℕ) (order : List (Call O)) → Split moment order
  split moment [] =
      record { front = []; back = []; whole = refl; ended = λ i a e. absurd (none_some a e); never = tt }
  split moment (c ∷ cs) =
      let s = split moment cs in go s.front s.back s.whole s.ended s.never
    where
      go : (front back : List (Call O)) → cs ≡ front ++ back →
          ((i : ℕ) (a : Call O) → IsCallAt front i a → Ended moment cs i) → EachCall (λ c. moment < c.end) back →
          Split moment (c ∷ cs)
      go [] back whole ended never = elim (at_moment moment c) [
        | inl h ↦ record {
          front = c ∷ [];
          back = back;
          whole = ap (λ l. c ∷ l) whole;
          ended = one_ended moment c cs h.0;
          never = never;
        }
        | inr more ↦ record {
          front = [];
          back = c ∷ back;
          whole = ap (λ l. c ∷ l) whole;
          ended = λ i a e. absurd (none_some a e);
          never = (
            elim more [
              | inl h ↦ h.0
              | inr h ↦ h.0
            ],
            never,
          );
        }
      ]
      go (f ∷ fs) back whole ended never = record {
        front = c ∷ f ∷ fs;
        back = back;
        whole = ap (λ l. c ∷ l) whole;
        ended = at;
        never = never;
      }
        where
          at : (i : ℕ) (a : Call O) → IsCallAt (c ∷ f ∷ fs) i a → Ended moment (c ∷ cs) i
          at zero a e = more_ended moment c cs 0 0 (omega arith) (ended 0 f refl)
          at (suc i) a e = more_ended moment c cs (suc i) i (omega arith) (ended i a e)

  at_front : (xs ys : List (Call O)) (i : ℕ) (a : Call O) → IsCallAt xs i a → IsCallAt (xs ++ ys) i a
  at_front [] ys i a e = absurd (none_some a e)
  at_front (x ∷ xs) ys zero a e = e
  at_front (x ∷ xs) ys (suc i) a e = at_front xs ys i a e

  -- ---- the cut of calls that had all begun

  -- at a position of the cut is the call of that position, as it stood
  record Stood (moment : ℕ) (calls : List (Call O)) (place : ℕ) (d : Call O) : Type 0 where
    pub call : Call O
    pub is : IsCallAt calls place call
    pub client : d.client ≡ call.client
    pub begin : d.begin ≡ call.begin
    pub begun : call.begin ≤ moment
    pub end : ((call.end ≤ moment) × (d.end ≡ call.end)) ⊎ ((moment < call.end) × (moment < d.end))

  later_stood : (moment : ℕ) (c : Call O) (cs : List (Call O)) (i : ℕ) (d : Call O) → Stood moment cs i d →
      Stood moment (c ∷ cs) (suc i) d
  later_stood moment c cs i d h = record {
    call = h.call;
    is = h.is;
    client = h.client;
    begin = h.begin;
    begun = h.begun;
    end = h.end;
  }

  kept_stood : (moment : ℕ) (c : Call O) (cs : List (Call O)) (d : Call O) → c.begin ≤ moment → c.end ≤ moment →
      c ≡ d → Stood moment (c ∷ cs) 0 d
  kept_stood moment c cs d begun ended same = record {
    call = c;
    is = refl;
    client = ap (λ (x : Call O). x.client) (sym same);
    begin = ap (λ (x : Call O). x.begin) (sym same);
    begun = begun;
    end = inl (ended, ap (λ (x : Call O). x.end) (sym same));
  }

  running_stood : (moment : ℕ) (c : Call O) (cs : List (Call O)) (d : Call O) → moment < NEVER → c.begin ≤ moment →
      moment < c.end → running c ≡ d → Stood moment (c ∷ cs) 0 d
  running_stood moment c cs d n begun late same = record {
    call = c;
    is = refl;
    client = ap (λ (x : Call O). x.client) (sym same);
    begin = ap (λ (x : Call O). x.begin) (sym same);
    begun = begun;
    end = inr (late, subst (λ (x : Call O). moment < x.end) same (running_end (is_completed c) c.end moment late n));
  }

  stood : (moment : ℕ) (cs : List (Call O)) → moment < NEVER →
      ((i : ℕ) (a : Call O) → IsCallAt cs i a → a.begin ≤ moment) → (i : ℕ) (d : Call O) →
      IsCallAt (cut moment cs) i d → Stood moment cs i d
  stood moment [] n begun i d e = absurd (none_some d e)
  stood moment (c ∷ cs) n begun i d e =
      go (at_moment moment c) i e (λ j f. stood moment cs n (λ k a g. begun (suc k) a g) j d f)
    where
      first : c.begin ≤ moment
      first = begun 0 c refl

      some : (x : Call O) → ((x ≡ d) → Stood moment (c ∷ cs) 0 d) → (j : ℕ) →
          IsCallAt (x ∷ cut moment cs) j d → ((k : ℕ) → IsCallAt (cut moment cs) k d → Stood moment cs k d) →
          Stood moment (c ∷ cs) j d
      some x own zero f rest = own (some_same x d f)
      some x own (suc j) f rest = later_stood moment c cs j d (rest j f)

      go : AtMoment moment c → (j : ℕ) → IsCallAt (cut moment (c ∷ cs)) j d →
          ((k : ℕ) → IsCallAt (cut moment cs) k d → Stood moment cs k d) → Stood moment (c ∷ cs) j d
      go (inl h) j f rest =
          some c (kept_stood moment c cs d first h.0) j
          (subst (λ o. IsCallAt (cons_option o (cut moment cs)) j d) h.1 f) rest
      go (inr (inl h)) j f rest =
          some (running c) (running_stood moment c cs d n first h.0) j
          (subst (λ o. IsCallAt (cons_option o (cut moment cs)) j d) h.2 f) rest
      go (inr (inr h)) j f rest = absurd (let late = h.1 in omega (arith, late, first))

  module _ (moment : ℕ) (cs : List (Call O)) (n : moment < NEVER)
      (begun : (i : ℕ) (a : Call O) → IsCallAt cs i a → a.begin ≤ moment) where
    take_time : CallsTakeTime cs → CallsTakeTime (cut moment cs)
    take_time h i d e =
        let x = stood moment cs n begun i d e in
        let was : x.call.begin ≤ x.call.end = h i x.call x.is in
        let begin = x.begin in
        let had = x.begun in
        elim x.end [
          | inl t ↦ let end = t.1 in omega (arith, was, begin, end)
          | inr t ↦ let end = t.1 in omega (arith, had, begin, end)
        ]

    are_sequential : CallsAreSequential cs → CallsAreSequential (cut moment cs)
    are_sequential h i j a b e f less client =
        let x = stood moment cs n begun i a e in
        let y = stood moment cs n begun j b f in
        let was : x.call.end ≤ y.call.begin =
        h i j x.call y.call x.is y.is less (sym x.client ∙ client ∙ y.client) in
        let begin = y.begin in
        let had = y.begun in
        elim x.end [
          | inl t ↦ let end = t.1 in omega (arith, was, begin, end)
          | inr t ↦ let late = t.0 in absurd (omega (arith, was, had, late))
        ]

    keep_precedence : CallsKeepPrecedence cs → CallsKeepPrecedence (cut moment cs)
    keep_precedence h i j a b e f less =
        let x = stood moment cs n begun i a e in
        let y = stood moment cs n begun j b f in
        let begin = y.begin in
        let had = y.begun in
        elim x.end [
          | inl t ↦
              let end = t.1 in
              let before : x.call.end < y.call.begin = omega (arith, less, end, begin) in
              h i j x.call y.call x.is y.is before
          | inr t ↦ let late = t.1 in absurd (omega (arith, less, late, begin, had))
        ]

module _ {S O R : Type 0} (X : Rules S O R) where
  front_replies : (s : S) (xs ys : List (Call O)) → GiveReplies X s (xs ++ ys) → GiveReplies X s xs
  front_replies s [] ys h = tt
  front_replies s (x ∷ xs) ys h = (h.0, front_replies (X.run s x.op).0 xs ys h.1)

  cut_replies : (moment : ℕ) (s : S) (cs : List (Call O)) →
      ((i : ℕ) (a : Call O) → IsCallAt cs i a → a.begin ≤ moment) → GiveReplies X s cs →
      GiveReplies X s (cut moment cs)
  cut_replies moment s [] begun h = tt
  cut_replies moment s (c ∷ cs) begun h =
      let rest = cut_replies moment (X.run s c.op).0 cs (λ i a e. begun (suc i) a e) h.1 in
      elim (at_moment moment c) [
        | inl g ↦ subst (λ o. GiveReplies X s (cons_option o (cut moment cs))) (sym g.1) (h.0, rest)
        | inr more ↦ elim more [
          | inl g ↦ subst (λ o. GiveReplies X s (cons_option o (cut moment cs))) (sym g.2) (h.0, rest)
          | inr g ↦ absurd (let late = g.1 in let first = begun 0 c refl in omega (arith, late, first))
        ]
      ]

  pub cut_linearizable : CutIsLinearizable X
  cut_linearizable s moment calls n h =
      let l = h.linearization in
      let parts = split moment h.order in
      let front = parts.front in
      let inside : (i : ℕ) (a : Call O) → IsCallAt front i a → IsCallAt h.order i a =
      λ i a e. subst (λ cs. IsCallAt cs i a) (sym parts.whole) (at_front front parts.back i a e) in
      let begun : (i : ℕ) (a : Call O) → IsCallAt front i a → a.begin ≤ moment =
      λ i a e. begins l.precedence i a (inside i a e) (parts.ended i a e) in
      let left = cut moment parts.back ++ cut moment h.orders.left in
      let all : cut moment front ++ left ≡ cut moment (h.order ++ h.orders.left) =
      sym (append_assoc (cut moment front) (cut moment parts.back) (cut moment h.orders.left))
      ∙ ap (λ cs. cs ++ cut moment h.orders.left) (sym (filter_append (cut_call moment) front parts.back))
      ∙ ap (λ cs. cut moment cs ++ cut moment h.orders.left) (sym parts.whole)
      ∙ sym (filter_append (cut_call moment) h.order h.orders.left) in
      record {
        order = cut moment front;
        orders = record {
          left = left;
          merges = subst (IsMerge (cut moment calls)) (sym all)
              (merge_cut moment calls (h.order ++ h.orders.left) h.orders.merges);
          never = each_join (λ d. is_completed d ≡ false) (cut moment parts.back) (cut moment h.orders.left)
              (all_pending moment parts.back (each_then (λ c. moment < c.end)
              (λ c. is_completed c ≡ false ⊎ (moment < c.end)) (λ c late. inr late) parts.back parts.never))
              (all_pending moment h.orders.left (each_then (λ c. is_completed c ≡ false)
              (λ c. is_completed c ≡ false ⊎ (moment < c.end)) (λ c never. inl never) h.orders.left h.orders.never));
        };
        linearization = record {
          replies = cut_replies moment s front begun (front_replies s front parts.back
              (subst (GiveReplies X s) parts.whole l.replies));
          times = take_time moment front n begun (λ i a e. l.times i a (inside i a e));
          clients = are_sequential moment front n begun
              (λ i j a b e f less. l.clients i j a b (inside i a e) (inside j b f) less);
          precedence = keep_precedence moment front n begun
              (λ i j a b e f less. l.precedence i j a b (inside i a e) (inside j b f) less);
        };
      }
    where
      begins : CallsKeepPrecedence h.order → (i : ℕ) (a : Call O) → IsCallAt h.order i a → Ended moment h.order i →
          a.begin ≤ moment
      begins p i a e d = go (nat_le a.begin moment) refl
        where
          go : (b : Bool) → nat_le a.begin moment ≡ b → a.begin ≤ moment
          go true t = by_test a.begin moment t
          go false t =
              let late : moment < a.begin = beyond_test a.begin moment t in
              let ended = d.ended in
              let before : d.call.end < a.begin = omega (arith, ended, late) in
              let back : d.at < i = p d.at i d.call a d.is e before in
              let later = d.later in absurd (omega (arith, back, later))

  pub later_cuts_illegal : LaterCutsAreIllegal X
  later_cuts_illegal s earlier later calls l n none h =
      let early : earlier < NEVER = omega (arith, l, n) in
      none (subst (IsLinearizable X s) (cut_of_cut earlier later calls l early)
      (cut_linearizable s earlier (cut later calls) early h))
