-- The points that calls lead to, and the states that linearizations leave.
use Rattle.std.proofs.Common.{◌≡◌, ◌⊎◌, ℕ, ◌+◌, ◌<◌, ◌≤◌, suc, zero, true, false, List, [], ◌∷◌, ◌++◌, map}
use Rattle.std.proofs.Common.{length, get_or, refl, sym, ap, ◌∙◌, subst, inl, inr, arith, append_assoc}
use Rattle.std.specs.List.{Contains}
use Rattle.std.proofs.lemmas.Bool.{cases_lt}
use Rattle.std.proofs.lemmas.List.{map-append, length-map, get_or_append_left, get_or-map}
use Rattle.std.proofs.lemmas.List.Elements.{Contains-append_left, Contains-append_right, Contains-append_cases}
use Rattle.std.proofs.lemmas.List.Elements.{Contains-get_or, Contains-push, Contains-push_cases}
use Rattle.judge_object.specs.Rules.{Rules}
use Rattle.judge_object.specs.Call.{Call}
use Rattle.judge_object.specs.Linear.{state_after}
use Rattle.judge_search.specs.Configurations.{Configuration, start, MayBegin, Goes, CallsReach, fits, after_call}
use Rattle.judge_search.specs.Configurations.{answered}
use Rattle.judge_search.specs.Walk.{AreChoices, IsWhole, Completes}
use Rattle.judge_search.specs.Reaching.{AddsNew, IsNextOf, AreNextOf, IsReached, AreReached, AreLeft}
use Rattle.judge_search.specs.Reaching.{AreFinal}
use Rattle.judge_search.proofs.Completing.{linearization_of, completes_start}
use Rattle.judge_search.proofs.Steps.{reaches_more}

true_false : true ≡ false → ⊥
true_false e = cc

none_in : {A : Type 0} (x : A) → Contains [] x → ⊥
none_in x h = let l = h.1 in absurd (omega arith)

cons_cases : {A : Type 0} (x z : A) (xs : List A) (k : ℕ) → k < length (x ∷ xs) → get_or (x ∷ xs) k z ≡ z →
    (x ≡ z) ⊎ Contains xs z
cons_cases x z xs zero l e = inl e
cons_cases x z xs (suc k) l e = inr (k, omega arith, e)

-- an element of a list of one
in_one : {A : Type 0} (x z : A) → Contains (x ∷ []) z → x ≡ z
in_one x z h = elim (cons_cases x z [] h.0 h.1 h.2) [
  | inl e ↦ e
  | inr c ↦ absurd (none_in z c)
]

module _ {P C : Type 0} (at : P → C) where
  in_left : (xs ys : List P) (c : C) → Contains (map at xs) c → Contains (map at (xs ++ ys)) c
  in_left xs ys c h = subst (λ l. Contains l c) (sym (map-append at xs ys))
      (Contains-append_left (map at xs) (map at ys) c h)

  in_right : (xs ys : List P) (c : C) → Contains (map at ys) c → Contains (map at (xs ++ ys)) c
  in_right xs ys c h = subst (λ l. Contains l c) (sym (map-append at xs ys))
      (Contains-append_right (map at xs) (map at ys) c h)

  in_cases : (xs ys : List P) (c : C) → Contains (map at (xs ++ ys)) c → Contains (map at xs) c ⊎
      Contains (map at ys) c
  in_cases xs ys c h = Contains-append_cases (map at xs) (map at ys) c
      (subst (λ l. Contains l c) (map-append at xs ys) h)

  no_more : (xs : List P) → xs ≡ xs ++ []
  no_more [] = refl
  no_more (x ∷ xs) = ap (λ l. x ∷ l) (no_more xs)

  -- no point, a known point and a new point are met
  pub adds_none : (before : List P) → AddsNew at [] before before
  adds_none before = record {
    more = [];
    is = no_more before;
    all = λ c h. absurd (none_in c h);
    only = λ c h. h;
  }

  pub adds_known : (point : P) (before after : List P) → after ≡ before → Contains (map at before) (at point) →
      AddsNew at (point ∷ []) before after
  adds_known point before after e k = record {
    more = [];
    is = e ∙ no_more before;
    all = λ c h. subst (λ l. Contains (map at l) c) (sym e)
        (subst (Contains (map at before)) (in_one (at point) c h) k);
    only = λ c h. absurd (none_in c h);
  }

  pub adds_new : (point : P) (before after : List P) → after ≡ before ++ point ∷ [] →
      AddsNew at (point ∷ []) before after
  adds_new point before after e = record {
    more = point ∷ [];
    is = e;
    all = λ c h. subst (λ l. Contains (map at l) c) (sym e) (in_right before (point ∷ []) c h);
    only = λ c h. h;
  }

  -- one point more is met
  pub adds_more : (points : List P) (point : P) (before middle after : List P) → AddsNew at points before middle →
      AddsNew at (point ∷ []) middle after → AddsNew at (points ++ point ∷ []) before after
  adds_more points point before middle after a b = record {
    more = a.more ++ b.more;
    is = b.is ∙ ap (λ l. l ++ b.more) a.is ∙ append_assoc before a.more b.more;
    all = λ c h. elim (in_cases points (point ∷ []) c h) [
      | inl i ↦ subst (λ l. Contains (map at l) c) (sym b.is) (in_left middle b.more c (a.all c i))
      | inr i ↦ b.all c i
    ];
    only = λ c h. elim (in_cases a.more b.more c h) [
      | inl i ↦ in_left points (point ∷ []) c (a.only c i)
      | inr i ↦ in_right points (point ∷ []) c (b.only c i)
    ];
  }

module _ {S O R : Type 0} (X : Rules S O R) {P : Type 0} (at : P → Configuration S O) where
  -- of the calls to try, all but those that are left were made
  pub record HasTried (here : Configuration S O) (tries left : List (Call O)) (nexts : List P) : Type 0 where
    pub only : (next : Configuration S O) → Contains (map at nexts) next → IsNextOf X here next
    pub all : (call : Call O) → Contains tries call → fits X here.state call ≡ true →
        Contains left call ⊎ Contains (map at nexts) (after_call X here call)

  pub tried_none : (here : Configuration S O) (tries : List (Call O)) → HasTried here tries tries []
  tried_none here tries = record {
    only = λ next h. absurd (none_in next h);
    all = λ call h f. inl h;
  }

  -- a call leads to a point
  pub tried_made : (here : Configuration S O) (tries left others : List (Call O)) (nexts : List P) (call : Call O)
      (next : P) → left ≡ call ∷ others → MayBegin here.rest call → fits X here.state call ≡ true →
      at next ≡ after_call X here call → HasTried here tries left nexts →
      HasTried here tries others (nexts ++ next ∷ [])
  tried_made here tries left others nexts call next e may fit is h = record {
    only = λ b i. elim (in_cases at nexts (next ∷ []) b i) [
      | inl l ↦ h.only b l
      | inr l ↦ record {
        call = call;
        goes = record { may = may; fit = fit };
        is = sym (in_one (at next) b l) ∙ is;
      }
    ];
    all = λ c i f. elim (h.all c i f) [
      | inl l ↦
          let here_or = subst (λ x. Contains x c) e l in
          elim (cons_cases call c others here_or.0 here_or.1 here_or.2) [
            | inl same ↦ inr (in_right at nexts (next ∷ []) (after_call X here c)
                (subst (Contains (at next ∷ [])) (is ∙ ap (after_call X here) same)
                (Contains-push [] (at next))))
            | inr l ↦ inl l
          ]
      | inr l ↦ inr (in_left at nexts (next ∷ []) (after_call X here c) l)
    ];
  }

  -- a call has another reply
  pub tried_lost : (here : Configuration S O) (tries left others : List (Call O)) (nexts : List P) (call : Call O) →
      left ≡ call ∷ others → fits X here.state call ≡ false → HasTried here tries left nexts →
      HasTried here tries others nexts
  tried_lost here tries left others nexts call e none h = record {
    only = h.only;
    all = λ c i f. elim (h.all c i f) [
      | inl l ↦
          let here_or = subst (λ x. Contains x c) e l in
          elim (cons_cases call c others here_or.0 here_or.1 here_or.2) [
            | inl same ↦ absurd (true_false (sym f ∙ ap (fits X here.state) (sym same) ∙ none))
            | inr l ↦ inl l
          ]
      | inr l ↦ inr l
    ];
  }

  -- all were made
  pub tried_all : (here : Configuration S O) (tries left : List (Call O)) (nexts : List P) → left ≡ [] →
      AreChoices here.rest tries → HasTried here tries left nexts → AreNextOf X at here nexts
  tried_all here tries left nexts e choices h = λ next. (
    h.only next,
    λ n. subst (Contains (map at nexts)) (sym n.is)
        (elim (h.all n.call (choices n.call n.goes.may) n.goes.fit) [
          | inl l ↦ absurd (none_in n.call (subst (λ x. Contains x n.call) e l))
          | inr l ↦ l
        ]),
  )

  -- the points that were met are led to, and so are all those that calls lead to from the first ones
  pub record Reaches (first : Configuration S O) (number : ℕ) (points : List P) : Type 0 where
    pub has : Contains (map at points) first
    pub only : (there : Configuration S O) → Contains (map at points) there → IsReached X first there
    pub closed : (i : ℕ) (d : Configuration S O) (call : Call O) → i < number → i < length points →
        Goes X (get_or (map at points) i d) call →
        Contains (map at points) (after_call X (get_or (map at points) i d) call)

  pub reaches_first : (point : P) (points : List P) → points ≡ point ∷ [] → Reaches (at point) 0 points
  reaches_first point points e = record {
    has = subst (λ l. Contains (map at l) (at point)) (sym e) (Contains-push [] (at point));
    only = λ there h. record {
      calls = [];
      reaches = in_one (at point) there (subst (λ l. Contains (map at l) there) e h);
    };
    closed = λ i d call l m g. absurd (omega arith);
  }

  -- the points after one more point are met
  pub reaches_more_points : (first : Configuration S O) (number : ℕ) (points nexts after : List P) (here : P) →
      number < length points → at here ≡ at (get_or points number here) → AreNextOf X at (at here) nexts →
      AddsNew at nexts points after → Reaches first number points → Reaches first (number + 1) after
  reaches_more_points first number points nexts after here within same n a h =
      let here_is : (d : Configuration S O) → get_or (map at points) number d ≡ at here =
      λ d. get_at d in
      record {
        has = kept first h.has;
        only = λ there i. elim (in_cases at points a.more there (subst (λ l. Contains (map at l) there) a.is i)) [
          | inl l ↦ h.only there l
          | inr l ↦
              let next = (n there).0 (a.only there l) in
              let led = h.only (at here) here_in in
              record {
                calls = led.calls ++ next.call ∷ [];
                reaches = subst (CallsReach X first (led.calls ++ next.call ∷ [])) (sym next.is)
                    (reaches_more X first (at here) led.calls next.call led.reaches next.goes);
              }
        ];
        closed = λ i d call l m g. elim (cases_lt i number) [
          | inl old ↦
              let short : i < length points = omega arith in
              let is = was i d short in
              subst (λ b. Contains (map at after) (after_call X b call)) (sym is)
              (kept (after_call X (get_or (map at points) i d) call)
              (h.closed i d call old short (subst (λ b. Goes X b call) is g)))
          | inr new ↦
              let own : i ≡ number = omega arith in
              let is : get_or (map at after) i d ≡ at here =
              ap (λ k. get_or (map at after) k d) own ∙ was number d within ∙ get_at d in
              subst (λ b. Contains (map at after) (after_call X b call)) (sym is)
              (a.all (after_call X (at here) call) ((n (after_call X (at here) call)).1 (record {
                call = call;
                goes = subst (λ b. Goes X b call) is g;
                is = refl;
              })))
        ];
      }
    where
      kept : (b : Configuration S O) → Contains (map at points) b → Contains (map at after) b
      kept b i = subst (λ l. Contains (map at l) b) (sym a.is) (in_left at points a.more b i)

      get_at : (d : Configuration S O) → get_or (map at points) number d ≡ at here
      get_at d = get_or-map at points number here d within ∙ sym same

      here_in : Contains (map at points) (at here)
      here_in = subst (Contains (map at points)) (get_at (at here))
          (Contains-get_or (map at points) number (at here) (let k = length-map points at in omega arith))

      was : (i : ℕ) (d : Configuration S O) → i < length points → get_or (map at after) i d ≡
          get_or (map at points) i d
      was i d l =
          ap (λ x. get_or (map at x) i d) a.is ∙ ap (λ x. get_or x i d) (map-append at points a.more)
          ∙ get_or_append_left (map at points) (map at a.more) d i (let k = length-map points at in omega arith)

  -- from a point that was met calls lead to points that were met
  stays : (first : Configuration S O) (number : ℕ) (points : List P) → length points ≤ number →
      Reaches first number points → (calls : List (Call O)) (here there : Configuration S O) →
      Contains (map at points) here → CallsReach X here calls there → Contains (map at points) there
  stays first number points l h [] here there i r = subst (Contains (map at points)) r i
  stays first number points l h (c ∷ calls) here there i r =
      let short : i.0 < length points = (let k = length-map points at in let m = i.1 in omega arith) in
      stays first number points l h calls (after_call X here c) there
      (subst (λ b. Contains (map at points) (after_call X b c)) i.2
      (h.closed i.0 here c (omega arith) short (subst (λ b. Goes X b c) (sym i.2) r.0)))
      r.1

  pub reaches_all : (first : Configuration S O) (number : ℕ) (points : List P) → length points ≤ number →
      Reaches first number points → AreReached X at first points
  reaches_all first number points l h = λ there. (
    h.only there,
    λ r. stays first number points l h r.calls first there h.has r.reaches,
  )

  -- the calls that lead to a configuration leave its state
  state_reached : (a b : Configuration S O) (calls : List (Call O)) → CallsReach X a calls b →
      state_after X a.state calls ≡ b.state
  state_reached a b [] r = ap (λ (x : Configuration S O). x.state) r
  state_reached a b (c ∷ calls) r = state_reached (after_call X a c) b calls r.1

  pub left_of : (s : S) (calls : List (Call O)) (first : Configuration S O) (points : List P) (states : List S) →
      IsWhole calls → first ≡ start s calls → AreReached X at first points → AreFinal at points states →
      AreLeft X s calls states
  left_of s calls first points states w e reached final = λ state. (
    λ i.
        let end = (final state).0 i in
        let led = (reached end.at).0 end.is in
        let reaches = subst (λ x. CallsReach X x led.calls end.at) e led.reaches in
        let completes : Completes X (start s calls) led.calls =
        record { to = end.at; reaches = reaches; done = end.done } in
        let both = linearization_of X s calls led.calls w completes in
        record {
          order = led.calls;
          orders = both.0;
          linearization = both.1;
          leaves = state_reached (start s calls) end.at led.calls reaches ∙ end.state_is;
        },
    λ left.
        let whole = completes_start X s calls left.order w left.orders left.linearization in
        (final state).1 (record {
          at = whole.to;
          is = (reached whole.to).1 (record {
            calls = left.order;
            reaches = subst (λ x. CallsReach X x left.order whole.to) (sym e) whole.reaches;
          });
          done = whole.done;
          state_is = sym (state_reached (start s calls) whole.to left.order whole.reaches) ∙ left.leaves;
        }),
  )

module _ {P S O : Type 0} (at : P → Configuration S O) where
  pub final_none : (states : List S) → states ≡ [] → AreFinal at [] states
  final_none states e = λ state. (
    λ i. absurd (none_in state (subst (λ l. Contains l state) e i)),
    λ f. absurd (none_in f.at f.is),
  )

  -- at one more point no completed call is left
  pub final_more : (points : List P) (point : P) (states after : List S) → answered (at point).rest ≡ 0 →
      after ≡ states ++ (at point).state ∷ [] → AreFinal at points states →
      AreFinal at (points ++ point ∷ []) after
  final_more points point states after done e h = λ state. (
    λ i. elim (Contains-push_cases states (at point).state state (subst (λ l. Contains l state) e i)) [
      | inl l ↦
          let f = (h state).0 l in
          record { at = f.at; is = in_left at points (point ∷ []) f.at f.is; done = f.done; state_is = f.state_is }
      | inr own ↦ record {
        at = at point;
        is = in_right at points (point ∷ []) (at point) (Contains-push [] (at point));
        done = done;
        state_is = own;
      }
    ],
    λ f. subst (λ l. Contains l state) (sym e)
        (elim (in_cases at points (point ∷ []) f.at f.is) [
          | inl l ↦ Contains-append_left states ((at point).state ∷ []) state
              ((h state).1 (record { at = f.at; is = l; done = f.done; state_is = f.state_is }))
          | inr l ↦ subst (Contains (states ++ (at point).state ∷ []))
              (ap (λ (b : Configuration S O). b.state) (in_one (at point) f.at l) ∙ f.state_is)
              (Contains-push states (at point).state)
        ]),
  )

  -- or one is left
  pub final_less : (points : List P) (point : P) (states after : List S) → 0 < answered (at point).rest →
      after ≡ states → AreFinal at points states → AreFinal at (points ++ point ∷ []) after
  final_less points point states after some e h = λ state. (
    λ i.
        let f = (h state).0 (subst (λ l. Contains l state) e i) in
        record { at = f.at; is = in_left at points (point ∷ []) f.at f.is; done = f.done; state_is = f.state_is },
    λ f. subst (λ l. Contains l state) (sym e)
        (elim (in_cases at points (point ∷ []) f.at f.is) [
          | inl l ↦ (h state).1 (record { at = f.at; is = l; done = f.done; state_is = f.state_is })
          | inr l ↦
              let none : answered (at point).rest ≡ 0 =
              ap (λ (b : Configuration S O). answered b.rest) (in_one (at point) f.at l) ∙ f.done in
              absurd (omega arith)
        ]),
  )
