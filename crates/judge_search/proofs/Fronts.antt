-- The nodes of one end after the other, and what they say of the start.
use Rattle.std.proofs.Common.{◌≡◌, ◌⊎◌, ℕ, ◌+◌, ◌<◌, ◌≤◌, suc, zero, true, false, Option, Some, None, List, [], ◌∷◌}
use Rattle.std.proofs.Common.{◌++◌}
use Rattle.std.proofs.Common.{map, length, get_or, refl, sym, ap, ◌∙◌, subst, inl, inr, arith, append_assoc}
use Rattle.std.specs.Prelude.{All, IfSome}
use Rattle.std.specs.List.{Contains}
use Rattle.std.proofs.lemmas.Bool.{cases_lt}
use Rattle.std.proofs.lemmas.List.{map-append, length-map, get_or_append_left, get_or-map}
use Rattle.std.proofs.lemmas.List.Elements.{All-nil, All-cons, All-append, All-weaker, All-contains, All-map}
use Rattle.std.proofs.lemmas.List.Elements.{All-from_get_or, All-get_or}
use Rattle.std.proofs.lemmas.List.Elements.{Contains-append_left, Contains-append_right, Contains-append_cases}
use Rattle.std.proofs.lemmas.List.Elements.{Contains-get_or, Contains-push}
use Rattle.judge_object.specs.Rules.{Rules}
use Rattle.judge_object.specs.Call.{Call}
use Rattle.judge_search.specs.declared.calls.Calls.{Calls}
use Rattle.judge_search.specs.declared.frontier.Node.{Node}
use Rattle.judge_search.specs.declared.frontier.Front.{Front}
use Rattle.judge_search.specs.declared.point.Point.{Point}
use Rattle.judge_search.specs.declared.walk.Finding.{Finding}
use Rattle.judge_search.specs.Configurations.{Configuration, Goes, CallsReach, fits, after_call, weight, answered}
use Rattle.judge_search.specs.Configurations.{PlacesAtMost}
use Rattle.judge_search.specs.Point.{point_views}
use Rattle.judge_search.specs.Reaching.{IsReached}
use Rattle.judge_search.specs.Walk.{AreChoices}
use Rattle.judge_search.specs.Walking.{FailsBy}
use Rattle.judge_search.specs.Frontier.{IsReadOnly, Covers, IsCovered, AreNextCovered, node_at, ComesAfter, Settles}
use Rattle.judge_search.specs.Frontier.{AreNodesAfter, AreUnfinished, Meets, front_points, KeepsAll, IsKept, IsSwept}
use Rattle.judge_search.specs.Frontier.{placed_at, IsDeepestOf, FailsAt, ShowsNoOrder}
use Rattle.judge_search.proofs.Left.{answered_after}
use Rattle.judge_search.proofs.Steps.{reaches_more}
use Rattle.judge_search.proofs.Covering.{read_covers, covers_itself, covers_all, bounded_all}

true_false : true ≡ false → ⊥
true_false e = cc

none_in : {A : Type 0} (x : A) → Contains [] x → ⊥
none_in x h = let l = h.1 in absurd (omega arith)

in_one : {A : Type 0} (x z : A) → Contains (x ∷ []) z → x ≡ z
in_one x z h = go h.0 h.1 h.2
  where
    go : (k : ℕ) → k < length (x ∷ []) → get_or (x ∷ []) k z ≡ z → x ≡ z
    go zero l e = e
    go (suc k) l e = absurd (omega arith)

cons_cases : {A : Type 0} (x z : A) (xs : List A) (k : ℕ) → k < length (x ∷ xs) → get_or (x ∷ xs) k z ≡ z →
    (x ≡ z) ⊎ Contains xs z
cons_cases x z xs zero l e = inl e
cons_cases x z xs (suc k) l e = inr (k, (omega arith), e)

append_none : {A : Type 0} (xs : List A) → xs ≡ xs ++ []
append_none [] = refl
append_none (x ∷ xs) = ap (λ l. x ∷ l) (append_none xs)

-- a list of one element
one_all : {A : Type 0} (P : A → Type 0) (x : A) → P x → All P (x ∷ [])
one_all P x h = All-cons P x [] h (All-nil P)

-- what holds of all elements of a list holds of a list of such
all_only : {A : Type 0} (P : A → Type 0) (xs ys : List A) → ((x : A) → Contains ys x → Contains xs x) → All P xs →
    All P ys
all_only P xs [] only h = All-nil P
all_only P xs (y ∷ ys) only h =
    All-cons P y ys (All-contains P xs y h (only y (0, (omega arith), refl)))
    (all_only P xs ys (λ x i. only x (Contains-append_right (y ∷ []) ys x i)) h)

-- an element of a mapped list is one of the list, mapped
module _ {A B : Type 0} (f : A → B) where
  mapped : (xs : List A) (x : A) → Contains xs x → Contains (map f xs) (f x)
  mapped xs x i =
      let l = i.1 in
      let k = length-map xs f in
      (i.0, (omega arith), get_or-map f xs i.0 x (f x) i.1 ∙ ap f i.2)

module _ {S O R : Type 0} (X : Rules S O R) where
  reach_both : (a b c : Configuration S O) (xs ys : List (Call O)) → CallsReach X a xs b → CallsReach X b ys c →
      CallsReach X a (xs ++ ys) c
  reach_both a b c [] ys h g = subst (λ x. CallsReach X x ys c) (sym h) g
  reach_both a b c (x ∷ xs) ys h g = (h.0, reach_both (after_call X a x) b c xs ys h.1 g)

  module _ (calls : Calls O) where
    abbrev at : Node S → Configuration S O
    at node = node_at X calls node

    -- a node comes after itself
    pub comes_itself : (node : Node S) → ComesAfter X calls (at node) node.placed node
    comes_itself node = record { reached = record { calls = []; reaches = refl }; count = refl }

    -- the node after one more call
    pub comes_next : (from : Configuration S O) (placed : ℕ) (node next : Node S) (call : Call O) →
        ComesAfter X calls from placed node → Goes X (at node) call → at next ≡ after_call X (at node) call →
        next.placed ≡ node.placed + weight call → ComesAfter X calls from placed next
    comes_next from placed node next call h goes is e =
        let less : answered (at node).rest ≡ weight call + answered (after_call X (at node) call).rest =
        answered_after X (at node) call goes in
        let same : answered (at next).rest ≡ answered (after_call X (at node) call).rest =
        ap (λ (x : Configuration S O). answered x.rest) is in
        let all = h.count in
        record {
          reached = record {
            calls = h.reached.calls ++ call ∷ [];
            reaches = subst (CallsReach X from (h.reached.calls ++ call ∷ [])) (sym is)
                (reaches_more X from (at node) h.reached.calls call h.reached.reaches goes);
          };
          count = omega arith;
        }

    pub comes_both : (from : Configuration S O) (placed : ℕ) (node other : Node S) →
        ComesAfter X calls from placed node → ComesAfter X calls (at node) node.placed other →
        ComesAfter X calls from placed other
    comes_both from placed node other h g =
        let a = h.count in
        let b = g.count in
        record {
          reached = record {
            calls = h.reached.calls ++ g.reached.calls;
            reaches = reach_both from (at node) (at other) h.reached.calls g.reached.calls h.reached.reaches
                g.reached.reaches;
          };
          count = omega arith;
        }

    pub settles_itself : (node : Node S) → Settles X calls node node
    settles_itself node = record { after = comes_itself node; covers = covers_itself X (at node) }

    -- a read is made
    pub settles_more : (first node next : Node S) (call : Call O) → Settles X calls first node →
        Goes X (at node) call → IsReadOnly X call → at next ≡ after_call X (at node) call →
        next.placed ≡ node.placed + weight call → Settles X calls first next
    settles_more first node next call h goes only is e = record {
      after = comes_next (at first) first.placed node next call h.after goes is e;
      covers = covers_all X (at next) (at node) (at first)
          (subst (λ x. Covers X x (at node)) (sym is) (read_covers X (at node) call goes only)) h.covers;
    }

    -- of the calls to try at a node, all but those that are left were made
    pub record Tries (node : Node S) (tries left : List (Call O)) (nodes : List (Node S)) : Type 0 where
      pub after : All (ComesAfter X calls (at node) node.placed) nodes
      pub covered : (call : Call O) → Contains tries call → fits X (at node).state call ≡ true →
          Contains left call ⊎ IsCovered X (map at nodes) (after_call X (at node) call)

    pub tries_none : (node : Node S) (tries : List (Call O)) (nodes : List (Node S)) → nodes ≡ [] →
        Tries node tries tries nodes
    tries_none node tries nodes e = record {
      after = subst (All (ComesAfter X calls (at node) node.placed)) (sym e)
          (All-nil (ComesAfter X calls (at node) node.placed));
      covered = λ call i f. inl i;
    }

    -- a call leads to a node, which is settled
    pub tries_made : (node next settled : Node S) (tries left others : List (Call O)) (nodes after : List (Node S))
        (call : Call O) → left ≡ call ∷ others → Goes X (at node) call → at next ≡ after_call X (at node) call →
        next.placed ≡ node.placed + weight call → Settles X calls next settled → after ≡ nodes ++ settled ∷ [] →
        Tries node tries left nodes → Tries node tries others after
    tries_made node next settled tries left others nodes after call e goes is count s a h = record {
      after = subst (All (ComesAfter X calls (at node) node.placed)) (sym a)
          (All-append (ComesAfter X calls (at node) node.placed) nodes (settled ∷ []) h.after
          (one_all (ComesAfter X calls (at node) node.placed) settled
          (comes_both (at node) node.placed next settled
          (comes_next (at node) node.placed node next call (comes_itself node) goes is count) s.after)));
      covered = λ c i f. elim (h.covered c i f) [
        | inl l ↦
            let here_or = subst (λ x. Contains x c) e l in
            elim (cons_cases call c others here_or.0 here_or.1 here_or.2) [
              | inl same ↦ inr (record {
                one = at settled;
                is = subst (λ x. Contains (map at x) (at settled)) (sym a)
                    (mapped at (nodes ++ settled ∷ []) settled (Contains-push nodes settled));
                covers = subst (Covers X (at settled)) (is ∙ ap (after_call X (at node)) same) s.covers;
              })
              | inr l ↦ inl l
            ]
        | inr v ↦ inr (record {
          one = v.one;
          is = subst (λ x. Contains x v.one) (sym (ap (map at) a ∙ map-append at nodes (settled ∷ [])))
              (Contains-append_left (map at nodes) (map at (settled ∷ [])) v.one v.is);
          covers = v.covers;
        })
      ];
    }

    -- a call has another reply
    pub tries_lost : (node : Node S) (tries left others : List (Call O)) (nodes : List (Node S)) (call : Call O) →
        left ≡ call ∷ others → fits X (at node).state call ≡ false → Tries node tries left nodes →
        Tries node tries others nodes
    tries_lost node tries left others nodes call e none h = record {
      after = h.after;
      covered = λ c i f. elim (h.covered c i f) [
        | inl l ↦
            let here_or = subst (λ x. Contains x c) e l in
            elim (cons_cases call c others here_or.0 here_or.1 here_or.2) [
              | inl same ↦ absurd (true_false (sym f ∙ ap (fits X (at node).state) (sym same) ∙ none))
              | inr l ↦ inl l
            ]
        | inr v ↦ inr v
      ];
    }

    -- all were made
    pub tries_all : (node : Node S) (tries left : List (Call O)) (nodes : List (Node S)) → left ≡ [] →
        AreChoices (at node).rest tries → Tries node tries left nodes → AreNodesAfter X calls node nodes
    tries_all node tries left nodes e choices h = record {
      after = h.after;
      covered = λ call goes. elim (h.covered call (choices call goes.may) goes.fit) [
        | inl l ↦ absurd (none_in call (subst (λ x. Contains x call) e l))
        | inr v ↦ v
      ];
    }

    -- nothing is kept yet
    pub keeps_none : (front : Front S) → KeepsAll X calls [] front front
    keeps_none front = record {
      dues = [];
      aheads = [];
      due = append_none front.due.nodes.items;
      ahead = append_none front.ahead.nodes.items;
      only_due = λ node i. absurd (none_in node i);
      only_ahead = λ node i. absurd (none_in node i);
      has = λ here i. absurd (none_in here i);
    }

    -- where a node is that was added to a list, or was there
    met : (node : Node S) (before after : List (Node S)) → Meets X calls node before after →
        (more : List (Node S)) × (after ≡ before ++ more) × ((n : Node S) → Contains more n →
        Contains (node ∷ []) n) × Contains (map at after) (at node)
    met node before after m =
        elim m [
          | inl e ↦ (
            node ∷ [],
            e,
            (λ n i. i),
            mapped at after node (subst (λ l. Contains l node) (sym e) (Contains-push before node)),
          )
          | inr e ↦ (
            [],
            e.0 ∙ append_none before,
            (λ n i. absurd (none_in n i)),
            subst (λ l. Contains (map at l) (at node)) (sym e.0) e.1,
          )
        ]

    pub keeps_due : (node : Node S) (before after : Front S) →
        Meets X calls node before.due.nodes.items after.due.nodes.items →
        after.ahead.nodes.items ≡ before.ahead.nodes.items → KeepsAll X calls (node ∷ []) before after
    keeps_due node before after m e =
        let d = met node before.due.nodes.items after.due.nodes.items m in
        record {
          dues = d.0;
          aheads = [];
          due = d.1;
          ahead = e ∙ append_none before.ahead.nodes.items;
          only_due = d.2;
          only_ahead = λ n i. absurd (none_in n i);
          has = λ here i. Contains-append_left (map at after.due.nodes.items) (map at after.ahead.nodes.items) here
              (subst (Contains (map at after.due.nodes.items)) (in_one (at node) here i) d.3);
        }

    pub keeps_ahead : (node : Node S) (before after : Front S) →
        Meets X calls node before.ahead.nodes.items after.ahead.nodes.items →
        after.due.nodes.items ≡ before.due.nodes.items → KeepsAll X calls (node ∷ []) before after
    keeps_ahead node before after m e =
        let d = met node before.ahead.nodes.items after.ahead.nodes.items m in
        record {
          dues = [];
          aheads = d.0;
          due = e ∙ append_none before.due.nodes.items;
          ahead = d.1;
          only_due = λ n i. absurd (none_in n i);
          only_ahead = d.2;
          has = λ here i. Contains-append_right (map at after.due.nodes.items) (map at after.ahead.nodes.items) here
              (subst (Contains (map at after.ahead.nodes.items)) (in_one (at node) here i) d.3);
        }

    -- a front keeps where its nodes are
    pub stays : (nodes : List (Node S)) (before after : Front S) → KeepsAll X calls nodes before after →
        (here : Configuration S O) → Contains (front_points X calls before) here →
        Contains (front_points X calls after) here
    stays nodes before after k here i =
        elim (Contains-append_cases (map at before.due.nodes.items) (map at before.ahead.nodes.items) here i) [
          | inl d ↦ Contains-append_left (map at after.due.nodes.items) (map at after.ahead.nodes.items) here
              (subst (λ l. Contains l here) (sym (ap (map at) k.due ∙ map-append at before.due.nodes.items k.dues))
              (Contains-append_left (map at before.due.nodes.items) (map at k.dues) here d))
          | inr a ↦ Contains-append_right (map at after.due.nodes.items) (map at after.ahead.nodes.items) here
              (subst (λ l. Contains l here)
              (sym (ap (map at) k.ahead ∙ map-append at before.ahead.nodes.items k.aheads))
              (Contains-append_left (map at before.ahead.nodes.items) (map at k.aheads) here a))
        ]

    -- one node more is kept
    pub keeps_more : (nodes : List (Node S)) (node : Node S) (before middle after : Front S) →
        KeepsAll X calls nodes before middle → KeepsAll X calls (node ∷ []) middle after →
        KeepsAll X calls (nodes ++ node ∷ []) before after
    keeps_more nodes node before middle after k m = record {
      dues = k.dues ++ m.dues;
      aheads = k.aheads ++ m.aheads;
      due = m.due ∙ ap (λ l. l ++ m.dues) k.due ∙ append_assoc before.due.nodes.items k.dues m.dues;
      ahead = m.ahead ∙ ap (λ l. l ++ m.aheads) k.ahead ∙ append_assoc before.ahead.nodes.items k.aheads m.aheads;
      only_due = λ n i. elim (Contains-append_cases k.dues m.dues n i) [
        | inl l ↦ Contains-append_left nodes (node ∷ []) n (k.only_due n l)
        | inr l ↦ Contains-append_right nodes (node ∷ []) n (m.only_due n l)
      ];
      only_ahead = λ n i. elim (Contains-append_cases k.aheads m.aheads n i) [
        | inl l ↦ Contains-append_left nodes (node ∷ []) n (k.only_ahead n l)
        | inr l ↦ Contains-append_right nodes (node ∷ []) n (m.only_ahead n l)
      ];
      has = λ here i.
          elim (Contains-append_cases (map at nodes) (map at (node ∷ [])) here
          (subst (λ l. Contains l here) (map-append at nodes (node ∷ [])) i)) [
            | inl l ↦ stays (node ∷ []) middle after m here (k.has here l)
            | inr l ↦ m.has here l
          ];
    }

    -- what holds of the nodes of a front and of those that are added holds of the front after
    all_kept : (P : Node S → Type 0) (nodes : List (Node S)) (before after : Front S) →
        KeepsAll X calls nodes before after → All P nodes → All P before.due.nodes.items →
        All P before.ahead.nodes.items → All P after.due.nodes.items × All P after.ahead.nodes.items
    all_kept P nodes before after k h d a = (
      subst (All P) (sym k.due)
          (All-append P before.due.nodes.items k.dues d (all_only P nodes k.dues k.only_due h)),
      subst (All P) (sym k.ahead)
          (All-append P before.ahead.nodes.items k.aheads a (all_only P nodes k.aheads k.only_ahead h)),
    )

    all_both : (P Q : Node S → Type 0) (nodes : List (Node S)) → All P nodes → All Q nodes →
        All (λ n. P n × Q n) nodes
    all_both P Q nodes p q i d l = (p i d l, q i d l)

    all_are : (start : Configuration S O) (nodes : List (Node S)) → All (ComesAfter X calls start 0) nodes →
        AreUnfinished X calls nodes → All (IsKept X calls start) nodes
    all_are start nodes c u i d l = record { after = c i d l; some = u i d l }

    -- an end that is being swept: the first nodes that are due were expanded
    pub record Sweeping (start : Configuration S O) (nodes : List (Node S)) (number : ℕ) (front : Front S) : Type 0
      where
        pub due : All (IsKept X calls start) front.due.nodes.items
        pub ahead : All (IsKept X calls start) front.ahead.nodes.items
        pub has : (here : Configuration S O) → Contains (map at nodes) here →
            Contains (front_points X calls front) here
        pub closed : (i : ℕ) (d : Configuration S O) → i < number → i < length front.due.nodes.items →
            AreNextCovered X (front_points X calls front) (get_or (map at front.due.nodes.items) i d)

    pub sweeping_first : (start : Configuration S O) (nodes : List (Node S)) (before front : Front S) →
        before.due.nodes.items ≡ [] → before.ahead.nodes.items ≡ [] → KeepsAll X calls nodes before front →
        AreUnfinished X calls nodes → All (ComesAfter X calls start 0) nodes → Sweeping start nodes 0 front
    sweeping_first start nodes before front d a k u c =
        let P = IsKept X calls start in
        let all = all_kept P nodes before front k (all_are start nodes c u) (subst (All P) (sym d) (All-nil P))
        (subst (All P) (sym a) (All-nil P)) in
        record {
          due = all.0;
          ahead = all.1;
          has = k.has;
          closed = λ i e l m. absurd (omega arith);
        }

    -- the nodes after one more node are kept
    pub sweeping_more : (start : Configuration S O) (given nodes : List (Node S)) (number : ℕ) (here : Node S)
        (before after : Front S) → number < length before.due.nodes.items →
        here ≡ get_or before.due.nodes.items number here → AreNodesAfter X calls here nodes →
        KeepsAll X calls nodes before after → AreUnfinished X calls nodes → Sweeping start given number before →
        Sweeping start given (number + 1) after
    sweeping_more start given nodes number here before after within is n k u h =
        let P = IsKept X calls start in
        let own : P here = subst P (sym is) (All-get_or P before.due.nodes.items number here within h.due) in
        let come : All (ComesAfter X calls start 0) nodes =
        All-weaker (ComesAfter X calls (at here) here.placed) (ComesAfter X calls start 0)
        (λ node c. comes_both start 0 here node own.after c) nodes n.after in
        let all = all_kept P nodes before after k (all_are start nodes come u) h.due h.ahead in
        record {
          due = all.0;
          ahead = all.1;
          has = λ c i. stays nodes before after k c (h.has c i);
          closed = λ i d l m call goes.
              elim (cases_lt i number) [
                | inl old ↦
                    let short : i < length before.due.nodes.items = omega arith in
                    let same = was i d short in
                    let next = h.closed i d old short call (subst (λ b. Goes X b call) same goes) in
                    subst (λ b. IsCovered X (front_points X calls after) (after_call X b call)) (sym same)
                    (record { one = next.one; is = stays nodes before after k next.one next.is; covers = next.covers })
                | inr new ↦
                    let last : i ≡ number = omega arith in
                    let same : get_or (map at after.due.nodes.items) i d ≡ at here =
                    ap (λ j. get_or (map at after.due.nodes.items) j d) last ∙ was number d within
                    ∙ get_or-map at before.due.nodes.items number here d within ∙ ap at (sym is) in
                    let next = n.covered call (subst (λ b. Goes X b call) same goes) in
                    subst (λ b. IsCovered X (front_points X calls after) (after_call X b call)) (sym same)
                    (record { one = next.one; is = k.has next.one next.is; covers = next.covers })
              ];
        }
      where
        was : (i : ℕ) (d : Configuration S O) → i < length before.due.nodes.items →
            get_or (map at after.due.nodes.items) i d ≡ get_or (map at before.due.nodes.items) i d
        was i d l =
            ap (λ x. get_or (map at x) i d) k.due
            ∙ ap (λ x. get_or x i d) (map-append at before.due.nodes.items k.dues)
            ∙ get_or_append_left (map at before.due.nodes.items) (map at k.dues) d i
            (let e = length-map before.due.nodes.items at in omega arith)

    pub swept : (start : Configuration S O) (nodes : List (Node S)) (number : ℕ) (front : Front S) →
        length front.due.nodes.items ≤ number → Sweeping start nodes number front → IsSwept X calls start nodes front
    swept start nodes number front l h = record {
      due = h.due;
      ahead = h.ahead;
      has = h.has;
      closed = λ here i call goes.
          let short : i.0 < length front.due.nodes.items =
          (let k = length-map front.due.nodes.items at in let m = i.1 in omega arith) in
          subst (λ b. IsCovered X (front_points X calls front) (after_call X b call)) i.2
          (h.closed i.0 here (omega arith) short call (subst (λ b. Goes X b call) (sym i.2) goes));
    }

    -- a search that has gone through some ends: where the nodes are, whatever holds of a bound there
    -- holds of the start
    pub record Searches (start : Configuration S O) (best : Option (Node S)) (nodes : List (Node S)) : Type 0 where
      pub nodes_come : All (ComesAfter X calls start 0) nodes
      pub best_kept : IfSome best (IsKept X calls start)
      pub bound : (number : ℕ) → placed_at best ≤ number → ((here : Configuration S O) →
          Contains (map at nodes) here → PlacesAtMost X (answered start.rest) number here) →
          PlacesAtMost X (answered start.rest) number start

    pub searches_first : (node : Node S) (nodes : List (Node S)) → nodes ≡ node ∷ [] → node.placed ≡ 0 →
        Searches (at node) None nodes
    searches_first node nodes e z = record {
      nodes_come = subst (All (ComesAfter X calls (at node) 0)) (sym e) (one_all (ComesAfter X calls (at node) 0) node
          (subst (λ k. ComesAfter X calls (at node) k node) z (comes_itself node)));
      best_kept = tt;
      bound = λ number l h. h (at node) (subst (λ l. Contains (map at l) (at node)) (sym e) (0, (omega arith), refl));
    }

    pub searches_more : (start : Configuration S O) (best deepest : Option (Node S)) (nodes : List (Node S))
        (front : Front S) → IsSwept X calls start nodes front → IsDeepestOf best front.due.nodes.items deepest →
        Searches start best nodes → Searches start deepest front.ahead.nodes.items
    searches_more start best deepest nodes front w d h =
        let P = IsKept X calls start in
        record {
          nodes_come = All-weaker P (ComesAfter X calls start 0) (λ node k. k.after) front.ahead.nodes.items w.ahead;
          best_kept = elim d.from [
            | inl e ↦ subst (λ b. IfSome b P) (sym e) h.best_kept
            | inr n ↦ subst (λ b. IfSome b P) (sym n.1)
                (All-contains P front.due.nodes.items n.0 w.due n.2)
          ];
          bound = λ number l bound.
              let least = d.least in
              h.bound number (omega arith) (λ here i.
              bounded_all X (answered start.rest) number (map at front.due.nodes.items)
              (map at front.ahead.nodes.items) w.closed (own number l) bound here (w.has here i));
        }
      where
        own : (number : ℕ) → placed_at deepest ≤ number → (here : Configuration S O) →
            Contains (map at front.due.nodes.items) here → answered start.rest ≤ number + answered here.rest
        own number l here i =
            let Q = λ (node : Node S). answered start.rest ≤ number + answered (at node).rest in
            let all : All Q front.due.nodes.items =
            λ j e m. (let k = w.due j e m in let c = k.after.count in let s = d.most j e m in omega arith) in
            All-contains (λ (x : Configuration S O). answered start.rest ≤ number + answered x.rest)
            (map at front.due.nodes.items) here
            (All-map (λ (x : Configuration S O). answered start.rest ≤ number + answered x.rest) at
            front.due.nodes.items all) i

    -- with no node left, no order places more completed calls than lead to the best
    pub shows : (start : Configuration S O) (best : Option (Node S)) (node : Node S) (nodes : List (Node S)) →
        best ≡ Some node → nodes ≡ [] → Searches start best nodes →
        FailsBy X (point_views X calls) start node.placed node.point
    shows start best node nodes e none h =
        let kept : IsKept X calls start node = subst (λ b. IfSome b (IsKept X calls start)) e h.best_kept in
        let count = kept.after.count in (
          record {
            calls = kept.after.reached.calls;
            reaches = kept.after.reached.reaches;
            count = omega arith;
            some = kept.some;
          },
          h.bound node.placed (let s : placed_at best ≡ node.placed = ap placed_at e in omega arith)
              (λ here i. absurd (none_in here (subst (λ l. Contains (map at l) here) none i))),
        )

    pub shows_at : (start : Configuration S O) (best : Option (Node S)) (nodes : List (Node S))
        (found : Finding (Point S)) → FailsAt best found → nodes ≡ [] → Searches start best nodes →
        ShowsNoOrder X (point_views X calls) start found
    shows_at start None nodes found e none h = subst (ShowsNoOrder X (point_views X calls) start) (sym e) tt
    shows_at start (Some node) nodes found e none h =
        subst (ShowsNoOrder X (point_views X calls) start) (sym e) (shows start (Some node) node nodes refl none h)

pub no_items : {A : Type 0} (xs : List A) → length xs ≡ 0 → xs ≡ []
no_items [] e = refl
no_items (x ∷ xs) e = absurd (omega arith)

module _ {M : Type 0} where
  pub deepest_none : (given : Option (Node M)) (nodes : List (Node M)) → nodes ≡ [] → IsDeepestOf given nodes given
  deepest_none given nodes e = record {
    least = omega arith;
    most = subst (All (λ (node : Node M). node.placed ≤ placed_at given)) (sym e)
        (All-nil (λ (node : Node M). node.placed ≤ placed_at given));
    from = inl refl;
  }

  -- one node more
  pub deepest_more : (given middle deepest : Option (Node M)) (nodes : List (Node M)) (node : Node M) →
      IsDeepestOf given nodes middle → IsDeepestOf middle (node ∷ []) deepest →
      IsDeepestOf given (nodes ++ node ∷ []) deepest
  deepest_more given middle deepest nodes node h g =
      let P = λ (node : Node M). node.placed ≤ placed_at deepest in
      let more = g.least in
      let less = h.least in
      record {
        least = omega arith;
        most = All-append P nodes (node ∷ [])
            (All-weaker (λ (node : Node M). node.placed ≤ placed_at middle) P (λ n l. omega arith) nodes h.most) g.most;
        from = elim g.from [
          | inl e ↦ elim h.from [
            | inl i ↦ inl (e ∙ i)
            | inr i ↦ inr (i.0, e ∙ i.1, Contains-append_left nodes (node ∷ []) i.0 i.2)
          ]
          | inr i ↦ inr (i.0, i.1, Contains-append_right nodes (node ∷ []) i.0 i.2)
        ];
      }

  pub deepest_this : (given : Option (Node M)) (node : Node M) → placed_at given ≤ node.placed →
      IsDeepestOf given (node ∷ []) (Some node)
  deepest_this given node l = record {
    least = l;
    most = one_all (λ (n : Node M). n.placed ≤ node.placed) node (let e : node.placed ≤ node.placed = omega arith in e);
    from = inr (node, refl, (0, (omega arith), refl));
  }

  pub deepest_given : (given : Option (Node M)) (best node : Node M) → given ≡ Some best → node.placed ≤ best.placed →
      IsDeepestOf given (node ∷ []) (Some best)
  deepest_given given best node e l = record {
    least = let s : placed_at given ≡ best.placed = ap placed_at e in omega arith;
    most = one_all (λ (n : Node M). n.placed ≤ best.placed) node l;
    from = inl (sym e);
  }
