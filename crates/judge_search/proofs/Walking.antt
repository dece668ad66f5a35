-- Each turn of the running search is a step of the search as defined.
use Rattle.std.proofs.Common.{◌≡◌, ◌⊎◌, ℕ, ◌+◌, ◌<◌, ◌≤◌, ◌==◌, ◌||◌, max, suc, zero, Bool, true, false, cond, Some}
use Rattle.std.proofs.Common.{None, nat_lt, inl, inr, List, [], ◌∷◌, ◌++◌, map, length, slice_get, refl, sym, ap, ◌∙◌}
use Rattle.std.proofs.Common.{subst, arith}
use Rattle.std.specs.List.{Contains}
use Rattle.std.specs.Option.{option_map}
use Rattle.std.proofs.lemmas.List.{length-map}
use Rattle.std.proofs.lemmas.Option.{slice_get-map}
use Rattle.std.proofs.lemmas.Bool.Decides.{nat_tests}
use Rattle.std.proofs.lemmas.Bool.{cases_lt}
use Rattle.std.specs.Prelude.{All}
use Rattle.judge_object.specs.Call.{Call}
use Rattle.judge_search.specs.declared.path.Frame.{Frame}
use Rattle.judge_search.specs.declared.path.Walk.{Walk}
use Rattle.judge_search.specs.Configurations.{Configuration, MayBegin, after_call, fits, answered, weight, PlacesAtMost}
use Rattle.judge_search.specs.Configurations.{Deepest}
use Rattle.judge_search.specs.Walk.{IsWhole, AreChoices, AreApart, PathPlace, IsWalk, IsDeepest, KeepsDeepest}
use Rattle.judge_search.specs.Walk.{Completes}
use Rattle.judge_search.specs.Views.{Views, TellsLeft, IsNextToTry}
use Rattle.std.specs.Global.{Vec}
use Rattle.judge_search.specs.declared.known.Known.{Known}
use Rattle.judge_search.specs.Searching.{Search, HasMade, HasRun, IsUndecided, Places}
use Rattle.judge_search.specs.Walking.{path_place, search_of, AreDistinct, AreMadeBy, WalksWith, Walks, TriesPlace}
use Rattle.judge_search.specs.Walking.{places_of}
use Rattle.judge_search.specs.Walking.{best_of, CompletesBy, FailsBy}
use Rattle.judge_search.proofs.Placing.{made_none, made_one, made_all, made_push, made_pop}
use Rattle.judge_search.proofs.Steps.{all_at, leads_reaches, walk_found, walk_dead, walk_back, walk_lost, walk_on}
use Rattle.judge_search.proofs.Steps.{walk_start, back_less}
use Rattle.judge_object.specs.Rules.{Rules}

pub map_more : {X Y : Type 0} (f : X → Y) (xs : List X) (x : X) → map f (xs ++ x ∷ []) ≡ map f xs ++ f x ∷ []
map_more f [] x = refl
map_more f (y ∷ ys) x = ap (λ l. f y ∷ l) (map_more f ys x)

module _ {S O R : Type 0} (X : Rules S O R) where
  -- a search that has made steps made each but the last without a result
  pub has_run : (steps : ℕ) (start : Configuration S O) (search : Search S O) (most : ℕ) →
      HasMade X steps start search most → HasRun X steps start
  has_run zero start search most h = tt
  has_run (suc steps) start search most h = (h.0, h.1, h.2)

  places_calls : {P : Type 0} (views : Views P S O) (path : List (Frame P)) →
      map (λ (p : PathPlace S O). p.call) (map (path_place views) path) ≡ map views.call (places_of path)
  places_calls views [] = refl
  places_calls views (f ∷ fs) = ap (λ l. views.call f.place ∷ l) (places_calls views fs)

  some_same : {A : Type 0} (x y : A) → Some x ≡ Some y → x ≡ y
  some_same x y e = cc

  get_front : {X : Type 0} (xs ys : List X) (i : ℕ) (x : X) → slice_get xs i ≡ Some x → slice_get (xs ++ ys) i ≡ Some x
  get_front {X = X} [] ys i x e = absurd (none_some x e)
    where
      none_some : (y : X) → None ≡ Some y → ⊥
      none_some y e = cc
  get_front (x' ∷ xs) ys zero x e = e
  get_front (x' ∷ xs) ys (suc i) x e = get_front xs ys i x e

  get_last : {X : Type 0} (xs : List X) (x : X) → slice_get (xs ++ x ∷ []) (length xs) ≡ Some x
  get_last [] x = refl
  get_last (y ∷ ys) x = get_last ys x

  -- what is deepest where one more is known
  deepest_more : (start at : Configuration S O) (n b : ℕ) (known : List (Configuration S O)) →
      (IsDeepest X) start n b (known ++ at ∷ []) → (KeepsDeepest X) start n b (known ++ at ∷ [])
  deepest_more start at n b [] h = h
  deepest_more start at n b (k ∷ ks) h = h

  abbrev calls_of : List (PathPlace S O) → List (Call O)
  calls_of path = map (λ (p : PathPlace S O). p.call) path

  -- the deepest of those that are known, where one more is
  record Better (start at : Configuration S O) (most placed : ℕ) (known : List (Configuration S O)) (pair : ℕ × ℕ) :
      Type 0 where
    more : most ≤ pair.1
    own : placed ≤ pair.1
    deepest : (IsDeepest X) start pair.1 pair.0 (known ++ at ∷ [])

  none_most : (start : Configuration S O) (most best : ℕ) (known : List (Configuration S O)) →
      (KeepsDeepest X) start most best known →
      (length known == 0) ≡ true → most ≡ 0
  none_most start most best [] h e = h
  none_most start most best (k ∷ ks) h e = absurd (false_true e)
    where
      false_true : (length (k ∷ ks) == 0) ≡ true → ⊥
      false_true e = grind (arith, nat_tests)

  some_deepest : (start : Configuration S O) (most best : ℕ) (known : List (Configuration S O)) →
      (KeepsDeepest X) start most best known → (length known == 0) ≡ false → (IsDeepest X) start most best known
  some_deepest start most best [] h e = absurd (true_false e)
    where
      true_false : true ≡ false → ⊥
      true_false e = cc
  some_deepest start most best (k ∷ ks) h e = h

  better : (start at : Configuration S O) (most placed best : ℕ) (tries : List (Call O)) (path : List (PathPlace S O))
      (known : List (Configuration S O))
      → (IsWalk X) start most at placed tries path known → (KeepsDeepest X) start most best known →
      Better start at most placed known (best_of (length known) placed best most)
  better start at most placed best tries path known w k = go (length known == 0) refl (nat_lt most placed) refl
    where
      last : most ≤ placed → Better start at most placed known (length known, placed)
      last l = record {
        more = l;
        own = omega arith;
        deepest = record {
          at = at;
          is = get_last known at;
          deepest = record {
            calls = calls_of path;
            reaches = (leads_reaches X) (answered
                start.rest) most start path at w.leads;
            count = w.count;
            some = w.some;
          };
        };
      }

      go : (x : Bool) → (length known == 0) ≡ x → (y : Bool) → nat_lt most placed ≡ y →
          Better start at most placed known (cond (x || y) (length known, placed) (best, most))
      go true e y f = last (let z : most ≡ 0 = none_most start most best known k e in omega arith)
      go false e true f = last (let z : most < placed = grind (arith, nat_tests) in omega arith)
      go false e false f =
          let d = some_deepest start most best known k e in record {
            more = omega arith;
            own = (let z : placed ≤ most = grind (arith, nat_tests) in z);
            deepest = record { at = d.at; is = get_front known (at ∷ []) best d.at d.is; deepest = d.deepest };
          }

  better_of : {P : Type 0} (views : Views P S O) (start : Configuration S O) (steps : ℕ) (walk : Walk P) →
      (WalksWith X) views start steps walk []
      → Better start (views.at walk.point) walk.most walk.placed (map views.at walk.known.points.items)
      (best_of (length walk.known.points.items) walk.placed walk.best walk.most)
  better_of views start steps walk w =
      subst (λ n. Better start (views.at walk.point) walk.most walk.placed (map views.at walk.known.points.items)
      (best_of n walk.placed walk.best walk.most))
      (length-map walk.known.points.items views.at)
      (better start (views.at walk.point) walk.most walk.placed walk.best [] (map (path_place views) walk.path.items)
      (map views.at walk.known.points.items) w.is w.deepest)

  -- the most that had a place where one more is known, and the point that is gone back to has less
  best_most : (start at : Configuration S O) (most placed best : ℕ) (tries : List (Call O))
      (path : List (PathPlace S O))
      (known : List (Configuration S O))
      → (IsWalk X) start most at placed tries path known → (KeepsDeepest X) start most best known → (back : ℕ) →
      back ≤ placed
      → max (best_of (length known) placed best most).1 back ≡ max most placed
  best_most start at most placed best tries path known w k back l =
      go (length known == 0) refl (nat_lt most placed) refl
    where
      Back : ℕ × ℕ → Type 0
      Back pair = max pair.1 back ≡ max most placed

      go : (x : Bool) → (length known == 0) ≡ x → (y : Bool) → nat_lt most placed ≡ y →
          Back (cond (x || y) (length known, placed) (best, most))
      go true e y f = let z : most ≡ 0 = none_most start most best known k e in omega arith
      go false e true f = let z : most < placed = grind (arith, nat_tests) in omega arith
      go false e false f = let z : placed ≤ most = grind (arith, nat_tests) in omega arith

  -- a walk whose point goes to those that are known
  pub steps_back : {P : Type 0} (views : Views P S O) (start : Configuration S O) (steps : ℕ) (walk : Walk P)
      (frame : Frame P)
      (path : Vec (Frame P)) (known : Known P) (pair : ℕ × ℕ)
      → walk.path.items ≡ path.items ++ frame ∷ [] → known.points.items ≡ walk.known.points.items ++ walk.point ∷ []
      → pair ≡ best_of (length walk.known.points.items) walk.placed walk.best walk.most →
      (WalksWith X) views start steps walk []
      → (Walks X) views start (suc steps) (record {
        point = frame.point;
        placed = frame.placed;
        next = frame.next;
        path = path;
        known = known;
        best = pair.0;
        most = pair.1;
      })
  steps_back {P = P} views start steps walk frame path known pair p k b w =
      let points = map views.at walk.known.points.items in
      let at = views.at walk.point in
      let to : Walk P = record {
        point = frame.point;
        placed = frame.placed;
        next = frame.next;
        path = path;
        known = known;
        best = pair.0;
        most = pair.1;
      } in
      let tries = views.tries frame.point frame.next in
      let best = best_of (length walk.known.points.items) walk.placed walk.best walk.most in
      let one = better_of views start steps walk w in
      let places : map (path_place views) walk.path.items ≡ map
      (path_place views) path.items ++ path_place views frame ∷ [] =
      ap (map (path_place views)) p ∙ map_more (path_place views) path.items frame in
      let gone : (IsWalk X) start walk.most at walk.placed [] (map
      (path_place views) path.items ++ path_place views frame ∷ [])
      points =
      subst (λ ps. (IsWalk X) start walk.most at walk.placed [] ps points) places w.is in
      let all : map views.at known.points.items ≡ points ++ at ∷ [] =
      ap (map views.at) k ∙ map_more views.at walk.known.points.items walk.point in
      let less : frame.placed ≤ walk.placed = (back_less X) start at walk.most walk.placed
      (map (path_place views) path.items)
      (path_place views frame) points gone in
      let same : max best.1 frame.placed ≡ max walk.most walk.placed =
      ap (λ n. max (best_of n walk.placed walk.best walk.most).1 frame.placed)
      (sym (length-map walk.known.points.items views.at))
      ∙ best_most start at walk.most walk.placed walk.best [] (map (path_place views) walk.path.items) points w.is
      w.deepest
      frame.placed less in
      record {
        is = subst (λ ks. (IsWalk X) start pair.1 (views.at frame.point) frame.placed tries
            (map (path_place views) path.items) ks) (sym all)
            (subst (λ q. (IsWalk X) start q.1 (views.at frame.point) frame.placed tries
            (map (path_place views) path.items)
            (points ++ at ∷ [])) (sym b)
            (walk_back X start at walk.most walk.placed best.1 (map (path_place views) path.items)
            (path_place views frame) points gone one.more one.own));
        deepest = subst (λ ks. (KeepsDeepest X) start pair.1 pair.0 ks) (sym all)
            (subst (λ q. (KeepsDeepest X) start q.1 q.0 (points ++ at ∷ [])) (sym b)
            (deepest_more start at best.1 best.0 points one.deepest));
        made = (
          search_of views walk.point walk.placed walk.path.items walk.known.points.items [],
          max walk.most walk.placed,
          w.made,
          inr (inr (record {
            path = map (path_place views) path.items;
            place = path_place views frame;
            none = refl;
            led = places;
            is = ap (λ ks. record {
              at = views.at frame.point;
              placed = frame.placed;
              tries = tries;
              path = map (path_place views) path.items;
              known = ks;
            }) all;
          })),
          ap (λ (q : ℕ × ℕ). max q.1 frame.placed) b ∙ same ∙ (let l : frame.placed ≤ max walk.most walk.placed =
              omega arith in omega arith),
        );
        first = w.first;
        places = made_pop views w.first [] path.items frame walk.point
            (subst (λ fs. AreMadeBy views w.first [] fs walk.point) p w.places);
      }

  -- at the start that says how many have a place at most
  pub steps_none : {P : Type 0} (views : Views P S O) (start : Configuration S O) (steps : ℕ) (walk : Walk P)
      (known : List P)
      (pair : ℕ × ℕ) (deepest : P)
      → walk.path.items ≡ [] → known ≡ walk.known.points.items ++ walk.point ∷ []
      → pair ≡ best_of (length walk.known.points.items) walk.placed walk.best walk.most →
      (WalksWith X) views start steps walk []
      → slice_get known pair.0 ≡ Some deepest → (FailsBy X) views start pair.1 deepest
  steps_none views start steps walk known pair deepest p k b w got =
      let points = map views.at walk.known.points.items in
      let at = views.at walk.point in
      let one = subst (λ q. Better start at walk.most walk.placed points q) (sym b)
      (better_of views start steps walk w) in
      let all : map views.at known ≡ points ++ at ∷ [] = ap (map views.at) k ∙
      map_more views.at walk.known.points.items walk.point in
      let same : one.deepest.at ≡ views.at deepest =
      some_same one.deepest.at (views.at deepest) (sym one.deepest.is ∙ ap (λ l. slice_get l pair.0) (sym all) ∙
      slice_get-map views.at known pair.0 ∙ ap (option_map views.at) got) in
      let none : (IsWalk X) start walk.most at walk.placed [] [] points =
      subst (λ ps. (IsWalk X) start walk.most at walk.placed [] ps points) (ap (map (path_place views)) p) w.is in (
        subst (Deepest X start pair.1) same one.deepest.deepest,
        subst (PlacesAtMost X (answered start.rest) pair.1) (sym none.leads)
            (walk_dead X start at walk.most walk.placed pair.1 [] points none one.more one.own),
      )

  -- the first call that is left to try
  pub tried : {P : Type 0} (views : Views P S O) (start : Configuration S O) (steps : ℕ) (walk : Walk P) (call : Call O)
      (tries : List (Call O))
      → views.tries walk.point walk.next ≡ call ∷ tries → (Walks X) views start steps walk →
      (WalksWith X) views start steps walk (call ∷ tries)
  tried views start steps walk call tries e w = subst (WalksWith X views start steps walk) e w

  -- the next call to try, which gives its reply, is tried from the place behind it
  pub tries_place : {P : Type 0} (views : Views P S O) (start : Configuration S O) (steps : ℕ) (walk : Walk P)
      (place : ℕ) →
      IsNextToTry views walk.point walk.next place → (fits X) (views.at walk.point).state (views.call place) ≡ true →
      (Walks X) views start steps walk → (TriesPlace X) views start steps (record walk { next = place + 1 }) place
  tries_place views start steps walk place n fit w = record {
    walks = tried views start steps walk (views.call place) (views.tries walk.point (place + 1)) n.is w;
    goes = record { may = n.may; fit = fit };
    left = n.left;
  }

  max_same : (m p : ℕ) → max m p ≡ max (max m p) p
  max_same m p = omega arith

  pub steps_lost : {P : Type 0} (views : Views P S O) (start : Configuration S O) (steps : ℕ) (walk : Walk P)
      (call : Call O)
      (tries : List (Call O))
      → (WalksWith X) views start steps walk (call ∷ tries) → MayBegin (views.at walk.point).rest call →
      (fits X) (views.at walk.point).state call ≡ false
      → (WalksWith X) views start (suc steps) walk tries
  steps_lost views start steps walk call tries w may f = record {
    is = (walk_lost X) start (views.at walk.point) walk.most walk.placed call tries
        (map (path_place views) walk.path.items)
        (map views.at walk.known.points.items) w.is
        (λ goes. absurd (false_true (sym f ∙ goes.fit)));
    deepest = w.deepest;
    made = (
      search_of views walk.point walk.placed walk.path.items walk.known.points.items (call ∷ tries),
      max walk.most walk.placed,
      w.made,
      inl (record { call = call; others = tries; tried = record { is = refl; may = may }; why = inl f; is = refl }),
      max_same walk.most walk.placed,
    );
    first = w.first;
    places = w.places;
  }
    where
      false_true : false ≡ true → ⊥
      false_true e = cc

  pub steps_found : {P : Type 0} (views : Views P S O) (start : Configuration S O) (steps : ℕ) (walk : Walk P)
      (place : ℕ)
      (next : P) (places : List ℕ)
      → (TriesPlace X) views start steps walk place → place < views.count →
      views.at next ≡ (after_call X) (views.at walk.point) (views.call place) →
      TellsLeft (answered (views.at next).rest) true
      → ((p : ℕ) → views.made next p ≡ (views.made walk.point p || p == place))
      → places ≡ places_of walk.path.items ++ place ∷ [] → (CompletesBy X) views start places
  steps_found views start steps walk place next places w within e l more p =
      let all = made_one views w.walks.first (places_of walk.path.items) walk.point next place
      (made_all views w.walks.first [] walk.path.items walk.point w.walks.places) w.left within more in
      record {
        completes = subst (Completes X start)
            (ap (λ l. l ++ views.call place ∷ []) (places_calls views walk.path.items) ∙
            sym (map_more views.call (places_of walk.path.items) place) ∙ sym (ap (map views.call) p))
            (walk_found X start (views.at walk.point) walk.most walk.placed
            (views.call place ∷ views.tries walk.point walk.next) (map (path_place views) walk.path.items)
            (map views.at walk.known.points.items) (views.call place) w.walks.is w.goes
            (ap (λ (x : Configuration S O). answered x.rest) (sym e) ∙ l.0 refl));
        distinct = subst AreDistinct (sym p) all.distinct;
        within = subst (λ ps. All (λ place. place < views.count) ps) (sym p) all.within;
      }

  pub steps_known : {P : Type 0} (views : Views P S O) (start : Configuration S O) (steps : ℕ) (walk : Walk P)
      (place : ℕ)
      (next : Configuration S O)
      → (TriesPlace X) views start steps walk place → next ≡ (after_call X) (views.at walk.point) (views.call place)
      → Contains (map views.at walk.known.points.items) next → (Walks X) views start (suc steps) walk
  steps_known views start steps walk place next w e k =
      let total = answered start.rest in
      let call = views.call place in
      let tries = views.tries walk.point walk.next in
      record {
        is = (walk_lost X) start (views.at walk.point) walk.most walk.placed call tries
            (map (path_place views) walk.path.items)
            (map views.at walk.known.points.items) w.walks.is
            (λ goes. subst (PlacesAtMost X total walk.most) e (all_at X (PlacesAtMost X total walk.most)
            (map views.at walk.known.points.items) next w.walks.is.dead k));
        deepest = w.walks.deepest;
        made = (
          search_of views walk.point walk.placed walk.path.items walk.known.points.items (call ∷ tries),
          max walk.most walk.placed,
          w.walks.made,
          inl (record {
            call = call;
            others = tries;
            tried = record { is = refl; may = w.goes.may };
            why = inr (subst (Contains (map views.at walk.known.points.items)) e k);
            is = refl;
          }),
          max_same walk.most walk.placed,
        );
        first = w.walks.first;
        places = w.walks.places;
      }

  max_more : (m p q : ℕ) → p ≤ q → max m q ≡ max (max m p) q
  max_more m p q l = omega arith

  pub steps_on : {P : Type 0} (views : Views P S O) (start : Configuration S O) (steps : ℕ) (walk : Walk P)
      (place count : ℕ)
      (next : P) (path : Vec (Frame P))
      → (TriesPlace X) views start steps walk place → place < views.count →
      views.at next ≡ (after_call X) (views.at walk.point) (views.call place)
      → TellsLeft (answered (views.at next).rest) false
      → ((p : ℕ) → views.made next p ≡ (views.made walk.point p || p == place))
      → AreChoices (views.at next).rest (views.tries next 0) → AreApart (views.tries next 0) →
      count ≡ walk.placed + weight (views.call place)
      → path.items ≡ walk.path.items ++ (record {
        point = walk.point;
        placed = walk.placed;
        place = place;
        next = walk.next;
      }) ∷ []
      → (Walks X) views start (suc steps) (record {
        point = next;
        placed = count;
        next = 0;
        path = path;
        known = walk.known;
        best = walk.best;
        most = walk.most;
      })
  steps_on {P = P} views start steps walk place count next path w within e l more choices apart c p =
      let frame : Frame P = record { point = walk.point; placed = walk.placed; place = place; next = walk.next } in
      let known = map views.at walk.known.points.items in
      let call = views.call place in
      let tries = views.tries walk.point walk.next in
      let some : 1 ≤ answered (after_call X (views.at walk.point) call).rest =
      subst (λ (x : Configuration S O). 1 ≤ answered x.rest) e (l.1 refl) in
      let on = (walk_on X) start (views.at walk.point) walk.most walk.placed count call tries (views.tries next 0)
      (map (path_place views) walk.path.items) known w.walks.is w.goes c some
      (subst (λ (x : Configuration S O). AreChoices x.rest (views.tries next 0)) e choices) in
      let places : map (path_place views) path.items ≡ map (path_place views) walk.path.items ++ path_place views frame
      ∷
      [] =
      ap (map (path_place views)) p ∙ map_more (path_place views) walk.path.items frame in
      record {
        is = subst (λ x. (IsWalk X) start walk.most x count (views.tries next 0)
            (map (path_place views) path.items) known)
            (sym e)
            (subst (λ ps. (IsWalk X) start walk.most (after_call X (views.at walk.point) call) count
            (views.tries next 0) ps known)
            (sym places) on);
        deepest = w.walks.deepest;
        made = (
          search_of views walk.point walk.placed walk.path.items walk.known.points.items (call ∷ tries),
          max walk.most walk.placed,
          w.walks.made,
          inr (inl (record {
            call = call;
            others = tries;
            tried = record { is = refl; may = w.goes.may };
            fit = w.goes.fit;
            some = some;
            at = e;
            placed = c;
            choices = choices;
            apart = apart;
            path = places;
            known = refl;
          })),
          max_more walk.most walk.placed count (omega arith),
        );
        first = w.walks.first;
        places = subst (λ fs. AreMadeBy views w.walks.first [] fs next) (sym p)
            (made_push views w.walks.first [] walk.path.items frame next w.walks.places w.left within more);
      }

  pub starts : {P : Type 0} (views : Views P S O) (point : P) (path : Vec (Frame P)) (known : Known P) →
      path.items ≡ [] →
      known.points.items ≡ []
      → IsWhole (views.at point).rest → TellsLeft (answered (views.at point).rest) false →
      AreChoices (views.at point).rest (views.tries point 0) → AreApart (views.tries point 0)
      → (Walks X) views (views.at point) 0 (record {
        point = point;
        placed = 0;
        next = 0;
        path = path;
        known = known;
        best = 0;
        most = 0;
      })
  starts views point path known p k whole l choices apart = record {
    is = subst (λ ks. (IsWalk X) (views.at point) 0 (views.at point) 0 (views.tries point 0)
        (map (path_place views) path.items) ks) (ap (map views.at) (sym k))
        (subst (λ ps. (IsWalk X) (views.at point) 0 (views.at point) 0 (views.tries point 0) ps [])
        (ap (map (path_place views)) (sym p))
        (walk_start X (views.at point) (views.tries point 0) whole (l.1 refl) choices));
    deepest = subst (λ ks. (KeepsDeepest X) (views.at point) 0 0 ks) (ap (map views.at) (sym k)) refl;
    made = (
      record {
        at = refl;
        placed = refl;
        path = ap (map (path_place views)) p;
        known = ap (map views.at) k;
        some = l.1 refl;
        choices = choices;
        apart = apart;
      },
      refl,
    );
    first = views.made point;
    places = subst (λ fs. AreMadeBy views (views.made point) [] fs point) (sym p) (made_none views point);
  }

  -- where no completed call is left, the order is none
  pub no_calls : (start : Configuration S O) → TellsLeft (answered start.rest) true → (Completes X) start []
  no_calls start l = record { to = start; reaches = refl; done = l.0 refl }

  -- the deeper of two places
  places_max : {P : Type 0} (views : Views P S O) (start : Configuration S O) (steps : ℕ) (walk : Walk P)
      (tries : List (Call O))
      (n : ℕ) → (WalksWith X) views start steps walk tries
      → (n ≡ walk.placed) ⊎ ((n ≡ walk.most) × (walk.placed ≤ walk.most)) → (Places X) start n
  places_max views start steps walk tries n w (inl e) = record {
    calls = calls_of (map (path_place views) walk.path.items);
    at = views.at walk.point;
    reaches = (leads_reaches X) (answered start.rest) walk.most start (map (path_place views) walk.path.items)
        (views.at walk.point) w.is.leads;
    count = (let c = w.is.count in omega arith);
  }
  places_max views start steps walk tries n w (inr e) = go (map views.at walk.known.points.items) w.deepest
    where
      go : (known : List (Configuration S O)) → (KeepsDeepest X) start walk.most walk.best known → (Places X) start n
      go [] z = record { calls = []; at = start; reaches = refl; count = (let m = e.0 in omega arith) }
      go (k ∷ ks) d = record {
        calls = d.deepest.calls;
        at = d.at;
        reaches = d.deepest.reaches;
        count = (let c =
            d.deepest.count in let m = e.0 in omega arith);
      }

  -- what is said of a search that has made its steps
  pub undecided : {P : Type 0} (views : Views P S O) (start : Configuration S O) (steps : ℕ) (walk : Walk P)
      (tries : List (Call O))
      (n : ℕ) → (WalksWith X) views start steps walk tries
      → (n ≡ max walk.most walk.placed) → (IsUndecided X) start steps n
  undecided views start steps walk tries n w e = record {
    search = search_of views walk.point walk.placed walk.path.items walk.known.points.items tries;
    made = subst (HasMade X steps start (search_of views walk.point walk.placed walk.path.items walk.known.points.items
        tries)) (sym e) w.made;
    placed = places_max views start steps walk tries n w (elim (cases_lt walk.most walk.placed) [
      | inl l ↦ inl (omega arith)
      | inr l ↦ inr ((let x : n ≡ walk.most = omega arith in x), l)
    ]);
  }
