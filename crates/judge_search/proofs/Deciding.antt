-- A search ends: each step leaves less to do.
use Rattle.std.proofs.Common.{◌≡◌, ◌≢◌, ℕ, ◌+◌, ◌*◌, ◌<◌, ◌≤◌, ◌==◌, ◌||◌, suc, zero, Bool, true, false, cond, List}
use Rattle.std.proofs.Common.{[], ◌∷◌, ◌++◌, length, refl, sym, ap, ◌∙◌, subst, inl, inr, arith, suc-mul, zero-mul}
use Rattle.std.specs.List.{list_any}
use Rattle.judge_object.specs.Rules.{Rules}
use Rattle.judge_object.specs.Call.{Call, EachCall}
use Rattle.judge_search.specs.declared.point.Point.{Point}
use Rattle.judge_search.specs.declared.walk.Finding.{Finding}
use Rattle.judge_search.specs.declared.walk.Finding.TheVariants as finding
use Rattle.judge_object.specs.Orders.{IsMerge}
use Rattle.judge_search.specs.Configurations.{Configuration, IsFirst, start, without_next, after_call}
use Rattle.judge_search.specs.Walk.{AreApart, PathPlace}
use Rattle.judge_search.specs.Walking.{IsUnknown}
use Rattle.judge_search.specs.Searching.{Search, SearchHasBegun, IsTried, PassesOver, GoesDeeper, GoesBack}
use Rattle.judge_search.specs.Searching.{MakesStep, HasMade, HasRun, IsUndecided}
use Rattle.judge_search.specs.Judging.{IsFoundOfCalls, IsFoundIn}
use Rattle.judge_search.specs.Deciding.{most_steps, SearchesEnd, EnoughStepsDecide}
use Rattle.judge_search.proofs.Each.{test}
use Rattle.judge_search.proofs.Clients.{none_order, order_first, order_rest}

either : (each : ℕ) (a b : Bool) → cond {A = ℕ} (a || b) each 0 ≤ cond {A = ℕ} b each 0 + cond {A = ℕ} a each 0
either each true true = omega arith
either each true false = omega arith
either each false true = omega arith
either each false false = omega arith

-- the steps that follow from one call, of this many that are left
abbrev turn_steps : ℕ → ℕ
turn_steps zero = 0
turn_steps (suc others) = 1 + most_steps others

most_is : (n : ℕ) → most_steps n ≡ n * turn_steps n + 1
most_is zero = omega (arith, zero-mul 0)
most_is (suc n) = refl

module _ {O : Type 0} where
  -- a call of the client is left
  abbrev waits : List (Call O) → Call O → Bool
  waits rest call = list_any (λ (o : Call O). o.client == call.client) rest

  -- the steps of calls, of which each takes this many if a call of its client is left
  abbrev cost : ℕ → List (Call O) → List (Call O) → ℕ
  cost each rest [] = 0
  cost each rest (c ∷ cs) = cond {A = ℕ} (waits rest c) each 0 + cost each rest cs

  -- the same of the calls of one client alone
  abbrev own_cost : ℕ → Call O → List (Call O) → ℕ
  own_cost each r [] = 0
  own_cost each r (c ∷ cs) = cond {A = ℕ} (r.client == c.client) each 0 + own_cost each r cs

  own_none : (each : ℕ) (r : Call O) (cs : List (Call O)) → EachCall (λ other. other.client ≢ r.client) cs →
      own_cost each r cs ≡ 0
  own_none each r [] h = refl
  own_none each r (c ∷ cs) h =
      elim (test r.client c.client) [
        | inl t ↦ absurd (h.0 (sym t.1))
        | inr t ↦
            let more = own_none each r cs h.1 in
            let none : cond {A = ℕ} (r.client == c.client) each 0 ≡ 0 = ap (λ (b : Bool). cond {A = ℕ} b each 0) t.0 in
            omega arith
      ]

  own_once : (each : ℕ) (r : Call O) (cs : List (Call O)) → AreApart cs → own_cost each r cs ≤ each
  own_once each r [] h = omega arith
  own_once each r (c ∷ cs) h =
      elim (test r.client c.client) [
        | inl t ↦
            let more : own_cost each r cs ≡ 0 = own_none each r cs
            (subst (λ k. EachCall (λ other. other.client ≢ k) cs) (sym t.1) h.0) in
            let once : cond {A = ℕ} (r.client == c.client) each 0 ≡ each =
            ap (λ (b : Bool). cond {A = ℕ} b each 0) t.0 in
            omega arith
        | inr t ↦
            let more = own_once each r cs h.1 in
            let none : cond {A = ℕ} (r.client == c.client) each 0 ≡ 0 = ap (λ (b : Bool). cond {A = ℕ} b each 0) t.0 in
            omega arith
      ]

  cost_more : (each : ℕ) (r : Call O) (rest cs : List (Call O)) →
      cost each (r ∷ rest) cs ≤ cost each rest cs + own_cost each r cs
  cost_more each r rest [] = omega arith
  cost_more each r rest (c ∷ cs) =
      let more = cost_more each r rest cs in
      let one : cond {A = ℕ} (waits (r ∷ rest) c) each 0 ≤
      cond {A = ℕ} (waits rest c) each 0 + cond {A = ℕ} (r.client == c.client) each 0 =
      either each (r.client == c.client) (waits rest c) in
      omega arith

  cost_none : (each : ℕ) (cs : List (Call O)) → cost each [] cs ≡ 0
  cost_none each [] = refl
  cost_none each (c ∷ cs) = let more = cost_none each cs in omega arith

  -- calls of different clients cost no more than as many calls as are left
  cost_within : (each : ℕ) (rest cs : List (Call O)) → AreApart cs → cost each rest cs ≤ length rest * each
  cost_within each [] cs h = let none = cost_none each cs in omega (arith, zero-mul each)
  cost_within each (r ∷ rest) cs h =
      let more = cost_more each r rest cs in
      let own = own_once each r cs h in
      let others = cost_within each rest cs h in
      omega (arith, suc-mul (length rest) each)

  no_first : (c : Call O) → IsFirst [] c → ⊥
  no_first c f = let e : ◌≡◌ {A = List (Call O)} [] (c ∷ f.tail) = f.is in cc

  -- a client's next call waits
  waits_first : (rest : List (Call O)) (c : Call O) → IsFirst rest c → waits rest c ≡ true
  waits_first [] c f = absurd (no_first c f)
  waits_first (d ∷ ds) c f =
      elim (test d.client c.client) [
        | inl t ↦ rw t.0 refl
        | inr t ↦ rw t.0 (waits_first ds c (record { tail = f.tail; is = rw t.0 at f.is }))
      ]

  -- one call less is left without it
  pub length_without : (rest : List (Call O)) (c : Call O) → IsFirst rest c →
      length rest ≡ suc (length (without_next c.client rest))
  length_without [] c f = absurd (no_first c f)
  length_without (d ∷ ds) c f =
      elim (test d.client c.client) [
        | inl t ↦ rw t.0 refl
        | inr t ↦ rw t.0 (ap suc (length_without ds c (record { tail = f.tail; is = rw t.0 at f.is })))
      ]

  none_merged : (rest : List (Call O)) → IsMerge rest [] → length rest ≡ 0
  none_merged [] m = refl
  none_merged (c ∷ cs) m = absurd (none_order c cs m)

  -- an order has as many calls
  pub merge_length : (rest order : List (Call O)) → IsMerge rest order → length rest ≡ length order
  merge_length rest [] m = none_merged rest m
  merge_length rest (c ∷ order) m =
      length_without rest c (order_first rest c order m)
      ∙ ap suc (merge_length (without_next c.client rest) order (order_rest rest c order m))

  -- the steps that follow where these calls are left to try, until the search goes back
  abbrev value : List (Call O) → List (Call O) → ℕ
  value rest tries = cost (turn_steps (length rest)) rest tries + 1

  value_within : (rest tries : List (Call O)) → AreApart tries → value rest tries ≤ most_steps (length rest)
  value_within rest tries h =
      let w = cost_within (turn_steps (length rest)) rest tries h in
      let m = most_is (length rest) in
      omega arith

module _ {S O : Type 0} where
  -- the steps that follow from the calls that are left to try along a path
  abbrev path_value : List (PathPlace S O) → ℕ
  path_value [] = 0
  path_value (p ∷ ps) = value p.at.rest p.others + path_value ps

  path_more : (ps : List (PathPlace S O)) (p : PathPlace S O) →
      path_value (ps ++ p ∷ []) ≡ path_value ps + value p.at.rest p.others
  path_more [] p = omega arith
  path_more (q ∷ ps) p = let more = path_more ps p in omega arith

  -- the steps that are left to do
  abbrev to_do : Search S O → ℕ
  to_do search = value search.at.rest search.tries + path_value search.path

  -- a call that is tried costs its turn
  tried : (a : Search S O) (c : Call O) (others : List (Call O)) → IsTried a c others →
      value a.at.rest a.tries ≡
      1 + most_steps (length (without_next c.client a.at.rest)) + value a.at.rest others
  tried a c others t =
      let first = t.may.first in
      let each : turn_steps (length a.at.rest) ≡ 1 + most_steps (length (without_next c.client a.at.rest)) =
      ap turn_steps (length_without a.at.rest c first) in
      let turn : cond {A = ℕ} (waits a.at.rest c) (turn_steps (length a.at.rest)) 0 ≡ turn_steps (length a.at.rest) =
      ap (λ (b : Bool). cond {A = ℕ} b (turn_steps (length a.at.rest)) 0) (waits_first a.at.rest c first) in
      let is : value a.at.rest a.tries ≡ value a.at.rest (c ∷ others) = ap (value a.at.rest) t.is in
      let all : value a.at.rest (c ∷ others) ≡ cond {A = ℕ} (waits a.at.rest c) (turn_steps (length a.at.rest)) 0 +
      cost (turn_steps (length a.at.rest)) a.at.rest others + 1 = omega arith in
      omega arith

module _ {S O R : Type 0} (X : Rules S O R) where
  passes_less : (a b : Search S O) → PassesOver X a b → to_do b < to_do a
  passes_less a b p =
      let cost_is = tried a p.call p.others p.tried in
      let now : to_do b ≡ value a.at.rest p.others + path_value a.path = ap to_do p.is in
      omega arith

  deeper_less : (a b : Search S O) → GoesDeeper X a b → to_do b < to_do a
  deeper_less a b d =
      let cost_is = tried a d.call d.others d.tried in
      let within = value_within b.at.rest b.tries d.apart in
      let rest : most_steps (length b.at.rest) ≡ most_steps (length (without_next d.call.client a.at.rest)) =
      ap (λ (at : Configuration S O). most_steps (length at.rest)) d.at in
      let path : path_value b.path ≡ path_value a.path + value a.at.rest d.others =
      ap path_value d.path ∙ path_more a.path (record {
        at = a.at;
        placed = a.placed;
        call = d.call;
        others = d.others;
      }) in
      omega arith

  back_less : (a b : Search S O) → GoesBack a b → to_do b < to_do a
  back_less a b g =
      let none : value a.at.rest a.tries ≡ 1 = ap (value a.at.rest) g.none in
      let path : path_value a.path ≡ path_value g.path + value g.place.at.rest g.place.others =
      ap path_value g.led ∙ path_more g.path g.place in
      let now : to_do b ≡ value g.place.at.rest g.place.others + path_value g.path = ap to_do g.is in
      omega arith

  step_less : (a b : Search S O) → MakesStep X a b → to_do b < to_do a
  step_less a b (inl p) = passes_less a b p
  step_less a b (inr (inl d)) = deeper_less a b d
  step_less a b (inr (inr g)) = back_less a b g

  made_less : (steps : ℕ) (start : Configuration S O) (search : Search S O) (most : ℕ) →
      HasMade X steps start search most → steps + to_do search ≤ most_steps (length start.rest)
  made_less zero start search most h =
      let b = h.0 in
      let within = value_within search.at.rest search.tries b.apart in
      let rest : most_steps (length search.at.rest) ≡ most_steps (length start.rest) =
      ap (λ (at : Configuration S O). most_steps (length at.rest)) b.at in
      let path : path_value search.path ≡ 0 = ap path_value b.path in
      omega arith
  made_less (suc steps) start search most h =
      let before = made_less steps start h.0 h.1 h.2 in
      let less = step_less h.0 search h.3 in
      omega arith

  pub searches_end : SearchesEnd X
  searches_end s calls zero h = omega arith
  searches_end s calls (suc steps) h = let made = made_less steps (start s calls) h.0 h.1 h.2 in omega arith

  -- where nothing was found, a step was left
  pub undecided_less : (s : S) (calls : List (Call O)) (steps most : ℕ) → IsUndecided X (start s calls) steps most →
      steps < most_steps (length calls)
  undecided_less s calls steps most h = let made = made_less steps (start s calls) h.search most h.made in omega arith

  pub enough_steps_decide : EnoughStepsDecide X
  enough_steps_decide at s calls steps found h enough unknown = go found.finding h.finds unknown
    where
      go : (f : Finding (Point S)) → IsFoundOfCalls X at s calls found.steps f → IsUnknown f → ⊥
      go (finding.Order places) is u = u
      go (finding.NoOrder most point) is u = u
      go (finding.Unknown most) is u =
          let spent = h.spent unknown in
          let less = undecided_less s calls found.steps most is in
          let many = enough in
          absurd (omega arith)
