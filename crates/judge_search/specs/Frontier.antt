-- A search that goes through the ends of the calls: which configurations stand for others, and what
-- the nodes of an end are.
use Rattle.std.specs.Prelude.{◌≡◌, ◌⊎◌, ◌+◌, ◌≤◌, ⊤, ℕ, true, false, All, Option, Some, None, List, [], ◌∷◌, ◌++◌, map, length}
use Rattle.std.specs.List.{Contains}
use Rattle.judge_object.specs.Rules.{Rules}
use Rattle.judge_object.specs.Call.{Call}
use Rattle.judge_search.specs.declared.calls.Calls.{Calls}
use Rattle.judge_search.specs.declared.frontier.Node.{Node}
use Rattle.judge_search.specs.declared.frontier.Front.{Front}
use Rattle.judge_search.specs.declared.frontier.Sweep.{Sweep}
use Rattle.judge_search.specs.declared.frontier.Sweep.TheVariants as sweep
use Rattle.judge_search.specs.declared.point.Point.{Point}
use Rattle.judge_search.specs.declared.walk.Finding.{Finding}
use Rattle.judge_search.specs.declared.walk.Finding.TheVariants as finding
use Rattle.judge_search.specs.Configurations.{Configuration, Goes, CallsReach, fits, after_call, weight, answered}
use Rattle.judge_search.specs.Point.{point_at, point_views}
use Rattle.judge_search.specs.Reaching.{IsReached}
use Rattle.judge_search.specs.Views.{Views}
use Rattle.judge_search.specs.Walking.{FailsBy}

module _ {S O R : Type 0} (X : Rules S O R) where
  -- the call changes no state in which it gives its reply
  abbrev pub IsReadOnly : Call O → Type 0
  IsReadOnly call = (s : S) → fits X s call ≡ true → (X.run s call.op).0 ≡ s

  -- at most this many calls lead from a configuration to one at which no more completed calls are
  -- left than at another
  pub record LeadsAsFar (from : Configuration S O) (most : ℕ) (other : Configuration S O) : Type 0
    where
      pub calls : List (Call O)
      pub to : Configuration S O
      pub reaches : CallsReach X from calls to
      pub few : length calls ≤ most
      pub far : answered to.rest ≤ answered other.rest

  -- one configuration covers another: wherever calls lead from the other, no more calls lead as far
  -- from the one
  abbrev pub Covers : Configuration S O → Configuration S O → Type 0
  Covers one other = (calls : List (Call O)) (to : Configuration S O) →
      CallsReach X other calls to → LeadsAsFar one (length calls) to

  -- one of these configurations covers this one
  pub record IsCovered (by : List (Configuration S O)) (at : Configuration S O) : Type 0 where
    pub one : Configuration S O
    pub is : Contains by one
    pub covers : Covers one at

  -- each configuration is covered to which a call leads that may come next here
  abbrev pub AreNextCovered : List (Configuration S O) → Configuration S O → Type 0
  AreNextCovered by here =
      (call : Call O) → Goes X here call → IsCovered by (after_call X here call)

  -- where a node is
  abbrev pub node_at : Calls O → Node S → Configuration S O
  node_at calls node = point_at X calls node.point

  -- what the call at a place leads to from a node; None if its reply is not the correct one
  abbrev pub NodeLedTo : Calls O → Node S → ℕ → Option (Node S) → Type 0
  NodeLedTo calls node place None =
      fits X (node_at calls node).state ((point_views X calls).call place) ≡ false
  NodeLedTo calls node place (Some next) =
      (fits X (node_at calls node).state ((point_views X calls).call place) ≡ true)
      × (node_at calls next ≡ after_call X (node_at calls node) ((point_views X calls).call place))
      × (next.placed ≡ node.placed + weight ((point_views X calls).call place))

  -- calls lead from a configuration to a node, and as many more completed calls are counted there
  -- as fewer are left
  pub record ComesAfter (calls : Calls O) (from : Configuration S O) (placed : ℕ) (node : Node S) :
      Type 0 where
    pub reached : IsReached X from (node_at calls node)
    pub count : node.placed + answered (node_at calls node).rest ≡ placed + answered from.rest

  -- a node comes after another, and covers it
  pub record Settles (calls : Calls O) (node settled : Node S) : Type 0 where
    pub after : ComesAfter calls (node_at calls node) node.placed settled
    pub covers : Covers (node_at calls settled) (node_at calls node)

  -- the nodes come after another, and cover each configuration after it
  pub record AreNodesAfter (calls : Calls O) (node : Node S) (nodes : List (Node S)) : Type 0 where
    pub after : All (ComesAfter calls (node_at calls node) node.placed) nodes
    pub covered : AreNextCovered (map (node_at calls) nodes) (node_at calls node)

  -- a completed call is left at each of the nodes
  abbrev pub AreUnfinished : Calls O → List (Node S) → Type 0
  AreUnfinished calls nodes = All (λ node. 1 ≤ answered (node_at calls node).rest) nodes

  -- a node is added behind others, unless one is there already
  abbrev pub Meets : Calls O → Node S → List (Node S) → List (Node S) → Type 0
  Meets calls node before after =
      (after ≡ before ++ node ∷ [])
      ⊎ ((after ≡ before) × Contains (map (node_at calls) before) (node_at calls node))

  -- where the nodes of a front are
  abbrev pub front_points : Calls O → Front S → List (Configuration S O)
  front_points calls front =
      map (node_at calls) front.due.nodes.items ++ map (node_at calls) front.ahead.nodes.items

  -- some of the nodes are added to a front, and all are where one of it is
  pub record KeepsAll (calls : Calls O) (nodes : List (Node S)) (before after : Front S) : Type 0
    where
      pub dues : List (Node S)
      pub aheads : List (Node S)
      pub due : after.due.nodes.items ≡ before.due.nodes.items ++ dues
      pub ahead : after.ahead.nodes.items ≡ before.ahead.nodes.items ++ aheads
      pub only_due : (node : Node S) → Contains dues node → Contains nodes node
      pub only_ahead : (node : Node S) → Contains aheads node → Contains nodes node
      pub has : (at : Configuration S O) → Contains (map (node_at calls) nodes) at →
          Contains (front_points calls after) at

  -- calls lead from a start to a node; its completed calls are counted, and one is left
  pub record IsKept (calls : Calls O) (start : Configuration S O) (node : Node S) : Type 0 where
    pub after : ComesAfter calls start 0 node
    pub some : 1 ≤ answered (node_at calls node).rest

  -- all nodes of an end were expanded, which began with these
  pub record IsSwept (calls : Calls O) (start : Configuration S O) (nodes : List (Node S))
      (front : Front S) : Type 0 where
    pub due : All (IsKept calls start) front.due.nodes.items
    pub ahead : All (IsKept calls start) front.ahead.nodes.items
    pub has : (at : Configuration S O) → Contains (map (node_at calls) nodes) at →
        Contains (front_points calls front) at
    pub closed : (here : Configuration S O) →
        Contains (map (node_at calls) front.due.nodes.items) here →
        AreNextCovered (front_points calls front) here

  -- what an end leads to, which began with these nodes
  abbrev pub Sweeps : Calls O → List (Node S) → Sweep S → Type 0
  Sweeps calls nodes (sweep.Swept front) = (start : Configuration S O) →
      All (ComesAfter calls start 0) nodes → IsSwept calls start nodes front
  Sweeps calls nodes (sweep.Found last) = ⊤
  Sweeps calls nodes sweep.Full = ⊤

  -- a search shows that no order places more calls than lead to a point; an order is proposed
  abbrev pub ShowsNoOrder : {P : Type 0} → Views P S O → Configuration S O → Finding P → Type 0
  ShowsNoOrder views start (finding.Order places) = ⊤
  ShowsNoOrder views start (finding.NoOrder most point) = FailsBy X views start most point
  ShowsNoOrder views start (finding.Unknown most) = ⊤

-- the number of completed calls that are counted at a node, if there is one
abbrev pub placed_at : {M : Type 0} → Option (Node M) → ℕ
placed_at None = 0
placed_at (Some node) = node.placed

-- the finding that a node stands for: as many completed calls as there have a position at most
abbrev pub FailsAt : {M : Type 0} → Option (Node M) → Finding (Point M) → Type 0
FailsAt None found = found ≡ finding.Unknown 0
FailsAt (Some node) found = found ≡ finding.NoOrder node.placed node.point

-- a node is the given one or one of these, and at none of them more completed calls are counted
pub record IsDeepestOf {M : Type 0} (given : Option (Node M)) (nodes : List (Node M))
    (deepest : Option (Node M)) : Type 0 where
  pub least : placed_at given ≤ placed_at deepest
  pub most : All (λ node. node.placed ≤ placed_at deepest) nodes
  pub from : (deepest ≡ given) ⊎ ((node : Node M) × (deepest ≡ Some node) × Contains nodes node)
