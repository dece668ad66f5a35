use Rattle.std.specs.Prelude.{All}
use Rattle.judge_search.specs.Configurations.{Configuration}
use Rattle.judge_search.specs.Frontier.{ComesAfter}
use Rattle.judge_search.proofs.Fronts.{Sweeping}
use Rattle.judge_search.proofs.frontier.sweep_end.Given as goal

abbrev pub invariant-nodes : goal.invariant-nodes
invariant-nodes g l = (start : Configuration _ _) →
    All (ComesAfter (g.M.Object.rules) l.calls start 0) l.fn.nodes.items →
    Sweeping (g.M.Object.rules) l.calls start l.fn.nodes.items l.number l.front
