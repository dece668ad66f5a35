use Rattle.judge_search.proofs.frontier.Level.has.Given as goal

abbrev pub decreases-chain : goal.decreases-chain
decreases-chain g l = l.after
