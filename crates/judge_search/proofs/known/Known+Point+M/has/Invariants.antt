use Rattle.judge_search.proofs.known.Known+Point+M.has.Given as goal

abbrev pub decreases-chain : goal.decreases-chain
decreases-chain g l = l.after
