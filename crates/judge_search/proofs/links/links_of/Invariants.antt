use Rattle.judge_search.proofs.Lookback.{KnowsLasts, AreLinkedTo}
use Rattle.judge_search.proofs.links.links_of.Given as goal

abbrev pub invariant-lines : goal.invariant-lines
invariant-lines g l = KnowsLasts l.lines l.place l.lasts × AreLinkedTo l.lines l.links.items l.place
