use Rattle.judge_search.proofs.frontier.trail_places.Given as goal

abbrev pub decreases-trail : goal.decreases-trail
decreases-trail l = l.after
