use Rattle.vac_sequential.proofs.tries.+change_in.Given as goal

abbrev pub decreases-change_in : goal.decreases-change_in
decreases-change_in g l = l.id
