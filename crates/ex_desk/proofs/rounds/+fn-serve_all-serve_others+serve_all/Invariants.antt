use Rattle.std.proofs.Common.{◌+◌, ◌*◌, vec_len}
use Rattle.ex_desk.proofs.rounds.+fn-serve_all-serve_others+serve_all.Given as goal

abbrev pub decreases-serve_all : goal.decreases-serve_all
decreases-serve_all g l = 2 * vec_len l.desks

abbrev pub decreases-serve_others : goal.decreases-serve_others
decreases-serve_others g l = 2 * vec_len l.desks + 1
