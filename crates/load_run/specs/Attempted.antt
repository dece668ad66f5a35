-- The attempt statistics of calls, and their relation to the results of the tasks.
use Rattle.std.specs.Prelude.{◌≡◌, ◌≤◌, ℕ, ◌+◌, ◌*◌}
use Rattle.vac_manager.specs.declared.placed.CallStatistics.{CallStatistics}
use Rattle.load_run.specs.declared.statistics.AttemptStatistics.{AttemptStatistics}
use Rattle.load_run.specs.declared.outcomes.Outcomes.{Outcomes}
use Rattle.load_run.specs.Looping.{nothing, total}

-- the attempt statistics of no call
abbrev pub no_attempts : AttemptStatistics
no_attempts = record {
  attempts = 0;
  held = 0;
  newer = 0;
  moved = 0;
  lost_lock = 0;
  lost_tick = 0;
  roots = 0;
  heads = 0;
  nodes = 0;
  uses = 0;
  stocks = 0;
}

-- the number of attempts that aborted on a conflict
abbrev pub conflicts_in : AttemptStatistics → ℕ
conflicts_in e = e.held + e.newer + e.moved + e.lost_lock + e.lost_tick

-- the number of conflicts over a lock, summed over the kinds of words that a lock guards
abbrev pub lock_conflicts_in : AttemptStatistics → ℕ
lock_conflicts_in e = e.roots + e.heads + e.nodes + e.uses + e.stocks

-- the statistics with those of one more call added
abbrev pub with_call : CallStatistics → AttemptStatistics → AttemptStatistics
with_call c e = record {
  attempts = e.attempts + c.attempts;
  held = e.held + c.held;
  newer = e.newer + c.newer;
  moved = e.moved + c.moved;
  lost_lock = e.lost_lock + c.lost_lock;
  lost_tick = e.lost_tick + c.lost_tick;
  roots = e.roots + c.roots;
  heads = e.heads + c.heads;
  nodes = e.nodes + c.nodes;
  uses = e.uses + c.uses;
  stocks = e.stocks + c.stocks;
}

-- the sums of both statistics
abbrev pub both_statistics : AttemptStatistics → AttemptStatistics → AttemptStatistics
both_statistics d e = record {
  attempts = d.attempts + e.attempts;
  held = d.held + e.held;
  newer = d.newer + e.newer;
  moved = d.moved + e.moved;
  lost_lock = d.lost_lock + e.lost_lock;
  lost_tick = d.lost_tick + e.lost_tick;
  roots = d.roots + e.roots;
  heads = d.heads + e.heads;
  nodes = d.nodes + e.nodes;
  uses = d.uses + e.uses;
  stocks = d.stocks + e.stocks;
}

-- the counts of tasks by their result, the limit on the attempts of each task, and the number of
-- attempts of all tasks
pub record TaskCountsShown : Type 0 where
  pub outcomes : Outcomes
  pub tries : ℕ
  pub attempts : ℕ

-- the counts of no task, with this limit on the attempts of each task
abbrev pub uncounted : ℕ → TaskCountsShown
uncounted tries = record { outcomes = nothing; tries = tries; attempts = 0 }

-- the attempt statistics fit the counts of the tasks, each of which has at most `tries` attempts:
-- one attempt for each completed call and each spent clock, at most one for each refusal of
-- memory, which may come before the call, and apart from these only attempts that aborted on a
-- conflict, at least `tries` of them for each busy task. Together there are at most `tries`
-- attempts for each task, of which at least one met no conflict if the task is not busy. Each
-- conflict except a lost tick is also counted by the word that its lock guards
-- Not said: of a single task, that a busy task met exactly `tries` conflicts and that no task took
-- more attempts. Only the sums are compared.
-- Not said: the kind of a conflict, or the word that its lock guards; that no attempt is left out
-- together with its conflict. `made` of `LoadedKept` compares with the traced attempts, if these
-- are known; only `count_loop` ties the number to the client.
pub record AreStatistics (tries : ℕ) (t : Outcomes) (e : AttemptStatistics) : Type 0 where
  pub least : conflicts_in e + t.answered + t.spent ≤ e.attempts
  pub most : e.attempts ≤ conflicts_in e + t.answered + t.memory + t.spent
  pub busy : t.busy * tries ≤ conflicts_in e
  pub few : e.attempts ≤ total t * tries
  pub others : conflicts_in e + t.answered + t.memory + t.spent ≤ total t * tries
  pub locks : lock_conflicts_in e + e.lost_tick ≡ conflicts_in e
