use Rattle.judge_reservations.specs.Lines.{calls_of}
use Rattle.judge_reservations.proofs.Larger.{closed_more, closed_all, closed_none}
use Rattle.judge_reservations.proofs.Joined.{closes_none, closes_more}
use Rattle.judge_reservations.proofs.chosen.closed_items.Goals as goal

pub items-init : goal.items-init
items-init c = (
  closed_none c.args.customers.now c.args.items.now (calls_of c.args.lines.now) _,
  closes_none c.args.customers.now c.args.items.now (calls_of c.args.lines.now) _ c.new-closed.ensures.items,
)

pub items-preserved : goal.items-preserved
items-preserved c = (
  closed_more c.args.customers.now c.args.items.now (calls_of c.args.lines.now) c.items.at _
      c.items.closed.items _ _ c.items-test.true c.items.invariant.0 c.in_ok-shut.ensures.all
      c.in_ok-push_if.ensures,
  closes_more c.args.customers.now c.args.items.now (calls_of c.args.lines.now) c.items.closed.items _ _ _
      c.items.invariant.1 c.in_ok-shut.ensures.each c.in_ok-push_if.ensures,
)

pub returns-clause-all : goal.returns-clause-all
returns-clause-all c =
    closed_all c.args.customers.now c.args.items.now (calls_of c.args.lines.now) c.items.at c.items.closed.items
    c.items-test.false c.items.invariant.0

pub returns-clause-each : goal.returns-clause-each
returns-clause-each c = c.items.invariant.1
