use Rattle.judge_reservations.specs.Lines.{calls_of}
use Rattle.judge_reservations.proofs.Larger.{whole_more, whole_all, whole_none}
use Rattle.judge_reservations.proofs.Joined.{wholes_none, wholes_more}
use Rattle.judge_reservations.proofs.chosen.whole_customers.Goals as goal

pub customers-init : goal.customers-init
customers-init c = (
  whole_none c.args.customers.now c.args.items.now (calls_of c.args.lines.now) _,
  wholes_none c.args.customers.now c.args.items.now (calls_of c.args.lines.now) _ c.new-whole.ensures.items,
)

pub customers-preserved : goal.customers-preserved
customers-preserved c = (
  whole_more c.args.customers.now c.args.items.now (calls_of c.args.lines.now) c.customers.at _
      c.customers.whole.items _ _ c.customers-test.true c.customers.invariant.0 c.in_ok-own.ensures.all
      c.in_ok-push_if.ensures,
  wholes_more c.args.customers.now c.args.items.now (calls_of c.args.lines.now) c.customers.whole.items _ _ _
      c.customers.invariant.1 c.in_ok-own.ensures.each c.in_ok-push_if.ensures,
)

pub returns-clause-all : goal.returns-clause-all
returns-clause-all c =
    whole_all c.args.customers.now c.args.items.now (calls_of c.args.lines.now) c.customers.at c.customers.whole.items
    c.customers-test.false c.customers.invariant.0

pub returns-clause-each : goal.returns-clause-each
returns-clause-each c = c.customers.invariant.1
