use Rattle.load_tasks.specs.Tasks.{stock}
use Rattle.load_run.proofs.Opened.{asked_one, kept_if_ok}
use Rattle.load_run.proofs.opening.add_item.Goals as goal

pub returns-clause-asked : goal.returns-clause-asked
returns-clause-asked g c = asked_one g.D.Draws.leads (stock c.args.id c.args.kind) c.draw_stock-command.result
    c.args.caller.now c.ask_for.new.caller _ _ _ _ c.ask_for.result c.ask_for.ensures.caller c.ask_for.ensures.grants
    c.draw_stock-command.ensures.drawn c.ask_for.ensures.answered c.ask_for.ensures.refused

pub returns-clause-kept : goal.returns-clause-kept
returns-clause-kept g c = kept_if_ok c.draw_stock-command.result c.args.caller.now c.ask_for.new.caller _ _
    c.ask_for.result c.ask_for.ensures.answered
