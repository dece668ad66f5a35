use Rattle.cli_script.specs.Script.{WroteAll, WrotePrefix}
use Rattle.cli_main.proofs.Ending.{done}
use Rattle.cli_main.proofs.program.run.Goals as goal

pub returns : goal.returns
returns g c =
    let unread = g.R.Read.remaining c.args.input.now in
    let left = g.R.Read.remaining c.run_script.new.input in
    let held = g.W.Write.contents c.args.output.now in
    done (λ h. WroteAll c.args.blocks unread left held h) (λ h. WrotePrefix c.args.blocks unread left held h)
    c.run_script.result _ _ _ c.run_script.ensures.ok c.run_script.ensures.err c.end_done.ensures
