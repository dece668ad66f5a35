use Rattle.cli_script.specs.Dump.{Dumped, DumpStopped}
use Rattle.cli_main.proofs.Ending.{done}
use Rattle.cli_main.proofs.program.dump.Goals as goal

pub returns : goal.returns
returns g c =
    let unread = g.R.Read.remaining c.args.input.now in
    let left = g.R.Read.remaining c.dump_script.new.input in
    let held = g.W.Write.contents c.args.output.now in
    done (λ h. Dumped c.args.blocks unread left held h) (λ h. DumpStopped c.args.blocks unread left held h)
    c.dump_script.result _ _ _ c.dump_script.ensures.ok c.dump_script.ensures.err c.end_done.ensures
