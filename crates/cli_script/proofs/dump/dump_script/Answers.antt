use Rattle.std.proofs.Common.{ap}
use Rattle.std.proofs.lemmas.Result.{on_ok_weaker, on_err_weaker}
use Rattle.vac_manager.specs.Called.{CallerShown}
use Rattle.cli_script.proofs.Dumping.{dumped, dumped_prefix}
use Rattle.cli_script.proofs.Running.{ran_on}
use Rattle.cli_script.proofs.dump.dump_script.Goals as goal

pub returns-clause-ok : goal.returns-clause-ok
returns-clause-ok g c =
    let ran = ran_on c.args.blocks c.caller.result.shared c.in_ok-manager.manager c.in_ok-client.client _ _ _ _
    (ap (λ (y : CallerShown). y.shared) c.caller.ensures)
    c.in_ok-manager.ensures.opened.capacity c.in_ok-client.ensures.ok in
    on_ok_weaker c.write_words.result (λ w. dumped _ _ _ _ _ _ _ _ c.in_ok-words.words.items _ ran
    c.in_ok-words.ensures.words c.as_slice.ensures.value w)
    c.write_words.ensures.ok

pub returns-clause-err : goal.returns-clause-err
returns-clause-err g c =
    let ran = ran_on c.args.blocks c.caller.result.shared c.in_ok-manager.manager c.in_ok-client.client _ _ _ _
    (ap (λ (y : CallerShown). y.shared) c.caller.ensures)
    c.in_ok-manager.ensures.opened.capacity c.in_ok-client.ensures.ok in
    on_err_weaker c.write_words.result (λ w. dumped_prefix _ _ _ _ _ _ _ _ c.in_ok-words.words.items _ ran
    c.in_ok-words.ensures.words c.as_slice.ensures.value w)
    c.write_words.ensures.err
