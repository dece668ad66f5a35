use Rattle.std.proofs.Common.{ℕ, List, ap, ◌∙◌}
use Rattle.vac_lines.proofs.Extends.{on_err}
use Rattle.vac_manager.specs.Called.{CallerShown}
use Rattle.vac_manager.specs.Legal.{capacity_of}
use Rattle.cli_script.specs.declared.script.Script.{Script}
use Rattle.cli_script.proofs.Running.{heard_in_part, rest_in_part, ran_all, same_manager, wrote_nothing}
use Rattle.cli_script.proofs.script.run_input.Goals as goal

pub returns-in_err-script-clause-err : goal.returns-in_err-script-clause-err
returns-in_err-script-clause-err g c =
    on_err c.from_residual.result (wrote_nothing (capacity_of c.args.caller.shared) _ _)

pub returns-in_err-_next-clause-err : goal.returns-in_err-_next-clause-err
returns-in_err-_next-clause-err g c =
    let system : Script → CallerShown = λ x. x.caller in
    let out : Script → List ℕ = λ x. x.out.items in
    let new = c.in_ok-script.ensures in
    on_err c.from_residual-in_err-_next.result
    (heard_in_part system out g.W.Write.contents c.args.caller c.in_err-_next.field-0.0 _ _ _ _ _ _ c.requires.fresh
    new.caller new.out c.in_err-_next.ensures)

pub returns-in_err-send_rest-clause-err : goal.returns-in_err-send_rest-clause-err
returns-in_err-send_rest-clause-err g c =
    let system : Script → CallerShown = λ x. x.caller in
    let out : Script → List ℕ = λ x. x.out.items in
    let new = c.in_ok-script.ensures in
    on_err c.from_residual-in_err-send_rest.result
    (rest_in_part system out g.W.Write.contents c.args.caller c.in_ok-_next._next _ _ _ _ _ _ _ _ c.requires.fresh
    new.caller new.out c.in_ok-_next.ensures
    c.as_slice.ensures.value c.in_err-send_rest.ensures.err)

pub returns-clause-own : goal.returns-clause-own
returns-clause-own g c =
    let system : Script → CallerShown = λ x. x.caller in
    let out : Script → List ℕ = λ x. x.out.items in
    let same = same_manager system out g.W.Write.contents c.args.caller c.in_ok-_next._next _ _ _ _ _ _
    c.in_ok-script.ensures.caller c.in_ok-_next.ensures in
    c.into_user.ensures.own ∙ ap (λ m. m.table) same

pub returns-clause-ok : goal.returns-clause-ok
returns-clause-ok g c =
    let system : Script → CallerShown = λ x. x.caller in
    let out : Script → List ℕ = λ x. x.out.items in
    let new = c.in_ok-script.ensures in
    ran_all system out g.W.Write.contents c.args.caller c.in_ok-_next._next c.into_user.result _ _ _ _ _ _ _ _
    c.requires.fresh new.caller new.out c.in_ok-_next.ensures
    c.as_slice.ensures.value c.in_ok-send_rest.ensures.ok c.into_user.ensures.user
