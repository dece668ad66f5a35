use Rattle.std.proofs.Common.{◌≡◌, ◌≢◌, IfOk, IfErr, Ok, Err, sym, subst}
use Rattle.vac_lines.specs.declared.fault.LineFault.TheVariants.{Memory}
use Rattle.judge_calls.specs.declared.fault.CallFault.TheVariants.{Line}
use Rattle.judge_calls.specs.Holding.{asked_of}
use Rattle.judge_calls.proofs.Handed.{asked_cut, asked_none}
use Rattle.judge_calls.proofs.work.asked_at.Goals as goal

pub returns-in-Some-clause-asked : goal.returns-in-Some-clause-asked
returns-in-Some-clause-asked c =
    let same = asked_cut c.args.line.now c.in-Some.client.now c.in-Some.rest.now c.in-Some.ensures.0 c.in-Some.ensures.1
    in
    subst (λ r. IfOk c.text_asked.result (λ a. r ≡ Ok (asked_of a))) (sym same) c.text_asked.ensures.asked

pub returns-in-Some-clause-fault : goal.returns-in-Some-clause-fault
returns-in-Some-clause-fault c =
    let same = asked_cut c.args.line.now c.in-Some.client.now c.in-Some.rest.now c.in-Some.ensures.0 c.in-Some.ensures.1
    in
    subst (λ r. IfErr c.text_asked.result (λ f. f ≢ Line Memory → r ≡ Err f)) (sym same) c.text_asked.ensures.fault

pub returns-clause-fault : goal.returns-clause-fault
returns-clause-fault c = λ n. asked_none c.args.line.now c.in_default.ensures
