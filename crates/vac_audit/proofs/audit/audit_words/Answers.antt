use Rattle.std.proofs.Common.{arith, length}
use Rattle.std.specs.Prelude.{slice_index}
use Rattle.vac_audit.specs.Ran.{IsHeapSize, Audited}
use Rattle.vac_audit.specs.Represented.{Recognised}
use Rattle.vac_audit.proofs.Running.{handed}
use Rattle.vac_audit.proofs.Whole.{heap_size, audited_ok, audited_fault}
use Rattle.vac_audit.proofs.Answered.{state_in, recognised_ok, recognised_fault}
use Rattle.vac_audit.proofs.audit.audit_words.Goals as goal

pub returns-in_err-report-clause-size : goal.returns-in_err-report-clause-size
returns-in_err-report-clause-size c = λ other. absurd (other
    (heap_size (length c.args.words.now) (omega arith) (omega arith) (omega arith)))

pub returns-in_err-report-clause-audited : goal.returns-in_err-report-clause-audited
returns-in_err-report-clause-audited c = handed (λ r. (heap : IsHeapSize (length c.args.words.now)) →
    Audited (slice_index c.args.words.now) heap.0 r) c.from_residual.result _ c.from_residual.ensures.1
    (audited_fault c.args.words.now _ c.in_err-report.ensures.ran)

pub returns-in_err-report-clause-recognised : goal.returns-in_err-report-clause-recognised
returns-in_err-report-clause-recognised c = handed (λ r. Recognised c.args.words.now r) c.from_residual.result _
    c.from_residual.ensures.1 (recognised_fault c.args.words.now _ c.in_err-report.ensures.ran)

pub returns-clause-size : goal.returns-clause-size
returns-clause-size c = λ other. absurd (other (heap_size (length c.args.words.now) (omega arith) (omega arith)
    (omega arith)))

pub returns-clause-audited : goal.returns-clause-audited
returns-clause-audited c = audited_ok c.args.words.now c.in_ok-report.report c.in_ok-report.ensures.ran

pub returns-clause-found : goal.returns-clause-found
returns-clause-found c = state_in c.args.words.now c.in_ok-report.report c.in_ok-report.ensures.ran (omega arith)
    (omega arith) (omega arith)

pub returns-clause-recognised : goal.returns-clause-recognised
returns-clause-recognised c = recognised_ok c.args.words.now c.in_ok-report.report c.in_ok-report.ensures.ran
