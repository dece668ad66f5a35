use Rattle.std.proofs.Common.{sym, refl, ◌∙◌}
use Rattle.std.specs.FinMap.{get-empty}
use Rattle.std.specs.Ordering.{nat_cmp}
use Rattle.stm_logs.specs.Log.{empty_log}
use Rattle.stm_attempt.specs.Begun.{is_unfinished}
use Rattle.stm_attempt.proofs.Entering.{has_entered_also, runs_inside, same_frame, same_reads, not_stopped, was_stopped}
use Rattle.stm_attempt.proofs.read_attempt.ReadAttemptTxRead.read.Goals as goal

pub returns-in-Ok-clause-answer : goal.returns-in-Ok-clause-answer
returns-in-Ok-clause-answer g c =
    has_entered_also (is_unfinished c.args.self.now.client.now.value.attempt.phase)
    (is_unfinished c.read_word.new.client.value.attempt.phase) c.args.self.now.region.now g.L.Law.fits
    c.args.self.now.client.now.value c.read_word.new.client.value empty_log _ _
    (runs_inside _ _ _ _ _ _ c.requires) c.in-Ok.ensures.unfinished
    (get-empty nat_cmp _) c.in-Ok.ensures.ok c.in-Ok.ensures.stands

pub returns-in-Err-clause-frame : goal.returns-in-Err-clause-frame
returns-in-Err-clause-frame g c =
    same_frame (is_unfinished c.args.self.now.client.now.value.attempt.phase)
    (is_unfinished c.read_word.new.client.value.attempt.phase) c.args.self.now.region.now g.L.Law.fits
    c.args.self.now.client.now.value c.read_word.new.client.value empty_log
    (runs_inside _ _ _ _ _ _ c.requires) c.in-Err.ensures.unfinished

pub returns-in-Err-clause-answer : goal.returns-in-Err-clause-answer
returns-in-Err-clause-answer g c =
    same_reads (is_unfinished c.args.self.now.client.now.value.attempt.phase)
    (is_unfinished c.read_word.new.client.value.attempt.phase) c.args.self.now.region.now g.L.Law.fits
    c.args.self.now.client.now.value c.read_word.new.client.value empty_log
    (runs_inside _ _ _ _ _ _ c.requires) c.in-Err.ensures.unfinished c.in-Err.ensures.conflict.reads

pub returns-in-Ok-clause-again : goal.returns-in-Ok-clause-again
returns-in-Ok-clause-again g c = λ conflict e. not_stopped c.args.self.now.stopped conflict
    (sym c.is_some.ensures ∙ c.if-is_some.false) e

pub returns-in-Err-clause-again : goal.returns-in-Err-clause-again
returns-in-Err-clause-again g c = λ conflict e. not_stopped c.args.self.now.stopped conflict
    (sym c.is_some.ensures ∙ c.if-is_some.false) e

pub returns-then-is_some-clause-region : goal.returns-then-is_some-clause-region
returns-then-is_some-clause-region g c = λ none. was_stopped c.args.self.now.stopped
    (sym c.is_some.ensures ∙ c.if-is_some.true) none

pub returns-in-Ok-clause-frame : goal.returns-in-Ok-clause-frame
returns-in-Ok-clause-frame g c =
    same_frame (is_unfinished c.args.self.now.client.now.value.attempt.phase)
    (is_unfinished c.read_word.new.client.value.attempt.phase) c.args.self.now.region.now g.L.Law.fits
    c.args.self.now.client.now.value c.read_word.new.client.value empty_log
    (runs_inside _ _ _ _ _ _ c.requires) c.in-Ok.ensures.unfinished

pub returns-in-Ok-clause-stopped : goal.returns-in-Ok-clause-stopped
returns-in-Ok-clause-stopped g c = tt

pub returns-in-Ok-clause-lone : goal.returns-in-Ok-clause-lone
returns-in-Ok-clause-lone g c = λ _. refl
