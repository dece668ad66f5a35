use Rattle.std.proofs.Common.{refl, ap, ◌∙◌}
use Rattle.judge_opacity.specs.Covered.{image_of}
use Rattle.judge_opacity.proofs.Covering.{run_first, run_read, run_wrong, run_write, run_end, run_left, no_accesses}
use Rattle.judge_opacity.proofs.memory.Memory.run.Goals as goal

pub loop-access-init : goal.loop-access-init
loop-access-init c = record { run = run_first _ _ c.requires.among; covered = refl }

pub returns-then-value-expected-clause-found : goal.returns-then-value-expected-clause-found
returns-then-value-expected-clause-found c =
    let at = c.word_of-expected.ensures ∙ ap (λ w. image_of w c.in-Read.word) c.as_slice.ensures.value in
    run_wrong _ _ _ _ _ _ c.in-Read.word c.in-Read.value _ c.loop-access.invariant.run c.in-Some.ensures.cases.0
    c.in-Read.is at c.if-value-expected.true

pub returns-then-value-expected-clause-size : goal.returns-then-value-expected-clause-size
returns-then-value-expected-clause-size c = c.loop-access.invariant.run.size

pub loop-access-preserved-else-value-expected : goal.loop-access-preserved-else-value-expected
loop-access-preserved-else-value-expected c =
    let at = c.word_of-expected.ensures ∙ ap (λ w. image_of w c.in-Read.word) c.as_slice.ensures.value in
    record {
      run = run_read _ _ _ _ _ _ c.in-Read.word c.in-Read.value c.loop-access.invariant.run c.in-Some.ensures.cases.0
          c.in-Read.is (c.if-value-expected.false ∙ at);
      covered = c.loop-access.invariant.covered;
    }

pub loop-access-preserved : goal.loop-access-preserved
loop-access-preserved c = record {
  run = run_write _ _ _ _ _ _ _ c.in-Write.word c.in-Write.value c.loop-access.invariant.run c.in-Some.ensures.cases.0
      c.in-Write.is c.in_ok-write-in-Write.ensures.words;
  covered = c.in_ok-write-in-Write.ensures.covered ∙ c.loop-access.invariant.covered;
}

pub returns-clause-found : goal.returns-clause-found
returns-clause-found c = run_end _ _ _ _ c.loop-access.invariant.run (no_accesses _ c.in_default.ensures.cases)

pub returns-clause-words : goal.returns-clause-words
returns-clause-words c = λ e. run_left _ _ _ _ c.loop-access.invariant.run (no_accesses _ c.in_default.ensures.cases)

pub returns-clause-size : goal.returns-clause-size
returns-clause-size c = c.loop-access.invariant.run.size
