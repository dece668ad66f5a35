-- The texts of the figures of a log, a line for each figure, and the warning about a log that shows
-- little.
use Rattle.std.specs.Prelude.{ℕ, ◌*◌, ◌==◌, List, [], ◌++◌, codes, decimal, nat_lt, if◌then◌else◌}
use Rattle.vac_lines.specs.Script.{as_line}
use Rattle.judge_coverage.specs.declared.coverage.Coverage.{Coverage}
use Rattle.judge_coverage.specs.declared.attempts.AttemptCoverage.{AttemptCoverage}

-- a line with a name and a number
abbrev pub fact_line : List ℕ → ℕ → List ℕ
fact_line name number = as_line (name ++ decimal number)

-- the lines about calls
abbrev pub calls_coverage_text : Coverage → List ℕ
calls_coverage_text c =
    fact_line (codes "calls: ") c.calls
    ++ fact_line (codes "clients: ") c.clients
    ++ fact_line (codes "pending calls: ") c.pending
    ++ fact_line (codes "calls that began while another client's ran: ") c.overlapped
    ++ fact_line (codes "most calls at one moment: ") c.most_at_once

-- the lines about the numbers of attempts
abbrev pub attempt_numbers_text : AttemptCoverage → List ℕ
attempt_numbers_text c =
    fact_line (codes "attempts: ") c.intervals.calls
    ++ fact_line (codes "clients: ") c.intervals.clients
    ++ fact_line (codes "aborted attempts: ") c.aborted
    ++ fact_line (codes "attempts that wrote nothing: ") c.read_only

-- the lines about the overlaps of attempts
abbrev pub attempt_overlaps_text : AttemptCoverage → List ℕ
attempt_overlaps_text c =
    fact_line (codes "attempts that began while another client's ran: ")
    c.intervals.overlapped
    ++ fact_line (codes "most attempts at one moment: ") c.intervals.most_at_once

-- the lines about attempts
abbrev pub attempts_coverage_text : AttemptCoverage → List ℕ
attempts_coverage_text c = attempt_numbers_text c ++ attempt_overlaps_text c

-- a warning: the first text if there is no call, the second if fewer than one call in ten began
-- while a call of another client ran, otherwise nothing
abbrev pub warning_of : Coverage → List ℕ → List ℕ → List ℕ
warning_of c none few =
    if c.calls == 0 then as_line none
    else if nat_lt (c.overlapped * 10) c.calls then as_line few
    else []

-- the warning about calls
abbrev pub calls_warning_text : Coverage → List ℕ
calls_warning_text c =
    warning_of c
    (codes "warning: there is no call: legal says nothing")
    (codes "warning: fewer than one call in ten began beside another: legal says little")

-- the warning about calls that never ended: their number, if there are any
abbrev pub pending_warning_text : Coverage → List ℕ
pending_warning_text c =
    if c.pending == 0 then []
    else fact_line (codes "warning: tasks behind a call without END are not missing; such calls: ")
    c.pending

-- the warning about attempts
abbrev pub attempts_warning_text : AttemptCoverage → List ℕ
attempts_warning_text c =
    warning_of c.intervals
    (codes "warning: there is no attempt: opaque says nothing")
    (codes "warning: fewer than one attempt in ten began beside another: opaque says little")
