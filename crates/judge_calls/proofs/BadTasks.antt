-- A verdict that names a line of the work names the first that hands out no task.
use Rattle.std.proofs.Common.{◌≡◌, ℕ, ◌+◌, suc, List, [], ◌∷◌, ◌++◌, length, map, Result, Ok, Err, refl, sym, ap, ◌∙◌}
use Rattle.std.proofs.Common.{arith}
use Rattle.vac_lines.specs.Lines.{lines_of}
use Rattle.judge_calls.specs.declared.fault.CallFault.{CallFault}
use Rattle.judge_calls.specs.declared.held.WorkloadVerdict.TheVariants.{BadTasks}
use Rattle.judge_calls.specs.Call.{line_call}
use Rattle.judge_calls.specs.Verdict.{verdict_on}
use Rattle.judge_calls.specs.Work.{Asked, line_asked, onto_work, work_of, first_foreign, calls_in, first_missing}
use Rattle.judge_calls.specs.Work.{held_by}
use Rattle.judge_calls.specs.Work.{workload_verdict}
use Rattle.judge_calls.specs.NotWhole.{IsFirstWithoutTask, BadTasksIsFirst}
use Rattle.judge_calls.proofs.NotWhole.{not_bad}

err_same : (k line : ℕ) → ◌≡◌ {A = Result (List Asked) ℕ} (Err k) (Err line) → k ≡ line
err_same k line e = cc

ok_err : (work : List Asked) (line : ℕ) → ◌≡◌ {A = Result (List Asked) ℕ} (Ok work) (Err line) → ⊥
ok_err work line e = cc

-- such a line stands after lines that hand out tasks
record WithoutTask (lines : List (Result Asked CallFault)) (line : ℕ) : Type 0 where
  before : List Asked
  fault : CallFault
  rest : List (Result Asked CallFault)
  handed : lines ≡ map Ok before ++ Err fault ∷ rest
  number : line ≡ length before + 1

find_bad : (lines : List (Result Asked CallFault)) (line : ℕ) → work_of lines ≡ Err line → WithoutTask lines line
find_bad [] line e = absurd (ok_err [] line e)
find_bad (Err fault ∷ rest) line e =
    let same : 1 ≡ line = err_same 1 line e in
    record { before = []; fault = fault; rest = rest; handed = refl; number = omega (arith, same) }
find_bad (Ok a ∷ rest) line e = go (λ k g. find_bad rest k g) (work_of rest) refl e
  where
    go : ((k : ℕ) → work_of rest ≡ Err k → WithoutTask rest k) → (r : Result (List Asked) ℕ) → work_of rest ≡ r
        → onto_work a r ≡ Err line → WithoutTask (Ok a ∷ rest) line
    go next (Ok work) g h = absurd (ok_err (a ∷ work) line h)
    go next (Err k) g h =
        let more = next k g in
        let same : k + 1 ≡ line = err_same (k + 1) line h in
        record {
          before = a ∷ more.before;
          fault = more.fault;
          rest = more.rest;
          handed = ap (λ t. Ok a ∷ t) more.handed;
          number = omega (arith, more.number, same);
        }

bad_named : (before : List Asked) (fault : CallFault) (rest : List (Result Asked CallFault))
    → work_of (map Ok before ++ Err fault ∷ rest) ≡ Err (length before + 1)
bad_named [] fault rest = refl
bad_named (a ∷ before) fault rest =
    let same : length before + 1 + 1 ≡ suc (length before) + 1 = omega arith in
    ap (onto_work a) (bad_named before fault rest) ∙ ap Err same

bad_first : (n : ℕ) (tasks bytes : List ℕ) (line : ℕ) → workload_verdict n tasks bytes ≡ BadTasks line
    → IsFirstWithoutTask tasks line
bad_first n tasks bytes line h = go (work_of (map line_asked (lines_of tasks))) refl h
  where
    go : (r : Result (List Asked) ℕ) → work_of (map line_asked (lines_of tasks)) ≡ r → held_by n r bytes ≡ BadTasks line
        → IsFirstWithoutTask tasks line
    go (Ok work) e g =
        let lines = map line_call (lines_of bytes) in
        absurd (not_bad (first_foreign work [] lines) (first_missing (calls_in [] lines) [] work) (verdict_on n bytes)
        line g)
    go (Err k) e g =
        let is : BadTasks k ≡ BadTasks line = g in
        let same : k ≡ line = cc in
        let found = find_bad (map line_asked (lines_of tasks)) line (e ∙ ap Err same) in
        record {
          before = found.before;
          fault = found.fault;
          rest = found.rest;
          handed = found.handed;
          number = found.number;
        }

first_bad : (n : ℕ) (tasks bytes : List ℕ) (line : ℕ) → IsFirstWithoutTask tasks line
    → workload_verdict n tasks bytes ≡ BadTasks line
first_bad n tasks bytes line h =
    let work : work_of (map line_asked (lines_of tasks)) ≡ Err line =
    ap work_of h.handed ∙ bad_named h.before h.fault h.rest ∙ ap Err (sym h.number) in
    ap (λ r. held_by n r bytes) work

pub bad_tasks_is_first : BadTasksIsFirst
bad_tasks_is_first n tasks bytes line = (bad_first n tasks bytes line, first_bad n tasks bytes line)
