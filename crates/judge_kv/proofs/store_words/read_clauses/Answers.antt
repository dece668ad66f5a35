use Rattle.std.proofs.Common.{◌≤◌, ◌+◌, ℕ, List, [], length, get_or, ◌∙◌, arith, Bor}
use Rattle.std.proofs.lemmas.List.{get_or_default}
use Rattle.judge_kv.proofs.Clauses.{clause_more, clauses_cut}
use Rattle.judge_kv.proofs.store_words.read_clauses.Goals as goal

pub clauses-preserved : goal.clauses-preserved
clauses-preserved c =
    let ws = c.args.words.now in
    let p = c.clauses.place in
    let d : Bor (List ℕ) = record { ref_ptr = (0, 0); now = [] } in
    let t = c.clauses-test.true in
    let l : p + 3 ≤ length ws = omega arith in
    clause_more ws c.clauses.clauses.items c.push.new.self.items p (get_or ws p d) (get_or ws (p + 1) d)
    (get_or ws (p + 2) d) c.in-Some.clause l
    (get_or_default ws p d (get_or ws p d) (omega arith))
    (get_or_default ws (p + 1) d (get_or ws (p + 1) d) (omega arith))
    (get_or_default ws (p + 2) d (get_or ws (p + 2) d) (omega arith))
    (c.in_ok-clause.ensures ∙ c.in-Some.is) c.in_ok-push-in-Some.ensures.items c.clauses.invariant

pub returns-else-place-words : goal.returns-else-place-words
returns-else-place-words c =
    let t = c.clauses-test.false in
    let n = c.if-place-words.false in
    let w = c.clauses.invariant.within in
    clauses_cut c.args.words.now c.clauses.clauses.items c.clauses.place (omega arith) (omega arith)
    c.clauses.invariant
