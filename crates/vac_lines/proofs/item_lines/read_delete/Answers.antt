use Rattle.std.proofs.Common.{◌≡◌, ◌≤◌, ◌<◌, ℕ, List, [], ◌∷◌, length, Err, refl, ap, sym, ◌∙◌, Bor, arith}
use Rattle.std.proofs.lemmas.Result.{err_from_is_err_and}
use Rattle.vac_lines.specs.declared.fault.LineFault.TheVariants.{BadCount}
use Rattle.vac_lines.specs.Lines.{texts}
use Rattle.vac_lines.specs.LineTable.{delete_line}
use Rattle.vac_lines.proofs.FewWords.{two_words}
use Rattle.vac_lines.proofs.item_lines.read_delete.Goals as goal

few_words : (kind : List ℕ) (ws : List (Bor (List ℕ))) → length ws < 2 → Err BadCount ≡ delete_line kind (texts ws)
few_words kind [] h = refl
few_words kind (p ∷ []) h = refl
few_words kind (p ∷ q ∷ ws) h = absurd (omega arith)

many_words : (kind : List ℕ) (ws : List (Bor (List ℕ))) → 3 ≤ length ws → Err BadCount ≡ delete_line kind (texts ws)
many_words kind [] h = absurd (omega arith)
many_words kind (p ∷ []) h = absurd (omega arith)
many_words kind (p ∷ q ∷ []) h = absurd (omega arith)
many_words kind (p ∷ q ∷ r ∷ ws) h = refl

pub returns-in_err-kind-clause-command : goal.returns-in_err-kind-clause-command
returns-in_err-kind-clause-command c =
    let p = err_from_is_err_and c.from_residual.result c.from_residual.ensures.1 in
    let w = two_words c.args.words.now (record { ref_ptr = (0, 0); now = [] }) c.in-len2.len_at_least
    c.in-len2.len_below in
    p.1 ∙ sym (ap (delete_line c.args.kind.now) w ∙ rw (← c.place_at.ensures.place, c.in_err-kind.was)
    (ap Err (sym p.2)))

pub returns-in_err-num-clause-command : goal.returns-in_err-num-clause-command
returns-in_err-num-clause-command c =
    let p = err_from_is_err_and c.from_residual-in_err-num.result c.from_residual-in_err-num.ensures.1 in
    let w = two_words c.args.words.now (record { ref_ptr = (0, 0); now = [] }) c.in-len2.len_at_least
    c.in-len2.len_below in
    p.1 ∙ sym (ap (delete_line c.args.kind.now) w ∙ rw (← c.in_ok-kind.ensures.place, ← c.in_err-num.ensures.amount)
    (ap Err (sym p.2)))

pub returns-clause-command : goal.returns-clause-command
returns-clause-command c =
    let w = two_words c.args.words.now (record { ref_ptr = (0, 0); now = [] }) c.in-len2.len_at_least
    c.in-len2.len_below in
    sym (ap (delete_line c.args.kind.now) w ∙ rw (← c.in_ok-kind.ensures.place, ← c.in_ok-num.ensures.amount) refl)

pub returns-in_default-clause-command : goal.returns-in_default-clause-command
returns-in_default-clause-command c = few_words c.args.kind.now c.args.words.now c.in_default.len_below

pub returns-in_default-2-clause-command : goal.returns-in_default-2-clause-command
returns-in_default-2-clause-command c = many_words c.args.kind.now c.args.words.now c.in_default.len_at_least
