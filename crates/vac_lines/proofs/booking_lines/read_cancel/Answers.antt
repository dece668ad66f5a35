use Rattle.std.proofs.Common.{◌≡◌, ◌≤◌, ◌<◌, ℕ, List, [], ◌∷◌, length, Err, refl, ap, sym, ◌∙◌, Bor, arith}
use Rattle.std.proofs.lemmas.Result.{err_from_is_err_and}
use Rattle.vac_lines.specs.declared.fault.LineFault.TheVariants.{BadCount}
use Rattle.vac_lines.specs.Lines.{texts}
use Rattle.vac_lines.specs.LineTable.{cancel_line}
use Rattle.vac_lines.proofs.FewWords.{three_words}
use Rattle.vac_lines.proofs.booking_lines.read_cancel.Goals as goal

few_words : (ws : List (Bor (List ℕ))) → length ws < 3 → Err BadCount ≡ cancel_line (texts ws)
few_words [] h = refl
few_words (p ∷ []) h = refl
few_words (p ∷ q ∷ []) h = refl
few_words (p ∷ q ∷ r ∷ ws) h = absurd (omega arith)

many_words : (ws : List (Bor (List ℕ))) → 4 ≤ length ws → Err BadCount ≡ cancel_line (texts ws)
many_words [] h = absurd (omega arith)
many_words (p ∷ []) h = absurd (omega arith)
many_words (p ∷ q ∷ []) h = absurd (omega arith)
many_words (p ∷ q ∷ r ∷ []) h = absurd (omega arith)
many_words (p ∷ q ∷ r ∷ s ∷ ws) h = refl

pub returns-in_err-customer-clause-command : goal.returns-in_err-customer-clause-command
returns-in_err-customer-clause-command c =
    let p = err_from_is_err_and c.from_residual.result c.from_residual.ensures.1 in
    let w = three_words c.args.words.now (record { ref_ptr = (0, 0); now = [] }) c.in-len3.len_at_least
    c.in-len3.len_below in
    p.1 ∙ sym (ap cancel_line w ∙ rw (← c.in_err-customer.ensures.booking) (ap Err (sym p.2)))

pub returns-clause-command : goal.returns-clause-command
returns-clause-command c =
    let w = three_words c.args.words.now (record { ref_ptr = (0, 0); now = [] }) c.in-len3.len_at_least
    c.in-len3.len_below in
    sym (ap cancel_line w ∙ rw (← c.in_ok-customer.ensures.booking) refl)

pub returns-in_default-clause-command : goal.returns-in_default-clause-command
returns-in_default-clause-command c = few_words c.args.words.now c.in_default.len_below

pub returns-in_default-2-clause-command : goal.returns-in_default-2-clause-command
returns-in_default-2-clause-command c = many_words c.args.words.now c.in_default.len_at_least
