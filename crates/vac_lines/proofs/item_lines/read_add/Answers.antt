use Rattle.std.proofs.Common.{◌≡◌, ◌≤◌, ◌<◌, ℕ, List, [], ◌∷◌, length, Err, refl, ap, sym, ◌∙◌, Bor, arith}
use Rattle.std.proofs.lemmas.Result.{err_from_is_err_and}
use Rattle.vac_lines.specs.declared.fault.LineFault.TheVariants.{BadCount}
use Rattle.vac_lines.specs.Lines.{texts}
use Rattle.vac_lines.specs.LineTable.{add_line}
use Rattle.vac_lines.proofs.FewWords.{four_words}
use Rattle.vac_lines.proofs.item_lines.read_add.Goals as goal

few_words : (ws : List (Bor (List ℕ))) → length ws < 4 → Err BadCount ≡ add_line (texts ws)
few_words [] h = refl
few_words (p ∷ []) h = refl
few_words (p ∷ q ∷ []) h = refl
few_words (p ∷ q ∷ r ∷ []) h = refl
few_words (p ∷ q ∷ r ∷ s ∷ ws) h = absurd (omega arith)

many_words : (ws : List (Bor (List ℕ))) → 5 ≤ length ws → Err BadCount ≡ add_line (texts ws)
many_words [] h = absurd (omega arith)
many_words (p ∷ []) h = absurd (omega arith)
many_words (p ∷ q ∷ []) h = absurd (omega arith)
many_words (p ∷ q ∷ r ∷ []) h = absurd (omega arith)
many_words (p ∷ q ∷ r ∷ s ∷ []) h = absurd (omega arith)
many_words (p ∷ q ∷ r ∷ s ∷ t ∷ ws) h = refl

pub returns-in_err-kind-clause-command : goal.returns-in_err-kind-clause-command
returns-in_err-kind-clause-command c =
    let p = err_from_is_err_and c.from_residual.result c.from_residual.ensures.1 in
    let w = four_words c.args.words.now (record { ref_ptr = (0, 0); now = [] }) c.in-len4.len_at_least
    c.in-len4.len_below in
    p.1 ∙ sym (ap add_line w ∙ rw (← c.place_at.ensures.place, c.in_err-kind.was) (ap Err (sym p.2)))

pub returns-in_err-num-clause-command : goal.returns-in_err-num-clause-command
returns-in_err-num-clause-command c =
    let p = err_from_is_err_and c.from_residual-in_err-num.result c.from_residual-in_err-num.ensures.1 in
    let w = four_words c.args.words.now (record { ref_ptr = (0, 0); now = [] }) c.in-len4.len_at_least
    c.in-len4.len_below in
    p.1 ∙ sym (ap add_line w ∙ rw (← c.in_ok-kind.ensures.place, ← c.in_err-num.ensures.stock) (ap Err (sym p.2)))

pub returns-clause-command : goal.returns-clause-command
returns-clause-command c =
    let w = four_words c.args.words.now (record { ref_ptr = (0, 0); now = [] }) c.in-len4.len_at_least
    c.in-len4.len_below in
    sym (ap add_line w ∙ rw (← c.in_ok-kind.ensures.place, ← c.in_ok-num.ensures.stock) refl)

pub returns-in_default-clause-command : goal.returns-in_default-clause-command
returns-in_default-clause-command c = few_words c.args.words.now c.in_default.len_below

pub returns-in_default-2-clause-command : goal.returns-in_default-2-clause-command
returns-in_default-2-clause-command c = many_words c.args.words.now c.in_default.len_at_least
