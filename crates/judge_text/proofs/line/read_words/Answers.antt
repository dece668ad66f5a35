use Rattle.std.proofs.Common.{ℕ, List, ◌≡◌, ◌-◌, cond, length, [], true, false, Err, sym, ap}
use Rattle.std.proofs.Common.{◌∙◌, subst, arith, nat_lt, Bor}
use Rattle.std.specs.Prelude.{IfOk, codes}
use Rattle.std.specs.Str.{bytes_eq}
use Rattle.std.proofs.lemmas.Bool.Decides.{nat_tests}
use Rattle.vac_lines.specs.Lines.{texts}
use Rattle.judge_text.specs.declared.fault.CallFault.TheVariants.{BadCall}
use Rattle.judge_text.specs.Lines.{word_at, arrow_call}
use Rattle.judge_text.specs.Reading.{IsReadLine}
use Rattle.judge_text.proofs.WordPlaces.{word_now, long}
use Rattle.judge_text.proofs.line.read_words.Goals as goal

pub returns : goal.returns
returns g c =
    let rules = g.M.Object.rules in
    let language = g.M.TextObject.language in
    let ws = c.args.words.now in
    let t = texts ws in
    let d : Bor (List ℕ) = record { ref_ptr = (0, 0); now = [] } in
    let same : length t ≡ length ws = long ws in
    let many = c.if-count-lt6.false in
    let few : nat_lt (length t) 6 ≡ false = grind (arith, nat_tests) in
    let arrow : bytes_eq (word_at t (length t - 2)) (codes "->") ≡ true =
    ap (λ w. bytes_eq w (codes "->")) (ap (λ n. word_at t (n - 2)) same ∙ word_now ws (length ws - 2) d (omega arith))
    ∙ sym c.is_word.ensures ∙ c.if-not-is_word.false in
    subst (λ call. IfOk c.read_arrow_call.result (λ read. IsReadLine call c.args.number read))
    (sym (ap (λ b. cond b (Err BadCall) (cond (bytes_eq (word_at t (length t - 2)) (codes "->"))
    (arrow_call rules language t)
    (Err BadCall))) few
    ∙ ap (λ b. cond b (arrow_call rules language t) (Err BadCall)) arrow))
    c.read_arrow_call.ensures
