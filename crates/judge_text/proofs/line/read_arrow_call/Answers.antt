use Rattle.std.proofs.Common.{ℕ, List, ◌≡◌, ◌-◌, length, get_or, [], sym, ap, ◌∙◌, subst, arith, Bor}
use Rattle.std.specs.Prelude.{IfOk}
use Rattle.vac_lines.specs.Lines.{texts}
use Rattle.judge_text.specs.Lines.{word_at, words_span, word_reply, operation_words, parts_call}
use Rattle.judge_text.specs.Reading.{IsReadLine}
use Rattle.judge_text.proofs.WordPlaces.{word_now, long}
use Rattle.judge_text.proofs.line.read_arrow_call.Goals as goal

pub returns : goal.returns
returns g c =
    let rules = g.M.Object.rules in
    let language = g.M.TextObject.language in
    let ws = c.args.words.now in
    let t = texts ws in
    let some = c.requires in
    let d : Bor (List ℕ) = record { ref_ptr = (0, 0); now = [] } in
    let last : word_at t (length t - 1) ≡ (get_or ws (length ws - 1) d).now =
    ap (λ n. word_at t (n - 1)) (long ws) ∙ word_now ws (length ws - 1) d (omega arith) in
    let span : words_span (word_at t 0) (word_at t 1) (word_at t 2) ≡ c.read_span-span.result =
    ap (λ w. words_span w (word_at t 1) (word_at t 2)) (word_now ws 0 d (omega arith))
    ∙ ap (λ w. words_span (get_or ws 0 d).now w (word_at t 2)) (word_now ws 1 d (omega arith))
    ∙ ap (λ w. words_span (get_or ws 0 d).now (get_or ws 1 d).now w) (word_now ws 2 d (omega arith))
    ∙ sym c.read_span-span.ensures in
    subst (λ call. IfOk c.read_parts.result (λ read. IsReadLine call c.args.number read))
    (sym (ap (λ s. parts_call rules s (language.operation (operation_words t))
    (word_reply language (word_at t (length t - 1)))) span
    ∙ ap (λ o. parts_call rules c.read_span-span.result o (word_reply language (word_at t (length t - 1))))
    (ap language.operation (sym c.operation_words.ensures) ∙ c.in_ok-op.ensures)
    ∙ ap (parts_call rules c.read_span-span.result c.in_ok-op.op)
    (ap (word_reply language) last ∙ c.in_ok-reply.ensures)))
    c.read_parts.ensures
