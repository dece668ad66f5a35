use Rattle.std.proofs.Common.{◌<◌, length, sym, arith}
use Rattle.std.proofs.lemmas.Result.{on_err_weaker}
use Rattle.vac_lines.proofs.Extends.{on_err}
use Rattle.vac_lines.proofs.Texts.{prefix_is}
use Rattle.cli_script.proofs.Dumping.{word_sent, words_in_part, rest_in_part, hand_in_part, word_more}
use Rattle.cli_script.proofs.dump.write_words.Goals as goal

pub returns-in_err-print-clause-err : goal.returns-in_err-print-clause-err
returns-in_err-print-clause-err g c = on_err c.from_residual.result
    (hand_in_part _ _ _ c.args.words.now c.loop-word.word-index c.loop-word.invariant)

pub returns-in_err-send_chunk-clause-err : goal.returns-in_err-send_chunk-clause-err
returns-in_err-send_chunk-clause-err g c =
    let words = c.args.words.now in
    let i = c.loop-word.word-index in
    let below : i < length words = omega arith in
    on_err c.from_residual-in_err-send_chunk.result
    (words_in_part _ _ _ _ words _ i c.loop-word.invariant
    (prefix_is _ _ _ _ c.in_ok-print.ensures.ok c.in_err-send_chunk.ensures.err)
    (sym (word_more words i below)))

pub loop-word-preserved : goal.loop-word-preserved
loop-word-preserved g c =
    let words = c.args.words.now in
    let i = c.loop-word.word-index in
    let below : i < length words = omega arith in
    word_sent _ _ _ _ _ _ words _ i c.loop-word.invariant c.in_ok-print.ensures.ok (word_more words i below)
    c.in_ok-send_chunk.ensures.ok

pub returns-clause-err : goal.returns-clause-err
returns-clause-err g c =
    on_err_weaker c.send_rest.result (λ w. rest_in_part _ _ _ _ c.args.words.now c.loop-word.word-index
    c.loop-word.invariant (prefix_is _ _ _ _ c.as_slice.ensures.value w)) c.send_rest.ensures.err
