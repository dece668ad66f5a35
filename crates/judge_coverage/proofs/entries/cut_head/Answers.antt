use Rattle.std.proofs.Common.{◌≡◌, None, rules}
use Rattle.vac_lines.specs.Lines.{words_of}
use Rattle.judge_coverage.specs.Entries.{head_of}
use Rattle.judge_coverage.proofs.Heads.{one_word, two_words, three_words, more_words}
use Rattle.judge_coverage.proofs.entries.cut_head.Goals as goal

pub returns-in_err-client : goal.returns-in_err-client
returns-in_err-client c =
    let none : head_of (words_of c.args.line.now) ≡ None = one_word _ c.in_err-client.ensures in
    search (rules, none)

pub returns-in_err-begin : goal.returns-in_err-begin
returns-in_err-begin c =
    let client = c.in_ok-client.ensures in
    let none : head_of (words_of c.args.line.now) ≡ None = two_words _ _ _ client.0 client.1 c.in_err-begin.ensures in
    search (rules, none)

pub returns-in_err-end : goal.returns-in_err-end
returns-in_err-end c =
    let client = c.in_ok-client.ensures in
    let begin = c.in_ok-begin.ensures in
    let none : head_of (words_of c.args.line.now) ≡ None = three_words _ _ _ _ _ client.0 client.1 begin.0 begin.1
    c.in_err-end.ensures in
    search (rules, none)

pub returns : goal.returns
returns c =
    let client = c.in_ok-client.ensures in
    let begin = c.in_ok-begin.ensures in
    let end = c.in_ok-end.ensures in
    more_words _ _ _ _ _ client.0 client.1 begin.0 begin.1 _ _ _ c.first_word.ensures.0 end.0 end.1
    c.first_word.ensures.1
