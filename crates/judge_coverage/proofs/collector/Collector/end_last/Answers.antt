use Rattle.std.proofs.Common.{◌≡◌, ◌<◌, length, rules}
use Rattle.std.proofs.lemmas.List.{nil_from_length}
use Rattle.vac_lines.proofs.Texts.{on_ok_map}
use Rattle.judge_coverage.proofs.Taking.{taken_all, taken_last}
use Rattle.judge_coverage.proofs.collector.Collector.end_last.Goals as goal

pub returns-then-is_empty : goal.returns-then-is_empty
returns-then-is_empty c = λ longest bytes h.
    let none : length c.args.self.now.line.items ≡ 0 = search rules in
    taken_all longest bytes c.args.self.now h (nil_from_length c.args.self.now.line.items none)

pub returns : goal.returns
returns c =
    let some : 0 < length c.args.self.now.line.items = search rules in
    on_ok_map c.end_line.result (λ k. λ longest bytes h.
    taken_last longest bytes c.args.self.now c.end_line.new.self h k some) c.end_line.ensures
