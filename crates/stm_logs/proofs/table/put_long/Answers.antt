use Rattle.std.proofs.Common.{◌≡◌, ap, ◌∙◌, arith}
use Rattle.stm_logs.specs.Nodes.{Block}
use Rattle.stm_logs.specs.Held.{with_word}
use Rattle.stm_logs.specs.Log.{LogValue}
use Rattle.stm_logs.specs.Order.{log_value, block_log}
use Rattle.stm_logs.proofs.LogLemmas.{fingers_log, fingers_value, fingers_answer, fingers_none}
use Rattle.stm_logs.proofs.table.put_long.Goals as goal

pub put_word-requires-clause-log : goal.put_word-requires-clause-log
put_word-requires-clause-log g c = fingers_log c.args.nodes.now c.point_all_if.new.nodes c.point_all_if.ensures.same
    c.point_all_if.ensures.count c.requires.log

pub put_word-requires-clause-room : goal.put_word-requires-clause-room
put_word-requires-clause-room g c = omega (
  arith,
  c.point_all_if.ensures.count,
  c.point_all_if.ensures.same.len,
  c.requires.room,
)

pub put_word-requires-clause-place : goal.put_word-requires-clause-place
put_word-requires-clause-place g c = fingers_answer c.args.nodes.now c.point_all_if.new.nodes c.args.number c.args.place
    c.point_all_if.ensures.same c.point_all_if.ensures.count c.requires.place

pub put_word-requires-clause-new : goal.put_word-requires-clause-new
put_word-requires-clause-new g c = fingers_none c.args.nodes.now c.point_all_if.new.nodes c.args.number
    c.point_all_if.ensures.same c.point_all_if.ensures.count c.requires.new

pub returns : goal.returns
returns g c =
    let old : Block = c.args.nodes.now in
    let start : Block = c.point_all_if.new.nodes in
    let mid : Block = c.put_word.new.nodes in
    let end : Block = c.point.new.nodes in
    let more = c.put_word.ensures.more in
    let value : block_log end ≡ block_log mid = ap (log_value end.list) c.point.ensures.count ∙
    fingers_value mid.list end.list mid.count c.point.ensures.same in
    let before : block_log start ≡ block_log old = ap (log_value start.list) c.point_all_if.ensures.count ∙
    fingers_value old.list start.list old.count c.point_all_if.ensures.same in
    record {
      log = fingers_log mid end c.point.ensures.same c.point.ensures.count more.log;
      same = value ∙ more.same ∙ ap (λ (w : LogValue). with_word w c.args.number c.args.lock c.args.value) before;
    }
