use Rattle.std.proofs.Common.{◌≡◌, ◌*◌, List, length, refl, ap, ◌∙◌, arith}
use Rattle.stm_logs.specs.Nodes.{Node, Block}
use Rattle.stm_logs.specs.Held.{IsLog}
use Rattle.stm_logs.specs.Order.{log_value, block_log}
use Rattle.stm_logs.proofs.LogLemmas.{copied_ready, copied_value, fingers_log, fingers_value, log_of}
use Rattle.stm_logs.proofs.grow.grown.Goals as goal

pub returns : goal.returns
returns g c =
    let old : Block = c.args.old.now in
    let new : List Node = c.copy.new.new.list in
    let mid : Block = c.copy.new.new in
    let end : Block = c.point_all_if.new.nodes in
    let copied = c.copy.ensures.copied in
    let count : mid.count ≡ old.count = c.copy.ensures.count in
    let len : length new ≡ 2 * length old.list = omega (
      arith,
      c.copy.ensures.places,
      c.in_ok-new.ensures.0,
      c.len-places.ensures,
    ) in
    let log : IsLog mid = log_of mid new old.count refl count
    (copied_ready old.list new old.count c.requires.ready copied)
    (omega (arith, len, c.requires.places)) in
    let value : block_log mid ≡ block_log old = ap (log_value new) count ∙ copied_value old.list new old.count copied in
    let same = c.point_all_if.ensures.same in
    let some = c.requires.places in
    let room = c.requires.ready.indexed.room in
    record {
      log = fingers_log mid end same c.point_all_if.ensures.count log;
      room = omega (arith, c.point_all_if.ensures.count, count, same.len, len);
      same = ap (log_value end.list) c.point_all_if.ensures.count ∙ fingers_value mid.list end.list mid.count same ∙
          value;
    }
