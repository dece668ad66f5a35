use Rattle.load_record.specs.Known.{known}
use Rattle.load_record.proofs.Tracking.{tracked_read}
use Rattle.load_record.proofs.observed.ObservedTxRead.read.Goals as goal

pub invariant_of-self-2 : goal.invariant_of-self-2
invariant_of-self-2 g c =
    let before = c.args.self.now.accesses.now in
    let after = c.see.new.self in
    record {
      tracked = tracked_read (g.M.TxRead.view c.args.self.now.memory.now) (g.M.TxRead.view c.read.new.self)
          c.args.addr c.in_ok-value.value (known before.is_whole before.items.items)
          (known after.is_whole after.items.items) c.args.self.now.tracked c.in_ok-value.ensures.answer
          c.read.ensures.writes c.see.ensures;
    }
