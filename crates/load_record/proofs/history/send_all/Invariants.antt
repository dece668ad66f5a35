use Rattle.load_record.specs.Rests.{left_of}
use Rattle.load_record.specs.Sending.{SentPicked}
use Rattle.load_record.proofs.Merges.{count}
use Rattle.load_record.proofs.history.send_all.Given as goal

abbrev pub invariant-lines : goal.invariant-lines
invariant-lines g l = SentPicked (left_of l.fn.rests) (left_of l.rests) (g.W.Write.contents l.fn.output)
    (g.W.Write.contents l.output) l.hand.items

abbrev pub decreases-lines : goal.decreases-lines
decreases-lines g l = count (left_of l.rests)
