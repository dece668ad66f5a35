use Rattle.std.proofs.Common.{refl, ap, set}
use Rattle.stm_core.specs.Event.{put}
use Rattle.std.specs.Prelude.{slice_index}
use Rattle.stm_replay.specs.Running.{Running}
use Rattle.stm_replay.specs.StateView.{running_of}
use Rattle.stm_replay.proofs.Stepping.{refused, kept_seat, acts_is}
use Rattle.stm_replay.proofs.state.State.put.Goals as goal

pub returns-in_err-put-clause-kept : goal.returns-in_err-put-clause-kept
returns-in_err-put-clause-kept g c = refused _ (kept_seat c.self.inside c.args.self.now _ c.index_mut-seat.result.now
    c.put.new.self c.self.view_is c.index_mut-seat.ensures.value c.in_err-put.ensures.kept)

pub returns-clause-done : goal.returns-clause-done
returns-clause-done g c = acts_is c.self.inside c.args.self.now c.args.client (put c.args.address c.args.value)
    (slice_index c.args.self.now.core.cells c.args.address) c.in_ok-events.events c.index_mut-seat.result.now
    c.put.new.self (record (running_of c.self.inside).core {
      cells = set c.self.inside.cells.items c.args.address c.args.value;
    }) c.self.inside.order c.self.view_is
    c.requires.there.inside c.index_mut-seat.ensures.value refl c.in_ok-events.ensures c.in_ok-put.ensures.done refl
    (ap (λ (x : Running). x.order) c.self.view_is)
