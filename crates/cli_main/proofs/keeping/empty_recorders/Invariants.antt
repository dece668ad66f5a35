use Rattle.std.proofs.Common.{◌≡◌, vec_len}
use Rattle.std.specs.List.{All}
use Rattle.load_run.specs.Keeping.{contents}
use Rattle.cli_main.specs.Load.{IsEmpty}
use Rattle.cli_main.proofs.keeping.empty_recorders.Given as goal

abbrev pub invariant-loop-number : goal.invariant-loop-number
invariant-loop-number g l =
    (vec_len l.clients ≡ l.number) × All (λ x. IsEmpty (contents g.K.Recorder.notes g.K.Recorder.traced
    g.K.Recorder.latest x))
    l.clients.items
