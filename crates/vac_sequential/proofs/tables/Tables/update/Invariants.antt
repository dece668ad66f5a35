use Rattle.std.proofs.Common.{◌≡◌, ◌++◌, ◌-◌, take}
use Rattle.std.specs.Prelude.{None, replicate}
use Rattle.vac_model.specs.Run.{steps}
use Rattle.vac_model.specs.Fits.{IsSmall}
use Rattle.vac_sequential.proofs.tables.Tables.update.Given as goal

abbrev pub invariant-loop-i : goal.invariant-loop-i
invariant-loop-i l = record {
  state : (steps l.initial.self (take l.i l.changes)).0 ≡ l.self;
  noted : l.refused ≡ (steps l.initial.self (take l.i l.changes)).1 ++ replicate (32 - l.i) None;
  small : IsSmall l.self;
}
