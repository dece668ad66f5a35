use Rattle.std.proofs.Common.{inr}
use Rattle.judge_reservations.proofs.Numbered.{each_fits}
use Rattle.judge_reservations.proofs.Whole.{parts_linearizable}
use Rattle.judge_reservations.proofs.laws.illegal_parts_show_illegal_histories.Goals as goal

pub returns : goal.returns
returns c = λ scope blocks calls few fit illegal legal.
    let each = each_fits scope calls fit in
    illegal (parts_linearizable scope blocks calls few each.0 (inr each.1) legal)
