use Rattle.std.proofs.Common.{◌≡◌, ℕ, None, sym, ap, ◌∙◌}
use Rattle.std.specs.FinMap.{get, get-empty}
use Rattle.std.specs.Ordering.{nat_cmp}
use Rattle.stm_logs.specs.Log.{LogValue}
use Rattle.stm_logs.proofs.TableLemmas.{some_none}
use Rattle.stm_logs.proofs.LogLemmas.{held_none}
use Rattle.stm_logs.proofs.long.LongLog.has_lock.Goals as goal

pub returns-in-None : goal.returns-in-None
returns-in-None g c =
    let empty = held_none c.self.inside.table _ c.in-None.is c.self.view_is in
    let none : (a : ℕ) → get c.args.self.now.locks a ≡ None =
    λ a. ap (λ (x : LogValue). get x.locks a) empty ∙ get-empty nat_cmp a in
    (λ t. absurd (cc), λ w. absurd (some_none _ (sym w.1 ∙ none w.0)))
