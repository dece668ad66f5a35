use Rattle.std.proofs.Common.{◌∙◌}
use Rattle.judge_kv.proofs.Lookups.{set_value_held}
use Rattle.judge_kv.proofs.store.StoreStartValues.set_value.Goals as goal

pub returns : goal.returns
returns c =
    set_value_held c.args.self.now c.set.new.self c.args.key.items c.as_slice.result.now c.args.value.items
    c.in_ok-new.field-0.value c.in_ok-set.ensures c.as_slice.ensures.value
    (c.in_ok-new.ensures.ok ∙ c.from_bytes-value.ensures)
