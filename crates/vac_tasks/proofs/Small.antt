-- The ids and the units of commands on bookings fit 32 bits.
use Rattle.std.proofs.Common.{◌≡◌, ℕ, ◌<◌, ◌≤◌, ◌^◌, true, arith}
use Rattle.std.specs.Prelude.{◌&&◌, nat_le}
use Rattle.std.proofs.lemmas.Bool.Decides.{nat_tests}
use Rattle.vac_model.specs.declared.commands.Command.TheVariants as command
use Rattle.vac_model.specs.declared.items.Kind.{Kind}
use Rattle.vac_model.specs.declared.limits.TheConstants.{MOST_UNITS_AT_ONCE}
use Rattle.vac_model.specs.Amounts.{is_id, is_unit_count}
use Rattle.vac_model.specs.Ranges.{is_command}
use Rattle.vac_model.proofs.Ids.{both_true, id_high}

pub reserve_small : (customer : ℕ) (kind : Kind) (id num : ℕ) →
    is_command (command.Reserve customer kind id num) ≡ true → (id < 2 ^ 32) × (num < 2 ^ 32)
reserve_small customer kind id num e =
    let outer = both_true (is_id customer && is_id id) (is_unit_count num) e in
    let ids = both_true (is_id customer) (is_id id) outer.0 in
    let count = both_true (nat_le 1 num) (nat_le num MOST_UNITS_AT_ONCE) outer.1 in
    let few : num ≤ MOST_UNITS_AT_ONCE = grind (arith, nat_tests, count.1) in
    (id_high id ids.1, omega (arith, few))

pub cancel_small : (customer : ℕ) (kind : Kind) (id : ℕ) → is_command (command.Cancel customer kind id) ≡ true →
    id < 2 ^ 32
cancel_small customer kind id e = id_high id (both_true (is_id customer) (is_id id) e).1
