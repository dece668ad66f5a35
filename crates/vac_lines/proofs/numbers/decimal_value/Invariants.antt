use Rattle.std.proofs.Common.{◌≡◌, ◌<◌, ◌^◌, take, true}
use Rattle.std.specs.List.{list_all}
use Rattle.std.specs.Char.{is_ascii_digit}
use Rattle.vac_lines.specs.Words.{decimal_value}
use Rattle.vac_lines.proofs.numbers.decimal_value.Given as goal

-- the digits so far, and the number that they write
abbrev pub invariant-loop-digit : goal.invariant-loop-digit
invariant-loop-digit l = record {
  digits : list_all is_ascii_digit (take l.digit-index l.digits) ≡ true;
  value : l.number ≡ decimal_value (take l.digit-index l.digits);
  bound : l.number < 2 ^ 64;
}
