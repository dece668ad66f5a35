-- The number of a client.
use Rattle.std.specs.Prelude.{ℕ, Option, List}
use Rattle.vac_lines.specs.Words.{number_between}
use Rattle.vac_lines.specs.declared.client.TheConstants.{MOST_CLIENT_DIGITS, MOST_CLIENT}

-- CLIENT: 0 to 4,294,967,295, of 1 to 10 digits
abbrev pub client_number : List ℕ → Option ℕ
client_number word = number_between MOST_CLIENT_DIGITS 0 MOST_CLIENT word
