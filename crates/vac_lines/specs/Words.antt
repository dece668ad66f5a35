-- The meaning of a word of a line.
use Rattle.std.specs.Prelude.{ℕ, ◌+◌, ◌*◌, ◌-◌, ◌^◌, ◌&&◌, Bool, Option, Some, None, List, length, fold, nat_le, codes, if◌then◌else◌}
use Rattle.std.specs.List.{list_all}
use Rattle.std.specs.Str.{bytes_eq}
use Rattle.std.specs.Char.{is_ascii_digit}
use Rattle.vac_model.specs.declared.items.Kind.{Kind}
use Rattle.vac_model.specs.declared.items.Kind.TheVariants.{Car, Flight, Room}
use Rattle.vac_lines.specs.declared.numbers.TheConstants.{MOST_WORD_DIGITS}

-- the number that decimal digits write
abbrev pub decimal_value : List ℕ → ℕ
decimal_value digits = fold (λ n digit. 10 * n + (digit - 48)) 0 digits

-- true if the word is 1 to n decimal digits
abbrev pub is_number_word : ℕ → List ℕ → Bool
is_number_word most_digits word =
    nat_le 1 (length word) && nat_le (length word) most_digits && list_all is_ascii_digit word

-- the number that a word of 1 to n digits writes, if it is within the bounds
abbrev pub number_between : ℕ → ℕ → ℕ → List ℕ → Option ℕ
number_between most_digits least most word =
    let value = decimal_value word in
    if is_number_word most_digits word && nat_le least value && nat_le value most
    then Some value else None

-- true if the word is a dash, which stands for no price
abbrev pub is_dash : List ℕ → Bool
is_dash word = bytes_eq word (codes "-")

-- true if the word separates two parts of an update
abbrev pub is_separator : List ℕ → Bool
is_separator word = bytes_eq word (codes ";")

-- the kind of item that a word names
abbrev pub kind_of : List ℕ → Option Kind
kind_of word =
    if bytes_eq word (codes "car") then Some Car
    else if bytes_eq word (codes "flight") then Some Flight
    else if bytes_eq word (codes "room") then Some Room
    else None

-- the memory word that a line of 1 to 20 digits writes, if it fits 64 bits
abbrev pub memory_word_of : List ℕ → Option ℕ
memory_word_of line = number_between MOST_WORD_DIGITS 0 (2 ^ 64 - 1) line
