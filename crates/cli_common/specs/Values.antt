-- The values that the words of a command line give to its options, as clap reads them.
use Rattle.std.specs.Prelude.{◌≡◌, ℕ, ◌≤◌, ◌⊎◌, Bool, true, false, Some, None}
use Rattle.std.specs.Prelude.{List, [], Option, option_map, option_and_then, find, unwrap_or}
use Rattle.std.specs.Str.{bytes_eq}
use Rattle.std.specs.Borrow.{Bor}
use Rattle.std.specs.Str.Parse.{IsNumeral, digits_value, without_leading_plus}
use Rattle.clap.specs.Values.{bool_text}
use Rattle.clap.specs.Walk.{all_of, first_of, one_of}
use Rattle.clap.specs.Words.{Row, Text}
use Rattle.clap.specs.declared.parser.matches.ValueSource.{ValueSource}
use Rattle.clap.specs.declared.parser.matches.ValueSource.TheVariants.{CommandLine}

-- the rows of clap give the option the number n, written in decimal
pub record Gives (rows : List Row) (option : Text) (n : ℕ) : Type 0 where
  pub text : Text
  pub one : one_of option rows ≡ Some text
  pub numeral : IsNumeral 10 (without_leading_plus text)
  pub value : digits_value 10 (without_leading_plus text) ≡ n

-- the rows of clap give the option a number in this range
pub record GivesIn (rows : List Row) (option : Text) (least most : ℕ) : Type 0 where
  pub number : ℕ
  pub given : Gives rows option number
  pub low : least ≤ number
  pub high : number ≤ most

-- the rows of clap give the option a number in this range, or give the option no value
abbrev pub MayGiveIn : List Row → Text → ℕ → ℕ → Type 0
MayGiveIn rows option least most =
    (one_of option rows ≡ None) ⊎ GivesIn rows option least most

-- the rows of clap give the option this number of a line, which is at least 1; or, for none, give
-- the option no value
abbrev pub GivesLine : List Row → Text → Option ℕ → Type 0
GivesLine rows option (Some line) = Gives rows option line × (1 ≤ line)
GivesLine rows option None = one_of option rows ≡ None

-- the rows of clap say whether the flag is set
abbrev pub Says : List Row → Text → Bool → Type 0
Says rows name is_set = one_of name rows ≡ Some (bool_text is_set)

-- the rows of clap say that the flag is set, or that it is not
abbrev pub IsFlag : List Row → Text → Type 0
IsFlag rows name = Says rows name true ⊎ Says rows name false

-- the rows of clap name this file for the option, or none
abbrev pub NamesFile : List Row → Text → Option (Bor Text) → Type 0
NamesFile rows option file = first_of option rows ≡ option_map (λ name. name.now) file

-- true if a value stands in the words, and is no default
abbrev pub is_of_words : Option ValueSource → Bool
is_of_words (Some CommandLine) = true
is_of_words source = false

-- true if the words themselves give the option
abbrev pub is_given : Text → List Row → Bool
is_given option rows =
    is_of_words (option_and_then (λ row. row.source) (find (λ row. bytes_eq row.id option) rows))

-- the values of all uses of an option, in their order
abbrev pub values_of : Text → List Row → List Text
values_of option rows = unwrap_or (all_of option rows) []
