-- Bytes as a quoted word, which has no space: `"a%20b"` for a, a space and b.
use Rattle.std.specs.Prelude.{◌≡◌, ℕ, ◌+◌, ◌-◌, ◌*◌, ◌/◌, ◌%◌, ◌<◌, ◌⊎◌, ◌==◌, ◌&&◌, Bool, Option, Some, None, All, List, [], ◌∷◌, ◌++◌, flat_map, not, nat_lt, nat_le, if◌then◌else◌}
use Rattle.std.specs.Global.{Vec}

-- a byte that stands for itself between quotes: printable, no space, no quote, no percent sign
abbrev pub is_plain : ℕ → Bool
is_plain b = nat_lt 32 b && nat_lt b 127 && not (b == 34) && not (b == 37)

-- the hexadecimal digit of a number below 16: 0 to 9, a to f
abbrev pub hex_digit : ℕ → ℕ
hex_digit n = if nat_lt n 10 then 48 + n else 87 + n

-- the number that a hexadecimal digit writes
abbrev pub hex_value : ℕ → Option ℕ
hex_value b =
    if nat_le 48 b && nat_le b 57 then Some (b - 48)
    else if nat_le 97 b && nat_le b 102 then Some (b - 87)
    else None

-- a byte between quotes: itself, or a percent sign and two hexadecimal digits
abbrev pub escaped : ℕ → List ℕ
escaped b =
    if is_plain b then b ∷ [] else 37 ∷ hex_digit (b / 16) ∷ hex_digit (b % 16) ∷ []

-- the word that is written of bytes
abbrev pub quoted : List ℕ → List ℕ
quoted bytes = 34 ∷ (flat_map escaped bytes ++ 34 ∷ [])

-- bytes before those that were read, if they were
abbrev pub behind : List ℕ → Option (List ℕ) → Option (List ℕ)
behind bytes None = None
behind bytes (Some more) = Some (bytes ++ more)

-- the byte of two hexadecimal digits, before the bytes that were read
abbrev pub behind_digits : Option ℕ → Option ℕ → Option (List ℕ) → Option (List ℕ)
behind_digits (Some high) (Some low) more = behind ((16 * high + low) ∷ []) more
behind_digits (Some high) None more = None
behind_digits None low more = None

-- two bytes are hexadecimal digits that write this byte
pub record IsPair (high low byte : ℕ) : Type 0 where
  pub above : ℕ
  pub below : ℕ
  pub high_is : hex_value high ≡ Some above
  pub low_is : hex_value low ≡ Some below
  pub byte_is : byte ≡ 16 * above + below

-- one of them is none
abbrev pub IsNoPair : ℕ → ℕ → Type 0
IsNoPair high low = (hex_value high ≡ None) ⊎ (hex_value low ≡ None)

-- the bytes of a list, if there is one
abbrev pub bytes_of : Option (Vec ℕ) → Option (List ℕ)
bytes_of None = None
bytes_of (Some bytes) = Some bytes.items

-- the bytes that a text writes up to its closing quote, which ends it
abbrev pub unescaped : List ℕ → Option (List ℕ)
unescaped [] = None
unescaped (a ∷ []) = if a == 34 then Some [] else None
unescaped (a ∷ b ∷ []) = if is_plain a then behind (a ∷ []) (unescaped (b ∷ [])) else None
unescaped (a ∷ b ∷ c ∷ rest) =
    if is_plain a then behind (a ∷ []) (unescaped (b ∷ c ∷ rest))
    else if a == 37 then behind_digits (hex_value b) (hex_value c) (unescaped rest)
    else None

-- the bytes that a word writes in quotes
abbrev pub unquoted : List ℕ → Option (List ℕ)
unquoted [] = None
unquoted (a ∷ rest) = if a == 34 then unescaped rest else None

-- what is written of bytes is read back
abbrev pub QuotesAreRead : Type 0
QuotesAreRead = (bytes : List ℕ) → All (λ b. b < 256) bytes → unquoted (quoted bytes) ≡ Some bytes
