-- The rules of a sequential object.
use Rattle.std.specs.Prelude.{◌≡◌, ⊤, ℕ, Bool, true, Option, Some, None, List}
use Rattle.std.specs.Option.{option_map}
use Rattle.std.specs.Str.{bytes_eq}
use Rattle.std.specs.Global.{Vec}

-- the rules of a sequential object with states S, operations O and replies R
pub record Rules (S O R : Type 0) : Type 0 where
  -- the state after an operation, and the reply
  pub run : S → O → S × R
  -- the text of a reply
  pub text : R → List ℕ
  -- some operation: lists of calls need a default
  pub none : O

-- the bytes of a text, if there is one
abbrev pub given_text : Option (Vec ℕ) → Option (List ℕ)
given_text given = option_map (λ (text : Vec ℕ). text.items) given

module _ {S O R : Type 0} (X : Rules S O R) where
  -- tests whether a call may have this reply: if the history gives none, any
  abbrev pub is_right : Option (List ℕ) → R → Bool
  is_right None expected = true
  is_right (Some text) expected = bytes_eq text (X.text expected)

  -- a call may have this reply: the history gives the text of the reply, or gives none
  abbrev pub IsAnswerOf : R → Option (List ℕ) → Type 0
  IsAnswerOf reply None = ⊤
  IsAnswerOf reply (Some text) = X.text reply ≡ text
