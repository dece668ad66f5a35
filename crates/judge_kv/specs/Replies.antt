-- The replies of a key-value store, and their texts. A missing value differs from every value, also
-- in text, since the text of a value begins with a quote.
use Rattle.std.specs.Prelude.{ℕ, Bool, true, false, Option, Some, None, List, codes}
use Rattle.judge_text.specs.Quoting.{quoted}

-- it was done; it was done or not; the key has this value; the key has none
pub data Answered : Type 0 where
  Done : Answered
  Truth : (is : Bool) → Answered
  Has : (value : List ℕ) → Answered
  Missing : Answered

-- the text of a reply
abbrev pub answer_text : Answered → List ℕ
answer_text Done = codes "ok"
answer_text (Truth true) = codes "true"
answer_text (Truth false) = codes "false"
answer_text (Has value) = quoted value
answer_text Missing = codes "-"

-- what a key has, as a reply
abbrev pub value_answer : Option (List ℕ) → Answered
value_answer None = Missing
value_answer (Some value) = Has value
