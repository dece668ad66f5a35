-- Lines that are gathered in a buffer before they are written.
use Rattle.std.specs.Prelude.{ℕ, List, [], ◌++◌, Option}
use Rattle.rand_pcg.specs.Lcg.{Lcg}
use Rattle.load_tasks.specs.declared.settings.Settings.{Settings}
use Rattle.load_tasks.specs.Draws.{Reader}
use Rattle.vac_lines.specs.Writing.{AppendsPrefix}
use Rattle.vac_lines.specs.Sent.{Sent}
use Rattle.load_tasks.specs.Worklist.{DrawnLines, IsTextOf}

-- the lines of drawn items were sent: some text was written, and the rest is in the buffer
pub record SentLines {X : Type 0} (reader : Reader (List X)) (line : X → List ℕ)
    (state last : Lcg) (held holds : Option (List ℕ)) (hand hand' : List ℕ) : Type 0 where
  pub text : List ℕ
  pub lines : DrawnLines reader line state last text
  pub sent : Sent held holds hand hand' text

-- a prefix of the buffered text and of the lines of drawn items was written
pub record SentInPart {X : Type 0} (reader : Reader (List X)) (line : X → List ℕ)
    (state : Lcg) (held holds : Option (List ℕ)) (hand : List ℕ) : Type 0 where
  pub text : List ℕ
  pub last : Lcg
  pub lines : DrawnLines reader line state last text
  pub written : AppendsPrefix held holds (hand ++ text)

-- the lines of the setup phase and of the clients from 1 to n were sent
pub record SentTasks (s : Settings) (n : ℕ) (held holds : Option (List ℕ)) (hand : List ℕ) :
    Type 0 where
  pub text : List ℕ
  pub is : IsTextOf s n text
  pub sent : Sent held holds [] hand text
