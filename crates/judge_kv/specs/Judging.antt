-- Verdicts on the history of a whole store.
use Rattle.std.specs.Prelude.{◌≡◌, ⊤, ℕ, Ok, List}
use Rattle.judge_object.specs.Call.{Call}
use Rattle.judge_object.specs.declared.level.Level.{Level}
use Rattle.judge_object.specs.Levels.{IsAt}
use Rattle.judge_search.specs.Walk.{InTurn}
use Rattle.judge_text.specs.declared.by_object.Verdict.{Verdict}
use Rattle.judge_text.specs.declared.by_object.Verdict.TheVariants as verdict
use Rattle.judge_text.specs.declared.judging.TextVerdict.{TextVerdict}
use Rattle.judge_text.specs.declared.judging.TextVerdict.TheVariants.{Fault, Judged}
use Rattle.judge_text.specs.declared.settings.Settings.{Settings}
use Rattle.judge_text.specs.Reading.{text_calls}
use Rattle.judge_text.specs.Judging.{IsVerdictOnText, DecidesLegal}
use Rattle.judge_kv.specs.Stores.{Pairs}
use Rattle.judge_kv.specs.Requests.{Requested}
use Rattle.judge_kv.specs.StoreRules.{whole}
use Rattle.judge_kv.specs.StoreWords.{whole_language}
use Rattle.judge_kv.specs.Classes.{name_of, AreStoreObjects}

-- each line of a text is a call, each client's calls are in turn, and the calls are at the level
-- for the whole store, which begins with these keys and values: they have a linearization, or an
-- order of a weaker level
pub record IsLegalStore (kept : Level) (pairs : Pairs) (text : List ℕ) : Type 0 where
  pub calls : List (Call Requested)
  pub are : text_calls whole whole_language text ≡ Ok calls
  pub turn : InTurn calls
  pub order : IsAt whole kept pairs calls

-- a text is legal for the whole store, or not, if the verdict on its calls says so. That calls
-- touch is no verdict
abbrev pub DecidesCalls : Level → Pairs → List ℕ → Verdict Requested Pairs → Type 0
DecidesCalls kept pairs text verdict.Linearizable = IsLegalStore kept pairs text
DecidesCalls kept pairs text (verdict.NotLinearizable blocked) = IsLegalStore kept pairs text → ⊥
DecidesCalls kept pairs text (verdict.OutOfTurn place) = IsLegalStore kept pairs text → ⊥
DecidesCalls kept pairs text (verdict.Unknown open_) = ⊤
DecidesCalls kept pairs text verdict.Touching = ⊥

-- a text is legal for the whole store, or not, if the verdict says so
abbrev pub DecidesStore : Level → Pairs → List ℕ → TextVerdict Requested Pairs → Type 0
DecidesStore kept pairs text (Fault number fault) = IsLegalStore kept pairs text → ⊥
DecidesStore kept pairs text (Judged names counts v) = DecidesCalls kept pairs text v

-- verdicts on the classes of keys decide whether a text is legal for the whole store
abbrev pub VerdictsDecideStore : Type 0
VerdictsDecideStore = (pairs : Pairs) (text : List ℕ) (how : Settings)
    (v : TextVerdict Requested Pairs) →
    IsVerdictOnText whole name_of AreStoreObjects whole_language (λ name. pairs) text how v →
    DecidesLegal whole name_of AreStoreObjects whole_language how.level (λ name. pairs) text v →
    DecidesStore how.level pairs text v
