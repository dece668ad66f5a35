-- Verdicts on the classes of keys decide whether the history of the whole store is legal.
use Rattle.std.proofs.Common.{ℕ, List, [], get_or, sym, subst, ◌∙◌}
use Rattle.judge_object.specs.declared.level.Level.{Level}
use Rattle.judge_object.specs.declared.line.Line.{Line}
use Rattle.judge_object.specs.Call.{Call, EachCall}
use Rattle.judge_text.specs.declared.by_object.Verdict.{Verdict}
use Rattle.judge_text.specs.declared.by_object.Verdict.TheVariants as verdict
use Rattle.judge_text.specs.Classing.{object_of, for_object, AreTogether}
use Rattle.judge_text.specs.Runs.{AreOfOne}
use Rattle.judge_text.specs.declared.counting.Counts.{Counts}
use Rattle.judge_text.specs.declared.judging.TextVerdict.TheVariants.{Fault, Judged}
use Rattle.judge_text.specs.declared.settings.Settings.{Settings}
use Rattle.judge_text.specs.Judging.{IsLegalText, IsJudgedText, DecidesBy, HasNaming}
use Rattle.judge_kv.specs.Stores.{Pairs}
use Rattle.judge_kv.specs.Requests.{Requested}
use Rattle.judge_kv.specs.StoreRules.{whole}
use Rattle.judge_kv.specs.StoreWords.{whole_language}
use Rattle.judge_kv.specs.Classes.{name_of, IsOneFor, AreStoreObjects}
use Rattle.judge_kv.specs.Judging.{IsLegalStore, DecidesCalls, VerdictsDecideStore}
use Rattle.judge_kv.proofs.Product.{of_relaxed, store_to_objects, objects_to_store}
use Rattle.judge_kv.proofs.Joining.{all_empty}

-- a history that is legal for the whole store is so for objects of its keys, and the other way round
legal_objects : (kept : Level) (pairs : Pairs) (text : List ℕ) (objects : List ℕ → List ℕ)
    (h : IsLegalStore kept pairs text) → EachCall (IsOneFor objects) h.calls →
    IsLegalText whole (for_object objects name_of) whole_language kept (λ name. pairs) text
legal_objects kept pairs text objects h joins = record {
  calls = h.calls;
  are = h.are;
  turn = h.turn;
  order = store_to_objects kept pairs h.calls objects joins h.order;
}

module _ (how : Settings) (pairs : Pairs) (text : List ℕ) (objects : List ℕ → List ℕ)
    (naming : HasNaming whole name_of AreStoreObjects whole_language how.level text objects) where
  to_store : IsLegalText whole (for_object objects name_of) whole_language how.level (λ name. pairs) text →
      IsLegalStore how.level pairs text
  to_store h = record {
    calls = h.calls;
    are = h.are;
    turn = h.turn;
    order = objects_to_store how.level pairs h.calls objects
        (of_relaxed objects how.level h.calls (naming h.calls h.are).joins) h.order;
  }

  of_store : IsLegalStore how.level pairs text →
      IsLegalText whole (for_object objects name_of) whole_language how.level (λ name. pairs) text
  of_store h = legal_objects how.level pairs text objects h
      (of_relaxed objects how.level h.calls (naming h.calls h.are).joins)

  one_object : (lines : List (Line Requested)) → AreTogether objects → AreOfOne (for_object objects name_of) lines
  one_object lines together i d l =
      together (name_of (get_or lines i d).op) ∙ sym (together (name_of (get_or lines 0 d).op))

  decides : (counts : Counts) (v : Verdict Requested Pairs) →
      IsJudgedText whole (for_object objects name_of) whole_language how (λ name. pairs) text counts v →
      DecidesBy whole (for_object objects name_of) whole_language how.level (λ name. pairs) text v →
      DecidesCalls how.level pairs text v
  decides counts verdict.Linearizable j d = to_store d
  decides counts (verdict.NotLinearizable blocked) j d = λ legal. d (of_store legal)
  decides counts (verdict.OutOfTurn place) j d = λ legal. d (of_store legal)
  decides counts (verdict.Unknown open_) j d = tt
  decides counts verdict.Touching j d =
      let is = j.judged.judged in
      let named = subst (λ cs. AreStoreObjects cs objects) (sym j.judged.relaxed) (naming j.calls j.are) in
      is.1.several (one_object j.judged.lines (named.touching is.0 is.1.touches))

pub verdicts_decide : VerdictsDecideStore
verdicts_decide pairs text how (Fault number fault) is d =
    λ legal. d (for_object (λ key. []) name_of)
    (legal_objects how.level pairs text (λ key. []) legal (all_empty legal.calls))
verdicts_decide pairs text how (Judged names counts v) is d =
    decides how pairs text (object_of names) is.0 counts v is.1 d
