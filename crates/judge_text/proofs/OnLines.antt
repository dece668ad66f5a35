-- The verdict on the calls of lines, and on the text of these lines.
use Rattle.std.proofs.Common.{◌≡◌, ℕ, Ok, List, ◌∙◌, ap, subst, sym}
use Rattle.judge_object.specs.Rules.{Rules}
use Rattle.judge_object.specs.Call.{Call}
use Rattle.judge_object.specs.declared.line.Line.{Line}
use Rattle.judge_object.specs.Relaxed.{relax}
use Rattle.judge_search.specs.Calls.{calls_of}
use Rattle.judge_text.specs.declared.by_object.Verdict.{Verdict}
use Rattle.judge_text.specs.declared.by_object.Verdict.TheVariants as verdict
use Rattle.judge_text.specs.declared.counting.Counts.{Counts}
use Rattle.judge_text.specs.declared.judging.TextVerdict.{TextVerdict}
use Rattle.judge_text.specs.declared.judging.TextVerdict.TheVariants.{Fault, Judged}
use Rattle.judge_text.specs.declared.names.Names.{Names}
use Rattle.judge_text.specs.declared.settings.Settings.{Settings}
use Rattle.judge_text.specs.Classing.{object_of, for_object}
use Rattle.judge_text.specs.Counting.{clients_in, counts_of}
use Rattle.judge_text.specs.Language.{Language}
use Rattle.judge_text.specs.Reading.{AreNumbered, text_calls}
use Rattle.judge_text.specs.Relaxing.{AreRelaxed, MayRelax}
use Rattle.judge_text.specs.Turns.{IsFirstOutOfTurn}
use Rattle.judge_text.specs.Verdict.{IsVerdictOn}
use Rattle.judge_text.specs.Judging.{AreJudged, IsVerdictAt, IsVerdictOnLines, IsVerdictOnText, DecidesLegal}
use Rattle.judge_text.proofs.Legal.{decides_calls, verdict_at, decides_text, out_of_turn, same}
use Rattle.judge_text.proofs.Relaxed.{relaxed_calls, relaxed_numbered, counted_relaxed}

module _ {S O R : Type 0} (X : Rules S O R) (name : O → List ℕ)
    (naming : List (Call O) → (List ℕ → List ℕ) → Type 0) (s : List ℕ → S) (how : Settings)
    (lines relaxed : List (Line O)) (names : Names) (clients : ℕ) (counts : Counts)
    (numbered : AreNumbered 1 lines) (are : AreRelaxed how.level lines relaxed)
    (all : clients ≡ clients_in (calls_of lines)) (named : naming (calls_of relaxed) (object_of names))
    (counted : counts ≡ record (counts_of (for_object (object_of names) name) (calls_of relaxed)) {
      clients = clients;
    }) where
  abbrev for : O → List ℕ
  for = for_object (object_of names) name

  calls : calls_of relaxed ≡ relax how.level (calls_of lines)
  calls = relaxed_calls how.level lines relaxed numbered are

  objects : naming (relax how.level (calls_of lines)) (object_of names)
  objects = subst (λ cs. naming cs (object_of names)) calls named

  judged : (v : Verdict O S) → IsVerdictAt X for s how.steps (calls_of lines) relaxed v →
      AreJudged X for how s (calls_of lines) counts v
  judged v is = record {
    lines = relaxed;
    relaxed = calls;
    numbered = relaxed_numbered how.level 1 lines relaxed numbered are;
    counted = counted_relaxed for how.level (calls_of lines) (calls_of relaxed) counts clients calls all counted;
    judged = is;
  }

  -- a call is out of turn
  pub broken_on_lines : (place : ℕ) → IsFirstOutOfTurn (calls_of lines) place →
      IsVerdictOnLines X name naming s how lines (Judged names counts (verdict.OutOfTurn place))
  broken_on_lines place first =
      (objects, judged (verdict.OutOfTurn place) first, λ legal. out_of_turn (calls_of lines) place first legal.turn)

  -- the relaxed lines were judged
  pub verdict_on_lines : (v : Verdict O S) → MayRelax how.level (calls_of lines) →
      IsVerdictOn X for s how.steps relaxed v → IsVerdictOnLines X name naming s how lines (Judged names counts v)
  verdict_on_lines v may is =
      let on = verdict_at X for how.level s how.steps (calls_of lines) relaxed v calls may is in
      (objects, judged v on, decides_calls X for how.level s how.steps (calls_of lines) relaxed v calls may on)

module _ {S O R : Type 0} (X : Rules S O R) (name : O → List ℕ)
    (naming : List (Call O) → (List ℕ → List ℕ) → Type 0) (L : Language O R) (s : List ℕ → S) (how : Settings)
    (text : List ℕ) (lines : List (Line O)) (are : text_calls X L text ≡ Ok (calls_of lines)) where
  pub text_verdict : (v : TextVerdict O S) → IsVerdictOnLines X name naming s how lines v →
      IsVerdictOnText X name naming L s text how v
  text_verdict (Fault number fault) h = absurd h
  text_verdict (Judged names counts v) h = (
    (λ calls e. subst (λ cs. naming (relax how.level cs) (object_of names))
        (same X name L text (calls_of lines) calls are e) h.0),
    record { calls = calls_of lines; are = are; judged = h.1 },
  )

  pub text_decides : (v : TextVerdict O S) → IsVerdictOnLines X name naming s how lines v →
      DecidesLegal X name naming L how.level s text v
  text_decides (Fault number fault) h = absurd h
  text_decides (Judged names counts v) h =
      decides_text X (for_object (object_of names) name) L how.level s text (calls_of lines) v are h.2
