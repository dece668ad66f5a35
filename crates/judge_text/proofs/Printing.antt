-- The text of a verdict, part by part.
use Rattle.std.proofs.Common.{◌≡◌, ◌∙◌, ℕ, ◌<◌, List, ◌++◌, length, flat_map, refl, ap, sym, subst, append_assoc}
use Rattle.std.specs.Prelude.{All, Result, Ok, Err, OnOk, IfOk}
use Rattle.std.specs.Global.{Vec}
use Rattle.std.proofs.lemmas.List.{length-map}
use Rattle.judge_object.specs.Rules.{Rules}
use Rattle.judge_object.specs.Call.{Call}
use Rattle.judge_object.specs.declared.line.Line.{Line}
use Rattle.judge_search.specs.declared.stuck.Stuck.{Stuck}
use Rattle.judge_search.specs.Calls.{call_of, calls_of}
use Rattle.judge_search.specs.Point.{made_of}
use Rattle.judge_search.specs.Stuck.{AreStuck}
use Rattle.judge_text.specs.declared.parts.Blocked.{Blocked}
use Rattle.judge_text.specs.declared.judging.TextVerdict.{TextVerdict}
use Rattle.judge_text.specs.declared.settings.Settings.{Settings}
use Rattle.judge_text.specs.declared.verdict.Outcome.{Outcome}
use Rattle.judge_text.specs.Language.{Language}
use Rattle.judge_text.specs.Judging.{IsVerdictOnText, DecidesLegal}
use Rattle.judge_text.specs.Texts.{part_text, stuck_text, outcome_of, AreWithin, IsPrinted, IsBlockedText, IsTextOf}
use Rattle.judge_text.specs.Program.{JudgesText}
use Rattle.judge_text.proofs.Naming.{names_if_blocked}

pub on_ok : {X E : Type 0} (P Q : Type 0) → (P → Q) → (r : Result X E) → OnOk r P → OnOk r Q
on_ok P Q f (Ok x) h = f h
on_ok P Q f (Err e) h = tt

module _ {O R : Type 0} where
  -- blocked calls are calls of their lines
  pub within_lines : (lines slice : List (Line O)) (found stuck : List (Stuck R)) →
      All (λ one. one.place < length (calls_of lines)) found → slice ≡ lines → stuck ≡ found → AreWithin slice stuck
  within_lines lines slice found stuck h e f =
      subst (λ (s : List (Line O)). All (λ (one : Stuck R). one.place < length s) stuck) (sym e)
      (subst (λ l. All (λ (one : Stuck R). one.place < length lines) l) (sym f)
      (subst (λ m. All (λ (one : Stuck R). one.place < m) found) (length-map lines call_of) h))

module _ {S O R : Type 0} (X : Rules S O R) (name : O → List ℕ) where
  -- the line of the first blocked call and those of all were printed
  pub blocked_printed : (blocked : Blocked O S) (slice : List (Line O)) (found first all : List (Stuck R))
      (old middle new : List ℕ) →
      AreStuck X blocked.point.machine (made_of blocked.point) (calls_of blocked.calls.lines.items) found →
      slice ≡ blocked.calls.lines.items → first ≡ found → all ≡ found → middle ≡ old ++ part_text name slice first →
      new ≡ middle ++ flat_map (stuck_text X slice) all → IsPrinted (IsBlockedText X name blocked) old new
  blocked_printed blocked slice found first all old middle new are e f k m n =
      let lines = blocked.calls.lines.items in
      let part = part_text name lines found in
      let each = flat_map (stuck_text X lines) found in
      record {
        text = part ++ each;
        is = n
            ∙ ap (λ t. t ++ flat_map (stuck_text X slice) all) m
            ∙ ap (λ l. (old ++ part_text name slice l) ++ flat_map (stuck_text X slice) all) f
            ∙ ap (λ l. (old ++ part_text name slice found) ++ flat_map (stuck_text X slice) l) k
            ∙ ap (λ (s : List (Line O)). (old ++ part_text name s found) ++ flat_map (stuck_text X s) found) e
            ∙ append_assoc old part each;
        fact = record { stuck = found; are = are; is = refl };
      }

module _ {S O R : Type 0} (X : Rules S O R) (name : O → List ℕ)
    (naming : List (Call O) → (List ℕ → List ℕ) → Type 0) where
  -- a verdict holds, and its text was printed
  pub judged : {E : Type 0} (L : Language O R) (s : List ℕ → S) (how : Settings) (bytes : List ℕ)
      (v : TextVerdict O S) →
      IsVerdictOnText X name naming L s bytes how v → DecidesLegal X name naming L how.level s bytes v →
      (r : Result (Outcome × Vec ℕ) E) → IfOk r (λ p. p.0 ≡ outcome_of v) →
      IfOk r (λ p. IsTextOf X name v p.1.items) →
      IfOk r (λ p. JudgesText X name naming L s how bytes p.0 p.1.items)
  judged L s how bytes v is decides (Ok p) k t = record {
    verdict = v;
    is = is;
    decides = decides;
    kind = k;
    text_is = t;
    names = names_if_blocked X name naming L s bytes how v p.1.items is t;
  }
  judged L s how bytes v is decides (Err e) k t = tt
