-- The call that a verdict names if the calls of an object have no linearization.
use Rattle.std.specs.Prelude.{◌≡◌, ⊤, ℕ, ◌+◌, true, Ok, List, ◌++◌}
use Rattle.judge_object.specs.Rules.{Rules, IsAnswerOf}
use Rattle.judge_object.specs.Call.{Call, is_completed}
use Rattle.judge_object.specs.Linear.{IsCallAt}
use Rattle.judge_object.specs.Orders.{IsLinearizable}
use Rattle.judge_object.specs.Relaxed.{relax}
use Rattle.judge_object.specs.declared.level.Level.{Level}
use Rattle.judge_text.specs.Many.{part}
use Rattle.judge_text.specs.declared.by_object.Verdict.{Verdict}
use Rattle.judge_text.specs.declared.by_object.Verdict.TheVariants as verdict
use Rattle.judge_text.specs.Classing.{object_of, for_object}
use Rattle.judge_text.specs.declared.judging.TextVerdict.{TextVerdict}
use Rattle.judge_text.specs.declared.judging.TextVerdict.TheVariants.{Fault, Judged}
use Rattle.judge_text.specs.Language.{Language}
use Rattle.judge_text.specs.Reading.{text_calls}
use Rattle.judge_text.specs.Texts.{named_text, stuck_line}

module _ {S O R : Type 0} (X : Rules S O R) (name : O → List ℕ) (L : Language O R) (kept : Level)
  where
    -- the text names an object whose calls in the history have no linearization, without the order
    -- that the level does not keep, and a blocked call: a completed call of this object, by the
    -- number of its line. The text has this call first among the blocked calls, with the reply that
    -- the object would give, which is not the one that the history has
    pub record NamesBlocked (s : List ℕ → S) (bytes text : List ℕ) : Type 0 where
      pub calls : List (Call O)
      pub are : text_calls X L bytes ≡ Ok calls
      pub for : List ℕ
      pub none : IsLinearizable X (s for) (part name for (relax kept calls)) → ⊥
      pub place : ℕ
      pub call : Call O
      pub is : IsCallAt (relax kept calls) place call
      pub own : name call.op ≡ for
      pub completed : is_completed call ≡ true
      pub expected : R
      pub other : IsAnswerOf X expected call.reply → ⊥
      pub rest : List ℕ
      pub text_is : text ≡ named_text (place + 1) for ++ stuck_line X (place + 1) expected ++ rest

    -- if a verdict is that the calls of an object have no linearization, its text names a blocked
    -- call
    abbrev pub NamesBy : (List ℕ → S) → List ℕ → Verdict O S → List ℕ → Type 0
    NamesBy s bytes (verdict.NotLinearizable blocked) text = NamesBlocked s bytes text
    NamesBy s bytes verdict.Linearizable text = ⊤
    NamesBy s bytes (verdict.OutOfTurn place) text = ⊤
    NamesBy s bytes (verdict.Unknown open_) text = ⊤
    NamesBy s bytes verdict.Touching text = ⊤

module _ {S O R : Type 0} (X : Rules S O R) (name : O → List ℕ) (L : Language O R) (kept : Level)
  where
    -- and if the verdict on a text is
    abbrev pub NamesIfBlocked : (List ℕ → S) → List ℕ → TextVerdict O S → List ℕ → Type 0
    NamesIfBlocked s bytes (Judged names counts v) text =
        NamesBy X (for_object (object_of names) name) L kept s bytes v text
    NamesIfBlocked s bytes (Fault number fault) text = ⊤
