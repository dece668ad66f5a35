-- A verdict decides whether a text is legal.
use Rattle.std.proofs.Common.{◌≡◌, ℕ, ◌<◌, ◌≤◌, ◌==◌, ◌&&◌, ◌||◌, suc, zero, Bool, true, false, Result, Ok, Err}
use Rattle.std.proofs.Common.{List, [], ◌∷◌, length, take, get_or, sym, ap, ◌∙◌, subst, arith, nat_lt, inl, inr}
use Rattle.std.specs.List.{list_any}
use Rattle.std.proofs.lemmas.Bool.Decides.{nat_tests}
use Rattle.judge_object.specs.Rules.{Rules}
use Rattle.judge_object.specs.Call.{Call, EachCall, IsBehind}
use Rattle.judge_object.specs.Orders.{IsLinearizable}
use Rattle.judge_object.specs.declared.level.Level.{Level}
use Rattle.judge_object.specs.declared.level.Level.TheVariants as level
use Rattle.judge_object.specs.declared.line.Line.{Line}
use Rattle.judge_object.specs.Levels.{IsAt}
use Rattle.judge_object.specs.Relaxed.{relax}
use Rattle.judge_object.proofs.Levels.{at_is_relaxed, relaxed_is_at}
use Rattle.judge_search.specs.Calls.{calls_of}
use Rattle.judge_search.specs.Walk.{InTurn}
use Rattle.judge_search.proofs.Each.{test}
use Rattle.judge_text.specs.Many.{many}
use Rattle.judge_text.specs.Turns.{call_breaks_client, calls_overlap, IsFirstOutOfTurn}
use Rattle.judge_text.specs.declared.by_object.Verdict.{Verdict}
use Rattle.judge_text.specs.declared.by_object.Verdict.TheVariants as verdict
use Rattle.judge_text.specs.Language.{Language}
use Rattle.judge_text.specs.Reading.{LineFault, text_calls}
use Rattle.judge_text.specs.Relaxing.{MayRelax}
use Rattle.judge_text.specs.Verdict.{IsVerdictOn}
use Rattle.judge_text.specs.Judging.{AreLegal, DecidesCalls, IsVerdictAt, IsLegalText, DecidesBy}
use Rattle.judge_text.proofs.Relaxed.{turn_sequential, turn_serializable}

not_less : (x y : ℕ) → y ≤ x → nat_lt x y ≡ false
not_less x y l = grind (arith, nat_tests)

apart : (a b x y : ℕ) → (a ≡ b → y ≤ x) → (a == b && nat_lt x y) ≡ false
apart a b x y h =
    elim (test a b) [
      | inl t ↦ ap (λ v. v && nat_lt x y) t.0 ∙ not_less x y (h t.1)
      | inr t ↦ ap (λ v. v && nat_lt x y) t.0
    ]

both : (p q r : Bool) → (p || r) ≡ false → q ≡ false → (p || (q || r)) ≡ false
both true q r h e = cc
both false q r h e = ap (λ v. v || r) e ∙ h

module _ {O : Type 0} where
  each_at : (P : Call O → Type 0) (calls : List (Call O)) (place : ℕ) (d : Call O) → place < length calls →
      EachCall P calls → P (get_or calls place d)
  each_at P [] place d l h = absurd (omega arith)
  each_at P (x ∷ xs) zero d l h = h.0
  each_at P (x ∷ xs) (suc place) d l h = each_at P xs place d (omega arith) h.1

  -- no call breaks the order of its client
  turn_at : (calls : List (Call O)) (place : ℕ) (d : Call O) → place < length calls → InTurn calls →
      call_breaks_client (take place calls) (get_or calls place d) ≡ false
  turn_at [] place d l h = absurd (omega arith)
  turn_at (x ∷ xs) zero d l h = ap (λ v. v || false) (not_less x.end x.begin h.0)
  turn_at (x ∷ xs) (suc place) d l h =
      let y = get_or xs place d in
      both (nat_lt y.end y.begin) (calls_overlap y x) (list_any (calls_overlap y) (take place xs))
      (turn_at xs place d (omega arith) h.2)
      (apart x.client y.client y.begin x.end
      (each_at (λ later. IsBehind later x) xs place d (omega arith) h.1))

  -- calls of which one is out of turn are not in turn
  pub out_of_turn : (calls : List (Call O)) (place : ℕ) → IsFirstOutOfTurn calls place → InTurn calls → ⊥
  out_of_turn [] place h turn = absurd (let w = h.within in omega arith)
  out_of_turn (x ∷ xs) place h turn =
      none (sym (h.breaks x) ∙ turn_at (x ∷ xs) place x h.within turn)
    where
      none : true ≡ false → ⊥
      none e = cc

module _ {S O R : Type 0} (X : Rules S O R) (name : O → List ℕ) where
  -- the calls of a linearizable history without the order that the level does not keep are at it
  at_level : (kept : Level) (s : List ℕ → S) (calls relaxed : List (Call O)) → relaxed ≡ relax kept calls →
      IsLinearizable (many X name) s relaxed → IsAt (many X name) kept s calls
  at_level kept s calls relaxed e h =
      relaxed_is_at (many X name) kept s calls (subst (IsLinearizable (many X name) s) e h)

  of_level : (kept : Level) (s : List ℕ → S) (calls relaxed : List (Call O)) → relaxed ≡ relax kept calls →
      MayRelax kept calls → IsAt (many X name) kept s calls → IsLinearizable (many X name) s relaxed
  of_level level.Linearizable s calls relaxed e may h = subst (IsLinearizable (many X name) s) (sym e) h
  of_level level.Sequential s calls relaxed e may h = subst (IsLinearizable (many X name) s) (sym e)
      (at_is_relaxed (many X name) level.Sequential s calls may.1 h)
  of_level level.Serializable s calls relaxed e may h = subst (IsLinearizable (many X name) s) (sym e)
      (at_is_relaxed (many X name) level.Serializable s calls may.1 h)

  in_turn : (kept : Level) (calls relaxed : List (Call O)) → relaxed ≡ relax kept calls → MayRelax kept calls →
      InTurn relaxed → InTurn calls
  in_turn level.Linearizable calls relaxed e may h = subst InTurn e h
  in_turn level.Sequential calls relaxed e may h = may.0
  in_turn level.Serializable calls relaxed e may h = may.0

  -- a verdict on calls that may be relaxed
  pub decides_calls : (kept : Level) (s : List ℕ → S) (steps : ℕ) (calls : List (Call O)) (lines : List (Line O))
      (v : Verdict O S) → calls_of lines ≡ relax kept calls → MayRelax kept calls →
      IsVerdictAt X name s steps calls lines v → DecidesCalls X name kept s calls v
  decides_calls kept s steps calls lines (verdict.OutOfTurn place) e may j = λ legal.
      out_of_turn calls place j legal.turn
  decides_calls kept s steps calls lines verdict.Linearizable e may j = record {
    turn = in_turn kept calls (calls_of lines) e may j.0.turn;
    order = at_level kept s calls (calls_of lines) e j.1;
  }
  decides_calls kept s steps calls lines (verdict.NotLinearizable blocked) e may j = λ legal.
      j.2 (of_level kept s calls (calls_of lines) e may legal.order)
  decides_calls kept s steps calls lines (verdict.Unknown open_) e may j = tt
  decides_calls kept s steps calls lines verdict.Touching e may j = tt

  -- the verdict on relaxed lines is one on the calls: calls that may be relaxed stay in turn
  pub verdict_at : (kept : Level) (s : List ℕ → S) (steps : ℕ) (calls : List (Call O)) (lines : List (Line O))
      (v : Verdict O S) → calls_of lines ≡ relax kept calls → MayRelax kept calls →
      IsVerdictOn X name s steps lines v → IsVerdictAt X name s steps calls lines v
  verdict_at level.Linearizable s steps calls lines (verdict.OutOfTurn place) e may j =
      subst (λ cs. IsFirstOutOfTurn cs place) e j
  verdict_at level.Sequential s steps calls lines (verdict.OutOfTurn place) e may j =
      absurd (out_of_turn (calls_of lines) place j (subst InTurn (sym e) (turn_sequential calls may.1)))
  verdict_at level.Serializable s steps calls lines (verdict.OutOfTurn place) e may j =
      absurd (out_of_turn (calls_of lines) place j (subst InTurn (sym e) (turn_serializable calls)))
  verdict_at kept s steps calls lines verdict.Linearizable e may j = j
  verdict_at kept s steps calls lines (verdict.NotLinearizable blocked) e may j = j
  verdict_at kept s steps calls lines (verdict.Unknown open_) e may j = j
  verdict_at kept s steps calls lines verdict.Touching e may j = j

module _ {S O R : Type 0} (X : Rules S O R) (name : O → List ℕ) (L : Language O R) where
  abbrev calls_in : Result (List (Call O)) LineFault → List (Call O)
  calls_in (Ok calls) = calls
  calls_in (Err fault) = []

  -- a text has one list of calls
  pub same : (text : List ℕ) (a b : List (Call O)) → text_calls X L text ≡ Ok a → text_calls X L text ≡ Ok b → a ≡ b
  same text a b e f = ap calls_in (sym e ∙ f)

  legal_calls : (kept : Level) (s : List ℕ → S) (text : List ℕ) (calls : List (Call O)) →
      text_calls X L text ≡ Ok calls → IsLegalText X name L kept s text → AreLegal X name kept s calls
  legal_calls kept s text calls are legal =
      subst (AreLegal X name kept s) (same text legal.calls calls legal.are are)
      (record { turn = legal.turn; order = legal.order })

  -- a verdict on the calls of a text decides whether the text is legal
  pub decides_text : (kept : Level) (s : List ℕ → S) (text : List ℕ) (calls : List (Call O)) (v : Verdict O S) →
      text_calls X L text ≡ Ok calls → DecidesCalls X name kept s calls v → DecidesBy X name L kept s text v
  decides_text kept s text calls verdict.Linearizable are d =
      record { calls = calls; are = are; turn = d.turn; order = d.order }
  decides_text kept s text calls (verdict.NotLinearizable blocked) are d = λ legal.
      d (legal_calls kept s text calls are legal)
  decides_text kept s text calls (verdict.OutOfTurn place) are d = λ legal.
      d (legal_calls kept s text calls are legal)
  decides_text kept s text calls (verdict.Unknown open_) are d = tt
  decides_text kept s text calls verdict.Touching are d = tt
