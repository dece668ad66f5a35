-- The lines of a history without the order that a level does not keep.
use Rattle.std.specs.Prelude.{⊤, ℕ, Option, Some, None, List, [], ◌∷◌}
use Rattle.judge_object.specs.declared.level.Level.{Level}
use Rattle.judge_object.specs.declared.level.Level.TheVariants as level
use Rattle.judge_object.specs.declared.line.Line.{Line}
use Rattle.judge_object.specs.Call.{Call}
use Rattle.judge_object.specs.Relaxed.{IsRelaxed, PendingAreLast}
use Rattle.judge_search.specs.Walk.{InTurn}
use Rattle.judge_text.specs.Turns.{IsFirstOutOfTurn}

module _ {O : Type 0} where
  -- each line is one of these without the order that the level does not keep, in their order
  abbrev pub AreRelaxed : Level → List (Line O) → List (Line O) → Type 0
  AreRelaxed kept [] [] = ⊤
  AreRelaxed kept (line ∷ lines) (relaxed ∷ others) =
      IsRelaxed kept line relaxed × AreRelaxed kept lines others
  AreRelaxed kept _ _ = ⊥

  -- at a level below linearizability, each client's calls are in turn, and its pending call is its
  -- last one
  abbrev pub MayRelax : Level → List (Call O) → Type 0
  MayRelax level.Linearizable calls = ⊤
  MayRelax level.Sequential calls = InTurn calls × PendingAreLast calls
  MayRelax level.Serializable calls = InTurn calls × PendingAreLast calls

  -- this call is the first that is out of turn; or none is, at a level below linearizability
  abbrev pub IsTurnAt : Level → List (Call O) → Option ℕ → Type 0
  IsTurnAt kept calls (Some place) = IsFirstOutOfTurn calls place
  IsTurnAt kept calls None = MayRelax kept calls
