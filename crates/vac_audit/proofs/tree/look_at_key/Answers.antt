use Rattle.std.proofs.Common.{arith, inl, inr, refl}
use Rattle.std.specs.Prelude.{slice_index}
use Rattle.vac_audit.proofs.Standing.{key_fails, key_holds}
use Rattle.vac_audit.proofs.tree.look_at_key.Goals as goal
use Rattle.vac_audit.proofs.tree.look_at_key.Goals.{then-key-above-via-then-key-above}
use Rattle.vac_audit.proofs.tree.look_at_key.Goals.{then-key-above-via-else-key-above+then-key-gt-LAST_ID}

pub returns-then-key-above-clause-looked : goal.returns-then-key-above-clause-looked
returns-then-key-above-clause-looked c = (
  key_fails (slice_index c.args.words.now) c.args.node c.args.above (elim c.then-key-above.branch [
    | then-key-above-via-then-key-above w ↦ inl (omega arith)
    | then-key-above-via-else-key-above+then-key-gt-LAST_ID w ↦ inr (omega arith)
  ]),
  refl,
)

pub returns-clause-looked : goal.returns-clause-looked
returns-clause-looked c = (
  key_holds (slice_index c.args.words.now) c.args.node c.args.above (omega arith)
      (omega arith),
  omega arith,
)
