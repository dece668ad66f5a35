use Rattle.std.proofs.Common.{◌≡◌, ◌≤◌, ℕ, None, List, [], ◌∷◌, length, refl, arith, Bor}
use Rattle.vac_lines.specs.Lines.{texts}
use Rattle.judge_kv.specs.Words.{longer_does}
use Rattle.judge_kv.proofs.words.read_longer.Goals as goal

-- four values or more ask nothing
too_many : (name old new : List ℕ) (rest : List (Bor (List ℕ))) → 2 ≤ length rest →
    longer_does name old new (texts rest) ≡ None
too_many name old new [] l = absurd (omega arith)
too_many name old new (x ∷ []) l = absurd (omega arith)
too_many name old new (x ∷ y ∷ rest) l = refl

pub returns-in_default : goal.returns-in_default
returns-in_default c =
    let many = c.in_default.len_at_least in
    let l : 2 ≤ length c.args.rest.now = omega arith in
    too_many c.args.name.now c.args.old.now c.args.new.now c.args.rest.now l
