use Rattle.std.proofs.Common.{◌≡◌, ◌<◌, ℕ, None, List, [], ◌∷◌, length, refl, arith, Bor}
use Rattle.vac_lines.specs.Lines.{texts}
use Rattle.judge_kv.specs.Words.{words_operation}
use Rattle.judge_kv.proofs.words.CellTextObject.read_operation.Goals as goal

-- a name without a key is no operation
too_few : (words : List (Bor (List ℕ))) → length words < 2 → words_operation (texts words) ≡ None
too_few [] l = refl
too_few (x ∷ []) l = refl
too_few (x ∷ y ∷ rest) l = absurd (omega arith)

pub returns-in_default : goal.returns-in_default
returns-in_default c =
    let few = c.in_default.len_below in
    let l : length c.args.words.now < 2 = omega arith in
    too_few c.args.words.now l
