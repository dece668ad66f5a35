-- The words that the code keeps, and the values that writes have covered.
use Rattle.std.specs.Prelude.{ℕ, List, [], ◌∷◌, get_or, slice_set}
use Rattle.judge_opacity.specs.declared.memory.Covered.{Covered}
use Rattle.judge_opacity.specs.Words.{Image}

-- the image with the listed values; all words after the listed ones are 0
abbrev pub image_of : List ℕ → Image
image_of words = λ word. get_or words word 0

-- the words after the listed writes are undone, the latest write first
abbrev pub uncovered : List Covered → List ℕ → List ℕ
uncovered [] words = words
uncovered (covered ∷ more) words = slice_set (uncovered more words) covered.word covered.value
