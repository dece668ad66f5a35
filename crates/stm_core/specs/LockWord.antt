-- Lock words as numbers.
use Rattle.std.specs.Prelude.{ℕ, ◌+◌, ◌*◌}

-- the word of a free lock of a version
abbrev pub free_word : ℕ → ℕ
free_word version = 2 * version

-- the word of a held lock, with the version from before
abbrev pub held_word : ℕ → ℕ
held_word version = 2 * version + 1
