-- The kind of word that a lock guards, as far as the address shows it.
use Rattle.std.specs.Prelude.{ℕ, ◌%◌, ◌==◌, nat_lt, if◌then◌else◌}
use Rattle.tx_alloc.specs.declared.place.TheConstants.{BLOCK_WORDS, FIRST_BLOCK, FIRST_HEAD}
use Rattle.vac_manager.specs.declared.sites.WordKind.{WordKind}
use Rattle.vac_manager.specs.declared.sites.WordKind.TheVariants.{Root, Head, Node, Use, Stock}

-- the kind of the word at this offset in a block: one of the first four words, the fifth, or one
-- of the last three
abbrev pub word_kind_at : ℕ → WordKind
word_kind_at place = if nat_lt place 4 then Node else if place == 4 then Use else Stock

-- the kind of the first word that the lock with this number guards
-- Not said: which of the guarded words was in conflict. If there are as many locks as words, a
-- lock guards one word only. With fewer locks, a lock guards several words. If there are 1,048,576
-- locks, these words are 1,048,576 words apart, each at the same offset in its block.
abbrev pub word_kind_of : ℕ → WordKind
word_kind_of lock =
    if nat_lt lock FIRST_HEAD then Root
    else if nat_lt lock FIRST_BLOCK then Head
    else word_kind_at (lock % BLOCK_WORDS)
