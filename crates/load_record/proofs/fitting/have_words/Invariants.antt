use Rattle.std.proofs.Common.{◌≡◌, true, take}
use Rattle.std.specs.Prelude.{All}
use Rattle.std.specs.List.{list_all}
use Rattle.load_record.specs.Entries.{FitsAccess, is_at_word}
use Rattle.load_record.proofs.fitting.have_words.Given as goal

-- the accesses so far
abbrev pub invariant-loop-access : goal.invariant-loop-access
invariant-loop-access l = record {
  words : list_all (λ access. is_at_word l.words access) (take l.access-index l.accesses) ≡ true;
  fits : All (λ access. FitsAccess l.words access) (take l.access-index l.accesses);
}
