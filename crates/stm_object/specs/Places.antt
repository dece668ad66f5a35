-- Commit positions of records, and their ranks.
use Rattle.std.specs.Prelude.{ℕ, ◌+◌, ◌*◌, cond, false}
use Rattle.stm_core.specs.Client.{Record}
use Rattle.stm_object.specs.declared.place.CommitPosition.{CommitPosition}

-- the commit position of a record
abbrev pub place_of : Record → CommitPosition
place_of r = record { renewal = r.renewal; version = r.version; wrote = r.writer }

-- the commit position of a reader in this renewal at this version
abbrev pub reader_at : ℕ → ℕ → CommitPosition
reader_at renewal version = record { renewal = renewal; version = version; wrote = false }

-- the rank of a record within its renewal: by version, the writer of a version before its readers
abbrev pub rank_of : CommitPosition → ℕ
rank_of place = 2 * place.version + cond place.wrote 0 1
