-- The order in which attempts are written.
use Rattle.std.specs.Prelude.{List}
use Rattle.std.specs.Ordering.{nat_cmp, ordering_then}
use Rattle.std.specs.List.Sorted.{IsSorted}
use Rattle.std.specs.declared.cmp.Ordering.{Ordering}
use Rattle.stm_object.specs.Places.{rank_of}
use Rattle.vac_manager.specs.declared.note.TracedAttempt.{TracedAttempt}
use Rattle.load_record.specs.Lines.{AttemptEntry}

-- the order of two attempts: by renewal, then by version with the writer of a version before its
-- readers, then by begin, then by end
abbrev pub compare : TracedAttempt → TracedAttempt → Ordering
compare a b =
    ordering_then (ordering_then (ordering_then (nat_cmp a.place.renewal b.place.renewal)
    (nat_cmp (rank_of a.place) (rank_of b.place))) (nat_cmp a.begin b.begin)) (nat_cmp a.end b.end)

-- the entries are sorted by `compare`
abbrev pub EntriesAreOrdered : List AttemptEntry → Type 0
EntriesAreOrdered entries = IsSorted (λ a b. compare a.attempt b.attempt) entries
