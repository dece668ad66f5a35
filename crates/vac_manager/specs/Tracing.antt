-- Traces of a call's attempts.
use Rattle.std.specs.Prelude.{◌≡◌, List, [], ◌∷◌, ◌++◌, Option, Some}
pub use Rattle.stm_object.specs.Tracing.{Trace, AreMadeInTurn, HasNoAccess, AppendsTrace}
pub use Rattle.stm_object.specs.Tracing.{HasTracedCommit, HasTracedAbort, IsReaderAt}
pub use Rattle.stm_object.specs.Tracing.{IsTraceOf, IsTraceOfAborted, IsOfAdded, AreAborted}
pub use Rattle.stm_object.specs.Tracing.{AreOfEnd, HasTraced}
use Rattle.vac_manager.specs.declared.note.TracedAttempt.{TracedAttempt}

-- the trace of a noted attempt
abbrev pub trace_of : TracedAttempt → Trace
trace_of a = record {
  commits = a.commits;
  place = a.place;
  accesses = a.accesses.items;
  begin = a.begin;
  end = a.end;
}

-- the trace is the last one of the traced attempts
abbrev pub IsLastTraced : Option (List Trace) → Trace → Type 0
IsLastTraced traced t = (earlier : List Trace) × (traced ≡ Some (earlier ++ (t ∷ [])))
