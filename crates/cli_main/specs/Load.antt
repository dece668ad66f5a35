-- The output of a load.
use Rattle.std.specs.Prelude.{◌≡◌, ◌≢◌, ◌↔◌, ℕ, ◌⊎◌, Bool, true, false, List, ◌∷◌, map}
use Rattle.std.specs.Prelude.{[], length, Option, Some, None, All, vec_len, Result, IfOk, IfErr}
use Rattle.std.specs.Prelude.{IsErrOf}
use Rattle.std.specs.Io.KnownBytes.{Appends}
use Rattle.load_run.specs.declared.load.LoadReport.{LoadReport}
use Rattle.load_run.specs.declared.load.LoadFault.{LoadFault}
use Rattle.load_run.specs.declared.load.LoadFault.TheVariants as load
use Rattle.rand_pcg.specs.Lcg.{Lcg}
use Rattle.load_tasks.specs.declared.settings.Settings.{Settings}
use Rattle.load_tasks.specs.Setting.{is_settings}
use Rattle.load_tasks.specs.Streams.{gives, stream_of}
use Rattle.stm_core.specs.Client.{Record, Aborted}
use Rattle.vac_manager.specs.declared.note.CompletedCall.{CompletedCall}
use Rattle.vac_manager.specs.Placed.{CommitPosition}
use Rattle.vac_manager.specs.Keeping.{IsNoted}
use Rattle.vac_manager.specs.Tracing.{Trace, trace_of}
use Rattle.load_record.specs.Turns.{EachInTurn}
use Rattle.load_record.specs.Order.{AreOrdered}
use Rattle.load_record.specs.History.{call_of_entry, calls_text, WroteHistory, WroteHistoryPrefix}
use Rattle.load_record.specs.Legal.{AreLegal, JudgedByPrecedence}
use Rattle.judge_calls.specs.CallText.{IsTheirHistory}
use Rattle.load_record.specs.Pages.{Page, calls_on}
use Rattle.load_record.specs.Text.{WroteAttempts, WroteAttemptsPrefix, AreTooLong}
use Rattle.load_record.specs.Loads.{MadeHistory, MadeHistoryFrom}
use Rattle.load_record.specs.InPlace.{AbortedReadAtTheirPlaces}
use Rattle.load_record.specs.InTurn.{MadeInTurn, LoadJudgedByPrecedence}
use Rattle.load_record.specs.Entries.{attempt_of}
use Rattle.judge_opacity.specs.Laws.{EachIsLegal}
use Rattle.load_run.specs.Lists.{Paired}
use Rattle.load_run.specs.declared.statistics.AttemptStatistics.{AttemptStatistics}
use Rattle.load_run.specs.declared.slots.Recorders.{Recorders}
use Rattle.load_run.specs.Keeping.{RecorderContents}
use Rattle.load_run.specs.Made.{AreMade, AreLeft}
use Rattle.load_run.specs.Several.{sum_of}
use Rattle.load_run.specs.Attempted.{AreStatistics}
use Rattle.load_run.specs.declared.load.Load.{Load}
use Rattle.load_run.specs.Load.{IsLoadFault, HaveRead, LoadedKept, StopsLoad, is_load}
use Rattle.load_run.specs.Slots.{kept_at}
use Rattle.load_run.specs.Streams.{LoadedBySeed, KeptBySeed}
use Rattle.vac_lines.specs.Writing.{AppendsPrefix}
use Rattle.vac_lines.specs.declared.stream_fault.StreamFault.TheVariants.{Memory}
use Rattle.cli_options.specs.declared.asked.LoadOutput.{LoadOutput}
use Rattle.load_run.specs.declared.summary.LoadSummary.{LoadSummary}
use Rattle.load_run.specs.Summary.{load_text}
use Rattle.cli_main.specs.Statistics.{summary_text, task_count, WritesProgress}
use Rattle.cli_main.specs.Ending.{EndsWithStatus, NamedAfterWriting, load_fault_line}
use Rattle.cli_common.specs.Ending.{fault_line}
use Rattle.cli_main.specs.Ending.{long_attempt_line}

-- the load of these settings ran to its end with this summary, and exactly its two lines were
-- written
pub record WroteLoad (s : Settings) (n : LoadSummary) (held holds : Option (List ℕ)) : Type 0 where
  pub loaded : LoadedBySeed s n.report.outcomes n.report.report
  pub written : Appends held holds (load_text n.report)

-- the load ran to its end, and a prefix of its two lines was written, or of the line that names
-- refused memory
pub record WroteLoadInPart (s : Settings) (n : LoadSummary) (held holds : Option (List ℕ))
    : Type 0 where
  pub loaded : LoadedBySeed s n.report.outcomes n.report.report
  pub written : AppendsPrefix held holds (fault_line Memory)
      ⊎ AppendsPrefix held holds (load_text n.report)

-- the fault is the reason why the load of a seed did not run to its end; the setup phase of such a
-- load draws from stream 0
abbrev pub IsFaultBySeed : Settings → LoadFault → Type 0
IsFaultBySeed s fault = IsLoadFault gives s (stream_of s.seed 0) fault

-- this load was run, and draws from generators: the result has the recorded calls and the attempt
-- statistics, or the reason why the load did not run to its end
pub record HasRun {G K : Type 0} (notes : K → RecorderContents) (l : Load Lcg G K)
    (result : Result (LoadReport × AttemptStatistics × Recorders K) LoadFault) : Type 0 where
  pub kept : IfOk result (λ r. LoadedKept gives l.plan.settings (λ slot. slot.draws) l.draws
      l.slots.items r.0.outcomes r.0.report r.1.attempts (notes l.keep) (notes r.2.opening)
      (kept_at notes l.slots.items) (map notes r.2.clients.items))
  pub statistics : IfOk result (λ r. AreStatistics l.plan.settings.tries r.0.outcomes r.1)
  pub refused : IfErr result (λ fault. StopsLoad gives l.plan.settings l.draws fault)

-- a load of these settings was run with these recorders, or refused because the settings and the
-- recorders do not fit: the result has the recorded calls and the attempt statistics, or the reason
-- why the load did not run to its end
pub record RunsKept {K : Type 0} (notes : K → RecorderContents) (s : Settings)
    (recorders : Recorders K)
    (result : Result (LoadReport × AttemptStatistics × Recorders K) LoadFault) : Type 0 where
  pub arguments : IsErrOf result load.Arguments
      ↔ (is_load s (vec_len recorders.clients) ≡ false)
  pub kept : IfOk result (λ r. KeptBySeed notes s r.0.outcomes r.0.report r.1.attempts
      recorders r.2)
  pub statistics : IfOk result (λ r. AreStatistics s.tries r.0.outcomes r.1)
  pub refused : IfErr result (λ fault. IsFaultBySeed s fault)

-- a load of these settings was stopped by a fault other than unfitting arguments, and a prefix of
-- the line that names the fault was written
-- Not said: that memory was refused if `fault memory` or `fault opening` is named, or a thread if
-- `fault spawn` is.
-- Not said: which of the three faults. The clock of the program's loads has time for every setup
-- phase, so the contract allows each of the three for any settings in range.
abbrev pub NamedFault : Settings → Option (List ℕ) → Option (List ℕ) → Type 0
NamedFault s held holds = (fault : LoadFault) × (fault ≢ load.Arguments)
    × IsFaultBySeed s fault × AppendsPrefix held holds (load_fault_line fault)

-- what a load of these settings writes to standard error before its end: prefixes of lines of
-- progress if it reports its progress, and nothing otherwise
abbrev pub ReportsProgress : Bool → Settings → Option (List ℕ) → Option (List ℕ) → Type 0
ReportsProgress true s told tells = WritesProgress (task_count s) told tells
ReportsProgress false s told tells = tells ≡ told

-- such lines and, behind them, a prefix of this text were written to standard error, and nothing
-- else
abbrev pub ReportsEnd : Bool → Settings → List ℕ → Option (List ℕ) → Option (List ℕ) → Type 0
ReportsEnd progress s text told tells =
    (middle : Option (List ℕ)) × ReportsProgress progress s told middle
    × AppendsPrefix middle tells text

-- a load of these settings ran to its end with a summary for which `writing` holds. Its attempt
-- statistics fit the counts of its tasks, and its progress, if it reports that, and a prefix of the
-- lines about its end were written to standard error
-- Not said: that the lines are written at all. Tests look at that.
-- Not said: that the attempts and conflicts are those that were made, and of which kind; that the
-- nanoseconds are those that the clients took.
pub record CompletedLoad (how : LoadOutput) (s : Settings) (told tells : Option (List ℕ))
    (writing : LoadSummary → Type 0) : Type 0 where
  pub summary : LoadSummary
  pub fit : AreStatistics s.tries summary.report.outcomes summary.statistics
  pub wrote : writing summary
  pub lines : ReportsEnd how.progress s (summary_text how summary) told tells

-- what a load of these settings and with this summary wrote to the output
abbrev pub LoadWriting : Type 1
LoadWriting = Settings → LoadSummary → Option (List ℕ) → Option (List ℕ) → Type 0

-- a load with fitting settings is run: its result is written, or a fault ends it and is named, or
-- `stopped` describes its end; if the settings do not fit each other, the command line is refused.
-- If a fault keeps the load from running to its end, only its progress is written to standard
-- error, if it reports that. If it ran to its end, the lines about its end may stand there, even if
-- its result was not written
-- Not said: what is written to standard error about a refused command line.
abbrev pub EndsLoad : (wrote stopped : LoadWriting) → LoadOutput → ℕ → Settings
    → Option (List ℕ) → Option (List ℕ) → Option (List ℕ) → Option (List ℕ) → Type 0
EndsLoad wrote stopped how status s held holds told tells =
    ((is_settings s ≡ true)
    × EndsWithStatus status
    (CompletedLoad how s told tells (λ n. wrote s n held holds))
    ((NamedFault s held holds × ReportsProgress how.progress s told tells)
    ⊎ CompletedLoad how s told tells (λ n. stopped s n held holds)))
    ⊎ ((is_settings s ≡ false) × (status ≡ 2)
    × AppendsPrefix held holds (load_fault_line load.Arguments))

-- the recorded calls of a load were written in part, followed by a prefix of the line of a fault
abbrev pub StoppedKept : (in_part : LoadWriting) → LoadWriting
StoppedKept in_part s n held holds = NamedAfterWriting (in_part s n held) holds

-- the load of these settings ran to its end with this summary, and the notes are its completed
-- calls: those of the setup phase and those of each client, one for each record, in the order of
-- the records. The numbers of attempts of the clients' shares add up to that of the statistics
-- Not said: that a client made as many attempts as its share says.
pub record HasNoted (s : Settings) (n : LoadSummary) (opening : List CompletedCall)
    (clients : List (List CompletedCall)) : Type 0
  where
    pub loaded : LoadedBySeed s n.report.outcomes n.report.report
    pub attempts_add_up : n.statistics.attempts ≡ sum_of (λ x. x.attempts) loaded.shares
    pub of_opening : Paired IsNoted opening loaded.opened
    pub of_clients : Paired (λ notes x. Paired IsNoted notes x.records) clients loaded.shares

-- the listed calls; none if there is no list
abbrev pub calls_in : Option (List CompletedCall) → List CompletedCall
calls_in None = []
calls_in (Some calls) = calls

-- the calls in a recorder; none if it records nothing
abbrev pub calls_kept : RecorderContents → List CompletedCall
calls_kept kept = calls_in kept.calls

-- a recorder has no call yet, and no trace if it traces attempts
pub record IsEmpty (kept : RecorderContents) : Type 0 where
  pub calls : kept.calls ≡ Some []
  pub traces : (all : List Trace) → kept.traces ≡ Some all → all ≡ []

-- a client made this number of attempts, in turn by their positions and by their times: those of
-- these records and calls, and these aborted ones. These are the traces of them that stayed in its
-- recorder: the aborted ones, each once, and some of the committed ones. All words that an aborted
-- attempt has read are in the image of its read version in this history, applied to this image
pub record AreAllTraces (image : List ℕ) (history : List Record) (attempts : ℕ)
    (records : List Record) (aborts : List Aborted) (calls : List CompletedCall) (all : List Trace)
    : Type 0
  where
    pub first : CommitPosition
    pub last : CommitPosition
    pub from : ℕ
    pub to : ℕ
    pub made : List Trace
    pub number : length made ≡ attempts
    pub are_made : AreMade first last from to calls records aborts made
    pub are_left : AreLeft made all
    pub read : HaveRead image history aborts

-- a recorder, if its traces are known, has all of this number of attempts of its client
abbrev pub HasAllAttempts : List ℕ → List Record → ℕ → List Record → List Aborted
    → RecorderContents → Type 0
HasAllAttempts image history attempts records aborts kept = (all : List Trace) →
    kept.traces ≡ Some all →
    AreAllTraces image history attempts records aborts (calls_kept kept) all

-- the load ran to its end with this summary, and the recorders have its completed calls, and all
-- attempts of the setup phase and of each client
pub record AreNoted {K : Type 0} (notes : K → RecorderContents) (s : Settings) (n : LoadSummary)
    (k : Recorders K) : Type 0
  where
    pub calls : HasNoted s n (calls_kept (notes k.opening))
        (map (λ x. calls_kept (notes x)) k.clients.items)
    pub setup_attempts : ℕ
    pub setup_aborts : List Aborted
    pub opening : HasAllAttempts calls.loaded.image calls.loaded.history setup_attempts
        calls.loaded.opened setup_aborts (notes k.opening)
    pub clients : Paired (λ x share. HasAllAttempts calls.loaded.image calls.loaded.history
        share.attempts share.records share.aborts (notes x)) k.clients.items calls.loaded.shares

-- the page lists this many attempts, those of these records and these aborted ones, each once, and
-- no other. They have an order in which those of the calls are in the order of the calls, and the
-- aborted ones in the order in which the page lists them. In it none begins before an earlier one
-- ended, by their stamps, and none is before an earlier one, by their commit positions. All words
-- that an aborted attempt has read are in the image of its read version in this history, applied to
-- this image
-- Not said: that the client made its attempts in this order; anything of the writes of an aborted
-- attempt.
pub record IsWholePage (image : List ℕ) (history : List Record) (attempts : ℕ)
    (records : List Record) (aborts : List Aborted) (page : Page) : Type 0 where
  pub in_turn : MadeInTurn page
  pub number : length in_turn.attempts ≡ attempts
  pub first : CommitPosition
  pub last : CommitPosition
  pub from : ℕ
  pub to : ℕ
  pub made : AreMade first last from to page.calls records aborts
      (map trace_of in_turn.attempts)
  pub read : HaveRead image history aborts

-- the load ran to its end, and exactly the history of its completed calls was written: all calls
-- in the order of their records, and the readers of one version in the order of their begins. In
-- this order the calls are legal and reach the state that the load reports. The lines are read as
-- these calls, and the judge calls the history legal if and only if no call that ended before
-- another began comes after that other call
-- Not said: that the order keeps real time. The clock readings of two clients do not show which of
-- them read first.
-- Not said: that a stamp is a reading of the clock.
-- Not said: that no call was left out because a call recorder had no room for it. Of the call
-- recorders that a load returns, only the recorded calls are known.
pub record WroteCalls (s : Settings) (n : LoadSummary) (held holds : Option (List ℕ))
    : Type 0 where
  pub opening : List CompletedCall
  pub clients : List (List CompletedCall)
  pub noted : HasNoted s n opening clients
  pub in_turn : EachInTurn (opening ∷ clients)
  pub written : WroteHistory (opening ∷ clients) held holds
  pub in_order : AreOrdered (map (λ e. e.note) written.all)
  pub legal : AreLegal s.blocks (map call_of_entry written.all) noted.loaded.last
  pub read : IsTheirHistory (map call_of_entry written.all)
  pub judged : JudgedByPrecedence s.blocks (calls_text written.all) (map call_of_entry written.all)

-- the load ran to its end, and a prefix of such a history was written
pub record WroteCallsInPart (s : Settings) (n : LoadSummary) (held holds : Option (List ℕ))
    : Type 0 where
  pub opening : List CompletedCall
  pub clients : List (List CompletedCall)
  pub noted : HasNoted s n opening clients
  pub in_turn : EachInTurn (opening ∷ clients)
  pub written : WroteHistoryPrefix (opening ∷ clients) held holds
  pub in_order : AreOrdered (map (λ e. e.note) written.all)
  pub legal : AreLegal s.blocks (map call_of_entry written.all) noted.loaded.last
  pub read : IsTheirHistory (map call_of_entry written.all)
  pub judged : JudgedByPrecedence s.blocks (calls_text written.all) (map call_of_entry written.all)

-- the load ran to its end, and exactly the attempts of its calls were written: for each completed
-- call its attempt, once, with the commit position, the reads and the writes of the call's record
-- (`IsNoted` of vac_manager); aborted attempts; and attempts that write the initial words. All are
-- sorted by commit position. The committed attempts made the history that the calls made, which is
-- serial from the initial words, and the lines are read as these attempts. Each attempt listed as
-- aborted reads the words of that history at the version at which it is listed, and every listed
-- attempt is legal. So the judge calls the text opaque if and only if each attempt that had ended
-- before another began comes before that other attempt.
-- The attempts that are listed of a client are those of the calls of its share of the load, and the
-- aborted ones of its share; they have an order that is in turn. The words that an aborted one read
-- are those of a balanced heap of the system's blocks. The listed attempts of all clients together
-- are as many as the load's statistics count, the setup phase left out
-- Not said: that a client made its attempts in this order.
-- Not said: that an attempt listed as aborted was made, at that version and with no other reads, by
-- that client; its writes. No clause ties the aborted attempts of a share to a client of this
-- load's manager; `count_loop` says it of its client.
-- Not said: that each aborted attempt of the load is listed. A text and statistics that leave out,
-- or make up, the same attempts would meet this, as long as the statistics fit the counts of the
-- tasks.
-- Not said: how many attempts the setup phase makes.
-- Not said: that a stamp is a reading of the clock, and that the stamps of different clients keep
-- the order. If all stamps are 0, nothing is said about time.
pub record WroteLoadAttempts (s : Settings) (n : LoadSummary) (held holds : Option (List ℕ))
    : Type 0 where
  pub opening : Page
  pub clients : List Page
  pub noted : HasNoted s n opening.calls (map (λ page. page.calls) clients)
  pub written : WroteAttempts s.blocks (opening ∷ clients) held holds
  pub made : MadeHistory s.blocks (calls_on (opening ∷ clients))
  -- it is the history of the load
  pub same_image : made.image ≡ noted.loaded.image
  pub same_history : made.history ≡ noted.loaded.history
  pub history : MadeHistoryFrom made.image made.history written.all
  pub read : AbortedReadAtTheirPlaces made.image made.history (opening ∷ clients)
  pub legal : EachIsLegal (map attempt_of written.all)
  pub judged : LoadJudgedByPrecedence s.blocks written.all
  pub setup_attempts : ℕ
  pub setup_aborts : List Aborted
  pub of_opening : IsWholePage noted.loaded.image noted.loaded.history setup_attempts
      noted.loaded.opened setup_aborts opening
  pub of_clients : Paired (λ page x. IsWholePage noted.loaded.image noted.loaded.history x.attempts
      x.records x.aborts page) clients noted.loaded.shares

-- the load ran to its end, and nothing or a prefix of a text of its attempts was written. Each
-- attempt listed as aborted reads the words of a history that the calls made, and the attempts of a
-- page are those of the share of its client
-- Not said: that the history of `made` is that of `noted`; that the lines are legal; what is not
-- said of `WroteLoadAttempts`.
pub record WroteLoadAttemptsInPart (s : Settings) (n : LoadSummary) (held holds : Option (List ℕ))
    : Type 0 where
  pub opening : Page
  pub clients : List Page
  pub noted : HasNoted s n opening.calls (map (λ page. page.calls) clients)
  pub written : WroteAttemptsPrefix s.blocks (opening ∷ clients) held holds
  pub made : MadeHistory s.blocks (calls_on (opening ∷ clients))
  pub read : AbortedReadAtTheirPlaces made.image made.history (opening ∷ clients)
  pub setup_attempts : ℕ
  pub setup_aborts : List Aborted
  pub of_opening : IsWholePage noted.loaded.image noted.loaded.history setup_attempts
      noted.loaded.opened setup_aborts opening
  pub of_clients : Paired (λ page x. IsWholePage noted.loaded.image noted.loaded.history x.attempts
      x.records x.aborts page) clients noted.loaded.shares

-- the load ran to its end, and no attempt was written, because one has more than 2,164,800 reads
-- and writes, or one that is at no word of the heap; a prefix of the line of this fault was written
pub record HasLongAttempt (s : Settings) (n : LoadSummary) (held holds : Option (List ℕ))
    : Type 0 where
  pub opening : Page
  pub clients : List Page
  pub noted : HasNoted s n opening.calls (map (λ page. page.calls) clients)
  pub long : AreTooLong s.blocks (opening ∷ clients)
  pub named : AppendsPrefix held holds long_attempt_line

-- the attempts of a load were not all written: writing them was stopped by a fault, which is named,
-- or none was written because an attempt is too long
abbrev pub StoppedAttempts : LoadWriting
StoppedAttempts s n held holds =
    StoppedKept WroteLoadAttemptsInPart s n held holds ⊎ HasLongAttempt s n held holds
