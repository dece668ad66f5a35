-- How a load ends.
use Rattle.std.proofs.Common.{◌≡◌, ◌≤◌, ◌↔◌, ◌&&◌, ◌⊎◌, inl, inr, refl, ℕ, zero, suc, Bool, true, false, List, Option}
use Rattle.std.proofs.Common.{map, arith, not, sym, subst}
use Rattle.std.specs.Prelude.{Result, Ok, Err, OnOk, OnErr, IfErr}
use Rattle.std.proofs.lemmas.Bool.Decides.{nat_tests}
use Rattle.load_tasks.specs.declared.settings.Settings.{Settings}
use Rattle.load_tasks.specs.Streams.{stream_of}
use Rattle.load_tasks.specs.Setting.{is_settings, is_work, is_system}
use Rattle.vac_model.specs.Ranges.{is_block_count}
use Rattle.load_record.specs.declared.journal.CallRecorder.{CallRecorder}
use Rattle.load_record.specs.Order.{Entry, IsMerged, AreOrdered}
use Rattle.load_record.specs.Numbers.{EachHasLines}
use Rattle.load_record.specs.History.{notes_of, kept_by, call_of_entry, calls_text, WroteHistory, WroteHistoryPrefix}
use Rattle.load_record.specs.Legal.{AreLegal, JudgedByPrecedence}
use Rattle.load_record.proofs.Legality.{texts_up_to_precedence}
use Rattle.judge_calls.specs.CallText.{IsTheirHistory}
use Rattle.load_run.specs.declared.load.LoadFault.{LoadFault}
use Rattle.load_run.specs.declared.load.LoadFault.TheVariants as load
use Rattle.load_run.specs.Attempted.{AreStatistics}
use Rattle.load_run.specs.Streams.{LoadedBySeed}
use Rattle.vac_lines.specs.declared.stream_fault.StreamFault.{StreamFault}
use Rattle.vac_lines.specs.declared.stream_fault.StreamFault.TheVariants as stream
use Rattle.std.specs.Io.KnownBytes.{Appends}
use Rattle.vac_lines.specs.Writing.{AppendsPrefix}
use Rattle.cli_common.specs.Ending.{fault_line}
use Rattle.cli_main.specs.Ending.{load_fault_line, CanStopWriting, EndsDone, EndsWithStatus}
use Rattle.cli_options.specs.declared.asked.LoadOutput.{LoadOutput}
use Rattle.load_run.specs.declared.summary.LoadSummary.{LoadSummary}
use Rattle.load_run.specs.Summary.{load_text}
use Rattle.cli_main.specs.Statistics.{summary_text, task_count, WritesProgress, no_line}
use Rattle.cli_main.specs.Load.{EndsLoad, StoppedKept, HasNoted, IsFaultBySeed, ReportsProgress}
use Rattle.cli_main.specs.Load.{ReportsEnd}
use Rattle.cli_main.specs.Load.{LoadWriting}
use Rattle.cli_main.specs.Load.{WroteCalls, WroteCallsInPart, WroteLoad, WroteLoadInPart}
use Rattle.cli_main.proofs.Turning.{each_ordered, each_in_turn}
use Rattle.cli_main.proofs.Recorded.{load_legal}
use Rattle.cli_main.proofs.Lines.{each_has_lines}

pub both_first : (a b : Bool) → (a && b) ≡ true → a ≡ true
both_first true b e = refl
both_first false b e = e

pub both_second : (a b : Bool) → (a && b) ≡ true → b ≡ true
both_second true b e = e
both_second false b e = absurd (let n : false ≡ true = e in cc)

pub not_arguments : load.Memory ≡ load.Arguments → ⊥
not_arguments e = absurd cc

-- a load can end for want of memory
memory_by_seed : (s : Settings) → IsFaultBySeed s load.Memory
memory_by_seed s = inr (stream_of s.seed 0, inl refl)

pub one_of : (status : ℕ) → 1 ≤ status → status ≤ 2 → (status ≡ 2 → ⊥) → status ≡ 1
one_of status low high is_not = omega (arith, low, high, is_not)

-- how a load ends whose settings fit each other
module _ (wrote stopped : LoadWriting) (how : LoadOutput) (s : Settings) (fits : is_settings s ≡ true) where
  -- by a fault
  pub ended_by_fault : (fault : LoadFault) (status : ℕ) (held holds told tells : Option (List ℕ)) →
      (fault ≡ load.Arguments → ⊥) → IsFaultBySeed s fault → 1 ≤ status → status ≤ 2
      → ((status ≡ 2) ↔ (fault ≡ load.Arguments)) → AppendsPrefix held holds (load_fault_line fault) →
      ReportsProgress how.progress s told tells → EndsLoad wrote stopped how status s held holds told tells
  ended_by_fault fault status held holds told tells is_not why low high refused line silent = inl (
    fits,
    inr (
      one_of status low high (λ two. is_not (refused.0 two)),
      inl ((fault, is_not, why, line), silent),
    ),
  )

  -- for want of memory
  pub ended_for_memory : (status : ℕ) (held holds told tells : Option (List ℕ)) → 1 ≤ status → status ≤ 2
      → ((status ≡ 2) ↔ (load.Memory ≡ load.Arguments)) →
      AppendsPrefix held holds (load_fault_line load.Memory) → ReportsProgress how.progress s told tells →
      EndsLoad wrote stopped how status s held holds told tells
  ended_for_memory status held holds told tells low high refused line silent =
      ended_by_fault load.Memory status held holds told tells not_arguments (memory_by_seed s) low high refused line
      silent

  -- after its calls were written or not
  pub ended_kept : (n : LoadSummary) (status : ℕ) (held holds told tells : Option (List ℕ)) →
      AreStatistics s.tries n.report.outcomes n.statistics →
      ReportsEnd how.progress s (summary_text how n) told tells →
      EndsWithStatus status (wrote s n held holds) (stopped s n held holds) →
      EndsLoad wrote stopped how status s held holds told tells
  ended_kept n status held holds told tells fit end (inl done) =
      inl (fits, inl (done.0, record { summary = n; fit = fit; wrote = done.1; lines = end }))
  ended_kept n status held holds told tells fit end (inr k) =
      inl (fits, inr (k.0, inr (record { summary = n; fit = fit; wrote = k.1; lines = end })))

-- nothing was written yet
pub reports_nothing : (progress : Bool) (s : Settings) (told : Option (List ℕ)) → ReportsProgress progress s told told
reports_nothing true s told = no_line
reports_nothing false s told = refl

-- lines of progress were written
pub reports_lines : (progress : Bool) (s : Settings) (told tells : Option (List ℕ)) → not progress ≡ false →
    WritesProgress (task_count s) told tells → ReportsProgress progress s told tells
reports_lines true s told tells is lines = lines
reports_lines false s told tells is lines = absurd (let n : true ≡ false = is in cc)

-- calls were written, in whole or in part, and then the program ended
pub ended_writing : (wrote in_part : LoadWriting) (s : Settings) (n : LoadSummary)
    {T : Type 0} (r : Result T StreamFault) (status : ℕ) (held middle holds : Option (List ℕ)) →
    OnOk r (wrote s n held middle) → OnErr r (in_part s n held middle) → IfErr r CanStopWriting →
    EndsDone r status middle holds →
    EndsWithStatus status (wrote s n held holds) (StoppedKept in_part s n held holds)
ended_writing wrote in_part s n (Ok t) status held middle holds ok err can e =
    inl (e.0, subst (wrote s n held) (sym e.1) ok)
ended_writing wrote in_part s n (Err fault) status held middle holds ok err can e =
    inr (e.0, (middle, err, (fault, can, e.1)))

-- the load was run to its end, and its two lines were written, in whole or in part, or memory was refused for them
pub written_lines : (s : Settings) (n : LoadSummary) (status : ℕ) (held holds : Option (List ℕ)) →
    LoadedBySeed s n.report.outcomes n.report.report → status ≤ 1 →
    (status ≡ 0 → Appends held holds (load_text n.report))
    → (status ≡ 1 → AppendsPrefix held holds (fault_line stream.Memory) ⊎ AppendsPrefix held holds (load_text n.report))
    → EndsWithStatus status (WroteLoad s n held holds) (WroteLoadInPart s n held holds)
written_lines s n zero held holds loaded low done stopped =
    inl (refl, record { loaded = loaded; written = done refl })
written_lines s n (suc zero) held holds loaded low done stopped =
    inr (refl, record { loaded = loaded; written = stopped refl })
written_lines s n (suc (suc k)) held holds loaded low done stopped = absurd (omega (arith, low))

-- the calls of journals that were written in one order
module _ {C : Type 0} (s : Settings) (n : LoadSummary) (opening : CallRecorder C) (clients : List (CallRecorder C))
    (fits : is_settings s ≡ true)
    (has : HasNoted s n (notes_of opening) (map notes_of clients)) where
  in_order : (all : List Entry) → IsMerged (kept_by opening clients) all → AreOrdered (map (λ e. e.note) all)
  in_order all merged = merged.ordered (each_ordered s opening clients has)

  are_legal : (all : List Entry) → IsMerged (kept_by opening clients) all →
      AreLegal s.blocks (map call_of_entry all) has.loaded.last
  are_legal all merged =
      load_legal s (notes_of opening) (map notes_of clients) all has merged (each_in_turn opening clients)
      (in_order all merged)

  lines : EachHasLines (kept_by opening clients)
  lines = each_has_lines s (notes_of opening) (map notes_of clients) fits has

  are_judged : (all : List Entry) → IsMerged (kept_by opening clients) all → IsTheirHistory (map call_of_entry all) →
      JudgedByPrecedence s.blocks (calls_text all) (map call_of_entry all)
  are_judged all merged read =
      texts_up_to_precedence s.blocks (map call_of_entry all) has.loaded.last read (are_legal all merged)

  -- the history was written whole
  pub wrote_calls : (held holds : Option (List ℕ)) → WroteHistory (kept_by opening clients) held holds →
      WroteCalls s n held holds
  wrote_calls held holds wrote = record {
    opening = notes_of opening;
    clients = map notes_of clients;
    noted = has;
    in_turn = each_in_turn opening clients;
    written = wrote;
    in_order = in_order wrote.all wrote.merged;
    legal = are_legal wrote.all wrote.merged;
    read = wrote.read lines;
    judged = are_judged wrote.all wrote.merged (wrote.read lines);
  }

  -- a prefix of it was written
  pub wrote_calls_in_part : (held holds : Option (List ℕ)) → WroteHistoryPrefix (kept_by opening clients) held holds →
      WroteCallsInPart s n held holds
  wrote_calls_in_part held holds wrote = record {
    opening = notes_of opening;
    clients = map notes_of clients;
    noted = has;
    in_turn = each_in_turn opening clients;
    written = wrote;
    in_order = in_order wrote.all wrote.merged;
    legal = are_legal wrote.all wrote.merged;
    read = wrote.read lines;
    judged = are_judged wrote.all wrote.merged (wrote.read lines);
  }

-- there are few clients
pub few_clients : (s : Settings) → is_settings s ≡ true → s.clients ≤ 64
few_clients s e = let w : is_work s ≡ true = both_first (is_work s) (is_system s) e in grind (arith, nat_tests, w)

-- the number of blocks is in its range
pub right_blocks : (s : Settings) → is_settings s ≡ true → is_block_count s.blocks ≡ true
right_blocks s e = grind (arith, nat_tests, e)

-- and is no larger than a system may be
pub few_blocks : (s : Settings) → is_settings s ≡ true → s.blocks ≤ 262144
few_blocks s e = let right = right_blocks s e in grind (arith, nat_tests, right)
