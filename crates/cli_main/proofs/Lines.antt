-- The tasks of a load's calls have lines that can be read.
use Rattle.std.proofs.Common.{◌≡◌, ◌∙◌, sym, subst, true, zero, suc, ◌*◌, List, [], ◌∷◌, ◌++◌}
use Rattle.std.specs.List.{All}
use Rattle.std.proofs.lemmas.List.Elements.{All-nil, All-cons, All-head, All-tail}
use Rattle.rand_pcg.specs.Lcg.{Lcg}
use Rattle.stm_core.specs.Client.{Record}
use Rattle.stm_core.specs.History.{Sub, done, keep, skip}
use Rattle.vac_model.specs.declared.commands.Command.{Command}
use Rattle.vac_model.specs.declared.tasks.Task.{Task}
use Rattle.vac_model.specs.declared.tasks.Task.TheVariants as task
use Rattle.vac_model.proofs.Codes.{code_determines}
use Rattle.load_tasks.specs.declared.settings.Settings.{Settings}
use Rattle.load_tasks.specs.Setting.{is_settings}
use Rattle.load_tasks.specs.Streams.{gives}
use Rattle.vac_lines.proofs.Lengths.{task_fits}
use Rattle.vac_manager.specs.declared.note.CompletedCall.{CompletedCall}
use Rattle.vac_manager.specs.Keeping.{IsNoted}
use Rattle.load_tasks.specs.Laws.{IsReadBack, AreReadBack}
use Rattle.load_tasks.proofs.ReadBack.{all_read}
use Rattle.load_record.specs.Numbers.{HasLine, EachHasLines}
use Rattle.load_record.proofs.Written.{tasks_read}
use Rattle.load_run.specs.Lists.{Paired, none, both}
use Rattle.load_run.specs.Looping.{AreOfTasks}
use Rattle.load_run.specs.Opening.{as_tasks}
use Rattle.load_run.specs.Load.{Share, HasShare}
use Rattle.load_run.specs.declared.summary.LoadSummary.{LoadSummary}
use Rattle.cli_main.specs.Load.{HasNoted}

-- a call of this task has its line
has_line : (n : CompletedCall) (t : Task) → n.task ≡ t → IsReadBack t → HasLine n
has_line n t same h =
    let own = subst IsReadBack (sym same) h in
    record { task = own.range; line = own.fits }

-- so have the calls of the records of such tasks
have_lines : (notes : List CompletedCall) (records : List Record) (tasks : List Task) → Paired IsNoted notes records →
    AreOfTasks tasks records → All IsReadBack tasks → All HasLine notes
have_lines [] [] tasks none are read = All-nil HasLine
have_lines (n ∷ notes) (r ∷ records) (t ∷ tasks) (both h hs) are read =
    let same = (code_determines n.task t n.reply are.0.0 (sym h.tag ∙ are.0.1)).0 in
    All-cons HasLine n notes (has_line n t same (All-head IsReadBack t tasks read))
    (have_lines notes records tasks hs are.1 (All-tail IsReadBack t tasks read))
have_lines (n ∷ notes) (r ∷ records) [] hs are read = absurd are
have_lines [] (r ∷ records) tasks hs are read = elim hs [ ]
have_lines (n ∷ notes) [] tasks hs are read = elim hs [ ]

-- what holds of each task holds of each of a part of them
part_read : {part tasks : List Task} → Sub part tasks → All IsReadBack tasks → All IsReadBack part
part_read done h = All-nil IsReadBack
part_read (keep t {xs = part} {ys = tasks} s) h =
    All-cons IsReadBack t part (All-head IsReadBack t tasks h) (part_read s (All-tail IsReadBack t tasks h))
part_read (skip t {ys = tasks} s) h = part_read s (All-tail IsReadBack t tasks h)

as_tasks_read : (commands : List Command) → All (λ c. IsReadBack (task.One c)) commands →
    All IsReadBack (as_tasks commands)
as_tasks_read [] h = All-nil IsReadBack
as_tasks_read (c ∷ commands) h =
    All-cons IsReadBack (task.One c) (as_tasks commands) (All-head (λ c. IsReadBack (task.One c)) c commands h)
    (as_tasks_read commands (All-tail (λ c. IsReadBack (task.One c)) c commands h))

module _ (s : Settings) (drawn : AreReadBack s) where
  share_lines : (notes : List CompletedCall) (p : Lcg) (x : Share Lcg) → Paired IsNoted notes x.records →
      HasShare gives s (s.rounds * s.tasks) p x → All HasLine notes
  share_lines notes p x h are =
      have_lines notes x.records are.answered h are.are_of (part_read are.among
      (drawn.of_client (s.rounds * s.tasks) (are.drawn.words ++ []) [] are.tasks (are.drawn.reads [])))

  clients_lines : (clients : List (List CompletedCall)) (shares : List (Share Lcg)) (pairs : List Lcg) →
      Paired (λ notes x. Paired IsNoted notes x.records) clients shares →
      Paired (λ p x. HasShare gives s (s.rounds * s.tasks) p x) pairs shares → EachHasLines clients
  clients_lines [] shares pairs hs gs place = All-nil HasLine
  clients_lines (notes ∷ clients) (x ∷ shares) (p ∷ pairs) (both h hs) (both g gs) zero = share_lines notes p x h g
  clients_lines (notes ∷ clients) (x ∷ shares) (p ∷ pairs) (both h hs) (both g gs) (suc place) =
      clients_lines clients shares pairs hs gs place
  clients_lines (notes ∷ clients) (x ∷ shares) [] hs gs place = elim gs [ ]
  clients_lines (notes ∷ clients) [] pairs hs gs place = elim hs [ ]

pub each_has_lines : {n : LoadSummary} (s : Settings) (opening : List CompletedCall)
    (clients : List (List CompletedCall)) →
    is_settings s ≡ true →
    HasNoted s n opening clients → EachHasLines (opening ∷ clients)
each_has_lines s opening clients fits h = go
  where
    drawn : AreReadBack s
    drawn = all_read tasks_read task_fits s fits

    go : EachHasLines (opening ∷ clients)
    go zero = have_lines opening h.loaded.opened (as_tasks h.loaded.commands) h.of_opening h.loaded.opened_are
        (as_tasks_read h.loaded.commands (drawn.of_opening (h.loaded.opening_is.words ++ []) [] h.loaded.commands
        (h.loaded.opening_is.reads [])))
    go (suc place) = clients_lines s drawn clients h.loaded.shares _ h.of_clients h.loaded.each place
