-- The calls of a load that were kept.
use Rattle.std.proofs.Common.{◌≡◌, ◌∙◌, refl, sym, ap, subst, List, [], ◌∷◌, ◌++◌, Some, map, length, suc, ℕ}
use Rattle.std.specs.List.{All}
use Rattle.std.proofs.lemmas.List.{length-map}
use Rattle.std.proofs.lemmas.List.Elements.{All-head, All-tail}
use Rattle.tx_memory.specs.Image.{In}
use Rattle.stm_core.specs.Client.{Record, Aborted}
use Rattle.load_tasks.specs.declared.settings.Settings.{Settings}
use Rattle.vac_manager.specs.declared.note.CompletedCall.{CompletedCall}
use Rattle.vac_manager.specs.Keeping.{notes_behind, IsNoted}
use Rattle.vac_manager.specs.Tracing.{Trace}
use Rattle.load_run.specs.declared.slots.Recorders.{Recorders}
use Rattle.load_run.specs.declared.load.LoadReport.{LoadReport}
use Rattle.load_run.specs.Lists.{Paired, none, both}
use Rattle.load_run.specs.Keeping.{RecorderContents, AreKept}
use Rattle.load_run.specs.Made.{AreMade, AreLeft}
use Rattle.load_run.specs.Several.{AllKept, one_kept}
use Rattle.load_run.specs.Load.{HaveRead}
use Rattle.load_run.specs.Streams.{KeptBySeed}
use Rattle.load_run.specs.declared.summary.LoadSummary.{LoadSummary}
use Rattle.cli_main.specs.Load.{calls_in, calls_kept, IsEmpty, HasAllAttempts, AreNoted}

-- the contents of recorders
module _ {X : Type 0} (notes : X → RecorderContents) where
  -- the calls in a recorder that was empty are notes of exactly these records
  its_calls : (attempts : ℕ) (records : List Record) (aborts : List Aborted) (before after : X) →
      IsEmpty (notes before) → (k : AreKept attempts records aborts (notes before) (notes after)) →
      calls_kept (notes after) ≡ k.between.notes
  its_calls attempts records aborts before after empty k =
      let all : (notes after).calls ≡ Some k.between.notes = k.between.kept
      ∙ ap (λ x. notes_behind x k.between.notes) empty.calls in
      ap calls_in all

  are_noted : (attempts : ℕ) (records : List Record) (aborts : List Aborted) (before after : X) →
      IsEmpty (notes before) → AreKept attempts records aborts (notes before) (notes after) →
      Paired IsNoted (calls_kept (notes after)) records
  are_noted attempts records aborts before after empty k = subst (λ l. Paired IsNoted l records)
      (sym (its_calls attempts records aborts before after empty k)) k.between.are_of

  -- the traces in such a recorder are those of all attempts
  are_traced : (image : List ℕ) (history : List Record) (attempts : ℕ) (records : List Record) (aborts : List Aborted)
      (before after : X) → IsEmpty (notes before) → HaveRead image history aborts →
      AreKept attempts records aborts (notes before) (notes after) →
      HasAllAttempts image history attempts records aborts (notes after)
  are_traced image history attempts records aborts before after empty read k = λ all is.
      let o = k.between.traced all is in
      let same : all ≡ o.left = o.all_are ∙ ap (λ (l : List Trace). l ++ o.left) (empty.traces o.earlier o.before_is) in
      record {
        first = k.first;
        last = k.last;
        from = (notes before).latest;
        to = (notes after).latest;
        read = read;
        made = o.made;
        number = o.number;
        are_made = subst (λ (l : List CompletedCall). AreMade k.first k.last (notes before).latest
            (notes after).latest l records aborts o.made)
            (sym (its_calls attempts records aborts before after empty k)) o.are_made;
        are_left = subst (λ (l : List Trace). AreLeft o.made l) (sym same) o.are_left;
      }

  all_noted : {Y : Type 0} (image : List ℕ) (history : List Record) (attempts_of : Y → ℕ)
      (records_of : Y → List Record) (aborts_of : Y → List Aborted) (ys : List Y)
      (befores afters : List X) → All (λ x. IsEmpty (notes x)) befores →
      ((y : Y) → In y ys → HaveRead image history (aborts_of y)) →
      AllKept attempts_of records_of aborts_of ys (map notes befores) (map notes afters) →
      Paired (λ calls y. Paired IsNoted calls (records_of y)) (map (λ x. calls_kept (notes x)) afters) ys
      × Paired (λ x y. HasAllAttempts image history (attempts_of y) (records_of y) (aborts_of y) (notes x)) afters ys
  all_noted image history attempts_of records_of aborts_of [] [] [] empty read k = (none, none)
  all_noted image history attempts_of records_of aborts_of [] [] (a ∷ afters) empty read k = elim k [ ]
  all_noted image history attempts_of records_of aborts_of [] (b ∷ befores) [] empty read k = elim k [ ]
  all_noted image history attempts_of records_of aborts_of [] (b ∷ befores) (a ∷ afters) empty read k = elim k [ ]
  all_noted image history attempts_of records_of aborts_of (y ∷ ys) [] [] empty read k = elim k [ ]
  all_noted image history attempts_of records_of aborts_of (y ∷ ys) [] (a ∷ afters) empty read k = elim k [ ]
  all_noted image history attempts_of records_of aborts_of (y ∷ ys) (b ∷ befores) [] empty read k = elim k [ ]
  all_noted image history attempts_of records_of aborts_of (y ∷ ys) (b ∷ befores) (a ∷ afters) empty read
      (one_kept k ks) =
      let first = All-head (λ x. IsEmpty (notes x)) b befores empty in
      let rest = all_noted image history attempts_of records_of aborts_of ys befores afters
      (All-tail (λ x. IsEmpty (notes x)) b befores empty) (λ x j. read x (suc j.0, j.1)) ks in (
        both (are_noted (attempts_of y) (records_of y) (aborts_of y) b a first k) rest.0,
        both (are_traced image history (attempts_of y) (records_of y) (aborts_of y) b a first (read y (0, refl)) k)
            rest.1,
      )

  pub noted : (s : Settings) (n : LoadSummary) (before after : Recorders X) → IsEmpty (notes before.opening) →
      All (λ x. IsEmpty (notes x)) before.clients.items
      → KeptBySeed notes s n.report.outcomes n.report.report n.statistics.attempts before after
      → AreNoted notes s n after
  noted s n before after opening clients k =
      let image = k.loaded.image in
      let history = k.loaded.history in
      let others = all_noted image history (λ x. x.attempts) (λ x. x.records) (λ x. x.aborts) k.loaded.shares
      before.clients.items after.clients.items clients k.clients_read k.clients_kept in
      record {
        calls = record {
          loaded = k.loaded;
          attempts_add_up = k.made;
          of_opening = are_noted k.setup_attempts k.loaded.opened k.opening_aborts before.opening after.opening opening
              k.opening_kept;
          of_clients = others.0;
        };
        setup_attempts = k.setup_attempts;
        setup_aborts = k.opening_aborts;
        opening = are_traced image history k.setup_attempts k.loaded.opened k.opening_aborts before.opening
            after.opening
            opening k.opening_read k.opening_kept;
        clients = others.1;
      }

-- as many recorders come back as went in
same_number : {X : Type 0} (attempts_of : X → ℕ) (records_of : X → List Record) (aborts_of : X → List Aborted)
    (xs : List X) (ks ks' : List RecorderContents) → AllKept attempts_of records_of aborts_of xs ks ks' →
    length ks' ≡ length ks
same_number attempts_of records_of aborts_of [] [] [] k = refl
same_number attempts_of records_of aborts_of [] [] (k' ∷ ks') k = elim k [ ]
same_number attempts_of records_of aborts_of [] (b ∷ ks) [] k = elim k [ ]
same_number attempts_of records_of aborts_of [] (b ∷ ks) (k' ∷ ks') k = elim k [ ]
same_number attempts_of records_of aborts_of (x ∷ xs) [] [] k = elim k [ ]
same_number attempts_of records_of aborts_of (x ∷ xs) [] (k' ∷ ks') k = elim k [ ]
same_number attempts_of records_of aborts_of (x ∷ xs) (b ∷ ks) [] k = elim k [ ]
same_number attempts_of records_of aborts_of (x ∷ xs) (b ∷ ks) (k' ∷ ks') (one_kept k more) =
    ap suc (same_number attempts_of records_of aborts_of xs ks ks' more)

pub same_clients : {X : Type 0} (notes : X → RecorderContents) (s : Settings) (load : LoadReport) (n : ℕ)
    (before after : Recorders X)
    → KeptBySeed notes s load.outcomes load.report n before after
    → length after.clients.items ≡ length before.clients.items
same_clients notes s load n before after k =
    sym (length-map after.clients.items notes)
    ∙ (same_number (λ x. x.attempts) (λ x. x.records) (λ x. x.aborts) k.loaded.shares _ _ k.clients_kept
    ∙ length-map before.clients.items notes)
