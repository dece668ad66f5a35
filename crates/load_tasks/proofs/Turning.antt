-- Tasks that are drawn one after the other.
use Rattle.std.proofs.Common.{◌≡◌, subst, arith, ℕ, ◌+◌, List, [], ◌∷◌, ◌++◌, Result, append_assoc, append-nil}
use Rattle.vac_model.specs.declared.tasks.Task.{Task}
use Rattle.load_tasks.specs.declared.settings.Settings.{Settings}
use Rattle.load_tasks.specs.Draws.{Drawn, times_over}
use Rattle.load_tasks.specs.Tasks.{task_of, Turns, AreBuilt, AreTasksOf}
use Rattle.load_tasks.proofs.Drawing.{drawn_always, drawn_times}

-- what further turns add to tasks that were drawn
record Further {D E : Type 0} (leads : D → ℕ → D → Type 0) (s : Settings) (n : ℕ) (first : D) (xs : List Task)
    (items : List (Result Task E)) (last : D) : Type 0 where
  pub tasks : List Task
  pub drawn : Drawn leads (times_over n (task_of s)) first (xs ++ tasks) last
  pub built : AreBuilt items tasks

further : {D E : Type 0} (leads : D → ℕ → D → Type 0) (s : Settings) (k n : ℕ) (first a b : D) (xs : List Task)
    (items : List (Result Task E)) →
    Drawn leads (times_over k (task_of s)) first xs a → Turns leads s n a items b →
    Further leads s (k + n) first xs items b
further leads s k n first a b xs [] p q =
    let none : k + n ≡ k = omega (arith, q.0) in
    record {
      tasks = [];
      drawn = rw none (rw (append-nil xs) (rw q.1 p));
      built = tt;
    }
further leads s k n first a b xs (item ∷ items) p q =
    let d = q.2.1 in
    let more = further leads s (k + 1) q.0 first q.1 b (xs ++ (d.task ∷ [])) items
    (drawn_times leads k (task_of s) first xs a d.task q.1 p d.drawn) q.3 in
    let all : (k + 1) + q.0 ≡ k + n = omega (arith, q.2.0) in
    record {
      tasks = d.task ∷ more.tasks;
      drawn = subst (λ (m : ℕ). Drawn leads (times_over m (task_of s)) first (xs ++ (d.task ∷ more.tasks)) b) all
          (subst (λ (ts : List Task). Drawn leads (times_over ((k + 1) + q.0) (task_of s)) first ts b)
          (append_assoc xs (d.task ∷ []) more.tasks) more.drawn);
      built = (d.built, more.built);
    }

pub turns_make_tasks : {D E : Type 0} (leads : D → ℕ → D → Type 0) (s : Settings) (n : ℕ) (a b : D)
    (items : List (Result Task E)) → Turns leads s n a items b → AreTasksOf leads s n a items b
turns_make_tasks leads s n a b items q =
    let all = further leads s 0 n a a b [] items (drawn_always leads a []) q in
    let same : 0 + n ≡ n = omega arith in
    record {
      tasks = all.tasks;
      drawn = subst (λ (m : ℕ). Drawn leads
          (times_over m (task_of s)) a all.tasks b) same all.drawn;
      built = all.built;
    }
