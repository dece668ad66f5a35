-- What settings in their ranges say.
use Rattle.std.proofs.Common.{◌≡◌, ◌≤◌, Bool, true, false, ◌&&◌, refl, arith}
use Rattle.std.proofs.lemmas.Bool.Decides.{nat_tests}
use Rattle.load_tasks.specs.declared.settings.Settings.{Settings}
use Rattle.load_tasks.specs.Setting.{is_settings, is_work, is_system}
use Rattle.vac_manager.specs.Called.{is_try_count}

-- what both say
pub first_true : (a b : Bool) → (a && b) ≡ true → a ≡ true
first_true true b e = refl
first_true false b e = e

-- what may be asked for
pub record Few (s : Settings) : Type 0 where
  pub some : 1 ≤ s.rounds
  pub clients : s.clients ≤ 64
  pub rounds : s.rounds ≤ 100
  pub tasks : s.tasks ≤ 1000000

pub few : (s : Settings) → is_settings s ≡ true → Few s
few s e =
    let w : is_work s ≡ true = first_true (is_work s) (is_system s) e in
    record {
      some = grind (arith, nat_tests, w);
      clients = grind (arith, nat_tests, w);
      rounds = grind (arith, nat_tests, w);
      tasks = grind (arith, nat_tests, w);
    }

second_true : (a b : Bool) → (a && b) ≡ true → b ≡ true
second_true true b e = e
second_true false b e = absurd (let k : false ≡ true = e in cc)

-- a load has items
pub some_items : (s : Settings) → is_settings s ≡ true → 1 ≤ s.items
some_items s e = let h : is_system s ≡ true = second_true (is_work s) (is_system s) e in grind (arith, nat_tests, h)

-- a task gets so many tries at most
pub few_tries : (s : Settings) → is_settings s ≡ true → s.tries ≤ 1048576
few_tries s e = let h : is_system s ≡ true = second_true (is_work s) (is_system s) e in grind (arith, nat_tests, h)

-- a task may have so many tries
pub some_tries : (s : Settings) → is_settings s ≡ true → is_try_count s.tries ≡ true
some_tries s e = let h : is_system s ≡ true = second_true (is_work s) (is_system s) e in grind (arith, nat_tests, h)
