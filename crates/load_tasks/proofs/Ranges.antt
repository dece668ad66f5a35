-- Drawn tasks are in their ranges.
use Rattle.std.proofs.Common.{◌≡◌, ◌&&◌, ◌≤◌, Bool, true, false, ℕ, List, [], ◌∷◌, ◌++◌, length, Result, Ok, Err, IfOk}
use Rattle.std.proofs.Common.{refl, sym, subst, arith}
use Rattle.std.specs.List.{list_all}
use Rattle.std.proofs.lemmas.List.Folds.{list_all-append}
use Rattle.std.proofs.lemmas.Bool.Decides.{nat_tests}
use Rattle.vac_model.specs.declared.items.Kind.{Kind}
use Rattle.vac_model.specs.declared.commands.Command.{Command}
use Rattle.vac_model.specs.declared.tasks.Task.{Task}
use Rattle.vac_model.specs.declared.tasks.Task.TheVariants.{Trip, Update}
use Rattle.vac_model.specs.Amounts.{is_id, is_list_length}
use Rattle.vac_model.specs.Ranges.{is_change, is_command, is_task}
use Rattle.load_tasks.specs.declared.settings.Settings.{Settings}
use Rattle.load_tasks.specs.Setting.{is_settings, is_work, is_system}

pub all_more : {X : Type 0} (p : X → Bool) (xs : List X) (x : X) → list_all p xs ≡ true → p x ≡ true →
    list_all p (xs ++ (x ∷ [])) ≡ true
all_more p xs x h e = rw (list_all-append p xs (x ∷ [])) (rw h (rw e refl))

second_true : (a b : Bool) → (a && b) ≡ true → b ≡ true
second_true true b e = e
second_true false b e = absurd (let k : false ≡ true = e in cc)

pub most_asks : (s : Settings) → is_settings s ≡ true → s.asks ≤ 32
most_asks s e = let h : is_system s ≡ true = second_true (is_work s) (is_system s) e in grind (arith, nat_tests, h)

few_parts : (n : ℕ) → 1 ≤ n → n ≤ 32 → is_list_length n ≡ true
few_parts n a b = grind (arith, nat_tests)

built_in : {E : Type 0} (result : Result Task E) (t : Task) → IfOk result (λ r. r ≡ t) → is_task t ≡ true →
    IfOk result (λ r. is_task r ≡ true)
built_in (Ok r) t e h = subst (λ (x : Task). is_task x ≡ true) (sym e) h
built_in (Err e) t k h = tt

pub trip_in : {E : Type 0} (result : Result Task E) (customer : ℕ) (asks : List (Kind × ℕ)) →
    IfOk result (λ r. r ≡ Trip customer asks) → is_id customer ≡ true → 1 ≤ length asks → length asks ≤ 32 →
    list_all (λ a. is_id a.1) asks ≡ true → IfOk result (λ r. is_task r ≡ true)
trip_in result customer asks built id some few each =
    built_in result (Trip customer asks) built (rw id (rw (few_parts (length asks) some few) (rw each refl)))

pub update_in : {E : Type 0} (result : Result Task E) (changes : List Command) → IfOk result (λ r. r ≡ Update changes) →
    1 ≤ length changes → length changes ≤ 32 →
    list_all (λ c. is_change c && is_command c) changes ≡ true → IfOk result (λ r. is_task r ≡ true)
update_in result changes built some few each =
    built_in result (Update changes) built (rw (few_parts (length changes) some few) (rw each refl))

pub both_hold : (a b : Bool) → a ≡ true → b ≡ true → (a && b) ≡ true
both_hold a b p q = rw p q
