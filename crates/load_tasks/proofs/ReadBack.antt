-- The lines of drawn tasks are read back.
use Rattle.std.proofs.Common.{◌≡◌, ◌≤◌, ◌<◌, ◌&&◌, ◌||◌, refl, subst, arith, rules, Bool, true, false, if◌then◌else◌}
use Rattle.std.proofs.Common.{nat_lt, nat_le, ◌==◌, ℕ, zero, suc, ◌+◌, ◌*◌, ◌%◌, List, [], ◌∷◌, ◌++◌, Option, Some}
use Rattle.std.proofs.Common.{None, length, length-append}
use Rattle.std.specs.List.{list_all}
use Rattle.std.proofs.lemmas.Bool.Decides.{nat_tests}
use Rattle.vac_model.specs.declared.items.Kind.{Kind}
use Rattle.vac_model.specs.declared.items.Kind.TheVariants.{Car, Flight, Room}
use Rattle.vac_model.specs.declared.commands.Command.{Command}
use Rattle.vac_model.specs.declared.commands.Command.TheVariants as command
use Rattle.vac_model.specs.declared.tasks.Task.{Task}
use Rattle.vac_model.specs.declared.tasks.Task.TheVariants as task
use Rattle.vac_model.specs.Amounts.{is_id, is_list_length, is_amount}
use Rattle.vac_model.specs.Ranges.{is_task, is_command, is_change}
use Rattle.load_tasks.specs.declared.settings.Settings.{Settings}
use Rattle.load_tasks.specs.declared.settings.TheConstants.{PERCENT, LEVELS, UNITS, PRICE_STEP, LOWEST_PRICE}
use Rattle.load_tasks.specs.Draws.{Reader, always, below, going_on, followed_by, joined, one, for_each, times_over}
use Rattle.load_tasks.specs.Setting.{is_settings, is_work, is_system}
use Rattle.load_tasks.specs.Tasks.{up_to, kind, price, ask, drawn_trip, drawn_leave, removal, change_of, change}
use Rattle.load_tasks.specs.Tasks.{drawn_update, task_at}
use Rattle.load_tasks.specs.Tasks.{work, question_at, question, mixed_at, task_of, stock, stocks, customers, opening}
use Rattle.vac_lines.specs.TaskText.{is_short, is_short_change, is_fitting, FITTING_CHANGES, TaskTextsAreRead}
use Rattle.vac_lines.specs.TaskText.{TaskTextsFit}
use Rattle.vac_lines.proofs.Spacing.{Each, each_all, each_both}
use Rattle.load_tasks.specs.Laws.{IsReadBack, AreReadBack}
use Rattle.load_tasks.proofs.OneText.{some_read}

-- whatever words are drawn, the value read from them has the property
abbrev Yields : {X : Type 0} → (X → Type 0) → Reader X → Type 0
Yields {X} P reader = (words rest : List ℕ) (x : X) → reader words ≡ Some (x, rest) → P x

yields_always : {X : Type 0} (P : X → Type 0) (x : X) → P x → Yields P (always x)
yields_always P x p words rest y e = subst P (some_read x y words rest e) p

yields_below : (n : ℕ) → 0 < n → Yields (λ x. x < n) (below n)
yields_below n some [] rest x e = absurd (let h : None ≡ Some (x, rest) = e in cc)
yields_below n some (w ∷ words) rest x e = let f = some_read (w % n) x words rest e in let less : w % n < n =
    search (rules, arith) in subst (λ (y : ℕ). y < n) f less

yields_going : {X Y : Type 0} (Q : Y → Type 0) (next : X → Reader Y) (o : Option (X × List ℕ)) →
    ((x : X) (rest : List ℕ) → o ≡ Some (x, rest) → Yields Q (next x))
    → (rest : List ℕ) (y : Y) → going_on o next ≡ Some (y, rest) → Q y
yields_going Q next None each rest y e = absurd (let h : None ≡ Some (y, rest) = e in cc)
yields_going Q next (Some r) each rest y e = each r.0 r.1 refl r.1 rest y e

yields_after : {X Y : Type 0} (P : X → Type 0) (Q : Y → Type 0) (first : Reader X) (next : X → Reader Y) →
    Yields P first → ((x : X) → P x → Yields Q (next x)) → Yields Q (followed_by first next)
yields_after P Q first next p q words rest y e = yields_going Q next (first words)
    (λ x more f. q x (p words more x f)) rest y e

yields_then : {X Y : Type 0} (P : X → Type 0) (Q : Y → Type 0) (first : Reader X) (f : X → Y) → Yields P first →
    ((x : X) → P x → Q (f x)) → Yields Q (followed_by first (λ x. always (f x)))
yields_then P Q first f p q = yields_after P Q first (λ x. always (f x)) p (λ x h. yields_always Q (f x) (q x h))

yields_if : {X : Type 0} (P : X → Type 0) (b : Bool) (first second : Reader X) → Yields P first → Yields P second →
    Yields P (if b then first else second)
yields_if P true first second p q = p
yields_if P false first second p q = q

yields_any : {X : Type 0} (reader : Reader X) → Yields (λ _. Unit {0}) reader
yields_any reader words rest x e = tt

yields_one : {X : Type 0} (P : X → Type 0) (reader : Reader X) → Yields P reader → Yields (Each P) (one reader)
yields_one P reader p = yields_then P (Each P) reader (λ x. x ∷ []) p (λ x h. (h, tt))

yields_joined : {X : Type 0} (P : X → Type 0) (first second : Reader (List X)) → Yields (Each P) first →
    Yields (Each P) second → Yields (Each P) (joined first second)
yields_joined P first second p q =
    yields_after (Each P) (Each P) first (λ xs. followed_by second (λ ys. always (xs ++ ys))) p
    (λ xs h. yields_then (Each P) (Each P) second (λ ys. xs ++ ys) q (λ ys k. each_both P xs ys h k))

yields_for_each : {X : Type 0} (P : X → Type 0) (f : ℕ → Reader (List X)) (most n : ℕ) → n ≤ most →
    ((k : ℕ) → 1 ≤ k → k ≤ most → Yields (Each P) (f k)) → Yields (Each P) (for_each n f)
yields_for_each P f most zero few p = yields_always (Each P) [] tt
yields_for_each P f most (suc n) few p =
    yields_joined P (for_each n f) (f (suc n)) (yields_for_each P f most n (omega (arith, few)) p)
    (p (suc n) (omega arith) few)

pub yields_times : {X : Type 0} (P : X → Type 0) (reader : Reader X) (n : ℕ) → Yields P reader →
    Yields (Each P) (times_over n reader)
yields_times P reader n p = yields_for_each P (λ _. one reader) n n (omega arith) (λ k some few. yields_one P reader p)

-- this many values are read
yields_length : {X : Type 0} (reader : Reader X) (n : ℕ) → Yields (λ xs. length xs ≡ n) (times_over n reader)
yields_length reader zero = yields_always (λ xs. length xs ≡ 0) [] refl
yields_length reader (suc n) =
    yields_after (λ xs. length xs ≡ n) (λ xs. length xs ≡ suc n) (times_over n reader)
    (λ xs. followed_by (one reader) (λ ys. always (xs ++ ys))) (yields_length reader n)
    (λ xs h. yields_then (λ ys. length ys ≡ 1) (λ zs. length zs ≡ suc n) (one reader) (λ ys. xs ++ ys)
    (yields_then (λ _. Unit {0}) (λ ys. length ys ≡ 1) reader (λ x. x ∷ []) (yields_any reader) (λ x k. refl))
    (λ ys k. let e = length-append xs ys in omega (arith, e, h, k)))

yields_both : {X : Type 0} (P Q : X → Type 0) (reader : Reader X) → Yields P reader → Yields Q reader →
    Yields (λ x. P x × Q x) reader
yields_both P Q reader p q words rest x e = (p words rest x e, q words rest x e)

list_of : {X : Type 0} (p : X → Bool) (xs : List X) → Each (λ x. p x ≡ true) xs → list_all p xs ≡ true
list_of p [] h = refl
list_of p (x ∷ xs) h = rw h.0 (list_of p xs h.1)

each_map : {X : Type 0} (P Q : X → Type 0) (xs : List X) → ((x : X) → P x → Q x) → Each P xs → Each Q xs
each_map P Q [] f h = tt
each_map P Q (x ∷ xs) f h = (f x h.0, each_map P Q xs f h.1)

and_true : (a b : Bool) → a ≡ true → b ≡ true → (a && b) ≡ true
and_true a b p q = rw p q

or_true : (a b : Bool) → b ≡ true → (a || b) ≡ true
or_true true b p = refl
or_true false b p = p

-- the ranges of the settings from which tasks are drawn
record IsSmall (s : Settings) : Type 0 where
  pub some_items : 1 ≤ s.items
  pub few_items : s.items ≤ 65536
  pub some_asks : 1 ≤ s.asks
  pub few_asks : s.asks ≤ 32

second_true : (a b : Bool) → (a && b) ≡ true → b ≡ true
second_true true b e = e
second_true false b e = absurd (let k : false ≡ true = e in cc)

small : (s : Settings) → is_settings s ≡ true → IsSmall s
small s e =
    let h : is_system s ≡ true = second_true (is_work s) (is_system s) e in
    record {
      some_items = grind (arith, nat_tests, h);
      few_items = grind (arith, nat_tests, h);
      some_asks = grind (arith, nat_tests, h);
      few_asks = grind (arith, nat_tests, h);
    }

-- an id of a load
abbrev IsItem : ℕ → Type 0
IsItem id = (1 ≤ id) × (id ≤ 65536)

item_id : (id : ℕ) → IsItem id → is_id id ≡ true
item_id id h = let some = h.0 in let few = h.1 in grind (arith, nat_tests, some, few)

short : (n : ℕ) → n ≤ 65536 → is_short n ≡ true
short n h = grind (arith, nat_tests, h)

amount : (n : ℕ) → n ≤ 65536 → is_amount n ≡ true
amount n h = grind (arith, nat_tests, h)

parts : (n : ℕ) → 1 ≤ n → n ≤ 32 → is_list_length n ≡ true
parts n some few = grind (arith, nat_tests, some, few)

yields_up_to : (n : ℕ) → 1 ≤ n → Yields (λ k. (1 ≤ k) × (k ≤ n)) (up_to n)
yields_up_to n some = yields_then (λ x. x < n) (λ k. (1 ≤ k) × (k ≤ n)) (below n) (λ k. k + 1)
    (yields_below n (omega (arith, some))) (λ x h. (omega arith, omega (arith, h)))

yields_item : (s : Settings) → IsSmall s → Yields IsItem (up_to s.items)
yields_item s i words rest x e =
    let h = yields_up_to s.items i.some_items words rest x e in
    (h.0, omega (arith, h.1, i.few_items))

yields_price : Yields (λ p. p ≤ 65536) price
yields_price = yields_then (λ level. level < 5) (λ p. p ≤ 65536) (below LEVELS)
    (λ level. level * PRICE_STEP + LOWEST_PRICE) (yields_below 5 (omega arith)) (λ level h. omega (arith, h))

yields_ask : (s : Settings) → IsSmall s → Yields (λ a. is_id a.1 ≡ true) (ask s)
yields_ask s i =
    yields_after (λ _. Unit {0}) (λ a. is_id a.1 ≡ true) kind (λ k. followed_by (up_to s.items) (λ id. always (k, id)))
    (yields_any kind)
    (λ k _. yields_then IsItem (λ a. is_id a.1 ≡ true) (up_to s.items) (λ id. (k, id)) (yields_item s i) item_id)

-- a valid task whose line fits
abbrev IsGood : Task → Type 0
IsGood t = (is_task t ≡ true) × (is_fitting t ≡ true)

trip_good : (customer : ℕ) (asks : List (Kind × ℕ)) → IsItem customer → 1 ≤ length asks → length asks ≤ 32 →
    Each (λ a. is_id a.1 ≡ true) asks → IsGood (task.Trip customer asks)
trip_good customer asks c some few each = (
  and_true (is_id customer && is_list_length (length asks)) (list_all (λ a. is_id a.1) asks)
      (and_true (is_id customer) (is_list_length (length asks)) (item_id customer c) (parts (length asks) some few))
      (list_of (λ a. is_id a.1) asks each),
  refl,
)

yields_trip : (s : Settings) → IsSmall s → Yields IsGood (drawn_trip s)
yields_trip s i =
    yields_after (λ n. (1 ≤ n) × (n ≤ s.asks)) IsGood (up_to s.asks)
    (λ count. followed_by (up_to s.items) (λ customer. followed_by (times_over count (ask s))
    (λ asks. always (task.Trip customer asks))))
    (yields_up_to s.asks i.some_asks)
    (λ count n. yields_after IsItem IsGood (up_to s.items) (λ customer. followed_by (times_over count (ask s))
    (λ asks. always (task.Trip customer asks))) (yields_item s i)
    (λ customer c. yields_then (λ asks. (length asks ≡ count) × Each (λ a. is_id a.1 ≡ true) asks) IsGood
    (times_over count (ask s)) (λ asks. task.Trip customer asks)
    (yields_both (λ asks. length asks ≡ count) (Each (λ a. is_id a.1 ≡ true)) (times_over count (ask s))
    (yields_length (ask s) count) (yields_times (λ a. is_id a.1 ≡ true) (ask s) count (yields_ask s i)))
    (λ asks h. trip_good customer asks c (omega (arith, h.0, n.0)) (omega (arith, h.0, n.1, i.few_asks)) h.1)))

yields_leave : (s : Settings) → IsSmall s → Yields IsGood (drawn_leave s)
yields_leave s i = yields_then IsItem IsGood (up_to s.items) (λ customer. task.Leave customer) (yields_item s i)
    (λ customer c. (item_id customer c, refl))

-- a change of a load
record IsDrawn (c : Command) : Type 0 where
  pub range : (is_change c && is_command c) ≡ true
  pub short : is_short_change c ≡ true

add_drawn : (k : Kind) (id p : ℕ) → IsItem id → p ≤ 65536 → IsDrawn (command.Add k id UNITS (Some p))
add_drawn k id p h few = record {
  range = rw (item_id id h) (rw (amount p few) refl);
  short = rw (short id h.1) (rw (short p few) refl);
}

removal_drawn : (k : Kind) (id : ℕ) → IsItem id → IsDrawn (removal k id)
removal_drawn Car id h = record { range = rw (item_id id h) refl; short = rw (short id h.1) refl }
removal_drawn Flight id h = record { range = rw (item_id id h) refl; short = short id h.1 }
removal_drawn Room id h = record { range = rw (item_id id h) refl; short = rw (short id h.1) refl }

yields_change_of : (k : Kind) (id o : ℕ) → IsItem id → Yields IsDrawn (change_of k id o)
yields_change_of k id o h =
    yields_if IsDrawn (o == 1) (followed_by price (λ p. always (command.Add k id UNITS (Some p))))
    (always (removal k id))
    (yields_then (λ p. p ≤ 65536) IsDrawn price (λ p. command.Add k id UNITS (Some p)) yields_price
    (λ p few. add_drawn k id p h few))
    (yields_always IsDrawn (removal k id) (removal_drawn k id h))

yields_change : (s : Settings) → IsSmall s → Yields IsDrawn (change s)
yields_change s i =
    yields_after (λ _. Unit {0}) IsDrawn kind (λ k. followed_by (up_to s.items)
    (λ id. followed_by (below 2) (λ o. change_of k id o))) (yields_any kind)
    (λ k _. yields_after IsItem IsDrawn (up_to s.items) (λ id. followed_by (below 2) (λ o. change_of k id o))
    (yields_item s i)
    (λ id h. yields_after (λ _. Unit {0}) IsDrawn (below 2) (λ o. change_of k id o) (yields_any (below 2))
    (λ o _. yields_change_of k id o h)))

update_good : (changes : List Command) → 1 ≤ length changes → length changes ≤ 32 → Each IsDrawn changes →
    IsGood (task.Update changes)
update_good changes some few each = (
  and_true (is_list_length (length changes)) (list_all (λ c. is_change c && is_command c) changes)
      (parts (length changes) some few)
      (list_of (λ c. is_change c && is_command c) changes (each_map IsDrawn
      (λ c. (is_change c && is_command c) ≡ true) changes (λ c h. h.range) each)),
  or_true (nat_le (length changes) FITTING_CHANGES) (list_all is_short_change changes)
      (list_of is_short_change changes (each_map IsDrawn (λ c. is_short_change c ≡ true) changes
      (λ c h. h.short) each)),
)

yields_update : (s : Settings) → IsSmall s → Yields IsGood (drawn_update s)
yields_update s i =
    yields_after (λ n. (1 ≤ n) × (n ≤ s.asks)) IsGood (up_to s.asks)
    (λ count. followed_by (times_over count (change s)) (λ changes. always (task.Update changes)))
    (yields_up_to s.asks i.some_asks)
    (λ count n. yields_then (λ changes. (length changes ≡ count) × Each IsDrawn changes) IsGood
    (times_over count (change s))
    (λ changes. task.Update changes)
    (yields_both (λ changes. length changes ≡ count) (Each IsDrawn) (times_over count (change s))
    (yields_length (change s) count) (yields_times IsDrawn (change s) count (yields_change s i)))
    (λ changes h. update_good changes (omega (arith, h.0, n.0)) (omega (arith, h.0, n.1, i.few_asks)) h.1))

yields_work : (s : Settings) → IsSmall s → Yields IsGood (work s)
yields_work s i =
    yields_after (λ _. Unit {0}) IsGood (below PERCENT) (λ r. task_at s r) (yields_any (below PERCENT))
    (λ r _. yields_if IsGood (nat_lt r s.user) (drawn_trip s) (if r % 2 ==
    1 then drawn_leave s else drawn_update s) (yields_trip s i)
    (yields_if IsGood (r % 2 == 1) (drawn_leave s) (drawn_update s) (yields_leave s i) (yields_update s i)))

yields_bill : (s : Settings) → IsSmall s → Yields IsGood (followed_by (up_to s.items)
    (λ id. always (task.One (command.Bill id))))
yields_bill s i = yields_then IsItem IsGood (up_to s.items) (λ id. task.One (command.Bill id)) (yields_item s i)
    (λ id h. (item_id id h, refl))

yields_free : (s : Settings) → IsSmall s → Yields IsGood (followed_by (ask s)
    (λ a. always (task.One (command.Free a.0 a.1))))
yields_free s i = yields_then (λ a. is_id a.1 ≡ true) IsGood (ask s) (λ a. task.One (command.Free a.0 a.1))
    (yields_ask s i) (λ a h. (h, refl))

yields_price_of : (s : Settings) → IsSmall s → Yields IsGood
    (followed_by (ask s) (λ a. always (task.One (command.Price a.0 a.1))))
yields_price_of s i = yields_then (λ a. is_id a.1 ≡ true) IsGood (ask s) (λ a. task.One (command.Price a.0 a.1))
    (yields_ask s i) (λ a h. (h, refl))

yields_question : (s : Settings) → IsSmall s → Yields IsGood (question s)
yields_question s i =
    yields_after (λ _. Unit {0}) IsGood (below PERCENT) (λ r. question_at s r) (yields_any (below PERCENT))
    (λ r _. yields_if IsGood (r == 0) _ _ (yields_always IsGood (task.One command.Audit) (refl, refl))
    (yields_if IsGood (r % 3 == 0) _ _ (yields_bill s i) (yields_if IsGood (r % 3 ==
    1) _ _ (yields_free s i) (yields_price_of s i))))

yields_task : (s : Settings) → IsSmall s → Yields IsGood (task_of s)
yields_task s i =
    yields_if IsGood (s.reads == 0) (work s) (followed_by (below PERCENT) (λ r. mixed_at s r)) (yields_work s i)
    (yields_after (λ _. Unit {0}) IsGood (below PERCENT) (λ r. mixed_at s r) (yields_any (below PERCENT))
    (λ r _. yields_if IsGood (nat_lt r s.reads) (question s) (work s) (yields_question s i) (yields_work s i)))

-- the commands of the setup phase
abbrev IsCommand : Command → Type 0
IsCommand c = is_command c ≡ true

stock_in : (id : ℕ) (k : Kind) (level p : ℕ) → IsItem id → level < 5 → p ≤ 65536 →
    IsCommand (command.Add k id ((level + 1) * UNITS) (Some p))
stock_in id k level p h few low =
    let units : (level + 1) * 100 ≤ 65536 = omega (arith, few) in
    rw (item_id id h) (rw (amount ((level + 1) * 100) units) (amount p low))

yields_stock : (id : ℕ) (k : Kind) → IsItem id → Yields (Each IsCommand) (stock id k)
yields_stock id k h =
    yields_after (λ level. level < 5) (Each IsCommand) (below LEVELS)
    (λ level. followed_by price (λ p. always (command.Add k id ((level + 1) * UNITS) (Some p) ∷ [])))
    (yields_below 5 (omega arith))
    (λ level few. yields_then (λ p. p ≤ 65536) (Each IsCommand) price
    (λ p. command.Add k id ((level + 1) * UNITS) (Some p) ∷ []) yields_price
    (λ p low. (stock_in id k level p h few low, tt)))

yields_stocks : (id : ℕ) → IsItem id → Yields (Each IsCommand) (stocks id)
yields_stocks id h =
    yields_joined IsCommand (joined (stock id Car) (stock id Flight)) (stock id Room)
    (yields_joined IsCommand (stock id Car) (stock id Flight) (yields_stock id Car h) (yields_stock id Flight h))
    (yields_stock id Room h)

customers_in : (n : ℕ) → n ≤ 65536 → Each IsCommand (customers n)
customers_in zero few = tt
customers_in (suc n) few =
    let h : IsItem (suc n) = (omega arith, few) in
    each_both IsCommand (customers n) (command.NewCustomer (suc n) ∷ []) (customers_in n (omega (arith, few)))
    (item_id (suc n) h, tt)

yields_opening : (s : Settings) → IsSmall s → Yields (Each IsCommand) (opening s)
yields_opening s i =
    yields_then (Each IsCommand) (Each IsCommand) (for_each s.items stocks) (λ items. items ++ customers s.items)
    (yields_for_each IsCommand stocks 65536 s.items i.few_items (λ k some few. yields_stocks k (some, few)))
    (λ items h. each_both IsCommand items (customers s.items) h (customers_in s.items i.few_items))

-- a valid task whose line fits is read back
good_read : TaskTextsAreRead → TaskTextsFit → (t : Task) → IsGood t → IsReadBack t
good_read read fit t h = let few = fit t h.0 h.1 in record { range = h.0; fits = few; read = read t h.0 few }

pub all_read : TaskTextsAreRead → TaskTextsFit → (s : Settings) → is_settings s ≡ true → AreReadBack s
all_read read fit s e =
    let i = small s e in
    record {
      of_opening = λ words rest commands f.
          each_all (λ c. IsReadBack (task.One c)) commands
          (each_map IsCommand (λ c. IsReadBack (task.One c)) commands (λ c h. good_read read fit (task.One c) (h, refl))
          (yields_opening s i words rest commands f));
      of_client = λ n words rest tasks f.
          each_all IsReadBack tasks (each_map IsGood IsReadBack tasks (λ t h. good_read read fit t h)
          (yields_times IsGood (task_of s) n (yields_task s i) words rest tasks f));
    }
