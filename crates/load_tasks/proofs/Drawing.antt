-- Readers over drawn words, put together.
use Rattle.std.proofs.Common.{◌≡◌, ◌∙◌, refl, sym, ap, arith, Option, Some, None, ℕ, zero, suc, ◌+◌, ◌%◌, ◌==◌, nat_lt}
use Rattle.std.proofs.Common.{true, false, List, [], ◌∷◌, ◌++◌, Result, Ok, IfOk, append_assoc, append-nil}
use Rattle.vac_model.specs.declared.items.Kind.{Kind}
use Rattle.vac_model.specs.declared.commands.Command.{Command}
use Rattle.vac_model.specs.declared.tasks.Task.{Task}
use Rattle.vac_model.specs.declared.tasks.Task.TheVariants.{Trip, Update}
use Rattle.load_tasks.specs.declared.settings.Settings.{Settings}
use Rattle.load_tasks.specs.declared.settings.TheConstants.{PERCENT}
use Rattle.load_tasks.specs.Draws.{Drew, Reader, always, below, going_on, followed_by, joined, one, for_each}
use Rattle.load_tasks.specs.Draws.{times_over}
use Rattle.load_tasks.specs.Draws.{Reads}
use Rattle.load_tasks.specs.Draws.{Drawn}
use Rattle.load_tasks.specs.Tasks.{up_to, ask, change, drawn_trip, drawn_leave, update_of, drawn_update, task_at}
use Rattle.load_tasks.specs.Tasks.{work, question}
use Rattle.load_tasks.specs.Tasks.{mixed_at, task_of}
use Rattle.load_tasks.specs.Tasks.{DrawnTask}

drew_both : {D : Type 0} (leads : D → ℕ → D → Type 0) (a : D) (ws : List ℕ) (b : D) (us : List ℕ) (c : D) →
    Drew leads a ws b → Drew leads b us c → Drew leads a (ws ++ us) c
drew_both leads a [] b us c p q = rw p q
drew_both leads a (w ∷ ws) b us c p q = (p.0, p.1, drew_both leads p.0 ws b us c p.2 q)

reads_after : {X Y : Type 0} (first : Reader X) (next : X → Reader Y) (ws us : List ℕ) (x : X) (y : Y) →
    Reads first ws x → Reads (next x) us y → Reads (followed_by first next) (ws ++ us) y
reads_after first next ws us x y p q = λ rest. rw (append_assoc ws us rest) (rw (p (us ++ rest)) (q rest))

pub drawn_always : {D X : Type 0} (leads : D → ℕ → D → Type 0) (state : D) (x : X) →
    Drawn leads (always x) state x state
drawn_always leads state x = record { words = []; drew = refl; reads = λ rest. refl }

pub drawn_below : {D : Type 0} (leads : D → ℕ → D → Type 0) (n : ℕ) (state : D) (w : ℕ) (last : D) →
    leads state w last → Drawn leads (below n) state (w % n) last
drawn_below leads n state w last p = record { words = w ∷ []; drew = (last, p, refl); reads = λ rest. refl }

pub drawn_after : {D X Y : Type 0} (leads : D → ℕ → D → Type 0) (first : Reader X) (next : X →
    Reader Y) (a : D) (x : X) (b : D) (y : Y) (c : D) →
    Drawn leads first a x b → Drawn leads (next x) b y c → Drawn leads (followed_by first next) a y c
drawn_after leads first next a x b y c p q = record {
  words = p.words ++ q.words;
  drew = drew_both leads a p.words b q.words c p.drew q.drew;
  reads = reads_after first next p.words q.words x y p.reads q.reads;
}

-- with nothing drawn after it
pub drawn_then_always : {D X Y : Type 0} (leads : D → ℕ → D → Type 0) (first : Reader X) (f : X →
    Y) (a : D) (x : X) (b : D) →
    Drawn leads first a x b → Drawn leads (followed_by first (λ x. always (f x))) a (f x) b
drawn_then_always leads first f a x b p = drawn_after leads first (λ x. always (f x)) a x b (f x) b p
    (drawn_always leads b (f x))

pub drawn_joined : {D X : Type 0} (leads : D → ℕ → D → Type 0) (first second : Reader (List X)) (a : D) (xs : List X)
    (b : D) (ys : List X) (c : D) →
    Drawn leads first a xs b → Drawn leads second b ys c → Drawn leads (joined first second) a (xs ++ ys) c
drawn_joined leads first second a xs b ys c p q =
    drawn_after leads first (λ xs. followed_by second (λ ys. always (xs ++ ys))) a xs b (xs ++ ys) c p
    (drawn_then_always leads second (λ ys. xs ++ ys) b ys c q)

pub drawn_one : {D X : Type 0} (leads : D → ℕ → D → Type 0) (reader : Reader X) (a : D) (x : X) (b : D) →
    Drawn leads reader a x b → Drawn leads (one reader) a (x ∷ []) b
drawn_one leads reader a x b p = drawn_then_always leads reader (λ x. x ∷ []) a x b p

pub plus_one : (n : ℕ) → n + 1 ≡ suc n
plus_one n = omega arith

pub drawn_more : {D X : Type 0} (leads : D → ℕ → D → Type 0) (n : ℕ) (f : ℕ →
    Reader (List X)) (a : D) (xs : List X) (b : D) (ys : List X) (c : D) →
    Drawn leads (for_each n f) a xs b → Drawn leads (f (n + 1)) b ys c → Drawn leads (for_each (n + 1) f) a (xs ++ ys) c
drawn_more leads n f a xs b ys c =
    rw (plus_one n) (λ p q. drawn_joined leads (for_each n f) (f (suc n)) a xs b ys c p q)

pub drawn_times : {D X : Type 0} (leads : D → ℕ → D → Type 0) (n : ℕ) (reader : Reader X) (a : D) (xs : List X) (b : D)
    (x : X) (c : D) →
    Drawn leads (times_over n reader) a xs b → Drawn leads reader b x c →
    Drawn leads (times_over (n + 1) reader) a (xs ++ (x ∷ [])) c
drawn_times leads n reader a xs b x c p q =
    drawn_more leads n (λ _. one reader) a xs b (x ∷ []) c p (drawn_one leads reader b x c q)

pub trip_drawn : {D E : Type 0} (leads : D → ℕ → D → Type 0) (s : Settings) (a b c d : D) (count customer : ℕ)
    (asks : List (Kind × ℕ)) (result : Result Task E) →
    Drawn leads (up_to s.asks) a count b → Drawn leads (up_to s.items) b customer c →
    Drawn leads (times_over count (ask s)) c asks d → IfOk result (λ t. t ≡ Trip customer asks) →
    DrawnTask leads (drawn_trip s) a result d
trip_drawn leads s a b c d count customer asks result counted named drawn built = record {
  task = Trip customer asks;
  drawn =
      drawn_after leads (up_to s.asks) (λ count. followed_by (up_to s.items)
      (λ customer. followed_by (times_over count (ask s)) (λ asks. always (Trip customer asks)))) a count b _ d
      counted
      (drawn_after leads (up_to s.items) (λ customer. followed_by (times_over count (ask s))
      (λ asks. always (Trip customer asks))) b customer c _ d named
      (drawn_then_always leads (times_over count (ask s)) (λ asks. Trip customer asks) c asks d drawn));
  built = built;
}

-- the changes of an update whose number is known
pub changes_drawn : {D E : Type 0} (leads : D → ℕ → D → Type 0) (s : Settings) (b c : D) (count : ℕ)
    (changes : List Command) (result : Result Task E) → Drawn leads (times_over count (change s)) b changes c →
    IfOk result (λ t. t ≡ Update changes) → DrawnTask leads (update_of s count) b result c
changes_drawn leads s b c count changes result drawn built = record {
  task = Update changes;
  drawn = drawn_then_always leads (times_over count (change s)) (λ changes. Update changes) b changes c drawn;
  built = built;
}

pub update_after : {D E : Type 0} (leads : D → ℕ → D → Type 0) (s : Settings) (a b c : D) (count : ℕ)
    (result : Result Task E) → Drawn leads (up_to s.asks) a count b → DrawnTask leads (update_of s count) b result c →
    DrawnTask leads (drawn_update s) a result c
update_after leads s a b c count result counted q = record {
  task = q.task;
  drawn = drawn_after leads (up_to s.asks) (λ count. update_of s count) a count b q.task c counted q.drawn;
  built = q.built;
}

pub update_drawn : {D E : Type 0} (leads : D → ℕ → D → Type 0) (s : Settings) (a b c : D) (count : ℕ)
    (changes : List Command) (result : Result Task E) →
    Drawn leads (up_to s.asks) a count b → Drawn leads (times_over count (change s)) b changes c →
    IfOk result (λ t. t ≡ Update changes) → DrawnTask leads (drawn_update s) a result c
update_drawn leads s a b c count changes result counted drawn built =
    update_after leads s a b c count result counted (changes_drawn leads s b c count changes result drawn built)

pub task_after : {D E : Type 0} (leads : D → ℕ → D → Type 0) (s : Settings) (a : D) (r : ℕ) (b : D)
    (result : Result Task E) (c : D) →
    Drawn leads (below PERCENT) a r b → DrawnTask leads (task_at s r) b result c → DrawnTask leads (work s) a result c
task_after leads s a r b result c p q = record {
  task = q.task;
  drawn = drawn_after leads (below PERCENT) (λ r. task_at s r) a r b q.task c p q.drawn;
  built = q.built;
}

pub task_trip : {D E : Type 0} (leads : D → ℕ → D → Type 0) (s : Settings) (r : ℕ) (a : D) (result : Result Task E)
    (b : D) →
    nat_lt r s.user ≡ true → DrawnTask leads (drawn_trip s) a result b → DrawnTask leads (task_at s r) a result b
task_trip leads s r a result b e q = rw e q

pub task_leave : {D E : Type 0} (leads : D → ℕ → D → Type 0) (s : Settings) (r : ℕ) (a : D) (t : Task) (b : D) →
    nat_lt r s.user ≡ false → (r % 2 == 1) ≡ true → Drawn leads (drawn_leave s) a t b →
    DrawnTask {E = E} leads (task_at s r) a (Ok t) b
task_leave leads s r a t b e o q = rw e (rw o (record { task = t; drawn = q; built = refl }))

pub task_update : {D E : Type 0} (leads : D → ℕ → D → Type 0) (s : Settings) (r : ℕ) (a : D) (result : Result Task E)
    (b : D) →
    nat_lt r s.user ≡ false → (r % 2 == 1) ≡ false → DrawnTask leads (drawn_update s) a result b →
    DrawnTask leads (task_at s r) a result b
task_update leads s r a result b e o q = rw e (rw o q)

pub task_work : {D E : Type 0} (leads : D → ℕ → D → Type 0) (s : Settings) (a : D) (result : Result Task E) (b : D) →
    (s.reads == 0) ≡ true → DrawnTask leads (work s) a result b → DrawnTask leads (task_of s) a result b
task_work leads s a result b e q = rw e q

pub task_mixed : {D E : Type 0} (leads : D → ℕ → D → Type 0) (s : Settings) (a : D) (r : ℕ) (b : D)
    (result : Result Task E) (c : D) →
    (s.reads == 0) ≡ false → Drawn leads (below PERCENT) a r b → DrawnTask leads (mixed_at s r) b result c →
    DrawnTask leads (task_of s) a result c
task_mixed leads s a r b result c e p q = rw e (record {
  task = q.task;
  drawn = drawn_after leads (below PERCENT) (λ r. mixed_at s r) a r b q.task c p q.drawn;
  built = q.built;
})

pub task_question : {D E : Type 0} (leads : D → ℕ → D → Type 0) (s : Settings) (r : ℕ) (a : D) (t : Task) (b : D) →
    nat_lt r s.reads ≡ true → Drawn leads (question s) a t b → DrawnTask {E = E} leads (mixed_at s r) a (Ok t) b
task_question leads s r a t b e q = rw e (record { task = t; drawn = q; built = refl })

pub task_no_question : {D E : Type 0} (leads : D → ℕ → D → Type 0) (s : Settings) (r : ℕ) (a : D)
    (result : Result Task E) (b : D) →
    nat_lt r s.reads ≡ false → DrawnTask leads (work s) a result b → DrawnTask leads (mixed_at s r) a result b
task_no_question leads s r a result b e q = rw e q

-- of three readers in a row it does not matter which two are taken together
third_of : {X : Type 0} (xs ys : List X) (o : Option (List X × List ℕ)) →
    going_on o (λ zs. always ((xs ++ ys) ++ zs)) ≡ going_on (going_on o (λ zs. always (ys ++ zs)))
    (λ us. always (xs ++ us))
third_of xs ys None = refl
third_of xs ys (Some r) = ap (λ (l : List _). Some (l, r.1)) (append_assoc xs ys r.0)

second_of : {X : Type 0} (c : Reader (List X)) (xs : List X) (o : Option (List X × List ℕ)) →
    going_on (going_on o (λ ys. always (xs ++ ys))) (λ us. followed_by c (λ zs. always (us ++ zs)))
    ≡ going_on (going_on o (λ ys. followed_by c (λ zs. always (ys ++ zs)))) (λ us. always (xs ++ us))
second_of c xs None = refl
second_of c xs (Some r) = third_of xs r.0 (c r.1)

first_of : {X : Type 0} (b c : Reader (List X)) (o : Option (List X × List ℕ)) →
    going_on (going_on o (λ xs. followed_by b (λ ys. always (xs ++ ys))))
    (λ us. followed_by c (λ zs. always (us ++ zs)))
    ≡ going_on o (λ xs. followed_by (joined b c) (λ us. always (xs ++ us)))
first_of b c None = refl
first_of b c (Some r) = second_of c r.0 (b r.1)

joined_assoc : {X : Type 0} (a b c : Reader (List X)) (ws : List ℕ) →
    joined (joined a b) c ws ≡ joined a (joined b c) ws
joined_assoc a b c ws = first_of b c (a ws)

none_after : {X : Type 0} (o : Option (List X × List ℕ)) → o ≡ going_on o
    (λ xs. followed_by (always []) (λ ys. always (xs ++ ys)))
none_after None = refl
none_after (Some r) = ap (λ (l : List _). Some (l, r.1)) (sym (append-nil r.0))

-- so many of them, and then so many more
times_both : {X : Type 0} (n m : ℕ) (reader : Reader X) (ws : List ℕ) →
    times_over (n + m) reader ws ≡ joined (times_over n reader) (times_over m reader) ws
times_both n zero reader ws =
    let e : n + 0 ≡ n = omega arith in
    ap (λ (k : ℕ). times_over k reader ws) e ∙ none_after (times_over n reader ws)
times_both n (suc m) reader ws =
    let e : n + suc m ≡ suc (n + m) = omega arith in
    ap (λ (k : ℕ). times_over k reader ws) e
    ∙ (ap (λ (o : Option (List _ × List ℕ)). going_on o (λ xs. followed_by (one reader) (λ ys. always (xs ++ ys))))
    (times_both n m reader ws)
    ∙ joined_assoc (times_over n reader) (times_over m reader) (one reader) ws)

pub drawn_both : {D X : Type 0} (leads : D → ℕ → D → Type 0) (n m : ℕ) (reader : Reader X) (a : D) (xs : List X) (b : D)
    (ys : List X) (c : D) →
    Drawn leads (times_over n reader) a xs b → Drawn leads (times_over m reader) b ys c →
    Drawn leads (times_over (n + m) reader) a (xs ++ ys) c
drawn_both leads n m reader a xs b ys c p q =
    let d = drawn_joined leads (times_over n reader) (times_over m reader) a xs b ys c p q in
    record { words = d.words; drew = d.drew; reads = λ rest. times_both n m reader (d.words ++ rest) ∙ d.reads rest }
