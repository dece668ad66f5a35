-- What is read from the front of drawn words, where it is not read to its end.
use Rattle.std.proofs.Common.{◌≡◌, ◌∙◌, refl, sym, ap, subst, arith, ℕ, zero, suc, ◌+◌, ◌*◌, Option, Some, None, List}
use Rattle.std.proofs.Common.{[], ◌∷◌, ◌++◌, length, length-append, append_assoc, append-nil}
use Rattle.vac_model.specs.declared.items.Kind.{Kind}
use Rattle.vac_model.specs.declared.items.Kind.TheVariants.{Car, Flight, Room}
use Rattle.vac_model.specs.declared.commands.Command.{Command}
use Rattle.vac_model.specs.declared.commands.Command.TheVariants as command
use Rattle.load_tasks.specs.Draws.{Drew, Reader, always, going_on, followed_by, joined, for_each, Reads, Drawn}
use Rattle.load_tasks.specs.Tasks.{stock, stocks, customers, opening}
use Rattle.load_tasks.specs.declared.settings.Settings.{Settings}
use Rattle.load_run.specs.Opening.{Begun}

drew_both : {D : Type 0} (leads : D → ℕ → D → Type 0) (a : D) (ws : List ℕ) (b : D) (us : List ℕ) (c : D) →
    Drew leads a ws b → Drew leads b us c → Drew leads a (ws ++ us) c
drew_both leads a [] b us c p q = rw p q
drew_both leads a (w ∷ ws) b us c p q = (p.0, p.1, drew_both leads p.0 ws b us c p.2 q)

reads_joined : {X : Type 0} (first second : Reader (List X)) (ws us : List ℕ) (xs ys : List X) → Reads first ws xs →
    Reads second us ys → Reads (joined first second) (ws ++ us) (xs ++ ys)
reads_joined first second ws us xs ys p q = λ rest. rw (append_assoc ws us rest)
    (rw (p (us ++ rest)) (rw (q rest) refl))

reads_same : {X : Type 0} (reader : Reader (List X)) (ws us : List ℕ) (xs ys : List X) → ws ≡ us → xs ≡ ys →
    Reads reader ws xs → Reads reader us ys
reads_same reader ws us xs ys e f p = subst (λ (l : List ℕ). Reads reader l ys) e
    (subst (λ (l : List _). Reads reader ws l) f p)

-- some words are read as something
pub record Readable {X : Type 0} (reader : Reader (List X)) : Type 0 where
  pub words : List ℕ
  pub items : List X
  pub reads : Reads reader words items

-- what is read to its end is begun
pub begun_whole : {D X : Type 0} (leads : D → ℕ → D → Type 0) (reader : Reader (List X)) (a : D) (xs : List X) (b : D) →
    Drawn leads reader a xs b → Begun leads reader a xs b
begun_whole leads reader a xs b p = record {
  words = p.words;
  drew = p.drew;
  more = [];
  rest = [];
  reads = reads_same reader p.words (p.words ++ []) xs (xs ++ []) (sym (append-nil p.words))
      (sym (append-nil xs)) p.reads;
}

pub begun_first : {D X : Type 0} (leads : D → ℕ → D → Type 0) (first second : Reader (List X)) (a : D) (xs : List X)
    (b : D) → Readable second → Begun leads first a xs b → Begun leads (joined first second) a xs b
begun_first leads first second a xs b r p = record {
  words = p.words;
  drew = p.drew;
  more = p.more ++ r.words;
  rest = p.rest ++ r.items;
  reads = reads_same (joined first second) _ _ _ _ (append_assoc p.words p.more r.words)
      (append_assoc xs p.rest r.items)
      (reads_joined first second (p.words ++ p.more) r.words (xs ++ p.rest) r.items p.reads r.reads);
}

pub begun_second : {D X : Type 0} (leads : D → ℕ → D → Type 0) (first second : Reader (List X)) (a : D) (xs : List X)
    (b : D) (ys : List X) (c : D) → Drawn leads first a xs b → Begun leads second b ys c →
    Begun leads (joined first second) a (xs ++ ys) c
begun_second leads first second a xs b ys c p q = record {
  words = p.words ++ q.words;
  drew = drew_both leads a p.words b q.words c p.drew q.drew;
  more = q.more;
  rest = q.rest;
  reads = reads_same (joined first second) _ _ _ _ (sym (append_assoc p.words q.words q.more))
      (sym (append_assoc xs ys q.rest))
      (reads_joined first second p.words (q.words ++ q.more) xs (ys ++ q.rest) p.reads q.reads);
}

pub readable_joined : {X : Type 0} (first second : Reader (List X)) → Readable first → Readable second →
    Readable (joined first second)
readable_joined first second p q = record {
  words = p.words ++ q.words;
  items = p.items ++ q.items;
  reads = reads_joined first second p.words q.words p.items q.items p.reads q.reads;
}

pub readable_stock : (id : ℕ) (k : Kind) → Readable (stock id k)
readable_stock id k = record { words = 0 ∷ 0 ∷ []; items = _; reads = λ rest. refl }

pub readable_stocks : (id : ℕ) → Readable (stocks id)
readable_stocks id = readable_joined (joined (stock id Car) (stock id Flight)) (stock id Room)
    (readable_joined (stock id Car) (stock id Flight) (readable_stock id Car) (readable_stock id Flight))
    (readable_stock id Room)

-- what was begun of the first ones was begun of more of them
pub begun_on : {D X : Type 0} (leads : D → ℕ → D → Type 0) (k n m : ℕ) (f : ℕ →
    Reader (List X)) (a : D) (xs : List X) (b : D) → m ≡ k + n → ((j : ℕ) → Readable (f j)) →
    Begun leads (for_each n f) a xs b → Begun leads (for_each m f) a xs b
begun_on leads zero n m f a xs b e r p =
    let same : n ≡ m = omega (arith, e) in
    subst (λ (j : ℕ). Begun leads (for_each j f) a xs b) same p
begun_on leads (suc k) n zero f a xs b e r p = absurd (omega (arith, e))
begun_on leads (suc k) n (suc m) f a xs b e r p = begun_first leads (for_each m f) (f (suc m)) a xs b (r (suc m))
    (begun_on leads k n m f a xs b (omega (arith, e)) r p)

-- the customers behind the first n
pub record More (n m : ℕ) : Type 0 where
  pub rest : List Command
  pub all : customers m ≡ (customers n ++ (command.NewCustomer (suc n) ∷ [])) ++ rest

pub more_customers : (k n m : ℕ) → m ≡ k + suc n → More n m
more_customers zero n m e =
    let same : suc n ≡ m = omega (arith, e) in
    let here : More n (suc n) = record { rest = []; all = sym (append-nil (customers (suc n))) } in
    subst (λ (j : ℕ). More n j) same here
more_customers (suc k) n zero e = absurd (omega (arith, e))
more_customers (suc k) n (suc m) e =
    let here = more_customers k n m (omega (arith, e)) in
    let last : List Command = command.NewCustomer (suc m) ∷ [] in
    record {
      rest = here.rest ++ last;
      all = ap (λ (l : List Command). l ++ last) here.all ∙ append_assoc (customers (suc n)) here.rest last;
    }

-- the items of an opening were begun
pub begun_items : {D : Type 0} (leads : D → ℕ → D → Type 0) (s : Settings) (a : D) (xs : List Command) (b : D) →
    Begun leads (for_each s.items stocks) a xs b → Begun leads (opening s) a xs b
begun_items leads s a xs b p = record {
  words = p.words;
  drew = p.drew;
  more = p.more;
  rest = p.rest ++ customers s.items;
  reads = λ rest. rw (p.reads rest) (ap (λ (l : List Command). Some (l, rest))
      (append_assoc xs p.rest (customers s.items)));
}

-- the items of an opening were drawn, and its customers begun
pub begun_customers : {D : Type 0} (leads : D → ℕ → D → Type 0) (s : Settings) (a : D) (xs : List Command) (b : D)
    (ys rest : List Command) → Drawn leads (for_each s.items stocks) a xs b → customers s.items ≡ ys ++ rest →
    Begun leads (opening s) a (xs ++ ys) b
begun_customers leads s a xs b ys rest p e = record {
  words = p.words;
  drew = p.drew;
  more = [];
  rest = rest;
  reads = λ others. rw (append-nil p.words) (rw (p.reads others)
      (ap (λ (l : List Command). Some (l, others)) (ap (λ (l : List Command). xs ++ l) e ∙
      sym (append_assoc xs ys rest))));
}

none_some : {A : Type 0} (o : Option A) (v : A) → o ≡ None → o ≡ Some v → ⊥
none_some o v e f = cc

-- how many items were read
abbrev read_of : {X : Type 0} → Option (List X × List ℕ) → ℕ
read_of None = 0
read_of (Some r) = length r.0

-- whatever is read has so many items
abbrev pub Long : {X : Type 0} → Reader (List X) → ℕ → Type 0
Long {X} reader n = (ws : List ℕ) (xs : List X) (us : List ℕ) → reader ws ≡ Some (xs, us) → length xs ≡ n

long_always : {X : Type 0} (xs : List X) → Long (always xs) (length xs)
long_always xs = λ ws ys us e. sym (ap (λ (o : Option (List _ × List ℕ)). read_of o) e)

long_going : {X : Type 0} (first : Reader (List X)) (n m : ℕ) (f : List X →
    List X) (ws : List ℕ) (zs : List X) (us : List ℕ) → Long first n → ((xs : List X) → length (f xs) ≡ length xs + m) →
    (o : Option (List X × List ℕ)) → first ws ≡ o → going_on o (λ xs. always (f xs)) ≡ Some (zs, us) → length zs ≡ n + m
long_going first n m f ws zs us h k None e g = absurd (none_some _ (zs, us) refl g)
long_going first n m f ws zs us h k (Some r) e g =
    let long = h ws r.0 r.1 e in
    let more = k r.0 in
    let same : length (f r.0) ≡ length zs = ap (λ (o : Option (List _ × List ℕ)). read_of o) g in
    omega (arith, long, more, same)

-- with a list put behind it
long_then : {X : Type 0} (first : Reader (List X)) (n m : ℕ) (f : List X → List X) → Long first n →
    ((xs : List X) → length (f xs) ≡ length xs + m) → Long (followed_by first (λ xs. always (f xs))) (n + m)
long_then first n m f h k = λ ws zs us e. long_going first n m f ws zs us h k (first ws) refl e

long_second : {X : Type 0} (first second : Reader (List X)) (n m : ℕ) (ws : List ℕ) (zs : List X) (us : List ℕ) →
    Long first n → Long second m →
    (o : Option (List X × List ℕ)) → first ws ≡ o → going_on o
    (λ xs. followed_by second (λ ys. always (xs ++ ys))) ≡ Some
    (zs, us) → length zs ≡ n + m
long_second first second n m ws zs us h k None e g = absurd (none_some _ (zs, us) refl g)
long_second first second n m ws zs us h k (Some r) e g =
    let long = h ws r.0 r.1 e in
    let all = long_then second m (length r.0) (λ ys. r.0 ++ ys) k (λ ys. (let l = length-append r.0 ys in
    omega (arith, l))) r.1 zs us g in
    omega (arith, long, all)

long_joined : {X : Type 0} (first second : Reader (List X)) (n m : ℕ) → Long first n → Long second m →
    Long (joined first second) (n + m)
long_joined first second n m h k = λ ws zs us e. long_second first second n m ws zs us h k (first ws) refl e

long_stock : (id : ℕ) (k : Kind) (ws : List ℕ) (xs : List Command) (us : List ℕ) → stock id k ws ≡ Some (xs, us) →
    length xs ≡ 1
long_stock id k [] xs us e = absurd (none_some _ (xs, us) refl e)
long_stock id k (w ∷ []) xs us e = absurd (none_some _ (xs, us) refl e)
long_stock id k (w ∷ v ∷ ws) xs us e = sym (ap (λ (o : Option (List Command × List ℕ)). read_of o) e)

long_stocks : (n : ℕ) (ws : List ℕ) (xs : List Command) (us : List ℕ) → for_each n stocks ws ≡ Some (xs, us) →
    length xs ≡ n * 3
long_stocks zero ws xs us e = long_always {X = Command} [] ws xs us e
long_stocks (suc n) ws xs us e =
    let l = long_joined (for_each n stocks) (stocks (suc n)) (n * 3) 3 (long_stocks n)
    (long_joined (joined (stock (suc n) Car) (stock (suc n) Flight)) (stock (suc n) Room) 2 1
    (long_joined (stock (suc n) Car) (stock (suc n) Flight) 1 1 (long_stock (suc n) Car) (long_stock (suc n) Flight))
    (long_stock (suc n) Room)) ws xs us e in
    omega (arith, l)

pub long_customers : (n : ℕ) → length (customers n) ≡ n
long_customers zero = refl
long_customers (suc n) = let l = length-append (customers n) (command.NewCustomer (suc n) ∷ []) in
    omega (arith, l, long_customers n)

-- an opening has three commands for each item and one for each customer
pub long_opening : (s : Settings) (ws : List ℕ) (xs : List Command) (us : List ℕ) → opening s ws ≡ Some (xs, us) →
    length xs ≡ 4 * s.items
long_opening s ws xs us e =
    let l = long_then (for_each s.items stocks) (s.items * 3) s.items (λ xs. xs ++ customers s.items)
    (long_stocks s.items)
    (λ xs. (let m = length-append xs (customers s.items) in let n = long_customers s.items in
    omega (arith, m, n))) ws xs us e in
    omega (arith, l)
