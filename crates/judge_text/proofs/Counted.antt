-- The keys of a set, while keys are put into it one after the other, and how many different ones there are.
use Rattle.std.proofs.Common.{◌≡◌, ℕ, ◌+◌, ◌<◌, ◌||◌, ◌==◌, suc, Bool, true, false, cond, List, [], ◌∷◌, ◌++◌, length}
use Rattle.std.proofs.Common.{map, take, get_or, refl, ap, sym, ◌∙◌, subst, Bor}
use Rattle.std.specs.List.{list_any}
use Rattle.std.specs.declared.cmp.Ordering.{Ordering}
use Rattle.std.specs.Ordering.{is_eq, eq_by_cmp, nat_cmp}
use Rattle.std.specs.Cmp.{IsTotalOrder, IsEquivalence, eq_by_cmp_equiv, nat_cmp_total, unsigned_ties}
use Rattle.std.specs.Cmp.Lexicographic.{on_texts_equal}
use Rattle.std.specs.HashSet as hash
use Rattle.std.specs.HashSet.{HashSet, hash_set_len}
use Rattle.std.specs.Str.{bytes_eq}
use Rattle.std.specs.BTreeSet.{BTreeSet, contains, Updates, IsOrdered, btree_set_len}
use Rattle.std.specs.Set.{is_member, unique_keys, distinct_count}
use Rattle.std.proofs.lemmas.List.{take_more, map-append}
use Rattle.std.proofs.lemmas.Map.Made.{hash_set_len-from_list}
use Rattle.std.proofs.lemmas.Map.Views.{btree_set_len-from_list}
use Rattle.judge_object.specs.declared.line.Line.{Line}
use Rattle.judge_object.specs.Call.{Call}
use Rattle.judge_search.specs.Calls.{call_of, calls_of}
use Rattle.judge_text.specs.declared.counting.Counts.{Counts}
use Rattle.judge_text.specs.Counting.{clients_in, objects_in, counts_of}

any_more : {K : Type 0} (p : K → Bool) (xs : List K) (k : K) →
    list_any p (xs ++ k ∷ []) ≡ cond (p k) true (list_any p xs)
any_more p [] k = last (p k)
  where
    last : (b : Bool) → (b || false) ≡ cond b true false
    last true = refl
    last false = refl
any_more p (x ∷ xs) k = ap (λ b. p x || b) (any_more p xs k) ∙ turned (p x) (p k) (list_any p xs)
  where
    turned : (a b c : Bool) → (a || cond b true c) ≡ cond b true (a || c)
    turned true true c = refl
    turned true false c = refl
    turned false true c = refl
    turned false false c = refl

-- the set has the keys of a list
abbrev pub HasKeys : {K : Type 0} → (K → K → Ordering) → BTreeSet K → List K → Type 0
HasKeys {K} R s xs = (q : K) → contains R s q ≡ is_member (eq_by_cmp R) xs q

module _ {K : Type 0} {R : K → K → Ordering} (o : IsTotalOrder R) where
  -- a set without keys
  pub keys_none : (s : BTreeSet K) → s.keys ≡ [] → HasKeys R s []
  keys_none s e q = ap (list_any (λ k. is_eq (R q k))) e

  -- one key more
  pub key_more : (s n : BTreeSet K) (k : K) (xs : List K) → HasKeys R s xs → Updates R s n k true →
      HasKeys R n (xs ++ k ∷ [])
  key_more s n k xs h u q =
      u.0 q
      ∙ ap (λ b. cond (is_eq (R k q)) true b) (h q)
      ∙ ap (λ b. cond b true (is_member (eq_by_cmp R) xs q)) ((eq_by_cmp_equiv o).symm k q)
      ∙ sym (any_more (eq_by_cmp R q) xs k)

  pub keys_counted : (s : BTreeSet K) (xs : List K) → HasKeys R s xs → IsOrdered R s →
      btree_set_len s ≡ distinct_count (eq_by_cmp R) xs
  keys_counted s xs h sorted = btree_set_len-from_list o xs s (h, sorted)

-- the keys of the first lines, and of one more
next_key : {A K : Type 0} (f : A → K) (lines : List A) (i : ℕ) (d : A) → i < length lines →
    map f (take (i + 1) lines) ≡ map f (take i lines) ++ f (get_or lines i d) ∷ []
next_key f lines i d l =
    ap (map f) (take_more lines i d l) ∙ map-append f (take i lines) (get_or lines i d ∷ [])

-- the keys of the calls of lines
pub map_both : {A B C : Type 0} (f : B → C) (g : A → B) (xs : List A) → map f (map g xs) ≡ map (λ x. f (g x)) xs
map_both f g [] = refl
map_both f g (x ∷ xs) = ap (λ ys. f (g x) ∷ ys) (map_both f g xs)

-- two tests that agree count alike
pub same_count : {K : Type 0} (eq other : K → K → Bool) (xs : List K) → ((x y : K) → eq x y ≡ other x y) →
    distinct_count eq xs ≡ distinct_count other xs
same_count eq other xs h i = distinct_count (λ x y. h x y i) xs

any_mapped : {A K : Type 0} (f : A → K) (p : K → Bool) (xs : List A) →
    list_any (λ x. p (f x)) xs ≡ list_any p (map f xs)
any_mapped f p [] = refl
any_mapped f p (x ∷ xs) = ap (λ b. p (f x) || b) (any_mapped f p xs)

-- things that are told apart by their keys are as many as their keys
pub count_mapped : {A K : Type 0} (f : A → K) (eq : K → K → Bool) (xs : List A) →
    distinct_count (λ x y. eq (f x) (f y)) xs ≡ distinct_count eq (map f xs)
count_mapped f eq [] = refl
count_mapped f eq (x ∷ xs) =
    ap (λ b. length (cond b (unique_keys (λ x y. eq (f x) (f y)) xs) (x ∷ unique_keys (λ x y. eq (f x) (f y)) xs)))
    (any_mapped f (eq (f x)) xs)
    ∙ step (list_any (eq (f x)) (map f xs)) (count_mapped f eq xs)
  where
    step : (b : Bool) → distinct_count (λ x y. eq (f x) (f y)) xs ≡ distinct_count eq (map f xs) →
        length (cond b (unique_keys (λ x y. eq (f x) (f y)) xs) (x ∷ unique_keys (λ x y. eq (f x) (f y)) xs))
        ≡ length (cond b (unique_keys eq (map f xs)) (f x ∷ unique_keys eq (map f xs)))
    step true e = e
    step false e = ap suc e

-- names are told apart by their bytes
abbrev pub name_eq : Bor (List ℕ) → Bor (List ℕ) → Bool
name_eq a b = bytes_eq a.now b.now

name_equiv : IsEquivalence name_eq
name_equiv = on_texts_equal (λ (b : Bor (List ℕ)). b.now)

-- the set has these names
pub record HasNames {S : Type 0} (s : HashSet (Bor (List ℕ)) S) (names : List (List ℕ)) : Type 0 where
  pub keys : List (Bor (List ℕ))
  pub are : map (λ key. key.now) keys ≡ names
  pub has : (q : Bor (List ℕ)) → hash.contains name_eq s q ≡ is_member name_eq keys q

pub names_none : {S : Type 0} (s : HashSet (Bor (List ℕ)) S) → s.keys ≡ [] → HasNames s []
names_none s e = record { keys = []; are = refl; has = λ q. ap (list_any (name_eq q)) e }

pub name_more : {S : Type 0} (s n : HashSet (Bor (List ℕ)) S) (k : Bor (List ℕ)) (names : List (List ℕ)) →
    HasNames s names → hash.Updates name_eq s n k true → HasNames n (names ++ k.now ∷ [])
name_more s n k names h u = record {
  keys = h.keys ++ k ∷ [];
  are = map-append (λ (b : Bor (List ℕ)). b.now) h.keys (k ∷ []) ∙ ap (λ ys. ys ++ k.now ∷ []) h.are;
  has = λ q.
      u.0 q
      ∙ ap (λ b. cond (name_eq k q) true b) (h.has q)
      ∙ ap (λ b. cond b true (is_member name_eq h.keys q)) (name_equiv.symm k q)
      ∙ sym (any_more (name_eq q) h.keys k);
}

pub names_counted : {S : Type 0} (s : HashSet (Bor (List ℕ)) S) (names : List (List ℕ)) → HasNames s names →
    hash.IsUnique name_eq s → hash_set_len s ≡ distinct_count bytes_eq names
names_counted s names h unique =
    hash_set_len-from_list name_equiv h.keys s (h.has, unique)
    ∙ count_mapped (λ (b : Bor (List ℕ)). b.now) bytes_eq h.keys
    ∙ ap (distinct_count bytes_eq) h.are

pub clients_counted : (s : BTreeSet ℕ) (clients : List ℕ) → HasKeys nat_cmp s clients → IsOrdered nat_cmp s →
    btree_set_len s ≡ distinct_count (λ a b. a == b) clients
clients_counted s clients h sorted =
    keys_counted nat_cmp_total s clients h sorted
    ∙ sym (same_count (λ a b. a == b) (eq_by_cmp nat_cmp) clients unsigned_ties)

-- the clients of all lines were put into the set
pub clients_of_lines : {O : Type 0} (lines : List (Line O)) (count place : ℕ) (s : BTreeSet ℕ) →
    count ≡ btree_set_len s → IsOrdered nat_cmp s → HasKeys nat_cmp s (map (λ line. line.client) (take place lines)) →
    take place lines ≡ lines → count ≡ clients_in (calls_of lines)
clients_of_lines {O} lines count place s len sorted h all =
    len
    ∙ clients_counted s (map (λ line. line.client) (take place lines)) h sorted
    ∙ ap (λ (ls : List (Line O)). distinct_count (λ a b. a == b) (map (λ line. line.client) ls)) all
    ∙ ap (distinct_count (λ a b. a == b)) (sym (map_both (λ (call : Call O). call.client) call_of lines))

-- the names of one line more
pub name_next : {O S : Type 0} (name : O → List ℕ) (lines : List (Line O)) (place : ℕ) (line : Line O)
    (s n : HashSet (Bor (List ℕ)) S) (k : Bor (List ℕ)) → place < length lines →
    k.now ≡ name (get_or lines place line).op → HasNames s (map (λ l. name l.op) (take place lines)) →
    hash.Updates name_eq s n k true →
    HasNames n (map (λ l. name l.op) (take (place + 1) lines))
name_next {O} {S} name lines place line s n k within is h u =
    subst (HasNames n)
    (ap (λ w. map (λ (l : Line O). name l.op) (take place lines) ++ w ∷ []) is
    ∙ sym (next_key (λ (l : Line O). name l.op) lines place line within))
    (name_more s n k (map (λ l. name l.op) (take place lines)) h u)

-- the names of all lines were put into the set
pub objects_of_lines : {O S : Type 0} (name : O → List ℕ) (lines : List (Line O)) (count place : ℕ)
    (s : HashSet (Bor (List ℕ)) S) → count ≡ hash_set_len s → hash.IsUnique name_eq s →
    HasNames s (map (λ l. name l.op) (take place lines)) →
    take place lines ≡ lines → count ≡ objects_in name (calls_of lines)
objects_of_lines {O} {S} name lines count place s len unique h all =
    len
    ∙ names_counted s (map (λ l. name l.op) (take place lines)) h unique
    ∙ ap (λ (ls : List (Line O)). distinct_count bytes_eq (map (λ l. name l.op) ls)) all
    ∙ ap (distinct_count bytes_eq) (sym (map_both (λ (call : Call O). name call.op) call_of lines))

-- the counts of the lines of a slice
pub counted_lines : {O : Type 0} (name : O → List ℕ) (counts : Counts) (slice lines : List (Line O)) →
    counts ≡ counts_of name (calls_of slice) → slice ≡ lines → counts ≡ counts_of name (calls_of lines)
counted_lines {O} name counts slice lines e is = e ∙ ap (λ (ls : List (Line O)). counts_of name (calls_of ls)) is
