-- The clients of calls, while they are put into a set one after the other, and how many different ones there are.
use Rattle.std.proofs.Common.{◌≡◌, ℕ, ◌+◌, ◌<◌, ◌||◌, ◌==◌, Bool, true, false, cond, List, [], ◌∷◌, ◌++◌, length}
use Rattle.std.proofs.Common.{map, take, get_or, refl, ap, sym, ◌∙◌, subst}
use Rattle.std.specs.List.{list_any}
use Rattle.std.specs.Ordering.{is_eq, eq_by_cmp, nat_cmp}
use Rattle.std.specs.Cmp.{eq_by_cmp_equiv, nat_cmp_total, unsigned_ties}
use Rattle.std.specs.BTreeSet.{BTreeSet, contains, Updates, IsOrdered, btree_set_len}
use Rattle.std.specs.Set.{is_member, distinct_count}
use Rattle.std.proofs.lemmas.List.{take_more, map-append}
use Rattle.std.proofs.lemmas.Map.Views.{btree_set_len-from_list}
use Rattle.judge_object.specs.declared.span.Span.{Span}
use Rattle.judge_coverage.specs.Coverage.{clients_in}

any_more : {K : Type 0} (p : K → Bool) (xs : List K) (k : K) →
    list_any p (xs ++ k ∷ []) ≡ cond (p k) true (list_any p xs)
any_more p [] k = last (p k)
  where
    last : (b : Bool) → (b || false) ≡ cond b true false
    last true = refl
    last false = refl
any_more p (x ∷ xs) k = ap (λ b. p x || b) (any_more p xs k) ∙ turned (p x) (p k) (list_any p xs)
  where
    turned : (a b c : Bool) → (a || cond b true c) ≡ cond b true (a || c)
    turned true true c = refl
    turned true false c = refl
    turned false true c = refl
    turned false false c = refl

-- the set has these clients
abbrev pub HasClients : BTreeSet ℕ → List ℕ → Type 0
HasClients s xs = (q : ℕ) → contains nat_cmp s q ≡ is_member (eq_by_cmp nat_cmp) xs q

pub clients_none : (s : BTreeSet ℕ) → s.keys ≡ [] → HasClients s []
clients_none s e q = ap (list_any (λ k. is_eq (nat_cmp q k))) e

client_more : (s n : BTreeSet ℕ) (k : ℕ) (xs : List ℕ) → HasClients s xs → Updates nat_cmp s n k true →
    HasClients n (xs ++ k ∷ [])
client_more s n k xs h u q =
    u.0 q
    ∙ ap (λ b. cond (is_eq (nat_cmp k q)) true b) (h q)
    ∙ ap (λ b. cond b true (is_member (eq_by_cmp nat_cmp) xs q)) ((eq_by_cmp_equiv nat_cmp_total).symm k q)
    ∙ sym (any_more (eq_by_cmp nat_cmp q) xs k)

-- the clients of the first calls, and of one more
pub clients_more : (calls : List Span) (place : ℕ) (call : Span) (s n : BTreeSet ℕ) → place < length calls →
    HasClients s (map (λ c. c.client) (take place calls)) → Updates nat_cmp s n (get_or calls place call).client true →
    HasClients n (map (λ c. c.client) (take (place + 1) calls))
clients_more calls place call s n l h u =
    subst (HasClients n)
    (sym (ap (map (λ (c : Span). c.client)) (take_more calls place call l)
    ∙ map-append (λ (c : Span). c.client) (take place calls) (get_or calls place call ∷ [])))
    (client_more s n (get_or calls place call).client (map (λ c. c.client) (take place calls)) h u)

-- the clients of all calls were put into the set
pub clients_counted : (calls : List Span) (count place : ℕ) (s : BTreeSet ℕ) → count ≡ btree_set_len s →
    IsOrdered nat_cmp s → HasClients s (map (λ c. c.client) (take place calls)) → take place calls ≡ calls →
    count ≡ clients_in calls
clients_counted calls count place s len sorted h all =
    len
    ∙ btree_set_len-from_list nat_cmp_total (map (λ (c : Span). c.client) (take place calls)) s (h, sorted)
    ∙ sym (same_count (map (λ (c : Span). c.client) (take place calls)))
    ∙ ap clients_in all
  where
    same_count : (xs : List ℕ) → distinct_count (λ a b. a == b) xs ≡ distinct_count (eq_by_cmp nat_cmp) xs
    same_count xs i = distinct_count (λ x y. unsigned_ties x y i) xs
