-- Lists whose elements are related place by place.
use Rattle.std.proofs.Common.{◌≡◌, ◌∙◌, ◌++◌, ◌<◌, ℕ, zero, suc, slice_index_or, List, [], ◌∷◌, length, length-append}
use Rattle.std.proofs.Common.{map, min, ◌+◌, ◌≤◌, append-nil, append_assoc, All, refl, sym, ap, subst, arith, rules}
use Rattle.std.specs.Vec.Iter.{into_iter_items, into_iter_len}
use Rattle.load_tasks.specs.declared.settings.Settings.{Settings}
use Rattle.load_run.specs.declared.workers.Worker.{Worker}
use Rattle.load_run.specs.declared.workers.WorkerPromise.{WorkerPromise}
use Rattle.load_run.specs.Lists.{Paired, none, both}
use Rattle.load_run.specs.Slots.{SlotShown}
use Rattle.load_run.specs.Load.{IsPromise, DidWork}

-- one place more
pub paired_more : {A B : Type 0} (related : A → B → Type 0) (xs : List A) (ys : List B) (x : A) (y : B) →
    Paired related xs ys → related x y → Paired related (xs ++ (x ∷ [])) (ys ++ (y ∷ []))
paired_more related [] [] x y none r = both r none
paired_more related (a ∷ xs) (b ∷ ys) x y (both q p) r = both q (paired_more related xs ys x y p r)
paired_more related [] (b ∷ ys) x y p r = elim p [ ]
paired_more related (a ∷ xs) [] x y p r = elim p [ ]

pub paired_length : {A B : Type 0} (related : A → B → Type 0) (xs : List A) (ys : List B) → Paired related xs ys →
    length ys ≡ length xs
paired_length related [] [] none = refl
paired_length related (x ∷ xs) (y ∷ ys) (both r p) = ap suc (paired_length related xs ys p)
paired_length related [] (y ∷ ys) p = elim p [ ]
paired_length related (x ∷ xs) [] p = elim p [ ]

-- relations in a row
pub paired_through : {A B C : Type 0} (f : A → B → Type 0) (g : B → C → Type 0) (h : A → C → Type 0) →
    ((a : A) (b : B) (c : C) → f a b → g b c → h a c) →
    (xs : List A) (ys : List B) (zs : List C) → Paired f xs ys → Paired g ys zs → Paired h xs zs
paired_through f g h through [] [] [] none none = none
paired_through f g h through (a ∷ xs) (b ∷ ys) (c ∷ zs) (both p ps) (both q qs) =
    both (through a b c p q) (paired_through f g h through xs ys zs ps qs)
paired_through f g h through [] [] (c ∷ zs) ps qs = elim qs [ ]
paired_through f g h through [] (b ∷ ys) zs ps qs = elim ps [ ]
paired_through f g h through (a ∷ xs) [] zs ps qs = elim ps [ ]
paired_through f g h through (a ∷ xs) (b ∷ ys) [] ps qs = elim qs [ ]

-- nothing yet
pub paired_none : {A B : Type 0} (related : A → B → Type 0) (ys : List B) → ys ≡ [] → Paired related [] ys
paired_none related ys e = subst (λ (l : List _). Paired related [] l) (sym e) none

-- the same behind lists that are known by an equation
pub paired_step : {A B : Type 0} (related : A → B → Type 0) (xs : List A) (ys ys' : List B) (x : A) (y : B) →
    ys' ≡ ys ++ (y ∷ []) → Paired related xs ys → related x y → Paired related (xs ++ (x ∷ [])) ys'
paired_step related xs ys ys' x y e p r = subst (λ (l : List _). Paired related (xs ++ (x ∷ [])) l) (sym e)
    (paired_more related xs ys x y p r)

no_more : {A : Type 0} (xs : List A) → length xs ≡ 0 → xs ≡ []
no_more [] e = refl
no_more (x ∷ xs) e = absurd (omega arith)

-- nothing is left
pub paired_all : {A B : Type 0} (related : A → B → Type 0) (all xs rest : List A) (ys : List B) → all ≡ xs ++ rest →
    length rest ≡ 0 → Paired related xs ys → Paired related all ys
paired_all related all xs rest ys e n p = subst (λ (l : List _). Paired related l ys)
    (sym (e ∙ (ap (λ (r : List _). xs ++ r) (no_more rest n) ∙ append-nil xs))) p

-- all of them were met
pub all_met : {A : Type 0} (all xs rest : List A) → all ≡ xs ++ rest → length rest ≡ 0 → xs ≡ all
all_met all xs rest e n = sym (e ∙ (ap (λ (r : List _). xs ++ r) (no_more rest n) ∙ append-nil xs))

-- the first of what is left goes over
pub one_on : {A : Type 0} (all xs rest rest' : List A) (x : A) → all ≡ xs ++ rest → rest ≡ x ∷ rest' →
    all ≡ (xs ++ (x ∷ [])) ++ rest'
one_on all xs rest rest' x e f = e ∙ (ap (λ (l : List _). xs ++ l) f ∙ sym (append_assoc xs (x ∷ []) rest'))

pub all_cons : {A : Type 0} (P : A → Type 0) (x : A) (xs : List A) → P x → All P xs → (k : ℕ) (d : A) →
    k < length (x ∷ xs) → P (slice_index_or (x ∷ xs) k d)
all_cons P x xs p h zero d less = p
all_cons P x xs p h (suc k) d less = h k d (omega (arith, less))

all_last : {A : Type 0} (P : A → Type 0) (xs : List A) (x : A) → All P xs → P x → All P (xs ++ (x ∷ []))
all_last P [] x h p = all_cons P x [] p h
all_last P (y ∷ xs) x h p = all_cons P y (xs ++ (x ∷ [])) (h 0 y (omega arith))
    (all_last P xs x (λ k d l. h (suc k) d (omega (arith, l))) p)

-- one element more
pub all_more : {A : Type 0} (P : A → Type 0) (xs ys : List A) (x : A) → ys ≡ xs ++ (x ∷ []) → All P xs → P x → All P ys
all_more P xs ys x e h p = subst (λ (l : List _). All P l) (sym e) (all_last P xs x h p)

pub all_none : {A : Type 0} (P : A → Type 0) (xs : List A) → xs ≡ [] → All P xs
all_none P xs e = subst (λ (l : List _). All P l) (sym e) (λ k d less. absurd (omega (arith, less)))

pub all_same : {A : Type 0} (P : A → Type 0) (xs ys : List A) → ys ≡ xs → All P xs → All P ys
all_same P xs ys e h = subst (λ (l : List _). All P l) (sym e) h

pub all_but_first : {A : Type 0} (P : A → Type 0) (xs ys : List A) (x : A) → xs ≡ x ∷ ys → All P xs → All P ys
all_but_first P xs ys x e h = let g : All P (x ∷ ys) = subst (λ (l : List _). All P l) e h in
    λ k d less. g (suc k) d (omega (arith, less))

-- a promise of work that was kept
pub kept_promise : {W D : Type 0} (leads : D → ℕ → D → Type 0) (shown_of : W →
    SlotShown D) (s : Settings) (w : Worker W) (p : WorkerPromise W) (d : Worker W) →
    IsPromise s w p → DidWork leads shown_of p.settings p.worker.value d → DidWork leads shown_of s w d
kept_promise leads shown_of s w p d h k =
    subst (λ (x : Settings). DidWork leads shown_of x w d) h.settings_is
    (subst (λ (x : Worker _). DidWork leads shown_of p.settings x d) h.worker_is k)

-- promises of work that were kept
pub worked_through : {W H D : Type 0} (leads : D → ℕ → D → Type 0) (shown_of : W →
    SlotShown D) (s : Settings) (promise : H → WorkerPromise W)
    (ws : List (Worker W)) (hs : List H) (ds : List (Worker W)) →
    Paired (λ w h. IsPromise s w (promise h)) ws hs → Paired
    (λ h d. DidWork leads shown_of (promise h).settings (promise h).worker.value d) hs ds →
    Paired (DidWork leads shown_of s) ws ds
worked_through leads shown_of s promise ws hs ds = paired_through _ _ _
    (λ w h d p k. kept_promise leads shown_of s w (promise h) d p k) ws hs ds

pub all_first : {A : Type 0} (P : A → Type 0) (xs ys : List A) (x : A) → xs ≡ x ∷ ys → All P xs → P x
all_first P xs ys x e h = let g : All P (x ∷ ys) = subst (λ (l : List _). All P l) e h in g 0 x (omega arith)

map_length : {A B : Type 0} (f : A → B) (xs : List A) → length (map f xs) ≡ length xs
map_length f [] = refl
map_length f (x ∷ xs) = ap suc (map_length f xs)

-- lists with the same images are equally long
pub same_length : {A B C : Type 0} (f : A → C) (g : B → C) (xs : List A) (ys : List B) → map f xs ≡ map g ys →
    length xs ≡ length ys
same_length f g xs ys e = sym (map_length f xs) ∙ (ap (λ (l : List _). length l) e ∙ map_length g ys)

-- a list is as long as that of its images
pub image_length : {A C : Type 0} (f : A → C) (xs : List A) (ys : List C) → map f xs ≡ ys → length xs ≡ length ys
image_length f xs ys e = sym (map_length f xs) ∙ ap (λ (l : List _). length l) e

-- one element more
pub one_longer : {A : Type 0} (ys xs : List A) (x : A) → ys ≡ xs ++ (x ∷ []) → length ys ≡ length xs + 1
one_longer ys xs x e = ap (λ (l : List _). length l) e ∙ length-append xs (x ∷ [])

-- the room for the others is left beside the first one
pub room_left : (n k l l' room room' : ℕ) → k ≡ n → l' ≡ l + 1 → room' ≡ room → l ≡ 0 → n < room → l' + k ≤ room'
room_left n k l l' room room' e f same empty less = omega arith

-- one place is taken
pub room_taken : (l l' k k' room room' : ℕ) → k' + 1 ≡ k → l' ≡ l + 1 → room' ≡ room → l + k ≤ room → l' + k' ≤ room'
room_taken l l' k k' room room' less e same has = omega arith

-- there is a place for the one that is taken
pub room_here : (l k k' room : ℕ) → k' + 1 ≡ k → l + k ≤ room → l < room
room_here l k k' room less has = omega arith

-- at the beginning all is left
pub room_first : (l k n room : ℕ) → l ≡ 0 → k ≡ n → n ≤ room → l + k ≤ room
room_first l k n room empty all fits = omega arith

pub count_first : (l k n : ℕ) → l ≡ 0 → k ≡ n → l + k ≡ n
count_first l k n empty all = omega arith

-- one goes over to those that were counted
pub count_kept : (l l' k k' n : ℕ) → k' + 1 ≡ k → l' ≡ l + 1 → l + k ≡ n → l' + k' ≡ n
count_kept l l' k k' n less e all = omega arith

-- the grants of one that is taken in come back with its own
pub held_back : (a b a' k k' : ℕ) → k' + 1 ≡ k → b ≡ 0 → a' ≡ min (a + b + 1) 63 → a + k ≡ 63 → a' + k' ≡ 63
held_back a b a' k k' less alone e all = omega arith

-- one place is taken by one of those that are left
pub counted_on : (l l' k k' n : ℕ) → k' + 1 ≡ k → l' ≡ l + 1 → l + k + 1 ≡ n → l' + k' + 1 ≡ n
counted_on l l' k k' n less e all = omega arith

-- a grant goes to one that is split off
pub handed_out : (a a' l l' : ℕ) → a' + 1 ≡ a → l' ≡ l + 1 → a + l ≡ 63 → a' + l' ≡ 63
handed_out a a' l l' less e all = omega arith

-- an iterator at its end has nothing left
pub nothing_left : {A Z : Type 0} (it : _) → into_iter_len {X = A} {Z = Z} it ≡ 0 → length (into_iter_items it) ≡ 0
nothing_left it e = search rules
