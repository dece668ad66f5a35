-- Looking items up, and choosing the dearest of each kind.
use Rattle.std.proofs.Common.{◌≡◌, ℕ, ◌+◌, List, [], ◌∷◌, ◌++◌, Option, Some, None, Bool, true, false, refl, sym, ap}
use Rattle.std.proofs.Common.{◌∙◌}
use Rattle.std.specs.Prelude.{◌≡◌, IfSome, fold, nat_lt, ◌==◌, if◌then◌else◌, true}
use Rattle.std.specs.Option.{option_map}
use Rattle.tx_memory.specs.View.{View, Loaded}
use Rattle.vac_model.specs.declared.items.Kind.{Kind}
use Rattle.vac_model.specs.declared.items.Kind.TheVariants.{Car, Flight, Room}
use Rattle.vac_model.specs.declared.items.Item.{Item}
use Rattle.vac_model.specs.Amounts.{is_id}
use Rattle.vac_model.specs.State.{State, Place, kind_number}
use Rattle.vac_model.specs.Step.{price_of}
use Rattle.vac_model.specs.Run.{dearer, choice_of}
use Rattle.vac_records.specs.InMemory.{OnlyRead}
use Rattle.vac_tasks.specs.Entries.{LacksItem, HasItemAt}
use Rattle.vac_tasks.specs.declared.trip.Choice.{Choice}
use Rattle.vac_tasks.specs.declared.trip.Choices.{Choices}
use Rattle.vac_tasks.specs.Trips.{priced, choice_in, dearer_of, with_found, IsKnownItem, LookedUp, Chosen}
use Rattle.vac_tasks.proofs.Held.{read_both, state_on, state_back, item_at_on, item_is, item_none}

-- a missing item
pub looked_none : (s s' : View) (kind : Kind) (id : ℕ) → OnlyRead s s' → LacksItem s' kind id →
    LookedUp s s' kind id None
looked_none s s' kind id reads l = record {
  reads = reads;
  price = λ image state i h.
      ap (λ (o : Option Item). option_map (λ item. item.price) o)
      (item_none s' kind id l image state i (state_on s s' image state reads.writes h));
  asked = tt;
  known = tt;
}

only_loaded : (s s' : View) (a v : ℕ) → Loaded s s' a v → OnlyRead s s'
only_loaded s s' a v l = record { kept = l.kept; writes = l.writes }

-- an item that is there
pub looked_up : (s s1 s2 : View) (kind : Kind) (c : Choice) → is_id c.id ≡ true → OnlyRead s s1 →
    HasItemAt s1 kind c.id c.item →
    Loaded s1 s2 (c.item + 7) c.price → LookedUp s s2 kind c.id (Some c)
looked_up s s1 s2 kind c id reads at loaded = record {
  reads = read_both s s1 s2 reads (only_loaded s1 s2 (c.item + 7) c.price loaded);
  price = λ image state i h.
      let found = item_is s1 kind c.id c.item at image state (loaded.kept.seen image i)
      (state_on s s1 image state reads.writes h) in
      ap (λ (o : Option Item). option_map (λ item. item.price) o) found ∙ ap (λ (p : ℕ). Some p)
      (loaded.answer image i);
  asked = refl;
  known = record {
    id = id;
    at = item_at_on s1 s2 kind c.id c.item (only_loaded s1 s2 (c.item + 7) c.price loaded) at;
    price = λ image state i h.
        let found = item_is s1 kind c.id c.item at image state (loaded.kept.seen image i)
        (state_back s1 s2 image state loaded.writes h) in
        ap (λ (o : Option Item). option_map (λ item. item.price) o) found ∙ ap (λ (p : ℕ). Some p)
        (loaded.answer image i);
  };
}

-- the dearer of two, as the definition sees them
dearer_priced : (best found : Option Choice) (id : ℕ) → IfSome found (λ c. c.id ≡ id) →
    priced (dearer_of best found) ≡ dearer (priced best) id (option_map (λ c. c.price) found)
dearer_priced None None id e = refl
dearer_priced (Some b) None id e = refl
dearer_priced None (Some f) id e = ap (λ (k : ℕ). Some (k, f.price)) e
dearer_priced (Some b) (Some f) id e =
    elim (nat_lt b.price f.price) as (λ t. priced (if t then Some f else Some b) ≡
    (if t then Some (id, f.price) else Some (b.id, b.price))) [
      | true ↦ ap (λ (k : ℕ). Some (k, f.price)) e
      | false ↦ refl
    ]

dearer_known : (P : Choice → Type 0) (best found : Option Choice) → IfSome best P → IfSome found P →
    IfSome (dearer_of best found) P
dearer_known P None None h k = h
dearer_known P (Some b) None h k = h
dearer_known P None (Some f) h k = k
dearer_known P (Some b) (Some f) h k = elim (nat_lt b.price f.price) as
    (λ t. IfSome (if t then Some f else Some b) P) [ true ↦ k | false ↦ h ]

-- only the choice of that kind is another one
with_choice : (cs : Choices) (kind k : Kind) (found : Option Choice) →
    choice_in (with_found cs kind found) k ≡ (if kind_number kind ==
    kind_number k then dearer_of (choice_in cs k) found else choice_in cs k)
with_choice cs Car Car found = refl
with_choice cs Car Flight found = refl
with_choice cs Car Room found = refl
with_choice cs Flight Car found = refl
with_choice cs Flight Flight found = refl
with_choice cs Flight Room found = refl
with_choice cs Room Car found = refl
with_choice cs Room Flight found = refl
with_choice cs Room Room found = refl

with_known : (P : Kind → Choice → Type 0) (cs : Choices) (kind k : Kind) (found : Option Choice) →
    IfSome (choice_in cs k) (P k) → IfSome found (P kind) → IfSome (choice_in (with_found cs kind found) k) (P k)
with_known P cs Car Car found h f = dearer_known (P Car) cs.car found h f
with_known P cs Car Flight found h f = h
with_known P cs Car Room found h f = h
with_known P cs Flight Car found h f = h
with_known P cs Flight Flight found h f = dearer_known (P Flight) cs.flight found h f
with_known P cs Flight Room found h f = h
with_known P cs Room Car found h f = h
with_known P cs Room Flight found h f = h
with_known P cs Room Room found h f = dearer_known (P Room) cs.room found h f

-- one step of the definition's choice
abbrev chooses : State → Kind → Option (ℕ × ℕ) → Place → Option (ℕ × ℕ)
chooses state k best ask = if kind_number ask.0 == kind_number k then dearer best ask.1
    (price_of state ask.0 ask.1) else best

fold_more : {A B : Type 0} (f : B → A → B) (z : B) (xs : List A) (x : A) → fold f z (xs ++ x ∷ []) ≡ f (fold f z xs) x
fold_more f z [] x = refl
fold_more f z (y ∷ ys) x = fold_more f (f z y) ys x

choice_more : (state : State) (k : Kind) (asks : List Place) (ask : Place) →
    choice_of state k (asks ++ ask ∷ []) ≡ chooses state k (choice_of state k asks) ask
choice_more state k asks ask = fold_more (chooses state k) None asks ask

known_on : (s s' : View) (kind : Kind) (o : Option Choice) → OnlyRead s s' → IfSome o (λ c. IsKnownItem s kind c) →
    IfSome o (λ c. IsKnownItem s' kind c)
known_on s s' kind None reads h = tt
known_on s s' kind (Some c) reads h = record {
  id = h.id;
  at = item_at_on s s' kind c.id c.item reads h.at;
  price = λ image state i h'.
      h.price image state (reads.kept.seen image i) (state_back s s' image state reads.writes h');
}

-- nothing is chosen
abbrev nothing : Choices
nothing = record { car = None; flight = None; room = None }

-- the choice of a kind after one ask more, as the definition sees it
both_priced : (same : Bool) (best found : Option Choice) (id : ℕ) → IfSome found (λ c. c.id ≡ id) →
    (if same then dearer (priced best) id (option_map (λ c. c.price) found) else priced best) ≡ priced
    (if same then dearer_of best found else best)
both_priced true best found id e = sym (dearer_priced best found id e)
both_priced false best found id e = refl

-- one ask more
pub chosen_more : (s s1 s2 : View) (asks more : List Place) (ask : Place) (cs cs' : Choices) (found : Option Choice) →
    Chosen s s1 asks cs → LookedUp s1 s2 ask.0 ask.1 found →
    more ≡ asks ++ ask ∷ [] → cs' ≡ with_found cs ask.0 found → Chosen s s2 more cs'
chosen_more s s1 s2 asks more ask cs cs' found before looked one new = rw (one, new) (record {
  reads = read_both s s1 s2 before.reads looked.reads;
  are = λ image state i h k.
      let i1 = looked.reads.kept.seen image i in
      let price = looked.price image state i (state_on s s1 image state before.reads.writes h) in
      choice_more state k asks ask
      ∙ ap (λ (best : Option (ℕ × ℕ)). chooses state k best ask) (before.are image state i1 h k)
      ∙ ap (λ (p : Option ℕ). if kind_number ask.0 == kind_number k then dearer
      (priced (choice_in cs k)) ask.1 p else priced (choice_in cs k)) price
      ∙ both_priced (kind_number ask.0 == kind_number k) (choice_in cs k) found ask.1 looked.asked
      ∙ sym (ap priced (with_choice cs ask.0 k found));
  known = record {
    known = λ k.
        with_known (λ kind c. IsKnownItem s2 kind c) cs ask.0 k found
        (known_on s1 s2 k (choice_in cs k) looked.reads (before.known.known k)) looked.known;
  };
})
