-- The choices of a trip are among its asks.
use Rattle.std.proofs.Common.{arith}
use Rattle.std.proofs.lemmas.Bool.Decides.{nat_tests}
use Rattle.std.proofs.Common.{◌≡◌, ℕ, true, false, List, [], ◌∷◌}
use Rattle.std.specs.Prelude.{◌≡◌, Option, Some, None, IfSome, fold, nat_lt, ◌==◌, if◌then◌else◌, true}
use Rattle.std.specs.List.{list_all}
use Rattle.vac_model.specs.declared.items.Kind.{Kind}
use Rattle.vac_model.specs.Amounts.{is_id}
use Rattle.vac_model.specs.State.{State, Place, kind_number}
use Rattle.vac_model.specs.Step.{price_of}
use Rattle.vac_model.specs.Run.{Choice, dearer, choice_of}
use Rattle.vac_model.proofs.Ids.{both_true}

-- a choice with an id
abbrev pub HasId : Option Choice → Type 0
HasId o = IfSome o (λ c. is_id c.0 ≡ true)

dearer_id : (best : Option Choice) (id : ℕ) (price : Option ℕ) → HasId best → is_id id ≡ true →
    HasId (dearer best id price)
dearer_id best id None h e = h
dearer_id None id (Some price) h e = e
dearer_id (Some best) id (Some price) h e =
    elim (nat_lt best.1 price) as (λ b. HasId (if b then Some (id, price) else Some best)) [ true ↦ e | false ↦ h ]

ids_of : (s : State) (kind : Kind) (asks : List Place) (best : Option Choice) → HasId best →
    list_all (λ ask. is_id ask.1) asks ≡ true
    → HasId (fold (λ best ask. if kind_number ask.0 == kind_number kind then dearer best ask.1
    (price_of s ask.0 ask.1) else best) best asks)
ids_of s kind [] best h e = h
ids_of s kind (ask ∷ asks) best h e = grind (
  arith,
  nat_tests,
  both_true (is_id ask.1) (list_all (λ ask. is_id ask.1) asks) e,
  dearer_id best ask.1 (price_of s ask.0 ask.1) h,
  ids_of s kind asks,
)

pub choice_id : (s : State) (kind : Kind) (asks : List Place) → list_all (λ ask. is_id ask.1) asks ≡ true →
    HasId (choice_of s kind asks)
choice_id s kind asks e = ids_of s kind asks None tt e
