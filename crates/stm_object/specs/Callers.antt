-- Users, and callers: a user together with the memory that it calls.
use Rattle.std.specs.Prelude.{◌≡◌, ◌<◌}
use Rattle.atomic_table.specs.Seated.{TableId}
use Rattle.stm_core.specs.Client.{Client}
use Rattle.stm_core.specs.Core.{IsFreeHanded}
use Rattle.stm_core.specs.Event.{giving, fresh}
use Rattle.stm_region.specs.Shown.{RegionShown, with_gathered}
use Rattle.stm_region.specs.declared.fault.RegionFault.{RegionFault}
use Rattle.stm_region.specs.declared.fault.RegionFault.TheVariants.{Clients}
use Rattle.stm_object.specs.Object.{Specification}
use Rattle.stm_object.specs.History.{IsOpened}

-- a user as contracts see it: its memory, the value of its client, and the state that the user
-- keeps for itself
pub record UserShown (Own : Type 0) : Type 0 where
  pub table : TableId
  pub value : Client
  pub own : Own

-- a caller as contracts see it: the region of its memory, and its user
pub record CallerShown (Own : Type 0) : Type 0 where
  pub shared : RegionShown
  pub user : UserShown Own

-- the caller goes on: the memory is the same, and the user is the same except for the value of its
-- client
abbrev pub GoesOn : {Own : Type 0} → CallerShown Own → CallerShown Own → Type 0
GoesOn y y' = y' ≡ record y { user = record y.user { value = y'.user.value } }

-- the user belongs to this memory
abbrev pub IsOwn : {Own : Type 0} → CallerShown Own → Type 0
IsOwn y = y.user.table ≡ y.shared.table

-- a user was split off for one grant; the states that the two users keep for themselves are in this
-- relation to the state before
pub record Splits {Own : Type 0} (splits : Own → Own → Own → Type 0)
    (before after other : UserShown Own) : Type 0 where
  pub some : 0 < before.value.grants
  pub mine : after ≡ record before { value = giving before.value; own = after.own }
  pub theirs : other ≡ record before { value = fresh before.value; own = other.own }
  pub own : splits before.own after.own other.own

-- no user could be split off, because no grant was left
pub record RefusesSplit {Own : Type 0} (fault : RegionFault) (before after : UserShown Own)
    : Type 0 where
  pub fault_is : fault ≡ Clients
  pub none : before.value.grants ≡ 0
  pub same : after ≡ before

-- a caller gathered the user of another caller: its records, its grants and one more grant
abbrev pub gathered : {Own : Type 0} → CallerShown Own → CallerShown Own → CallerShown Own
gathered y other =
    record y { user = record y.user { value = with_gathered y.user.value other.user.value } }

-- the caller is between two calls: the user belongs to the memory, which was opened as a memory of
-- the object, and holds no lock
pub record IsAtRest {Own E : Type 0} (o : Specification E) (y : CallerShown Own) : Type 0 where
  pub own : IsOwn y
  pub opened : IsOpened o y.shared
  pub free_handed : IsFreeHanded y.user.value
