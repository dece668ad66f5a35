-- If the table of implications does not say that a level implies another one, a history separates them.
use Rattle.std.proofs.Common.{◌≡◌, true, false, List, refl, sym}
use Rattle.judge_object.specs.Call.{Call}
use Rattle.judge_snapshot.specs.WriteSets.{AreWriteSets}
use Rattle.judge_snapshot.specs.Registers.{Registers, registers, register_writes}
use Rattle.judge_snapshot.specs.Examples.{write_skew, stale_read, unseen_write}
use Rattle.judge_snapshot.specs.Hierarchy.{StrictSerializable, StrongSnapshot, SessionSnapshot, Snapshot, Sequential}
use Rattle.judge_snapshot.specs.Hierarchy.{Serializable, Level, implies, IsAtLevel}
use Rattle.judge_snapshot.specs.Separations.{IsSeparated, OtherLevelsAreSeparated}
use Rattle.judge_snapshot.proofs.Tests.{false_true}
use Rattle.judge_snapshot.proofs.Hierarchy.{implied_levels_hold}
use Rattle.judge_snapshot.proofs.TwoCalls.{write_skew_is_isolated, stale_read_is_not_strong}
use Rattle.judge_snapshot.proofs.TwoCalls.{unseen_write_is_not_session}

pub register_laws : AreWriteSets registers register_writes
register_laws = record { own = λ s start calls op. refl; equal = λ v w e. absurd (false_true e) }

abbrev Is : Level → List (Call Registers) → Type 0
Is level history = IsAtLevel registers register_writes level (0, 0) history

step : (level other : Level) → implies level other ≡ true → (history : List (Call Registers)) → Is level history →
    Is other history
step level other e history h = implied_levels_hold registers register_writes register_laws level other e (
  0,
  0,
) refl history h

-- write skew: at each level that strong snapshot isolation implies, at none that implies serializability
skew : (level other : Level) → implies StrongSnapshot level ≡ true → implies other Serializable ≡ true →
    IsSeparated level other
skew level other e f = record {
  history = write_skew;
  has = step StrongSnapshot level e write_skew write_skew_is_isolated.0;
  lacks = λ h. write_skew_is_isolated.1 (step other Serializable f write_skew h);
}

-- stale read: at each level that sequential consistency implies, at none that implies strong snapshot isolation
stale : (level other : Level) → implies Sequential level ≡ true → implies other StrongSnapshot ≡ true →
    IsSeparated level other
stale level other e f = record {
  history = stale_read;
  has = step Sequential level e stale_read stale_read_is_not_strong.0;
  lacks = λ h. stale_read_is_not_strong.1 (step other StrongSnapshot f stale_read h);
}

-- own write unseen: at each level that serializability implies, at none that implies strong session snapshot isolation
unseen : (level other : Level) → implies Serializable level ≡ true → implies other SessionSnapshot ≡ true →
    IsSeparated level other
unseen level other e f = record {
  history = unseen_write;
  has = step Serializable level e unseen_write unseen_write_is_not_session.0;
  lacks = λ h. unseen_write_is_not_session.1 (step other SessionSnapshot f unseen_write h);
}

true_false : true ≡ false → ⊥
true_false e = false_true (sym e)

pub other_levels_are_separated : OtherLevelsAreSeparated
other_levels_are_separated StrictSerializable other e = absurd (true_false e)
other_levels_are_separated StrongSnapshot StrictSerializable e = skew StrongSnapshot StrictSerializable refl refl
other_levels_are_separated StrongSnapshot StrongSnapshot e = absurd (true_false e)
other_levels_are_separated StrongSnapshot SessionSnapshot e = absurd (true_false e)
other_levels_are_separated StrongSnapshot Snapshot e = absurd (true_false e)
other_levels_are_separated StrongSnapshot Sequential e = skew StrongSnapshot Sequential refl refl
other_levels_are_separated StrongSnapshot Serializable e = skew StrongSnapshot Serializable refl refl
other_levels_are_separated SessionSnapshot StrictSerializable e = skew SessionSnapshot StrictSerializable refl refl
other_levels_are_separated SessionSnapshot StrongSnapshot e = stale SessionSnapshot StrongSnapshot refl refl
other_levels_are_separated SessionSnapshot SessionSnapshot e = absurd (true_false e)
other_levels_are_separated SessionSnapshot Snapshot e = absurd (true_false e)
other_levels_are_separated SessionSnapshot Sequential e = skew SessionSnapshot Sequential refl refl
other_levels_are_separated SessionSnapshot Serializable e = skew SessionSnapshot Serializable refl refl
other_levels_are_separated Snapshot StrictSerializable e = skew Snapshot StrictSerializable refl refl
other_levels_are_separated Snapshot StrongSnapshot e = stale Snapshot StrongSnapshot refl refl
other_levels_are_separated Snapshot SessionSnapshot e = unseen Snapshot SessionSnapshot refl refl
other_levels_are_separated Snapshot Snapshot e = absurd (true_false e)
other_levels_are_separated Snapshot Sequential e = skew Snapshot Sequential refl refl
other_levels_are_separated Snapshot Serializable e = skew Snapshot Serializable refl refl
other_levels_are_separated Sequential StrictSerializable e = stale Sequential StrictSerializable refl refl
other_levels_are_separated Sequential StrongSnapshot e = stale Sequential StrongSnapshot refl refl
other_levels_are_separated Sequential SessionSnapshot e = absurd (true_false e)
other_levels_are_separated Sequential Snapshot e = absurd (true_false e)
other_levels_are_separated Sequential Sequential e = absurd (true_false e)
other_levels_are_separated Sequential Serializable e = absurd (true_false e)
other_levels_are_separated Serializable StrictSerializable e = unseen Serializable StrictSerializable refl refl
other_levels_are_separated Serializable StrongSnapshot e = unseen Serializable StrongSnapshot refl refl
other_levels_are_separated Serializable SessionSnapshot e = unseen Serializable SessionSnapshot refl refl
other_levels_are_separated Serializable Snapshot e = absurd (true_false e)
other_levels_are_separated Serializable Sequential e = unseen Serializable Sequential refl refl
other_levels_are_separated Serializable Serializable e = absurd (true_false e)
