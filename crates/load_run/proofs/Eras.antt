-- Records of several renewals: one writer a version, and readers that wrote nothing.
use Rattle.std.proofs.Common.{◌≡◌, ◌∙◌, ℕ, suc, ◌+◌, ◌<◌, List, [], ◌∷◌, ◌++◌, inl, inr, append_assoc, append-nil, refl}
use Rattle.std.proofs.Common.{sym, ap, subst, arith}
use Rattle.tx_memory.specs.Image.{In}
use Rattle.stm_core.specs.Client.{Client, Record, of_renewal}
use Rattle.stm_core.proofs.Lists.{nothing_in}
use Rattle.stm_core.proofs.Eras.{in_append, of_padded}
use Rattle.stm_region.specs.Shown.{RegionShown}
use Rattle.vac_manager.specs.Legal.{HaveOneWriter, AreVersioned}
use Rattle.vac_manager.specs.Called.{ClientShown}
use Rattle.vac_manager.specs.Renewed.{ClosesSomewhere}
use Rattle.load_tasks.specs.Draws.{Reader}
use Rattle.vac_model.specs.declared.commands.Command.{Command}
use Rattle.load_run.specs.Opening.{RanDrawn}
use Rattle.load_run.specs.Alone.{IsInRenewal}

none_versioned : AreVersioned []
none_versioned = record { writers = tt; readers = λ r i. absurd (nothing_in r i) }

-- writers of two renewals are no rivals
writers_both : (n : ℕ) (past present : List Record) → HaveOneWriter past → HaveOneWriter present →
    ((r : Record) → In r past → r.renewal < n) → ((r : Record) → In r present → r.renewal ≡ n) →
    HaveOneWriter (past ++ present)
writers_both n [] present w k earlier now = k
writers_both n (x ∷ past) present w k earlier now = (
  λ r i. elim (in_append past present r i) [
    | inl j ↦ w.0 r j
    | inr j ↦ λ same _ _ _. (let a = earlier x (0, refl) in let b = now r j in absurd (omega (arith, a, b, same)))
  ],
  writers_both n past present w.1 k (λ r i. earlier r (suc i.0, i.1)) now,
)

versioned_both : (n : ℕ) (past present : List Record) → AreVersioned past → AreVersioned present →
    ((r : Record) → In r past → r.renewal < n) → ((r : Record) → In r present → r.renewal ≡ n) →
    AreVersioned (past ++ present)
versioned_both n past present v k earlier now = record {
  writers = writers_both n past present v.writers k.writers earlier now;
  readers = λ r i e. elim (in_append past present r i) [
    | inl j ↦ v.readers r j e
    | inr j ↦ k.readers r j e
  ];
}

-- with those of this renewal all have one writer a version
pub all_versioned : (n : ℕ) (records : List Record) → IsInRenewal n records → AreVersioned (of_renewal n records) →
    AreVersioned records
all_versioned n records h v =
    let present : of_renewal n records ≡ h.present = ap (λ (l : List Record). of_renewal n l) h.records_are ∙
    of_padded n h.past h.present h.earlier h.now in
    subst (λ (l : List Record). AreVersioned l) (sym h.records_are)
    (versioned_both n h.past h.present h.versioned (subst (λ (l : List Record). AreVersioned l) present v) h.earlier
    h.now)

-- records of this renewal were added
pub more_in : (n : ℕ) (before rest after : List Record) → IsInRenewal n before → after ≡ before ++ rest →
    ((r : Record) → In r rest → r.renewal ≡ n) → IsInRenewal n after
more_in n before rest after h e now = record {
  past = h.past;
  present = h.present ++ rest;
  records_are = e ∙ (ap (λ (l : List Record). l ++ rest) h.records_are ∙ append_assoc h.past h.present rest);
  versioned = h.versioned;
  earlier = h.earlier;
  now = λ r i. elim (in_append h.present rest r i) [ inl j ↦ h.now r j | inr j ↦ now r j ];
}

-- those of the opening are of one renewal
pub opened_in : {D : Type 0} (leads : D → ℕ → D → Type 0) (renewal : ℕ) (reader : Reader (List Command)) (v v' : Client)
    (state last : D) → v.records ≡ [] → RanDrawn leads renewal reader v v' state last → IsInRenewal renewal v'.records
opened_in leads renewal reader v v' state last empty ran =
    let a = ran.answered in
    let none : IsInRenewal renewal v.records = record {
      past = [];
      present = [];
      records_are = empty;
      versioned = none_versioned;
      earlier = λ r i. absurd (nothing_in r i);
      now = λ r i. absurd (nothing_in r i);
    } in
    more_in renewal v.records a.added v'.records none a.records (λ r i. (a.each r i).renewal_is)

-- after a renewal all are of earlier ones
pub renewed_in : (region region' : RegionShown) (c c' : ClientShown) (words : List ℕ) →
    ClosesSomewhere region c.value words → region'.renewal ≡ region.renewal + 1 → c'.value.records ≡ c.value.records →
    IsInRenewal region.renewal c.value.records → IsInRenewal region'.renewal c'.value.records
renewed_in region region' c c' words h e same in_it =
    let now : IsInRenewal (region.renewal + 1) c.value.records = record {
      past = c.value.records;
      present = [];
      records_are = sym (append-nil c.value.records);
      versioned = all_versioned region.renewal c.value.records in_it h.1.versioned;
      earlier = h.1.ends.eras;
      now = λ r i. absurd (nothing_in r i);
    } in
    subst (λ (n : ℕ). IsInRenewal n c'.value.records) (sym e)
    (subst (λ (l : List Record). IsInRenewal (region.renewal + 1) l) (sym same) now)
