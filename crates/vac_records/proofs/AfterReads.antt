-- Memories that hold a state, before and after reads.
use Rattle.std.proofs.Common.{◌≡◌, ℕ, List, length, refl, sym, ◌∙◌, arith}
use Rattle.tx_memory.specs.View.{View}
use Rattle.vac_model.specs.State.{State}
use Rattle.vac_records.specs.Items.{mem}
use Rattle.vac_records.specs.Steps.{kept_none, kept_both, stood}
use Rattle.vac_records.specs.Represents.{IsState}
use Rattle.vac_records.specs.InMemory.{HoldsState, OnlyRead}

pub read_none : (s : View) → OnlyRead s s
read_none s = record { kept = kept_none s; writes = refl }

-- reads, one after the other
pub read_both : (s s' s'' : View) → OnlyRead s s' → OnlyRead s' s'' → OnlyRead s s''
read_both s s' s'' h k = record {
  kept = kept_both s s' s'' h.kept k.kept;
  writes = k.writes ∙ h.writes;
}

-- the state of a memory after reads is the one before
pub state_on : (s s' : View) (image : List ℕ) (state : State) → s'.writes ≡ s.writes →
    IsState (mem s image) (length image) state → IsState (mem s' image) (length image) state
state_on s s' image state w h = rw w h

pub state_back : (s s' : View) (image : List ℕ) (state : State) → s'.writes ≡ s.writes →
    IsState (mem s' image) (length image) state → IsState (mem s image) (length image) state
state_back s s' image state w h = rw (sym w) h

pub held_on : (s s' : View) → OnlyRead s s' → HoldsState s → HoldsState s'
held_on s s' r h = record {
  inside = omega (arith, h.inside, r.kept.size);
  small = omega (arith, h.small, r.kept.size);
  under = λ image i. (let t = h.under image (stood r.kept image i) in (t.0, state_on s s' image t.0 r.writes t.1));
}
