-- Words without a flaw represent a balanced state.
use Rattle.std.proofs.Common.{◌≡◌, ℕ, ◌+◌, ◌*◌, ◌≤◌, sym, subst}
use Rattle.vac_model.specs.declared.limits.TheConstants.{MOST_BLOCKS}
use Rattle.vac_model.specs.declared.replies.Report.{Report}
use Rattle.vac_records.specs.Heap.{Parts}
use Rattle.vac_audit.specs.Walk.{walk, report_of}
use Rattle.vac_audit.proofs.Sound.{IsSound}
use Rattle.vac_audit.proofs.States.{state_of}
use Rattle.vac_audit.specs.Laws.{StateWith, StateFound}
use Rattle.vac_audit.proofs.Steps.{both_ok}
use Rattle.vac_audit.proofs.Walked.{sound_law}
use Rattle.vac_audit.proofs.Showing.{state_law}
use Rattle.vac_audit.proofs.Represented.{represented}
use Rattle.vac_audit.proofs.Balanced.{balanced}

of_parts : (m : ℕ → ℕ) (blocks : ℕ) (p : Parts) → blocks ≤ MOST_BLOCKS → IsSound m (16 + 8 * blocks) p →
    StateWith m blocks (report_of m p)
of_parts m blocks p few h = record {
  state = state_of m blocks p;
  represented = record {
    represents = represented m blocks p h;
    small = record { balanced = balanced m blocks p h; small = few };
  };
  report_is = sym (state_law m blocks p h).1;
}

pub state_found : StateFound
state_found m blocks found few e = both_ok _ (walk m blocks) _ found e (λ p f g.
    let r : report_of m p ≡ found = cc in
    subst (λ (z : Report). StateWith m blocks z) r (of_parts m blocks p few (sound_law m blocks p f)))
