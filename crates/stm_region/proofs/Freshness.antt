-- A begin in a run finds every version that any client knows.
use Rattle.std.proofs.Common.{◌≡◌, ℕ, suc, ◌≤◌, List, slice_index, sym, ap, ◌∙◌, subst}
use mathlib.Core.Option.{some}
use lib.ListN.{get_elem?}
use Rattle.stm_core.specs.Client.{Client, RecordLaw, shed}
use Rattle.stm_core.specs.Event.{begin, after}
use Rattle.stm_core.specs.Guards.{stripe_of}
use Rattle.stm_core.specs.Version.{IsSound}
use Rattle.stm_core.specs.Invariant.{now, world}
use Rattle.stm_core.proofs.Lists.{same_at, set_here}
use Rattle.stm_core.proofs.Lones.{at_map}
use Rattle.stm_region.specs.Shown.{unplaced}
use Rattle.stm_region.specs.Layout.{place}
use Rattle.stm_region.specs.Findings.{AreEarlier}
use Rattle.stm_region.specs.Runs.{Moment, step, word_at, Moves, Has, Stands}
use Rattle.stm_region.specs.Fresh.{EveryBeginIsFresh}
use Rattle.stm_region.proofs.Moves.{earlier}
use Rattle.stm_region.proofs.Extending.{every_run_has_one_list}

module _ (fits : List ℕ → Type 0) (lawful : RecordLaw) where
  -- the values of clients beside the clock of a state
  knows_no_more : (m : Moment) (h : Stands fits lawful m) (j : ℕ) (w : Client) → Has m j w → (clock : ℕ) →
      clock ≡ h.core.clock →
      (w.floor ≤ clock) × (w.attempt.wv ≤ clock) × AreEarlier m.opened.renewal clock w.records
  knows_no_more m h j w at clock is =
      let c = h.core in
      let at' : get_elem? c.clients j ≡ some w = subst (λ l. get_elem? l j ≡ some w) h.views at in
      let s : IsSound (stripe_of m.opened.stripes) (world (now c) h.rule.inv.story) (shed c.renewal w) =
      h.rule.inv.version.sound j (shed c.renewal w) (at_map (shed c.renewal) c.clients j w at') in
      subst (λ n. (w.floor ≤ n) × (w.attempt.wv ≤ n) × AreEarlier m.opened.renewal n w.records) (sym is) (
        s.floor,
        s.wv,
        subst (λ r. AreEarlier r c.clock w.records) h.renewal
            (earlier lawful (stripe_of m.opened.stripes) c h.rule j w at'),
      )

  pub every_begin_is_fresh : EveryBeginIsFresh fits lawful
  every_begin_is_fresh moments moves run n i j v w is at at' =
      let m = moments n in
      let h = (every_run_has_one_list fits lawful moments moves run).0 n in
      let move : Moves lawful m (step i begin) (moments (suc n)) =
      subst (λ y. Moves lawful m y (moments (suc n))) is (run.goes n) in
      let clock : word_at m begin ≡ h.core.clock =
      ap (λ ws. slice_index ws (place m.opened.stripes begin)) h.words in
      let new : Client =
      after (unplaced m.opened.renewal) (stripe_of m.opened.stripes) begin (word_at m begin) move.0 in
      let there : Has (moments (suc n)) i new =
      subst (λ z. Has z i new) (sym move.4) (set_here m.table.views i move.0 new move.1) in
      let same : v ≡ new = same_at (moments (suc n)).table.views i v new at there in
      let rv : v.attempt.rv ≡ word_at m begin = ap (λ (y : Client). y.attempt.rv) same in
      let q = knows_no_more m h j w at' v.attempt.rv (rv ∙ clock) in
      (rv, q.0, q.1, q.2)
