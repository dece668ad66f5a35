use Rattle.std.proofs.Common.{rules, ◌⊎◌, sym, ◌∙◌, ap, subst}
use Rattle.tx_memory.specs.Image.{In}
use Rattle.stm_core.specs.Client.{Client}
use Rattle.stm_core.specs.History.{Sub}
use Rattle.stm_core.specs.Invariant.{Sorted}
use Rattle.stm_core.proofs.Orders.{in_merged}
use Rattle.stm_core.proofs.Whole.{joined_both}
use Rattle.stm_region.proofs.Moves.{joins_here, runs}
use Rattle.stm_region.proofs.region.Region.gather.Goals as goal

pub join_seat-requires : goal.join_seat-requires
join_seat-requires g c =
    let key = c.self.inside.table.shared.key in
    let now = ap (λ w. w.value) c.client.view_is in
    let theirs = ap (λ w. w.0) c.into_parts-seat.ensures.seat.1 in
    let it = joins_here g.L.Law.fits g.L.Law.lawful g.L.Law.keeps c.args.self.now _ key
    (runs _ _ key _ _ _ _ c.self.invariant.0 _ c.args.self.now c.self.view_is) _ c.client.inside.seat.me.0 _
    c.into_parts-seat.result.0.me.0 (
      ap (λ w. w.is_gathered) now ∙ c.requires.free_handed.0.0,
      ap (λ w. w.attempt.held) now ∙ c.requires.free_handed.0.1,
    ) (
      ap (λ w. w.is_gathered) theirs ∙ c.requires.free_handed.1.0,
      ap (λ w. w.attempt.held) theirs ∙ c.requires.free_handed.1.1,
    ) in (
      ap (λ w. w.table) c.client.view_is ∙ (c.requires.own.0 ∙ sym (ap (λ w. w.table) c.self.view_is)),
      c.into_parts-seat.ensures.seat.0 ∙ (c.requires.own.1 ∙ sym (ap (λ w. w.table) c.self.view_is)),
      ap (λ w. w.1) c.into_parts-seat.ensures.seat.1,
      it.0,
      it.1,
    )

pub invariant_of-client : goal.invariant_of-client
invariant_of-client g c =
    let v = c.client.inside.seat.me.0 in
    let w = c.into_parts-seat.result.0.me.0 in (
      search rules,
      search rules,
      search rules,
      search rules,
      subst Sorted (sym (ap (λ m. m.0.records) c.join_seat.ensures.2))
          (joined_both v w c.client.invariant.4 (subst (λ (x : Client). Sorted x.records)
          (sym (ap (λ m. m.0) c.into_parts-seat.ensures.seat.1)) c.into_parts-seat.ensures.sorted)).2,
    )

pub returns-clause-mine : goal.returns-clause-mine
returns-clause-mine g c =
    let v = c.client.inside.seat.me.0 in
    let w = c.into_parts-seat.result.0.me.0 in
    let now = ap (λ x. x.value.records) c.client.view_is in
    let q = joined_both v w c.client.invariant.4 (subst (λ (x : Client). Sorted x.records)
    (sym (ap (λ m. m.0) c.into_parts-seat.ensures.seat.1)) c.into_parts-seat.ensures.sorted) in
    subst (Sub c.args.client.now.value.records) (sym (ap (λ m. m.0.records) c.join_seat.ensures.2))
    (subst (λ l. Sub l (Rattle.stm_core.specs.Client.merged v.records w.records)) now q.0)

pub returns-clause-theirs : goal.returns-clause-theirs
returns-clause-theirs g c =
    let v = c.client.inside.seat.me.0 in
    let w = c.into_parts-seat.result.0.me.0 in
    let theirs = ap (λ m. m.0.records) c.into_parts-seat.ensures.seat.1 in
    let q = joined_both v w c.client.invariant.4 (subst (λ (x : Client). Sorted x.records)
    (sym (ap (λ m. m.0) c.into_parts-seat.ensures.seat.1)) c.into_parts-seat.ensures.sorted) in
    subst (Sub c.args.other.value.records) (sym (ap (λ m. m.0.records) c.join_seat.ensures.2))
    (subst (λ l. Sub l (Rattle.stm_core.specs.Client.merged v.records w.records)) theirs q.1)

pub returns-clause-only : goal.returns-clause-only
returns-clause-only g c =
    let v = c.client.inside.seat.me.0 in
    let w = c.into_parts-seat.result.0.me.0 in
    let now = ap (λ x. x.value.records) c.client.view_is in
    let theirs = ap (λ m. m.0.records) c.into_parts-seat.ensures.seat.1 in
    λ r i. subst (λ l. In r c.args.client.now.value.records ⊎ In r l) theirs
    (subst (λ l. In r l ⊎ In r w.records) now (in_merged v.records w.records r
    (subst (In r) (ap (λ m. m.0.records) c.join_seat.ensures.2) i)))
