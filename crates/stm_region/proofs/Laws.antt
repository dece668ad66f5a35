-- The consequences of the invariant for the records, the reads and the grants.
use Rattle.std.proofs.Common.{◌≡◌, ◌≢◌, ℕ, false, List, length, map, sym, ap, ◌∙◌, subst}
use mathlib.Core.Option.{some}
use lib.ListN.{get_elem?}
use Rattle.atomic_table.specs.Table.{State}
use Rattle.tx_memory.specs.Image.{In, Agrees}
use Rattle.stm_core.specs.Client.{Client, Record, shed, RecordLaw}
use Rattle.stm_core.specs.Event.{taking}
use Rattle.stm_core.specs.Core.{Core}
use Rattle.stm_core.specs.History.{Serial, Sub, all_records, image_at}
use Rattle.stm_core.specs.Invariant.{now}
use Rattle.stm_core.proofs.Facts.{one_version}
use Rattle.stm_core.proofs.Lones.{at_map}
use Rattle.stm_core.proofs.Playing.{every_list_is_serializable}
use Rattle.stm_core.proofs.Whole.{whole_serial, whole_lawful, whole_shared, own_sorted}
use Rattle.stm_region.specs.Shown.{Opened, with_gathered}
use Rattle.stm_core.specs.Guards.{stripe_of}
use Rattle.stm_region.specs.Rule.{IsCoreState, listed}
use Rattle.stm_region.specs.Running.{IsListed}
use Rattle.stm_region.proofs.Mirroring.{mirrors_of}
use Rattle.stm_region.proofs.Stepping.{gathered_takes}

module _ (fits : List ℕ → Type 0) (lawful : RecordLaw) (o : Opened) (s : State (Unit {0}) Client)
    (h : IsCoreState fits lawful o s) where
  pub serial : Serial o.first (all_records s.views)
  serial = subst (λ cs. Serial o.first (all_records cs)) (sym h.views)
      (subst (λ image. Serial image (all_records h.core.clients)) h.first
      (whole_serial lawful (stripe_of o.stripes) h.core h.rule))

  pub abides : (r : Record) → In r (all_records s.views) → lawful r.tag r.reads r.writes
  abides r m = whole_lawful lawful (stripe_of o.stripes) h.core h.rule r (subst (λ cs. In r (all_records cs)) h.views m)

  pub among : (i : ℕ) (v : Client) → get_elem? s.views i ≡ some v → Sub v.records (all_records s.views)
  among i v e = subst (λ cs. Sub v.records (all_records cs)) (sym h.views)
      (whole_shared lawful (stripe_of o.stripes) h.core h.rule i v
      (subst (λ cs. get_elem? cs i ≡ some v) h.views e)).among

  pub agrees : (i : ℕ) (v : Client) → get_elem? s.views i ≡ some v →
      Agrees (image_at o.image v.attempt.rv (all_records (map (shed o.renewal) s.views))) v.attempt.reads
  agrees i v e = subst (λ cs. Agrees (image_at o.image v.attempt.rv (all_records (map (shed o.renewal) cs)))
      v.attempt.reads) (sym h.views)
      (subst (λ n. Agrees (image_at o.image v.attempt.rv (all_records (map (shed n) h.core.clients))) v.attempt.reads)
      h.renewal
      (subst (λ image. Agrees (image_at image v.attempt.rv (all_records (now h.core).clients)) v.attempt.reads)
      h.opening (one_version lawful (stripe_of o.stripes) (now h.core) h.rule.inv i (shed h.core.renewal v)
      (at_map (shed h.core.renewal) h.core.clients i v (subst (λ cs. get_elem? cs i ≡ some v) h.views e)))))

  pub takes_all : (i j : ℕ) (v w : Client) → i ≢ j → get_elem? s.views i ≡ some v → get_elem? s.views j ≡ some w →
      v.is_gathered ≡ false → w.is_gathered ≡ false → with_gathered v w ≡ taking v w
  takes_all i j v w ne e f un un' = gathered_takes lawful (stripe_of o.stripes) h.core h.rule i j v w ne
      (subst (λ cs. get_elem? cs i ≡ some v) h.views e) (subst (λ cs. get_elem? cs j ≡ some w) h.views f) un un'

  unfoldable pub is_listed : IsListed lawful o s
  is_listed =
      let t = h.traced in
      let stands = every_list_is_serializable lawful o.first t.last o.stripes t.events t.core t.leads in record {
        last = t.last;
        events = t.events;
        core = t.core;
        leads = t.leads;
        stands = stands;
        gap = h.gap;
        pad = h.pad;
        words = h.words ∙ ap (λ (c : Core). listed h.gap h.pad c) t.same;
        before_locks = h.before_locks;
        locks = sym (ap (λ (c : Core). length c.locks) t.same) ∙ h.locks;
        before_cells = h.before_cells;
        clients = mirrors_of h.core.clients s.views t.core.clients t.clients h.views;
        sorted = λ i v e. own_sorted lawful (stripe_of o.stripes) h.core h.rule i v
            (subst (λ cs. get_elem? cs i ≡ some v) h.views e);
        core_sorted = own_sorted lawful (stripe_of o.stripes) t.core stands.rule;
        first = sym (ap (λ (c : Core). c.first) t.same) ∙ h.first;
        renewal = sym (ap (λ (c : Core). c.renewal) t.same) ∙ h.renewal;
        opening = sym (ap (λ (c : Core). c.opening) t.same) ∙ h.opening;
        last_version = sym (ap (λ (c : Core). c.last) t.same) ∙ h.last;
      }
