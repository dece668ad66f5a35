use Rattle.std.proofs.Common.{◌≡◌, ◌∙◌, ap, append-nil, arith}
use Rattle.stm_core.specs.Client.{all_aborted}
use Rattle.stm_region.specs.Shown.{RegionShown}
use Rattle.vac_manager.specs.Called.{ClientShown}
use Rattle.load_run.proofs.Eras.{renewed_in}
use Rattle.load_run.proofs.Joining.{renewed_known}
use Rattle.load_run.proofs.alone.renewed.Goals as goal

pub returns-in-Ok-clause-renewed : goal.returns-in-Ok-clause-renewed
returns-in-Ok-clause-renewed c =
    let after = c.in-Ok.renewed in
    let region = c.in-Ok.ensures.renewed.manager in
    let client = c.in-Ok.ensures.renewed.client in
    let none : after.1.value.floor ≡ 0 = ap (λ (x : ClientShown). x.value.floor) client in
    record {
      renewal = ap (λ (r : RegionShown). r.renewal) region;
      size = ap (λ (r : RegionShown). r.size) region;
      first = ap (λ (r : RegionShown). r.first) region;
      records = ap (λ (x : ClientShown). x.value.records) client;
      aborted = ap (λ (x : ClientShown). all_aborted x.value) client ∙ append-nil (all_aborted c.args.client.value);
      alone = record {
        own = ap (λ (x : ClientShown). x.table) client;
        alone = ap (λ (x : ClientShown). x.value.grants) client ∙ c.requires.alone.alone;
        era = renewed_in c.args.manager after.0 c.args.client after.1 _ c.in-Ok.ensures.renewed.words
            (ap (λ (r : RegionShown). r.renewal) region) (ap (λ (x : ClientShown). x.value.records) client)
            c.requires.alone.era;
      };
      ready = record {
        last = ap (λ (r : RegionShown). r.last) region;
        known = renewed_known c.args.manager after.0 c.args.client after.1 _ c.in-Ok.ensures.renewed.words
            (ap (λ (r : RegionShown). r.renewal) region) (ap (λ (x : ClientShown). x.value.records) client);
        early = omega (arith, none);
      };
    }
