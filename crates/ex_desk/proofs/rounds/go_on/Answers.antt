use Rattle.std.proofs.Common.{refl, ap}
use Rattle.stm_region.specs.Shown.{RegionShown}
use Rattle.ex_desk.specs.Desks.{session_of}
use Rattle.ex_desk.proofs.Running.{may_run, on_more}
use Rattle.ex_desk.proofs.rounds.go_on.Goals as goal

pub serve_all-requires-clause-may : goal.serve_all-requires-clause-may
serve_all-requires-clause-may g c κs within = may_run c.args.settings c.args.open_desks c.in-Ok.renewed.0
    c.in-Ok.renewed.1 _ c.requires.on c.in-Ok.ensures.renewed.words (ap
    (λ (x : RegionShown). x.renewal) c.in-Ok.ensures.renewed.manager) c.in-Ok.ensures.renewed.client

pub returns-clause-on : goal.returns-clause-on
returns-clause-on g c =
    on_more c.args.settings c.args.open_desks _ c.in-Ok.renewed.0 c.in-Ok.renewed.1
    (session_of c.in-Ok.renewed.0 c.in_ok-client.field-0.client) _ c.requires.on c.requires.rounds
    c.in-Ok.ensures.renewed.words
    (ap (λ (x : RegionShown). x.size) c.in-Ok.ensures.renewed.manager)
    (ap (λ (x : RegionShown). x.renewal) c.in-Ok.ensures.renewed.manager) c.in-Ok.ensures.renewed.client
    c.in_ok-client.ensures.ran
    refl refl refl
