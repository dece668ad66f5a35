use Rattle.cli_main.proofs.telling.Progress.run.Goals as goal

pub returns : goal.returns
returns g c = record {
  kept = c.run-loaded.ensures.kept;
  statistics = c.run-loaded.ensures.statistics;
  refused = c.run-loaded.ensures.refused;
}
