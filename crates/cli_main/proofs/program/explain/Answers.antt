use Rattle.cli_main.proofs.program.explain.Goals as goal

pub returns : goal.returns
returns g c = rw c.as_bytes.ensures.value at c.show.ensures
