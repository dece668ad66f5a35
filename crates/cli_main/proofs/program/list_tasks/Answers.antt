use Rattle.std.proofs.Common.{◌≡◌, true, rules, refl, inl, inr}
use Rattle.load_tasks.specs.Setting.{is_settings}
use Rattle.vac_lines.specs.declared.stream_fault.StreamFault.TheVariants.{Memory, Write}
use Rattle.cli_main.proofs.program.list_tasks.Goals as goal

pub returns-in-Err-Memory : goal.returns-in-Err-Memory
returns-in-Err-Memory g c =
    let fits : is_settings c.args.settings.now ≡ true = search rules in
    inl (
      fits,
      inr (
        c.end_by.ensures.status,
        (
          _,
          c.in-Err-Memory.ensures.err,
          (Memory, inl refl, c.end_by.ensures.line),
        ),
      ),
    )

pub returns-in-Err-Write : goal.returns-in-Err-Write
returns-in-Err-Write g c =
    let fits : is_settings c.args.settings.now ≡ true = search rules in
    inl (
      fits,
      inr (
        c.end_by-in-Err-Write.ensures.status,
        (
          _,
          c.in-Err-Write.ensures.err,
          (Write, inr refl, c.end_by-in-Err-Write.ensures.line),
        ),
      ),
    )
