use Rattle.std.proofs.Common.{◌∙◌, sym}
use Rattle.cli_options.proofs.ScriptOptions.{run_blocks, dump_blocks}
use Rattle.cli_options.proofs.LoadOptions.{tasks_options, load_options}
use Rattle.cli_options.proofs.Naming.{one_is_named, none_is_named}
use Rattle.cli_options.proofs.asked.asked_of.Goals as goal

pub blocks_of-requires : goal.blocks_of-requires
blocks_of-requires c = run_blocks c.requires.0 _ c.requires.1.taken (sym c.requires.1.found ∙ c.in-Some.ensures.some)

pub blocks_of-requires-in-Some-named : goal.blocks_of-requires-in-Some-named
blocks_of-requires-in-Some-named c = dump_blocks c.requires.0 _ c.requires.1.taken
    (sym c.requires.1.found ∙ c.in-Some-named.ensures.some)

pub settings_of-requires : goal.settings_of-requires
settings_of-requires c = tasks_options c.requires.0 _ c.requires.1.taken
    (sym c.requires.1.found ∙ c.in-Some-named-2.ensures.some)

pub settings_of-requires-in-Some-named-3 : goal.settings_of-requires-in-Some-named-3
settings_of-requires-in-Some-named-3 c = (load_options c.requires.0 _ c.requires.1.taken
    (sym c.requires.1.found ∙ c.in-Some-named-3.ensures.some)).drawing

pub tries_of-requires : goal.tries_of-requires
tries_of-requires c = load_options c.requires.0 _ c.requires.1.taken
    (sym c.requires.1.found ∙ c.in-Some-named-3.ensures.some)

pub how_of-requires : goal.how_of-requires
how_of-requires c = (load_options c.requires.0 _ c.requires.1.taken
    (sym c.requires.1.found ∙ c.in-Some-named-3.ensures.some)).flags

pub unreachable-requires : goal.unreachable-requires
unreachable-requires c =
    let one = one_is_named c.requires.0 c.requires.1.taken in
    none_is_named c.requires.0 one.0 _ _ _ _ _ _ c.requires.1.found
    c.named.ensures.none c.named-2.ensures.none c.named-3.ensures.none c.named-4.ensures.none c.named-5.ensures.none
    c.in_default.is c.in_default-named.is c.if-is_some.ensures c.in_default-named-2.is c.in-None.is one.1

pub returns-in-Some : goal.returns-in-Some
returns-in-Some c = λ words is. (
  _,
  sym is.found ∙ c.in-Some.ensures.some,
  c.blocks_of.ensures.given,
  c.blocks_of.ensures.range,
)

pub returns-in-Some-named : goal.returns-in-Some-named
returns-in-Some-named c = λ words is. (
  _,
  sym is.found ∙ c.in-Some-named.ensures.some,
  c.blocks_of-in-Some-named.ensures.given,
  c.blocks_of-in-Some-named.ensures.range,
)

pub returns-in-Some-named-2 : goal.returns-in-Some-named-2
returns-in-Some-named-2 c = λ words is. (
  _,
  sym is.found ∙ c.in-Some-named-2.ensures.some,
  c.settings_of.ensures.drawn,
  c.settings_of.ensures.tries,
)
