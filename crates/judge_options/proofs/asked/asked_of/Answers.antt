use Rattle.std.proofs.Common.{◌∙◌, sym, inr}
use Rattle.cli_common.proofs.Naming.{not_some}
use Rattle.judge_options.proofs.HistoryOptions.{history_options}
use Rattle.judge_options.proofs.OrderOptions.{order_blocks, order_search}
use Rattle.judge_options.proofs.AttemptsOptions.{attempts_options}
use Rattle.judge_options.proofs.PartOptions.{part_options}
use Rattle.judge_options.proofs.KeysOptions.{keys_options}
use Rattle.judge_options.proofs.QueueOptions.{queue_options}
use Rattle.judge_options.proofs.asked.asked_of.Goals as goal

pub history_asked-requires : goal.history_asked-requires
history_asked-requires c = history_options c.requires.0 _ c.requires.1.taken
    (sym c.requires.1.found ∙ c.in-Some.ensures.some)

pub order_asked-requires-clause-blocks : goal.order_asked-requires-clause-blocks
order_asked-requires-clause-blocks c = order_blocks c.requires.0 _ c.requires.1.taken
    (sym c.requires.1.found ∙ c.in-Some-named.ensures.some)

pub order_asked-requires-clause-search : goal.order_asked-requires-clause-search
order_asked-requires-clause-search c = order_search c.requires.0 _ c.requires.1.taken
    (sym c.requires.1.found ∙ c.in-Some-named.ensures.some)

pub opacity_of-requires : goal.opacity_of-requires
opacity_of-requires c = attempts_options c.requires.0 _ c.requires.1.taken
    (sym c.requires.1.found ∙ c.in-Some-named-2.ensures.some)

pub part_words_of-requires : goal.part_words_of-requires
part_words_of-requires c = part_options c.requires.0 _ c.requires.1.taken
    (sym c.requires.1.found ∙ c.in-Some-named-3.ensures.some)

pub keys_asked-requires : goal.keys_asked-requires
keys_asked-requires c = keys_options c.requires.0 _ c.requires.1.taken
    (sym c.requires.1.found ∙ c.in-Some-named-4.ensures.some)

pub queue_asked-requires : goal.queue_asked-requires
queue_asked-requires c = queue_options c.requires.0 _ c.requires.1.taken
    (sym c.requires.1.found ∙ c.in-Some-named-5.ensures.some)

pub returns-in-Some : goal.returns-in-Some
returns-in-Some c = λ words is. c.history_asked.ensures words (sym is.found ∙ c.in-Some.ensures.some)

pub returns-in-Some-named : goal.returns-in-Some-named
returns-in-Some-named c = λ words is. c.order_asked.ensures words (sym is.found ∙ c.in-Some-named.ensures.some)

pub returns-in-Some-named-2 : goal.returns-in-Some-named-2
returns-in-Some-named-2 c = λ words is. (_, sym is.found ∙ c.in-Some-named-2.ensures.some, c.opacity_of.ensures)

pub returns-in-Some-named-3 : goal.returns-in-Some-named-3
returns-in-Some-named-3 c = λ words is. (
  _,
  sym is.found ∙ c.in-Some-named-3.ensures.some,
  c.in_ok-part_words_of.ensures,
)

pub returns-in-Some-named-4 : goal.returns-in-Some-named-4
returns-in-Some-named-4 c = λ words is. c.keys_asked.ensures words (sym is.found ∙ c.in-Some-named-4.ensures.some)

pub returns-in-Some-named-5 : goal.returns-in-Some-named-5
returns-in-Some-named-5 c = λ words is. c.queue_asked.ensures words (sym is.found ∙ c.in-Some-named-5.ensures.some)

pub returns-in-None : goal.returns-in-None
returns-in-None c = λ words is. (
  c.default_settings.ensures.room,
  inr (
    record {
      history = λ rows n. not_some _ c.in_default.is (c.named.ensures.none rows (is.found ∙ n));
      order = λ rows n. not_some _ c.in_default-named.is (c.named-2.ensures.none rows (is.found ∙ n));
      attempts = λ rows n. not_some _ c.in_default-named-2.is (c.named-3.ensures.none rows (is.found ∙ n));
      part = λ rows n. not_some _ c.in_default-named-3.is (c.named-4.ensures.none rows (is.found ∙ n));
      keys = λ rows n. not_some _ c.in_default-named-4.is (c.named-5.ensures.none rows (is.found ∙ n));
      queue = λ rows n. not_some _ c.in-None.is (c.named-6.ensures.none rows (is.found ∙ n));
    },
    c.default_settings.ensures.default,
  ),
)
