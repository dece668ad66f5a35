use Rattle.std.proofs.Common.{◌≡◌, sym, subst}
use Rattle.stm_logs.specs.declared.short.ShortLog.{ShortLog}
use Rattle.stm_logs.specs.Short.{short_log, IsShort}
use Rattle.stm_logs.specs.Held.{with_word}
use Rattle.stm_logs.proofs.ShortLemmas.{after_at, key_is_new, entered_short, entered_value}
use Rattle.stm_logs.proofs.short.ShortLog.enter.Goals as goal

pub insert-requires-clause-new : goal.insert-requires-clause-new
insert-requires-clause-new c = key_is_new c.args.self.now c.args.lock c.requires.short c.requires.free.room

pub returns-clause-short : goal.returns-clause-short
returns-clause-short c =
    let s : ShortLog = c.args.self.now in
    subst (λ m. IsShort (after_at s c.insert.new.self m c.args.number c.args.lock c.args.value))
    (sym c.mark_of-mark.ensures.mark)
    (entered_short s c.insert.new.self c.args.number c.args.lock c.args.value c.requires.short c.requires.free
    c.requires.new c.insert.ensures.keys c.insert.ensures.same)

pub returns-clause-log : goal.returns-clause-log
returns-clause-log c =
    let s : ShortLog = c.args.self.now in
    subst (λ m. short_log (after_at s c.insert.new.self m c.args.number c.args.lock c.args.value)
    ≡ with_word (short_log s) c.args.number c.args.lock c.args.value)
    (sym c.mark_of-mark.ensures.mark)
    (entered_value s c.insert.new.self c.args.number c.args.lock c.args.value c.requires.short c.requires.free
    c.requires.new c.insert.ensures.keys c.insert.ensures.same)
