use Rattle.std.proofs.Common.{◌<◌, ◌≤◌, length, set, arith}
use Rattle.stm_logs.specs.declared.short.ShortLog.{ShortLog}
use Rattle.stm_logs.proofs.ShortLemmas.{set_row, replaced_log, short_none}
use Rattle.stm_logs.proofs.short.ShortLog.put.Goals as goal

pub returns-then-position-ne0-clause-done : goal.returns-then-position-ne0-clause-done
returns-then-position-ne0-clause-done c = λ _.
    let s : ShortLog = c.args.self.now in
    let there = c.search-position.ensures.there (omega arith) in
    let m : c.search-position.result ≤ s.count = there.0 in
    let inside : c.search-position.result < length s.values =
    omega (arith, m, c.requires.short.words.room, c.requires.short.rows.values) in
    replaced_log s (set s.values c.search-position.result c.args.value) c.search-position.result c.args.number
    c.args.lock c.args.value c.requires.short (omega arith) there
    (set_row s.values c.search-position.result c.args.value inside) c.requires.lock

pub returns-then-not-takes-clause-none : goal.returns-then-not-takes-clause-none
returns-then-not-takes-clause-none c = λ _.
    short_none c.args.self.now c.args.number (c.search-position.ensures.none (omega arith))
