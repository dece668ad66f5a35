use Rattle.std.proofs.Common.{◌≡◌, ◌-◌, suc, sym, ◌∙◌, arith}
use Rattle.judge_search.specs.Marks.{is_made}
use Rattle.judge_search.proofs.Lookback.{line_at, looks_first, looks_on, none_earlier, some_earlier}
use Rattle.judge_search.proofs.point.has_earlier.Goals as goal

pub links-init : goal.links-init
links-init g c =
    let lines = c.args.calls.now.lines.items in
    looks_first (g.M.Object.rules) (is_made c.args.low c.args.beyond.now) lines c.args.place c.link-after.result
    (line_at lines c.args.place c.requires.within) c.link-after.ensures

pub returns-then-not-is_made : goal.returns-then-not-is_made
returns-then-not-is_made g c = λ d.
    let made = is_made c.args.low c.args.beyond.now in
    let q = c.links.after - 1 in
    let next : c.links.after ≡ suc q = (let t = c.links-test.true in omega arith) in
    let b = c.links.invariant.before in
    sym (some_earlier (g.M.Object.rules) made c.args.calls.now.lines.items c.args.place q d c.requires.within
    (omega arith) (sym c.is_made.ensures ∙ c.if-not-is_made.true) (c.links.invariant.same q d next))

pub links-preserved : goal.links-preserved
links-preserved g c =
    let lines = c.args.calls.now.lines.items in
    let made = is_made c.args.low c.args.beyond.now in
    looks_on (g.M.Object.rules) made lines c.args.place c.links.after c.link-after-in-links.result
    (line_at lines c.args.place c.requires.within) c.requires.within (let t = c.links-test.true in omega arith)
    c.links.invariant (sym c.is_made.ensures ∙ c.if-not-is_made.false) c.link-after-in-links.ensures

pub links-smaller : goal.links-smaller
links-smaller g c =
    let lines = c.args.calls.now.lines.items in
    let b = (c.link-after-in-links.ensures (line_at lines c.args.place c.requires.within)).before in
    let t = c.links-test.true in
    omega arith

pub returns : goal.returns
returns g c = λ d.
    sym (none_earlier (g.M.Object.rules) (is_made c.args.low c.args.beyond.now) c.args.calls.now.lines.items
    c.args.first c.args.place c.links.after d c.requires.within c.requires.made (let t = c.links-test.false in
    omega arith)
    c.links.invariant.done)
