use Rattle.std.proofs.Common.{◌≡◌, ◌<◌, true, get_or, take, map, ap, ◌∙◌, subst, arith}
use Rattle.judge_object.specs.declared.span.Span.{Span}
use Rattle.judge_snapshot.specs.Snapshots.{Version}
use Rattle.judge_snapshot.proofs.Tests.{lt_test}
use Rattle.judge_snapshot.proofs.Places.{is_old, trim_at, trim_none, take_all, past_is}
use Rattle.std.specs.List.{list_any}
use Rattle.std.proofs.Common.{false}
use Rattle.judge_snapshot.proofs.past.Past.trimmed.Goals as goal

pub returns-then-span-from : goal.returns-then-span-from
returns-then-span-from g c =
    let vs = c.args.self.now.versions in
    let first = c.args.self.now.first in
    let d = c.version-version.result.now in
    let p = c.versions.place in
    let end : c.span.result.end < c.from.result = c.if-span-from.true in
    let one : d.span.end < c.from.result = subst (λ (s : Span). s.end < c.from.result) c.span.ensures end in
    let two : d.span.end < c.args.horizon = subst (λ n. d.span.end < n) c.from.ensures one in
    let old : (get_or vs p d).span.end < c.args.horizon =
    subst (λ (v : Version _ _). v.span.end < c.args.horizon) c.version-version.ensures two in
    let t = c.versions-test.true in
    let l = c.len-place-end.ensures in
    past_is c.in_ok-first.first.value (get_or vs p d).state (map (λ v. v.value) c.versions.versions.items) (take p vs)
    (c.in_ok-first.ensures ∙ ap (λ (v : Version _ _). v.state) c.version-version.ensures) c.versions.invariant.are
    ∙ trim_at c.args.horizon first vs p d (omega (arith, t, l)) c.versions.invariant.none
    (lt_test (get_or vs p d).span.end c.args.horizon old)

pub returns : goal.returns
returns g c =
    let vs = c.args.self.now.versions in
    let first = c.args.self.now.first in
    let p = c.versions.place in
    let t = c.versions-test.false in
    let l = c.len-place-end.ensures in
    let all : take p vs ≡ vs = take_all vs p (omega (arith, t, l)) in
    past_is c.in_ok-oldest.oldest.value first (map (λ v. v.value) c.versions.versions.items) vs c.in_ok-oldest.ensures
    (c.versions.invariant.are ∙ all)
    ∙ trim_none c.args.horizon first vs
    (subst (λ l. list_any (is_old c.args.horizon) l ≡ false) all c.versions.invariant.none)
