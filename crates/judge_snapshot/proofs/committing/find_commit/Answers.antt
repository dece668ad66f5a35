use Rattle.std.proofs.Common.{◌≡◌, true, length, take, drop, ap, ◌∙◌, arith}
use Rattle.std.specs.Prelude.{nat_le}
use Rattle.std.specs.List.{list_any}
use Rattle.std.proofs.lemmas.Bool.Decides.{nat_tests}
use Rattle.judge_object.specs.declared.span.Span.{Span}
use Rattle.judge_object.specs.Call.{span_of}
use Rattle.judge_object.specs.Rules.{is_right}
use Rattle.judge_snapshot.specs.Snapshots.{state_of, strong_needs}
use Rattle.judge_snapshot.proofs.Places.{allowed}
use Rattle.judge_snapshot.proofs.committing.find_commit.Goals as goal

pub returns-clause-can : goal.returns-clause-can
returns-clause-can g c =
    let run = g.M.Object.rules.run in
    let writes = g.M.WriteSetObject.write_sets.writes in
    let conflicts = g.M.WriteSetObject.write_sets.conflicts in
    let call = c.args.commit.now.call in
    let versions = c.args.past.now.versions in
    let missed = c.args.missed in
    let s = state_of c.args.past.now.first (drop missed versions) in
    let test : nat_le missed (length versions) ≡ true = grind (arith, nat_tests, c.requires) in
    let right : c.in_ok-is_right.is_right ≡ is_right g.M.Object.rules call.reply (run s call.op).1 =
    c.in_ok-is_right.ensures
    ∙ ap (λ r. is_right g.M.Object.rules call.reply r)
    (c.in_ok-written.ensures.reply ∙ ap (λ t. (run t c.op.result.now).1) c.state.ensures
    ∙ ap (λ o. (run s o).1) c.op.ensures) in
    let own : c.in_ok-written.written ≡ writes s call.op =
    c.in_ok-written.ensures.written ∙ ap (λ t. writes t c.op.result.now) c.state.ensures
    ∙ ap (λ o. writes s o) c.op.ensures in
    let clash : c.clashes-clashes.result ≡
    list_any (λ v. conflicts v.written (writes s call.op)) (take missed versions) =
    c.clashes-clashes.ensures
    ∙ ap (λ w. list_any (λ v. conflicts v.written w) (take missed versions)) own in
    let needed : c.is_needed-is_needed.result ≡
    list_any (λ v. strong_needs v.span (span_of call)) (take missed versions) =
    c.is_needed-is_needed.ensures
    ∙ ap (λ (s : Span). list_any (λ v. strong_needs v.span s) (take missed versions)) c.span.ensures in
    c.is_allowed.ensures
    ∙ allowed (nat_le missed (length versions)) (is_right g.M.Object.rules call.reply (run s call.op).1)
    (list_any (λ v. conflicts v.written (writes s call.op)) (take missed versions))
    (list_any (λ v. strong_needs v.span (span_of call)) (take missed versions)) c.in_ok-is_right.is_right
    c.clashes-clashes.result c.is_needed-is_needed.result test right clash needed
