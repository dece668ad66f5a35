use Rattle.std.proofs.Common.{◌≡◌, ◌<◌, length, arith}
use Rattle.std.proofs.lemmas.Bool.Decides.{nat_tests}
use Rattle.judge_opacity.specs.Logs.{attempts_in}
use Rattle.judge_opacity.proofs.Searching.{reached_first, reached_more, reached_none, reached_all, no_logged, none_left}
use Rattle.judge_opacity.proofs.placing.place_all.Goals as goal

pub left-init : goal.left-init
left-init c = record {
  among = c.requires.among;
  reached = reached_first (length c.args.judge.memory.words.items) c.args.judge (attempts_in c.args.left.items)
      c.requires.fresh;
}

pub returns-then-not-branch-clause-found : goal.returns-then-not-branch-clause-found
returns-then-not-branch-clause-found c =
    let words = length c.args.judge.memory.words.items in
    let r = c.left.invariant.reached in
    let o = c.left.left.ok.0 in
    let e = c.is_empty.ensures in
    let t = c.left-test.true in
    let some : 0 < length c.left.left.items = grind (arith, nat_tests) in
    reached_none words c.left.judge (attempts_in c.args.left.items) (attempts_in c.left.left.items) r
    (rw c.if-not-branch.true at (c.in_ok-place_next.ensures.next words r.earlier r.follows))
    (no_logged c.left.left.items some)

pub left-preserved : goal.left-preserved
left-preserved c =
    let words = length c.args.judge.memory.words.items in
    let r = c.left.invariant.reached in
    record {
      among = c.in_ok-place_next.ensures.among c.if-not-branch.false;
      reached = reached_more words c.left.judge c.place_next.new.judge (attempts_in c.args.left.items)
          (attempts_in c.left.left.items) (attempts_in c.place_next.new.left.items) r
          (rw c.if-not-branch.false at (c.in_ok-place_next.ensures.next words r.earlier r.follows));
    }

pub returns-clause-found : goal.returns-clause-found
returns-clause-found c =
    let words = length c.args.judge.memory.words.items in
    let r = c.left.invariant.reached in
    let o = c.left.left.ok.0 in
    let e = c.is_empty.ensures in
    let t = c.left-test.false in
    let empty : length c.left.left.items ≡ 0 = grind (arith, nat_tests) in
    reached_all words c.left.judge (attempts_in c.args.left.items) (attempts_in c.left.left.items) c.counts.result r
    (none_left c.left.left.items empty) (c.counts.ensures words r.earlier r.follows)
