use Rattle.std.proofs.Common.{rules, arith, ◌≡◌, ◌++◌, ◌+◌, sym, subst, List}
use Rattle.vac_manager.specs.declared.note.TracedAttempt.{TracedAttempt}
use Rattle.load_record.specs.Laying.{done_by, writes_from}
use Rattle.load_record.proofs.Pieces.{piece_laid}
use Rattle.load_record.proofs.laying.lay_all.Goals as goal

pub pieces-preserved : goal.pieces-preserved
pieces-preserved c =
    let cut = c.split_at.ensures in
    let a = c.in_ok-lay_some.field-0 in
    let more = piece_laid c.pieces.first c.min-count.result c.pieces.left.now c.split_at.result.0.now
    c.split_at.result.1.now (writes_from 0 c.args.words.now) c.pieces.laid.items a
    cut.front_len cut.by_index.0 c.pieces.invariant.writes c.in_ok-lay_some.ensures.writes in
    record {
      count = omega (arith, c.pieces.invariant.count, cut.back_len);
      laid = search rules;
      writes = subst (λ (l : List TracedAttempt). done_by l ++ writes_from
          (c.pieces.first + c.min-count.result) c.split_at.result.1.now ≡ writes_from 0 c.args.words.now)
          (sym {A = List TracedAttempt} c.in_ok-push.ensures.items) more;
    }
