use Rattle.std.proofs.Common.{sym, ap, ◌∙◌, subst}
use Rattle.judge_opacity.specs.Attempt.{accesses_of}
use Rattle.judge_opacity.specs.Parts.{words_left, put_before, AllAmong}
use Rattle.judge_opacity.proofs.Parsing.{put_onto, among_more}
use Rattle.judge_opacity.proofs.accesses.read_accesses.Goals as goal

pub loop-kind-preserved : goal.loop-kind-preserved
loop-kind-preserved c =
    let at = c.loop-kind.invariant in
    let items = c.loop-kind.accesses.items in
    let pushed = c.in_ok-push-in-Ok.ensures.items in
    record {
      same = at.same ∙ ap (λ ws. put_before items (accesses_of c.args.words ws)) c.in-Some.ensures ∙
          ap (put_before items) c.in-Ok.ensures.ok
          ∙ put_onto items c.in-Ok.access (accesses_of c.args.words (words_left c.in-Ok.behind))
          ∙ ap (λ t. put_before t (accesses_of c.args.words (words_left c.in-Ok.behind))) (sym pushed);
      among = subst (AllAmong c.args.words) (sym pushed) (among_more c.args.words items c.in-Ok.access at.among
          c.in-Ok.ensures.among);
    }
