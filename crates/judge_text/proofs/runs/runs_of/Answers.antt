use Rattle.std.proofs.Common.{◌<◌, ◌++◌, ◌∷◌, [], List, ap, ◌∙◌, subst, length, get_or, sym, arith}
use Rattle.std.specs.Global.{Vec}
use Rattle.judge_text.specs.Classing.{object_of, for_object}
use Rattle.judge_text.specs.Numbers.{HasNumber}
use Rattle.judge_text.specs.Runs.{AreNumbersOf, AreRunsOf, HasOneMore, name_of}
use Rattle.judge_text.proofs.Grouping.{AreSoFar, one_on, one_here, one_more, all_over, nothing_left}
use Rattle.judge_text.proofs.Grouping.{so_far_more, runs_made}
use Rattle.judge_text.proofs.runs.runs_of.Goals as goal

pub push_at-requires : goal.push_at-requires
push_at-requires g c =
    let name = for_object (object_of c.args.names.now) (g.M.Named.name) in
    let numbers = c.in_ok-numbers.numbers in
    let i = c.loop-line.invariant in
    let place = c.loop-line.place in
    let are = subst (λ ls. AreNumbersOf name numbers ls c.in_ok-numbers.found.items) c.as_slice.ensures.value
    c.in_ok-numbers.ensures.numbers in
    let here = one_here c.args.lines.items c.loop-line.yielded _ _ c.in-Some.line c.in-Some.line place i.all
    c.in-Some.ensures.steps.0 i.at in
    let w = (are.each place c.in-Some.line here.0).within in
    let same = ap (λ (l : List _). get_or l place 0) c.as_slice-found.ensures.value in
    let long = i.long ∙ ap length (ap (λ (v : Vec _). v.items) c.into_names-own.ensures) in
    subst (λ n. n < length c.loop-line.runs.items) (sym same) (omega (arith, w, long))

pub loop-line-preserved : goal.loop-line-preserved
loop-line-preserved g c =
    let name = for_object (object_of c.args.names.now) (g.M.Named.name) in
    let numbers = c.in_ok-numbers.numbers in
    let i = c.loop-line.invariant in
    let place = c.loop-line.place in
    let line = c.in-Some.line in
    let are = subst (λ ls. AreNumbersOf name numbers ls c.in_ok-numbers.found.items) c.as_slice.ensures.value
    c.in_ok-numbers.ensures.numbers in
    let here = one_here c.args.lines.items c.loop-line.yielded _ _ line line place i.all
    c.in-Some.ensures.steps.0 i.at in
    let same = ap (λ (l : List _). get_or l place 0) c.as_slice-found.ensures.value in
    let own = ap (λ (v : Vec _). v.items) c.into_names-own.ensures in
    let more : HasOneMore (get_or c.in_ok-numbers.found.items place 0) line c.loop-line.runs.items
    c.push_at.new.runs.items = subst (λ n. HasOneMore n line c.loop-line.runs.items c.push_at.new.runs.items) same
    c.in_ok-push_at.ensures in
    let has : HasNumber numbers (name line.op) (get_or c.in_ok-numbers.found.items place 0) =
    subst (λ k. HasNumber numbers k (get_or c.in_ok-numbers.found.items place 0)) (ap (name_of name) here.1)
    (are.each place line here.0) in
    record {
      all = one_on _ _ _ _ _ i.all c.in-Some.ensures.steps.0;
      at = one_more c.loop-line.yielded line place i.at;
      long = more.long ∙ i.long;
      each = subst (λ names. AreSoFar name names (c.loop-line.yielded ++ line ∷ []) c.push_at.new.runs.items) (sym own)
          (so_far_more name numbers c.loop-line.yielded line (get_or c.in_ok-numbers.found.items place 0)
          c.loop-line.runs.items c.push_at.new.runs.items c.in_ok-numbers.ensures.formed has
          (i.long ∙ ap length own) more
          (subst (λ names. AreSoFar name names c.loop-line.yielded c.loop-line.runs.items) own i.each));
    }

pub returns : goal.returns
returns g c =
    let name = for_object (object_of c.args.names.now) (g.M.Named.name) in
    let numbers = c.in_ok-numbers.numbers in
    let i = c.loop-line.invariant in
    let are = subst (λ ls. AreNumbersOf name numbers ls c.in_ok-numbers.found.items) c.as_slice.ensures.value
    c.in_ok-numbers.ensures.numbers in
    let all = all_over c.args.lines.items c.loop-line.yielded _ i.all
    (nothing_left c.loop-line.line-iterator c.in-None.ensures.steps.0) in
    let own = ap (λ (v : Vec _). v.items) c.into_names-own.ensures in
    subst (λ names. AreRunsOf name names c.args.lines.items c.loop-line.runs.items) (sym own)
    (runs_made name numbers c.args.lines.items c.in_ok-numbers.found.items c.loop-line.runs.items are
    (i.long ∙ ap length own)
    (subst (λ ls. AreSoFar name numbers.names.items ls c.loop-line.runs.items) all
    (subst (λ names. AreSoFar name names c.loop-line.yielded c.loop-line.runs.items) own i.each)))
