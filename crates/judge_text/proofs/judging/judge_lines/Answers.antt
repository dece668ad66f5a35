use Rattle.std.proofs.Common.{◌≡◌, ◌∙◌, ap, subst, sym}
use Rattle.judge_search.specs.Calls.{calls_of}
use Rattle.judge_text.specs.Classing.{object_of, for_object}
use Rattle.judge_text.specs.Counting.{clients_in, counts_of}
use Rattle.judge_text.specs.Relaxing.{IsTurnAt}
use Rattle.judge_text.specs.Starts.{start_of}
use Rattle.judge_text.proofs.OnLines.{broken_on_lines, verdict_on_lines}
use Rattle.judge_text.proofs.judging.judge_lines.Goals as goal

pub returns-in-Some : goal.returns-in-Some
returns-in-Some g c =
    let lines = c.args.lines.items in
    let relaxed = c.in_ok-relaxed.relaxed.items in
    let names = c.in_ok-names.names in
    let clients = c.in_ok-clients.clients in
    let all = c.in_ok-clients.ensures ∙ ap (λ ls. clients_in (calls_of ls)) c.as_slice.ensures.value in
    let named = subst (λ ls. g.M.Named.naming (calls_of ls) (object_of names)) c.as_slice-3.ensures.value
    c.in_ok-names.ensures in
    let counted = c.in_ok-counts.ensures ∙ ap (λ ls. record (counts_of (for_object (object_of names) g.M.Named.name)
    (calls_of ls)) { clients = clients }) c.as_slice-4.ensures.value in
    let turn = subst (λ ls. IsTurnAt c.args.how.level (calls_of ls) c.in_ok-broken.broken) c.as_slice-2.ensures.value
    c.in_ok-broken.ensures in
    broken_on_lines g.M.Object.rules g.M.Named.name g.M.Named.naming (start_of c.args.starts.now) c.args.how lines
    relaxed names clients c.in_ok-counts.counts c.requires c.in_ok-relaxed.ensures all named counted c.in-Some.place
    (subst (IsTurnAt c.args.how.level (calls_of lines)) c.in-Some.is turn)

pub returns-in_ok-verdict-in-None : goal.returns-in_ok-verdict-in-None
returns-in_ok-verdict-in-None g c =
    let lines = c.args.lines.items in
    let relaxed = c.in_ok-relaxed.relaxed.items in
    let names = c.in_ok-names.names in
    let clients = c.in_ok-clients.clients in
    let all = c.in_ok-clients.ensures ∙ ap (λ ls. clients_in (calls_of ls)) c.as_slice.ensures.value in
    let named = subst (λ ls. g.M.Named.naming (calls_of ls) (object_of names)) c.as_slice-3.ensures.value
    c.in_ok-names.ensures in
    let counted = c.in_ok-counts.ensures ∙ ap (λ ls. record (counts_of (for_object (object_of names) g.M.Named.name)
    (calls_of ls)) { clients = clients }) c.as_slice-4.ensures.value in
    let turn = subst (λ ls. IsTurnAt c.args.how.level (calls_of ls) c.in_ok-broken.broken) c.as_slice-2.ensures.value
    c.in_ok-broken.ensures in
    verdict_on_lines g.M.Object.rules g.M.Named.name g.M.Named.naming (start_of c.args.starts.now) c.args.how lines
    relaxed names clients c.in_ok-counts.counts c.requires c.in_ok-relaxed.ensures all named counted
    c.in_ok-verdict-in-None.verdict (subst (IsTurnAt c.args.how.level (calls_of lines)) c.in-None.is turn)
    c.in_ok-verdict-in-None.ensures
