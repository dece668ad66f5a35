use Rattle.std.proofs.Common.{rules, ◌≡◌, ◌∙◌, ◌++◌, ◌∷◌, [], List, IfErr, refl, sym, ap, subst, arith}
use Rattle.std.proofs.lemmas.Result.{IfOk-at_ok}
use denote.Param.Send.{sendable}
use Rattle.vac_manager.specs.Called.{ClientShown, CallerShown}
use Rattle.ex_desk.specs.declared.asking.Served.{Served}
use Rattle.ex_desk.specs.declared.desk.Desk.{Desk}
use Rattle.ex_desk.specs.declared.rounds.Round.{Round}
use Rattle.ex_desk.specs.declared.run.DeskFault.{DeskFault}
use Rattle.ex_desk.specs.declared.run.DeskFault.TheVariants.{Memory}
use Rattle.ex_desk.specs.Desks.{HasServed, session_of}
use Rattle.ex_desk.specs.Rounds.{HasRunRound}
use Rattle.ex_desk.proofs.Rounding.{split_off, may_last, may_rest, has_run_end, has_run_more, took, took_theirs}
use Rattle.ex_desk.proofs.rounds.+fn-serve_all-serve_others+serve_all.Goals as goal

pub join-served-requires-after_bounds : goal.join-served-requires-after_bounds
join-served-requires-after_bounds g t c κs within =
    let m = c.args.manager.now in
    let y = session_of m c.args.client in
    let a = session_of m c.into_user-client.result in
    let o = session_of m c.into_user-own.result in
    let split = split_off m c.args.client c.into_user-client.result c.into_user-own.result c.caller-caller.result
    c.split.new.self
    c.in-Ok.own c.caller-caller.ensures c.in-Ok.ensures.ok c.into_user-client.ensures.user c.into_user-own.ensures.user
    in
    let items = c.in-Some.ensures.items in
    let all = c.args.desks.items in
    let ds = c.pop.new.self.items in
    let one = may_last c.args.settings all ds c.in-Some.desk y items c.requires.may in
    let rest = may_rest c.args.settings all ds c.in-Some.desk y a o.user items c.requires.may refl split in
    let theirs = ap (λ (x : ClientShown). x.table) split.theirs ∙ c.requires.own in
    let mine = ap (λ (x : ClientShown). x.table) split.mine ∙ c.requires.own in (
      (theirs, c.requires.settings, one),
      (
        search (rules, arith),
        (λ a m. m, ((mine, c.requires.settings, rest), search sendable depth 20)),
      ),
    )

pub returns-in_err-served-clause-refused : goal.returns-in_err-served-clause-refused
returns-in_err-served-clause-refused g t c =
    let h : IfErr c.join-served.result.0 (λ (e : DeskFault). e ≡ Memory) = c.join-served.ensures.first.1 in
    search (rules, h)

pub returns-in_err-client-clause-refused : goal.returns-in_err-client-clause-refused
returns-in_err-client-clause-refused g t c =
    let h : IfErr c.join-served.result.1 (λ (e : DeskFault). e ≡ Memory) = c.join-served.ensures.second.1 in
    search (rules, h)

pub returns-in_default-clause-ran : goal.returns-in_default-clause-ran
returns-in_default-clause-ran g t c = has_run_end c.args.settings c.args.desks.items c.pop.new.self.items c.pop.result
    (session_of c.args.manager.now c.args.client) c.in_default.is c.in_default.ensures.items (search (rules, arith))

pub caller-requires : goal.caller-requires
caller-requires g t c =
    let m = c.args.manager.now in
    let y = session_of m c.args.client in
    let a = session_of m c.into_user-client.result in
    let o = session_of m c.into_user-own.result in
    let split = split_off m c.args.client c.into_user-client.result c.into_user-own.result c.caller-caller.result
    c.split.new.self
    c.in-Ok.own c.caller-caller.ensures c.in-Ok.ensures.ok c.into_user-client.ensures.user c.into_user-own.ensures.user
    in
    let one = IfOk-at_ok (λ (r : Served). HasServed c.args.settings c.in-Some.desk r.desk o (session_of m r.client))
    c.in_ok-served.was c.join-served.ensures.first.0 in
    record {
      own = ap (λ (x : CallerShown). x.user.table) one.serves.caller ∙
          (ap (λ (x : ClientShown). x.table) split.theirs ∙ c.requires.own);
    }

pub returns-clause-ran : goal.returns-clause-ran
returns-clause-ran g t c =
    let m = c.args.manager.now in
    let y = session_of m c.args.client in
    let a = session_of m c.into_user-client.result in
    let o = session_of m c.into_user-own.result in
    let split = split_off m c.args.client c.into_user-client.result c.into_user-own.result c.caller-caller.result
    c.split.new.self
    c.in-Ok.own c.caller-caller.ensures c.in-Ok.ensures.ok c.into_user-client.ensures.user c.into_user-own.ensures.user
    in
    let served = c.in_ok-served.served in
    let round = c.in_ok-client.field-0 in
    let one = IfOk-at_ok (λ (r : Served). HasServed c.args.settings c.in-Some.desk r.desk o (session_of m r.client))
    c.in_ok-served.was c.join-served.ensures.first.0 in
    let run = IfOk-at_ok (λ (r : Round). HasRunRound c.args.settings c.pop.new.self.items r.desks.items a
    (session_of m r.client)) c.in_ok-client.was c.join-served.ensures.second.0 in
    let pushed : c.push.new.self.items ≡ round.desks.items ++ (served.desk ∷ []) = search rules in
    subst (λ (l : List Desk). HasRunRound c.args.settings c.args.desks.items l y (session_of m c.into_user.result))
    (sym pushed)
    (has_run_more c.args.settings c.args.desks.items c.pop.new.self.items round.desks.items c.in-Some.desk served.desk
    y a (session_of m round.client) (session_of m c.into_user.result) o (session_of m served.client)
    c.in-Some.ensures.items c.requires.may refl split refl one run
    (took m round.client served.client c.into_user.result c.caller-caller-2.result c.caller.result c.gather.new.self
    c.caller-caller-2.ensures c.caller.ensures c.gather.ensures.caller c.into_user.ensures.user)
    (took_theirs m served.client c.into_user.result c.caller.result c.gather.new.self c.caller.ensures
    c.into_user.ensures.user c.gather.ensures.theirs))
