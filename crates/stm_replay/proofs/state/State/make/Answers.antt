use Rattle.stm_core.specs.Event.{begin, probe, fetch, check, lock, tick, validate, put, release, give_back, finish}
use Rattle.std.proofs.Common.{[], ◌∷◌}
use Rattle.stm_replay.proofs.Making.{acting, splitting, gathering, renewing, looked_inside, looked_next, put_inside}
use Rattle.stm_replay.proofs.Making.{release_inside, given_inside, probe_inside, fetch_inside, lock_inside, lock_free}
use Rattle.stm_replay.proofs.Making.{tick_room, tick_below, split_grants, gather_apart, gather_grants, renew_few}
use Rattle.stm_replay.proofs.state.State.make.Goals as goal

pub validate-requires-clause-inside : goal.validate-requires-clause-inside
validate-requires-clause-inside g c = looked_inside c.args.self.now.core c.in-Validate.client c.in-Validate.lock
    c.requires.sane (rw c.in-Validate.is at c.requires.may)

pub validate-requires-clause-next : goal.validate-requires-clause-next
validate-requires-clause-next g c = looked_next c.args.self.now.core c.in-Validate.client c.in-Validate.lock
    (rw c.in-Validate.is at c.requires.may)

pub put-requires-clause-inside : goal.put-requires-clause-inside
put-requires-clause-inside g c = put_inside c.args.self.now.core c.in-Put.client c.in-Put.addr c.in-Put.value
    c.requires.sane (rw c.in-Put.is at c.requires.may)

pub release-requires-clause-inside : goal.release-requires-clause-inside
release-requires-clause-inside g c = release_inside c.args.self.now.core c.in-Release.client c.in-Release.lock
    c.requires.sane (rw c.in-Release.is at c.requires.may)

pub give_back-requires-clause-inside : goal.give_back-requires-clause-inside
give_back-requires-clause-inside g c = given_inside c.args.self.now.core c.in-GiveBack.client c.in-GiveBack.lock
    c.requires.sane (rw c.in-GiveBack.is at c.requires.may)

pub begin-requires : goal.begin-requires
begin-requires g c = record {
  there = acting c.args.self.now.core c.in-Begin.client begin (rw c.in-Begin.is at
      c.requires.may);
}

pub probe-requires-clause-there : goal.probe-requires-clause-there
probe-requires-clause-there g c = acting c.args.self.now.core c.in-Probe.client (probe c.in-Probe.lock)
    (rw c.in-Probe.is at c.requires.may)

pub fetch-requires-clause-there : goal.fetch-requires-clause-there
fetch-requires-clause-there g c = acting c.args.self.now.core c.in-Fetch.client (fetch c.in-Fetch.addr)
    (rw c.in-Fetch.is at c.requires.may)

pub check-requires : goal.check-requires
check-requires g c = record {
  there = acting c.args.self.now.core c.in-Check.client (check c.in-Check.addr) (rw
      c.in-Check.is at c.requires.may);
}

pub lock-requires-clause-there : goal.lock-requires-clause-there
lock-requires-clause-there g c = acting c.args.self.now.core c.in-Lock.client (lock c.in-Lock.lock)
    (rw c.in-Lock.is at c.requires.may)

pub tick-requires-clause-there : goal.tick-requires-clause-there
tick-requires-clause-there g c = acting c.args.self.now.core c.in-Tick.client
    (tick c.in-Tick.from (c.in-Tick.tag ∷ []) c.in-Tick.writes) (rw c.in-Tick.is at c.requires.may)

pub validate-requires-clause-there : goal.validate-requires-clause-there
validate-requires-clause-there g c = acting c.args.self.now.core c.in-Validate.client (validate c.in-Validate.lock)
    (rw c.in-Validate.is at c.requires.may)

pub put-requires-clause-there : goal.put-requires-clause-there
put-requires-clause-there g c = acting c.args.self.now.core c.in-Put.client (put c.in-Put.addr c.in-Put.value)
    (rw c.in-Put.is at c.requires.may)

pub release-requires-clause-there : goal.release-requires-clause-there
release-requires-clause-there g c = acting c.args.self.now.core c.in-Release.client (release c.in-Release.lock)
    (rw c.in-Release.is at c.requires.may)

pub give_back-requires-clause-there : goal.give_back-requires-clause-there
give_back-requires-clause-there g c = acting c.args.self.now.core c.in-GiveBack.client (give_back c.in-GiveBack.lock)
    (rw c.in-GiveBack.is at c.requires.may)

pub finish-requires : goal.finish-requires
finish-requires g c = record {
  there = acting c.args.self.now.core c.in-Finish.client (finish
      (c.in-Finish.tag ∷ [])) (rw c.in-Finish.is at c.requires.may);
}

pub split-requires-clause-there : goal.split-requires-clause-there
split-requires-clause-there g c = splitting c.args.self.now.core c.in-Split.client (rw c.in-Split.is at c.requires.may)

pub gather-requires-clause-there : goal.gather-requires-clause-there
gather-requires-clause-there g c = (gathering c.args.self.now.core c.in-Gather.client c.in-Gather.other
    (rw c.in-Gather.is at c.requires.may)).0

pub gather-requires-clause-other : goal.gather-requires-clause-other
gather-requires-clause-other g c = (gathering c.args.self.now.core c.in-Gather.client c.in-Gather.other
    (rw c.in-Gather.is at c.requires.may)).1

pub renew-requires-clause-there : goal.renew-requires-clause-there
renew-requires-clause-there g c = renewing c.args.self.now.core c.in-Renew.client c.in-Renew.last
    (rw c.in-Renew.is at c.requires.may)

pub returns-in-Begin-clause-done : goal.returns-in-Begin-clause-done
returns-in-Begin-clause-done g c = rw c.in-Begin.is c.begin.ensures.done

pub returns-in-Begin-clause-kept : goal.returns-in-Begin-clause-kept
returns-in-Begin-clause-kept g c = c.begin.ensures.kept

pub returns-in-Probe-clause-done : goal.returns-in-Probe-clause-done
returns-in-Probe-clause-done g c = rw c.in-Probe.is c.probe.ensures.done

pub returns-in-Probe-clause-kept : goal.returns-in-Probe-clause-kept
returns-in-Probe-clause-kept g c = c.probe.ensures.kept

pub returns-in-Fetch-clause-done : goal.returns-in-Fetch-clause-done
returns-in-Fetch-clause-done g c = rw c.in-Fetch.is c.fetch.ensures.done

pub returns-in-Fetch-clause-kept : goal.returns-in-Fetch-clause-kept
returns-in-Fetch-clause-kept g c = c.fetch.ensures.kept

pub returns-in-Check-clause-done : goal.returns-in-Check-clause-done
returns-in-Check-clause-done g c = rw c.in-Check.is c.check.ensures.done

pub returns-in-Check-clause-kept : goal.returns-in-Check-clause-kept
returns-in-Check-clause-kept g c = c.check.ensures.kept

pub returns-in-Lock-clause-done : goal.returns-in-Lock-clause-done
returns-in-Lock-clause-done g c = rw c.in-Lock.is c.lock.ensures.done

pub returns-in-Lock-clause-kept : goal.returns-in-Lock-clause-kept
returns-in-Lock-clause-kept g c = c.lock.ensures.kept

pub returns-in-Tick-clause-done : goal.returns-in-Tick-clause-done
returns-in-Tick-clause-done g c = rw c.in-Tick.is c.tick.ensures.done

pub returns-in-Tick-clause-kept : goal.returns-in-Tick-clause-kept
returns-in-Tick-clause-kept g c = c.tick.ensures.kept

pub returns-in-Validate-clause-done : goal.returns-in-Validate-clause-done
returns-in-Validate-clause-done g c = rw c.in-Validate.is c.validate.ensures.done

pub returns-in-Validate-clause-kept : goal.returns-in-Validate-clause-kept
returns-in-Validate-clause-kept g c = c.validate.ensures.kept

pub returns-in-Put-clause-done : goal.returns-in-Put-clause-done
returns-in-Put-clause-done g c = rw c.in-Put.is c.put.ensures.done

pub returns-in-Put-clause-kept : goal.returns-in-Put-clause-kept
returns-in-Put-clause-kept g c = c.put.ensures.kept

pub returns-in-Release-clause-done : goal.returns-in-Release-clause-done
returns-in-Release-clause-done g c = rw c.in-Release.is c.release.ensures.done

pub returns-in-Release-clause-kept : goal.returns-in-Release-clause-kept
returns-in-Release-clause-kept g c = c.release.ensures.kept

pub returns-in-GiveBack-clause-done : goal.returns-in-GiveBack-clause-done
returns-in-GiveBack-clause-done g c = rw c.in-GiveBack.is c.give_back.ensures.done

pub returns-in-GiveBack-clause-kept : goal.returns-in-GiveBack-clause-kept
returns-in-GiveBack-clause-kept g c = c.give_back.ensures.kept

pub returns-in-Finish-clause-done : goal.returns-in-Finish-clause-done
returns-in-Finish-clause-done g c = rw c.in-Finish.is c.finish.ensures.done

pub returns-in-Finish-clause-kept : goal.returns-in-Finish-clause-kept
returns-in-Finish-clause-kept g c = c.finish.ensures.kept

pub returns-in-Split-clause-done : goal.returns-in-Split-clause-done
returns-in-Split-clause-done g c = rw c.in-Split.is c.split.ensures.done

pub returns-in-Split-clause-kept : goal.returns-in-Split-clause-kept
returns-in-Split-clause-kept g c = c.split.ensures.kept

pub returns-in-Gather-clause-done : goal.returns-in-Gather-clause-done
returns-in-Gather-clause-done g c = rw c.in-Gather.is c.gather.ensures.done

pub returns-in-Gather-clause-kept : goal.returns-in-Gather-clause-kept
returns-in-Gather-clause-kept g c = c.gather.ensures.kept

pub returns-in-Renew-clause-done : goal.returns-in-Renew-clause-done
returns-in-Renew-clause-done g c = rw c.in-Renew.is c.renew.ensures.done

pub returns-in-Renew-clause-kept : goal.returns-in-Renew-clause-kept
returns-in-Renew-clause-kept g c = c.renew.ensures.kept

pub probe-requires-clause-inside : goal.probe-requires-clause-inside
probe-requires-clause-inside g c = probe_inside c.args.self.now.core c.in-Probe.client c.in-Probe.lock
    (rw c.in-Probe.is at c.requires.may)

pub fetch-requires-clause-inside : goal.fetch-requires-clause-inside
fetch-requires-clause-inside g c = fetch_inside c.args.self.now.core c.in-Fetch.client c.in-Fetch.addr
    (rw c.in-Fetch.is at c.requires.may)

pub lock-requires-clause-inside : goal.lock-requires-clause-inside
lock-requires-clause-inside g c = lock_inside c.args.self.now.core c.in-Lock.client c.in-Lock.lock
    (rw c.in-Lock.is at c.requires.may)

pub lock-requires-clause-free : goal.lock-requires-clause-free
lock-requires-clause-free g c = lock_free c.args.self.now.core c.in-Lock.client c.in-Lock.lock
    (rw c.in-Lock.is at c.requires.may)

pub tick-requires-clause-room : goal.tick-requires-clause-room
tick-requires-clause-room g c = tick_room c.args.self.now.core c.in-Tick.client c.in-Tick.from
    (c.in-Tick.tag ∷ []) c.in-Tick.writes
    (rw c.in-Tick.is at c.requires.may)

pub tick-requires-clause-below : goal.tick-requires-clause-below
tick-requires-clause-below g c = tick_below c.args.self.now.core c.in-Tick.client c.in-Tick.from
    (c.in-Tick.tag ∷ []) c.in-Tick.writes
    c.requires.sane (rw c.in-Tick.is at c.requires.may)

pub split-requires-clause-grants : goal.split-requires-clause-grants
split-requires-clause-grants g c = split_grants c.args.self.now.core c.in-Split.client
    (rw c.in-Split.is at c.requires.may)

pub gather-requires-clause-apart : goal.gather-requires-clause-apart
gather-requires-clause-apart g c = gather_apart c.args.self.now.core c.in-Gather.client c.in-Gather.other
    (rw c.in-Gather.is at c.requires.may)

pub gather-requires-clause-grants : goal.gather-requires-clause-grants
gather-requires-clause-grants g c = gather_grants c.args.self.now.core c.in-Gather.client c.in-Gather.other
    c.requires.sane (rw c.in-Gather.is at c.requires.may)

pub renew-requires-clause-few : goal.renew-requires-clause-few
renew-requires-clause-few g c = renew_few c.args.self.now.core c.in-Renew.client c.in-Renew.last
    (rw c.in-Renew.is at c.requires.may)

pub release-requires-clause-small : goal.release-requires-clause-small
release-requires-clause-small g c = c.requires.sane.versions c.in-Release.client

pub give_back-requires-clause-small : goal.give_back-requires-clause-small
give_back-requires-clause-small g c = c.requires.sane.old c.in-GiveBack.client c.in-GiveBack.lock
