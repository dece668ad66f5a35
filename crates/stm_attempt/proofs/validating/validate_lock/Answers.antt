use Rattle.std.proofs.Common.{◌≡◌, true, ◌||◌, sym, ◌∙◌, arith}
use Rattle.std.proofs.lemmas.Bool.Decides.{nat_tests}
use Rattle.stm_core.specs.Client.{is_free, writes_to}
use Rattle.stm_attempt.proofs.ValidateOne.{refused_held, shown_held, own_passes, free_passes, refused_newer}
use Rattle.stm_attempt.proofs.ValidateOne.{shown_newer, has_passed}
use Rattle.stm_attempt.proofs.validating.validate_lock.Goals as goal
use Rattle.stm_attempt.proofs.validating.validate_lock.Goals.{else-held-via-then-held+else-not-holds}
use Rattle.stm_attempt.proofs.validating.validate_lock.Goals.{else-held-via-else-held}

pub returns-then-not-holds-clause-failed : goal.returns-then-not-holds-clause-failed
returns-then-not-holds-clause-failed g c =
    refused_held _ _ _ c.decode-version.ensures.free c.decode-version.ensures.held c.args.region.now c.args.client.now
    c.validate-word.new.client c.args.lock c.validate-word.ensures.client c.args.writes.now c.requires.held
    c.if-held.true c.holds.result c.holds.ensures c.if-not-holds.true

pub returns-then-not-holds-clause-shown : goal.returns-then-not-holds-clause-shown
returns-then-not-holds-clause-shown g c =
    shown_held _ _ _ c.decode-version.ensures.free c.decode-version.ensures.held c.args.region.now c.args.client.now
    c.validate-word.new.client c.args.lock c.validate-word.ensures.client c.args.writes.now c.requires.held
    c.if-held.true c.holds.result c.holds.ensures c.if-not-holds.true

pub returns-then-gt-clause-failed : goal.returns-then-gt-clause-failed
returns-then-gt-clause-failed g c =
    let ours : (is_free c.validate-word.result || writes_to c.args.client.now.value.attempt.held c.args.lock) ≡ true =
    elim c.else-held.branch [
      | else-held-via-then-held+else-not-holds w ↦ own_passes _ c.args.client.now.value.attempt.held c.args.lock
          c.args.writes.now c.requires.held w.holds.result w.holds.ensures w.if-not-holds.false
      | else-held-via-else-held w ↦ free_passes _ _ _ c.decode-version.ensures.free c.decode-version.ensures.held
          c.args.client.now.value.attempt.held c.args.lock w.if-held.false
    ] in
    refused_newer _ _ _ c.decode-version.ensures.free c.decode-version.ensures.held c.args.region.now c.args.client.now
    c.validate-word.new.client c.args.lock c.validate-word.ensures.client c.args.writes.now c.requires.held ours
    c.args.rv c.requires.version (grind (arith, nat_tests))

pub returns-then-gt-clause-shown : goal.returns-then-gt-clause-shown
returns-then-gt-clause-shown g c =
    let ours : (is_free c.validate-word.result || writes_to c.args.client.now.value.attempt.held c.args.lock) ≡ true =
    elim c.else-held.branch [
      | else-held-via-then-held+else-not-holds w ↦ own_passes _ c.args.client.now.value.attempt.held c.args.lock
          c.args.writes.now c.requires.held w.holds.result w.holds.ensures w.if-not-holds.false
      | else-held-via-else-held w ↦ free_passes _ _ _ c.decode-version.ensures.free c.decode-version.ensures.held
          c.args.client.now.value.attempt.held c.args.lock w.if-held.false
    ] in
    shown_newer _ _ _ c.decode-version.ensures.free c.decode-version.ensures.held c.args.region.now c.args.client.now
    c.validate-word.new.client c.args.lock c.validate-word.ensures.client c.args.writes.now c.requires.held ours
    c.args.rv c.requires.version (grind (arith, nat_tests))

pub returns-clause-passed : goal.returns-clause-passed
returns-clause-passed g c =
    let ours : (is_free c.validate-word.result || writes_to c.args.client.now.value.attempt.held c.args.lock) ≡ true =
    elim c.else-held.branch [
      | else-held-via-then-held+else-not-holds w ↦ own_passes _ c.args.client.now.value.attempt.held c.args.lock
          c.args.writes.now c.requires.held w.holds.result w.holds.ensures w.if-not-holds.false
      | else-held-via-else-held w ↦ free_passes _ _ _ c.decode-version.ensures.free c.decode-version.ensures.held
          c.args.client.now.value.attempt.held c.args.lock w.if-held.false
    ] in
    has_passed _ _ _ c.decode-version.ensures.free c.decode-version.ensures.held c.args.region.now c.args.client.now
    c.validate-word.new.client c.args.lock c.validate-word.ensures.client c.args.writes.now c.requires.held ours
    c.args.rv c.requires.version (grind (arith, nat_tests))

pub holds-requires : goal.holds-requires
holds-requires g c = λ l at_l. c.requires.placed.lock c.args.addr.0 l at_l ∙ sym c.requires.lock
