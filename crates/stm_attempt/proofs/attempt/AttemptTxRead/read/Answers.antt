use Rattle.std.proofs.Common.{sym, ◌∙◌, ap, refl, Ok}
use Rattle.stm_attempt.proofs.Entering.{has_entered, same_some, runs_inside, logged_too, is_there}
use Rattle.stm_attempt.proofs.Marking.{not_met}
use Rattle.stm_attempt.proofs.Parts.{inside_of, inside_same}
use Rattle.stm_attempt.proofs.attempt.AttemptTxRead.read.Goals as goal

pub returns-in-Ok-clause-answer : goal.returns-in-Ok-clause-answer
returns-in-Ok-clause-answer g c =
    has_entered c.args.self.now.logs.now.in_use c.args.self.now.region.now g.L.Law.fits c.args.self.now.client.now.value
    c.read_word.new.client.value c.args.self.now.logs.now.writes _ _
    (runs_inside _ _ _ _ _ _ c.requires)
    (sym c.in_ok-value.ensures.ok.0 ∙ c.in_default.is) c.in-Ok.ensures.ok c.in-Ok.ensures.stands

pub returns-in-Some-clause-own : goal.returns-in-Some-clause-own
returns-in-Some-clause-own g c = λ none value is.
    (ap Ok (same_some _ _ (sym c.in-Some.is ∙ c.in_ok-value.ensures.ok.0 ∙ is)), (refl, refl))

pub invariant_of-self-in-Ok-clause-inside : goal.invariant_of-self-in-Ok-clause-inside
invariant_of-self-in-Ok-clause-inside g c = λ _. inside_of g.L.Law.fits c.args.self.now.region.now.size
    c.read_word.new.client.value.attempt.reads c.in-Ok.ensures.stands

pub invariant_of-self-in-Err-clause-inside : goal.invariant_of-self-in-Err-clause-inside
invariant_of-self-in-Err-clause-inside g c = λ in_use. inside_same c.args.self.now.region.now.size
    c.args.self.now.client.now.value.attempt.reads c.read_word.new.client.value.attempt.reads
    c.in-Err.ensures.conflict.reads
    (c.args.self.now.inside in_use)

pub invariant_of-self-in-Ok-clause-logged : goal.invariant_of-self-in-Ok-clause-logged
invariant_of-self-in-Ok-clause-logged g c = λ in_use none. logged_too c.args.self.now.client.now.value.attempt.reads
    c.read_word.new.client.value.attempt.reads c.args.self.now.logs.now.reads c.push.new.self _ _
    (c.args.self.now.logged in_use none) c.in_ok-push.ensures c.in-Ok.ensures.ok.reads

pub returns-in-Ok-clause-again : goal.returns-in-Ok-clause-again
returns-in-Ok-clause-again g c = λ conflict e. not_met _ conflict c.in_ok-value.ensures.ok.1 e

pub returns-in-Err-clause-again : goal.returns-in-Err-clause-again
returns-in-Err-clause-again g c = λ conflict e. not_met _ conflict c.in_ok-value.ensures.ok.1 e

pub returns-in_err-push-clause-again : goal.returns-in_err-push-clause-again
returns-in_err-push-clause-again g c = λ conflict e. not_met _ conflict c.in_ok-value.ensures.ok.1 e

pub returns-in-Some-clause-again : goal.returns-in-Some-clause-again
returns-in-Some-clause-again g c = λ conflict e. not_met _ conflict c.in_ok-value.ensures.ok.1 e

pub returns-in-Ok-clause-own : goal.returns-in-Ok-clause-own
returns-in-Ok-clause-own g c = λ none value is.
    not_met _ value (sym c.in_ok-value.ensures.ok.0 ∙ c.in_default.is) is

pub returns-in-Err-clause-own : goal.returns-in-Err-clause-own
returns-in-Err-clause-own g c = λ none value is.
    not_met _ value (sym c.in_ok-value.ensures.ok.0 ∙ c.in_default.is) is

pub returns-in_err-push-clause-own : goal.returns-in_err-push-clause-own
returns-in_err-push-clause-own g c = λ none value is.
    not_met _ value (sym c.in_ok-value.ensures.ok.0 ∙ c.in_default.is) is

pub returns-in-Some-clause-region : goal.returns-in-Some-clause-region
returns-in-Some-clause-region g c = λ none absent.
    is_there _ c.in-Some.value (sym c.in-Some.is ∙ c.in_ok-value.ensures.ok.0) absent
