use Rattle.stm_attempt.specs.Leading.{AreFittingWords, records_lead, readings_lead}
use Rattle.stm_attempt.proofs.Leading.{fitting_local, keeps_fitting}
use Rattle.stm_attempt.proofs.theorem.records_keep_fitting.Goals as goal

pub returns-clause-records : goal.returns-clause-records
returns-clause-records g c = let fits = g.L.Law.fits in records_lead fits (AreFittingWords fits) (AreFittingWords fits)
    (fitting_local fits) (fitting_local fits)

pub returns-clause-readings : goal.returns-clause-readings
returns-clause-readings g c = let fits = g.L.Law.fits in readings_lead fits (AreFittingWords fits)
    (AreFittingWords fits)
    (fitting_local fits) (fitting_local fits)

pub returns-clause-keeps : goal.returns-clause-keeps
returns-clause-keeps g c = keeps_fitting g.L.Law.fits
