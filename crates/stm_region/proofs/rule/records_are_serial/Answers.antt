use Rattle.stm_region.proofs.Laws.{serial, abides, among}
use Rattle.stm_region.proofs.rule.records_are_serial.Goals as goal

pub returns-clause-serial : goal.returns-clause-serial
returns-clause-serial g c o s h = serial g.L.Law.fits g.L.Law.lawful o s h

pub returns-clause-lawful : goal.returns-clause-lawful
returns-clause-lawful g c o s h = abides g.L.Law.fits g.L.Law.lawful o s h

pub returns-clause-among : goal.returns-clause-among
returns-clause-among g c o s h = among g.L.Law.fits g.L.Law.lawful o s h
