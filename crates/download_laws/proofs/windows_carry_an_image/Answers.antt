use Rattle.download_laws.proofs.Carrying.{begun_has, section_carries, taken_has, next_has}
use Rattle.download_laws.proofs.Carrying.{whole_is, sealed_is, ended_is}
use Rattle.download_laws.proofs.windows_carry_an_image.Goals as goal

pub returns-clause-begun : goal.returns-clause-begun
returns-clause-begun c = begun_has

pub returns-clause-section : goal.returns-clause-section
returns-clause-section c = section_carries

pub returns-clause-taken : goal.returns-clause-taken
returns-clause-taken c = taken_has

pub returns-clause-next : goal.returns-clause-next
returns-clause-next c = next_has

pub returns-clause-whole : goal.returns-clause-whole
returns-clause-whole c = whole_is

pub returns-clause-sealed : goal.returns-clause-sealed
returns-clause-sealed c = sealed_is

pub returns-clause-ended : goal.returns-clause-ended
returns-clause-ended c = ended_is
