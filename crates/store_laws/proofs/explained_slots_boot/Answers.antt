use Rattle.store_laws.proofs.Papers.{bootable, explained_first}
use Rattle.store_laws.proofs.explained_slots_boot.Goals as goal

pub returns-clause-bootable : goal.returns-clause-bootable
returns-clause-bootable c l s explained = bootable l s explained

pub returns-clause-first : goal.returns-clause-first
returns-clause-first c s below some = explained_first s below some
