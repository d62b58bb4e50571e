use Rattle.store_laws.proofs.Boots.{boots_now, ever_inside}
use Rattle.store_laws.proofs.each_crash_boots.Goals as goal

pub returns-clause-between : goal.returns-clause-between
returns-clause-between c room s0 h m bytes explained among =
    boots_now room s0 h m bytes explained among

pub returns-clause-inside : goal.returns-clause-inside
returns-clause-inside c room tci one request fails s0 h m bytes sound explained among =
    ever_inside room tci one request fails s0 h m bytes sound explained among
