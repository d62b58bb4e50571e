use Rattle.std.proofs.Common.{sym}
use Rattle.alarm_laws.proofs.Answers.{answer_tested}
use Rattle.alarm_log.proofs.table.AlarmTable.take.Goals as goal

pub notice-requires : goal.notice-requires
notice-requires c = ((answer_tested c.args.number c.args.self.now).taken.0 (sym c.in-Taken.ensures.value)).3
