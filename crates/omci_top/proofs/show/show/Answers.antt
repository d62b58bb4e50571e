use Rattle.std.proofs.Common.{None}
use Rattle.omci_top.proofs.ShowLemmas.{show_done, show_told, show_read, show_write, show_long, show_memory}
use Rattle.omci_top.proofs.show.show.Goals as goal

pub returns-in-Ok : goal.returns-in-Ok
returns-in-Ok g c = record { answers = show_done _ _ _ None _ _ _ _ 0 _ c.in-Ok.ensures.shows }

pub returns-in-Err-Refused : goal.returns-in-Err-Refused
returns-in-Err-Refused g c = record {
  answers = show_told _ _ _ _ _ _ _ _ _ _ c.tell_fault.result c.in-Err-Refused.place c.in-Err-Refused.reason (rw c.in-Err-Refused.field-0-is at c.in-Err-Refused.ensures.shows) c.tell_fault.ensures.ran;
}

pub returns-in-Err-Read : goal.returns-in-Err-Read
returns-in-Err-Read g c = record { answers = show_read _ _ _ None _ _ _ _ 0 _ (rw c.in-Err-Read.field-0-is at c.in-Err-Read.ensures.shows) }

pub returns-in-Err-Write : goal.returns-in-Err-Write
returns-in-Err-Write g c = record { answers = show_write _ _ _ None _ _ _ _ 0 _ (rw c.in-Err-Write.field-0-is at c.in-Err-Write.ensures.shows) }

pub returns-in-Err-TooLong : goal.returns-in-Err-TooLong
returns-in-Err-TooLong g c = record { answers = show_long _ _ _ None _ _ _ _ 0 _ (rw c.in-Err-TooLong.field-0-is at c.in-Err-TooLong.ensures.shows) }

pub returns-in-Err-NoMemory : goal.returns-in-Err-NoMemory
returns-in-Err-NoMemory g c = record { answers = show_memory _ _ _ None _ _ _ _ 0 _ (rw c.in-Err-NoMemory.field-0-is at c.in-Err-NoMemory.ensures.shows) }
