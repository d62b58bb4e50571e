use Rattle.mib_store.proofs.Start.{first_table, first_seen}
use Rattle.mib_store.proofs.first.first_entries.Goals as goal

pub returns-clause-seen : goal.returns-clause-seen
returns-clause-seen c = rw (c.unit_entry.ensures, c.unit_entry-2.ensures, c.unit_entry-3.ensures, c.unit_entry-4.ensures, c.unit_entry-5.ensures, c.unit_entry-6.ensures, c.unit_entry-7.ensures, c.unit_entry-8.ensures, c.unit_entry-9.ensures, c.unit_entry-10.ensures, c.unit_entry-11.ensures) (first_seen c.args.first c.args.second c.ethernet-ethernet.result c.onu_g.result c.onu2_g.result c.t_cont-t_cont.result c.ethernet-ethernet.ensures c.onu_g.ensures c.onu2_g.ensures c.t_cont-t_cont.ensures)

pub returns-clause-table : goal.returns-clause-table
returns-clause-table c = rw (c.unit_entry.ensures, c.unit_entry-2.ensures, c.unit_entry-3.ensures, c.unit_entry-4.ensures, c.unit_entry-5.ensures, c.unit_entry-6.ensures, c.unit_entry-7.ensures, c.unit_entry-8.ensures, c.unit_entry-9.ensures, c.unit_entry-10.ensures, c.unit_entry-11.ensures) first_table
