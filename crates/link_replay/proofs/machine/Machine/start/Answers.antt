use Rattle.std.proofs.Common.{ap, ◌+◌, ◌*◌}
use Rattle.replay_script.specs.Events.{header_of}
use Rattle.link_replay.proofs.Powers.{first_stands}
use Rattle.link_replay.proofs.machine.Machine.start.Goals as goal

pub returns : goal.returns
returns c = record {
  first = first_stands (header_of c.args.header.now) _ c.in_ok-disk.disk c.in_ok-machine.machine c.start_agent.new.self c.in_ok-machine.ensures.value (ap (λ n. 4096 + 2 * n) c.from.ensures) c.in_ok-disk.ensures.stands c.in_ok-start_agent.ensures.woken;
}
