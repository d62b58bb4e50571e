use Rattle.link_replay.proofs.Loops.{down_sent}
use Rattle.link_replay.proofs.machine.Machine.send_down.Goals as goal

pub loop-place-preserved : goal.loop-place-preserved
loop-place-preserved c =
    down_sent c.args.self.now c.loop-place.self c.send.new.self c.args.packets.now c.loop-place.place c.get.result.now c.args.out.now c.loop-place.out c.send.new.out
    c.loop-place.invariant c.get.ensures.value c.in_ok-send.ensures.machine c.in_ok-send.ensures.line
