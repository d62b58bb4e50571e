use Rattle.omci_frames.proofs.Encoding.{spelled}
use Rattle.omci_frames.proofs.encode.Goals as goal

pub returns-clause-spelled : goal.returns-clause-spelled
returns-clause-spelled c =
    spelled c.args.frame.now c.args.into.now c.put_number.new.into c.put_kind.new.into c.put_number-2.new.into c.put_number-3.new.into c.put_contents.new.into c.put_trailer.new.into c.put_check.new.into
    c.put_number.ensures.front c.put_kind.ensures.front c.put_number-2.ensures.front c.put_number-3.ensures.front c.put_contents.ensures.front c.put_trailer.ensures.front c.put_check.ensures.whole
