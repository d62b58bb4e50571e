use Rattle.link_laws.proofs.Held.{held_of-empty, held_of-sent, held_of-delivered, held_of-after, held_of-emptied}
use Rattle.link_laws.proofs.held_follows_the_link.Goals as goal

pub returns : goal.returns
returns c = record { empty = held_of-empty; sent = held_of-sent; delivered = held_of-delivered; after = held_of-after; emptied = held_of-emptied }
