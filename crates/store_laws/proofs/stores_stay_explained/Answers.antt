use Rattle.store_spec.specs.Deeds.{deed}
use Rattle.store_laws.proofs.Steps.{meets, sound_started, explained_after, sound_after}
use Rattle.store_laws.proofs.stores_stay_explained.Goals as goal

pub returns-clause-started : goal.returns-clause-started
returns-clause-started c boot s below = sound_started boot s below

pub returns-clause-explained : goal.returns-clause-explained
returns-clause-explained c boot l s explained = record { sure = explained; doubtful = explained }

pub returns-clause-sound : goal.returns-clause-sound
returns-clause-sound c room tci one request fails m sound =
    sound_after m fails (deed room tci one request m) sound (meets one m sound room tci request)

pub returns-clause-after : goal.returns-clause-after
returns-clause-after c room tci one request fails l m sound explained =
    explained_after l m fails (deed room tci one request m) sound
    (meets one m sound room tci request) explained
