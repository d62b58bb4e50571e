use Rattle.message_laws.proofs.Texts.{text_length}
use Rattle.message_laws.proofs.texts_are_short.Goals as goal

pub returns : goal.returns
returns c = record { law = text_length }
