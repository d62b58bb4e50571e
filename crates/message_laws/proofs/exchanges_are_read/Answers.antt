use Rattle.std.proofs.Common.{refl}
use Rattle.message_spec.specs.Fields.{put, padding}
use Rattle.message_spec.specs.Types.{type_numbered, kind_of}
use Rattle.message_spec.specs.Reading.{message_of, plain}
use Rattle.message_spec.specs.Text.{kind_text, cut, contents_text, message_text}
use Rattle.std.specs.Fmt.{digits}
use Rattle.hex.specs.Hex.{encode_with}
use Rattle.message_laws.proofs.exchanges_are_read.Goals as goal

pub returns : goal.returns
unfolding digits put padding type_numbered kind_of message_of plain kind_text cut contents_text message_text encode_with
returns c = record {
  law = (
    record { read = refl; written = refl; spelled = refl },
    record { read = refl; written = refl; spelled = refl },
    record { read = refl; written = refl; spelled = refl },
    record { read = refl; written = refl; spelled = refl },
    record { read = refl; written = refl; spelled = refl },
    record { read = refl; written = refl; spelled = refl },
    record { read = refl; written = refl; spelled = refl },
    record { read = refl; written = refl; spelled = refl },
    record { read = refl; written = refl; spelled = refl },
    record { read = refl; written = refl; spelled = refl },
    record { read = refl; written = refl; spelled = refl },
    record { read = refl; spelled = refl },
    record { read = refl; spelled = refl },
    record { read = refl; spelled = refl },
  );
}
