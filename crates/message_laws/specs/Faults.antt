-- When a frame is no message.
use Rattle.std.specs.Prelude.{◌≡◌, ◌≢◌, ℕ}
use Rattle.omci_types.specs.declared.Frame.{Frame}
use Rattle.message_spec.specs.declared.MessageType.{MessageType}
use Rattle.message_spec.specs.declared.Kind.{Kind}
use Rattle.message_spec.specs.Types.{type_number, type_bits, type_byte}

-- the number is that of the frame's message type, and no type of the table has it
pub record IsUnknownType (f : Frame) (number : ℕ) : Type 0 where
  pub is : number ≡ type_bits f.kind
  pub unknown : (t : MessageType) → type_number t ≢ number

-- the byte is the frame's type byte; a type of the table has its number, but no message has these
-- bits
pub record HasWrongBits (f : Frame) (byte : ℕ) : Type 0 where
  pub is : byte ≡ f.kind
  pub known : (t : MessageType) × (type_number t ≡ type_bits byte)
  pub wrong : (kind : Kind) → type_byte kind ≢ byte
