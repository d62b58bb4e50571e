-- The packets of a window as they are sent.
use Rattle.std.specs.Prelude.{◌≡◌, ℕ, Bool, List, [], ◌∷◌}
use Rattle.omci_types.specs.declared.EntityId.{EntityId}
use Rattle.message_spec.specs.declared.Message.TheVariants.{Asked}
use Rattle.message_spec.specs.declared.Request.TheVariants.{Section}
use Rattle.message_spec.specs.Reading.{plain}
use Rattle.frame_spec.specs.Baseline.{spelling}
use Rattle.window_spec.specs.Outgoing.{Outgoing}
use Rattle.download_laws.specs.Carrying.{IsSectionOf}

-- a packet is that of a section of the window that is sent
pub record IsSent (o : Outgoing) (tci : ℕ) (one : EntityId) (packet : List ℕ) : Type 0 where
  pub number : ℕ
  pub bytes : List ℕ
  pub last : Bool
  pub is : packet ≡ spelling (plain (Asked tci one (Section number bytes last)))
  pub section : IsSectionOf o number bytes last

abbrev pub AreSent : Outgoing → ℕ → EntityId → List (List ℕ) → Type 0
AreSent o tci one [] = Unit {0}
AreSent o tci one (packet ∷ rest) = IsSent o tci one packet × AreSent o tci one rest
