-- Requests by what they are about, and what a request for an image comes to beside the store, by
-- the store's answer and the software images that are shown then.
use Rattle.std.specs.Prelude.{ℕ, ◌==◌, nat_lt, if◌then◌else◌, Bool, true, false, Option, Some, None}
use Rattle.omci_types.specs.declared.EntityId.{EntityId}
use Rattle.omci_types.specs.declared.Software.{Software}
use Rattle.omci_types.specs.declared.SlotView.{SlotView}
use Rattle.omci_types.specs.declared.TheConstants.Code.{SUCCESS}
use Rattle.message_spec.specs.declared.Request.{Request}
use Rattle.message_spec.specs.declared.Request.TheVariants as request
use Rattle.message_spec.specs.declared.Response.{Response}
use Rattle.message_spec.specs.declared.Response.TheVariants as response
use Rattle.mib_spec.specs.Database.{slot as shown_in}
use Rattle.store_spec.specs.declared.Handled.{Handled}
use Rattle.store_spec.specs.declared.Handled.TheVariants as handled
use Rattle.store_spec.specs.declared.TheConstants.{IMAGES}
use Rattle.unit_spec.specs.declared.Note.{Note}
use Rattle.unit_spec.specs.declared.Note.TheVariants as note
use Rattle.unit_spec.specs.Onu.{code}
use Rattle.unit_spec.specs.Images.{granted_by, leave_note}

-- whether a request is for a software image
abbrev pub is_for_image : Request → Bool
is_for_image (request.Start window size targets target) = true
is_for_image (request.Section number bytes last) = true
is_for_image (request.End crc size targets target) = true
is_for_image (request.Activate flags) = true
is_for_image request.Commit = true
is_for_image _ = false

-- whether it is about the database or the alarms
abbrev pub is_for_desk : Request → Bool
is_for_desk (request.Start window size targets target) = false
is_for_desk (request.Section number bytes last) = false
is_for_desk (request.End crc size targets target) = false
is_for_desk (request.Activate flags) = false
is_for_desk request.Commit = false
is_for_desk (request.Reboot flags) = false
is_for_desk _ = true

-- the slot that an entity names, where it is a software image
abbrev pub slot_of : EntityId → ℕ
slot_of one = if nat_lt one.instance IMAGES then one.instance else 0

-- the response to a request for an image that was answered by this code
abbrev pub image_response : Request → ℕ → Response
image_response (request.Start window size targets target) number =
    response.Start (code number) (granted_by number window)
image_response (request.Section place bytes last) number = response.Section (code number) place
image_response (request.End crc size targets target) number = response.End (code number)
image_response (request.Activate flags) number = response.Activate (code number)
image_response request.Commit number = response.Commit (code number)
image_response _ number = response.Reboot (code number)

abbrev pub sealed_note : (slot : ℕ) → Option SlotView → Option Note
sealed_note slot None = None
sealed_note slot (Some view) = Some (note.Sealed slot view.length view.crc)

-- what else is told of a request for the image of a slot that was answered by success
abbrev pub success_note : Request → (leaves : Bool) (slot : ℕ) → Software → Option Note
success_note (request.End crc size targets target) leaves slot software =
    sealed_note slot (shown_in slot software)
success_note (request.Activate flags) leaves slot software = leave_note leaves slot
success_note request.Commit leaves slot software = Some (note.Committed slot)
success_note _ leaves slot software = None

abbrev pub image_note : Request → Handled → (slot : ℕ) → Software → Option Note
image_note r (handled.Answered code grows leaves) slot software =
    if code.0 == SUCCESS.0 then success_note r leaves slot software else None
image_note r handled.Held slot software = None
image_note r handled.Dropped slot software = None
