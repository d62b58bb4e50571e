-- Each row of the table, looked up: its type bytes are found, its fields stand in order, and a
-- message is its values.
use Rattle.std.proofs.Common.{◌≡◌, ℕ, zero, suc, ◌<◌, Bool, true, false, cond, eqb, ltb, List, Result, Ok, Err, refl, ap, subst, ◌∙◌, arith, inl, inr}
use Rattle.std.proofs.lemmas.Bool.{cases_lt, eqb-true, ltb-true}
use Rattle.omci_types.specs.declared.EntityId.{EntityId}
use Rattle.message_spec.specs.declared.Action.{Action}
use Rattle.message_spec.specs.declared.Action.TheVariants.{Create, Delete, Set, Get, Alarms, AlarmsNext, Upload, UploadNext, Reset, Start, Section, End, Activate, Commit, Reboot}
use Rattle.message_spec.specs.declared.Kind.{Kind}
use Rattle.message_spec.specs.declared.Kind.TheVariants as kinds
use Rattle.message_spec.specs.declared.ContentsFault.{ContentsFault}
use Rattle.message_spec.specs.declared.Message.{Message}
use Rattle.message_spec.specs.declared.Message.TheVariants.{Asked, Answered, Told}
use Rattle.message_spec.specs.declared.Request.{Request}
use Rattle.message_spec.specs.declared.Request.TheVariants as requests
use Rattle.message_spec.specs.declared.Response.{Response}
use Rattle.message_spec.specs.declared.Response.TheVariants as responses
use Rattle.message_spec.specs.declared.Notice.TheVariants as notices
use Rattle.message_spec.specs.Fields.{Value, values_at}
use Rattle.message_spec.specs.Types.{row, type_numbered, kind_of, type_byte, layout}
use Rattle.message_spec.specs.Requests.{request_values, request_kind, request_with}
use Rattle.message_spec.specs.Responses.{response_action, response_values, response_with}
use Rattle.message_spec.specs.Reading.{message_tci, message_entity, message_kind, message_values, message_with}
use Rattle.message_laws.proofs.Forms.{ordered}

-- what holds of each command's row
record Row (a : Action) : Type 0 where
  request_found : kind_of (type_byte (kinds.Request a)) ≡ Ok (kinds.Request a)
  response_found : kind_of (type_byte (kinds.Response a)) ≡ Ok (kinds.Response a)
  request_byte : ltb (type_byte (kinds.Request a)) 256 ≡ true
  response_byte : ltb (type_byte (kinds.Response a)) 256 ≡ true
  request_ordered : ordered 0 (row a).request ≡ true
  response_ordered : ordered 0 (row a).response ≡ true
  request_kept : (contents : List ℕ) → request_values (request_with a (values_at (row a).request contents)) ≡ values_at (row a).request contents
  request_kind_kept : (values : List Value) → request_kind (request_with a values) ≡ kinds.Request a
  response_kept : (contents : List ℕ) → response_values (response_with a (values_at (row a).response contents)) ≡ values_at (row a).response contents
  response_action_kept : (values : List Value) → response_action (response_with a values) ≡ a

row_of : (a : Action) → Row a
unfolding kind_of type_numbered
row_of Create = record { request_found = refl; response_found = refl; request_byte = refl; response_byte = refl; request_ordered = refl; response_ordered = refl; request_kept = λ _. refl; request_kind_kept = λ _. refl; response_kept = λ _. refl; response_action_kept = λ _. refl }
row_of Delete = record { request_found = refl; response_found = refl; request_byte = refl; response_byte = refl; request_ordered = refl; response_ordered = refl; request_kept = λ _. refl; request_kind_kept = λ _. refl; response_kept = λ _. refl; response_action_kept = λ _. refl }
row_of Set = record { request_found = refl; response_found = refl; request_byte = refl; response_byte = refl; request_ordered = refl; response_ordered = refl; request_kept = λ _. refl; request_kind_kept = λ _. refl; response_kept = λ _. refl; response_action_kept = λ _. refl }
row_of Get = record { request_found = refl; response_found = refl; request_byte = refl; response_byte = refl; request_ordered = refl; response_ordered = refl; request_kept = λ _. refl; request_kind_kept = λ _. refl; response_kept = λ _. refl; response_action_kept = λ _. refl }
row_of Alarms = record { request_found = refl; response_found = refl; request_byte = refl; response_byte = refl; request_ordered = refl; response_ordered = refl; request_kept = λ _. refl; request_kind_kept = λ _. refl; response_kept = λ _. refl; response_action_kept = λ _. refl }
row_of AlarmsNext = record { request_found = refl; response_found = refl; request_byte = refl; response_byte = refl; request_ordered = refl; response_ordered = refl; request_kept = λ _. refl; request_kind_kept = λ _. refl; response_kept = λ _. refl; response_action_kept = λ _. refl }
row_of Upload = record { request_found = refl; response_found = refl; request_byte = refl; response_byte = refl; request_ordered = refl; response_ordered = refl; request_kept = λ _. refl; request_kind_kept = λ _. refl; response_kept = λ _. refl; response_action_kept = λ _. refl }
row_of UploadNext = record { request_found = refl; response_found = refl; request_byte = refl; response_byte = refl; request_ordered = refl; response_ordered = refl; request_kept = λ _. refl; request_kind_kept = λ _. refl; response_kept = λ _. refl; response_action_kept = λ _. refl }
row_of Reset = record { request_found = refl; response_found = refl; request_byte = refl; response_byte = refl; request_ordered = refl; response_ordered = refl; request_kept = λ _. refl; request_kind_kept = λ _. refl; response_kept = λ _. refl; response_action_kept = λ _. refl }
row_of Start = record { request_found = refl; response_found = refl; request_byte = refl; response_byte = refl; request_ordered = refl; response_ordered = refl; request_kept = λ _. refl; request_kind_kept = λ _. refl; response_kept = λ _. refl; response_action_kept = λ _. refl }
row_of Section = record { request_found = refl; response_found = refl; request_byte = refl; response_byte = refl; request_ordered = refl; response_ordered = refl; request_kept = λ _. refl; request_kind_kept = λ _. refl; response_kept = λ _. refl; response_action_kept = λ _. refl }
row_of End = record { request_found = refl; response_found = refl; request_byte = refl; response_byte = refl; request_ordered = refl; response_ordered = refl; request_kept = λ _. refl; request_kind_kept = λ _. refl; response_kept = λ _. refl; response_action_kept = λ _. refl }
row_of Activate = record { request_found = refl; response_found = refl; request_byte = refl; response_byte = refl; request_ordered = refl; response_ordered = refl; request_kept = λ _. refl; request_kind_kept = λ _. refl; response_kept = λ _. refl; response_action_kept = λ _. refl }
row_of Commit = record { request_found = refl; response_found = refl; request_byte = refl; response_byte = refl; request_ordered = refl; response_ordered = refl; request_kept = λ _. refl; request_kind_kept = λ _. refl; response_kept = λ _. refl; response_action_kept = λ _. refl }
row_of Reboot = record { request_found = refl; response_found = refl; request_byte = refl; response_byte = refl; request_ordered = refl; response_ordered = refl; request_kept = λ _. refl; request_kind_kept = λ _. refl; response_kept = λ _. refl; response_action_kept = λ _. refl }

-- a kind is found by its type byte
pub kind_found : (kind : Kind) → kind_of (type_byte kind) ≡ Ok kind
unfolding kind_of type_numbered
kind_found (kinds.Request a) = (row_of a).request_found
kind_found kinds.UnansweredSection = refl
kind_found (kinds.Response a) = (row_of a).response_found
kind_found kinds.Alarm = refl
kind_found kinds.Change = refl

pub layout_ordered : (kind : Kind) → ordered 0 (layout kind) ≡ true
layout_ordered (kinds.Request a) = (row_of a).request_ordered
layout_ordered kinds.UnansweredSection = refl
layout_ordered (kinds.Response a) = (row_of a).response_ordered
layout_ordered kinds.Alarm = refl
layout_ordered kinds.Change = refl

-- ---- a message made of what the contents say

pub tci_kept : (kind : Kind) (tci : ℕ) (entity : EntityId) (values : List Value) → message_tci (message_with kind tci entity values) ≡ tci
tci_kept (kinds.Request a) tci entity values = refl
tci_kept kinds.UnansweredSection tci entity values = refl
tci_kept (kinds.Response a) tci entity values = refl
tci_kept kinds.Alarm tci entity values = refl
tci_kept kinds.Change tci entity values = refl

pub entity_kept : (kind : Kind) (tci : ℕ) (entity : EntityId) (values : List Value) → message_entity (message_with kind tci entity values) ≡ entity
entity_kept (kinds.Request a) tci entity values = refl
entity_kept kinds.UnansweredSection tci entity values = refl
entity_kept (kinds.Response a) tci entity values = refl
entity_kept kinds.Alarm tci entity values = refl
entity_kept kinds.Change tci entity values = refl

pub kind_kept : (kind : Kind) (tci : ℕ) (entity : EntityId) (values : List Value) → message_kind (message_with kind tci entity values) ≡ kind
kind_kept (kinds.Request a) tci entity values = (row_of a).request_kind_kept values
kind_kept kinds.UnansweredSection tci entity values = refl
kind_kept (kinds.Response a) tci entity values = ap (λ (b : Action). kinds.Response b) ((row_of a).response_action_kept values)
kind_kept kinds.Alarm tci entity values = refl
kind_kept kinds.Change tci entity values = refl

pub values_kept : (kind : Kind) (tci : ℕ) (entity : EntityId) (contents : List ℕ) → message_values (message_with kind tci entity (values_at (layout kind) contents)) ≡ values_at (layout kind) contents
values_kept (kinds.Request a) tci entity contents = (row_of a).request_kept contents
values_kept kinds.UnansweredSection tci entity contents = refl
values_kept (kinds.Response a) tci entity contents = (row_of a).response_kept contents
values_kept kinds.Alarm tci entity contents = refl
values_kept kinds.Change tci entity contents = refl

-- ---- a message is its kind and its values

made_request : (tci : ℕ) (entity : EntityId) (request : Request) → message_with (request_kind request) tci entity (request_values request) ≡ Asked tci entity request
made_request tci entity (requests.Create values) = refl
made_request tci entity requests.Delete = refl
made_request tci entity (requests.Set mask values) = refl
made_request tci entity (requests.Get mask) = refl
made_request tci entity (requests.Alarms mode) = refl
made_request tci entity (requests.AlarmsNext number) = refl
made_request tci entity requests.Upload = refl
made_request tci entity (requests.UploadNext number) = refl
made_request tci entity requests.Reset = refl
made_request tci entity (requests.Start window size targets target) = refl
made_request tci entity (requests.Section number bytes true) = refl
made_request tci entity (requests.Section number bytes false) = refl
made_request tci entity (requests.End crc size targets target) = refl
made_request tci entity (requests.Activate flags) = refl
made_request tci entity requests.Commit = refl
made_request tci entity (requests.Reboot flags) = refl

made_response : (response : Response) → response_with (response_action response) (response_values response) ≡ response
made_response (responses.Create code mask) = refl
made_response (responses.Delete code) = refl
made_response (responses.Set code unsupported failed) = refl
made_response (responses.Get code mask values unsupported failed) = refl
made_response (responses.Alarms count) = refl
made_response (responses.AlarmsNext row) = refl
made_response (responses.Upload count) = refl
made_response (responses.UploadNext piece) = refl
made_response (responses.Reset code) = refl
made_response (responses.Start code window) = refl
made_response (responses.Section code number) = refl
made_response (responses.End code) = refl
made_response (responses.Activate code) = refl
made_response (responses.Commit code) = refl
made_response (responses.Reboot code) = refl

pub message_made : (m : Message) → message_with (message_kind m) (message_tci m) (message_entity m) (message_values m) ≡ m
message_made (Asked tci entity request) = made_request tci entity request
message_made (Answered tci entity response) = ap (λ (r : Response). Answered tci entity r) (made_response response)
message_made (Told tci entity (notices.Alarm bitmap number)) = refl
message_made (Told tci entity (notices.Change mask values)) = refl

-- ---- a type byte of a kind is the kind's

is_byte_of : ℕ → Result Kind ContentsFault → Bool
is_byte_of byte (Ok kind) = eqb byte (type_byte kind)
is_byte_of byte (Err fault) = true

below : ℕ → (ℕ → Bool) → Bool
below zero p = true
below (suc n) p = cond (p n) (below n p) false

all_bytes : below 256 (λ byte. is_byte_of byte (kind_of byte)) ≡ true
unfolding kind_of type_numbered is_byte_of below
all_bytes = refl

both : (b : Bool) (rest : Bool) → cond b rest false ≡ true → (b ≡ true) × (rest ≡ true)
both true rest h = (refl, h)
both false rest h = absurd cc

below_holds : (n : ℕ) (p : ℕ → Bool) → below n p ≡ true → (i : ℕ) → i < n → p i ≡ true
unfolding below
below_holds zero p h i lt = absurd (omega arith)
below_holds (suc n) p h i lt =
    let now = both (p n) (below n p) h in
    elim (cases_lt i n) [
      | inl less ↦ below_holds n p now.1 i less
      | inr more ↦ let same : n ≡ i = omega arith in subst (λ (k : ℕ). p k ≡ true) same now.0
    ]

byte_told : (byte : ℕ) (read : Result Kind ContentsFault) (kind : Kind) → is_byte_of byte read ≡ true → read ≡ Ok kind → byte ≡ type_byte kind
unfolding is_byte_of
byte_told byte (Ok other) kind h is = let same : other ≡ kind = cc in eqb-true byte (type_byte other) h ∙ ap type_byte same
byte_told byte (Err fault) kind h is = absurd cc

-- a byte that stands for a kind is the kind's type byte
pub byte_of_kind : (byte : ℕ) (kind : Kind) → byte < 256 → kind_of byte ≡ Ok kind → byte ≡ type_byte kind
byte_of_kind byte kind lt is = byte_told byte (kind_of byte) kind (below_holds 256 (λ b. is_byte_of b (kind_of b)) all_bytes byte lt) is

pub type_byte_fits : (kind : Kind) → type_byte kind < 256
type_byte_fits (kinds.Request a) = ltb-true (type_byte (kinds.Request a)) 256 (row_of a).request_byte
type_byte_fits kinds.UnansweredSection = omega arith
type_byte_fits (kinds.Response a) = ltb-true (type_byte (kinds.Response a)) 256 (row_of a).response_byte
type_byte_fits kinds.Alarm = omega arith
type_byte_fits kinds.Change = omega arith
