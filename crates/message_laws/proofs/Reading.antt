-- Reading and writing of messages, from the table's rows and the forms of fields.
use Rattle.std.proofs.Common.{◌≡◌, ℕ, ◌^◌, ◌<◌, List, Result, Ok, Err, refl, sym, ap, subst, ◌∙◌}
use Rattle.omci_types.specs.declared.EntityId.{EntityId}
use Rattle.omci_types.specs.declared.Frame.{Frame}
use Rattle.message_spec.specs.declared.Kind.{Kind}
use Rattle.message_spec.specs.declared.ContentsFault.{ContentsFault}
use Rattle.message_spec.specs.declared.Message.{Message}
use Rattle.message_spec.specs.declared.Kind.TheVariants as kinds
use Rattle.message_spec.specs.declared.Message.TheVariants.{Asked, Answered, Told}
use Rattle.message_spec.specs.declared.Request.{Request}
use Rattle.message_spec.specs.declared.Request.TheVariants as requests
use Rattle.message_spec.specs.declared.Response.{Response}
use Rattle.message_spec.specs.declared.Response.TheVariants as responses
use Rattle.message_spec.specs.Requests.{request_kind, request_values}
use Rattle.message_spec.specs.Responses.{response_action, response_values}
use Rattle.message_spec.specs.Fields.{Value, values_at, padding, AllFit}
use Rattle.message_spec.specs.Types.{kind_of, type_byte, layout}
use Rattle.message_spec.specs.Reading.{message_tci, message_kind, message_values, message_with, message_typed, message_of, plain, IsMessage, Reads, IsFrameInRange, HasWindow, RequestWindow, ResponseWindow}
use Rattle.message_laws.specs.Padding.{HasZeroPadding}
use Rattle.message_laws.proofs.Paddings.{filled_padding, same_contents}
use Rattle.message_laws.proofs.Forms.{Ordered, ordered_is, filled_is_read, filled_length, filled_bytes, padding_bytes, padding_length, values_fit}
use Rattle.message_laws.proofs.Rows.{kind_found, layout_ordered, tci_kept, entity_kept, kind_kept, values_kept, message_made, byte_of_kind, type_byte_fits}

order : (kind : Kind) → Ordered 0 (layout kind)
order kind = ordered_is 0 (layout kind) (layout_ordered kind)

-- a message that is made of a frame's kind and contents reads the frame
made_reads : (f : Frame) (kind : Kind) → f.kind ≡ type_byte kind → Reads (message_with kind f.tci f.entity (values_at (layout kind) f.contents)) f
made_reads f kind byte =
    let m = message_with kind f.tci f.entity (values_at (layout kind) f.contents) in
    let same : message_kind (message_with kind f.tci f.entity (values_at (layout kind) f.contents)) ≡ kind = kind_kept kind f.tci f.entity (values_at (layout kind) f.contents) in
    record {
      tci = sym (tci_kept kind f.tci f.entity (values_at (layout kind) f.contents));
      kind = byte ∙ ap type_byte (sym same);
      entity = sym (entity_kept kind f.tci f.entity (values_at (layout kind) f.contents));
      values = ap (λ (k : Kind). values_at (layout k) f.contents) same ∙ sym (values_kept kind f.tci f.entity f.contents);
    }

typed_reads : (f : Frame) (read : Result Kind ContentsFault) (m : Message) → kind_of f.kind ≡ read → f.kind < 256 → message_typed f read ≡ Ok m → Reads m f
typed_reads f (Ok kind) m is lt gives =
    let same : message_with kind f.tci f.entity (values_at (layout kind) f.contents) ≡ m = cc in
    subst (λ (x : Message). Reads x f) same (made_reads f kind (byte_of_kind f.kind kind lt is))
typed_reads f (Err fault) m is lt gives = absurd cc

pub read_reads : (f : Frame) (m : Message) → f.kind < 256 → message_of f ≡ Ok m → Reads m f
unfolding message_of
read_reads f m lt gives = typed_reads f (kind_of f.kind) m refl lt gives

pub reads_read : (f : Frame) (m : Message) → Reads m f → message_of f ≡ Ok m
unfolding message_of
reads_read f m reads =
    ap (λ (b : ℕ). message_typed f (kind_of b)) reads.kind
    ∙ ap (message_typed f) (kind_found (message_kind m))
    ∙ ap (λ (v : List Value). Ok (message_with (message_kind m) f.tci f.entity v)) reads.values
    ∙ ap (λ (t : ℕ). Ok (message_with (message_kind m) t f.entity (message_values m))) reads.tci
    ∙ ap (λ (e : EntityId). Ok (message_with (message_kind m) (message_tci m) e (message_values m))) reads.entity
    ∙ ap (λ (x : Message). Ok x) (message_made m)

ok_is : {E : Type 0} (m n : Message) → ◌≡◌ {A = Result Message E} (Ok m) (Ok n) → m ≡ n
ok_is m n same = cc

pub one_reading : (f : Frame) (m n : Message) → Reads m f → Reads n f → m ≡ n
one_reading f m n first second = ok_is {E = ContentsFault} m n (sym (reads_read f m first) ∙ reads_read f n second)

pub plain_reads : (m : Message) → IsMessage m → Reads m (plain m)
unfolding plain
plain_reads m is = record {
  tci = refl;
  kind = refl;
  entity = refl;
  values = filled_is_read (layout (message_kind m)) (message_values m) 0 padding (order (message_kind m)) is.values padding_length;
}

pub written_is_read : (m : Message) → IsMessage m → message_of (plain m) ≡ Ok m
written_is_read m is = reads_read (plain m) m (plain_reads m is)

-- ---- ranges

pub plain_in_range : (m : Message) → IsMessage m → IsFrameInRange (plain m)
unfolding plain
plain_in_range m is = record {
  tci = is.tci;
  kind = type_byte_fits (message_kind m);
  class = is.class;
  instance = is.instance;
  len = filled_length (layout (message_kind m)) (message_values m) 0 padding (order (message_kind m)) is.values padding_length;
  bytes = filled_bytes (layout (message_kind m)) (message_values m) padding is.values padding_bytes;
}

made_in_range : (f : Frame) (kind : Kind) → IsFrameInRange f → IsMessage (message_with kind f.tci f.entity (values_at (layout kind) f.contents))
made_in_range f kind fits =
    let v = values_at (layout kind) f.contents in
    record {
      tci = subst (λ (t : ℕ). t < 2 ^ 16) (sym (tci_kept kind f.tci f.entity (values_at (layout kind) f.contents))) fits.tci;
      class = subst (λ (e : EntityId). e.class < 2 ^ 16) (sym (entity_kept kind f.tci f.entity (values_at (layout kind) f.contents))) fits.class;
      instance = subst (λ (e : EntityId). e.instance < 2 ^ 16) (sym (entity_kept kind f.tci f.entity (values_at (layout kind) f.contents))) fits.instance;
      values =
          subst (λ (k : Kind). AllFit (layout k) (message_values (message_with kind f.tci f.entity (values_at (layout kind) f.contents)))) (sym (kind_kept kind f.tci f.entity (values_at (layout kind) f.contents)))
          (subst (λ (x : List Value). AllFit (layout kind) x) (sym (values_kept kind f.tci f.entity f.contents)) (values_fit (layout kind) 0 f.contents (order kind) fits.len fits.bytes));
    }

typed_in_range : (f : Frame) (read : Result Kind ContentsFault) (m : Message) → IsFrameInRange f → message_typed f read ≡ Ok m → IsMessage m
typed_in_range f (Ok kind) m fits gives =
    let same : message_with kind f.tci f.entity (values_at (layout kind) f.contents) ≡ m = cc in
    subst (λ (x : Message). IsMessage x) same (made_in_range f kind fits)
typed_in_range f (Err fault) m fits gives = absurd cc

pub read_in_range : (f : Frame) (m : Message) → IsFrameInRange f → message_of f ≡ Ok m → IsMessage m
unfolding message_of
read_in_range f m fits gives = typed_in_range f (kind_of f.kind) m fits gives

-- ---- padding

pub plain_padding : (m : Message) → IsMessage m → HasZeroPadding (layout (message_kind m)) (plain m).contents
unfolding plain
plain_padding m is = filled_padding (layout (message_kind m)) (message_values m) 0 (order (message_kind m)) is.values padding_length

same_frame : (f g : Frame) → f.tci ≡ g.tci → f.kind ≡ g.kind → f.entity ≡ g.entity → f.contents ≡ g.contents → f ≡ g
same_frame f g tci kind entity contents =
    ap (λ (t : ℕ). record f { tci = t }) tci
    ∙ ap (λ (k : ℕ). record f { tci = g.tci; kind = k }) kind
    ∙ ap (λ (e : EntityId). record f { tci = g.tci; kind = g.kind; entity = e }) entity
    ∙ ap (λ (x : List ℕ). record g { contents = x }) contents

pub only_plain : (f : Frame) (m : Message) → IsFrameInRange f → IsMessage m → Reads m f → HasZeroPadding (layout (message_kind m)) f.contents → f ≡ plain m
only_plain f m fits is reads zero =
    let own = plain_reads m is in
    let range = plain_in_range m is in
    same_frame f (plain m) (reads.tci ∙ sym own.tci) (reads.kind ∙ sym own.kind) (reads.entity ∙ sym own.entity)
    (same_contents (layout (message_kind m)) 0 f.contents (plain m).contents (order (message_kind m)) fits.len range.len fits.bytes range.bytes (reads.values ∙ sym own.values) zero (plain_padding m is))

-- ---- the window

request_window : (request : Request) → AllFit (layout (request_kind request)) (request_values request) → RequestWindow request
request_window (requests.Start window size targets target) fit = fit.0
request_window (requests.Create values) fit = tt
request_window requests.Delete fit = tt
request_window (requests.Set mask values) fit = tt
request_window (requests.Get mask) fit = tt
request_window (requests.Alarms mode) fit = tt
request_window (requests.AlarmsNext number) fit = tt
request_window requests.Upload fit = tt
request_window (requests.UploadNext number) fit = tt
request_window requests.Reset fit = tt
request_window (requests.Section number bytes last) fit = tt
request_window (requests.End crc size targets target) fit = tt
request_window (requests.Activate flags) fit = tt
request_window requests.Commit fit = tt
request_window (requests.Reboot flags) fit = tt

response_window : (response : Response) → AllFit (layout (kinds.Response (response_action response))) (response_values response) → ResponseWindow response
response_window (responses.Start code window) fit = fit.1.0
response_window (responses.Create code mask) fit = tt
response_window (responses.Delete code) fit = tt
response_window (responses.Set code unsupported failed) fit = tt
response_window (responses.Get code mask values unsupported failed) fit = tt
response_window (responses.Alarms count) fit = tt
response_window (responses.AlarmsNext row) fit = tt
response_window (responses.Upload count) fit = tt
response_window (responses.UploadNext piece) fit = tt
response_window (responses.Reset code) fit = tt
response_window (responses.Section code number) fit = tt
response_window (responses.End code) fit = tt
response_window (responses.Activate code) fit = tt
response_window (responses.Commit code) fit = tt
response_window (responses.Reboot code) fit = tt

pub window_in_range : (m : Message) → IsMessage m → HasWindow m
window_in_range (Asked tci entity request) is = request_window request is.values
window_in_range (Answered tci entity response) is = response_window response is.values
window_in_range (Told tci entity notice) is = tt
