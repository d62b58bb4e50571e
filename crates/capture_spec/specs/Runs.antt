-- Requests, replies and starts among the lines of a capture, and which requests and replies are of
-- one run. Each is said of two lines and of those between them. Lines are named by their places,
-- counted from 0.
use Rattle.std.specs.Prelude.{ℕ, ◌%◌, ◌/◌, ◌==◌, ◌&&◌, not, Bool, true, false, if◌then◌else◌}
use Rattle.std.specs.Prelude.{List, slice_get, Option, Some, None}
use Rattle.omci_types.specs.declared.Frame.{Frame}
use Rattle.tci_spec.specs.Tci.{is_low}
use Rattle.capture_spec.specs.declared.TheConstants.{AR}
use Rattle.capture_spec.specs.declared.CaptureItem.{CaptureItem}
use Rattle.capture_spec.specs.declared.CaptureItem.TheVariants.{Down, Up, Start}
use Rattle.capture_spec.specs.declared.CaptureLine.{CaptureLine}
use Rattle.capture_spec.specs.Places.{any_between, first_place, last_place}

abbrev pub Lines : Type 0
Lines = List CaptureLine

abbrev pub item_of : Option CaptureLine → Option CaptureItem
item_of (Some line) = Some line.item
item_of None = None

-- the request that a line has: a frame that went down
abbrev pub request_in : Option CaptureItem → Option Frame
request_in (Some (Down frame)) = Some frame
request_in (Some (Up frame)) = None
request_in (Some Start) = None
request_in None = None

-- the reply that a line has: a frame that came up and is no notice
abbrev pub reply_in : Option CaptureItem → Option Frame
reply_in (Some (Up frame)) = if frame.tci == 0 then None else Some frame
reply_in (Some (Down frame)) = None
reply_in (Some Start) = None
reply_in None = None

abbrev pub is_start : Option CaptureItem → Bool
is_start (Some Start) = true
is_start (Some (Down frame)) = false
is_start (Some (Up frame)) = false
is_start None = false

-- The request, the reply and the start at a place.
unfoldable pub request_at : Lines → ℕ → Option Frame
request_at lines place = request_in (item_of (slice_get lines place))

unfoldable pub reply_at : Lines → ℕ → Option Frame
reply_at lines place = reply_in (item_of (slice_get lines place))

unfoldable pub starts : Lines → ℕ → Bool
starts lines place = is_start (item_of (slice_get lines place))

abbrev pub has_tci : ℕ → Option Frame → Bool
has_tci tci (Some frame) = frame.tci == tci
has_tci tci None = false

abbrev pub is_one_priority : ℕ → ℕ → Bool
is_one_priority tci other = if is_low tci then is_low other else not (is_low other)

-- whether a request is of the priority of a TCI and has another TCI
abbrev pub has_other_tci : ℕ → Option Frame → Bool
has_other_tci tci (Some frame) = is_one_priority tci frame.tci && not (frame.tci == tci)
has_other_tci tci None = false

-- Whether a request with this TCI stands at a place.
unfoldable pub asks : Lines → (tci place : ℕ) → Bool
asks lines tci place = has_tci tci (request_at lines place)

-- Whether a request of this TCI's priority with another TCI stands there.
unfoldable pub asks_another : Lines → (tci place : ℕ) → Bool
asks_another lines tci place = has_other_tci tci (request_at lines place)

-- Whether a reply with this TCI stands there.
unfoldable pub answers : Lines → (tci place : ℕ) → Bool
answers lines tci place = has_tci tci (reply_at lines place)

-- Whether two lines, given in their order, are of one span: no start stands between them.
unfoldable pub is_one_span : Lines → (earlier later : ℕ) → Bool
is_one_span lines earlier later = not (any_between earlier later (λ k. starts lines k))

-- Whether two lines, given in their order, are requests with this TCI of one run: they are of one
-- span, and no request of their priority with another TCI stands between them.
unfoldable pub is_one_run : Lines → (tci earlier later : ℕ) → Bool
is_one_run lines tci earlier later =
    asks lines tci earlier && asks lines tci later && is_one_span lines earlier later
    && not (any_between earlier later (λ k. asks_another lines tci k))

-- The request to whose run a reply with this TCI at a place belongs: the last request of its TCI
-- before it in its span.
unfoldable pub asked_before : Lines → (tci place : ℕ) → Option ℕ
asked_before lines tci place =
    last_place place (λ k. asks lines tci k && is_one_span lines k place)

-- whether the request to which a reply belongs is of the run of another one
abbrev pub is_of_run : Lines → (tci request : ℕ) → Option ℕ → Bool
is_of_run lines tci request (Some asked) = is_one_run lines tci asked request
is_of_run lines tci request None = false

abbrev pub or_itself : Option ℕ → ℕ → ℕ
or_itself (Some place) itself = place
or_itself None itself = itself

-- The first request of the run of a request.
unfoldable pub first_request : Lines → (tci request : ℕ) → ℕ
first_request lines tci request =
    or_itself (first_place request (λ k. is_one_run lines tci k request)) request

-- whether a frame has AR
abbrev pub wants_reply : Frame → Bool
wants_reply frame = frame.kind / AR % 2 == 1

abbrev pub has_ar : Option Frame → Bool
has_ar (Some frame) = wants_reply frame
has_ar None = false

-- The first request with AR of a request's run, among those before a place.
unfoldable pub first_with_ar : Lines → (tci request place : ℕ) → Option ℕ
first_with_ar lines tci request place =
    first_place place (λ k. has_ar (request_at lines k) && is_one_run lines tci k request)

-- The first reply that belongs to a request's run, among those before a place.
unfoldable pub first_reply : Lines → (tci request place : ℕ) → Option ℕ
first_reply lines tci request place =
    first_place place (λ k. answers lines tci k
    && is_of_run lines tci request (asked_before lines tci k))
