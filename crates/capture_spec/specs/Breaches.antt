-- Which lines of a capture are breaches, of which of four kinds, and what the check says of all of
-- them.
use Rattle.std.specs.Prelude.{ℕ, ◌%◌, ◌==◌, ◌&&◌, not, Bool, true, false, if◌then◌else◌, slice_get}
use Rattle.std.specs.Prelude.{length, Option, Some, None, is_some}
use Rattle.std.specs.Str.{bytes_eq}
use Rattle.omci_types.specs.declared.Frame.{Frame}
use Rattle.capture_spec.specs.declared.TheConstants.{TYPES}
use Rattle.capture_spec.specs.declared.CaptureLine.{CaptureLine}
use Rattle.capture_spec.specs.declared.Breach.{Breach}
use Rattle.capture_spec.specs.declared.Verdict.{Verdict}
use Rattle.capture_spec.specs.declared.Verdict.TheVariants as verdicts
use Rattle.capture_spec.specs.Places.{or_else, first_place, count_places}
use Rattle.capture_spec.specs.Runs.{Lines, request_at, reply_at, wants_reply, is_one_run}
use Rattle.capture_spec.specs.Runs.{asked_before, first_request, first_with_ar, first_reply}

-- whether a reply is of the type and the entity of a request
abbrev pub fits : Frame → Option Frame → Bool
fits reply (Some request) =
    reply.kind % TYPES == request.kind % TYPES
    && reply.entity.class == request.entity.class
    && reply.entity.instance == request.entity.instance
fits reply None = true

-- whether two frames have the same bytes
abbrev pub is_same : Frame → Option Frame → Bool
is_same frame (Some other) =
    frame.tci == other.tci && frame.kind == other.kind
    && frame.entity.class == other.entity.class
    && frame.entity.instance == other.entity.instance
    && bytes_eq frame.contents other.contents
is_same frame None = true

abbrev pub number_in : Option CaptureLine → ℕ
number_in (Some line) = line.line
number_in None = 0

-- The number of the line at a place.
unfoldable pub line_number : Lines → ℕ → ℕ
line_number lines place = number_in (slice_get lines place)

-- a breach, unless the line is as it should be
abbrev pub unless : Bool → (kind earlier : ℕ) → Option Breach
unless true kind earlier = None
unless false kind earlier = Some (record { kind = kind; earlier = earlier })

-- ---- kind 1: a reply has no request of its TCI before it in its span

abbrev pub unasked_by : Option ℕ → Option Breach
unasked_by None = Some (record { kind = 1; earlier = 0 })
unasked_by (Some asked) = None

abbrev pub unasked_reply : Lines → ℕ → Option Frame → Option Breach
unasked_reply lines place (Some reply) = unasked_by (asked_before lines reply.tci place)
unasked_reply lines place None = None

unfoldable pub unasked : Lines → ℕ → Option Breach
unasked lines place = unasked_reply lines place (reply_at lines place)

-- ---- kind 2: a reply's type or entity isn't that of the first request of its run

abbrev pub unfit_to : Lines → Frame → ℕ → Option Breach
unfit_to lines reply first =
    unless (fits reply (request_at lines first)) 2 (line_number lines first)

abbrev pub unfit_by : Lines → Frame → Option ℕ → Option Breach
unfit_by lines reply (Some asked) = unfit_to lines reply (first_request lines reply.tci asked)
unfit_by lines reply None = None

abbrev pub unfit_reply : Lines → ℕ → Option Frame → Option Breach
unfit_reply lines place (Some reply) =
    unfit_by lines reply (asked_before lines reply.tci place)
unfit_reply lines place None = None

unfoldable pub unfit : Lines → ℕ → Option Breach
unfit lines place = unfit_reply lines place (reply_at lines place)

-- ---- kind 3: a reply's bytes differ from those of the first reply of its run

abbrev pub reply_unlike : Lines → Frame → Option ℕ → Option Breach
reply_unlike lines reply (Some first) =
    unless (is_same reply (reply_at lines first)) 3 (line_number lines first)
reply_unlike lines reply None = None

abbrev pub other_by : Lines → ℕ → Frame → Option ℕ → Option Breach
other_by lines place reply (Some asked) =
    reply_unlike lines reply (first_reply lines reply.tci asked place)
other_by lines place reply None = None

abbrev pub other_reply : Lines → ℕ → Option Frame → Option Breach
other_reply lines place (Some reply) =
    other_by lines place reply (asked_before lines reply.tci place)
other_reply lines place None = None

unfoldable pub answered_otherwise : Lines → ℕ → Option Breach
answered_otherwise lines place = other_reply lines place (reply_at lines place)

-- ---- kind 4: a request with AR differs from the first request with AR of its run

abbrev pub request_unlike : Lines → Frame → Option ℕ → Option Breach
request_unlike lines request (Some first) =
    unless (is_same request (request_at lines first)) 4 (line_number lines first)
request_unlike lines request None = None

abbrev pub other_request : Lines → ℕ → Option Frame → Option Breach
other_request lines place (Some request) =
    if wants_reply request
    then request_unlike lines request (first_with_ar lines request.tci place place)
    else None
other_request lines place None = None

unfoldable pub asked_otherwise : Lines → ℕ → Option Breach
asked_otherwise lines place = other_request lines place (request_at lines place)

-- ---- all lines

-- What is wrong with a line: the least kind of breach that it is.
unfoldable pub breach_at : Lines → ℕ → Option Breach
breach_at lines place =
    or_else (unasked lines place) (or_else (unfit lines place)
    (or_else (answered_otherwise lines place) (asked_otherwise lines place)))

abbrev pub begins_by : Lines → ℕ → Option Frame → Bool
begins_by lines place (Some request) =
    not (is_some (first_place place (λ k. is_one_run lines request.tci k place)))
begins_by lines place None = false

-- Whether a request is the first of its run.
unfoldable pub begins_run : Lines → ℕ → Bool
begins_run lines place = begins_by lines place (request_at lines place)

-- How many runs there are among the lines before a place, and how many replies.
unfoldable pub runs : Lines → ℕ → ℕ
runs lines place = count_places place (λ k. begins_run lines k)

unfoldable pub replies : Lines → ℕ → ℕ
replies lines place = count_places place (λ k. is_some (reply_at lines k))

abbrev pub breach_verdict : Lines → ℕ → Option Breach → Verdict
breach_verdict lines place (Some breach) =
    verdicts.Breach (line_number lines place) breach.kind breach.earlier
breach_verdict lines place None = verdicts.Ok 0 0

abbrev pub verdict_by : Lines → Option ℕ → Verdict
verdict_by lines (Some place) = breach_verdict lines place (breach_at lines place)
verdict_by lines None =
    verdicts.Ok (runs lines (length lines)) (replies lines (length lines))

-- What the check says: the first line that is a breach, or how many runs and replies there are.
unfoldable pub verdict : Lines → Verdict
verdict lines =
    verdict_by lines (first_place (length lines) (λ k. is_some (breach_at lines k)))
